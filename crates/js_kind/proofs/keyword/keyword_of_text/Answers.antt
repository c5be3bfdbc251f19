use Rattle.js_kind.proofs.NameKinds.{keyword_of_text}
use Rattle.js_kind.proofs.keyword.keyword_of_text.Goals as goal

pub returns : goal.returns
returns c = keyword_of_text c.args.kind
