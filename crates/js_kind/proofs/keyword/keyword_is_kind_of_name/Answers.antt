use Rattle.js_kind.proofs.NameKinds.{name_kind-is_kind_of_name}
use Rattle.js_kind.proofs.keyword.keyword_is_kind_of_name.Goals as goal

pub returns : goal.returns
returns c = name_kind-is_kind_of_name c.args.s.now
