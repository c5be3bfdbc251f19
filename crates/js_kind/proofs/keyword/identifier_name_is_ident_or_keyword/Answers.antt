use Rattle.js_kind.proofs.NameKinds.{ident_or_keyword}
use Rattle.js_kind.proofs.keyword.identifier_name_is_ident_or_keyword.Goals as goal

pub returns : goal.returns
returns c = ident_or_keyword c.args.kind
