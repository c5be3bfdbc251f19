use Rattle.std.proofs.Common.{ap, ◌∙◌}
use Rattle.std.specs.Prelude.{get_or}
use Rattle.js_kind.specs.declared.kind.Kind.TheVariants.{Eof}
use Rattle.js_kind.specs.declared.kind.TheConstants.Kind.{VARIANTS}
use Rattle.js_kind.specs.declared.kind_rows.TheConstants.{ENDS}
use Rattle.js_kind.proofs.KindNumbers.{filled}
use Rattle.js_kind.proofs.kind.Kind.from_number.Goals as goal

pub returns : goal.returns
returns c = ap (λ kinds. get_or kinds c.args.number Eof) c.by_number.ensures ∙ filled VARIANTS ENDS c.args.number Eof
