use Rattle.std.proofs.Common.{get_or}
use Rattle.std.proofs.lemmas.Option.{slice_get-get_or}
use Rattle.js_kind.specs.declared.kind.Kind.TheVariants.{Eof}
use Rattle.js_kind.specs.declared.kind.TheConstants.Kind.{VARIANTS}
use Rattle.js_lex_tool.proofs.Named.{names_more, all_named}
use Rattle.js_lex_tool.proofs.names.all_names.Goals as goal

pub loop-number-preserved : goal.loop-number-preserved
loop-number-preserved c =
    let n = c.loop-number.number in
    let low = c.loop-number-test.true in
    names_more c.loop-number.names n (get_or VARIANTS n Eof) c.name_of.result low (slice_get-get_or VARIANTS n Eof low)
    (rw c.kinds-kind-items.ensures at c.name_of.ensures) c.loop-number.invariant

pub returns : goal.returns
returns c = all_named c.loop-number.names c.loop-number.number c.loop-number-test.false c.loop-number.invariant
