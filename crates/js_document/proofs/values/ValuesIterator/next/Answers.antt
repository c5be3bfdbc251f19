use Rattle.std.proofs.Common.{◌≡◌, ◌+◌, ◌∷◌, ◌∙◌, ap, arith, drop, length, sym}
use Rattle.std.proofs.lemmas.List.{length-map}
use Rattle.std.specs.Option.{option_map}
use Rattle.js_lists.specs.Taken.{value_handed}
use Rattle.js_document.specs.Gap.{entries_of, rows_of}
use Rattle.js_document.specs.Values.{values_in}
use Rattle.js_document.proofs.LiveValues.{values_next, values_past}
use Rattle.js_document.proofs.values.ValuesIterator.next.Goals as goal

pub returns-in-Some-clause-steps : goal.returns-in-Some-clause-steps
returns-in-Some-clause-steps g c =
    let inside = c.loop-self.self-inside in
    let rows = rows_of (entries_of inside.entries.now) in
    sym c.loop-self.invariant
    ∙ values_next rows inside.row (value_handed c.in-Some.value)
    (sym c.live_value.ensures ∙ ap (option_map value_handed) c.in-Some.is)

pub returns-in-Some-clause-goes : goal.returns-in-Some-clause-goes
returns-in-Some-clause-goes g c =
    let inside = c.loop-self.self-inside in
    let rows = rows_of (entries_of inside.entries.now) in
    let steps : c.args.self.now ≡ value_handed c.in-Some.value ∷ values_in (drop (inside.row + 1) rows) =
    sym c.loop-self.invariant
    ∙ values_next rows inside.row (value_handed c.in-Some.value)
    (sym c.live_value.ensures ∙ ap (option_map value_handed) c.in-Some.is) in
    let fewer = ap (λ l. length l) steps in
    record { on = λ finite. (tt, finite, omega (arith, fewer)); keeps = tt; rests = λ _. tt }

pub loop-self-preserved : goal.loop-self-preserved
loop-self-preserved g c =
    let inside = c.loop-self.self-inside in
    let rows = rows_of (entries_of inside.entries.now) in
    let less = c.loop-self-test.true in
    let all = c.len.ensures in
    let long = length-map (entries_of inside.entries.now) (λ e. e.row) in
    sym
    (values_past rows inside.row (omega (arith, less, all, long))
    (sym c.live_value.ensures ∙ ap (option_map value_handed) c.in_default.is))
    ∙ c.loop-self.invariant
