use Rattle.std.proofs.Common.{◌≡◌, ◌+◌, ◌∷◌, ◌∙◌, ap, arith, drop, length, sym}
use Rattle.std.proofs.lemmas.List.{length-map}
use Rattle.js_document.specs.Found.{found_from}
use Rattle.js_document.specs.Gap.{entries_of, rows_of}
use Rattle.js_document.proofs.FoundLemmas.{found_next, found_past}
use Rattle.js_document.proofs.found.FoundIterator.next.Goals as goal

pub returns-in-Some-clause-steps : goal.returns-in-Some-clause-steps
returns-in-Some-clause-steps g c =
    let inside = c.loop-self.self-inside in
    let rows = rows_of (entries_of inside.entries.now) in
    sym c.loop-self.invariant
    ∙ found_next g.L.FoundList.items rows inside.row inside.given c.in-Some.item (sym c.found.ensures.item ∙ c.in-Some.is)

pub returns-in-Some-clause-goes : goal.returns-in-Some-clause-goes
returns-in-Some-clause-goes g c =
    let inside = c.loop-self.self-inside in
    let rows = rows_of (entries_of inside.entries.now) in
    let steps : c.args.self.now
    ≡ c.in-Some.item ∷ found_from g.L.FoundList.items (drop inside.row rows) (inside.given + 1) =
    sym c.loop-self.invariant
    ∙ found_next g.L.FoundList.items rows inside.row inside.given c.in-Some.item
    (sym c.found.ensures.item ∙ c.in-Some.is) in
    let fewer = ap (λ l. length l) steps in
    record { on = λ finite. (tt, finite, omega (arith, fewer)); keeps = tt; rests = λ _. tt }

pub loop-self-preserved : goal.loop-self-preserved
loop-self-preserved g c =
    let inside = c.loop-self.self-inside in
    let rows = rows_of (entries_of inside.entries.now) in
    let less = c.loop-self-test.true in
    let all = c.len.ensures in
    let long = length-map (entries_of inside.entries.now) (λ e. e.row) in
    sym
    (found_past g.L.FoundList.items rows inside.row inside.given (omega (arith, less, all, long))
    (sym c.found.ensures.item ∙ c.in_default.is))
    ∙ c.loop-self.invariant
