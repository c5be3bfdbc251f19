use Rattle.std.proofs.Common.{subst, ◌++◌, ◌∷◌, [], ◌∙◌, ap, append_assoc, append-nil, arith, sym, ◌≡◌, List}
use Rattle.std.proofs.lemmas.List.{nil_from_length}
use Rattle.std.specs.List.{AllByRecursion}
use Rattle.std.specs.Vec.Iter.{into_iter_items}
use Rattle.js_document.specs.Blocks.{MovesEntry, entries_in}
use Rattle.js_document.proofs.ListLemmas.{all_pushed}
use Rattle.js_document.proofs.blocks.numbered.blocks_of.Given.{Over}
use Rattle.js_document.proofs.blocks.numbered.blocks_of.Goals as goal
use Rattle.js_document.proofs.blocks.numbered.blocks_of.Goals.{In-Some}

-- one entry more is put to the others
pub put_more : {A : Type 0} (front rows rest all : List A) (x : A) → front ++ (rows ++ x ∷ rest) ≡ all
    → front ++ (rows ++ x ∷ []) ++ rest ≡ all
put_more front rows rest all x is =
    append_assoc front (rows ++ x ∷ []) rest ∙ ap (λ l. front ++ l) (append_assoc rows (x ∷ []) rest) ∙ is

-- those that are left, where one of them comes next
left : (g : Over) (c : In-Some g)
    → AllByRecursion (MovesEntry 0 0) (c.in-Some.entry ∷ into_iter_items c.next.new.self)
left g c = subst (AllByRecursion (MovesEntry 0 0)) c.in-Some.ensures.steps.0 c.loop-entry.invariant.left

pub close_full-requires-clause-moves : goal.close_full-requires-clause-moves
close_full-requires-clause-moves g c =
    subst (AllByRecursion (MovesEntry 0 0)) (sym c.in_ok-push.ensures.items)
    (all_pushed (MovesEntry 0 0) c.loop-entry.rows.items c.in-Some.entry c.loop-entry.invariant.moves
    (left g (goal.at.close_full-requires-clause-moves g c).In-Some).0)

pub loop-entry-preserved : goal.loop-entry-preserved
loop-entry-preserved g c =
    let was = entries_in c.loop-entry.blocks.items in
    let rows = c.loop-entry.rows.items in
    let rest = into_iter_items c.next.new.self in
    record {
      entries =
          ap (λ l. l ++ rest) (c.in_ok-rows-2.ensures.entries ∙ ap (λ l. was ++ l) c.in_ok-push.ensures.items)
          ∙ put_more was rows rest c.args.entries.items c.in-Some.entry
          (ap (λ l. was ++ (rows ++ l)) (sym c.in-Some.ensures.steps.0)
          ∙ sym (append_assoc was rows (into_iter_items c.loop-entry.entry-iterator)) ∙ c.loop-entry.invariant.entries);
      some = c.in_ok-rows-2.ensures.some;
      moves = c.in_ok-rows-2.ensures.moves;
      left = (left g (goal.at.loop-entry-preserved g c).In-Some).1;
    }

pub returns-clause-entries : goal.returns-clause-entries
returns-clause-entries g c =
    let few = c.in_ok-_none.ensures.few in
    let none = nil_from_length c.in_ok-_none._none.items (omega (arith, few)) in
    let len = c.in-None.ensures.steps.0 in
    let items = c.loop-entry.entry-iterator.rest.ok.0 in
    let all = nil_from_length (into_iter_items c.loop-entry.entry-iterator) (omega (arith, len, items)) in
    sym (append-nil (entries_in c.close_full-2.new.blocks.items))
    ∙ ap (λ l. entries_in c.close_full-2.new.blocks.items ++ l) (sym none) ∙ c.in_ok-_none.ensures.entries
    ∙ sym (append-nil (entries_in c.loop-entry.blocks.items ++ c.loop-entry.rows.items))
    ∙ ap (λ l. entries_in c.loop-entry.blocks.items ++ c.loop-entry.rows.items ++ l) (sym all)
    ∙ c.loop-entry.invariant.entries
