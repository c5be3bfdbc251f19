use Rattle.std.proofs.Common.{[], ◌∷◌, ◌++◌, refl, sym, ◌∙◌, ap}
use Rattle.js_cursor.specs.RestSteps.{readers_of}
use Rattle.js_cursor.specs.Rests.{elements}
use Rattle.js_cursor.specs.Rests.ReadsListWithRest.{items}
use Rattle.js_cursor.specs.Failing.FailsDelimitedList.{behind_first, in_first}
use Rattle.js_cursor.specs.Lists.{GoesOn}
use Rattle.js_cursor.proofs.RestItems.{elements-append}
use Rattle.js_cursor.proofs.RoundSteps.{goes_on_if-refl, goes_on_if-trans}
use Rattle.js_cursor.proofs.cursor.Cursor.try_parse_delimited_list_with_rest.Goals as goal

pub returns-clause-ok : goal.returns-clause-ok
returns-clause-ok g c =
    let read = c.in-Ok-read.ensures.ok in
    let first = c.in-Ok.ensures.item in
    items (first.item ∷ read.more) (readers_of c.read_items-read.new.items) read.end
    (record {
      is_open = sym c.is_at_end_of_list.ensures ∙ c.if-is_at_end_of_list.false;
      x = first.item;
      then_f = readers_of c.read_item.new.items;
      behind = c.read_item.new.cursor;
      first = first.reads;
      more = read.more;
      rounds = read.rounds;
      xs_are = refl;
    })
    (read.kept
    ∙ ap (λ ys. ys ++ elements read.more)
    (first.kept ∙ ap (λ ys. ys ++ elements (first.item ∷ [])) c.new-2.ensures.items)
    ∙ sym (elements-append (first.item ∷ []) read.more))
    refl read.ends

pub returns-in-Err-clause-err : goal.returns-in-Err-clause-err
returns-in-Err-clause-err g c =
    in_first (sym c.is_at_end_of_list.ensures ∙ c.if-is_at_end_of_list.false) (readers_of c.read_item.new.items)
    c.in-Err.ensures.err

pub returns-in-Err-read-clause-err : goal.returns-in-Err-read-clause-err
returns-in-Err-read-clause-err g c =
    behind_first (sym c.is_at_end_of_list.ensures ∙ c.if-is_at_end_of_list.false) c.in-Ok.ensures.item.item
    (readers_of c.read_item.new.items) c.read_item.new.cursor c.in-Ok.ensures.item.reads _ c.in-Err-read.ensures.err

pub returns-then-is_at_end_of_list-clause-goes_on : goal.returns-then-is_at_end_of_list-clause-goes_on
returns-then-is_at_end_of_list-clause-goes_on g c = goes_on_if-refl _ c.args.self.now

pub returns-in-Err-read-clause-goes_on : goal.returns-in-Err-read-clause-goes_on
returns-in-Err-read-clause-goes_on g c =
    goes_on_if-trans (GoesOn g.E.FallibleElement.reads × GoesOn g.P.FallibleElement.reads) c.args.self.now
    c.read_item.new.cursor c.read_items-read.new.self c.in-Ok.ensures.goes_on c.in-Err-read.ensures.goes_on

pub returns-clause-goes_on : goal.returns-clause-goes_on
returns-clause-goes_on g c =
    goes_on_if-trans (GoesOn g.E.FallibleElement.reads × GoesOn g.P.FallibleElement.reads) c.args.self.now
    c.read_item.new.cursor c.read_items-read.new.self c.in-Ok.ensures.goes_on c.in-Ok-read.ensures.goes_on
