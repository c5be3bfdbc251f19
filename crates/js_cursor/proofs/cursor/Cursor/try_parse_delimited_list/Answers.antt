use Rattle.std.proofs.Common.{◌∙◌, ◌++◌, [], ◌∷◌, ap, sym}
use Rattle.js_cursor.specs.Lists.ReadsDelimitedList.{elements}
use Rattle.js_cursor.specs.Lists.{GoesOn}
use Rattle.js_cursor.specs.Failing.FailsDelimitedList.{behind_first, in_first}
use Rattle.js_cursor.proofs.FailingSteps.{lacking}
use Rattle.js_cursor.proofs.RoundSteps.{goes_on_if-refl, goes_on_if-trans, read_goes_on}
use Rattle.js_cursor.proofs.cursor.Cursor.try_parse_delimited_list.Goals as goal

pub returns-clause-ok : goal.returns-clause-ok
returns-clause-ok g c =
    let read = c.in-Ok-read.ensures.ok in
    elements c.read_separated-read.new.f read.end
    (record {
      is_open = sym c.is_at_end_of_list.ensures ∙ c.if-is_at_end_of_list.false;
      x = c.in-Ok.first;
      then_f = c.try_read.new.self;
      behind = c.try_read.new.cursor;
      first = c.in-Ok.ensures.reads;
      more = read.more;
      rounds = read.rounds;
      xs_are =
          read.after_is
          ∙ ap (λ ys. ys ++ read.more)
          (c.in_ok-push_last.ensures ∙ ap (λ ys. ys ++ c.in-Ok.first ∷ []) c.new-elements.ensures.items);
    })
    read.ends

pub returns-in-Err-clause-err : goal.returns-in-Err-clause-err
returns-in-Err-clause-err g c =
    in_first (sym c.is_at_end_of_list.ensures ∙ c.if-is_at_end_of_list.false) c.try_read.new.self c.in-Err.ensures.reads

pub returns-in_err-push_last-clause-err : goal.returns-in_err-push_last-clause-err
returns-in_err-push_last-clause-err g c =
    lacking _ _ c.from_residual.ensures.1
    (in_first (sym c.is_at_end_of_list.ensures ∙ c.if-is_at_end_of_list.false) c.try_read.new.self
    (c.in-Ok.first, c.in-Ok.ensures.reads))

pub returns-in-Err-read-clause-err : goal.returns-in-Err-read-clause-err
returns-in-Err-read-clause-err g c =
    behind_first (sym c.is_at_end_of_list.ensures ∙ c.if-is_at_end_of_list.false) c.in-Ok.first c.try_read.new.self
    c.try_read.new.cursor c.in-Ok.ensures.reads c.read_separated-read.new.f c.in-Err-read.ensures.err

pub returns-then-is_at_end_of_list-clause-goes_on : goal.returns-then-is_at_end_of_list-clause-goes_on
returns-then-is_at_end_of_list-clause-goes_on g c = goes_on_if-refl _ c.args.self.now

pub returns-in-Err-clause-goes_on : goal.returns-in-Err-clause-goes_on
returns-in-Err-clause-goes_on g c =
    read_goes_on g.F.FallibleElement.reads c.args.self.now c.args.f _ c.try_read.new.self c.try_read.new.cursor
    c.in-Err.ensures.reads c.in-Err.ensures.places

pub returns-in_err-push_last-clause-goes_on : goal.returns-in_err-push_last-clause-goes_on
returns-in_err-push_last-clause-goes_on g c =
    read_goes_on g.F.FallibleElement.reads c.args.self.now c.args.f _ c.try_read.new.self c.try_read.new.cursor
    c.in-Ok.ensures.reads c.in-Ok.ensures.places

pub returns-in-Err-read-clause-goes_on : goal.returns-in-Err-read-clause-goes_on
returns-in-Err-read-clause-goes_on g c =
    goes_on_if-trans (GoesOn g.F.FallibleElement.reads) c.args.self.now c.try_read.new.cursor
    c.read_separated-read.new.self
    (read_goes_on g.F.FallibleElement.reads c.args.self.now c.args.f _ c.try_read.new.self c.try_read.new.cursor
    c.in-Ok.ensures.reads c.in-Ok.ensures.places) c.in-Err-read.ensures.goes_on

pub returns-clause-goes_on : goal.returns-clause-goes_on
returns-clause-goes_on g c =
    goes_on_if-trans (GoesOn g.F.FallibleElement.reads) c.args.self.now c.try_read.new.cursor
    c.read_separated-read.new.self
    (read_goes_on g.F.FallibleElement.reads c.args.self.now c.args.f _ c.try_read.new.self c.try_read.new.cursor
    c.in-Ok.ensures.reads c.in-Ok.ensures.places) c.in-Ok-read.ensures.goes_on
