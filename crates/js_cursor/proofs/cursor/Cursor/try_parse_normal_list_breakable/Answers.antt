use Rattle.std.proofs.Common.{refl, subst}
use Rattle.js_cursor.specs.Cursor.{Advances, IsAsBefore}
use Rattle.js_cursor.specs.Expect.{expecting_closing}
use Rattle.js_cursor.specs.Failing.FailsNormalList.{at_closing, at_opening, in_elements}
use Rattle.js_cursor.specs.Lists.{GoesOn}
use Rattle.js_cursor.proofs.FailingSteps.{lacking}
use Rattle.js_cursor.proofs.RoundSteps.{goes_on_always, goes_on_around, goes_on_if-trans}
use Rattle.js_cursor.proofs.cursor.Cursor.try_parse_normal_list_breakable.Goals as goal

pub returns-clause-ok : goal.returns-clause-ok
returns-clause-ok g c = record {
  opened = c.expect.new.self;
  opens = c.in_ok-expect.ensures.ok;
  last = c.read_elements_while_some-read.new.f;
  end = c.read_elements_while_some-read.new.self;
  elements = c.in-Ok.ensures.ok;
  closes =
      subst
      (λ span. Advances c.args.close (expecting_closing c.args.close span c.read_elements_while_some-read.new.self)
      c.expect_closing.new.self) c.cur_span-opening_span.ensures c.in_ok-expect_closing.ensures.ok;
}

pub returns-in_err-expect-clause-err : goal.returns-in_err-expect-clause-err
returns-in_err-expect-clause-err g c =
    lacking _ _ c.from_residual.ensures.1 (at_opening refl c.in_err-expect.ensures.err)

pub returns-in-Err-clause-err : goal.returns-in-Err-clause-err
returns-in-Err-clause-err g c =
    in_elements c.expect.new.self c.in_ok-expect.ensures.ok c.read_elements_while_some-read.new.f c.in-Err.ensures.err

pub returns-in_err-expect_closing-clause-err : goal.returns-in_err-expect_closing-clause-err
returns-in_err-expect_closing-clause-err g c =
    lacking _ _ c.from_residual-in_err-expect_closing.ensures.1
    (at_closing refl c.expect.new.self c.in_ok-expect.ensures.ok c.in-Ok.elements.items
    c.read_elements_while_some-read.new.f
    c.read_elements_while_some-read.new.self c.in-Ok.ensures.ok
    (subst
    (λ span. IsAsBefore (expecting_closing c.args.close span c.read_elements_while_some-read.new.self)
    c.expect_closing.new.self)
    c.cur_span-opening_span.ensures c.in_err-expect_closing.ensures.err))

pub returns-in_err-expect-clause-goes_on : goal.returns-in_err-expect-clause-goes_on
returns-in_err-expect-clause-goes_on g c =
    goes_on_always (GoesOn g.F.FallibleElement.reads) c.args.self.now c.expect.new.self c.in_err-expect.ensures.onward

pub returns-in-Err-clause-goes_on : goal.returns-in-Err-clause-goes_on
returns-in-Err-clause-goes_on g c =
    goes_on_if-trans (GoesOn g.F.FallibleElement.reads) c.args.self.now c.expect.new.self
    c.read_elements_while_some-read.new.self
    (goes_on_always (GoesOn g.F.FallibleElement.reads) c.args.self.now c.expect.new.self c.in_ok-expect.ensures.onward)
    c.in-Err.ensures.goes_on

pub returns-in_err-expect_closing-clause-goes_on : goal.returns-in_err-expect_closing-clause-goes_on
returns-in_err-expect_closing-clause-goes_on g c =
    goes_on_around (GoesOn g.F.FallibleElement.reads) c.args.self.now c.expect.new.self
    c.read_elements_while_some-read.new.self
    c.expect_closing.new.self c.in_ok-expect.ensures.onward c.in-Ok.ensures.goes_on
    c.in_err-expect_closing.ensures.onward

pub returns-clause-goes_on : goal.returns-clause-goes_on
returns-clause-goes_on g c =
    goes_on_around (GoesOn g.F.FallibleElement.reads) c.args.self.now c.expect.new.self
    c.read_elements_while_some-read.new.self
    c.expect_closing.new.self c.in_ok-expect.ensures.onward c.in-Ok.ensures.goes_on
    c.in_ok-expect_closing.ensures.onward
