use Rattle.std.proofs.Common.{refl}
use Rattle.js_cursor.specs.Rests.Item.{element}
use Rattle.js_cursor.specs.Failing.FailsItem.{element as fails_element}
use Rattle.js_cursor.proofs.FailingSteps.{lacking}
use Rattle.js_cursor.proofs.cursor.rest.read_element.Goals as goal

pub returns-clause-item : goal.returns-clause-item
returns-clause-item g c = record {
  item = element c.in-Ok.element;
  reads = (c.requires.first, c.requires.at, c.in-Ok.ensures.reads, refl, c.requires.first);
  kept = c.in_ok-push_last.ensures;
}

pub returns-clause-goes_on : goal.returns-clause-goes_on
returns-clause-goes_on g c =
    record { places = c.in-Ok.ensures.places; goes_on = λ others. others.0 _ _ _ _ _ c.in-Ok.ensures.reads }

pub returns-in_err-push_last-clause-goes_on : goal.returns-in_err-push_last-clause-goes_on
returns-in_err-push_last-clause-goes_on g c =
    record { places = c.in-Ok.ensures.places; goes_on = λ others. others.0 _ _ _ _ _ c.in-Ok.ensures.reads }

pub returns-in-Err-clause-goes_on : goal.returns-in-Err-clause-goes_on
returns-in-Err-clause-goes_on g c =
    record { places = c.in-Err.ensures.places; goes_on = λ others. others.0 _ _ _ _ _ c.in-Err.ensures.reads }

pub returns-in-Err-clause-err : goal.returns-in-Err-clause-err
returns-in-Err-clause-err g c =
    fails_element c.requires.first c.requires.at c.in-Err.ensures.reads refl c.requires.first

pub returns-in_err-push_last-clause-err : goal.returns-in_err-push_last-clause-err
returns-in_err-push_last-clause-err g c =
    lacking _ _ c.from_residual.ensures.1
    (fails_element c.requires.first c.requires.at (c.in-Ok.element, c.in-Ok.ensures.reads) refl c.requires.first)
