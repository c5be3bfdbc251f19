use Rattle.std.proofs.Common.{refl, sym, append-nil}
use Rattle.js_cursor.specs.Rests.Item.{rest}
use Rattle.js_cursor.specs.Failing.FailsItem.{rest as fails_rest}
use Rattle.js_cursor.proofs.cursor.rest.read_rest.Goals as goal

pub returns-clause-item : goal.returns-clause-item
returns-clause-item g c = record {
  item = rest c.in-Ok.rest;
  reads = (c.requires.first, c.requires.at, c.in-Ok.ensures.reads, refl, refl);
  kept = sym (append-nil c.args.items.now.elements.items);
}

pub returns-clause-goes_on : goal.returns-clause-goes_on
returns-clause-goes_on g c =
    record { places = c.in-Ok.ensures.places; goes_on = λ others. others.1 _ _ _ _ _ c.in-Ok.ensures.reads }

pub returns-in-Err-clause-goes_on : goal.returns-in-Err-clause-goes_on
returns-in-Err-clause-goes_on g c =
    record { places = c.in-Err.ensures.places; goes_on = λ others. others.1 _ _ _ _ _ c.in-Err.ensures.reads }

pub returns-in-Err-clause-err : goal.returns-in-Err-clause-err
returns-in-Err-clause-err g c =
    fails_rest c.requires.first c.requires.at c.in-Err.ensures.reads refl c.requires.first
