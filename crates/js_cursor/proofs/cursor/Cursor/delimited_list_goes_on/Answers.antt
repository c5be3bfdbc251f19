use Rattle.std.proofs.Common.{refl}
use Rattle.js_cursor.proofs.TokenSteps.{stays_back, stays_fatal, unchanged}
use Rattle.js_cursor.proofs.cursor.Cursor.delimited_list_goes_on.Goals as goal

pub returns-then-not-at-clause-onward : goal.returns-then-not-at-clause-onward
returns-then-not-at-clause-onward g c =
    stays_back c.args.self.now _ c.stop_list.new.self c.stop_list.ensures (stays_fatal _ c.args.self.now)

pub returns-then-is_at_end_of_list-clause-onward : goal.returns-then-is_at_end_of_list-clause-onward
returns-then-is_at_end_of_list-clause-onward g c = unchanged c.args.self.now _ refl
