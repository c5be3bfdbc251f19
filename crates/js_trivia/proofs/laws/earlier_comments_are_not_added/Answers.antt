use Rattle.js_trivia.proofs.Twice.{earlier_is_not_added, unknown_changes_nothing}
use Rattle.js_trivia.proofs.laws.earlier_comments_are_not_added.Goals as goal

pub returns : goal.returns
returns c = record { kept = earlier_is_not_added; unknown = unknown_changes_nothing }
