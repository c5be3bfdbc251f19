use Rattle.js_lexer.proofs.MarkLaws.{length-marked, marked_goes_on}
use Rattle.js_lexer.proofs.laws.a_mark_changes_classes_alone.Goals as goal

pub returns : goal.returns
returns c = record { count = length-marked; goes_on = marked_goes_on }
