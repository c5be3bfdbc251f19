-- What is live of the report of a list of commands.
use Rattle.std.proofs.Common.{◌≡◌, ℕ, List, ◌∙◌, subst, false}
use Rattle.js_text.specs.declared.source_type.SourceType.{SourceType}
use Rattle.js_grammar.specs.Outcome.{Findings}
use Rattle.js_lexer.specs.Lexer.{LexerState, fresh}
use Rattle.js_session.specs.Report.{ReportOf}
use Rattle.js_session.specs.declared.command.Command.{Command}
use Rattle.js_lists.specs.LiveLists.{TakesCommands}
use Rattle.js_lists.specs.Steps.{TakesSteps}
use Rattle.js_lists.specs.Taken.{Taken}

-- The tokens were taken, and then what was found.
pub takes_commands : {S : Type 0} (takes : S → Taken → S → Type 0) (ends : S → Findings → S → Type 0)
    (commands : List Command) (text : List ℕ) (t : SourceType) (l : LexerState) (found given : Findings)
    (old behind new : S) → l ≡ fresh text t false → given ≡ found
    → TakesSteps takes commands l.text l.source_type found old behind → ends behind given new
    → TakesCommands takes ends commands text t old new
takes_commands takes ends commands text t l found given old behind new is same h ended = record {
  report = h.report;
  report_is =
      subst (λ (x : LexerState). ReportOf x.text x.source_type false commands h.report) is h.report_is;
  taken = record {
    behind = behind;
    takes_each = h.takes_each;
    after = subst (λ f. ends behind f new) (same ∙ h.found_is) ended;
    tokens_are = h.tokens_are;
  };
}
