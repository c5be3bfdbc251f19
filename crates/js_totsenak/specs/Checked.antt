-- What the command `check` comes to for a source.
use Rattle.std.specs.Prelude.{◌≡◌, ◌==◌, ℕ, Bool, not, List, length}
use Rattle.js_choose.specs.Rules.{Rule}
use Rattle.js_grammar.specs.Outcome.{Findings}
use Rattle.js_text.specs.declared.source_type.SourceType.{SourceType}
use Rattle.js_totsenak.specs.Check.{check_text}
use Rattle.js_totsenak.specs.Found.{IsFound}

-- The text and the answer are those of what was found: what is told of it, and whether there is a diagnostic.
pub record Tells (name source : List ℕ) (found : Findings) (text : List ℕ) (is_faulty : Bool) : Type 0 where
  pub text_is : text ≡ check_text name source found
  pub faulty : is_faulty ≡ not (length found.diagnostics == 0)

-- The text and the answer are those of what is found of the source, whose goals the rule chooses.
pub record IsChecked (rule : Rule) (name source : List ℕ) (t : SourceType) (text : List ℕ) (is_faulty : Bool)
    : Type 0 where
  pub found : Findings
  pub is_found : IsFound rule source t found
  pub tells : Tells name source found text is_faulty
