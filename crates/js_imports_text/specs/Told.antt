-- What is told of the imports and exports of a source.
use Rattle.std.specs.Prelude.{◌≡◌, ℕ, Bool, List}
use Rattle.js_choose.specs.Rules.{Rule}
use Rattle.js_text.specs.declared.source_type.SourceType.{SourceType}
use Rattle.js_totsenak.specs.declared.command.Format.{Format}
use Rattle.js_totsenak.specs.declared.command.Format.TheVariants.{Lines, Json}
use Rattle.js_imports.specs.Imports.{AreImportsOf}
use Rattle.js_imports.specs.declared.found.Found.{Found}
use Rattle.js_imports_text.specs.Json.{found_objects}
use Rattle.js_imports_text.specs.Lines.{found_lines}

-- what is found of a source, in a form
abbrev pub told_text : Format → List ℕ → List Found → List ℕ
told_text Lines source found = found_lines source found
told_text Json source found = found_objects source found

-- The text is that of what the live tokens of the report of the source import and export, all of it, in order; the rule
-- chooses the goals of the source.
pub record TellsImports (rule : Rule) (format : Format) (counts : Bool) (source : List ℕ) (t : SourceType)
    (text : List ℕ) : Type 0 where
  pub found : List Found
  pub are_imports : AreImportsOf rule source t counts found
  pub text_is : text ≡ told_text format source found
