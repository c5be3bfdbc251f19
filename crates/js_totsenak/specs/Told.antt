-- What is told of a source.
use Rattle.std.specs.Prelude.{◌≡◌, ℕ, Bool, false, List}
use Rattle.js_choose.specs.Rules.{Rule}
use Rattle.js_text.specs.declared.source_type.SourceType.{SourceType}
use Rattle.js_totsenak.specs.Checked.{IsChecked}
use Rattle.js_totsenak.specs.ItemsText.{HasItems}
use Rattle.js_totsenak.specs.Tokens.{HasTokens}
use Rattle.js_totsenak.specs.Values.{HasValues}
use Rattle.js_totsenak.specs.declared.command.Command.{Command}
use Rattle.js_totsenak.specs.declared.command.Command.TheVariants.{Check, Tokens, Values}
use Rattle.js_totsenak.specs.declared.command.Format.TheVariants.{Lines, Json}

-- The text is what a command tells of a source with a name, whose goals the rule chooses; a source is told to be at
-- fault by `check` alone.
abbrev pub IsTold : Rule → Command → List ℕ → List ℕ → SourceType → List ℕ → Bool → Type 0
IsTold rule Check name source t text is_faulty = IsChecked rule name source t text is_faulty
IsTold rule (Tokens Lines) name source t text is_faulty = HasTokens rule source t text × (is_faulty ≡ false)
IsTold rule (Tokens Json) name source t text is_faulty = HasItems rule source t text × (is_faulty ≡ false)
IsTold rule Values name source t text is_faulty = HasValues rule source t text × (is_faulty ≡ false)
