-- The steps of reading a regular expression.
use Rattle.std.specs.Prelude.{◌≡◌, ℕ, ◌+◌, ◌≤◌, Bool, true, false, List, [], ◌∷◌, ◌++◌, length, ◌==◌, ◌||◌}
use Rattle.std.specs.Prelude.{drop, Option, Some, None}
use Rattle.js_text.specs.Ascii.{backslash, slash}
use Rattle.js_text.specs.Characters.{begins, before_first, from_first, is_line_terminator}
use Rattle.js_text.specs.declared.diagnostic.Diagnostic.{Diagnostic}
use Rattle.js_text.specs.declared.diagnostic.Diagnostic.TheVariants.{UnterminatedRegExp}
use Rattle.js_text.specs.declared.reg_exp_flags.RegExpFlags.{RegExpFlags}
use Rattle.js_text.specs.declared.reg_exp_flags.RegexInfo.{RegexInfo}
use Rattle.js_grammar.specs.Reading.{Reading, moved_regex, reported_at}
use Rattle.std.specs.Option.{option_map}
use Rattle.js_grammar.specs.RegularExpression.{behind_all, behind_body, behind_body_character, behind_class}
use Rattle.js_grammar.specs.RegularExpression.{behind_class_character, ends_flags, flag_reports, is_any}
use Rattle.js_grammar.specs.RegularExpression.{is_flag_character}
use Rattle.js_grammar.specs.RegularExpression.{left_square_bracket, with_letters}
use Rattle.js_grammar.specs.RegularExpression.{letter_reports, no_flags, right_square_bracket, with_letter}
use Rattle.js_grammar.specs.StringItems.{stretch}
use Rattle.js_source.specs.Source.{At, rest, Reads}
use Rattle.js_spell.specs.declared.regular_expression.Within.{Within}
use Rattle.js_spell.specs.declared.regular_expression.Within.TheVariants.{Body, Class}
use Rattle.js_spell.specs.declared.regular_expression.Stop.{Stop}
use Rattle.js_spell.specs.declared.regular_expression.Stop.TheVariants.{Backslash, Opening, Closing, LineEnd}

-- a part of a body or of a class
abbrev pub part_of : Within → List ℕ → Option (List ℕ)
part_of Body = behind_body_character
part_of Class = behind_class_character

-- the characters that do not stand for themselves
abbrev pub marks : Within → ℕ → Bool
marks Body c = (c == backslash) || ((c == left_square_bracket) || ((c == slash) || is_line_terminator c))
marks Class c = (c == backslash) || ((c == right_square_bracket) || is_line_terminator c)

-- what ends a body or a class
abbrev pub closing : Within → ℕ
closing Body = slash
closing Class = right_square_bracket

-- a line or the text ends here
abbrev pub is_line_end : List ℕ → Bool
is_line_end [] = true
is_line_end (c ∷ cs) = is_line_terminator c

-- what a stop says of the text that is left
abbrev pub StopIs : Within → Stop → List ℕ → Type 0
StopIs within Backslash text = begins (λ c. c == backslash) text ≡ true
StopIs within Opening text = (within ≡ Body) × (begins (λ c. c == left_square_bracket) text ≡ true)
StopIs within Closing text = begins (λ c. c == closing within) text ≡ true
StopIs within LineEnd text = is_line_end text ≡ true

-- The source went on, and no line has ended.
pub record StaysInLine (old new : At) : Type 0 where
  pub text : new.text ≡ old.text
  pub line : from_first is_line_terminator (rest old) ≡ from_first is_line_terminator (rest new)
  pub onward : old.place ≤ new.place
  pub fewer : length (rest new) ≤ length (rest old)

-- The source went on to where the line ends.
pub record IsAtLineEnd (old new : At) : Type 0 where
  pub text : new.text ≡ old.text
  pub line : from_first is_line_terminator (rest old) ≡ rest new
  pub onward : old.place ≤ new.place

-- Parts were passed.
pub record PassesParts (within : Within) (old new : At) : Type 0 where
  pub stays : StaysInLine old new
  pub left : behind_all (part_of within) (rest old) ≡ behind_all (part_of within) (rest new)

-- A `\` was passed with the character behind it; or no character of the line is behind it.
pub record PassesBackslash (old new : At) (is_whole : Bool) : Type 0 where
  pub text : new.text ≡ old.text
  pub onward : old.place ≤ new.place
  pub whole : is_whole ≡ true → (c : ℕ) × (rest old ≡ backslash ∷ c ∷ rest new) × (is_line_terminator c ≡ false)
  pub broken : is_whole ≡ false → (rest old ≡ backslash ∷ rest new) × (is_line_end (rest new) ≡ true)

-- A class was passed; or its line ends before it does.
abbrev pub PassesClass : At → At → Bool → Type 0
PassesClass old new true = (behind_class (rest old) ≡ Some (rest new)) × StaysInLine old new
PassesClass old new false = (behind_class (rest old) ≡ None) × IsAtLineEnd old new

-- A body was passed up to the `/` that ends it; or its line ends before it does.
abbrev pub PassesBody : At → At → Bool → Type 0
PassesBody old new true =
    (behind_body (rest old) ≡ rest new) × (begins (λ c. c == slash) (rest new) ≡ true) × StaysInLine old new
PassesBody old new false = (begins (λ c. c == slash) (behind_body (rest old)) ≡ false) × IsAtLineEnd old new

-- a letter of flags was taken
pub record TakesLetter (old new : At) (b : ℕ) : Type 0 where
  pub read : Reads old new b
  pub is_letter : is_flag_character b ≡ true
  pub place : new.place ≡ old.place + 1

-- The flag of a letter was added, and what is wrong with it was reported.
pub record AddsLetter (flags_before flags_after : RegExpFlags) (at letter : ℕ) (before after : List Diagnostic)
    (is_faulty : Bool) : Type 0 where
  pub flags : flags_after ≡ with_letter flags_before letter
  pub reports : after ≡ before ++ letter_reports flags_before at letter
  pub faulty : is_faulty ≡ is_any (letter_reports flags_before at letter)

-- The line, or the source, has ended here: that was reported, and the rest of the source was taken.
pub record BreaksLine (start : ℕ) (old new : At) (before after : List Diagnostic) (info : RegexInfo) : Type 0 where
  pub text : new.text ≡ old.text
  pub behind : At
  pub same : behind.text ≡ old.text
  pub onward : old.place ≤ behind.place
  pub stepped : rest behind ≡ drop 1 (rest old)
  pub reports : after ≡ before ++ UnterminatedRegExp (stretch start behind.place) ∷ []
  pub nothing : rest new ≡ []
  pub info_is : info ≡ record { pattern_end = new.place; flags = no_flags; flags_error = false }

-- what is reported of the flags that are next, of a regular expression whose pattern ends at the place
abbrev pub flags_told : ℕ → List ℕ → List Diagnostic
flags_told pattern_end text = flag_reports no_flags (pattern_end + 1) (before_first ends_flags text)

-- A regular expression that begins at the start was read, and this is what is known of it.
pub record SpellsExpression (reading : Reading) (start : ℕ) (old new : At) (before after : List Diagnostic)
    (info : RegexInfo) : Type 0 where
  pub text : new.text ≡ old.text
  pub left : reading.rest ≡ rest new
  pub reports : after ≡ before ++ reported_at start reading
  pub info_is : option_map (moved_regex start) reading.regex ≡ Some info

-- The flags of a regular expression were read, whose pattern ends at the place.
pub record SpellsFlags (pattern_end : ℕ) (old new : At) (before after : List Diagnostic) (info : RegexInfo)
    : Type 0 where
  pub text : new.text ≡ old.text
  pub left : from_first ends_flags (rest old) ≡ rest new
  pub reports : after ≡ before ++ flags_told pattern_end (rest old)
  pub info_is : info
      ≡ record {
        pattern_end = pattern_end;
        flags = with_letters no_flags (before_first ends_flags (rest old));
        flags_error = is_any (flags_told pattern_end (rest old));
      }
