-- What a user is told of a diagnostic.
use Rattle.std.specs.Prelude.{ℕ, ◌^◌, ◌-◌, List, [], ◌++◌, codes, true, false, Option, Some, None}
use Rattle.std.specs.Fmt.{digits, padded_integral, format_spec}
use Rattle.js_text.specs.Diagnostic.{diagnostic_character}
use Rattle.js_text.specs.declared.diagnostic.Diagnostic.{Diagnostic}
use Rattle.js_text.specs.declared.diagnostic.Diagnostic.TheVariants.{InvalidCharacter, UnexpectedEnd}
use Rattle.js_text.specs.declared.diagnostic.Diagnostic.TheVariants.{FileAppearsToBeBinary, InvalidNumberEnd}
use Rattle.js_text.specs.declared.diagnostic.Diagnostic.TheVariants.{UnterminatedString, UnterminatedMultiLineComment}
use Rattle.js_text.specs.declared.diagnostic.Diagnostic.TheVariants.{UnterminatedRegExp, UnicodeEscapeSequence}
use Rattle.js_text.specs.declared.diagnostic.Diagnostic.TheVariants.{InvalidEscapeSequence, RegExpFlag, RegExpFlagTwice}
use Rattle.js_text.specs.declared.diagnostic.Diagnostic.TheVariants.{UnexpectedJsxEnd, HtmlCommentInModule}

-- what is at fault, in words
abbrev pub fault_in_words : Diagnostic → List ℕ
fault_in_words (InvalidCharacter c s) = codes "unexpected character"
fault_in_words (UnexpectedEnd s) = codes "unexpected end of the file"
fault_in_words FileAppearsToBeBinary = codes "the file appears to be binary"
fault_in_words (InvalidNumberEnd s) = codes "a name or a digit right behind a number"
fault_in_words (UnterminatedString s) = codes "string or template without an end"
fault_in_words (UnterminatedMultiLineComment s) = codes "comment without an end"
fault_in_words (UnterminatedRegExp s) = codes "regular expression without an end"
fault_in_words (UnicodeEscapeSequence s) = codes "invalid escape in a name"
fault_in_words (InvalidEscapeSequence s) = codes "invalid escape in a string"
fault_in_words (RegExpFlag c s) = codes "unknown flag of a regular expression"
fault_in_words (RegExpFlagTwice c s) = codes "repeated flag of a regular expression"
fault_in_words (UnexpectedJsxEnd c s) = codes "unexpected character in the text of JSX"
fault_in_words (HtmlCommentInModule s) = codes "HTML comment in a module"

-- a character by its number, as ` U+0041`
abbrev pub number_text : ℕ → List ℕ
number_text c = codes " U+" ++ padded_integral (format_spec 32 0 4 4 (2 ^ 64 - 1)) false [] (digits 16 true c)

-- the number of the character that a diagnostic names, if it names one
abbrev pub named_character : Option ℕ → List ℕ
named_character None = []
named_character (Some c) = number_text c

-- what a user is told of a diagnostic: what is at fault, and the character that it names
unfoldable pub message_of : Diagnostic → List ℕ
message_of d = fault_in_words d ++ named_character (diagnostic_character d)

-- what a warning is of, in words: each is of a `>` in the text of JSX
abbrev pub warning_in_words : List ℕ
warning_in_words = codes "a > in the text of JSX"

-- what a user is told of a warning
abbrev pub warning_message : List ℕ
warning_message = codes "warning: " ++ warning_in_words
