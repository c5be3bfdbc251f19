-- Readings of goals beside the plain one.
use Rattle.std.specs.Prelude.{◌≡◌, ℕ, ◌==◌, true, false, List, ◌++◌, Option, Some, None}
use Rattle.js_text.specs.Ascii.{hyphen_minus}
use Rattle.js_text.specs.Characters.{begins}
use Rattle.js_text.specs.declared.diagnostic.Diagnostic.{Diagnostic}
use Rattle.js_text.specs.declared.reg_exp_flags.RegexInfo.{RegexInfo}
use Rattle.js_kind.specs.TokenParts.{TokenParts}
use Rattle.js_grammar.specs.declared.goal.Goal.TheVariants.{JsxIdentifier, RegularExpression}
use Rattle.js_source.specs.Source.{rest}
use Rattle.js_grammar.specs.Jsx.{jsx_string_reading}
use Rattle.js_grammar.specs.Reading.{Reading, reported_at}
use Rattle.js_grammar.specs.StringItems.{is_quote}
use Rattle.js_reader.specs.Reader.{ReadsSilently, ReadsTokenHere, ReadsWithoutGap, read_token}
use Rattle.js_reader.specs.declared.reader.Reader.{Reader}
use Rattle.js_reader.specs.declared.regex.RegexToken.{RegexToken}

-- what is known of a regular expression beside its token
abbrev pub info_of : RegexToken → RegexInfo
info_of found = record { pattern_end = found.pattern_end; flags = found.flags; flags_error = found.flags_error }

-- A regular expression was read by a reader, from the start of the token before on.
pub record ReadsExpression (before : TokenParts) (old : Reader) (errors : List Diagnostic) (found : RegexToken)
    (new : Reader) (after : List Diagnostic) : Type 0 where
  pub reads : ReadsWithoutGap RegularExpression (Some before) old errors found.token new after
  pub info : reads.read.outcome.regex ≡ Some (info_of found)

-- A name of JSX that begins at the start was read on; or no `-` is next, and nothing has changed.
abbrev pub ReadsNameOn : ℕ → Reader → Option TokenParts → Reader → Type 0
ReadsNameOn start old None new = (begins (λ c. c == hyphen_minus) (rest old.source) ≡ false) × (new ≡ old)
ReadsNameOn start old (Some token) new =
    (begins (λ c. c == hyphen_minus) (rest old.source) ≡ true)
    × ((before : TokenParts) → before.start ≡ start → before.end ≡ old.source.place
    → ReadsSilently JsxIdentifier (Some before) old token new)

-- The string of an attribute was read where the reader stood.
pub record ReadsStringHere (old : Reader) (before : List Diagnostic) (token : TokenParts) (new : Reader)
    (after : List Diagnostic) : Type 0 where
  pub text : new.source.text ≡ old.source.text
  pub source_type : new.source_type ≡ old.source_type
  pub found : Reading
  pub read : jsx_string_reading (rest old.source) ≡ Some found
  pub token_is : token ≡ read_token old.line_has_ended old.source.place new.source.place found.kind
  pub left : found.rest ≡ rest new.source
  pub errors : after ≡ before ++ reported_at old.source.place found

-- The value of an attribute was read where the reader stood: a string, or the token that is there.
pub data ReadsAttributeHere (old : Reader) (before : List Diagnostic) (token : TokenParts) (new : Reader)
    (after : List Diagnostic) : Type 0 where
  string : ReadsStringHere old before token new after → ReadsAttributeHere old before token new after
  plain : begins is_quote (rest old.source) ≡ false → ReadsTokenHere old before token new after
      → ReadsAttributeHere old before token new after
