-- Parts of JSX: names with `-`, the text of children, and the strings of attributes.
use Rattle.std.specs.Prelude.{ℕ, ◌+◌, Bool, List, [], ◌∷◌, ◌++◌, ◌==◌, ◌||◌, not, Option, Some, None}
use Rattle.std.specs.Prelude.{if◌then◌else◌}
use Rattle.js_text.specs.Ascii.{less_than_sign, greater_than_sign, hyphen_minus}
use Rattle.js_text.specs.Characters.{begins, from_first, is_identifier_part}
use Rattle.js_text.specs.declared.diagnostic.Diagnostic.{Diagnostic}
use Rattle.js_text.specs.declared.diagnostic.Diagnostic.TheVariants.{UnexpectedJsxEnd, UnterminatedString}
use Rattle.js_text.specs.declared.span.Span.{Span}
use Rattle.js_kind.specs.declared.kind.Kind.{Kind}
use Rattle.js_kind.specs.declared.kind.Kind.TheVariants.{Eof, Ident, JSXText, LAngle, LCurly, Str}
use Rattle.js_grammar.specs.NumberReads.{empty_span}
use Rattle.js_grammar.specs.Reading.{Reading, read_up_to, place_behind, size_of}
use Rattle.js_grammar.specs.StringItems.{is_quote, stretch}
use Rattle.js_grammar.specs.TokenText.{unescaped_value}
use Rattle.js_grammar.specs.UnicodeEscape.{left_curly_bracket, right_curly_bracket}

-- a token of the kind that is reported, up to where this is left of the text
abbrev pub reported : Kind → List ℕ → List ℕ → Diagnostic → Reading
reported kind text rest diagnostic = record (read_up_to kind text rest) { diagnostics = diagnostic ∷ [] }

-- the characters that end a name
abbrev pub ends_jsx_name : ℕ → Bool
ends_jsx_name c = not (is_identifier_part c || (c == hyphen_minus))

-- what is read of a name whose first part has these characters, and that goes on up to where this is left of the text
abbrev pub jsx_name_up_to : List ℕ → List ℕ → List ℕ → Reading
jsx_name_up_to part text rest = record (read_up_to Ident (part ++ text) rest) {
  value = unescaped_value Ident 0 (size_of (read_up_to Ident (part ++ text) rest));
}

-- What is read of a name whose first part has these characters, where the text behind it goes on with a `-`: all parts
-- of names and all `-` that follow.
abbrev pub jsx_name_reading : List ℕ → List ℕ → Option Reading
jsx_name_reading part text =
    if begins (λ c. c == hyphen_minus) text then Some (jsx_name_up_to part text (from_first ends_jsx_name text))
    else None

-- the marks that a child of JSX goes on with: a tag, or an expression
abbrev pub begins_child : ℕ → Bool
begins_child c = (c == less_than_sign) || (c == left_curly_bracket)

-- the characters that end the text of a child
abbrev pub ends_jsx_text : ℕ → Bool
ends_jsx_text c = begins_child c || (c == right_curly_bracket)

-- What is read of the text of a child, by what is left behind it: text, where a mark follows; the end of the source; or
-- a character that may not stand there.
abbrev pub jsx_text_before : List ℕ → List ℕ → Reading
jsx_text_before text [] = read_up_to Eof text []
jsx_text_before text (c ∷ cs) =
    if begins_child c then read_up_to JSXText text (c ∷ cs)
    else reported Eof text (c ∷ cs) (UnexpectedJsxEnd c (empty_span (size_of (read_up_to Eof text (c ∷ cs)))))

-- the text of a child, in which a `>` may stand
abbrev pub jsx_text_reading : List ℕ → Reading
jsx_text_reading text = jsx_text_before text (from_first ends_jsx_text text)

-- What is read of a child of JSX that the text begins with: a mark, or text up to the next one.
abbrev pub jsx_child_reading : List ℕ → Reading
jsx_child_reading [] = read_up_to Eof [] []
jsx_child_reading (c ∷ cs) =
    if c == less_than_sign then read_up_to LAngle (c ∷ cs) cs
    else if c == left_curly_bracket then read_up_to LCurly (c ∷ cs) cs
    else jsx_text_reading (c ∷ cs)

-- a `>` that stands at the place
abbrev pub angle_at : ℕ → ℕ → List Span
angle_at place c = if c == greater_than_sign then stretch place (place + 1) ∷ [] else []

-- the spans of the characters `>` among these, the first of which stands at the place
abbrev pub angles_among : ℕ → List ℕ → List Span
angles_among place [] = []
angles_among place (c ∷ cs) = angle_at place c ++ angles_among (place_behind place (c ∷ [])) cs

-- What a child of JSX that begins at the place is warned of: each `>` in what is read of it.
abbrev pub jsx_child_warnings : ℕ → List ℕ → List Span
jsx_child_warnings place text = angles_among place (jsx_child_reading text).taken

-- what is read of a string of an attribute, by what is left of the text from its next quote on
abbrev pub jsx_string_before : List ℕ → List ℕ → Reading
jsx_string_before text [] = reported Eof text [] (UnterminatedString (stretch 0 (place_behind 0 text)))
jsx_string_before text (c ∷ cs) = record (read_up_to Str text cs) {
  value = unescaped_value Str 0 (size_of (read_up_to Str text cs));
}

-- What is read of the string of an attribute that the text begins with: up to the next quote like its first. It has no
-- escapes.
abbrev pub jsx_string_reading : List ℕ → Option Reading
jsx_string_reading [] = None
jsx_string_reading (c ∷ cs) =
    if is_quote c then Some (jsx_string_before (c ∷ cs) (from_first (λ d. d == c) cs)) else None
