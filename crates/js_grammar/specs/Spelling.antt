-- The spellings of the plain goal (ECMA-262 12.7 to 12.9): what a token's text may be, and what may not follow it.
use Rattle.std.specs.Prelude.{◌≡◌, ℕ, ◌≤◌, Bool, false, List, [], ◌∷◌, ◌++◌, length, ◌==◌, ◌&&◌, ◌||◌, drop}
use Rattle.std.specs.Prelude.{if◌then◌else◌}
use Rattle.std.specs.List.{list_any}
use Rattle.std.specs.Str.{encode_utf8_all}
use Rattle.js_text.specs.Ascii.{backslash, low_line, number_sign}
use Rattle.js_text.specs.Characters.{is_identifier_start}
use Rattle.js_text.specs.declared.source_type.SourceType.{SourceType}
use Rattle.js_text.specs.declared.value.RowValue.{RowValue}
use Rattle.js_text.specs.declared.value.RowValue.TheVariants.{Nothing}
use Rattle.js_grammar.specs.Name.{IsName, decoded, has_escape, continues_name, name_value}
use Rattle.js_grammar.specs.Number.{IsNumber, excluded_after}
use Rattle.js_grammar.specs.Punctuators.{Punctuator, punctuators, IsIn, is_excluded}
use Rattle.js_kind.specs.Keywords.{name_kind}
use Rattle.js_grammar.specs.Quoted.{quoted_reading, is_backslash_or_return}
use Rattle.js_grammar.specs.StringItems.{IsString}
use Rattle.js_grammar.specs.Template.{IsTemplatePart}
use Rattle.js_grammar.specs.TokenText.{is_private_name, is_named, is_quoted, text_slice}
use Rattle.js_kind.specs.Kinds.{is_identifier_name, is_number_kind, is_string_kind, is_template_kind}
use Rattle.js_kind.specs.declared.kind.Kind.{Kind}
use Rattle.js_kind.specs.declared.kind.Kind.TheVariants.{Eof, PrivateIdentifier, Str}

-- The characters xs are a spelling of this kind where ys follow them; the flag tells whether a line has ended before
-- them.
pub data Spelling (t : SourceType) (line_has_ended : Bool) (xs ys : List ℕ) (kind : Kind) : Type 0 where
  name : IsName xs → continues_name ys ≡ false → kind ≡ name_kind (encode_utf8_all (decoded xs))
      → Spelling t line_has_ended xs ys kind
  private_name : (named : List ℕ) → IsName named → continues_name ys ≡ false → xs ≡ number_sign ∷ named
      → kind ≡ PrivateIdentifier → Spelling t line_has_ended xs ys kind
  punctuator : (p : Punctuator) → IsIn p punctuators → xs ≡ p.text → is_excluded p t line_has_ended ys ≡ false
      → kind ≡ p.kind → Spelling t line_has_ended xs ys kind
  number : IsNumber xs kind → excluded_after kind ys ≡ false → Spelling t line_has_ended xs ys kind
  string : IsString xs ys → kind ≡ Str → Spelling t line_has_ended xs ys kind
  template : IsTemplatePart xs ys kind → Spelling t line_has_ended xs ys kind
  end_of_source : xs ≡ [] → ys ≡ [] → kind ≡ Eof → Spelling t line_has_ended xs ys kind

-- xs is the longest spelling that the text begins with, of this kind, and ys follow it.
pub record LongestSpelling (t : SourceType) (line_has_ended : Bool) (text xs ys : List ℕ) (kind : Kind) : Type 0 where
  pub here : text ≡ xs ++ ys
  pub spelling : Spelling t line_has_ended xs ys kind
  pub longest : (us vs : List ℕ) (other : Kind) → text ≡ us ++ vs → Spelling t line_has_ended us vs other
      → length us ≤ length xs

-- Nothing is spelled at the beginning of the text.
abbrev pub NothingSpelled : SourceType → Bool → List ℕ → Type 0
NothingSpelled t line_has_ended text =
    (us vs : List ℕ) (kind : Kind) → text ≡ us ++ vs → Spelling t line_has_ended us vs kind → ⊥

-- a name or a private name begins with the character
abbrev pub begins_named : ℕ → Bool
begins_named c = is_identifier_start c || ((c == backslash) || (c == number_sign))

-- An escape stands in the characters of a spelling of this kind, which names and strings have; in those of a part of a
-- template a CR counts too, since it stands for LF.
abbrev pub is_escaped : Kind → List ℕ → Bool
is_escaped kind xs =
    if is_template_kind kind then list_any is_backslash_or_return xs
    else (is_named kind || is_string_kind kind) && has_escape xs

-- a separator stands in the characters of a spelling of this kind: a `_` in a number
abbrev pub has_separator : Kind → List ℕ → Bool
has_separator kind xs = is_number_kind kind && list_any (λ c. c == low_line) xs

-- The value of a token of this kind and the characters xs, from start to end, where ys follow it: names, strings and
-- templates have one.
abbrev pub value_of : Kind → List ℕ → List ℕ → ℕ → RowValue
value_of kind xs ys end =
    if is_identifier_name kind then name_value (has_escape xs) (decoded xs) 0 end
    else if is_private_name kind then name_value (has_escape xs) (decoded (drop 1 xs)) 1 end
    else if is_quoted kind
    then (if is_escaped kind xs then (quoted_reading (xs ++ ys)).value else text_slice kind 0 end)
    else Nothing
