-- Where a space is needed between two tokens: without it they would not be read as these two (ECMA-262 12.7 to 12.9).
use Rattle.std.specs.Prelude.{ℕ, Bool, false, ◌==◌, ◌&&◌, ◌||◌, [], ◌∷◌, codes, Option, Some, None}
use Rattle.std.specs.List.{list_any}
use Rattle.js_text.specs.Ascii.{backslash, full_stop, hyphen_minus}
use Rattle.js_text.specs.Characters.{is_identifier_part}
use Rattle.js_kind.specs.Kinds.{is_identifier_name, is_one_of}
use Rattle.js_kind.specs.declared.kind.Kind.{Kind}
use Rattle.js_kind.specs.declared.kind.Kind.TheVariants.{PrivateIdentifier, RegExp}

-- the characters that operators are made of
abbrev pub is_operator : ℕ → Bool
is_operator c = list_any (λ x. c == x) (codes "!%&*+-./<=>?^|")

-- The token of the kind, with this last character, would be read on with a word that stood right behind it: its
-- character goes on with a name, or it is a name, which may end in an escape, or a regular expression, whose flags are.
abbrev pub ends_as_word : Kind → ℕ → Bool
ends_as_word kind last =
    is_identifier_part last || (is_identifier_name kind || is_one_of (PrivateIdentifier ∷ RegExp ∷ []) kind)

-- A token with this first character would go on with a word right before it.
abbrev pub begins_as_word : ℕ → Bool
begins_as_word first = is_identifier_part first || (first == backslash)

-- A token with this last character, which ends as a word or not, would not end there if the other character stood right
-- behind it, or would begin a comment with it: two words, two operators, a word and a `.` or a `-` behind it, and a `.`
-- and a word.
abbrev pub meets : Bool → ℕ → ℕ → Bool
meets is_word last first =
    (is_word && begins_as_word first)
    || ((is_operator last && is_operator first)
    || ((is_word && ((first == full_stop) || (first == hyphen_minus)))
    || ((last == full_stop) && begins_as_word first)))

-- A space is needed between a token of the kind, with this last character, and one with this first character.
abbrev pub needs_space : Kind → ℕ → ℕ → Bool
needs_space kind last first = meets (ends_as_word kind last) last first

-- the same of the last and the first character of two tokens, if there are such; an empty token needs none
abbrev pub need_space : Kind → Option ℕ → Option ℕ → Bool
need_space kind None first = false
need_space kind (Some last) None = false
need_space kind (Some last) (Some first) = needs_space kind last first
