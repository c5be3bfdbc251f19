-- The text of a token that may be read again.
use Rattle.std.proofs.Common.{◌≡◌, ◌≤◌, ◌↔◌, ℕ, zero, suc, Bool, true, List, [], ◌∷◌, ◌++◌, drop, refl, sym}
use Rattle.std.proofs.Common.{◌∙◌, ap, arith}
use Rattle.std.proofs.lemmas.Bool.{and_parts, ltb-true}
use Rattle.std.specs.Char.{is_ascii}
use Rattle.std.specs.List.{list_all}
use Rattle.std.specs.Prelude.{slice_range, IsTrue}
use Rattle.std.specs.Str.{IsAscii, bytes_eq, chars}
use Rattle.std.proofs.lemmas.Slice.Eq.{bytes_eq-Decides}
use Rattle.std.proofs.lemmas.Str.{IsUtf8-from_ascii, chars-IsAscii, chars-append, encodes-IsAscii}
use Rattle.js_text.specs.Characters.{from_place}
use Rattle.js_kind.specs.Kinds.{kind_text}
use Rattle.js_kind.specs.declared.kind.Kind.{Kind}
use Rattle.js_kind.proofs.Members.{one_passes}
use Rattle.js_grammar.specs.ReLexed.{is_re_lexed, re_lexed_kinds}
use Rattle.js_source.specs.Source.{SpellsBetween}
use Rattle.js_source.proofs.Places.{cut_between}

-- a text of ASCII characters alone
abbrev is_ascii_text : List ℕ → Bool
is_ascii_text bs = list_all is_ascii bs

ascii_text : (bs : List ℕ) → is_ascii_text bs ≡ true → IsAscii bs
ascii_text [] all i = omega arith
ascii_text (b ∷ bs) all zero = ltb-true b 128 (and_parts (is_ascii b) (is_ascii_text bs) all).0
ascii_text (b ∷ bs) all (suc i) = ascii_text bs (and_parts (is_ascii b) (is_ascii_text bs) all).1 i

texts_are_ascii : list_all (λ kind. is_ascii_text (kind_text kind)) re_lexed_kinds ≡ true
texts_are_ascii = refl

pub spelling_is_ascii : (kind : Kind) → is_re_lexed kind ≡ true → IsAscii (kind_text kind)
unfolding is_re_lexed
spelling_is_ascii kind is =
    ascii_text (kind_text kind)
    (one_passes (λ kind. is_ascii_text (kind_text kind)) re_lexed_kinds kind texts_are_ascii is)

-- the characters from a place on, where a stretch of ASCII characters stands up to another place
characters_between : (text bs : List ℕ) (from to : ℕ) → from ≤ to → IsAscii bs → slice_range text from to ≡ bs
    → from_place text from ≡ bs ++ from_place text to
characters_between text bs from to le ascii same =
    ap chars (sym (cut_between text from to le) ∙ ap (λ xs. xs ++ drop to text) same)
    ∙ chars-append bs (drop to text) (IsUtf8-from_ascii bs ascii)
    ∙ ap (λ xs. xs ++ chars (drop to text)) (chars-IsAscii bs ascii)

-- The stretch between two places of a text is the spelling of a kind exactly where the characters from the first place
-- on are that spelling and the characters from the second on.
pub is_spelled : (text : List ℕ) (from to start end : ℕ) (kind : Kind) (stretch spelled : List ℕ) (answer : Bool)
    → start ≤ end → is_re_lexed kind ≡ true → from ≡ start → to ≡ end → stretch ≡ slice_range text from to
    → SpellsBetween text from to stretch → spelled ≡ kind_text kind → answer ≡ bytes_eq stretch spelled
    → IsTrue answer ↔ (from_place text start ≡ kind_text kind ++ from_place text end)
is_spelled text from to start end kind stretch spelled answer le is from_is to_is bytes characters text_is eq =
    let ascii = spelling_is_ascii kind is in
    let there : slice_range text start end ≡ stretch =
    ap (λ n. slice_range text n end) (sym from_is) ∙ ap (slice_range text from) (sym to_is) ∙ sym bytes in
    let decides = bytes_eq-Decides stretch spelled in (
      λ yes.
          characters_between text (kind_text kind) start end le ascii
          (there ∙ decides.0 (sym eq ∙ yes) ∙ text_is),
      λ here.
          eq
          ∙ decides.1 (characters (kind_text kind) (ap (from_place text) from_is ∙ here ∙ ap (λ n. kind_text kind ++ from_place text n) (sym to_is)) ∙ encodes-IsAscii (kind_text kind) ascii ∙ sym text_is),
    )
