-- Laws of the units of characters.
use Rattle.std.proofs.Common.{rules, arith, suc, ◌≡◌, ◌<◌, ◌≤◌, ℕ, List, [], ◌∷◌, refl, true, nat_lt, ◌++◌, length}
use Rattle.std.proofs.Common.{take, drop, sym, ◌∙◌, ap, Result, Ok, Err}
use Rattle.std.proofs.lemmas.Bool.{lt-ltb}
use Rattle.std.proofs.lemmas.List.{take-append-drop, get_or_past}
use Rattle.std.proofs.lemmas.List.Concat.{flat_map-append}
use Rattle.std.proofs.lemmas.Str.{chars_from_encodes, chars-IsAscii, IsUtf8-string_bytes}
use Rattle.std.specs.Prelude.{IfOk, IfSome, string_bytes, slice_index}
use Rattle.std.specs.String.{IsUtf16Of}
use Rattle.std.specs.declared.string.String.{String}
use Rattle.std.specs.Result.{result_ok}
use Rattle.std.specs.Char.Escape.{encode_utf16}
use Rattle.std.specs.Str.{chars, IsUtf8, IsAscii}
use Rattle.js_text.specs.JsStr.{units_of, AddsPrefix}

-- the units of the first characters are the first of the units
pub adds_first : (all xs old new : List ℕ) → xs ≡ take (length xs) all → new ≡ old ++ units_of xs
    → AddsPrefix (units_of all) old new
adds_first all xs old new e added = record {
  added = units_of xs;
  left = units_of (drop (length xs) all);
  prefix = ap units_of (sym (take-append-drop (length xs) all))
      ∙ flat_map-append encode_utf16 (take (length xs) all) (drop (length xs) all)
      ∙ ap (λ ys. units_of ys ++ units_of (drop (length xs) all)) (sym e);
  new_is = added;
}

-- the characters of a text spell its units
pub text_units : (units bytes : List ℕ) → IsUtf8 bytes → IsUtf16Of units bytes → units_of (chars bytes) ≡ units
text_units units bytes text spelled =
    ap units_of (sym (chars_from_encodes spelled.0 bytes text (sym spelled.2))) ∙ sym spelled.1

-- the same where the text may be missing
pub text_found : {Z E : Type 0} (units : List ℕ) (r : Result (String Z) E)
    → IfOk r (λ s. IsUtf16Of units (string_bytes s))
    → IfSome (result_ok r) (λ s. units_of (chars (string_bytes s)) ≡ units)
text_found units (Ok s) spelled = text_units units (string_bytes s) (IsUtf8-string_bytes s) spelled
text_found units (Err e) spelled = tt

-- an ASCII character is its own unit
ascii_units : (bs : List ℕ) → IsAscii bs → units_of bs ≡ bs
ascii_units [] ascii = refl
ascii_units (b ∷ bs) ascii =
    let first : b < 128 = ascii 0 in
    let small : nat_lt b 0x10000 ≡ true = lt-ltb b 0x10000 (omega arith) in
    rw small (ap (λ us. b ∷ us) (ascii_units bs (λ i. ascii (suc i))))

-- so is each character of a text whose bytes are all ASCII characters
pub units-IsAscii : (bs : List ℕ) (n : ℕ) → length bs ≤ n → ((k : ℕ) → k < n → slice_index bs k < 128)
    → units_of (chars bs) ≡ bs
units-IsAscii bs n all below =
    let ascii : IsAscii bs = λ i. search (rules, get_or_past) in
    ap units_of (chars-IsAscii bs ascii) ∙ ascii_units bs ascii
