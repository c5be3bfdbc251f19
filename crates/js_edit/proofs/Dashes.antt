-- Where the first `--` stands among words.
use Rattle.std.proofs.Common.{◌≡◌, ℕ, ◌+◌, ◌<◌, Bool, true, false, List, length, drop, take, map, refl}
use Rattle.std.proofs.Common.{◌-◌, arith, sym, ◌∙◌, ap, string_bytes, String, nat_lt, if◌then◌else◌}
use Rattle.std.specs.declared.alloc.Global.{Global}
use Rattle.std.specs.List.{position_or_len}
use Rattle.std.proofs.Math.Seq.{take-length}
use Rattle.std.proofs.lemmas.Bool.Decides.{nat_tests}
use Rattle.std.proofs.lemmas.List.{drop-map, length-drop, length-map}
use Rattle.js_edit.specs.Words.{is_dashes, new_words}

-- where it stands from a word on
abbrev pub from_word : List (String Global) → ℕ → ℕ
from_word words at = position_or_len is_dashes (map string_bytes (drop at words))

-- the words behind the first `--`, where there is one
pub behind : (words : List (String Global)) (at : ℕ) → at ≡ position_or_len is_dashes (map string_bytes words)
    → at < length words
    → map string_bytes (take (length words - (at + 1)) (drop (at + 1) words)) ≡ new_words (map string_bytes words)
behind words at is some =
    let texts = map string_bytes words in
    let rest : take (length words - (at + 1)) (drop (at + 1) words) ≡ drop (at + 1) words =
    ap (λ k. take k (drop (at + 1) words)) (sym (length-drop (at + 1) words)) ∙ take-length (drop (at + 1) words) in
    let found : nat_lt at (length texts) ≡ true = grind (arith, nat_tests, length-map words string_bytes, some) in
    let one : map string_bytes (drop (at + 1) words) ≡ drop (at + 1) texts =
    sym (drop-map string_bytes (at + 1) words) in
    ap (map string_bytes) rest ∙ one
    ∙ by_test (nat_lt at (length texts)) (drop (at + 1) texts) texts found
    ∙ ap (λ n. if nat_lt n (length texts) then drop (n + 1) texts else texts) is
  where
    by_test : (b : Bool) (xs ys : List (List ℕ)) → b ≡ true → xs ≡ (if b then xs else ys)
    by_test true xs ys e = refl
    by_test false xs ys e = absurd (cc)
