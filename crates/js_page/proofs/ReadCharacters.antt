-- What a reader sees of characters that are written.
use Rattle.std.proofs.Common.{◌≡◌, ℕ, Bool, true, false, not, List, [], ◌∷◌, ◌++◌, ◌∙◌, ap, sym, subst, refl, append_assoc}
use Rattle.std.specs.Prelude.{◌==◌, ◌&&◌, ◌||◌, codes, encode_utf8, flat_map, if◌then◌else◌, map, nat_lt}
use Rattle.std.proofs.lemmas.Bool.{eqb-true, or_from}
use Rattle.js_page.proofs.Free.{Free, digits_free, encode_free, ends_tag, free_append, free_from}
use Rattle.js_page.proofs.ReadSteps.{is_mark, is_quote, marks_are_low, quotes_are_low, read_in_tag, read_text}
use Rattle.js_page.specs.Characters.{bytes_seen, character_seen, hex_digits, hidden_tag, hidden_text, in_title, is_hidden}
use Rattle.js_page.specs.Characters.{nul_sign, seen_hidden, written, zeros}
use Rattle.js_page.specs.Reading.{Seen, State, behind_tag, in_tag, in_text, reads_text, seen_from, tag}

no_mark : (c : ℕ) → (c == 60) ≡ false → (c == 38) ≡ false → (c == 13) ≡ false → (c == 0) ≡ false → is_mark c ≡ false
no_mark c e60 e38 e13 e0 =
    or_from (c == 60) ((c == 38) || ((c == 13) || (c == 0))) e60
    (or_from (c == 38) ((c == 13) || (c == 0)) e38 (or_from (c == 13) (c == 0) e13 e0))

-- the bytes of a character that is no mark
mark_free : (c : ℕ) → is_mark c ≡ false → Free is_mark (encode_utf8 c)
mark_free c none = encode_free is_mark marks_are_low c none

read_60 : (rest : List ℕ)
    → seen_from reads_text (codes "&lt;" ++ rest) ≡ character_seen 60 ++ seen_from reads_text rest
unfolding is_hidden
read_60 rest = refl

read_38 : (rest : List ℕ)
    → seen_from reads_text (codes "&amp;" ++ rest) ≡ character_seen 38 ++ seen_from reads_text rest
unfolding is_hidden
read_38 rest = refl

read_34 : (rest : List ℕ)
    → seen_from reads_text (codes "&#34;" ++ rest) ≡ character_seen 34 ++ seen_from reads_text rest
unfolding is_hidden
read_34 rest = refl

read_39 : (rest : List ℕ)
    → seen_from reads_text (codes "&#39;" ++ rest) ≡ character_seen 39 ++ seen_from reads_text rest
unfolding is_hidden
read_39 rest = refl

read_13 : (rest : List ℕ)
    → seen_from reads_text (codes "&#13;" ++ rest) ≡ character_seen 13 ++ seen_from reads_text rest
unfolding is_hidden
read_13 rest = refl

read_0 : (rest : List ℕ)
    → seen_from reads_text (encode_utf8 nul_sign ++ rest) ≡ character_seen 0 ++ seen_from reads_text rest
unfolding is_hidden
read_0 rest = read_text (encode_utf8 nul_sign) rest (mark_free nul_sign refl)

bytes_are : (c : ℕ) → (c == 0) ≡ false → bytes_seen c ≡ map in_text (encode_utf8 c)
bytes_are c e = ap (λ b. map in_text (encode_utf8 (if b then nul_sign else c))) e

read_plain : (c : ℕ) (rest : List ℕ) → is_mark c ≡ false → (c == 0) ≡ false → is_hidden c ≡ false
    → seen_from reads_text (encode_utf8 c ++ rest) ≡ character_seen c ++ seen_from reads_text rest
read_plain c rest none nul hidden =
    read_text (encode_utf8 c) rest (mark_free c none)
    ∙ ap (λ (xs : List Seen). xs ++ seen_from reads_text rest)
    (sym (ap (λ b. seen_hidden (b && not (c == 0)) c) hidden ∙ bytes_are c nul))

zeros_by : (p q r : Bool)
    → Free ends_tag (if p then codes "000" else if q then codes "00" else if r then codes "0" else [])
zeros_by true q r = free_from ends_tag (codes "000") refl
zeros_by false true r = free_from ends_tag (codes "00") refl
zeros_by false false true = free_from ends_tag (codes "0") refl
zeros_by false false false = tt

zeros_free : (n : ℕ) → Free ends_tag (zeros n)
unfolding zeros
zeros_free n = zeros_by (nat_lt n 0x10) (nat_lt n 0x100) (nat_lt n 0x1000)

tag_free : (c : ℕ) → Free ends_tag (hidden_tag c)
unfolding hidden_tag
tag_free c =
    free_append ends_tag (codes "b title=U+" ++ zeros c) (hex_digits c)
    (free_append ends_tag (codes "b title=U+") (zeros c) (free_from ends_tag (codes "b title=U+") refl) (zeros_free c))
    (digits_free 16 true c)

behind_hidden : (c : ℕ) → behind_tag (hidden_tag c) ≡ reads_text
unfolding hidden_tag
behind_hidden c = refl

regroup : (a b c d e : List ℕ) → (((a ++ b) ++ c) ++ d) ++ e ≡ a ++ (b ++ (c ++ (d ++ e)))
regroup a b c d e = simp append_assoc

read_hidden : (c : ℕ) (rest : List ℕ) → is_mark c ≡ false → (c == 0) ≡ false → is_hidden c ≡ true
    → seen_from reads_text (hidden_text c ++ rest) ≡ character_seen c ++ seen_from reads_text rest
read_hidden c rest none nul hidden =
    let behind : List Seen = seen_from reads_text rest in
    ap (seen_from (in_tag [])) (regroup (hidden_tag c) (codes ">") (encode_utf8 c) (codes "</b>") rest)
    ∙ read_in_tag (hidden_tag c) [] (codes ">" ++ (encode_utf8 c ++ (codes "</b>" ++ rest))) (tag_free c)
    ∙ ap (λ (s : State). tag (hidden_tag c) ∷ seen_from s (encode_utf8 c ++ (codes "</b>" ++ rest))) (behind_hidden c)
    ∙ ap (λ (xs : List Seen). tag (hidden_tag c) ∷ xs)
    (read_text (encode_utf8 c) (codes "</b>" ++ rest) (mark_free c none))
    ∙ ap (λ (xs : List Seen). tag (hidden_tag c) ∷ xs)
    (sym (append_assoc (map in_text (encode_utf8 c)) (tag (codes "/b") ∷ []) behind))
    ∙ ap (λ (xs : List Seen). (tag (hidden_tag c) ∷ (xs ++ tag (codes "/b") ∷ [])) ++ behind) (sym (bytes_are c nul))
    ∙ ap (λ (xs : List Seen). xs ++ behind)
    (sym (ap (λ b. seen_hidden (b && not (c == 0)) c) hidden ∙ ap (λ b. seen_hidden (true && not b) c) nul))

read_by : (c : ℕ) (rest : List ℕ) (p q r s t u h : Bool) → (c == 60) ≡ p → (c == 38) ≡ q → (c == 34) ≡ r
    → (c == 39) ≡ s → (c == 13) ≡ t → (c == 0) ≡ u → is_hidden c ≡ h
    → seen_from reads_text ((if p then codes "&lt;" else if q then codes "&amp;" else if r then codes "&#34;"
    else if s then codes "&#39;" else if t then codes "&#13;" else if u then encode_utf8 nul_sign
    else if h then hidden_text c else encode_utf8 c) ++ rest)
    ≡ character_seen c ++ seen_from reads_text rest
read_by c rest true q r s t u h e60 e38 e34 e39 e13 e0 eh =
    subst (λ d. seen_from reads_text (codes "&lt;" ++ rest) ≡ character_seen d ++ seen_from reads_text rest)
    (sym (eqb-true c 60 e60)) (read_60 rest)
read_by c rest false true r s t u h e60 e38 e34 e39 e13 e0 eh =
    subst (λ d. seen_from reads_text (codes "&amp;" ++ rest) ≡ character_seen d ++ seen_from reads_text rest)
    (sym (eqb-true c 38 e38)) (read_38 rest)
read_by c rest false false true s t u h e60 e38 e34 e39 e13 e0 eh =
    subst (λ d. seen_from reads_text (codes "&#34;" ++ rest) ≡ character_seen d ++ seen_from reads_text rest)
    (sym (eqb-true c 34 e34)) (read_34 rest)
read_by c rest false false false true t u h e60 e38 e34 e39 e13 e0 eh =
    subst (λ d. seen_from reads_text (codes "&#39;" ++ rest) ≡ character_seen d ++ seen_from reads_text rest)
    (sym (eqb-true c 39 e39)) (read_39 rest)
read_by c rest false false false false true u h e60 e38 e34 e39 e13 e0 eh =
    subst (λ d. seen_from reads_text (codes "&#13;" ++ rest) ≡ character_seen d ++ seen_from reads_text rest)
    (sym (eqb-true c 13 e13)) (read_13 rest)
read_by c rest false false false false false true h e60 e38 e34 e39 e13 e0 eh =
    subst (λ d. seen_from reads_text (encode_utf8 nul_sign ++ rest) ≡ character_seen d ++ seen_from reads_text rest)
    (sym (eqb-true c 0 e0)) (read_0 rest)
read_by c rest false false false false false false true e60 e38 e34 e39 e13 e0 eh =
    read_hidden c rest (no_mark c e60 e38 e13 e0) e0 eh
read_by c rest false false false false false false false e60 e38 e34 e39 e13 e0 eh =
    read_plain c rest (no_mark c e60 e38 e13 e0) e0 eh

pub read_character : (c : ℕ) (rest : List ℕ)
    → seen_from reads_text (written c ++ rest) ≡ character_seen c ++ seen_from reads_text rest
read_character c rest =
    read_by c rest (c == 60) (c == 38) (c == 34) (c == 39) (c == 13) (c == 0) (is_hidden c) refl refl refl refl refl
    refl refl

title_by : (c : ℕ) (p q r s t u : Bool) → (c == 34) ≡ r
    → Free is_quote (if p then codes "&lt;" else if q then codes "&amp;" else if r then codes "&#34;"
    else if s then codes "&#39;" else if t then codes "&#13;" else if u then encode_utf8 nul_sign else encode_utf8 c)
title_by c true q r s t u e = free_from is_quote (codes "&lt;") refl
title_by c false true r s t u e = free_from is_quote (codes "&amp;") refl
title_by c false false true s t u e = free_from is_quote (codes "&#34;") refl
title_by c false false false true t u e = free_from is_quote (codes "&#39;") refl
title_by c false false false false true u e = free_from is_quote (codes "&#13;") refl
title_by c false false false false false true e = encode_free is_quote quotes_are_low nul_sign refl
title_by c false false false false false false e = encode_free is_quote quotes_are_low c e

pub title_free : (cs : List ℕ) → Free is_quote (flat_map in_title cs)
title_free [] = tt
title_free (c ∷ cs) =
    free_append is_quote (in_title c) (flat_map in_title cs)
    (title_by c (c == 60) (c == 38) (c == 34) (c == 39) (c == 13) (c == 0) refl) (title_free cs)
