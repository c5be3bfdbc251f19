-- The digits of an integer, one by one.
use Rattle.std.proofs.Common.{◌≡◌, ◌≢◌, ℕ, ◌+◌, ◌*◌, ◌<◌, ◌≤◌, Bool, true, false, List, [], ◌∷◌, length, drop, get_or}
use Rattle.std.proofs.Common.{refl, sym, ◌∙◌, ap, arith, ◌⊎◌, inl, inr, ◌||◌, ◌&&◌, ◌==◌, drop-cons, add-one}
use Rattle.std.proofs.lemmas.Bool.{eqb-true, eq-eqb}
use Rattle.std.proofs.lemmas.List.{drop_all}
use Rattle.std.proofs.lemmas.Bool.Decides.{nat_tests}
use Rattle.std.specs.List.{list_all}
use Rattle.std.specs.Char.{digit_value}
use Rattle.std.specs.Str.Parse.{digits_value_after}
use Rattle.js_kind.specs.Digits.{is_digit_of}
use Rattle.js_grammar.proofs.Tests.{and_true}
use Rattle.js_spell.specs.Integer.{is_underscore, is_digit_or_separator, without_separators}

-- further digits make a number no smaller
pub digits_value_after_grows : (radix n : ℕ) (ds : List ℕ) → 1 ≤ radix → n ≤ digits_value_after radix n ds
digits_value_after_grows radix n [] h = omega arith
digits_value_after_grows radix n (d ∷ ds) h =
    let more = digits_value_after_grows radix (n * radix + digit_value d) ds h in
    let here : n ≤ n * radix = grows n radix h in
    omega arith
  where
    grows : (n radix : ℕ) → 1 ≤ radix → n ≤ n * radix
    grows n radix h = grind arith

-- the character is no separator, or there are none
abbrev pub NoSeparator : Bool → ℕ → Type 0
NoSeparator has_separators c = (has_separators ≡ false) ⊎ (c ≢ 95)

falsified : (b : Bool) → (b ≡ true → ⊥) → b ≡ false
falsified true h = absurd (h refl)
falsified false h = refl

no_digit : (radix : ℕ) → radix ≤ 16 → is_digit_of radix 95 ≡ false
unfolding is_digit_of
no_digit radix h = grind (arith, nat_tests)

digit_alone : (a b : Bool) → (a || (false && b)) ≡ true → a ≡ true
digit_alone true b e = refl
digit_alone false b e = absurd (cc)

is_digit : (radix : ℕ) (has_separators : Bool) (c : ℕ) → radix ≤ 16
    → is_digit_or_separator radix has_separators c ≡ true → NoSeparator has_separators c → is_underscore c ≡ false
is_digit radix separators c small e (inr differs) = falsified (c == 95) (λ same. differs (eqb-true c 95 same))
is_digit radix true c small e (inl none) = absurd (cc)
is_digit radix false c small e (inl none) =
    falsified (c == 95) (λ same.
    let at : is_digit_of radix c ≡ true = digit_alone (is_digit_of radix c) (c == 95) e in
    let is : is_digit_of radix 95 ≡ true = ap (is_digit_of radix) (sym (eqb-true c 95 same)) ∙ at in
    let none : is_digit_of radix 95 ≡ false = no_digit radix small in
    cc)

-- the first of the characters that are left
first_left : (items : List ℕ) (i : ℕ) → i < length items → drop i items ≡ get_or items i 0 ∷ drop (i + 1) items
first_left items i h = rw add-one (drop-cons items i 0 h)

-- a digit is the next of those that are left
pub next_digit : (radix : ℕ) (has_separators : Bool) (items : List ℕ) (i : ℕ) → i < length items → radix ≤ 16
    → list_all (is_digit_or_separator radix has_separators) (drop i items) ≡ true
    → NoSeparator has_separators (get_or items i 0)
    → (without_separators (drop i items) ≡ get_or items i 0 ∷ without_separators (drop (i + 1) items))
    × (list_all (is_digit_or_separator radix has_separators) (drop (i + 1) items) ≡ true)
next_digit radix separators items i h small e none =
    let first = first_left items i h in
    let all = and_true _ _ (ap (list_all (is_digit_or_separator radix separators)) (sym first) ∙ e) in
    let digit : is_underscore (get_or items i 0) ≡ false =
    is_digit radix separators (get_or items i 0) small all.0 none in
    (ap without_separators first ∙ rw digit refl, all.1)

-- and a separator is left out
pub next_separator : (radix : ℕ) (has_separators : Bool) (items : List ℕ) (i : ℕ) → i < length items
    → list_all (is_digit_or_separator radix has_separators) (drop i items) ≡ true → get_or items i 0 ≡ 95
    → (without_separators (drop i items) ≡ without_separators (drop (i + 1) items))
    × (list_all (is_digit_or_separator radix has_separators) (drop (i + 1) items) ≡ true)
next_separator radix separators items i h e is =
    let first = first_left items i h in
    let all = and_true _ _ (ap (list_all (is_digit_or_separator radix separators)) (sym first) ∙ e) in
    let separator : is_underscore (get_or items i 0) ≡ true = eq-eqb (get_or items i 0) 95 is in
    (ap without_separators first ∙ rw separator refl, all.1)

-- what a digit makes of the number before it
pub digit_added : (radix value : ℕ) (has_separators : Bool) (items : List ℕ) (i : ℕ) → i < length items → radix ≤ 16
    → list_all (is_digit_or_separator radix has_separators) (drop i items) ≡ true
    → NoSeparator has_separators (get_or items i 0)
    → digits_value_after radix value (without_separators (drop i items))
    ≡ digits_value_after radix (value * radix + digit_value (get_or items i 0))
    (without_separators (drop (i + 1) items))
digit_added radix value separators items i h small e none =
    ap (digits_value_after radix value) (next_digit radix separators items i h small e none).0

-- where nothing is left
pub nothing_left : (items : List ℕ) (i : ℕ) → length items ≤ i → without_separators (drop i items) ≡ []
nothing_left items i h = ap without_separators (drop_all i items h)

digit_is_ascii : (radix c : ℕ) → radix ≤ 16 → is_digit_of radix c ≡ true → c < 128
unfolding is_digit_of
digit_is_ascii radix c h e = grind (arith, nat_tests)

is_ascii : (a : Bool) (radix : ℕ) (has_separators : Bool) (c : ℕ) → a ≡ is_digit_of radix c → radix ≤ 16
    → (a || (has_separators && is_underscore c)) ≡ true → c < 128
is_ascii true radix separators c is small e = digit_is_ascii radix c small (sym is)
is_ascii false radix true c is small e = let same = eqb-true c 95 e in omega arith
is_ascii false radix false c is small e = absurd (cc)

-- and it is an ASCII character
pub next_is_ascii : (radix : ℕ) (has_separators : Bool) (items : List ℕ) (i : ℕ) → i < length items → radix ≤ 16
    → list_all (is_digit_or_separator radix has_separators) (drop i items) ≡ true → get_or items i 0 < 128
next_is_ascii radix separators items i h small e =
    let first = first_left items i h in
    let all = and_true _ _ (ap (list_all (is_digit_or_separator radix separators)) (sym first) ∙ e) in
    is_ascii _ radix separators (get_or items i 0) refl small all.0
