-- What is read of a number depends on its characters and on the first one behind them.
use Rattle.std.proofs.Common.{◌≡◌, ℕ, zero, suc, Bool, true, false, List, [], ◌∷◌, ◌++◌, length, take, drop, refl, sym}
use Rattle.std.proofs.Common.{◌∙◌, ap, subst, arith, inl, inr, ◌==◌, Option, Some, None, append_assoc, length-append}
use Rattle.std.proofs.Common.{append-nil}
use Rattle.std.proofs.lemmas.Bool.{eqb-true}
use Rattle.std.proofs.lemmas.List.{append_cancel_right, take-append-drop}
use Rattle.std.specs.Prelude.{codes, if◌then◌else◌}
use Rattle.js_text.specs.Ascii.{full_stop, low_line}
use Rattle.js_text.specs.Characters.{begins, before_first, from_first}
use Rattle.js_kind.specs.Digits.{is_digit_of}
use Rattle.js_kind.specs.declared.kind.Kind.{Kind}
use Rattle.js_kind.specs.declared.kind.Kind.TheVariants.{Eof, Decimal, Float, Octal, DecimalBigInt}
use Rattle.js_grammar.specs.Number.{Item, whole, broken, item-cons, digits_on, run, integer, Base, Sign}
use Rattle.js_grammar.specs.Number.{sign_text, sign_kind, are_digits, is_exponent_indicator, digit_zero}
use Rattle.js_grammar.specs.Number.{latin_small_letter_n, begins_number, may_not_follow_number}
use Rattle.js_grammar.specs.NumberReads.{Items, no_items, items-cons, last_item, sign_of, exponent_items, exponent_or}
use Rattle.js_grammar.specs.NumberReads.{fraction_items, point_items, behind_digits, suffix_or, decimal_items}
use Rattle.js_grammar.specs.NumberReads.{is_no_digit, unseparated_digits, legacy_items, behind_prefix, zero_items}
use Rattle.js_grammar.specs.NumberReads.{base_at}
use Rattle.js_grammar.specs.NumberReads.{number_items, items_text, missing_digit, missing_digits}
use Rattle.js_grammar.specs.NumberReads.{items_reading, number_reading}
use Rattle.js_grammar.proofs.Ahead.{BeginAlike}
use Rattle.js_grammar.proofs.NumberItems.{true_or_false, digits_on_text, zero_begins}
use Rattle.js_grammar.proofs.NumberSpans.{number_characters}
use Rattle.js_grammar.proofs.NumberSteps.{number_point, number_decimal, read_well, read_badly}
use Rattle.js_grammar.proofs.ReadingLemmas.{taken_is}

-- the characters before what is left of a text
record Behind (text rest : List ℕ) : Type 0 where
  front : List ℕ
  here : text ≡ front ++ rest

behind_behind : (a b c : List ℕ) → Behind a b → Behind b c → Behind a c
behind_behind a b c x y = record {
  front = x.front ++ y.front;
  here = x.here ∙ ap (λ t. x.front ++ t) y.here ∙ sym (append_assoc x.front y.front c);
}

all_behind : (a : List ℕ) → Behind a a
all_behind a = record { front = []; here = refl }

-- what is left of a text is not longer than it
too_long : (c : ℕ) (us rest left : List ℕ) → Behind us rest → rest ≡ left ++ (c ∷ us) → ⊥
too_long c us rest left behind e =
    absurd (omega (
      arith,
      ap length behind.here,
      length-append behind.front rest,
      ap length e,
      length-append left (c ∷ us),
    ))

some_left : (c : ℕ) (us left : List ℕ) → [] ≡ left ++ (c ∷ us) → ⊥
some_left c us left e = absurd (omega (arith, ap length e, length-append left (c ∷ us)))

-- a test of the first character tells the same of both texts
begins_same : (p : ℕ → Bool) (xs us vs : List ℕ) (c : ℕ) → begins p (xs ++ (c ∷ us)) ≡ begins p (xs ++ (c ∷ vs))
begins_same p [] us vs c = refl
begins_same p (x ∷ xs) us vs c = refl

-- an item is the same before another text that begins alike
record LocalItem (f : List ℕ → Item) : Type 0 where
  leaves : (t : List ℕ) → Behind t (f t).rest
  same : (xs left us vs : List ℕ) (c : ℕ) → (f (xs ++ (c ∷ us))).rest ≡ left ++ (c ∷ us)
      → f (xs ++ (c ∷ vs)) ≡ record (f (xs ++ (c ∷ us))) { rest = left ++ (c ∷ vs) }

-- digits
digits_same : (radix : ℕ) (xs left us vs : List ℕ) (c : ℕ) → (digits_on radix (xs ++ (c ∷ us))).rest ≡ left ++ (c ∷ us)
    → digits_on radix (xs ++ (c ∷ vs)) ≡ record (digits_on radix (xs ++ (c ∷ us))) { rest = left ++ (c ∷ vs) }
digits_same radix [] left us vs c e =
    let on = digits_on radix us in
    let behind : Behind us on.rest = record { front = on.text; here = digits_on_text radix us } in
    elim (true_or_false (is_digit_of radix c)) [
      | inl is ↦ absurd (too_long c us on.rest left behind (rw is at e))
      | inr other ↦ elim (true_or_false (c == low_line)) [
        | inl mark ↦ elim (true_or_false (begins (is_digit_of radix) us)) [
          | inl digit ↦ absurd (too_long c us on.rest left behind (rw (other, mark, digit) at e))
          | inr none ↦ absurd (too_long c us us left (all_behind us) (rw (other, mark, none) at e))
        ]
        | inr end ↦ (
            let at_end : [] ++ (c ∷ us) ≡ left ++ (c ∷ us) = rw (other, end) at e in
            rw (other, end)
            (ap (λ t. whole [] (t ++ (c ∷ vs))) (append_cancel_right [] left (c ∷ us) at_end)))
      ]
    ]
digits_same radix (x ∷ xs) left us vs c e =
    elim (true_or_false (is_digit_of radix x)) [
      | inl is ↦ rw is (ap (item-cons x) (digits_same radix xs left us vs c (rw is at e)))
      | inr other ↦ elim (true_or_false (x == low_line)) [
        | inl mark ↦ elim (true_or_false (begins (is_digit_of radix) (xs ++ (c ∷ us)))) [
          | inl digit ↦ (
              let there = sym (begins_same (is_digit_of radix) xs us vs c) ∙ digit in
              let more = digits_same radix xs left us vs c (rw (other, mark, digit) at e) in
              rw (other, mark, digit, there) (ap (item-cons x) more))
          | inr none ↦ (
              let there = sym (begins_same (is_digit_of radix) xs us vs c) ∙ none in
              let at_end : xs ++ (c ∷ us) ≡ left ++ (c ∷ us) = rw (other, mark, none) at e in
              rw (other, mark, none, there)
              (ap (λ t. broken (x ∷ []) (t ++ (c ∷ vs))) (append_cancel_right xs left (c ∷ us) at_end)))
        ]
        | inr end ↦ (
            let at_end : (x ∷ xs) ++ (c ∷ us) ≡ left ++ (c ∷ us) = rw (other, end) at e in
            rw (other, end)
            (ap (λ t. whole [] (t ++ (c ∷ vs))) (append_cancel_right (x ∷ xs) left (c ∷ us) at_end)))
      ]
    ]

digits_local : (radix : ℕ) → LocalItem (digits_on radix)
digits_local radix = record {
  leaves = λ t. record { front = (digits_on radix t).text; here = digits_on_text radix t };
  same = digits_same radix;
}

-- a choice by the first character
item_choice : (b : Bool) (l r : List ℕ) (f g x y : Item) → (f.rest ≡ l → x ≡ record f { rest = r })
    → (g.rest ≡ l → y ≡ record g { rest = r }) → (if b then f else g).rest ≡ l
    → (if b then x else y) ≡ record (if b then f else g) { rest = r }
item_choice true l r f g x y F G e = F e
item_choice false l r f g x y F G e = G e

behind_choice : (b : Bool) (t : List ℕ) (f g : Item) → Behind t f.rest → Behind t g.rest
    → Behind t (if b then f else g).rest
behind_choice true t f g F G = F
behind_choice false t f g F G = G

item_if : (p : ℕ → Bool) (f g : List ℕ → Item) → LocalItem f → LocalItem g
    → LocalItem (λ t. if begins p t then f t else g t)
item_if p f g F G = record {
  leaves = λ t. behind_choice (begins p t) t (f t) (g t) (F.leaves t) (G.leaves t);
  same = λ xs left us vs c e.
      let a = xs ++ (c ∷ us) in
      let b = xs ++ (c ∷ vs) in
      subst (λ q. (if q then f b else g b) ≡ record (if begins p a then f a else g a) { rest = left ++ (c ∷ vs) })
      (begins_same p xs us vs c)
      (item_choice (begins p a) (left ++ (c ∷ us)) (left ++ (c ∷ vs)) (f a) (g a) (f b) (g b)
      (F.same xs left us vs c) (G.same xs left us vs c) e);
}

-- characters that are skipped
drop_same : (n : ℕ) (xs left us vs : List ℕ) (c : ℕ) → drop n (xs ++ (c ∷ us)) ≡ left ++ (c ∷ us)
    → (take n (xs ++ (c ∷ vs)) ≡ take n (xs ++ (c ∷ us))) × (drop n (xs ++ (c ∷ vs)) ≡ left ++ (c ∷ vs))
drop_same zero xs left us vs c e = (refl, ap (λ t. t ++ (c ∷ vs)) (append_cancel_right xs left (c ∷ us) e))
drop_same (suc n) [] left us vs c e =
    absurd (too_long c us (drop n us) left (record { front = take n us; here = sym (take-append-drop n us) }) e)
drop_same (suc n) (x ∷ xs) left us vs c e =
    let more = drop_same n xs left us vs c e in (ap (λ t. x ∷ t) more.0, more.1)

drop_behind : (n : ℕ) (t : List ℕ) → Behind t (drop n t)
drop_behind n t = record { front = take n t; here = sym (take-append-drop n t) }

-- an item of known characters
known_local : (n : ℕ) (ws : List ℕ) → LocalItem (λ t. whole ws (drop n t))
known_local n ws = record {
  leaves = drop_behind n;
  same = λ xs left us vs c e. ap (whole ws) (drop_same n xs left us vs c e).1;
}

-- an item of so many characters
taken_local : (n : ℕ) → LocalItem (λ t. whole (take n t) (drop n t))
taken_local n = record {
  leaves = drop_behind n;
  same = λ xs left us vs c e.
      let both = drop_same n xs left us vs c e in
      ap (λ t. whole t (drop n (xs ++ (c ∷ vs)))) both.0 ∙ ap (whole (take n (xs ++ (c ∷ us)))) both.1;
}

-- an item that is missing
broken_local : LocalItem (λ t. broken [] t)
broken_local = record {
  leaves = all_behind;
  same = λ xs left us vs c e. ap (λ t. broken [] (t ++ (c ∷ vs))) (append_cancel_right xs left (c ∷ us) e);
}

run_local : (radix : ℕ) → LocalItem (run radix)
unfolding run
run_local radix =
    item_if (is_digit_of radix) (digits_on radix) (λ t. broken [] t) (digits_local radix) broken_local

integer_local : LocalItem integer
unfolding integer
integer_local =
    item_if (λ c. c == digit_zero) (λ t. whole (codes "0") (drop 1 t)) (run 10) (known_local 1 (codes "0"))
    (run_local 10)

-- all digits that stand here
plain_behind : (t : List ℕ) → t ≡ before_first is_no_digit t ++ from_first is_no_digit t
plain_behind [] = refl
plain_behind (c ∷ cs) =
    elim (true_or_false (is_digit_of 10 c)) [
      | inl is ↦ rw is (ap (λ t. c ∷ t) (plain_behind cs))
      | inr none ↦ rw none refl
    ]

plain_same : (xs left us vs : List ℕ) (c : ℕ) → from_first is_no_digit (xs ++ (c ∷ us)) ≡ left ++ (c ∷ us)
    → (before_first is_no_digit (xs ++ (c ∷ vs)) ≡ before_first is_no_digit (xs ++ (c ∷ us)))
    × (from_first is_no_digit (xs ++ (c ∷ vs)) ≡ left ++ (c ∷ vs))
plain_same [] left us vs c e =
    let behind : Behind us (from_first is_no_digit us) =
    record { front = before_first is_no_digit us; here = plain_behind us } in
    elim (true_or_false (is_digit_of 10 c)) [
      | inl is ↦ absurd (too_long c us (from_first is_no_digit us) left behind (rw is at e))
      | inr none ↦ (
          let at_end : [] ++ (c ∷ us) ≡ left ++ (c ∷ us) = rw none at e in
          rw none (refl, ap (λ t. t ++ (c ∷ vs)) (append_cancel_right [] left (c ∷ us) at_end)))
    ]
plain_same (x ∷ xs) left us vs c e =
    elim (true_or_false (is_digit_of 10 x)) [
      | inl is ↦ (
          let more = plain_same xs left us vs c (rw is at e) in
          rw is (ap (λ t. x ∷ t) more.0, more.1))
      | inr none ↦ (
          let at_end : (x ∷ xs) ++ (c ∷ us) ≡ left ++ (c ∷ us) = rw none at e in
          rw none (refl, ap (λ t. t ++ (c ∷ vs)) (append_cancel_right (x ∷ xs) left (c ∷ us) at_end)))
    ]

plain_local : LocalItem unseparated_digits
unfolding unseparated_digits
plain_local = record {
  leaves = λ t. record { front = before_first is_no_digit t; here = plain_behind t };
  same = λ xs left us vs c e.
      let both = plain_same xs left us vs c e in
      ap (λ t. whole t (from_first is_no_digit (xs ++ (c ∷ vs)))) both.0
      ∙ ap (whole (before_first is_no_digit (xs ++ (c ∷ us)))) both.1;
}

-- Items of which the same characters are known, and of which the same is reported, and what is left behind the second.
record Same (rest : List ℕ) (a b : Items) : Type 0 where
  text : items_text b.items ≡ items_text a.items
  reports : (place : ℕ) → missing_digits place b.items ≡ missing_digits place a.items
  kind : b.kind ≡ a.kind
  left : b.rest ≡ rest

-- items are the same before another text that begins alike
record Local (f : List ℕ → Items) : Type 0 where
  leaves : (t : List ℕ) → Behind t (f t).rest
  same : (xs left us vs : List ℕ) (c : ℕ) → (f (xs ++ (c ∷ us))).rest ≡ left ++ (c ∷ us)
      → Same (left ++ (c ∷ vs)) (f (xs ++ (c ∷ us))) (f (xs ++ (c ∷ vs)))

-- a choice of items
choice : (b : Bool) (l r : List ℕ) (f g x y : Items) → (f.rest ≡ l → Same r f x) → (g.rest ≡ l → Same r g y)
    → (if b then f else g).rest ≡ l → Same r (if b then f else g) (if b then x else y)
choice true l r f g x y F G e = F e
choice false l r f g x y F G e = G e

left_choice : (b : Bool) (t : List ℕ) (f g : Items) → Behind t f.rest → Behind t g.rest
    → Behind t (if b then f else g).rest
left_choice true t f g F G = F
left_choice false t f g F G = G

items_if : (p : ℕ → Bool) (f g : List ℕ → Items) → Local f → Local g → Local (λ t. if begins p t then f t else g t)
items_if p f g F G = record {
  leaves = λ t. left_choice (begins p t) t (f t) (g t) (F.leaves t) (G.leaves t);
  same = λ xs left us vs c e.
      let a = xs ++ (c ∷ us) in
      let b = xs ++ (c ∷ vs) in
      subst (λ q. Same (left ++ (c ∷ vs)) (if begins p a then f a else g a) (if q then f b else g b))
      (begins_same p xs us vs c)
      (choice (begins p a) (left ++ (c ∷ us)) (left ++ (c ∷ vs)) (f a) (g a) (f b) (g b)
      (F.same xs left us vs c) (G.same xs left us vs c) e);
}

-- no items
none_local : (kind : Kind) → Local (no_items kind)
none_local kind = record {
  leaves = all_behind;
  same = λ xs left us vs c e. record {
    text = refl;
    reports = λ place. refl;
    kind = refl;
    left = ap (λ t. t ++ (c ∷ vs)) (append_cancel_right xs left (c ∷ us) e);
  };
}

-- where a digit is missing, the first character behind it is reported
missing_same : (xs us vs : List ℕ) (c place : ℕ)
    → missing_digit place (xs ++ (c ∷ vs)) ≡ missing_digit place (xs ++ (c ∷ us))
missing_same [] us vs c place = refl
missing_same (x ∷ xs) us vs c place = refl

-- one more item in front
cons_same : (text : List ℕ) (lacks : Bool) (r s rest : List ℕ) (a b : Items)
    → ((place : ℕ) → missing_digit place s ≡ missing_digit place r) → Same rest a b
    → Same rest (items-cons (record { text = text; lacks_digit = lacks; rest = r }) a)
    (items-cons (record { text = text; lacks_digit = lacks; rest = s }) b)
cons_same text true r s rest a b missing more = record {
  text = ap (λ t. text ++ t) more.text;
  reports = λ place. rw (missing _, more.reports _) refl;
  kind = more.kind;
  left = more.left;
}
cons_same text false r s rest a b missing more = record {
  text = ap (λ t. text ++ t) more.text;
  reports = λ place. more.reports _;
  kind = more.kind;
  left = more.left;
}

-- where what is left of a text is known, and that it is left of an item
left_of_item : (c : ℕ) (us t rest left : List ℕ) → Behind t rest → rest ≡ left ++ (c ∷ us)
    → (xs : List ℕ) × (t ≡ xs ++ (c ∷ us)) × (rest ≡ left ++ (c ∷ us))
left_of_item c us t rest left behind e = (
  behind.front ++ left,
  behind.here ∙ ap (λ r. behind.front ++ r) e ∙ sym (append_assoc behind.front left (c ∷ us)),
  e,
)

cons_local : (f : List ℕ → Item) (g : List ℕ → Items) → LocalItem f → Local g
    → Local (λ t. items-cons (f t) (g (f t).rest))
cons_local f g F G = record {
  leaves = λ t. behind_behind t (f t).rest (g (f t).rest).rest (F.leaves t) (G.leaves (f t).rest);
  same = λ xs left us vs c e.
      let a = f (xs ++ (c ∷ us)) in
      let found = left_of_item c us a.rest (g a.rest).rest left (G.leaves a.rest) e in
      let s = found.0 ++ (c ∷ vs) in
      let more = G.same found.0 left us vs c (ap (λ t. (g t).rest) (sym found.1) ∙ e) in
      let both : Same (left ++ (c ∷ vs)) (g a.rest) (g s) =
      subst (λ t. Same (left ++ (c ∷ vs)) (g t) (g s)) (sym found.1) more in
      let missing : (place : ℕ) → missing_digit place s ≡ missing_digit place a.rest =
      λ place. missing_same found.0 us vs c place ∙ ap (missing_digit place) (sym found.1) in
      subst (λ (i : Item). Same (left ++ (c ∷ vs)) (items-cons a (g a.rest)) (items-cons i (g i.rest)))
      (sym (F.same xs found.0 us vs c found.1))
      (cons_same a.text a.lacks_digit a.rest s (left ++ (c ∷ vs)) (g a.rest) (g s) missing both);
}

-- one item at the end
last_local : (kind : Kind) (f : List ℕ → Item) → LocalItem f → Local (λ t. last_item kind (f t))
last_local kind f F = cons_local f (no_items kind) F (none_local kind)

-- a choice by the first item
item_test : (q : List ℕ → Bool → Bool) (f : List ℕ → Item) (g h : List ℕ → Items) → LocalItem f → Local g → Local h
    → ((t : List ℕ) → Behind (f t).rest (g t).rest) → ((t : List ℕ) → Behind (f t).rest (h t).rest)
    → Local (λ t. if q (f t).text (f t).lacks_digit then g t else h t)
item_test q f g h F G H first second = record {
  leaves = λ t. left_choice (q (f t).text (f t).lacks_digit) t (g t) (h t) (G.leaves t) (H.leaves t);
  same = λ xs left us vs c e.
      let a = xs ++ (c ∷ us) in
      let b = xs ++ (c ∷ vs) in
      let test = q (f a).text (f a).lacks_digit in
      let behind = left_choice test (f a).rest (g a) (h a) (first a) (second a) in
      let found = left_of_item c us (f a).rest (if test then g a else h a).rest left behind e in
      let item = F.same xs found.0 us vs c found.1 in
      subst
      (λ (i : Item).
      Same (left ++ (c ∷ vs)) (if test then g a else h a) (if q i.text i.lacks_digit then g b else h b)) (sym item)
      (choice test (left ++ (c ∷ us)) (left ++ (c ∷ vs)) (g a) (h a) (g b) (h b)
      (G.same xs left us vs c) (H.same xs left us vs c) e);
}

-- an exponent
exponent_local : (mark : ℕ) (sign : Sign) → Local (exponent_items mark sign)
unfolding exponent_items
exponent_local mark sign =
    cons_local (λ t. whole (mark ∷ sign_text sign) (drop (length (sign_text sign)) t))
    (λ t. last_item (sign_kind sign) (run 10 t)) (known_local (length (sign_text sign)) (mark ∷ sign_text sign))
    (last_local (sign_kind sign) (run 10) (run_local 10))

sign_same : (xs us vs : List ℕ) (c : ℕ) → sign_of (xs ++ (c ∷ us)) ≡ sign_of (xs ++ (c ∷ vs))
sign_same [] us vs c = refl
sign_same (x ∷ xs) us vs c = refl

one_behind : (c : ℕ) (us rest : List ℕ) → Behind us rest → Behind (c ∷ us) rest
one_behind c us rest behind = record { front = c ∷ behind.front; here = ap (λ t. c ∷ t) behind.here }

exponent_or_local : (kind : Kind) → Local (exponent_or kind)
unfolding exponent_or
exponent_or_local kind = record { leaves = leaves; same = same }
  where
    leaves : (t : List ℕ) → Behind t (exponent_or kind t).rest
    leaves [] = all_behind []
    leaves (c ∷ cs) =
        let exponent = exponent_items c (sign_of cs) cs in
        left_choice (is_exponent_indicator c) (c ∷ cs) exponent (no_items kind (c ∷ cs))
        (one_behind c cs exponent.rest ((exponent_local c (sign_of cs)).leaves cs)) (all_behind (c ∷ cs))

    same : (xs left us vs : List ℕ) (c : ℕ) → (exponent_or kind (xs ++ (c ∷ us))).rest ≡ left ++ (c ∷ us)
        → Same (left ++ (c ∷ vs)) (exponent_or kind (xs ++ (c ∷ us))) (exponent_or kind (xs ++ (c ∷ vs)))
    same [] left us vs c e =
        let exponent = exponent_items c (sign_of us) us in
        choice (is_exponent_indicator c) (left ++ (c ∷ us)) (left ++ (c ∷ vs)) exponent (no_items kind (c ∷ us))
        (exponent_items c (sign_of vs) vs) (no_items kind (c ∷ vs))
        (λ h. absurd (too_long c us exponent.rest left ((exponent_local c (sign_of us)).leaves us) h))
        ((none_local kind).same [] left us vs c) e
    same (x ∷ xs) left us vs c e =
        let a = xs ++ (c ∷ us) in
        let b = xs ++ (c ∷ vs) in
        choice (is_exponent_indicator x) (left ++ (c ∷ us)) (left ++ (c ∷ vs)) (exponent_items x (sign_of a) a)
        (no_items kind (x ∷ a)) (exponent_items x (sign_of b) b) (no_items kind (x ∷ b))
        (λ h. subst
        (λ s. Same (left ++ (c ∷ vs)) (exponent_items x (sign_of a) a) (exponent_items x s b)) (sign_same xs us vs c)
        ((exponent_local x (sign_of a)).same xs left us vs c h))
        ((none_local kind).same (x ∷ xs) left us vs c) e

-- what stands behind a point
fraction_local : Local fraction_items
unfolding fraction_items
fraction_local =
    items_if (is_digit_of 10) (λ t. items-cons (run 10 t) (exponent_or Float (run 10 t).rest)) (exponent_or Float)
    (cons_local (run 10) (exponent_or Float) (run_local 10) (exponent_or_local Float)) (exponent_or_local Float)

-- items of another kind
kind_local : (kind : Kind) (f : List ℕ → Items) → Local f → Local (λ t. record (f t) { kind = kind })
kind_local kind f F = record {
  leaves = F.leaves;
  same = λ xs left us vs c e.
      let more = F.same xs left us vs c e in
      record { text = more.text; reports = more.reports; kind = refl; left = more.left };
}

point_local : Local point_items
unfolding point_items
point_local =
    kind_local Float (λ t. items-cons (whole (codes ".") (drop 1 t)) (fraction_items (drop 1 t)))
    (cons_local (λ t. whole (codes ".") (drop 1 t)) fraction_items (known_local 1 (codes ".")) fraction_local)

behind_digits_local : Local behind_digits
unfolding behind_digits
behind_digits_local =
    items_if (λ c. c == full_stop) point_items (exponent_or Decimal) point_local (exponent_or_local Decimal)

-- a suffix
suffix_local : (big : Kind) (f : List ℕ → Items) → Local f → Local (λ t. suffix_or big (f t) t)
unfolding suffix_or
suffix_local big f F =
    items_if (λ c. c == latin_small_letter_n) (λ t. last_item big (whole (codes "n") (drop 1 t))) f
    (last_local big (λ t. whole (codes "n") (drop 1 t)) (known_local 1 (codes "n"))) F

-- numbers
decimal_local : Local decimal_items
unfolding decimal_items
decimal_local =
    cons_local integer (λ t. suffix_or DecimalBigInt (behind_digits t) t) integer_local
    (suffix_local DecimalBigInt behind_digits behind_digits_local)

legacy_local : Local legacy_items
unfolding legacy_items
legacy_local =
    item_test (λ text lacks. are_digits 8 text) unseparated_digits (λ t. last_item Octal (unseparated_digits t))
    (λ t. items-cons (unseparated_digits t) (behind_digits (unseparated_digits t).rest)) plain_local
    (last_local Octal unseparated_digits plain_local)
    (cons_local unseparated_digits behind_digits plain_local behind_digits_local)
    (λ t. all_behind (unseparated_digits t).rest) (λ t. behind_digits_local.leaves (unseparated_digits t).rest)

nothing_behind : (t : List ℕ) → Behind t []
nothing_behind t = record { front = t; here = sym (append-nil t) }

-- a token that takes all that is left
broken_off_local : (f : List ℕ → Item) → Local (λ t. record { items = f t ∷ []; kind = Eof; rest = [] })
broken_off_local f = record {
  leaves = nothing_behind;
  same = λ xs left us vs c e. absurd (some_left c us left e);
}

prefix_local : (base : Base) → Local (λ t. behind_prefix base (run base.radix t))
unfolding behind_prefix
prefix_local base =
    let digits = run base.radix in
    let more = suffix_local base.big_kind (no_items base.kind) (none_local base.kind) in
    item_test (λ text lacks. lacks) digits (λ t. record { items = digits t ∷ []; kind = Eof; rest = [] })
    (λ t. items-cons (digits t) (suffix_or base.big_kind (no_items base.kind (digits t).rest) (digits t).rest))
    (run_local base.radix) (broken_off_local digits)
    (cons_local digits (λ t. suffix_or base.big_kind (no_items base.kind t) t) (run_local base.radix) more)
    (λ t. nothing_behind (digits t).rest) (λ t. more.leaves (digits t).rest)

-- behind its first character, a number that begins with `0`
zero_same : (base : Option Base) (x : ℕ) (xs left us vs : List ℕ) (c : ℕ)
    → (zero_items base ((x ∷ xs) ++ (c ∷ us))).rest ≡ left ++ (c ∷ us)
    → Same (left ++ (c ∷ vs)) (zero_items base ((x ∷ xs) ++ (c ∷ us))) (zero_items base ((x ∷ xs) ++ (c ∷ vs)))
unfolding zero_items
zero_same (Some base) x xs left us vs c e =
    (cons_local (λ t. whole (take 2 t) (drop 2 t)) (λ t. behind_prefix base (run base.radix t)) (taken_local 2)
    (prefix_local base)).same (x ∷ xs) left us vs c e
zero_same None x xs left us vs c e =
    let a = (x ∷ xs) ++ (c ∷ us) in
    let b = (x ∷ xs) ++ (c ∷ vs) in
    let digit = begins (is_digit_of 10) (xs ++ (c ∷ us)) in
    subst
    (λ q. Same (left ++ (c ∷ vs)) (if digit then legacy_items a else decimal_items a)
    (if q then legacy_items b else decimal_items b)) (begins_same (is_digit_of 10) xs us vs c)
    (choice digit (left ++ (c ∷ us)) (left ++ (c ∷ vs)) (legacy_items a) (decimal_items a) (legacy_items b)
    (decimal_items b) (legacy_local.same (x ∷ xs) left us vs c) (decimal_local.same (x ∷ xs) left us vs c) e)

base_same : (xs us vs : List ℕ) (c : ℕ) → base_at (xs ++ (c ∷ us)) ≡ base_at (xs ++ (c ∷ vs))
base_same [] us vs c = refl
base_same (x ∷ xs) us vs c = refl

-- the items of a number that takes characters
number_same : (x : ℕ) (xs left us vs : List ℕ) (c : ℕ)
    → (number_items ((x ∷ xs) ++ (c ∷ us))).rest ≡ left ++ (c ∷ us)
    → Same (left ++ (c ∷ vs)) (number_items ((x ∷ xs) ++ (c ∷ us))) (number_items ((x ∷ xs) ++ (c ∷ vs)))
unfolding number_items
number_same x xs left us vs c e =
    let a = (x ∷ xs) ++ (c ∷ us) in
    let b = (x ∷ xs) ++ (c ∷ vs) in
    let l = left ++ (c ∷ us) in
    let r = left ++ (c ∷ vs) in
    let base = base_at (xs ++ (c ∷ us)) in
    let other = base_at (xs ++ (c ∷ vs)) in
    choice (x == full_stop) l r (point_items a)
    (if x == digit_zero then zero_items base a else decimal_items a) (point_items b)
    (if x == digit_zero then zero_items other b else decimal_items b) (point_local.same (x ∷ xs) left us vs c)
    (choice (x == digit_zero) l r (zero_items base a) (decimal_items a) (zero_items other b) (decimal_items b)
    (λ h. subst (λ (o : Option Base). Same r (zero_items base a) (zero_items o b)) (base_same xs us vs c)
    (zero_same base x xs left us vs c h)) (decimal_local.same (x ∷ xs) left us vs c)) e

-- and of one that takes none
no_number_same : (left us vs : List ℕ) (c : ℕ) → begins_number (c ∷ us) ≡ false
    → (number_items (c ∷ us)).rest ≡ left ++ (c ∷ us)
    → Same (left ++ (c ∷ vs)) (number_items (c ∷ us)) (number_items (c ∷ vs))
no_number_same left us vs c none e =
    elim (true_or_false (c == full_stop)) [
      | inl is ↦
          rw (number_point (c ∷ us) is, number_point (c ∷ vs) is)
          (point_local.same [] left us vs c (rw (number_point (c ∷ us) is) at e))
      | inr other ↦ elim (true_or_false (c == digit_zero)) [
        | inl is ↦ (
            let digit : is_digit_of 10 c ≡ true = ap (is_digit_of 10) (eqb-true c digit_zero is) ∙ zero_begins in
            let no : true ≡ false = sym digit ∙ rw other at none in
            absurd (cc))
        | inr nonzero ↦
            rw (number_decimal (c ∷ us) other nonzero, number_decimal (c ∷ vs) other nonzero)
            (decimal_local.same [] left us vs c (rw (number_decimal (c ∷ us) other nonzero) at e))
      ]
    ]

-- What is read of items that are the same.
reading_same : (xs us vs : List ℕ) (c : ℕ) (a b : Items) → a.rest ≡ c ∷ us → Same (c ∷ vs) a b
    → begins may_not_follow_number a.rest ≡ false
    → items_reading (xs ++ (c ∷ vs)) b ≡ record (items_reading (xs ++ (c ∷ us)) a) { rest = c ∷ vs }
reading_same xs us vs c a b e same well =
    let there : begins may_not_follow_number b.rest ≡ false =
    ap (begins may_not_follow_number) same.left ∙ ap (begins may_not_follow_number) (sym e) ∙ well in
    rw (read_well (xs ++ (c ∷ us)) a well, read_well (xs ++ (c ∷ vs)) b there)
    (rw (
      same.left,
      same.kind,
      same.text,
      same.reports 0,
      e,
      taken_is (xs ++ (c ∷ vs)) xs (c ∷ vs) refl,
      taken_is (xs ++ (c ∷ us)) xs (c ∷ us) refl,
    ) refl)

-- a number that reaches up to there ends well
ends_well : (text us : List ℕ) (c : ℕ) → (number_reading text).rest ≡ c ∷ us
    → ((number_items text).rest ≡ c ∷ us) × (begins may_not_follow_number (number_items text).rest ≡ false)
ends_well text us c e =
    let number = number_items text in
    elim (true_or_false (begins may_not_follow_number number.rest)) [
      | inl bad ↦ (let no : [] ≡ c ∷ us = rw (read_badly text number bad) at e in absurd (cc))
      | inr well ↦ (rw (read_well text number well) at e, well)
    ]

local_at : (xs us vs : List ℕ) (c : ℕ) → (number_reading (xs ++ (c ∷ us))).rest ≡ c ∷ us
    → number_reading (xs ++ (c ∷ vs)) ≡ record (number_reading (xs ++ (c ∷ us))) { rest = c ∷ vs }
local_at [] us vs c e =
    let end = ends_well (c ∷ us) us c e in
    elim (true_or_false (begins_number (c ∷ us))) [
      | inl begun ↦ elim (number_characters (c ∷ us) begun).leaves [
        | inl broken ↦ (let no : [] ≡ c ∷ us = sym broken.1 ∙ e in absurd (cc))
        | inr some ↦ (
            let all : [] ++ (c ∷ us) ≡ some.0 ++ (c ∷ us) = some.2 ∙ ap (λ t. some.0 ++ t) e in
            absurd (some.1 (sym (append_cancel_right [] some.0 (c ∷ us) all))))
      ]
      | inr none ↦
          reading_same [] us vs c (number_items (c ∷ us)) (number_items (c ∷ vs)) end.0
          (no_number_same [] us vs c none end.0) end.1
    ]
local_at (x ∷ xs) us vs c e =
    let end = ends_well ((x ∷ xs) ++ (c ∷ us)) us c e in
    reading_same (x ∷ xs) us vs c (number_items ((x ∷ xs) ++ (c ∷ us))) (number_items ((x ∷ xs) ++ (c ∷ vs))) end.0
    (number_same x xs [] us vs c end.0) end.1

-- What is read of a number is the same before another text that begins alike.
pub number_local : (xs ys zs : List ℕ) → BeginAlike ys zs → (number_reading (xs ++ ys)).rest ≡ ys
    → number_reading (xs ++ zs) ≡ record (number_reading (xs ++ ys)) { rest = zs }
number_local xs ys zs alike =
    let P : List ℕ → List ℕ → Type 0 = λ a b. (number_reading (xs ++ a)).rest ≡ a
    → number_reading (xs ++ b) ≡ record (number_reading (xs ++ a)) { rest = b } in
    subst (λ a. P a zs) (sym alike.here)
    (subst (λ b. P (alike.first ∷ alike.rest) b) (sym alike.there)
    (local_at xs alike.rest alike.other alike.first))
