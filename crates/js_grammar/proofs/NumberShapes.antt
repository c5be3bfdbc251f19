-- Each number, before what may follow it, is cut into whole items, and so it is what is read.
use Rattle.std.proofs.Common.{◌≡◌, ℕ, ◌≤◌, Bool, true, false, List, [], ◌∷◌, ◌++◌, refl, sym, ◌∙◌, ap, subst, arith}
use Rattle.std.proofs.Common.{inl, inr, ◌==◌, ◌||◌, Some, None, append_assoc}
use Rattle.std.proofs.lemmas.List.{append-nil}
use Rattle.std.specs.Prelude.{codes}
use Rattle.js_text.specs.Characters.{begins}
use Rattle.js_text.specs.Ascii.{full_stop}
use Rattle.js_grammar.specs.Number.{Item, whole, run, Is, IsBeforePoint, IsNumber, Base, base_of, may_not_follow_number}
use Rattle.js_grammar.specs.Number.{excluded_after, latin_small_letter_n, digit_zero}
use Rattle.js_grammar.specs.Number.IsNumber.{prefixed, prefixed_big, decimal, decimal_big, with_point, with_exponent}
use Rattle.js_grammar.specs.Number.IsNumber.{point_first, legacy_octal, legacy_decimal}
use Rattle.js_grammar.specs.NumberReads.{no_items, items-cons, behind_digits, suffix_or, behind_prefix, zero_items}
use Rattle.js_grammar.specs.NumberReads.{number_items}
use Rattle.js_grammar.proofs.NumberClasses.{ends_number, suffix_stops}
use Rattle.js_grammar.proofs.NumberCuts.{Cuts, cons_cut, last_cut, none_cut, decimal_cut, legacy_octal_cut}
use Rattle.js_grammar.proofs.NumberCuts.{legacy_decimal_cut, nothing_cut, powered_cut, point_cut, exponent_begins}
use Rattle.js_grammar.proofs.NumberCuts.{mark_is_no_suffix, NoPrefix, no_prefix_ended, no_prefix_suffix}
use Rattle.js_grammar.proofs.NumberCuts.{no_prefix_point, no_prefix_mark}
use Rattle.js_grammar.proofs.NumberItems.{Stops, true_or_false, run_append}
use Rattle.js_grammar.proofs.NumberSteps.{suffix_there, suffix_missing, behind_digits_point, behind_prefix_whole}
use Rattle.js_grammar.proofs.NumberSteps.{zero_base, number_zero, number_point}
use Rattle.js_kind.specs.declared.kind.Kind.{Kind}
use Rattle.js_kind.specs.declared.kind.Kind.TheVariants.{Decimal, Float, DecimalBigInt}

pub or_false : (a b : Bool) → (a || b) ≡ false → (a ≡ false) × (b ≡ false)
or_false true b e = absurd (cc)
or_false false b e = (refl, e)

-- what may not follow a number of a kind begins with a character that follows none, but for a point
pub excluded_begins : (kind : Kind) (ys : List ℕ) → excluded_after kind ys ≡ false
    → begins may_not_follow_number ys ≡ false
excluded_begins Decimal ys e = (or_false (begins may_not_follow_number ys) (begins (λ c. c == full_stop) ys) e).0
excluded_begins _ ys e = e

-- the bases are small
some_base : (a b : Base) → Some a ≡ Some b → a.radix ≤ 16 → b.radix ≤ 16
some_base a b e h = let same : a ≡ b = cc in subst (λ (base : Base). base.radix ≤ 16) same h

pub base_is_small : (c : ℕ) (base : Base) → base_of c ≡ Some base → base.radix ≤ 16
base_is_small c base e =
    elim (true_or_false ((c == 98) || (c == 66))) [
      | inl is ↦ some_base _ base (rw is at e) (omega arith)
      | inr other ↦ elim (true_or_false ((c == 111) || (c == 79))) [
        | inl is ↦ some_base _ base (rw (other, is) at e) (omega arith)
        | inr another ↦ elim (true_or_false ((c == 120) || (c == 88))) [
          | inl is ↦ some_base _ base (rw (other, another, is) at e) (omega arith)
          | inr none ↦ (let h : None ≡ Some base = rw (other, another, none) at e in absurd (cc))
        ]
      ]
    ]

-- a number with a prefix
prefixed_cut : (c : ℕ) (base : Base) (ds zs ws ys : List ℕ) (kind : Kind) → base_of c ≡ Some base
    → Is (run base.radix) ds → Stops base.radix zs
    → Cuts (suffix_or base.big_kind (no_items base.kind zs) zs) ws ys kind
    → Cuts (number_items (digit_zero ∷ c ∷ (ds ++ zs))) (digit_zero ∷ c ∷ (ds ++ ws)) ys kind
prefixed_cut c base ds zs ws ys kind letter is stops cut =
    let text = digit_zero ∷ c ∷ (ds ++ zs) in
    let digits : run base.radix (ds ++ zs) ≡ whole ds zs = run_append base.radix ds zs is stops in
    let found : number_items text
    ≡ items-cons (whole (digit_zero ∷ c ∷ []) (ds ++ zs))
    (items-cons (whole ds zs) (suffix_or base.big_kind (no_items base.kind zs) zs)) =
    number_zero text refl refl ∙ ap (λ b. zero_items b text) letter ∙ zero_base base text
    ∙ ap (λ (item : Item). items-cons (whole (digit_zero ∷ c ∷ []) (ds ++ zs)) (behind_prefix base item)) digits
    ∙ ap (items-cons (whole (digit_zero ∷ c ∷ []) (ds ++ zs))) (behind_prefix_whole base (whole ds zs) refl) in
    rw found (cons_cut (digit_zero ∷ c ∷ []) (ds ++ zs) (ds ++ ws) ys kind _ (cons_cut ds zs ws ys kind _ cut))

-- digits before a point or an exponent
before_point_cut : (xs zs ws ys : List ℕ) (kind : Kind) → IsBeforePoint xs → NoPrefix zs
    → begins (λ c. c == latin_small_letter_n) zs ≡ false
    → Cuts (behind_digits zs) ws ys kind → Cuts (number_items (xs ++ zs)) (xs ++ ws) ys kind
before_point_cut xs zs ws ys kind (inl is) free suffix cut =
    decimal_cut xs zs ws ys kind is free (rw (suffix_missing DecimalBigInt (behind_digits zs) zs suffix) cut)
before_point_cut xs zs ws ys kind (inr is) free suffix cut = legacy_decimal_cut xs zs ws ys kind is free.stops cut

pub point_text : (ds fs es : List ℕ) → ds ++ codes "." ++ fs ++ es ≡ ds ++ (full_stop ∷ (fs ++ es))
point_text ds fs es = simp append_assoc

pub point_text_before : (ds fs es ys : List ℕ)
    → (ds ++ codes "." ++ fs ++ es) ++ ys ≡ ds ++ (full_stop ∷ (fs ++ (es ++ ys)))
point_text_before ds fs es ys = simp append_assoc

-- the same cut, where text, characters and kind are written otherwise
same_cut : (text other xs us ys : List ℕ) (kind j : Kind) → text ≡ other → xs ≡ us → kind ≡ j
    → Cuts (number_items other) us ys j → Cuts (number_items text) xs ys kind
same_cut text other xs us ys kind j t x k cut = rw (t, x, k) cut

-- Each number is cut into its items.
pub number_cut : (xs ys : List ℕ) (kind : Kind) → IsNumber xs kind → excluded_after kind ys ≡ false
    → Cuts (number_items (xs ++ ys)) xs ys kind
number_cut xs ys kind (prefixed c base ds letter is here kind_is) e =
    let end = ends_number ys (excluded_begins kind ys e) in
    let none : Cuts (suffix_or base.big_kind (no_items base.kind ys) ys) [] ys base.kind =
    rw (suffix_missing base.big_kind (no_items base.kind ys) ys end.suffix) (none_cut base.kind ys) in
    same_cut (xs ++ ys) (digit_zero ∷ c ∷ (ds ++ ys)) xs (digit_zero ∷ c ∷ (ds ++ [])) ys kind base.kind
    (ap (λ t. t ++ ys) here) (here ∙ ap (λ t. digit_zero ∷ c ∷ t) (sym (append-nil ds))) kind_is
    (prefixed_cut c base ds ys [] ys base.kind letter is (end.run base.radix (base_is_small c base letter)) none)
number_cut xs ys kind (prefixed_big c base ds letter is here kind_is) e =
    let suffix : Cuts
    (suffix_or base.big_kind (no_items base.kind (latin_small_letter_n ∷ ys)) (latin_small_letter_n ∷ ys))
    (codes "n") ys base.big_kind =
    rw (suffix_there base.big_kind (no_items base.kind (latin_small_letter_n ∷ ys))
    (latin_small_letter_n ∷ ys) refl) (last_cut base.big_kind (codes "n") ys) in
    same_cut (xs ++ ys) (digit_zero ∷ c ∷ (ds ++ (latin_small_letter_n ∷ ys))) xs
    (digit_zero ∷ c ∷ (ds ++ codes "n")) ys kind base.big_kind
    (ap (λ t. t ++ ys) here ∙ ap (λ t. digit_zero ∷ c ∷ t) (append_assoc ds (codes "n") ys)) here kind_is
    (prefixed_cut c base ds (latin_small_letter_n ∷ ys) (codes "n") ys base.big_kind letter is
    (suffix_stops base.radix ys (base_is_small c base letter)) suffix)
number_cut xs ys kind (decimal is kind_is) e =
    let none = or_false (begins may_not_follow_number ys) (begins (λ c. c == full_stop) ys) (rw kind_is at e) in
    let end = ends_number ys none.0 in
    let nothing : Cuts (suffix_or DecimalBigInt (behind_digits ys) ys) [] ys Decimal =
    rw (suffix_missing DecimalBigInt (behind_digits ys) ys end.suffix) (nothing_cut ys end none.1) in
    same_cut (xs ++ ys) (xs ++ ys) xs (xs ++ []) ys kind Decimal refl (sym (append-nil xs)) kind_is
    (decimal_cut xs ys [] ys Decimal is (no_prefix_ended ys none.0) nothing)
number_cut xs ys kind (decimal_big ds is here kind_is) e =
    let suffix : Cuts (suffix_or DecimalBigInt (behind_digits (latin_small_letter_n ∷ ys)) (latin_small_letter_n ∷ ys))
    (codes "n") ys DecimalBigInt =
    rw (suffix_there DecimalBigInt (behind_digits (latin_small_letter_n ∷ ys)) (latin_small_letter_n ∷ ys) refl)
    (last_cut DecimalBigInt (codes "n") ys) in
    same_cut (xs ++ ys) (ds ++ (latin_small_letter_n ∷ ys)) xs (ds ++ codes "n") ys kind DecimalBigInt
    (ap (λ t. t ++ ys) here ∙ append_assoc ds (codes "n") ys) here kind_is
    (decimal_cut ds (latin_small_letter_n ∷ ys) (codes "n") ys DecimalBigInt is (no_prefix_suffix ys) suffix)
number_cut xs ys kind (with_point ds fs es d f p here kind_is) e =
    let end = ends_number ys (excluded_begins kind ys e) in
    let rest = fs ++ (es ++ ys) in
    let cut : Cuts (behind_digits (full_stop ∷ rest)) (full_stop ∷ (fs ++ es)) ys Float =
    rw (behind_digits_point (full_stop ∷ rest) refl) (point_cut fs es ys f p end) in
    same_cut (xs ++ ys) (ds ++ (full_stop ∷ rest)) xs (ds ++ (full_stop ∷ (fs ++ es))) ys kind Float
    (ap (λ t. t ++ ys) here ∙ point_text_before ds fs es ys) (here ∙ point_text ds fs es) kind_is
    (before_point_cut ds (full_stop ∷ rest) (full_stop ∷ (fs ++ es)) ys Float d (no_prefix_point rest) refl cut)
number_cut xs ys kind (with_exponent ds es d p here) e =
    let end = ends_number ys (excluded_begins kind ys e) in
    let first = exponent_begins es ys kind p in
    same_cut (xs ++ ys) (ds ++ (es ++ ys)) xs (ds ++ es) ys kind kind
    (ap (λ t. t ++ ys) here ∙ append_assoc ds es ys) here refl
    (before_point_cut ds (es ++ ys) es ys kind d (no_prefix_mark (es ++ ys) first)
    (mark_is_no_suffix (es ++ ys) first) (powered_cut es ys kind p end))
number_cut xs ys kind (point_first fs es f p here kind_is) e =
    let end = ends_number ys (excluded_begins kind ys e) in
    let rest = fs ++ (es ++ ys) in
    same_cut (xs ++ ys) (full_stop ∷ rest) xs (full_stop ∷ (fs ++ es)) ys kind Float
    (ap (λ t. t ++ ys) here ∙ point_text_before [] fs es ys) (here ∙ point_text [] fs es) kind_is
    (rw (number_point (full_stop ∷ rest) refl) (point_cut fs es ys (inr f) p end))
number_cut xs ys kind (legacy_octal is kind_is) e =
    rw kind_is (legacy_octal_cut xs ys is (ends_number ys (excluded_begins kind ys e)))
number_cut xs ys kind (legacy_decimal is kind_is) e =
    let none = or_false (begins may_not_follow_number ys) (begins (λ c. c == full_stop) ys) (rw kind_is at e) in
    let end = ends_number ys none.0 in
    same_cut (xs ++ ys) (xs ++ ys) xs (xs ++ []) ys kind Decimal refl (sym (append-nil xs)) kind_is
    (legacy_decimal_cut xs ys [] ys Decimal is (end.run 10 (omega arith)) (nothing_cut ys end none.1))
