-- A reading that ends four bytes before what may differ is the same in every text with that front.
use Rattle.std.proofs.Common.{◌≡◌, ℕ, zero, suc, ◌+◌, ◌-◌, ◌<◌, ◌≤◌, List, [], ◌∷◌, ◌++◌, length}
use Rattle.std.proofs.Common.{drop}
use Rattle.std.proofs.Common.{refl, sym, ◌∙◌, ap, subst, arith, length-append, length-drop}
use Rattle.std.specs.Prelude.{slice_index, take}
use Rattle.std.specs.Str.{IsCharBoundary, IsUtf8, chars}
use Rattle.std.proofs.lemmas.List.{drop-append-le, drop-drop, take-append-drop, take-append-le}
use Rattle.std.proofs.lemmas.Str.{IsUtf8-between, IsUtf8-drop, chars-append}
use Rattle.js_text.specs.Characters.{from_place}
use Rattle.js_grammar.proofs.Ahead.{AgreeFor, BeginAlike}
use Rattle.js_grammar.proofs.TextsAhead.{agree_four, alike_bytes}

-- two texts with the same front
pub record SameFront (front rest other : List ℕ) : Type 0 where
  pub utf8 : IsUtf8 (front ++ rest)
  pub other_utf8 : IsUtf8 (front ++ other)

-- a byte of the front
front_byte : (xs ys : List ℕ) (i : ℕ) → i < length xs → slice_index (xs ++ ys) i ≡ slice_index xs i
front_byte [] ys i inside = absurd (omega (arith, inside))
front_byte (x ∷ xs) ys zero inside = refl
front_byte (x ∷ xs) ys (suc i) inside = front_byte xs ys i (omega (arith, inside))

-- a place inside the front
pub boundary_same : (front rest other : List ℕ) (p : ℕ) → p < length front → IsCharBoundary (front ++ rest) p
    → IsCharBoundary (front ++ other) p
boundary_same front rest other p inside b = (
  omega (arith, inside, length-append front other),
  λ less far.
      let same : slice_index (front ++ rest) p ≡ slice_index (front ++ other) p =
      front_byte front rest p inside ∙ sym (front_byte front other p inside) in
      subst (λ (b : ℕ). 192 ≤ b) same
      (b.1 (omega (arith, inside, length-append front rest)) (subst (λ (b : ℕ). 128 ≤ b) (sym same) far)),
)

-- What stands from a place up to another, in both texts.
pub record Around (text other : List ℕ) (p e : ℕ) : Type 0 where
  pub part : List ℕ
  pub here : from_place text p ≡ part ++ from_place text e
  pub there : from_place other p ≡ part ++ from_place other e

cut_front : (front rest : List ℕ) (p e : ℕ) → p ≤ e → e ≤ length front
    → drop p (front ++ rest) ≡ take (e - p) (drop p front) ++ drop e (front ++ rest)
cut_front front rest p e ordered inside =
    let sum : p + (e - p) ≡ e = omega (arith, ordered) in
    let fits : e - p ≤ length (drop p front) = omega (arith, ordered, inside, length-drop p front) in
    sym (take-append-drop (e - p) (drop p (front ++ rest)))
    ∙ ap (λ t. take (e - p) t ++ drop (e - p) (drop p (front ++ rest)))
    (drop-append-le p front rest (omega (arith, ordered, inside)))
    ∙ ap (λ t. t ++ drop (e - p) (drop p (front ++ rest))) (take-append-le (e - p) (drop p front) rest fits)
    ∙ ap (λ t. take (e - p) (drop p front) ++ t)
    (drop-drop (e - p) p (front ++ rest) ∙ ap (λ n. drop n (front ++ rest)) sum)

pub around : (front rest other : List ℕ) (p e : ℕ) → SameFront front rest other → p ≤ e → e ≤ length front
    → IsCharBoundary (front ++ rest) p → IsCharBoundary (front ++ rest) e
    → Around (front ++ rest) (front ++ other) p e
around front rest other p e both ordered inside b d =
    let middle = take (e - p) (drop p front) in
    let fits : e - p ≤ length (drop p front) = omega (arith, ordered, inside, length-drop p front) in
    let same : take (e - p) (drop p (front ++ rest)) ≡ middle =
    ap (take (e - p)) (drop-append-le p front rest (omega (arith, ordered, inside)))
    ∙ take-append-le (e - p) (drop p front) rest fits in
    let u : IsUtf8 middle = subst IsUtf8 same (IsUtf8-between (front ++ rest) p e both.utf8 ordered b d) in
    record {
      part = chars middle;
      here =
          ap chars (cut_front front rest p e ordered inside) ∙ chars-append middle (drop e (front ++ rest)) u;
      there =
          ap chars (cut_front front other p e ordered inside) ∙ chars-append middle (drop e (front ++ other)) u;
    }

-- what stands behind a place that is four bytes at least before the end of the front
pub record GoesOnAlike (text other : List ℕ) (e : ℕ) : Type 0 where
  pub alike : BeginAlike (from_place text e) (from_place other e)
  pub agree : AgreeFor 4 (from_place text e) (from_place other e)

pub goes_on_alike : (front rest other : List ℕ) (e : ℕ) → SameFront front rest other → e + 4 ≤ length front
    → IsCharBoundary (front ++ rest) e → GoesOnAlike (front ++ rest) (front ++ other) e
goes_on_alike front rest other e both room b =
    let inside : e ≤ length front = omega (arith, room) in
    let left : 4 ≤ length (drop e front) = omega (arith, room, length-drop e front) in
    let here : drop e (front ++ rest) ≡ drop e front ++ rest = drop-append-le e front rest inside in
    let there : drop e (front ++ other) ≡ drop e front ++ other = drop-append-le e front other inside in
    let u = subst IsUtf8 here (IsUtf8-drop (front ++ rest) e both.utf8 b) in
    let v =
    subst IsUtf8 there
    (IsUtf8-drop (front ++ other) e both.other_utf8
    (boundary_same front rest other e (omega (arith, room)) b)) in
    record {
      alike =
          subst (λ t. BeginAlike t (from_place (front ++ other) e)) (ap chars (sym here))
          (subst (λ t. BeginAlike (chars (drop e front ++ rest)) t) (ap chars (sym there))
          (alike_bytes (drop e front) rest other left u v));
      agree =
          subst (λ t. AgreeFor 4 t (from_place (front ++ other) e)) (ap chars (sym here))
          (subst (λ t. AgreeFor 4 (chars (drop e front ++ rest)) t) (ap chars (sym there))
          (agree_four (drop e front) rest other left u v));
    }
