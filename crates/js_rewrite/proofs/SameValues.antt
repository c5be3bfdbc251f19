-- The value of a token that is read the same in another text is the same.
use Rattle.std.proofs.Common.{◌≡◌, ℕ, ◌+◌, ◌-◌, ◌≤◌, Bool, true, false, List, ◌++◌, length, take, drop, refl, sym}
use Rattle.std.proofs.Common.{◌∙◌, ap, subst, arith, length-drop, ◌||◌, Option, None, Some}
use Rattle.std.specs.Prelude.{if◌then◌else◌, slice_range}
use Rattle.std.specs.Str.{chars}
use Rattle.std.proofs.lemmas.List.{drop-append-le, drop-drop, take-append-le}
use Rattle.js_text.specs.JsStr.{units_of}
use Rattle.js_text.specs.declared.value.RowValue.{RowValue}
use Rattle.js_text.specs.declared.value.RowValue.TheVariants.{Nothing, Slice, Units, Bad}
use Rattle.js_kind.specs.TokenParts.{TokenParts}
use Rattle.js_kind.specs.Kinds.{is_template_kind}
use Rattle.js_grammar.specs.Reading.{moved_value}
use Rattle.js_grammar.specs.TokenText.{closing_length, is_private_name, is_quoted, is_valued, text_end, text_slice}
use Rattle.js_grammar.specs.TokenText.{text_start, unescaped_value}
use Rattle.js_grammar.specs.Values.{HasText, IsValueOf, template_row_value}
use Rattle.js_session.specs.SameRows.{SameValue}

-- the value is no stretch of its text
abbrev pub is_own : RowValue → Bool
is_own Nothing = false
is_own (Slice span) = false
is_own (Units us) = true
is_own Bad = true

-- such a value is the same anywhere
pub same_own : (text other : List ℕ) (p q : ℕ) (v : RowValue) → is_own (moved_value p v) ≡ true
    → SameValue text other (moved_value p v) (moved_value q v)
same_own text other p q Nothing e = absurd (cc)
same_own text other p q (Slice span) e = absurd (cc)
same_own text other p q (Units us) e = record { bad = refl; units = refl }
same_own text other p q Bad e = record { bad = refl; units = refl }

-- bytes of a text within those that stand at a place
one_range : (text bs rest : List ℕ) (p a m from to : ℕ) → from ≡ p + a → to ≡ from + m → a + m ≤ length bs
    → drop p text ≡ bs ++ rest → slice_range text from to ≡ take m (drop a bs)
one_range text bs rest p a m from to start end room e =
    let size : to - from ≡ m = omega (arith, end) in
    let inside : a ≤ length bs = omega (arith, room) in
    let short : m ≤ length (drop a bs) = omega (arith, room, length-drop a bs) in
    ap (λ n. take n (drop from text)) size
    ∙ ap (λ n. take m (drop n text)) start
    ∙ ap (take m) (sym (drop-drop a p text) ∙ ap (drop a) e ∙ drop-append-le a bs rest inside)
    ∙ take-append-le m (drop a bs) rest short

-- The stretches of two texts that have the same characters of a token.
pub record SameBytes (text other : List ℕ) (a b : TokenParts) : Type 0 where
  pub bytes : List ℕ
  pub rest : List ℕ
  pub left : List ℕ
  pub here : drop a.start text ≡ bytes ++ rest
  pub there : drop b.start other ≡ bytes ++ left
  pub end : a.end ≡ a.start + length bytes
  pub other_end : b.end ≡ b.start + length bytes

same_ranges : (text other : List ℕ) (a b : TokenParts) → SameBytes text other a b → (marked quoted : Bool) (closing : ℕ)
    → (if marked then a.start + 1 else a.start) ≤ (if quoted then a.end - closing else a.end)
    → (if marked then b.start + 1 else b.start) ≤ (if quoted then b.end - closing else b.end)
    → slice_range text (if marked then a.start + 1 else a.start) (if quoted then a.end - closing else a.end)
    ≡ slice_range other (if marked then b.start + 1 else b.start) (if quoted then b.end - closing else b.end)
same_ranges text other a b s true true closing h k =
    let n = length s.bytes in
    one_range text s.bytes s.rest a.start 1 ((n - closing) - 1) (a.start + 1) (a.end - closing) refl
    (omega (arith, h, s.end)) (omega (arith, h, s.end)) s.here
    ∙ sym
    (one_range other s.bytes s.left b.start 1 ((n - closing) - 1) (b.start + 1) (b.end - closing) refl
    (omega (arith, k, s.other_end)) (omega (arith, k, s.other_end)) s.there)
same_ranges text other a b s true false closing h k =
    let n = length s.bytes in
    one_range text s.bytes s.rest a.start 1 (n - 1) (a.start + 1) a.end refl
    (omega (arith, h, s.end)) (omega (arith, h, s.end)) s.here
    ∙ sym
    (one_range other s.bytes s.left b.start 1 (n - 1) (b.start + 1) b.end refl
    (omega (arith, k, s.other_end)) (omega (arith, k, s.other_end)) s.there)
same_ranges text other a b s false true closing h k =
    let n = length s.bytes in
    one_range text s.bytes s.rest a.start 0 (n - closing) a.start (a.end - closing) (omega arith)
    (omega (arith, h, s.end)) (omega (arith, h, s.end)) s.here
    ∙ sym
    (one_range other s.bytes s.left b.start 0 (n - closing) b.start (b.end - closing) (omega arith)
    (omega (arith, k, s.other_end)) (omega (arith, k, s.other_end)) s.there)
same_ranges text other a b s false false closing h k =
    let n = length s.bytes in
    one_range text s.bytes s.rest a.start 0 n a.start a.end (omega arith)
    (omega (arith, s.end)) (omega arith) s.here
    ∙ sym
    (one_range other s.bytes s.left b.start 0 n b.start b.end (omega arith)
    (omega (arith, s.other_end)) (omega arith) s.there)

same_plain : (text other : List ℕ) (a b : TokenParts) → SameBytes text other a b → a.kind ≡ b.kind → HasText text a
    → HasText other b → (valued : Bool)
    → SameValue text other (if valued then text_slice a.kind a.start a.end else Nothing)
    (if valued then text_slice b.kind b.start b.end else Nothing)
same_plain text other a b s kind h k false = record { bad = refl; units = refl }
same_plain text other a b s kind h k true =
    let there : text_start a.kind b.start ≤ text_end a.kind b.end =
    subst (λ z. text_start z b.start ≤ text_end z b.end) (sym kind) k.ordered in
    let same =
    same_ranges text other a b s (is_private_name a.kind || is_quoted a.kind) (is_quoted a.kind)
    (closing_length a.kind) h.ordered there in
    record {
      bad = refl;
      units =
          ap (λ bs. Some (units_of (chars bs)))
          (same ∙ ap (λ z. slice_range other (text_start z b.start) (text_end z b.end)) kind);
    }

own_decoded : (template : Bool) (us : List ℕ) (part : Option (List ℕ))
    → is_own (if template then template_row_value part else Units us) ≡ true
own_decoded true us None = refl
own_decoded true us (Some units) = refl
own_decoded false us part = refl

-- The values of a token, where what was read is moved.
pub same_value : (text other : List ℕ) (a b : TokenParts) (v : RowValue) → SameBytes text other a b
    → a.kind ≡ b.kind → a.escaped ≡ b.escaped → HasText text a → HasText other b
    → IsValueOf text a (moved_value a.start v) → IsValueOf other b (moved_value b.start v)
    → SameValue text other (moved_value a.start v) (moved_value b.start v)
same_value text other a b v s kind escaped h k is there = by_flag a.escaped refl
  where
    by_flag : (flag : Bool) → a.escaped ≡ flag → SameValue text other (moved_value a.start v) (moved_value b.start v)
    by_flag true e =
        same_own text other a.start b.start v
        (ap is_own (is.decoded e) ∙ own_decoded (is_template_kind a.kind) _ _)
    by_flag false e =
        let here = is.unescaped e in
        let behind = there.unescaped (sym escaped ∙ e) in
        subst (λ x. SameValue text other x (moved_value b.start v)) (sym here)
        (subst (SameValue text other (unescaped_value a.kind a.start a.end)) (sym behind)
        (subst
        (λ z. SameValue text other (unescaped_value a.kind a.start a.end)
        (if is_valued z then text_slice b.kind b.start b.end else Nothing)) kind
        (same_plain text other a b s kind h k (is_valued a.kind))))
