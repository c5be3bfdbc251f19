-- A document is refused for one cause, and where none stands, for want of memory alone.
use Rattle.std.proofs.Common.{◌≡◌, ℕ, ◌<◌, List, length, refl, ap, arith, inl, inr, Result, Ok, Err}
use Rattle.std.specs.Prelude.{◌⊎◌, ◌^◌, IfErr, IsOk, OnOk}
use Rattle.js_relex.specs.Documents.{IsEdit, edited}
use Rattle.js_document.specs.Documents.{EditCause, TextCause}
use Rattle.js_document.specs.declared.fault.DocumentFault.{DocumentFault}
use Rattle.js_document.specs.declared.fault.DocumentFault.TheVariants.{BadEdit, Overlong, Memory}

-- Answers of which each fault has its cause; where all is fine there is none.
module _ (Cause : DocumentFault → Type 0) (one : (a b : DocumentFault) → Cause a → Cause b → a ≡ b) (Fine : Type 0)
    (none : (fault : DocumentFault) → Fine → Cause fault → ⊥) where
  pub exact_of : {A : Type 0} (r : Result A DocumentFault) → IfErr r (λ fault. (fault ≡ Memory) ⊎ Cause fault)
      → OnOk r Fine → (fault : DocumentFault) → Cause fault → (r ≡ Err fault) ⊎ (r ≡ Err Memory)
  exact_of (Ok x) caused fine fault h = absurd (none fault fine h)
  exact_of (Err f) caused fine fault h =
      elim caused [
        | inl e ↦ inr (ap Err e)
        | inr k ↦ inl (ap Err (one f fault k h))
      ]

  pub complete_of : {A : Type 0} (r : Result A DocumentFault) → IfErr r (λ fault. (fault ≡ Memory) ⊎ Cause fault) → Fine
      → IsOk r ⊎ (r ≡ Err Memory)
  complete_of (Ok x) caused fine = inl refl
  complete_of (Err f) caused fine =
      elim caused [
        | inl e ↦ inr (ap Err e)
        | inr k ↦ absurd (none f fine k)
      ]

-- There is one cause at most against a text, and none where it is short enough.
pub one_text_cause : (text : List ℕ) (a b : DocumentFault) → TextCause text a → TextCause text b → a ≡ b
one_text_cause text BadEdit b h k = absurd h
one_text_cause text Memory b h k = absurd h
one_text_cause text Overlong BadEdit h k = absurd k
one_text_cause text Overlong Overlong h k = refl
one_text_cause text Overlong Memory h k = absurd k

pub no_text_cause : (text : List ℕ) (fault : DocumentFault) → length text < 2 ^ 32 → TextCause text fault → ⊥
no_text_cause text BadEdit short h = h
no_text_cause text Overlong short h = absurd (omega (arith, short, h))
no_text_cause text Memory short h = h

-- The edit is one of the text, and makes no text that is too long.
pub record MayEdit (old : List ℕ) (start end : ℕ) (new : List ℕ) : Type 0 where
  pub edit : IsEdit old start end
  pub short : length (edited old start end new) < 2 ^ 32

-- There is one cause at most against an edit, and none where it may be made.
pub one_edit_cause : (old : List ℕ) (start end : ℕ) (new : List ℕ) (a b : DocumentFault)
    → EditCause old start end new a → EditCause old start end new b → a ≡ b
one_edit_cause old start end new Memory b h k = absurd h
one_edit_cause old start end new BadEdit BadEdit h k = refl
one_edit_cause old start end new BadEdit Overlong h k = absurd (h k.0)
one_edit_cause old start end new BadEdit Memory h k = absurd k
one_edit_cause old start end new Overlong BadEdit h k = absurd (k h.0)
one_edit_cause old start end new Overlong Overlong h k = refl
one_edit_cause old start end new Overlong Memory h k = absurd k

pub no_edit_cause : (old : List ℕ) (start end : ℕ) (new : List ℕ) (fault : DocumentFault) → MayEdit old start end new
    → EditCause old start end new fault → ⊥
no_edit_cause old start end new BadEdit may h = h may.edit
no_edit_cause old start end new Overlong may h =
    absurd (let short = may.short in let long = h.1 in omega (arith, short, long))
no_edit_cause old start end new Memory may h = h
