-- A document is refused for one cause, and where none stands, for want of memory alone.
use Rattle.std.proofs.Common.{◌≡◌, ℕ, zero, suc, ◌<◌, true, false, List, [], ◌∷◌, length, take, refl, sym, ◌∙◌, ap}
use Rattle.std.proofs.Common.{arith, inl, inr, Result, Ok, Err}
use Rattle.std.specs.Prelude.{◌⊎◌, ◌^◌, IfErr, IsOk, OnOk}
use Rattle.std.specs.List.{list_all}
use Rattle.std.proofs.lemmas.Bool.{and_parts}
use Rattle.js_session.specs.declared.command.Command.{Command}
use Rattle.js_session.specs.Effects.{is_lasting}
use Rattle.js_relex.specs.Documents.{Cause, EditCause, IsEdit, IsFirstBad, edited}
use Rattle.js_relex.specs.declared.fault.RelexFault.{RelexFault}
use Rattle.js_relex.specs.declared.fault.RelexFault.TheVariants.{BadEdit, Overlong, BadCommand, Memory}

first_is_bad : (c : Command) (cs : List Command) → IsFirstBad (c ∷ cs) zero → is_lasting c ≡ false
first_is_bad c cs h = let same = h.is_there in let bad = h.bad in cc

behind_first : (c : Command) (cs : List Command) (i : ℕ) → IsFirstBad (c ∷ cs) (suc i) → IsFirstBad cs i
behind_first c cs i h = record {
  command = h.command;
  is_there = h.is_there;
  bad = h.bad;
  before = (and_parts (is_lasting c) (list_all is_lasting (take i cs)) h.before).1;
}

first_lasts : (c : Command) (cs : List Command) (i : ℕ) → IsFirstBad (c ∷ cs) (suc i) → is_lasting c ≡ true
first_lasts c cs i h = (and_parts (is_lasting c) (list_all is_lasting (take i cs)) h.before).0

one_bad : (cs : List Command) (i j : ℕ) → IsFirstBad cs i → IsFirstBad cs j → i ≡ j
one_bad [] i j a b = absurd (let no = a.is_there in cc)
one_bad (c ∷ cs) zero zero a b = refl
one_bad (c ∷ cs) zero (suc j) a b =
    absurd (let no : true ≡ false = sym (first_lasts c cs j b) ∙ first_is_bad c cs a in cc)
one_bad (c ∷ cs) (suc i) zero a b =
    absurd (let no : true ≡ false = sym (first_lasts c cs i a) ∙ first_is_bad c cs b in cc)
one_bad (c ∷ cs) (suc i) (suc j) a b = ap suc (one_bad cs i j (behind_first c cs i a) (behind_first c cs j b))

none_bad : (cs : List Command) (i : ℕ) → list_all is_lasting cs ≡ true → IsFirstBad cs i → ⊥
none_bad [] i all h = absurd (let no = h.is_there in cc)
none_bad (c ∷ cs) zero all h =
    absurd
    (let no : true ≡ false = sym (and_parts (is_lasting c) (list_all is_lasting cs) all).0 ∙ first_is_bad c cs h in cc)
none_bad (c ∷ cs) (suc i) all h =
    none_bad cs i (and_parts (is_lasting c) (list_all is_lasting cs) all).1 (behind_first c cs i h)

no_cause : (text : List ℕ) (commands : List Command) (fault : RelexFault) → length text < 2 ^ 32
    → list_all is_lasting commands ≡ true → Cause text commands fault → ⊥
no_cause text commands BadEdit short lasting h = h
no_cause text commands Overlong short lasting h = absurd (omega (arith, short, h))
no_cause text commands (BadCommand i) short lasting h = none_bad commands i lasting h.1
no_cause text commands Memory short lasting h = h

one_cause : (text : List ℕ) (commands : List Command) (a b : RelexFault) → Cause text commands a
    → Cause text commands b → a ≡ b
one_cause text commands BadEdit b h k = absurd h
one_cause text commands Memory b h k = absurd h
one_cause text commands Overlong BadEdit h k = absurd k
one_cause text commands Overlong Memory h k = absurd k
one_cause text commands Overlong Overlong h k = refl
one_cause text commands Overlong (BadCommand j) h k = absurd (let short = k.0 in omega (arith, short, h))
one_cause text commands (BadCommand i) BadEdit h k = absurd k
one_cause text commands (BadCommand i) Memory h k = absurd k
one_cause text commands (BadCommand i) Overlong h k = absurd (let short = h.0 in omega (arith, short, k))
one_cause text commands (BadCommand i) (BadCommand j) h k = ap BadCommand (one_bad commands i j h.1 k.1)

pub exact_of : {A : Type 0} (r : Result A RelexFault) (text : List ℕ) (commands : List Command)
    → IfErr r (λ fault. (fault ≡ Memory) ⊎ Cause text commands fault)
    → OnOk r ((length text < 2 ^ 32) × (list_all is_lasting commands ≡ true))
    → (fault : RelexFault) → Cause text commands fault → (r ≡ Err fault) ⊎ (r ≡ Err Memory)
exact_of (Ok x) text commands caused ok fault h = absurd (no_cause text commands fault ok.0 ok.1 h)
exact_of (Err f) text commands caused ok fault h =
    elim caused [
      | inl e ↦ inr (ap Err e)
      | inr k ↦ inl (ap Err (one_cause text commands f fault k h))
    ]

pub complete_of : {A : Type 0} (r : Result A RelexFault) (text : List ℕ) (commands : List Command)
    → IfErr r (λ fault. (fault ≡ Memory) ⊎ Cause text commands fault) → length text < 2 ^ 32
    → list_all is_lasting commands ≡ true → IsOk r ⊎ (r ≡ Err Memory)
complete_of (Ok x) text commands caused short lasting = inl refl
complete_of (Err f) text commands caused short lasting =
    elim caused [
      | inl e ↦ inr (ap Err e)
      | inr k ↦ absurd (no_cause text commands f short lasting k)
    ]

-- An edit that is made has no cause against it.
pub no_edit_cause : (old : List ℕ) (start end : ℕ) (new : List ℕ) (commands : List Command) (fault : RelexFault)
    → IsEdit old start end → length (edited old start end new) < 2 ^ 32 → list_all is_lasting commands ≡ true
    → EditCause old start end new commands fault → ⊥
no_edit_cause old start end new commands BadEdit edit short lasting h = h edit
no_edit_cause old start end new commands Overlong edit short lasting h =
    no_cause (edited old start end new) commands Overlong short lasting h.1
no_edit_cause old start end new commands (BadCommand i) edit short lasting h =
    no_cause (edited old start end new) commands (BadCommand i) short lasting h.1
no_edit_cause old start end new commands Memory edit short lasting h = h

-- There is one cause at most against an edit.
one_edit_cause : (old : List ℕ) (start end : ℕ) (new : List ℕ) (commands : List Command) (a b : RelexFault)
    → EditCause old start end new commands a → EditCause old start end new commands b → a ≡ b
one_edit_cause old start end new commands BadEdit BadEdit h k = refl
one_edit_cause old start end new commands BadEdit Overlong h k = absurd (h k.0)
one_edit_cause old start end new commands BadEdit (BadCommand j) h k = absurd (h k.0)
one_edit_cause old start end new commands BadEdit Memory h k = absurd k
one_edit_cause old start end new commands Overlong BadEdit h k = absurd (k h.0)
one_edit_cause old start end new commands Overlong Overlong h k = refl
one_edit_cause old start end new commands Overlong (BadCommand j) h k =
    one_cause (edited old start end new) commands Overlong (BadCommand j) h.1 k.1
one_edit_cause old start end new commands Overlong Memory h k = absurd k
one_edit_cause old start end new commands (BadCommand i) BadEdit h k = absurd (k h.0)
one_edit_cause old start end new commands (BadCommand i) Overlong h k =
    one_cause (edited old start end new) commands (BadCommand i) Overlong h.1 k.1
one_edit_cause old start end new commands (BadCommand i) (BadCommand j) h k =
    one_cause (edited old start end new) commands (BadCommand i) (BadCommand j) h.1 k.1
one_edit_cause old start end new commands (BadCommand i) Memory h k = absurd k
one_edit_cause old start end new commands Memory b h k = absurd h

-- What was answered is the cause, or want of memory.
pub exact_edit : (old : List ℕ) (start end : ℕ) (new : List ℕ) (commands : List Command) (answer fault : RelexFault)
    → (answer ≡ Memory) ⊎ EditCause old start end new commands answer → EditCause old start end new commands fault
    → (answer ≡ fault) ⊎ (answer ≡ Memory)
exact_edit old start end new commands answer fault caused h =
    elim caused [
      | inl e ↦ inr e
      | inr k ↦ inl (one_edit_cause old start end new commands answer fault k h)
    ]

pub complete_edit : (old : List ℕ) (start end : ℕ) (new : List ℕ) (commands : List Command) (answer : RelexFault)
    → (answer ≡ Memory) ⊎ EditCause old start end new commands answer → IsEdit old start end
    → length (edited old start end new) < 2 ^ 32 → list_all is_lasting commands ≡ true → answer ≡ Memory
complete_edit old start end new commands answer caused edit short lasting =
    elim caused [
      | inl e ↦ e
      | inr k ↦ absurd (no_edit_cause old start end new commands answer edit short lasting k)
    ]
