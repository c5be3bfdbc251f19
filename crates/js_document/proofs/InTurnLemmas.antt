-- What is told of edits that are made one behind the other.
use Rattle.std.proofs.Common.{◌≡◌, ℕ, zero, suc, ◌+◌, ◌-◌, ◌<◌, ◌≤◌, List, [], ◌∷◌, ◌++◌, length, take, drop, refl, sym, ◌∙◌, ap}
use Rattle.std.proofs.Common.{subst, arith, get_or, inl, inr, zero-add}
use Rattle.std.specs.Prelude.{◌^◌, ◌⊎◌, Result, Err, IsOk}
use Rattle.std.specs.Result.{is_ok}
use Rattle.std.proofs.Math.Seq.{drop-cons, take-suc}
use Rattle.js_choose.specs.Rules.{Rule}
use Rattle.js_relex.specs.declared.edit.Edit.{Edit}
use Rattle.js_relex.specs.Documents.{IsEdit}
use Rattle.js_document.specs.declared.fault.DocumentFault.{DocumentFault}
use Rattle.js_document.specs.declared.fault.DocumentFault.TheVariants.{BadEdit, Overlong, Memory}
use Rattle.js_document.specs.declared.fault.EditsFault.{EditsFault}
use Rattle.js_document.specs.Documents.{DocState, EditCause, Edits}
use Rattle.js_document.specs.InTurn.{EditsCause, EditsInTurn, LacksMemory, MayEdit, MayEditInTurn, with_edit}
use Rattle.js_document.specs.States.{Alikeness}
use Rattle.js_document.proofs.ListLemmas.{suc_add}

-- an edit that may be made has no fault
no_cause : (text : List ℕ) (e : Edit) (fault : DocumentFault) → MayEdit text e
    → EditCause text e.start e.end e.text.now fault → ⊥
no_cause text e BadEdit may cause = cause may.places
no_cause text e Overlong may cause = (let short = may.short in let long = cause.1 in omega (arith, short, long))
no_cause text e Memory may cause = cause

-- What one edit that was not made tells, by its contract.
pub record IsRefused (text : List ℕ) (e : Edit) (fault : DocumentFault) : Type 0 where
  pub cause : (fault ≡ Memory) ⊎ EditCause text e.start e.end e.text.now fault
  pub exact : (other : DocumentFault) → EditCause text e.start e.end e.text.now other → (fault ≡ other) ⊎ (fault ≡ Memory)
  pub complete : MayEdit text e → fault ≡ Memory

pub refused_by : (text : List ℕ) (e : Edit) (result : Result (Unit {0}) DocumentFault) (fault : DocumentFault)
    → result ≡ Err fault → (fault ≡ Memory) ⊎ EditCause text e.start e.end e.text.now fault
    → ((other : DocumentFault) → EditCause text e.start e.end e.text.now other
    → (result ≡ Err other) ⊎ (result ≡ Err Memory))
    → (IsEdit text e.start e.end → length (with_edit text e) < 2 ^ 32 → IsOk result ⊎ (result ≡ Err Memory))
    → IsRefused text e fault
refused_by text e result fault is cause exact complete = record {
  cause = cause;
  exact = λ other why. either other (exact other why);
  complete = λ may. always (complete may.places may.short);
}
  where
    either : (other : DocumentFault) → (result ≡ Err other) ⊎ (result ≡ Err Memory) → (fault ≡ other) ⊎ (fault ≡ Memory)
    either other (inl same) = inl (cc)
    either other (inr same) = inr (cc)

    always : IsOk result ⊎ (result ≡ Err Memory) → fault ≡ Memory
    always (inl fine) = absurd
        (let no = sym (ap (λ (r : Result (Unit {0}) DocumentFault). is_ok r) is) ∙ fine in cc)
    always (inr same) = cc

module _ (rule : Rule) (Alike : Alikeness) where
  may_edit : (old d : DocState) (e : Edit) (before now : ℕ)
      → Edits rule Alike old e.start e.end e.text.now before now d → MayEdit old.text e
  may_edit old d e before now is = record { places = is.edit; short = is.document.report_is.report_is.short }

  -- one edit more
  put_behind : (old : DocState) (es : List Edit) (e : Edit) (before ticks now : ℕ) (m d : DocState)
      → EditsInTurn rule Alike old es before ticks m → Edits rule Alike m e.start e.end e.text.now ticks now d
      → EditsInTurn rule Alike old (es ++ e ∷ []) before now d
  put_behind old [] e before ticks now m d is one = (
    d,
    now,
    subst (λ x. Edits rule Alike x e.start e.end e.text.now before now d) is.0
        (subst (λ n. Edits rule Alike m e.start e.end e.text.now n now d) is.1 one),
    (refl, refl),
  )
  put_behind old (x ∷ xs) e before ticks now m d is one =
      (is.0, is.1, is.2, put_behind is.0 xs e is.1 ticks now m d is.3 one)

  pub in_turn_more : (old : DocState) (es : List Edit) (made : ℕ) (default : Edit) (before ticks now : ℕ) (m d : DocState)
      → made < length es → EditsInTurn rule Alike old (take made es) before ticks m
      → Edits rule Alike m (get_or es made default).start (get_or es made default).end
      (get_or es made default).text.now ticks now d → EditsInTurn rule Alike old (take (made + 1) es) before now d
  in_turn_more old es made default before ticks now m d less so_far one =
      let e = get_or es made default in
      let next : suc made ≡ made + 1 = omega arith in
      subst (λ n. EditsInTurn rule Alike old (take n es) before now d) next
      (subst (λ xs. EditsInTurn rule Alike old xs before now d) (sym (take-suc es made default less))
      (put_behind old (take made es) e before ticks now m d so_far one))

  -- why one of the edits that are left was not made
  cause_in : (old : DocState) (es : List Edit) (made before now : ℕ) (d : DocState) (index : ℕ) (fault : DocumentFault)
      → made ≤ length es → EditsInTurn rule Alike old (take made es) before now d
      → EditsCause d.text (drop made es) index fault → EditsCause old.text es (made + index) fault
  cause_in old es zero before now d index fault few is cause =
      subst (λ i. EditsCause old.text es i fault) (sym (zero-add index))
      (subst (λ (x : DocState). EditsCause x.text es index fault) is.0 cause)
  cause_in old [] (suc made) before now d index fault few is cause = absurd (omega (arith, few))
  cause_in old (e ∷ es) (suc made) before now d index fault few is cause =
      subst (λ i. EditsCause old.text (e ∷ es) i fault) (sym (suc_add made index)) (
        may_edit old is.0 e before is.1 is.2,
        subst (λ text. EditsCause text es (made + index) fault) is.2.document.text_is
            (cause_in is.0 es made is.1 now d index fault (omega (arith, few)) is.3 cause),
      )

  -- and of the edits none that was made has a cause
  cause_left : (old : DocState) (es : List Edit) (made before now : ℕ) (d : DocState) (index : ℕ) (fault : DocumentFault)
      → made ≤ length es → EditsInTurn rule Alike old (take made es) before now d → EditsCause old.text es index fault
      → (made ≤ index) × EditsCause d.text (drop made es) (index - made) fault
  cause_left old es zero before now d index fault few is cause =
      let same : index ≡ index - 0 = omega arith in (
        omega arith,
        subst (λ i. EditsCause d.text es i fault) same
            (subst (λ (x : DocState). EditsCause x.text es index fault) (sym is.0) cause),
      )
  cause_left old [] (suc made) before now d index fault few is cause = absurd (omega (arith, few))
  cause_left old (e ∷ es) (suc made) before now d zero fault few is cause =
      absurd (no_cause old.text e fault (may_edit old is.0 e before is.1 is.2) cause)
  cause_left old (e ∷ es) (suc made) before now d (suc index) fault few is cause =
      let more = cause_left is.0 es made is.1 now d index fault (omega (arith, few)) is.3
      (subst (λ text. EditsCause text es index fault) (sym is.2.document.text_is) cause.1) in
      let some = more.0 in
      let same : index - made ≡ suc index - suc made = omega arith in
      (omega (arith, some), subst (λ i. EditsCause d.text (drop made es) i fault) same more.1)

  -- what may be made of those that are left
  may_left : (old : DocState) (es : List Edit) (made before now : ℕ) (d : DocState) → made ≤ length es
      → EditsInTurn rule Alike old (take made es) before now d → MayEditInTurn old.text es
      → MayEditInTurn d.text (drop made es)
  may_left old es zero before now d few is may =
      subst (λ (x : DocState). MayEditInTurn x.text es) (sym is.0) may
  may_left old [] (suc made) before now d few is may = absurd (omega (arith, few))
  may_left old (e ∷ es) (suc made) before now d few is may =
      may_left is.0 es made is.1 now d (omega (arith, few)) is.3
      (subst (λ text. MayEditInTurn text es) (sym is.2.document.text_is) may.1)

  -- All were made: none has a cause.
  pub none_left : (old : DocState) (es : List Edit) (made before now : ℕ) (d : DocState) (index : ℕ)
      (fault : DocumentFault) → made ≡ length es → EditsInTurn rule Alike old (take made es) before now d
      → EditsCause old.text es index fault → ⊥
  none_left old es made before now d index fault all is cause =
      let left = cause_left old es made before now d index fault (omega (arith, all)) is cause in
      subst (λ xs. EditsCause d.text xs (index - made) fault) (nothing es made (omega (arith, all))) left.1
    where
      nothing : (xs : List Edit) (n : ℕ) → length xs ≤ n → drop n xs ≡ []
      nothing [] zero few = refl
      nothing [] (suc n) few = refl
      nothing (x ∷ xs) zero few = absurd (omega (arith, few))
      nothing (x ∷ xs) (suc n) few = nothing xs n (omega (arith, few))

  -- One was not made.
  module _ (old : DocState) (es : List Edit) (made : ℕ) (default : Edit) (before now : ℕ) (d : DocState)
      (fault : DocumentFault) (less : made < length es) (is : EditsInTurn rule Alike old (take made es) before now d)
      (refused : IsRefused d.text (get_or es made default) fault) where
    abbrev e : Edit
    e = get_or es made default

    left : drop made es ≡ e ∷ drop (suc made) es
    left = drop-cons es made default less

    pub why_refused : (fault ≡ Memory) ⊎ EditsCause old.text es made fault
    why_refused = by_cause refused.cause
      where
        by_cause : (fault ≡ Memory) ⊎ EditCause d.text e.start e.end e.text.now fault
            → (fault ≡ Memory) ⊎ EditsCause old.text es made fault
        by_cause (inl memory) = inl memory
        by_cause (inr cause) =
            let here : made + 0 ≡ made = omega arith in
            inr
            (subst (λ i. EditsCause old.text es i fault) here
            (cause_in old es made before now d 0 fault (omega (arith, less)) is
            (subst (λ xs. EditsCause d.text xs 0 fault) (sym left) cause)))

    pub exactly_refused : (index : ℕ) (other : DocumentFault) → EditsCause old.text es index other
        → ◌≡◌ {A = Result (Unit {0}) EditsFault} (Err (record { made = made; fault = fault }))
        (Err (record { made = index; fault = other })) ⊎ LacksMemory (Err (record { made = made; fault = fault }))
    exactly_refused index other cause =
        let from = cause_left old es made before now d index other (omega (arith, less)) is cause in
        by_place (index - made) refl from.0
        (subst (λ xs. EditsCause d.text xs (index - made) other) left from.1)
      where
        by_place : (n : ℕ) → index - made ≡ n → made ≤ index → EditsCause d.text (e ∷ drop (suc made) es) n other
            → ◌≡◌ {A = Result (Unit {0}) EditsFault} (Err (record { made = made; fault = fault }))
            (Err (record { made = index; fault = other })) ⊎ LacksMemory (Err (record { made = made; fault = fault }))
        by_place zero place from cause = by_fault (refused.exact other cause)
          where
            here : made ≡ index
            here = omega (arith, place, from)

            by_fault : (fault ≡ other) ⊎ (fault ≡ Memory)
                → ◌≡◌ {A = Result (Unit {0}) EditsFault} (Err (record { made = made; fault = fault }))
                (Err (record { made = index; fault = other }))
                ⊎ LacksMemory (Err (record { made = made; fault = fault }))
            by_fault (inl same) = inl (λ j. Err (record { made = here j; fault = same j }))
            by_fault (inr memory) = inr memory
        by_place (suc n) place from cause = inr (refused.complete cause.0)

    pub only_memory : MayEditInTurn old.text es → fault ≡ Memory
    only_memory may =
        refused.complete
        (subst (λ xs. MayEditInTurn d.text xs) left
        (may_left old es made before now d (omega (arith, less)) is may)).0
