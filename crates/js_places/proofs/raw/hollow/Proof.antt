-- `hollow` makes a row of no places where its local lies. Assumes `Logic`.
use Rattle.js_places.proofs.Names.{◌≡◌, [], ◌∷◌, refl, ℕ, zero, sym, arith, lit<, named, vptr, inst_fn, Share, Lft}
use Rattle.js_places.proofs.Names.{ftrue, flft, ‵, raw, ◌⊛◌, given, later, some, pick, learn, await, at_ret, ◌$◌, ◌∵◌}
use Rattle.js_places.proofs.Names.{ !, qed, keep, move, drop, split, join, fjoin, use1, use2, stop, lit, unit_lit}
use Rattle.js_places.proofs.Names.{of_opd, and_then, no_more, first, blocks, exec, returns, enter, alloc_all, pass_all}
use Rattle.js_places.proofs.Names.{free_all, look_at, get, sets, is, env, lands_last, agg, tables, fact, ◌⊑◌, yes, owns}
use Rattle.js_places.proofs.Names.{RefOf, block_ptr, shr_vals, shr_Tells, plain, types_at, nothing, heard, Stays}
use Rattle.js_places.proofs.Names.{walk_of, stay_dropped, Goes-dropped, El, proved, word-Good, after}
use mir.Val.{WT}
use denote.Triple.Table.{framed}
use denote.Triple.Walked.{ends_at, says}
use denote.Triple.Call.{calls_at_last}
use types.Kit.{suffices, done}
use types.Run.{addr, from}
use Rattle.core.proofs.alloc.Calls.{Al}
use Rattle.core.proofs.slots.Leases.{P, args}
use Rattle.core.proofs.slots.Opens.{Sr, row_val}
use Rattle.core.proofs.slots.Slots.from_raw_parts.Met as callee
use Rattle.js_places.proofs.Rows.{row_fits, Makes, at_makes, Is as Made, makes_goes, makes_gives}
use Rattle.js_places.proofs.Values.{Whole, whole as made, whole_val, whole_made}
use Rattle.js_places.specs.contracts.raw.hollow as f
use Rattle.js_places.proofs.raw.hollow.Statement.{statement}
use Rattle.js_places.proofs.raw.hollow.Code as code

pub hollow_spec : {M : Type 1} → statement M
hollow_spec 𝓤 𝓛 𝓜 𝓡 wired T A L LA g d dd met md =
    let 𝓣 = tables 𝓤 𝓛.H 𝓜 𝓡 𝓡.env in let E : El = record { row = T; laws = L } in
    let Z : Al = record { row = A; laws = LA; g = g; d = d; drops = dd } in
    let En = f.ended T A g d dd in let c = f.clauses T A g d dd 𝓛 𝓜.mem 𝓡.returns in
    let fn = inst_fn (args E Z) code.function in
    let met₁ = callee.met 𝓤 𝓛 𝓜 𝓡 (code.calls-core::slots::Slots::from_raw_parts 𝓡.env wired) T L in
    let hs : Stays En.signature.params En.kept = (
      stay_dropped (RefOf (0 ∷ []) tt (plain (λ _. P E Z)) (λ _. tt)) yes,
      tt,
    ) in
    proved 𝓛 En hs c 𝓜 𝓡 (Goes-dropped 𝓛 3 (RefOf (0 ∷ []) tt (plain (λ _. P E Z)) (λ _. tt)) yes (λ κs x w. refl), tt)
    (f.Key.name (args E Z)) fn (code.unfolded 𝓤 𝓛.H 𝓜 𝓡 wired (T, (A, tt)) d dd) (λ κs. (shr_vals, tt))
    (λ κs. (shr_Tells (named 0) κs.0 (P E Z), tt)) (λ κs qs bounds a _ are.
    let κ : Lft = κs.0 in let q : Share = qs.0 in let κ₁ : Lft = κs.1.0 in let q₁ : Share = qs.1.0 in
    let κ₂ : Lft = κs.1.1.0 in let q₂ : Share = qs.1.1.0 in
    let hp = a.0.ref_ptr in let y : (walk_of 𝓛 En hs c).Ghost = ((κs, qs, bounds, a, (shr_vals a.0, tt)), tt) in
    qed 𝓛 (((‵ (flft κ q) ⊛ ‵ (flft κ₁ q₁) ⊛ ‵ (flft κ₂ q₂) ⊛ ‵ ftrue) ⊛
    ‵ (owns (types_at En.signature.params κs) a y.0.4)) ∷ (raw (fact 𝓤 (κ₁ ⊑ T.lives)) ⊛ raw (fact 𝓤 (κ₂ ⊑ A.lives)) ⊛
    ‵ ftrue) ∷ []) ∵
    move ! (1 ∷ []) $ split ! $ heard ! (κ₁ ⊑ T.lives) (λ alive. drop ! $ split ! $ split ! $ move ! (1 ∷ []) $
    split ! $ keep ! (0 ∷ 2 ∷ 1 ∷ []) $
    -- [the token of κ₁; that of κ; that of κ₂]
    enter ! 𝓣.C 𝓣.Λ fn (vptr hp.0 hp.1 ∷ []) _ $ alloc_all ! (λ l. pass_all ! refl ((tt, tt), tt) $
    let Ev = env fn.locals l in let b : ℕ = l 2 in
    let y₁ = at_makes E 𝓛 𝓜.mem 𝓡.returns κ₁ q₁ b zero zero [] [] in
    sets ! (of_opd ! (unit_lit !)) refl (tt, tt) $ sets ! (addr ! (from ! (stop !))) refl (tt, tt) $ first ! $
    blocks ! $ nothing ! $
    use2 𝓛 (raw ((Makes E 𝓛 𝓜.mem 𝓡.returns κ₁ q₁ b zero).pre y₁))
    (makes_goes E 𝓛 𝓜.mem 𝓡.returns κ₁ q₁ b zero zero [] [] alive (refl, refl) (lit< tt) (omega arith)) $
    calls_at_last ! (framed 𝓤 𝓛.H 𝓜 𝓣) (Makes E 𝓛 𝓜.mem 𝓡.returns κ₁ q₁ b zero) met₁ y₁
    (and_then ! (get ! refl) (and_then ! (lit ! tt) (no_more !))) (λ v.
    use1 𝓛 (later (some (λ (r : (Sr E).Denot). given ((v ≡ row_val b zero zero) ×
    Made E 𝓛 𝓜.mem 𝓡.returns κ₁ q₁ b zero zero [] [] r) (‵ ((Sr E).own_val r (row_val b zero zero ∷ [])) ⊛
    ‵ (flft κ₁ q₁)))))
    (makes_gives E 𝓛 𝓜.mem 𝓡.returns κ₁ q₁ b zero zero [] [] v) $ await ! tt $ pick ! (λ r. learn ! (λ got. split ! $
    let words : WT (row_val b zero zero) = (tt, (record { fits = lit< tt }, tt)) in
    lands_last ! refl (row_fits E v b zero zero got.0 (lit< tt)) $ exec ! 𝓣.C 𝓣.Λ Ev (after 3 fn.body)
    (at_ret Ev ((walk_of 𝓛 En hs c).post y)) $
    sets ! (is ! (of_opd ! (get ! refl)) got.0) refl (tt, words) $ sets ! (of_opd ! (get ! refl)) refl (tt, words) $
    sets ! (agg ! (and_then ! (get ! refl) (no_more !))) refl (word-Good [] (block_ptr b zero)) $
    sets ! (agg ! (no_more !)) refl (tt, tt) $ sets ! (agg ! (and_then ! (get ! refl) (no_more !))) refl
    (tt, (tt, tt)) $
    sets ! (agg ! (and_then ! (get ! refl) (and_then ! (get ! refl) (and_then ! (get ! refl) (no_more !))))) refl
    (tt, (words, ((tt, tt), ((tt, tt), tt)))) $
    returns ! (look_at ! 0 refl) $ free_all ! refl $ nothing ! $ move ! (1 ∷ 0 ∷ []) $
    use2 𝓛 (‵ ((Whole E Z).own_val (made E Z r b zero zero a.0.now) (whole_val b zero zero ∷ [])))
    (whole_made E Z 𝓛 b zero zero a.0.now r) $
    suffices ! _ (ends_at 𝓛 En hs c y (whole_val b zero zero) (made E Z r b zero zero a.0.now) (tt, tt) (tt, tt)) $
    let told = got.1 in says ! (told.1, sym told.0, sym told.0, refl, refl, told.3) $
    move ! (1 ∷ 3 ∷ []) $ join ! $ move ! (2 ∷ 0 ∷ []) $ join ! $ nothing ! $ nothing ! $ fjoin ! $
    move ! (1 ∷ 0 ∷ []) $ done !))))))
