-- `deallocate` makes room of the places and hands it back with the token. Assumes `Logic`.
use Rattle.js_places.proofs.Names.{◌≡◌, [], ◌∷◌, refl, List, ℕ, ◌*◌, ◌^◌, ◌<◌, sym, ap, ◌∙◌, length, subst, arith, w64}
use Rattle.js_places.proofs.Names.{Val, vptr, vint, inst_fn, Share, Lft, ftrue, flft, ‵, raw, ◌⊛◌, given, later, learn}
use Rattle.js_places.proofs.Names.{await, at_ret, ◌$◌, ◌∵◌, !, ⋆, ent, qed, by, keep, move, split, join, fsplit}
use Rattle.js_places.proofs.Names.{fsplit3, fjoin, fjoin3, feq_l, rewrite, use1, use2, use3, ◌++◌, feq_i, stop, fld}
use Rattle.js_places.proofs.Names.{lit, unit_lit, of_opd, and_then, no_more, first, blocks, exec, returns, enter}
use Rattle.js_places.proofs.Names.{alloc_all, pass_all, free_all, look_at, get, get_in, sets, is, env, lands_last, sub}
use Rattle.js_places.proofs.Names.{whole, tables, fact, ◌⊑◌, yes, no, owns, RefOf, Ptr, block_ptr, plain, types_at}
use Rattle.js_places.proofs.Names.{nothing, heard, Stays, walk_of, stay_dropped, Goes-dropped, El, R, Sr, el_d, sz}
use Rattle.js_places.proofs.Names.{proved_at, after}
use mir.Val.{WT}
use denote.Triple.Table.{framed}
use denote.Triple.Walked.{ends_at}
use denote.Triple.Call.{calls_at_last}
use types.Kit.{suffices, done}
use base.Logic.{SProp, id⊢}
use mir.Syntax.{ty_unit}
use mir.Val.{vunit, has_ty}
use lib.Dec.{T as Holds}
use prog.Wp.{WpFn}
use base.Fml.{froom, Incl-trans}
use mir.Syntax.{ty_array}
use prog.Memory.{align, capped}
use prog.Capped.{capped_fits}
use types.Run.{bin, size_word, align_word, branches, skips}
use Rattle.core.proofs.mem.Param.{elτ}
use Rattle.core.proofs.slots.Places.{to_room}
use Rattle.js_places.specs.Memory.{deed_owns}
use Rattle.js_places.specs.Places.{IsEmptyFrom}
use Rattle.core.proofs.alloc.Calls.{Al, token, Gives, at_gives, Gives-goes, Gives-Gives}
use Rattle.core.proofs.slots.Leases.{P, args, uncapped, block_ty, block_size, block_align}
use Rattle.core.proofs.slots.Opens.{row_val, row_had, row_made}
use Rattle.core.proofs.slots.Slots.into_raw_parts.Met as callee
use Rattle.js_places.proofs.Rows.{places, words_fit, Takes, at_takes, takes_goes, takes_gives}
use Rattle.js_places.proofs.Values.{Dd, mark, deed_had, deed_is, some_of}
use Rattle.js_places.specs.contracts.raw.deallocate as f
use Rattle.js_places.proofs.raw.deallocate.Statement.{statement}
use Rattle.js_places.proofs.raw.deallocate.Code as code

pub deallocate_spec : {M : Type 1} → statement M
deallocate_spec 𝓤 𝓛 𝓜 𝓡 wired T A L LA g d dd met md =
    let 𝓣 = tables 𝓤 𝓛.H 𝓜 𝓡 𝓡.env in let E : El = record { row = T; laws = L } in
    let Z : Al = record { row = A; laws = LA; g = g; d = d; drops = dd } in
    let En = f.ended T A g d dd in let c = f.clauses T A g d dd 𝓛 𝓜.mem 𝓡.returns in
    let fn = inst_fn (args E Z) code.function in
    let met₁ = callee.met 𝓤 𝓛 𝓜 𝓡 (code.calls-core::slots::Slots::into_raw_parts 𝓡.env wired) T L in
    let hs : Stays En.signature.params En.kept = (
      stay_dropped (RefOf (0 ∷ []) tt (plain (λ _. P E Z)) (λ _. tt)) yes,
      (stay_dropped (plain (λ _. Sr E)) no, (stay_dropped (plain (λ _. Dd E Z)) no, tt)),
    ) in
    proved_at 𝓛 En hs c 𝓜 𝓡 (
      Goes-dropped 𝓛 3 (RefOf (0 ∷ []) tt (plain (λ _. P E Z)) (λ _. tt)) yes (λ κs x w. refl),
      (
        Goes-dropped 𝓛 3 (plain (λ _. Sr E)) no (λ κs x w. refl),
        (
          Goes-dropped 𝓛 3 (plain (λ _. Dd E Z)) no
              (λ κs x w. refl),
          tt,
        ),
      ),
    )
    (f.Key.name (args E Z)) fn (code.unfolded 𝓤 𝓛.H 𝓜 𝓡 wired (T, (A, tt)) d dd) (λ y are.
    let κ : Lft = y.0.0.0 in let q : Share = y.0.1.0 in let κ₁ : Lft = y.0.0.1.0 in let q₁ : Share = y.0.1.1.0 in
    let κ₂ : Lft = y.0.0.1.1.0 in let q₂ : Share = y.0.1.1.1.0 in
    let hp = y.0.3.0.ref_ptr in let a : A.Denot = y.0.3.0.now in let h : el_d E = y.0.3.1.0 in
    let k : (Dd E Z).Denot = y.0.3.1.1.0 in let vss = y.0.4 in
    let n : ℕ = h.len in let s = sz E in let al : ℕ = capped (align (elτ E)) in
    let Post : Val → SProp 𝓤 = (walk_of 𝓛 En hs c).post y in
    let exits : ent 𝓤 (⋆ 𝓛 (‵ (flft κ q) ∷ ‵ (flft κ₁ q₁) ∷ (‵ (flft κ₂ q₂) ⊛ ‵ ftrue) ∷ [])) (Post vunit) =
    qed 𝓛 (‵ (flft κ q) ∷ ‵ (flft κ₁ q₁) ∷ (‵ (flft κ₂ q₂) ⊛ ‵ ftrue) ∷ []) ∵
    suffices ! _ (ends_at 𝓛 En hs c y vunit tt (tt, (tt, (tt, tt))) (tt, (tt, (tt, tt)))) $
    feq_i ! (List Val) (vunit ∷ []) (vunit ∷ []) refl $ move ! (2 ∷ 3 ∷ []) $ join ! $ move ! (2 ∷ 0 ∷ []) $ join ! $
    nothing ! $ nothing ! $ fjoin ! $ nothing ! $ nothing ! $ fjoin3 ! $ move ! (0 ∷ 2 ∷ []) $ join ! $
    move ! (1 ∷ 0 ∷ []) $ join ! $ nothing ! $ move ! (1 ∷ 0 ∷ []) $ done ! in
    let Ok : Type 0 = (k.at ≡ h.ptr) × (k.len ≡ n) × (k.alloc ≡ a) × IsEmptyFrom h.filled 0 in
    qed 𝓛 (((‵ (flft κ q) ⊛ ‵ (flft κ₁ q₁) ⊛ ‵ (flft κ₂ q₂) ⊛ ‵ ftrue) ⊛
    ‵ (owns (types_at En.signature.params y.0.0) y.0.3 vss)) ∷ (raw (fact 𝓤 (κ₁ ⊑ T.lives)) ⊛
    raw (fact 𝓤 (κ₂ ⊑ A.lives)) ⊛ raw (fact 𝓤 Ok)) ∷ []) ∵
    move ! (1 ∷ []) $ split ! $ heard ! (κ₁ ⊑ T.lives) (λ alive. split ! $
    heard ! (κ₂ ⊑ A.lives) (λ inA. heard ! Ok (λ ok.
    split ! $ split ! $ move ! (2 ∷ []) $ fsplit3 ! $ fsplit ! $ feq_l !
    (λ e₀. move ! (1 ∷ []) $ row_had E ! h vss.1.0 (λ b o at_b e₁ fl fit. row_made E ! h b o at_b fl fit $
    move ! (2 ∷ []) $ fsplit ! $ deed_had E Z ! k vss.1.1.0 (λ e₂. keep ! (0 ∷ 2 ∷ 3 ∷ 4 ∷ 5 ∷ []) $
    rewrite ! 0 (λ (z : A.Denot × Ptr × ℕ). ‵ (deed_owns (token Z z.0) (R E) z.1 z.2))
    (λ i. (ok.2 i, (ok.0 ∙ at_b) i, ok.1 i)) refl $ move ! (4 ∷ []) $ split ! $
    -- [the token of κ₁; that of κ₂; what the deed owns; the row; the handle; the token of κ]
    let words : WT (row_val b o n) = (tt, (record { fits = fl }, tt)) in
    let us : List Val = vptr hp.0 hp.1 ∷ row_val b o n ∷ mark ∷ [] in
    let Run : List Val → SProp 𝓤 = λ ws. WpFn 𝓤 𝓛.H 𝓣.C 𝓣.Λ fn ws Post in
    suffices ! (Run us) (subst (λ (ws : List Val). ent 𝓤 (Run us) (Run ws)) (sym (λ i. e₀ i ++ (e₁ i ++ (e₂ i ++ []))))
    (id⊢ 𝓤 (Run us))) $
    enter ! 𝓣.C 𝓣.Λ fn us Post $ alloc_all ! (λ l. pass_all ! refl ((tt, tt), ((tt, words), ((tt, (tt, tt)), tt))) $
    let Ev = env fn.locals l in let y₁ = at_takes E 𝓛 𝓜.mem 𝓡.returns κ₁ q₁ b o h in
    first ! $ blocks ! $ sets ! (of_opd ! (get ! refl)) refl (tt, words) $ move ! (3 ∷ 0 ∷ []) $
    use2 𝓛 (raw ((Takes E 𝓛 𝓜.mem 𝓡.returns κ₁ q₁ b o).pre y₁)) (takes_goes E 𝓛 𝓜.mem 𝓡.returns κ₁ q₁ b o h alive) $
    calls_at_last ! (framed 𝓤 𝓛.H 𝓜 𝓣) (Takes E 𝓛 𝓜.mem 𝓡.returns κ₁ q₁ b o) met₁ y₁
    (and_then ! (get ! refl) (no_more !)) (λ v.
    use1 𝓛 (later (given (v ≡ row_val b o n) (‵ (places E b o h.items h.filled) ⊛ ‵ (flft κ₁ q₁))))
    (takes_gives E 𝓛 𝓜.mem 𝓡.returns κ₁ q₁ b o h v at_b) $ await ! tt $ learn ! (λ ev. split ! $
    -- [the places; the token of κ₁; that of κ₂; what the deed owns; the handle; the token of κ]
    lands_last ! refl (words_fit v b o n ev fl) $ exec ! 𝓣.C 𝓣.Λ Ev (after 1 fn.body) (at_ret Ev Post) $
    sets ! (is ! (of_opd ! (get ! refl)) ev) refl (tt, words) $
    sets ! (of_opd ! (get_in ! (fld ! refl (stop !)) (sub ! 0 refl (whole !)))) refl (tt, tt) $
    sets ! (of_opd ! (get_in ! (fld ! refl (stop !)) (sub ! 1 refl (whole !)))) refl (tt, record { fits = fl }) $
    sets ! (bin ! (get ! refl) (lit ! tt) tt) refl (tt, tt) $ first ! $ branches ! (get ! refl)
    (λ some. let many : 0 < n = some_of n some in let bytes : n * s < 2 ^ 64 = omega arith in
    let y₂ = at_gives Z 𝓛 𝓜.mem 𝓡.returns κ q hp a b o (n * s) al (block_ty E n) in
    move ! (3 ∷ 0 ∷ []) $ rewrite ! 0 (λ F. ‵ F) (deed_is (token Z a) (R E) (block_ptr b o) n many) refl $
    move ! (1 ∷ []) $
    use1 𝓛 (‵ (froom (ty_array (elτ E) (length h.items)) b o)) (to_room E 𝓛 b h.items h.filled o
    (sym h.ok.1 ∙ h.ok.0)) $
    rewrite ! 0 (λ (i : ℕ). ‵ (froom (ty_array (elτ E) i) b o)) (sym h.ok.0) refl $
    use1 𝓛 (‵ (froom (block_ty E n) b o)) (𝓛.laws.room-raw (ty_array (elτ E) n) b o) $
    blocks ! $ sets ! (of_opd ! (get ! refl)) refl (tt, tt) $
    sets ! (is ! (bin ! (get ! refl) (size_word !) (record {
      fits = subst (λ (i : ℕ). i < 2 ^ 64)
          (sym (uncapped n s bytes)) bytes;
    })) (ap (vint w64) (uncapped n s bytes))) refl (tt, record { fits = bytes }) $
    move ! (4 ∷ 5 ∷ []) $ join ! $ move ! (1 ∷ 2 ∷ 0 ∷ []) $ use3 𝓛 (raw ((Gives Z 𝓛 𝓜.mem 𝓡.returns).pre y₂))
    (Gives-goes Z 𝓛 𝓜.mem 𝓡.returns κ q hp a (Incl-trans y.0.2.0 inA) b o (n * s) al (block_ty E n)
    (block_size E n bytes) (block_align E n) bytes (capped_fits (align (elτ E)))) $
    calls_at_last ! (framed 𝓤 𝓛.H 𝓜 𝓣) (Gives Z 𝓛 𝓜.mem 𝓡.returns) (met.deallocate dd) y₂
    (and_then ! (get ! refl) (and_then ! (get ! refl) (and_then ! (get ! refl)
    (and_then ! (align_word !) (no_more !))))) (λ v₂.
    use1 𝓛 (later (given (v₂ ≡ vunit) (‵ (flft κ q)))) (Gives-Gives Z 𝓛 𝓜.mem 𝓡.returns κ q hp a b o (n * s) al
    (block_ty E n) v₂) $ await ! tt $ learn ! (λ e.
    lands_last ! refl (subst (λ (u : Val). Holds (has_ty ty_unit u) × WT u) (sym e) (tt, tt)) $
    exec ! 𝓣.C 𝓣.Λ Ev (after 6 fn.body) (at_ret Ev Post) $ sets ! (of_opd ! (unit_lit !)) refl (tt, tt) $
    returns ! (look_at ! 0 refl) $ free_all ! refl $ keep ! (0 ∷ 1 ∷ 2 ∷ []) $ by ! exits)))
    (λ none. skips ! $ exec ! 𝓣.C 𝓣.Λ Ev (after 6 fn.body) (at_ret Ev Post) $
    sets ! (of_opd ! (unit_lit !)) refl (tt, tt) $
    returns ! (look_at ! 0 refl) $ free_all ! refl $ keep ! (5 ∷ 1 ∷ 2 ∷ []) $ by ! exits)))))))))))
