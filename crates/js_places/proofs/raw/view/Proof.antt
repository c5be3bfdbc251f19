-- `view` makes a slice of what a `&` to the row lends. Assumes `Logic`.
use Rattle.js_places.proofs.Names.{◌≡◌, [], ◌∷◌, refl, List, ℕ, ◌+◌, ◌*◌, ◌^◌, ◌<◌, ◌≤◌, sym, ap, ◌∙◌, arith, w64}
use Rattle.js_places.proofs.Names.{length, take, a_type, named, Val, vptr, vint, inst_fn, Share, Lft, ftrue, flft, fat}
use Rattle.js_places.proofs.Names.{flt, full_share, ‵, raw, ◌⊛◌, at_ret, ◌$◌, ◌∵◌, !, qed, keep, move, drop, split}
use Rattle.js_places.proofs.Names.{split3, join, fsplit, fjoin, rewrite, use1, feq_i, flt_i, flt_l, stop, fld, of_opd}
use Rattle.js_places.proofs.Names.{and_then, no_more, first, blocks, exec, returns, enter, alloc_all, pass_all}
use Rattle.js_places.proofs.Names.{free_all, look_at, take_at, give_at, get, get_in, sets, sets_last, env, agg, sub}
use Rattle.js_places.proofs.Names.{whole, tables, fact, ◌⊑◌, yes, no, RattleType, owns, usize, RefOf, hidden_shr, hide}
use Rattle.js_places.proofs.Names.{layout, layouts, uint_vals, uint_Tells, Ptr, block_ptr, shr_vals, shr_Tells, plain}
use Rattle.js_places.proofs.Names.{types_at, elements_shared, slice_val, nothing, heard, Stays, walk_of, stay_dropped}
use Rattle.js_places.proofs.Names.{Goes-dropped, El, R, Sr, el_d, sz, proved, word, word-Good, after}
use Rattle.js_places.proofs.Items.{items_lent}
use denote.RawPtr.{RawPtr, block_of, count_of}
use types.Kit.{suffices, done}
use denote.Triple.Walked.{ends_at, says}
use denote.Param.Laws.{param_laws}
use Rattle.std.proofs.lemmas.List.{length-take-le}
use Rattle.core.proofs.ptr.Rows.{times_below}
use Rattle.core.specs.Mem.Slots.Ownership.{slots_lent, Filled}
use Rattle.core.proofs.slots.Lent.{shown}
use Rattle.js_places.specs.contracts.raw.Base as base
use Rattle.js_places.proofs.raw.Base.TheLaws.{lowers}
use Rattle.js_places.specs.contracts.raw.view as f
use Rattle.js_places.proofs.raw.view.Statement.{statement}
use Rattle.js_places.proofs.raw.view.Code as code

pub view_spec : {M : Type 1} → statement M
view_spec 𝓤 𝓛 𝓜 𝓡 wired T L =
    let 𝓣 = tables 𝓤 𝓛.H 𝓜 𝓡 𝓡.env in let E : El = record { row = T; laws = L } in let En = f.ended T in
    let c = f.clauses T 𝓛 𝓜.mem 𝓡.returns in let inst = layouts (a_type ∷ []) (T, tt) in
    let fn = inst_fn inst code.function in
    let Bs : RattleType = base.the_row (R E) in
    let hs : Stays En.signature.params En.kept = (
      stay_dropped (RefOf (0 ∷ []) tt (plain (λ _. Sr E)) (λ _. tt)) yes,
      (stay_dropped (plain (λ _. Bs)) no, (stay_dropped (plain (λ _. usize)) yes, tt)),
    ) in
    proved 𝓛 En hs c 𝓜 𝓡 (
      Goes-dropped 𝓛 2 (RefOf (0 ∷ []) tt (plain (λ _. Sr E)) (λ _. tt)) yes (λ κs x w. refl),
      (
        Goes-dropped 𝓛 2 (plain (λ _. Bs)) no (λ κs x w. refl),
        (
          Goes-dropped 𝓛 2 (plain (λ _. usize)) yes
              (λ κs x w. refl),
          tt,
        ),
      ),
    )
    (f.Key.name inst) fn (code.unfolded 𝓤 𝓛.H 𝓜 𝓡 wired (T, tt))
    (λ κs. (shr_vals, ((λ x. word x.ptr ∷ []), (uint_vals w64, tt)))) (λ κs. (
      shr_Tells (named 0) κs.0 (Sr E),
      (
        (λ x vs is. (lowers (R E) (param_laws 0 T L)).val_is x vs is),
        (uint_Tells w64, tt),
      ),
    )) (λ κs qs bounds a _ are.
    let κ : Lft = κs.0 in let q : Share = qs.0 in let κ₁ : Lft = κs.1.0 in let q₁ : Share = qs.1.0 in
    let rb : ℕ = a.0.ref_ptr.0 in let ro : ℕ = a.0.ref_ptr.1 in let h : el_d E = a.0.now in let p : Ptr = a.1.0.ptr in
    let n : ℕ = a.1.1.0 in let fn64 : n < 2 ^ 64 = are.1.1.0.1 in
    let y : (walk_of 𝓛 En hs c).Ghost = (
      (κs, qs, bounds, a, (shr_vals a.0, (word p ∷ [], (vint w64 n ∷ [], tt)))),
      tt,
    ) in
    let Ok : Type 0 = (p ≡ h.ptr) × (n ≤ h.len) × Filled h.filled 0 n in
    qed 𝓛 (((‵ (flft κ q) ⊛ ‵ (flft κ₁ q₁) ⊛ ‵ ftrue) ⊛ ‵ (owns (types_at En.signature.params κs) a y.0.4)) ∷
    (raw (fact 𝓤 (κ₁ ⊑ T.lives)) ⊛ raw (fact 𝓤 Ok)) ∷ []) ∵
    move ! (1 ∷ []) $ split ! $ drop ! $ heard ! Ok (λ ok.
    let lx : h.len ≡ length h.items = h.ok.0 in let lf : h.len ≡ length h.filled = h.ok.1 in
    let inside : n ≤ h.len = ok.1 in
    split ! $ split ! $ move ! (2 ∷ []) $ fsplit ! $ fsplit ! $ drop ! $
    use1 𝓛 (‵ (hidden_shr RawPtr κ h.ptr rb (ro + 0)) ⊛ ‵ (hidden_shr usize κ h.len rb (ro + 8)) ⊛
    ‵ (flt (h.len * sz E) (2 ^ 63)) ⊛ ‵ (slots_lent (R E) h.ptr h.items h.filled κ)) (shown E 𝓛 κ h rb ro) $
    split3 ! $ move ! (2 ∷ []) $ split ! $ flt_l ! (λ fit.
    let b : ℕ = block_of p in let o : ℕ = count_of p in let at : p ≡ block_ptr b o = a.1.0.here in
    rewrite ! 0 (λ (r : Ptr). ‵ (slots_lent (R E) r h.items h.filled κ)) (sym ok.0 ∙ at) refl $
    use1 𝓛 (‵ (elements_shared (R E) (take n h.items) b o κ)) (items_lent E 𝓛 κ b o n h.items h.filled (omega arith)
    (omega arith) ok.2) $ hide ! $
    enter ! 𝓣.C 𝓣.Λ fn (vptr rb ro ∷ word p ∷ vint w64 n ∷ []) _ $ alloc_all !
    (λ l. pass_all ! refl ((tt, tt), (word-Good [] p, ((tt, record { fits = fn64 }), tt))) $
    let Ev = env fn.locals l in
    take_at ! 2 $ rewrite ! 0 (λ (r : Ptr). ‵ (fat full_share (layout Bs) (l 2) 0 (word r))) at refl $ give_at ! 2 $
    first ! $ blocks ! $
    sets_last ! (agg ! (and_then ! (get_in ! (fld ! refl (stop !)) (sub ! 0 refl (whole !)))
    (and_then ! (get ! refl) (no_more !)))) refl (tt, (tt, (record { fits = fn64 }, tt))) $
    exec ! 𝓣.C 𝓣.Λ Ev (after 1 fn.body) (at_ret Ev ((walk_of 𝓛 En hs c).post y)) $
    sets ! (of_opd ! (get ! refl)) refl (tt, (tt, (record { fits = fn64 }, tt))) $
    returns ! (look_at ! 0 refl) $ free_all ! refl $ keep ! (4 ∷ 5 ∷ 0 ∷ []) $ join ! $ move ! (1 ∷ []) $
    let xs = take n h.items in let long : length xs ≡ n = length-take-le n h.items (omega arith) in
    let start : ℕ × ℕ = (b, o) in
    suffices ! _ (ends_at 𝓛 En hs c y (slice_val start n) (record { ref_ptr = start; now = xs }) (tt, (tt, (tt, tt)))
    (tt, (tt, (tt, tt)))) $ says ! refl $
    flt_i ! (length xs * sz E) (2 ^ 63) (times_below (length xs) h.len (sz E) (2 ^ 63) (omega arith) fit) $
    flt_i ! (length xs) (2 ^ 64) (omega arith) $ fjoin ! $
    feq_i ! (List Val) (slice_val start n ∷ []) (slice_val start (length xs) ∷ [])
    (ap (λ k. slice_val start k ∷ []) (sym long)) $ fjoin ! $ fjoin ! $
    nothing ! $ nothing ! $ fjoin ! $ nothing ! $ fjoin ! $ nothing ! $ fjoin ! $ keep ! (2 ∷ 0 ∷ 1 ∷ []) $ done !))))
