-- `as_ref` reads the pointer through the `&`, and lends the value that is shared. Assumes `Logic`.
use Rattle.std.proofs.Common.{◌≡◌, ℕ, ◌+◌, List, [], ◌∷◌, refl, lit<}
use mir.Syntax.{Body, seq, assign, place, rv_opd, copy, aggregate, int, w8, a_type, named}
use mir.Val.{Val, vptr, vcons, vnil}
use mir.MapTy.{inst_fn}
use base.Logic.{SProp, emp}
use base.Fml.{Lft, Share, ftrue, fhide, flft}
use prog.Wp.{Wp, after_seq, at_return}
use types.Kit.{‵, raw, ◌⊛◌, at_ret, any_q, ◌$◌, ◌∵◌, !, qed, by, move, keep, split, fsplit, fjoin, use0, use1, feq_i, join}
use types.Run.{stop, fld, addr, lit, load, look, of_opd, bin, no_more, and_then, first, blocks, branches, exec, returns, enter}
use types.ByLocal.{alloc_all, pass_all, free_all, look_at, get, through, sets, sets_last, env}
use types.Part.{agg}
use types.Match.{live}
use contract.Monad.{fact, fact_i}
use contract.Running.{tables}
use denote.Builtin.{RefOf}
use denote.Exit.{yes}
use denote.Opens.{unhide}
use denote.RattleType.{RattleType, owns}
use denote.Param.{param, layout, layouts}
use denote.RawPtr.{block_ptr, null_ptr, tests_null}
use denote.Ref.{ShrRef, shr_vals, shr_Tells}
use denote.Signature.{types_at, type_at, plain}
use denote.Steps.{nothing}
use denote.Triple.Walked.{Stays, stay_dropped, walk_of, Goes-dropped}
use Rattle.core.proofs.alloc.Shapes.{after}
use Rattle.core.proofs.cell.Inside.{Good}
use Rattle.core.proofs.option.Made.{Some-of, none_of}
use Rattle.std.proofs.raw_atomic.Walks.{proved, leaves}
use Rattle.std.specs.declared.option.Option.TheVariants.{None, Some}
use Rattle.js_boxed.specs.Memory.{maybe_lent}
use Rattle.js_boxed.proofs.Values.{Ob}
use Rattle.js_boxed.proofs.Words.{S, opened, shows_pointer, word_in, word_out, lent_either}
use Rattle.js_boxed.specs.contracts.optional_box.OptionalBox.as_ref as f
use Rattle.js_boxed.proofs.optional_box.OptionalBox.as_ref.Statement.{statement}
use Rattle.js_boxed.proofs.optional_box.OptionalBox.as_ref.Code as code

-- the rest of the branch that found a value
abbrev wraps : Body
wraps = seq (assign (place 6 []) (rv_opd (copy (place 7 [])))) (assign (place 5 []) (aggregate (int w8 1 ∷ copy (place 6 []) ∷ [])))

pub as_ref_spec : {M : Type 1} → statement M
as_ref_spec 𝓤 𝓛 𝓜 𝓡 wired T L =
    let H = 𝓛.H in let 𝓣 = tables 𝓤 H 𝓜 𝓡 𝓡.env in let R = param 0 T in let En = f.ended T in
    let c = f.clauses T 𝓛 𝓜.mem 𝓡.returns in let inst = layouts (a_type ∷ []) (T, tt) in
    let fn = inst_fn inst code.function in
    let hs : Stays En.signature.params En.kept = (
      stay_dropped (RefOf (0 ∷ []) tt (plain (λ _. Ob R)) (λ _. tt)) yes,
      tt,
    ) in
    proved 𝓛 En hs c 𝓜 𝓡 (Goes-dropped 𝓛 2 (RefOf (0 ∷ []) tt (plain (λ _. Ob R)) (λ _. tt)) yes (λ κs x w. refl), tt)
    (f.Key.name inst) fn (code.unfolded 𝓤 H 𝓜 𝓡 wired (T, tt))
    (λ κs. (shr_vals, tt)) (λ κs. (shr_Tells (named 0) κs.0 (Ob R), tt)) (λ κs qs bounds a _ are.
    let κ : Lft = κs.0 in let q : Share = qs.0 in let μ : Lft = κs.1.0 in let r : Share = qs.1.0 in
    let rb : ℕ = a.0.ref_ptr.0 in let ro : ℕ = a.0.ref_ptr.1 in let d : (Ob R).Denot = a.0.now in
    let z : (walk_of 𝓛 En hs c).Ghost = ((κs, qs, bounds, a, (shr_vals a.0, tt)), tt) in
    let Post : Val → SProp 𝓤 = (walk_of 𝓛 En hs c).post z in
    let Ref : RattleType = ShrRef (named 0) κ R in let Out : RattleType = type_at En.signature.result κs in
    qed 𝓛 (((‵ (flft κ q) ⊛ ‵ (flft μ r) ⊛ ‵ ftrue) ⊛ ‵ (owns (types_at En.signature.params κs) a z.0.4)) ∷
    raw ((c κs a).requires tt) ∷ []) ∵
    split ! $ split ! $ move ! (2 ∷ []) $ fsplit ! $ fsplit ! $ move ! (1 ∷ 3 ∷ 4 ∷ []) $
    use1 𝓛 (‵ (S R 𝓛 κ d rb ro) ⊛ ‵ (fhide (maybe_lent R d.at d.value κ))) (opened R 𝓛 κ d rb ro) $ split ! $
    keep ! (0 ∷ 1 ∷ 2 ∷ 3 ∷ []) $ move ! (1 ∷ []) $ unhide ! $
    lent_either R ! κ d.at d.value
    -- [the fields; the token of κ; the other tokens]
    (λ is e. let none : Val = live 0 vnil in
    let good : Good (layout Out) none = (tt, (record { fits = lit< tt }, tt)) in
    enter ! 𝓣.C 𝓣.Λ fn (vptr rb ro ∷ []) Post $ alloc_all ! (λ l. pass_all ! refl ((tt, tt), tt) $
    let Ev = env fn.locals l in
    word_in ! tt d.at null_ptr e rb (ro + 0) (shows_pointer R 𝓛 κ d rb ro) (λ q'.
    sets ! (of_opd ! (load ! (through ! refl (fld ! refl (stop !))) (look ! 1 refl))) refl
    (tt, record { fits = lit< tt }) $
    word_out ! tt d.at null_ptr e rb (ro + 0) $
    sets ! (of_opd ! (get ! refl)) refl (tt, record { fits = lit< tt }) $
    sets ! (bin ! (get ! refl) (lit ! tt) tt) refl (tt, tt) $ first ! $ branches ! (get ! refl)
    (λ _. sets_last ! (agg ! (and_then ! (lit ! tt) (no_more !))) refl good $
    exec ! 𝓣.C 𝓣.Λ Ev (after 4 fn.body) (at_ret Ev Post) $ sets ! (of_opd ! (get ! refl)) refl good $
    returns ! (look_at ! 0 refl) $ free_all ! refl $ move ! (0 ∷ 2 ∷ []) $ join ! $
    use0 𝓛 (‵ (Out.own_val None (none ∷ []))) (none_of 𝓛 Ref) $
    use0 𝓛 (raw (fact 𝓤 (d.value ≡ None))) (fact_i 𝓤 (d.value ≡ None) (emp 𝓤) is) $ nothing ! $ nothing ! $ fjoin ! $
    keep ! (3 ∷ 0 ∷ 2 ∷ 1 ∷ []) $ by ! (leaves 𝓛 En hs c z none None (tt, tt) (tt, tt))) (λ wrong. absurd wrong))))
    -- [the value; the fields; the token of κ; the other tokens]
    (λ x b o is e low. let y : Ref.Denot = record { ref_ptr = (b, o); now = x } in
    let v : Val = live 1 (vcons (vptr b o) vnil) in
    let good : Good (layout Out) v = (tt, (record { fits = lit< tt }, (tt, tt))) in
    feq_i ! (List Val) (vptr b o ∷ []) (vptr b o ∷ []) refl $ fjoin ! $
    use1 𝓛 (‵ (Out.own_val (Some y) (v ∷ []))) (Some-of 𝓛 Ref y (vptr b o)) $ move ! (1 ∷ 2 ∷ []) $
    enter ! 𝓣.C 𝓣.Λ fn (vptr rb ro ∷ []) Post $ alloc_all ! (λ l. pass_all ! refl ((tt, tt), tt) $
    let Ev = env fn.locals l in
    word_in ! tt d.at (block_ptr b o) e rb (ro + 0) (shows_pointer R 𝓛 κ d rb ro) (λ q'.
    sets ! (of_opd ! (load ! (through ! refl (fld ! refl (stop !))) (look ! 1 refl))) refl (tt, tt) $
    word_out ! tt d.at (block_ptr b o) e rb (ro + 0) $
    sets ! (of_opd ! (get ! refl)) refl (tt, tt) $
    sets ! (bin ! (get ! refl) (lit ! tt) (tests_null (block_ptr b o) low)) refl (tt, tt) $
    first ! $ branches ! (get ! refl) (λ wrong. absurd wrong) (λ _.
    let Then = any_q (after_seq 𝓤 H (Wp 𝓤 H 𝓣.C 𝓣.Λ Ev (after 4 fn.body) (at_return 𝓤 H Ev Post)) (at_return 𝓤 H Ev Post)) in
    first ! $ blocks ! $ sets_last ! (addr ! (through ! refl (stop !))) refl (tt, tt) $ exec ! 𝓣.C 𝓣.Λ Ev wraps Then $
    sets ! (of_opd ! (get ! refl)) refl (tt, tt) $
    sets_last ! (agg ! (and_then ! (lit ! tt) (and_then ! (get ! refl) (no_more !)))) refl good $
    exec ! 𝓣.C 𝓣.Λ Ev (after 4 fn.body) (at_ret Ev Post) $ sets ! (of_opd ! (get ! refl)) refl good $
    returns ! (look_at ! 0 refl) $ free_all ! refl $ move ! (0 ∷ 3 ∷ []) $ join ! $
    use0 𝓛 (raw (fact 𝓤 (d.value ≡ Some x))) (fact_i 𝓤 (d.value ≡ Some x) (emp 𝓤) is) $
    nothing ! $ nothing ! $ fjoin ! $
    keep ! (2 ∷ 0 ∷ 4 ∷ 1 ∷ []) $ by ! (leaves 𝓛 En hs c z v (Some y) (tt, tt) (tt, tt)))))))
