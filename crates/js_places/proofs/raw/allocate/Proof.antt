-- `allocate` makes empty places of the allocator's room. Assumes `Logic`.
use Rattle.js_places.proofs.Names.{◌≡◌, [], ◌∷◌, refl, ℕ, ◌*◌, ◌^◌, ◌<◌, sym, ap, ◌∙◌, length, replicate}
use Rattle.js_places.proofs.Names.{length-replicate, subst, arith, lit<, w64, named, Val, vptr, vint, inst_fn, Share}
use Rattle.js_places.proofs.Names.{Lft, ftrue, flft, ‵, raw, ◌⊛◌, given, later, some, pick, learn, await, at_ret, ◌$◌}
use Rattle.js_places.proofs.Names.{◌∵◌, !, ⋆, ent, true, false, qed, by, keep, move, split, join, fsplit, fjoin}
use Rattle.js_places.proofs.Names.{rewrite, use1, use2, stop, fld, lit, of_opd, and_then, no_more, first, blocks, exec}
use Rattle.js_places.proofs.Names.{returns, enter, alloc_all, pass_all, free_all, look_at, get, get_in, sets, sets_last}
use Rattle.js_places.proofs.Names.{is, env, lands_last, agg, whole, tables, fact, ◌⊑◌, yes, RattleType, owns, usize}
use Rattle.js_places.proofs.Names.{RefOf, layout, Ptr, block_ptr, shr_vals, shr_Tells, plain, types_at, nothing, heard}
use Rattle.js_places.proofs.Names.{Stays, walk_of, stay_dropped, Goes-dropped, El, R, sz, proved, word-Good, after}
use mir.Val.{WT}
use denote.Triple.Table.{framed}
use denote.Triple.Walked.{ends_at, says}
use denote.Triple.Call.{calls_at, calls_at_last}
use types.Kit.{suffices, done}
use base.Logic.{SProp}
use base.Fml.{froom, Incl-trans}
use mir.Syntax.{Body, ty_array}
use mir.Val.{vstruct, vcons, vnil}
use prog.Memory.{align, capped}
use prog.Capped.{capped_fits}
use prog.Wp.{Wp, after_seq, at_return}
use types.Kit.{Post as After, any_q}
use types.Match.{live, vrt, in_variant}
use types.Run.{bin, size_word, align_word, switches_on}
use types.ByLocal.{get_tag, lands_as}
use denote.Laws.{Is}
use denote.Plain.{uint_vals, uint_Tells}
use denote.Steps.{owned}
use denote.Struct.Struct.{Struct, Struct-Makes}
use denote.Struct.Declared as Declared
use Rattle.std.specs.Prelude.{Ok, Err, IfOk}
use Rattle.std.specs.Vec.Ownership.{FitsInBlock}
use Rattle.core.specs.contracts.result.Result as RS
use Rattle.core.specs.contracts.alloc.AllocError as AE
use Rattle.core.proofs.mem.Param.{elτ}
use Rattle.core.proofs.slots.Places.{of_room}
use Rattle.std_alloc.proofs.VecSteps.Shapes.{head, arm_body}
use Rattle.std_alloc.proofs.RcSteps.{Good, first_Good}
use Rattle.std_alloc.proofs.ResultValues.{ok_of, err_of}
use Rattle.core.proofs.alloc.Calls.{Al, token, Answer-typed, Takes, at_takes, Answered, Takes-goes, Takes-gives}
use Rattle.core.proofs.alloc.Calls.{answers}
use Rattle.core.proofs.slots.Leases.{P, args, uncapped, block_ty, block_size, block_align}
use Rattle.core.proofs.slots.Opens.{Sr, row_val}
use Rattle.core.proofs.slots.Slots.from_raw_parts.Met as callee
use Rattle.js_places.proofs.Rows.{places, row_fits, Makes, at_makes, Is as Made, makes_goes, makes_gives}
use Rattle.js_places.proofs.Values.{Whole, whole as made, whole_val, whole_made, deed_is}
use Rattle.js_places.specs.contracts.raw.allocate as f
use Rattle.js_places.proofs.raw.allocate.Statement.{statement}
use Rattle.js_places.proofs.raw.allocate.Code as code

pub allocate_spec : {M : Type 1} → statement M
allocate_spec 𝓤 𝓛 𝓜 𝓡 wired T A L LA g d dd met md =
    let 𝓣 = tables 𝓤 𝓛.H 𝓜 𝓡 𝓡.env in let E : El = record { row = T; laws = L } in
    let Z : Al = record { row = A; laws = LA; g = g; d = d; drops = dd } in
    let En = f.ended T A g d dd in let c = f.clauses T A g d dd 𝓛 𝓜.mem 𝓡.returns in
    let fn = inst_fn (args E Z) code.function in
    let met₁ = callee.met 𝓤 𝓛 𝓜 𝓡 (code.calls-core::slots::Slots::from_raw_parts 𝓡.env wired) T L in
    let hs : Stays En.signature.params En.kept = (
      stay_dropped (RefOf (0 ∷ []) tt (plain (λ _. P E Z)) (λ _. tt)) yes,
      (stay_dropped (plain (λ _. usize)) yes, tt),
    ) in
    proved 𝓛 En hs c 𝓜 𝓡 (
      Goes-dropped 𝓛 3 (RefOf (0 ∷ []) tt (plain (λ _. P E Z)) (λ _. tt)) yes (λ κs x w. refl),
      (Goes-dropped 𝓛 3 (plain (λ _. usize)) yes (λ κs x w. refl), tt),
    )
    (f.Key.name (args E Z)) fn (code.unfolded 𝓤 𝓛.H 𝓜 𝓡 wired (T, (A, tt)) d dd) (λ κs. (shr_vals, (uint_vals w64, tt)))
    (λ κs. (shr_Tells (named 0) κs.0 (P E Z), (uint_Tells w64, tt))) (λ κs qs bounds a _ are.
    let κ : Lft = κs.0 in let q : Share = qs.0 in let κ₁ : Lft = κs.1.0 in let q₁ : Share = qs.1.0 in
    let κ₂ : Lft = κs.1.1.0 in let q₂ : Share = qs.1.1.0 in
    let hp = a.0.ref_ptr in let n : ℕ = a.1.0 in let fn64 : n < 2 ^ 64 = are.1.0.1 in
    let y : (walk_of 𝓛 En hs c).Ghost = ((κs, qs, bounds, a, (shr_vals a.0, (vint w64 n ∷ [], tt))), tt) in
    let Out = RS.the_row (Whole E Z) AE.the_row in let Post : Val → SProp 𝓤 = (walk_of 𝓛 En hs c).post y in
    let exits : (r : Out.Denot) (v : Val) → IfOk r (λ t. (t.0.len ≡ n) × (t.1.ptr ≡ t.0.ptr) × (t.2.at ≡ t.0.ptr) ×
    (t.2.len ≡ n) × (t.2.alloc ≡ a.0.now) × (t.0.filled ≡ replicate n false))
    → ent 𝓤 (⋆ 𝓛 (‵ (Out.own_val r (v ∷ [])) ∷ ‵ (flft κ q) ∷ ‵ (flft κ₁ q₁) ∷ (‵ (flft κ₂ q₂) ⊛ ‵ ftrue) ∷ []))
    (Post v) = λ r v told.
    qed 𝓛 (‵ (Out.own_val r (v ∷ [])) ∷ ‵ (flft κ q) ∷ ‵ (flft κ₁ q₁) ∷ (‵ (flft κ₂ q₂) ⊛ ‵ ftrue) ∷ []) ∵
    suffices ! _ (ends_at 𝓛 En hs c y v r (tt, (tt, tt)) (tt, (tt, tt))) $ says ! told $
    move ! (2 ∷ 3 ∷ []) $ join ! $ move ! (2 ∷ 0 ∷ []) $ join ! $ nothing ! $ nothing ! $ fjoin ! $ nothing ! $
    fjoin ! $ move ! (1 ∷ 0 ∷ []) $ done ! in
    let Ok? : Type 0 = (0 < n) × FitsInBlock (R E) n × T.Denot in
    qed 𝓛 (((‵ (flft κ q) ⊛ ‵ (flft κ₁ q₁) ⊛ ‵ (flft κ₂ q₂) ⊛ ‵ ftrue) ⊛
    ‵ (owns (types_at En.signature.params κs) a y.0.4)) ∷ (raw (fact 𝓤 (κ₁ ⊑ T.lives)) ⊛ raw (fact 𝓤 (κ₂ ⊑ A.lives)) ⊛
    raw (fact 𝓤 Ok?)) ∷ []) ∵
    move ! (1 ∷ []) $ split ! $ heard ! (κ₁ ⊑ T.lives) (λ alive. split ! $
    heard ! (κ₂ ⊑ A.lives) (λ inA. heard ! Ok? (λ ok.
    let s = sz E in let small : n * s < 2 ^ 63 = ok.1.0 in let bytes : n * s < 2 ^ 64 = omega arith in
    let al : ℕ = capped (align (elτ E)) in
    let xs = replicate n ok.2 in let long : length xs ≡ n = length-replicate n ok.2 in
    let fs = replicate (length xs) false in
    split ! $ split ! $ move ! (2 ∷ []) $ fsplit ! $ fsplit ! $ keep ! (1 ∷ 3 ∷ 4 ∷ []) $
    -- [the handle; the token of κ; the other tokens]
    enter ! 𝓣.C 𝓣.Λ fn (vptr hp.0 hp.1 ∷ vint w64 n ∷ []) _ $ alloc_all !
    (λ l. pass_all ! refl ((tt, tt), ((tt, record { fits = fn64 }), tt)) $
    let Ev = env fn.locals l in let both : Body = head (after 2 fn.body) in
    let Then : After 𝓤 𝓛.H = any_q (after_seq 𝓤 𝓛.H (Wp 𝓤 𝓛.H 𝓣.C 𝓣.Λ Ev (after 3 fn.body) (at_return 𝓤 𝓛.H Ev Post))
    (at_return 𝓤 𝓛.H Ev Post)) in
    let y₁ = at_takes Z 𝓛 𝓜.mem 𝓡.returns κ q hp a.0.now (n * s) al (block_ty E n) in
    sets ! (is ! (bin ! (get ! refl) (size_word !) (record {
      fits = subst (λ (k : ℕ). k < 2 ^ 64)
          (sym (uncapped n s bytes)) bytes;
    })) (ap (vint w64) (uncapped n s bytes))) refl (tt, record { fits = bytes }) $
    use2 𝓛 (raw ((Takes Z 𝓛 𝓜.mem 𝓡.returns).pre y₁)) (Takes-goes Z 𝓛 𝓜.mem 𝓡.returns κ q hp a.0.now
    (Incl-trans bounds.0 inA) (n * s) al (block_ty E n) (block_size E n bytes) (block_align E n) bytes
    (capped_fits (align (elτ E)))) $
    calls_at ! (framed 𝓤 𝓛.H 𝓜 𝓣) (Takes Z 𝓛 𝓜.mem 𝓡.returns) (met.allocate dd) y₁
    (and_then ! (get ! refl) (and_then ! (get ! refl) (and_then ! (align_word !) (no_more !)))) (λ v.
    use1 𝓛 (later (raw (Answered Z 𝓛 𝓜.mem 𝓡.returns a.0.now (block_ty E n) v) ⊛ ‵ (flft κ q)))
    (Takes-gives Z 𝓛 𝓜.mem 𝓡.returns κ q hp a.0.now (n * s) al (block_ty E n) v) $ await ! tt $ split ! $
    answers Z ! 𝓜.mem 𝓡.returns a.0.now (block_ty E n) v
    (λ b o e.
    lands_as ! e refl (Answer-typed true b o) $ first ! $ switches_on !
    (get_tag ! (vrt ! refl (fld ! refl (stop !))) (whole !)) $ exec ! 𝓣.C 𝓣.Λ Ev (arm_body 0 both) Then $
    sets ! (of_opd ! (get_in ! (vrt ! refl (fld ! refl (stop !))) (in_variant ! 0 0 refl refl (whole !)))) refl
    (tt, tt) $ sets ! (of_opd ! (get ! refl)) refl (tt, tt) $
    let p : Ptr = block_ptr b o in let y₂ = at_makes E 𝓛 𝓜.mem 𝓡.returns κ₁ q₁ b o n xs fs in
    let words : WT (row_val b o n) = (tt, (record { fits = fn64 }, tt)) in
    let got_val : Val = whole_val b o n in let typed : Good (layout (Whole E Z)) got_val =
    (tt, (words, ((tt, tt), ((tt, tt), tt)))) in let typed_ok = first_Good (layout (Whole E Z)) got_val typed in
    move ! (3 ∷ []) $ split ! $ move ! (2 ∷ []) $ use1 𝓛 (‵ (froom (ty_array (elτ E) n) b o))
    (𝓛.laws.raw-room (ty_array (elτ E) n) b o) $
    rewrite ! 0 (λ (k : ℕ). ‵ (froom (ty_array (elτ E) k) b o)) (sym long) refl $
    use1 𝓛 (‵ (places E b o xs fs)) (of_room E 𝓛 b xs o) $ first ! $ blocks ! $
    use2 𝓛 (raw ((Makes E 𝓛 𝓜.mem 𝓡.returns κ₁ q₁ b o).pre y₂)) (makes_goes E 𝓛 𝓜.mem 𝓡.returns κ₁ q₁ b o n xs fs alive
    (sym long, sym (length-replicate (length xs) false ∙ long)) fn64 small) $
    calls_at_last ! (framed 𝓤 𝓛.H 𝓜 𝓣) (Makes E 𝓛 𝓜.mem 𝓡.returns κ₁ q₁ b o) met₁ y₂
    (and_then ! (get ! refl) (and_then ! (get ! refl) (no_more !))) (λ v₂.
    use1 𝓛 (later (some (λ (r : (Sr E).Denot). given ((v₂ ≡ row_val b o n) ×
    Made E 𝓛 𝓜.mem 𝓡.returns κ₁ q₁ b o n xs fs r) (‵ ((Sr E).own_val r (row_val b o n ∷ [])) ⊛ ‵ (flft κ₁ q₁)))))
    (makes_gives E 𝓛 𝓜.mem 𝓡.returns κ₁ q₁ b o n xs fs v₂) $ await ! tt $ pick ! (λ r. learn ! (λ got. split ! $
    let told = got.1 in let w : (Whole E Z).Denot = made E Z r b o n a.0.now in
    lands_last ! refl (row_fits E v₂ b o n got.0 fn64) $ exec ! 𝓣.C 𝓣.Λ Ev (after 3 (arm_body 0 both)) Then $
    sets ! (is ! (of_opd ! (get ! refl)) got.0) refl (tt, words) $ sets ! (of_opd ! (get ! refl)) refl (tt, words) $
    sets ! (agg ! (and_then ! (get ! refl) (no_more !))) refl (word-Good [] p) $
    sets ! (agg ! (no_more !)) refl (tt, tt) $ sets ! (agg ! (and_then ! (get ! refl) (no_more !))) refl
    (tt, (tt, tt)) $
    sets ! (agg ! (and_then ! (get ! refl) (and_then ! (get ! refl) (and_then ! (get ! refl)
    (no_more !))))) refl typed $
    sets_last ! (agg ! (and_then ! (lit ! tt) (and_then ! (get ! refl) (no_more !)))) refl typed_ok $
    exec ! 𝓣.C 𝓣.Λ Ev (after 3 fn.body) (at_ret Ev Post) $ sets ! (of_opd ! (get ! refl)) refl typed_ok $
    move ! (3 ∷ []) $ rewrite ! 0 (λ F. ‵ F) (sym (deed_is (token Z a.0.now) (R E) p n ok.0)) refl $
    move ! (1 ∷ 0 ∷ []) $
    use2 𝓛 (‵ ((Whole E Z).own_val w (got_val ∷ []))) (whole_made E Z 𝓛 b o n a.0.now r) $
    use1 𝓛 (‵ (Out.own_val (Ok w) (live 0 (vcons got_val vnil) ∷ []))) (ok_of 𝓛 (Whole E Z) AE.the_row w got_val) $
    returns ! (look_at ! 0 refl) $ free_all ! refl $ keep ! (0 ∷ 3 ∷ 1 ∷ 2 ∷ []) $
    by ! (exits (Ok w) (live 0 (vcons got_val vnil)) (
      told.1,
      sym told.0,
      sym told.0,
      refl,
      refl,
      told.3 ∙ ap (λ k. replicate k false) long,
    ))))))
    (λ e.
    let none : Val = live 1 (vcons (vstruct vnil) vnil) in let Refusal : RattleType =
    Struct (Declared.shape AE.the_type) in
    lands_as ! e refl (Answer-typed false 0 0) $ first ! $ switches_on !
    (get_tag ! (vrt ! refl (fld ! refl (stop !))) (whole !)) $ exec ! 𝓣.C 𝓣.Λ Ev (arm_body 1 both) Then $
    sets ! (of_opd ! (get_in ! (vrt ! refl (fld ! refl (stop !))) (in_variant ! 1 0 refl refl (whole !)))) refl
    (tt, tt) $
    sets_last ! (agg ! (and_then ! (lit ! tt) (and_then ! (get ! refl) (no_more !)))) refl
    (tt, (record { fits = lit< tt }, (tt, tt))) $
    exec ! 𝓣.C 𝓣.Λ Ev (after 3 fn.body) (at_ret Ev Post) $ sets ! (of_opd ! (get ! refl)) refl
    (tt, (record { fits = lit< tt }, (tt, tt))) $
    owned ! Refusal (Is Refusal) (Struct-Makes 𝓛 (Declared.shape AE.the_type) tt) tt (vstruct vnil ∷ [])
    (tt, (refl, tt)) $
    use1 𝓛 (‵ (Out.own_val (Err (record {})) (none ∷ []))) (err_of 𝓛 (Whole E Z) AE.the_row (record {})
    (vstruct vnil)) $
    returns ! (look_at ! 0 refl) $ free_all ! refl $ move ! (2 ∷ []) $ split ! $ keep ! (2 ∷ 3 ∷ 0 ∷ 1 ∷ []) $
    by ! (exits (Err (record {})) none tt))))))))
