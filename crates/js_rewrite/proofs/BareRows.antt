-- Rows in which nothing is reported and no comment is found leave none live.
use Rattle.std.proofs.Common.{◌≡◌, ℕ, Bool, true, false, List, [], ◌∷◌, ◌++◌, refl, sym, ◌∙◌, ap, subst}
use Rattle.std.specs.List.{AllByRecursion, list_all}
use Rattle.std.proofs.lemmas.Bool.{and_parts}
use Rattle.js_text.specs.declared.source_type.SourceType.{SourceType}
use Rattle.js_session.specs.declared.command.Command.{Command}
use Rattle.js_session.specs.declared.row.Row.{Row}
use Rattle.js_session.specs.Effects.{effect_of}
use Rattle.js_session.specs.declared.command.Effect.{Effect}
use Rattle.js_session.specs.declared.command.Effect.TheVariants.{Reads, Peeks, ReLexes, Opens, Rewinds, Commits}
use Rattle.js_session.specs.Live.{State, after_row, state_after}
use Rattle.js_session.specs.Report.{Run}
use Rattle.js_session.proofs.LastingRuns.{lasting_steps}
use Rattle.js_session.proofs.RunLemmas.{state_step}
use Rattle.js_rewrite.specs.Faults.{may_rewrite}
use Rattle.js_rewrite.proofs.LastTokens.{lasting_of}

-- nothing is reported in a row, and no comment is found
abbrev pub IsBare : Row → Type 0
IsBare row = (row.diagnostics ≡ []) × (row.comments ≡ [])

-- nothing is live of what is reported and of comments
abbrev pub IsStill : State → Type 0
IsStill s = (s.now.findings.diagnostics ≡ []) × (s.now.findings.comments ≡ [])

both_empty : {A : Type 0} (xs ys : List A) → xs ≡ [] → ys ≡ [] → xs ++ ys ≡ []
both_empty xs ys e f = ap (λ zs. zs ++ ys) e ∙ f

still_behind : (effect : Effect) (row : Row) (s : State) → IsBare row → IsStill s → IsStill (after_row effect row s)
still_behind (Reads goal) row s bare still = (
  both_empty s.now.findings.diagnostics row.diagnostics still.0 bare.0,
  both_empty s.now.findings.comments row.comments still.1 bare.1,
)
still_behind (Peeks goal) row s bare still = still
still_behind (ReLexes goal) row s bare still = by_flag row.taken refl
  where
    by_flag : (b : Bool) → row.taken ≡ b → IsStill (after_row (ReLexes goal) row s)
    by_flag true e =
        rw e (
          both_empty s.now.findings.diagnostics row.diagnostics still.0 bare.0,
          both_empty s.now.findings.comments row.comments still.1 bare.1,
        )
    by_flag false e = rw e still
still_behind Opens row s bare still = still
still_behind Rewinds row s bare still = still
still_behind Commits row s bare still = still

pub rows_still : (text : List ℕ) (t : SourceType) (s : State) (commands : List Command) (rows : List Row)
    → list_all (may_rewrite t) commands ≡ true → Run text t s commands rows → AllByRecursion IsBare rows → IsStill s
    → IsStill (state_after s commands rows)
rows_still text t s [] rows may run bare still = subst (λ rs. IsStill (state_after s [] rs)) (sym run) still
rows_still text t s (c ∷ cs) [] may run bare still =
    absurd
    (let step = lasting_steps c (lasting_of t c (and_parts (may_rewrite t c) (list_all (may_rewrite t) cs) may).0) in
    rw step at run)
rows_still text t s (c ∷ cs) (row ∷ rows) may run bare still =
    let both = and_parts (may_rewrite t c) (list_all (may_rewrite t) cs) may in
    let step = lasting_steps c (lasting_of t c both.0) in
    let here = rw step at run in
    subst IsStill (sym (state_step s c cs row rows step))
    (rows_still text t (after_row (effect_of c) row s) cs rows both.1 here.1 bare.1
    (still_behind (effect_of c) row s bare.0 still))
