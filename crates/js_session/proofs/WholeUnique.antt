-- The steps to the end of a source are the least that lead there, and there is one number of them.
use Rattle.std.proofs.Common.{◌≡◌, ℕ, zero, suc, ◌+◌, ◌<◌, ◌≤◌, Bool, List, [], ◌∷◌, ◌++◌, length, take, refl}
use Rattle.std.proofs.Common.{sym, ◌∙◌, ap, subst, arith, length-append, inl, inr}
use Rattle.std.proofs.lemmas.Bool.{cases_lt}
use Rattle.std.proofs.lemmas.List.{take-append-le}
use Rattle.std.specs.List.{AllByRecursion}
use Rattle.js_text.specs.declared.source_type.SourceType.{SourceType}
use Rattle.js_session.specs.declared.command.Command.TheVariants.{Next}
use Rattle.js_session.specs.declared.report.Report.{Report}
use Rattle.js_session.specs.declared.row.Row.{Row}
use Rattle.js_session.specs.Effects.{effect_of}
use Rattle.js_session.specs.Live.{State, after_row, state_after_first}
use Rattle.js_session.specs.Report.{Run, AreRows, ReportOf}
use Rattle.js_session.specs.WholeSource.{nexts, IsEof, ReportOfWhole}
use Rattle.js_session.proofs.Unique.{rows_unique, report_unique}

-- the first rows answer the first steps
run_front : (text : List ℕ) (t : SourceType) (s : State) (m n : ℕ) (rows : List Row) → m ≤ n
    → Run text t s (nexts n) rows → Run text t s (nexts m) (take m rows)
run_front text t s zero n rows le h = refl
run_front text t s (suc m) zero rows le h = absurd (omega (arith, le))
run_front text t s (suc m) (suc n) [] le h = absurd h
run_front text t s (suc m) (suc n) (row ∷ rows) le h =
    (h.0, run_front text t (after_row (effect_of Next) row s) m n rows (omega (arith, le)) h.1)

-- there is one row for each step
run_length : (text : List ℕ) (t : SourceType) (s : State) (n : ℕ) (rows : List Row) → Run text t s (nexts n) rows
    → length rows ≡ n
run_length text t s zero rows h = ap length h
run_length text t s (suc n) [] h = absurd h
run_length text t s (suc n) (row ∷ rows) h =
    let rest = run_length text t (after_row (effect_of Next) row s) n rows h.1 in omega (arith, rest)

rows_front : (text : List ℕ) (t : SourceType) (m n : ℕ) (rows : List Row) → m ≤ n → AreRows text t (nexts n) rows
    → AreRows text t (nexts m) (take (suc m) rows)
rows_front text t m n [] le h = absurd h
rows_front text t m n (row ∷ rows) le h = (h.0, run_front text t (state_after_first row) m n rows le h.1)

rows_length : (text : List ℕ) (t : SourceType) (n : ℕ) (rows : List Row) → AreRows text t (nexts n) rows
    → length rows ≡ suc n
rows_length text t n [] h = absurd h
rows_length text t n (row ∷ rows) h =
    let rest = run_length text t (state_after_first row) n rows h.1 in omega (arith, rest)

all-front : {X : Type 0} (P : X → Type 0) (n : ℕ) (xs : List X) → AllByRecursion P xs → AllByRecursion P (take n xs)
all-front P zero xs h = tt
all-front P (suc n) [] h = tt
all-front P (suc n) (x ∷ xs) h = (h.0, all-front P n xs h.1)

all-last : {X : Type 0} (P : X → Type 0) (xs : List X) (x : X) → AllByRecursion P (xs ++ x ∷ []) → P x
all-last P [] x h = h.0
all-last P (y ∷ ys) x h = all-last P ys x h.1

-- fewer steps give the first rows of a whole source, which are not its end
pub fewer_steps : (source : List ℕ) (t : SourceType) (collects : Bool) (steps fewer : ℕ) (whole report : Report)
    → ReportOfWhole source t collects steps whole → fewer < steps → ReportOf source t collects (nexts fewer) report
    → AllByRecursion (λ row. ¬ (IsEof row)) report.rows
fewer_steps source t collects steps fewer whole report h less r =
    let e = h.least in
    let long : length e.before + 1 ≡ suc steps =
    sym (length-append e.before (e.last ∷ [])) ∙ sym (ap length e.rows_are)
    ∙ rows_length source t steps whole.rows h.report_is.rows in
    let first : report.rows ≡ take (suc fewer) whole.rows =
    rows_unique source t (nexts fewer) report.rows (take (suc fewer) whole.rows) r.utf8 r.rows
    (rows_front source t fewer steps whole.rows (omega (arith, less)) h.report_is.rows) in
    let front : report.rows ≡ take (suc fewer) e.before =
    first ∙ ap (take (suc fewer)) e.rows_are
    ∙ take-append-le (suc fewer) e.before (e.last ∷ []) (omega (arith, long, less)) in
    subst (AllByRecursion (λ row. ¬ (IsEof row))) (sym front)
    (all-front (λ row. ¬ (IsEof row)) (suc fewer) e.before e.none_before)

-- fewer steps do not lead to the end
not_fewer : (source : List ℕ) (t : SourceType) (collects : Bool) (m n : ℕ) (a b : Report)
    → ReportOfWhole source t collects m a → ReportOfWhole source t collects n b → ¬ (m < n)
not_fewer source t collects m n a b h g less =
    let none = fewer_steps source t collects n m b a g less h.report_is in
    all-last (λ row. ¬ (IsEof row)) h.least.before h.least.last
    (subst (AllByRecursion (λ row. ¬ (IsEof row))) h.least.rows_are none) h.least.is_eof

pub whole_unique : (source : List ℕ) (t : SourceType) (collects : Bool) (m n : ℕ) (a b : Report)
    → ReportOfWhole source t collects m a → ReportOfWhole source t collects n b → (m ≡ n) × (a ≡ b)
whole_unique source t collects m n a b h g =
    let same : m ≡ n = elim (cases_lt m n) [
      | inl before ↦ absurd (not_fewer source t collects m n a b h g before)
      | inr past ↦
          elim (cases_lt n m) [
            | inl before ↦ absurd (not_fewer source t collects n m b a g h before)
            | inr equal ↦ omega (arith, past, equal)
          ]
    ] in (
      same,
      report_unique source t collects (nexts n) a b
          (subst (λ k. ReportOf source t collects (nexts k) a) same h.report_is) g.report_is,
    )
