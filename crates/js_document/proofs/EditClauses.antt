-- What an edit of a document gives.
use Rattle.std.proofs.Common.{◌≡◌, ℕ, suc, ◌+◌, ◌-◌, ◌<◌, List, [], ◌∷◌, ◌++◌, length, take}
use Rattle.std.proofs.Common.{refl, sym, ◌∙◌, ap, subst, arith, append_assoc, length-append, Some, None}
use Rattle.std.proofs.Common.{inl, inr}
use Rattle.std.proofs.lemmas.List.{take_at}
use Rattle.js_session.specs.declared.row.Row.{Row}
use Rattle.js_relex.specs.Joined.{FirstFrom}
use Rattle.js_relex.proofs.FirstLemmas.{behind_none}
use Rattle.js_document.specs.declared.open.Node.{Node}
use Rattle.js_document.specs.Reading.{JoiningState, JoinsHeld, JoinsNone, Knowledge, LastJoins, NoneJoins, with_row, with_rows}
use Rattle.js_document.specs.States.{Alikeness}
use Rattle.js_document.proofs.TokenLemmas.{rows_both}

-- None of the rows that were read joins an old one, told of their indices.
pub none_first : {K : Type 0} (knows : Knowledge K) (Alike : Alikeness) (nodes : List Node) (j : JoiningState K)
    (P : ℕ → Row → Type 0) (before rows later : List Row)
    → ((index : ℕ) (row : Row) → index < length (before ++ rows ++ later)
    → JoinsNone {K = K} knows Alike nodes j row.token (with_rows [] (take (suc index) (before ++ rows ++ later)))
    → P index row → ⊥)
    → NoneJoins {K = K} knows Alike nodes j (with_rows [] before) rows → FirstFrom P (length before) rows None
none_first knows Alike nodes j P before [] later each none = refl
none_first {K} knows Alike nodes j P before (row ∷ rows) later each none =
    let all = before ++ (row ∷ rows) ++ later in
    let split : all ≡ (before ++ row ∷ []) ++ (rows ++ later) =
    append_assoc before (row ∷ rows) later ∙ sym (append_assoc before (row ∷ []) (rows ++ later)) in
    let long : length (before ++ row ∷ []) ≡ suc (length before) =
    length-append before (row ∷ []) ∙ omega arith in
    let cut : take (suc (length before)) all ≡ before ++ row ∷ [] =
    ap (take (suc (length before))) split ∙ take_at (before ++ row ∷ []) (rows ++ later) (suc (length before)) long in
    let tokens : with_row (with_rows [] before) row ≡ with_rows [] (before ++ row ∷ []) =
    sym (rows_both [] before (row ∷ [])) in
    let inside : length before < length all =
    (let whole = ap (λ l. length l) split in let sum = length-append (before ++ row ∷ []) (rows ++ later) in
    omega (arith, whole, sum, long)) in
    let same : all ≡ (before ++ row ∷ []) ++ rows ++ later = split ∙ sym (append_assoc (before ++ row ∷ []) rows later) in
    inr (
      each (length before) row inside
          (subst (λ ts. JoinsNone {K = K} knows Alike nodes j row.token ts) (tokens ∙ ap (with_rows []) (sym cut)) none.0),
      subst (λ n. FirstFrom P n rows None) long
          (none_first {K = K} knows Alike nodes j P (before ++ row ∷ []) rows later
          (subst
          (λ xs. (index : ℕ) (r : Row) → index < length xs
          → JoinsNone {K = K} knows Alike nodes j r.token (with_rows [] (take (suc index) xs)) → P index r → ⊥) same each)
          (subst (λ ts. NoneJoins {K = K} knows Alike nodes j ts rows) tokens none.1)),
    )

-- The last of the rows that were read joins an old one, and is the first that does.
pub last_first : {K : Type 0} (knows : Knowledge K) (Alike : Alikeness) (nodes : List Node) (j : JoiningState K)
    (P : ℕ → Row → Type 0) (before rows later : List Row) (left : ℕ)
    → ((index : ℕ) (row : Row) → index < length (before ++ rows ++ later)
    → JoinsNone {K = K} knows Alike nodes j row.token (with_rows [] (take (suc index) (before ++ rows ++ later)))
    → P index row → ⊥)
    → ((index : ℕ) (row : Row) → index < length (before ++ rows ++ later)
    → JoinsHeld {K = K} knows Alike nodes j row.token (with_rows [] (take (suc index) (before ++ rows ++ later))) left
    → P index row)
    → LastJoins {K = K} knows Alike nodes j (with_rows [] before) rows left
    → FirstFrom P (length before) (rows ++ later) (Some (length before + length rows - 1))
last_first {K} knows Alike nodes j P before rows later left each held l =
    let all = before ++ rows ++ later in
    let split : rows ++ later ≡ l.before ++ (l.last ∷ later) =
    ap (λ rs. rs ++ later) l.rows_are ∙ append_assoc l.before (l.last ∷ []) later in
    let same : all ≡ before ++ l.before ++ (l.last ∷ later) =
    append_assoc before rows later ∙ ap (λ rs. before ++ rs) split ∙ sym (append_assoc before l.before (l.last ∷ later)) in
    let none = none_first {K = K} knows Alike nodes j P before l.before (l.last ∷ later)
    (subst
    (λ xs. (index : ℕ) (r : Row) → index < length xs
    → JoinsNone {K = K} knows Alike nodes j r.token (with_rows [] (take (suc index) xs)) → P index r → ⊥) same each)
    l.none in
    let index = length before + length l.before in
    let long_rows : length rows ≡ length l.before + 1 =
    ap (λ rs. length rs) l.rows_are ∙ length-append l.before (l.last ∷ []) in
    let place : index ≡ length before + length rows - 1 = omega (arith, long_rows) in
    let front : all ≡ (before ++ rows) ++ later = refl in
    let long : length (before ++ rows) ≡ suc index = length-append before rows ∙ omega (arith, long_rows) in
    let cut : take (suc index) all ≡ before ++ rows = take_at (before ++ rows) later (suc index) long in
    let inside : index < length all = (let sum = length-append (before ++ rows) later in omega (arith, sum, long)) in
    let here : P index l.last =
    held index l.last inside
    (subst (λ ts. JoinsHeld {K = K} knows Alike nodes j l.last.token ts left)
    (sym (rows_both [] before rows) ∙ ap (with_rows []) (sym cut)) l.joins) in
    subst (λ rs. FirstFrom P (length before) rs (Some (length before + length rows - 1))) (sym split)
    (behind_none P (length before) l.before (l.last ∷ later) (Some (length before + length rows - 1)) none
    (inl (here, ap Some (sym place))))
