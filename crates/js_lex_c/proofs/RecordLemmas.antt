-- Records of tokens, one token after the other.
use Rattle.std.proofs.Common.{◌≡◌, ℕ, suc, ◌+◌, List, [], ◌∷◌, ◌++◌, length, refl, sym, ◌∙◌, ap, arith, add_assoc}
use Rattle.std.proofs.Common.{zero-add, append-nil}
use Rattle.std.proofs.lemmas.Grind.{flat_map-append}
use Rattle.std.proofs.lemmas.List.{length-append}
use Rattle.js_lists.specs.Taken.{Taken}
use Rattle.js_lex_c.specs.Tokens.{pool, token_record, token_records, value_units}

records_from : (before : ℕ) (all : List Taken) (taken : Taken)
    → token_records before (all ++ taken ∷ [])
    ≡ token_records before all ++ token_record (before + length (pool all)) taken ∷ []
records_from before [] taken =
    let same : before ≡ before + 0 = omega arith in ap (λ n. token_record n taken ∷ []) same
records_from before (first ∷ more) taken =
    let units = value_units first.value in
    let sum : (before + length units) + length (pool more) ≡ before + length (units ++ pool more) =
    add_assoc before (length units) (length (pool more))
    ∙ ap (λ n. before + n) (sym (length-append units (pool more))) in
    ap (λ xs. token_record before first ∷ xs)
    (records_from (before + length units) more taken
    ∙ ap (λ n. token_records (before + length units) more ++ token_record n taken ∷ []) sum)

-- one token more
pub records_more : (all : List Taken) (taken : Taken)
    → token_records 0 (all ++ taken ∷ []) ≡ token_records 0 all ++ token_record (length (pool all)) taken ∷ []
records_more all taken =
    records_from 0 all taken
    ∙ ap (λ n. token_records 0 all ++ token_record n taken ∷ []) (zero-add (length (pool all)))

-- and its units
pub pool_more : (all : List Taken) (taken : Taken) → pool (all ++ taken ∷ []) ≡ pool all ++ value_units taken.value
pool_more all taken =
    flat_map-append (λ t. value_units t.value) all (taken ∷ [])
    ∙ ap (λ xs. pool all ++ xs) (append-nil (value_units taken.value))

-- there are as many records as tokens
pub count_records : (before : ℕ) (all : List Taken) → length (token_records before all) ≡ length all
count_records before [] = refl
count_records before (taken ∷ more) =
    ap (λ n. suc n) (count_records (before + length (value_units taken.value)) more)
