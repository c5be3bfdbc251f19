-- Open scopes: how many end, and what is open then.
use Rattle.std.proofs.Common.{◌≡◌, ℕ, ◌+◌, ◌-◌, ◌≤◌, zero, suc, Bool, true, false, List, [], ◌∷◌, refl, sym, ◌∙◌, ap}
use Rattle.std.proofs.Common.{arith, drop, length, map, slice_get, Option, Some, None, if◌then◌else◌}
use Rattle.std.specs.Prelude.{option_map}
use Rattle.std.proofs.lemmas.List.{drop-map, length-map}
use Rattle.std.proofs.lemmas.Option.{slice_get-map}
use Rattle.js_jsx.specs.declared.change.Change.{Change}
use Rattle.js_jsx.specs.declared.change.Change.TheVariants.{Opens, Becomes}
use Rattle.js_jsx.specs.declared.class.TokenClass.{TokenClass}
use Rattle.js_jsx.specs.declared.class.TokenClass.TheVariants.{RightCurly, TemplateTail}
use Rattle.js_jsx.specs.declared.scope.Scope.{Scope}
use Rattle.js_jsx.specs.declared.stack.Open.{Open}
use Rattle.js_jsx.specs.Changes.{changed, closed, closes, left}
use Rattle.js_jsx.specs.Scopes.{braced, braced_below, from_brace, is_brace, skip_while, top}
use Rattle.js_jsx.specs.Stack.{IsCounted, scopes_of, with_top}
use Rattle.js_jsx.proofs.StackLemmas.{first_behind}

-- the scope at a depth of a stack
pub scope_at : (stack : List Open) (depth : ℕ) (o : Option Open) → o ≡ slice_get stack depth
    → option_map (λ item. item.scope) o ≡ slice_get (scopes_of stack) depth
scope_at stack depth o is =
    ap (option_map (λ item. item.scope)) is ∙ sym (slice_get-map (λ item. item.scope) stack depth)

-- what comes first of a list
pub first_item : {X : Type 0} (xs : List X) (x : X) → Some x ≡ slice_get xs 0 → xs ≡ x ∷ drop 1 xs
first_item [] x is = absurd (cc)
first_item (y ∷ ys) x is = let same : y ≡ x = cc in ap (λ z. z ∷ ys) same

pub no_item : {X : Type 0} (xs : List X) → None ≡ slice_get xs 0 → xs ≡ []
no_item [] is = refl
no_item (y ∷ ys) is = absurd (cc)

-- How many scopes there are from the last open brace on, by the item that was opened last.
counted_items : (stack rest : List Open) (item : Open) → stack ≡ item ∷ rest → IsCounted stack
    → item.braced ≡ braced (scopes_of rest)
counted_items stack rest item is counted =
    let both : item.braced ∷ map (λ i. i.braced) rest ≡ braced (scopes_of rest) ∷ braced_below (scopes_of rest) =
    rw is at counted in
    cc

pub braced_by_item : (stack : List Open) (item : Open) → Some item ≡ slice_get stack 0 → IsCounted stack
    → is_brace item.scope ≡ false → item.braced ≡ braced (scopes_of stack)
braced_by_item stack item at counted no_brace =
    let is = first_item stack item at in
    counted_items stack (drop 1 stack) item is counted
    ∙ by_test (is_brace item.scope) no_brace
    ∙ sym (ap (λ l. braced (scopes_of l)) is)
  where
    by_test : (b : Bool) → b ≡ false → braced (scopes_of (drop 1 stack))
        ≡ length (if b then scopes_of (item ∷ drop 1 stack) else from_brace (scopes_of (drop 1 stack)))
    by_test true e = absurd (cc)
    by_test false e = refl

pub braced_at_top : (stack : List Open) (item : Open) → Some item ≡ slice_get stack 0
    → is_brace item.scope ≡ true → length stack ≡ braced (scopes_of stack)
braced_at_top stack item at is_one =
    let is = first_item stack item at in
    ap length is ∙ by_test (is_brace item.scope) is_one ∙ sym (ap (λ l. braced (scopes_of l)) is)
  where
    by_test : (b : Bool) → b ≡ true → length (item ∷ drop 1 stack)
        ≡ length (if b then scopes_of (item ∷ drop 1 stack) else from_brace (scopes_of (drop 1 stack)))
    by_test true e = sym (length-map (item ∷ drop 1 stack) (λ i. i.scope))
    by_test false e = absurd (cc)

pub braced_of_none : (stack : List Open) → None ≡ slice_get stack 0 → 0 ≡ braced (scopes_of stack)
braced_of_none stack at = sym (ap (λ l. braced (scopes_of l)) (no_item stack at))

-- no more scopes than there are
pub braced_within : (scopes : List Scope) → braced scopes ≤ length scopes
braced_within [] = omega arith
braced_within (scope ∷ scopes) = by_test (is_brace scope) (braced_within scopes)
  where
    by_test : (b : Bool) → braced scopes ≤ length scopes
        → length (if b then scope ∷ scopes else from_brace scopes) ≤ length (scope ∷ scopes)
    by_test true within = omega arith
    by_test false within = omega (arith, within)

-- All above the last open brace, or all where none is open, is left out by their number.
pub above_brace : (scopes : List Scope) → drop (length scopes - braced scopes) scopes ≡ from_brace scopes
above_brace [] = refl
above_brace (scope ∷ scopes) = by_test (is_brace scope) (above_brace scopes)
  where
    by_test : (b : Bool) → drop (length scopes - braced scopes) scopes ≡ from_brace scopes
        → drop (length (scope ∷ scopes) - length (if b then scope ∷ scopes else from_brace scopes)) (scope ∷ scopes)
        ≡ (if b then scope ∷ scopes else from_brace scopes)
    by_test true rest =
        let none : length (scope ∷ scopes) - length (scope ∷ scopes) ≡ 0 = omega arith in
        ap (λ n. drop n (scope ∷ scopes)) none
    by_test false rest =
        let one_more : length (scope ∷ scopes) - braced scopes ≡ suc (length scopes - braced scopes) =
        omega (arith, braced_within scopes) in
        ap (λ n. drop n (scope ∷ scopes)) one_more ∙ rest

-- what is left behind some scopes, by the one that comes next
pub next_scope : (scopes : List Scope) (n : ℕ) (scope : Scope) → Some scope ≡ slice_get scopes n
    → drop n scopes ≡ scope ∷ drop (n + 1) scopes
next_scope [] n scope is = absurd (cc)
next_scope (s ∷ ss) zero scope is = let same : s ≡ scope = cc in ap (λ x. x ∷ ss) same
next_scope (s ∷ ss) (suc n) scope is =
    next_scope ss n scope is
    ∙ (let more : suc n + 1 ≡ suc (n + 1) = omega arith in ap (λ m. scope ∷ drop m (s ∷ ss)) (sym more))

pub none_left : (scopes : List Scope) (n : ℕ) → None ≡ slice_get scopes n → drop n scopes ≡ []
none_left scopes n is = no_item (drop n scopes) (is ∙ sym (first_behind n scopes))

-- Scopes that pass a test are skipped one by one.
pub skips_one : (test : Scope → Bool) (scopes : List Scope) (n : ℕ) (scope : Scope)
    → Some scope ≡ slice_get scopes n → test scope ≡ true
    → skip_while test (drop n scopes) ≡ skip_while test (drop (n + 1) scopes)
skips_one test scopes n scope at passes =
    ap (skip_while test) (next_scope scopes n scope at) ∙ by_test (test scope) passes
  where
    by_test : (b : Bool) → b ≡ true
        → (if b then skip_while test (drop (n + 1) scopes) else scope ∷ drop (n + 1) scopes)
        ≡ skip_while test (drop (n + 1) scopes)
    by_test true e = refl
    by_test false e = absurd (cc)

pub skips_none : (test : Scope → Bool) (scopes : List Scope) (n : ℕ) (scope : Scope)
    → Some scope ≡ slice_get scopes n → test scope ≡ false → drop n scopes ≡ skip_while test (drop n scopes)
skips_none test scopes n scope at fails =
    next_scope scopes n scope at ∙ sym (by_test (test scope) fails)
    ∙ sym (ap (skip_while test) (next_scope scopes n scope at))
  where
    by_test : (b : Bool) → b ≡ false
        → (if b then skip_while test (drop (n + 1) scopes) else scope ∷ drop (n + 1) scopes)
        ≡ scope ∷ drop (n + 1) scopes
    by_test true e = absurd (cc)
    by_test false e = refl

pub skips_all : (test : Scope → Bool) (scopes : List Scope) (n : ℕ) → None ≡ slice_get scopes n
    → drop n scopes ≡ skip_while test (drop n scopes)
skips_all test scopes n none = let e = none_left scopes n none in e ∙ sym (ap (skip_while test) e)

-- A stack stays counted where an item is opened, put in the place of the first one, or ended.
pub counted_more : (stack : List Open) (item : Open) → IsCounted stack → item.braced ≡ braced (scopes_of stack)
    → IsCounted (item ∷ stack)
counted_more stack item counted is = rw (is, counted) refl

pub counted_in_place : (stack : List Open) (top item : Open) → IsCounted stack → Some top ≡ slice_get stack 0
    → item.braced ≡ top.braced → IsCounted (with_top stack item)
counted_in_place [] top item counted at same = absurd (cc)
counted_in_place (x ∷ xs) top item counted at same =
    let is : x ≡ top = cc in
    let first : item.braced ≡ braced (scopes_of xs) =
    same ∙ sym (ap (λ i. i.braced) is) ∙ counted_items (x ∷ xs) xs x refl counted in
    let rest : map (λ i. i.braced) xs ≡ braced_below (scopes_of xs) = rest_counted x xs counted in
    counted_more xs item rest first
  where
    rest_counted : (y : Open) (ys : List Open) → IsCounted (y ∷ ys) → IsCounted ys
    rest_counted y ys e = cc

below-drop : (n : ℕ) (scopes : List Scope) → braced_below (drop n scopes) ≡ drop n (braced_below scopes)
below-drop zero scopes = refl
below-drop (suc n) [] = refl
below-drop (suc n) (s ∷ ss) = below-drop n ss

pub counted_less : (n : ℕ) (stack : List Open) → IsCounted stack → IsCounted (drop n stack)
counted_less n stack counted =
    sym (drop-map (λ i. i.braced) n stack) ∙ ap (drop n) counted
    ∙ sym (below-drop n (scopes_of stack)) ∙ ap braced_below (drop-map (λ i. i.scope) n stack)

-- The scope that comes first is closed, or none is.
pub closes_one : (class : TokenClass) (scopes rest : List Scope) (n : ℕ) (scope : Scope) → drop n scopes ≡ rest
    → Some scope ≡ slice_get scopes n → closes class (Some scope) ≡ true → drop (n + 1) scopes ≡ closed class rest
closes_one class scopes rest n scope left at is_closed =
    let first : closes class (top rest) ≡ true =
    ap (λ l. closes class (top l)) (sym left) ∙ ap (closes class) (first_behind n scopes ∙ sym at) ∙ is_closed in
    let one : drop 1 (drop n scopes) ≡ drop (n + 1) scopes = ap (drop 1) (next_scope scopes n scope at) in
    sym one ∙ ap (drop 1) left ∙ by_test (closes class (top rest)) first
  where
    by_test : (b : Bool) → b ≡ true → drop 1 rest ≡ (if b then drop 1 rest else rest)
    by_test true e = refl
    by_test false e = absurd (cc)

pub closes_none : (class : TokenClass) (scopes rest : List Scope) (n : ℕ) (o : Option Scope) → drop n scopes ≡ rest
    → o ≡ slice_get scopes n → closes class o ≡ false → drop n scopes ≡ closed class rest
closes_none class scopes rest n o left at is_open =
    let first : closes class (top rest) ≡ false =
    ap (λ l. closes class (top l)) (sym left) ∙ ap (closes class) (first_behind n scopes ∙ sym at) ∙ is_open in
    left ∙ by_test (closes class (top rest)) first
  where
    by_test : (b : Bool) → b ≡ false → rest ≡ (if b then drop 1 rest else rest)
    by_test true e = absurd (cc)
    by_test false e = refl

-- no token closes a scope where none is open
pub closes_nothing : (class : TokenClass) → closes class None ≡ false
closes_nothing RightCurly = refl
closes_nothing TemplateTail = refl
closes_nothing _ = refl

-- A change that opens none leaves the scopes that are left, but for the one that is closed.
pub changed_by_end : (change : Change) (class : TokenClass) (scopes : List Scope)
    → ((scope : Scope) → ¬ (change ≡ Opens scope)) → ((scope : Scope) → ¬ (change ≡ Becomes scope))
    → closed class (left change scopes) ≡ changed change class scopes
changed_by_end (Opens scope) class scopes no_open no_become = absurd (no_open scope refl)
changed_by_end (Becomes scope) class scopes no_open no_become = absurd (no_become scope refl)
changed_by_end _ class scopes no_open no_become = refl
