-- All items of strings and templates, of two texts that go on alike.
use Rattle.std.proofs.Common.{◌≡◌, ℕ, zero, suc, ◌<◌, ◌≤◌, true, false, ◌==◌, List, []}
use Rattle.std.proofs.Common.{◌∷◌, ◌++◌, length, refl, sym, ◌∙◌, ap, arith, inl, inr, length-append}
use Rattle.std.proofs.Common.{Option, Some, None, append_assoc}
use Rattle.std.proofs.lemmas.Bool.{eqb-true}
use Rattle.std.proofs.lemmas.List.{append_cancel_right}
use Rattle.js_text.specs.Ascii.{carriage_return, backslash}
use Rattle.js_grammar.specs.StringItems.{StringItem, StringItems, ordinary_item, escape, ends_string, string_item}
use Rattle.js_grammar.specs.StringItems.{no_item}
use Rattle.js_grammar.specs.StringItems.{items_before, items_up_to, string_text}
use Rattle.js_grammar.specs.Template.{ends_part, carriage_return_item, template_item}
use Rattle.js_grammar.proofs.Ahead.{BeginAlike, alike_behind}
use Rattle.js_grammar.proofs.EscapesAhead.{drop_local}
use Rattle.js_grammar.proofs.ItemsAhead.{IsLocal, up_to, escape_local, carriage_return_local}
use Rattle.js_grammar.proofs.NumberItems.{true_or_false}
use Rattle.js_grammar.proofs.StringLaws.{items_and_rest}
use Rattle.js_grammar.proofs.StringSteps.{FindsHeads, none_or_some, some_is, shorter, string_item_heads}
use Rattle.js_grammar.proofs.StringSteps.{template_item_heads, string_plain, string_ends}
use Rattle.js_grammar.proofs.StringSteps.{template_plain, template_ends}

-- A step is local: the item that it finds depends on what it takes and the first character behind that, and so it does
-- where it finds none.
pub record StepIsLocal (step : List ℕ → Option StringItem) : Type 0 where
  pub heads : FindsHeads step
  pub some : (xs us ys zs : List ℕ) (item : StringItem) → BeginAlike ys zs → step (xs ++ ys) ≡ Some item
      → item.rest ≡ us ++ ys → step (xs ++ zs) ≡ Some (up_to item (us ++ zs))
  pub none : (x : ℕ) (us ys zs : List ℕ) → BeginAlike ys zs → step (x ∷ (us ++ ys)) ≡ None
      → step (x ∷ (us ++ zs)) ≡ None

-- the items without what is left behind each
abbrev pub bare : List StringItem → List StringItem
bare [] = []
bare (item ∷ items) = up_to item [] ∷ bare items

-- The same items were found in both texts, and behind them this is left of the other.
pub record FoundAlike (found other : StringItems) (rest : List ℕ) : Type 0 where
  pub items : bare other.items ≡ bare found.items
  pub left : other.rest ≡ rest

pub none_up_to : (step : List ℕ → Option StringItem) (most : ℕ) (text : List ℕ) → step text ≡ None
    → items_up_to step most text ≡ no_item text
none_up_to step zero text e = refl
none_up_to step (suc most) text e = rw e refl

-- an item takes something
nothing_taken : {A : Type 0} (step : List ℕ → Option StringItem) → FindsHeads step → (ys us : List ℕ)
    (item : StringItem) → step ys ≡ Some item → item.rest ≡ us ++ ys → A
nothing_taken step heads ys us item is e =
    let head = heads ys item is in
    absurd
    (omega (arith, head.some, ap length head.here, length-append item.text item.rest, ap length e, length-append us ys))

pub some_up_to : (step : List ℕ → Option StringItem) (most : ℕ) (text : List ℕ) (item : StringItem)
    → step text ≡ Some item
    → items_up_to step (suc most) text ≡ items_before (item ∷ []) (items_up_to step most item.rest)
some_up_to step most text item e = rw e refl

-- an item in both texts, and those behind it
pub next_alike : (step : List ℕ → Option StringItem) (found more : StringItems) (m : ℕ) (text behind rest : List ℕ)
    (item : StringItem) → length text ≤ m → length behind < length text → found ≡ items_before (item ∷ []) more
    → step text ≡ Some (up_to item behind)
    → ((m : ℕ) → length behind ≤ m → FoundAlike more (items_up_to step m behind) rest)
    → FoundAlike found (items_up_to step m text) rest
next_alike step found more zero text behind rest item k less here is next = absurd (omega arith)
next_alike step found more (suc m) text behind rest item k less here is next =
    let alike = next m (omega arith) in
    let there = some_up_to step m text (up_to item behind) is in
    rw (here, there) (record { items = ap (λ items. up_to item [] ∷ items) alike.items; left = alike.left })

-- All items, where one more character was read than they are.
pub items_local : (step : List ℕ → Option StringItem) → StepIsLocal step → (n m : ℕ) (xs : List ℕ) (x : ℕ)
    (us ys zs : List ℕ) → BeginAlike ys zs → length (xs ++ ys) ≤ n → length (xs ++ zs) ≤ m
    → (items_up_to step n (xs ++ ys)).rest ≡ x ∷ (us ++ ys)
    → FoundAlike (items_up_to step n (xs ++ ys)) (items_up_to step m (xs ++ zs)) (x ∷ (us ++ zs))
items_local step local zero m xs x us ys zs alike h k e = absurd (omega (arith, ap length e))
items_local step local (suc n) m xs x us ys zs alike h k e =
    elim (none_or_some (step (xs ++ ys))) [
      | inl none ↦ (
          let here = none_up_to step (suc n) (xs ++ ys) none in
          let whole : xs ++ ys ≡ (x ∷ us) ++ ys = ap (λ (i : StringItems). i.rest) (sym here) ∙ e in
          let there : xs ++ zs ≡ x ∷ (us ++ zs) = ap (λ t. t ++ zs) (append_cancel_right xs (x ∷ us) ys whole) in
          let ends = ap step there ∙ local.none x us ys zs alike (ap step (sym whole) ∙ none) in
          let other = none_up_to step m (xs ++ zs) ends in
          rw (here, other) (record { items = refl; left = there }))
      | inr (item, is) ↦ (
          let more = items_up_to step n item.rest in
          let here = some_up_to step n (xs ++ ys) item is in
          let left : more.rest ≡ x ∷ (us ++ ys) = ap (λ (i : StringItems). i.rest) (sym here) ∙ e in
          let vs = string_text more.items ++ (x ∷ us) in
          let behind : item.rest ≡ vs ++ ys =
          sym (items_and_rest step local.heads n item.rest) ∙ ap (λ t. string_text more.items ++ t) left
          ∙ sym (append_assoc (string_text more.items) (x ∷ us) ys) in
          let found = local.some xs vs ys zs item alike is behind in
          let less = shorter step local.heads (xs ++ ys) item is in
          let fewer = shorter step local.heads (xs ++ zs) (up_to item (vs ++ zs)) found in
          let same = ap (items_up_to step n) behind in
          let next_left = ap (λ (i : StringItems). i.rest) (sym same) ∙ left in
          let within : length (vs ++ ys) ≤ n = omega (arith, less, ap length behind) in
          next_alike step (items_up_to step (suc n) (xs ++ ys)) (items_up_to step n (vs ++ ys)) m (xs ++ zs) (vs ++ zs)
          (x ∷ (us ++ zs)) item k fewer (here ∙ ap (items_before (item ∷ [])) same) found
          (λ m k. items_local step local n m vs x us ys zs alike within k next_left))
    ]

-- a step that makes a local item
made : (here there : Option StringItem) (find : List ℕ → StringItem) → IsLocal find → (xs us ys zs : List ℕ)
    (item : StringItem) → BeginAlike ys zs → here ≡ Some (find (xs ++ ys)) → there ≡ Some (find (xs ++ zs))
    → here ≡ Some item → item.rest ≡ us ++ ys → there ≡ Some (up_to item (us ++ zs))
made here there find local xs us ys zs item alike here_is there_is is e =
    let same = some_is (find (xs ++ ys)) item (sym here_is ∙ is) in
    there_is
    ∙ ap Some
    (local xs us ys zs alike (ap (λ (i : StringItem). i.rest) same ∙ e) ∙ ap (λ i. up_to i (us ++ zs)) same)

plain_local : (c : ℕ) → IsLocal (ordinary_item c)
plain_local c xs us ys zs alike e = ap (ordinary_item c) (drop_local 0 xs us ys zs alike e)

none_or : {A : Type 0} (found : Option StringItem) (item : StringItem) → found ≡ Some item → found ≡ None → A
none_or found item is e = absurd (let none : None ≡ Some item = sym e ∙ is in cc)

string_some : (quote : ℕ) (xs us ys zs : List ℕ) (item : StringItem) → BeginAlike ys zs
    → string_item quote (xs ++ ys) ≡ Some item → item.rest ≡ us ++ ys
    → string_item quote (xs ++ zs) ≡ Some (up_to item (us ++ zs))
string_some quote [] us ys zs item alike is e =
    nothing_taken (string_item quote) (string_item_heads quote) ys us item is e
string_some quote (x ∷ xs) us ys zs item alike is e =
    let here = string_item quote (x ∷ (xs ++ ys)) in
    let there = string_item quote (x ∷ (xs ++ zs)) in
    elim (true_or_false (x == backslash)) [
      | inl escaped ↦ (
          let same = eqb-true x backslash escaped in
          made here there (escape false) (escape_local false) xs us ys zs item alike
          (ap (λ d. string_item quote (d ∷ (xs ++ ys))) same) (ap (λ d. string_item quote (d ∷ (xs ++ zs))) same) is e)
      | inr other ↦
          elim (true_or_false (ends_string quote x)) [
            | inl ends ↦ none_or here item is (string_ends quote x (xs ++ ys) other ends)
            | inr on ↦
                made here there (ordinary_item x) (plain_local x) xs us ys zs item alike
                (string_plain quote x (xs ++ ys) other on) (string_plain quote x (xs ++ zs) other on) is e
          ]
    ]

string_none : (quote x : ℕ) (us ys zs : List ℕ) → BeginAlike ys zs → string_item quote (x ∷ (us ++ ys)) ≡ None
    → string_item quote (x ∷ (us ++ zs)) ≡ None
string_none quote x us ys zs alike e =
    let here = string_item quote (x ∷ (us ++ ys)) in
    elim (true_or_false (x == backslash)) [
      | inl escaped ↦
          none_or here (escape false (us ++ ys))
          (ap (λ d. string_item quote (d ∷ (us ++ ys))) (eqb-true x backslash escaped)) e
      | inr other ↦
          elim (true_or_false (ends_string quote x)) [
            | inl ends ↦ string_ends quote x (us ++ zs) other ends
            | inr on ↦ none_or here (ordinary_item x (us ++ ys)) (string_plain quote x (us ++ ys) other on) e
          ]
    ]

pub string_step_local : (quote : ℕ) → StepIsLocal (string_item quote)
string_step_local quote =
    record { heads = string_item_heads quote; some = string_some quote; none = string_none quote }

-- what ends a part of a template
ends_alike : (x : ℕ) (ys zs : List ℕ) → BeginAlike ys zs → ends_part (x ∷ zs) ≡ ends_part (x ∷ ys)
ends_alike x ys zs alike =
    ap (λ t. ends_part (x ∷ t)) alike.there ∙ sym (ap (λ t. ends_part (x ∷ t)) alike.here)

template_some : (xs us ys zs : List ℕ) (item : StringItem) → BeginAlike ys zs
    → template_item (xs ++ ys) ≡ Some item → item.rest ≡ us ++ ys
    → template_item (xs ++ zs) ≡ Some (up_to item (us ++ zs))
template_some [] us ys zs item alike is e = nothing_taken template_item template_item_heads ys us item is e
template_some (x ∷ xs) us ys zs item alike is e =
    let here = template_item (x ∷ (xs ++ ys)) in
    let there = template_item (x ∷ (xs ++ zs)) in
    let same_end = ends_alike x (xs ++ ys) (xs ++ zs) (alike_behind xs ys zs alike) in
    elim (true_or_false (x == backslash)) [
      | inl escaped ↦ (
          let same = eqb-true x backslash escaped in
          made here there (escape true) (escape_local true) xs us ys zs item alike
          (ap (λ d. template_item (d ∷ (xs ++ ys))) same) (ap (λ d. template_item (d ∷ (xs ++ zs))) same) is e)
      | inr other ↦
          elim (true_or_false (ends_part (x ∷ (xs ++ ys)))) [
            | inl ends ↦ none_or here item is (template_ends x (xs ++ ys) other ends)
            | inr on ↦
                elim (true_or_false (x == carriage_return)) [
                  | inl line ↦ (
                      let same = eqb-true x carriage_return line in
                      made here there carriage_return_item carriage_return_local xs us ys zs item alike
                      (ap (λ d. template_item (d ∷ (xs ++ ys))) same)
                      (ap (λ d. template_item (d ∷ (xs ++ zs))) same) is e)
                  | inr plain ↦
                      made here there (ordinary_item x) (plain_local x) xs us ys zs item alike
                      (template_plain x (xs ++ ys) other on plain)
                      (template_plain x (xs ++ zs) other (same_end ∙ on) plain) is e
                ]
          ]
    ]

template_none : (x : ℕ) (us ys zs : List ℕ) → BeginAlike ys zs → template_item (x ∷ (us ++ ys)) ≡ None
    → template_item (x ∷ (us ++ zs)) ≡ None
template_none x us ys zs alike e =
    let here = template_item (x ∷ (us ++ ys)) in
    let same_end = ends_alike x (us ++ ys) (us ++ zs) (alike_behind us ys zs alike) in
    elim (true_or_false (x == backslash)) [
      | inl escaped ↦
          none_or here (escape true (us ++ ys))
          (ap (λ d. template_item (d ∷ (us ++ ys))) (eqb-true x backslash escaped)) e
      | inr other ↦
          elim (true_or_false (ends_part (x ∷ (us ++ ys)))) [
            | inl ends ↦ template_ends x (us ++ zs) other (same_end ∙ ends)
            | inr on ↦
                elim (true_or_false (x == carriage_return)) [
                  | inl line ↦
                      none_or here (carriage_return_item (us ++ ys))
                      (ap (λ d. template_item (d ∷ (us ++ ys))) (eqb-true x carriage_return line)) e
                  | inr plain ↦
                      none_or here (ordinary_item x (us ++ ys)) (template_plain x (us ++ ys) other on plain) e
                ]
          ]
    ]

pub template_step_local : StepIsLocal template_item
template_step_local = record { heads = template_item_heads; some = template_some; none = template_none }
