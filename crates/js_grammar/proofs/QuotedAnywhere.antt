-- A string and a part of a template are read the same whatever follows them.
use Rattle.std.proofs.Common.{◌≡◌, ℕ, zero, suc, ◌<◌, ◌≤◌, true, false, ◌==◌, ◌&&◌, List, [], ◌∷◌, ◌++◌}
use Rattle.std.proofs.Common.{length, refl, sym, ◌∙◌, ap, arith, inl, inr, length-append, None}
use Rattle.std.proofs.Common.{Option, ◌⊎◌}
use Rattle.std.proofs.lemmas.Bool.{eq-eqb, eqb-true}
use Rattle.js_text.specs.Ascii.{apostrophe, backslash, quotation_mark}
use Rattle.js_kind.specs.declared.kind.Kind.{Kind}
use Rattle.js_grammar.specs.StringItems.{IsString, StringItem, StringItems, are_good}
use Rattle.js_grammar.specs.StringItems.{contains_escape, is_good, is_quote, items_before, items_up_to}
use Rattle.js_grammar.specs.StringItems.{string_item, string_items, string_text, string_units}
use Rattle.js_grammar.specs.Template.{IsPart, template_item, template_items, template_value}
use Rattle.js_grammar.proofs.Ahead.{BeginAlike, nothing_before}
use Rattle.js_grammar.proofs.AllItemsAhead.{FoundAlike, StepIsLocal, bare, next_alike, none_up_to, some_up_to}
use Rattle.js_grammar.proofs.AllItemsAhead.{string_step_local, template_step_local}
use Rattle.js_grammar.proofs.ItemsAhead.{up_to}
use Rattle.js_grammar.proofs.NumberItems.{true_or_false}
use Rattle.js_grammar.proofs.StringLaws.{good_string, items_and_rest}
use Rattle.js_grammar.proofs.StringsAhead.{bare_escape, bare_text, bare_units, bare_value, same_of}
use Rattle.js_grammar.proofs.StringSteps.{none_or_some, shorter, string_ends}
use Rattle.js_grammar.proofs.TemplateLaws.{good_part}

-- All items up to a mark, which begins what is left in both texts.
items_same : (step : List ℕ → Option StringItem) → StepIsLocal step → (n m : ℕ) (xs ys zs : List ℕ)
    → BeginAlike ys zs → step zs ≡ None → length (xs ++ ys) ≤ n → length (xs ++ zs) ≤ m → 0 < length ys
    → (items_up_to step n (xs ++ ys)).rest ≡ ys
    → FoundAlike (items_up_to step n (xs ++ ys)) (items_up_to step m (xs ++ zs)) zs
items_same step local zero m xs ys zs alike stop h k some e =
    absurd (omega (arith, h, some, length-append xs ys))
items_same step local (suc n) m xs ys zs alike stop h k some e =
    elim (none_or_some (step (xs ++ ys))) [
      | inl none ↦ (
          let here = none_up_to step (suc n) (xs ++ ys) none in
          let whole : ys ≡ xs ++ ys = sym e ∙ ap (λ (i : StringItems). i.rest) here in
          let nothing : xs ≡ [] = nothing_before xs ys whole in
          let there : xs ++ zs ≡ zs = ap (λ t. t ++ zs) nothing in
          let other = none_up_to step m (xs ++ zs) (ap step there ∙ stop) in
          rw (here, other) (record { items = refl; left = there }))
      | inr (item, is) ↦ (
          let more = items_up_to step n item.rest in
          let here = some_up_to step n (xs ++ ys) item is in
          let left : more.rest ≡ ys = ap (λ (i : StringItems). i.rest) (sym here) ∙ e in
          let vs = string_text more.items in
          let behind : item.rest ≡ vs ++ ys =
          sym (items_and_rest step local.heads n item.rest) ∙ ap (λ t. string_text more.items ++ t) left in
          let found = local.some xs vs ys zs item alike is behind in
          let less = shorter step local.heads (xs ++ ys) item is in
          let fewer = shorter step local.heads (xs ++ zs) (up_to item (vs ++ zs)) found in
          let same = ap (items_up_to step n) behind in
          let next_left = ap (λ (i : StringItems). i.rest) (sym same) ∙ left in
          let within : length (vs ++ ys) ≤ n = omega (arith, less, ap length behind) in
          next_alike step (items_up_to step (suc n) (xs ++ ys)) (items_up_to step n (vs ++ ys)) m (xs ++ zs) (vs ++ zs)
          zs item k fewer (here ∙ ap (items_before (item ∷ [])) same) found
          (λ m k. items_same step local n m vs ys zs alike stop within k some next_left))
    ]

bare_good : (items : List StringItem) → are_good (bare items) ≡ are_good items
bare_good [] = refl
bare_good (item ∷ items) = ap (λ b. is_good item.fault && b) (bare_good items)

-- a quote ends a string
quote_stops : (quote : ℕ) (ys : List ℕ) → is_quote quote ≡ true → string_item quote (quote ∷ ys) ≡ None
quote_stops quote ys is =
    string_ends quote quote ys (no_backslash (true_or_false (quote == quotation_mark)))
    (rw (eq-eqb quote quote refl) refl)
  where
    no_backslash : ((quote == quotation_mark) ≡ true) ⊎ ((quote == quotation_mark) ≡ false)
        → (quote == backslash) ≡ false
    no_backslash (inl double) = ap (λ c. c == backslash) (eqb-true quote quotation_mark double)
    no_backslash (inr other) =
        let single : (quote == apostrophe) ≡ true = rw other at is in
        ap (λ c. c == backslash) (eqb-true quote apostrophe single)

-- A string of these characters, before other ones, is read the same.
pub record StringBefore (xs zs : List ℕ) (items : List StringItem) (ys : List ℕ) : Type 0 where
  pub string : IsString xs zs
  pub read : good_string xs string.items zs ≡ record (good_string xs items ys) { rest = zs }

pub string_anywhere : (xs ys zs : List ℕ) (string : IsString xs ys) → StringBefore xs zs string.items ys
string_anywhere xs ys zs string =
    let quote = string.quote in
    let text = string_text string.items in
    let other = string_items quote (text ++ quote ∷ zs) in
    let alike : BeginAlike (quote ∷ ys) (quote ∷ zs) =
    record { first = quote; rest = ys; other = zs; here = refl; there = refl } in
    let found : FoundAlike (string_items quote (text ++ quote ∷ ys)) other (quote ∷ zs) =
    items_same (string_item quote) (string_step_local quote) (length (text ++ quote ∷ ys))
    (length (text ++ quote ∷ zs)) text (quote ∷ ys) (quote ∷ zs) alike (quote_stops quote zs string.is_quote)
    (omega arith) (omega arith) (omega arith) (ap (λ (i : StringItems). i.rest) string.found) in
    let same : bare other.items ≡ bare string.items =
    found.items ∙ ap (λ (i : StringItems). bare i.items) string.found in
    let texts : string_text other.items ≡ text = same_of string_text bare_text other.items string.items same in
    record {
      string = record {
        quote = quote;
        is_quote = string.is_quote;
        items = other.items;
        here = string.here ∙ ap (λ t. quote ∷ (t ++ quote ∷ [])) (sym texts);
        found =
            ap (λ t. string_items quote (t ++ quote ∷ zs)) texts
            ∙ ap (λ (r : List ℕ). record { items = other.items; rest = r }) found.left;
        good = same_of are_good bare_good other.items string.items same ∙ string.good;
      };
      read =
          rw (
            same_of contains_escape bare_escape other.items string.items same,
            same_of string_units bare_units other.items string.items same,
          ) refl;
    }

-- So is a part of a template.
pub record PartBefore (opening : ℕ) (closing xs zs : List ℕ) (kind : Kind) (items : List StringItem) (ys : List ℕ)
    : Type 0 where
  pub part : IsPart opening closing xs zs
  pub read : good_part kind xs part.items zs ≡ record (good_part kind xs items ys) { rest = zs }

pub part_anywhere : (opening : ℕ) (closing xs ys zs : List ℕ) (kind : Kind) (part : IsPart opening closing xs ys)
    → BeginAlike (closing ++ ys) (closing ++ zs) → template_item (closing ++ zs) ≡ None
    → PartBefore opening closing xs zs kind part.items ys
part_anywhere opening closing xs ys zs kind part alike stop =
    let text = string_text part.items in
    let other = template_items (text ++ (closing ++ zs)) in
    let some : 0 < length (closing ++ ys) = omega (arith, ap length alike.here) in
    let found : FoundAlike (template_items (text ++ (closing ++ ys))) other (closing ++ zs) =
    items_same template_item template_step_local (length (text ++ (closing ++ ys)))
    (length (text ++ (closing ++ zs))) text (closing ++ ys) (closing ++ zs) alike stop (omega arith) (omega arith) some
    (ap (λ (i : StringItems). i.rest) part.found) in
    let same : bare other.items ≡ bare part.items =
    found.items ∙ ap (λ (i : StringItems). bare i.items) part.found in
    let texts : string_text other.items ≡ text = same_of string_text bare_text other.items part.items same in
    record {
      part = record {
        items = other.items;
        here = part.here ∙ ap (λ t. opening ∷ (t ++ closing)) (sym texts);
        found =
            ap (λ t. template_items (t ++ (closing ++ zs))) texts
            ∙ ap (λ (r : List ℕ). record { items = other.items; rest = r }) found.left;
      };
      read =
          rw (
            same_of contains_escape bare_escape other.items part.items same,
            same_of template_value bare_value other.items part.items same,
          ) refl;
    }
