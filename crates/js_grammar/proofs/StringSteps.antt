-- The items of a string or a template, one after the other.
use Rattle.std.proofs.Common.{◌≡◌, ℕ, zero, suc, ◌+◌, ◌<◌, ◌≤◌, Bool, true, false, ◌==◌, List, [], ◌∷◌}
use Rattle.std.proofs.Common.{◌++◌}
use Rattle.std.proofs.Common.{length, drop, refl, sym, ◌∙◌, ap, arith, Option, Some, None, inl, inr, ◌⊎◌}
use Rattle.std.proofs.Common.{append_assoc}
use Rattle.std.proofs.Common.{length-append, subst, cond}
use Rattle.std.specs.Prelude.{codes}
use Rattle.std.proofs.lemmas.Bool.{eqb-true}
use Rattle.js_text.specs.Ascii.{line_feed, carriage_return, backslash, grave_accent}
use Rattle.js_text.specs.Characters.{begins}
use Rattle.js_grammar.specs.Reading.{Reading, place_behind}
use Rattle.js_grammar.specs.StringItems.{Fault, StringItem, StringItems, ordinary_item, escape, ends_string}
use Rattle.js_grammar.specs.StringItems.{string_item}
use Rattle.js_grammar.specs.StringItems.{no_item, items_before, items_up_to, all_items, string_text, string_units}
use Rattle.js_grammar.specs.StringItems.{are_good, contains_bad_escape, fault_reports, item_reports}
use Rattle.js_grammar.specs.StringItems.{is_good, is_bad_escape, string_of_items, terminated_string}
use Rattle.js_grammar.specs.StringItems.{unterminated}
use Rattle.js_grammar.specs.StringItems.Fault.{no_fault, bad_escape, unfinished_escape}
use Rattle.js_grammar.specs.StringItems.StringValue.{units, bad_value}
use Rattle.js_grammar.specs.Template.{ends_part, line_end_item, carriage_return_item, template_item, template_value}
use Rattle.js_grammar.specs.Template.{terminated_part, part_of_items}
use Rattle.js_kind.specs.declared.kind.Kind.{Kind}
use Rattle.js_grammar.specs.Gap.{is_prefix}
use Rattle.js_grammar.proofs.EscapeCases.{Heads, escape_is_one, first_is}
use Rattle.js_grammar.proofs.NumberItems.{true_or_false}
use Rattle.js_grammar.proofs.Reported.{place_behind-append}
use Rattle.js_grammar.proofs.Tests.{and_true}

-- a step finds what texts begin with
abbrev pub FindsHeads : (List ℕ → Option StringItem) → Type 0
FindsHeads step = (text : List ℕ) (item : StringItem) → step text ≡ Some item → Heads text item

pub none_or_some : {A : Type 0} (found : Option A) → (found ≡ None) ⊎ ((x : A) × (found ≡ Some x))
none_or_some None = inl refl
none_or_some (Some x) = inr (x, refl)

pub shorter : (step : List ℕ → Option StringItem) → FindsHeads step → (text : List ℕ) (item : StringItem)
    → step text ≡ Some item → length item.rest < length text
shorter step heads text item e =
    let head = heads text item e in
    omega (arith, ap length head.here, length-append item.text item.rest, head.some)

-- where there is room for all items, more room changes nothing
enough_room : (step : List ℕ → Option StringItem) → FindsHeads step → (n m : ℕ) (text : List ℕ) → length text ≤ n
    → length text ≤ m → items_up_to step n text ≡ items_up_to step m text
enough_room step heads zero zero text h k = refl
enough_room step heads zero (suc m) text h k =
    elim (none_or_some (step text)) [
      | inl e ↦ rw e refl
      | inr (item, e) ↦ (let less = shorter step heads text item e in absurd (omega arith))
    ]
enough_room step heads (suc n) zero text h k =
    elim (none_or_some (step text)) [
      | inl e ↦ rw e refl
      | inr (item, e) ↦ (let less = shorter step heads text item e in absurd (omega arith))
    ]
enough_room step heads (suc n) (suc m) text h k =
    elim (none_or_some (step text)) [
      | inl e ↦ rw e refl
      | inr (item, e) ↦ (
          let less = shorter step heads text item e in
          rw e
          (ap (λ (more : StringItems). record more { items = item ∷ more.items })
          (enough_room step heads n m item.rest (omega arith) (omega arith))))
    ]

-- an item, and those behind it
pub one_item : (step : List ℕ → Option StringItem) → FindsHeads step → (text : List ℕ) (item : StringItem)
    → step text ≡ Some item → all_items step text ≡ items_before (item ∷ []) (all_items step item.rest)
one_item step heads [] item e = absurd (let less = shorter step heads [] item e in omega arith)
one_item step heads (c ∷ cs) item e =
    let less = shorter step heads (c ∷ cs) item e in
    rw e
    (ap (λ (more : StringItems). record more { items = item ∷ more.items })
    (enough_room step heads (length cs) (length item.rest) item.rest (omega arith) (omega arith)))

-- none
pub no_items_here : (step : List ℕ → Option StringItem) → (text : List ℕ) → step text ≡ None
    → all_items step text ≡ no_item text
no_items_here step [] e = refl
no_items_here step (c ∷ cs) e = rw e refl

pub items_before-append : (xs ys : List StringItem) (more : StringItems)
    → items_before xs (items_before ys more) ≡ items_before (xs ++ ys) more
items_before-append xs ys more =
    ap (λ items. record more { items = items }) (sym (append_assoc xs ys more.items))

-- what is known of items, for those of two lists
pub string_text-append : (xs ys : List StringItem) → string_text (xs ++ ys) ≡ string_text xs ++ string_text ys
string_text-append [] ys = refl
string_text-append (x ∷ xs) ys =
    ap (λ t. x.text ++ t) (string_text-append xs ys) ∙ sym (append_assoc x.text (string_text xs) (string_text ys))

pub string_units-append : (xs ys : List StringItem) → string_units (xs ++ ys) ≡ string_units xs ++ string_units ys
string_units-append [] ys = refl
string_units-append (x ∷ xs) ys =
    ap (λ t. x.units ++ t) (string_units-append xs ys) ∙ sym (append_assoc x.units (string_units xs) (string_units ys))

pub item_reports-append : (t : Bool) (start place : ℕ) (xs ys : List StringItem)
    → item_reports t start place (xs ++ ys)
    ≡ item_reports t start place xs ++ item_reports t start (place_behind place (string_text xs)) ys
item_reports-append t start place [] ys = ap (λ p. item_reports t start p ys) (same place)
  where
    same : (n : ℕ) → n ≡ n + 0
    same n = omega arith
item_reports-append t start place (x ∷ xs) ys =
    let end = place_behind place x.text in
    let first = fault_reports t start place end x.fault in
    ap (λ r. first ++ r) (item_reports-append t start end xs ys)
    ∙ ap (λ p. first ++ (item_reports t start end xs ++ item_reports t start p ys))
    (place_behind-append place x.text (string_text xs))
    ∙ sym
    (append_assoc first (item_reports t start end xs)
    (item_reports t start (place_behind place (x.text ++ string_text xs)) ys))

-- good items report nothing
pub good_ones : (t : Bool) (start place : ℕ) (items : List StringItem) → are_good items ≡ true
    → item_reports t start place items ≡ []
good_ones t start place [] e = refl
good_ones t start place (x ∷ xs) e =
    let both = and_true (is_good x.fault) (are_good xs) e in
    let end = place_behind place x.text in
    rw (good_one t start place end x.fault both.0) (good_ones t start end xs both.1)
  where
    good_one : (t : Bool) (start place end : ℕ) (fault : Fault) → is_good fault ≡ true
        → fault_reports t start place end fault ≡ []
    good_one t start place end no_fault e = refl
    good_one t start place end bad_escape e = absurd (cc)
    good_one t start place end unfinished_escape e = absurd (cc)

-- and have no bad escape among them
pub good_ones_not_bad : (items : List StringItem) → are_good items ≡ true → contains_bad_escape items ≡ false
good_ones_not_bad [] e = refl
good_ones_not_bad (x ∷ xs) e =
    let both = and_true (is_good x.fault) (are_good xs) e in
    rw (good_one x.fault both.0) (good_ones_not_bad xs both.1)
  where
    good_one : (fault : Fault) → is_good fault ≡ true → is_bad_escape fault ≡ false
    good_one no_fault e = refl
    good_one bad_escape e = absurd (cc)
    good_one unfinished_escape e = absurd (cc)

plain_heads : (c : ℕ) (cs : List ℕ) → Heads (c ∷ cs) (ordinary_item c cs)
plain_heads c cs = record { here = refl; some = omega arith; finished = λ unfinished. absurd (cc) }

-- the item of a string, case by case
pub string_escape : (quote : ℕ) (cs : List ℕ) → string_item quote (backslash ∷ cs) ≡ Some (escape false cs)
string_escape quote cs = refl

pub string_plain : (quote c : ℕ) (cs : List ℕ) → (c == backslash) ≡ false → ends_string quote c ≡ false
    → string_item quote (c ∷ cs) ≡ Some (ordinary_item c cs)
string_plain quote c cs other on = rw (other, on) refl

pub string_ends : (quote c : ℕ) (cs : List ℕ) → (c == backslash) ≡ false → ends_string quote c ≡ true
    → string_item quote (c ∷ cs) ≡ None
string_ends quote c cs other ends = rw (other, ends) refl

pub some_is : {A : Type 0} (x y : A) → Some x ≡ Some y → x ≡ y
some_is x y e = cc

found_head : (text : List ℕ) (found item : StringItem) (at : Option StringItem) → Heads text found → at ≡ Some found
    → at ≡ Some item → Heads text item
found_head text found item at head e is = subst (Heads text) (some_is found item (sym e ∙ is)) head

nothing_found : {A : Type 0} (found : Option StringItem) (item : StringItem) → found ≡ None → found ≡ Some item → A
nothing_found found item e is = absurd (let none : None ≡ Some item = sym e ∙ is in cc)

pub string_item_heads : (quote : ℕ) → FindsHeads (string_item quote)
string_item_heads quote [] item e = absurd (cc)
string_item_heads quote (c ∷ cs) item e =
    elim (true_or_false (c == backslash)) [
      | inl is ↦ (
          let same = eqb-true c backslash is in
          let at : string_item quote (backslash ∷ cs) ≡ Some item =
          ap (λ d. string_item quote (d ∷ cs)) (sym same) ∙ e in
          subst (λ d. Heads (d ∷ cs) item) (sym same)
          (found_head (backslash ∷ cs) (escape false cs) item _ (escape_is_one false cs).head (string_escape quote cs)
          at))
      | inr other ↦
          elim (true_or_false (ends_string quote c)) [
            | inl ends ↦ nothing_found _ item (string_ends quote c cs other ends) e
            | inr on ↦
                found_head (c ∷ cs) (ordinary_item c cs) item _ (plain_heads c cs) (string_plain quote c cs other on) e
          ]
    ]

-- the item of a template, case by case
pub template_escape : (cs : List ℕ) → template_item (backslash ∷ cs) ≡ Some (escape true cs)
template_escape cs = refl

pub template_ends : (c : ℕ) (cs : List ℕ) → (c == backslash) ≡ false → ends_part (c ∷ cs) ≡ true
    → template_item (c ∷ cs) ≡ None
template_ends c cs other ends = rw (other, ends) refl

pub template_line_end : (cs : List ℕ) → template_item (carriage_return ∷ cs) ≡ Some (carriage_return_item cs)
template_line_end cs = refl

pub template_plain : (c : ℕ) (cs : List ℕ) → (c == backslash) ≡ false → ends_part (c ∷ cs) ≡ false
    → (c == carriage_return) ≡ false → template_item (c ∷ cs) ≡ Some (ordinary_item c cs)
template_plain c cs other on cr = rw (other, on, cr) refl

-- CR LF, or CR alone
pub carriage_return_two : (cs : List ℕ) → begins (λ d. d == line_feed) cs ≡ true
    → carriage_return_item cs ≡ line_end_item (carriage_return ∷ line_feed ∷ []) (drop 1 cs)
unfolding carriage_return_item
carriage_return_two cs e = rw e refl

pub carriage_return_one : (cs : List ℕ) → begins (λ d. d == line_feed) cs ≡ false
    → carriage_return_item cs ≡ line_end_item (carriage_return ∷ []) cs
unfolding carriage_return_item
carriage_return_one cs e = rw e refl

carriage_return_heads : (cs : List ℕ) → Heads (carriage_return ∷ cs) (carriage_return_item cs)
carriage_return_heads cs =
    elim (true_or_false (begins (λ d. d == line_feed) cs)) [
      | inl two ↦
          rw (carriage_return_two cs two)
          (record {
            here = ap (λ t. carriage_return ∷ t) (first_is line_feed cs two);
            some = omega arith;
            finished = λ unfinished. absurd (cc);
          })
      | inr one ↦
          rw (carriage_return_one cs one)
          (record { here = refl; some = omega arith; finished = λ unfinished. absurd (cc) })
    ]

pub template_item_heads : FindsHeads template_item
template_item_heads [] item e = absurd (cc)
template_item_heads (c ∷ cs) item e =
    elim (true_or_false (c == backslash)) [
      | inl is ↦ (
          let same = eqb-true c backslash is in
          let at : template_item (backslash ∷ cs) ≡ Some item = ap (λ d. template_item (d ∷ cs)) (sym same) ∙ e in
          subst (λ d. Heads (d ∷ cs) item) (sym same)
          (found_head (backslash ∷ cs) (escape true cs) item _ (escape_is_one true cs).head (template_escape cs) at))
      | inr other ↦
          elim (true_or_false (ends_part (c ∷ cs))) [
            | inl ends ↦ nothing_found _ item (template_ends c cs other ends) e
            | inr on ↦
                elim (true_or_false (c == carriage_return)) [
                  | inl is ↦ (
                      let same = eqb-true c carriage_return is in
                      let at : template_item (carriage_return ∷ cs) ≡ Some item =
                      ap (λ d. template_item (d ∷ cs)) (sym same) ∙ e in
                      subst (λ d. Heads (d ∷ cs) item) (sym same)
                      (found_head (carriage_return ∷ cs) (carriage_return_item cs) item _ (carriage_return_heads cs)
                      (template_line_end cs) at))
                  | inr cr ↦
                      found_head (c ∷ cs) (ordinary_item c cs) item _ (plain_heads c cs)
                      (template_plain c cs other on cr) e
                ]
          ]
    ]

pub carriage_return_escaped : (cs : List ℕ) → (carriage_return_item cs).is_escaped ≡ true
carriage_return_escaped cs =
    elim (true_or_false (begins (λ d. d == line_feed) cs))
    [ inl two ↦ rw (carriage_return_two cs two) refl | inr one ↦ rw (carriage_return_one cs one) refl ]

-- the value of a part of a template
pub template_value_bad : (items : List StringItem) → contains_bad_escape items ≡ true
    → template_value items ≡ bad_value
unfolding template_value
template_value_bad items e = rw e refl

pub template_value_good : (items : List StringItem) → contains_bad_escape items ≡ false
    → template_value items ≡ units (string_units items)
unfolding template_value
template_value_good items e = rw e refl

-- what is read of a string, by what stands behind its items
pub string_terminated : (quote : ℕ) (text : List ℕ) (found : StringItems) → begins (λ c. c == quote) found.rest ≡ true
    → string_of_items quote text found ≡ terminated_string text found
unfolding string_of_items
string_terminated quote text found e = rw e refl

pub string_unterminated : (quote : ℕ) (text : List ℕ) (found : StringItems)
    → begins (λ c. c == quote) found.rest ≡ false
    → string_of_items quote text found ≡ unterminated false text found
unfolding string_of_items
string_unterminated quote text found e = rw e refl

-- and of a part of a template
pub part_with_tail : (substitute tail : Kind) (text : List ℕ) (found : StringItems)
    → begins (λ c. c == grave_accent) found.rest ≡ true
    → part_of_items substitute tail text found ≡ terminated_part tail text found (drop 1 found.rest)
unfolding part_of_items
part_with_tail substitute tail text found e = rw e refl

pub part_with_substitution : (substitute tail : Kind) (text : List ℕ) (found : StringItems)
    → begins (λ c. c == grave_accent) found.rest ≡ false → is_prefix (codes "${") found.rest ≡ true
    → part_of_items substitute tail text found ≡ terminated_part substitute text found (drop 2 found.rest)
unfolding part_of_items
part_with_substitution substitute tail text found e p = if_not _ _ _ e ∙ if_so _ _ _ p
  where
    if_so : (b : Bool) (x y : Reading) → b ≡ true → cond b x y ≡ x
    if_so true x y e = refl
    if_so false x y e = absurd (cc)

    if_not : (b : Bool) (x y : Reading) → b ≡ false → cond b x y ≡ y
    if_not true x y e = absurd (cc)
    if_not false x y e = refl

pub part_unterminated : (substitute tail : Kind) (text : List ℕ) (found : StringItems)
    → begins (λ c. c == grave_accent) found.rest ≡ false → is_prefix (codes "${") found.rest ≡ false
    → part_of_items substitute tail text found ≡ unterminated true text found
unfolding part_of_items
part_unterminated substitute tail text found e p = if_not _ _ _ e ∙ if_not _ _ _ p
  where
    if_not : (b : Bool) (x y : Reading) → b ≡ false → cond b x y ≡ y
    if_not true x y e = absurd (cc)
    if_not false x y e = refl
