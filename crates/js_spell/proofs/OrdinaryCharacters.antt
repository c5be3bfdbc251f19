-- The characters of strings and templates that stand for themselves.
use Rattle.std.proofs.Common.{◌≡◌, ℕ, ◌<◌, ◌≤◌, Bool, true, false, not, ◌&&◌, ◌||◌, ◌==◌, List, [], ◌∷◌, ◌++◌}
use Rattle.std.proofs.Common.{refl}
use Rattle.std.proofs.Common.{sym, ◌∙◌, ap, subst, arith, Some, None, inl, inr, append_assoc, ltb}
use Rattle.std.specs.Prelude.{codes}
use Rattle.std.specs.Char.Escape.{encode_utf16}
use Rattle.std.proofs.lemmas.Bool.{eqb-true, eq-eqb, ltb-true, ltb-false}
use Rattle.std.proofs.lemmas.Bool.Decides.{nat_tests}
use Rattle.std.proofs.lemmas.List.Folds.{list_any-append}
use Rattle.std.proofs.lemmas.List.Concat.{flat_map-append}
use Rattle.js_text.specs.Ascii.{carriage_return, quotation_mark, apostrophe, backslash, grave_accent}
use Rattle.js_text.specs.Ascii.{dollar_sign}
use Rattle.js_text.specs.Characters.{begins, from_place}
use Rattle.js_text.specs.JsStr.{units_of}
use Rattle.js_grammar.specs.Gap.{is_prefix}
use Rattle.js_grammar.specs.StringItems.{StringItem, ordinary_item, escape, ends_string}
use Rattle.js_grammar.specs.StringItems.{all_items, items_before, string_text, string_units, contains_escape, are_good}
use Rattle.js_grammar.specs.StringItems.{is_good}
use Rattle.js_grammar.specs.Template.{template_item, carriage_return_item}
use Rattle.js_grammar.specs.UnicodeEscape.{left_curly_bracket}
use Rattle.js_grammar.proofs.EscapeCases.{escape_is_one}
use Rattle.js_grammar.proofs.NumberItems.{true_or_false}
use Rattle.js_grammar.proofs.StringSteps.{FindsHeads, one_item, items_before-append, string_text-append}
use Rattle.js_grammar.proofs.StringSteps.{string_units-append, string_plain, string_ends, string_item_heads}
use Rattle.js_grammar.proofs.StringSteps.{template_plain, template_ends, template_item_heads, carriage_return_escaped}
use Rattle.js_grammar.proofs.Tests.{and_true}
use Rattle.js_source.specs.Runs.{IsRun, PassesRun, TellsClass}
use Rattle.js_source.specs.Search.{matches_at}
use Rattle.js_source.specs.Source.{At, rest, Reads, HasFirstByte, HasFirstTwoBytes, HasAtMostOneByte, StepsPast}
use Rattle.js_source.proofs.Places.{begins_with, ascii_next}
use Rattle.js_spell.specs.Strings.{in_template, item_of, stops, ordinary_here, escape_here, StopsAt}
use Rattle.js_spell.specs.Strings.{IsOrdinaryBefore, PassesCharacters}
use Rattle.js_spell.specs.declared.ordinary.Literal.{Literal}
use Rattle.js_spell.specs.declared.ordinary.Literal.TheVariants.{DoubleQuoted, SingleQuoted, Template}

pub heads_of : (literal : Literal) → FindsHeads (item_of literal)
heads_of DoubleQuoted = string_item_heads quotation_mark
heads_of SingleQuoted = string_item_heads apostrophe
heads_of Template = template_item_heads

or_false : (a b : Bool) → (a || b) ≡ false → (a ≡ false) × (b ≡ false)
or_false true b e = absurd (cc)
or_false false b e = (refl, e)

not_true : (a : Bool) → not a ≡ true → a ≡ false
not_true true e = absurd (cc)
not_true false e = refl

not_false : (a : Bool) → not a ≡ false → a ≡ true
not_false true e = refl
not_false false e = absurd (cc)

-- a character that never stops a literal
ordinary_character : (literal : Literal) (c : ℕ) (cs : List ℕ) → stops literal c ≡ false
    → item_of literal (c ∷ cs) ≡ Some (ordinary_item c cs)
ordinary_character DoubleQuoted c cs e =
    let both = or_false (c == backslash) (ends_string quotation_mark c) e in
    string_plain quotation_mark c cs both.0 both.1
ordinary_character SingleQuoted c cs e =
    let both = or_false (c == backslash) (ends_string apostrophe c) e in string_plain apostrophe c cs both.0 both.1
ordinary_character Template c cs e =
    let first = or_false (c == backslash) _ e in
    let second = or_false (c == grave_accent) _ first.1 in
    let third = or_false (c == dollar_sign) _ second.1 in
    template_plain c cs first.0 (rw (second.0, third.0) refl) third.1

-- a `$` that no `{` follows
plain_dollar : (literal : Literal) (cs : List ℕ) → is_prefix (codes "${") (dollar_sign ∷ cs) ≡ false
    → item_of literal (dollar_sign ∷ cs) ≡ Some (ordinary_item dollar_sign cs)
plain_dollar DoubleQuoted cs e = refl
plain_dollar SingleQuoted cs e = refl
plain_dollar Template cs e = template_plain dollar_sign cs refl e refl

pub ordinary_item_here : (literal : Literal) (c : ℕ) (cs : List ℕ) → ordinary_here literal (c ∷ cs) ≡ true
    → item_of literal (c ∷ cs) ≡ Some (ordinary_item c cs)
ordinary_item_here literal c cs e =
    elim (true_or_false (stops literal c)) [
      | inr on ↦ ordinary_character literal c cs on
      | inl stop ↦ (
          let both = and_true (c == dollar_sign) (not (is_prefix (codes "${") (c ∷ cs))) (rw stop at e) in
          let is = eqb-true c dollar_sign both.0 in
          let none : is_prefix (codes "${") (dollar_sign ∷ cs) ≡ false =
          ap (λ d. is_prefix (codes "${") (d ∷ cs)) (sym is) ∙ not_true _ both.1 in
          subst (λ d. item_of literal (d ∷ cs) ≡ Some (ordinary_item d cs)) (sym is) (plain_dollar literal cs none))
    ]

-- nothing
pub ordinary_nothing : (literal : Literal) (text : List ℕ) → IsOrdinaryBefore literal text text
ordinary_nothing literal text =
    record { items = []; here = refl; found = refl; units = refl; escaped = refl; good = refl }

-- one character
pub ordinary_one : (literal : Literal) (c : ℕ) (cs : List ℕ) → item_of literal (c ∷ cs) ≡ Some (ordinary_item c cs)
    → IsOrdinaryBefore literal (c ∷ cs) cs
ordinary_one literal c cs e = record {
  items = ordinary_item c cs ∷ [];
  here = refl;
  found = one_item (item_of literal) (heads_of literal) (c ∷ cs) (ordinary_item c cs) e;
  units = refl;
  escaped = refl;
  good = refl;
}

all-append : (xs ys : List StringItem) → are_good xs ≡ true → are_good ys ≡ true → are_good (xs ++ ys) ≡ true
all-append [] ys a b = b
all-append (x ∷ xs) ys a b =
    let both = and_true (is_good x.fault) (are_good xs) a in rw both.0 (all-append xs ys both.1 b)

-- and more
pub ordinary_then : (literal : Literal) (text mid left : List ℕ) → IsOrdinaryBefore literal text mid
    → IsOrdinaryBefore literal mid left → IsOrdinaryBefore literal text left
ordinary_then literal text mid left first second =
    let texts = string_text-append first.items second.items in
    record {
      items = first.items ++ second.items;
      here =
          first.here ∙ ap (λ t. string_text first.items ++ t) second.here
          ∙ sym (append_assoc (string_text first.items) (string_text second.items) left)
          ∙ ap (λ t. t ++ left) (sym texts);
      found =
          first.found ∙ ap (items_before first.items) second.found
          ∙ items_before-append first.items second.items (all_items (item_of literal) left);
      units =
          string_units-append first.items second.items
          ∙ ap (λ us. us ++ string_units second.items) first.units
          ∙ ap (λ us. units_of (string_text first.items) ++ us) second.units
          ∙ sym (flat_map-append encode_utf16 (string_text first.items) (string_text second.items))
          ∙ ap units_of (sym texts);
      escaped =
          list_any-append (λ (item : StringItem). item.is_escaped) first.items second.items
          ∙ ap (λ b. b || contains_escape second.items) first.escaped ∙ second.escaped;
      good = all-append first.items second.items first.good second.good;
    }

-- a run of the table
plain_run : (literal : Literal) (table : List Bool) (xs left : List ℕ) → TellsClass (λ b. not (stops literal b)) table
    → IsRun table xs → IsOrdinaryBefore literal (xs ++ left) left
plain_run literal table [] left tells run = ordinary_nothing literal left
plain_run literal table (x ∷ xs) left tells run =
    let on = not_true (stops literal x) (sym (tells.tells x run.0) ∙ run.1) in
    ordinary_then literal (x ∷ (xs ++ left)) (xs ++ left) left
    (ordinary_one literal x (xs ++ left) (ordinary_character literal x (xs ++ left) on))
    (plain_run literal table xs left tells run.2)

pub passes_then : (literal : Literal) (old mid new : At) → PassesCharacters literal old mid
    → PassesCharacters literal mid new → PassesCharacters literal old new
passes_then literal old mid new first second = record {
  text = second.text ∙ first.text;
  ordinary = ordinary_then literal (rest old) (rest mid) (rest new) first.ordinary second.ordinary;
}

pub passes_run : (literal : Literal) (table : List Bool) (old new : At) → TellsClass (λ b. not (stops literal b)) table
    → new.text ≡ old.text → PassesRun table old.text old.place new.place → PassesCharacters literal old new
passes_run literal table old new tells text run =
    let here : rest old ≡ run.run ++ rest new =
    run.here ∙ ap (λ t. run.run ++ from_place t new.place) (sym text) in
    record {
      text = text;
      ordinary =
          subst (λ t. IsOrdinaryBefore literal t (rest new)) (sym here)
          (plain_run literal table run.run (rest new) tells run.all);
    }

pub passes_one : (literal : Literal) (c : ℕ) (old new : At) → Reads old new c → ordinary_here literal (rest old) ≡ true
    → PassesCharacters literal old new
passes_one literal c old new read e =
    let is = ap (ordinary_here literal) (sym read.here) ∙ e in
    record {
      text = read.text;
      ordinary =
          subst (λ t. IsOrdinaryBefore literal t (rest new)) (sym read.here)
          (ordinary_one literal c (rest new) (ordinary_item_here literal c (rest new) is));
    }

-- a character beyond ASCII stops nothing
wide_goes_on : (literal : Literal) (c : ℕ) → 128 ≤ c → stops literal c ≡ false
wide_goes_on DoubleQuoted c h = grind (arith, nat_tests)
wide_goes_on SingleQuoted c h = grind (arith, nat_tests)
wide_goes_on Template c h = grind (arith, nat_tests)

pub wide_first : (b c : ℕ) (cs : List ℕ) → 128 ≤ b → HasFirstByte b (c ∷ cs) → 128 ≤ c
wide_first b c cs h first =
    elim (true_or_false (ltb c 128)) [
      | inl low ↦ (let is : c ≡ b = first.1 (ltb-true c 128 low) in omega (arith, is))
      | inr wide ↦ ltb-false c 128 wide
    ]

pub ordinary_wide : (literal : Literal) (b : ℕ) (text : List ℕ) → 128 ≤ b → HasFirstByte b text
    → ordinary_here literal text ≡ true
ordinary_wide literal b [] h first = absurd first
ordinary_wide literal b (c ∷ cs) h first = rw (wide_goes_on literal c (wide_first b c cs h first)) refl

-- the byte at which a run stops
pub stops_at : (literal : Literal) (table : List Bool) (b : ℕ) (text : List ℕ)
    → TellsClass (λ b. not (stops literal b)) table → b < 128
    → HasFirstByte b text → begins (matches_at table) text ≡ false → StopsAt literal b text
stops_at literal table b text tells low first stop =
    let found = begins_with b text (ascii_next b text low first) in
    let ended : matches_at table b ≡ false = ap (begins (matches_at table)) (sym found.1) ∙ stop in
    record {
      behind = found.0;
      here = found.1;
      stops_there = not_false (stops literal b) (sym (tells.tells b low) ∙ ended);
    }

-- where no character stands for itself
pub nothing_ordinary : (literal : Literal) (text : List ℕ) → text ≡ [] → ordinary_here literal text ≡ false
nothing_ordinary literal text e = ap (ordinary_here literal) e

pub stop_not_ordinary : (literal : Literal) (b : ℕ) (text : List ℕ) → StopsAt literal b text
    → (b == dollar_sign) ≡ false
    → ordinary_here literal text ≡ false
stop_not_ordinary literal b text stop other = rw (stop.here, stop.stops_there, other) refl

pub substitution_not_ordinary : (literal : Literal) (b : ℕ) (text : List ℕ) → StopsAt literal b text
    → is_prefix (codes "${") text ≡ true → ordinary_here literal text ≡ false
substitution_not_ordinary literal b text stop begun =
    let prefix : is_prefix (codes "${") (b ∷ stop.behind) ≡ true = ap (is_prefix (codes "${")) (sym stop.here) ∙ begun
    in
    rw (stop.here, stop.stops_there) (rw prefix (none (b == dollar_sign)))
  where
    none : (a : Bool) → (a && false) ≡ false
    none true = refl
    none false = refl

pub dollar_is_ordinary : (literal : Literal) (b : ℕ) (text : List ℕ) → StopsAt literal b text → b ≡ dollar_sign
    → is_prefix (codes "${") text ≡ false → ordinary_here literal text ≡ true
dollar_is_ordinary literal b text stop is none =
    let prefix : is_prefix (codes "${") (b ∷ stop.behind) ≡ false = ap (is_prefix (codes "${")) (sym stop.here) ∙ none
    in
    rw (stop.here, stop.stops_there) (rw prefix (rw (eq-eqb b dollar_sign is) refl))

pub first_of_stop : (literal : Literal) (b : ℕ) (text : List ℕ) → StopsAt literal b text → HasFirstByte b text
first_of_stop literal b text stop = subst (HasFirstByte b) (sym stop.here) (λ h. refl, λ h. refl)

-- `${`
pub two_bytes : (a b : ℕ) (text : List ℕ) → HasFirstTwoBytes a b text
    → ((a == dollar_sign) && (b == left_curly_bracket)) ≡ is_prefix (codes "${") text
two_bytes a b [] h = absurd h
two_bytes a b (c ∷ cs) h =
    elim (true_or_false (a == dollar_sign)) [
      | inl is ↦ (
          let same = eqb-true a dollar_sign is in
          let low : a < 128 = omega (arith, same) in
          let first : c ≡ a = h.0.0 low in
          rw (is, first) (rw is (second cs (h.1 low))))
      | inr other ↦ (
          let differs : (c == dollar_sign) ≡ false =
          elim (true_or_false (c == dollar_sign)) [
            | inl is ↦ (
                let same = eqb-true c dollar_sign is in
                let low : c < 128 = omega (arith, same) in
                let first : c ≡ a = h.0.1 low in
                let none : (c == dollar_sign) ≡ false = ap (λ n. n == dollar_sign) first ∙ other in
                absurd (cc))
            | inr none ↦ none
          ] in
          rw (other, differs) refl)
    ]
  where
    both : (x y : Bool) → (x ≡ true → y ≡ true) → (y ≡ true → x ≡ true) → x ≡ y
    both true true f g = refl
    both true false f g = absurd (let e = f refl in cc)
    both false true f g = absurd (let e = g refl in cc)
    both false false f g = refl

    second : (cs : List ℕ) → HasFirstByte b cs → (b == left_curly_bracket) ≡ is_prefix (codes "{") cs
    second [] first = absurd first
    second (d ∷ ds) first =
        both (b == left_curly_bracket) ((d == left_curly_bracket) && true)
        (λ is.
        let same = eqb-true b left_curly_bracket is in
        let next : d ≡ b = first.0 (omega (arith, same)) in
        rw (next, is) refl)
        (λ is.
        let one = (and_true (d == left_curly_bracket) true is).0 in
        let same = eqb-true d left_curly_bracket one in
        let next : d ≡ b = first.1 (omega (arith, same)) in
        ap (λ n. n == left_curly_bracket) (sym next) ∙ one)

pub one_byte : (text : List ℕ) → HasAtMostOneByte text → false ≡ is_prefix (codes "${") text
one_byte [] h = refl
one_byte (c ∷ cs) h = rw h.1 (none (c == dollar_sign))
  where
    none : (a : Bool) → false ≡ (a && false)
    none true = refl
    none false = refl

-- no item is next where none of those that are marked is
pub no_item_here : (literal : Literal) (text : List ℕ) → ordinary_here literal text ≡ false
    → escape_here literal text ≡ false → item_of literal text ≡ None
no_item_here DoubleQuoted [] plain none = refl
no_item_here SingleQuoted [] plain none = refl
no_item_here Template [] plain none = refl
no_item_here DoubleQuoted (c ∷ cs) plain none =
    let other = (or_false (c == backslash) _ none).0 in
    let stop : stops DoubleQuoted c ≡ true =
    not_false (stops DoubleQuoted c) (or_false (not (stops DoubleQuoted c)) _ plain).0 in
    string_ends quotation_mark c cs other (rw other at stop)
no_item_here SingleQuoted (c ∷ cs) plain none =
    let other = (or_false (c == backslash) _ none).0 in
    let stop : stops SingleQuoted c ≡ true =
    not_false (stops SingleQuoted c) (or_false (not (stops SingleQuoted c)) _ plain).0 in
    string_ends apostrophe c cs other (rw other at stop)
no_item_here Template (c ∷ cs) plain none =
    let marks = or_false (c == backslash) (c == carriage_return) none in
    let stop : stops Template c ≡ true =
    not_false (stops Template c) (or_false (not (stops Template c)) _ plain).0 in
    template_ends c cs marks.0
    (ends (c == grave_accent) (c == dollar_sign) (is_prefix (codes "{") cs) (rw (marks.0, marks.1) at stop)
    (or_false (not (stops Template c)) _ plain).1)
  where
    ends : (grave dollar curly : Bool) → (grave || (dollar || false)) ≡ true
        → (dollar && not (dollar && curly)) ≡ false → (grave || (dollar && curly)) ≡ true
    ends true dollar curly e f = refl
    ends false true true e f = refl
    ends false true false e f = absurd (cc)
    ends false false curly e f = absurd (cc)

-- an item that is escaped, where a marked one is next
pub record EscapedItem (literal : Literal) (text : List ℕ) : Type 0 where
  pub item : StringItem
  pub found : item_of literal text ≡ Some item
  pub escaped : item.is_escaped ≡ true

backslash_item : (literal : Literal) (cs : List ℕ)
    → item_of literal (backslash ∷ cs) ≡ Some (escape (in_template literal) cs)
backslash_item DoubleQuoted cs = refl
backslash_item SingleQuoted cs = refl
backslash_item Template cs = refl

pub escape_item_here : (literal : Literal) (text cs : List ℕ) → text ≡ backslash ∷ cs
    → item_of literal text ≡ Some (escape (in_template literal) cs)
escape_item_here literal text cs e = ap (item_of literal) e ∙ backslash_item literal cs

pub escaped_item_here : (literal : Literal) (text : List ℕ) → escape_here literal text ≡ true
    → EscapedItem literal text
escaped_item_here literal [] e = absurd (none literal e)
  where
    none : (literal : Literal) → escape_here literal [] ≡ true → ⊥
    none DoubleQuoted e = cc
    none SingleQuoted e = cc
    none Template e = cc
escaped_item_here literal (c ∷ cs) e =
    elim (true_or_false (c == backslash)) [
      | inl is ↦ record {
        item = escape (in_template literal) cs;
        found = escape_item_here literal (c ∷ cs) cs (ap (λ d. d ∷ cs) (eqb-true c backslash is));
        escaped = (escape_is_one (in_template literal) cs).escaped;
      }
      | inr other ↦ carriage literal (rw other at e)
    ]
  where
    carriage : (literal : Literal) → (in_template literal && (c == carriage_return)) ≡ true
        → EscapedItem literal (c ∷ cs)
    carriage DoubleQuoted e = absurd (cc)
    carriage SingleQuoted e = absurd (cc)
    carriage Template e = record {
      item = carriage_return_item cs;
      found = ap (λ d. template_item (d ∷ cs)) (eqb-true c carriage_return e);
      escaped = carriage_return_escaped cs;
    }

-- the next character was taken where one is next that stands for itself
pub passes_past : (literal : Literal) (old new : At) → StepsPast old new → ordinary_here literal (rest old) ≡ true
    → PassesCharacters literal old new
passes_past literal old new past e =
    let next = some_character literal (rest old) e in
    let step = past next.0 next.1 next.2 in
    passes_one literal next.0 old new
    (record { text = step.0; here = next.2 ∙ ap (λ t. next.0 ∷ t) (sym step.1) }) e
  where
    some_character : (literal : Literal) (text : List ℕ) → ordinary_here literal text ≡ true
        → (c : ℕ) × (cs : List ℕ) × (text ≡ c ∷ cs)
    some_character literal [] e = absurd (cc)
    some_character literal (c ∷ cs) e = (c, cs, refl)
