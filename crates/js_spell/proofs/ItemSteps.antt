-- The steps of reading the items of strings and templates.
use Rattle.std.proofs.Common.{◌≡◌, ◌≢◌, ℕ, ◌<◌, ◌≤◌, Bool, true, false, not, ◌&&◌, ◌||◌, ◌==◌, List, [], ◌∷◌, ◌++◌}
use Rattle.std.proofs.Common.{length, drop, refl, sym, ◌∙◌, ap, subst, arith, Option, Some, None, inl, inr}
use Rattle.std.proofs.Common.{append_assoc, Result, Ok, Err, length-append}
use Rattle.std.specs.Prelude.{MatchBool, MatchOption, IfNone, IfSome, OnOk}
use Rattle.std.specs.Str.{encode_utf8_all, chars}
use Rattle.std.proofs.Math.Utf8.{scalars}
use Rattle.std.proofs.lemmas.Bool.{eqb-true}
use Rattle.std.proofs.lemmas.List.{append-nil}
use Rattle.std.proofs.lemmas.List.Folds.{list_any-append}
use Rattle.std.proofs.lemmas.Str.{chars-encodes, scalars-chars, IsUtf8-drop}
use Rattle.js_text.specs.Ascii.{line_feed, carriage_return, backslash}
use Rattle.js_text.specs.Characters.{begins}
use Rattle.js_text.specs.JsStr.{units_of}
use Rattle.js_text.specs.declared.diagnostic.Diagnostic.{Diagnostic}
use Rattle.js_text.specs.declared.diagnostic.Diagnostic.TheVariants.{InvalidEscapeSequence}
use Rattle.js_grammar.specs.Reading.{place_behind}
use Rattle.js_grammar.specs.StringItems.{Fault, StringItem, StringItems, escape, all_items, items_before}
use Rattle.js_grammar.specs.StringItems.{string_text, string_units, contains_escape, contains_bad_escape, is_bad_escape}
use Rattle.js_grammar.specs.StringItems.{fault_reports, item_reports, stretch}
use Rattle.js_grammar.specs.StringItems.Fault.{no_fault, bad_escape, unfinished_escape}
use Rattle.js_grammar.specs.Template.{template_item, carriage_return_item, line_end_item}
use Rattle.js_grammar.proofs.EscapeCases.{first_is}
use Rattle.js_grammar.proofs.NumberItems.{true_or_false}
use Rattle.js_grammar.proofs.StringSteps.{one_item, no_items_here, items_before-append, string_text-append}
use Rattle.js_grammar.proofs.StringSteps.{string_units-append, item_reports-append, good_ones, good_ones_not_bad}
use Rattle.js_grammar.proofs.StringSteps.{carriage_return_two, carriage_return_one, template_value_good}
use Rattle.js_grammar.proofs.StringSteps.{template_value_bad}
use Rattle.js_source.specs.Source.{At, rest, Reads, HasFirstByte, StepsPast}
use Rattle.js_spell.specs.Escape.{ReadsEscape}
use Rattle.js_spell.specs.Strings.{in_template, item_of, ordinary_here, escape_here, PassesCharacters}
use Rattle.js_spell.specs.Strings.{ReadsItems, ReadsOneItem, ReadsValue, value_of, told_value, StopIs}
use Rattle.js_spell.specs.Strings.{is_end}
use Rattle.js_spell.specs.Breaks.{BreaksOff}
use Rattle.js_spell.specs.Strings.{decoded_value, items_told}
use Rattle.js_spell.specs.declared.items.Stop.{Stop}
use Rattle.js_spell.specs.declared.items.Stop.TheVariants.{Escape, CarriageReturn, End}
use Rattle.js_spell.specs.declared.ordinary.Literal.{Literal}
use Rattle.js_spell.specs.declared.ordinary.Literal.TheVariants.{DoubleQuoted, SingleQuoted, Template}
use Rattle.js_spell.specs.declared.spelt.SpeltValue.{SpeltValue}
use Rattle.js_spell.specs.declared.spelt.SpeltValue.TheVariants.{Plain}
use Rattle.js_spell.proofs.BreakSteps.{broken_behind}
use Rattle.js_spell.proofs.NumericSteps.{leads_to}
use Rattle.js_spell.proofs.OrdinaryCharacters.{heads_of, escape_item_here, no_item_here, escaped_item_here}

scalars_front : (xs ys : List ℕ) → scalars (xs ++ ys) ≡ true → scalars xs ≡ true
scalars_front [] ys e = refl
scalars_front (x ∷ xs) ys e = front_of_and _ (scalars (xs ++ ys)) (scalars xs) (scalars_front xs ys) e
  where
    front_of_and : (a b c : Bool) → (b ≡ true → c ≡ true) → (a && b) ≡ true → (a && c) ≡ true
    front_of_and true b c f e = f e
    front_of_and false b c f e = absurd (cc)

-- the characters of a stretch of the source are what its bytes spell
pub stretch_chars : (at : At) (xs ys bytes : List ℕ) → rest at ≡ xs ++ ys → bytes ≡ encode_utf8_all xs
    → chars bytes ≡ xs
stretch_chars at xs ys bytes here e =
    let whole = scalars-chars (drop at.place at.text) (IsUtf8-drop at.text at.place at.placed.utf8 at.placed.boundary)
    in
    ap chars e ∙ chars-encodes xs (scalars_front xs ys (ap scalars (sym here) ∙ whole))

-- characters that stand for themselves, and their units
pub ordinary_items_read : (literal : Literal) (start : ℕ) (old new : At) (us vs : List ℕ) (reports : List Diagnostic)
    (plain : PassesCharacters literal old new) → vs ≡ us ++ units_of (string_text plain.ordinary.items)
    → ReadsItems literal start old new us vs reports reports false
ordinary_items_read literal start old new us vs reports plain added = record {
  text = plain.text;
  items = plain.ordinary.items;
  here = plain.ordinary.here;
  found = plain.ordinary.found;
  units = added ∙ ap (λ ws. us ++ ws) (sym plain.ordinary.units);
  reports =
      sym
      (ap (λ more. reports ++ more)
      (good_ones (in_template literal) start old.place plain.ordinary.items plain.ordinary.good)
      ∙ append-nil reports);
  bad = good_ones_not_bad plain.ordinary.items plain.ordinary.good;
}

pub copied : (literal : Literal) (start : ℕ) (old new : At) (us vs bytes : List ℕ) (reports : List Diagnostic)
    → (plain : PassesCharacters literal old new) → vs ≡ us ++ units_of (chars bytes)
    → bytes ≡ encode_utf8_all (string_text plain.ordinary.items)
    → ReadsItems literal start old new us vs reports reports false
copied literal start old new us vs bytes reports plain added spelled =
    ordinary_items_read literal start old new us vs reports plain
    (added
    ∙ ap (λ cs. us ++ units_of cs)
    (stretch_chars old (string_text plain.ordinary.items) (rest new) bytes plain.ordinary.here spelled))

-- nothing yet
pub no_items_read : (literal : Literal) (start : ℕ) (at : At) (us : List ℕ) (reports : List Diagnostic)
    → ReadsItems literal start at at us us reports reports false
no_items_read literal start at us reports = record {
  text = refl;
  items = [];
  here = refl;
  found = refl;
  units = sym (append-nil us);
  reports = sym (append-nil reports);
  bad = refl;
}

-- items, and then more
pub items_then : (literal : Literal) (start : ℕ) (old mid new : At) (us vs ws : List ℕ)
    (before between after : List Diagnostic) (first_bad second_bad : Bool) → ReadsItems literal start old mid us vs
    before between first_bad
    → ReadsItems literal start mid new vs ws between after second_bad
    → ReadsItems literal start old new us ws before after (first_bad || second_bad)
items_then literal start old mid new us vs ws before between after first_bad second_bad first second =
    let texts = string_text-append first.items second.items in
    let t = in_template literal in
    let place = leads_to old mid (string_text first.items) first.text first.here in
    let first_reports = item_reports t start old.place first.items in
    record {
      text = second.text ∙ first.text;
      items = first.items ++ second.items;
      here =
          first.here ∙ ap (λ cs. string_text first.items ++ cs) second.here
          ∙ sym (append_assoc (string_text first.items) (string_text second.items) (rest new))
          ∙ ap (λ cs. cs ++ rest new) (sym texts);
      found =
          first.found ∙ ap (items_before first.items) second.found
          ∙ items_before-append first.items second.items (all_items (item_of literal) (rest new));
      units =
          second.units ∙ ap (λ xs. xs ++ string_units second.items) first.units
          ∙ append_assoc us (string_units first.items) (string_units second.items)
          ∙ ap (λ xs. us ++ xs) (sym (string_units-append first.items second.items));
      reports =
          second.reports ∙ ap (λ xs. xs ++ item_reports t start mid.place second.items) first.reports
          ∙ append_assoc before first_reports (item_reports t start mid.place second.items)
          ∙ ap (λ p. before ++ (first_reports ++ item_reports t start p second.items)) place
          ∙ ap (λ xs. before ++ xs) (sym (item_reports-append t start old.place first.items second.items));
      bad =
          list_any-append (λ (item : StringItem). is_bad_escape item.fault) first.items second.items
          ∙ ap (λ b. b || contains_bad_escape second.items) first.bad ∙ ap (λ b. first_bad || b) second.bad;
    }

-- Items were read, and then those behind them broke off.
pub items_broken : (literal : Literal) (start : ℕ) (old mid new : At) (us vs : List ℕ)
    (before between after : List Diagnostic) (bad : Bool) → ReadsItems literal start old mid us vs before between bad
    → BreaksOff (items_told literal start mid) mid new between after
    → BreaksOff (items_told literal start old) old new before after
items_broken literal start old mid new us vs before between after bad read broken =
    let t = in_template literal in
    let more = all_items (item_of literal) (rest mid) in
    let first = item_reports t start old.place read.items in
    let place = leads_to old mid (string_text read.items) read.text read.here in
    let told : items_told literal start old ≡ first ++ items_told literal start mid =
    ap (λ (found : StringItems). item_reports t start old.place found.items) read.found
    ∙ item_reports-append t start old.place read.items more.items
    ∙ ap (λ p. first ++ item_reports t start p more.items) (sym place) in
    broken_behind (items_told literal start old) (items_told literal start mid) first old mid new before between after
    read.text (omega (arith, place)) read.reports told broken

-- Characters that stand for themselves were passed, and then the items behind them broke off.
pub plain_broken : (literal : Literal) (start : ℕ) (old mid new : At) (before after : List Diagnostic)
    → PassesCharacters literal old mid
    → BreaksOff (items_told literal start mid) mid new before after
    → BreaksOff (items_told literal start old) old new before after
plain_broken literal start old mid new before after plain broken =
    let us = units_of (string_text plain.ordinary.items) in
    items_broken literal start old mid new [] us before before after false
    (ordinary_items_read literal start old mid [] us before plain refl) broken

-- All items were read, and then what ends them broke off, which has reported nothing.
pub end_broken : (literal : Literal) (start : ℕ) (old mid new : At) (before between after : List Diagnostic)
    (value : SpeltValue) → ReadsValue literal start old mid before between value
    → BreaksOff [] mid new between after → BreaksOff (items_told literal start old) old new before after
end_broken literal start old mid new before between after value read broken =
    let t = in_template literal in
    let first = item_reports t start old.place read.items in
    let place = leads_to old mid (string_text read.items) read.text read.here in
    broken_behind (items_told literal start old) [] first old mid new before between after read.text
    (omega (arith, place)) read.reports
    (ap (λ (found : StringItems). item_reports t start old.place found.items) read.found ∙ sym (append-nil first))
    broken

-- one item
pub one_item_read : (literal : Literal) (start : ℕ) (old new : At) (us vs : List ℕ) (before after : List Diagnostic)
    (bad : Bool) (item : StringItem) → new.text ≡ old.text
    → item_of literal (rest old) ≡ Some item → item.rest ≡ rest new → vs ≡ us ++ item.units
    → after ≡ before ++ fault_reports (in_template literal) start old.place new.place item.fault
    → is_bad_escape item.fault ≡ bad
    → ReadsOneItem literal start old new us vs before after bad
one_item_read literal start old new us vs before after bad item text found left added reported is_bad =
    let head = heads_of literal (rest old) item found in
    let here : rest old ≡ item.text ++ rest new = head.here ∙ ap (λ cs. item.text ++ cs) left in
    let place = leads_to old new item.text text here in
    let t = in_template literal in
    record {
      shorter = omega (arith, ap length here, length-append item.text (rest new), head.some);
      read = record {
        text = text;
        items = item ∷ [];
        here = here ∙ ap (λ cs. cs ++ rest new) (sym (append-nil item.text));
        found =
            one_item (item_of literal) (heads_of literal) (rest old) item found
            ∙ ap (λ cs. items_before (item ∷ []) (all_items (item_of literal) cs)) left;
        units = added ∙ ap (λ xs. us ++ xs) (sym (append-nil item.units));
        reports =
            reported ∙ ap (λ p. before ++ fault_reports t start old.place p item.fault) place
            ∙ ap (λ xs. before ++ xs)
            (sym (append-nil (fault_reports t start old.place (place_behind old.place item.text) item.fault)));
        bad = or_false (is_bad_escape item.fault) ∙ is_bad;
      };
    }
  where
    or_false : (b : Bool) → (b || false) ≡ b
    or_false true = refl
    or_false false = refl

-- a good escape, or one that the source ends
pub good_escape_read : (literal : Literal) (start : ℕ) (old mid new : At) (us vs : List ℕ)
    (before after : List Diagnostic) (is_template is_good : Bool) → begins (λ c. c == backslash) (rest old) ≡ true
    → StepsPast old mid → is_template ≡ in_template literal → is_good ≡ true
    → ReadsEscape is_template start mid new us vs before after is_good
    → ReadsOneItem literal start old new us vs before after false
good_escape_read literal start old mid new us vs before after is_template is_good next past e good escape_read =
    let read : ReadsEscape (in_template literal) start mid new us vs before after true =
    subst (λ b. ReadsEscape (in_template literal) start mid new us vs before after b) good
    (subst (λ b. ReadsEscape b start mid new us vs before after is_good) e escape_read) in
    let here = first_is backslash (rest old) next in
    let step = past backslash (drop 1 (rest old)) here in
    let t = in_template literal in
    let behind : rest old ≡ backslash ∷ rest mid = here ∙ ap (λ cs. backslash ∷ cs) (sym step.1) in
    one_item_read literal start old new us vs before after false (escape t (rest mid)) (read.text ∙ step.0)
    (escape_item_here literal (rest old) (rest mid) behind) read.left read.units
    (read.reports ∙ ap (λ xs. before ++ xs) (same t (escape t (rest mid)).fault read.good)) read.good
  where
    same : (t : Bool) (fault : Fault) → is_bad_escape fault ≡ false
        → fault_reports true start mid.place new.place fault ≡ fault_reports t start old.place new.place fault
    same t no_fault e = refl
    same t bad_escape e = absurd (cc)
    same t unfinished_escape e = refl

-- a bad one
bad_is : (fault : Fault) → is_bad_escape fault ≡ true → fault ≡ bad_escape
bad_is no_fault e = absurd (cc)
bad_is bad_escape e = refl
bad_is unfinished_escape e = absurd (cc)

pub bad_escape_read : (literal : Literal) (start : ℕ) (old mid new : At) (us vs : List ℕ)
    (before between after : List Diagnostic) (is_template is_good : Bool) → begins (λ c. c == backslash) (rest old) ≡
    true
    → StepsPast old mid → is_template ≡ in_template literal → is_good ≡ false
    → ReadsEscape is_template start mid new us vs before between is_good
    → after ≡ between ++ fault_reports (in_template literal) start old.place new.place bad_escape
    → ReadsOneItem literal start old new us vs before after true
bad_escape_read literal start old mid new us vs before between after is_template is_good next past e bad_one
    escape_read reported =
    let read : ReadsEscape (in_template literal) start mid new us vs before between false =
    subst (λ b. ReadsEscape (in_template literal) start mid new us vs before between b) bad_one
    (subst (λ b. ReadsEscape b start mid new us vs before between is_good) e escape_read) in
    let here = first_is backslash (rest old) next in
    let step = past backslash (drop 1 (rest old)) here in
    let t = in_template literal in
    let behind : rest old ≡ backslash ∷ rest mid = here ∙ ap (λ cs. backslash ∷ cs) (sym step.1) in
    let bad = bad_is (escape t (rest mid)).fault read.good in
    let unchanged : between ≡ before =
    read.reports ∙ ap (λ fault. before ++ fault_reports true start mid.place new.place fault) bad ∙ append-nil before in
    one_item_read literal start old new us vs before after true (escape t (rest mid)) (read.text ∙ step.0)
    (escape_item_here literal (rest old) (rest mid) behind) read.left read.units
    (reported ∙ ap (λ xs. xs ++ fault_reports t start old.place new.place bad_escape) unchanged
    ∙ ap (λ fault. before ++ fault_reports t start old.place new.place fault) (sym bad)) read.good

-- CR, and perhaps LF
pub line_end_read : (b : Bool) (start : ℕ) (old mid new : At) (us vs : List ℕ) (reports : List Diagnostic)
    → begins (λ c. c == carriage_return) (rest old) ≡ true → StepsPast old mid
    → MatchBool b (Reads mid new line_feed) ((begins (λ d. d == line_feed) (rest mid) ≡ false) × (new ≡ mid))
    → vs ≡ us ++ (line_feed ∷ [])
    → ReadsOneItem Template start old new us vs reports reports false
line_end_read b start old mid new us vs reports next past lf added =
    let here = first_is carriage_return (rest old) next in
    let step = past carriage_return (drop 1 (rest old)) here in
    let behind : rest old ≡ carriage_return ∷ rest mid = here ∙ ap (λ cs. carriage_return ∷ cs) (sym step.1) in
    let found : template_item (rest old) ≡ Some (carriage_return_item (rest mid)) = ap template_item behind in
    cases b found step.0 lf
  where
    cases : (b : Bool) → template_item (rest old) ≡ Some (carriage_return_item (rest mid)) → mid.text ≡ old.text
        → MatchBool b (Reads mid new line_feed) ((begins (λ d. d == line_feed) (rest mid) ≡ false) × (new ≡ mid))
        → ReadsOneItem Template start old new us vs reports reports false
    cases true found text read =
        let two = carriage_return_two (rest mid) (ap (begins (λ d. d == line_feed)) read.here) in
        one_item_read Template start old new us vs reports reports false
        (line_end_item (carriage_return ∷ line_feed ∷ []) (drop 1 (rest mid))) (read.text ∙ text)
        (found ∙ ap Some two) (ap (drop 1) read.here) added (sym (append-nil reports)) refl
    cases false found text (none, same) =
        let one = carriage_return_one (rest mid) none in
        one_item_read Template start old new us vs reports reports false
        (line_end_item (carriage_return ∷ []) (rest mid)) (ap (λ a. a.text) same ∙ text)
        (found ∙ ap Some one) (ap rest (sym same)) added (sym (append-nil reports)) refl

differs : (b c d : ℕ) (cs : List ℕ) → d < 128 → b ≢ d → HasFirstByte b (c ∷ cs) → (c == d) ≡ false
differs b c d cs low other first =
    elim (true_or_false (c == d)) [
      | inl is ↦ (
          let same = eqb-true c d is in
          let byte : c ≡ b = first.1 (omega (arith, same)) in
          absurd (other (sym byte ∙ same)))
      | inr none ↦ none
    ]

pub mark_not_end : (literal : Literal) (mark : Stop) (text : List ℕ) → StopIs literal mark text
    → is_end mark ≡ false → escape_here literal text ≡ true
mark_not_end literal Escape text is e = rw is refl
mark_not_end literal CarriageReturn text (t, cr) e = rw (t, cr) (or_true (begins (λ c. c == backslash) text))
  where
    or_true : (b : Bool) → (b || true) ≡ true
    or_true true = refl
    or_true false = refl
mark_not_end literal End text is e = absurd (cc)

pub mark_end : (literal : Literal) (mark : Stop) (text : List ℕ) → StopIs literal mark text
    → is_end mark ≡ true → escape_here literal text ≡ false
mark_end literal Escape text is e = absurd (cc)
mark_end literal CarriageReturn text is e = absurd (cc)
mark_end literal End text is e = is

-- the value, where no item is escaped
pub plain_value_read : (literal : Literal) (start : ℕ) (old new : At) (reports : List Diagnostic)
    → PassesCharacters literal old new → ordinary_here literal (rest new) ≡ false
    → escape_here literal (rest new) ≡ false
    → ReadsValue literal start old new reports reports Plain
plain_value_read literal start old new reports plain none end =
    let nothing = no_items_here (item_of literal) (rest new) (no_item_here literal (rest new) none end) in
    let items = plain.ordinary.items in
    record {
      text = plain.text;
      items = items;
      here = plain.ordinary.here;
      found =
          plain.ordinary.found ∙ ap (items_before items) nothing
          ∙ ap (λ xs. record { items = xs; rest = rest new }) (append-nil items);
      reports =
          sym
          (ap (λ more. reports ++ more) (good_ones (in_template literal) start old.place items plain.ordinary.good)
          ∙ append-nil reports);
      value_is = ap (λ b. told_value b (value_of literal items)) (sym plain.ordinary.escaped);
    }

-- and where one is
value_is_decoded : (literal : Literal) (items : List StringItem) (bad : Bool) → contains_bad_escape items ≡ bad
    → decoded_value literal bad (string_units items) ≡ told_value true (value_of literal items)
value_is_decoded DoubleQuoted items true e = refl
value_is_decoded DoubleQuoted items false e = refl
value_is_decoded SingleQuoted items true e = refl
value_is_decoded SingleQuoted items false e = refl
value_is_decoded Template items true e = sym (ap (told_value true) (template_value_bad items e))
value_is_decoded Template items false e = sym (ap (told_value true) (template_value_good items e))

escaped_found : (literal : Literal) (text : List ℕ) → escape_here literal text ≡ true
    → contains_escape (all_items (item_of literal) text).items ≡ true
escaped_found literal text e =
    let first = escaped_item_here literal text e in
    let found = one_item (item_of literal) (heads_of literal) text first.item first.found in
    ap (λ (items : StringItems). contains_escape items.items) found
    ∙ ap (λ b. b || contains_escape (all_items (item_of literal) first.item.rest).items) first.escaped

pub decoded_value_read : (literal : Literal) (start : ℕ) (old mid new : At) (us vs : List ℕ)
    (before after : List Diagnostic) (bad : Bool)
    → (plain : PassesCharacters literal old mid)
    → us ≡ units_of (string_text plain.ordinary.items)
    → escape_here literal (rest mid) ≡ true
    → ReadsItems literal start mid new us vs before after bad
    → item_of literal (rest new) ≡ None
    → ReadsValue literal start old new before after (decoded_value literal bad vs)
decoded_value_read literal start old mid new us vs before after bad plain added marked read end =
    let first = ordinary_items_read literal start old mid [] us before plain added in
    let all = items_then literal start old mid new [] us vs before before after false bad first read in
    let nothing = no_items_here (item_of literal) (rest new) end in
    let behind : all_items (item_of literal) (rest mid) ≡ record { items = read.items; rest = rest new } =
    read.found ∙ ap (items_before read.items) nothing
    ∙ ap (λ xs. record { items = xs; rest = rest new }) (append-nil read.items) in
    let escaped : contains_escape read.items ≡ true =
    ap (λ (items : StringItems). contains_escape items.items) (sym behind) ∙ escaped_found literal (rest mid) marked in
    let found : all_items (item_of literal) (rest old) ≡ record { items = all.items; rest = rest new } =
    all.found ∙ ap (items_before all.items) nothing
    ∙ ap (λ xs. record { items = xs; rest = rest new }) (append-nil all.items) in
    let two : all_items (item_of literal) (rest old)
    ≡ record { items = plain.ordinary.items ++ read.items; rest = rest new } =
    plain.ordinary.found ∙ ap (items_before plain.ordinary.items) behind in
    let same : all.items ≡ plain.ordinary.items ++ read.items =
    ap (λ (items : StringItems). items.items) (sym found ∙ two) in
    let whole : contains_escape all.items ≡ true =
    ap contains_escape same
    ∙ list_any-append (λ (item : StringItem). item.is_escaped) plain.ordinary.items read.items
    ∙ ap (λ b. contains_escape plain.ordinary.items || b) escaped ∙ or_true (contains_escape plain.ordinary.items) in
    record {
      text = all.text;
      items = all.items;
      here = all.here;
      found = found;
      reports = all.reports;
      value_is =
          ap (decoded_value literal bad) all.units ∙ value_is_decoded literal all.items bad all.bad
          ∙ ap (λ b. told_value b (value_of literal all.items)) (sym whole);
    }
  where
    or_true : (b : Bool) → (b || true) ≡ true
    or_true true = refl
    or_true false = refl

-- what a bad escape reports
pub reported_in_string : (literal : Literal) (start from place end : ℕ) (between after : List Diagnostic)
    → in_template literal ≡ false → from ≡ place
    → after ≡ between ++ (InvalidEscapeSequence (stretch from end) ∷ [])
    → after ≡ between ++ fault_reports (in_template literal) start place end bad_escape
reported_in_string literal start from place end between after t e reported =
    rw t (reported ∙ ap (λ p. between ++ (InvalidEscapeSequence (stretch p end) ∷ [])) e)

pub silent_in_template : (literal : Literal) (start place end : ℕ) (reports : List Diagnostic)
    → in_template literal ≡ true
    → reports ≡ reports ++ fault_reports (in_template literal) start place end bad_escape
silent_in_template literal start place end reports t = rw t (sym (append-nil reports))

pub passes_onward : (literal : Literal) (old new : At) → PassesCharacters literal old new → old.place ≤ new.place
passes_onward literal old new plain =
    omega (arith, leads_to old new (string_text plain.ordinary.items) plain.text plain.ordinary.here)

pub on_ok_map : {T E : Type 0} (r : Result T E) (P Q : Type 0) → (P → Q) → OnOk r P → OnOk r Q
on_ok_map (Ok x) P Q f p = f p
on_ok_map (Err e) P Q f p = tt

pub match_option : {A : Type 0} (o : Option A) (P : Type 0) (Q : A → Type 0) → IfNone o P → IfSome o Q
    → MatchOption o P Q
match_option None P Q p q = p
match_option (Some x) P Q p q = q

pub is_template : (literal : Literal) → in_template literal ≡ true → Template ≡ literal
is_template DoubleQuoted e = absurd (cc)
is_template SingleQuoted e = absurd (cc)
is_template Template e = refl

-- one more turn of the loop over items
pub one_more_turn : (literal : Literal) (start : ℕ) (old here mid new : At) (us vs ws xs : List ℕ)
    (before between after : List Diagnostic) (bad is_good all : Bool) → ReadsItems literal start old here us vs before
    between bad
    → ReadsOneItem literal start here mid vs ws between after (not is_good)
    → ReadsItems literal start mid new ws xs after after false
    → all ≡ (bad || not is_good)
    → ReadsItems literal start old new us xs before after all
one_more_turn literal start old here mid new us vs ws xs before between after bad is_good all so_far one copied
    e =
    subst (λ b. ReadsItems literal start old new us xs before after b) (or_false (bad || not is_good) ∙ sym e)
    (items_then literal start old mid new us ws xs before after after (bad || not is_good) false
    (items_then literal start old here mid us vs ws before between after bad (not is_good) so_far one.read)
    copied)
  where
    or_false : (b : Bool) → (b || false) ≡ b
    or_false true = refl
    or_false false = refl

pub turn_shortens : (literal : Literal) (start : ℕ) (here mid new : At) (us vs ws : List ℕ)
    (between after : List Diagnostic) (bad : Bool)
    → ReadsOneItem literal start here mid us vs between after bad
    → ReadsItems literal start mid new vs ws after after false
    → length (rest new) < length (rest here)
turn_shortens literal start here mid new us vs ws between after bad one copied =
    omega (arith, one.shorter, ap length copied.here, length-append (string_text copied.items) (rest new))
