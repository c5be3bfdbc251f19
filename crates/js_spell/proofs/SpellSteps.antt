-- The steps of reading a whole string, or a part of a template.
use Rattle.std.proofs.Common.{◌≡◌, ℕ, ◌+◌, ◌≤◌, Bool, true, false, ◌&&◌, ◌==◌, List, [], ◌∷◌, ◌++◌}
use Rattle.std.proofs.Common.{length, take, drop, refl, sym, ◌∙◌, ap, arith, Option, Some, None, inl, inr}
use Rattle.std.proofs.Common.{append_assoc, append-nil, subst, ◌<◌}
use Rattle.std.specs.Prelude.{IfNone, IfSome, codes, slice_index}
use Rattle.std.specs.Char.{encode_utf8}
use Rattle.std.proofs.lemmas.Bool.{eqb-true, eq-eqb}
use Rattle.js_text.specs.Ascii.{quotation_mark, apostrophe, grave_accent, dollar_sign}
use Rattle.js_text.specs.Characters.{begins}
use Rattle.js_text.specs.declared.diagnostic.Diagnostic.{Diagnostic}
use Rattle.js_text.specs.declared.diagnostic.Diagnostic.TheVariants.{UnterminatedString}
use Rattle.js_kind.specs.TokenParts.{TokenParts}
use Rattle.js_kind.specs.declared.kind.Kind.{Kind}
use Rattle.js_kind.specs.declared.kind.Kind.TheVariants.{Str, Undetermined}
use Rattle.js_grammar.specs.Gap.{is_prefix}
use Rattle.js_grammar.specs.Reading.{Reading, moved_diagnostic, moved_diagnostics, place_behind, reported_at, size_of}
use Rattle.js_grammar.specs.StringItems.{StringItem, StringItems, StringValue, string_text, string_units}
use Rattle.js_grammar.specs.StringItems.{quoted_value, string_reading}
use Rattle.js_grammar.specs.StringItems.{contains_escape, contains_bad_escape, item_reports, stretch, is_quote}
use Rattle.js_grammar.specs.StringItems.{all_items, string_items, string_of_items}
use Rattle.js_grammar.specs.StringItems.{terminated_string, unterminated}
use Rattle.js_grammar.specs.StringItems.StringValue.{no_value, units, bad_value}
use Rattle.js_grammar.specs.Quoted.{quoted_reading}
use Rattle.js_grammar.proofs.Moved.{item_reports_moved}
use Rattle.std.proofs.lemmas.List.{map-append}
use Rattle.std.proofs.Common.{add-zero}
use Rattle.js_grammar.specs.Template.{template_items, template_value, template_part_reading, terminated_part}
use Rattle.js_grammar.specs.Template.{part_of_items}
use Rattle.js_grammar.proofs.NumberItems.{true_or_false}
use Rattle.js_grammar.proofs.Tests.{and_true}
use Rattle.js_grammar.proofs.StringSteps.{string_terminated, string_unterminated, part_with_tail}
use Rattle.js_grammar.proofs.StringSteps.{part_with_substitution, part_unterminated, template_value_bad}
use Rattle.js_grammar.proofs.StringSteps.{template_value_good}
use Rattle.js_source.specs.Source.{At, rest, Reads, ReadsTwo, StepsPast}
use Rattle.js_spell.specs.Breaks.{BreaksOff}
use Rattle.js_spell.specs.Strings.{in_template, item_of, quote_of, ReadsValue, value_of, told_value, Unterminated}
use Rattle.js_spell.specs.Strings.{EndsString, EndsPart, is_elsewhere, TakesQuote}
use Rattle.js_spell.specs.Spells.{Spells, spelt_value}
use Rattle.js_spell.specs.Strings.{escape_here, ordinary_here, PassesCharacters, items_told}
use Rattle.js_spell.specs.declared.ordinary.Literal.{Literal}
use Rattle.js_spell.specs.declared.ordinary.Literal.TheVariants.{DoubleQuoted, SingleQuoted, Template}
use Rattle.js_spell.specs.declared.spelt.Spelt.{Spelt}
use Rattle.js_spell.specs.declared.spelt.SpeltValue.{SpeltValue}
use Rattle.js_spell.specs.declared.spelt.SpeltValue.TheVariants.{Plain}
use Rattle.js_spell.specs.declared.template.PartEnd.TheVariants.{Tail, Substitution, Missing}
use Rattle.js_spell.proofs.NumericSteps.{leads_to}
use Rattle.js_spell.proofs.BreakSteps.{broken_before, broken_later}
use Rattle.js_spell.proofs.ItemSteps.{plain_value_read}

-- the quote that is next
pub double_taken : (old new : At) → Reads old new quotation_mark → TakesQuote old new DoubleQuoted
double_taken old new read = record { string = refl; read = read }

pub single_taken : (old mid new : At) → begins is_quote (rest old) ≡ true
    → begins (λ c. c == quotation_mark) (rest old) ≡ false → mid ≡ old → StepsPast mid new
    → TakesQuote old new SingleQuoted
single_taken old mid new quote other same past =
    let here = single (rest old) quote other in
    let step = past apostrophe (drop 1 (rest old)) (ap rest same ∙ here) in
    record {
      string = refl;
      read =
          record {
            text = step.0 ∙ ap (λ a. a.text) same;
            here = here ∙ ap (λ cs. apostrophe ∷ cs) (sym step.1);
          };
    }
  where
    single : (text : List ℕ) → begins is_quote text ≡ true → begins (λ c. c == quotation_mark) text ≡ false
        → text ≡ apostrophe ∷ drop 1 text
    single [] e f = absurd (cc)
    single (c ∷ cs) e f = ap (λ d. d ∷ cs) (eqb-true c apostrophe (rw f at e))

-- the next character was taken, if there was one
pub next_left : (found : Option ℕ) (old new : At) → IfNone found ((rest old ≡ []) × (new ≡ old))
    → IfSome found (Reads old new) → (new.text ≡ old.text) × (drop 1 (rest old) ≡ rest new)
next_left None old new (none, same) some =
    (ap (λ a. a.text) same, ap (drop 1) none ∙ sym none ∙ ap rest (sym same))
next_left (Some c) old new none some = (some.text, ap (drop 1) some.here)

-- what is reported of items behind a mark of one byte
items_at : (t : Bool) (start : ℕ) (items : List StringItem)
    → item_reports t start (start + 1) items ≡ moved_diagnostics start (item_reports t 0 1 items)
items_at t start items =
    ap (λ n. item_reports t n (start + 1) items) (sym (add-zero start)) ∙ item_reports_moved t start 0 1 items

-- where a value is
told_is_spelt : (b : Bool) (v : StringValue) (kind : Kind) (size : ℕ)
    → told_value b v ≡ spelt_value (quoted_value b v kind size)
told_is_spelt true no_value kind size = refl
told_is_spelt true (units us) kind size = refl
told_is_spelt true bad_value kind size = refl
told_is_spelt false v kind size = refl

-- What was read of items that a mark ends, with this value.
pub record IsClosed (reading : Reading) (t : Bool) (kind : Kind) (items : List StringItem) (v : StringValue)
    : Type 0 where
  pub kind_is : reading.kind ≡ kind
  pub escaped : reading.escaped ≡ contains_escape items
  pub separator : reading.has_separator ≡ false
  pub size : ℕ
  pub value : reading.value ≡ quoted_value (contains_escape items) v kind size
  pub diagnostics : reading.diagnostics ≡ item_reports t 0 1 items

pub closed_spells : (reading : Reading) (t : Bool) (start place : ℕ) (old new : At) (before after : List Diagnostic)
    (was now : TokenParts) (spelt : Spelt) (kind : Kind) (items : List StringItem) (v : StringValue)
    (value : SpeltValue)
    → IsClosed reading t kind items v → new.text ≡ old.text → reading.rest ≡ rest new → place ≡ start + 1
    → value ≡ told_value (contains_escape items) v → is_elsewhere value ≡ contains_escape items
    → after ≡ before ++ item_reports t start place items
    → now ≡ record was { escaped = is_elsewhere value; has_separator = false }
    → spelt ≡ record { kind = kind; value = value }
    → Spells reading start old new before after was now spelt
closed_spells reading t start place old new before after was now spelt kind items v value closed text left at value_is
    elsewhere reported flags parts = record {
      read = record {
        text = text;
        kind_is = closed.kind_is ∙ sym (ap (λ (s : Spelt). s.kind) parts);
        left = left;
        reports = reported ∙ ap (λ p. before ++ item_reports t start p items) at
            ∙ ap (λ ds. before ++ ds) (items_at t start items)
            ∙ ap (λ ds. before ++ moved_diagnostics start ds) (sym closed.diagnostics);
      };
      value = ap (λ (s : Spelt). s.value) parts ∙ value_is ∙ told_is_spelt (contains_escape items) v kind closed.size
          ∙ ap spelt_value (sym closed.value);
      flags = flags
          ∙ ap (λ e. record was { escaped = e; has_separator = false }) (elsewhere ∙ sym closed.escaped)
          ∙ ap (λ s. record was { escaped = reading.escaped; has_separator = s }) (sym closed.separator);
    }

first_and_rest : (cs : List ℕ) → cs ≡ take 1 cs ++ drop 1 cs
first_and_rest [] = refl
first_and_rest (c ∷ cs) = refl

-- what is reported of a token whose mark is missing
open_at : (t : Bool) (start : ℕ) (text : List ℕ) (items : List StringItem) (left : List ℕ)
    → item_reports t start (start + 1) items
    ++ UnterminatedString (stretch start (place_behind (start + 1) (string_text items ++ take 1 left))) ∷ []
    ≡ reported_at start (unterminated t text (record { items = items; rest = left }))
open_at t start text items left =
    let all = string_text items ++ take 1 left in
    let end : place_behind (start + 1) all ≡ start + place_behind 1 all = omega arith in
    ap (λ ds. ds ++ UnterminatedString (stretch start (place_behind (start + 1) all)) ∷ []) (items_at t start items)
    ∙ ap (λ n. moved_diagnostics start (item_reports t 0 1 items) ++ UnterminatedString (stretch start n) ∷ []) end
    ∙ ap (λ n. moved_diagnostics start (item_reports t 0 1 items)
    ++ UnterminatedString (stretch n (start + place_behind 1 all)) ∷ []) (sym (add-zero start))
    ∙ sym
    (map-append (moved_diagnostic start) (item_reports t 0 1 items)
    (UnterminatedString (stretch 0 (place_behind 1 all)) ∷ []))

-- and of items behind which the mark is missing
pub open_spells : (whole : List ℕ) (t : Bool) (start : ℕ) (old mid here new : At)
    (before between after : List Diagnostic) (was now : TokenParts) (spelt : Spelt) (items : List StringItem)
    → mid.text ≡ old.text → here.text ≡ mid.text → mid.place ≡ start + 1
    → rest mid ≡ string_text items ++ rest here
    → between ≡ before ++ item_reports t start mid.place items
    → Unterminated start here new between after
    → now ≡ record was { escaped = false; has_separator = false }
    → spelt ≡ record { kind = Undetermined; value = Plain }
    → Spells (unterminated t whole (record { items = items; rest = rest here })) start old new before after was now
    spelt
open_spells whole t start old mid here new before between after was now spelt items text text_here at is reported
    missing flags parts =
    let all = string_text items ++ take 1 (rest here) in
    let behind : rest mid ≡ all ++ rest new =
    is ∙ ap (λ cs. string_text items ++ cs) (first_and_rest (rest here))
    ∙ sym (append_assoc (string_text items) (take 1 (rest here)) (drop 1 (rest here)))
    ∙ ap (λ cs. all ++ cs) missing.left in
    let end = leads_to mid new all (missing.text ∙ text_here) behind ∙ ap (λ p. place_behind p all) at in
    let reports = item_reports t start (start + 1) items in
    record {
      read = record {
        text = missing.text ∙ text_here ∙ text;
        kind_is = sym (ap (λ (s : Spelt). s.kind) parts);
        left = missing.left;
        reports =
            missing.reports
            ∙ ap (λ ds. ds ++ (UnterminatedString (stretch start new.place) ∷ []))
            (reported ∙ ap (λ p. before ++ item_reports t start p items) at)
            ∙ append_assoc before reports (UnterminatedString (stretch start new.place) ∷ [])
            ∙ ap (λ p. before ++ (reports ++ (UnterminatedString (stretch start p) ∷ []))) end
            ∙ ap (λ ds. before ++ ds) (open_at t start whole items (rest here));
      };
      value = ap (λ (s : Spelt). s.value) parts;
      flags = flags;
    }

units_elsewhere : (b : Bool) (us : List ℕ) → is_elsewhere (told_value b (units us)) ≡ b
units_elsewhere true us = refl
units_elsewhere false us = refl

bad_elsewhere : (b : Bool) → is_elsewhere (told_value b bad_value) ≡ b
bad_elsewhere true = refl
bad_elsewhere false = refl

template_elsewhere : (b : Bool) (items : List StringItem) → is_elsewhere (told_value b (template_value items)) ≡ b
template_elsewhere b items =
    elim (true_or_false (contains_bad_escape items)) [
      | inl bad ↦
          ap (λ v. is_elsewhere (told_value b v)) (template_value_bad items bad) ∙ bad_elsewhere b
      | inr good ↦
          ap (λ v. is_elsewhere (told_value b v)) (template_value_good items good)
          ∙ units_elsewhere b (string_units items)
    ]

value_elsewhere : (literal : Literal) (items : List StringItem) (value : SpeltValue)
    → value ≡ told_value (contains_escape items) (value_of literal items) → is_elsewhere value ≡ contains_escape items
value_elsewhere DoubleQuoted items value e =
    ap is_elsewhere e ∙ units_elsewhere (contains_escape items) (string_units items)
value_elsewhere SingleQuoted items value e =
    ap is_elsewhere e ∙ units_elsewhere (contains_escape items) (string_units items)
value_elsewhere Template items value e = ap is_elsewhere e ∙ template_elsewhere (contains_escape items) items

-- strings are those between their quotes
items_of_string : (literal : Literal) (text : List ℕ) → in_template literal ≡ false
    → all_items (item_of literal) text ≡ string_items (quote_of literal) text
items_of_string DoubleQuoted text e = refl
items_of_string SingleQuoted text e = refl
items_of_string Template text e = absurd (cc)

value_of_string : (literal : Literal) (items : List StringItem) → in_template literal ≡ false
    → value_of literal items ≡ units (string_units items)
value_of_string DoubleQuoted items e = refl
value_of_string SingleQuoted items e = refl
value_of_string Template items e = absurd (cc)

behind_quote : (literal : Literal) (place : ℕ) → place_behind place (quote_of literal ∷ []) ≡ place + 1
unfolding encode_utf8
behind_quote DoubleQuoted place = refl
behind_quote SingleQuoted place = refl
behind_quote Template place = refl

-- the place behind the quote
pub place_of_items : (start : ℕ) (old mid : At) (literal : Literal) → start ≡ old.place
    → TakesQuote old mid literal → mid.place ≡ start + 1
place_of_items start old mid literal e quote =
    leads_to old mid (quote_of literal ∷ []) quote.read.text quote.read.here ∙ behind_quote literal old.place
    ∙ ap (λ p. p + 1) (sym e)

-- What is reported of a string begins with what is reported of its items.
reports_of_string : (quote start : ℕ) (text : List ℕ) (found : StringItems)
    → (later : List Diagnostic)
    × (reported_at start (string_of_items quote text found)
    ≡ item_reports false start (start + 1) found.items ++ later)
reports_of_string quote start text found =
    let items = item_reports false start (start + 1) found.items in
    let end = place_behind (start + 1) (string_text found.items ++ take 1 found.rest) in
    elim (true_or_false (begins (λ c. c == quote) found.rest)) [
      | inl is ↦ (
        [],
        ap (reported_at start) (string_terminated quote text found is) ∙ sym (items_at false start found.items)
            ∙ sym (append-nil items),
      )
      | inr none ↦ (
        UnterminatedString (stretch start end) ∷ [],
        ap (reported_at start) (string_unterminated quote text found none)
            ∙ sym (open_at false start text found.items found.rest),
      )
    ]

-- a string that the text begins with
quoted_string : (text behind : List ℕ) (literal : Literal) → in_template literal ≡ false
    → text ≡ quote_of literal ∷ behind → quoted_reading text ≡ string_reading (quote_of literal) behind
quoted_string text behind DoubleQuoted string e = ap quoted_reading e
quoted_string text behind SingleQuoted string e = ap quoted_reading e
quoted_string text behind Template string e = absurd (cc)

-- The items of a string broke off, behind its quote.
pub string_broken : (start : ℕ) (old mid new : At) (before after : List Diagnostic) (literal : Literal)
    → start ≡ old.place → TakesQuote old mid literal
    → BreaksOff (items_told literal start mid) mid new before after
    → BreaksOff (reported_at start (quoted_reading (rest old))) old new before after
string_broken start old mid new before after literal e taken broken =
    let q = quote_of literal in
    let all = all_items (item_of literal) (rest mid) in
    let found = reports_of_string q start (q ∷ rest mid) (string_items q (rest mid)) in
    let at = place_of_items start old mid literal e taken in
    let told : reported_at start (quoted_reading (rest old)) ≡ items_told literal start mid ++ found.0 =
    ap (reported_at start) (quoted_string (rest old) (rest mid) literal taken.string taken.read.here) ∙ found.1
    ∙ ap (λ (xs : StringItems). item_reports false start (start + 1) xs.items ++ found.0)
    (sym (items_of_string literal (rest mid) taken.string))
    ∙ ap (λ t. item_reports t start (start + 1) all.items ++ found.0) (sym taken.string)
    ∙ ap (λ p. item_reports (in_template literal) start p all.items ++ found.0) (sym at) in
    broken_before (reported_at start (quoted_reading (rest old))) (items_told literal start mid) found.0 old new before
    after told
    (broken_later (items_told literal start mid) old mid new before after taken.read.text
    (omega (arith, at, e)) broken)

pub string_closed : (start : ℕ) (old mid here new : At) (before between after : List Diagnostic)
    (was now : TokenParts) (spelt : Spelt) (literal : Literal) (value : SpeltValue) (quote : ℕ)
    → start ≡ old.place → TakesQuote old mid literal
    → ReadsValue literal start mid here before between value → quote ≡ quote_of literal
    → EndsString quote start here new between after true
    → now ≡ record was { escaped = is_elsewhere value; has_separator = false }
    → spelt ≡ record { kind = Str; value = value }
    → Spells (quoted_reading (rest old)) start old new before after was now spelt
string_closed start old mid here new before between after was now spelt literal value quote e taken read is_quote
    (end, same) flags parts =
    let q = quote_of literal in
    let text = q ∷ rest mid in
    let closing : rest here ≡ q ∷ rest new = end.here ∙ ap (λ c. c ∷ rest new) is_quote in
    let found : string_items q (rest mid) ≡ record { items = read.items; rest = rest here } =
    sym (items_of_string literal (rest mid) taken.string) ∙ read.found in
    let whole : quoted_reading (rest old)
    ≡ terminated_string text (record { items = read.items; rest = rest here }) =
    quoted_string (rest old) (rest mid) literal taken.string taken.read.here
    ∙ ap (string_of_items q text) found
    ∙ string_terminated q text (record { items = read.items; rest = rest here })
    (ap (begins (λ c. c == q)) closing ∙ eq-eqb q q refl) in
    let value_is : value ≡ told_value (contains_escape read.items) (units (string_units read.items)) =
    read.value_is ∙ ap (told_value (contains_escape read.items)) (value_of_string literal read.items taken.string) in
    let reading = terminated_string text (record { items = read.items; rest = rest here }) in
    rw whole
    (closed_spells reading false start mid.place old new before after was now spelt Str
    read.items (units (string_units read.items)) value
    (record {
      kind_is = refl;
      escaped = refl;
      separator = refl;
      size = size_of reading;
      value = refl;
      diagnostics = refl;
    })
    (end.text ∙ read.text ∙ taken.read.text) (ap (drop 1) closing)
    (place_of_items start old mid literal e taken) value_is (value_elsewhere literal read.items value read.value_is)
    (same ∙ read.reports ∙ ap (λ t. before ++ item_reports t start mid.place read.items) taken.string)
    flags parts)

pub string_open : (start : ℕ) (old mid here new : At) (before between after : List Diagnostic)
    (was now : TokenParts) (spelt : Spelt) (literal : Literal) (value : SpeltValue) (quote : ℕ)
    → start ≡ old.place → TakesQuote old mid literal
    → ReadsValue literal start mid here before between value → quote ≡ quote_of literal
    → EndsString quote start here new between after false
    → now ≡ record was { escaped = false; has_separator = false }
    → spelt ≡ record { kind = Undetermined; value = Plain }
    → Spells (quoted_reading (rest old)) start old new before after was now spelt
string_open start old mid here new before between after was now spelt literal value quote e taken read is_quote
    (none, missing) flags parts =
    let q = quote_of literal in
    let text = q ∷ rest mid in
    let found : string_items q (rest mid) ≡ record { items = read.items; rest = rest here } =
    sym (items_of_string literal (rest mid) taken.string) ∙ read.found in
    let whole : quoted_reading (rest old)
    ≡ unterminated false text (record { items = read.items; rest = rest here }) =
    quoted_string (rest old) (rest mid) literal taken.string taken.read.here
    ∙ ap (string_of_items q text) found
    ∙ string_unterminated q text (record { items = read.items; rest = rest here })
    (ap (λ d. begins (λ c. c == d) (rest here)) (sym is_quote) ∙ none) in
    rw whole (open_spells text false start old mid here new before between after was now spelt read.items
    taken.read.text read.text (place_of_items start old mid literal e taken) read.here
    (read.reports ∙ ap (λ t. before ++ item_reports t start mid.place read.items) taken.string)
    missing flags parts)

-- What is reported of a part of a template begins with what is reported of its items.
reports_of_part : (substitute tail : Kind) (start : ℕ) (text : List ℕ) (found : StringItems)
    → (later : List Diagnostic)
    × (reported_at start (part_of_items substitute tail text found)
    ≡ item_reports true start (start + 1) found.items ++ later)
reports_of_part substitute tail start text found =
    let items = item_reports true start (start + 1) found.items in
    let end = place_behind (start + 1) (string_text found.items ++ take 1 found.rest) in
    let all = sym (items_at true start found.items) ∙ sym (append-nil items) in
    elim (true_or_false (begins (λ c. c == grave_accent) found.rest)) [
      | inl is ↦ ([], ap (reported_at start) (part_with_tail substitute tail text found is) ∙ all)
      | inr none ↦ (
          elim (true_or_false (is_prefix (codes "${") found.rest)) [
            | inl is ↦
                ([], ap (reported_at start) (part_with_substitution substitute tail text found none is) ∙ all)
            | inr not_begun ↦ (
              UnterminatedString (stretch start end) ∷ [],
              ap (reported_at start) (part_unterminated substitute tail text found none not_begun)
                  ∙ sym (open_at true start text found.items found.rest),
            )
          ])
    ]

-- The items of a part of a template broke off.
pub part_broken : (substitute tail : Kind) (opening start : ℕ) (old new : At) (before after : List Diagnostic)
    → start + 1 ≡ old.place → BreaksOff (items_told Template start old) old new before after
    → BreaksOff (reported_at start (template_part_reading substitute tail (opening ∷ rest old))) old new before after
part_broken substitute tail opening start old new before after e broken =
    let all = template_items (rest old) in
    let found = reports_of_part substitute tail start (opening ∷ rest old) all in
    broken_before (reported_at start (template_part_reading substitute tail (opening ∷ rest old)))
    (items_told Template start old) found.0 old new before after
    (found.1 ∙ ap (λ p. item_reports true start p all.items ++ found.0) e) broken

-- a part of a template
pub part_closed : (substitute tail : Kind) (opening start : ℕ) (old here new : At)
    (before between after : List Diagnostic) (was now : TokenParts) (spelt : Spelt) (value : SpeltValue)
    → start + 1 ≡ old.place → ReadsValue Template start old here before between value
    → EndsPart start here new between after Tail
    → now ≡ record was { escaped = is_elsewhere value; has_separator = false }
    → spelt ≡ record { kind = tail; value = value }
    → Spells (template_part_reading substitute tail (opening ∷ rest old)) start old new before after was now spelt
part_closed substitute tail opening start old here new before between after was now spelt value e read (end, same)
    flags parts =
    let text = opening ∷ rest old in
    let items : StringItems = record { items = read.items; rest = rest here } in
    let whole = ap (part_of_items substitute tail text) read.found
    ∙ part_with_tail substitute tail text items (ap (begins (λ c. c == grave_accent)) end.here) in
    let reading = terminated_part tail text items (drop 1 (rest here)) in
    rw whole
    (closed_spells reading true start old.place old new before after was now spelt tail read.items
    (template_value read.items) value
    (record {
      kind_is = refl;
      escaped = refl;
      separator = refl;
      size = size_of reading;
      value = refl;
      diagnostics = refl;
    })
    (end.text ∙ read.text) (ap (drop 1) end.here) (sym e) read.value_is
    (value_elsewhere Template read.items value read.value_is) (same ∙ read.reports) flags parts)

pub part_substituted : (substitute tail : Kind) (opening start : ℕ) (old here new : At)
    (before between after : List Diagnostic) (was now : TokenParts) (spelt : Spelt) (value : SpeltValue)
    → start + 1 ≡ old.place → ReadsValue Template start old here before between value
    → EndsPart start here new between after Substitution
    → now ≡ record was { escaped = is_elsewhere value; has_separator = false }
    → spelt ≡ record { kind = substitute; value = value }
    → Spells (template_part_reading substitute tail (opening ∷ rest old)) start old new before after was now spelt
part_substituted substitute tail opening start old here new before between after was now spelt value e read
    (none, begun, text_is, left, same) flags parts =
    let text = opening ∷ rest old in
    let items : StringItems = record { items = read.items; rest = rest here } in
    let whole = ap (part_of_items substitute tail text) read.found
    ∙ part_with_substitution substitute tail text items none begun in
    let reading = terminated_part substitute text items (drop 2 (rest here)) in
    rw whole
    (closed_spells reading true start old.place old new before after was now spelt substitute read.items
    (template_value read.items) value
    (record {
      kind_is = refl;
      escaped = refl;
      separator = refl;
      size = size_of reading;
      value = refl;
      diagnostics = refl;
    })
    (text_is ∙ read.text) left (sym e) read.value_is
    (value_elsewhere Template read.items value read.value_is) (same ∙ read.reports) flags parts)

pub part_open : (substitute tail : Kind) (opening start : ℕ) (old here new : At)
    (before between after : List Diagnostic) (was now : TokenParts) (spelt : Spelt) (value : SpeltValue)
    → start + 1 ≡ old.place → ReadsValue Template start old here before between value
    → EndsPart start here new between after Missing
    → now ≡ record was { escaped = false; has_separator = false }
    → spelt ≡ record { kind = Undetermined; value = Plain }
    → Spells (template_part_reading substitute tail (opening ∷ rest old)) start old new before after was now spelt
part_open substitute tail opening start old here new before between after was now spelt value e read
    (none, not_begun, missing) flags parts =
    let text = opening ∷ rest old in
    let items : StringItems = record { items = read.items; rest = rest here } in
    let whole = ap (part_of_items substitute tail text) read.found
    ∙ part_unterminated substitute tail text items none not_begun in
    rw whole (open_spells text true start old old here new before between after was now spelt read.items refl read.text
    (sym e) read.here read.reports missing flags parts)

-- `${` was taken
pub substitution_left : (text : List ℕ) → is_prefix (codes "${") text ≡ true → 2 ≤ length text
substitution_left [] e = absurd (cc)
substitution_left (c ∷ []) e = absurd (let none = and_none (c == 36) in let is : false ≡ true = sym none ∙ e in cc)
  where
    and_none : (a : Bool) → (a && false) ≡ false
    and_none true = refl
    and_none false = refl
substitution_left (c ∷ d ∷ cs) e = omega arith

-- A string without an escape that its quote ends.
quote_is_no_escape : (literal : Literal) (cs : List ℕ) → escape_here literal (quote_of literal ∷ cs) ≡ false
quote_is_no_escape DoubleQuoted cs = refl
quote_is_no_escape SingleQuoted cs = refl
quote_is_no_escape Template cs = refl

pub unescaped_string : (quote b : ℕ) (old mid here new : At) (errors : List Diagnostic) (token : TokenParts)
    (literal : Literal) → in_template literal ≡ false
    → quote_of literal ≡ quote → Reads old mid quote → PassesCharacters literal mid here
    → ordinary_here literal (rest here) ≡ false → b ≡ quote → Reads here new b
    → Spells (quoted_reading (rest old)) old.place old new errors errors token
    (record token { escaped = false; has_separator = false }) (record { kind = Str; value = Plain })
unescaped_string quote b old mid here new errors token literal string is taken passes all same closing =
    let end : Reads here new quote = subst (λ q. Reads here new q) same closing in
    let none : escape_here literal (rest here) ≡ false =
    ap (escape_here literal) (end.here ∙ ap (λ q. q ∷ rest new) (sym is)) ∙ quote_is_no_escape literal (rest new) in
    string_closed old.place old mid here new errors errors errors token
    (record token { escaped = false; has_separator = false })
    (record { kind = Str; value = Plain }) literal Plain quote
    refl (record { string = string; read = subst (λ q. Reads old mid q) (sym is) taken })
    (plain_value_read literal old.place mid here errors passes all none) (sym is) (end, refl) refl refl

-- A part of a template without an escape and without a CR that its mark ends.
pub plain_tail : (substitute tail : Kind) (b opening start : ℕ) (old here new : At) (errors : List Diagnostic)
    (token : TokenParts) → start + 1 ≡ old.place → PassesCharacters Template old here
    → ordinary_here Template (rest here) ≡ false
    → b ≡ grave_accent → Reads here new b
    → Spells (template_part_reading substitute tail (opening ∷ rest old)) start old new errors errors token
    (record token { escaped = false; has_separator = false }) (record { kind = tail; value = Plain })
plain_tail substitute tail b opening start old here new errors token at passes all same closing =
    let end : Reads here new grave_accent = subst (λ q. Reads here new q) same closing in
    let none : escape_here Template (rest here) ≡ false = ap (escape_here Template) end.here in
    part_closed substitute tail opening start old here new errors errors errors token
    (record token { escaped = false; has_separator = false }) (record { kind = tail; value = Plain }) Plain at
    (plain_value_read Template start old here errors passes all none) (end, refl) refl refl

-- what is next where `${` is
begins_mark : (text : List ℕ) → is_prefix (codes "${") text ≡ true
    → (begins (λ c. c == grave_accent) text ≡ false) × (escape_here Template text ≡ false)
begins_mark [] e = absurd (cc)
begins_mark (c ∷ cs) e =
    let is : c ≡ dollar_sign = eqb-true c dollar_sign (and_true (c == dollar_sign) (is_prefix (codes "{") cs) e).0 in
    (ap (λ d. d == grave_accent) is, ap (λ d. escape_here Template (d ∷ cs)) is)

two_left : (found : Option (List ℕ)) (old new : At) → is_prefix (codes "${") (rest old) ≡ true
    → IfNone found ((length (rest old) < 2) × (new ≡ old))
    → IfSome found (λ pair. ReadsTwo old new (slice_index pair 0) (slice_index pair 1))
    → (new.text ≡ old.text) × (drop 2 (rest old) ≡ rest new)
two_left None old new begun (few, same) some =
    let enough = substitution_left (rest old) begun in absurd (omega (arith, few, enough))
two_left (Some pair) old new begun none read = (read.text, ap (drop 2) read.here)

pub plain_substitution : (substitute tail : Kind) (opening start : ℕ) (found : Option (List ℕ)) (old here new : At)
    (errors : List Diagnostic) (token : TokenParts) → start + 1 ≡ old.place → PassesCharacters Template old here
    → ordinary_here Template (rest here) ≡ false → is_prefix (codes "${") (rest here) ≡ true
    → IfNone found ((length (rest here) < 2) × (new ≡ here))
    → IfSome found (λ pair. ReadsTwo here new (slice_index pair 0) (slice_index pair 1))
    → Spells (template_part_reading substitute tail (opening ∷ rest old)) start old new errors errors token
    (record token { escaped = false; has_separator = false }) (record { kind = substitute; value = Plain })
plain_substitution substitute tail opening start found old here new errors token at passes all begun none some =
    let first = begins_mark (rest here) begun in
    let left = two_left found here new begun none some in
    part_substituted substitute tail opening start old here new errors errors errors token
    (record token { escaped = false; has_separator = false })
    (record { kind = substitute; value = Plain }) Plain at
    (plain_value_read Template start old here errors passes all first.1)
    (first.0, begun, left.0, left.1, refl) refl refl
