-- What begins a string or a template begins nothing else, and when one is escaped.
use Rattle.std.proofs.Common.{◌≡◌, ℕ, zero, suc, ◌<◌, Bool, true, false, ◌||◌, ◌==◌, List, [], ◌∷◌, ◌++◌}
use Rattle.std.proofs.Common.{length}
use Rattle.std.proofs.Common.{refl, sym, ◌∙◌, ap, arith, subst, Option, Some, None, inl, inr}
use Rattle.std.specs.List.{list_any}
use Rattle.std.proofs.lemmas.Bool.{eqb-true}
use Rattle.std.proofs.lemmas.List.{append-nil}
use Rattle.std.proofs.lemmas.List.Concat.{flat_map-append}
use Rattle.std.proofs.lemmas.List.Folds.{list_any-append}
use Rattle.std.specs.Char.Escape.{encode_utf16}
use Rattle.js_text.specs.JsStr.{units_of}
use Rattle.js_grammar.specs.StringItems.{StringItems, string_units, IsString}
use Rattle.unicode_ident.proofs.Computing.{unicode_ident}
use Rattle.js_text.specs.Ascii.{quotation_mark, apostrophe, grave_accent, backslash, carriage_return, line_feed}
use Rattle.js_text.specs.Characters.{begins, is_identifier_start}
use Rattle.js_text.specs.declared.source_type.SourceType.{SourceType}
use Rattle.js_kind.specs.Digits.{is_digit_of}
use Rattle.js_grammar.specs.Number.{begins_number}
use Rattle.js_grammar.specs.Punctuators.{NoPunctuator}
use Rattle.js_grammar.specs.StringItems.{StringItem, is_quote, ends_string, ordinary_item, escape, string_item}
use Rattle.js_grammar.specs.StringItems.{items_up_to}
use Rattle.js_grammar.specs.StringItems.{string_items, string_text, contains_escape}
use Rattle.js_grammar.specs.Template.{template_item, template_items, ends_part, carriage_return_item}
use Rattle.js_grammar.specs.Gap.{is_prefix}
use Rattle.js_grammar.specs.Quoted.{begins_quoted, is_backslash, is_backslash_or_return}
use Rattle.js_grammar.specs.Spelling.{begins_named}
use Rattle.js_grammar.specs.Template.{IsTemplatePart, IsPart, template_part_reading}
use Rattle.js_grammar.specs.Template.IsTemplatePart.{no_substitution, head}
use Rattle.js_kind.specs.declared.kind.Kind.{Kind}
use Rattle.std.specs.Prelude.{codes}
use Rattle.std.proofs.lemmas.Bool.{or_right}
use Rattle.js_grammar.proofs.StringLaws.{string_here}
use Rattle.js_grammar.proofs.TemplateLaws.{part_here, BeginsWithTemplate, good_part, tail_is_read}
use Rattle.js_grammar.proofs.TemplateLaws.{substitution_is_read}
use Rattle.js_kind.specs.declared.kind.Kind.TheVariants.{NoSubstitutionTemplate, TemplateHead}
use Rattle.js_grammar.proofs.EscapeCases.{escape_is_one}
use Rattle.js_grammar.proofs.NumberItems.{true_or_false}
use Rattle.js_grammar.proofs.LongestPunctuators.{none}
use Rattle.js_grammar.proofs.StringSteps.{none_or_some, some_is, string_plain, string_ends, template_plain}
use Rattle.js_grammar.proofs.StringSteps.{template_ends}
use Rattle.js_grammar.proofs.StringSteps.{carriage_return_two, carriage_return_one}

-- one of the three
one_of_three : (P : ℕ → Type 0) → P quotation_mark → P apostrophe → P grave_accent → (c : ℕ)
    → begins_quoted c ≡ true → P c
one_of_three P double single grave c e =
    elim (true_or_false (c == quotation_mark)) [
      | inl is ↦ subst P (sym (eqb-true c quotation_mark is)) double
      | inr other ↦
          elim (true_or_false (c == apostrophe)) [
            | inl is ↦ subst P (sym (eqb-true c apostrophe is)) single
            | inr third ↦ subst P (sym (eqb-true c grave_accent (rw (other, third) at e))) grave
          ]
    ]

-- where a string or a template begins, no name and no private name does
pub quoted_begins_no_named : (text : List ℕ) → begins begins_quoted text ≡ true → begins begins_named text ≡ false
unfolding is_identifier_start unicode_ident
quoted_begins_no_named [] e = absurd (cc)
quoted_begins_no_named (c ∷ cs) e = one_of_three (λ d. begins_named d ≡ false) refl refl refl c e

-- no number
pub quoted_begins_no_number : (text : List ℕ) → begins begins_quoted text ≡ true → begins_number text ≡ false
unfolding is_digit_of
quoted_begins_no_number [] e = absurd (cc)
quoted_begins_no_number (c ∷ cs) e = one_of_three (λ d. begins_number (d ∷ cs) ≡ false) refl refl refl c e

-- no punctuator
pub quoted_begins_no_punctuator : (t : SourceType) (line_has_ended : Bool) (text : List ℕ)
    → begins begins_quoted text ≡ true → NoPunctuator t line_has_ended text
quoted_begins_no_punctuator t line_has_ended [] e = absurd (cc)
quoted_begins_no_punctuator t line_has_ended (c ∷ cs) e =
    one_of_three (λ d. NoPunctuator t line_has_ended (d ∷ cs)) (none t line_has_ended quotation_mark cs refl)
    (none t line_has_ended apostrophe cs refl) (none t line_has_ended grave_accent cs refl) c e

-- and no comment
pub quoted_begins_no_comment : (text : List ℕ) → begins begins_quoted text ≡ true
    → is_prefix (codes "/*") text ≡ false
quoted_begins_no_comment [] e = absurd (cc)
quoted_begins_no_comment (c ∷ cs) e =
    one_of_three (λ d. is_prefix (codes "/*") (d ∷ cs) ≡ false) refl refl refl c e

-- a string begins with a quote, whatever follows
pub string_is_quoted : (xs ys : List ℕ) → IsString xs ys → begins is_quote (xs ++ ys) ≡ true
string_is_quoted xs ys string = ap (begins is_quote) (string_here xs ys string) ∙ string.is_quote

pub quote_is_quoted : (text : List ℕ) → begins is_quote text ≡ true → begins begins_quoted text ≡ true
quote_is_quoted [] e = e
quote_is_quoted (c ∷ cs) e = ap (λ b. b || (c == grave_accent)) e

grave_is_quoted : (text : List ℕ) → begins (λ c. c == grave_accent) text ≡ true → begins begins_quoted text ≡ true
grave_is_quoted [] e = e
grave_is_quoted (c ∷ cs) e = or_right (is_quote c) (c == grave_accent) e

pub string_begins_quoted : (xs ys : List ℕ) → IsString xs ys → begins begins_quoted (xs ++ ys) ≡ true
string_begins_quoted xs ys string = quote_is_quoted (xs ++ ys) (string_is_quoted xs ys string)

-- a template begins with a backquote, whatever follows
pub template_is_quoted : (xs ys : List ℕ) (kind : Kind) → IsTemplatePart xs ys kind
    → begins (λ c. c == grave_accent) (xs ++ ys) ≡ true
template_is_quoted xs ys kind (no_substitution part e) =
    ap (begins (λ c. c == grave_accent)) (part_here grave_accent (codes "`") xs ys part)
template_is_quoted xs ys kind (head part e) =
    ap (begins (λ c. c == grave_accent)) (part_here grave_accent (codes "${") xs ys part)

pub template_begins_quoted : (xs ys : List ℕ) (kind : Kind) → IsTemplatePart xs ys kind
    → begins begins_quoted (xs ++ ys) ≡ true
template_begins_quoted xs ys kind part = grave_is_quoted (xs ++ ys) (template_is_quoted xs ys kind part)

-- a quote is no backquote
quote_is_no_backquote : (c : ℕ) → is_quote c ≡ true → (c == grave_accent) ≡ false
quote_is_no_backquote c e =
    elim (true_or_false (c == quotation_mark)) [
      | inl is ↦ ap (λ d. d == grave_accent) (eqb-true c quotation_mark is)
      | inr other ↦ ap (λ d. d == grave_accent) (eqb-true c apostrophe (rw other at e))
    ]

pub quote_begins_no_template : (text : List ℕ) → begins is_quote text ≡ true
    → begins (λ c. c == grave_accent) text ≡ false
quote_begins_no_template [] e = absurd (cc)
quote_begins_no_template (c ∷ cs) e = quote_is_no_backquote c e

-- a text that begins with a character that passes
passes_first : (p : ℕ → Bool) (b : ℕ) (cs xs ys : List ℕ) → b ∷ cs ≡ xs ++ ys → 0 < length xs → p b ≡ true
    → list_any p xs ≡ true
passes_first p b cs [] ys e h is = absurd (omega arith)
passes_first p b cs (x ∷ xs) ys e h is =
    ap (λ d. p d || list_any p xs) (sym first) ∙ ap (λ a. a || list_any p xs) is
  where
    head_or : ℕ → List ℕ → ℕ
    head_or d [] = d
    head_or d (z ∷ zs) = z

    first : b ≡ x
    first = ap (head_or 0) e

-- the items that a step finds are escaped exactly where a character that passes is in them
abbrev pub IsEscapedBy : (ℕ → Bool) → (List ℕ → Option StringItem) → Type 0
IsEscapedBy p step =
    (text : List ℕ) (item : StringItem) → step text ≡ Some item → item.is_escaped ≡ list_any p item.text

found_as : (P : StringItem → Type 0) (found item : StringItem) (at : Option StringItem) → P found → at ≡ Some found
    → at ≡ Some item → P item
found_as P found item at holds e is = subst P (some_is found item (sym e ∙ is)) holds

not_found : {A : Type 0} (at : Option StringItem) (item : StringItem) → at ≡ None → at ≡ Some item → A
not_found at item e is = absurd (let none : None ≡ Some item = sym e ∙ is in cc)

escape_by : (p : ℕ → Bool) → p backslash ≡ true → (t : Bool) (cs : List ℕ)
    → (escape t cs).is_escaped ≡ list_any p (escape t cs).text
escape_by p is t cs =
    let one = escape_is_one t cs in
    one.escaped
    ∙ sym (passes_first p backslash cs (escape t cs).text (escape t cs).rest one.head.here one.head.some is)

string_escaped_by : (quote : ℕ) → IsEscapedBy is_backslash (string_item quote)
string_escaped_by quote [] item e = absurd (cc)
string_escaped_by quote (c ∷ cs) item e =
    elim (true_or_false (c == backslash)) [
      | inl is ↦ (
          let at : string_item quote (backslash ∷ cs) ≡ Some item =
          ap (λ d. string_item quote (d ∷ cs)) (sym (eqb-true c backslash is)) ∙ e in
          found_as (λ i. i.is_escaped ≡ list_any is_backslash i.text) (escape false cs) item _
          (escape_by is_backslash refl false cs) refl at)
      | inr other ↦
          elim (true_or_false (ends_string quote c)) [
            | inl ends ↦ not_found _ item (string_ends quote c cs other ends) e
            | inr on ↦
                found_as (λ i. i.is_escaped ≡ list_any is_backslash i.text) (ordinary_item c cs) item _
                (ap (λ b. b || false) (sym other)) (string_plain quote c cs other on) e
          ]
    ]

line_end_by : (cs : List ℕ)
    → (carriage_return_item cs).is_escaped ≡ list_any is_backslash_or_return (carriage_return_item cs).text
line_end_by cs =
    elim (true_or_false (begins (λ d. d == line_feed) cs))
    [ inl two ↦ rw (carriage_return_two cs two) refl | inr one ↦ rw (carriage_return_one cs one) refl ]

template_escaped_by : IsEscapedBy is_backslash_or_return template_item
template_escaped_by [] item e = absurd (cc)
template_escaped_by (c ∷ cs) item e =
    elim (true_or_false (c == backslash)) [
      | inl is ↦ (
          let at : template_item (backslash ∷ cs) ≡ Some item =
          ap (λ d. template_item (d ∷ cs)) (sym (eqb-true c backslash is)) ∙ e in
          found_as (λ i. i.is_escaped ≡ list_any is_backslash_or_return i.text) (escape true cs) item _
          (escape_by is_backslash_or_return refl true cs) refl at)
      | inr other ↦
          elim (true_or_false (ends_part (c ∷ cs))) [
            | inl ends ↦ not_found _ item (template_ends c cs other ends) e
            | inr on ↦
                elim (true_or_false (c == carriage_return)) [
                  | inl is ↦ (
                      let at : template_item (carriage_return ∷ cs) ≡ Some item =
                      ap (λ d. template_item (d ∷ cs)) (sym (eqb-true c carriage_return is)) ∙ e in
                      found_as (λ i. i.is_escaped ≡ list_any is_backslash_or_return i.text)
                      (carriage_return_item cs) item _ (line_end_by cs) refl at)
                  | inr cr ↦
                      found_as (λ i. i.is_escaped ≡ list_any is_backslash_or_return i.text) (ordinary_item c cs) item _
                      (sym
                      (ap (λ b. (b || (c == carriage_return)) || false) other ∙ ap (λ b. b || false) cr))
                      (template_plain c cs other on cr) e
                ]
          ]
    ]

escaped_by : (p : ℕ → Bool) (step : List ℕ → Option StringItem) → IsEscapedBy p step → (most : ℕ) (text : List ℕ)
    → contains_escape (items_up_to step most text).items ≡ list_any p (string_text (items_up_to step most text).items)
escaped_by p step by zero text = refl
escaped_by p step by (suc most) text =
    elim (none_or_some (step text)) [
      | inl e ↦ rw e refl
      | inr (item, e) ↦ (
          let more = items_up_to step most item.rest in
          rw e
          (ap (λ b. b || contains_escape more.items) (by text item e)
          ∙ ap (λ b. list_any p item.text || b) (escaped_by p step by most item.rest)
          ∙ sym (list_any-append p item.text (string_text more.items))))
    ]

-- A string is escaped exactly where a `\` is in its items.
pub string_escaped : (quote : ℕ) (text : List ℕ)
    → contains_escape (string_items quote text).items
    ≡ list_any is_backslash (string_text (string_items quote text).items)
string_escaped quote text = escaped_by is_backslash (string_item quote) (string_escaped_by quote) (length text) text

-- A part of a template is escaped exactly where a `\` or a CR is in its items.
pub template_escaped : (text : List ℕ)
    → contains_escape (template_items text).items
    ≡ list_any is_backslash_or_return (string_text (template_items text).items)
template_escaped text = escaped_by is_backslash_or_return template_item template_escaped_by (length text) text

or_false : (b : Bool) → (b || false) ≡ b
or_false true = refl
or_false false = refl

-- A string is escaped exactly where a `\` is among its characters.
pub string_is_escaped : (xs ys : List ℕ) (string : IsString xs ys)
    → contains_escape string.items ≡ list_any is_backslash xs
string_is_escaped xs ys string =
    let text = string_text string.items in
    let behind = text ++ (string.quote ∷ ys) in
    let quote : is_backslash string.quote ≡ false = quote_is_no_backslash string.quote string.is_quote in
    let inner : contains_escape string.items ≡ list_any is_backslash text =
    ap (λ (found : StringItems). contains_escape found.items) (sym string.found)
    ∙ string_escaped string.quote behind
    ∙ ap (λ (found : StringItems). list_any is_backslash (string_text found.items)) string.found in
    inner
    ∙ sym
    (ap (list_any is_backslash) string.here
    ∙ ap (λ b. b || list_any is_backslash (text ++ (string.quote ∷ []))) quote
    ∙ list_any-append is_backslash text (string.quote ∷ [])
    ∙ ap (λ b. list_any is_backslash text || (b || false)) quote ∙ or_false (list_any is_backslash text))
  where
    quote_is_no_backslash : (c : ℕ) → is_quote c ≡ true → is_backslash c ≡ false
    quote_is_no_backslash c e =
        elim (true_or_false (c == quotation_mark)) [
          | inl is ↦ ap is_backslash (eqb-true c quotation_mark is)
          | inr other ↦ ap is_backslash (eqb-true c apostrophe (rw other at e))
        ]

-- A part of a template is escaped exactly where a `\` or a CR is among its characters.
part_is_escaped : (closing xs ys : List ℕ) (part : IsPart grave_accent closing xs ys)
    → list_any is_backslash_or_return closing ≡ false
    → contains_escape part.items ≡ list_any is_backslash_or_return xs
part_is_escaped closing xs ys part none =
    let text = string_text part.items in
    let inner : contains_escape part.items ≡ list_any is_backslash_or_return text =
    ap (λ (found : StringItems). contains_escape found.items) (sym part.found)
    ∙ template_escaped (text ++ (closing ++ ys))
    ∙ ap (λ (found : StringItems). list_any is_backslash_or_return (string_text found.items)) part.found in
    inner
    ∙ sym
    (ap (list_any is_backslash_or_return) part.here ∙ list_any-append is_backslash_or_return text closing
    ∙ ap (λ b. list_any is_backslash_or_return text || b) none ∙ or_false (list_any is_backslash_or_return text))

-- What is read where a template begins is that template, or its first part, and nothing is reported.
pub record ReadsTemplate (text xs ys : List ℕ) (kind : Kind) : Type 0 where
  pub items : List StringItem
  pub read : template_part_reading TemplateHead NoSubstitutionTemplate (grave_accent ∷ text)
      ≡ good_part kind xs items ys
  pub escaped : contains_escape items ≡ list_any is_backslash_or_return xs

pub template_read_as : (text xs ys : List ℕ) (kind : Kind)
    → BeginsWithTemplate (grave_accent ∷ text) xs ys kind → ReadsTemplate text xs ys kind
template_read_as text xs ys kind begun = by_part begun.part
  where
    by_part : IsTemplatePart xs ys kind → ReadsTemplate text xs ys kind
    by_part (no_substitution part e) = record {
      items = part.items;
      read =
          ap (template_part_reading TemplateHead NoSubstitutionTemplate)
          (begun.here ∙ part_here grave_accent (codes "`") xs ys part)
          ∙ tail_is_read TemplateHead NoSubstitutionTemplate grave_accent xs ys part
          ∙ ap (λ k. good_part k xs part.items ys) (sym e);
      escaped = part_is_escaped (codes "`") xs ys part refl;
    }
    by_part (head part e) = record {
      items = part.items;
      read =
          ap (template_part_reading TemplateHead NoSubstitutionTemplate)
          (begun.here ∙ part_here grave_accent (codes "${") xs ys part)
          ∙ substitution_is_read TemplateHead NoSubstitutionTemplate grave_accent xs ys part
          ∙ ap (λ k. good_part k xs part.items ys) (sym e);
      escaped = part_is_escaped (codes "${") xs ys part refl;
    }

-- items that are not escaped have the units of their characters
abbrev pub HasOwnUnits : StringItem → Type 0
HasOwnUnits item = item.is_escaped ≡ false → item.units ≡ units_of item.text

own_units_of_plain : (c : ℕ) (cs : List ℕ) → HasOwnUnits (ordinary_item c cs)
own_units_of_plain c cs e = sym (append-nil (encode_utf16 c))

escaped_has_none : (item : StringItem) → item.is_escaped ≡ true → HasOwnUnits item
escaped_has_none item is e = absurd (let same : true ≡ false = sym is ∙ e in cc)

-- what holds of each escape and each character that stands for itself holds of each item of a string
string_item_is : (P : StringItem → Type 0) → ((cs : List ℕ) → P (escape false cs))
    → ((c : ℕ) (cs : List ℕ) → P (ordinary_item c cs)) → (quote : ℕ) (text : List ℕ) (item : StringItem)
    → string_item quote text ≡ Some item → P item
string_item_is P escapes plain quote [] item e = absurd (cc)
string_item_is P escapes plain quote (c ∷ cs) item e =
    elim (true_or_false (c == backslash)) [
      | inl is ↦ (
          let at : string_item quote (backslash ∷ cs) ≡ Some item =
          ap (λ d. string_item quote (d ∷ cs)) (sym (eqb-true c backslash is)) ∙ e in
          found_as P (escape false cs) item _ (escapes cs) refl at)
      | inr other ↦
          elim (true_or_false (ends_string quote c)) [
            | inl ends ↦ not_found _ item (string_ends quote c cs other ends) e
            | inr on ↦ found_as P (ordinary_item c cs) item _ (plain c cs) (string_plain quote c cs other on) e
          ]
    ]

string_own_units : (quote : ℕ) (text : List ℕ) (item : StringItem) → string_item quote text ≡ Some item
    → HasOwnUnits item
string_own_units quote text item e =
    string_item_is HasOwnUnits (λ cs. escaped_has_none (escape false cs) (escape_is_one false cs).escaped)
    own_units_of_plain quote text item e

or_false_both : (a b : Bool) → (a || b) ≡ false → (a ≡ false) × (b ≡ false)
or_false_both true b e = absurd (cc)
or_false_both false b e = (refl, e)

own_units : (step : List ℕ → Option StringItem)
    → ((text : List ℕ) (item : StringItem) → step text ≡ Some item → HasOwnUnits item) → (most : ℕ) (text : List ℕ)
    → contains_escape (items_up_to step most text).items ≡ false
    → string_units (items_up_to step most text).items ≡ units_of (string_text (items_up_to step most text).items)
own_units step by zero text e = refl
own_units step by (suc most) text e =
    elim (none_or_some (step text)) [
      | inl is ↦ rw is refl
      | inr (item, is) ↦ (
          let more = items_up_to step most item.rest in
          let both = or_false_both item.is_escaped (contains_escape more.items) (rw is at e) in
          rw is
          (ap (λ us. us ++ string_units more.items) (by text item is both.0)
          ∙ ap (λ us. units_of item.text ++ us) (own_units step by most item.rest both.1)
          ∙ sym (flat_map-append encode_utf16 item.text (string_text more.items))))
    ]

-- Where nothing is escaped, the units of a string are those of its characters.
pub string_has_own_units : (quote : ℕ) (text : List ℕ) → contains_escape (string_items quote text).items ≡ false
    → string_units (string_items quote text).items ≡ units_of (string_text (string_items quote text).items)
string_has_own_units quote text e = own_units (string_item quote) (string_own_units quote) (length text) text e
