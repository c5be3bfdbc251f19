-- What is read where a string or a template begins: it is the longest spelling, or nothing is spelled.
use Rattle.js_grammar.specs.TokenText.{text_slice}
use Rattle.std.specs.Prelude.{if◌then◌else◌}
use Rattle.std.specs.Str.{encode_utf8_all}
use Rattle.js_text.specs.declared.value.RowValue.{RowValue}
use Rattle.js_grammar.specs.Spelling.{value_of, is_escaped}
use Rattle.std.proofs.Common.{◌≡◌, ◌≢◌, ℕ, ◌≤◌, Bool, true, false, List, [], ◌∷◌, ◌++◌, ◌==◌, ◌||◌, length, refl, sym}
use Rattle.std.proofs.Common.{◌∙◌}
use Rattle.std.proofs.Common.{ap, subst, arith, inl, inr, Some}
use Rattle.std.specs.List.{list_any}
use Rattle.std.proofs.lemmas.Bool.{eqb-true, or_right}
use Rattle.js_text.specs.Ascii.{grave_accent}
use Rattle.js_text.specs.Characters.{begins}
use Rattle.js_text.specs.declared.diagnostic.Diagnostic.{Diagnostic}
use Rattle.js_text.specs.declared.source_type.SourceType.{SourceType}
use Rattle.js_kind.specs.Kinds.{is_identifier_name, is_number_kind, is_string_kind, is_template_kind}
use Rattle.js_kind.specs.declared.kind.Kind.{Kind}
use Rattle.js_kind.specs.declared.kind.Kind.TheVariants.{NoSubstitutionTemplate, Str, TemplateHead}
use Rattle.js_grammar.specs.Goals.{ReadsHere}
use Rattle.js_grammar.specs.Goals.ReadsHere.{spelled, recovers}
use Rattle.js_grammar.specs.Quoted.{begins_quoted, quoted_reading, is_backslash_or_return}
use Rattle.js_grammar.specs.Reading.{Reading}
use Rattle.js_grammar.specs.Recovery.{recovered}
use Rattle.js_grammar.specs.Spelling.{Spelling, LongestSpelling, NothingSpelled}
use Rattle.js_grammar.specs.TokenText.{is_named, is_private_name}
use Rattle.js_grammar.specs.Spelling.Spelling.{string, template}
use Rattle.js_grammar.specs.StringItems.{StringItem, is_quote, contains_escape, string_reading}
use Rattle.js_grammar.specs.Template.{IsTemplatePart, template_part_reading}
use Rattle.js_grammar.specs.Template.IsTemplatePart.{no_substitution, head}
use Rattle.js_grammar.proofs.QuotedValues.{string_read_at}
use Rattle.js_grammar.proofs.NumberItems.{true_or_false}
use Rattle.js_grammar.proofs.SpellingClasses.{only_quoted, quoted_string, quoted_template}
use Rattle.js_grammar.proofs.Starts.{named_false}
use Rattle.js_grammar.proofs.StringBegins.{quoted_begins_no_named, quoted_begins_no_number, quoted_begins_no_comment}
use Rattle.js_grammar.proofs.StringBegins.{string_is_quoted, string_is_escaped}
use Rattle.js_grammar.proofs.StringBegins.{template_is_quoted, template_read_as}
use Rattle.js_grammar.proofs.StringLaws.{BeginsWithString, good_string, clean_is_string, one_string, string_read_here}
use Rattle.js_grammar.proofs.TemplateLaws.{BeginsWithTemplate, good_part, clean_is_template, one_template}

-- where a quote stands, a string begins
quote_begins : (here : List ℕ) → begins is_quote here ≡ true → begins begins_quoted here ≡ true
quote_begins [] e = e
quote_begins (c ∷ cs) e = ap (λ b. b || (c == grave_accent)) e

-- and where a backquote does, a template
grave_begins : (here : List ℕ) → begins (λ c. c == grave_accent) here ≡ true → begins begins_quoted here ≡ true
grave_begins [] e = e
grave_begins (c ∷ cs) e = or_right (is_quote c) (c == grave_accent) e

grave_begins_no_string : (here : List ℕ) → begins (λ c. c == grave_accent) here ≡ true → begins is_quote here ≡ false
grave_begins_no_string [] e = absurd (cc)
grave_begins_no_string (c ∷ cs) e = ap is_quote (eqb-true c grave_accent e)

-- the string that a text begins with is its longest spelling
longest_of_string : (t : SourceType) (line_has_ended : Bool) (here xs ys : List ℕ) → BeginsWithString here xs ys
    → LongestSpelling t line_has_ended here xs ys Str
longest_of_string t line_has_ended here xs ys b = record {
  here = b.here;
  spelling = string b.string refl;
  longest = λ us vs j e s. others us vs j e s;
}
  where
    quote : begins is_quote here ≡ true
    quote = ap (begins is_quote) b.here ∙ string_is_quoted xs ys b.string

    others : (us vs : List ℕ) (j : Kind) → here ≡ us ++ vs → Spelling t line_has_ended us vs j → length us ≤ length xs
    others us vs j e s =
        let other =
        quoted_string here us vs j quote e (only_quoted t line_has_ended here us vs j (quote_begins here quote) e s) in
        let same = one_string here xs ys us vs b (record { here = e; string = other.0 }) in
        omega (arith, ap length same.0)

-- and so is the template, or the first part of one
longest_of_template : (t : SourceType) (line_has_ended : Bool) (here xs ys : List ℕ) (kind : Kind)
    → BeginsWithTemplate here xs ys kind → LongestSpelling t line_has_ended here xs ys kind
longest_of_template t line_has_ended here xs ys kind b = record {
  here = b.here;
  spelling = template b.part;
  longest = λ us vs j e s. others us vs j e s;
}
  where
    grave : begins (λ c. c == grave_accent) here ≡ true
    grave = ap (begins (λ c. c == grave_accent)) b.here ∙ template_is_quoted xs ys kind b.part

    others : (us vs : List ℕ) (j : Kind) → here ≡ us ++ vs → Spelling t line_has_ended us vs j → length us ≤ length xs
    others us vs j e s =
        let other =
        quoted_template here us vs j (grave_begins_no_string here grave) e
        (only_quoted t line_has_ended here us vs j (grave_begins here grave) e s) in
        let same = one_template here xs ys us vs kind j b (record { here = e; part = other }) in
        omega (arith, ap length same.characters)

-- what the kinds of strings and templates are
string_flags : (is_template_kind Str ≡ false) × (is_string_kind Str ≡ true) × (is_number_kind Str ≡ false)
    × (is_named Str ≡ false)
unfolding is_identifier_name is_private_name is_number_kind is_string_kind is_template_kind
string_flags = (refl, refl, refl, refl)

record IsTemplate (kind : Kind) : Type 0 where
  pub no_name : is_identifier_name kind ≡ false
  pub no_private_name : is_private_name kind ≡ false
  pub no_string : is_string_kind kind ≡ false
  pub template : is_template_kind kind ≡ true
  pub no_number : is_number_kind kind ≡ false

template_flags : (xs ys : List ℕ) (kind : Kind) → IsTemplatePart xs ys kind → IsTemplate kind
unfolding is_identifier_name is_private_name is_number_kind is_string_kind is_template_kind
template_flags xs ys kind (no_substitution part e) =
    rw e (record { no_name = refl; no_private_name = refl; no_string = refl; template = refl; no_number = refl })
template_flags xs ys kind (head part e) =
    rw e (record { no_name = refl; no_private_name = refl; no_string = refl; template = refl; no_number = refl })

-- where the reading has the value that its items stand for, or its stretch, the spelling has the same
same_value : (b : Bool) (value units slice : RowValue) → value ≡ (if b then units else slice)
    → (if b then value else slice) ≡ (if b then units else slice)
same_value true value units slice e = e
same_value false value units slice e = refl

string_value : (xs ys : List ℕ) (size : ℕ) → value_of Str xs ys size
    ≡ (if is_escaped Str xs then (quoted_reading (xs ++ ys)).value else text_slice Str 0 size)
unfolding is_identifier_name is_private_name is_string_kind is_template_kind
string_value xs ys size = refl

good_string_reads : (t : SourceType) (line_has_ended : Bool) (here xs ys : List ℕ) (b : BeginsWithString here xs ys)
    → ReadsHere t line_has_ended here (good_string xs b.string.items ys)
good_string_reads t line_has_ended here xs ys b =
    let escaped : is_escaped Str xs ≡ contains_escape b.string.items =
    rw (string_flags.0, string_flags.1, string_flags.3) (sym (string_is_escaped xs ys b.string)) in
    let size = length (encode_utf8_all xs) in
    let value : value_of Str xs ys size ≡ (good_string xs b.string.items ys).value =
    string_value xs ys size
    ∙ ap (λ e. if e then (quoted_reading (xs ++ ys)).value else text_slice Str 0 size) escaped
    ∙ same_value (contains_escape b.string.items) (quoted_reading (xs ++ ys)).value _ (text_slice Str 0 size)
    (ap (λ (r : Reading). r.value) (string_read_at xs ys b.string)) in
    spelled xs (longest_of_string t line_has_ended here xs ys b) (rw (value, escaped, string_flags.2) refl)

part_value : (xs ys : List ℕ) (kind : Kind) (size : ℕ) → IsTemplatePart xs ys kind → value_of kind xs ys size
    ≡ (if list_any is_backslash_or_return xs then (quoted_reading (xs ++ ys)).value else text_slice kind 0 size)
unfolding is_identifier_name is_private_name is_string_kind is_template_kind
part_value xs ys kind size (no_substitution part e) = rw e refl
part_value xs ys kind size (head part e) = rw e refl

good_template_reads : (t : SourceType) (line_has_ended : Bool) (here xs ys : List ℕ) (kind : Kind)
    (items : List StringItem) → BeginsWithTemplate here xs ys kind
    → contains_escape items ≡ list_any is_backslash_or_return xs
    → quoted_reading (xs ++ ys) ≡ good_part kind xs items ys
    → ReadsHere t line_has_ended here (good_part kind xs items ys)
good_template_reads t line_has_ended here xs ys kind items b escapes read =
    let flags = template_flags xs ys kind b.part in
    let escaped : is_escaped kind xs ≡ contains_escape items = rw flags.template (sym escapes) in
    let size = length (encode_utf8_all xs) in
    let value : value_of kind xs ys size ≡ (good_part kind xs items ys).value =
    part_value xs ys kind size b.part
    ∙ ap (λ e. if e then (quoted_reading (xs ++ ys)).value else text_slice kind 0 size) (sym escapes)
    ∙ same_value (contains_escape items) (quoted_reading (xs ++ ys)).value _ (text_slice kind 0 size)
    (ap (λ (r : Reading). r.value) read) in
    spelled xs (longest_of_template t line_has_ended here xs ys kind b) (rw (value, escaped, flags.no_number) refl)

-- a string or a template at fault
pub quoted_is_recovered : (here : List ℕ) → begins begins_quoted here ≡ true
    → recovered here ≡ Some (quoted_reading here)
quoted_is_recovered here begun =
    let none = named_false here (quoted_begins_no_named here begun) in
    rw (quoted_begins_no_comment here begun, none.0, none.1, quoted_begins_no_number here begun, begun) refl

-- what is spelled where one begins is read without a fault
spelled_is_clean : (t : SourceType) (line_has_ended : Bool) (here us vs : List ℕ) (kind : Kind)
    → begins begins_quoted here ≡ true → here ≡ us ++ vs → Spelling t line_has_ended us vs kind
    → (quoted_reading here).diagnostics ≡ []
spelled_is_clean t line_has_ended [] us vs kind begun e s = absurd (cc)
spelled_is_clean t line_has_ended (c ∷ cs) us vs kind begun e s =
    let only = only_quoted t line_has_ended (c ∷ cs) us vs kind begun e s in
    elim (true_or_false (is_quote c)) [
      | inl quote ↦ (
          let is = quoted_string (c ∷ cs) us vs kind quote e only in
          rw quote
          (ap (λ (r : Reading). r.diagnostics) (string_read_here c cs us vs (record { here = e; string = is.0 }))))
      | inr other ↦ (
          let is = quoted_template (c ∷ cs) us vs kind other e only in
          let grave : c ≡ grave_accent = eqb-true c grave_accent (rw other at begun) in
          let found =
          template_read_as cs us vs kind (record { here = ap (λ d. d ∷ cs) (sym grave) ∙ e; part = is }) in
          rw other
          (ap (λ d. (template_part_reading TemplateHead NoSubstitutionTemplate (d ∷ cs)).diagnostics) grave
          ∙ ap (λ (r : Reading). r.diagnostics) found.read))
    ]

-- what is read without a fault is spelled
clean_reads : (t : SourceType) (line_has_ended : Bool) (here : List ℕ)
    → begins begins_quoted here ≡ true → (quoted_reading here).diagnostics ≡ []
    → ReadsHere t line_has_ended here (quoted_reading here)
clean_reads t line_has_ended [] begun clean = absurd (cc)
clean_reads t line_has_ended (c ∷ cs) begun clean =
    elim (true_or_false (is_quote c)) [
      | inl quote ↦ (
          let found = clean_is_string c cs quote (rw quote at clean) in
          let ys = (string_reading c cs).rest in
          let same = string_read_here c cs found.0 ys found.1 in
          rw quote
          (subst (ReadsHere t line_has_ended (c ∷ cs)) (sym same)
          (good_string_reads t line_has_ended (c ∷ cs) found.0 ys found.1)))
      | inr other ↦ (
          let grave : c ≡ grave_accent = eqb-true c grave_accent (rw other at begun) in
          by_grave cs (subst (λ d. (quoted_reading (d ∷ cs)).diagnostics ≡ []) grave clean) c grave)
    ]
  where
    by_grave : (cs : List ℕ) → (quoted_reading (grave_accent ∷ cs)).diagnostics ≡ [] → (c : ℕ) → c ≡ grave_accent
        → ReadsHere t line_has_ended (c ∷ cs) (quoted_reading (c ∷ cs))
    by_grave cs clean c grave =
        let read = template_part_reading TemplateHead NoSubstitutionTemplate (grave_accent ∷ cs) in
        let found = clean_is_template cs clean in
        let as_read = template_read_as cs found.0 read.rest read.kind found.1 in
        let whole : quoted_reading (found.0 ++ read.rest) ≡ good_part read.kind found.0 as_read.items read.rest =
        ap quoted_reading (sym found.1.here) ∙ as_read.read in
        subst (λ d. ReadsHere t line_has_ended (d ∷ cs) (quoted_reading (d ∷ cs))) (sym grave)
        (subst (ReadsHere t line_has_ended (grave_accent ∷ cs)) (sym as_read.read)
        (good_template_reads t line_has_ended (grave_accent ∷ cs) found.0 read.rest read.kind as_read.items
        found.1 as_read.escaped whole))

-- What is read of a string or a template is what is read where it begins.
pub quoted_reads_here : (t : SourceType) (line_has_ended : Bool) (here : List ℕ)
    → begins begins_quoted here ≡ true → ReadsHere t line_has_ended here (quoted_reading here)
quoted_reads_here t line_has_ended here begun = by_faults (quoted_reading here).diagnostics refl
  where
    by_faults : (faults : List Diagnostic) → (quoted_reading here).diagnostics ≡ faults
        → ReadsHere t line_has_ended here (quoted_reading here)
    by_faults [] e = clean_reads t line_has_ended here begun e
    by_faults (d ∷ ds) e =
        recovers
        (λ us vs kind is s. let clean = spelled_is_clean t line_has_ended here us vs kind begun is s in
        let no : d ∷ ds ≡ [] = sym e ∙ clean in cc)
        (quoted_is_recovered here begun)

-- what is read without a fault is a spelling
clean_spelling : (t : SourceType) (line_has_ended : Bool) (here : List ℕ)
    → begins begins_quoted here ≡ true → (quoted_reading here).diagnostics ≡ []
    → (xs : List ℕ) × (here ≡ xs ++ (quoted_reading here).rest)
    × Spelling t line_has_ended xs (quoted_reading here).rest (quoted_reading here).kind
clean_spelling t line_has_ended [] begun clean = absurd (cc)
clean_spelling t line_has_ended (c ∷ cs) begun clean =
    elim (true_or_false (is_quote c)) [
      | inl quote ↦ (
          let found = clean_is_string c cs quote (rw quote at clean) in
          let same = string_read_here c cs found.0 (string_reading c cs).rest found.1 in
          rw quote (found.0, found.1.here, string found.1.string (ap (λ (r : Reading). r.kind) same)))
      | inr other ↦ (
          let grave : c ≡ grave_accent = eqb-true c grave_accent (rw other at begun) in
          by_grave cs (subst (λ d. (quoted_reading (d ∷ cs)).diagnostics ≡ []) grave clean) c grave)
    ]
  where
    by_grave : (cs : List ℕ) → (quoted_reading (grave_accent ∷ cs)).diagnostics ≡ [] → (c : ℕ) → c ≡ grave_accent
        → (xs : List ℕ) × (c ∷ cs ≡ xs ++ (quoted_reading (c ∷ cs)).rest)
        × Spelling t line_has_ended xs (quoted_reading (c ∷ cs)).rest (quoted_reading (c ∷ cs)).kind
    by_grave cs clean c grave =
        let found = clean_is_template cs clean in
        subst
        (λ d. (xs : List ℕ) × (d ∷ cs ≡ xs ++ (quoted_reading (d ∷ cs)).rest)
        × Spelling t line_has_ended xs (quoted_reading (d ∷ cs)).rest (quoted_reading (d ∷ cs)).kind) (sym grave)
        (found.0, found.1.here, template found.1.part)

-- and so where nothing is spelled, it reports something
pub faulty_quoted_reports : (t : SourceType) (line_has_ended : Bool) (here : List ℕ)
    → begins begins_quoted here ≡ true → NothingSpelled t line_has_ended here
    → (quoted_reading here).diagnostics ≢ []
faulty_quoted_reports t line_has_ended here begun nothing clean =
    let found = clean_spelling t line_has_ended here begun clean in
    nothing found.0 (quoted_reading here).rest (quoted_reading here).kind found.1 found.2
