-- What is read of a name, item by item.
use Rattle.std.proofs.Common.{◌≡◌, ℕ, ◌+◌, ◌<◌, ◌≤◌, Bool, true, false, ◌||◌, ◌==◌, List, [], ◌∷◌, ◌++◌, length, drop}
use Rattle.std.proofs.Common.{refl, sym, ◌∙◌, ap, subst, arith, append_assoc, Option, Some, None, add-zero}
use Rattle.std.proofs.Common.{length-append, inl, inr, ◌&&◌}
use Rattle.std.specs.Prelude.{◌⊎◌, nat_lt}
use Rattle.std.proofs.lemmas.Bool.{ltb-true}
use Rattle.std.specs.Prelude.{map, option_to_list, Result, Ok, Err, OnOk, is_ok, if◌then◌else◌}
use Rattle.std.specs.Char.{encode_utf8}
use Rattle.std.specs.List.{list_any}
use Rattle.std.specs.Option.{option_map_or}
use Rattle.std.specs.Str.{chars, encode_utf8_all}
use Rattle.std.proofs.lemmas.List.{append-nil}
use Rattle.std.proofs.lemmas.List.Concat.{flat_map-append}
use Rattle.std.proofs.lemmas.List.Folds.{list_any-append}
use Rattle.std.proofs.lemmas.Str.{encodes-append, chars_from_encodes}
use Rattle.std.proofs.Math.Seq.{drop-append_seam}
use Rattle.js_text.specs.Ascii.{backslash, number_sign}
use Rattle.js_text.specs.Characters.{begins, from_place, from_first, before_first, is_identifier_part}
use Rattle.js_text.specs.Characters.{is_identifier_start}
use Rattle.js_text.specs.JsStr.{units_of}
use Rattle.js_text.specs.declared.diagnostic.Diagnostic.{Diagnostic}
use Rattle.js_text.specs.declared.diagnostic.Diagnostic.TheVariants.{InvalidCharacter, UnexpectedEnd}
use Rattle.js_text.specs.declared.diagnostic.Diagnostic.TheVariants.{UnicodeEscapeSequence}
use Rattle.js_text.specs.declared.span.Span.{Span}
use Rattle.js_text.proofs.TextLemmas.{before_from}
use Rattle.js_source.specs.Source.{At, rest, StepsPast, Reads, HasFirstByte}
use Rattle.js_grammar.specs.Name.{NameItem, NameFault, CutsInto, items_text, items_value, items_report, item_report}
use Rattle.js_grammar.specs.Name.{fault_report, ordinary_item, is_no_part, name_item, escape_item, name_reading}
use Rattle.js_grammar.specs.Name.{begins_name, contains_escape, items_reading, name_items, name_value}
use Rattle.js_grammar.specs.Name.{private_name_of}
use Rattle.js_grammar.specs.Reading.{Reading, moved_diagnostics, place_behind, reported_at}
use Rattle.js_grammar.proofs.Moved.{items_report_moved, moved_twice}
use Rattle.js_grammar.proofs.NameCuts.{name_of, read_of_cut, nothing_reported, items_cut, cut_items}
use Rattle.js_grammar.proofs.NameItems.{escape_takes}
use Rattle.js_grammar.proofs.NameLaws.{ordinary_parts, ordinary_values, ended, name_report}
use Rattle.js_grammar.proofs.NameLemmas.{parts_end}
use Rattle.js_grammar.proofs.NumberSound.{first_is}
use Rattle.js_grammar.proofs.Reported.{place_behind-append}
use Rattle.js_kind.specs.Keywords.{name_kind}
use Rattle.js_kind.specs.TokenParts.{TokenParts}
use Rattle.js_kind.specs.declared.kind.Kind.TheVariants.{Eof, Undetermined}
use Rattle.js_spell.specs.Name.{class_of, GoesOn, PassesUnescaped, Decodes, ReadsEscape, ReadsItems, PassesParts}
use Rattle.js_spell.specs.Name.{ReadsToEnd, SpellsDecoded, ReportsNoName, behind_sign, value_of_decoding}
use Rattle.js_spell.specs.Spells.{Spells, spelt_value}
use Rattle.js_spell.specs.Name.{fault_of_decoding}
use Rattle.js_spell.specs.declared.name.Decoding.{Decoding}
use Rattle.js_spell.specs.declared.name.Decoding.TheVariants.{Character, NotAllowed, Bad}
use Rattle.js_spell.specs.declared.name.Position.{Position}
use Rattle.js_spell.specs.declared.name.Position.TheVariants.{First, Later}
use Rattle.js_spell.specs.declared.spelt.Spelt.{Spelt}
use Rattle.js_spell.specs.declared.spelt.SpeltValue.TheVariants.{Plain, Decoded}
use Rattle.js_spell.proofs.NumericSteps.{leads_to}
use Rattle.js_kind.specs.declared.kind.Kind.{Kind}
use Rattle.js_kind.specs.declared.kind.Kind.TheVariants.{PrivateIdentifier}
use Rattle.js_spell.specs.Name.{SpellsUnescapedName, SpellsUnescapedPrivateName}
use Rattle.js_spell.specs.Breaks.{BreaksOff}
use Rattle.js_spell.specs.Name.{items_told}
use Rattle.js_spell.proofs.BreakSteps.{broken_behind, unreported}

one_byte : length (encode_utf8_all (backslash ∷ [])) ≡ 1
unfolding encode_utf8
one_byte = refl

-- a span by its ends
abbrev span : ℕ → ℕ → Span
span start end = record { start = start; end = end }

pub span_is : {a b p q : ℕ} → a ≡ p → b ≡ q → span a b ≡ span p q
span_is {a} {b} {p} {q} e f = ap (λ n. span n b) e ∙ ap (λ n. span p n) f

-- what is reported of a fault, if there is one
abbrev reported : ℕ → ℕ → Option NameFault → List Diagnostic
reported place end fault = option_map_or (λ f. fault_report place end f ∷ []) fault []

-- an escape, from its `\` on
module _ (position : Position) (old mid new : At) (decoding : Decoding)
    (mark : begins (λ c. c == backslash) (rest old) ≡ true) (past : StepsPast old mid)
    (decodes : Decodes (escape_item (class_of position) (rest mid)) (backslash ∷ []) mid decoding new) where
  abbrev item : NameItem
  item = escape_item (class_of position) (rest mid)

  step : (mid.text ≡ old.text) × (rest mid ≡ drop 1 (rest old))
  step = past backslash (drop 1 (rest old)) (first_is backslash (rest old) mark)

  at_mark : rest old ≡ backslash ∷ rest mid
  at_mark = first_is backslash (rest old) mark ∙ ap (λ t. backslash ∷ t) (sym step.1)

  whole : rest old ≡ item.text ++ rest new
  whole = at_mark ∙ decodes.here

  goes : GoesOn position old (item ∷ []) Later new
  goes = record {
    text = decodes.text ∙ step.0;
    here = whole ∙ ap (λ t. t ++ rest new) (sym (append-nil item.text));
    go_on = λ more left cut. (
      ap (name_item (class_of position)) at_mark,
      subst (λ t. CutsInto is_identifier_part t more left)
          (sym (ap (drop (length item.text)) whole ∙ drop-append_seam item.text (rest new))) cut,
    );
  }

  behind_mark : mid.place ≡ old.place + 1
  behind_mark =
      omega (arith, leads_to old mid (backslash ∷ []) step.0 at_mark, one_byte)

  behind_escape : new.place ≡ place_behind old.place item.text
  behind_escape = leads_to old new item.text (decodes.text ∙ step.0) whole

  behind_first : (taken : List ℕ) × (rest mid ≡ taken ++ rest new)
  behind_first =
      let takes = escape_takes (class_of position) (rest mid) in
      let here : backslash ∷ rest mid ≡ (backslash ∷ takes.taken) ++ rest new =
      decodes.here ∙ ap (λ t. t ++ rest new) takes.text_is in
      (takes.taken, cc)

  escape_fewer : length (rest new) < length (rest old)
  escape_fewer =
      omega (
        arith,
        ap length at_mark,
        ap length behind_first.1,
        length-append behind_first.0 (rest new),
      )

  pub escape_onward : mid.place ≤ new.place
  escape_onward =
      omega (arith, leads_to mid new behind_first.0 decodes.text behind_first.1)

  -- what is wrong with it was not reported
  pub escape_unreported : (before after : List Diagnostic) → after ≡ before → BreaksOff [] old new before after
  escape_unreported before after e =
      unreported [] old new before after (decodes.text ∙ step.0) (omega (arith, behind_mark, escape_onward)) e

  pub escape_read : (before after : List Diagnostic) (c : Option ℕ) → value_of_decoding decoding ≡ option_to_list c
      → after ≡ before ++ reported old.place new.place (fault_of_decoding decoding)
      → ReadsEscape position old new before after c
  escape_read before after c value report = record {
    item = item;
    goes_on = goes;
    reports =
        report
        ∙ ap (λ end. before ++ reported old.place end (fault_of_decoding decoding)) (behind_escape)
        ∙ ap (λ o. before ++ reported old.place (place_behind old.place item.text) o) (sym decodes.fault);
    value = decodes.value ∙ value;
    is_escape = (escape_takes (class_of position) (rest mid)).is_escape;
    fewer = escape_fewer;
  }

  pub character_read : (errors : List Diagnostic) (c : ℕ) → decoding ≡ Character c
      → ReadsEscape position old new errors errors (Some c)
  character_read errors c is =
      escape_read errors errors (Some c) (ap value_of_decoding is) (sym (append-nil errors)
      ∙ ap (λ d. errors ++ reported old.place new.place (fault_of_decoding d)) (sym is))

  pub bad_read : (before after : List Diagnostic) (span : Span) → decoding ≡ Bad
      → span ≡ record { start = mid.place; end = new.place }
      → after ≡ before ++ UnicodeEscapeSequence span ∷ []
      → ReadsEscape position old new before after None
  bad_read before after span is s report =
      escape_read before after None (ap value_of_decoding is) (report
      ∙ ap (λ (t : Span). before ++ UnicodeEscapeSequence t ∷ []) s
      ∙ ap (λ (start : ℕ). before ++ UnicodeEscapeSequence (record { start = start; end = new.place }) ∷ [])
      (behind_mark)
      ∙ ap (λ d. before ++ reported old.place new.place (fault_of_decoding d)) (sym is))

  pub not_allowed_read : (before after : List Diagnostic) (c : ℕ) (span : Span) → decoding ≡ NotAllowed c
      → span ≡ record { start = new.place; end = new.place }
      → after ≡ before ++ InvalidCharacter c span ∷ []
      → ReadsEscape position old new before after None
  not_allowed_read before after c span is s report =
      escape_read before after None (ap value_of_decoding is) (report
      ∙ ap (λ (t : Span). before ++ InvalidCharacter c t ∷ []) s
      ∙ ap (λ d. before ++ reported old.place new.place (fault_of_decoding d)) (sym is))

-- parts that stand for themselves
pub parts_read : (old new : At) (was now bytes : List ℕ) → new.text ≡ old.text
    → rest new ≡ from_first is_no_part (rest old)
    → ((xs : List ℕ) → from_place new.text old.place ≡ xs ++ rest new → bytes ≡ encode_utf8_all xs)
    → now ≡ was ++ bytes
    → PassesParts old new was now
parts_read old new was now bytes text left spells added =
    let parts = before_first is_no_part (rest old) in
    let whole : rest old ≡ parts ++ rest new =
    sym (before_from is_no_part (rest old)) ∙ ap (λ xs. parts ++ xs) (sym left) in
    record {
      characters = parts;
      goes_on = record {
        text = text;
        here = whole ∙ ap (λ xs. xs ++ rest new) (sym (ordinary_values parts).text);
        go_on = λ more left_over cut.
            ordinary_parts (rest old) more left_over
            (subst (λ xs. CutsInto is_identifier_part xs more left_over) left cut);
      };
      value = added ∙ ap (λ xs. was ++ xs) (spells parts (ap (λ u. from_place u old.place) text ∙ whole));
      stops = ap (begins is_identifier_part) left ∙ parts_end (rest old);
    }

-- what was added where it was added
pub on_pushed : {A E : Type 0} (r : Result A E) (P : List ℕ → Type 0) (was now bytes : List ℕ)
    → now ≡ (if is_ok r then was ++ bytes else was) → (now ≡ was ++ bytes → P now) → OnOk r (P now)
on_pushed (Ok a) P was now bytes e make = make e
on_pushed (Err a) P was now bytes e make = tt

-- items that stand for themselves
pub plain_read : (from : Position) (old : At) (to : Position) (new : At) (errors : List Diagnostic)
    (was now xs : List ℕ)
    → GoesOn from old (map ordinary_item xs) to new → now ≡ was ++ encode_utf8_all xs
    → ReadsItems from old to new errors errors was now false
plain_read from old to new errors was now xs goes bytes =
    let values = ordinary_values xs in
    record {
      items = map ordinary_item xs;
      goes_on = goes;
      reports =
          sym (append-nil errors)
          ∙ ap (λ ds. errors ++ ds) (sym (nothing_reported old.place (map ordinary_item xs) values.good));
      value = bytes ∙ ap (λ ys. was ++ encode_utf8_all ys) (sym values.value);
      escapes = values.escapes;
    }

-- Items, and then more.
texts_append : (xs ys : List NameItem) → items_text (xs ++ ys) ≡ items_text xs ++ items_text ys
texts_append [] ys = refl
texts_append (x ∷ xs) ys =
    ap (λ t. x.text ++ t) (texts_append xs ys) ∙ sym (append_assoc x.text (items_text xs) (items_text ys))

reports_append : (place : ℕ) (xs ys : List NameItem)
    → items_report place (xs ++ ys) ≡ items_report place xs ++ items_report (place_behind place (items_text xs)) ys
reports_append place [] ys = ap (λ p. items_report p ys) (sym (add-zero place))
reports_append place (x ∷ xs) ys =
    let end = place_behind place x.text in
    ap (λ ds. item_report place x ++ ds) (reports_append end xs ys)
    ∙ ap (λ p. item_report place x ++ (items_report end xs ++ items_report p ys))
    (place_behind-append place x.text (items_text xs))
    ∙ sym
    (append_assoc (item_report place x) (items_report end xs)
    (items_report (place_behind place (x.text ++ items_text xs)) ys))

pub then_read : (from : Position) (old : At) (to : Position) (mid : At) (last : Position) (new : At)
    (before during after : List Diagnostic) (was between now : List ℕ) (first_has second_has : Bool)
    → ReadsItems from old to mid before during was between first_has
    → ReadsItems to mid last new during after between now second_has
    → ReadsItems from old last new before after was now (first_has || second_has)
then_read from old to mid last new before during after was between now first_has second_has a b =
    let place = leads_to old mid (items_text a.items) a.goes_on.text a.goes_on.here in
    record {
      items = a.items ++ b.items;
      goes_on = record {
        text = b.goes_on.text ∙ a.goes_on.text;
        here =
            a.goes_on.here ∙ ap (λ t. items_text a.items ++ t) b.goes_on.here
            ∙ sym (append_assoc (items_text a.items) (items_text b.items) (rest new))
            ∙ ap (λ t. t ++ rest new) (sym (texts_append a.items b.items));
        go_on = λ more left cut.
            subst (λ xs. CutsInto (class_of from) (rest old) xs left) (sym (append_assoc a.items b.items more))
            (a.goes_on.go_on (b.items ++ more) left (b.goes_on.go_on more left cut));
      };
      reports =
          b.reports ∙ ap (λ ds. ds ++ items_report mid.place b.items) a.reports
          ∙ append_assoc before (items_report old.place a.items) (items_report mid.place b.items)
          ∙ ap (λ p. before ++ (items_report old.place a.items ++ items_report p b.items)) place
          ∙ ap (λ ds. before ++ ds) (sym (reports_append old.place a.items b.items));
      value =
          b.value ∙ ap (λ xs. xs ++ encode_utf8_all (items_value b.items)) a.value
          ∙ append_assoc was (encode_utf8_all (items_value a.items)) (encode_utf8_all (items_value b.items))
          ∙ ap (λ xs. was ++ xs)
          (sym
          (ap encode_utf8_all (flat_map-append (λ (x : NameItem). x.value) a.items b.items)
          ∙ encodes-append (items_value a.items) (items_value b.items)));
      escapes =
          list_any-append (λ (x : NameItem). x.is_escape) a.items b.items
          ∙ ap (λ p. p || list_any (λ (x : NameItem). x.is_escape) b.items) a.escapes
          ∙ ap (λ q. first_has || q) b.escapes;
    }

-- Items were read, and then those behind them broke off.
pub items_broken : (from : Position) (old : At) (to : Position) (mid new : At)
    (before during after : List Diagnostic) (was between : List ℕ) (has_escape : Bool) → ReadsItems from old to mid
    before during was between has_escape
    → BreaksOff (items_told to mid) mid new during after → BreaksOff (items_told from old) old new before after
items_broken from old to mid new before during after was between has_escape read broken =
    let items = read.items in
    let more = name_items (class_of to) (rest mid) in
    let cut = items_cut (class_of to) (rest mid) in
    let place = leads_to old mid (items_text items) read.goes_on.text read.goes_on.here in
    let told : items_told from old ≡ items_report old.place items ++ items_told to mid =
    ap (items_report old.place)
    (cut_items (class_of from) (rest old) (items ++ more) cut.rest (read.goes_on.go_on more cut.rest cut.cut))
    ∙ reports_append old.place items more
    ∙ ap (λ p. items_report old.place items ++ items_report p more) (sym place) in
    broken_behind (items_told from old) (items_told to mid) (items_report old.place items) old mid new before during
    after read.goes_on.text (omega (arith, place)) read.reports told broken

-- An escape was read, and then what is behind it broke off.
pub escape_broken : (position : Position) (old mid new : At) (before during after : List Diagnostic) (c : Option ℕ)
    → ReadsEscape position old mid before during c
    → BreaksOff (items_told Later mid) mid new during after → BreaksOff (items_told position old) old new before after
escape_broken position old mid new before during after c read broken =
    let items = read.item ∷ [] in
    items_broken position old Later mid new before during after [] (encode_utf8_all (items_value items))
    (list_any (λ (item : NameItem). item.is_escape) items) (record {
      items = items;
      goes_on = read.goes_on;
      reports = read.reports ∙ ap (λ ds. before ++ ds) (sym (append-nil (item_report old.place read.item)));
      value = refl;
      escapes = refl;
    }) broken

-- parts that stand for themselves, behind what was read
pub parts_added : (from : Position) (old mid new : At) (before after : List Diagnostic) (was between now : List ℕ)
    (has_escape : Bool)
    → ReadsItems from old Later mid before after was between has_escape
    → PassesParts mid new between now
    → ReadsItems from old Later new before after was now (has_escape || false)
parts_added from old mid new before after was between now has_escape so_far passes =
    then_read from old Later mid Later new before after after was between now has_escape false so_far
    (plain_read Later mid Later new after between now passes.characters passes.goes_on passes.value)

pub parts_fewer : (old new : At) (was now : List ℕ) → PassesParts old new was now
    → length (rest new) ≤ length (rest old)
parts_fewer old new was now passes =
    let text = items_text (map ordinary_item passes.characters) in
    omega (arith, ap length passes.goes_on.here, length-append text (rest new))

-- a name, read on from its first escape, behind its beginning without one
pub name_decoded : (from : Position) (old mid new : At) (before during after : List Diagnostic)
    (was between now : List ℕ) (has_escape : Bool)
    → ReadsItems from old Later mid before during was between true
    → ReadsToEnd Later mid new during after between now has_escape
    → ReadsToEnd from old new before after was now true
name_decoded from old mid new before during after was between now has_escape first more = record {
  read = then_read from old Later mid Later new before during after was between now true has_escape first more.read;
  end = more.end;
}

-- what is read of items up to the end of a name
read_is : (old new : At) (items : List NameItem) → GoesOn First old items Later new
    → name_item is_identifier_part (rest new) ≡ None → name_reading (rest old) ≡ name_of items (rest new)
read_is old new items goes end =
    read_of_cut (rest old) items (rest new)
    (subst (λ xs. CutsInto is_identifier_start (rest old) xs (rest new)) (append-nil items)
    (goes.go_on [] (rest new) (end, refl)))

-- where the value of a name is
name_value_told : (b : Bool) (vs : List ℕ) (start end : ℕ)
    → spelt_value (name_value b vs start end) ≡ (if b then Decoded (units_of vs) else Plain)
name_value_told true vs start end = refl
name_value_told false vs start end = refl

-- a name of these items
items_spelled : (old new : At) (before after : List Diagnostic) (was now : TokenParts) (spelt : Spelt)
    (items : List NameItem) → new.text ≡ old.text → name_reading (rest old) ≡ name_of items (rest new)
    → after ≡ before ++ items_report old.place items
    → spelt.kind ≡ name_kind (encode_utf8_all (items_value items))
    → spelt.value ≡ (if contains_escape items then Decoded (units_of (items_value items)) else Plain)
    → now ≡ record was { escaped = contains_escape items; has_separator = false }
    → Spells (name_reading (rest old)) old.place old new before after was now spelt
items_spelled old new before after was now spelt items text read reports kind value flags =
    let told : items_report old.place items ≡ reported_at old.place (name_of items (rest new)) =
    ap (λ n. items_report n items) (sym (add-zero old.place)) ∙ items_report_moved old.place 0 items in
    rw read (record {
      read = record {
        text = text;
        kind_is = sym kind;
        left = refl;
        reports = reports ∙ ap (λ ds. before ++ ds) told;
      };
      value = value
          ∙ sym (name_value_told (contains_escape items) (items_value items) 0
          (length (encode_utf8_all (items_text items))));
      flags = flags;
    })

-- a name without escapes
pub unescaped_spelled : (old new : At) (errors : List Diagnostic) (was now : TokenParts) (to : Position)
    (plain : List ℕ)
    (spelt : Spelt)
    → PassesUnescaped old to new → begins (λ c. c == backslash) (rest new) ≡ false
    → ((xs : List ℕ) → from_place new.text old.place ≡ xs ++ rest new → plain ≡ encode_utf8_all xs)
    → now ≡ record was { escaped = false; has_separator = false }
    → spelt.kind ≡ name_kind plain → spelt.value ≡ Plain
    → Spells (name_reading (rest old)) old.place old new errors errors was now spelt
unescaped_spelled old new errors was now First plain spelt passes none spells flags kind value =
    let no : true ≡ false = sym (passes.escape refl) ∙ none in absurd (cc)
unescaped_spelled old new errors was now Later plain spelt passes none spells flags kind value =
    let xs = passes.characters in
    let items = map ordinary_item xs in
    let values = ordinary_values xs in
    let whole : from_place new.text old.place ≡ xs ++ rest new =
    ap (λ u. from_place u old.place) passes.goes_on.text ∙ passes.goes_on.here
    ∙ ap (λ t. t ++ rest new) values.text in
    items_spelled old new errors errors was now spelt items passes.goes_on.text
    (read_is old new items passes.goes_on (ended (rest new) passes.stops none))
    (sym (append-nil errors) ∙ ap (λ ds. errors ++ ds) (sym (nothing_reported old.place items values.good)))
    (kind ∙ ap name_kind (spells xs whole) ∙ ap (λ vs. name_kind (encode_utf8_all vs)) (sym values.value))
    (value ∙ ap (λ b. if b then Decoded (units_of (items_value items)) else Plain) (sym values.escapes))
    (flags ∙ ap (λ b. record was { escaped = b; has_separator = false }) (sym values.escapes))

-- and one with escapes
pub escaped_spelled : (old mid new : At) (before after : List Diagnostic) (was now : TokenParts) (to : Position)
    (plain : List ℕ) (spelt : Spelt)
    → PassesUnescaped old to mid
    → ((xs : List ℕ) → from_place mid.text old.place ≡ xs ++ rest mid → plain ≡ encode_utf8_all xs)
    → SpellsDecoded to mid new before after plain spelt
    → now ≡ record was { escaped = true; has_separator = false }
    → Spells (name_reading (rest old)) old.place old new before after was now spelt
escaped_spelled old mid new before after was now to plain spelt passes spells decodes flags =
    let xs = passes.characters in
    let values = ordinary_values xs in
    let whole : from_place mid.text old.place ≡ xs ++ rest mid =
    ap (λ u. from_place u old.place) passes.goes_on.text ∙ passes.goes_on.here
    ∙ ap (λ t. t ++ rest mid) values.text in
    let read = then_read First old to mid Later new before before after [] plain decodes.text false true
    (plain_read First old to mid before [] plain xs passes.goes_on (spells xs whole)) decodes.read.read in
    let characters = items_value read.items in
    let same : characters ≡ chars decodes.text =
    chars_from_encodes characters decodes.text decodes.utf8 (sym read.value) in
    items_spelled old new before after was now spelt read.items read.goes_on.text
    (read_is old new read.items read.goes_on decodes.read.end) read.reports
    (decodes.kind ∙ ap name_kind read.value)
    (decodes.value ∙ ap (λ ys. Decoded (units_of ys)) (sym same)
    ∙ ap (λ b. if b then Decoded (units_of characters) else Plain) (sym read.escapes))
    (flags ∙ ap (λ b. record was { escaped = b; has_separator = false }) (sym read.escapes))

-- A name broke off, behind its beginning without one.
reports_of_name : (place : ℕ) (text : List ℕ)
    → reported_at place (name_reading text) ≡ items_report place (name_items is_identifier_start text)
reports_of_name place text =
    let items = name_items is_identifier_start text in
    ap (moved_diagnostics place) (name_report text) ∙ sym (items_report_moved place 0 items)
    ∙ ap (λ n. items_report n items) (add-zero place)

pub name_broken : (old mid new : At) (before after : List Diagnostic) (to : Position) → PassesUnescaped old to mid
    → BreaksOff (items_told to mid) mid new before after
    → BreaksOff (reported_at old.place (name_reading (rest old))) old new before after
name_broken old mid new before after to passes broken =
    let xs = passes.characters in
    rw (reports_of_name old.place (rest old))
    (items_broken First old to mid new before before after [] (encode_utf8_all xs) false
    (plain_read First old to mid before [] (encode_utf8_all xs) xs passes.goes_on refl) broken)

-- no name follows a `#`
pub character_reported : (old new : At) (before after : List Diagnostic) (c : ℕ) (sp : Span) → Reads old new c
    → sp ≡ span old.place new.place → after ≡ before ++ InvalidCharacter c sp ∷ []
    → ReportsNoName old before after Eof
character_reported old new before after c sp read s report = record {
  report = InvalidCharacter c (span 1 (place_behind 1 (c ∷ [])));
  read = rw read.here refl;
  reports = λ start at.
      let end : new.place ≡ start + place_behind 1 (c ∷ []) =
      omega (arith, at, leads_to old new (c ∷ []) read.text read.here) in
      report ∙ ap (λ (t : Span). before ++ InvalidCharacter c t ∷ []) s
      ∙ ap (λ (p : ℕ). before ++ InvalidCharacter c (span p new.place) ∷ []) (sym at)
      ∙ ap (λ (p : ℕ). before ++ InvalidCharacter c (span (start + 1) p) ∷ []) end;
}

pub end_reported : (old : At) (before after : List Diagnostic) (sp : Span) → rest old ≡ []
    → sp ≡ span old.place old.place → after ≡ before ++ UnexpectedEnd sp ∷ []
    → ReportsNoName old before after Undetermined
end_reported old before after sp none s report = record {
  report = UnexpectedEnd (span 1 1);
  read = rw none refl;
  reports = λ start at.
      report ∙ ap (λ (t : Span). before ++ UnexpectedEnd t ∷ []) s
      ∙ ap (λ (p : ℕ). before ++ UnexpectedEnd (span p p) ∷ []) (sym at);
}

-- What is read of a `#` and the name behind it, by what is read of the name.
record IsNamed (private name : Reading) : Type 0 where
  pub kind : private.kind ≡ PrivateIdentifier
  pub left : private.rest ≡ name.rest
  pub escaped : private.escaped ≡ name.escaped
  pub separator : private.has_separator ≡ name.has_separator
  pub value : spelt_value private.value ≡ spelt_value name.value
  pub diagnostics : private.diagnostics ≡ moved_diagnostics 1 name.diagnostics

is_named : (text : List ℕ) → begins_name text ≡ true → IsNamed (behind_sign text) (name_reading text)
unfolding items_reading private_name_of
is_named text begun =
    let items = name_items is_identifier_start text in
    let read : behind_sign text ≡ private_name_of items (number_sign ∷ text) = rw begun refl in
    subst (λ r. IsNamed r (name_reading text)) (sym read) (record {
      kind = refl;
      left = refl;
      escaped = refl;
      separator = refl;
      value = name_value_told (contains_escape items) (items_value items) 1
          (1 + length (encode_utf8_all (items_text items)))
          ∙ sym (name_value_told (contains_escape items) (items_value items) 0
          (length (encode_utf8_all (items_text items))));
      diagnostics = items_report_moved 1 0 items;
    })

-- so what is reported is the same where it stands
private_told : (start place : ℕ) (text : List ℕ) → begins_name text ≡ true → start + 1 ≡ place
    → reported_at start (behind_sign text) ≡ reported_at place (name_reading text)
private_told start place text begun at =
    ap (moved_diagnostics start) (is_named text begun).diagnostics
    ∙ moved_twice start 1 (name_reading text).diagnostics
    ∙ ap (λ n. moved_diagnostics n (name_reading text).diagnostics) at

-- a private name, of which the name was read
pub private_spelled : (old new : At) (before after : List Diagnostic) (was now : TokenParts) (spelt : Spelt)
    → begins_name (rest old) ≡ true → Spells (name_reading (rest old)) old.place old new before after was now spelt
    → (start : ℕ) → start + 1 ≡ old.place
    → Spells (behind_sign (rest old)) start old new before after was now
    (record { kind = PrivateIdentifier; value = spelt.value })
private_spelled old new before after was now spelt begun name start at =
    let named = is_named (rest old) begun in
    record {
      read = record {
        text = name.read.text;
        kind_is = named.kind;
        left = named.left ∙ name.read.left;
        reports = name.read.reports
            ∙ ap (λ ds. before ++ ds) (sym (private_told start old.place (rest old) begun at));
      };
      value = name.value ∙ sym named.value;
      flags = name.flags
          ∙ ap (λ e. record was { escaped = e; has_separator = (name_reading (rest old)).has_separator })
          (sym named.escaped)
          ∙ ap (λ s. record was { escaped = (behind_sign (rest old)).escaped; has_separator = s })
          (sym named.separator);
    }

pub private_broken : (old new : At) (before after : List Diagnostic) → begins_name (rest old) ≡ true
    → BreaksOff (reported_at old.place (name_reading (rest old))) old new before after
    → (start : ℕ) → start + 1 ≡ old.place
    → BreaksOff (reported_at start (behind_sign (rest old))) old new before after
private_broken old new before after begun broken start at =
    rw (private_told start old.place (rest old) begun at) broken

-- where a character of the class is next, a name begins
pub start_begins : (b : ℕ) (cs : List ℕ) → b < 128 → HasFirstByte b cs → is_identifier_start b ≡ true
    → begins_name cs ≡ true
start_begins b [] small first is = absurd first
start_begins b (c ∷ cs) small first is =
    either_way (is_identifier_start c) (c == backslash) (ap is_identifier_start (first.0 small) ∙ is)
  where
    either_way : (x y : Bool) → x ≡ true → (x || y) ≡ true
    either_way true y e = refl
    either_way false y e = absurd (cc)

-- and where none is, none does
pub no_start_begins : (b : ℕ) (cs : List ℕ) → HasFirstByte b cs
    → (128 ≤ b) ⊎ (is_identifier_start b ≡ false)
    → begins (λ c. nat_lt c 128 && is_identifier_start c) cs ≡ false
no_start_begins b [] first other = absurd first
no_start_begins b (c ∷ cs) first other = by_test (nat_lt c 128) refl
  where
    by_test : (x : Bool) → nat_lt c 128 ≡ x → (x && is_identifier_start c) ≡ false
    by_test false e = refl
    by_test true e =
        let small = ltb-true c 128 e in
        let same : c ≡ b = first.1 small in
        elim other [
          | inl wide ↦ absurd (omega (arith, same, small, wide))
          | inr none ↦ ap is_identifier_start same ∙ none
        ]

-- a private name without an escape
pub unescaped_private : (old new : At) (kind : Kind) → begins_name (rest old) ≡ true → SpellsUnescapedName old new kind
    → SpellsUnescapedPrivateName old new PrivateIdentifier
unescaped_private old new kind begun spells start at errors token =
    private_spelled old new errors errors token (record token { escaped = false; has_separator = false })
    (record { kind = kind; value = Plain }) begun (spells errors token) start at
