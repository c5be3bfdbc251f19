-- What follows a number.
use Rattle.std.proofs.Common.{◌+◌}
use Rattle.std.proofs.Common.{◌≡◌, ℕ, Bool, true, false, List, [], ◌∷◌, ◌++◌, drop, sym, ◌∙◌, ap, inl, inr}
use Rattle.std.proofs.Common.{append_assoc, append-nil, arith, ◌≤◌}
use Rattle.js_text.specs.Characters.{begins, before_first}
use Rattle.js_text.specs.declared.diagnostic.Diagnostic.{Diagnostic}
use Rattle.js_text.specs.declared.diagnostic.Diagnostic.TheVariants.{InvalidNumberEnd}
use Rattle.js_source.specs.Source.{At, rest, BeginsWith, StepsPast}
use Rattle.js_grammar.specs.Reading.{Reading, moved_diagnostic, moved_diagnostics, place_behind, reported_at}
use Rattle.js_grammar.specs.Number.{may_not_follow_number}
use Rattle.js_grammar.specs.NumberReads.{is_no_start, invalid_end, invalid_number_end, number_items, items_text}
use Rattle.js_grammar.specs.NumberReads.{badly_ended, missing_digits, Items, number_reading}
use Rattle.js_grammar.specs.Number.{Item}
use Rattle.js_grammar.proofs.Moved.{missing_digits_moved, number_end_moved}
use Rattle.js_kind.specs.TokenParts.{TokenParts}
use Rattle.js_spell.specs.Spells.{Spells, spelt_value}
use Rattle.js_spell.specs.declared.spelt.SpeltValue.TheVariants.{Plain}
use Rattle.std.proofs.lemmas.List.{map-append}
use Rattle.std.proofs.Common.{add-zero}
use Rattle.js_grammar.proofs.NumberItems.{true_or_false}
use Rattle.js_grammar.proofs.NumberReadings.{number_flags}
use Rattle.js_grammar.proofs.NumberSteps.{read_well, read_badly}
use Rattle.js_kind.specs.declared.kind.Kind.{Kind}
use Rattle.js_kind.specs.declared.kind.Kind.TheVariants.{Eof}
use Rattle.js_spell.specs.Breaks.{BreaksOff}
use Rattle.js_spell.specs.Numeric.{ReadsBadEnd, ReadsCut, ReadsNumber}
use Rattle.js_spell.proofs.BreakSteps.{broken_before, broken_behind}
use Rattle.js_spell.proofs.NumericSteps.{leads_to}

split : (c : ℕ) (cs : List ℕ) → BeginsWith c cs → cs ≡ c ∷ drop 1 cs
split c [] h = absurd h
split c (d ∷ ds) h = ap (λ e. e ∷ ds) h

-- the characters that may not follow, and what is reported over them
pub bad_end_read : (old mid skipped new : At) (before after : List Diagnostic) (c start end : ℕ)
    → BeginsWith c (rest old) → StepsPast old mid → may_not_follow_number c ≡ true → skipped.text ≡ mid.text
    → rest mid ≡ before_first is_no_start (rest mid) ++ rest skipped → new.text ≡ skipped.text → rest new ≡ []
    → start ≡ old.place → end ≡ skipped.place
    → after ≡ before ++ (InvalidNumberEnd (record { start = start; end = end }) ∷ [])
    → ReadsBadEnd old new before after true
bad_end_read old mid skipped new before after c start end first past bad moved passed ended nothing s e reports =
    let step = past c (drop 1 (rest old)) (split c (rest old) first) in
    let here : rest old ≡ c ∷ rest mid = split c (rest old) first ∙ ap (λ t. c ∷ t) (sym step.1) in
    let xs : List ℕ = c ∷ before_first is_no_start (rest mid) in
    let whole : rest old ≡ xs ++ rest skipped = here ∙ ap (λ t. c ∷ t) passed in
    let place = leads_to old skipped xs (moved ∙ step.0) whole in
    let over : xs ≡ invalid_end (rest old) = ap invalid_end (sym here) in
    let from : InvalidNumberEnd (record { start = start; end = end })
    ≡ InvalidNumberEnd (record { start = old.place; end = end }) =
    ap (λ (p : ℕ). InvalidNumberEnd (record { start = p; end = end })) s in
    let to : InvalidNumberEnd (record { start = old.place; end = end }) ≡ invalid_number_end old.place (rest old) =
    ap (λ (q : ℕ). InvalidNumberEnd (record { start = old.place; end = q }))
    (e ∙ place ∙ ap (place_behind old.place) over) in (
      ap (begins may_not_follow_number) here ∙ bad,
      ended ∙ moved ∙ step.0,
      nothing,
      reports ∙ ap (λ (d : Diagnostic). before ++ (d ∷ [])) (from ∙ to),
    )

-- what is reported of the items at their place
digits_at : (place : ℕ) (items : List Item)
    → missing_digits place items ≡ moved_diagnostics place (missing_digits 0 items)
digits_at place items = ap (λ n. missing_digits n items) (sym (add-zero place)) ∙ missing_digits_moved place 0 items

-- a number that ends well
pub good_number_read : (old mid new : At) (before during after : List Diagnostic) (g : Bool) (kind : Kind)
    → ReadsCut old mid before during false g kind (number_items (rest old)) → ReadsBadEnd mid new during after false
    → ReadsNumber old new before after kind g
good_number_read old mid new before during after g kind cut end =
    let number = number_items (rest old) in
    let well = read_well (rest old) number (ap (begins may_not_follow_number) cut.left ∙ end.0) in
    record {
      read = record {
        text = ap (λ (a : At). a.text) end.1 ∙ cut.text;
        kind_is = ap (λ (r : Reading). r.kind) well ∙ cut.kind_is;
        left = ap (λ (r : Reading). r.rest) well ∙ cut.left ∙ ap rest (sym end.1);
        reports = end.2 ∙ cut.reports ∙ ap (λ ds. before ++ ds) (digits_at old.place number.items)
            ∙ ap (λ r. before ++ reported_at old.place r) (sym well);
      };
      separator = ap (λ (r : Reading). r.has_separator) well ∙ sym cut.separator;
    }

-- what is reported of a number that something follows which may not
bad_end_at : (place : ℕ) (text : List ℕ) (number : Items)
    → missing_digits place number.items
    ++ invalid_number_end (place_behind place (items_text number.items)) number.rest ∷ []
    ≡ reported_at place (badly_ended text number)
bad_end_at place text number =
    let end : place_behind place (items_text number.items) ≡ place + place_behind 0 (items_text number.items) =
    omega arith in
    ap (λ ds. ds ++ invalid_number_end (place_behind place (items_text number.items)) number.rest ∷ [])
    (digits_at place number.items)
    ∙ ap (λ d. moved_diagnostics place (missing_digits 0 number.items) ++ d ∷ [])
    (ap (λ n. invalid_number_end n number.rest) end
    ∙ number_end_moved place (place_behind 0 (items_text number.items)) number.rest)
    ∙ sym
    (map-append (moved_diagnostic place) (missing_digits 0 number.items)
    (invalid_number_end (place_behind 0 (items_text number.items)) number.rest ∷ []))

-- and one that does not
pub bad_number_read : (old mid new : At) (before during after : List Diagnostic) (g : Bool) (kind : Kind)
    → ReadsCut old mid before during false g kind (number_items (rest old)) → ReadsBadEnd mid new during after true
    → ReadsNumber old new before after Eof g
bad_number_read old mid new before during after g kind cut end =
    let number = number_items (rest old) in
    let bad = read_badly (rest old) number (ap (begins may_not_follow_number) cut.left ∙ end.0) in
    let first = missing_digits old.place number.items in
    let place : mid.place ≡ place_behind old.place (items_text number.items) =
    elim cut.here [
      | inl none ↦
          (let not : begins may_not_follow_number (rest mid) ≡ false = ap (begins may_not_follow_number) none in
          absurd (clash (rest mid) end.0 not))
      | inr here ↦ leads_to old mid (items_text number.items) cut.text here
    ] in
    record {
      read = record {
        text = end.1 ∙ cut.text;
        kind_is = ap (λ (r : Reading). r.kind) bad;
        left = ap (λ (r : Reading). r.rest) bad ∙ sym end.2;
        reports = end.3 ∙ ap (λ t. t ++ (invalid_number_end mid.place (rest mid) ∷ [])) cut.reports
            ∙ append_assoc before first (invalid_number_end mid.place (rest mid) ∷ [])
            ∙ ap (λ n. before ++ (first ++ invalid_number_end n (rest mid) ∷ [])) place
            ∙ ap (λ t. before ++ (first
            ++ invalid_number_end (place_behind old.place (items_text number.items)) t ∷ [])) (sym cut.left)
            ∙ ap (λ ds. before ++ ds) (bad_end_at old.place (rest old) number)
            ∙ ap (λ r. before ++ reported_at old.place r) (sym bad);
      };
      separator = ap (λ (r : Reading). r.has_separator) bad ∙ sym cut.separator;
    }
  where
    clash : (cs : List ℕ) → begins may_not_follow_number cs ≡ true → begins may_not_follow_number cs ≡ false → ⊥
    clash cs a b = cc

-- The token of a number has no flag but for the separator, and its value is where it stands.
pub number_spells : (old new : At) (before after : List Diagnostic) (was now : TokenParts) (kind : Kind) (g : Bool)
    → ReadsNumber old new before after kind g → now ≡ record was { escaped = false; has_separator = g }
    → Spells (number_reading (rest old)) old.place old new before after was now
    (record { kind = kind; value = Plain })
number_spells old new before after was now kind g reads flags =
    let none = number_flags (rest old) in
    record {
      read = reads.read;
      value = ap spelt_value (sym none.2);
      flags = flags
          ∙ ap (λ e. record was { escaped = e; has_separator = g }) (sym none.1)
          ∙ ap (λ s. record was { escaped = (number_reading (rest old)).escaped; has_separator = s })
          (sym reads.separator);
    }

-- What is reported of a number begins with what is reported of its items.
reports_of_number : (place : ℕ) (text : List ℕ) → (later : List Diagnostic)
    × (reported_at place (number_reading text) ≡ missing_digits place (number_items text).items ++ later)
reports_of_number place text =
    let number = number_items text in
    let first = missing_digits place number.items in
    elim (true_or_false (begins may_not_follow_number number.rest)) [
      | inl bad ↦ (
        invalid_number_end (place_behind place (items_text number.items)) number.rest ∷ [],
        ap (reported_at place) (read_badly text number bad) ∙ sym (bad_end_at place text number),
      )
      | inr good ↦ (
        [],
        ap (reported_at place) (read_well text number good) ∙ sym (digits_at place number.items)
            ∙ sym (append-nil first),
      )
    ]

-- The items of a number broke off.
pub number_broken : (old new : At) (before after : List Diagnostic)
    → BreaksOff (missing_digits old.place (number_items (rest old)).items) old new before after
    → BreaksOff (reported_at old.place (number_reading (rest old))) old new before after
number_broken old new before after broken =
    let found = reports_of_number old.place (rest old) in
    broken_before (reported_at old.place (number_reading (rest old)))
    (missing_digits old.place (number_items (rest old)).items) found.0 old new before after found.1 broken

-- where items were read, the source stands no further back
cut_onward : (old new : At) (before after : List Diagnostic) (f g : Bool) (kind : Kind) (number : Items)
    → ReadsCut old new before after f g kind number → old.place ≤ new.place
cut_onward old new before after f g kind number cut =
    elim cut.here [
      | inl none ↦
          omega (
            arith,
            leads_to old new (rest old) cut.text
                (sym (append-nil (rest old)) ∙ ap (λ t. rest old ++ t) (sym none)),
          )
      | inr here ↦ omega (arith, leads_to old new (items_text number.items) cut.text here)
    ]

-- Its items were read, and then its end broke off, which has reported nothing.
pub number_end_broken : (old mid new : At) (before during after : List Diagnostic) (g : Bool) (kind : Kind)
    → ReadsCut old mid before during false g kind (number_items (rest old)) → BreaksOff [] mid new during after
    → BreaksOff (reported_at old.place (number_reading (rest old))) old new before after
number_end_broken old mid new before during after g kind cut broken =
    let told = missing_digits old.place (number_items (rest old)).items in
    number_broken old new before after
    (broken_behind told [] told old mid new before during after cut.text
    (cut_onward old mid before during false g kind (number_items (rest old)) cut) cut.reports
    (sym (append-nil told)) broken)
