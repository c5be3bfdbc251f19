-- The steps of reading digits without separators.
use Rattle.std.proofs.Common.{◌≡◌, ℕ, Bool, true, false, ◌&&◌, ◌||◌, ◌==◌, List, [], ◌∷◌, ◌++◌, refl, sym, ◌∙◌, ap}
use Rattle.std.proofs.Common.{arith, append_assoc}
use Rattle.js_text.specs.Ascii.{low_line}
use Rattle.js_text.specs.Characters.{begins, from_place}
use Rattle.js_text.specs.declared.diagnostic.Diagnostic.{Diagnostic}
use Rattle.js_source.specs.Source.{At, rest}
use Rattle.js_source.specs.Search.{matches_at}
use Rattle.js_source.specs.Runs.{IsRun, PassesRun, TellsClass}
use Rattle.js_grammar.specs.Number.{Item, whole, are_digits}
use Rattle.js_kind.specs.Digits.{is_digit_of}
use Rattle.js_grammar.specs.NumberReads.{contains_separator, unseparated_digits, legacy_items, items-cons, last_item}
use Rattle.js_grammar.specs.NumberReads.{behind_digits, missing_digits}
use Rattle.js_grammar.proofs.NumberCuts.{unseparated_digits_append, octal_digits}
use Rattle.js_grammar.proofs.NumberSteps.{legacy_octal_items, legacy_decimal_items}
use Rattle.js_kind.specs.declared.kind.Kind.{Kind}
use Rattle.js_kind.specs.declared.kind.Kind.TheVariants.{Octal}
use Rattle.js_spell.specs.Numeric.{PassesUnseparatedDigits, ReadsEnd}
use Rattle.js_spell.specs.Breaks.{BreaksOff}
use Rattle.js_spell.proofs.NumericSteps.{items_broken}
use Rattle.js_spell.proofs.NumericSteps.{any_append, no_separator, stops_digits, items_append, whole_item_read}

-- digits of a table
run_digits : (radix : ℕ) (table : List Bool) (xs : List ℕ) → TellsClass (is_digit_of radix) table → IsRun table xs
    → are_digits radix xs ≡ true
run_digits radix table [] tells h = refl
run_digits radix table (b ∷ bs) tells h =
    let digit : is_digit_of radix b ≡ true = sym (tells.tells b h.0) ∙ h.1 in
    rw digit (run_digits radix table bs tells h.2)

digits_append : (radix : ℕ) (xs ys : List ℕ)
    → are_digits radix (xs ++ ys) ≡ (are_digits radix xs && are_digits radix ys)
digits_append radix [] ys = refl
digits_append radix (x ∷ xs) ys =
    ap (λ b. is_digit_of radix x && b) (digits_append radix xs ys)
    ∙ and_assoc (is_digit_of radix x) (are_digits radix xs) (are_digits radix ys)
  where
    and_assoc : (a b c : Bool) → (a && (b && c)) ≡ ((a && b) && c)
    and_assoc true b c = refl
    and_assoc false b c = refl

-- a run that begins with a digit that is not octal
not_octal : (xs ys : List ℕ) → begins (is_digit_of 10) (xs ++ ys) ≡ true → begins (is_digit_of 10) ys ≡ false
    → begins (is_digit_of 8) (xs ++ ys) ≡ false
    → are_digits 8 xs ≡ false
not_octal [] ys digit none other = absurd (cc)
not_octal (x ∷ xs) ys digit none other = rw other refl

module _ (octal : List Bool) (old mid : At) (tells : TellsClass (is_digit_of 8) octal)
    (text : mid.text ≡ old.text) (run : PassesRun octal old.text old.place mid.place) where
  first_here : rest old ≡ run.run ++ rest mid
  first_here = run.here ∙ ap (λ t. run.run ++ from_place t mid.place) (sym text)

  pub passes_octal : begins (is_digit_of 10) (rest mid) ≡ false → PassesUnseparatedDigits old true mid
  passes_octal none = record {
    text = text;
    characters = run.run;
    here = first_here;
    item =
        ap unseparated_digits first_here
        ∙ unseparated_digits_append run.run (rest mid) (octal_digits run.run
        (run_digits 8 octal run.run tells run.all)) none;
    octal = run_digits 8 octal run.run tells run.all;
    separator = no_separator 8 octal run.run (omega arith) tells run.all;
  }

  pub passes_decimal : (decimal : List Bool) → TellsClass (is_digit_of 10) decimal → (new : At) → new.text ≡ mid.text
      → (more : PassesRun decimal mid.text mid.place new.place)
      → begins (matches_at octal) (rest mid) ≡ false → begins (is_digit_of 10) (rest mid) ≡ true
      → begins (matches_at decimal) (rest new) ≡ false
      → PassesUnseparatedDigits old false new
  passes_decimal decimal told new moved more stops digit end =
      let later : rest mid ≡ more.run ++ rest new =
      more.here ∙ ap (λ t. more.run ++ from_place t new.place) (sym moved) in
      let here : rest old ≡ (run.run ++ more.run) ++ rest new =
      first_here ∙ ap (λ t. run.run ++ t) later ∙ sym (append_assoc run.run more.run (rest new)) in
      let none = stops_digits 10 decimal (rest new) (omega arith) told end in
      let other = stops_digits 8 octal (rest mid) (omega arith) tells stops in
      let first = octal_digits run.run (run_digits 8 octal run.run tells run.all) in
      let all : are_digits 10 (run.run ++ more.run) ≡ true =
      digits_append 10 run.run more.run ∙ ap (λ b. b && are_digits 10 more.run) first
      ∙ run_digits 10 decimal more.run told more.all in
      let some : are_digits 8 more.run ≡ false =
      not_octal more.run (rest new) (ap (begins (is_digit_of 10)) (sym later) ∙ digit) none
      (ap (begins (is_digit_of 8)) (sym later) ∙ other) in
      record {
        text = moved ∙ text;
        characters = run.run ++ more.run;
        here = here;
        item = ap unseparated_digits here ∙ unseparated_digits_append (run.run ++ more.run) (rest new) all none;
        octal =
            digits_append 8 run.run more.run
            ∙ ap (λ b. b && are_digits 8 more.run) (run_digits 8 octal run.run tells run.all) ∙ some;
        separator =
            any_append (λ c. c == low_line) run.run more.run
            ∙ ap (λ b. b || contains_separator more.run) (no_separator 8 octal run.run (omega arith) tells run.all)
            ∙ no_separator 10 decimal more.run (omega arith) told more.all;
      }

-- a number that begins with `0` and a digit
pub legacy_octal_read : (old new : At) (reports : List Diagnostic) (flag : Bool) → PassesUnseparatedDigits old true new
    → ReadsEnd old new reports reports flag flag Octal (legacy_items (rest old))
legacy_octal_read old new reports flag p =
    let octal : are_digits 8 (unseparated_digits (rest old)).text ≡ true =
    ap (λ (i : Item). are_digits 8 i.text) p.item ∙ p.octal in
    let found : legacy_items (rest old) ≡ last_item Octal (whole p.characters (rest new)) =
    legacy_octal_items (rest old) octal ∙ ap (last_item Octal) p.item in
    rw found (record {
      items = whole_item_read old new reports flag p.characters (rest new) p.text p.here p.separator;
      left = refl;
      kind_is = refl;
    })

pub legacy_decimal_read : (old mid new : At) (before after : List Diagnostic) (f g : Bool) (kind : Kind)
    → PassesUnseparatedDigits old false mid → ReadsEnd mid new before after f g kind (behind_digits (rest mid))
    → ReadsEnd old new before after f g kind (legacy_items (rest old))
legacy_decimal_read old mid new before after f g kind passed end =
    let some : are_digits 8 (unseparated_digits (rest old)).text ≡ false =
    ap (λ (i : Item). are_digits 8 i.text) passed.item ∙ passed.octal in
    let found : legacy_items (rest old) ≡ items-cons (whole passed.characters (rest mid)) (behind_digits (rest mid)) =
    legacy_decimal_items (rest old) some ∙ ap (λ (i : Item). items-cons i (behind_digits i.rest)) passed.item in
    rw found (record {
      items =
          items_append old mid new before before after f f g (whole passed.characters (rest mid) ∷ [])
          (behind_digits (rest mid)).items
          (whole_item_read old mid before f passed.characters (rest mid) passed.text passed.here passed.separator)
          end.items;
      left = end.left;
      kind_is = end.kind_is;
    })

pub legacy_broken : (old mid new : At) (before after : List Diagnostic) → PassesUnseparatedDigits old false mid
    → BreaksOff (missing_digits mid.place (behind_digits (rest mid)).items) mid new before after
    → BreaksOff (missing_digits old.place (legacy_items (rest old)).items) old new before after
legacy_broken old mid new before after passed broken =
    let some : are_digits 8 (unseparated_digits (rest old)).text ≡ false =
    ap (λ (i : Item). are_digits 8 i.text) passed.item ∙ passed.octal in
    let found : legacy_items (rest old) ≡ items-cons (whole passed.characters (rest mid)) (behind_digits (rest mid)) =
    legacy_decimal_items (rest old) some ∙ ap (λ (i : Item). items-cons i (behind_digits i.rest)) passed.item in
    rw found
    (items_broken old mid new before before after false false (whole passed.characters (rest mid) ∷ [])
    (behind_digits (rest mid)).items
    (whole_item_read old mid before false passed.characters (rest mid) passed.text passed.here passed.separator)
    broken)
