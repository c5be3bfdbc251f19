-- The steps of reading a number.
use Rattle.std.proofs.Common.{◌≡◌, ℕ, ◌<◌, ◌≤◌, Bool, true, false, ◌||◌, ◌==◌, ltb, List, [], ◌∷◌, ◌++◌}
use Rattle.std.proofs.Common.{length, drop, refl, sym, ◌∙◌, ap, subst, arith, inl, inr}
use Rattle.std.proofs.Common.{append_assoc, add-zero}
use Rattle.std.proofs.lemmas.List.{append-nil}
use Rattle.std.specs.List.{list_any}
use Rattle.std.specs.Prelude.{codes, IfOk, Result, Ok, Err}
use Rattle.std.proofs.lemmas.Bool.{ltb-true, ltb-false, eqb-true}
use Rattle.std.proofs.lemmas.Bool.Decides.{nat_tests}
use Rattle.js_text.specs.Ascii.{full_stop, low_line}
use Rattle.js_text.specs.Characters.{begins, from_place}
use Rattle.js_source.specs.Source.{At, rest, HasFirstByte, Reads}
use Rattle.js_text.proofs.TextLemmas.{place_past}
use Rattle.js_text.specs.declared.diagnostic.Diagnostic.{Diagnostic}
use Rattle.std.specs.Str.{IsCharBoundary}
use Rattle.js_grammar.specs.Reading.{place_behind}
use Rattle.js_grammar.proofs.Reported.{place_behind-append}
use Rattle.js_kind.specs.declared.kind.Kind.{Kind}
use Rattle.js_kind.specs.declared.kind.Kind.TheVariants.{Float, DecimalBigInt}
use Rattle.js_kind.specs.declared.kind.Kind.TheVariants as variant
use Rattle.js_grammar.specs.Number.Sign.{no_sign, plus, minus}
use Rattle.js_grammar.proofs.NumberSteps.{run_there, run_missing, integer_zero, integer_run, suffix_there}
use Rattle.js_grammar.proofs.NumberSteps.{suffix_missing, exponent_there, exponent_missing, fraction_there}
use Rattle.js_grammar.proofs.NumberSteps.{fraction_missing, behind_digits_point, behind_digits_other}
use Rattle.js_source.specs.Search.{matches_at}
use Rattle.js_source.specs.Runs.{IsRun, PassesRun, TellsClass}
use Rattle.js_grammar.specs.Number.{Item, whole, broken, item-cons, digits_on, run, integer, digit_zero}
use Rattle.js_kind.specs.Digits.{is_digit_of}
use Rattle.js_grammar.specs.Number.{Sign, sign_text, sign_kind, is_exponent_indicator}
use Rattle.js_grammar.specs.NumberReads.{contains_separator, missing_digit, missing_digits, items_text, sign_of}
use Rattle.js_grammar.specs.NumberReads.{exponent_or, exponent_items, items-cons, last_item, fraction_items}
use Rattle.js_grammar.specs.NumberReads.{point_items, behind_digits, decimal_items, suffix_or, Items}
use Rattle.js_grammar.proofs.NumberClasses.{digit_is_ascii, digit_more, is_exponent}
use Rattle.js_grammar.proofs.NumberItems.{stopped, true_or_false}
use Rattle.js_spell.specs.Numeric.{radix_of_digits, prepend, item_behind, passed_separator, PassesDigits}
use Rattle.js_spell.specs.Breaks.{BreaksOff}
use Rattle.js_spell.proofs.BreakSteps.{broken_behind, broken_first, unreported}
use Rattle.js_spell.specs.Numeric.{PassesGroups, ReadsRun, ReadsItems, ReadsPart, ReadsInteger, ReadsEnd}
use Rattle.js_spell.specs.Numeric.{TakesExponentIndicator, TakesSign}
use Rattle.js_spell.specs.declared.digits.Digits.{Digits}
use Rattle.js_spell.specs.declared.digits.Digits.TheVariants.{Binary, Octal, Decimal, Hex}
use Rattle.js_spell.specs.declared.numeric.Passed.{Passed}
use Rattle.js_spell.specs.declared.numeric.Passed.TheVariants.{Whole, Separator, Broken}

pub radix_is_small : (digits : Digits) → radix_of_digits digits ≤ 16
radix_is_small Binary = omega arith
radix_is_small Octal = omega arith
radix_is_small Decimal = omega arith
radix_is_small Hex = omega arith

-- a character beyond ASCII is no digit
pub wide_is_no_digit : (radix c : ℕ) → radix ≤ 16 → 128 ≤ c → is_digit_of radix c ≡ false
wide_is_no_digit radix c small h =
    elim (true_or_false (is_digit_of radix c)) [
      | inl is ↦ (let low = digit_is_ascii c (digit_more radix 16 c small is) in absurd (omega arith))
      | inr none ↦ none
    ]

-- the table tells whether a digit is next
pub first_digit : (radix : ℕ) (table : List Bool) (b : ℕ) (cs : List ℕ) → radix ≤ 16
    → TellsClass (is_digit_of radix) table → HasFirstByte b cs
    → matches_at table b ≡ begins (is_digit_of radix) cs
first_digit radix table b [] small tells h = absurd h
first_digit radix table b (c ∷ cs) small tells h =
    elim (true_or_false (ltb b 128)) [
      | inl low ↦ (
          let lt : b < 128 = ltb-true b 128 low in
          tells.tells b lt ∙ ap (is_digit_of radix) (sym (h.0 lt)))
      | inr wide ↦ (
          let ge : 128 ≤ b = ltb-false b 128 wide in
          elim (true_or_false (ltb c 128)) [
            | inl low ↦
                (let is : c ≡ b = h.1 (ltb-true c 128 low) in let lt : c < 128 = ltb-true c 128 low in
                absurd (omega arith))
            | inr far ↦ tells.ascii b ge ∙ sym (wide_is_no_digit radix c small (ltb-false c 128 far))
          ])
    ]

pub stops_digits : (radix : ℕ) (table : List Bool) (cs : List ℕ) → radix ≤ 16 → TellsClass (is_digit_of radix) table
    → begins (matches_at table) cs ≡ false → begins (is_digit_of radix) cs ≡ false
stops_digits radix table [] small tells e = refl
stops_digits radix table (c ∷ cs) small tells e =
    elim (true_or_false (ltb c 128)) [
      | inl low ↦ sym (tells.tells c (ltb-true c 128 low)) ∙ e
      | inr wide ↦ wide_is_no_digit radix c small (ltb-false c 128 wide)
    ]

separator_is_no_digit : (radix : ℕ) → radix ≤ 16 → is_digit_of radix 95 ≡ false
unfolding is_digit_of
separator_is_no_digit radix small = grind (arith, nat_tests)

digit_is_no_separator : (radix b : ℕ) → radix ≤ 16 → is_digit_of radix b ≡ true → (b == low_line) ≡ false
digit_is_no_separator radix b small e =
    elim (true_or_false (b == low_line)) [
      | inl is ↦ (
          let none : is_digit_of radix b ≡ false =
          ap (is_digit_of radix) (eqb-true b low_line is) ∙ separator_is_no_digit radix small in
          absurd (cc))
      | inr other ↦ other
    ]

-- digits of the table, and what stands behind them
digits_run : (radix : ℕ) (table : List Bool) (xs ys : List ℕ) → radix ≤ 16 → TellsClass (is_digit_of radix) table
    → IsRun table xs → digits_on radix (xs ++ ys) ≡ prepend xs (digits_on radix ys)
digits_run radix table [] ys small tells h = refl
digits_run radix table (b ∷ bs) ys small tells h =
    let digit : is_digit_of radix b ≡ true = sym (tells.tells b h.0) ∙ h.1 in
    rw digit (ap (item-cons b) (digits_run radix table bs ys small tells h.2))

pub no_separator : (radix : ℕ) (table : List Bool) (xs : List ℕ) → radix ≤ 16 → TellsClass (is_digit_of radix) table
    → IsRun table xs → contains_separator xs ≡ false
no_separator radix table [] small tells h = refl
no_separator radix table (b ∷ bs) small tells h =
    let digit : is_digit_of radix b ≡ true = sym (tells.tells b h.0) ∙ h.1 in
    rw (digit_is_no_separator radix b small digit) (no_separator radix table bs small tells h.2)

pub any_append : (p : ℕ → Bool) (xs ys : List ℕ) → list_any p (xs ++ ys) ≡ (list_any p xs || list_any p ys)
any_append p [] ys = refl
any_append p (x ∷ xs) ys = ap (λ b. p x || b) (any_append p xs ys) ∙ or_assoc (p x) (list_any p xs) (list_any p ys)
  where
    or_assoc : (a b c : Bool) → (a || (b || c)) ≡ ((a || b) || c)
    or_assoc true b c = refl
    or_assoc false b c = refl

-- where a `_` stands
separator_goes_on : (radix : ℕ) (ys : List ℕ) → radix ≤ 16 → begins (is_digit_of radix) ys ≡ true
    → digits_on radix (low_line ∷ ys) ≡ item-cons low_line (digits_on radix ys)
separator_goes_on radix ys small e = rw (separator_is_no_digit radix small, e) refl

separator_breaks : (radix : ℕ) (ys : List ℕ) → radix ≤ 16 → begins (is_digit_of radix) ys ≡ false
    → digits_on radix (low_line ∷ ys) ≡ broken (low_line ∷ []) ys
separator_breaks radix ys small e = rw (separator_is_no_digit radix small, e) refl

module _ (radix : ℕ) (table : List Bool) (old mid : At) (small : radix ≤ 16)
    (tells : TellsClass (is_digit_of radix) table) (text : mid.text ≡ old.text)
    (run : PassesRun table old.text old.place mid.place) where
  run_here : rest old ≡ run.run ++ rest mid
  run_here = run.here ∙ ap (λ t. run.run ++ from_place t mid.place) (sym text)

  behind_run : digits_on radix (rest old) ≡ prepend run.run (digits_on radix (rest mid))
  behind_run = ap (digits_on radix) run_here ∙ digits_run radix table run.run (rest mid) small tells run.all

  one_more : (new : At) → Reads mid new low_line → rest old ≡ (run.run ++ (low_line ∷ [])) ++ rest new
  one_more new read =
      run_here ∙ ap (λ t. run.run ++ t) read.here ∙ sym (append_assoc run.run (low_line ∷ []) (rest new))

  with_separator : contains_separator (run.run ++ (low_line ∷ [])) ≡ true
  with_separator =
      any_append (λ c. c == low_line) run.run (low_line ∷ [])
      ∙ ap (λ b. b || true) (no_separator radix table run.run small tells run.all)

  -- no `_` follows
  pub passes_whole : begins (matches_at table) (rest mid) ≡ false → begins (λ c. c == low_line) (rest mid) ≡ false
      → PassesDigits radix old Whole mid
  passes_whole end none = record {
    text = text;
    characters = run.run;
    here = run_here;
    item =
        behind_run
        ∙ ap (prepend run.run)
        (stopped radix (rest mid)
        (record { digit = stops_digits radix table (rest mid) small tells end; separator = none }))
        ∙ ap (λ xs. whole xs (rest mid)) (append-nil run.run);
    separator = no_separator radix table run.run small tells run.all;
  }

  -- a `_` follows, and a digit
  pub passes_separator : (new : At) → Reads mid new low_line → begins (is_digit_of radix) (rest new) ≡ true
      → PassesDigits radix old Separator new
  passes_separator new read digit = record {
    text = read.text ∙ text;
    characters = run.run ++ (low_line ∷ []);
    here = one_more new read;
    item =
        behind_run
        ∙ ap (λ t. prepend run.run (digits_on radix t)) read.here
        ∙ ap (prepend run.run) (separator_goes_on radix (rest new) small digit)
        ∙ ap (λ xs. record (digits_on radix (rest new)) { text = xs })
        (sym (append_assoc run.run (low_line ∷ []) (digits_on radix (rest new)).text));
    separator = with_separator;
  }

  -- a `_` follows, and no digit
  pub passes_broken : (new : At) → Reads mid new low_line → begins (is_digit_of radix) (rest new) ≡ false
      → PassesDigits radix old Broken new
  passes_broken new read none = record {
    text = read.text ∙ text;
    characters = run.run ++ (low_line ∷ []);
    here = one_more new read;
    item =
        behind_run
        ∙ ap (λ t. prepend run.run (digits_on radix t)) read.here
        ∙ ap (prepend run.run) (separator_breaks radix (rest new) small none);
    separator = with_separator;
  }

prepend_behind : (passed : Passed) (radix : ℕ) (xs ys left : List ℕ)
    → prepend xs (item_behind passed radix ys left) ≡ item_behind passed radix (xs ++ ys) left
prepend_behind Whole radix xs ys left = refl
prepend_behind Separator radix xs ys left =
    ap (λ t. record (digits_on radix left) { text = t }) (sym (append_assoc xs ys (digits_on radix left).text))
prepend_behind Broken radix xs ys left = refl

pub groups_go_on : (radix : ℕ) (old mid new : At) (passed : Passed) (before flag after : Bool)
    → PassesGroups radix old Separator mid before flag
    → PassesDigits radix mid passed new → after ≡ (flag || passed_separator passed)
    → PassesGroups radix old passed new before after
groups_go_on radix old mid new passed before flag after groups digits e =
    record {
      text = digits.text ∙ groups.text;
      characters = groups.characters ++ digits.characters;
      here =
          groups.here ∙ ap (λ t. groups.characters ++ t) digits.here
          ∙ sym (append_assoc groups.characters digits.characters (rest new));
      item =
          groups.item ∙ ap (prepend groups.characters) digits.item
          ∙ prepend_behind passed radix groups.characters digits.characters (rest new);
      separator =
          e ∙ ap (λ b. flag || b) (sym digits.separator)
          ∙ ap (λ b. b || contains_separator digits.characters) groups.separator
          ∙ or_assoc before (contains_separator groups.characters) (contains_separator digits.characters)
          ∙ ap (λ b. before || b) (sym (any_append (λ c. c == low_line) groups.characters digits.characters));
    }
  where
    or_assoc : (a b c : Bool) → ((a || b) || c) ≡ (a || (b || c))
    or_assoc true b c = refl
    or_assoc false b c = refl

or_true : (b : Bool) → true ≡ (b || true)
or_true true = refl
or_true false = refl

or_false : (b : Bool) → b ≡ (b || false)
or_false true = refl
or_false false = refl

pub flag_set : (b : Bool) → true ≡ (b || passed_separator Separator)
flag_set b = or_true b

-- a place behind characters that were passed
pub leads_to : (old new : At) (xs : List ℕ) → new.text ≡ old.text
    → rest old ≡ xs ++ rest new
    → new.place ≡ place_behind old.place xs
leads_to old new xs text e =
    let there : IsCharBoundary old.text new.place =
    subst (λ (u : List ℕ). IsCharBoundary u new.place) text new.placed.boundary in
    place_past old.text old.place new.place xs old.placed.utf8 old.placed.boundary there (e ∙ ap (λ u. xs ++
    from_place u new.place) text)

-- a run, as it is read of what was passed
run_item : (radix : ℕ) (old : At) (item : Item) → begins (is_digit_of radix) (rest old) ≡ true
    → digits_on radix (rest old) ≡ item
    → run radix (rest old) ≡ item
run_item radix old item digit e = run_there radix (rest old) digit ∙ e

pub run_missing_read : (radix : ℕ) (old : At) (before after : List Diagnostic) (flag : Bool)
    → begins (is_digit_of radix) (rest old) ≡ false
    → after ≡ before ++ (missing_digit old.place (rest old) ∷ []) → ReadsRun radix old old before after flag flag false
run_missing_read radix old before after flag none e =
    let item = run_missing radix (rest old) none in
    record {
      items = record {
        text = refl;
        here = rw item refl;
        reports = rw (item, add-zero old.place) e;
        separator = rw item (or_false flag);
      };
      left = ap (λ (i : Item). i.rest) item;
      whole_run = ap (λ (i : Item). i.lacks_digit) item;
    }

pub run_whole_read : (radix : ℕ) (old new : At) (reports : List Diagnostic) (before after : Bool)
    → begins (is_digit_of radix) (rest old) ≡ true
    → PassesGroups radix old Whole new before after → ReadsRun radix old new reports reports before after true
run_whole_read radix old new reports before after digit groups =
    let item = run_item radix old (whole groups.characters (rest new)) digit groups.item in
    record {
      items = record {
        text = groups.text;
        here = rw (item, append-nil groups.characters) groups.here;
        reports = rw item (sym (append-nil reports));
        separator = rw (item, append-nil groups.characters) groups.separator;
      };
      left = ap (λ (i : Item). i.rest) item;
      whole_run = ap (λ (i : Item). i.lacks_digit) item;
    }

pub run_broken_read : (radix : ℕ) (old new : At) (reports more : List Diagnostic) (before after : Bool)
    → begins (is_digit_of radix) (rest old) ≡ true
    → PassesGroups radix old Broken new before after → more ≡ reports ++ (missing_digit new.place (rest new) ∷ [])
    → ReadsRun radix old new reports more before after false
run_broken_read radix old new reports more before after digit groups e =
    let item = run_item radix old (broken groups.characters (rest new)) digit groups.item in
    let place = leads_to old new groups.characters groups.text groups.here in
    record {
      items = record {
        text = groups.text;
        here = rw (item, append-nil groups.characters) groups.here;
        reports = rw (item, ← place) e;
        separator = rw (item, append-nil groups.characters) groups.separator;
      };
      left = ap (λ (i : Item). i.rest) item;
      whole_run = ap (λ (i : Item). i.lacks_digit) item;
    }

-- a run in which a digit is missing, where that was not reported
pub run_unreported : (radix : ℕ) (old new : At) (before after : List Diagnostic) (f g : Bool) (passed : Passed)
    → PassesGroups radix old passed new f g → after ≡ before
    → BreaksOff [] old new before after
run_unreported radix old new before after f g passed groups e =
    unreported [] old new before after groups.text
    (omega (arith, leads_to old new groups.characters groups.text groups.here)) e

-- the mark of an exponent
pub exponent_marks : (is_exponent_indicator 101 ≡ true) × (is_exponent_indicator 69 ≡ true)
unfolding is_exponent_indicator
exponent_marks = (refl, refl)

no_mark_one : (c : ℕ) → (c == 101) ≡ false → (c == 69) ≡ false → is_exponent_indicator c ≡ false
unfolding is_exponent_indicator
no_mark_one c small large = rw (small, large) refl

pub no_mark : (cs : List ℕ) → begins (λ c. c == 101) cs ≡ false → begins (λ c. c == 69) cs ≡ false
    → begins is_exponent_indicator cs ≡ false
no_mark [] small large = refl
no_mark (c ∷ cs) small large = no_mark_one c small large

-- items, one behind the other
items_text-append : (xs ys : List Item) → items_text (xs ++ ys) ≡ items_text xs ++ items_text ys
items_text-append [] ys = refl
items_text-append (x ∷ xs) ys =
    ap (λ t. x.text ++ t) (items_text-append xs ys) ∙ sym (append_assoc x.text (items_text xs) (items_text ys))

missing_digits-append : (place : ℕ) (xs ys : List Item)
    → missing_digits place (xs ++ ys)
    ≡ missing_digits place xs ++ missing_digits (place_behind place (items_text xs)) ys
missing_digits-append place [] ys = ap (λ p. missing_digits p ys) (sym (add-zero place))
missing_digits-append place (x ∷ xs) ys =
    let end = place_behind place x.text in
    let later : missing_digits end (xs ++ ys)
    ≡ missing_digits end xs ++ missing_digits (place_behind place (x.text ++ items_text xs)) ys =
    missing_digits-append end xs ys
    ∙ ap (λ p. missing_digits end xs ++ missing_digits p ys) (place_behind-append place x.text (items_text xs)) in
    elim (true_or_false x.lacks_digit) [
      | inl lacks ↦ rw lacks (ap (λ t. missing_digit end x.rest ∷ t) later)
      | inr none ↦ rw none later
    ]

pub items_append : (old mid new : At) (before during after : List Diagnostic) (f g h : Bool) (xs ys : List Item)
    → ReadsItems old mid before during f g xs → ReadsItems mid new during after g h ys
    → ReadsItems old new before after f h (xs ++ ys)
items_append old mid new before during after f g h xs ys a b =
    let place = leads_to old mid (items_text xs) a.text a.here in
    record {
      text = b.text ∙ a.text;
      here =
          a.here ∙ ap (λ t. items_text xs ++ t) b.here ∙ sym (append_assoc (items_text xs) (items_text ys) (rest new))
          ∙ ap (λ t. t ++ rest new) (sym (items_text-append xs ys));
      reports =
          b.reports ∙ ap (λ t. t ++ missing_digits mid.place ys) a.reports
          ∙ append_assoc before (missing_digits old.place xs) (missing_digits mid.place ys)
          ∙ ap (λ t. before ++ t)
          (ap (λ p. missing_digits old.place xs ++ missing_digits p ys) place
          ∙ sym (missing_digits-append old.place xs ys));
      separator =
          b.separator ∙ ap (λ flag. flag || contains_separator (items_text ys)) a.separator
          ∙ either_assoc f (contains_separator (items_text xs)) (contains_separator (items_text ys))
          ∙ ap (λ flag. f || flag)
          (sym (any_append (λ c. c == low_line) (items_text xs) (items_text ys))
          ∙ ap contains_separator (sym (items_text-append xs ys)));
    }
  where
    either_assoc : (a b c : Bool) → ((a || b) || c) ≡ (a || (b || c))
    either_assoc true b c = refl
    either_assoc false b c = refl

-- no item
pub no_items_read : (old : At) (reports : List Diagnostic) (flag : Bool)
    → ReadsItems old old reports reports flag flag []
no_items_read old reports flag =
    record { text = refl; here = refl; reports = sym (append-nil reports); separator = or_false flag }

-- an item of characters that are no separators
pub whole_item_read : (old new : At) (reports : List Diagnostic) (flag : Bool) (xs left : List ℕ) → new.text ≡ old.text
    → rest old ≡ xs ++ rest new
    → contains_separator xs ≡ false → ReadsItems old new reports reports flag flag (whole xs left ∷ [])
whole_item_read old new reports flag xs left text here none = record {
  text = text;
  here = rw (append-nil xs) here;
  reports = sym (append-nil reports);
  separator = rw (append-nil xs, none) (or_false flag);
}

sign_has_no_separator : (mark : ℕ) (sign : Sign) → is_exponent_indicator mark ≡ true
    → contains_separator (mark ∷ sign_text sign) ≡ false
sign_has_no_separator mark sign is = rw (not_low_line mark is) (by_sign sign)
  where
    not_low_line : (mark : ℕ) → is_exponent_indicator mark ≡ true → (mark == low_line) ≡ false
    not_low_line mark is =
        elim (is_exponent mark is)
        [ inl small ↦ ap (λ d. d == low_line) small | inr large ↦ ap (λ d. d == low_line) large ]

    by_sign : (sign : Sign) → contains_separator (sign_text sign) ≡ false
    by_sign no_sign = refl
    by_sign plus = refl
    by_sign minus = refl

exponent_items_of : (mark : ℕ) (sign : Sign) (text : List ℕ) → exponent_items mark sign text
    ≡ items-cons (whole (mark ∷ sign_text sign) (drop (length (sign_text sign)) text))
    (last_item (sign_kind sign) (run 10 (drop (length (sign_text sign)) text)))
unfolding exponent_items
exponent_items_of mark sign text = refl

-- an exponent
pub no_exponent_read : (old : At) (reports : List Diagnostic) (flag : Bool) (without : Kind)
    → begins is_exponent_indicator (rest old) ≡ false
    → ReadsEnd old old reports reports flag flag without (exponent_or without (rest old))
no_exponent_read old reports flag without none =
    rw (exponent_missing without (rest old) none)
    (record { items = no_items_read old reports flag; left = refl; kind_is = refl })

pub exponent_read : (old marked signed new : At) (before after : List Diagnostic) (f g is_whole : Bool)
    (without kind : Kind)
    → TakesExponentIndicator old marked → TakesSign marked signed kind
    → ReadsRun 10 signed new before after f g is_whole
    → ReadsEnd old new before after f g kind (exponent_or without (rest old))
exponent_read old marked signed new before after f g is_whole without kind taken sign digits =
    let found : exponent_or without (rest old) ≡ exponent_items taken.mark (sign_of (rest marked)) (rest marked) =
    ap (exponent_or without) taken.read.here ∙ exponent_there without taken.mark (rest marked) taken.is in
    let xs = taken.mark ∷ sign_text (sign_of (rest marked)) in
    let here : rest old ≡ xs ++ rest signed = taken.read.here ∙ ap (λ t. taken.mark ∷ t) sign.here in
    let first = whole_item_read old signed before f xs (rest signed) (sign.text ∙ taken.read.text) here
    (sign_has_no_separator taken.mark (sign_of (rest marked)) taken.is) in
    let all =
    items_append old signed new before before after f f g (whole xs (rest signed) ∷ [])
    (run 10 (rest signed) ∷ []) first digits.items in
    rw (found, exponent_items_of taken.mark (sign_of (rest marked)) (rest marked), sign.left)
    (record { items = all; left = digits.left; kind_is = sign.kind_is })

-- Items were read, and then those behind them broke off.
pub items_broken : (old mid new : At) (before during after : List Diagnostic) (f g : Bool) (xs ys : List Item)
    → ReadsItems old mid before during f g xs
    → BreaksOff (missing_digits mid.place ys) mid new during after
    → BreaksOff (missing_digits old.place (xs ++ ys)) old new before after
items_broken old mid new before during after f g xs ys read broken =
    let place = leads_to old mid (items_text xs) read.text read.here in
    broken_behind (missing_digits old.place (xs ++ ys)) (missing_digits mid.place ys) (missing_digits old.place xs) old
    mid new before during after read.text (omega (arith, place)) read.reports
    (missing_digits-append old.place xs ys
    ∙ ap (λ p. missing_digits old.place xs ++ missing_digits p ys) (sym place)) broken

point_items_of : (cs : List ℕ) → point_items (full_stop ∷ cs)
    ≡ record (items-cons (whole (codes ".") cs) (fraction_items cs)) { kind = Float }
unfolding point_items
point_items_of cs = refl

-- a fraction
pub fraction_read : (old mid new : At) (before during after : List Diagnostic) (f g h is_whole : Bool) (kind : Kind)
    → begins (is_digit_of 10) (rest old) ≡ true → ReadsRun 10 old mid before during f g is_whole
    → ReadsEnd mid new during after g h kind (exponent_or Float (rest mid))
    → ReadsPart old new before after f h (fraction_items (rest old))
fraction_read old mid new before during after f g h is_whole kind digit digits end =
    let later : ReadsEnd mid new during after g h kind (exponent_or Float (run 10 (rest old)).rest) =
    rw digits.left end in
    rw (fraction_there (rest old) digit) (record {
      items =
          items_append old mid new before during after f g h (run 10 (rest old) ∷ [])
          (exponent_or Float (run 10 (rest old)).rest).items digits.items later.items;
      left = later.left;
    })

pub fraction_broken : (old mid new : At) (before during after : List Diagnostic) (f g is_whole : Bool)
    → begins (is_digit_of 10) (rest old) ≡ true → ReadsRun 10 old mid before during f g is_whole
    → BreaksOff [] mid new during after
    → BreaksOff (missing_digits old.place (fraction_items (rest old)).items) old new before after
fraction_broken old mid new before during after f g is_whole digit digits broken =
    let more = (exponent_or Float (run 10 (rest old)).rest).items in
    rw (fraction_there (rest old) digit)
    (items_broken old mid new before during after f g (run 10 (rest old) ∷ []) more digits.items
    (broken_first (missing_digits mid.place more) mid new during after broken))

pub no_fraction_read : (old new : At) (before after : List Diagnostic) (f g : Bool) (kind : Kind)
    → begins (is_digit_of 10) (rest old) ≡ false
    → ReadsEnd old new before after f g kind (exponent_or Float (rest old))
    → ReadsPart old new before after f g (fraction_items (rest old))
no_fraction_read old new before after f g kind none end =
    rw (fraction_missing (rest old) none) (record { items = end.items; left = end.left })

-- a point
pub point_read : (old mid new : At) (before after : List Diagnostic) (f g : Bool) → Reads old mid full_stop
    → ReadsPart mid new before after f g (fraction_items (rest mid))
    → ReadsEnd old new before after f g Float (point_items (rest old))
point_read old mid new before after f g read part =
    let first = whole_item_read old mid before f (codes ".") (rest mid) read.text read.here refl in
    rw (read.here, point_items_of (rest mid)) (record {
      items = items_append old mid new before before after f f g _ _ first part.items;
      left = part.left;
      kind_is = refl;
    })

pub point_broken : (old mid new : At) (before after : List Diagnostic) → Reads old mid full_stop
    → BreaksOff (missing_digits mid.place (fraction_items (rest mid)).items) mid new before after
    → BreaksOff (missing_digits old.place (point_items (rest old)).items) old new before after
point_broken old mid new before after read broken =
    let first = whole_item_read old mid before false (codes ".") (rest mid) read.text read.here refl in
    rw (read.here, point_items_of (rest mid))
    (items_broken old mid new before before after false false (whole (codes ".") (rest mid) ∷ [])
    (fraction_items (rest mid)).items first broken)

pub behind_point_broken : (old mid new : At) (before after : List Diagnostic) → Reads old mid full_stop
    → BreaksOff (missing_digits mid.place (fraction_items (rest mid)).items) mid new before after
    → BreaksOff (missing_digits old.place (behind_digits (rest old)).items) old new before after
behind_point_broken old mid new before after read broken =
    rw (behind_digits_point (rest old) (ap (begins (λ c. c == full_stop)) read.here))
    (point_broken old mid new before after read broken)

pub behind_point_read : (old mid new : At) (before after : List Diagnostic) (f g : Bool) → Reads old mid full_stop
    → ReadsPart mid new before after f g (fraction_items (rest mid))
    → ReadsEnd old new before after f g Float (behind_digits (rest old))
behind_point_read old mid new before after f g read part =
    rw (behind_digits_point (rest old) (ap (begins (λ c. c == full_stop)) read.here))
    (point_read old mid new before after f g read part)

pub behind_other_read : (old new : At) (before after : List Diagnostic) (f g : Bool) (kind : Kind)
    → begins (λ c. c == full_stop) (rest old) ≡ false
    → ReadsEnd old new before after f g kind (exponent_or variant.Decimal (rest old))
    → ReadsEnd old new before after f g kind (behind_digits (rest old))
behind_other_read old new before after f g kind none end = rw (behind_digits_other (rest old) none) end

pub if_ok_map : {T E : Type 0} (r : Result T E) (P Q : T → Type 0) → ((x : T) → P x → Q x) → IfOk r P → IfOk r Q
if_ok_map (Ok x) P Q h p = h x p
if_ok_map (Err e) P Q h p = tt

-- an integer
pub zero_read : (old new : At) (reports : List Diagnostic) (flag : Bool) → Reads old new 48
    → ReadsInteger old new reports reports flag flag
zero_read old new reports flag read =
    let item : integer (rest old) ≡ whole (codes "0") (rest new) =
    integer_zero (rest old) (ap (begins (λ c. c == digit_zero)) read.here)
    ∙ ap (λ t. whole (codes "0") (drop 1 t)) read.here in
    record {
      items = rw item (whole_item_read old new reports flag (codes "0") (rest new) read.text read.here refl);
      left = ap (λ (i : Item). i.rest) item;
    }

pub integer_read : (old new : At) (before after : List Diagnostic) (f g is_whole : Bool)
    → begins (λ c. c == 48) (rest old) ≡ false
    → ReadsRun 10 old new before after f g is_whole → ReadsInteger old new before after f g
integer_read old new before after f g is_whole none digits =
    let item = integer_run (rest old) none in
    record {
      items = rw item digits.items;
      left = rw item digits.left;
    }

decimal_items_of : (text : List ℕ) → decimal_items text
    ≡ items-cons (integer text) (suffix_or DecimalBigInt (behind_digits (integer text).rest) (integer text).rest)
unfolding decimal_items
decimal_items_of text = refl

-- a decimal number
pub decimal_read : (old mid new : At) (before during after : List Diagnostic) (f g h : Bool) (kind : Kind)
    → ReadsInteger old mid before during f g
    → ReadsEnd mid new during after g h kind (suffix_or DecimalBigInt (behind_digits (rest mid)) (rest mid))
    → ReadsEnd old new before after f h kind (decimal_items (rest old))
decimal_read old mid new before during after f g h kind first end =
    let left = (integer (rest old)).rest in
    let later : ReadsEnd mid new during after g h kind (suffix_or DecimalBigInt (behind_digits left) left) =
    rw first.left end in
    rw (decimal_items_of (rest old)) (record {
      items =
          items_append old mid new before during after f g h (integer (rest old) ∷ [])
          (suffix_or DecimalBigInt (behind_digits left) left).items first.items later.items;
      left = later.left;
      kind_is = later.kind_is;
    })

pub decimal_broken : (old mid new : At) (before during after : List Diagnostic) (f g : Bool)
    → ReadsInteger old mid before during f g
    → begins (λ c. c == 110) (rest mid) ≡ false
    → BreaksOff (missing_digits mid.place (behind_digits (rest mid)).items) mid new during after
    → BreaksOff (missing_digits old.place (decimal_items (rest old)).items) old new before after
decimal_broken old mid new before during after f g first none broken =
    let left = (integer (rest old)).rest in
    let more = suffix_or DecimalBigInt (behind_digits left) left in
    let found : more ≡ behind_digits (rest mid) =
    ap (λ t. suffix_or DecimalBigInt (behind_digits t) t) first.left
    ∙ suffix_missing DecimalBigInt (behind_digits (rest mid)) (rest mid) none in
    rw (decimal_items_of (rest old))
    (items_broken old mid new before during after f g (integer (rest old) ∷ []) more.items first.items
    (subst (λ (number : Items). BreaksOff (missing_digits mid.place number.items) mid new during after) (sym found)
    broken))

pub suffix_read : (old new : At) (reports : List Diagnostic) (flag : Bool) (big : Kind) (without : Items)
    → Reads old new 110
    → ReadsEnd old new reports reports flag flag big (suffix_or big without (rest old))
suffix_read old new reports flag big without read =
    let found : suffix_or big without (rest old) ≡ last_item big (whole (codes "n") (rest new)) =
    suffix_there big without (rest old) (ap (begins (λ c. c == 110)) read.here)
    ∙ ap (λ t. last_item big (whole (codes "n") (drop 1 t))) read.here in
    rw found (record {
      items = whole_item_read old new reports flag (codes "n") (rest new) read.text read.here refl;
      left = refl;
      kind_is = refl;
    })

pub no_suffix_read : (old new : At) (before after : List Diagnostic) (f g : Bool) (big kind : Kind) (without : Items)
    → begins (λ c. c == 110) (rest old) ≡ false → ReadsEnd old new before after f g kind without
    → ReadsEnd old new before after f g kind (suffix_or big without (rest old))
no_suffix_read old new before after f g big kind without none end = rw (suffix_missing big without (rest old) none) end
