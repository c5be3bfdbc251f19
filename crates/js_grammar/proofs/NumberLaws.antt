-- What is read of a number is what its shape says, and a number is read without a fault exactly where it has one.
use Rattle.std.proofs.Common.{◌≡◌, ◌≢◌, ℕ, true, false, List, [], ◌∷◌, ◌++◌, refl, sym, ◌∙◌, ap, inl, None}
use Rattle.std.proofs.Common.{inr}
use Rattle.std.proofs.lemmas.List.{append_cancel_right}
use Rattle.js_text.specs.Characters.{begins}
use Rattle.js_text.specs.declared.diagnostic.Diagnostic.{Diagnostic}
use Rattle.js_grammar.specs.Number.{Item, IsNumber, may_not_follow_number, excluded_after, begins_number}
use Rattle.js_grammar.specs.Reading.{Reading, place_behind}
use Rattle.js_grammar.specs.NumberReads.{items_text, contains_separator, Items, number_items, missing_digits}
use Rattle.js_grammar.specs.NumberReads.{missing_digit, invalid_number_end, items_reading, number_reading}
use Rattle.js_grammar.proofs.NumberCuts.{lacks_some, Cuts}
use Rattle.js_grammar.proofs.NumberItems.{true_or_false}
use Rattle.js_grammar.proofs.NumberShapes.{or_false, excluded_begins, number_cut}
use Rattle.js_grammar.proofs.NumberSteps.{read_well, read_badly}
use Rattle.js_grammar.proofs.NumberWhole.{number_sound}
use Rattle.js_grammar.proofs.ReadingLemmas.{taken_is}
use Rattle.js_text.specs.declared.value.RowValue.TheVariants.{Nothing}
use Rattle.js_kind.specs.declared.kind.Kind.{Kind}
use Rattle.js_kind.specs.declared.kind.Kind.TheVariants.{Decimal}

-- whole items report nothing, and others do
whole_report : (place : ℕ) (items : List Item) → lacks_some items ≡ false → missing_digits place items ≡ []
whole_report place [] e = refl
whole_report place (item ∷ items) e =
    let both = or_false item.lacks_digit (lacks_some items) e in
    rw both.0 (whole_report (place_behind place item.text) items both.1)

reports_whole : (place : ℕ) (items : List Item) → missing_digits place items ≡ [] → lacks_some items ≡ false
reports_whole place [] e = refl
reports_whole place (item ∷ items) e =
    elim (true_or_false item.lacks_digit) [
      | inl lacks ↦ (
          let end = place_behind place item.text in
          let h : missing_digit end item.rest ∷ missing_digits end items ≡ [] = rw lacks at e in
          absurd (cc))
      | inr none ↦ rw none (reports_whole (place_behind place item.text) items (rw none at e))
    ]

-- what is read of a number without a fault
abbrev pub good_number_reading : List ℕ → Kind → List ℕ → Reading
good_number_reading xs kind ys = record {
  taken = xs;
  rest = ys;
  kind = kind;
  line_ended = false;
  escaped = false;
  has_separator = contains_separator xs;
  value = Nothing;
  regex = None;
  diagnostics = [];
}

read_of_cut : (number : Items) (xs ys : List ℕ) (kind : Kind) → Cuts number xs ys kind
    → begins may_not_follow_number ys ≡ false
    → items_reading (xs ++ ys) number ≡ good_number_reading xs kind ys
read_of_cut number xs ys kind cut e =
    let follows : begins may_not_follow_number number.rest ≡ false = ap (begins may_not_follow_number) cut.rest ∙ e in
    let separator : contains_separator (items_text number.items) ≡ contains_separator xs =
    ap contains_separator cut.text in
    rw (
      read_well (xs ++ ys) number follows,
      cut.kind_is,
      cut.rest,
      separator,
      whole_report 0 number.items cut.whole_ones,
      taken_is (xs ++ ys) xs ys refl,
    ) refl

-- A number is read as such where what follows may follow it.
pub number_is_read : (xs ys : List ℕ) (kind : Kind) → IsNumber xs kind → excluded_after kind ys ≡ false
    → number_reading (xs ++ ys) ≡ good_number_reading xs kind ys
number_is_read xs ys kind is e =
    read_of_cut (number_items (xs ++ ys)) xs ys kind (number_cut xs ys kind is e) (excluded_begins kind ys e)

-- xs is a number of the kind that the text begins with, and ys follow it.
pub record BeginsWithNumber (text xs ys : List ℕ) (kind : Kind) : Type 0 where
  pub here : text ≡ xs ++ ys
  pub number : IsNumber xs kind
  pub follows : excluded_after kind ys ≡ false

append_not_empty : (xs : List Diagnostic) (d : Diagnostic) → xs ++ (d ∷ []) ≢ []
append_not_empty [] d e = cc
append_not_empty (x ∷ xs) d e = cc

-- What is read without a fault is a number.
pub clean_is_number : (text : List ℕ) → begins_number text ≡ true
    → (number_reading text).diagnostics ≡ []
    → (xs : List ℕ) × BeginsWithNumber text xs (number_reading text).rest (number_reading text).kind
clean_is_number text begun clean =
    let number = number_items text in
    elim (true_or_false (begins may_not_follow_number number.rest)) [
      | inl bad ↦ (
          let read = read_badly text number bad in
          absurd
          (append_not_empty (missing_digits 0 number.items)
          (invalid_number_end (place_behind 0 (items_text number.items)) number.rest)
          (ap (λ (r : Reading). r.diagnostics) (sym read) ∙ clean)))
      | inr well ↦ (
          let read = read_well text number well in
          let none : missing_digits 0 number.items ≡ [] =
          ap (λ (r : Reading). r.diagnostics) (sym read) ∙ clean in
          let sound = number_sound text begun (reports_whole 0 number.items none) in (
            items_text number.items,
            rw read (record { here = sound.here; number = sound.is.number; follows = sound.is.follows well }),
          ))
    ]

-- A text begins with one number at most, of one kind. So this is the longest.
pub record SameNumber (xs ys : List ℕ) (kind : Kind) (us vs : List ℕ) (j : Kind) : Type 0 where
  pub characters : xs ≡ us
  pub rest : ys ≡ vs
  pub kind_is : kind ≡ j

pub one_number : (text xs ys : List ℕ) (kind : Kind) (us vs : List ℕ) (j : Kind)
    → BeginsWithNumber text xs ys kind → BeginsWithNumber text us vs j → SameNumber xs ys kind us vs j
one_number text xs ys kind us vs j a b =
    let same : good_number_reading xs kind ys ≡ good_number_reading us j vs =
    sym (number_is_read xs ys kind a.number a.follows) ∙ ap number_reading (sym a.here ∙ b.here)
    ∙ number_is_read us vs j b.number b.follows in
    let left : ys ≡ vs = ap (λ (r : Reading). r.rest) same in
    record {
      characters = append_cancel_right xs us ys (sym a.here ∙ b.here ∙ ap (λ t. us ++ t) (sym left));
      rest = left;
      kind_is = ap (λ (r : Reading). r.kind) same;
    }

-- nothing is excluded at the end of the source
excluded_at_end : (kind : Kind) → excluded_after kind [] ≡ false
excluded_at_end Decimal = refl
excluded_at_end _ = refl

-- The characters of a number tell its kind.
pub one_kind : (xs : List ℕ) (kind j : Kind) → IsNumber xs kind → IsNumber xs j → kind ≡ j
one_kind xs kind j a b =
    (one_number (xs ++ []) xs [] kind xs [] j
    (record { here = refl; number = a; follows = excluded_at_end kind })
    (record { here = refl; number = b; follows = excluded_at_end j })).kind_is
