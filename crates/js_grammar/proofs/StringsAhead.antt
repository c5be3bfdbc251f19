-- What is read of a string or of a part of a template depends on the characters that were taken and on the first one
-- behind them.
use Rattle.std.specs.Str.{encode_utf8_all}
use Rattle.std.proofs.Common.{◌≡◌, ℕ, Bool, true, false, ◌==◌, List, [], ◌∷◌, ◌++◌}
use Rattle.std.proofs.Common.{length, drop, refl, sym, ◌∙◌, ap, arith, inl, inr, None}
use Rattle.std.specs.Prelude.{codes}
use Rattle.std.proofs.lemmas.Bool.{eq-eqb}
use Rattle.js_text.specs.Ascii.{dollar_sign, grave_accent}
use Rattle.js_text.specs.Characters.{begins}
use Rattle.js_text.specs.declared.diagnostic.Diagnostic.TheVariants.{UnterminatedString}
use Rattle.js_text.specs.declared.value.RowValue.TheVariants.{Nothing}
use Rattle.js_kind.specs.declared.kind.Kind.{Kind}
use Rattle.js_kind.specs.declared.kind.Kind.TheVariants.{Undetermined, Str}
use Rattle.js_grammar.specs.Gap.{is_prefix}
use Rattle.js_grammar.specs.Reading.{Reading, place_behind}
use Rattle.js_grammar.specs.StringItems.{StringItem, StringItems, string_item, string_text, string_units}
use Rattle.js_grammar.specs.StringItems.{contains_escape, contains_bad_escape, fault_reports, item_reports, stretch}
use Rattle.js_grammar.specs.StringItems.{quoted_value, unterminated, terminated_string, string_items, string_reading}
use Rattle.js_grammar.specs.StringItems.{StringValue}
use Rattle.js_grammar.specs.StringItems.StringValue.{units}
use Rattle.js_grammar.specs.Template.{template_item, template_items, template_value}
use Rattle.js_grammar.specs.Template.{terminated_part, template_part_reading}
use Rattle.js_grammar.specs.UnicodeEscape.{left_curly_bracket}
use Rattle.js_grammar.proofs.Ahead.{BeginAlike}
use Rattle.js_grammar.proofs.AllItemsAhead.{FoundAlike, bare, items_local, string_step_local, template_step_local}
use Rattle.js_grammar.proofs.EscapeCases.{first_is}
use Rattle.js_grammar.proofs.NumberItems.{true_or_false}
use Rattle.js_grammar.proofs.ReadingLemmas.{taken_is}
use Rattle.js_grammar.proofs.StringSteps.{string_terminated, string_unterminated, part_with_tail}
use Rattle.js_grammar.proofs.StringSteps.{part_with_substitution, part_unterminated}
use Rattle.js_grammar.proofs.Tests.{prefix_is}

-- what is known of items doesn't depend on what is left behind each
pub bare_text : (items : List StringItem) → string_text (bare items) ≡ string_text items
bare_text [] = refl
bare_text (item ∷ items) = ap (λ t. item.text ++ t) (bare_text items)

pub bare_units : (items : List StringItem) → string_units (bare items) ≡ string_units items
bare_units [] = refl
bare_units (item ∷ items) = ap (λ t. item.units ++ t) (bare_units items)

pub bare_escape : (items : List StringItem) → contains_escape (bare items) ≡ contains_escape items
bare_escape [] = refl
bare_escape (item ∷ items) = rw (bare_escape items) refl

bare_bad_escape : (items : List StringItem) → contains_bad_escape (bare items) ≡ contains_bad_escape items
bare_bad_escape [] = refl
bare_bad_escape (item ∷ items) = rw (bare_bad_escape items) refl

pub bare_value : (items : List StringItem) → template_value (bare items) ≡ template_value items
unfolding template_value
bare_value items = rw (bare_bad_escape items, bare_units items) refl

bare_reports : (t : Bool) (start place : ℕ) (items : List StringItem)
    → item_reports t start place (bare items) ≡ item_reports t start place items
bare_reports t start place [] = refl
bare_reports t start place (item ∷ items) =
    let end = place_behind place item.text in
    ap (λ r. fault_reports t start place end item.fault ++ r) (bare_reports t start end items)

-- so it is the same of two lists of such items
pub same_of : {A : Type 0} (f : List StringItem → A) → ((items : List StringItem) → f (bare items) ≡ f items)
    → (xs ys : List StringItem) → bare xs ≡ bare ys → f xs ≡ f ys
same_of f law xs ys e = sym (law xs) ∙ ap f e ∙ law ys

-- what is read of these characters, where a mark ends the items
abbrev ended : Bool → Kind → (List StringItem → StringValue) → List ℕ → List ℕ → List StringItem → Reading
ended t kind value xs rest items = record {
  taken = xs;
  rest = rest;
  kind = kind;
  line_ended = false;
  escaped = contains_escape items;
  has_separator = false;
  value = quoted_value (contains_escape items) (value items) kind (length (encode_utf8_all xs));
  regex = None;
  diagnostics = item_reports t 0 1 items;
}

-- and where another character does
abbrev broken : Bool → ℕ → List ℕ → List ℕ → List StringItem → Reading
broken t last xs rest items = record {
  taken = xs;
  rest = rest;
  kind = Undetermined;
  line_ended = false;
  escaped = false;
  has_separator = false;
  value = Nothing;
  regex = None;
  diagnostics =
      item_reports t 0 1 items
      ++ UnterminatedString (stretch 0 (place_behind 1 (string_text items ++ last ∷ []))) ∷ [];
}

abbrev string_value : List StringItem → StringValue
string_value items = units (string_units items)

string_ended : (text xs rest : List ℕ) (found : StringItems) → text ≡ xs ++ rest → drop 1 found.rest ≡ rest
    → terminated_string text found ≡ ended false Str string_value xs rest found.items
string_ended text xs rest found e left = rw (left, taken_is text xs rest e) refl

part_ended : (kind : Kind) (text xs rest : List ℕ) (found : StringItems) → text ≡ xs ++ rest
    → terminated_part kind text found rest ≡ ended true kind template_value xs rest found.items
part_ended kind text xs rest found e = rw (taken_is text xs rest e) refl

is_broken : (t : Bool) (last : ℕ) (text xs rest : List ℕ) (found : StringItems) → text ≡ xs ++ rest
    → found.rest ≡ last ∷ rest → unterminated t text found ≡ broken t last xs rest found.items
is_broken t last text xs rest found e left = rw (left, taken_is text xs rest e) refl

-- either is the same of the items that the other text has
string_alike : (xs rest : List ℕ) (here there : List StringItem) → bare here ≡ bare there
    → ended false Str string_value xs rest here ≡ ended false Str string_value xs rest there
string_alike xs rest here there e =
    same_of (ended false Str string_value xs rest)
    (λ items. rw (bare_escape items, bare_units items, bare_reports false 0 1 items) refl) here there e

part_alike : (kind : Kind) (xs rest : List ℕ) (here there : List StringItem) → bare here ≡ bare there
    → ended true kind template_value xs rest here ≡ ended true kind template_value xs rest there
part_alike kind xs rest here there e =
    same_of (ended true kind template_value xs rest)
    (λ items. rw (bare_escape items, bare_value items, bare_reports true 0 1 items) refl) here there e

broken_alike : (t : Bool) (last : ℕ) (xs rest : List ℕ) (here there : List StringItem) → bare here ≡ bare there
    → broken t last xs rest here ≡ broken t last xs rest there
broken_alike t last xs rest here there e =
    same_of (broken t last xs rest) (λ items. rw (bare_text items, bare_reports t 0 1 items) refl) here there e

-- where something is left behind one character that is dropped, it stands before that
before_it : (text ys zs : List ℕ) → BeginAlike ys zs → drop 1 text ≡ ys → (c : ℕ) × (text ≡ c ∷ ys)
before_it [] ys zs alike e = absurd (let none : [] ≡ alike.first ∷ alike.rest = e ∙ alike.here in cc)
before_it (c ∷ cs) ys zs alike e = (c, ap (λ t. c ∷ t) e)

-- the items of the two texts
string_found : (quote : ℕ) (xs ys zs : List ℕ) (c : ℕ) → BeginAlike ys zs
    → (string_items quote (xs ++ ys)).rest ≡ c ∷ ys
    → FoundAlike (string_items quote (xs ++ ys)) (string_items quote (xs ++ zs)) (c ∷ zs)
string_found quote xs ys zs c alike e =
    items_local (string_item quote) (string_step_local quote) (length (xs ++ ys)) (length (xs ++ zs)) xs c [] ys zs
    alike (omega arith) (omega arith) e

part_found : (xs us ys zs : List ℕ) (c : ℕ) → BeginAlike ys zs → (template_items (xs ++ ys)).rest ≡ c ∷ (us ++ ys)
    → FoundAlike (template_items (xs ++ ys)) (template_items (xs ++ zs)) (c ∷ (us ++ zs))
part_found xs us ys zs c alike e =
    items_local template_item template_step_local (length (xs ++ ys)) (length (xs ++ zs)) xs c us ys zs alike
    (omega arith) (omega arith) e

-- What is read of a string depends on its characters and the first one behind them.
pub string_local : (quote : ℕ) (xs ys zs : List ℕ) → BeginAlike ys zs → (string_reading quote (xs ++ ys)).rest ≡ ys
    → string_reading quote (xs ++ zs) ≡ record (string_reading quote (xs ++ ys)) { rest = zs }
string_local quote xs ys zs alike e =
    let found = string_items quote (xs ++ ys) in
    let other = string_items quote (xs ++ zs) in
    let text = quote ∷ (xs ++ ys) in
    let there = quote ∷ (xs ++ zs) in
    let is_quote : ℕ → Bool = λ c. c == quote in
    elim (true_or_false (begins is_quote found.rest)) [
      | inl closed ↦ (
          let read = string_terminated quote text found closed in
          let left : drop 1 found.rest ≡ ys = ap (λ (r : Reading). r.rest) (sym read) ∙ e in
          let same = string_found quote xs ys zs quote alike
          (first_is quote found.rest closed ∙ ap (λ t. quote ∷ t) left) in
          let closes : begins is_quote other.rest ≡ true = ap (begins is_quote) same.left ∙ eq-eqb quote quote refl in
          string_terminated quote there other closes
          ∙ string_ended there (quote ∷ xs) zs other refl (ap (drop 1) same.left)
          ∙ string_alike (quote ∷ xs) zs other.items found.items same.items
          ∙ ap (λ (r : Reading). record r { rest = zs })
          (sym (read ∙ string_ended text (quote ∷ xs) ys found refl left)))
      | inr unclosed ↦ (
          let read = string_unterminated quote text found unclosed in
          let left : drop 1 found.rest ≡ ys = ap (λ (r : Reading). r.rest) (sym read) ∙ e in
          let last = before_it found.rest ys zs alike left in
          let same = string_found quote xs ys zs last.0 alike last.1 in
          let closes : begins is_quote other.rest ≡ false =
          ap (begins is_quote) same.left ∙ sym (ap (begins is_quote) last.1) ∙ unclosed in
          string_unterminated quote there other closes
          ∙ is_broken false last.0 there (quote ∷ xs) zs other refl same.left
          ∙ broken_alike false last.0 (quote ∷ xs) zs other.items found.items same.items
          ∙ ap (λ (r : Reading). record r { rest = zs })
          (sym (read ∙ is_broken false last.0 text (quote ∷ xs) ys found refl last.1)))
    ]

-- a part of either text that a mark ends
part_read : (kind : Kind) (here there : Reading) (opening : ℕ) (xs ys zs rest behind : List ℕ)
    (found other : StringItems) → here ≡ terminated_part kind (opening ∷ (xs ++ ys)) found rest
    → there ≡ terminated_part kind (opening ∷ (xs ++ zs)) other behind → rest ≡ ys → behind ≡ zs
    → bare other.items ≡ bare found.items → there ≡ record here { rest = zs }
part_read kind here there opening xs ys zs rest behind found other here_is there_is left other_left same =
    let text = opening ∷ (xs ++ ys) in
    let after = opening ∷ (xs ++ zs) in
    there_is ∙ ap (terminated_part kind after other) other_left ∙ part_ended kind after (opening ∷ xs) zs other refl
    ∙ part_alike kind (opening ∷ xs) zs other.items found.items same
    ∙ ap (λ (r : Reading). record r { rest = zs })
    (sym (here_is ∙ ap (terminated_part kind text found) left ∙ part_ended kind text (opening ∷ xs) ys found refl))

-- What is read of a part of a template depends on its characters and the first one behind them.
pub part_local : (substitute tail : Kind) (opening : ℕ) (xs ys zs : List ℕ) → BeginAlike ys zs
    → (template_part_reading substitute tail (opening ∷ (xs ++ ys))).rest ≡ ys
    → template_part_reading substitute tail (opening ∷ (xs ++ zs))
    ≡ record (template_part_reading substitute tail (opening ∷ (xs ++ ys))) { rest = zs }
part_local substitute tail opening xs ys zs alike e =
    let found = template_items (xs ++ ys) in
    let other = template_items (xs ++ zs) in
    let text = opening ∷ (xs ++ ys) in
    let there = opening ∷ (xs ++ zs) in
    let here_read = template_part_reading substitute tail text in
    let there_read = template_part_reading substitute tail there in
    let is_mark : ℕ → Bool = λ c. c == grave_accent in
    elim (true_or_false (begins is_mark found.rest)) [
      | inl closed ↦ (
          let read = part_with_tail substitute tail text found closed in
          let left : drop 1 found.rest ≡ ys = ap (λ (r : Reading). r.rest) (sym read) ∙ e in
          let same = part_found xs [] ys zs grave_accent alike
          (first_is grave_accent found.rest closed ∙ ap (λ t. grave_accent ∷ t) left) in
          let closes : begins is_mark other.rest ≡ true = ap (begins is_mark) same.left in
          part_read tail here_read there_read opening xs ys zs (drop 1 found.rest) (drop 1 other.rest) found other read
          (part_with_tail substitute tail there other closes) left (ap (drop 1) same.left) same.items)
      | inr open_end ↦
          elim (true_or_false (is_prefix (codes "${") found.rest)) [
            | inl begun ↦ (
                let read = part_with_substitution substitute tail text found open_end begun in
                let left : drop 2 found.rest ≡ ys = ap (λ (r : Reading). r.rest) (sym read) ∙ e in
                let same = part_found xs (left_curly_bracket ∷ []) ys zs dollar_sign alike
                (prefix_is (codes "${") found.rest begun ∙ ap (λ t. dollar_sign ∷ left_curly_bracket ∷ t) left) in
                let no_mark : begins is_mark other.rest ≡ false = ap (begins is_mark) same.left in
                let begins_there : is_prefix (codes "${") other.rest ≡ true =
                ap (is_prefix (codes "${")) same.left in
                part_read substitute here_read there_read opening xs ys zs (drop 2 found.rest) (drop 2 other.rest) found
                other read (part_with_substitution substitute tail there other no_mark begins_there) left
                (ap (drop 2) same.left) same.items)
            | inr none ↦ (
                let read = part_unterminated substitute tail text found open_end none in
                let left : drop 1 found.rest ≡ ys = ap (λ (r : Reading). r.rest) (sym read) ∙ e in
                let last = before_it found.rest ys zs alike left in
                let same = part_found xs [] ys zs last.0 alike last.1 in
                let no_mark : begins is_mark other.rest ≡ false =
                ap (begins is_mark) same.left ∙ sym (ap (begins is_mark) last.1) ∙ open_end in
                let no_begin : is_prefix (codes "${") other.rest ≡ false =
                ap (is_prefix (codes "${")) same.left ∙ prefix_alike last.0 ys zs alike
                ∙ sym (ap (is_prefix (codes "${")) last.1) ∙ none in
                part_unterminated substitute tail there other no_mark no_begin
                ∙ is_broken true last.0 there (opening ∷ xs) zs other refl same.left
                ∙ broken_alike true last.0 (opening ∷ xs) zs other.items found.items same.items
                ∙ ap (λ (r : Reading). record r { rest = zs })
                (sym (read ∙ is_broken true last.0 text (opening ∷ xs) ys found refl last.1)))
          ]
    ]
  where
    prefix_alike : (c : ℕ) (ys zs : List ℕ) → BeginAlike ys zs
        → is_prefix (codes "${") (c ∷ zs) ≡ is_prefix (codes "${") (c ∷ ys)
    prefix_alike c ys zs alike =
        ap (λ t. is_prefix (codes "${") (c ∷ t)) alike.there
        ∙ sym (ap (λ t. is_prefix (codes "${") (c ∷ t)) alike.here)
