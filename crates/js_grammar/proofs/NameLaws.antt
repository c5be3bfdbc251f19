-- What is read of a name is what its characters say, and a name is read without a fault exactly where it has none.
use Rattle.js_grammar.specs.Name.{items_reading}
use Rattle.std.proofs.Common.{◌≡◌, ◌≢◌, ℕ, ◌+◌, Bool, true, false, ◌==◌, List, [], ◌∷◌, ◌++◌, length, refl, sym}
use Rattle.std.proofs.Common.{◌∙◌, ap, subst, arith, Some, None, inl, inr}
use Rattle.std.specs.Prelude.{map}
use Rattle.std.specs.List.{list_any}
use Rattle.std.proofs.lemmas.Bool.{eqb-true}
use Rattle.std.proofs.lemmas.List.{append_cancel_right, append-nil, length-append}
use Rattle.std.specs.Str.{encode_utf8_all}
use Rattle.js_text.specs.Ascii.{backslash, number_sign}
use Rattle.js_kind.specs.Keywords.{name_kind}
use Rattle.js_kind.specs.declared.kind.Kind.TheVariants.{PrivateIdentifier}
use Rattle.js_text.specs.Characters.{begins, before_first, from_first, is_identifier_start, is_identifier_part}
use Rattle.js_grammar.specs.Name.{NameItem, name_item, name_items, CutsInto, items_text, items_value, has_fault}
use Rattle.js_grammar.specs.Name.{has_escape, decoded, begins_name, continues_name, IsName, name_reading, name_value}
use Rattle.js_grammar.specs.Name.{contains_escape, private_name_of}
use Rattle.js_grammar.specs.Reading.{Reading, before_rest}
use Rattle.js_grammar.specs.Name.{items_report, is_no_part, ordinary_item, escape_item}
use Rattle.js_grammar.proofs.NameCuts.{items_cut, cut_items, cut_text, read_of_cut, private_of_cut, no_item}
use Rattle.js_grammar.proofs.NameCuts.{nothing_continues}
use Rattle.js_grammar.proofs.NameCuts.{cut_anywhere, none_behind, escapes_of_cut, nothing_reported}
use Rattle.js_grammar.proofs.NameCuts.{reports_nothing}
use Rattle.js_grammar.proofs.NameItems.{backslash_is_no_name, item_takes}
use Rattle.js_grammar.proofs.NumberItems.{true_or_false}

-- what is read of a name without a fault
abbrev pub good_name : List ℕ → List ℕ → Reading
good_name xs ys = record {
  taken = xs;
  rest = ys;
  kind = name_kind (encode_utf8_all (decoded xs));
  line_ended = false;
  escaped = has_escape xs;
  has_separator = false;
  value = name_value (has_escape xs) (decoded xs) 0 (length (encode_utf8_all xs));
  regex = None;
  diagnostics = [];
}

-- and of a private name
abbrev pub good_private_name : List ℕ → List ℕ → Reading
good_private_name xs ys = record {
  taken = number_sign ∷ xs;
  rest = ys;
  kind = PrivateIdentifier;
  line_ended = false;
  escaped = has_escape xs;
  has_separator = false;
  value = name_value (has_escape xs) (decoded xs) 1 (1 + length (encode_utf8_all xs));
  regex = None;
  diagnostics = [];
}

-- The items of a name, where what follows does not go on with it.
pub name_is_cut : (xs ys : List ℕ) → IsName xs → continues_name ys ≡ false
    → CutsInto is_identifier_start (xs ++ ys) (name_items is_identifier_start xs) ys
name_is_cut xs ys is end =
    let items = name_items is_identifier_start xs in
    let found = items_cut is_identifier_start xs in
    let some : items ≢ [] = λ none. is.some (sym is.whole ∙ ap items_text none) in
    let moved =
    cut_anywhere is_identifier_start xs items found.rest ys found.cut some is.good (no_item ys end) in
    subst (λ t. CutsInto is_identifier_start (t ++ ys) items ys) is.whole moved

-- its items tell where escapes are
name_escapes : (xs ys : List ℕ) → IsName xs → continues_name ys ≡ false
    → contains_escape (name_items is_identifier_start xs) ≡ has_escape xs
name_escapes xs ys is end =
    sym (escapes_of_cut is_identifier_start (xs ++ ys) (name_items is_identifier_start xs) ys
    (name_is_cut xs ys is end))
    ∙ ap has_escape is.whole

-- A name is read as such where what follows does not go on with it.
pub name_is_read : (xs ys : List ℕ) → IsName xs → continues_name ys ≡ false
    → name_reading (xs ++ ys) ≡ good_name xs ys
name_is_read xs ys is end =
    let items = name_items is_identifier_start xs in
    read_of_cut (xs ++ ys) items ys (name_is_cut xs ys is end)
    ∙ rw (name_escapes xs ys is end, nothing_reported 0 items is.good, is.whole) refl

-- and so is a private name
pub private_name_is_read : (xs ys : List ℕ) → IsName xs → continues_name ys ≡ false
    → private_name_of (name_items is_identifier_start (xs ++ ys)) (number_sign ∷ (xs ++ ys)) ≡ good_private_name xs ys
private_name_is_read xs ys is end =
    let items = name_items is_identifier_start xs in
    private_of_cut (xs ++ ys) items ys (name_is_cut xs ys is end)
    ∙ rw (name_escapes xs ys is end, nothing_reported 1 items is.good, is.whole) refl

-- xs is a name that the text begins with, and ys follow it.
pub record BeginsWithName (text xs ys : List ℕ) : Type 0 where
  pub here : text ≡ xs ++ ys
  pub name : IsName xs
  pub follows : continues_name ys ≡ false

-- where a name begins, an item is
pub some_item : (text : List ℕ) → begins_name text ≡ true → name_item is_identifier_start text ≢ None
some_item [] begun none = cc
some_item (c ∷ cs) begun none =
    elim (true_or_false (c == backslash)) [
      | inl mark ↦ (let no : Some (escape_item is_identifier_start cs) ≡ None = rw mark at none in cc)
      | inr other ↦ elim (true_or_false (is_identifier_start c)) [
        | inl is ↦ (let no : Some (ordinary_item c) ≡ None = rw (other, is) at none in cc)
        | inr missing ↦ (let nothing : false ≡ true = rw (missing, other) at begun in cc)
      ]
    ]

some_items : (text : List ℕ) (items : List NameItem) (rest : List ℕ) → begins_name text ≡ true
    → CutsInto is_identifier_start text items rest → items ≢ []
some_items text [] rest begun cut none = some_item text begun cut.0
some_items text (item ∷ items) rest begun cut none = cc

-- the characters of good items are a name
name_of_cut : (text : List ℕ) (items : List NameItem) (rest : List ℕ) → CutsInto is_identifier_start text items rest
    → items ≢ [] → has_fault items ≡ false → BeginsWithName text (items_text items) rest
name_of_cut text items rest cut some good =
    let xs = items_text items in
    let alone = cut_anywhere is_identifier_start text items rest [] cut some good refl in
    let same : name_items is_identifier_start xs ≡ items =
    ap (name_items is_identifier_start) (sym (append-nil xs))
    ∙ cut_items is_identifier_start (xs ++ []) items [] alone in
    record {
      here = cut_text is_identifier_start text items rest cut;
      name = record {
        some = some_text items cut some;
        whole = ap items_text same;
        good = ap has_fault same ∙ good;
      };
      follows = nothing_continues rest (none_behind is_identifier_start text items rest cut some);
    }
  where
    some_text : (items : List NameItem) → CutsInto is_identifier_start text items rest → items ≢ []
        → items_text items ≢ []
    some_text [] cut some none = some refl
    some_text (item ∷ items) cut some none =
        let takes = item_takes is_identifier_start text item cut.0 in
        omega (arith, takes.some, ap length none, length-append item.text (items_text items))

-- What is read without a fault is a name.
pub clean_is_name : (place : ℕ) (text : List ℕ) → begins_name text ≡ true
    → items_report place (name_items is_identifier_start text) ≡ []
    → (xs : List ℕ) × BeginsWithName text xs (name_reading text).rest
clean_is_name place text begun clean =
    let items = name_items is_identifier_start text in
    let found = items_cut is_identifier_start text in
    let read = read_of_cut text items found.rest found.cut in (
      items_text items,
      subst (λ ys. BeginsWithName text (items_text items) ys) (ap (λ (r : Reading). r.rest) (sym read))
          (name_of_cut text items found.rest found.cut (some_items text items found.rest begun found.cut)
          (reports_nothing place items clean)),
    )

-- what is reported of a name is what is reported of its items
pub name_report : (text : List ℕ)
    → (name_reading text).diagnostics ≡ items_report 0 (name_items is_identifier_start text)
unfolding items_reading
name_report text = refl

-- A text begins with one name at most. So this is the longest.
pub record SameName (xs ys us vs : List ℕ) : Type 0 where
  pub characters : xs ≡ us
  pub rest : ys ≡ vs

pub one_name : (text xs ys us vs : List ℕ) → BeginsWithName text xs ys → BeginsWithName text us vs
    → SameName xs ys us vs
one_name text xs ys us vs a b =
    let same : good_name xs ys ≡ good_name us vs =
    sym (name_is_read xs ys a.name a.follows) ∙ ap name_reading (sym a.here ∙ b.here)
    ∙ name_is_read us vs b.name b.follows in
    let left : ys ≡ vs = ap (λ (r : Reading). r.rest) same in
    record {
      characters = append_cancel_right xs us ys (sym a.here ∙ b.here ∙ ap (λ t. us ++ t) (sym left));
      rest = left;
    }

-- What is read of a name has characters.
pub name_characters : (text : List ℕ) → begins_name text ≡ true
    → (xs : List ℕ) × (xs ≢ []) × (text ≡ xs ++ (name_reading text).rest)
name_characters text begun =
    let items = name_items is_identifier_start text in
    let found = items_cut is_identifier_start text in
    let read = read_of_cut text items found.rest found.cut in (
      items_text items,
      some_text items found.cut,
      cut_text is_identifier_start text items found.rest found.cut
          ∙ ap (λ (r : Reading). items_text items ++ r.rest) (sym read),
    )
  where
    some_text : (items : List NameItem)
        → CutsInto is_identifier_start text items (items_cut is_identifier_start text).rest
        → items_text items ≢ []
    some_text [] cut none = some_item text begun cut.0
    some_text (item ∷ items) cut none =
        let takes = item_takes is_identifier_start text item cut.0 in
        omega (arith, takes.some, ap length none, length-append item.text (items_text items))

-- and what was taken of a private name is what stands before what is left of the name
pub private_taken : (cs : List ℕ) → (private_name_of (name_items is_identifier_start cs) (number_sign ∷ cs)).taken
    ≡ before_rest (number_sign ∷ cs) (private_name_of (name_items is_identifier_start cs) (number_sign ∷ cs)).rest
unfolding private_name_of
private_taken cs = refl

pub same_rest : (cs : List ℕ)
    → (name_reading cs).rest ≡ (private_name_of (name_items is_identifier_start cs) (number_sign ∷ cs)).rest
unfolding private_name_of items_reading
same_rest cs = refl

class_differs : (allowed : ℕ → Bool) (c : ℕ) → allowed backslash ≡ false → allowed c ≡ true
    → (c == backslash) ≡ false
class_differs allowed c none is =
    elim (true_or_false (c == backslash)) [
      | inl same ↦ (let no : allowed c ≡ false = ap allowed (eqb-true c backslash same) ∙ none in absurd (cc))
      | inr other ↦ other
    ]

pub ordinary_here : (allowed : ℕ → Bool) (c : ℕ) (cs : List ℕ) → allowed backslash ≡ false → allowed c ≡ true
    → name_item allowed (c ∷ cs) ≡ Some (ordinary_item c)
ordinary_here allowed c cs none is = rw (class_differs allowed c none is, is) refl

-- Parts up to what is none are items, whatever items go on with the name.
pub ordinary_parts : (cs : List ℕ) (more : List NameItem) (left : List ℕ)
    → CutsInto is_identifier_part (from_first is_no_part cs) more left
    → CutsInto is_identifier_part cs (map ordinary_item (before_first is_no_part cs) ++ more) left
ordinary_parts [] more left cut = cut
ordinary_parts (c ∷ cs) more left cut =
    elim (true_or_false (is_identifier_part c)) [
      | inl is ↦
          rw is
          (ordinary_here is_identifier_part c cs backslash_is_no_name.1 is, ordinary_parts cs more left (rw is at cut))
      | inr none ↦ rw none (rw none at cut)
    ]

-- what they stand for
pub record UnescapedItems (items : List NameItem) (xs : List ℕ) : Type 0 where
  pub value : items_value items ≡ xs
  pub text : items_text items ≡ xs
  pub good : has_fault items ≡ false
  pub escapes : list_any (λ item. item.is_escape) items ≡ false

pub ordinary_values : (xs : List ℕ) → UnescapedItems (map ordinary_item xs) xs
ordinary_values [] = record { value = refl; text = refl; good = refl; escapes = refl }
ordinary_values (x ∷ xs) =
    let more = ordinary_values xs in
    record {
      value = ap (λ ys. x ∷ ys) more.value;
      text = ap (λ ys. x ∷ ys) more.text;
      good = more.good;
      escapes = more.escapes;
    }

-- No item is where neither a part nor an escape begins.
pub ended : (text : List ℕ) → begins is_identifier_part text ≡ false → begins (λ c. c == backslash) text ≡ false
    → name_item is_identifier_part text ≡ None
ended [] no_part no_mark = refl
ended (c ∷ cs) no_part no_mark = rw (no_mark, no_part) refl
