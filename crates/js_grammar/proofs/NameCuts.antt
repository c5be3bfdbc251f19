-- A text is cut into the items of a name in one way.
use Rattle.std.proofs.Common.{◌≡◌, ◌≢◌, ℕ, zero, suc, ◌+◌, ◌-◌, ◌<◌, Bool, true, false, ◌||◌, ◌==◌, List, [], ◌∷◌, ◌++◌}
use Rattle.std.proofs.Common.{length}
use Rattle.std.proofs.Common.{drop, refl, sym, ◌∙◌, ap, subst, arith, Option, Some, None, append_assoc}
use Rattle.std.specs.List.{list_any}
use Rattle.std.proofs.Math.Seq.{drop-append_seam}
use Rattle.js_text.specs.Ascii.{backslash, number_sign}
use Rattle.js_text.specs.Characters.{is_identifier_start, is_identifier_part}
use Rattle.js_grammar.specs.Name.{NameItem, NameFault, name_item, items_at, name_items, CutsInto, items_text}
use Rattle.js_grammar.specs.Name.{items_value}
use Rattle.js_grammar.specs.Name.{has_fault, has_escape, continues_name, items_report, items_reading, name_reading}
use Rattle.js_grammar.specs.Name.{contains_escape, name_value, behind_items, private_name_of}
use Rattle.js_grammar.specs.Name.{escape_item, ordinary_item, fault_report}
use Rattle.js_grammar.specs.Reading.{Reading, place_behind}
use Rattle.js_grammar.proofs.NameItems.{item_takes, item_anywhere}
use Rattle.js_grammar.proofs.ReadingLemmas.{taken_is}
use Rattle.js_kind.specs.Keywords.{name_kind}
use Rattle.js_kind.specs.declared.kind.Kind.TheVariants.{PrivateIdentifier}
use Rattle.std.specs.Str.{encode_utf8_all}

-- what is read of a name of these items, where this is left behind it
abbrev pub name_of : List NameItem → List ℕ → Reading
name_of items rest = record {
  taken = items_text items;
  rest = rest;
  kind = name_kind (encode_utf8_all (items_value items));
  line_ended = false;
  escaped = contains_escape items;
  has_separator = false;
  value = name_value (contains_escape items) (items_value items) 0 (length (encode_utf8_all (items_text items)));
  regex = None;
  diagnostics = items_report 0 items;
}

-- and of a private name
abbrev pub private_of : List NameItem → List ℕ → Reading
private_of items rest = record {
  taken = number_sign ∷ items_text items;
  rest = rest;
  kind = PrivateIdentifier;
  line_ended = false;
  escaped = contains_escape items;
  has_separator = false;
  value = name_value (contains_escape items) (items_value items) 1 (1 + length (encode_utf8_all (items_text items)));
  regex = None;
  diagnostics = items_report 1 items;
}

-- the items that are found are what the text is cut into
step_over : (n : ℕ) (c : ℕ) (cs : List ℕ) → 0 < n → drop n (c ∷ cs) ≡ drop (n - 1) cs
step_over zero c cs some = absurd (omega arith)
step_over (suc n) c cs some = let e : n ≡ suc n - 1 = omega arith in ap (λ k. drop k cs) e

-- The text, cut into its items, and what is left of it.
pub record IsNameCut (allowed : ℕ → Bool) (text : List ℕ) (items : List NameItem) : Type 0 where
  pub rest : List ℕ
  pub cut : CutsInto allowed text items rest

cut_at : (skipped : ℕ) (allowed : ℕ → Bool) (text : List ℕ)
    → IsNameCut allowed (drop skipped text) (items_at skipped allowed text)
cut_at zero allowed [] = record { rest = []; cut = (refl, refl) }
cut_at (suc skipped) allowed [] = record { rest = []; cut = (refl, refl) }
cut_at (suc skipped) allowed (c ∷ cs) = cut_at skipped allowed cs
cut_at zero allowed (c ∷ cs) =
    by_item (name_item allowed (c ∷ cs)) refl (λ n. cut_at n is_identifier_part cs)
  where
    by_item : (o : Option NameItem) → name_item allowed (c ∷ cs) ≡ o
        → ((n : ℕ) → IsNameCut is_identifier_part (drop n cs) (items_at n is_identifier_part cs))
        → IsNameCut allowed (c ∷ cs) (items_at zero allowed (c ∷ cs))
    by_item None e more = rw e (record { rest = c ∷ cs; cut = (e, refl) })
    by_item (Some item) e more =
        let takes = item_takes allowed (c ∷ cs) item e in
        let next = more (length item.text - 1) in
        let over = step_over (length item.text) c cs takes.some in
        rw e (record {
          rest = next.rest;
          cut = (
            e,
            subst
                (λ t. CutsInto is_identifier_part t
                (items_at (length item.text - 1) is_identifier_part cs) next.rest)
                (sym over) next.cut,
          );
        })

pub items_cut : (allowed : ℕ → Bool) (text : List ℕ) → IsNameCut allowed text (name_items allowed text)
items_cut allowed text = cut_at 0 allowed text

pub one_cut : (allowed : ℕ → Bool) (text : List ℕ) (items others : List NameItem) (rest left : List ℕ)
    → CutsInto allowed text items rest → CutsInto allowed text others left → items ≡ others
one_cut allowed text [] [] rest left a b = refl
one_cut allowed text [] (other ∷ others) rest left a b =
    let no : None ≡ Some other = sym a.0 ∙ b.0 in absurd (cc)
one_cut allowed text (item ∷ items) [] rest left a b =
    let no : None ≡ Some item = sym b.0 ∙ a.0 in absurd (cc)
one_cut allowed text (item ∷ items) (other ∷ others) rest left a b =
    let found : Some item ≡ Some other = sym a.0 ∙ b.0 in
    let same : item ≡ other = cc in
    let more = subst
    (λ (x : NameItem). CutsInto is_identifier_part (drop (length x.text) text) others left) (sym same) b.1 in
    let left_over = one_cut is_identifier_part (drop (length item.text) text) items others rest left a.1 more in
    ap (λ x. x ∷ items) same ∙ ap (λ xs. other ∷ xs) left_over

pub cut_items : (allowed : ℕ → Bool) (text : List ℕ) (items : List NameItem) (rest : List ℕ)
    → CutsInto allowed text items rest → name_items allowed text ≡ items
cut_items allowed text items rest cut =
    let found = items_cut allowed text in
    one_cut allowed text (name_items allowed text) items found.rest rest found.cut cut

-- what is behind an item
pub behind_item : (allowed : ℕ → Bool) (text : List ℕ) (item : NameItem) → name_item allowed text ≡ Some item
    → text ≡ item.text ++ drop (length item.text) text
behind_item allowed text item e =
    let takes = item_takes allowed text item e in
    takes.here ∙ ap (λ t. item.text ++ t)
    (sym (ap (drop (length item.text)) takes.here ∙ drop-append_seam item.text takes.left))

-- The characters of the items and what is left are the text.
pub cut_text : (allowed : ℕ → Bool) (text : List ℕ) (items : List NameItem) (rest : List ℕ)
    → CutsInto allowed text items rest → text ≡ items_text items ++ rest
cut_text allowed text [] rest cut = sym cut.1
cut_text allowed text (item ∷ items) rest cut =
    behind_item allowed text item cut.0
    ∙ ap (λ t. item.text ++ t) (cut_text is_identifier_part (drop (length item.text) text) items rest cut.1)
    ∙ sym (append_assoc item.text (items_text items) rest)

-- What is read of a text that is cut so.
pub read_of_cut : (text : List ℕ) (items : List NameItem) (rest : List ℕ)
    → CutsInto is_identifier_start text items rest → name_reading text ≡ name_of items rest
unfolding items_reading
read_of_cut text items rest cut =
    let here = cut_text is_identifier_start text items rest cut in
    let left : behind_items items text ≡ rest =
    ap (behind_items items) here ∙ drop-append_seam (items_text items) rest in
    ap (λ xs. items_reading xs text) (cut_items is_identifier_start text items rest cut)
    ∙ rw (left, taken_is text (items_text items) rest here) refl

-- and of a private name, behind its `#`
pub private_of_cut : (text : List ℕ) (items : List NameItem) (rest : List ℕ)
    → CutsInto is_identifier_start text items rest
    → private_name_of (name_items is_identifier_start text) (number_sign ∷ text) ≡ private_of items rest
unfolding private_name_of
private_of_cut text items rest cut =
    let here = cut_text is_identifier_start text items rest cut in
    let left : behind_items items text ≡ rest =
    ap (behind_items items) here ∙ drop-append_seam (items_text items) rest in
    ap (λ xs. private_name_of xs (number_sign ∷ text)) (cut_items is_identifier_start text items rest cut)
    ∙ rw (
      left,
      taken_is (number_sign ∷ text) (number_sign ∷ items_text items) rest (ap (λ t. number_sign ∷ t) here),
    ) refl

-- no further item is where nothing goes on with a name
pub no_item : (ys : List ℕ) → continues_name ys ≡ false → name_item is_identifier_part ys ≡ None
no_item [] e = refl
no_item (c ∷ cs) e = by_class (is_identifier_part c) (c == backslash) refl refl e
  where
    by_class : (part mark : Bool) → is_identifier_part c ≡ part → (c == backslash) ≡ mark
        → (is_identifier_part c || (c == backslash)) ≡ false
        → name_item is_identifier_part (c ∷ cs) ≡ None
    by_class true mark p m e = let no : true ≡ false = rw p at e in absurd (cc)
    by_class false true p m e = let no : true ≡ false = rw (p, m) at e in absurd (cc)
    by_class false false p m e = rw (m, p) refl

pub nothing_continues : (ys : List ℕ) → name_item is_identifier_part ys ≡ None → continues_name ys ≡ false
nothing_continues [] e = refl
nothing_continues (c ∷ cs) e = by_class (is_identifier_part c) (c == backslash) refl refl
  where
    by_class : (part mark : Bool) → is_identifier_part c ≡ part → (c == backslash) ≡ mark
        → (is_identifier_part c || (c == backslash)) ≡ false
    by_class part true p m =
        let no : Some (escape_item is_identifier_part cs) ≡ None = rw m at e in absurd (cc)
    by_class true false p m = let no : Some (ordinary_item c) ≡ None = rw (m, p) at e in absurd (cc)
    by_class false false p m = rw (p, m) refl

-- a fault or none
no_fault : (item : NameItem) (items : List NameItem) → has_fault (item ∷ items) ≡ false
    → (item.fault ≡ None) × (has_fault items ≡ false)
no_fault item items e = by_fault item.fault refl
  where
    by_fault : (o : Option NameFault) → item.fault ≡ o → (item.fault ≡ None) × (has_fault items ≡ false)
    by_fault (Some fault) f = let no : true ≡ false = rw f at e in absurd (cc)
    by_fault None f = (f, rw f at e)

-- A good item goes before the items of any text that goes on with it.
first_anywhere : (allowed : ℕ → Bool) (text : List ℕ) (item : NameItem) (xs : List ℕ) (items : List NameItem)
    (ys : List ℕ)
    → name_item allowed text ≡ Some item → item.fault ≡ None
    → CutsInto is_identifier_part (xs ++ ys) items ys
    → CutsInto allowed ((item.text ++ xs) ++ ys) (item ∷ items) ys
first_anywhere allowed text item xs items ys e good more =
    let whole : (item.text ++ xs) ++ ys ≡ item.text ++ (xs ++ ys) = append_assoc item.text xs ys in (
      ap (name_item allowed) whole ∙ item_anywhere allowed text (xs ++ ys) item e good,
      subst (λ t. CutsInto is_identifier_part t items ys)
          (sym (ap (drop (length item.text)) whole ∙ drop-append_seam item.text (xs ++ ys))) more,
    )

-- Good items are the same before another text that does not go on with the name.
parts_anywhere : (text : List ℕ) (items : List NameItem) (rest ys : List ℕ)
    → CutsInto is_identifier_part text items rest → has_fault items ≡ false
    → name_item is_identifier_part ys ≡ None
    → CutsInto is_identifier_part (items_text items ++ ys) items ys
parts_anywhere text [] rest ys cut good end = (end, refl)
parts_anywhere text (item ∷ items) rest ys cut good end =
    let both = no_fault item items good in
    let more = parts_anywhere (drop (length item.text) text) items rest ys cut.1 both.1 end in
    first_anywhere is_identifier_part text item (items_text items) items ys cut.0 both.0 more

pub cut_anywhere : (allowed : ℕ → Bool) (text : List ℕ) (items : List NameItem) (rest ys : List ℕ)
    → CutsInto allowed text items rest → items ≢ [] → has_fault items ≡ false
    → name_item is_identifier_part ys ≡ None
    → CutsInto allowed (items_text items ++ ys) items ys
cut_anywhere allowed text [] rest ys cut some good end = absurd (some refl)
cut_anywhere allowed text (item ∷ items) rest ys cut some good end =
    let both = no_fault item items good in
    let more = parts_anywhere (drop (length item.text) text) items rest ys cut.1 both.1 end in
    first_anywhere allowed text item (items_text items) items ys cut.0 both.0 more

-- Behind the last item, no further one is.
pub none_behind : (allowed : ℕ → Bool) (text : List ℕ) (items : List NameItem) (rest : List ℕ)
    → CutsInto allowed text items rest → items ≢ [] → name_item is_identifier_part rest ≡ None
none_behind allowed text [] rest cut some = absurd (some refl)
none_behind allowed text (item ∷ items) rest cut some = parts_end (drop (length item.text) text) items cut.1
  where
    parts_end : (text : List ℕ) (items : List NameItem) → CutsInto is_identifier_part text items rest
        → name_item is_identifier_part rest ≡ None
    parts_end text [] cut = ap (name_item is_identifier_part) cut.1 ∙ cut.0
    parts_end text (item ∷ items) cut = parts_end (drop (length item.text) text) items cut.1

any_append : (xs ys : List ℕ) → has_escape (xs ++ ys) ≡ (has_escape xs || has_escape ys)
any_append [] ys = refl
any_append (x ∷ xs) ys = by_test (x == backslash) (any_append xs ys)
  where
    by_test : (b : Bool) → has_escape (xs ++ ys) ≡ (has_escape xs || has_escape ys)
        → (b || has_escape (xs ++ ys)) ≡ ((b || has_escape xs) || has_escape ys)
    by_test true e = refl
    by_test false e = e

-- The items tell where escapes are, and only those can be at fault.
pub escapes_of_cut : (allowed : ℕ → Bool) (text : List ℕ) (items : List NameItem) (rest : List ℕ)
    → CutsInto allowed text items rest
    → has_escape (items_text items) ≡ list_any (λ item. item.is_escape) items
escapes_of_cut allowed text [] rest cut = refl
escapes_of_cut allowed text (item ∷ items) rest cut =
    let more = escapes_of_cut is_identifier_part (drop (length item.text) text) items rest cut.1 in
    any_append item.text (items_text items)
    ∙ ap (λ b. b || has_escape (items_text items)) (item_takes allowed text item cut.0).escape
    ∙ ap (λ b. item.is_escape || b) more

-- What is reported of items without a fault, and of others.
pub nothing_reported : (place : ℕ) (items : List NameItem) → has_fault items ≡ false → items_report place items ≡ []
nothing_reported place [] good = refl
nothing_reported place (item ∷ items) good =
    let both = no_fault item items good in
    rw both.0 (nothing_reported (place_behind place item.text) items both.1)

pub reports_nothing : (place : ℕ) (items : List NameItem) → items_report place items ≡ [] → has_fault items ≡ false
reports_nothing place [] none = refl
reports_nothing place (item ∷ items) none =
    by_fault item.fault refl (reports_nothing (place_behind place item.text) items)
  where
    by_fault : (o : Option NameFault) → item.fault ≡ o
        → (items_report (place_behind place item.text) items ≡ [] → has_fault items ≡ false)
        → has_fault (item ∷ items) ≡ false
    by_fault (Some fault) f more =
        let no : fault_report place (place_behind place item.text) fault
        ∷ items_report (place_behind place item.text) items ≡ [] = rw f at none in
        absurd (cc)
    by_fault None f more = rw f (more (rw f at none))
