-- Laws of templates: a part is what is read without a fault, and nothing else.
use Rattle.std.specs.Str.{encode_utf8_all}
use Rattle.std.proofs.Common.{None}
use Rattle.js_grammar.proofs.ReadingLemmas.{taken_is}
use Rattle.std.proofs.Common.{◌≡◌, ℕ, zero, suc, ◌<◌, true, false, ◌==◌, List, [], ◌∷◌, ◌++◌, length, drop}
use Rattle.std.proofs.Common.{refl, sym, ◌∙◌, ap, arith, inl, inr, append_assoc, subst}
use Rattle.std.specs.Prelude.{codes}
use Rattle.js_text.specs.Ascii.{grave_accent}
use Rattle.js_text.specs.Characters.{begins}
use Rattle.js_kind.specs.declared.kind.Kind.{Kind}
use Rattle.js_kind.specs.declared.kind.Kind.TheVariants.{NoSubstitutionTemplate, TemplateHead}
use Rattle.js_grammar.specs.Gap.{is_prefix}
use Rattle.js_grammar.specs.Reading.{Reading, place_behind}
use Rattle.js_grammar.specs.StringItems.{Fault, StringItem, StringItems, items_up_to, string_text, contains_escape}
use Rattle.js_grammar.specs.StringItems.{fault_reports, item_reports, quoted_value}
use Rattle.js_grammar.specs.StringItems.Fault.{no_fault, bad_escape, unfinished_escape}
use Rattle.js_grammar.specs.Template.{template_items, template_item, template_value, template_part_reading, IsPart}
use Rattle.js_grammar.specs.Template.{IsTemplatePart, part_of_items}
use Rattle.js_grammar.specs.Template.IsTemplatePart.{no_substitution, head}
use Rattle.js_grammar.proofs.EscapeCases.{first_is}
use Rattle.js_grammar.proofs.NumberItems.{true_or_false}
use Rattle.js_grammar.proofs.StringLaws.{not_empty, template_cut}
use Rattle.js_grammar.proofs.StringSteps.{none_or_some, template_item_heads, part_with_tail, part_with_substitution}
use Rattle.js_grammar.proofs.StringSteps.{part_unterminated}
use Rattle.js_grammar.proofs.Tests.{prefix_is}

nothing_left : (most : ℕ) → (items_up_to template_item most []).rest ≡ []
nothing_left zero = refl
nothing_left (suc most) = refl

-- a template reports nothing of items behind which something stands
finished : (start place : ℕ) (most : ℕ) (text : List ℕ) → 0 < length (items_up_to template_item most text).rest
    → item_reports true start place (items_up_to template_item most text).items ≡ []
finished start place zero text h = refl
finished start place (suc most) text h =
    elim (none_or_some (template_item text)) [
      | inl e ↦ rw e refl
      | inr (item, e) ↦ (
          let more = items_up_to template_item most item.rest in
          let left : 0 < length more.rest = rw e at h in
          let end = place_behind place item.text in
          let ends : item.fault ≡ unfinished_escape → ⊥ =
          λ unfinished.
          (let none : more.rest ≡ [] =
          ap (λ cs. (items_up_to template_item most cs).rest) ((template_item_heads text item e).finished unfinished)
          ∙ nothing_left most in
          omega (arith, ap length none, left)) in
          rw e
          (ap (λ ds. ds ++ item_reports true start end more.items) (silent start place end item.fault ends)
          ∙ finished start end most item.rest left))
    ]
  where
    silent : (start place end : ℕ) (fault : Fault) → (fault ≡ unfinished_escape → ⊥)
        → fault_reports true start place end fault ≡ []
    silent start place end no_fault h = refl
    silent start place end bad_escape h = refl
    silent start place end unfinished_escape h = absurd (h refl)

pub finished_items : (text : List ℕ) → 0 < length (template_items text).rest
    → item_reports true 0 1 (template_items text).items ≡ []
finished_items text h = finished 0 1 (length text) text h

-- what is read of a part of a template of these characters without a fault
abbrev pub good_part : Kind → List ℕ → List StringItem → List ℕ → Reading
good_part kind xs items ys = record {
  taken = xs;
  rest = ys;
  kind = kind;
  line_ended = false;
  escaped = contains_escape items;
  has_separator = false;
  value = quoted_value (contains_escape items) (template_value items) kind (length (encode_utf8_all xs));
  regex = None;
  diagnostics = [];
}

part_reports : (opening : ℕ) (closing xs ys : List ℕ) (part : IsPart opening closing xs ys)
    → 0 < length (closing ++ ys) → item_reports true 0 1 part.items ≡ []
part_reports opening closing xs ys part h =
    let text = string_text part.items ++ (closing ++ ys) in
    ap (λ (found : StringItems). item_reports true 0 1 found.items) (sym part.found)
    ∙ finished_items text
    (subst (λ n. 0 < n) (sym (ap (λ (found : StringItems). length found.rest) part.found)) h)

pub part_here : (opening : ℕ) (closing xs ys : List ℕ) (part : IsPart opening closing xs ys)
    → xs ++ ys ≡ opening ∷ (string_text part.items ++ (closing ++ ys))
part_here opening closing xs ys part =
    ap (λ cs. cs ++ ys) part.here
    ∙ ap (λ cs. opening ∷ cs) (append_assoc (string_text part.items) closing ys)

-- A part is read as such.
pub tail_is_read : (substitute tail : Kind) (opening : ℕ) (xs ys : List ℕ) (part : IsPart opening (codes "`") xs ys)
    → template_part_reading substitute tail (opening ∷ (string_text part.items ++ (codes "`" ++ ys)))
    ≡ good_part tail xs part.items ys
tail_is_read substitute tail opening xs ys part =
    let text = opening ∷ (string_text part.items ++ (codes "`" ++ ys)) in
    ap (part_of_items substitute tail text) part.found
    ∙ part_with_tail substitute tail text (record { items = part.items; rest = codes "`" ++ ys }) refl
    ∙ rw (
      taken_is text xs ys (sym (part_here opening (codes "`") xs ys part)),
      part_reports opening (codes "`") xs ys part (omega arith),
    ) refl

pub substitution_is_read : (substitute tail : Kind) (opening : ℕ) (xs ys : List ℕ)
    (part : IsPart opening (codes "${") xs ys)
    → template_part_reading substitute tail (opening ∷ (string_text part.items ++ (codes "${" ++ ys)))
    ≡ good_part substitute xs part.items ys
substitution_is_read substitute tail opening xs ys part =
    let text = opening ∷ (string_text part.items ++ (codes "${" ++ ys)) in
    ap (part_of_items substitute tail text) part.found
    ∙ part_with_substitution substitute tail text (record { items = part.items; rest = codes "${" ++ ys }) refl refl
    ∙ rw (
      taken_is text xs ys (sym (part_here opening (codes "${") xs ys part)),
      part_reports opening (codes "${") xs ys part (omega arith),
    ) refl

-- xs is a template or the first part of one that the text begins with, and ys follow it
pub record BeginsWithTemplate (text xs ys : List ℕ) (kind : Kind) : Type 0 where
  pub here : text ≡ xs ++ ys
  pub part : IsTemplatePart xs ys kind

found_part : (opening : ℕ) (closing text ys : List ℕ) → (template_items text).rest ≡ closing ++ ys
    → (xs : List ℕ) × (opening ∷ text ≡ xs ++ ys) × IsPart opening closing xs ys
found_part opening closing text ys left =
    let found = template_items text in
    let cs = string_text found.items in
    let whole : text ≡ cs ++ (closing ++ ys) = sym (template_cut text) ∙ ap (λ ds. cs ++ ds) left in (
      opening ∷ (cs ++ closing),
      ap (λ ds. opening ∷ ds) (whole ∙ sym (append_assoc cs closing ys)),
      record {
        items = found.items;
        here = refl;
        found =
            ap template_items (sym whole) ∙ ap (λ ds. record { items = found.items; rest = ds }) left;
      },
    )

-- What is read without a fault is a template, or the first part of one.
pub clean_is_template : (text : List ℕ)
    → (template_part_reading TemplateHead NoSubstitutionTemplate (grave_accent ∷ text)).diagnostics ≡ []
    → (xs : List ℕ) × BeginsWithTemplate (grave_accent ∷ text) xs
    (template_part_reading TemplateHead NoSubstitutionTemplate (grave_accent ∷ text)).rest
    (template_part_reading TemplateHead NoSubstitutionTemplate (grave_accent ∷ text)).kind
clean_is_template text clean =
    let found = template_items text in
    let whole = grave_accent ∷ text in
    elim (true_or_false (begins (λ c. c == grave_accent) found.rest)) [
      | inl tail ↦ (
          let read = part_with_tail TemplateHead NoSubstitutionTemplate whole found tail in
          let part = found_part grave_accent (codes "`") text (drop 1 found.rest) (first_is grave_accent found.rest
          tail) in
          (part.0, rw read (record { here = part.1; part = no_substitution part.2 refl })))
      | inr none ↦
          elim (true_or_false (is_prefix (codes "${") found.rest)) [
            | inl begun ↦ (
                let read = part_with_substitution TemplateHead NoSubstitutionTemplate whole found none begun in
                let part = found_part grave_accent (codes "${") text (drop 2 found.rest)
                (prefix_is (codes "${") found.rest begun) in
                (part.0, rw read (record { here = part.1; part = head part.2 refl })))
            | inr other ↦ (
                let read = part_unterminated TemplateHead NoSubstitutionTemplate whole found none other in
                not_empty (item_reports true 0 1 found.items) _
                (ap (λ (r : Reading). r.diagnostics) (sym read) ∙ clean))
          ]
    ]

same_part : (opening : ℕ) (closing xs ys us vs : List ℕ) (a : IsPart opening closing xs ys)
    (b : IsPart opening closing us vs) → (k : ℕ) → length closing ≡ k → drop k closing ≡ []
    → xs ++ ys ≡ us ++ vs → (xs ≡ us) × (drop k (closing ++ ys) ≡ drop k (closing ++ vs))
same_part opening closing xs ys us vs a b k size none e =
    let same = sym (part_here opening closing xs ys a) ∙ e ∙ part_here opening closing us vs b in
    let found = sym a.found ∙ ap template_items (ap (drop 1) same) ∙ b.found in
    let items : a.items ≡ b.items = ap (λ (i : StringItems). i.items) found in (
      a.here ∙ ap (λ its. opening ∷ (string_text its ++ closing)) items ∙ sym b.here,
      ap (λ (i : StringItems). drop k i.rest) found,
    )

other_part : {A : Type 0} (opening : ℕ) (xs ys us vs : List ℕ) (a : IsPart opening (codes "`") xs ys)
    (b : IsPart opening (codes "${") us vs) → xs ++ ys ≡ us ++ vs → A
other_part opening xs ys us vs a b e =
    let same = sym (part_here opening (codes "`") xs ys a) ∙ e ∙ part_here opening (codes "${") us vs b in
    let found = sym a.found ∙ ap template_items (ap (drop 1) same) ∙ b.found in
    let differ : true ≡ false = ap (λ (i : StringItems). begins (λ c. c == grave_accent) i.rest) found in
    absurd (cc)

-- A text begins with one such part at most, of one kind.
pub record SameTemplate (xs ys us vs : List ℕ) (kind j : Kind) : Type 0 where
  pub characters : xs ≡ us
  pub rest : ys ≡ vs
  pub kind_is : kind ≡ j

pub one_template : (text xs ys us vs : List ℕ) (kind j : Kind) → BeginsWithTemplate text xs ys kind
    → BeginsWithTemplate text us vs j → SameTemplate xs ys us vs kind j
one_template text xs ys us vs kind j a b = same a.part b.part
  where
    whole : xs ++ ys ≡ us ++ vs
    whole = sym a.here ∙ b.here

    same : IsTemplatePart xs ys kind → IsTemplatePart us vs j → SameTemplate xs ys us vs kind j
    same (no_substitution p e) (no_substitution q f) =
        let both = same_part grave_accent (codes "`") xs ys us vs p q 1 refl refl whole in
        record { characters = both.0; rest = both.1; kind_is = e ∙ sym f }
    same (no_substitution p e) (head q f) = other_part grave_accent xs ys us vs p q whole
    same (head p e) (no_substitution q f) = other_part grave_accent us vs xs ys q p (sym whole)
    same (head p e) (head q f) =
        let both = same_part grave_accent (codes "${") xs ys us vs p q 2 refl refl whole in
        record { characters = both.0; rest = both.1; kind_is = e ∙ sym f }

-- a template begins with a backquote, and has two characters at least
pub template_begins : (xs ys : List ℕ) (kind : Kind) → IsTemplatePart xs ys kind
    → begins (λ c. c == grave_accent) xs ≡ true
template_begins xs ys kind (no_substitution part e) = ap (begins (λ c. c == grave_accent)) part.here
template_begins xs ys kind (head part e) = ap (begins (λ c. c == grave_accent)) part.here
