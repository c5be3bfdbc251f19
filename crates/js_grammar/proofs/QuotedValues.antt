-- The values of what is read of strings and templates.
use Rattle.std.proofs.Common.{None, drop}
use Rattle.std.specs.Prelude.{if◌then◌else◌}
use Rattle.std.proofs.Common.{◌≡◌, ℕ, Bool, true, false, ◌==◌, List, ◌∷◌, ◌++◌, refl}
use Rattle.std.proofs.Common.{sym, ◌∙◌}
use Rattle.std.proofs.Common.{ap, inl, inr}
use Rattle.std.specs.Prelude.{codes}
use Rattle.std.proofs.lemmas.Bool.{or_right}
use Rattle.js_text.specs.Ascii.{grave_accent}
use Rattle.js_text.specs.Characters.{begins}
use Rattle.js_kind.specs.declared.kind.Kind.{Kind}
use Rattle.js_kind.specs.declared.kind.Kind.TheVariants.{NoSubstitutionTemplate, Str, TemplateHead, Undetermined}
use Rattle.js_grammar.specs.Gap.{is_prefix}
use Rattle.js_kind.specs.Kinds.{is_identifier_name, is_string_kind, is_template_kind}
use Rattle.js_text.specs.declared.value.RowValue.{RowValue}
use Rattle.js_text.specs.declared.value.RowValue.TheVariants.{Nothing, Units}
use Rattle.js_grammar.specs.Quoted.{quoted_reading, units_in}
use Rattle.js_grammar.specs.Reading.{Reading, size_of}
use Rattle.js_grammar.specs.TokenText.{is_named, is_private_name, is_quoted, is_valued, unescaped_value, text_slice}
use Rattle.js_grammar.specs.Values.{template_units, template_row_value}
use Rattle.js_grammar.specs.StringItems.{string_units}
use Rattle.js_grammar.specs.StringItems.{StringItem, StringItems, string_of_items, IsString, is_quote, string_items}
use Rattle.js_grammar.specs.StringItems.{string_reading, row_value}
use Rattle.js_grammar.specs.StringItems.{contains_escape, quoted_value}
use Rattle.js_grammar.specs.StringItems.{contains_bad_escape}
use Rattle.js_grammar.specs.StringItems.StringValue.{units}
use Rattle.js_grammar.specs.Template.{part_of_items, template_items, template_part_reading}
use Rattle.js_grammar.specs.Template.{template_value}
use Rattle.js_grammar.specs.Template.{terminated_part}
use Rattle.js_grammar.proofs.NumberItems.{true_or_false}
use Rattle.js_grammar.proofs.StringLaws.{good_string, string_here, string_is_read}
use Rattle.js_grammar.proofs.StringSteps.{string_terminated, string_unterminated, part_with_tail}
use Rattle.js_grammar.proofs.StringSteps.{part_with_substitution, part_unterminated, template_value_bad}
use Rattle.js_grammar.proofs.StringSteps.{template_value_good}

-- what is escaped has units of its own, if they are good
escaped_units : (b : Bool) (value slice : RowValue) → units_in slice ≡ None
    → units_in (if b then value else slice) ≡ (if b then units_in value else None)
escaped_units true value slice e = refl
escaped_units false value slice e = e

-- the units of what is read of a part of a template do not depend on the kinds that it may have, nor on its mark
same_units : (a b c d : Kind) (p q : ℕ) (text : List ℕ)
    → units_in (template_part_reading a b (p ∷ text)).value ≡ units_in (template_part_reading c d (q ∷ text)).value
same_units a b c d p q text =
    let found = template_items text in
    let escaped = contains_escape found.items in
    let value = row_value (template_value found.items) in
    elim (true_or_false (begins (λ c. c == grave_accent) found.rest)) [
      | inl is ↦
          rw (part_with_tail a b (p ∷ text) found is, part_with_tail c d (q ∷ text) found is)
          (escaped_units escaped value _ refl ∙ sym (escaped_units escaped value _ refl))
      | inr none ↦
          elim (true_or_false (is_prefix (codes "${") found.rest)) [
            | inl begun ↦
                rw (
                  part_with_substitution a b (p ∷ text) found none begun,
                  part_with_substitution c d (q ∷ text) found none begun,
                ) (escaped_units escaped value _ refl ∙ sym (escaped_units escaped value _ refl))
            | inr other ↦
                rw (
                  part_unterminated a b (p ∷ text) found none other,
                  part_unterminated c d (q ∷ text) found none other,
                ) refl
          ]
    ]

-- what is read where a good string begins
pub string_read_at : (xs ys : List ℕ) (is : IsString xs ys) → quoted_reading (xs ++ ys) ≡ good_string xs is.items ys
string_read_at xs ys is = ap quoted_reading (string_here xs ys is) ∙ rw is.is_quote (string_is_read xs ys is)

-- what holds of each kind that may be read holds of the kind of what was read
pub part_kind_is : (P : Kind → Type 0) (substitute tail : Kind) → P substitute → P tail → P Undetermined
    → (opening : ℕ) (text : List ℕ) → P (template_part_reading substitute tail (opening ∷ text)).kind
part_kind_is P substitute tail first last none opening text =
    let found = template_items text in
    elim (true_or_false (begins (λ d. d == grave_accent) found.rest)) [
      | inl is ↦ rw (part_with_tail substitute tail (opening ∷ text) found is) last
      | inr no_tail ↦
          elim (true_or_false (is_prefix (codes "${") found.rest)) [
            | inl begun ↦ rw (part_with_substitution substitute tail (opening ∷ text) found no_tail begun) first
            | inr other ↦ rw (part_unterminated substitute tail (opening ∷ text) found no_tail other) none
          ]
    ]

string_kind_is : (P : Kind → Type 0) → P Str → P Undetermined → (c : ℕ) (cs : List ℕ)
    → P (string_reading c cs).kind
string_kind_is P string none c cs =
    let found = string_items c cs in
    elim (true_or_false (begins (λ d. d == c) found.rest)) [
      | inl closed ↦ rw (string_terminated c (c ∷ cs) found closed) string
      | inr open_end ↦ rw (string_unterminated c (c ∷ cs) found open_end) none
    ]

pub quoted_kind_is : (P : Kind → Type 0) → P Str → P Undetermined → P NoSubstitutionTemplate → P TemplateHead
    → (c : ℕ) (cs : List ℕ) → P (quoted_reading (c ∷ cs)).kind
quoted_kind_is P string none tail head c cs =
    elim (true_or_false (is_quote c)) [
      | inl quote ↦ rw quote (string_kind_is P string none c cs)
      | inr other ↦ rw other (part_kind_is P TemplateHead NoSubstitutionTemplate head tail none c cs)
    ]

-- What is read of a string or a part of a template, of its value: what its items stand for where something in it is
-- escaped, and else its stretch, if it is of a kind that has one.
pub record HasQuotedValue (reading : Reading) : Type 0 where
  pub template : reading.escaped ≡ true → is_template_kind reading.kind ≡ true → reading.value
      ≡ template_row_value (units_in reading.value)
  pub units : reading.escaped ≡ true → is_template_kind reading.kind ≡ false
      → (us : List ℕ) × (reading.value ≡ Units us)
  pub unescaped : reading.escaped ≡ false → reading.value ≡ unescaped_value reading.kind 0 (size_of reading)

-- a kind of strings or templates has its text as value
pub quoted_unescaped_value : (kind : Kind) (start end : ℕ) → is_quoted kind ≡ true
    → unescaped_value kind start end ≡ text_slice kind start end
quoted_unescaped_value kind start end is =
    ap (λ b. if b then text_slice kind start end else Nothing) (or_right (is_named kind) (is_quoted kind) is)

quoted_kinds : (is_quoted Str ≡ true) × (is_template_kind Str ≡ false) × (is_valued Undetermined ≡ false)
    × (is_template_kind Undetermined ≡ false)
unfolding is_identifier_name is_private_name is_string_kind is_template_kind
quoted_kinds = (refl, refl, refl, refl)

-- a string is no template
pub string_is_no_template : (quote : ℕ) (behind : List ℕ)
    → is_template_kind (string_reading quote behind).kind ≡ false
string_is_no_template quote behind =
    string_kind_is (λ k. is_template_kind k ≡ false) quoted_kinds.1 quoted_kinds.3 quote behind

-- No line ends in what is read of a string or a part of a template; it has no separator, and is no regular expression.
abbrev pub HasNoFlag : Reading → Type 0
HasNoFlag r = (r.line_ended ≡ false) × (r.has_separator ≡ false) × (r.regex ≡ None)

pub string_flags : (quote : ℕ) (text : List ℕ) (found : StringItems) → HasNoFlag (string_of_items quote text found)
string_flags quote text found =
    elim (true_or_false (begins (λ c. c == quote) found.rest)) [
      | inl closed ↦ rw (string_terminated quote text found closed) (refl, refl, refl)
      | inr open_end ↦ rw (string_unterminated quote text found open_end) (refl, refl, refl)
    ]

pub part_flags : (substitute tail : Kind) (text : List ℕ) (found : StringItems)
    → HasNoFlag (part_of_items substitute tail text found)
part_flags substitute tail text found =
    elim (true_or_false (begins (λ c. c == grave_accent) found.rest)) [
      | inl is ↦ rw (part_with_tail substitute tail text found is) (refl, refl, refl)
      | inr none ↦
          elim (true_or_false (is_prefix (codes "${") found.rest)) [
            | inl begun ↦ rw (part_with_substitution substitute tail text found none begun) (refl, refl, refl)
            | inr other ↦ rw (part_unterminated substitute tail text found none other) (refl, refl, refl)
          ]
    ]

pub string_value_is : (quote : ℕ) (text : List ℕ) → HasQuotedValue (string_reading quote text)
string_value_is quote text =
    let found = string_items quote text in
    elim (true_or_false (begins (λ c. c == quote) found.rest)) [
      | inl closed ↦
          rw (string_terminated quote (quote ∷ text) found closed)
          (record {
            template = λ _ no. never quoted_kinds.1 no;
            units = λ e _. (string_units found.items, rw e refl);
            unescaped = λ e. rw e (sym (quoted_unescaped_value Str 0 _ quoted_kinds.0));
          })
      | inr open_end ↦
          rw (string_unterminated quote (quote ∷ text) found open_end)
          (record {
            template = λ no _. cc;
            units = λ no _. cc;
            unescaped = λ _. rw quoted_kinds.2 refl;
          })
    ]
  where
    never : {A : Type 0} {b : Bool} → b ≡ false → b ≡ true → A
    never e f = absurd (let no : true ≡ false = sym f ∙ e in cc)

-- of a part of a template
terminated_part_value : (kind : Kind) (items : List StringItem) (reading : Reading) → is_template_kind kind ≡ true
    → reading.kind ≡ kind
    → reading.escaped ≡ contains_escape items
    → reading.value ≡ quoted_value (contains_escape items) (template_value items) kind (size_of reading)
    → HasQuotedValue reading
terminated_part_value kind items reading is kind_is escaped value = record {
  template = λ e _.
      let as_row : reading.value ≡ row_value (template_value items) =
      value ∙ ap (λ b. quoted_value b (template_value items) kind (size_of reading)) (sym escaped ∙ e) in
      as_row ∙ template_row items ∙ ap (λ v. template_row_value (units_in v)) (sym as_row);
  units = λ e no. absurd (let both : true ≡ false = sym is ∙ ap is_template_kind (sym kind_is) ∙ no in cc);
  unescaped = λ e.
      value ∙ ap (λ b. quoted_value b (template_value items) kind (size_of reading)) (sym escaped ∙ e)
      ∙ sym (quoted_unescaped_value kind 0 (size_of reading) (or_right (is_string_kind kind)
      (is_template_kind kind) is))
      ∙ ap (λ k. unescaped_value k 0 (size_of reading)) (sym kind_is);
}
  where
    template_row : (items : List StringItem)
        → row_value (template_value items) ≡ template_row_value (units_in (row_value (template_value items)))
    template_row items =
        elim (true_or_false (contains_bad_escape items)) [
          | inl bad ↦ rw (template_value_bad items bad) refl
          | inr good ↦ rw (template_value_good items good) refl
        ]

pub part_value_is : (substitute tail : Kind) → is_template_kind substitute ≡ true → is_template_kind tail ≡ true
    → (opening : ℕ) (text : List ℕ) → HasQuotedValue (template_part_reading substitute tail (opening ∷ text))
part_value_is substitute tail first last opening text =
    let found = template_items text in
    elim (true_or_false (begins (λ c. c == grave_accent) found.rest)) [
      | inl is ↦
          rw (part_with_tail substitute tail (opening ∷ text) found is)
          (terminated_part_value tail found.items (terminated_part tail (opening ∷ text) found (drop 1 found.rest))
          last refl refl refl)
      | inr none ↦
          elim (true_or_false (is_prefix (codes "${") found.rest)) [
            | inl begun ↦
                rw (part_with_substitution substitute tail (opening ∷ text) found none begun)
                (terminated_part_value substitute found.items
                (terminated_part substitute (opening ∷ text) found (drop 2 found.rest)) first refl refl refl)
            | inr other ↦
                rw (part_unterminated substitute tail (opening ∷ text) found none other)
                (record {
                  template = λ no _. cc;
                  units = λ no _. cc;
                  unescaped = λ _. rw quoted_kinds.2 refl;
                })
          ]
    ]

-- what is escaped is of a kind of templates
pub part_is_template : (substitute tail : Kind) → is_template_kind substitute ≡ true → is_template_kind tail ≡ true
    → (opening : ℕ) (text : List ℕ) → (template_part_reading substitute tail (opening ∷ text)).escaped ≡ true
    → is_template_kind (template_part_reading substitute tail (opening ∷ text)).kind ≡ true
part_is_template substitute tail first last opening text escaped =
    let found = template_items text in
    elim (true_or_false (begins (λ c. c == grave_accent) found.rest)) [
      | inl is ↦ rw (part_with_tail substitute tail (opening ∷ text) found is) last
      | inr none ↦
          elim (true_or_false (is_prefix (codes "${") found.rest)) [
            | inl begun ↦ rw (part_with_substitution substitute tail (opening ∷ text) found none begun) first
            | inr other ↦ (
                let no : false ≡ true = rw (part_unterminated substitute tail (opening ∷ text) found none other)
                at escaped in
                absurd (cc))
          ]
    ]

-- and the value of a template, or of a part of one behind another mark
pub part_stands : (substitute tail : Kind) (opening : ℕ) (behind here : List ℕ) → here ≡ opening ∷ behind
    → is_quote opening ≡ false
    → units_in (template_part_reading substitute tail (opening ∷ behind)).value ≡ template_units here
part_stands substitute tail opening behind here e mark =
    same_units substitute tail TemplateHead NoSubstitutionTemplate opening opening behind
    ∙ sym (ap template_units e ∙ rw mark refl)
