-- The values of what is read: as the kind and the span of its token say, or as its name stands for.
use Rattle.js_grammar.proofs.NameReadings.{sign_size}
use Rattle.std.proofs.Common.{◌≡◌, ◌≢◌, ℕ, ◌+◌, ◌≤◌, Bool, true, false, not, ◌==◌, List, [], ◌∷◌, ◌++◌, drop, length}
use Rattle.std.proofs.Common.{refl}
use Rattle.std.proofs.Common.{sym, ◌∙◌}
use Rattle.std.proofs.Common.{ap, subst, Option, None, Some, inl, inr}
use Rattle.std.specs.Prelude.{unwrap_or, if◌then◌else◌}
use Rattle.std.specs.List.{list_all}
use Rattle.std.specs.Str.{IsUtf8, encode_utf8_all}
use Rattle.std.proofs.lemmas.Bool.{not-true}
use Rattle.js_kind.proofs.Members.{name_passes}
use Rattle.js_text.specs.Ascii.{number_sign}
use Rattle.js_text.specs.Characters.{begins, from_place, is_identifier_start}
use Rattle.js_text.specs.JsStr.{units_of}
use Rattle.js_text.specs.declared.source_type.SourceType.{SourceType}
use Rattle.js_text.specs.declared.value.RowValue.{RowValue}
use Rattle.js_text.specs.declared.value.RowValue.TheVariants.{Nothing, Slice, Units}
use Rattle.js_kind.specs.Keywords.{name_kind}
use Rattle.js_kind.specs.Kinds.{is_identifier_name, is_string_kind, is_template_kind, keywords}
use Rattle.js_kind.specs.TokenParts.{TokenParts}
use Rattle.js_kind.specs.declared.kind.Kind.{Kind}
use Rattle.js_kind.specs.declared.kind.Kind.TheVariants.{Eof, HashbangComment, Ident, PrivateIdentifier}
use Rattle.js_kind.specs.declared.kind.Kind.TheVariants.{NoSubstitutionTemplate, TemplateHead, Undetermined}
use Rattle.js_kind.specs.declared.kind.Kind.TheVariants.{TemplateMiddle, TemplateTail}
use Rattle.js_kind.proofs.NameKinds.{name_kind-is_identifier_name}
use Rattle.js_grammar.specs.Goals.{ReadsHere, ReadsPlainly, ReadsPart, GoalReads, next_part}
use Rattle.js_grammar.specs.Goals.ReadsPlainly.{hashbang, behind_gap}
use Rattle.js_grammar.specs.Name.{begins_name, contains_escape, decoded, items_reading, items_text, items_value}
use Rattle.js_grammar.specs.Name.{name_items, name_reading, name_value, no_private_name, private_name_of}
use Rattle.js_grammar.specs.Name.{private_reading}
use Rattle.js_grammar.specs.Number.{begins_number, may_not_follow_number}
use Rattle.js_grammar.specs.NumberReads.{number_items, number_reading}
use Rattle.js_grammar.specs.Outcome.{Outcome, outcome_at}
use Rattle.js_grammar.specs.Quoted.{begins_quoted, quoted_reading, units_in}
use Rattle.js_grammar.specs.Reading.{Reading, moved_value, read_up_to, size_of}
use Rattle.js_grammar.specs.Readings.{read_punctuator}
use Rattle.js_grammar.specs.Recovery.{binary_file, invalid_character, unterminated_comment}
use Rattle.js_grammar.specs.Spelling.{begins_named}
use Rattle.js_grammar.specs.StringItems.{is_quote, string_items, string_reading}
use Rattle.js_grammar.specs.Template.{template_items, template_part_reading}
use Rattle.js_grammar.specs.TokenText.{closing_length, is_private_name, is_quoted, is_valued, unescaped_value}
use Rattle.js_grammar.specs.UnicodeEscape.{right_curly_bracket}
use Rattle.js_grammar.specs.Values.{decoded_units, decoded_value, name_units, template_row_value, template_units}
use Rattle.js_grammar.specs.Values.{IsValueOf}
use Rattle.js_grammar.specs.declared.goal.Goal.{Goal}
use Rattle.js_grammar.proofs.Flags.{has_no_unescaped_value, name_is_unquoted, neither_quoted, none_of_them}
use Rattle.js_grammar.proofs.Flags.{private_name_is_unquoted, punctuator_unflagged}
use Rattle.js_grammar.proofs.GoalWays.{Way, ways}
use Rattle.js_grammar.proofs.GoalWays.Way.{plainly, part_on, alone}
use Rattle.js_grammar.proofs.HereReadings.{of_each_reading}
use Rattle.js_grammar.proofs.Marks.{private_is_unquoted, here_marks, marks_size, part_has_marks}
use Rattle.js_grammar.proofs.NameCuts.{items_cut, private_of_cut, read_of_cut}
use Rattle.js_grammar.proofs.NumberItems.{true_or_false}
use Rattle.js_grammar.proofs.NumberKinds.{unmarked_parts}
use Rattle.js_grammar.proofs.NumberReadings.{number_flags}
use Rattle.js_grammar.proofs.NumberSound.{first_is}
use Rattle.js_grammar.proofs.NumberSpans.{number_characters}
use Rattle.js_grammar.proofs.NumberSteps.{read_badly, read_well}
use Rattle.js_grammar.proofs.QuotedValues.{HasQuotedValue, part_is_template, part_kind_is, part_stands, part_value_is}
use Rattle.js_grammar.proofs.QuotedValues.{HasNoFlag, part_flags, string_flags, string_is_no_template, quoted_kind_is}
use Rattle.js_grammar.proofs.QuotedValues.{string_value_is}
use Rattle.js_grammar.proofs.ReadingLemmas.{by_choice, unescaped_value_moved}
use Rattle.js_grammar.proofs.Spans.{here_is_taken, part_is_taken}
use Rattle.js_grammar.proofs.Starts.{excluded, name_is_named, named_apart}
use Rattle.js_grammar.proofs.StringBegins.{quote_is_quoted, quoted_begins_no_named}

private_kind : (is_identifier_name PrivateIdentifier ≡ false) × (is_private_name PrivateIdentifier ≡ true)
unfolding is_identifier_name is_private_name
private_kind = (refl, refl)

-- kinds of what is read to recover that have no value
faulty_kinds : (is_valued Eof ≡ false) × (is_valued Undetermined ≡ false) × (is_valued HashbangComment ≡ false)
unfolding is_identifier_name is_private_name is_string_kind is_template_kind
faulty_kinds = (refl, refl, refl)

first_kinds : (is_template_kind TemplateHead ≡ true) × (is_template_kind NoSubstitutionTemplate ≡ true)
unfolding is_template_kind
first_kinds = (refl, refl)

next_kinds : (is_template_kind TemplateMiddle ≡ true) × (is_template_kind TemplateTail ≡ true)
unfolding is_template_kind
next_kinds = (refl, refl)

-- where a name begins, no quote does
named_begins_no_quote : (here : List ℕ) → begins begins_named here ≡ true → begins is_quote here ≡ false
named_begins_no_quote here begun =
    excluded (begins is_quote here) (begins begins_named here)
    (λ quote. quoted_begins_no_named here (quote_is_quoted here quote)) begun

pub decoded_of_name : (here : List ℕ) → begins_name here ≡ true → units_of (decoded here) ≡ decoded_units here
decoded_of_name here begun = rw (named_begins_no_quote here (name_is_named here begun), named_apart here begun) refl

-- and so for what is read behind a `#`
pub decoded_of_private : (cs : List ℕ) → units_of (decoded cs) ≡ decoded_units (number_sign ∷ cs)
decoded_of_private cs = refl

-- the value of a token of so many bytes, by its kind and escaped flag, and the text at its start
abbrev pub IsValueAt : Kind → Bool → ℕ → ℕ → List ℕ → RowValue → Type 0
IsValueAt kind escaped start end here value =
    (escaped ≡ false → value ≡ unescaped_value kind start end) × (escaped ≡ true → value ≡ decoded_value kind here)

-- the value of what was read of the text
abbrev pub HasValue : List ℕ → Reading → Type 0
HasValue here r = IsValueAt r.kind r.escaped 0 (size_of r) here r.value

no_value : (kind : Kind) (start end : ℕ) (here : List ℕ) → is_valued kind ≡ false
    → IsValueAt kind false start end here Nothing
no_value kind start end here e = ((λ _. sym (has_no_unescaped_value kind start end e)), (λ no. cc))

-- the value of a name or a string with an escape
decoded_as_units : (kind : Kind) (here us : List ℕ) → is_template_kind kind ≡ false → us ≡ decoded_units here
    → Units us ≡ decoded_value kind here
decoded_as_units kind here us none e = rw none (ap Units e)

no_template : (kind : Kind) → is_identifier_name kind ≡ true → is_template_kind kind ≡ false
no_template kind is = (neither_quoted kind (name_is_unquoted kind is)).1

private_is_no_template : is_template_kind PrivateIdentifier ≡ false
unfolding is_template_kind
private_is_no_template = refl

-- the value of a name, from a start to an end
name_value_at : (kind : Kind) (escaped : Bool) (cs here : List ℕ) (start end : ℕ) → is_template_kind kind ≡ false
    → unescaped_value kind 0 end ≡ Slice (record { start = start; end = end }) → units_of cs ≡ decoded_units here
    → IsValueAt kind escaped 0 end here (name_value escaped cs start end)
name_value_at kind true cs here start end none plain units =
    ((λ no. cc), (λ _. decoded_as_units kind here _ none units))
name_value_at kind false cs here start end none plain units = ((λ _. sym plain), (λ no. cc))

-- no kind of identifier names is that of private names
abbrev is_no_private : Kind → Bool
is_no_private kind = not (is_private_name kind)

names_are_not_private : list_all is_no_private (Ident ∷ keywords) ≡ true
unfolding is_private_name
names_are_not_private = refl

identifier_is_not_private : (kind : Kind) → is_identifier_name kind ≡ true → is_private_name kind ≡ false
identifier_is_not_private kind is =
    not-true (is_private_name kind) (name_passes is_no_private kind names_are_not_private is)

-- names, private or not, have their text as value
name_unescaped_value : (kind : Kind) (start end : ℕ) → is_identifier_name kind ≡ true
    → unescaped_value kind start end ≡ Slice (record { start = start; end = end })
name_unescaped_value kind start end is =
    rw (is, identifier_is_not_private kind is, name_is_unquoted kind is) refl

private_unescaped_value : (end : ℕ) → unescaped_value PrivateIdentifier 0 end ≡ Slice (record { start = 1; end = end })
private_unescaped_value end = rw (private_kind.1, private_name_is_unquoted, private_kind.0) refl

name_has_value : (here : List ℕ) → begins_name here ≡ true → HasValue here (name_reading here)
name_has_value here begun =
    let items = name_items is_identifier_start here in
    let found = items_cut is_identifier_start here in
    let kind = name_kind (encode_utf8_all (items_value items)) in
    let is = name_kind-is_identifier_name (encode_utf8_all (items_value items)) in
    let size = length (encode_utf8_all (items_text items)) in
    subst (HasValue here) (sym (read_of_cut here items found.rest found.cut))
    (name_value_at kind (contains_escape items) (items_value items) here 0 size (no_template kind is)
    (name_unescaped_value kind 0 size is) (decoded_of_name here begun))

private_has_value : (cs : List ℕ) → HasValue (number_sign ∷ cs) (private_reading (number_sign ∷ cs))
private_has_value cs =
    by_choice (HasValue (number_sign ∷ cs)) (begins_name cs) _ _ (λ _. named) (λ _. unnamed cs)
  where
    named : HasValue (number_sign ∷ cs) (private_name_of (name_items is_identifier_start cs) (number_sign ∷ cs))
    named =
        let items = name_items is_identifier_start cs in
        let found = items_cut is_identifier_start cs in
        let size = length (encode_utf8_all (items_text items)) in
        subst (HasValue (number_sign ∷ cs)) (sym (private_of_cut cs items found.rest found.cut))
        (subst
        (λ (n : ℕ). IsValueAt PrivateIdentifier (contains_escape items) 0 n (number_sign ∷ cs)
        (name_value (contains_escape items) (items_value items) 1 (1 + size))) (sym (sign_size (items_text items)))
        (name_value_at PrivateIdentifier (contains_escape items) (items_value items) (number_sign ∷ cs) 1 (1 + size)
        private_is_no_template (private_unescaped_value (1 + size)) (decoded_of_private cs)))

    unnamed : (xs : List ℕ) → HasValue (number_sign ∷ cs) (no_private_name (number_sign ∷ cs) xs)
    unnamed [] = no_value Undetermined 0 _ (number_sign ∷ cs) faulty_kinds.1
    unnamed (x ∷ xs) = no_value Eof 0 _ (number_sign ∷ cs) faulty_kinds.0

number_has_value : (here : List ℕ) → begins_number here ≡ true → HasValue here (number_reading here)
number_has_value here begun =
    let number = number_items here in
    let kinds = (unmarked_parts _ (number_characters here begun).unmarked).0 in
    elim (true_or_false (begins may_not_follow_number number.rest)) [
      | inl bad ↦ rw (read_badly here number bad) (no_value Eof 0 _ here faulty_kinds.0)
      | inr well ↦
          rw (read_well here number well)
          (no_value number.kind 0 _ here
          (ap (λ (r : Reading). is_valued r.kind) (sym (read_well here number well)) ∙ kinds))
    ]

quoted_units : (c : ℕ) (cs us : List ℕ) → is_quote c ≡ true → (quoted_reading (c ∷ cs)).value ≡ Units us
    → us ≡ decoded_units (c ∷ cs)
quoted_units c cs us quote e =
    sym
    (ap (λ b. if b then unwrap_or (units_in (quoted_reading (c ∷ cs)).value) [] else name_units (c ∷ cs)) quote
    ∙ ap (λ v. unwrap_or (units_in v) []) e)

-- of a string or a template
pub quoted_has_value : (here : List ℕ) → begins begins_quoted here ≡ true → HasValue here (quoted_reading here)
quoted_has_value [] begun = absurd (cc)
quoted_has_value (c ∷ cs) begun = (λ plain. (fact c cs).unescaped plain, λ escaped. by_kind escaped)
  where
    fact : (c : ℕ) (cs : List ℕ) → HasQuotedValue (quoted_reading (c ∷ cs))
    fact c cs =
        by_choice HasQuotedValue (is_quote c) _ _ (λ _. string_value_is c cs)
        (λ _. part_value_is TemplateHead NoSubstitutionTemplate first_kinds.0 first_kinds.1 c cs)

    string_kind_begins : (c : ℕ) (cs : List ℕ) → (quoted_reading (c ∷ cs)).escaped ≡ true
        → is_template_kind (quoted_reading (c ∷ cs)).kind ≡ false → is_quote c ≡ true
    string_kind_begins c cs escaped other =
        elim (true_or_false (is_quote c)) [
          | inl quote ↦ quote
          | inr none ↦ (
              let fact = part_is_template TemplateHead NoSubstitutionTemplate first_kinds.0 first_kinds.1 c cs
              (rw none at escaped) in
              let no : true ≡ false = sym fact ∙ (rw none at other) in
              absurd (cc))
        ]

    by_kind : (quoted_reading (c ∷ cs)).escaped ≡ true
        → (quoted_reading (c ∷ cs)).value ≡ decoded_value (quoted_reading (c ∷ cs)).kind (c ∷ cs)
    by_kind escaped =
        elim (true_or_false (is_template_kind (quoted_reading (c ∷ cs)).kind)) [
          | inl template ↦ (fact c cs).template escaped template ∙ sym (rw template refl)
          | inr other ↦ (
              let units = (fact c cs).units escaped other in
              let quote = string_kind_begins c cs escaped other in
              units.1
              ∙ decoded_as_units (quoted_reading (c ∷ cs)).kind (c ∷ cs) units.0 other
              (quoted_units c cs units.0 quote units.1))
        ]

-- and of a part of a template behind another mark
part_has_value : (substitute tail : Kind) → is_template_kind substitute ≡ true → is_template_kind tail ≡ true
    → (opening : ℕ) (behind : List ℕ) → is_quote opening ≡ false
    → HasValue (opening ∷ behind) (template_part_reading substitute tail (opening ∷ behind))
part_has_value substitute tail first last opening behind mark =
    let fact = part_value_is substitute tail first last opening behind in (
      fact.unescaped,
      λ escaped.
          let template = part_is_template substitute tail first last opening behind escaped in
          fact.template escaped template
          ∙ ap template_row_value (part_stands substitute tail opening behind (opening ∷ behind) refl mark)
          ∙ sym (rw template refl),
    )

-- What is read of a name, a string or a template: no line ends in it, it has no separator, and it has the value of its
-- token, which is that of a part of a template or not.
pub record IsValued (template : Bool) (here : List ℕ) (r : Reading) : Type 0 where
  pub line : r.line_ended ≡ false
  pub separator : r.has_separator ≡ false
  pub value : HasValue here r
  pub kind : r.escaped ≡ true → is_template_kind r.kind ≡ template

pub name_is_valued : (here : List ℕ) → begins_name here ≡ true → IsValued false here (name_reading here)
unfolding items_reading
name_is_valued here begun = record {
  line = refl;
  separator = refl;
  value = name_has_value here begun;
  kind = λ _. no_template (name_reading here).kind (name_kind-is_identifier_name _);
}

private_flags : (cs : List ℕ) → HasNoFlag (private_reading (number_sign ∷ cs))
unfolding private_name_of
private_flags cs =
    by_choice HasNoFlag (begins_name cs) (private_name_of (name_items is_identifier_start cs) (number_sign ∷ cs))
    (no_private_name (number_sign ∷ cs) cs) (λ _. (refl, refl, refl)) (λ _. unnamed cs)
  where
    unnamed : (xs : List ℕ) → HasNoFlag (no_private_name (number_sign ∷ cs) xs)
    unnamed [] = (refl, refl, refl)
    unnamed (x ∷ xs) = (refl, refl, refl)

pub private_is_valued : (cs : List ℕ) → IsValued false (number_sign ∷ cs) (private_reading (number_sign ∷ cs))
private_is_valued cs =
    let flags = private_flags cs in
    record {
      line = flags.0;
      separator = flags.1;
      value = private_has_value cs;
      kind = λ _. (neither_quoted _ (private_is_unquoted (number_sign ∷ cs))).1;
    }

pub string_is_valued : (quote : ℕ) (behind : List ℕ) → is_quote quote ≡ true
    → IsValued false (quote ∷ behind) (string_reading quote behind)
string_is_valued quote behind is =
    let same : quoted_reading (quote ∷ behind) ≡ string_reading quote behind = rw is refl in
    let flags = string_flags quote (quote ∷ behind) (string_items quote behind) in
    record {
      line = flags.0;
      separator = flags.1;
      value =
          subst (HasValue (quote ∷ behind)) same
          (quoted_has_value (quote ∷ behind) (quote_is_quoted (quote ∷ behind) is));
      kind = λ _. string_is_no_template quote behind;
    }

pub part_is_valued : (substitute tail : Kind) → is_template_kind substitute ≡ true → is_template_kind tail ≡ true
    → (opening : ℕ) (behind : List ℕ) → is_quote opening ≡ false
    → IsValued true (opening ∷ behind) (template_part_reading substitute tail (opening ∷ behind))
part_is_valued substitute tail first last opening behind mark =
    let flags = part_flags substitute tail (opening ∷ behind) (template_items behind) in
    record {
      line = flags.0;
      separator = flags.1;
      value = part_has_value substitute tail first last opening behind mark;
      kind = part_is_template substitute tail first last opening behind;
    }

-- What is read where a gap has ended has the value of its token.
here_value : (t : SourceType) (line_has_ended : Bool) (here : List ℕ) (r : Reading)
    → ReadsHere t line_has_ended here r → HasValue here r
here_value t line_has_ended here r reads =
    of_each_reading (HasValue here) t line_has_ended here r (record {
      comment = no_value Eof 0 (size_of (unterminated_comment here)) here faulty_kinds.0;
      name = name_has_value here;
      private = λ e. subst (λ h. HasValue h (private_reading h)) (sym (first_is number_sign here e))
          (private_has_value (drop 1 here));
      number = number_has_value here;
      quoted = quoted_has_value here;
      punctuator =
          λ p i e.
          no_value p.kind 0 (size_of (read_punctuator here p)) here (punctuator_unflagged p p.kind i refl).no_value;
      end = λ e. no_value Eof 0 (size_of (read_up_to Eof [] [])) here faulty_kinds.0;
      binary = λ c cs e. no_value Eof 0 (size_of (binary_file (c ∷ cs))) here faulty_kinds.0;
      character = λ c cs e. no_value Undetermined 0 (size_of (invalid_character c cs)) here faulty_kinds.1;
    }) reads

-- and is no regular expression
pub here_no_regex : (t : SourceType) (line_has_ended : Bool) (here : List ℕ) (r : Reading)
    → ReadsHere t line_has_ended here r → r.regex ≡ None
unfolding items_reading
here_no_regex t line_has_ended here r reads =
    of_each_reading (λ r. r.regex ≡ None) t line_has_ended here r (record {
      comment = refl;
      name = name_no_regex;
      private = λ e. subst (λ h. (private_reading h).regex ≡ None) (sym (first_is number_sign here e))
          (private_flags (drop 1 here)).2;
      number = λ _. (number_flags here).3;
      quoted = quoted_no_regex here;
      punctuator = λ p i e. refl;
      end = λ e. refl;
      binary = λ c cs e. refl;
      character = λ c cs e. refl;
    }) reads
  where
    name_no_regex : begins_name here ≡ true → (name_reading here).regex ≡ None
    name_no_regex begun = refl

    quoted_no_regex : (here : List ℕ) → begins begins_quoted here ≡ true → (quoted_reading here).regex ≡ None
    quoted_no_regex [] e = absurd (cc)
    quoted_no_regex (c ∷ cs) e =
        by_choice (λ (r : Reading). r.regex ≡ None) (is_quote c) _ _
        (λ _. (string_flags c (c ∷ cs) (string_items c cs)).2)
        (λ _. (part_flags TemplateHead NoSubstitutionTemplate (c ∷ cs) (template_items cs)).2)

-- The value of what was read at a place is that of its token.
value_at_place : (here : List ℕ) (r : Reading) (line_has_ended : Bool) (start : ℕ) (o : Outcome) → HasValue here r
    → (is_quoted r.kind ≡ true → closing_length r.kind ≤ size_of r)
    → o.token ≡ (outcome_at line_has_ended start r).token
    → o.value ≡ moved_value start r.value
    → (o.token.escaped ≡ false → o.value ≡ unescaped_value o.token.kind o.token.start o.token.end)
    × (o.token.escaped ≡ true → o.value ≡ decoded_value o.token.kind here)
value_at_place here r line_has_ended start o has marks token value = (
  λ plain.
      value ∙ ap (moved_value start) (has.0 (sym (ap (λ x. x.escaped) token) ∙ plain))
      ∙ unescaped_value_moved r.kind start (size_of r) marks
      ∙ sym (ap (λ x. unescaped_value x.kind x.start x.end) token),
  λ escaped.
      value ∙ ap (moved_value start) (has.1 (sym (ap (λ x. x.escaped) token) ∙ escaped))
      ∙ unmoved r.kind ∙ sym (ap (λ x. decoded_value x.kind here) token),
)
  where
    row : (o : Option (List ℕ)) → moved_value start (template_row_value o) ≡ template_row_value o
    row None = refl
    row (Some us) = refl

    unmoved : (kind : Kind) → moved_value start (decoded_value kind here) ≡ decoded_value kind here
    unmoved kind =
        by_choice (λ v. moved_value start v ≡ v) (is_template_kind kind) (template_row_value (template_units here))
        (Units (decoded_units here)) (λ _. row (template_units here)) (λ _. refl)

plainly_value : (text : List ℕ) (t : SourceType) (goal : Goal) (before : Option TokenParts) (place : ℕ)
    (o : Outcome) → ReadsPlainly text t goal before place o → IsValueOf text o.token o.value
plainly_value text t goal before place o (hashbang begun read) =
    let nothing : o.value ≡ Nothing = ap (λ x. x.value) read.alone in
    let none : is_valued o.token.kind ≡ false = ap is_valued read.is_hashbang.kind ∙ faulty_kinds.2 in
    record {
      unescaped = λ _. nothing ∙ sym (has_no_unescaped_value o.token.kind o.token.start o.token.end none);
      decoded = λ e. (let no : true ≡ false = sym e ∙ read.escaped in cc);
    }
plainly_value text t goal before place o (behind_gap begun read) =
    let here = from_place text o.token.start in
    let value =
    value_at_place here read.reading read.line_has_ended o.token.start o
    (here_value t read.line_has_ended here read.reading read.here)
    (λ quoted. marks_size here read.reading.rest read.reading.kind read.reading.taken
    (here_marks t read.line_has_ended here read.reading read.here quoted)
    (here_is_taken t read.line_has_ended here read.reading read.here).here)
    (ap (λ x. x.token) read.outcome_is) (ap (λ x. x.value) read.outcome_is) in
    record { unescaped = value.0; decoded = value.1 }

-- the value of the next part of a template
part_value : (text : List ℕ) (start : ℕ) (o : Outcome) → ReadsPart text start o → IsValueOf text o.token o.value
part_value text start o reads =
    let here = from_place text start in
    let at : o.token.start ≡ start = ap (λ x. x.token.start) reads.outcome_is in
    let value =
    value_at_place here (next_part here) false start o (next_has_value reads.behind here reads.here)
    (λ quoted. marks_size here (next_part here).rest (next_part here).kind (next_part here).taken
    (part_has_marks reads.behind here reads.here quoted) (part_taken_here reads.behind here reads.here))
    (ap (λ x. x.token) reads.outcome_is) (ap (λ x. x.value) reads.outcome_is) in
    record {
      unescaped = value.0;
      decoded = λ e. value.1 e ∙ ap (λ n. decoded_value o.token.kind (from_place text n)) (sym at);
    }
  where
    part_taken_here : (behind here : List ℕ) → here ≡ right_curly_bracket ∷ behind
        → here ≡ (next_part here).taken ++ (next_part here).rest
    part_taken_here behind here e =
        subst (λ h. h ≡ (next_part h).taken ++ (next_part h).rest) (sym e)
        (part_is_taken TemplateMiddle TemplateTail right_curly_bracket behind).here

    next_has_value : (behind here : List ℕ) → here ≡ right_curly_bracket ∷ behind → HasValue here (next_part here)
    next_has_value behind here e =
        subst (λ h. HasValue h (next_part h)) (sym e)
        (part_has_value TemplateMiddle TemplateTail next_kinds.0 next_kinds.1 right_curly_bracket behind refl)

-- The value of a reading is that of its token.
pub goal_reads_value : (text : List ℕ) (t : SourceType) (goal : Goal) (before : Option TokenParts) (place : ℕ)
    (o : Outcome) → IsUtf8 text
    → GoalReads text t goal before place o → IsValueOf text o.token o.value
goal_reads_value text t goal before place o u reads = by_way (ways text t goal before place o reads)
  where
    by_way : Way text t before place o → IsValueOf text o.token o.value
    by_way (plainly goal reads) = plainly_value text t goal before place o reads
    by_way (part_on start reads) = part_value text start o reads
    by_way (alone took) = record {
      unescaped = λ _. took.value;
      decoded = λ escaped. absurd (let no : true ≡ false = sym escaped ∙ took.escaped in cc);
    }

pub private_is_not_end : (kind : Kind) → is_private_name kind ≡ true → kind ≢ Eof
private_is_not_end kind is end =
    let no : true ≡ false = sym is ∙ ap is_private_name end ∙ (none_of_them Eof faulty_kinds.0).no_private_name in cc

-- a token of a kind that is none of private names begins with whatever it does
no_private : (kind : Kind) (here : List ℕ) → is_private_name kind ≡ false → is_private_name kind ≡ true
    → begins (λ c. c == number_sign) here ≡ true
no_private kind here none is = let no : true ≡ false = sym is ∙ none in absurd (cc)

no_named_private : (kind : Kind) (here : List ℕ) → is_valued kind ≡ false → is_private_name kind ≡ true
    → begins (λ c. c == number_sign) here ≡ true
no_named_private kind here none is = no_private kind here (none_of_them kind none).no_private_name is

-- what is read of a string or a template is no private name
quoted_is_no_private_name : (here : List ℕ) → begins begins_quoted here ≡ true
    → is_private_name (quoted_reading here).kind ≡ false
unfolding is_private_name
quoted_is_no_private_name [] begun = absurd (cc)
quoted_is_no_private_name (c ∷ cs) begun =
    quoted_kind_is (λ kind. is_private_name kind ≡ false) refl refl refl refl c cs

abbrev BeginsPrivate : List ℕ → Reading → Type 0
BeginsPrivate here r = is_private_name r.kind ≡ true → begins (λ c. c == number_sign) here ≡ true

name_begins_private : (here : List ℕ) → BeginsPrivate here (name_reading here)
unfolding items_reading
name_begins_private here =
    no_private (name_reading here).kind here
    (identifier_is_not_private (name_reading here).kind (name_kind-is_identifier_name _))

here_private : (t : SourceType) (line_has_ended : Bool) (here : List ℕ) (r : Reading)
    → ReadsHere t line_has_ended here r → BeginsPrivate here r
here_private t line_has_ended here r reads =
    of_each_reading (BeginsPrivate here) t line_has_ended here r (record {
      comment = no_named_private Eof here faulty_kinds.0;
      name = λ _. name_begins_private here;
      private = λ e _. e;
      number = λ e. no_named_private (number_reading here).kind here
          (unmarked_parts _ (number_characters here e).unmarked).0;
      quoted = λ e. no_private (quoted_reading here).kind here (quoted_is_no_private_name here e);
      punctuator = λ p i e. no_named_private p.kind here (punctuator_unflagged p p.kind i refl).no_value;
      end = λ e. no_named_private Eof here faulty_kinds.0;
      binary = λ c cs e. no_named_private Eof here faulty_kinds.0;
      character = λ c cs e. no_named_private Undetermined here faulty_kinds.1;
    }) reads

plainly_private : (text : List ℕ) (t : SourceType) (goal : Goal) (before : Option TokenParts) (place : ℕ)
    (o : Outcome)
    → ReadsPlainly text t goal before place o → is_private_name o.token.kind ≡ true
    → begins (λ c. c == number_sign) (from_place text o.token.start) ≡ true
plainly_private text t goal before place o (hashbang begun read) private =
    no_named_private o.token.kind (from_place text o.token.start)
    (ap is_valued read.is_hashbang.kind ∙ faulty_kinds.2) private
plainly_private text t goal before place o (behind_gap begun read) private =
    here_private t read.line_has_ended (from_place text o.token.start) read.reading read.here
    (ap is_private_name (ap (λ x. x.token.kind) (sym read.outcome_is)) ∙ private)

-- the next part of a template is no private name
next_part_is_no_private_name : (opening : ℕ) (behind : List ℕ)
    → is_private_name (next_part (opening ∷ behind)).kind ≡ false
unfolding is_private_name
next_part_is_no_private_name opening behind =
    part_kind_is (λ kind. is_private_name kind ≡ false) TemplateMiddle TemplateTail refl refl refl opening behind

-- A private name begins with a `#`.
pub private_name_begins : (text : List ℕ) (t : SourceType) (goal : Goal) (before : Option TokenParts) (place : ℕ)
    (o : Outcome)
    → GoalReads text t goal before place o → is_private_name o.token.kind ≡ true
    → begins (λ c. c == number_sign) (from_place text o.token.start) ≡ true
private_name_begins text t goal before place o reads private = by_way (ways text t goal before place o reads)
  where
    by_way : Way text t before place o → begins (λ c. c == number_sign) (from_place text o.token.start) ≡ true
    by_way (plainly goal reads) = plainly_private text t goal before place o reads private
    by_way (part_on start reads) =
        no_private o.token.kind (from_place text o.token.start)
        (ap is_private_name (ap (λ x. x.token.kind) reads.outcome_is)
        ∙ ap (λ h. is_private_name (next_part h).kind) reads.here
        ∙ next_part_is_no_private_name right_curly_bracket reads.behind) private
    by_way (alone took) = no_private o.token.kind (from_place text o.token.start) took.no_private private
