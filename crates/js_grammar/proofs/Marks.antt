-- Strings and parts of templates stand between their marks.
use Rattle.std.proofs.Common.{◌≡◌, ℕ, ◌<◌, ◌≤◌, Bool, true, false, ◌==◌, List, [], ◌∷◌, ◌++◌}
use Rattle.std.proofs.Common.{length, drop}
use Rattle.std.proofs.Common.{refl, sym, ◌∙◌, ap, subst, arith, append_assoc, length-append, None, inl}
use Rattle.std.proofs.Common.{inr}
use Rattle.std.specs.Prelude.{codes, IfSome}
use Rattle.std.specs.Char.{encode_utf8}
use Rattle.std.specs.Str.{encode_utf8_all}
use Rattle.std.proofs.lemmas.Bool.{eqb-true}
use Rattle.std.proofs.lemmas.Str.{encodes-append, length-encode, len_utf8_ascii}
use Rattle.js_text.specs.Ascii.{number_sign, quotation_mark, apostrophe, grave_accent}
use Rattle.js_text.specs.Characters.{begins}
use Rattle.js_text.specs.declared.source_type.SourceType.{SourceType}
use Rattle.js_kind.specs.Kinds.{is_identifier_name, is_string_kind, is_template_kind}
use Rattle.js_kind.specs.declared.kind.Kind.{Kind}
use Rattle.js_kind.specs.declared.kind.Kind.TheVariants.{Eof, NoSubstitutionTemplate, Str}
use Rattle.js_kind.specs.declared.kind.Kind.TheVariants.{TemplateHead}
use Rattle.js_kind.specs.declared.kind.Kind.TheVariants.{HashbangComment, Undetermined}
use Rattle.js_grammar.specs.Gap.{is_prefix}
use Rattle.js_grammar.specs.Goals.{ReadsHere, next_part}
use Rattle.js_grammar.specs.Goals.ReadsHere.{spelled, recovers}
use Rattle.js_kind.specs.declared.kind.Kind.TheVariants.{TemplateMiddle, TemplateTail}
use Rattle.js_grammar.specs.UnicodeEscape.{right_curly_bracket}
use Rattle.js_grammar.specs.Quoted.{begins_quoted, quoted_reading}
use Rattle.js_grammar.specs.Recovery.{recovered, recovered_character, is_control_or_wide}
use Rattle.js_grammar.specs.Reading.{Reading}
use Rattle.js_grammar.specs.Spelling.{Spelling}
use Rattle.js_grammar.specs.TokenText.{is_quoted, is_private_name, is_valued, closing_length}
use Rattle.js_grammar.specs.Spelling.Spelling.{name, private_name, punctuator, number, string, template}
use Rattle.js_grammar.specs.Spelling.Spelling.{end_of_source}
use Rattle.js_grammar.specs.StringItems.{is_quote, string_items, string_reading, string_text}
use Rattle.js_grammar.specs.Template.{template_items, template_part_reading}
use Rattle.js_grammar.specs.Template.IsTemplatePart.{no_substitution, head}
use Rattle.js_grammar.proofs.Flags.{none_of_them, name_is_unquoted, private_name_is_unquoted, punctuator_unflagged}
use Rattle.js_grammar.proofs.Flags.{end_unflagged}
use Rattle.js_kind.proofs.NameKinds.{name_kind-is_identifier_name}
use Rattle.js_grammar.specs.Name.{name_reading, items_reading, private_reading, private_name_of, no_private_name}
use Rattle.js_grammar.specs.Name.{begins_name}
use Rattle.js_grammar.specs.Number.{begins_number}
use Rattle.js_grammar.proofs.NumberItems.{true_or_false}
use Rattle.js_grammar.proofs.NumberKinds.{number_kind, unmarked_parts}
use Rattle.js_grammar.proofs.NumberSound.{first_is}
use Rattle.js_grammar.proofs.NumberSpans.{number_characters}
use Rattle.js_grammar.proofs.Spans.{each_recovery}
use Rattle.js_grammar.proofs.StringLaws.{string_here, string_cut, template_cut}
use Rattle.js_grammar.proofs.StringSteps.{string_terminated, string_unterminated, part_with_tail}
use Rattle.js_grammar.proofs.StringSteps.{part_with_substitution, part_unterminated}
use Rattle.js_grammar.proofs.TemplateLaws.{part_here}
use Rattle.js_grammar.proofs.Tests.{prefix_is}
use Rattle.std.proofs.lemmas.List.{append_cancel_right}

-- A text between two marks, with which it begins, and this is left behind them.
pub record Marks (here left : List ℕ) (kind : Kind) : Type 0 where
  pub opening : ℕ
  pub ascii : opening < 128
  pub inner : List ℕ
  pub closing : List ℕ
  pub here_is : here ≡ opening ∷ (inner ++ (closing ++ left))
  pub bytes : length (encode_utf8_all closing) ≡ closing_length kind

-- one ASCII character is one byte
pub one_byte : (c : ℕ) → c < 128 → length (encode_utf8_all (c ∷ [])) ≡ 1
one_byte c low =
    omega (arith, length-append (encode_utf8 c) [], length-encode c, len_utf8_ascii c low)

quote_is_ascii : (c : ℕ) → is_quote c ≡ true → c < 128
quote_is_ascii c e =
    elim (true_or_false (c == quotation_mark)) [
      | inl is ↦ (let same : c ≡ 34 = eqb-true c quotation_mark is in omega (arith, same))
      | inr other ↦ (let same : c ≡ 39 = eqb-true c apostrophe (rw other at e) in omega (arith, same))
    ]

-- the marks of the parts of templates
mark_bytes : (length (encode_utf8_all (codes "`")) ≡ 1) × (length (encode_utf8_all (codes "${")) ≡ 2)
unfolding encode_utf8
mark_bytes = (refl, refl)

pub string_marks : (quote : ℕ) (inner left : List ℕ) → is_quote quote ≡ true
    → Marks (quote ∷ (inner ++ (quote ∷ left))) left Str
string_marks quote inner left is = record {
  opening = quote;
  ascii = quote_is_ascii quote is;
  inner = inner;
  closing = quote ∷ [];
  here_is = refl;
  bytes = one_byte quote (quote_is_ascii quote is);
}

tail_marks : (opening : ℕ) (kind : Kind) → opening < 128 → closing_length kind ≡ 1 → (inner left : List ℕ)
    → Marks (opening ∷ (inner ++ (codes "`" ++ left))) left kind
tail_marks opening kind low one inner left = record {
  opening = opening;
  ascii = low;
  inner = inner;
  closing = codes "`";
  here_is = refl;
  bytes = mark_bytes.0 ∙ sym one;
}

head_marks : (opening : ℕ) (kind : Kind) → opening < 128 → closing_length kind ≡ 2 → (inner left : List ℕ)
    → Marks (opening ∷ (inner ++ (codes "${" ++ left))) left kind
head_marks opening kind low two inner left = record {
  opening = opening;
  ascii = low;
  inner = inner;
  closing = codes "${";
  here_is = refl;
  bytes = mark_bytes.1 ∙ sym two;
}

undetermined_is_unquoted : is_quoted Undetermined ≡ false
unfolding is_string_kind is_template_kind
undetermined_is_unquoted = refl

pub hashbang_is_valueless : is_valued HashbangComment ≡ false
unfolding is_identifier_name is_private_name is_string_kind is_template_kind
hashbang_is_valueless = refl

pub not_quoted : {A : Type 0} (kind : Kind) → is_quoted kind ≡ false → is_quoted kind ≡ true → A
not_quoted kind none is = absurd (let no : true ≡ false = sym is ∙ none in cc)

-- what is read of a string or a template stands between marks, where they are there
string_reading_marks : (quote : ℕ) (text : List ℕ) → is_quote quote ≡ true
    → is_quoted (string_reading quote text).kind ≡ true
    → Marks (quote ∷ text) (string_reading quote text).rest (string_reading quote text).kind
string_reading_marks quote text is quoted =
    let found = string_items quote text in
    elim (true_or_false (begins (λ c. c == quote) found.rest)) [
      | inl closed ↦ (
          let whole : text ≡ string_text found.items ++ (quote ∷ drop 1 found.rest) =
          sym (string_cut quote text) ∙ ap (λ cs. string_text found.items ++ cs) (first_is quote found.rest closed) in
          rw (string_terminated quote (quote ∷ text) found closed)
          (subst (λ cs. Marks (quote ∷ cs) (drop 1 found.rest) Str) (sym whole)
          (string_marks quote (string_text found.items) (drop 1 found.rest) is)))
      | inr none ↦
          not_quoted (string_reading quote text).kind
          (ap (λ r. is_quoted r.kind) (string_unterminated quote (quote ∷ text) found none)
          ∙ undetermined_is_unquoted) quoted
    ]

pub part_marks : (substitute tail : Kind) (opening : ℕ) → opening < 128 → closing_length substitute ≡ 2
    → closing_length tail ≡ 1 → (text : List ℕ)
    → is_quoted (template_part_reading substitute tail (opening ∷ text)).kind ≡ true
    → Marks (opening ∷ text) (template_part_reading substitute tail (opening ∷ text)).rest
    (template_part_reading substitute tail (opening ∷ text)).kind
part_marks substitute tail opening low two one text quoted =
    let found = template_items text in
    let inner = string_text found.items in
    elim (true_or_false (begins (λ c. c == grave_accent) found.rest)) [
      | inl is ↦ (
          let whole : text ≡ inner ++ (codes "`" ++ drop 1 found.rest) =
          sym (template_cut text) ∙ ap (λ cs. inner ++ cs) (first_is grave_accent found.rest is) in
          rw (part_with_tail substitute tail (opening ∷ text) found is)
          (subst (λ cs. Marks (opening ∷ cs) (drop 1 found.rest) tail) (sym whole)
          (tail_marks opening tail low one inner (drop 1 found.rest))))
      | inr none ↦
          elim (true_or_false (is_prefix (codes "${") found.rest)) [
            | inl begun ↦ (
                let whole : text ≡ inner ++ (codes "${" ++ drop 2 found.rest) =
                sym (template_cut text) ∙ ap (λ cs. inner ++ cs) (prefix_is (codes "${") found.rest begun) in
                rw (part_with_substitution substitute tail (opening ∷ text) found none begun)
                (subst (λ cs. Marks (opening ∷ cs) (drop 2 found.rest) substitute) (sym whole)
                (head_marks opening substitute low two inner (drop 2 found.rest))))
            | inr other ↦
                not_quoted (template_part_reading substitute tail (opening ∷ text)).kind
                (ap (λ r. is_quoted r.kind) (part_unterminated substitute tail (opening ∷ text) found none other)
                ∙ undetermined_is_unquoted) quoted
          ]
    ]

quoted_marks : (here : List ℕ) → begins begins_quoted here ≡ true → is_quoted (quoted_reading here).kind ≡ true
    → Marks here (quoted_reading here).rest (quoted_reading here).kind
quoted_marks [] begun quoted = absurd (cc)
quoted_marks (c ∷ cs) begun quoted =
    elim (true_or_false (is_quote c)) [
      | inl quote ↦ rw quote (string_reading_marks c cs quote (rw quote at quoted))
      | inr other ↦ (
          let grave : c ≡ grave_accent = eqb-true c grave_accent (rw other at begun) in
          let ascii : c < 128 = omega (arith, grave) in
          rw other
          (part_marks TemplateHead NoSubstitutionTemplate c ascii refl refl cs (rw other at quoted)))
    ]

-- and so do spellings
spelled_marks : (t : SourceType) (line_has_ended : Bool) (xs ys : List ℕ) (kind : Kind)
    → Spelling t line_has_ended xs ys kind → is_quoted kind ≡ true → Marks (xs ++ ys) ys kind
spelled_marks t line_has_ended xs ys kind (name is follows kind_is) quoted =
    not_quoted kind
    (name_is_unquoted kind (ap is_identifier_name kind_is ∙ name_kind-is_identifier_name _)) quoted
spelled_marks t line_has_ended xs ys kind (private_name named is follows same kind_is) quoted =
    not_quoted kind (ap is_quoted kind_is ∙ private_name_is_unquoted) quoted
spelled_marks t line_has_ended xs ys kind (punctuator p i same allowed kind_is) quoted =
    not_quoted kind (none_of_them kind (punctuator_unflagged p kind i kind_is).no_value).no_quoted quoted
spelled_marks t line_has_ended xs ys kind (number is follows) quoted =
    not_quoted kind (none_of_them kind (unmarked_parts kind (number_kind xs kind is).unmarked).0).no_quoted quoted
spelled_marks t line_has_ended xs ys kind (string is kind_is) quoted =
    rw (kind_is, string_here xs ys is) (string_marks is.quote (string_text is.items) ys is.is_quote)
spelled_marks t line_has_ended xs ys kind (template (no_substitution part kind_is)) quoted =
    rw (kind_is, part_here grave_accent (codes "`") xs ys part) (tail_marks grave_accent NoSubstitutionTemplate
    (omega arith) refl (string_text part.items) ys)
spelled_marks t line_has_ended xs ys kind (template (head part kind_is)) quoted =
    rw (kind_is, part_here grave_accent (codes "${") xs ys part) (head_marks grave_accent TemplateHead
    (omega arith) refl (string_text part.items) ys)
spelled_marks t line_has_ended xs ys kind (end_of_source none at_end kind_is) quoted =
    not_quoted kind (ap is_quoted kind_is ∙ (none_of_them Eof end_unflagged.no_value).no_quoted) quoted

-- and what is read to recover
abbrev pub HasMarks : List ℕ → Reading → Type 0
HasMarks here r = is_quoted r.kind ≡ true → Marks here r.rest r.kind

pub private_is_unquoted : (here : List ℕ) → is_quoted (private_reading here).kind ≡ false
unfolding private_name_of
private_is_unquoted here =
    elim (true_or_false (begins_name (drop 1 here)))
    [ inl begun ↦ rw begun private_name_is_unquoted | inr none ↦ rw none (unnamed (drop 1 here)) ]
  where
    unnamed : (cs : List ℕ) → is_quoted (no_private_name here cs).kind ≡ false
    unnamed [] = undetermined_is_unquoted
    unnamed (c ∷ cs) = (none_of_them Eof end_unflagged.no_value).no_quoted

named_is_unquoted : (here : List ℕ) → is_quoted (name_reading here).kind ≡ false
unfolding items_reading
named_is_unquoted here = name_is_unquoted _ (name_kind-is_identifier_name _)

recovered_marks : (here : List ℕ) → IfSome (recovered here) (HasMarks here)
recovered_marks here =
    each_recovery (HasMarks here) (is_prefix (codes "/*") here) _ _ (λ _. not_quoted Eof end_is_unquoted)
    (each_recovery (HasMarks here) (begins_name here) _ _
    (λ _. not_quoted (name_reading here).kind (named_is_unquoted here))
    (each_recovery (HasMarks here) (begins (λ c. c == number_sign) here) _ _
    (λ _. not_quoted (private_reading here).kind (private_is_unquoted here))
    (each_recovery (HasMarks here) (begins_number here) _ _
    (λ begun. not_quoted _ (none_of_them _ (unmarked_parts _
    (number_characters here begun).unmarked).0).no_quoted)
    (each_recovery (HasMarks here) (begins begins_quoted here) _ _
    (λ begun quoted. quoted_marks here begun quoted)
    (each_recovery (HasMarks here) (begins (λ c. c == 0xFFFD) here) _ _ (λ _. not_quoted Eof end_is_unquoted)
    (character here))))))
  where
    end_is_unquoted : is_quoted Eof ≡ false
    end_is_unquoted = (none_of_them Eof end_unflagged.no_value).no_quoted

    character : (xs : List ℕ) → IfSome (recovered_character xs) (HasMarks here)
    character [] = tt
    character (c ∷ cs) =
        each_recovery (HasMarks here) (is_control_or_wide c) _ None
        (λ _. not_quoted Undetermined undetermined_is_unquoted) tt

pub here_marks : (t : SourceType) (line_has_ended : Bool) (here : List ℕ) (r : Reading)
    → ReadsHere t line_has_ended here r → HasMarks here r
here_marks t line_has_ended here r (spelled xs spelling is) quoted =
    subst (λ cs. Marks cs r.rest r.kind) (sym spelling.here)
    (spelled_marks t line_has_ended xs r.rest r.kind spelling.spelling quoted)
here_marks t line_has_ended here r (recovers nothing e) quoted =
    subst (λ found. IfSome found (HasMarks here)) e (recovered_marks here) quoted

-- and its bytes are at least those of the mark that ends it
pub marks_size : (here left : List ℕ) (kind : Kind) (taken : List ℕ) → Marks here left kind → here ≡ taken ++ left
    → closing_length kind ≤ length (encode_utf8_all taken)
marks_size here left kind taken marks e =
    let front = marks.opening ∷ marks.inner in
    let same : taken ≡ front ++ marks.closing =
    append_cancel_right taken (front ++ marks.closing) left
    (sym e ∙ marks.here_is ∙ sym (append_assoc front marks.closing left)) in
    omega (
      arith,
      ap (λ xs. length (encode_utf8_all xs)) same,
      ap length (encodes-append front marks.closing),
      length-append (encode_utf8_all front) (encode_utf8_all marks.closing),
      marks.bytes,
    )

-- The next part of a template stands between marks.
pub part_has_marks : (behind here : List ℕ) → here ≡ right_curly_bracket ∷ behind → HasMarks here (next_part here)
part_has_marks behind here e =
    subst (λ h. HasMarks h (next_part h)) (sym e)
    (part_marks TemplateMiddle TemplateTail right_curly_bracket (omega arith) refl refl behind)
