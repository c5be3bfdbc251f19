-- What is reported of what is read at the beginning of a text lies within that text, and so does the end of a pattern.
use Rattle.std.proofs.Common.{◌≡◌, ℕ, zero, ◌+◌, ◌-◌, ◌≤◌, Bool, true, false, List, [], ◌∷◌, ◌++◌, ◌==◌, length}
use Rattle.std.proofs.Common.{take, drop, refl, sym, ◌∙◌, ap, subst, arith, length-append, Option, None, Some, inl, inr}
use Rattle.std.specs.Prelude.{IfSome, codes, if◌then◌else◌}
use Rattle.std.specs.List.{AllByRecursion}
use Rattle.std.specs.Option.{option_map_or}
use Rattle.std.specs.Str.{encode_utf8_all}
use Rattle.std.proofs.lemmas.Bool.{eqb-true}
use Rattle.std.proofs.lemmas.List.{take-append-drop}
use Rattle.std.proofs.lemmas.Str.{encodes-append, length-le-encodes}
use Rattle.js_text.specs.Ascii.{grave_accent, greater_than_sign, hyphen_minus, less_than_sign, number_sign, slash}
use Rattle.js_text.specs.Characters.{begins, before_first, from_first, is_identifier_start}
use Rattle.js_text.specs.Characters.{is_identifier_part}
use Rattle.js_text.specs.Diagnostic.{diagnostic_span}
use Rattle.js_text.specs.RegExpFlags.{flag_of_letter}
use Rattle.js_text.specs.declared.diagnostic.Diagnostic.{Diagnostic}
use Rattle.js_text.specs.declared.diagnostic.Diagnostic.TheVariants.{RegExpFlag, RegExpFlagTwice}
use Rattle.js_text.specs.declared.diagnostic.Diagnostic.TheVariants.{UnexpectedJsxEnd}
use Rattle.js_text.specs.declared.reg_exp_flags.RegExpFlags.{RegExpFlags}
use Rattle.js_text.specs.declared.reg_exp_flags.RegexInfo.{RegexInfo}
use Rattle.js_text.specs.declared.source_type.SourceType.{SourceType}
use Rattle.js_text.specs.declared.span.Span.{Span}
use Rattle.js_text.proofs.TextLemmas.{before_from}
use Rattle.js_kind.specs.Kinds.{kind_text}
use Rattle.js_kind.specs.declared.kind.Kind.{Kind}
use Rattle.js_kind.specs.declared.kind.Kind.TheVariants.{Eof, JSXText, LAngle, LCurly, NoSubstitutionTemplate}
use Rattle.js_kind.specs.declared.kind.Kind.TheVariants.{TemplateHead}
use Rattle.js_grammar.specs.Angle.{angle_reading, punctuator_reading}
use Rattle.js_grammar.specs.Gap.{is_prefix}
use Rattle.js_grammar.specs.Goals.{ReadsHere}
use Rattle.js_grammar.specs.Goals.ReadsHere.{spelled as spelled_here, recovers}
use Rattle.js_grammar.specs.Jsx.{angle_at, angles_among, begins_child, jsx_child_reading, jsx_name_reading}
use Rattle.js_grammar.specs.Jsx.{ends_jsx_name, ends_jsx_text, jsx_name_up_to, jsx_string_before, jsx_string_reading}
use Rattle.js_grammar.specs.Jsx.{jsx_text_before, jsx_text_reading, reported}
use Rattle.js_grammar.specs.Name.{CutsInto, NameFault, NameItem, begins_name, fault_report, item_report, items_report}
use Rattle.js_grammar.specs.Name.{name_items, name_reading, no_private_name, private_name_of, private_reading}
use Rattle.js_grammar.specs.Name.{items_reading}
use Rattle.js_grammar.specs.Name.NameFault.{bad_escape as bad_name_escape, not_allowed}
use Rattle.js_grammar.specs.Number.{Item, begins_number, may_not_follow_number}
use Rattle.js_grammar.specs.NumberReads.{invalid_end, invalid_number_end, is_no_start, items_text, missing_digit}
use Rattle.js_grammar.specs.NumberReads.{empty_span, missing_digits, number_items, number_reading}
use Rattle.js_grammar.specs.Quoted.{begins_quoted, quoted_reading}
use Rattle.js_grammar.specs.Reading.{Reading, before_rest, place_behind, read_up_to}
use Rattle.js_grammar.specs.Reading.{size_of}
use Rattle.js_grammar.specs.Recovery.{is_control_or_wide, recovered}
use Rattle.js_grammar.specs.Recovery.{recovered_character}
use Rattle.js_grammar.specs.RegularExpression.{behind_body, ends_flags, flag_reports, has_flag, letter_reports}
use Rattle.js_grammar.specs.RegularExpression.{no_flags, regular_expression, regular_expression_reading}
use Rattle.js_grammar.specs.RegularExpression.{with_flags_behind, with_letter}
use Rattle.js_grammar.specs.StringItems.{Fault, StringItem, fault_reports, is_quote, item_reports, string_items}
use Rattle.js_grammar.specs.StringItems.{string_reading, string_text}
use Rattle.js_grammar.specs.StringItems.Fault.{no_fault, bad_escape, unfinished_escape}
use Rattle.js_grammar.specs.Template.{template_items, template_part_reading}
use Rattle.js_grammar.specs.UnicodeEscape.{left_curly_bracket}
use Rattle.js_grammar.proofs.GoalReadings.{body_leaves, expression_terminated, expression_unterminated}
use Rattle.js_grammar.proofs.NameCuts.{behind_item, items_cut}
use Rattle.js_grammar.proofs.NameItems.{item_takes}
use Rattle.js_grammar.proofs.NumberItems.{true_or_false}
use Rattle.js_grammar.proofs.NumberSteps.{read_badly, read_well}
use Rattle.js_grammar.proofs.ReadingLemmas.{by_choice, taken_is}
use Rattle.js_grammar.proofs.Spans.{each_recovery}
use Rattle.js_grammar.proofs.StringLaws.{string_cut, template_cut}
use Rattle.js_grammar.proofs.StringSteps.{part_unterminated, part_with_substitution, part_with_tail, string_terminated}
use Rattle.js_grammar.proofs.StringSteps.{string_unterminated}
use Rattle.js_grammar.proofs.NumberSpans.{number_reaches}

-- how many bytes characters have
abbrev pub size : List ℕ → ℕ
size xs = length (encode_utf8_all xs)

pub size_both : (xs ys : List ℕ) → size (xs ++ ys) ≡ size xs + size ys
size_both xs ys = ap length (encodes-append xs ys) ∙ length-append (encode_utf8_all xs) (encode_utf8_all ys)

pub size_parts : (text xs ys : List ℕ) → text ≡ xs ++ ys → size text ≡ size xs + size ys
size_parts text xs ys e = ap size e ∙ size_both xs ys

size_taken : (n : ℕ) (xs : List ℕ) → size (take n xs) ≤ size xs
size_taken n xs =
    let both = size_parts xs (take n xs) (drop n xs) (sym (take-append-drop n xs)) in omega (arith, both)

size_before : (p : ℕ → Bool) (xs : List ℕ) → size (before_first p xs) ≤ size xs
size_before p xs =
    let both = size_parts xs (before_first p xs) (from_first p xs) (sym (before_from p xs)) in omega (arith, both)

size_first : (c : ℕ) (cs : List ℕ) → 1 + size cs ≤ size (c ∷ cs)
size_first c cs =
    let both = size_both (c ∷ []) cs in
    let one : 1 ≤ size (c ∷ []) = length-le-encodes (c ∷ []) in
    omega (arith, both, one)

-- Both ends of a span lie there or before it.
abbrev pub SpanWithin : ℕ → Span → Type 0
SpanWithin limit span = (span.start ≤ limit) × (span.end ≤ limit)

abbrev pub DiagnosticWithin : ℕ → Diagnostic → Type 0
DiagnosticWithin limit d = IfSome (diagnostic_span d) (SpanWithin limit)

abbrev pub AreWithin : ℕ → List Diagnostic → Type 0
AreWithin limit ds = AllByRecursion (DiagnosticWithin limit) ds

pub all_both : {A : Type 0} (P : A → Type 0) (xs ys : List A) → AllByRecursion P xs → AllByRecursion P ys
    → AllByRecursion P (xs ++ ys)
all_both P [] ys h k = k
all_both P (x ∷ xs) ys h k = (h.0, all_both P xs ys h.1 k)

-- of the items of a number
missing_within : (limit place : ℕ) (text : List ℕ) → place ≤ limit → DiagnosticWithin limit (missing_digit place text)
missing_within limit place [] h = (h, h)
missing_within limit place (c ∷ cs) h = (h, h)

digits_within : (limit place : ℕ) (items : List Item) → place_behind place (items_text items) ≤ limit
    → AreWithin limit (missing_digits place items)
digits_within limit place [] h = tt
digits_within limit place (item ∷ items) h =
    let end = place_behind place item.text in
    let whole = size_both item.text (items_text items) in
    by_choice (AreWithin limit) item.lacks_digit (missing_digit end item.rest ∷ missing_digits end items)
    (missing_digits end items)
    (λ _. (
      missing_within limit end item.rest (omega (arith, h, whole)),
      digits_within limit end items (omega
          (arith, h, whole)),
    ))
    (λ _. digits_within limit end items (omega (arith, h, whole)))

end_size : (text : List ℕ) → size (invalid_end text) ≤ size text
end_size [] = omega arith
end_size (c ∷ cs) =
    let both = size_parts (c ∷ cs) (c ∷ before_first is_no_start cs) (from_first is_no_start cs)
    (ap (λ xs. c ∷ xs) (sym (before_from is_no_start cs))) in
    omega (arith, both)

-- of the items of a name
item_within : (limit place : ℕ) (item : NameItem) → place_behind place item.text ≤ limit → 1 ≤ size item.text
    → AreWithin limit (item_report place item)
item_within limit place item h some = by_fault item.fault
  where
    end : ℕ
    end = place_behind place item.text

    by_fault : (fault : Option NameFault)
        → AreWithin limit (option_map_or (λ fault. fault_report place (place_behind place item.text) fault
        ∷ []) fault [])
    by_fault None = tt
    by_fault (Some bad_name_escape) = ((omega (arith, h, some), h), tt)
    by_fault (Some (not_allowed c)) = ((h, h), tt)

names_within : (limit place : ℕ) (allowed : ℕ → Bool) (text : List ℕ) (items : List NameItem) (rest : List ℕ)
    → CutsInto allowed text items rest → place + size text ≤ limit → AreWithin limit (items_report place items)
names_within limit place allowed text [] rest cut h = tt
names_within limit place allowed text (item ∷ items) rest cut h =
    let takes = item_takes allowed text item cut.0 in
    let behind = drop (length item.text) text in
    let whole = size_parts text item.text behind (behind_item allowed text item cut.0) in
    let long = length-le-encodes item.text in
    let some = takes.some in
    all_both (DiagnosticWithin limit) (item_report place item) (items_report (place_behind place item.text) items)
    (item_within limit place item (omega (arith, h, whole)) (omega (arith, long, some)))
    (names_within limit (place_behind place item.text) is_identifier_part behind items rest cut.1
    (omega (arith, h, whole)))

-- of the items of a string or a template
fault_within : (in_template : Bool) (limit start place end : ℕ) (fault : Fault) → start ≤ limit → place ≤ limit
    → end ≤ limit → AreWithin limit (fault_reports in_template start place end fault)
fault_within in_template limit start place end no_fault s p e = tt
fault_within true limit start place end bad_escape s p e = tt
fault_within false limit start place end bad_escape s p e = ((p, e), tt)
fault_within in_template limit start place end unfinished_escape s p e = ((s, e), tt)

strings_within : (in_template : Bool) (limit start place : ℕ) (items : List StringItem) → start ≤ limit
    → place_behind place (string_text items) ≤ limit → AreWithin limit (item_reports in_template start place items)
strings_within in_template limit start place [] s h = tt
strings_within in_template limit start place (item ∷ items) s h =
    let end = place_behind place item.text in
    let whole = size_both item.text (string_text items) in
    all_both (DiagnosticWithin limit) (fault_reports in_template start place end item.fault)
    (item_reports in_template start end items)
    (fault_within in_template limit start place end item.fault s (omega (arith, h, whole)) (omega (arith, h, whole)))
    (strings_within in_template limit start end items s (omega (arith, h, whole)))

-- of the letters of flags
letter_within : (flags : RegExpFlags) (limit place c : ℕ) → place + 1 ≤ limit
    → AreWithin limit (letter_reports flags place c)
letter_within flags limit place c h = by_flag (flag_of_letter c)
  where
    one : (place ≤ limit) × (place + 1 ≤ limit)
    one = (omega (arith, h), h)

    by_flag : (flag : Option RegExpFlags)
        → AreWithin limit
        (option_map_or (λ flag. if has_flag flags flag then RegExpFlagTwice c
        (record { start = place; end = place + 1 }) ∷ [] else []) flag
        (RegExpFlag c (record { start = place; end = place + 1 }) ∷ []))
    by_flag None = (one, tt)
    by_flag (Some flag) =
        by_choice (AreWithin limit) (has_flag flags flag) _ [] (λ _. (one, tt)) (λ _. tt)

flags_within : (flags : RegExpFlags) (limit place : ℕ) (letters : List ℕ) → place + length letters ≤ limit
    → AreWithin limit (flag_reports flags place letters)
flags_within flags limit place [] h = tt
flags_within flags limit place (c ∷ cs) h =
    all_both (DiagnosticWithin limit) (letter_reports flags place c) (flag_reports (with_letter flags c) (place + 1) cs)
    (letter_within flags limit place c (omega (arith, h))) (flags_within (with_letter flags c) limit
    (place + 1) cs (omega (arith, h)))

-- What is known of a reading lies there or before it.
pub record Within (limit : ℕ) (read : Reading) : Type 0 where
  pub diagnostics : AreWithin limit read.diagnostics
  pub regex : IfSome read.regex (λ (info : RegexInfo). info.pattern_end ≤ limit)

name_within : (text : List ℕ) → Within (size text) (name_reading text)
unfolding items_reading
name_within text =
    let found = items_cut is_identifier_start text in
    record {
      diagnostics =
          names_within (size text) 0 is_identifier_start text (name_items is_identifier_start text) found.rest
          found.cut (omega arith);
      regex = tt;
    }

named_within : (c : ℕ) (cs : List ℕ)
    → Within (size (c ∷ cs)) (private_name_of (name_items is_identifier_start cs) (c ∷ cs))
unfolding private_name_of
named_within c cs =
    let found = items_cut is_identifier_start cs in
    record {
      diagnostics =
          names_within (size (c ∷ cs)) 1 is_identifier_start cs (name_items is_identifier_start cs) found.rest
          found.cut (size_first c cs);
      regex = tt;
    }

unnamed_within : (c : ℕ) (cs : List ℕ) → Within (size (c ∷ cs)) (no_private_name (c ∷ cs) cs)
unnamed_within c [] = let some = size_first c [] in record {
  diagnostics = (
    (
      omega (arith, some),
      omega
          (arith, some),
    ),
    tt,
  );
  regex = tt;
}
unnamed_within c (d ∷ ds) =
    let some = size_first c (d ∷ ds) in
    let both = size_both (d ∷ []) ds in
    record { diagnostics = ((omega (arith, some), omega (arith, some, both)), tt); regex = tt }

private_within : (here : List ℕ) → begins (λ c. c == number_sign) here ≡ true → Within (size here)
    (private_reading here)
private_within [] begun = absurd (cc)
private_within (c ∷ cs) begun =
    by_choice (Within (size (c ∷ cs))) (begins_name cs) _ _ (λ _. named_within c cs) (λ _. unnamed_within c cs)

number_within : (here : List ℕ) → Within (size here) (number_reading here)
number_within here =
    let number = number_items here in
    let it = items_text number.items in
    let fits : size it + size number.rest ≤ size here = elim (number_reaches here) [
      | inl broken ↦
          (let whole = size_parts here it broken.2.0 broken.2.1 in
          let none = ap size broken.1 in
          let zero : size [] ≡ 0 = refl in
          omega (arith, whole, none, zero))
      | inr cut ↦ (let whole = size_parts here it number.rest cut.here in omega (arith, whole))
    ] in
    elim (true_or_false (begins may_not_follow_number number.rest)) [
      | inl bad ↦ rw (read_badly here number bad) (record {
        diagnostics =
            all_both (DiagnosticWithin (size here)) (missing_digits 0 number.items)
            (invalid_number_end (place_behind 0 it) number.rest ∷ [])
            (digits_within (size here) 0 number.items (omega (arith, fits)))
            (let end = end_size number.rest in ((omega (arith, fits), omega (arith, fits, end)), tt));
        regex = tt;
      })
      | inr well ↦ rw (read_well here number well) (record {
        diagnostics = digits_within (size here) 0 number.items (omega (arith, fits));
        regex = tt;
      })
    ]

string_within : (quote : ℕ) (text : List ℕ) → Within (size (quote ∷ text)) (string_reading quote text)
string_within quote text =
    let found = string_items quote text in
    let xs = string_text found.items in
    let whole = size_parts text xs found.rest (sym (string_cut quote text)) in
    let first = size_first quote text in
    let items = strings_within false (size (quote ∷ text)) 0 1 found.items (omega arith) (omega
    (arith, whole, first)) in
    elim (true_or_false (begins (λ c. c == quote) found.rest)) [
      | inl closed ↦ rw (string_terminated quote (quote ∷ text) found closed)
          (record { diagnostics = items; regex = tt })
      | inr open_end ↦ rw (string_unterminated quote (quote ∷ text) found open_end) (record {
        diagnostics =
            all_both (DiagnosticWithin (size (quote ∷ text))) (item_reports false 0 1 found.items) _ items
            (let both = size_both xs (take 1 found.rest) in
            let one = size_taken 1 found.rest in
            ((omega arith, omega (arith, whole, first, both, one)), tt));
        regex = tt;
      })
    ]

pub part_within : (substitute tail : Kind) (opening : ℕ) (text : List ℕ)
    → Within (size (opening ∷ text)) (template_part_reading substitute tail (opening ∷ text))
part_within substitute tail opening text =
    let found = template_items text in
    let xs = string_text found.items in
    let whole = size_parts text xs found.rest (sym (template_cut text)) in
    let first = size_first opening text in
    let items = strings_within true (size (opening ∷ text)) 0 1 found.items (omega arith) (omega
    (arith, whole, first)) in
    elim (true_or_false (begins (λ c. c == grave_accent) found.rest)) [
      | inl is ↦ rw (part_with_tail substitute tail (opening ∷ text) found is)
          (record { diagnostics = items; regex = tt })
      | inr none ↦ elim (true_or_false (is_prefix (codes "${") found.rest)) [
        | inl begun ↦ rw (part_with_substitution substitute tail (opening ∷ text) found none begun)
            (record { diagnostics = items; regex = tt })
        | inr other ↦ rw (part_unterminated substitute tail (opening ∷ text) found none other) (record {
          diagnostics =
              all_both (DiagnosticWithin (size (opening ∷ text))) (item_reports true 0 1 found.items) _ items
              (let both = size_both xs (take 1 found.rest) in
              let one = size_taken 1 found.rest in
              ((omega arith, omega (arith, whole, first, both, one)), tt));
          regex = tt;
        })
      ]
    ]

quoted_within : (here : List ℕ) → begins begins_quoted here ≡ true → Within (size here) (quoted_reading here)
quoted_within [] begun = absurd (cc)
quoted_within (c ∷ cs) begun =
    by_choice (Within (size (c ∷ cs))) (is_quote c) _ _ (λ _. string_within c cs)
    (λ _. part_within TemplateHead NoSubstitutionTemplate c cs)

-- of a regular expression
flagged_within : (text left xs : List ℕ) → text ≡ xs ++ left → begins (λ c. c == slash) left ≡ true
    → Within (size text) (with_flags_behind text left)
flagged_within text [] xs e first = absurd (cc)
flagged_within text (c ∷ cs) xs e first =
    let letters = before_first ends_flags cs in
    let whole = size_parts text xs (c ∷ cs) e in
    let one = size_first c cs in
    let taken = ap size (taken_is text xs (c ∷ cs) e) in
    let few = size_before ends_flags cs in
    let long = length-le-encodes letters in
    record {
      diagnostics = flags_within no_flags (size text) (size (before_rest text (c ∷ cs)) + 1) letters (omega
          (arith, whole, one, taken, few, long));
      regex = let up = whole in omega (arith, up, taken);
    }

pub expression_within : (text : List ℕ) → IfSome (regular_expression_reading text) (Within (size text))
expression_within [] = tt
expression_within (c ∷ cs) =
    by_choice (λ (found : Option Reading). IfSome found (Within (size (c ∷ cs)))) (c == slash) _ None
    (λ e. here e) (λ _. tt)
  where
    here : c == slash ≡ true → Within (size (c ∷ cs)) (regular_expression cs)
    here e =
        let same : c ≡ slash = eqb-true c slash e in
        subst (λ d. Within (size (d ∷ cs)) (regular_expression cs)) (sym same) (body cs)
      where
        body : (cs : List ℕ) → Within (size (slash ∷ cs)) (regular_expression cs)
        body cs =
            let left = behind_body cs in
            let text = slash ∷ cs in
            let leaves = body_leaves cs in
            elim (true_or_false (begins (λ d. d == slash) left)) [
              | inl e ↦ rw (expression_terminated text left e)
                  (flagged_within text left (slash ∷ leaves.0) (ap (λ t. slash ∷ t) leaves.1) e)
              | inr e ↦ rw (expression_unterminated text left e) (record {
                diagnostics = ((omega arith, size_taken _ text), tt);
                regex = omega arith;
              })
            ]

-- of angles, and of what JSX has
pub angle_within : (limit : ℕ) (kinds : List Kind) (text : List ℕ) → IfSome (angle_reading kinds text) (Within limit)
angle_within limit [] text = tt
angle_within limit (kind ∷ kinds) text =
    by_choice (λ (found : Option Reading). IfSome found (Within limit)) (is_prefix (kind_text kind) text)
    (Some (punctuator_reading kind text)) (angle_reading kinds text) (λ _. record { diagnostics = tt; regex = tt })
    (λ _. angle_within limit kinds text)

pub jsx_name_within : (limit : ℕ) (part text : List ℕ) → IfSome (jsx_name_reading part text) (Within limit)
jsx_name_within limit part text =
    by_choice (λ (found : Option Reading). IfSome found (Within limit)) (begins (λ c. c == hyphen_minus) text)
    (Some (jsx_name_up_to part text (from_first ends_jsx_name text))) None
    (λ _. record { diagnostics = tt; regex = tt }) (λ _. tt)

string_before_within : (text left : List ℕ) → Within (size text) (jsx_string_before text left)
string_before_within text [] = record { diagnostics = ((omega arith, omega arith), tt); regex = tt }
string_before_within text (c ∷ cs) = record { diagnostics = tt; regex = tt }

pub jsx_string_within : (text : List ℕ) → IfSome (jsx_string_reading text) (Within (size text))
jsx_string_within [] = tt
jsx_string_within (c ∷ cs) =
    by_choice (λ (found : Option Reading). IfSome found (Within (size (c ∷ cs)))) (is_quote c) _ None
    (λ _. string_before_within (c ∷ cs) _) (λ _. tt)

text_before_within : (text left : List ℕ) → Within (size text) (jsx_text_before text left)
text_before_within text [] = record { diagnostics = tt; regex = tt }
text_before_within text (c ∷ cs) =
    by_choice (Within (size text)) (begins_child c) (read_up_to JSXText text (c ∷ cs))
    (reported Eof text (c ∷ cs) (UnexpectedJsxEnd c (empty_span (size_of (read_up_to Eof text (c ∷ cs))))))
    (λ _. record { diagnostics = tt; regex = tt })
    (λ _. record { diagnostics = ((size_taken _ text, size_taken _ text), tt); regex = tt })

pub child_within : (text : List ℕ) → Within (size text) (jsx_child_reading text)
child_within [] = record { diagnostics = tt; regex = tt }
child_within (c ∷ cs) =
    by_choice (Within (size (c ∷ cs))) (c == less_than_sign) (read_up_to LAngle (c ∷ cs) cs)
    (if c == left_curly_bracket then read_up_to LCurly (c ∷ cs) cs else jsx_text_reading (c ∷ cs))
    (λ _. record { diagnostics = tt; regex = tt })
    (λ _. by_choice (Within (size (c ∷ cs))) (c == left_curly_bracket) (read_up_to LCurly (c ∷ cs) cs)
    (jsx_text_reading (c ∷ cs)) (λ _. record { diagnostics = tt; regex = tt })
    (λ _. text_before_within (c ∷ cs) (from_first ends_jsx_text (c ∷ cs))))

-- the `>` among characters
pub angles_within : (limit place : ℕ) (xs : List ℕ) → place_behind place xs ≤ limit
    → AllByRecursion (SpanWithin limit) (angles_among place xs)
angles_within limit place [] h = tt
angles_within limit place (c ∷ cs) h =
    let end = place_behind place (c ∷ []) in
    let both = size_both (c ∷ []) cs in
    let one : 1 ≤ size (c ∷ []) = length-le-encodes (c ∷ []) in
    all_both (SpanWithin limit) (angle_at place c) (angles_among end cs)
    (by_choice (AllByRecursion (SpanWithin limit)) (c == greater_than_sign)
    (record { start = place; end = place + 1 } ∷ []) [] (λ _. (
      (
        omega (arith, h, both, one),
        omega
            (arith, h, both, one),
      ),
      tt,
    )) (λ _. tt))
    (angles_within limit end cs (omega (arith, h, both)))

-- where a gap has ended
character_within : (here : List ℕ) → IfSome (recovered_character here) (Within (size here))
character_within [] = tt
character_within (c ∷ cs) =
    by_choice (λ (found : Option Reading). IfSome found (Within (size (c ∷ cs)))) (is_control_or_wide c) _ None
    (λ _. let both = size_both (c ∷ []) cs in
    record { diagnostics = ((omega arith, omega (arith, both)), tt); regex = tt }) (λ _. tt)

recovered_within : (here : List ℕ) → IfSome (recovered here) (Within (size here))
recovered_within here =
    each_recovery (Within (size here)) (is_prefix (codes "/*") here) _ _
    (λ _. record { diagnostics = ((omega arith, omega arith), tt); regex = tt })
    (each_recovery (Within (size here)) (begins_name here) _ _ (λ _. name_within here)
    (each_recovery (Within (size here)) (begins (λ c. c == number_sign) here) _ _ (λ begun. private_within here begun)
    (each_recovery (Within (size here)) (begins_number here) _ _ (λ _. number_within here)
    (each_recovery (Within (size here)) (begins begins_quoted here) _ _ (λ begun. quoted_within here begun)
    (each_recovery (Within (size here)) (begins (λ c. c == 0xFFFD) here) _ _
    (λ _. record { diagnostics = (tt, tt); regex = tt }) (character_within here))))))

-- What is read where a gap has ended lies within the text.
pub here_within : (t : SourceType) (line_has_ended : Bool) (here : List ℕ) (r : Reading)
    → ReadsHere t line_has_ended here r → Within (size here) r
here_within t line_has_ended here r (spelled_here xs spelling is) =
    subst (Within (size here)) (sym is) (record { diagnostics = tt; regex = tt })
here_within t line_has_ended here r (recovers nothing e) =
    subst (λ found. IfSome found (Within (size here))) e (recovered_within here)
