-- What is reported of a text at one place is, moved by the difference, what is reported of it at another.
use Rattle.std.proofs.lemmas.List.{map-append}
use Rattle.std.proofs.Common.{◌≡◌, ℕ, ◌+◌, Bool, true, false, List, [], ◌∷◌, ◌++◌, refl, sym, ◌∙◌, ap, arith, ◌==◌}
use Rattle.std.proofs.Common.{Option, Some, None}
use Rattle.std.specs.Prelude.{if◌then◌else◌, map}
use Rattle.js_text.specs.RegExpFlags.{flag_of_letter}
use Rattle.js_text.specs.declared.diagnostic.Diagnostic.{Diagnostic}
use Rattle.js_text.specs.declared.reg_exp_flags.RegExpFlags.{RegExpFlags}
use Rattle.js_grammar.specs.Name.{NameFault, NameItem, fault_report, item_report, items_report}
use Rattle.js_grammar.specs.Name.NameFault.{bad_escape as bad_name_escape, not_allowed}
use Rattle.js_grammar.specs.Number.{Item}
use Rattle.js_grammar.specs.NumberReads.{invalid_end, invalid_number_end, missing_digit, missing_digits}
use Rattle.js_grammar.specs.Reading.{moved_diagnostic, moved_diagnostics, moved_span, place_behind}
use Rattle.js_grammar.specs.RegularExpression.{flag_reports, has_flag, is_any, letter_reports, with_letter}
use Rattle.js_grammar.specs.StringItems.{Fault, StringItem, fault_reports, item_reports, stretch}
use Rattle.std.specs.Option.{option_map_or}
use Rattle.js_text.specs.declared.diagnostic.Diagnostic.TheVariants.{InvalidCharacter, UnexpectedEnd}
use Rattle.js_text.specs.declared.diagnostic.Diagnostic.TheVariants.{FileAppearsToBeBinary, InvalidNumberEnd}
use Rattle.js_text.specs.declared.diagnostic.Diagnostic.TheVariants.{UnterminatedString, UnterminatedMultiLineComment}
use Rattle.js_text.specs.declared.diagnostic.Diagnostic.TheVariants.{UnterminatedRegExp, UnicodeEscapeSequence}
use Rattle.js_text.specs.declared.diagnostic.Diagnostic.TheVariants.{InvalidEscapeSequence, RegExpFlag, RegExpFlagTwice}
use Rattle.js_text.specs.declared.diagnostic.Diagnostic.TheVariants.{UnexpectedJsxEnd, HtmlCommentInModule}
use Rattle.js_text.specs.declared.span.Span.{Span}
use Rattle.js_grammar.specs.StringItems.Fault.{no_fault, bad_escape, unfinished_escape}
use Rattle.js_grammar.specs.Jsx.{angles_among, angle_at}
use Rattle.js_text.specs.Ascii.{greater_than_sign}

-- what is moved twice is moved by both
pub moved_twice : (a b : ℕ) (diagnostics : List Diagnostic)
    → moved_diagnostics a (moved_diagnostics b diagnostics) ≡ moved_diagnostics (a + b) diagnostics
moved_twice a b [] = refl
moved_twice a b (d ∷ ds) = ap (λ e. e ∷ moved_diagnostics a (moved_diagnostics b ds)) (one d)
    ∙ ap (λ es. moved_diagnostic (a + b) d ∷ es) (moved_twice a b ds)
  where
    span : (s : Span) → moved_span a (moved_span b s) ≡ moved_span (a + b) s
    span s =
        let start : a + (b + s.start) ≡ (a + b) + s.start = omega arith in
        let end : a + (b + s.end) ≡ (a + b) + s.end = omega arith in
        rw (start, end) refl

    one : (d : Diagnostic) → moved_diagnostic a (moved_diagnostic b d) ≡ moved_diagnostic (a + b) d
    one (InvalidCharacter c s) = ap (InvalidCharacter c) (span s)
    one (UnexpectedEnd s) = ap UnexpectedEnd (span s)
    one FileAppearsToBeBinary = refl
    one (InvalidNumberEnd s) = ap InvalidNumberEnd (span s)
    one (UnterminatedString s) = ap UnterminatedString (span s)
    one (UnterminatedMultiLineComment s) = ap UnterminatedMultiLineComment (span s)
    one (UnterminatedRegExp s) = ap UnterminatedRegExp (span s)
    one (UnicodeEscapeSequence s) = ap UnicodeEscapeSequence (span s)
    one (InvalidEscapeSequence s) = ap InvalidEscapeSequence (span s)
    one (RegExpFlag c s) = ap (RegExpFlag c) (span s)
    one (RegExpFlagTwice c s) = ap (RegExpFlagTwice c) (span s)
    one (UnexpectedJsxEnd c s) = ap (UnexpectedJsxEnd c) (span s)
    one (HtmlCommentInModule s) = ap HtmlCommentInModule (span s)

-- the place behind characters
pub behind_moved : (by place : ℕ) (xs : List ℕ) → place_behind (by + place) xs ≡ by + place_behind place xs
behind_moved by place xs = omega arith

-- of the items of a number
missing_digit_moved : (by place : ℕ) (text : List ℕ)
    → missing_digit (by + place) text ≡ moved_diagnostic by (missing_digit place text)
missing_digit_moved by place [] = refl
missing_digit_moved by place (c ∷ cs) = refl

pub missing_digits_moved : (by place : ℕ) (items : List Item)
    → missing_digits (by + place) items ≡ moved_diagnostics by (missing_digits place items)
missing_digits_moved by place [] = refl
missing_digits_moved by place (item ∷ items) =
    let end = place_behind place item.text in
    let more : missing_digits (place_behind (by + place) item.text) items
    ≡ moved_diagnostics by (missing_digits end items) =
    ap (λ p. missing_digits p items) (behind_moved by place item.text) ∙ missing_digits_moved by end items in
    by_lack item.lacks_digit (missing_digit (place_behind (by + place) item.text) item.rest)
    (missing_digits (place_behind (by + place) item.text) items) (missing_digit end item.rest)
    (missing_digits end items)
    (ap (λ p. missing_digit p item.rest) (behind_moved by place item.text) ∙ missing_digit_moved by end item.rest) more
  where
    by_lack : (b : Bool) (x : Diagnostic) (xs : List Diagnostic) (y : Diagnostic) (ys : List Diagnostic)
        → x ≡ moved_diagnostic by y → xs ≡ moved_diagnostics by ys
        → (if b then x ∷ xs else xs) ≡ moved_diagnostics by (if b then y ∷ ys else ys)
    by_lack true x xs y ys e f = ap (λ d. d ∷ xs) e ∙ ap (λ ds. moved_diagnostic by y ∷ ds) f
    by_lack false x xs y ys e f = f

pub number_end_moved : (by place : ℕ) (text : List ℕ)
    → invalid_number_end (by + place) text ≡ moved_diagnostic by (invalid_number_end place text)
number_end_moved by place text = rw (behind_moved by place (invalid_end text)) refl

-- of the items of a name
fault_moved : (by place end : ℕ) (fault : NameFault)
    → fault_report (by + place) (by + end) fault ≡ moved_diagnostic by (fault_report place end fault)
fault_moved by place end bad_name_escape =
    let same : by + place + 1 ≡ by + (place + 1) = omega arith in rw same refl
fault_moved by place end (not_allowed c) = refl

item_report_moved : (by place : ℕ) (item : NameItem)
    → item_report (by + place) item ≡ moved_diagnostics by (item_report place item)
item_report_moved by place item = by_fault item.fault
  where
    by_fault : (fault : Option NameFault)
        → item_report (by + place) (record item { fault = fault })
        ≡ moved_diagnostics by (item_report place (record item { fault = fault }))
    by_fault None = refl
    by_fault (Some fault) =
        ap (λ d. d ∷ [])
        (ap (λ end. fault_report (by + place) end fault) (behind_moved by place item.text)
        ∙ fault_moved by place (place_behind place item.text) fault)

pub items_report_moved : (by place : ℕ) (items : List NameItem)
    → items_report (by + place) items ≡ moved_diagnostics by (items_report place items)
items_report_moved by place [] = refl
items_report_moved by place (item ∷ items) =
    ap (λ ds. ds ++ items_report (place_behind (by + place) item.text) items) (item_report_moved by place item)
    ∙ ap (λ ds. moved_diagnostics by (item_report place item) ++ ds)
    (ap (λ p. items_report p items) (behind_moved by place item.text)
    ∙ items_report_moved by (place_behind place item.text) items)
    ∙ sym (map-append (moved_diagnostic by) (item_report place item)
    (items_report (place_behind place item.text) items))

-- of the items of a string or a template
fault_reports_moved : (in_template : Bool) (by start place end : ℕ) (fault : Fault)
    → fault_reports in_template (by + start) (by + place) (by + end) fault
    ≡ moved_diagnostics by (fault_reports in_template start place end fault)
fault_reports_moved in_template by start place end no_fault = refl
fault_reports_moved true by start place end bad_escape = refl
fault_reports_moved false by start place end bad_escape = refl
fault_reports_moved in_template by start place end unfinished_escape = refl

pub item_reports_moved : (in_template : Bool) (by start place : ℕ) (items : List StringItem)
    → item_reports in_template (by + start) (by + place) items
    ≡ moved_diagnostics by (item_reports in_template start place items)
item_reports_moved in_template by start place [] = refl
item_reports_moved in_template by start place (item ∷ items) =
    let end = place_behind place item.text in
    let behind = behind_moved by place item.text in
    ap (λ p. fault_reports in_template (by + start) (by + place) p item.fault
    ++ item_reports in_template (by + start) p items) behind
    ∙ ap (λ ds. ds ++ item_reports in_template (by + start) (by + end) items)
    (fault_reports_moved in_template by start place end item.fault)
    ∙ ap (λ ds. moved_diagnostics by (fault_reports in_template start place end item.fault) ++ ds)
    (item_reports_moved in_template by start end items)
    ∙ sym
    (map-append (moved_diagnostic by) (fault_reports in_template start place end item.fault)
    (item_reports in_template start end items))

-- of the letters of flags
letter_reports_moved : (flags : RegExpFlags) (by place c : ℕ)
    → letter_reports flags (by + place) c ≡ moved_diagnostics by (letter_reports flags place c)
letter_reports_moved flags by place c = by_flag (flag_of_letter c)
  where
    next : by + place + 1 ≡ by + (place + 1)
    next = omega arith

    reports_of : ℕ → Option RegExpFlags → List Diagnostic
    reports_of at flag =
        option_map_or (λ flag. if has_flag flags flag then RegExpFlagTwice c (stretch at (at + 1)) ∷ [] else []) flag
        (RegExpFlag c (stretch at (at + 1)) ∷ [])

    by_twice : (b : Bool)
        → (if b then RegExpFlagTwice c (stretch (by + place) (by + place + 1)) ∷ [] else [])
        ≡ moved_diagnostics by (if b then RegExpFlagTwice c (stretch place (place + 1)) ∷ [] else [])
    by_twice true = rw next refl
    by_twice false = refl

    by_flag : (flag : Option RegExpFlags)
        → reports_of (by + place) flag ≡ moved_diagnostics by (reports_of place flag)
    by_flag None = rw next refl
    by_flag (Some flag) = by_twice (has_flag flags flag)

pub flag_reports_moved : (flags : RegExpFlags) (by place : ℕ) (letters : List ℕ)
    → flag_reports flags (by + place) letters ≡ moved_diagnostics by (flag_reports flags place letters)
flag_reports_moved flags by place [] = refl
flag_reports_moved flags by place (c ∷ cs) =
    let next : by + place + 1 ≡ by + (place + 1) = omega arith in
    ap (λ p. letter_reports flags (by + place) c ++ flag_reports (with_letter flags c) p cs) next
    ∙ ap (λ ds. ds ++ flag_reports (with_letter flags c) (by + (place + 1)) cs) (letter_reports_moved flags by place c)
    ∙ ap (λ ds. moved_diagnostics by (letter_reports flags place c) ++ ds)
    (flag_reports_moved (with_letter flags c) by (place + 1) cs)
    ∙ sym
    (map-append (moved_diagnostic by) (letter_reports flags place c)
    (flag_reports (with_letter flags c) (place + 1) cs))

-- of the `>` among characters
pub angles_moved : (by place : ℕ) (xs : List ℕ)
    → angles_among (by + place) xs ≡ map (moved_span by) (angles_among place xs)
angles_moved by place [] = refl
angles_moved by place (c ∷ cs) =
    let end = place_behind place (c ∷ []) in
    ap (λ ss. ss ++ angles_among (place_behind (by + place) (c ∷ [])) cs) (by_angle (c == greater_than_sign))
    ∙ ap (λ ss. map (moved_span by) (angle_at place c) ++ ss)
    (ap (λ p. angles_among p cs) (behind_moved by place (c ∷ [])) ∙ angles_moved by end cs)
    ∙ sym (map-append (moved_span by) (angle_at place c) (angles_among end cs))
  where
    by_angle : (b : Bool)
        → (if b then stretch (by + place) (by + place + 1) ∷ [] else [])
        ≡ map (moved_span by) (if b then stretch place (place + 1) ∷ [] else [])
    by_angle true = let next : by + place + 1 ≡ by + (place + 1) = omega arith in rw next refl
    by_angle false = refl

-- whether anything is reported does not depend on the place
pub any_moved : (by : ℕ) (diagnostics : List Diagnostic)
    → is_any (moved_diagnostics by diagnostics) ≡ is_any diagnostics
any_moved by [] = refl
any_moved by (d ∷ ds) = refl
