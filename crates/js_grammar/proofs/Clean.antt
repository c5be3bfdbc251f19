-- A reading reports nothing exactly where the grammar reads a token, and then it is this one.
use Rattle.std.proofs.Common.{◌≡◌, ◌≢◌, ℕ, Bool, true, false, List, [], ◌∷◌, ◌++◌, ◌==◌, ◌&&◌, ◌||◌}
use Rattle.std.proofs.Common.{drop, refl, sym, ◌∙◌, ap, subst, Option, Some, None}
use Rattle.std.specs.Prelude.{codes, if◌then◌else◌, IfSome}
use Rattle.unicode_ident.proofs.Computing.{unicode_ident}
use Rattle.js_text.specs.Characters.{from_place, begins, is_identifier_start}
use Rattle.js_text.specs.Ascii.{number_sign}
use Rattle.js_text.specs.SourceType.{is_module}
use Rattle.js_text.specs.declared.source_type.SourceType.{SourceType}
use Rattle.js_kind.specs.Digits.{is_digit_of}
use Rattle.js_kind.specs.TokenParts.{TokenParts}
use Rattle.js_kind.specs.declared.kind.Kind.{Kind}
use Rattle.js_grammar.specs.Gap.{is_prefix, is_reported, LongestGap}
use Rattle.js_grammar.specs.Goals.{ReadsHere, ReadsPlainly, GoalReads, AgreesWithGrammar, line_has_ended_behind}
use Rattle.js_grammar.specs.Goals.ReadsHere.{spelled as spelled_here, recovers}
use Rattle.js_grammar.specs.Goals.ReadsPlainly.{hashbang as hashbang_read, behind_gap}
use Rattle.js_grammar.specs.Name.{begins_name, private_reading}
use Rattle.js_grammar.specs.Number.{begins_number}
use Rattle.js_grammar.specs.Outcome.{Outcome, gap_diagnostics}
use Rattle.js_grammar.specs.Quoted.{begins_quoted}
use Rattle.js_grammar.specs.Reads.{PlainReads, is_plain}
use Rattle.js_grammar.specs.Reads.PlainReads.{hashbang, spelled}
use Rattle.js_grammar.specs.Recovery.{recovered, recovered_character, is_control_or_wide}
use Rattle.js_grammar.specs.Reading.{Reading, moved_diagnostics}
use Rattle.js_text.specs.declared.diagnostic.Diagnostic.{Diagnostic}
use Rattle.js_grammar.specs.Spelling.{LongestSpelling, NothingSpelled}
use Rattle.js_grammar.specs.declared.goal.Goal.{Goal}
use Rattle.js_grammar.specs.declared.goal.Goal.TheVariants.{First, Next, TemplateTail as TailGoal}
use Rattle.js_grammar.specs.declared.goal.Goal.TheVariants.{RegularExpression, RightAngle, TypeScriptLeftAngle}
use Rattle.js_grammar.specs.declared.goal.Goal.TheVariants.{TypeScriptRightAngle, JsxIdentifier, JsxChild}
use Rattle.js_grammar.specs.declared.goal.Goal.TheVariants.{JsxAttributeValue}
use Rattle.js_grammar.proofs.GapLemmas.{whole_gap_unique}
use Rattle.js_grammar.proofs.NumberReadings.{faulty_number_reports}
use Rattle.js_grammar.proofs.Reported.{longest_of_whole, whole_of_longest, gap_reports_nothing, append_nil}
use Rattle.js_grammar.proofs.LongestPunctuators.{none_reported}
use Rattle.js_grammar.proofs.NameReadings.{faulty_name_reports, faulty_private_reports}
use Rattle.js_grammar.proofs.QuotedReadings.{faulty_quoted_reports}
use Rattle.js_grammar.proofs.NumberSound.{first_is}
use Rattle.js_grammar.proofs.SpellingClasses.{nothing_spelled}
use Rattle.js_grammar.specs.Spelling.{begins_named}
use Rattle.js_grammar.proofs.Tests.{and_true, prefix_is}

-- `<` begins no name and no number
angle_begins_none : (begins_named 60 ≡ false) × (is_digit_of 10 60 ≡ false)
unfolding is_identifier_start is_digit_of unicode_ident
angle_begins_none = (refl, refl)

-- Where a reported comment stands, nothing is spelled.
pub reported_spells_nothing : (t : SourceType) (line_has_ended : Bool) (here : List ℕ)
    → is_reported t line_has_ended here ≡ true → NothingSpelled t line_has_ended here
reported_spells_nothing t line_has_ended here e =
    let both = and_true (is_prefix (codes "<!--") here) (is_module t && line_has_ended) e in
    let text : here ≡ codes "<!--" ++ drop 4 here = prefix_is (codes "<!--") here both.0 in
    subst (NothingSpelled t line_has_ended) (sym text)
    (nothing_spelled t line_has_ended (codes "<!--" ++ drop 4 here)
    (λ e. cc) angle_begins_none.0 angle_begins_none.1 refl
    (none_reported t line_has_ended (drop 4 here) both.1))

-- and so where something is spelled, no reported comment stands
pub spelled_is_not_reported : (t : SourceType) (line_has_ended : Bool) (here xs ys : List ℕ) (k : Kind)
    → LongestSpelling t line_has_ended here xs ys k → is_reported t line_has_ended here ≡ false
spelled_is_not_reported t line_has_ended here xs ys k s =
    let family : Bool → Type 0 = λ b. is_reported t line_has_ended here ≡ b
    → is_reported t line_has_ended here ≡ false in
    elim (is_reported t line_has_ended here) as family [
      | true ↦ λ e. absurd
          (reported_spells_nothing t line_has_ended here e xs ys k s.here s.spelling)
      | false ↦ λ e. e
    ] refl

-- what is read to recover reports something
abbrev Reports : Option Reading → Type 0
Reports found = IfSome found (λ r. r.diagnostics ≢ [])

reports_if : (b : Bool) (x y : Option Reading) → (b ≡ true → Reports x) → Reports y → Reports (if b then x else y)
reports_if true x y h k = h refl
reports_if false x y h k = k

recovered_reports : (t : SourceType) (line_has_ended : Bool) (here : List ℕ)
    → NothingSpelled t line_has_ended here → Reports (recovered here)
recovered_reports t line_has_ended here nothing =
    reports_if (is_prefix (codes "/*") here) _ _ (λ _ e. cc) (
    reports_if (begins_name here) _ _
    (λ begun. faulty_name_reports t line_has_ended here begun nothing) (
    reports_if (begins (λ c. c == number_sign) here) _ _
    (λ begun. private_reports (first_is number_sign here begun)) (
    reports_if (begins_number here) _ _
    (λ begun. faulty_number_reports t line_has_ended here begun nothing) (
    reports_if (begins begins_quoted here) _ _
    (λ begun. faulty_quoted_reports t line_has_ended here begun nothing) (
    reports_if (begins (λ c. c == 0xFFFD) here) _ _ (λ _ e. cc) (character here))))))
  where
    private_reports : here ≡ number_sign ∷ drop 1 here → (private_reading here).diagnostics ≢ []
    private_reports e =
        subst (λ h. (private_reading h).diagnostics ≢ []) (sym e)
        (faulty_private_reports t line_has_ended (drop 1 here) (subst (NothingSpelled t line_has_ended) e nothing))

    character : (here : List ℕ) → Reports (recovered_character here)
    character [] = tt
    character (c ∷ cs) = reports_if (is_control_or_wide c) _ None (λ _ e. cc) tt

pub recovery_reports : (t : SourceType) (line_has_ended : Bool) (here : List ℕ) (r : Reading)
    → NothingSpelled t line_has_ended here → recovered here ≡ Some r → r.diagnostics ≢ []
recovery_reports t line_has_ended here r nothing e =
    subst Reports e (recovered_reports t line_has_ended here nothing)

-- what is read behind a gap without a report is spelled
spelled_clean : (t : SourceType) (line_has_ended : Bool) (here : List ℕ) (r : Reading)
    → ReadsHere t line_has_ended here r → r.diagnostics ≡ []
    → (r.line_ended ≡ false) × (xs : List ℕ) × LongestSpelling t line_has_ended here xs r.rest r.kind
spelled_clean t line_has_ended here r (spelled_here xs spelling is) clean =
    (ap (λ x. x.line_ended) is, xs, spelling)
spelled_clean t line_has_ended here r (recovers nothing e) clean =
    absurd (recovery_reports t line_has_ended here r nothing e clean)

-- what is moved is no less
pub none_moved : (place : ℕ) (diagnostics : List Diagnostic) → moved_diagnostics place diagnostics ≡ []
    → diagnostics ≡ []
none_moved place [] e = refl
none_moved place (d ∷ ds) e = absurd (cc)

-- A reading that reports nothing is the grammar's.
pub clean_reads : (text : List ℕ) (t : SourceType) (goal : Goal) (before : Option TokenParts) (place : ℕ) (o : Outcome)
    → ReadsPlainly text t goal before place o
    → o.findings.diagnostics ≡ [] → PlainReads text t goal (line_has_ended_behind before) place o.token
clean_reads text t goal before place o (hashbang_read begins read) clean =
    hashbang begins read.is_hashbang read.is_on_new_line
clean_reads text t goal before place o (behind_gap begins read) clean =
    let both =
    append_nil (gap_diagnostics place read.pieces) (moved_diagnostics o.token.start read.reading.diagnostics)
    (sym (ap (λ x. x.findings.diagnostics) read.outcome_is) ∙ clean) in
    let parts =
    spelled_clean t read.line_has_ended (from_place text o.token.start) read.reading read.here
    (none_moved o.token.start read.reading.diagnostics both.1) in
    let gap =
    longest_of_whole t (line_has_ended_behind before) (from_place text place) read.pieces read.line_has_ended
    (from_place text o.token.start) place read.gap both.0 in
    let newline : o.token.is_on_new_line ≡ read.line_has_ended =
    ap (λ x. x.token.is_on_new_line) read.outcome_is ∙ ap (λ b. b || read.line_has_ended) parts.0 in
    let kind : o.token.kind ≡ read.reading.kind = ap (λ x. x.token.kind) read.outcome_is in
    let here = from_place text o.token.start in
    let end = from_place text o.token.end in
    let there : LongestSpelling t read.line_has_ended here parts.1 end read.reading.kind =
    subst (λ ys. LongestSpelling t read.line_has_ended here parts.1 ys read.reading.kind) read.rest parts.2 in
    let kinds : LongestSpelling t read.line_has_ended here parts.1 end o.token.kind =
    subst (LongestSpelling t read.line_has_ended here parts.1 end) (sym kind) there in
    spelled begins record {
      gap = subst (λ b. LongestGap t (line_has_ended_behind before) (from_place text place) b here) (sym newline) gap;
      start = read.start;
      spelled = parts.1;
      spelling = subst (λ b. LongestSpelling t b here parts.1 end o.token.kind) (sym newline) kinds;
      end = read.end;
    }

-- where something is spelled, what is read there reports nothing
here_clean : (t : SourceType) (line_has_ended : Bool) (here : List ℕ) (r : Reading)
    → ReadsHere t line_has_ended here r → (NothingSpelled t line_has_ended here → ⊥) → r.diagnostics ≡ []
here_clean t line_has_ended here r (spelled_here xs spelling is) some = ap (λ x. x.diagnostics) is
here_clean t line_has_ended here r (recovers nothing e) some = absurd (some nothing)

-- Where the grammar reads a token, nothing is reported.
pub reads_clean : (text : List ℕ) (t : SourceType) (goal : Goal) (before : Option TokenParts) (place : ℕ) (o : Outcome)
    (token : TokenParts)
    → ReadsPlainly text t goal before place o → PlainReads text t goal (line_has_ended_behind before) place token
    → o.findings.diagnostics ≡ []
reads_clean text t goal before place o token (hashbang_read begins read) reads =
    ap (λ x. x.findings.diagnostics) read.alone
reads_clean text t goal before place o token (behind_gap begins read) (hashbang other is newline) = absurd (cc)
reads_clean text t goal before place o token (behind_gap begins read) (spelled other is) =
    let line_has_ended = line_has_ended_behind before in
    let quiet =
    spelled_is_not_reported t token.is_on_new_line (from_place text token.start) is.spelled
    (from_place text token.end) token.kind is.spelling in
    let whole =
    whole_of_longest t line_has_ended (from_place text place) token.is_on_new_line
    (from_place text token.start) is.gap quiet in
    let same =
    whole_gap_unique t line_has_ended
    (from_place text place) is.gap.pieces read.pieces token.is_on_new_line read.line_has_ended
    (from_place text token.start) (from_place text o.token.start) whole read.gap in
    let none : gap_diagnostics place read.pieces ≡ [] =
    ap (gap_diagnostics place) (sym same.0)
    ∙ gap_reports_nothing t line_has_ended (from_place text place) is.gap.pieces token.is_on_new_line
    (from_place text token.start) place is.gap.all.pieces_are in
    let some : NothingSpelled t read.line_has_ended (from_place text o.token.start) → ⊥ = λ nothing.
    let moved : NothingSpelled t token.is_on_new_line (from_place text token.start) =
    subst (λ b. NothingSpelled t b (from_place text token.start)) (sym same.1)
    (subst (NothingSpelled t read.line_has_ended) (sym same.2) nothing) in
    moved is.spelled (from_place text token.end) token.kind is.spelling.here is.spelling.spelling in
    ap (λ x. x.findings.diagnostics) read.outcome_is
    ∙ ap (λ ds. ds ++ moved_diagnostics o.token.start read.reading.diagnostics) none
    ∙ ap (moved_diagnostics o.token.start)
    (here_clean t read.line_has_ended (from_place text o.token.start) read.reading read.here some)

plainly_agrees : (text : List ℕ) (t : SourceType) (goal : Goal) (before : Option TokenParts) (place : ℕ)
    (o : Outcome)
    → ReadsPlainly text t goal before place o → AgreesWithGrammar text t goal before place o
plainly_agrees text t goal before place o reads = record {
  clean = (
    λ clean. (o.token, clean_reads text t goal before place o reads clean),
    λ found. reads_clean text t goal before place o found.0 reads found.1,
  );
  plain = clean_reads text t goal before place o reads;
}

-- The headline of one reading.
pub agrees_with_grammar : (text : List ℕ) (t : SourceType) (goal : Goal) (before : Option TokenParts) (place : ℕ)
    (o : Outcome)
    → is_plain goal ≡ true → GoalReads text t goal before place o → AgreesWithGrammar text t goal before place o
agrees_with_grammar text t First before place o plain reads = plainly_agrees text t First before place o reads
agrees_with_grammar text t Next before place o plain reads = plainly_agrees text t Next before place o reads
agrees_with_grammar text t TailGoal before place o plain reads = absurd (cc)
agrees_with_grammar text t RegularExpression before place o plain reads = absurd (cc)
agrees_with_grammar text t RightAngle before place o plain reads = absurd (cc)
agrees_with_grammar text t TypeScriptLeftAngle before place o plain reads = absurd (cc)
agrees_with_grammar text t TypeScriptRightAngle before place o plain reads = absurd (cc)
agrees_with_grammar text t JsxIdentifier before place o plain reads = absurd (cc)
agrees_with_grammar text t JsxChild before place o plain reads = absurd (cc)
agrees_with_grammar text t JsxAttributeValue before place o plain reads = absurd (cc)
