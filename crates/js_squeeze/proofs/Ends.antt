-- An empty token stands at the end of its text.
use Rattle.std.proofs.Common.{◌≡◌, ◌≢◌, ℕ, Bool, true, false, ◌==◌, List, [], ◌∷◌, ◌++◌}
use Rattle.std.proofs.Common.{refl, sym, ◌∙◌, ap, Option, Some, inl, inr, ◌⊎◌}
use Rattle.std.specs.Prelude.{if◌then◌else◌}
use Rattle.std.specs.Str.{IsUtf8}
use Rattle.std.proofs.lemmas.List.{append_cancel_right}
use Rattle.js_text.specs.Ascii.{less_than_sign}
use Rattle.js_text.specs.Characters.{from_first, from_place}
use Rattle.js_text.specs.declared.diagnostic.Diagnostic.TheVariants.{UnexpectedJsxEnd}
use Rattle.js_text.specs.declared.source_type.SourceType.{SourceType}
use Rattle.js_kind.specs.TokenParts.{TokenParts}
use Rattle.js_kind.specs.declared.kind.Kind.TheVariants.{Eof, HashbangComment, JSXText, LAngle, LCurly, Str}
use Rattle.js_grammar.specs.Goals.{GoalReads, ReadsAttributeValue, ReadsBehindGap, ReadsJsxChild, ReadsPlainly}
use Rattle.js_grammar.specs.Goals.{with_gap}
use Rattle.js_grammar.specs.Goals.ReadsAttributeValue.{string, plain}
use Rattle.js_grammar.specs.Goals.ReadsPlainly.{hashbang, behind_gap}
use Rattle.js_grammar.specs.Jsx.{begins_child, ends_jsx_text, jsx_child_reading, jsx_text_before, jsx_text_reading}
use Rattle.js_grammar.specs.Jsx.{reported}
use Rattle.js_grammar.specs.NumberReads.{empty_span}
use Rattle.js_grammar.specs.Outcome.{Outcome, outcome_at}
use Rattle.js_grammar.specs.Reading.{Reading, read_up_to, size_of}
use Rattle.js_grammar.specs.Reads.{is_onward}
use Rattle.js_grammar.specs.UnicodeEscape.{left_curly_bracket}
use Rattle.js_grammar.specs.declared.goal.Goal.{Goal}
use Rattle.js_grammar.specs.declared.goal.Goal.TheVariants.{First, Next, TemplateTail, RegularExpression, RightAngle}
use Rattle.js_grammar.specs.declared.goal.Goal.TheVariants.{TypeScriptLeftAngle, TypeScriptRightAngle, JsxIdentifier}
use Rattle.js_grammar.specs.declared.goal.Goal.TheVariants.{JsxChild, JsxAttributeValue}
use Rattle.js_grammar.proofs.Clean.{none_moved}
use Rattle.js_grammar.proofs.CleanReadings.{clean_here}
use Rattle.js_grammar.proofs.GoalWays.{goal_reads_span}
use Rattle.js_grammar.proofs.Spans.{here_is_taken}
use Rattle.js_grammar.proofs.StringLaws.{not_empty}
use Rattle.js_lexer.specs.Lexer.{IsOnPlaces}
use Rattle.js_rewrite.proofs.GoalsAlike.{string_here}
use Rattle.js_rewrite.proofs.ReadAlike.{quiet_parts}
use Rattle.js_squeeze.proofs.AgainFuture.{some_characters}
use Rattle.js_squeeze.proofs.Future.{EndsText}
use Rattle.js_squeeze.proofs.Written.{characters, characters_here}

behind_gap_ends : (text : List ℕ) (t : SourceType) (before : Option TokenParts) (place : ℕ) (o : Outcome)
    → IsUtf8 text → IsOnPlaces text o.token → ReadsBehindGap text t before place o → o.findings.diagnostics ≡ []
    → EndsText text o.token
behind_gap_ends text t before place o u lies reads clean = λ none.
    let here = from_place text o.token.start in
    let r = reads.reading in
    let quiet =
    quiet_parts place o.token.start reads.pieces r (sym (ap (λ (x : Outcome). x.findings.diagnostics) reads.outcome_is) ∙ clean)
    in
    let is_clean = clean_here t reads.line_has_ended here r reads.here quiet.1 in
    let taken = here_is_taken t reads.line_has_ended here r reads.here in
    let whole : here ≡ r.taken ++ from_place text o.token.end = taken.here ∙ ap (λ h. r.taken ++ h) reads.rest in
    let front : characters text o.token ≡ r.taken =
    append_cancel_right (characters text o.token) r.taken (from_place text o.token.end)
    (sym (characters_here text o.token u lies) ∙ whole) in
    sym reads.rest ∙ is_clean.at_end (sym front ∙ none)

-- a token of another kind than that of the end is not empty
other_kind : (text : List ℕ) (t : SourceType) (goal : Goal) (before : Option TokenParts) (place : ℕ) (o : Outcome)
    → IsUtf8 text → IsOnPlaces text o.token → GoalReads text t goal before place o → o.token.kind ≢ Eof
    → EndsText text o.token
other_kind text t goal before place o u lies reads other = λ none.
    absurd
    (some_characters text o.token u lies ((goal_reads_span text t goal before place o u reads).some_text other) none)

plainly_ends : (text : List ℕ) (t : SourceType) (goal : Goal) (before : Option TokenParts) (place : ℕ) (o : Outcome)
    → IsUtf8 text → IsOnPlaces text o.token → GoalReads text t goal before place o
    → ReadsPlainly text t goal before place o → o.findings.diagnostics ≡ [] → EndsText text o.token
plainly_ends text t goal before place o u lies is_read (hashbang begins_it reads) clean =
    other_kind text t goal before place o u lies is_read
    (λ end. let no : HashbangComment ≡ Eof = sym reads.is_hashbang.kind ∙ end in cc)
plainly_ends text t goal before place o u lies is_read (behind_gap none reads) clean =
    behind_gap_ends text t before place o u lies reads clean

attribute_ends : (text : List ℕ) (t : SourceType) (before : Option TokenParts) (place : ℕ) (o : Outcome)
    → IsUtf8 text → IsOnPlaces text o.token → ReadsAttributeValue text t before place o → o.findings.diagnostics ≡ []
    → EndsText text o.token
attribute_ends text t before place o u lies (plain no_quote reads) clean =
    behind_gap_ends text t before place o u lies reads clean
attribute_ends text t before place o u lies (string reads) clean =
    let from = reads.reads in
    let has = reads.line_has_ended in
    let whole : o ≡ with_gap t before place reads.pieces (outcome_at has o.token.start from.found) =
    reads.outcome_is ∙ ap (with_gap t before place reads.pieces) from.outcome_is in
    let quiet =
    quiet_parts place o.token.start reads.pieces from.found
    (sym (ap (λ (x : Outcome). x.findings.diagnostics) whole) ∙ clean) in
    let is = string_here (from_place text o.token.start) from.found from.read_is quiet.1 in
    other_kind text t JsxAttributeValue before place o u lies (string reads)
    (λ end.
    let no : Str ≡ Eof = sym is.1 ∙ sym (ap (λ (x : Outcome). x.token.kind) whole) ∙ end in cc)

-- a child without a fault leaves nothing, or is of another kind
child_end : (here : List ℕ) → (jsx_child_reading here).diagnostics ≡ []
    → ((jsx_child_reading here).rest ≡ []) ⊎ ((jsx_child_reading here).kind ≢ Eof)
child_end [] clean = inl refl
child_end (c ∷ cs) clean = by_mark (c == less_than_sign) (c == left_curly_bracket) clean
  where
    by_text : (text behind : List ℕ) → (jsx_text_before text behind).diagnostics ≡ []
        → ((jsx_text_before text behind).rest ≡ []) ⊎ ((jsx_text_before text behind).kind ≢ Eof)
    by_text text [] clean = inl refl
    by_text text (d ∷ ds) clean = by_child (begins_child d) clean
      where
        by_child : (b : Bool)
            → (if b then read_up_to JSXText text (d ∷ ds)
            else reported Eof text (d ∷ ds)
            (UnexpectedJsxEnd d (empty_span (size_of (read_up_to Eof text (d ∷ ds)))))).diagnostics ≡ []
            → ((if b then read_up_to JSXText text (d ∷ ds)
            else reported Eof text (d ∷ ds)
            (UnexpectedJsxEnd d (empty_span (size_of (read_up_to Eof text (d ∷ ds)))))).rest ≡ [])
            ⊎ ((if b then read_up_to JSXText text (d ∷ ds)
            else reported Eof text (d ∷ ds)
            (UnexpectedJsxEnd d (empty_span (size_of (read_up_to Eof text (d ∷ ds)))))).kind ≢ Eof)
        by_child true e = inr (λ no. absurd (cc))
        by_child false e = not_empty [] _ e

    by_mark : (a b : Bool)
        → (if a then read_up_to LAngle (c ∷ cs) cs else
        if b then read_up_to LCurly (c ∷ cs) cs else jsx_text_reading (c ∷ cs)).diagnostics ≡ []
        → ((if a then read_up_to LAngle (c ∷ cs) cs else
        if b then read_up_to LCurly (c ∷ cs) cs else jsx_text_reading (c ∷ cs)).rest ≡ [])
        ⊎ ((if a then read_up_to LAngle (c ∷ cs) cs else
        if b then read_up_to LCurly (c ∷ cs) cs else jsx_text_reading (c ∷ cs)).kind ≢ Eof)
    by_mark true b e = inr (λ no. absurd (cc))
    by_mark false true e = inr (λ no. absurd (cc))
    by_mark false false e = by_text (c ∷ cs) (from_first ends_jsx_text (c ∷ cs)) e

child_ends : (text : List ℕ) (t : SourceType) (before : Option TokenParts) (place : ℕ) (ended : Bool) (o : Outcome)
    → IsUtf8 text → IsOnPlaces text o.token → GoalReads text t JsxChild before place o
    → ReadsJsxChild text ended place o → o.findings.diagnostics ≡ [] → EndsText text o.token
child_ends text t before place ended o u lies is_read reads clean =
    let child = reads.child in
    let from = reads.reads in
    let found : jsx_child_reading (from_place text place) ≡ from.found =
    some_same (jsx_child_reading (from_place text place)) from.found from.read_is in
    let quiet : from.found.diagnostics ≡ [] =
    none_moved place from.found.diagnostics
    (sym (ap (λ (x : Outcome). x.findings.diagnostics) reads.outcome_is
    ∙ ap (λ (x : Outcome). x.findings.diagnostics) from.outcome_is) ∙ clean) in
    let kind : o.token.kind ≡ (jsx_child_reading (from_place text place)).kind =
    ap (λ (x : Outcome). x.token.kind) reads.outcome_is ∙ ap (λ (x : Outcome). x.token.kind) from.outcome_is
    ∙ sym (ap (λ (x : Reading). x.kind) found) in
    let end : child.token.end ≡ o.token.end = sym (ap (λ (x : Outcome). x.token.end) reads.outcome_is) in
    elim (child_end (from_place text place) (ap (λ (x : Reading). x.diagnostics) found ∙ quiet)) [
      | inl rest ↦ (λ none. ap (from_place text) (sym end) ∙ sym from.rest ∙ sym (ap (λ (x : Reading). x.rest) found) ∙ rest)
      | inr other ↦ other_kind text t JsxChild before place o u lies is_read (λ is. other (sym kind ∙ is))
    ]
  where
    some_same : (a b : Reading) → Some a ≡ Some b → a ≡ b
    some_same a b e = cc

-- What a goal reads from a place on.
pub onward_ends : (text : List ℕ) (t : SourceType) (goal : Goal) (before : Option TokenParts) (place : ℕ) (o : Outcome)
    → IsUtf8 text → IsOnPlaces text o.token → is_onward goal ≡ true → GoalReads text t goal before place o
    → o.findings.diagnostics ≡ [] → EndsText text o.token
onward_ends text t First before place o u lies on reads clean =
    plainly_ends text t First before place o u lies reads reads clean
onward_ends text t Next before place o u lies on reads clean =
    plainly_ends text t Next before place o u lies reads reads clean
onward_ends text t TemplateTail before place o u lies on reads clean = absurd (cc)
onward_ends text t RegularExpression before place o u lies on reads clean = absurd (cc)
onward_ends text t RightAngle before place o u lies on reads clean = absurd (cc)
onward_ends text t TypeScriptLeftAngle before place o u lies on reads clean = absurd (cc)
onward_ends text t TypeScriptRightAngle before place o u lies on reads clean = absurd (cc)
onward_ends text t JsxIdentifier before place o u lies on reads clean = absurd (cc)
onward_ends text t JsxChild before place o u lies on reads clean =
    child_ends text t before place _ o u lies reads reads clean
onward_ends text t JsxAttributeValue before place o u lies on reads clean =
    attribute_ends text t before place o u lies reads clean
