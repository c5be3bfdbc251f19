-- The rows of a source and of the source without its comments are the same.
use Rattle.std.proofs.Common.{◌≡◌, ◌≢◌, ℕ, true, false, List, [], ◌∷◌, ◌++◌, length}
use Rattle.std.proofs.Common.{refl, sym, ◌∙◌, ap, subst, arith, Some}
use Rattle.std.specs.Prelude.{slice_range}
use Rattle.std.specs.List.{AllByRecursion, AllZip, list_all}
use Rattle.std.specs.Str.{IsCharBoundary, IsUtf8, chars}
use Rattle.std.proofs.lemmas.Bool.{and_parts}
use Rattle.std.proofs.lemmas.List.{append_cancel_right}
use Rattle.js_text.specs.Characters.{from_place}
use Rattle.js_text.specs.declared.comment.Comment.{Comment}
use Rattle.js_text.specs.declared.source_type.SourceType.{SourceType}
use Rattle.js_kind.specs.TokenParts.{TokenParts}
use Rattle.js_grammar.specs.Gap.{piece}
use Rattle.js_grammar.specs.Goals.{GoalReads, line_has_ended_behind}
use Rattle.js_grammar.specs.Outcome.{Outcome}
use Rattle.js_grammar.specs.Reads.{is_onward}
use Rattle.js_grammar.specs.declared.goal.Goal.{Goal}
use Rattle.js_grammar.specs.declared.goal.Goal.TheVariants.{First, Next, TemplateTail, RegularExpression, RightAngle}
use Rattle.js_grammar.specs.declared.goal.Goal.TheVariants.{TypeScriptLeftAngle, TypeScriptRightAngle, JsxIdentifier}
use Rattle.js_grammar.specs.declared.goal.Goal.TheVariants.{JsxChild, JsxAttributeValue}
use Rattle.js_lexer.specs.Lexer.{IsOnPlaces, token_or_default}
use Rattle.js_session.specs.SameRows.{SameRow}
use Rattle.js_session.specs.declared.command.Command.{Command}
use Rattle.js_session.specs.declared.row.Row.{Row}
use Rattle.js_session.specs.Effects.{effect_of}
use Rattle.js_session.specs.declared.command.Effect.{Effect}
use Rattle.js_session.specs.declared.command.Effect.TheVariants.{Reads, Peeks, ReLexes, Opens, Rewinds, Commits}
use Rattle.js_session.specs.Live.{State, after_row, outcome_of, place_behind_last}
use Rattle.js_session.specs.Report.{IsOfEffect, Run}
use Rattle.js_session.proofs.LastingRuns.{lasting_steps}
use Rattle.js_rewrite.specs.Faults.{may_rewrite}
use Rattle.js_rewrite.proofs.BareRows.{IsBare}
use Rattle.js_rewrite.proofs.GapsBefore.{child_starts, gaps_at, parts_of_attribute, parts_plainly}
use Rattle.js_rewrite.proofs.GoalsAlike.{GapsFor}
use Rattle.js_rewrite.proofs.LastTokens.{IsLast, IsQuiet, Rewrites, last_behind, lasting_of, not_taken_is, rewrites}
use Rattle.js_rewrite.proofs.LastTokens.{taken_starts}
use Rattle.js_rewrite.proofs.ReadAlike.{StandsAlike}
use Rattle.js_rewrite.proofs.RowsAlike.{Beside, StepAlike, re_lex_step, read_step}
use Rattle.js_strip.proofs.Followed.{follows_without, gaps_stripped, stands_alike}
use Rattle.js_strip.proofs.FutureComments.{comments_of}
use Rattle.js_strip.proofs.FutureRows.{rows_future}
use Rattle.js_strip.proofs.Standing.{StandBetween, between_from}
use Rattle.js_strip.proofs.StrippedChars.{chars_between, stripped_chars, without_from}
use Rattle.js_strip.proofs.StrippedText.{stripped_from}

-- what is left behind a token without these comments
abbrev pub left_behind : List ℕ → TokenParts → List Comment → List ℕ
left_behind text token comments = chars (stripped_from text token.end comments)

-- The gap before a token that a goal reads from a place on, and that of the text without these comments.
onward_gaps : (text other : List ℕ) (t : SourceType) (goal : Goal) (token there : TokenParts) (place q : ℕ)
    (o : Outcome) (more : List Comment) → IsUtf8 text → IsCharBoundary text place → is_onward goal ≡ true → goal ≢ First
    → GoalReads text t goal (Some token) place o → o.findings.diagnostics ≡ [] → IsOnPlaces text o.token
    → from_place other q ≡ chars (stripped_from text place (o.findings.comments ++ more))
    → StandBetween text (piece t) o.token.end more (length text)
    → StandBetween text (piece t) o.token.start more (length text)
    → (goal ≡ JsxChild → StandsAlike text other t o.token.kind place o.token.end q (left_behind text o.token more))
    → GapsFor text other t (Some token) (Some there) place q o (left_behind text o.token more)
onward_gaps text other t First token there place q o more u b on no_first read clean lies begun stand from_start child =
    absurd (no_first refl)
onward_gaps text other t Next token there place q o more u b on no_first read clean lies begun stand from_start child =
    gaps_stripped text other t (Some token) (Some there) place q (length text) o more u b refl lies.ordered lies.end
    (parts_plainly text t Next (Some token) place o refl read clean) begun stand from_start
onward_gaps text other t TemplateTail token there place q o more u b on no_first read clean lies begun stand from_start
    child = absurd (cc)
onward_gaps text other t RegularExpression token there place q o more u b on no_first read clean lies begun stand
    from_start child = absurd (cc)
onward_gaps text other t RightAngle token there place q o more u b on no_first read clean lies begun stand from_start
    child = absurd (cc)
onward_gaps text other t TypeScriptLeftAngle token there place q o more u b on no_first read clean lies begun stand
    from_start child = absurd (cc)
onward_gaps text other t TypeScriptRightAngle token there place q o more u b on no_first read clean lies begun stand
    from_start child = absurd (cc)
onward_gaps text other t JsxIdentifier token there place q o more u b on no_first read clean lies begun stand from_start
    child = absurd (cc)
onward_gaps text other t JsxChild token there place q o more u b on no_first read clean lies begun stand from_start
    child =
    gaps_at text other (left_behind text o.token more) t (Some token) (Some there) place q o refl
    (child_starts text (line_has_ended_behind (Some token)) place o read) (child refl)
onward_gaps text other t JsxAttributeValue token there place q o more u b on no_first read clean lies begun stand
    from_start child =
    gaps_stripped text other t (Some token) (Some there) place q (length text) o more u b refl lies.ordered lies.end
    (parts_of_attribute text t (Some token) place o read clean) begun stand from_start

-- A row that reads one token more, in each session.
reads_alike : (text other : List ℕ) (t : SourceType) (goal : Goal) (s q : State) (token there : TokenParts) (a b : Row)
    (comments : List Comment) → IsUtf8 text → IsUtf8 other → Rewrites t (Reads goal) → a.command ≡ b.command
    → Beside text other t s q token there (left_behind text token (a.comments ++ comments)) → IsQuiet a
    → a.place ≡ place_behind_last s.now → b.place ≡ place_behind_last q.now
    → IsOnPlaces text a.token → IsOnPlaces other b.token
    → StandBetween text (piece t) a.token.end comments (length text)
    → IsOfEffect text t s.now (Reads goal) a → IsOfEffect other t q.now (Reads goal) b
    → StepAlike text other t (Reads goal) s q a b (left_behind text a.token comments)
reads_alike text other t goal s q token there a b comments u v on command h quiet at other_at lies other_lies stand is
    other_is =
    let zs = left_behind text a.token comments in
    let o = outcome_of a in
    let place : a.place ≡ token.end = at ∙ ap (λ l. (token_or_default l).end) h.last.last_is in
    let read : GoalReads text t goal (Some token) token.end o =
    subst (λ p. GoalReads text t goal (Some token) p o) place
    (subst (λ l. GoalReads text t goal l a.place o) h.last.last_is is.reads) in
    let from_start : StandBetween text (piece t) a.token.start comments (length text) =
    between_from text (piece t) a.token.start a.token.end (length text) comments lies.ordered stand in
    let gaps =
    onward_gaps text other t goal token there token.end there.end o comments u h.last.lies.end on.0 on.1 read quiet lies
    h.behind stand from_start (child read) in
    read_step text other t goal s q token there a b (left_behind text token (a.comments ++ comments)) zs u v
    on command h
    quiet at other_at lies other_lies is other_is gaps (child read) (chars (slice_range text a.token.start a.token.end))
    (chars_between text a.token.start a.token.end u lies.ordered lies.start lies.end)
    (follows_without t _ _ (from_place text a.token.end) zs
    (without_from text t a.token.end (length text) comments u lies.end stand))
  where
    child : GoalReads text t goal (Some token) token.end (outcome_of a) → goal ≡ JsxChild
        → StandsAlike text other t a.token.kind token.end a.token.end there.end (left_behind text a.token comments)
    child read is_child =
        let found : GoalReads text t JsxChild (Some token) token.end (outcome_of a) =
        subst (λ g. GoalReads text t g (Some token) token.end (outcome_of a)) is_child read in
        let none : a.comments ≡ [] =
        ap (λ (x : Outcome). x.findings.comments) found.outcome_is
        ∙ ap (λ (x : Outcome). x.findings.comments) found.reads.outcome_is in
        let start : a.token.start ≡ token.end =
        child_starts text (line_has_ended_behind (Some token)) token.end (outcome_of a) found in
        stands_alike text other t a.token.kind token.end a.token.end there.end (length text) comments u
        (let ordered = lies.ordered in omega (arith, start, ordered)) h.last.lies.end lies.end stand
        (h.behind ∙ ap (λ cs. chars (stripped_from text token.end (cs ++ comments))) none)

-- A row that reads the last token again, in each session.
again_alike : (text other : List ℕ) (t : SourceType) (goal : Goal) (s q : State) (token there : TokenParts) (a b : Row)
    (comments : List Comment) → IsUtf8 text → IsUtf8 other → Rewrites t (ReLexes goal) → a.command ≡ b.command
    → Beside text other t s q token there (left_behind text token (a.comments ++ comments)) → IsQuiet a
    → IsOnPlaces text a.token → IsLast text (after_row (ReLexes goal) a s) a.token
    → IsLast other (after_row (ReLexes goal) b q) b.token
    → StandBetween text (piece t) token.end (a.comments ++ comments) (length text)
    → StandBetween text (piece t) a.token.end comments (length text)
    → IsOfEffect text t s.now (ReLexes goal) a → IsOfEffect other t q.now (ReLexes goal) b
    → StepAlike text other t (ReLexes goal) s q a b (left_behind text a.token comments)
again_alike text other t goal s q token there a b comments u v on command h quiet lies last other_last from_token stand
    is other_is =
    re_lex_step text other t goal s q token there a b (left_behind text token (a.comments ++ comments))
    (left_behind text a.token comments) u v on command h quiet last other_last stands same_left is other_is
  where
    stands : a.taken ≡ true
        → StandsAlike text other t a.token.kind token.start a.token.end there.start (left_behind text a.token comments)
    stands taken =
        let starts = taken_starts text t goal s token a on.0 h.last.last_is is taken in
        let l = h.last.lies in
        let token_text = chars (slice_range text token.start token.end) in
        let same : h.characters ≡ token_text =
        append_cancel_right h.characters token_text (from_place text token.end)
        (sym h.here ∙ chars_between text token.start token.end u l.ordered l.start l.end) in
        let begun : from_place other there.start ≡ chars (stripped_from text token.start comments) =
        h.there_is ∙ ap (λ z. z ++ from_place other there.end) same
        ∙ ap (λ z. token_text ++ z)
        (h.behind ∙ ap (λ cs. chars (stripped_from text token.end (cs ++ comments))) starts.no_comment)
        ∙ sym
        (stripped_chars text t token.start token.end (length text) comments u l.ordered l.start l.end
        (subst (λ cs. StandBetween text (piece t) token.end (cs ++ comments) (length text)) starts.no_comment from_token))
        in
        stands_alike text other t a.token.kind token.start a.token.end there.start (length text) comments u
        (let start = starts.start_is in let ordered = lies.ordered in omega (arith, start, ordered)) l.start lies.end
        stand begun

    same_left : a.taken ≡ false
        → left_behind text token (a.comments ++ comments) ≡ left_behind text a.token comments
    same_left taken =
        let held = not_taken_is text t goal s a is taken in
        let same : a.token ≡ token = held.token ∙ ap token_or_default h.last.last_is in
        let none : a.comments ≡ [] = ap (λ f. f.comments) held.findings in
        ap (λ cs. chars (stripped_from text token.end (cs ++ comments))) none
        ∙ sym (ap (λ (x : TokenParts). chars (stripped_from text x.end comments)) same)

effect_alike : (text other : List ℕ) (t : SourceType) (effect : Effect) (s q : State) (token there : TokenParts)
    (a b : Row) (comments : List Comment) → IsUtf8 text → IsUtf8 other → Rewrites t effect → a.command ≡ b.command
    → Beside text other t s q token there (left_behind text token (a.comments ++ comments)) → IsQuiet a
    → a.place ≡ place_behind_last s.now → b.place ≡ place_behind_last q.now
    → IsOnPlaces text a.token → IsOnPlaces other b.token
    → StandBetween text (piece t) token.end (a.comments ++ comments) (length text)
    → StandBetween text (piece t) a.token.end comments (length text)
    → IsOfEffect text t s.now effect a → IsOfEffect other t q.now effect b
    → StepAlike text other t effect s q a b (left_behind text a.token comments)
effect_alike text other t (Reads goal) s q token there a b comments u v on command h quiet at other_at lies other_lies
    from_token stand is other_is =
    reads_alike text other t goal s q token there a b comments u v on command h quiet at other_at lies other_lies stand is
    other_is
effect_alike text other t (Peeks goal) s q token there a b comments u v on command h quiet at other_at lies other_lies
    from_token stand is other_is = absurd on
effect_alike text other t (ReLexes goal) s q token there a b comments u v on command h quiet at other_at lies
    other_lies from_token stand is other_is =
    again_alike text other t goal s q token there a b comments u v on command h quiet lies
    (last_behind text t (ReLexes goal) a s token on h.last lies is)
    (last_behind other t (ReLexes goal) b q there on h.other_last other_lies other_is) from_token stand is other_is
effect_alike text other t Opens s q token there a b comments u v on command h quiet at other_at lies other_lies
    from_token stand is other_is = absurd on
effect_alike text other t Rewinds s q token there a b comments u v on command h quiet at other_at lies other_lies
    from_token stand is other_is = absurd on
effect_alike text other t Commits s q token there a b comments u v on command h quiet at other_at lies other_lies
    from_token stand is other_is = absurd on

-- The rows of the two runs are the same, and in those of the other nothing is reported, and no comment is found.
pub runs_alike : (text other : List ℕ) (t : SourceType) (s q : State) (commands : List Command) (xs ys : List Row)
    (token there : TokenParts) → IsUtf8 text → IsUtf8 other → list_all (may_rewrite t) commands ≡ true
    → AllByRecursion IsQuiet xs → Beside text other t s q token there (left_behind text token (comments_of xs))
    → Run text t s commands xs → Run other t q commands ys
    → AllZip (SameRow text other) xs ys × AllByRecursion IsBare ys
runs_alike text other t s q [] xs ys token there u v may quiet h run other_run = rw (run, other_run) (tt, tt)
runs_alike text other t s q (c ∷ cs) [] ys token there u v may quiet h run other_run =
    absurd
    (let step = lasting_steps c (lasting_of t c (and_parts (may_rewrite t c) (list_all (may_rewrite t) cs) may).0) in
    rw step at run)
runs_alike text other t s q (c ∷ cs) (a ∷ xs) [] token there u v may quiet h run other_run =
    absurd
    (let step = lasting_steps c (lasting_of t c (and_parts (may_rewrite t c) (list_all (may_rewrite t) cs) may).0) in
    rw step at other_run)
runs_alike text other t s q (c ∷ cs) (a ∷ xs) (b ∷ ys) token there u v may quiet h run other_run =
    let both = and_parts (may_rewrite t c) (list_all (may_rewrite t) cs) may in
    let step = lasting_steps c (lasting_of t c both.0) in
    let here = rw step at run in
    let other_here = rw step at other_run in
    let on = rewrites t c both.0 in
    let row = here.0 in
    let other_row = other_here.0 in
    let last = last_behind text t (effect_of c) a s token on h.last row.places.token row.gives in
    let stand =
    rows_future text t (after_row (effect_of c) a s) cs xs a.token u both.1 quiet.1 last here.1 in
    let from_token = rows_future text t s (c ∷ cs) (a ∷ xs) token u may quiet h.last run in
    let alike =
    effect_alike text other t (effect_of c) s q token there a b (comments_of xs) u v on
    (row.command_is ∙ sym other_row.command_is) h quiet.0 row.place other_row.place row.places.token
    other_row.places.token from_token stand row.gives other_row.gives in
    let more =
    runs_alike text other t (after_row (effect_of c) a s) (after_row (effect_of c) b q) cs xs ys a.token b.token u v
    both.1 quiet.1 alike.next here.1 other_here.1 in
    ((alike.same, more.0), ((alike.no_diagnostic, alike.no_comment), more.1))
