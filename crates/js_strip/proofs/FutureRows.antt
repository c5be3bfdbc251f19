-- The comments of rows in which nothing is reported stand behind the token before them.
use Rattle.std.proofs.Common.{◌≡◌, ◌≢◌, ℕ, ◌<◌, ◌≤◌, Bool, true, false, List, [], ◌∷◌, ◌++◌, length}
use Rattle.std.proofs.Common.{refl, sym, ◌∙◌, ap, subst, Some, inl, inr, ◌⊎◌}
use Rattle.std.specs.Prelude.{MatchBool}
use Rattle.std.specs.List.{AllByRecursion, list_all}
use Rattle.std.specs.Str.{IsCharBoundary, IsUtf8}
use Rattle.std.proofs.lemmas.Bool.{and_parts}
use Rattle.js_text.specs.SourceType.{is_module}
use Rattle.js_text.specs.declared.comment.Comment.{Comment}
use Rattle.js_text.specs.declared.source_type.SourceType.{SourceType}
use Rattle.js_kind.specs.Kinds.{is_one_of}
use Rattle.js_kind.specs.TokenParts.{TokenParts}
use Rattle.js_grammar.specs.Gap.{piece}
use Rattle.js_grammar.specs.Goals.{GoalReads}
use Rattle.js_grammar.specs.ReLexed.{HasSpelling, again_kinds, fits}
use Rattle.js_grammar.specs.Reads.{is_onward}
use Rattle.js_grammar.specs.declared.goal.Goal.{Goal}
use Rattle.js_grammar.specs.declared.goal.Goal.TheVariants.{First, Next, TemplateTail, RegularExpression, RightAngle}
use Rattle.js_grammar.specs.declared.goal.Goal.TheVariants.{TypeScriptLeftAngle, TypeScriptRightAngle, JsxIdentifier}
use Rattle.js_grammar.specs.declared.goal.Goal.TheVariants.{JsxChild, JsxAttributeValue}
use Rattle.js_grammar.proofs.AgainKinds.{again_is_re_lexed}
use Rattle.js_grammar.proofs.GoalWays.{goal_reads_span}
use Rattle.js_lexer.specs.Lexer.{IsOnPlaces, token_or_default}
use Rattle.js_session.specs.declared.command.Command.{Command}
use Rattle.js_session.specs.declared.row.Row.{Row}
use Rattle.js_session.specs.Effects.{effect_of}
use Rattle.js_session.specs.declared.command.Effect.{Effect}
use Rattle.js_session.specs.declared.command.Effect.TheVariants.{Reads, Peeks, ReLexes, Opens, Rewinds, Commits}
use Rattle.js_session.specs.Live.{State, after_row, last_live, outcome_of, place_behind_last}
use Rattle.js_session.specs.Report.{IsNotTaken, IsOfEffect, IsReLexed, Run}
use Rattle.js_session.proofs.LastingRuns.{lasting_steps}
use Rattle.js_rewrite.specs.Faults.{may_rewrite}
use Rattle.js_rewrite.proofs.GoalsAlike.{again_some, name_grows}
use Rattle.js_rewrite.proofs.LastTokens.{IsLast, IsQuiet, Rewrites, again_starts, last_behind, lasting_of, rewrites}
use Rattle.js_strip.proofs.FutureComments.{all_later, clean_onward, comments_of, later_from, no_mark, no_slash}
use Rattle.js_strip.proofs.Standing.{StandBetween, between_append, between_from}

-- Where comments stand behind what a goal read of a token again, they stand behind the token.
behind_again : (text : List ℕ) (t : SourceType) (goal : Goal) (token : TokenParts) (place : ℕ) (row : Row) (e : ℕ)
    (comments : List Comment) → IsUtf8 text → is_onward goal ≡ false
    → (goal ≡ TypeScriptLeftAngle → is_module t ≡ true) → IsOnPlaces text token → HasSpelling text token
    → fits text goal token ≡ true → GoalReads text t goal (Some token) place (outcome_of row) → IsQuiet row
    → token.end ≤ e → StandBetween text (piece t) row.token.end comments e
    → StandBetween text (piece t) token.end comments e
behind_again text t goal token place row e comments u off in_module lies spelled fit read quiet inside stand =
    by_goal goal off in_module fit read
  where
    some : (goal : Goal) → is_onward goal ≡ false → goal ≢ JsxIdentifier
        → GoalReads text t goal (Some token) place (outcome_of row) → token.start < row.token.end
    some goal off no_name read =
        let span = goal_reads_span text t goal (Some token) place (outcome_of row) u read in
        let there = again_starts text t goal token place (outcome_of row) off read in
        subst (λ n. n < row.token.end) there.start_is
        (span.some_text (again_some text t goal token place (outcome_of row) off no_name read quiet))

    spelled_ones : (goal : Goal) → is_onward goal ≡ false → goal ≢ JsxIdentifier
        → is_one_of (again_kinds goal) token.kind ≡ true → list_all (all_later no_slash) (again_kinds goal) ≡ true
        → (is_module t ≡ true) ⊎ (list_all (all_later no_mark) (again_kinds goal) ≡ true)
        → GoalReads text t goal (Some token) place (outcome_of row) → StandBetween text (piece t) token.end comments e
    spelled_ones goal off no_name is slashes marks read =
        later_from text t token (again_kinds goal) row.token.end e comments u lies spelled
        (again_is_re_lexed goal token.kind is) is slashes marks (some goal off no_name read) inside stand

    by_goal : (goal : Goal) → is_onward goal ≡ false → (goal ≡ TypeScriptLeftAngle → is_module t ≡ true)
        → fits text goal token ≡ true → GoalReads text t goal (Some token) place (outcome_of row)
        → StandBetween text (piece t) token.end comments e
    by_goal First off in_module fit read = absurd (cc)
    by_goal Next off in_module fit read = absurd (cc)
    by_goal TemplateTail off in_module fit read =
        spelled_ones TemplateTail off (λ no. absurd (cc)) fit refl (inr refl) read
    by_goal RegularExpression off in_module fit read =
        spelled_ones RegularExpression off (λ no. absurd (cc)) fit refl (inr refl) read
    by_goal RightAngle off in_module fit read =
        spelled_ones RightAngle off (λ no. absurd (cc)) fit refl (inr refl) read
    by_goal TypeScriptLeftAngle off in_module fit read =
        spelled_ones TypeScriptLeftAngle off (λ no. absurd (cc)) fit refl (inl (in_module refl)) read
    by_goal TypeScriptRightAngle off in_module fit read =
        spelled_ones TypeScriptRightAngle off (λ no. absurd (cc)) fit refl (inr refl) read
    by_goal JsxIdentifier off in_module fit read =
        between_from text (piece t) token.end row.token.end e comments
        (name_grows text token (outcome_of row) u read) stand
    by_goal JsxChild off in_module fit read = absurd (cc)
    by_goal JsxAttributeValue off in_module fit read = absurd (cc)

-- The comments of a row and those that stand behind its token stand behind the token before it.
row_stands : (text : List ℕ) (t : SourceType) (effect : Effect) (row : Row) (s : State) (token : TokenParts)
    (comments : List Comment) → IsUtf8 text → Rewrites t effect → IsLast text s token → IsOnPlaces text row.token
    → row.place ≡ place_behind_last s.now → IsOfEffect text t s.now effect row → IsQuiet row
    → StandBetween text (piece t) row.token.end comments (length text)
    → StandBetween text (piece t) token.end (row.comments ++ comments) (length text)
row_stands text t (Reads goal) row s token comments u on l lies at is quiet stand =
    let place : row.place ≡ token.end = at ∙ ap (λ l. (token_or_default l).end) l.last_is in
    let here : StandBetween text (piece t) token.end row.comments row.token.start =
    subst (λ p. StandBetween text (piece t) p row.comments row.token.start) place
    (clean_onward text t goal (last_live s.now) row.place (outcome_of row) u
    (subst (IsCharBoundary text) (sym place) l.lies.end) on.0 quiet is.reads) in
    between_append text (piece t) token.end row.token.start (length text) row.comments comments here
    (between_from text (piece t) row.token.start row.token.end (length text) comments lies.ordered stand)
row_stands text t (Peeks goal) row s token comments u on l lies at is quiet stand = absurd on
row_stands text t Opens row s token comments u on l lies at is quiet stand = absurd on
row_stands text t Rewinds row s token comments u on l lies at is quiet stand = absurd on
row_stands text t Commits row s token comments u on l lies at is quiet stand = absurd on
row_stands text t (ReLexes goal) row s token comments u on l lies at is quiet stand =
    by_flag (fits text goal (token_or_default (last_live s.now))) refl is
  where
    by_flag : (b : Bool) → fits text goal (token_or_default (last_live s.now)) ≡ b
        → MatchBool b (IsReLexed text t s.now goal row) (IsNotTaken s.now row)
        → StandBetween text (piece t) token.end (row.comments ++ comments) (length text)
    by_flag true e is =
        let read : GoalReads text t goal (Some token) token.start (outcome_of row) =
        subst (λ l. GoalReads text t goal l (token_or_default l).start (outcome_of row)) l.last_is is.reads in
        let fit : fits text goal token ≡ true =
        ap (λ x. fits text goal (token_or_default x)) (sym l.last_is) ∙ e in
        let none = (again_starts text t goal token token.start (outcome_of row) on.0 read).no_comment in
        subst (λ cs. StandBetween text (piece t) token.end (cs ++ comments) (length text)) (sym none)
        (behind_again text t goal token token.start row (length text) comments u on.0 on.1 l.lies l.spelled fit read
        quiet l.lies.end.0 stand)
    by_flag false e is =
        let same : row.token ≡ token = is.token ∙ ap token_or_default l.last_is in
        let none : row.comments ≡ [] = ap (λ f. f.comments) is.findings in
        subst (λ cs. StandBetween text (piece t) token.end (cs ++ comments) (length text)) (sym none)
        (subst (λ (x : TokenParts). StandBetween text (piece t) x.end comments (length text)) same stand)

-- The comments of rows stand behind the last token before them.
pub rows_future : (text : List ℕ) (t : SourceType) (s : State) (commands : List Command) (rows : List Row)
    (token : TokenParts) → IsUtf8 text → list_all (may_rewrite t) commands ≡ true → AllByRecursion IsQuiet rows
    → IsLast text s token → Run text t s commands rows
    → StandBetween text (piece t) token.end (comments_of rows) (length text)
rows_future text t s [] rows token u may quiet l run =
    subst (λ rs. StandBetween text (piece t) token.end (comments_of rs) (length text)) (sym run) l.lies.end.0
rows_future text t s (c ∷ cs) [] token u may quiet l run =
    absurd
    (let step = lasting_steps c (lasting_of t c (and_parts (may_rewrite t c) (list_all (may_rewrite t) cs) may).0) in
    rw step at run)
rows_future text t s (c ∷ cs) (row ∷ rows) token u may quiet l run =
    let both = and_parts (may_rewrite t c) (list_all (may_rewrite t) cs) may in
    let step = lasting_steps c (lasting_of t c both.0) in
    let here = rw step at run in
    let on = rewrites t c both.0 in
    let next = last_behind text t (effect_of c) row s token on l here.0.places.token here.0.gives in
    row_stands text t (effect_of c) row s token (comments_of rows) u on l here.0.places.token here.0.place
    here.0.gives quiet.0
    (rows_future text t (after_row (effect_of c) row s) cs rows row.token u both.1 quiet.1 next here.1)
