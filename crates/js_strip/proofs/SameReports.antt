-- The reports of a source and of the source without its comments have the same rows.
use Rattle.std.proofs.Common.{◌≡◌, ℕ, Bool, true, false, List, [], ◌∷◌, ◌++◌, length, refl, sym, ◌∙◌, ap, subst, None}
use Rattle.std.proofs.Common.{append-nil, append_assoc, arith}
use Rattle.std.specs.Prelude.{MatchBool, codes}
use Rattle.std.specs.List.{AllByRecursion, AllZip, list_all}
use Rattle.std.specs.Str.{IsUtf8, chars}
use Rattle.std.proofs.lemmas.Bool.{and_parts}
use Rattle.std.proofs.lemmas.Str.{IsCharBoundary-start}
use Rattle.js_text.specs.Characters.{from_place}
use Rattle.js_text.specs.declared.source_type.SourceType.{SourceType}
use Rattle.js_text.specs.declared.comment.Comment.{Comment}
use Rattle.js_grammar.specs.Gap.{is_prefix, piece}
use Rattle.js_grammar.specs.Goals.{GoalReads}
use Rattle.js_grammar.specs.Goals.ReadsPlainly.{hashbang, behind_gap}
use Rattle.js_grammar.specs.Hashbang.{begins_hashbang}
use Rattle.js_grammar.specs.Outcome.{Outcome}
use Rattle.js_grammar.specs.ReLexed.{fits}
use Rattle.js_grammar.specs.declared.goal.Goal.TheVariants.{First}
use Rattle.js_grammar.proofs.KindTexts.{goal_reads_spelling}
use Rattle.js_grammar.proofs.Unique.{goal_reads_unique}
use Rattle.js_lexer.specs.Lexer.{IsOnPlaces, token_or_default}
use Rattle.js_session.specs.SameRows.{SameRow, SameRows}
use Rattle.js_session.specs.declared.command.Command.{Command}
use Rattle.js_session.specs.declared.report.Report.{Report}
use Rattle.js_session.specs.declared.row.Row.{Row}
use Rattle.js_session.specs.Effects.{effect_of}
use Rattle.js_session.specs.declared.command.Effect.{Effect}
use Rattle.js_session.specs.declared.command.Effect.TheVariants.{Reads, Peeks, ReLexes, Opens, Rewinds, Commits}
use Rattle.js_session.specs.Live.{Live, State, after_row, last_live, live, outcome_of, state_after}
use Rattle.js_session.specs.Live.{state_after_first}
use Rattle.js_session.specs.Report.{AreRows, IsNotTaken, IsOfEffect, IsReLexed, ReportOf, Run}
use Rattle.js_session.proofs.LastingRuns.{lasting_steps}
use Rattle.js_session.proofs.RunLemmas.{state_step}
use Rattle.js_rewrite.specs.Faults.{may_rewrite}
use Rattle.js_strip.specs.StripText.{StandInOrder, strip_text}
use Rattle.js_rewrite.proofs.BareRows.{IsStill, rows_still}
use Rattle.js_rewrite.proofs.GapsBefore.{first_parts, gaps_at}
use Rattle.js_rewrite.proofs.GoalsAlike.{GapsFor, GoalAlike, first_alike}
use Rattle.js_rewrite.proofs.LastTokens.{IsLast, IsQuiet, Rewrites, lasting_of, rewrites}
use Rattle.js_rewrite.proofs.ReadAlike.{ReadAlike, StandsAlike}
use Rattle.js_rewrite.proofs.RowsAlike.{Beside, rows_alike}
use Rattle.js_strip.proofs.Followed.{follows_without, gaps_stripped, stands_alike}
use Rattle.js_strip.proofs.FutureComments.{clean_onward, comments_of}
use Rattle.js_strip.proofs.FutureRows.{rows_future}
use Rattle.js_strip.proofs.Standing.{StandBetween, between_append, between_from}
use Rattle.js_strip.proofs.StrippedChars.{without_from}
use Rattle.js_strip.proofs.StrippedRows.{left_behind, runs_alike}
use Rattle.js_strip.proofs.StrippedText.{stripped_from, stripped_whole}
use Rattle.js_grammar.proofs.AgainReadings.{false_when}
use Rattle.js_grammar.proofs.Without.{Without, prefix_from, true_is_not_false}

-- the comments of a row are those that are live more
row_live : (text : List ℕ) (t : SourceType) (effect : Effect) (row : Row) (s : State) → Rewrites t effect
    → IsOfEffect text t s.now effect row
    → (after_row effect row s).now.findings.comments ≡ s.now.findings.comments ++ row.comments
row_live text t (Reads goal) row s on is = refl
row_live text t (Peeks goal) row s on is = absurd on
row_live text t Opens row s on is = absurd on
row_live text t Rewinds row s on is = absurd on
row_live text t Commits row s on is = absurd on
row_live text t (ReLexes goal) row s on is = by_flag (fits text goal (token_or_default (last_live s.now))) is
  where
    by_flag : (b : Bool) → MatchBool b (IsReLexed text t s.now goal row) (IsNotTaken s.now row)
        → (after_row (ReLexes goal) row s).now.findings.comments ≡ s.now.findings.comments ++ row.comments
    by_flag true is = rw is.taken refl
    by_flag false is =
        let none : row.comments ≡ [] = ap (λ f. f.comments) is.findings in
        rw is.taken
        (sym (ap (λ cs. s.now.findings.comments ++ cs) none ∙ append-nil s.now.findings.comments))

rows_live : (text : List ℕ) (t : SourceType) (s : State) (commands : List Command) (rows : List Row)
    → list_all (may_rewrite t) commands ≡ true → Run text t s commands rows
    → (state_after s commands rows).now.findings.comments ≡ s.now.findings.comments ++ comments_of rows
rows_live text t s [] rows may run =
    subst (λ rs. s.now.findings.comments ≡ s.now.findings.comments ++ comments_of rs) (sym run)
    (sym (append-nil s.now.findings.comments))
rows_live text t s (c ∷ cs) [] may run =
    absurd
    (let step = lasting_steps c (lasting_of t c (and_parts (may_rewrite t c) (list_all (may_rewrite t) cs) may).0) in
    rw step at run)
rows_live text t s (c ∷ cs) (row ∷ rows) may run =
    let both = and_parts (may_rewrite t c) (list_all (may_rewrite t) cs) may in
    let step = lasting_steps c (lasting_of t c both.0) in
    let here = rw step at run in
    ap (λ (x : State). x.now.findings.comments) (state_step s c cs row rows step)
    ∙ rows_live text t (after_row (effect_of c) row s) cs rows both.1 here.1
    ∙ ap (λ cs. cs ++ comments_of rows)
    (row_live text t (effect_of c) row s (rewrites t c both.0) here.0.gives)
    ∙ append_assoc s.now.findings.comments row.comments (comments_of rows)

-- A hashbang begins the other text only where one begins the text.
no_hashbang : (t : SourceType) (text other : List ℕ) → Without t (from_place text 0) (from_place other 0)
    → begins_hashbang First text 0 ≡ false → begins_hashbang First other 0 ≡ false
no_hashbang t text other w none =
    false_when (is_prefix (codes "#!") (from_place text 0)) (is_prefix (codes "#!") (from_place other 0))
    (λ e. (prefix_from t (codes "#!") (from_place text 0) (from_place other 0) refl w e).here) none

-- a hashbang has no comment before it, and starts at the start
hashbang_comments : (text : List ℕ) (t : SourceType) (o : Outcome) → GoalReads text t First None 0 o
    → begins_hashbang First text 0 ≡ true → o.findings.comments ≡ []
hashbang_comments text t o (hashbang begins_it found) begun = ap (λ (x : Outcome). x.findings.comments) found.alone
hashbang_comments text t o (behind_gap none found) begun = true_is_not_false (begins_hashbang First text 0) begun none

hashbang_starts : (text : List ℕ) (t : SourceType) (o : Outcome) → GoalReads text t First None 0 o
    → begins_hashbang First text 0 ≡ true → o.token.start ≡ 0
hashbang_starts text t o (hashbang begins_it found) begun = found.is_hashbang.start
hashbang_starts text t o (behind_gap none found) begun = true_is_not_false (begins_hashbang First text 0) begun none

-- the gap before the first token
first_gaps : (text other : List ℕ) (t : SourceType) (o : Outcome) (more : List Comment) → IsUtf8 text
    → GoalReads text t First None 0 o → o.findings.diagnostics ≡ [] → IsOnPlaces text o.token
    → from_place other 0 ≡ chars (stripped_from text 0 (o.findings.comments ++ more))
    → StandBetween text (piece t) o.token.end more (length text)
    → (begins_hashbang First text 0 ≡ true
    → StandsAlike text other t o.token.kind 0 o.token.end 0 (left_behind text o.token more))
    → (b : Bool) → begins_hashbang First text 0 ≡ b
    → GapsFor text other t None None 0 0 o (left_behind text o.token more)
first_gaps text other t o more u read clean lies begun stand hashbang_stands true is =
    gaps_at text other (left_behind text o.token more) t None None 0 0 o refl (hashbang_starts text t o read is)
    (hashbang_stands is)
first_gaps text other t o more u read clean lies begun stand hashbang_stands false is =
    gaps_stripped text other t None None 0 0 (length text) o more u (IsCharBoundary-start text u) refl lies.ordered lies.end
    (first_parts text t o is read clean) begun stand
    (between_from text (piece t) o.token.start o.token.end (length text) more lies.ordered stand)

-- The rows of both texts are the same.
rows_same : (text other : List ℕ) (t : SourceType) (commands : List Command) (xs ys : List Row) → IsUtf8 text
    → IsUtf8 other → list_all (may_rewrite t) commands ≡ true → AllByRecursion IsQuiet xs
    → other ≡ stripped_from text 0 (live commands xs).findings.comments → AreRows text t commands xs
    → AreRows other t commands ys
    → AllZip (SameRow text other) xs ys × IsStill (record { now = live commands ys; marks = [] })
rows_same text other t commands [] ys u v may quiet stripped are other_are = absurd are
rows_same text other t commands (a ∷ xs) [] u v may quiet stripped are other_are = absurd other_are
rows_same text other t commands (a ∷ xs) (b ∷ ys) u v may quiet stripped are other_are =
    let row = are.0 in
    let other_row = other_are.0 in
    let start = IsCharBoundary-start text u in
    let start_other = IsCharBoundary-start other v in
    let read : GoalReads text t First None 0 (outcome_of a) =
    subst (λ p. GoalReads text t First None p (outcome_of a)) row.place row.gives.reads in
    let other_read : GoalReads other t First None 0 (outcome_of b) =
    subst (λ p. GoalReads other t First None p (outcome_of b)) other_row.place other_row.gives.reads in
    let last : IsLast text (state_after_first a) a.token =
    record {
      last_is = refl;
      lies = row.places.token;
      spelled = goal_reads_spelling text t First None 0 (outcome_of a) read;
    } in
    let other_last : IsLast other (state_after_first b) b.token =
    record {
      last_is = refl;
      lies = other_row.places.token;
      spelled = goal_reads_spelling other t First None 0 (outcome_of b) other_read;
    } in
    let more = comments_of xs in
    let stand : StandBetween text (piece t) a.token.end more (length text) =
    rows_future text t (state_after_first a) commands xs a.token u may quiet.1 last are.1 in
    let here = clean_onward text t First None 0 (outcome_of a) u start refl quiet.0 read in
    let whole : StandBetween text (piece t) 0 (a.comments ++ more) (length text) =
    between_append text (piece t) 0 a.token.start (length text) a.comments more here
    (between_from text (piece t) a.token.start a.token.end (length text) more row.places.token.ordered stand) in
    let begun : from_place other 0 ≡ chars (stripped_from text 0 (a.comments ++ more)) =
    ap chars (stripped
    ∙ ap (stripped_from text 0) (rows_live text t (state_after_first a) commands xs may are.1)) in
    let zs = left_behind text a.token more in
    let lies = row.places.token in
    let hashbang_stands = λ (is : begins_hashbang First text 0 ≡ true).
    stands_alike text other t a.token.kind 0 a.token.end 0 (length text) more u (omega arith) start lies.end stand
    (begun ∙ ap (λ cs. chars (stripped_from text 0 (cs ++ more))) (hashbang_comments text t (outcome_of a) read is)) in
    let g : GoalAlike text other zs t First None 0 (outcome_of a) =
    first_alike text other zs t (outcome_of a) u v read quiet.0
    (first_gaps text other t (outcome_of a) more u read quiet.0 lies begun stand hashbang_stands
    (begins_hashbang First text 0) refl)
    hashbang_stands
    (no_hashbang t text other
    (subst (Without t (from_place text 0)) (sym begun)
    (without_from text t 0 (length text) (a.comments ++ more) u start whole))) in
    let one : g.outcome ≡ outcome_of b =
    goal_reads_unique other t First None 0 g.outcome (outcome_of b) v g.reads other_read in
    let alike = subst (ReadAlike text other zs (outcome_of a)) one g.alike in
    let same =
    rows_alike text other t First First None None 0 0 zs a b u v (row.command_is ∙ sym other_row.command_is)
    (row.gives.taken ∙ sym other_row.gives.taken) read other_read alike in
    let beside : Beside text other t (state_after_first a) (state_after_first b) a.token b.token zs =
    record {
      last = last;
      other_last = other_last;
      kind = same.kind;
      is_on_new_line = same.is_on_new_line;
      escaped = same.escaped;
      has_separator = same.has_separator;
      characters = alike.reading.taken;
      here = alike.part;
      there_is = alike.other_part;
      behind = alike.behind;
      follows =
          follows_without t _ _ (from_place text a.token.end) zs
          (without_from text t a.token.end (length text) more u lies.end stand);
    } in
    let later =
    runs_alike text other t (state_after_first a) (state_after_first b) commands xs ys a.token b.token u v may quiet.1
    beside are.1 other_are.1 in
    let still =
    rows_still other t (state_after_first b) commands ys may other_are.1 later.1 (alike.no_diagnostic, alike.no_comment)
    in
    ((same, later.0), still)

-- The report of a source in which nothing is reported, and that of the source without its comments, have the same rows.
pub same_reports : (source other : List ℕ) (t : SourceType) (commands : List Command) (before after : Report)
    → list_all (may_rewrite t) commands ≡ true → AllByRecursion IsQuiet before.rows
    → StandInOrder source 0 before.comments
    → ReportOf source t false commands before → other ≡ strip_text source before.comments
    → ReportOf other t false commands after → SameRows source before other after
same_reports source other t commands before after may quiet stand is stripped other_is =
    let comments : before.comments ≡ (live commands before.rows).findings.comments =
    ap (λ (l : Live). l.findings.comments) is.lists in
    let same =
    rows_same source other t commands before.rows after.rows is.utf8 other_is.utf8 may quiet
    (stripped ∙ stripped_whole source before.comments stand ∙ ap (stripped_from source 0) comments) is.rows
    other_is.rows in
    record {
      rows = same.0;
      no_diagnostic = ap (λ (l : Live). l.findings.diagnostics) other_is.lists ∙ same.1.0;
      no_comment = ap (λ (l : Live). l.findings.comments) other_is.lists ∙ same.1.1;
    }
