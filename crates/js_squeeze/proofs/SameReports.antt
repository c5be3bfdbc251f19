-- The reports of a source and of the squeezed source have the same rows.
use Rattle.std.proofs.Common.{◌≡◌, ℕ, Bool, true, false, List, [], ◌∷◌, ◌++◌}
use Rattle.std.proofs.Common.{refl, sym, ◌∙◌, ap, subst, append_assoc, drop, Option, Some, None}
use Rattle.std.specs.Prelude.{codes, if◌then◌else◌, MatchBool}
use Rattle.std.specs.List.{AllByRecursion, AllZip, filter, last_or, list_all}
use Rattle.std.specs.Str.{IsUtf8, chars}
use Rattle.std.proofs.lemmas.Bool.{and_parts}
use Rattle.std.proofs.lemmas.List.{append_cancel_right}
use Rattle.unicode_ident.proofs.Computing.{unicode_ident}
use Rattle.js_text.specs.Characters.{from_place, is_identifier_start}
use Rattle.js_text.specs.Lists.{with_last}
use Rattle.js_text.specs.declared.source_type.SourceType.{SourceType}
use Rattle.js_kind.specs.TokenParts.{TokenParts}
use Rattle.js_grammar.specs.Gap.{is_prefix}
use Rattle.js_grammar.specs.Goals.{GoalReads, ReadsHere}
use Rattle.js_grammar.specs.Goals.ReadsPlainly.{hashbang, behind_gap}
use Rattle.js_grammar.specs.Hashbang.{begins_hashbang}
use Rattle.js_grammar.specs.Name.{no_private_name, private_reading}
use Rattle.js_grammar.specs.Outcome.{Outcome}
use Rattle.js_grammar.specs.Reading.{Reading}
use Rattle.js_grammar.specs.ReLexed.{fits}
use Rattle.js_grammar.specs.declared.goal.Goal.TheVariants.{First}
use Rattle.js_grammar.proofs.KindTexts.{goal_reads_spelling}
use Rattle.js_grammar.proofs.NameReadings.{private_reads_here}
use Rattle.js_grammar.proofs.StringLaws.{not_empty}
use Rattle.js_grammar.proofs.Tests.{prefix_is}
use Rattle.js_grammar.proofs.Unique.{goal_reads_unique, reading_unique}
use Rattle.js_grammar.proofs.Without.{true_is_not_false}
use Rattle.js_lexer.specs.Lexer.{IsOnPlaces, token_or_default}
use Rattle.js_session.specs.SameRows.{SameRow, SameRows}
use Rattle.js_session.specs.declared.command.Command.{Command}
use Rattle.js_session.specs.declared.report.Report.{Report}
use Rattle.js_session.specs.declared.row.Row.{Row}
use Rattle.js_session.specs.Effects.{effect_of, row_effect}
use Rattle.js_session.specs.declared.command.Effect.{Effect}
use Rattle.js_session.specs.declared.command.Effect.TheVariants.{Reads, Peeks, ReLexes, Opens, Rewinds, Commits}
use Rattle.js_session.specs.Live.{Live, State, after_row, last_live, live, outcome_of, state_after, state_after_first}
use Rattle.js_session.specs.Report.{AreRows, IsNotTaken, IsOfEffect, IsReLexed, ReportOf, Run}
use Rattle.js_session.proofs.LastingRuns.{lasting_steps}
use Rattle.js_session.proofs.RunLemmas.{state_step}
use Rattle.js_rewrite.specs.Faults.{may_rewrite}
use Rattle.js_rewrite.proofs.BareRows.{IsStill, rows_still}
use Rattle.js_rewrite.proofs.BlankGaps.{no_gap}
use Rattle.js_rewrite.proofs.Following.{FollowsToken}
use Rattle.js_rewrite.proofs.FollowingReadings.{clean_follows}
use Rattle.js_rewrite.proofs.GapsBefore.{started_ended}
use Rattle.js_rewrite.proofs.GoalsAlike.{GapsFor, GoalAlike, first_alike}
use Rattle.js_rewrite.proofs.LastTokens.{IsLast, IsQuiet, Rewrites, lasting_of, rewrites}
use Rattle.js_rewrite.proofs.ReadAlike.{ReadAlike, quiet_parts}
use Rattle.js_rewrite.proofs.RowsAlike.{Beside, rows_alike}
use Rattle.js_squeeze.specs.SqueezeText.{first_reads, reads_on, squeeze_text, squeezed}
use Rattle.js_squeeze.proofs.Ends.{onward_ends}
use Rattle.js_squeeze.proofs.Future.{EndsText}
use Rattle.js_squeeze.proofs.Futures.{Onward, onward}
use Rattle.js_squeeze.proofs.SqueezedRows.{runs_alike}
use Rattle.js_squeeze.proofs.Written.{TokensLie, characters, characters_here, finals, squeezed_written}

-- the last of some tokens is replaced
with_last_behind : (front : List TokenParts) (a b : TokenParts) → with_last (front ++ a ∷ []) b ≡ front ++ b ∷ []
with_last_behind [] a b = refl
with_last_behind (x ∷ []) a b = refl
with_last_behind (x ∷ y ∷ front) a b = ap (λ ts. x ∷ ts) (with_last_behind (y ∷ front) a b)

-- The live tokens behind rows are those before the last one, and the last ones from there on.
step_tokens : (text : List ℕ) (t : SourceType) (effect : Effect) (s : State) (row : Row) (rows : List Row)
    (front : List TokenParts) (token : TokenParts) → Rewrites t effect → first_reads row ≡ reads_on effect
    → IsOfEffect text t s.now effect row → last_live s.now ≡ Some token → s.now.tokens ≡ front ++ token ∷ []
    → (before : List TokenParts) × ((after_row effect row s).now.tokens ≡ before ++ row.token ∷ [])
    × (before ++ finals row.token rows ≡ front ++ finals token (row ∷ rows))
step_tokens text t (Reads goal) s row rows front token on first is last tokens = (
  front ++ token ∷ [],
  ap (λ ts. ts ++ row.token ∷ []) tokens,
  rw first (append_assoc front (token ∷ []) (finals row.token rows)),
)
step_tokens text t (Peeks goal) s row rows front token on first is last tokens = absurd on
step_tokens text t Opens s row rows front token on first is last tokens = absurd on
step_tokens text t Rewinds s row rows front token on first is last tokens = absurd on
step_tokens text t Commits s row rows front token on first is last tokens = absurd on
step_tokens text t (ReLexes goal) s row rows front token on first is last tokens =
    by_flag (fits text goal (token_or_default (last_live s.now))) is
  where
    by_flag : (b : Bool) → MatchBool b (IsReLexed text t s.now goal row) (IsNotTaken s.now row)
        → (before : List TokenParts) × ((after_row (ReLexes goal) row s).now.tokens ≡ before ++ row.token ∷ [])
        × (before ++ finals row.token rows ≡ front ++ finals token (row ∷ rows))
    by_flag true is = (
      front,
      rw is.taken (ap (λ ts. with_last ts row.token) tokens ∙ with_last_behind front token row.token),
      rw first refl,
    )
    by_flag false is =
        let same : row.token ≡ token = is.token ∙ ap token_or_default last in (
          front,
          rw is.taken (tokens ∙ ap (λ x. front ++ x ∷ []) (sym same)),
          rw first refl,
        )

pub live_tokens : (text : List ℕ) (t : SourceType) (s : State) (commands : List Command) (rows : List Row)
    (front : List TokenParts) (token : TokenParts) → list_all (may_rewrite t) commands ≡ true
    → Run text t s commands rows → s.now.tokens ≡ front ++ token ∷ []
    → (state_after s commands rows).now.tokens ≡ front ++ finals token rows
live_tokens text t s [] rows front token may run tokens =
    subst (λ rs. s.now.tokens ≡ front ++ finals token rs) (sym run) tokens
live_tokens text t s (c ∷ cs) [] front token may run tokens =
    absurd
    (let step = lasting_steps c (lasting_of t c (and_parts (may_rewrite t c) (list_all (may_rewrite t) cs) may).0) in
    rw step at run)
live_tokens text t s (c ∷ cs) (row ∷ rows) front token may run tokens =
    let both = and_parts (may_rewrite t c) (list_all (may_rewrite t) cs) may in
    let step = lasting_steps c (lasting_of t c both.0) in
    let here = rw step at run in
    let last : last_live s.now ≡ Some token = ap (last_or None) tokens ∙ last_or-behind None front token in
    let next =
    step_tokens text t (effect_of c) s row rows front token (rewrites t c both.0)
    (ap (λ o. reads_on (row_effect o)) here.0.command_is) here.0.gives last tokens in
    ap (λ (x : State). x.now.tokens) (state_step s c cs row rows step)
    ∙ live_tokens text t (after_row (effect_of c) row s) cs rows next.0 row.token both.1 here.1 next.1
    ∙ next.2
  where
    last_or-behind : (o : Option TokenParts) (ts : List TokenParts) (x : TokenParts) → last_or o (ts ++ x ∷ []) ≡ Some x
    last_or-behind o [] x = refl
    last_or-behind o (y ∷ ts) x = last_or-behind (Some y) ts x

-- the last tokens lie on places of the text
pub finals_lie : (text : List ℕ) (token : TokenParts) (rows : List Row) → IsOnPlaces text token → TokensLie text rows
    → AllByRecursion (IsOnPlaces text) (finals token rows)
finals_lie text token [] lies later = (lies, tt)
finals_lie text token (row ∷ rows) lies later =
    by_row (finals_lie text row.token rows later.0 later.1) (first_reads row)
  where
    by_row : AllByRecursion (IsOnPlaces text) (finals row.token rows) → (b : Bool)
        → AllByRecursion (IsOnPlaces text) (if b then token ∷ finals row.token rows else finals row.token rows)
    by_row behind true = (lies, behind)
    by_row behind false = behind

-- A hashbang begins no token that is read without a fault.
mark_starts_none : is_identifier_start 33 ≡ false
unfolding is_identifier_start unicode_ident
mark_starts_none = refl

no_mark : (t : SourceType) (has : Bool) (cs : List ℕ) (r : Reading)
    → ReadsHere t has (codes "#!" ++ cs) r → r.diagnostics ≡ [] → ⊥
no_mark t has cs r found clean =
    let text = codes "#!" ++ cs in
    let one : r ≡ private_reading text =
    reading_unique t has text r (private_reading text) found (private_reads_here t has (33 ∷ cs)) in
    let unnamed_is : private_reading text ≡ no_private_name text (33 ∷ cs) = rw mark_starts_none refl in
    not_empty [] _ (sym (ap (λ (x : Reading). x.diagnostics) (one ∙ unnamed_is)) ∙ clean)

no_hashbang : (text other : List ℕ) (t : SourceType) (o : Outcome) (zs : List ℕ) → IsUtf8 text
    → IsOnPlaces text o.token → GoalReads text t First None 0 o → o.findings.diagnostics ≡ []
    → FollowsToken t o.token.kind (characters text o.token) (from_place text o.token.end) zs
    → from_place other 0 ≡ characters text o.token ++ zs → begins_hashbang First text 0 ≡ false
    → begins_hashbang First other 0 ≡ false
no_hashbang text other t o zs u lies (hashbang begins_it found) clean follows begun none =
    true_is_not_false (begins_hashbang First text 0) begins_it none
no_hashbang text other t o zs u lies (behind_gap other_none found) clean follows begun none =
    by_flag (is_prefix (codes "#!") (from_place other 0)) refl
  where
    by_flag : (b : Bool) → is_prefix (codes "#!") (from_place other 0) ≡ b → b ≡ false
    by_flag false e = refl
    by_flag true e =
        let has = found.line_has_ended in
        let r = found.reading in
        let quiet =
        quiet_parts 0 o.token.start found.pieces r
        (sym (ap (λ (x : Outcome). x.findings.diagnostics) found.outcome_is) ∙ clean) in
        let kind : o.token.kind ≡ r.kind = ap (λ (x : Outcome). x.token.kind) found.outcome_is in
        let again =
        clean_follows t has (from_place text o.token.start) (characters text o.token) (from_place text o.token.end) zs r
        (characters_here text o.token u lies)
        (subst (λ k. FollowsToken t k (characters text o.token) (from_place text o.token.end) zs) kind follows) found.here
        quiet.1 found.rest in
        let mark : characters text o.token ++ zs ≡ codes "#!" ++ drop 2 (from_place other 0) =
        sym begun ∙ prefix_is (codes "#!") (from_place other 0) e in
        absurd
        (no_mark t has (drop 2 (from_place other 0)) (record r { rest = zs })
        (subst (λ h. ReadsHere t has h (record r { rest = zs })) mark again) quiet.1)

-- a hashbang starts at the start
hashbang_starts : (text : List ℕ) (t : SourceType) (o : Outcome) → GoalReads text t First None 0 o
    → begins_hashbang First text 0 ≡ true → o.token.start ≡ 0
hashbang_starts text t o (hashbang begins_it found) begun = found.is_hashbang.start
hashbang_starts text t o (behind_gap none found) begun = true_is_not_false (begins_hashbang First text 0) begun none

-- What is known of the rows of a report in which nothing is reported.
pub record Written (text : List ℕ) (t : SourceType) (commands : List Command) (rows : List Row) : Type 0 where
  pub first : Row
  pub later : List Row
  pub rows_are : rows ≡ first ∷ later
  pub tokens : (live commands rows).tokens ≡ finals first.token later
  pub behind : Onward text t first.token later
  pub lies : IsOnPlaces text first.token

pub first_ends : (text : List ℕ) (t : SourceType) (commands : List Command) (a : Row) (xs : List Row) → IsUtf8 text
    → IsQuiet a → AreRows text t commands (a ∷ xs) → EndsText text a.token
first_ends text t commands a xs u quiet are =
    onward_ends text t First None a.place (outcome_of a) u are.0.places.token refl are.0.gives.reads quiet

pub first_last : (text : List ℕ) (t : SourceType) (commands : List Command) (a : Row) (xs : List Row)
    → AreRows text t commands (a ∷ xs) → IsLast text (state_after_first a) a.token
first_last text t commands a xs are = record {
  last_is = refl;
  lies = are.0.places.token;
  spelled = goal_reads_spelling text t First None a.place (outcome_of a) are.0.gives.reads;
}

pub rows_written : (text : List ℕ) (t : SourceType) (commands : List Command) (rows : List Row) → IsUtf8 text
    → list_all (may_rewrite t) commands ≡ true → AllByRecursion IsQuiet rows → AreRows text t commands rows
    → Written text t commands rows
rows_written text t commands [] u may quiet are = absurd are
rows_written text t commands (a ∷ xs) u may quiet are = record {
  first = a;
  later = xs;
  rows_are = refl;
  tokens = live_tokens text t (state_after_first a) commands xs [] a.token may are.1 refl;
  behind =
      onward text t (state_after_first a) commands xs a.token u may quiet.1 (first_last text t commands a xs are)
      (first_ends text t commands a xs u quiet.0 are) are.1;
  lies = are.0.places.token;
}

-- The rows of both texts are the same.
rows_same : (text other : List ℕ) (t : SourceType) (commands : List Command) (xs ys : List Row) → IsUtf8 text
    → IsUtf8 other → list_all (may_rewrite t) commands ≡ true → AllByRecursion IsQuiet xs
    → chars other ≡ chars (squeezed text None (filter first_reads xs) (live commands xs).tokens)
    → AreRows text t commands xs → AreRows other t commands ys
    → AllZip (SameRow text other) xs ys × IsStill (record { now = live commands ys; marks = [] })
rows_same text other t commands [] ys u v may quiet squeezed_is are other_are = absurd are
rows_same text other t commands (a ∷ xs) [] u v may quiet squeezed_is are other_are = absurd other_are
rows_same text other t commands (a ∷ xs) (b ∷ ys) u v may quiet squeezed_is are other_are =
    let row = are.0 in
    let other_row = other_are.0 in
    let read : GoalReads text t First None 0 (outcome_of a) =
    subst (λ p. GoalReads text t First None p (outcome_of a)) row.place row.gives.reads in
    let other_read : GoalReads other t First None 0 (outcome_of b) =
    subst (λ p. GoalReads other t First None p (outcome_of b)) other_row.place other_row.gives.reads in
    let last = first_last text t commands a xs are in
    let other_last = first_last other t commands b ys other_are in
    let ends = first_ends text t commands a xs u quiet.0 are in
    let ahead = onward text t (state_after_first a) commands xs a.token u may quiet.1 last ends are.1 in
    let f = ahead.future in
    let us = characters text a.token in
    let first : first_reads a ≡ true = ap (λ o. reads_on (row_effect o)) row.command_is in
    let tokens = live_tokens text t (state_after_first a) commands xs [] a.token may are.1 refl in
    let begun : from_place other 0 ≡ us ++ f.zs =
    squeezed_is
    ∙ ap (λ ts. chars (squeezed text None (filter first_reads (a ∷ xs)) ts)) tokens
    ∙ (rw first (squeezed_written text None a a.token xs u row.places.token ahead.later_lie)) ∙ f.whole in
    let cut = characters_here text a.token u row.places.token in
    let gaps : GapsFor text other t None None 0 0 (outcome_of a) f.zs =
    λ pieces has gap none flag. record {
      characters = us;
      here = cut;
      follows = f.follows;
      gap =
          no_gap other t None 0 has (us ++ f.zs) begun
          (started_ended t (from_place text 0) pieces has (from_place text a.token.start) 0 gap.pieces_are none);
    } in
    let g : GoalAlike text other f.zs t First None 0 (outcome_of a) =
    first_alike text other f.zs t (outcome_of a) u v read quiet.0 gaps
    (λ is. record {
      characters = us;
      here = ap (from_place text) (sym (hashbang_starts text t (outcome_of a) read is)) ∙ cut;
      there_is = begun;
      follows = f.follows;
    })
    (no_hashbang text other t (outcome_of a) f.zs u row.places.token read quiet.0 f.follows begun) in
    let one : g.outcome ≡ outcome_of b =
    goal_reads_unique other t First None 0 g.outcome (outcome_of b) v g.reads other_read in
    let alike = subst (ReadAlike text other f.zs (outcome_of a)) one g.alike in
    let same =
    rows_alike text other t First First None None 0 0 f.zs a b u v (row.command_is ∙ sym other_row.command_is)
    (row.gives.taken ∙ sym other_row.gives.taken) read other_read alike in
    let front : us ≡ alike.reading.taken =
    append_cancel_right us alike.reading.taken (from_place text a.token.end) (sym cut ∙ alike.part) in
    let beside : Beside text other t (state_after_first a) (state_after_first b) a.token b.token f.zs =
    record {
      last = last;
      other_last = other_last;
      kind = same.kind;
      is_on_new_line = same.is_on_new_line;
      escaped = same.escaped;
      has_separator = same.has_separator;
      characters = alike.reading.taken;
      here = alike.part;
      there_is = alike.other_part;
      behind = alike.behind;
      follows =
          subst (λ x. FollowsToken t a.token.kind x (from_place text a.token.end) f.zs) front f.follows;
    } in
    let later =
    runs_alike text other t (state_after_first a) (state_after_first b) commands xs ys a.token b.token f.zs u v may
    quiet.1 beside ends f.whole are.1 other_are.1 in
    let still =
    rows_still other t (state_after_first b) commands ys may other_are.1 later.1
    (alike.no_diagnostic, alike.no_comment) in
    ((same, later.0), still)

-- The report of a source in which nothing is reported, and that of the squeezed source, have the same rows.
pub same_reports : (source other : List ℕ) (t : SourceType) (commands : List Command) (before after : Report)
    → list_all (may_rewrite t) commands ≡ true → AllByRecursion IsQuiet before.rows
    → ReportOf source t false commands before → other ≡ squeeze_text source before
    → ReportOf other t false commands after → SameRows source before other after
same_reports source other t commands before after may quiet is squeezed_is other_is =
    let tokens : before.tokens ≡ (live commands before.rows).tokens = ap (λ (l : Live). l.tokens) is.lists in
    let same =
    rows_same source other t commands before.rows after.rows is.utf8 other_is.utf8 may quiet
    (ap chars
    (squeezed_is ∙ ap (squeezed source None (filter first_reads before.rows)) tokens))
    is.rows other_is.rows in
    record {
      rows = same.0;
      no_diagnostic = ap (λ (l : Live). l.findings.diagnostics) other_is.lists ∙ same.1.0;
      no_comment = ap (λ (l : Live). l.findings.comments) other_is.lists ∙ same.1.1;
    }

-- The live tokens of such a report lie on places of its source.
pub tokens_lie : (source : List ℕ) (t : SourceType) (commands : List Command) (report : Report)
    → list_all (may_rewrite t) commands ≡ true → AllByRecursion IsQuiet report.rows
    → ReportOf source t false commands report → AllByRecursion (IsOnPlaces source) report.tokens
tokens_lie source t commands report may quiet is =
    let w = rows_written source t commands report.rows is.utf8 may quiet is.rows in
    subst (AllByRecursion (IsOnPlaces source)) (sym (ap (λ (l : Live). l.tokens) is.lists ∙ w.tokens))
    (finals_lie source w.first.token w.later w.lies w.behind.later_lie)
