-- Steps to the end of a source: each reads on, and the first row that is `Eof` is the last one.
use Rattle.std.proofs.Common.{◌≡◌, ℕ, ◌+◌, ◌<◌, ◌≤◌, Bool, true, List, [], ◌∷◌, ◌++◌, length, refl, sym}
use Rattle.std.proofs.Common.{◌∙◌, ap, subst, arith, append-nil, append_assoc, Some, None}
use Rattle.std.proofs.lemmas.List.{replicate-append-replicate}
use Rattle.std.proofs.lemmas.Str.{IsCharBoundary-start}
use Rattle.std.specs.List.{AllByRecursion}
use Rattle.std.specs.Prelude.{◌^◌}
use Rattle.std.specs.Str.{IsUtf8, IsCharBoundary}
use Rattle.js_text.specs.declared.source_type.SourceType.{SourceType}
use Rattle.js_grammar.specs.declared.goal.Goal.{Goal}
use Rattle.js_grammar.specs.Reads.{is_onward}
use Rattle.js_grammar.specs.declared.goal.Goal.TheVariants.{First, Next as NextGoal}
use Rattle.js_grammar.proofs.TokenStarts.{reads_onward}
use Rattle.js_lexer.specs.Lexer.{IsOnPlaces, token_or_default}
use Rattle.js_session.specs.declared.command.Command.{Command}
use Rattle.js_session.specs.declared.command.Command.TheVariants.{Next}
use Rattle.js_session.specs.declared.row.Row.{Row}
use Rattle.js_session.specs.Live.{Live, outcome_of, place_behind_last, state_after_first, nothing_live, live}
use Rattle.js_session.specs.Report.{LiesOnPlaces, IsRead, IsRow, AreRows, all_collected}
use Rattle.js_session.specs.Session.{SessionState, Begins, AddsRow, report_of}
use Rattle.js_session.specs.WholeSource.{nexts, IsEof, ReportOfWhole}
use Rattle.js_session.proofs.LiveLemmas.{last_or-push, all-push}
use Rattle.js_session.proofs.RunLemmas.{Continues, continues_start, continues_step, continues_end}

-- A row of a reading: its token starts at its place or behind that, and has a byte but for the end of the source.
pub record IsOnward (text : List ℕ) (row : Row) : Type 0 where
  pub onward : row.place ≤ row.token.start
  pub some_text : ¬ (IsEof row) → row.token.start < row.token.end
  pub lies : IsOnPlaces text row.token

pub row_onward : (text : List ℕ) (t : SourceType) (now : Live) (goal : Goal) (row : Row)
    → is_onward goal ≡ true → IsUtf8 text
    → IsCharBoundary text row.place → IsRead text t now goal row → LiesOnPlaces text row → IsOnward text row
row_onward text t now goal row onward u b is places = record {
  onward = reads_onward text t goal _ row.place (outcome_of row) onward u b is.reads;
  some_text = is.some_text;
  lies = places.token;
}

-- A session that has made so many steps, none of them behind the end of the source: its rows answer them, and whatever
-- answers more commands from here answers them behind these steps. Each row is at least a byte behind the one before.
pub record Reaches (text : List ℕ) (t : SourceType) (collects : Bool) (count : ℕ) (s : SessionState) : Type 0 where
  pub text_is : s.text ≡ text
  pub type_is : s.source_type ≡ t
  pub collects_is : s.collects ≡ collects
  pub row : Row
  pub is_row : IsRow text t nothing_live None row
  pub rows : List Row
  pub rows_are : s.rows ≡ row ∷ rows
  pub continues : (left : List Command)
      → Continues text t (state_after_first row) (nexts count ++ left) rows s.state left
  pub before : List Row
  pub last : Row
  pub last_is : s.rows ≡ before ++ last ∷ []
  pub none_before : AllByRecursion (λ r. ¬ (IsEof r)) before
  pub behind : place_behind_last s.state.now ≡ last.token.end
  pub counted : count ≤ last.place
  pub onward : IsOnward text last

pub reaches_start : (text : List ℕ) (t : SourceType) (collects : Bool) (s : SessionState) → IsUtf8 text
    → Begins text t collects s → Reaches text t collects 0 s
reaches_start text t collects s u b =
    let start : IsCharBoundary text b.row.place =
    subst (IsCharBoundary text) (sym b.is_row.place) (IsCharBoundary-start text u) in
    rw b.after (record {
      text_is = refl;
      type_is = refl;
      collects_is = refl;
      row = b.row;
      is_row = b.is_row;
      rows = [];
      rows_are = refl;
      continues = continues_start text t (state_after_first b.row);
      before = [];
      last = b.row;
      last_is = refl;
      none_before = tt;
      behind = refl;
      counted = omega arith;
      onward = row_onward text t nothing_live First b.row refl u start b.is_row.gives b.is_row.places;
    })

-- one more step, and then what is left
nexts-more : (count : ℕ) (left : List Command) → nexts count ++ Next ∷ left ≡ nexts (count + 1) ++ left
nexts-more count left =
    sym (append_assoc (nexts count) (Next ∷ []) left)
    ∙ ap (λ cs. cs ++ left) (replicate-append-replicate count 1 Next)

pub reaches_step : (text : List ℕ) (t : SourceType) (collects : Bool) (count : ℕ) (old new : SessionState)
    → IsUtf8 text → (r : Reaches text t collects count old) → ¬ (IsEof r.last) → AddsRow Next old new
    → Reaches text t collects (count + 1) new
reaches_step text t collects count old new u r other a =
    let is : IsRow text t old.state.now (Some Next) a.row = rw (r.text_is, r.type_is) at a.is_row in
    let place : a.row.place ≡ r.last.token.end = is.place ∙ r.behind in
    let start : IsCharBoundary text a.row.place = subst (IsCharBoundary text) (sym place) r.onward.lies.end in
    rw a.after (record {
      text_is = r.text_is;
      type_is = r.type_is;
      collects_is = r.collects_is;
      row = r.row;
      is_row = r.is_row;
      rows = r.rows ++ a.row ∷ [];
      rows_are = ap (λ rs. rs ++ a.row ∷ []) r.rows_are;
      continues =
          λ left. continues_step text t (state_after_first r.row) old.state (nexts (count + 1) ++ left) left r.rows Next
          a.row refl is
          (subst (λ cs. Continues text t (state_after_first r.row) cs r.rows old.state (Next ∷ left))
          (nexts-more count left) (r.continues (Next ∷ left)));
      before = old.rows;
      last = a.row;
      last_is = refl;
      none_before =
          subst (AllByRecursion (λ x. ¬ (IsEof x))) (sym r.last_is)
          (all-push (λ x. ¬ (IsEof x)) r.before r.last r.none_before other);
      behind = ap (λ x. (token_or_default x).end) (last_or-push None old.state.now.tokens a.row.token);
      counted = omega (arith, r.counted, r.onward.onward, r.onward.some_text other, place);
      onward = row_onward text t old.state.now NextGoal a.row refl u start is.gives is.places;
    })

-- there are no more steps than bytes, and fewer where the last row is not the end
pub reaches_few : (text : List ℕ) (t : SourceType) (collects : Bool) (count : ℕ) (s : SessionState)
    → Reaches text t collects count s → count ≤ length text
reaches_few text t collects count s r = omega (arith, r.counted, r.onward.onward, r.onward.lies.start.0)

pub reaches_fewer : (text : List ℕ) (t : SourceType) (collects : Bool) (count : ℕ) (s : SessionState)
    → (r : Reaches text t collects count s) → ¬ (IsEof r.last) → count < length text
reaches_fewer text t collects count s r other =
    omega (arith, r.counted, r.onward.onward, r.onward.some_text other, r.onward.lies.end.0)

-- the report at the end of the source
pub reaches_end : (text : List ℕ) (t : SourceType) (collects : Bool) (count : ℕ) (s : SessionState) → IsUtf8 text
    → length text < 2 ^ 32 → (r : Reaches text t collects count s) → IsEof r.last
    → ReportOfWhole text t collects count (report_of s)
reaches_end text t collects count s u short r eof =
    let ended = continues_end text t (state_after_first r.row) s.state (nexts count) r.rows
    (subst (λ cs. Continues text t (state_after_first r.row) cs r.rows s.state []) (append-nil (nexts count))
    (r.continues [])) in
    record {
      report_is =
          record {
            utf8 = u;
            short = short;
            rows = subst (AreRows text t (nexts count)) (sym r.rows_are) (r.is_row, ended.0);
            lists = sym (ap (live (nexts count)) r.rows_are ∙ ap (λ x. x.now) ended.1);
            collected_are = ap (λ c. all_collected c s.state.now.tokens) r.collects_is;
          };
      least =
          record {
            before = r.before;
            last = r.last;
            rows_are = r.last_is;
            is_eof = eof;
            none_before = r.none_before;
          };
    }
