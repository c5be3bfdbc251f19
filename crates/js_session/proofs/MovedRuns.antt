-- Rows of a text are, moved by the length of what stands before it, rows of the whole.
use Rattle.std.proofs.Common.{◌≡◌, ℕ, suc, ◌+◌, ◌<◌, ◌≤◌, Bool, true, false, List, [], ◌∷◌, ◌++◌, ◌==◌, ◌&&◌, length}
use Rattle.std.proofs.Common.{map, refl, sym, ◌∙◌, ap, subst, arith, length-append, None, Some}
use Rattle.std.specs.Prelude.{◌≢◌, MatchBool, slice_index}
use Rattle.std.specs.List.{list_all}
use Rattle.std.specs.Str.{IsCharBoundary, IsUtf8, chars}
use Rattle.std.proofs.Math.Seq.{drop-append-add}
use Rattle.std.proofs.lemmas.Bool.{and_parts}
use Rattle.js_text.specs.Ascii.{hyphen_minus}
use Rattle.js_text.specs.Characters.{begins, from_place}
use Rattle.js_text.specs.declared.source_type.SourceType.{SourceType}
use Rattle.js_text.specs.declared.value.RowValue.TheVariants.{Nothing}
use Rattle.js_kind.specs.TokenParts.{TokenParts}
use Rattle.js_kind.specs.Kinds.{is_identifier_name}
use Rattle.js_kind.specs.declared.kind.Kind.TheVariants.{Eof}
use Rattle.js_grammar.specs.Goals.{GoalReads}
use Rattle.js_grammar.specs.Moved.{moved_outcome, moved_token, reads_from}
use Rattle.js_grammar.specs.Outcome.{Outcome, no_findings}
use Rattle.js_grammar.specs.ReLexed.{fits}
use Rattle.js_grammar.specs.declared.goal.Goal.{Goal}
use Rattle.js_grammar.specs.declared.goal.Goal.TheVariants.{First, Next, TemplateTail, RegularExpression, RightAngle}
use Rattle.js_grammar.specs.declared.goal.Goal.TheVariants.{TypeScriptLeftAngle, TypeScriptRightAngle, JsxIdentifier}
use Rattle.js_grammar.specs.declared.goal.Goal.TheVariants.{JsxChild, JsxAttributeValue}
use Rattle.js_grammar.proofs.Clean.{agrees_with_grammar}
use Rattle.js_grammar.proofs.MovedReadings.{BothStand, Moves, goal_moves}
use Rattle.js_lexer.specs.Lexer.{IsOnPlaces, token_or_default}
use Rattle.js_session.specs.declared.command.Command.{Command}
use Rattle.js_session.specs.declared.command.Command.TheVariants.{Next as NextCommand, JsxChild as ChildCommand}
use Rattle.js_session.specs.declared.command.Command.TheVariants.{JsxAttr}
use Rattle.js_session.specs.declared.command.Command.TheVariants.{Regex, TemplateTail as TailCommand, JsxName, RAngle}
use Rattle.js_session.specs.declared.command.Command.TheVariants.{TsLAngle, TsRAngle, Peek, Mark, Rewind, Commit}
use Rattle.js_session.specs.declared.row.Row.{Row}
use Rattle.js_session.specs.Effects.{effect_of, is_lasting}
use Rattle.js_session.specs.declared.command.Effect.{Effect}
use Rattle.js_session.specs.declared.command.Effect.TheVariants.{Reads, Peeks, ReLexes, Opens, Rewinds, Commits}
use Rattle.js_session.specs.Live.{Live, State, after_row, last_live, outcome_of, place_behind_last, row_of}
use Rattle.js_session.specs.Moved.{StandBehind, moved_row}
use Rattle.js_session.specs.Report.{IsNotTaken, IsOfEffect, IsReLexed, IsRow, IsSliceOnPlaces, Run}
use Rattle.js_session.proofs.LastingRuns.{lasting_steps}
use Rattle.js_session.proofs.LiveLemmas.{last_or-push}
use Rattle.js_session.proofs.LocalRows.{GivesAndLies, again_at, begins_at, read_lies}
use Rattle.js_session.proofs.LocalRuns.{replaced_last}
use Rattle.js_session.proofs.RunLemmas.{run_step}

-- a byte behind the front
pub behind_byte : (front text : List ℕ) (i : ℕ) → slice_index (front ++ text) (length front + i) ≡ slice_index text i
behind_byte [] text i = let same : 0 + i ≡ i = omega arith in ap (slice_index text) same
behind_byte (x ∷ xs) text i =
    let next : suc (length xs) + i ≡ suc (length xs + i) = omega arith in
    ap (slice_index (x ∷ xs ++ text)) next ∙ behind_byte xs text i

-- a place of a text is one behind a front
boundary_behind : (front text : List ℕ) (place : ℕ) → IsCharBoundary text place
    → IsCharBoundary (front ++ text) (length front + place)
boundary_behind front text place b = (
  let inside = b.0 in omega (arith, inside, length-append front text),
  λ less far.
      let same = behind_byte front text place in
      subst (λ (b : ℕ). 192 ≤ b) (sym same)
      (b.1 (omega (arith, less, length-append front text)) (subst (λ (b : ℕ). 128 ≤ b) same far)),
)

-- the same characters stand from there
from_behind : (front text : List ℕ) (place : ℕ)
    → from_place text place ≡ from_place (front ++ text) (length front + place)
from_behind front text place = ap chars (sym (drop-append-add front text place))

both_stand : (front text : List ℕ) (place : ℕ) → IsUtf8 text → IsUtf8 (front ++ text) → IsCharBoundary text place
    → BothStand text (front ++ text) place (length front)
both_stand front text place u v b = record {
  utf8 = u;
  other_utf8 = v;
  stands = record { here = b; there = boundary_behind front text place b; same = from_behind front text place };
}

-- The effects that are not of the first goal, and give a row which stays.
abbrev IsLater : Effect → Type 0
IsLater (Reads goal) = goal ≢ First
IsLater (Peeks goal) = ⊥
IsLater (ReLexes goal) = goal ≢ First
IsLater Opens = ⊥
IsLater Rewinds = ⊥
IsLater Commits = ⊥

later : (c : Command) → is_lasting c ≡ true → IsLater (effect_of c)
later NextCommand e = λ no. absurd (cc)
later ChildCommand e = λ no. absurd (cc)
later JsxAttr e = λ no. absurd (cc)
later Regex e = λ no. absurd (cc)
later TailCommand e = λ no. absurd (cc)
later JsxName e = λ no. absurd (cc)
later RAngle e = λ no. absurd (cc)
later TsLAngle e = λ no. absurd (cc)
later TsRAngle e = λ no. absurd (cc)
later Peek e = absurd (cc)
later Mark e = absurd (cc)
later Rewind e = absurd (cc)
later Commit e = absurd (cc)

-- a token fits a goal in both texts
fits_behind : (front text : List ℕ) (goal : Goal) (token : TokenParts)
    → fits (front ++ text) goal (moved_token (length front) token) ≡ fits text goal token
fits_behind front text First token = refl
fits_behind front text Next token = refl
fits_behind front text TemplateTail token = refl
fits_behind front text RegularExpression token = refl
fits_behind front text RightAngle token = refl
fits_behind front text TypeScriptLeftAngle token = refl
fits_behind front text TypeScriptRightAngle token = refl
fits_behind front text JsxIdentifier token =
    ap (λ h. is_identifier_name token.kind && begins (λ c. c == hyphen_minus) h)
    (sym (from_behind front text token.end))
fits_behind front text JsxChild token = refl
fits_behind front text JsxAttributeValue token = refl

-- what a reading from the last token gives
reading_moves : (front text : List ℕ) (t : SourceType) (goal : Goal) (token : TokenParts) (place : ℕ) → goal ≢ First
    → IsUtf8 text → IsUtf8 (front ++ text) → IsCharBoundary text (reads_from goal (Some token) place)
    → Moves (length front) (GoalReads text t goal (Some token) place)
    (GoalReads (front ++ text) t goal (Some (moved_token (length front) token)) (length front + place))
reading_moves front text t goal token place not_first u v b =
    goal_moves text (front ++ text) t goal (Some token) place (length front) not_first
    (both_stand front text (reads_from goal (Some token) place) u v b)

-- a row by its place and its outcome
row_is : (row : Row) (place : ℕ) (o : Outcome) → row.place ≡ place → outcome_of row ≡ o
    → row ≡ row_of row.command place row.taken o
row_is row place o e f = λ j. row_of row.command (e j) row.taken (f j)

-- the row of a reading behind the last token
is_read : (text : List ℕ) (t : SourceType) (now : Live) (goal : Goal) (token : TokenParts) (row : Row) → IsUtf8 text
    → last_live now ≡ Some token → row.taken ≡ true → (row.token.kind ≢ Eof → row.token.start < row.token.end)
    → GoalReads text t goal (Some token) row.place (outcome_of row) → GivesAndLies text t now (Reads goal) row
is_read text t now goal token row u last taken some_text read =
    let reads_last = subst (λ l. GoalReads text t goal l row.place (outcome_of row)) (sym last) read in
    record {
      gives = record {
        taken = taken;
        reads = reads_last;
        agrees = λ plain. agrees_with_grammar text t goal (last_live now) row.place (outcome_of row) plain reads_last;
        some_text = some_text;
      };
      lies = read_lies text t goal (Some token) row.place row u read;
    }

-- the row of a token that is read again, where it fits
is_re_lexed : (text : List ℕ) (t : SourceType) (now : Live) (goal : Goal) (token : TokenParts) (row : Row)
    → IsUtf8 text → last_live now ≡ Some token → fits text goal token ≡ true → row.taken ≡ true
    → GoalReads text t goal (Some token) token.start (outcome_of row) → GivesAndLies text t now (ReLexes goal) row
is_re_lexed text t now goal token row u last fit taken read = record {
  gives =
      rw (last, fit) (record {
        taken = taken;
        reads =
            subst (λ l. GoalReads text t goal l (token_or_default l).start (outcome_of row)) (sym last) read;
      });
  lies = read_lies text t goal (Some token) token.start row u read;
}

-- what a token that stays as it was gives
abbrev untaken : TokenParts → Outcome
untaken token = record { token = token; value = Nothing; regex = None; findings = no_findings }

-- the row of a token that is not
is_not_taken : (text : List ℕ) (t : SourceType) (now : Live) (goal : Goal) (token : TokenParts) (row : Row)
    → IsOnPlaces text token → last_live now ≡ Some token → fits text goal token ≡ false → row.taken ≡ false
    → outcome_of row ≡ untaken token → GivesAndLies text t now (ReLexes goal) row
is_not_taken text t now goal token row lies last fit taken is = record {
  gives =
      rw (last, fit) (record {
        taken = taken;
        token = ap (λ (o : Outcome). o.token) is ∙ sym (ap token_or_default last);
        value = ap (λ (o : Outcome). o.value) is;
        regex = ap (λ (o : Outcome). o.regex) is;
        findings = ap (λ (o : Outcome). o.findings) is;
      });
  lies = record {
    token = subst (IsOnPlaces text) (sym (ap (λ (o : Outcome). o.token) is)) lies;
    value = subst (IsSliceOnPlaces text) (sym (ap (λ (o : Outcome). o.value) is)) tt;
  };
}

-- What a row of one text is in the other: it moves there, and back.
record RowMoves (by : ℕ) (P Q : Row → Type 0) : Type 0 where
  forward : (row : Row) → P row → Q (moved_row by row)
  back : (row : Row) → Q row → (own : Row) × (row ≡ moved_row by own) × P own

-- A row of an effect at a place, which lies on its text.
record RowOf (text : List ℕ) (t : SourceType) (now : Live) (effect : Effect) (place : ℕ) (row : Row) : Type 0 where
  place_is : row.place ≡ place
  all : GivesAndLies text t now effect row

read_moves : (front text : List ℕ) (t : SourceType) (goal : Goal) (token : TokenParts) (a b : Live) → goal ≢ First
    → StandBehind front text token a b
    → RowMoves (length front) (RowOf text t a (Reads goal) token.end)
    (RowOf (front ++ text) t b (Reads goal) (length front + token.end))
read_moves front text t goal token a b not_first s = record {
  forward = λ row h.
      let is = h.all.gives in
      let place : length front + token.end ≡ length front + row.place = ap (λ p. length front + p) (sym h.place_is) in
      let here : GoalReads text t goal (Some token) token.end (outcome_of row) =
      subst (λ p. GoalReads text t goal (Some token) p (outcome_of row)) h.place_is
      (subst (λ l. GoalReads text t goal l row.place (outcome_of row)) s.last_is is.reads) in
      record {
        place_is = sym place;
        all =
            is_read (front ++ text) t b goal (moved_token (length front) token) (moved_row (length front) row)
            s.whole_utf8 s.moved_last is.taken
            (λ other. let some = is.some_text other in omega (arith, some))
            (subst
            (λ p. GoalReads (front ++ text) t goal (Some (moved_token (length front) token)) p
            (moved_outcome (length front) (outcome_of row)))
            place (moves.forward (outcome_of row) here));
      };
  back = λ row h.
      let is = h.all.gives in
      let there : GoalReads (front ++ text) t goal (Some (moved_token (length front) token))
      (length front + token.end) (outcome_of row) =
      subst
      (λ p. GoalReads (front ++ text) t goal (Some (moved_token (length front) token)) p (outcome_of row)) h.place_is
      (subst (λ l. GoalReads (front ++ text) t goal l row.place (outcome_of row)) s.moved_last is.reads) in
      let own = moves.back (outcome_of row) there in
      let row_own : Row = row_of row.command token.end row.taken own.0 in
      let same : row ≡ moved_row (length front) row_own =
      row_is row (length front + token.end) (moved_outcome (length front) own.0) h.place_is own.1 in (
        row_own,
        same,
        record {
          place_is = refl;
          all =
              is_read text t a goal token row_own s.utf8 s.last_is is.taken
              (λ other.
              let some = is.some_text (subst (λ (k : Row). k.token.kind ≢ Eof) (sym same) other) in
              let start = ap (λ (k : Row). k.token.start) same in
              let end = ap (λ (k : Row). k.token.end) same in
              omega (arith, some, start, end))
              own.2;
        },
      );
}
  where
    moves : Moves (length front) (GoalReads text t goal (Some token) token.end)
        (GoalReads (front ++ text) t goal (Some (moved_token (length front) token)) (length front + token.end))
    moves =
        reading_moves front text t goal token token.end not_first s.utf8 s.whole_utf8
        (begins_at text goal (Some token) s.utf8 s.lies)

-- what a token that is not read again leaves as its outcome
untaken_is : (now : Live) (token : TokenParts) (row : Row) → last_live now ≡ Some token → IsNotTaken now row
    → outcome_of row ≡ untaken token
untaken_is now token row last is =
    let same : row.token ≡ token = is.token ∙ ap token_or_default last in
    λ j. record { token = same j; value = is.value j; regex = is.regex j; findings = is.findings j }

again_moves : (front text : List ℕ) (t : SourceType) (goal : Goal) (token : TokenParts) (a b : Live) → goal ≢ First
    → StandBehind front text token a b
    → RowMoves (length front) (RowOf text t a (ReLexes goal) token.end)
    (RowOf (front ++ text) t b (ReLexes goal) (length front + token.end))
again_moves front text t goal token a b not_first s = record { forward = forward; back = back }
  where
    by : ℕ
    by = length front

    moves : Moves (length front) (GoalReads text t goal (Some token) token.start)
        (GoalReads (front ++ text) t goal (Some (moved_token (length front) token)) (length front + token.start))
    moves =
        reading_moves front text t goal token token.start not_first s.utf8 s.whole_utf8
        (again_at text goal (Some token) s.utf8 s.lies)

    lies : IsOnPlaces (front ++ text) (moved_token (length front) token)
    lies = record {
      start = boundary_behind front text token.start s.lies.start;
      end = boundary_behind front text token.end s.lies.end;
      ordered = let ordered = s.lies.ordered in omega (arith, ordered);
    }

    forward_by : (row : Row) (f : Bool) → fits text goal token ≡ f
        → MatchBool f (IsReLexed text t a goal row) (IsNotTaken a row)
        → GivesAndLies (front ++ text) t b (ReLexes goal) (moved_row (length front) row)
    forward_by row true fit is =
        is_re_lexed (front ++ text) t b goal (moved_token (length front) token) (moved_row (length front) row)
        s.whole_utf8 s.moved_last (fits_behind front text goal token ∙ fit) is.taken
        (moves.forward (outcome_of row)
        (subst (λ l. GoalReads text t goal l (token_or_default l).start (outcome_of row)) s.last_is is.reads))
    forward_by row false fit is =
        is_not_taken (front ++ text) t b goal (moved_token (length front) token) (moved_row (length front) row) lies
        s.moved_last (fits_behind front text goal token ∙ fit) is.taken
        (ap (moved_outcome (length front)) (untaken_is a token row s.last_is is))

    forward : (row : Row) → RowOf text t a (ReLexes goal) token.end row
        → RowOf (front ++ text) t b (ReLexes goal) (length front + token.end) (moved_row (length front) row)
    forward row h = record {
      place_is = ap (λ p. length front + p) h.place_is;
      all =
          forward_by row (fits text goal token) refl
          (subst
          (λ l. MatchBool (fits text goal (token_or_default l)) (IsReLexed text t a goal row) (IsNotTaken a row))
          s.last_is h.all.gives);
    }

    back_by : (row : Row) (f : Bool) → row.place ≡ length front + token.end → fits text goal token ≡ f
        → MatchBool f (IsReLexed (front ++ text) t b goal row) (IsNotTaken b row)
        → (own : Row) × (row ≡ moved_row (length front) own) × RowOf text t a (ReLexes goal) token.end own
    back_by row true place fit is =
        let own =
        moves.back (outcome_of row)
        (subst (λ l. GoalReads (front ++ text) t goal l (token_or_default l).start (outcome_of row)) s.moved_last
        is.reads) in (
          row_of row.command token.end row.taken own.0,
          row_is row (length front + token.end) (moved_outcome (length front) own.0) place own.1,
          record {
            place_is = refl;
            all =
                is_re_lexed text t a goal token (row_of row.command token.end row.taken own.0) s.utf8 s.last_is fit
                is.taken own.2;
          },
        )
    back_by row false place fit is = (
      row_of row.command token.end row.taken (untaken token),
      row_is row (length front + token.end) (untaken (moved_token (length front) token)) place
          (untaken_is b (moved_token (length front) token) row s.moved_last is),
      record {
        place_is = refl;
        all =
            is_not_taken text t a goal token (row_of row.command token.end row.taken (untaken token)) s.lies s.last_is
            fit is.taken refl;
      },
    )

    back : (row : Row) → RowOf (front ++ text) t b (ReLexes goal) (length front + token.end) row
        → (own : Row) × (row ≡ moved_row (length front) own) × RowOf text t a (ReLexes goal) token.end own
    back row h =
        back_by row (fits text goal token) h.place_is refl
        (subst (λ f. MatchBool f (IsReLexed (front ++ text) t b goal row) (IsNotTaken b row))
        (fits_behind front text goal token)
        (subst
        (λ l. MatchBool (fits (front ++ text) goal (token_or_default l)) (IsReLexed (front ++ text) t b goal row)
        (IsNotTaken b row))
        s.moved_last h.all.gives))

effect_moves : (front text : List ℕ) (t : SourceType) (effect : Effect) (token : TokenParts) (a b : Live)
    → IsLater effect → StandBehind front text token a b
    → RowMoves (length front) (RowOf text t a effect token.end)
    (RowOf (front ++ text) t b effect (length front + token.end))
effect_moves front text t (Reads goal) token a b is s = read_moves front text t goal token a b is s
effect_moves front text t (Peeks goal) token a b is s = absurd is
effect_moves front text t (ReLexes goal) token a b is s = again_moves front text t goal token a b is s
effect_moves front text t Opens token a b is s = absurd is
effect_moves front text t Rewinds token a b is s = absurd is
effect_moves front text t Commits token a b is s = absurd is

-- A row of a command behind the last token moves, there and back.
row_moves : (front text : List ℕ) (t : SourceType) (c : Command) (token : TokenParts) (a b : Live)
    → is_lasting c ≡ true → StandBehind front text token a b
    → RowMoves (length front) (IsRow text t a (Some c)) (IsRow (front ++ text) t b (Some c))
row_moves front text t c token a b lasting s = record {
  forward = λ row is.
      let there =
      moves.forward row (record {
        place_is = is.place ∙ behind a token s.last_is;
        all = record { gives = is.gives; lies = is.places };
      }) in
      record {
        command_is = is.command_is;
        place = there.place_is ∙ sym (behind b (moved_token (length front) token) s.moved_last);
        gives = there.all.gives;
        places = there.all.lies;
      };
  back = λ row is.
      let here =
      moves.back row (record {
        place_is = is.place ∙ behind b (moved_token (length front) token) s.moved_last;
        all = record { gives = is.gives; lies = is.places };
      }) in (
        here.0,
        here.1,
        record {
          command_is = sym (ap (λ (k : Row). k.command) here.1) ∙ is.command_is;
          place = here.2.place_is ∙ sym (behind a token s.last_is);
          gives = here.2.all.gives;
          places = here.2.all.lies;
        },
      );
}
  where
    moves : RowMoves (length front) (RowOf text t a (effect_of c) token.end)
        (RowOf (front ++ text) t b (effect_of c) (length front + token.end))
    moves = effect_moves front text t (effect_of c) token a b (later c lasting) s

    behind : (now : Live) (last : TokenParts) → last_live now ≡ Some last → place_behind_last now ≡ last.end
    behind now last e = ap (λ l. (token_or_default l).end) e

-- the last live token behind a row that stays is its own
last_row : (text : List ℕ) (t : SourceType) (effect : Effect) (row : Row) (s : State) (token : TokenParts)
    → IsLater effect → last_live s.now ≡ Some token → IsOfEffect text t s.now effect row
    → last_live (after_row effect row s).now ≡ Some row.token
last_row text t (Reads goal) row s token is last gives = last_or-push None s.now.tokens row.token
last_row text t (Peeks goal) row s token is last gives = absurd is
last_row text t (ReLexes goal) row s token is last gives =
    by_flag (fits text goal (token_or_default (last_live s.now))) gives
  where
    by_flag : (b : Bool) → MatchBool b (IsReLexed text t s.now goal row) (IsNotTaken s.now row)
        → last_live (after_row (ReLexes goal) row s).now ≡ Some row.token
    by_flag true is = rw is.taken (replaced_last s.now.tokens token row.token last)
    by_flag false is = rw is.taken (last ∙ ap Some (sym (is.token ∙ ap token_or_default last)))
last_row text t Opens row s token is last gives = absurd is
last_row text t Rewinds row s token is last gives = absurd is
last_row text t Commits row s token is last gives = absurd is

-- what stands behind a row of both texts
stand_next : (front text : List ℕ) (t : SourceType) (c : Command) (token : TokenParts) (a b : State) (row : Row)
    → is_lasting c ≡ true → StandBehind front text token a.now b.now → IsRow text t a.now (Some c) row
    → IsRow (front ++ text) t b.now (Some c) (moved_row (length front) row)
    → StandBehind front text row.token (after_row (effect_of c) row a).now
    (after_row (effect_of c) (moved_row (length front) row) b).now
stand_next front text t c token a b row lasting s here there = record {
  utf8 = s.utf8;
  whole_utf8 = s.whole_utf8;
  lies = here.places.token;
  last_is = last_row text t (effect_of c) row a token (later c lasting) s.last_is here.gives;
  moved_last =
      last_row (front ++ text) t (effect_of c) (moved_row (length front) row) b (moved_token (length front) token)
      (later c lasting) s.moved_last there.gives;
}

-- A run from a token on is, moved, a run from where the token stands behind the front.
pub run_forward : (front text : List ℕ) (t : SourceType) (token : TokenParts) (a b : State) (commands : List Command)
    (rows : List Row) → list_all is_lasting commands ≡ true → StandBehind front text token a.now b.now
    → Run text t a commands rows → Run (front ++ text) t b commands (map (moved_row (length front)) rows)
run_forward front text t token a b [] rows lasting s run = ap (map (moved_row (length front))) run
run_forward front text t token a b (c ∷ cs) [] lasting s run =
    absurd
    (let step = lasting_steps c (and_parts (is_lasting c) (list_all is_lasting cs) lasting).0 in rw step at run)
run_forward front text t token a b (c ∷ cs) (row ∷ rows) lasting s run =
    let both = and_parts (is_lasting c) (list_all is_lasting cs) lasting in
    let step = lasting_steps c both.0 in
    let run = rw step at run in
    let there = (row_moves front text t c token a.now b.now both.0 s).forward row run.0 in
    run_step (front ++ text) t b c cs (moved_row (length front) row) (map (moved_row (length front)) rows) step there
    (run_forward front text t row.token (after_row (effect_of c) row a)
    (after_row (effect_of c) (moved_row (length front) row) b) cs rows both.1
    (stand_next front text t c token a b row both.0 s run.0 there) run.1)

-- And back: each run from there is one of the text alone, moved.
pub run_back : (front text : List ℕ) (t : SourceType) (token : TokenParts) (a b : State) (commands : List Command)
    (rows : List Row) → list_all is_lasting commands ≡ true → StandBehind front text token a.now b.now
    → Run (front ++ text) t b commands rows
    → (own : List Row) × (rows ≡ map (moved_row (length front)) own) × Run text t a commands own
run_back front text t token a b [] rows lasting s run = ([], run, refl)
run_back front text t token a b (c ∷ cs) [] lasting s run =
    absurd
    (let step = lasting_steps c (and_parts (is_lasting c) (list_all is_lasting cs) lasting).0 in rw step at run)
run_back front text t token a b (c ∷ cs) (row ∷ rows) lasting s run =
    let both = and_parts (is_lasting c) (list_all is_lasting cs) lasting in
    let step = lasting_steps c both.0 in
    let run = rw step at run in
    let here = (row_moves front text t c token a.now b.now both.0 s).back row run.0 in
    let there : IsRow (front ++ text) t b.now (Some c) (moved_row (length front) here.0) =
    subst (IsRow (front ++ text) t b.now (Some c)) here.1 run.0 in
    let more =
    run_back front text t here.0.token (after_row (effect_of c) here.0 a)
    (after_row (effect_of c) (moved_row (length front) here.0) b) cs rows both.1
    (stand_next front text t c token a b here.0 both.0 s here.2 there)
    (subst (λ k. Run (front ++ text) t (after_row (effect_of c) k b) cs rows) here.1 run.1) in (
      here.0 ∷ more.0,
      ap (λ k. k ∷ rows) here.1 ∙ ap (λ ks. moved_row (length front) here.0 ∷ ks) more.1,
      run_step text t a c cs here.0 more.0 step here.2 more.2,
    )
