-- A row depends on no more of a text than four bytes behind its token.
use Rattle.std.proofs.Common.{◌≡◌, ℕ, ◌+◌, ◌≤◌, Bool, true, false, List, ◌++◌, ◌==◌, ◌&&◌, length, refl, sym, ◌∙◌}
use Rattle.std.proofs.Common.{ap, subst, arith, Option, None, Some}
use Rattle.std.specs.Prelude.{IfSome, MatchBool, if◌then◌else◌}
use Rattle.std.specs.Str.{IsCharBoundary, IsUtf8}
use Rattle.std.proofs.lemmas.Bool.{and_parts}
use Rattle.std.proofs.lemmas.Str.{IsCharBoundary-start}
use Rattle.js_text.specs.Ascii.{hyphen_minus}
use Rattle.js_text.specs.Characters.{begins, from_place}
use Rattle.js_text.specs.declared.source_type.SourceType.{SourceType}
use Rattle.js_kind.specs.TokenParts.{TokenParts}
use Rattle.js_kind.specs.Kinds.{is_identifier_name}
use Rattle.js_grammar.specs.Goals.{GoalReads}
use Rattle.js_grammar.specs.Moved.{reads_from}
use Rattle.js_grammar.specs.ReLexed.{fits}
use Rattle.js_grammar.specs.Reads.{is_onward}
use Rattle.js_grammar.specs.declared.goal.Goal.{Goal}
use Rattle.js_grammar.specs.declared.goal.Goal.TheVariants.{First, Next, TemplateTail, RegularExpression, RightAngle}
use Rattle.js_grammar.specs.declared.goal.Goal.TheVariants.{TypeScriptLeftAngle, TypeScriptRightAngle, JsxIdentifier}
use Rattle.js_grammar.specs.declared.goal.Goal.TheVariants.{JsxChild, JsxAttributeValue}
use Rattle.js_grammar.proofs.Ahead.{begins_alike}
use Rattle.js_grammar.proofs.Clean.{agrees_with_grammar}
use Rattle.js_grammar.proofs.GoalWays.{goal_reads_places, goal_reads_span}
use Rattle.js_grammar.proofs.LocalGoals.{goal_local}
use Rattle.js_grammar.proofs.LocalReadings.{SameFront, boundary_same, goes_on_alike}
use Rattle.js_grammar.proofs.Texts.{goal_reads_text}
use Rattle.js_grammar.proofs.Values.{goal_reads_value}
use Rattle.js_lexer.specs.Lexer.{IsOnPlaces, token_or_default}
use Rattle.js_session.specs.declared.command.Command.{Command}
use Rattle.js_session.specs.declared.row.Row.{Row}
use Rattle.js_session.specs.Effects.{row_effect}
use Rattle.js_session.specs.declared.command.Effect.{Effect}
use Rattle.js_session.specs.declared.command.Effect.TheVariants.{Reads, Peeks, ReLexes, Opens, Rewinds, Commits}
use Rattle.js_session.specs.Live.{Live, last_live, outcome_of, place_behind_last}
use Rattle.js_session.specs.Report.{IsNotTaken, IsOfEffect, IsRead, IsReLexed, IsRow, IsSliceOnPlaces, LiesOnPlaces}
use Rattle.js_session.proofs.ReadLemmas.{value_lies}

-- the place from which a reading behind the last token begins
pub begins_at : (text : List ℕ) (goal : Goal) (last : Option TokenParts) → IsUtf8 text → IfSome last (IsOnPlaces text)
    → IsCharBoundary text (reads_from goal last (token_or_default last).end)
begins_at text goal None u lies = IsCharBoundary-start text u
begins_at text goal (Some token) u lies = by_flag (is_onward goal)
  where
    by_flag : (b : Bool) → IsCharBoundary text (if b then token.end else token.start)
    by_flag true = lies.end
    by_flag false = lies.start

-- and one of a token that is read again
pub again_at : (text : List ℕ) (goal : Goal) (last : Option TokenParts) → IsUtf8 text → IfSome last (IsOnPlaces text)
    → IsCharBoundary text (reads_from goal last (token_or_default last).start)
again_at text goal None u lies = IsCharBoundary-start text u
again_at text goal (Some token) u lies = by_flag (is_onward goal)
  where
    by_flag : (b : Bool) → IsCharBoundary text (if b then token.start else token.start)
    by_flag true = lies.start
    by_flag false = lies.start

-- the row of a reading lies on places of its text
pub read_lies : (text : List ℕ) (t : SourceType) (goal : Goal) (last : Option TokenParts) (place : ℕ) (row : Row)
    → IsUtf8 text → GoalReads text t goal last place (outcome_of row) → LiesOnPlaces text row
read_lies text t goal last place row u read =
    let o = outcome_of row in
    let places = goal_reads_places text t goal last place o u read in
    let span = goal_reads_span text t goal last place o u read in
    record {
      token = record { start = places.0; end = places.1; ordered = span.ordered };
      value =
          value_lies text row.token row.value (goal_reads_text text t goal last place o u read)
          (goal_reads_value text t goal last place o u read);
    }

-- what follows the place is begun alike in both texts
same_next : (front rest other : List ℕ) (place : ℕ) → SameFront front rest other → place + 4 ≤ length front
    → IsCharBoundary (front ++ rest) place
    → begins (λ c. c == hyphen_minus) (from_place (front ++ other) place)
    ≡ begins (λ c. c == hyphen_minus) (from_place (front ++ rest) place)
same_next front rest other place both room b =
    sym (begins_alike (λ c. c == hyphen_minus) _ _ (goes_on_alike front rest other place both room b).alike)

-- A token that doesn't fit a goal doesn't in the other text.
fits_none : (front rest other : List ℕ) (goal : Goal) (token : TokenParts) → SameFront front rest other
    → token.end + 4 ≤ length front → IsCharBoundary (front ++ rest) token.end
    → fits (front ++ other) goal token ≡ fits (front ++ rest) goal token
fits_none front rest other First token both room b = refl
fits_none front rest other Next token both room b = refl
fits_none front rest other TemplateTail token both room b = refl
fits_none front rest other RegularExpression token both room b = refl
fits_none front rest other RightAngle token both room b = refl
fits_none front rest other TypeScriptLeftAngle token both room b = refl
fits_none front rest other TypeScriptRightAngle token both room b = refl
fits_none front rest other JsxIdentifier token both room b =
    ap (λ a. is_identifier_name token.kind && a) (same_next front rest other token.end both room b)
fits_none front rest other JsxChild token both room b = refl
fits_none front rest other JsxAttributeValue token both room b = refl

found_only : {A : Type 0} (b : Bool) (x y : A) → (if b then Some x else None) ≡ Some y → b ≡ true
found_only true x y e = refl
found_only false x y e = absurd (let no = e in cc)

-- One that fits, and is read again in the other text, fits there.
fits_still : (text other : List ℕ) (t : SourceType) (goal : Goal) (last : Option TokenParts) (place : ℕ) (row : Row)
    → fits text goal (token_or_default last) ≡ true → GoalReads other t goal last place (outcome_of row)
    → fits other goal (token_or_default last) ≡ true
fits_still text other t First last place row e read = e
fits_still text other t Next last place row e read = e
fits_still text other t TemplateTail last place row e read = e
fits_still text other t RegularExpression last place row e read = e
fits_still text other t RightAngle last place row e read = e
fits_still text other t TypeScriptLeftAngle last place row e read = e
fits_still text other t TypeScriptRightAngle last place row e read = e
fits_still text other t JsxChild last place row e read = e
fits_still text other t JsxAttributeValue last place row e read = e
fits_still text other t JsxIdentifier None place row e read = absurd read
fits_still text other t JsxIdentifier (Some token) place row e read =
    let name = (and_parts (is_identifier_name token.kind) _ e).0 in
    let dash =
    found_only (begins (λ c. c == hyphen_minus) (from_place other token.end)) _ _ read.reads.read_is in
    rw (name, dash) refl

-- what a reading's row is, is it in the other text
read_local : (front rest other : List ℕ) (t : SourceType) (now : Live) (goal : Goal) (row : Row)
    → SameFront front rest other → IfSome (last_live now) (IsOnPlaces (front ++ rest))
    → row.place ≡ place_behind_last now → row.token.end + 4 ≤ length front
    → IsRead (front ++ rest) t now goal row → IsRead (front ++ other) t now goal row
read_local front rest other t now goal row both lies at room is =
    let begun =
    subst (λ p. IsCharBoundary (front ++ rest) (reads_from goal (last_live now) p)) (sym at)
    (begins_at (front ++ rest) goal (last_live now) both.utf8 lies) in
    let read =
    goal_local front rest other t goal (last_live now) row.place (outcome_of row) both begun room is.reads in
    record {
      taken = is.taken;
      reads = read;
      agrees =
          λ plain. agrees_with_grammar (front ++ other) t goal (last_live now) row.place (outcome_of row) plain read;
      some_text = is.some_text;
    }

again_local : (front rest other : List ℕ) (t : SourceType) (now : Live) (goal : Goal) (row : Row)
    → SameFront front rest other → IfSome (last_live now) (IsOnPlaces (front ++ rest))
    → row.token.end + 4 ≤ length front
    → IsReLexed (front ++ rest) t now goal row → IsReLexed (front ++ other) t now goal row
again_local front rest other t now goal row both lies room is = record {
  taken = is.taken;
  reads =
      goal_local front rest other t goal (last_live now) (token_or_default (last_live now)).start (outcome_of row) both
      (again_at (front ++ rest) goal (last_live now) both.utf8 lies) room is.reads;
}

-- What a row gives, with where it lies.
pub record GivesAndLies (text : List ℕ) (t : SourceType) (now : Live) (effect : Effect) (row : Row) : Type 0 where
  pub gives : IsOfEffect text t now effect row
  pub lies : LiesOnPlaces text row

re_lex_local : (front rest other : List ℕ) (t : SourceType) (now : Live) (goal : Goal) (row : Row)
    → SameFront front rest other → IfSome (last_live now) (IsOnPlaces (front ++ rest))
    → row.token.end + 4 ≤ length front → LiesOnPlaces (front ++ rest) row
    → IsOfEffect (front ++ rest) t now (ReLexes goal) row → GivesAndLies (front ++ other) t now (ReLexes goal) row
re_lex_local front rest other t now goal row both last room lies is =
    by_flag (fits (front ++ rest) goal (token_or_default (last_live now))) refl is
  where
    by_flag : (b : Bool) → fits (front ++ rest) goal (token_or_default (last_live now)) ≡ b
        → MatchBool b (IsReLexed (front ++ rest) t now goal row) (IsNotTaken now row)
        → GivesAndLies (front ++ other) t now (ReLexes goal) row
    by_flag true e is =
        let there = again_local front rest other t now goal row both last room is in
        let still =
        fits_still (front ++ rest) (front ++ other) t goal (last_live now) (token_or_default (last_live now)).start row
        e there.reads in
        record {
          gives = rw still there;
          lies =
              read_lies (front ++ other) t goal (last_live now) (token_or_default (last_live now)).start row
              both.other_utf8 there.reads;
        }
    by_flag false e is =
        let token = token_or_default (last_live now) in
        let near : token.end + 4 ≤ length front = let end = ap (λ x. x.end) is.token in omega (arith, room, end) in
        let place = subst (λ x. IsCharBoundary (front ++ rest) x.end) is.token lies.token.end in
        let none = fits_none front rest other goal token both near place ∙ e in
        record {
          gives = rw none is;
          lies = record {
            token = record {
              start =
                  boundary_same front rest other row.token.start
                  (let ordered = lies.token.ordered in omega (arith, ordered, room)) lies.token.start;
              end = boundary_same front rest other row.token.end (omega (arith, room)) lies.token.end;
              ordered = lies.token.ordered;
            };
            value = subst (IsSliceOnPlaces (front ++ other)) (sym is.value) tt;
          };
        }

effect_local : (front rest other : List ℕ) (t : SourceType) (now : Live) (effect : Effect) (row : Row)
    → SameFront front rest other → IfSome (last_live now) (IsOnPlaces (front ++ rest))
    → row.place ≡ place_behind_last now → row.token.end + 4 ≤ length front → LiesOnPlaces (front ++ rest) row
    → IsOfEffect (front ++ rest) t now effect row → GivesAndLies (front ++ other) t now effect row
effect_local front rest other t now (Reads goal) row both last at room lies is =
    let there = read_local front rest other t now goal row both last at room is in
    record {
      gives = there;
      lies = read_lies (front ++ other) t goal (last_live now) row.place row both.other_utf8 there.reads;
    }
effect_local front rest other t now (Peeks goal) row both last at room lies is =
    let there = read_local front rest other t now goal row both last at room is in
    record {
      gives = there;
      lies = read_lies (front ++ other) t goal (last_live now) row.place row both.other_utf8 there.reads;
    }
effect_local front rest other t now (ReLexes goal) row both last at room lies is =
    re_lex_local front rest other t now goal row both last room lies is
effect_local front rest other t now Opens row both last at room lies is = absurd is
effect_local front rest other t now Rewinds row both last at room lies is = absurd is
effect_local front rest other t now Commits row both last at room lies is = absurd is

pub row_local : (front rest other : List ℕ) (t : SourceType) (now : Live) (command : Option Command) (row : Row)
    → IsUtf8 (front ++ rest) → IsUtf8 (front ++ other) → IfSome (last_live now) (IsOnPlaces (front ++ rest))
    → row.token.end + 4 ≤ length front
    → IsRow (front ++ rest) t now command row → IsRow (front ++ other) t now command row
row_local front rest other t now command row u v last room is =
    let there =
    effect_local front rest other t now (row_effect command) row (record { utf8 = u; other_utf8 = v }) last is.place
    room is.places is.gives in
    record { command_is = is.command_is; place = is.place; gives = there.gives; places = there.lies }
