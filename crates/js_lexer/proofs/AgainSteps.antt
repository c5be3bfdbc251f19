-- Tokens that a lexer reads again: where they start, and what stands in their place.
use Rattle.std.proofs.Common.{◌≡◌, ℕ, ◌+◌, ◌-◌, ◌≤◌, Bool, true, false, ◌==◌, List, [], ◌∷◌, ◌++◌, length, sym, ◌∙◌, ap}
use Rattle.std.proofs.Common.{subst, arith, Option, Some}
use Rattle.std.specs.Prelude.{IfSome}
use Rattle.std.specs.List.{list_all}
use Rattle.std.specs.Str.{IsUtf8, IsCharBoundary}
use Rattle.std.proofs.lemmas.Str.{encodes-IsAscii}
use Rattle.js_text.specs.Characters.{begins, from_place}
use Rattle.js_text.proofs.TextLemmas.{place_past}
use Rattle.js_kind.specs.Kinds.{is_one_of, kind_text}
use Rattle.js_kind.specs.TokenParts.{TokenParts}
use Rattle.js_kind.specs.declared.kind.Kind.{Kind}
use Rattle.js_kind.specs.declared.kind.Kind.TheVariants.{RAngle}
use Rattle.js_kind.proofs.Members.{one_passes}
use Rattle.js_grammar.specs.Angle.{angle_reading, first_left_angle, first_right_angle, right_angles}
use Rattle.js_grammar.specs.Goals.{ReadsAngle}
use Rattle.js_grammar.specs.Outcome.{Outcome}
use Rattle.js_grammar.specs.RegularExpression.{regular_expression_reading}
use Rattle.js_grammar.proofs.GoalReadings.{angle_is_read, angles, expression_read, is_angle}
use Rattle.js_grammar.proofs.GoalWays.{from_takes, jsx_name_takes}
use Rattle.js_grammar.specs.ReLexed.{HasSpelling, again_kinds}
use Rattle.js_grammar.specs.declared.goal.Goal.{Goal}
use Rattle.js_grammar.specs.declared.goal.Goal.TheVariants.{JsxIdentifier, RegularExpression, RightAngle}
use Rattle.js_grammar.specs.declared.goal.Goal.TheVariants.{TypeScriptLeftAngle, TypeScriptRightAngle}
use Rattle.js_grammar.proofs.AgainKinds.{again_is_re_lexed, only_one}
use Rattle.js_reader.specs.Reader.{ReadsGoal}
use Rattle.js_reader.specs.declared.reader.Reader.{Reader}
use Rattle.js_lexer.specs.Lexer.{IsBehindFor, IsOnPlaces, LexerState, kind_of_last, token_or_default}
use Rattle.js_lexer.proofs.CheckpointSteps.{spelling_is_ascii}

-- The last token starts there, with the mark.
pub record StartsWith (text : List ℕ) (last : Option TokenParts) (mark start : ℕ) : Type 0 where
  pub token : TokenParts
  pub last_is : last ≡ Some token
  pub at : token.start ≡ start
  pub boundary : IsCharBoundary text start
  pub here : begins (λ c. c == mark) (from_place text start) ≡ true

-- the spelling of the kind begins with the mark
abbrev pub has_mark : ℕ → Kind → Bool
has_mark mark kind = begins (λ c. c == mark) (kind_text kind)

begins_append : (p : ℕ → Bool) (xs ys : List ℕ) → begins p xs ≡ true → begins p (xs ++ ys) ≡ true
begins_append p [] ys e = absurd (cc)
begins_append p (x ∷ xs) ys e = e

-- where a token starts that the goal may read again
pub starts_with : (goal : Goal) (mark bytes : ℕ) (text : List ℕ) (last : Option TokenParts) (place : ℕ)
    (token : TokenParts) → list_all (has_mark mark) (again_kinds goal) ≡ true → IsUtf8 text → last ≡ Some token
    → is_one_of (again_kinds goal) token.kind ≡ true → bytes ≡ length (kind_text (token_or_default last).kind)
    → place ≡ token.end → IfSome last (IsOnPlaces text) → IfSome last (HasSpelling text)
    → (bytes ≤ place) × StartsWith text last mark (place - bytes)
starts_with goal mark bytes text last place token marked u is one of_last at lies spelled =
    let again = again_is_re_lexed goal token.kind one in
    let bytes_are : bytes ≡ length (kind_text token.kind) =
    of_last ∙ ap (λ o. length (kind_text (token_or_default o).kind)) is in
    let on_places : IsOnPlaces text token = subst (λ o. IfSome o (IsOnPlaces text)) is lies in
    let here : from_place text token.start ≡ kind_text token.kind ++ from_place text token.end =
    subst (λ o. IfSome o (HasSpelling text)) is spelled again in
    let ascii = encodes-IsAscii (kind_text token.kind) (spelling_is_ascii token.kind again) in
    let way = place_past text token.start token.end (kind_text token.kind) u on_places.start on_places.end here in
    let ends : token.end ≡ token.start + length (kind_text token.kind) =
    way ∙ ap (λ bs. token.start + length bs) ascii in
    let start : place - bytes ≡ token.start = omega (arith, at, bytes_are, ends) in (
      omega (arith, at, bytes_are, ends),
      record {
        token = token;
        last_is = is;
        at = sym start;
        boundary = subst (IsCharBoundary text) (sym start) on_places.start;
        here =
            ap (λ n. begins (λ c. c == mark) (from_place text n)) start ∙ ap (begins (λ c. c == mark)) here
            ∙ begins_append (λ c. c == mark) (kind_text token.kind) (from_place text token.end)
            (one_passes (has_mark mark) (again_kinds goal) token.kind marked one);
      },
    )

-- a `>` alone is one byte
pub one_angle : (l : LexerState) → IsBehindFor RightAngle l → 1 ≡ length (kind_text (kind_of_last l))
one_angle l behind =
    sym
    (ap (λ o. length (kind_text (token_or_default o).kind)) behind.last
    ∙ ap (λ k. length (kind_text k)) (only_one behind.token.kind RAngle behind.kind_is))

-- what was read again has no escape
angle_unescaped : (kinds : List Kind) (text : List ℕ) (start : ℕ) (token : TokenParts) (o : Outcome)
    → list_all is_angle kinds ≡ true → token ≡ o.token → ReadsAngle text kinds start o → token.escaped ≡ false
angle_unescaped kinds text start token o are is reads =
    ap (λ t. t.escaped) is
    ∙ (from_takes text false start (angle_reading kinds (from_place text start)) o
    (angle_is_read kinds (from_place text start) are) reads).escaped

pub left_unescaped : (before : TokenParts) (old new : Reader) (token : TokenParts)
    → ReadsGoal TypeScriptLeftAngle (Some before) old token new → token.escaped ≡ false
left_unescaped before old new token r =
    angle_unescaped first_left_angle old.source.text before.start token r.outcome angles.left r.token_is
    r.reads

pub right_unescaped : (before : TokenParts) (old new : Reader) (token : TokenParts)
    → ReadsGoal TypeScriptRightAngle (Some before) old token new → token.escaped ≡ false
right_unescaped before old new token r =
    angle_unescaped first_right_angle old.source.text before.start token r.outcome angles.right r.token_is
    r.reads

pub longest_unescaped : (before : TokenParts) (old new : Reader) (token : TokenParts)
    → ReadsGoal RightAngle (Some before) old token new → token.escaped ≡ false
longest_unescaped before old new token r =
    angle_unescaped right_angles old.source.text before.start token r.outcome angles.longest r.token_is
    r.reads

pub expression_unescaped : (before : TokenParts) (old new : Reader) (token : TokenParts)
    → ReadsGoal RegularExpression (Some before) old token new → token.escaped ≡ false
expression_unescaped before old new token r =
    let here = from_place old.source.text before.start in
    ap (λ t. t.escaped) r.token_is
    ∙ (from_takes old.source.text false before.start (regular_expression_reading here) r.outcome
    (expression_read here) r.reads).escaped

pub name_unescaped : (before : TokenParts) (old new : Reader) (token : TokenParts)
    → ReadsGoal JsxIdentifier (Some before) old token new → token.escaped ≡ false
name_unescaped before old new token r =
    ap (λ t. t.escaped) r.token_is
    ∙ (jsx_name_takes old.source.text before r.outcome r.reads).escaped

-- what was read again starts where the token before did
pub left_starts : (before : TokenParts) (old new : Reader) (token : TokenParts)
    → ReadsGoal TypeScriptLeftAngle (Some before) old token new → token.start ≡ before.start
left_starts before old new token r =
    ap (λ t. t.start) r.token_is ∙ ap (λ o. o.token.start) r.reads.outcome_is

pub right_starts : (before : TokenParts) (old new : Reader) (token : TokenParts)
    → ReadsGoal TypeScriptRightAngle (Some before) old token new → token.start ≡ before.start
right_starts before old new token r =
    ap (λ t. t.start) r.token_is ∙ ap (λ o. o.token.start) r.reads.outcome_is

pub longest_starts : (before : TokenParts) (old new : Reader) (token : TokenParts)
    → ReadsGoal RightAngle (Some before) old token new → token.start ≡ before.start
longest_starts before old new token r =
    ap (λ t. t.start) r.token_is ∙ ap (λ o. o.token.start) r.reads.outcome_is

pub expression_starts : (before : TokenParts) (old new : Reader) (token : TokenParts)
    → ReadsGoal RegularExpression (Some before) old token new → token.start ≡ before.start
expression_starts before old new token r =
    ap (λ t. t.start) r.token_is ∙ ap (λ o. o.token.start) r.reads.outcome_is

pub name_starts : (before : TokenParts) (old new : Reader) (token : TokenParts)
    → ReadsGoal JsxIdentifier (Some before) old token new → token.start ≡ before.start
name_starts before old new token r =
    ap (λ t. t.start) r.token_is ∙ ap (λ o. o.token.start) r.reads.reads.outcome_is
