-- A session whose goals are chosen by a rule: each step Reads on, or Reads a token again that is then read no more.
use Rattle.std.proofs.Common.{◌≡◌, ℕ, ◌+◌, ◌-◌, ◌*◌, ◌<◌, ◌≤◌, Bool, true, false, cond, not, ◌&&◌, ◌||◌, List, [], ◌∷◌, ◌++◌}
use Rattle.std.proofs.Common.{length, refl, sym, ◌∙◌, ap, subst, arith, append-nil, append_assoc, Some, None, inl, inr}
use Rattle.std.proofs.lemmas.Bool.{and_right, le-ltb, lt-ltb, or_left, or_right}
use Rattle.std.proofs.lemmas.Str.{IsCharBoundary-start}
use Rattle.std.specs.List.{last_or}
use Rattle.std.specs.Prelude.{◌^◌, ◌==◌, nat_lt, MatchBool, if◌then◌else◌}
use Rattle.std.specs.Str.{IsUtf8, IsCharBoundary}
use Rattle.js_text.specs.Ascii.{hyphen_minus}
use Rattle.js_text.specs.Characters.{begins, from_first, from_place, is_identifier_part}
use Rattle.js_text.specs.Lists.{with_last}
use Rattle.js_text.specs.declared.source_type.SourceType.{SourceType}
use Rattle.js_text.proofs.TextLemmas.{from_first-cons, from_first-found}
use Rattle.js_kind.specs.Kinds.{is_identifier_name}
use Rattle.js_kind.specs.Predicates.{is_eof}
use Rattle.js_kind.specs.TokenParts.{TokenParts}
use Rattle.js_kind.specs.declared.kind.Kind.{Kind}
use Rattle.js_kind.specs.declared.kind.Kind.TheVariants.{Eof, Ident, RegExp, TemplateMiddle}
use Rattle.js_kind.specs.declared.kind.Kind.TheVariants.{TemplateTail as TailKind, Undetermined}
use Rattle.js_grammar.specs.Goals.{GoalReads, ReadsJsxName, ReadsPart, next_part}
use Rattle.js_grammar.specs.Jsx.{ends_jsx_name, jsx_name_reading, jsx_name_up_to}
use Rattle.js_grammar.specs.Outcome.{Outcome}
use Rattle.js_grammar.specs.Reading.{Reading}
use Rattle.js_grammar.specs.Reads.{is_onward}
use Rattle.js_grammar.specs.ReLexed.{fits, is_re_lexed}
use Rattle.js_grammar.specs.UnicodeEscape.{right_curly_bracket}
use Rattle.js_grammar.specs.declared.goal.Goal.{Goal}
use Rattle.js_grammar.specs.declared.goal.Goal.TheVariants.{First, Next as NextGoal, RegularExpression, JsxIdentifier}
use Rattle.js_grammar.specs.declared.goal.Goal.TheVariants.{TemplateTail as TailGoal, RightAngle}
use Rattle.js_grammar.specs.declared.goal.Goal.TheVariants.{TypeScriptLeftAngle, TypeScriptRightAngle, JsxChild}
use Rattle.js_grammar.specs.declared.goal.Goal.TheVariants.{JsxAttributeValue}
use Rattle.js_grammar.proofs.AgainKinds.{again_is_re_lexed, only_one}
use Rattle.js_grammar.proofs.GoalWays.{goal_reads_span}
use Rattle.js_grammar.proofs.NumberItems.{true_or_false}
use Rattle.js_grammar.proofs.QuotedValues.{part_kind_is}
use Rattle.js_lexer.specs.Lexer.{IsOnPlaces, token_or_default}
use Rattle.js_lexer.proofs.ReadAgain.{expression_again}
use Rattle.js_session.specs.declared.command.Command.{Command}
use Rattle.js_session.specs.declared.report.Report.{Report}
use Rattle.js_session.specs.declared.row.Row.{Row}
use Rattle.js_session.specs.Effects.{effect_of}
use Rattle.js_session.specs.declared.command.Effect.TheVariants.{Reads, ReLexes}
use Rattle.js_session.specs.Live.{State, after_row, last_live, live, nothing_live, outcome_of, state_after_first}
use Rattle.js_session.specs.Report.{AreRows, IsNotTaken, IsOfEffect, IsRead, IsReLexed, IsRow, all_collected}
use Rattle.js_session.specs.Session.{AddsRow, Begins, SessionState, report_of}
use Rattle.js_session.proofs.LiveLemmas.{last_or-push, last_or-with_last}
use Rattle.js_session.proofs.RunLemmas.{Continues, continues_end, continues_start, continues_step}
use Rattle.js_session.proofs.WholeLemmas.{row_onward}
use Rattle.js_choose.specs.Rules.{AreChosenBy, IsDue, IsRule, MayReadOn, ReportBy, Rule, is_final, with_token}
use Rattle.js_choose.specs.Rules.IsDue.{reads_on, reads_again}
use Rattle.js_choose.proofs.AtEnd.{plain_end}
use Rattle.js_choose.proofs.ChosenLemmas.{ChosenFrom, are_chosen, rule_steps}

-- The last token lies on places of the text, and has a byte but for `Eof`.
pub record LastLies (text : List ℕ) (tokens : List TokenParts) : Type 0 where
  pub last : TokenParts
  pub is_last : last_or None tokens ≡ Some last
  pub lies : IsOnPlaces text last
  pub some_text : ¬ (last.kind ≡ Eof) → last.start < last.end

-- an `Eof` inside the text, as JSX has one before a `}`
abbrev pub is_inside : List ℕ → TokenParts → Bool
is_inside text token = is_eof token.kind && nat_lt token.end (length text)

-- the token may be read again
abbrev pub may_go_on : List ℕ → TokenParts → Bool
may_go_on text token = is_re_lexed token.kind || fits text JsxIdentifier token

-- how many steps may come behind a token that reach no further
abbrev pub weight : List ℕ → TokenParts → ℕ
weight text token = cond (is_inside text token) 2 (cond (may_go_on text token) 1 0)

-- How much is left of a text from the start of a token on. It counts three times, and more where steps may come behind
-- the token that reach no further.
abbrev pub left_from : List ℕ → TokenParts → ℕ
left_from text token = 3 * (length text - token.start) + weight text token

-- the same from the start of the last token on
abbrev pub left_of : List ℕ → List TokenParts → ℕ
left_of text tokens = left_from text (token_or_default (last_or None tokens))

-- Behind a step the last token lies on places too, and less is left.
pub record Advances (text : List ℕ) (old new : List TokenParts) : Type 0 where
  pub last : LastLies text new
  pub less : left_of text new < left_of text old

-- how a weight is told by its two tests
weight_at_most : (inside again : Bool) → cond inside 2 (cond again 1 0) ≤ 2
weight_at_most true again = omega arith
weight_at_most false true = omega arith
weight_at_most false false = omega arith

weight_outside : (inside again : Bool) → inside ≡ false → cond inside 2 (cond again 1 0) ≤ 1
weight_outside true again e = absurd (cc)
weight_outside false true e = omega arith
weight_outside false false e = omega arith

weight_again : (inside again : Bool) → again ≡ true → 1 ≤ cond inside 2 (cond again 1 0)
weight_again true again e = omega arith
weight_again false true e = omega arith
weight_again false false e = absurd (cc)

pub few_more : (text : List ℕ) (token : TokenParts) → weight text token ≤ 2
few_more text token = weight_at_most (is_inside text token) (may_go_on text token)

is_end : (kind : Kind) → is_eof kind ≡ true → kind ≡ Eof
unfolding is_eof
is_end kind e = only_one kind Eof (or_left (is_eof kind) false e)

-- the end of the source is no other kind
pub not_end : (kind : Kind) → is_eof kind ≡ false → ¬ (kind ≡ Eof)
unfolding is_eof
not_end kind e is = absurd (let no : true ≡ false = sym (ap is_eof is) ∙ e in cc)

-- a row of a command that Reads on
row_read : (text : List ℕ) (t : SourceType) (s : State) (c : Command) (goal : Goal) (row : Row)
    → effect_of c ≡ Reads goal → IsRow text t s.now (Some c) row → IsRead text t s.now goal row
row_read text t s c goal row effect is = subst (λ e. IsOfEffect text t s.now e row) effect is.gives

-- the tokens behind it
tokens_read : (old new : SessionState) (c : Command) (goal : Goal) → effect_of c ≡ Reads goal → (a : AddsRow c old new)
    → new.state.now.tokens ≡ old.state.now.tokens ++ a.row.token ∷ []
tokens_read old new c goal effect a =
    ap (λ x. x.state.now.tokens) a.after ∙ ap (λ e. (after_row e a.row old.state).now.tokens) effect

-- Of a plain step behind an `Eof` inside the text, the token is none.
not_inside : (text : List ℕ) (token : TokenParts) → (is_eof token.kind ≡ true → token.end ≡ length text)
    → is_inside text token ≡ false
not_inside text token at_end = by_test (is_eof token.kind) refl
  where
    by_test : (end : Bool) → is_eof token.kind ≡ end → end && nat_lt token.end (length text) ≡ false
    by_test false e = refl
    by_test true e = le-ltb token.end (length text) (omega (arith, at_end e))

-- a token that was read on has less left from it
read_less : (text : List ℕ) (last token : TokenParts) → token.start ≤ length text → last.end ≤ token.start
    → last.start ≤ last.end → (is_eof last.kind ≡ false → last.start < last.end)
    → (is_eof last.kind ≡ true → last.end < length text)
    → (is_eof last.kind ≡ true → is_inside text token ≡ false) → left_from text token < left_from text last
read_less text last token within onward ordered some inside outside =
    elim (true_or_false (is_eof last.kind)) [
      | inl end ↦ (
          let two : ◌≡◌ {A = ℕ} (weight text last) 2 = rw (end, inside_true (inside end)) refl in
          let few = weight_outside (is_inside text token) (may_go_on text token) (outside end) in
          omega (arith, two, few, within, onward, ordered))
      | inr other ↦ omega (arith, few_more text token, within, onward, some other)
    ]
  where
    inside_true : last.end < length text → nat_lt last.end (length text) ≡ true
    inside_true less = lt-ltb last.end (length text) less

-- a step that Reads on
advance_on : (old new : SessionState) (c : Command) (goal : Goal) → IsUtf8 old.text
    → (l : LastLies old.text old.state.now.tokens) → effect_of c ≡ Reads goal → is_onward goal ≡ true
    → MayReadOn old.text goal l.last → AddsRow c old new → Advances old.text old.state.now.tokens new.state.now.tokens
advance_on old new c goal u l effect onward may a =
    let row = a.row in
    let read = row_read old.text old.source_type old.state c goal row effect a.is_row in
    let place : row.place ≡ l.last.end =
    a.is_row.place ∙ ap (λ o. (token_or_default o).end) l.is_last in
    let start : IsCharBoundary old.text row.place = subst (IsCharBoundary old.text) (sym place) l.lies.end in
    let on = row_onward old.text old.source_type old.state.now goal row onward u start read a.is_row.places in
    let is_last : last_or None new.state.now.tokens ≡ Some row.token =
    ap (last_or None) (tokens_read old new c goal effect a) ∙ last_or-push None old.state.now.tokens row.token in
    let less : left_from old.text row.token < left_from old.text l.last =
    read_less old.text l.last row.token on.lies.start.0 (omega (arith, on.onward, place)) l.lies.ordered
    (λ other. l.some_text (not_end l.last.kind other)) (λ end. may.inside (is_end l.last.kind end))
    (λ end. not_inside old.text row.token (λ at. plain_end old.text old.source_type (last_live old.state.now) row.place
    (outcome_of row) u
    (subst (λ g. GoalReads old.text old.source_type g (last_live old.state.now) row.place (outcome_of row))
    (may.plain (is_end l.last.kind end)) read.reads) (is_end row.token.kind at))) in
    record {
      last = record { last = row.token; is_last = is_last; lies = on.lies; some_text = on.some_text };
      less =
          subst (λ o. left_from old.text (token_or_default o) < left_of old.text old.state.now.tokens) (sym is_last)
          (subst (λ o. left_from old.text row.token < left_from old.text (token_or_default o)) (sym l.is_last) less);
    }

-- A row that was read again: its token starts where the last one does, and may not be read again.
record IsReadAgain (text : List ℕ) (last : TokenParts) (row : Row) : Type 0 where
  pub start : row.token.start ≡ last.start
  pub is : weight text row.token ≡ 0
  pub some_text : ¬ (row.token.kind ≡ Eof) → row.token.start < row.token.end

pub last_put : (tokens : List TokenParts) (last x : TokenParts) → last_or None tokens ≡ Some last
    → last_or None (with_last tokens x) ≡ Some x
last_put [] last x e = absurd cc
last_put (t ∷ ts) last x e = last_or-with_last None t ts x

advance_again : (text : List ℕ) (old new : List TokenParts) (l : LastLies text old) (row : Row)
    → IsOnPlaces text row.token → may_go_on text l.last ≡ true → IsReadAgain text l.last row
    → new ≡ with_last old row.token → Advances text old new
advance_again text old new l row lies was again is =
    let is_last : last_or None new ≡ Some row.token =
    ap (last_or None) is ∙ last_put old l.last row.token l.is_last in
    let one = weight_again (is_inside text l.last) (may_go_on text l.last) was in
    let less : left_from text row.token < left_from text l.last = omega (arith, one, again.is, again.start) in
    record {
      last = record { last = row.token; is_last = is_last; lies = lies; some_text = again.some_text };
      less =
          subst (λ o. left_from text (token_or_default o) < left_of text old) (sym is_last)
          (subst (λ o. left_from text row.token < left_from text (token_or_default o)) (sym l.is_last) less);
    }

-- What is known of the token that was read again: it is no name, is not the end, and may not be read again.
record IsSettled (kind : Kind) : Type 0 where
  pub end : is_eof kind ≡ false
  pub again : is_re_lexed kind ≡ false
  pub unnamed : is_identifier_name kind ≡ false

-- the kinds of what a template goes on with, and of a regular expression
record AreSettled : Type 0 where
  pub expression : IsSettled RegExp
  pub middle : IsSettled TemplateMiddle
  pub tail : IsSettled TailKind
  pub none : IsSettled Undetermined

are_settled : AreSettled
unfolding is_re_lexed is_eof is_identifier_name
are_settled = record {
  expression = record { end = refl; again = refl; unnamed = refl };
  middle = record { end = refl; again = refl; unnamed = refl };
  tail = record { end = refl; again = refl; unnamed = refl };
  none = record { end = refl; again = refl; unnamed = refl };
}

settled_weight : (text : List ℕ) (token : TokenParts) → IsSettled token.kind → weight text token ≡ 0
settled_weight text token is = rw (is.end, is.again, is.unnamed) refl

-- a token that fits a final goal may be read again
fits_go_on : (text : List ℕ) (goal : Goal) (last : TokenParts) → is_final goal ≡ true → fits text goal last ≡ true
    → may_go_on text last ≡ true
fits_go_on text TailGoal last final fit = rw (again_is_re_lexed TailGoal last.kind fit) refl
fits_go_on text RegularExpression last final fit = rw (again_is_re_lexed RegularExpression last.kind fit) refl
fits_go_on text JsxIdentifier last final fit = rw fit (or_right (is_re_lexed last.kind) true refl)
fits_go_on text First last final fit = absurd (cc)
fits_go_on text NextGoal last final fit = absurd (cc)
fits_go_on text RightAngle last final fit = absurd (cc)
fits_go_on text TypeScriptLeftAngle last final fit = absurd (cc)
fits_go_on text TypeScriptRightAngle last final fit = absurd (cc)
fits_go_on text JsxChild last final fit = absurd (cc)
fits_go_on text JsxAttributeValue last final fit = absurd (cc)

-- what is read of the next part of a template is settled
part_settled : (text : List ℕ) (start : ℕ) (o : Outcome) → ReadsPart text start o → IsSettled o.token.kind
part_settled text start o read =
    subst IsSettled (sym (ap (λ x. x.token.kind) read.outcome_is))
    (kind (from_place text start) read.behind read.here)
  where
    kind : (here behind : List ℕ) → here ≡ right_curly_bracket ∷ behind → IsSettled (next_part here).kind
    kind here behind e =
        subst (λ h. IsSettled (next_part h).kind) (sym e)
        (part_kind_is IsSettled TemplateMiddle TailKind are_settled.middle are_settled.tail are_settled.none
        right_curly_bracket behind)

-- behind a name of JSX no dash stands
no_dash_behind : (cs : List ℕ) → begins (λ c. c == hyphen_minus) (from_first ends_jsx_name cs) ≡ false
no_dash_behind [] = refl
no_dash_behind (c ∷ cs) =
    elim (true_or_false (ends_jsx_name c)) [
      | inl ends ↦ rw (from_first-found ends_jsx_name c cs ends) (no_dash c ends)
      | inr on ↦ rw (from_first-cons ends_jsx_name c cs on) (no_dash_behind cs)
    ]
  where
    no_dash : (c : ℕ) → ends_jsx_name c ≡ true → (c == hyphen_minus) ≡ false
    no_dash c ends =
        elim (true_or_false (c == hyphen_minus)) [
          | inl dash ↦ absurd (let no : ends_jsx_name c ≡ false =
              rw dash (ap not (or_right (is_identifier_part c) true refl)) in
              let both : true ≡ false = sym ends ∙ no in cc)
          | inr other ↦ other
        ]

name_lighter : (text : List ℕ) (token : TokenParts) → token.kind ≡ Ident
    → begins (λ c. c == hyphen_minus) (from_place text token.end) ≡ false → weight text token ≡ 0
unfolding is_re_lexed is_eof
name_lighter text token kind dash =
    rw (kind, dash) (ap (λ b. cond b 1 0) (and_right (is_identifier_name Ident) false refl))

name_weight : (text : List ℕ) (last : TokenParts) (o : Outcome) → ReadsJsxName text last o → weight text o.token ≡ 0
name_weight text last o read =
    let from = read.reads in
    let named : from.found ≡ jsx_name_up_to read.part (from_place text last.end)
    (from_first ends_jsx_name (from_place text last.end)) =
    found_name read.part (from_place text last.end) from.found from.read_is in
    let kind : o.token.kind ≡ Ident = ap (λ x. x.token.kind) from.outcome_is ∙ ap (λ r. r.kind) named in
    let dash : begins (λ c. c == hyphen_minus) (from_place text o.token.end) ≡ false =
    ap (begins (λ c. c == hyphen_minus)) (sym from.rest ∙ ap (λ r. r.rest) named)
    ∙ no_dash_behind (from_place text last.end) in
    name_lighter text o.token kind dash
  where
    found_name : (part behind : List ℕ) (found : Reading) → jsx_name_reading part behind ≡ Some found
        → found ≡ jsx_name_up_to part behind (from_first ends_jsx_name behind)
    found_name part behind found is =
        elim (true_or_false (begins (λ c. c == hyphen_minus) behind)) [
          | inl dash ↦ (let same : Some (jsx_name_up_to part behind (from_first ends_jsx_name behind)) ≡ Some found =
              sym (ap (λ b. if b then Some (jsx_name_up_to part behind
              (from_first ends_jsx_name behind)) else None) dash)
              ∙ is in cc)
          | inr none ↦ absurd (let no : None ≡ Some found =
              sym (ap (λ b. if b then Some (jsx_name_up_to part behind
              (from_first ends_jsx_name behind)) else None) none)
              ∙ is in cc)
        ]

-- What a final goal Reads again is read no more.
reads_finally : (text : List ℕ) (t : SourceType) (goal : Goal) (last : TokenParts) (place : ℕ) (o : Outcome)
    → is_final goal ≡ true → GoalReads text t goal (Some last) place o
    → (o.token.start ≡ last.start) × (weight text o.token ≡ 0)
reads_finally text t TailGoal last place o final read =
    (ap (λ x. x.token.start) read.outcome_is, settled_weight text o.token (part_settled text last.start o read))
reads_finally text t RegularExpression last place o final read =
    let kind : o.token.kind ≡ RegExp = expression_again text t (Some last) place o read in (
      ap (λ x. x.token.start) read.outcome_is,
      settled_weight text o.token (subst IsSettled (sym kind) are_settled.expression),
    )
reads_finally text t JsxIdentifier last place o final read =
    (ap (λ x. x.token.start) read.reads.outcome_is, name_weight text last o read)
reads_finally text t First last place o final read = absurd (cc)
reads_finally text t NextGoal last place o final read = absurd (cc)
reads_finally text t RightAngle last place o final read = absurd (cc)
reads_finally text t TypeScriptLeftAngle last place o final read = absurd (cc)
reads_finally text t TypeScriptRightAngle last place o final read = absurd (cc)
reads_finally text t JsxChild last place o final read = absurd (cc)
reads_finally text t JsxAttributeValue last place o final read = absurd (cc)

-- the row of a command that Reads again the last token, which fits
row_read_again : (old : SessionState) (c : Command) (goal : Goal) (row : Row) (last : TokenParts)
    → effect_of c ≡ ReLexes goal → last_or None old.state.now.tokens ≡ Some last → fits old.text goal last ≡ true
    → IsRow old.text old.source_type old.state.now (Some c) row
    → IsReLexed old.text old.source_type old.state.now goal row
row_read_again old c goal row last effect is fit is_row =
    subst (λ b. MatchBool b (IsReLexed old.text old.source_type old.state.now goal row) (IsNotTaken old.state.now row))
    (ap (λ o. fits old.text goal (token_or_default o)) is ∙ fit)
    (subst (λ e. IsOfEffect old.text old.source_type old.state.now e row) effect is_row.gives)

-- the tokens behind it
tokens_again : (old : SessionState) (c : Command) (goal : Goal) (row : Row) → effect_of c ≡ ReLexes goal
    → row.taken ≡ true → (after_row (effect_of c) row old.state).now.tokens ≡ with_last old.state.now.tokens row.token
tokens_again old c goal row effect taken =
    ap (λ e. (after_row e row old.state).now.tokens) effect ∙ taken_tokens goal row old.state taken
  where
    taken_tokens : (goal : Goal) (row : Row) (s : State) → row.taken ≡ true
        → (after_row (ReLexes goal) row s).now.tokens ≡ with_last s.now.tokens row.token
    taken_tokens goal row s taken = rw taken refl

same_last : (a b : TokenParts) → Some a ≡ Some b → a ≡ b
same_last a b e = cc

-- a step that is chosen
pub advance : (rule : Rule) → IsRule rule → (old new : SessionState) (c : Command) → IsUtf8 old.text
    → LastLies old.text old.state.now.tokens → rule old.text old.state.now.tokens ≡ Some c → AddsRow c old new
    → Advances old.text old.state.now.tokens new.state.now.tokens
advance rule law old new c u l e a = by_due (law old.text old.state.now.tokens c e)
  where
    by_due : IsDue old.text old.state.now.tokens c → Advances old.text old.state.now.tokens new.state.now.tokens
    by_due (reads_on goal effect onward later may) =
        advance_on old new c goal u l effect onward (may l.last l.is_last) a
    by_due (reads_again goal effect final last is_last fit) =
        let same : last ≡ l.last = same_last last l.last (sym is_last ∙ l.is_last) in
        let fits_it = fit u (subst (IsOnPlaces old.text) (sym same) l.lies) in
        let row = row_read_again old c goal a.row last effect is_last fits_it a.is_row in
        let read : GoalReads old.text old.source_type goal (Some last) (token_or_default
        (last_live old.state.now)).start
        (outcome_of a.row) =
        subst (λ o. GoalReads old.text old.source_type goal o (token_or_default (last_live old.state.now)).start
        (outcome_of a.row)) is_last row.reads in
        let span = goal_reads_span old.text old.source_type goal (Some last)
        (token_or_default (last_live old.state.now)).start (outcome_of a.row) u read in
        let finally = reads_finally old.text old.source_type goal last
        (token_or_default (last_live old.state.now)).start (outcome_of a.row) final read in
        let again : IsReadAgain old.text last a.row =
        record { start = finally.0; is = finally.1; some_text = span.some_text } in
        advance_again old.text old.state.now.tokens new.state.now.tokens l a.row a.is_row.places.token
        (subst (λ t. may_go_on old.text t ≡ true) same (fits_go_on old.text goal last final fits_it))
        (subst (λ t. IsReadAgain old.text t a.row) same again)
        (ap (λ x. x.state.now.tokens) a.after ∙ tokens_again old c goal a.row effect row.taken)

-- the tokens behind a step that is chosen
pub tokens_told : (rule : Rule) → IsRule rule → (old new : SessionState) (c : Command) → IsUtf8 old.text
    → ((last : TokenParts) → last_or None old.state.now.tokens ≡ Some last → IsOnPlaces old.text last)
    → rule old.text old.state.now.tokens ≡ Some c → (a : AddsRow c old new)
    → new.state.now.tokens ≡ with_token (effect_of c) old.state.now.tokens a.row.token
tokens_told rule law old new c u lie e a = by_due (law old.text old.state.now.tokens c e)
  where
    by_due : IsDue old.text old.state.now.tokens c
        → new.state.now.tokens ≡ with_token (effect_of c) old.state.now.tokens a.row.token
    by_due (reads_on goal effect onward later may) =
        tokens_read old new c goal effect a
        ∙ sym (ap (λ e. with_token e old.state.now.tokens a.row.token) effect)
    by_due (reads_again goal effect final last is_last fit) =
        ap (λ x. x.state.now.tokens) a.after
        ∙ tokens_again old c goal a.row effect (row_read_again old c goal a.row last effect is_last (fit u
        (lie last is_last)) a.is_row).taken
        ∙ sym (ap (λ e. with_token e old.state.now.tokens a.row.token) effect)

-- what is chosen for a text is chosen for the session over it
chosen_itself : (rule : Rule) (text : List ℕ) (s : SessionState) → s.text ≡ text → (c : Command)
    → rule text s.state.now.tokens ≡ Some c → rule s.text s.state.now.tokens ≡ Some c
chosen_itself rule text s is c e = ap (λ x. rule x s.state.now.tokens) is ∙ e

-- A session that has made the steps that were chosen so far: its rows answer them, and whatever answers more commands
-- from here, and is chosen from here, answers them and is chosen behind these.
pub record Goes (rule : Rule) (text : List ℕ) (t : SourceType) (collects : Bool) (commands : List Command)
    (s : SessionState) : Type 0 where
  pub text_is : s.text ≡ text
  pub type_is : s.source_type ≡ t
  pub collects_is : s.collects ≡ collects
  pub row : Row
  pub is_row : IsRow text t nothing_live None row
  pub rows : List Row
  pub rows_are : s.rows ≡ row ∷ rows
  pub continues : (left : List Command)
      → Continues text t (state_after_first row) (commands ++ left) rows s.state left
  pub chosen : (left : List Command) (more : List Row) → ChosenFrom (rule text) s.state left more
      → ChosenFrom (rule text) (state_after_first row) (commands ++ left) (rows ++ more)
  pub last : LastLies text s.state.now.tokens

pub goes_start : (rule : Rule) → (text : List ℕ) (t : SourceType) (collects : Bool) (s : SessionState) → IsUtf8 text
    → Begins text t collects s → Goes rule text t collects [] s
goes_start rule text t collects s u b =
    let start : IsCharBoundary text b.row.place =
    subst (IsCharBoundary text) (sym b.is_row.place) (IsCharBoundary-start text u) in
    let on = row_onward text t nothing_live First b.row refl u start b.is_row.gives b.is_row.places in
    rw b.after (record {
      text_is = refl;
      type_is = refl;
      collects_is = refl;
      row = b.row;
      is_row = b.is_row;
      rows = [];
      rows_are = refl;
      continues = continues_start text t (state_after_first b.row);
      chosen = λ left more h. h;
      last = record { last = b.row.token; is_last = refl; lies = on.lies; some_text = on.some_text };
    })

-- What a session is told of itself that is told of the text that it began with, and the other way round.
pub begun_itself : (text : List ℕ) (t : SourceType) (collects : Bool) (s : SessionState) → Begins text t collects s
    → Begins s.text s.source_type s.collects s
begun_itself text t collects s b = rw b.after (record { row = b.row; is_row = b.is_row; after = refl })

pub report_begun : (rule : Rule) → (text : List ℕ) (t : SourceType) (collects : Bool) (s : SessionState)
    (commands : List Command) (report : Report) → Begins text t collects s
    → ReportBy rule text s.source_type s.collects commands report → ReportBy rule text t collects commands report
report_begun rule text t collects s commands report b is =
    subst (λ (x : SessionState). ReportBy rule text x.source_type x.collects commands report) b.after is

-- the tokens of a session behind its first row
pub tokens_begun : (text : List ℕ) (t : SourceType) (collects : Bool) (s : SessionState) (b : Begins text t collects s)
    → s.state.now.tokens ≡ b.row.token ∷ []
tokens_begun text t collects s b = ap (λ x. x.state.now.tokens) b.after

pub goes_on : (rule : Rule) → IsRule rule → (text : List ℕ) (t : SourceType) (collects : Bool)
    (commands : List Command) (old new : SessionState)
    (c : Command) → IsUtf8 text → Goes rule text t collects commands old → rule text old.state.now.tokens ≡ Some c
    → AddsRow c old new → Goes rule text t collects (commands ++ c ∷ []) new
goes_on rule law text t collects commands old new c u g e a =
    let is : IsRow text t old.state.now (Some c) a.row = rw (g.text_is, g.type_is) at a.is_row in
    let step : Advances text old.state.now.tokens new.state.now.tokens =
    subst (λ x. Advances x old.state.now.tokens new.state.now.tokens) g.text_is
    (advance rule law old new c (subst IsUtf8 (sym g.text_is) u)
    (subst (λ x. LastLies x old.state.now.tokens) (sym g.text_is) g.last)
    (chosen_itself rule text old g.text_is c e) a) in
    let state : new.state ≡ after_row (effect_of c) a.row old.state = ap (λ x. x.state) a.after in
    record {
      text_is = ap (λ x. x.text) a.after ∙ g.text_is;
      type_is = ap (λ x. x.source_type) a.after ∙ g.type_is;
      collects_is = ap (λ x. x.collects) a.after ∙ g.collects_is;
      row = g.row;
      is_row = g.is_row;
      rows = g.rows ++ a.row ∷ [];
      rows_are = ap (λ x. x.rows) a.after ∙ ap (λ rs. rs ++ a.row ∷ []) g.rows_are;
      continues =
          λ left. subst (λ s. Continues text t (state_after_first g.row) ((commands ++ c ∷ []) ++ left)
          (g.rows ++ a.row ∷ []) s left) (sym state)
          (continues_step text t (state_after_first g.row) old.state ((commands ++ c ∷ []) ++ left) left g.rows c a.row
          (rule_steps rule law text old.state.now.tokens c e) is
          (subst (λ cs. Continues text t (state_after_first g.row) cs g.rows old.state (c ∷ left))
          (sym (append_assoc commands (c ∷ []) left)) (g.continues (c ∷ left))));
      chosen =
          λ left more h. subst (λ cs. ChosenFrom (rule text) (state_after_first g.row) cs
          ((g.rows ++ a.row ∷ []) ++ more))
          (sym (append_assoc commands (c ∷ []) left))
          (subst (ChosenFrom (rule text) (state_after_first g.row) (commands ++ c ∷ left))
          (sym (append_assoc g.rows (a.row ∷ []) more))
          (g.chosen (c ∷ left) (a.row ∷ more) (e, subst (λ s. ChosenFrom (rule text) s left more) state h)));
      last = step.last;
    }

-- less is left behind a step
pub goes_less : (rule : Rule) → IsRule rule → (text : List ℕ) (t : SourceType) (collects : Bool)
    (commands : List Command) (old new : SessionState)
    (c : Command) → IsUtf8 text → Goes rule text t collects commands old → rule text old.state.now.tokens ≡ Some c
    → AddsRow c old new → left_of text new.state.now.tokens < left_of text old.state.now.tokens
goes_less rule law text t collects commands old new c u g e a =
    subst (λ x. left_of x new.state.now.tokens < left_of x old.state.now.tokens) g.text_is
    (advance rule law old new c (subst IsUtf8 (sym g.text_is) u)
    (subst (λ x. LastLies x old.state.now.tokens) (sym g.text_is) g.last)
    (chosen_itself rule text old g.text_is c e) a).less

-- the report where no command is chosen
pub goes_end : (rule : Rule) → IsRule rule → (text : List ℕ) (t : SourceType) (collects : Bool)
    (commands : List Command) (s : SessionState)
    → IsUtf8 text → length text < 2 ^ 32 → Goes rule text t collects commands s → rule text s.state.now.tokens ≡ None
    → ReportBy rule text t collects commands (report_of s)
goes_end rule law text t collects commands s u short g stops =
    let ended = continues_end text t (state_after_first g.row) s.state commands g.rows
    (subst (λ cs. Continues text t (state_after_first g.row) cs g.rows s.state []) (append-nil commands)
    (g.continues [])) in
    let all : ChosenFrom (rule text) (state_after_first g.row) commands g.rows =
    subst (λ cs. ChosenFrom (rule text) (state_after_first g.row) cs g.rows) (append-nil commands)
    (subst (ChosenFrom (rule text) (state_after_first g.row) (commands ++ [])) (append-nil g.rows)
    (g.chosen [] [] stops)) in
    record {
      report_is =
          record {
            utf8 = u;
            short = short;
            rows = subst (AreRows text t commands) (sym g.rows_are) (g.is_row, ended.0);
            lists = sym (ap (live commands) g.rows_are ∙ ap (λ x. x.now) ended.1);
            collected_are = ap (λ c. all_collected c s.state.now.tokens) g.collects_is;
          };
      chosen = subst (AreChosenBy (rule text) commands) (sym g.rows_are) (are_chosen (rule text)
          (rule_steps rule law text) g.row commands g.rows all);
    }
