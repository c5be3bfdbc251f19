-- Which commands are chosen, and that each of them may come.
use Rattle.std.proofs.Common.{◌≡◌, ℕ, Bool, true, false, List, refl, sym, ◌∙◌, ap, Option, Some, None}
use Rattle.std.proofs.lemmas.Bool.{and_parts}
use Rattle.std.specs.List.{last_or}
use Rattle.std.specs.Prelude.{option_map, if◌then◌else◌}
use Rattle.js_kind.specs.Kinds.{is_one_of}
use Rattle.js_kind.specs.Predicates.{is_eof}
use Rattle.js_kind.specs.TokenParts.{TokenParts}
use Rattle.js_grammar.specs.ReLexed.{again_kinds}
use Rattle.js_grammar.specs.declared.goal.Goal.TheVariants.{Next as NextGoal, RegularExpression}
use Rattle.js_grammar.specs.declared.goal.Goal.TheVariants.{TemplateTail as TailGoal}
use Rattle.js_session.specs.declared.command.Command.{Command}
use Rattle.js_session.specs.declared.command.Command.TheVariants.{Next, Regex, TemplateTail}
use Rattle.js_session.specs.Effects.{effect_of, is_step}
use Rattle.js_choose.specs.LastTokens.{but_last, kind_before}
use Rattle.js_choose.specs.Rules.{IsDue, IsRule, MayReadOn}
use Rattle.js_choose.specs.Rules.IsDue.{reads_on, reads_again}
use Rattle.js_auto.specs.Choice.{begins_expression, choice, choice_behind, choice_in, ends_substitution}
use Rattle.js_auto.specs.Braces.{braces, is_in_substitution}

-- the last token, if there is one, is not the end of the source
abbrev pub GoesOn : List TokenParts → Type 0
GoesOn tokens = (last : TokenParts) → last_or None tokens ≡ Some last → is_eof last.kind ≡ false

-- Which command is chosen behind these tokens, and what is known of the last one.
pub data Chosen (tokens : List TokenParts) (c : Command) : Type 0 where
  reads : c ≡ Next → GoesOn tokens → Chosen tokens c
  reads_expression : c ≡ Regex → (last : TokenParts) → last_or None tokens ≡ Some last
      → is_one_of (again_kinds RegularExpression) last.kind ≡ true → Chosen tokens c
  reads_part : c ≡ TemplateTail → (last : TokenParts) → last_or None tokens ≡ Some last
      → is_one_of (again_kinds TailGoal) last.kind ≡ true → Chosen tokens c

same_token : (a b : TokenParts) → Some a ≡ Some b → a ≡ b
same_token a b e = cc

pub chosen_by : (tokens : List TokenParts) (c : Command) → choice tokens ≡ Some c → Chosen tokens c
chosen_by tokens c e = by_last (last_or None tokens) refl e
  where
    by_tests : (end tail regex : Bool) (last : TokenParts) → last_or None tokens ≡ Some last
        → is_eof last.kind ≡ end → ends_substitution (braces (but_last tokens)) last.kind ≡ tail
        → begins_expression (kind_before tokens) last.kind ≡ regex
        → (if end then None else if tail then Some TemplateTail else if regex then Some Regex else Some Next) ≡ Some c
        → Chosen tokens c
    by_tests true tail regex last is e1 e2 e3 e = absurd cc
    by_tests false true regex last is e1 e2 e3 e =
        let both =
        and_parts (is_one_of (again_kinds TailGoal) last.kind) (is_in_substitution (braces (but_last tokens))) e2 in
        reads_part (cc) last is both.0
    by_tests false false true last is e1 e2 e3 e =
        let both = and_parts (is_one_of (again_kinds RegularExpression) last.kind) _ e3 in
        reads_expression (cc) last is both.0
    by_tests false false false last is e1 e2 e3 e =
        let is_next : c ≡ Next = cc in
        let no_end : GoesOn tokens =
        λ other l. ap (λ (t : TokenParts). is_eof t.kind) (same_token other last (sym l ∙ is)) ∙ e1 in
        reads is_next no_end

    by_last : (o : Option TokenParts) → last_or None tokens ≡ o
        → choice_behind (braces (but_last tokens)) (kind_before tokens) (option_map (λ t. t.kind) o) ≡ Some c
        → Chosen tokens c
    by_last None is e =
        let is_next : c ≡ Next = cc in
        let no_end : GoesOn tokens = λ last l. absurd (let no : None ≡ Some last = sym is ∙ l in cc) in
        reads is_next no_end
    by_last (Some last) is e = by_tests (is_eof last.kind) _ _ last is refl refl refl e

-- behind a last token that is not the end the next one may be read
may_read_on : (text : List ℕ) (tokens : List TokenParts) → GoesOn tokens → (last : TokenParts)
    → last_or None tokens ≡ Some last → MayReadOn text NextGoal last
unfolding is_eof
may_read_on text tokens on last is =
    record {
      plain = λ end. refl;
      inside = λ end. absurd (let no : true ≡ false = sym (ap is_eof end) ∙ on last is in
          cc);
    }

-- each command that is chosen gives a row
pub chosen_is_step : (tokens : List TokenParts) (c : Command) → choice tokens ≡ Some c → is_step c ≡ true
chosen_is_step tokens c e = by_choice (chosen_by tokens c e)
  where
    by_choice : Chosen tokens c → is_step c ≡ true
    by_choice (reads is _) = ap is_step is
    by_choice (reads_expression is _ _ _) = ap is_step is
    by_choice (reads_part is _ _ _) = ap is_step is

-- each command that is chosen may come
pub each_is_due : IsRule choice_in
each_is_due text tokens c e = by_choice (chosen_by tokens c e)
  where
    by_choice : Chosen tokens c → IsDue text tokens c
    by_choice (reads is on) =
        reads_on NextGoal (ap effect_of is) refl (λ first. cc) (may_read_on text tokens on)
    by_choice (reads_expression is last at fit) =
        reads_again RegularExpression (ap effect_of is) refl last at (λ _ _. fit)
    by_choice (reads_part is last at fit) = reads_again TailGoal (ap effect_of is) refl last at (λ _ _. fit)
