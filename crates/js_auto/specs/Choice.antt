-- Which command comes next, by the tokens so far.
use Rattle.std.specs.Prelude.{ℕ, Bool, not, ◌&&◌, List, Option, Some, None, if◌then◌else◌}
use Rattle.js_kind.specs.Kinds.{is_one_of}
use Rattle.js_kind.specs.Predicates.{is_eof}
use Rattle.js_kind.specs.TokenParts.{TokenParts}
use Rattle.js_kind.specs.declared.kind.Kind.{Kind}
use Rattle.js_grammar.specs.ReLexed.{again_kinds}
use Rattle.js_grammar.specs.declared.goal.Goal.TheVariants.{RegularExpression, TemplateTail as TailGoal}
use Rattle.js_session.specs.declared.command.Command.{Command}
use Rattle.js_session.specs.declared.command.Command.TheVariants.{Next, Regex, TemplateTail}
use Rattle.js_choose.specs.LastTokens.{but_last, kind_before, last_kind}
use Rattle.js_choose.specs.Operands.{ends_operand}
use Rattle.js_auto.specs.declared.brace.Brace.{Brace}
use Rattle.js_auto.specs.Braces.{braces, is_in_substitution}

-- a `}` ends the substitution of a template, where these braces are open before it
abbrev pub ends_substitution : List Brace → Kind → Bool
ends_substitution stack kind = is_one_of (again_kinds TailGoal) kind && is_in_substitution stack

-- a `/` or `/=` begins a regular expression behind a token of the kind
abbrev pub begins_expression : Kind → Kind → Bool
begins_expression before kind = is_one_of (again_kinds RegularExpression) kind && not (ends_operand before)

-- The command behind a last token of the kind, where these braces are open before it and the token before it is of this
-- kind. None: no command follows. Where there is no token yet, one is read.
abbrev pub choice_behind : List Brace → Kind → Option Kind → Option Command
choice_behind stack before None = Some Next
choice_behind stack before (Some last) =
    if is_eof last then None
    else if ends_substitution stack last then Some TemplateTail
    else if begins_expression before last then Some Regex
    else Some Next

-- the command behind these tokens; None: no command follows
abbrev pub choice : List TokenParts → Option Command
choice tokens = choice_behind (braces (but_last tokens)) (kind_before tokens) (last_kind tokens)

-- the same, behind these tokens of any text
abbrev pub choice_in : List ℕ → List TokenParts → Option Command
choice_in text tokens = choice tokens

-- What is kept of the tokens so far: the braces that are open before the last one, the kind of the one before the last
-- one, and that of the last one.
pub record Chooser : Type 0 where
  pub stack : List Brace
  pub before : Kind
  pub last : Option Kind

abbrev pub chooser_of : List TokenParts → Chooser
chooser_of tokens =
    record { stack = braces (but_last tokens); before = kind_before tokens; last = last_kind tokens }

-- the same once the last token is passed: the braces are those that are open behind it
abbrev pub chooser_behind : List TokenParts → Chooser
chooser_behind tokens = record { stack = braces tokens; before = kind_before tokens; last = last_kind tokens }

-- the last one, where it is known whether there is one
abbrev pub kept_last : Bool → Kind → Option Kind
kept_last has_last last = if has_last then Some last else None
