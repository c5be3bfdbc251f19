-- What is known behind tokens, and what it tells of the commands that come next.
use Rattle.std.specs.Prelude.{◌≡◌, ℕ, true, false, List, [], ◌∷◌, ◌++◌, Option, Some, None, map}
use Rattle.std.specs.List.{last_or}
use Rattle.js_kind.specs.Kinds.{is_one_of}
use Rattle.js_kind.specs.TokenParts.{TokenParts}
use Rattle.js_kind.specs.declared.kind.Kind.{Kind}
use Rattle.js_grammar.specs.ReLexed.{again_kinds, is_re_lexed}
use Rattle.js_grammar.specs.declared.goal.Goal.TheVariants.{RegularExpression}
use Rattle.js_choose.specs.LastTokens.{but_last, byte_behind, kind_before, last_kind}
use Rattle.js_choose.specs.Operands.{ends_operand}
use Rattle.js_choose.specs.Rules.{Rule}
use Rattle.js_session.specs.declared.command.Effect.{Effect}
use Rattle.js_session.specs.declared.command.Effect.TheVariants.{Reads, Peeks, ReLexes, Opens, Rewinds, Commits}
use Rattle.js_text.specs.Lists.{with_last}
use Rattle.js_relex.specs.Joined.{at_start}
use Rattle.js_auto.specs.Braces.{braces}
use Rattle.js_auto.specs.declared.brace.Brace.{Brace}
use Rattle.js_auto.specs.declared.brace.Brace.TheVariants.{Block, Template}
use Rattle.js_document.specs.declared.open.Node.{Node}
use Rattle.js_document.specs.declared.auto_state.AutoState.{AutoState}
use Rattle.js_document.specs.Trie.{IsOpen}

-- the last of the tokens, of which there is one
abbrev pub IsLast : TokenParts → List TokenParts → Type 0
IsLast last tokens = last_or None tokens ≡ Some last

-- Tokens behind which a rule chooses the same as behind others, and so it does as long as the same tokens follow both,
-- wherever they stand, and the same bytes follow these.
abbrev pub Alikeness : Type 1
Alikeness = List TokenParts → List TokenParts → Type 0

-- where the same byte follows, the same command is chosen
abbrev pub ChoosesAlike : Rule → Alikeness → Type 0
ChoosesAlike rule Alike =
    (text other : List ℕ) (tokens others : List TokenParts) → Alike tokens others
    → byte_behind text tokens ≡ byte_behind other others → rule text tokens ≡ rule other others

-- tokens are like themselves
abbrev pub AlikeItself : Alikeness → Type 0
AlikeItself Alike = (tokens : List TokenParts) → Alike tokens tokens

-- behind a token more, of the same kind and flags
abbrev pub AlikeBehind : Alikeness → Type 0
AlikeBehind Alike =
    (tokens others : List TokenParts) (token other : TokenParts) → Alike tokens others → at_start token ≡ at_start other
    → Alike (tokens ++ token ∷ []) (others ++ other ∷ [])

-- behind a token in the place of the last one, which none reads again
abbrev pub AlikeAgain : Alikeness → Type 0
AlikeAgain Alike =
    (tokens others : List TokenParts) (token other : TokenParts) → Alike tokens others → at_start token ≡ at_start other
    → is_re_lexed token.kind ≡ false → Alike (with_last tokens token) (with_last others other)

-- What is known of tokens is known of those that are like them.
abbrev pub KnowsAlike : {K : Type 0} → (List Node → K → List TokenParts → Type 0) → Alikeness → Type 0
KnowsAlike {K} knows Alike =
    (nodes : List Node) (state : K) (tokens others : List TokenParts) → knows nodes state others → Alike tokens others
    → knows nodes state tokens

-- A token of the effect is read no more, if it was read again.
abbrev pub Settles : Effect → TokenParts → Type 0
Settles (Reads goal) token = Unit {0}
Settles (Peeks goal) token = Unit {0}
Settles (ReLexes goal) token = is_re_lexed token.kind ≡ false
Settles Opens token = Unit {0}
Settles Rewinds token = Unit {0}
Settles Commits token = Unit {0}

-- the number of a brace among the scopes
abbrev pub brace_scope : Brace → ℕ
brace_scope Block = 0
brace_scope Template = 1

-- a `/` or `/=` is the last token
abbrev pub may_begin_expression : Option Kind → Type 0
may_begin_expression None = ⊥
may_begin_expression (Some kind) = is_one_of (again_kinds RegularExpression) kind ≡ true

-- What the rule of js_auto knows of the tokens before the last one: which braces are open, and, where the last one is a
-- `/` or `/=`, whether an operand has ended.
pub record KnowsBraces (nodes : List Node) (state : AutoState) (tokens : List TokenParts) : Type 0 where
  pub opened : IsOpen nodes state.link (map brace_scope (braces (but_last tokens)))
  pub operand : may_begin_expression (last_kind tokens) → ends_operand state.before ≡ ends_operand (kind_before tokens)

-- The same braces are open before the last token, which is of the same kind, and before a `/` or `/=` an operand has
-- ended in both or in none.
pub record SameBraces (tokens others : List TokenParts) : Type 0 where
  pub opened : braces (but_last tokens) ≡ braces (but_last others)
  pub last : last_kind tokens ≡ last_kind others
  pub operand : may_begin_expression (last_kind tokens)
      → ends_operand (kind_before tokens) ≡ ends_operand (kind_before others)
