-- The braces that are open behind tokens.
use Rattle.std.specs.Prelude.{Bool, true, false, List, [], ◌∷◌, ◌==◌, drop, Option, Some, None, slice_get}
use Rattle.std.specs.Prelude.{if◌then◌else◌}
use Rattle.js_kind.specs.Kinds.{number}
use Rattle.js_kind.specs.TokenParts.{TokenParts}
use Rattle.js_kind.specs.declared.kind.Kind.{Kind}
use Rattle.js_kind.specs.declared.kind.Kind.TheVariants.{LCurly, RCurly, TemplateHead, TemplateTail}
use Rattle.js_auto.specs.declared.brace.Brace.{Brace}
use Rattle.js_auto.specs.declared.brace.Brace.TheVariants.{Block, Template}
use Rattle.js_auto.specs.declared.brace.BraceEffect.{BraceEffect}
use Rattle.js_auto.specs.declared.brace.BraceEffect.TheVariants.{Opens, ClosesBlock, ClosesAny, Leaves}

-- what a token of the kind does to the braces that are open
unfoldable pub effect_of : Kind → BraceEffect
effect_of kind =
    if number kind == number LCurly then Opens Block
    else if number kind == number TemplateHead then Opens Template
    else if number kind == number RCurly then ClosesBlock
    else if number kind == number TemplateTail then ClosesAny
    else Leaves

-- the brace is that of a substitution
abbrev pub is_substitution : Option Brace → Bool
is_substitution None = false
is_substitution (Some Block) = false
is_substitution (Some Template) = true

-- The brace that was opened last is that of a substitution in a template. It is the first of the list.
abbrev pub is_in_substitution : List Brace → Bool
is_in_substitution stack = is_substitution (slice_get stack 0)

-- the braces without the one that was opened last, where that is one of a block
abbrev pub without_block : List Brace → List Brace
without_block stack = if is_in_substitution stack then stack else drop 1 stack

-- the braces that are open behind a token with this effect, where these were open before it
abbrev pub after_effect : BraceEffect → List Brace → List Brace
after_effect (Opens brace) stack = brace ∷ stack
after_effect ClosesBlock stack = without_block stack
after_effect ClosesAny stack = drop 1 stack
after_effect Leaves stack = stack

-- the same behind a last token of the kind, if there is one
abbrev pub open_behind : Option Kind → List Brace → List Brace
open_behind None stack = stack
open_behind (Some kind) stack = after_effect (effect_of kind) stack

-- the braces that are open behind these tokens, where these were open before them
abbrev pub braces_from : List Brace → List TokenParts → List Brace
braces_from stack [] = stack
braces_from stack (token ∷ tokens) = braces_from (after_effect (effect_of token.kind) stack) tokens

-- the braces that are open behind these tokens; none is at first
abbrev pub braces : List TokenParts → List Brace
braces tokens = braces_from [] tokens
