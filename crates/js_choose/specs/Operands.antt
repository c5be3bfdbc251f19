-- Tokens with which an operand may end.
use Rattle.std.specs.Prelude.{Bool, not, ◌&&◌, [], ◌∷◌}
use Rattle.js_kind.specs.Kinds.{is_one_of}
use Rattle.js_kind.specs.declared.kind.Kind.{Kind}
use Rattle.js_kind.specs.declared.kind.Kind.TheVariants.{JSXText, RAngle}
use Rattle.js_grammar.specs.TokensAround.{can_end_expression}

-- An expression may end with the token as far as comments go, but here none does.
unfoldable pub ends_only_jsx : Kind → Bool
ends_only_jsx kind = is_one_of (RAngle ∷ JSXText ∷ []) kind

-- An operand may end with a token of the kind: a `/` behind it divides.
abbrev pub ends_operand : Kind → Bool
ends_operand kind = can_end_expression kind && not (ends_only_jsx kind)
