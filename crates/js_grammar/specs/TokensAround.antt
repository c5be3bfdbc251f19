-- What attachment asks of the kinds of the tokens around a gap.
use Rattle.std.specs.Prelude.{Bool, List, [], ◌∷◌, ◌||◌}
use Rattle.js_kind.specs.declared.kind.Kind.{Kind}
use Rattle.js_kind.specs.declared.kind.Kind.TheVariants as variant
use Rattle.js_kind.specs.Kinds.{is_one_of, is_identifier, is_literal, is_binary_operator, is_logical_operator}
use Rattle.js_kind.specs.Kinds.{is_assignment_operator}

-- the end of the source
unfoldable pub is_eof : Kind → Bool
is_eof kind = is_one_of (variant.Eof ∷ []) kind

-- no token
unfoldable pub is_undetermined : Kind → Bool
is_undetermined kind = is_one_of (variant.Undetermined ∷ []) kind

-- the kinds of tokens, beside identifiers and literals, with which an expression may end
abbrev pub ends_of_expressions : List Kind
ends_of_expressions =
    variant.PrivateIdentifier ∷ variant.This ∷ variant.Super ∷ variant.RParen ∷ variant.RBrack ∷ variant.RCurly
    ∷ variant.RAngle ∷ variant.Plus2 ∷ variant.Minus2 ∷ variant.NoSubstitutionTemplate ∷ variant.TemplateTail
    ∷ variant.JSXText ∷ []

-- the token is one of these
unfoldable pub is_end_of_expression : Kind → Bool
is_end_of_expression kind = is_one_of ends_of_expressions kind

-- an expression may end with this token
abbrev pub can_end_expression : Kind → Bool
can_end_expression kind = is_identifier kind || (is_literal kind || is_end_of_expression kind)

-- an operator between two operands, which goes on with an expression
abbrev pub continues_expression : Kind → Bool
continues_expression kind = is_binary_operator kind || (is_logical_operator kind || is_assignment_operator kind)

-- a line comment right after it belongs to what follows
unfoldable pub keeps_line_comment_leading : Kind → Bool
keeps_line_comment_leading kind = is_one_of (variant.Eq ∷ variant.LParen ∷ variant.Colon ∷ []) kind
