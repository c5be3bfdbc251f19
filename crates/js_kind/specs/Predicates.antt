-- What a parser asks of the kind of a token at a place, beyond the classes of kinds.
use Rattle.std.specs.Prelude.{Bool, List, [], ◌∷◌, ◌&&◌, ◌||◌, not}
use Rattle.js_kind.specs.declared.kind.Kind.{Kind}
use Rattle.js_kind.specs.declared.kind.Kind.TheVariants as variant
use Rattle.js_kind.specs.KindRows.{contextual_word, typescript_word, number_literal}
use Rattle.js_kind.specs.Kinds.{is_kind, is_of, is_one_of, is_word}
use Rattle.js_kind.specs.Kinds.{is_identifier, is_identifier_name, is_literal, is_binary_operator}

-- the end of the source
unfoldable pub is_eof : Kind → Bool
is_eof kind = is_kind variant.Eof kind

-- words with a meaning of their own at some places, in JavaScript or in TypeScript
unfoldable pub is_contextual_keyword : Kind → Bool
is_contextual_keyword kind = is_of contextual_word kind || is_of typescript_word kind

-- the words that strict mode code reserves, without `let` and `yield` (ECMA-262 12.7.2)
abbrev pub future_reserved_words : List Kind
future_reserved_words =
    variant.Static ∷ variant.Implements ∷ variant.Interface ∷ variant.Package ∷ variant.Private
    ∷ variant.Protected ∷ variant.Public ∷ []

-- the kind is one of those words
unfoldable pub is_future_reserved_keyword : Kind → Bool
is_future_reserved_keyword kind = is_one_of future_reserved_words kind

-- the kind is one of those words, or `let`
unfoldable pub is_strict_mode_contextual_keyword : Kind → Bool
is_strict_mode_contextual_keyword kind = is_one_of (variant.Let ∷ future_reserved_words) kind

-- tokens of the kind may bind a name, with both of the grammar's parameters unset (ECMA-262 13.1, BindingIdentifier)
unfoldable pub is_binding_identifier : Kind → Bool
is_binding_identifier kind = is_identifier kind || is_kind variant.Yield kind || is_kind variant.Await kind

-- tokens of the kind are names where these of the grammar's parameters are set: `yield` is one where [Yield] is not,
-- and `await` where [Await] is not (ECMA-262 13.1, IdentifierReference and LabelIdentifier)
unfoldable pub is_identifier_reference : Bool → Bool → Kind → Bool
is_identifier_reference has_yield has_await kind =
    is_identifier kind
    || (is_kind variant.Yield kind && not has_yield)
    || (is_kind variant.Await kind && not has_await)

-- tokens of the kind are such names, and no words with a meaning of their own
unfoldable pub is_ts_identifier : Bool → Bool → Kind → Bool
is_ts_identifier has_yield has_await kind =
    is_identifier_reference has_yield has_await kind
    && not (is_strict_mode_contextual_keyword kind)
    && not (is_contextual_keyword kind)

-- after `let`, tokens of the kind begin a binding, so that the `let` is no name (ECMA-262 14.3.1): `{`, `[` and names,
-- but for the operators that are words
unfoldable pub is_after_let : Kind → Bool
is_after_let kind =
    (is_kind variant.LCurly kind || is_kind variant.LBrack kind || is_identifier_name kind)
    && not (is_kind variant.In kind || is_kind variant.Instanceof kind)

-- after `await` or `yield`, tokens of the kind begin an operand: literals and names that are no binary operators
unfoldable pub is_after_await_or_yield : Kind → Bool
is_after_await_or_yield kind = (is_literal kind || is_identifier_name kind) && not (is_binary_operator kind)

-- tokens of the kind are names of properties, computed ones left out (ECMA-262 13.2.5, LiteralPropertyName)
unfoldable pub is_literal_property_name : Kind → Bool
is_literal_property_name kind =
    is_kind variant.Ident kind || is_word kind || is_kind variant.Str kind || is_of number_literal kind

-- tokens of the kind are such names or private names
unfoldable pub is_identifier_or_keyword : Kind → Bool
is_identifier_or_keyword kind = is_literal_property_name kind || is_kind variant.PrivateIdentifier kind

-- the kinds of unary operators
abbrev pub unary_operators : List Kind
unary_operators =
    variant.Minus ∷ variant.Plus ∷ variant.Bang ∷ variant.Tilde ∷ variant.Typeof ∷ variant.Void ∷ variant.Delete ∷ []

-- tokens of the kind are unary operators (ECMA-262 13.5)
unfoldable pub is_unary_operator : Kind → Bool
is_unary_operator kind = is_one_of unary_operators kind

-- tokens of the kind are update operators (ECMA-262 13.4)
unfoldable pub is_update_operator : Kind → Bool
is_update_operator kind = is_one_of (variant.Plus2 ∷ variant.Minus2 ∷ []) kind

-- tokens of the kind begin a template (ECMA-262 13.3.11)
unfoldable pub is_template_start_of_tagged_template : Kind → Bool
is_template_start_of_tagged_template kind =
    is_one_of (variant.NoSubstitutionTemplate ∷ variant.TemplateHead ∷ []) kind

-- the modifiers of TypeScript's declarations and members
abbrev pub modifiers : List Kind
modifiers =
    variant.Abstract ∷ variant.Accessor ∷ variant.Async ∷ variant.Const ∷ variant.Declare ∷ variant.In ∷ variant.Out
    ∷ variant.Public ∷ variant.Private ∷ variant.Protected ∷ variant.Readonly ∷ variant.Static ∷ variant.Override
    ∷ variant.Default ∷ variant.Export ∷ []

-- tokens of the kind are modifiers
unfoldable pub is_modifier_kind : Kind → Bool
is_modifier_kind kind = is_one_of modifiers kind

-- tokens of the kind begin a binding or are private names
unfoldable pub is_binding_identifier_or_private_identifier_or_pattern : Kind → Bool
is_binding_identifier_or_private_identifier_or_pattern kind =
    is_kind variant.LCurly kind || is_kind variant.LBrack kind || is_kind variant.PrivateIdentifier kind
    || is_binding_identifier kind
