-- The last of some tokens, and those before it.
use Rattle.std.specs.Prelude.{ℕ, List, [], ◌∷◌, Option, None, option_map, slice_get, unwrap_or}
use Rattle.std.specs.List.{last_or}
use Rattle.js_kind.specs.TokenParts.{TokenParts}
use Rattle.js_kind.specs.declared.kind.Kind.{Kind}
use Rattle.js_kind.specs.declared.kind.Kind.TheVariants.{Eof}
use Rattle.js_lexer.specs.Lexer.{token_or_default}

-- all tokens but the last one
abbrev pub but_last : List TokenParts → List TokenParts
but_last [] = []
but_last (token ∷ []) = []
but_last (token ∷ next ∷ tokens) = token ∷ but_last (next ∷ tokens)

-- the kind of the last token, if there is one
abbrev pub last_kind : List TokenParts → Option Kind
last_kind tokens = option_map (λ token. token.kind) (last_or None tokens)

-- the kind of the token before the last one, and `Eof`, with which no operand ends, where there is none
abbrev pub kind_before : List TokenParts → Kind
kind_before tokens = unwrap_or (last_kind (but_last tokens)) Eof

-- the byte of the text behind the last token, if there is one
abbrev pub byte_behind : List ℕ → List TokenParts → Option ℕ
byte_behind text tokens = slice_get text (token_or_default (last_or None tokens)).end
