-- The texts of tokens, without their marks, and the values of those without an escape.
use Rattle.std.specs.Prelude.{ℕ, ◌+◌, ◌-◌, Bool, ◌==◌, ◌||◌, [], ◌∷◌, if◌then◌else◌}
use Rattle.js_text.specs.declared.value.RowValue.{RowValue}
use Rattle.js_text.specs.declared.value.RowValue.TheVariants.{Nothing, Slice}
use Rattle.js_kind.specs.Kinds.{number as kind_number, is_identifier_name, is_string_kind, is_template_kind, is_one_of}
use Rattle.js_kind.specs.declared.kind.Kind.{Kind}
use Rattle.js_kind.specs.declared.kind.Kind.TheVariants.{PrivateIdentifier, TemplateHead, TemplateMiddle}

-- tokens of the kind are private names
unfoldable pub is_private_name : Kind → Bool
is_private_name kind = kind_number kind == kind_number PrivateIdentifier

-- tokens of the kind are names, private or not
abbrev pub is_named : Kind → Bool
is_named kind = is_identifier_name kind || is_private_name kind

-- tokens of the kind are strings or parts of templates
abbrev pub is_quoted : Kind → Bool
is_quoted kind = is_string_kind kind || is_template_kind kind

-- tokens of the kind have a value
abbrev pub is_valued : Kind → Bool
is_valued kind = is_named kind || is_quoted kind

-- the length of the mark that ends a string or a part of a template: a quote, a backquote, or `${`
abbrev pub closing_length : Kind → ℕ
closing_length kind = if is_one_of (TemplateHead ∷ TemplateMiddle ∷ []) kind then 2 else 1

-- Where the text of a token begins that starts there: behind the `#` of a private name, and behind the mark that begins
-- a string or a part of a template.
abbrev pub text_start : Kind → ℕ → ℕ
text_start kind start = if is_private_name kind || is_quoted kind then start + 1 else start

-- Where the text of a token ends that ends there: before the mark that ends a string or a part of a template.
abbrev pub text_end : Kind → ℕ → ℕ
text_end kind end = if is_quoted kind then end - closing_length kind else end

-- the text of a token from start to end, without its marks, as it stands in the source, each CR as a CR
abbrev pub text_slice : Kind → ℕ → ℕ → RowValue
text_slice kind start end = Slice (record { start = text_start kind start; end = text_end kind end })

-- The value of a token without an escape: of a name, a string or a part of a template its text as it stands in the
-- source; of another token none.
abbrev pub unescaped_value : Kind → ℕ → ℕ → RowValue
unescaped_value kind start end = if is_valued kind then text_slice kind start end else Nothing
