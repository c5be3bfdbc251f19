-- The classes of comments by what is in them, and which of them keep a comment before what it speaks of.
use Rattle.std.specs.Prelude.{ℕ, Bool, true, false, ◌&&◌, ◌||◌, ◌==◌, List, [], ◌∷◌, codes, nat_le, drop, length}
use Rattle.std.specs.Prelude.{if◌then◌else◌}
use Rattle.std.specs.List.{list_all, starts_with}
use Rattle.std.specs.Str.{bytes_eq, trim}
use Rattle.js_text.specs.Ascii.{asterisk}
use Rattle.js_text.specs.Characters.{begins}
use Rattle.js_text.specs.declared.comment.CommentContent.{CommentContent}
use Rattle.js_text.specs.declared.comment.CommentContent.TheVariants as variant

-- legal comments and annotations belong to what follows
abbrev pub stays_leading : CommentContent → Bool
stays_leading variant.None = false
stays_leading variant.Legal = true
stays_leading variant.Jsdoc = false
stays_leading variant.JsdocLegal = true
stays_leading variant.Pure = true
stays_leading variant.PureNotApplied = true
stays_leading variant.NoSideEffects = true
stays_leading variant.NoSideEffectsNotApplied = true
stays_leading variant.Webpack = false
stays_leading variant.Vite = false
stays_leading variant.CoverageIgnore = false
stays_leading variant.CoverageIgnoreFile = false
stays_leading variant.Turbopack = false
stays_leading variant.PropertyKey = true

-- the text begins with these bytes
abbrev pub begins_with : List ℕ → List ℕ → Bool
begins_with mark text = starts_with (λ a b. a == b) text mark

-- the text begins with one of two marks
abbrev pub begins_with_either : List ℕ → List ℕ → List ℕ → Bool
begins_with_either first second text = begins_with first text || begins_with second text

-- `@license` or `@preserve` stands somewhere in the text
abbrev pub is_licensed : List ℕ → Bool
is_licensed [] = false
is_licensed (b ∷ bs) = begins_with_either (codes "@license") (codes "@preserve") (b ∷ bs) || is_licensed bs

-- SP, TAB, LF, FF and CR
unfoldable pub is_blank : ℕ → Bool
is_blank b = (b == 32) || ((b == 9) || ((b == 10) || ((b == 12) || (b == 13))))

-- what is left from the first byte on that is not blank
abbrev pub without_blanks : List ℕ → List ℕ
without_blanks [] = []
without_blanks (b ∷ bs) = if is_blank b then without_blanks bs else b ∷ bs

-- the byte is an ASCII capital
unfoldable pub is_capital : ℕ → Bool
is_capital b = nat_le 65 b && nat_le b 90

-- the byte is no ASCII
unfoldable pub is_beyond_ascii : ℕ → Bool
is_beyond_ascii b = nat_le 128 b

-- the name of a tool, and then a capital
abbrev pub is_hint_for : List ℕ → List ℕ → Bool
is_hint_for tool text = begins_with tool text && begins is_capital (drop (length tool) text)

-- the text, without white space around it, is the mark of a key of a property
abbrev pub is_key_sign : List ℕ → Bool
is_key_sign content = bytes_eq (trim content) (codes "@__KEY__") || bytes_eq (trim content) (codes "#__KEY__")

-- it may be such a mark
abbrev pub may_mark_key : List ℕ → Bool
may_mark_key text = begins_with_either (codes "@__KEY__") (codes "#__KEY__") text || begins is_beyond_ascii text

-- there is no byte
abbrev pub is_empty : List ℕ → Bool
is_empty text = length text == 0

-- the text has this one byte and no other
abbrev pub is_alone_with : List ℕ → List ℕ → Bool
is_alone_with mark text = (length text == 1) && begins_with mark text

-- the text is at its end, or goes on with a blank
abbrev pub ends_or_is_blank : List ℕ → Bool
ends_or_is_blank [] = true
ends_or_is_blank (b ∷ bs) = is_blank b

-- the text begins with these words, and with no longer ones
abbrev pub is_word : List ℕ → List ℕ → Bool
is_word words text = begins_with words text && ends_or_is_blank (drop (length words) text)

-- the text speaks to a tool that measures coverage
abbrev pub is_for_coverage : List ℕ → Bool
is_for_coverage text =
    begins_with_either (codes "v8 ignore") (codes "c8 ignore") text
    || begins_with_either (codes "node:coverage") (codes "istanbul ignore") text

-- it takes the whole file out of coverage
abbrev pub is_for_whole_file : List ℕ → Bool
is_for_whole_file text = is_word (codes "v8 ignore file") text || is_word (codes "istanbul ignore file") text

-- there is no byte but `*`
abbrev pub has_stars_alone : List ℕ → Bool
has_stars_alone content = list_all (λ b. b == asterisk) content

-- the class of a block comment that begins with a further `*`
abbrev pub documentation_class : List ℕ → CommentContent
documentation_class content =
    if has_stars_alone content then variant.None
    else if is_licensed content then variant.JsdocLegal
    else variant.Jsdoc

-- the last two cases: annotations, and licences anywhere
abbrev pub annotation_class : List ℕ → List ℕ → CommentContent
annotation_class content text =
    if begins_with_either (codes "@__PURE__") (codes "#__PURE__") text then variant.PureNotApplied
    else if begins_with_either (codes "@__NO_SIDE_EFFECTS__") (codes "#__NO_SIDE_EFFECTS__") text
    then variant.NoSideEffectsNotApplied
    else if is_licensed content then variant.Legal
    else variant.None

-- before these: hints for tools
abbrev pub tool_class : List ℕ → List ℕ → CommentContent
tool_class content text =
    if is_hint_for (codes "webpack") text then variant.Webpack
    else if is_hint_for (codes "turbopack") text then variant.Turbopack
    else if is_for_coverage text
    then (if is_for_whole_file text then variant.CoverageIgnoreFile else variant.CoverageIgnore)
    else annotation_class content text

-- before these: keys of properties, and words behind an `@`; text is the content without the blanks in front
abbrev pub worded_class : List ℕ → List ℕ → CommentContent
worded_class content text =
    if is_empty text then variant.None
    else if may_mark_key text && is_key_sign content then variant.PropertyKey
    else if is_alone_with (codes "@") text then variant.None
    else if begins_with (codes "@vite") text then variant.Vite
    else if begins_with_either (codes "@license") (codes "@preserve") text then variant.Legal
    else tool_class content text

-- The class of a comment by its content, which is the text between its marks: the first case that applies.
abbrev pub class_of : Bool → List ℕ → CommentContent
class_of is_block content =
    if is_empty content then variant.None
    else if begins_with (codes "!") content then variant.Legal
    else if is_block && begins_with (codes "*") content then documentation_class content
    else worded_class content (without_blanks content)
