-- The lines of a source's JSON: an object for each token, comment and diagnostic.
use Rattle.std.specs.Prelude.{ℕ, List, [], ◌++◌, codes, chars, Option, Some, None, slice_get}
use Rattle.std.specs.Prelude.{if◌then◌else◌}
use Rattle.js_kind.specs.Kinds.{kind_name}
use Rattle.js_kind.specs.TokenParts.{TokenParts}
use Rattle.js_lists.specs.Taken.{Taken}
use Rattle.js_text.specs.Comment.{comment_content_name, comment_kind_name, comment_position_name}
use Rattle.js_text.specs.Diagnostic.{diagnostic_name, diagnostic_span}
use Rattle.js_text.specs.declared.comment.Comment.{Comment}
use Rattle.js_text.specs.declared.diagnostic.Diagnostic.{Diagnostic}
use Rattle.js_text.specs.declared.span.Span.{Span}
use Rattle.js_text.specs.declared.value.RowValue.{RowValue}
use Rattle.js_totsenak.specs.Members.{flag_member, member_head, object_head, text_member, word_member}
use Rattle.js_totsenak.specs.Messages.{message_of, warning_in_words}
use Rattle.js_totsenak.specs.PlaceJson.{stretch_members, stretch_or_null}
use Rattle.js_totsenak.specs.RegexJson.{regex_members}
use Rattle.js_totsenak.specs.ValueJson.{has_value, value_json}
use Rattle.js_totsenak.specs.declared.items.Item.{Item}
use Rattle.js_totsenak.specs.declared.items.Subject.{Subject}
use Rattle.js_totsenak.specs.declared.items.Subject.TheVariants as subject

-- whether lines end before and behind a comment
unfoldable pub sides_members : Comment → List ℕ
sides_members c =
    flag_member (codes "newline_before") c.preceded ++ flag_member (codes "newline_after") c.followed

-- the line of a comment of the text
unfoldable pub comment_json : List ℕ → Comment → List ℕ
comment_json text c =
    object_head (codes "comment") ++ word_member (codes "kind") (comment_kind_name c.kind)
    ++ stretch_members text c.span ++ word_member (codes "content") (comment_content_name c.content)
    ++ word_member (codes "position") (comment_position_name c.position) ++ sides_members c ++ codes "}\n"

-- what the line of a diagnostic begins with: how grave it is, its name, and what a user is told of it
unfoldable pub diagnostic_head : List ℕ → List ℕ → List ℕ → List ℕ
diagnostic_head severity name message =
    object_head (codes "diagnostic") ++ word_member (codes "severity") severity ++ word_member (codes "name") name
    ++ text_member (codes "message") (chars message)

-- the line of a diagnostic of the text
unfoldable pub diagnostic_json : List ℕ → List ℕ → Diagnostic → List ℕ
diagnostic_json text severity d =
    diagnostic_head severity (diagnostic_name d) (message_of d) ++ stretch_or_null text (diagnostic_span d)
    ++ codes "}\n"

-- the line of a warning, each of which is of a `>` in the text of JSX
unfoldable pub warning_json : List ℕ → Span → List ℕ
warning_json text span =
    diagnostic_head (codes "warning") (codes "RightAngleInJsxText") warning_in_words ++ stretch_members text span
    ++ codes "}\n"

-- whether a token has an escape, and whether it is a number with separators
unfoldable pub spelling_flags : TokenParts → List ℕ
spelling_flags token =
    flag_member (codes "escaped") token.escaped ++ flag_member (codes "separator") token.has_separator

-- the flags of a token
unfoldable pub token_flags : TokenParts → List ℕ
token_flags token = flag_member (codes "newline_before") token.is_on_new_line ++ spelling_flags token

-- the member of a value: a token of a kind that has none has no such member
abbrev pub value_member : List ℕ → RowValue → List ℕ
value_member source value =
    if has_value value then member_head (codes "value") ++ value_json source value else []

-- what the line of a token of the text begins with
unfoldable pub token_head : List ℕ → TokenParts → List ℕ
token_head text token =
    object_head (codes "token") ++ word_member (codes "kind") (kind_name token.kind)
    ++ stretch_members text (record { start = token.start; end = token.end }) ++ token_flags token

-- the line of a token of the text
unfoldable pub token_json : List ℕ → Taken → List ℕ
token_json text x =
    token_head text x.token ++ value_member text x.value ++ regex_members x.regex ++ codes "}\n"

-- the line of a token, if there is one
abbrev pub token_or_nothing : List ℕ → Option Taken → List ℕ
token_or_nothing text None = []
token_or_nothing text (Some x) = token_json text x

-- the line of an item of the text, of which these tokens were taken
abbrev pub subject_json : List ℕ → List Taken → Subject → List ℕ
subject_json text taken (subject.Comment c) = comment_json text c
subject_json text taken (subject.Diagnostic d) = diagnostic_json text (codes "error") d
subject_json text taken (subject.Deferred d) = diagnostic_json text (codes "warning") d
subject_json text taken (subject.Warning span) = warning_json text span
subject_json text taken (subject.Token index) = token_or_nothing text (slice_get taken index)

abbrev pub item_json : List ℕ → List Taken → Item → List ℕ
item_json text taken item = subject_json text taken item.subject
