-- A token that is taken in the place of the last one.
use Rattle.std.proofs.Common.{◌≡◌, ℕ, ◌-◌, ◌≤◌, Bool, true, false, List, length, refl, sym, ◌∙◌, ap, subst}
use Rattle.std.proofs.Common.{Option, Some}
use Rattle.std.specs.List.{list_all}
use Rattle.std.specs.Str.{IsUtf8}
use Rattle.js_places.specs.Reserved.{Reserved}
use Rattle.js_text.specs.declared.diagnostic.Diagnostic.{Diagnostic}
use Rattle.js_kind.specs.Kinds.{kind_text}
use Rattle.js_kind.specs.TokenParts.{TokenParts}
use Rattle.js_grammar.specs.Reads.{is_onward}
use Rattle.js_grammar.specs.ReLexed.{again_kinds}
use Rattle.js_grammar.specs.declared.goal.Goal.{Goal}
use Rattle.js_grammar.specs.declared.goal.Goal.TheVariants.{JsxIdentifier, RegularExpression, RightAngle, TemplateTail}
use Rattle.js_grammar.specs.declared.goal.Goal.TheVariants.{TypeScriptLeftAngle, TypeScriptRightAngle}
use Rattle.js_reader.specs.Decoded.{Values, KeepsValues, HasValue}
use Rattle.js_lexer.specs.Goals.{ReadsRegex}
use Rattle.js_reader.specs.Goals.{ReadsExpression, info_of}
use Rattle.js_lexer.specs.Lexer.{IsBehindFor, IsSound, LexesAgain, kind_of_last, last_read, lexer_of, with_token_again}
use Rattle.js_reader.specs.Reader.{ReadsGoal, ReadsSilently, ReadsWithoutGap}
use Rattle.js_reader.specs.declared.findings_builder.FindingsBuilder.{FindingsBuilder}
use Rattle.js_reader.specs.declared.reader.Reader.{Reader}
use Rattle.js_reader.specs.declared.regex.RegexToken.{RegexToken}
use Rattle.js_lexer.proofs.AgainSteps.{StartsWith, has_mark, starts_with}
use Rattle.js_lexer.proofs.AgainSteps.{expression_starts, expression_unescaped, left_starts, left_unescaped}
use Rattle.js_lexer.proofs.AgainSteps.{longest_starts, longest_unescaped, name_starts, name_unescaped}
use Rattle.js_lexer.proofs.AgainSteps.{right_starts, right_unescaped}
use Rattle.js_reader.proofs.DecodedSteps.{keeps_same, no_value}
use Rattle.js_lexer.proofs.LexerSteps.{reads_again, sound_again, told_again, told_last}
use Rattle.js_trivia.specs.Trivia.{Trivia, handle_token}

-- A reader has read the last token again, from its start, with the values of tokens before and after.
pub record IsReadAgain (goal : Goal) (last : Option TokenParts) (old : Reader) (told : List Diagnostic)
    (values : Values) (token : TokenParts) (new : Reader) (later : List Diagnostic) (more : Values) : Type 0 where
  pub before : TokenParts
  pub last_is : last ≡ Some before
  pub again : is_onward goal ≡ false
  pub reads : ReadsWithoutGap goal last old told token new later
  pub starts : token.start ≡ before.start
  pub utf8 : IsUtf8 new.source.text
  pub keeps : KeepsValues old.source.text values more
  pub has_value : HasValue old.source.text more token

-- What is read of the goal starts where the token before did, and has no escape.
pub record IsPlain (goal : Goal) : Type 0 where
  pub again : is_onward goal ≡ false
  pub starts : (before : TokenParts) (old new : Reader) (token : TokenParts)
      → ReadsGoal goal (Some before) old token new → token.start ≡ before.start
  pub unescaped : (before : TokenParts) (old new : Reader) (token : TokenParts)
      → ReadsGoal goal (Some before) old token new → token.escaped ≡ false

pub longest_is_plain : IsPlain RightAngle
longest_is_plain = record { again = refl; starts = longest_starts; unescaped = longest_unescaped }

pub left_is_plain : IsPlain TypeScriptLeftAngle
left_is_plain = record { again = refl; starts = left_starts; unescaped = left_unescaped }

pub right_is_plain : IsPlain TypeScriptRightAngle
right_is_plain = record { again = refl; starts = right_starts; unescaped = right_unescaped }

pub expression_is_plain : IsPlain RegularExpression
expression_is_plain = record { again = refl; starts = expression_starts; unescaped = expression_unescaped }

pub name_is_plain : IsPlain JsxIdentifier
name_is_plain = record { again = refl; starts = name_starts; unescaped = name_unescaped }

-- a token without an escape that was read again
pub plainly : {goal : Goal} {token : TokenParts} {told later : List Diagnostic} {values : Values}
    (last : Option TokenParts) (old new : Reader) (before : TokenParts) → IsPlain goal → last ≡ Some before
    → ReadsWithoutGap goal (Some before) old told token new later
    → IsUtf8 new.source.text → IsReadAgain goal last old told values token new later values
plainly {goal} {token} {told} {later} {values} last old new before plain is reads utf8 = record {
  before = before;
  last_is = is;
  again = plain.again;
  reads = subst (λ o. ReadsWithoutGap goal o old told token new later) (sym is) reads;
  starts = plain.starts before old new token reads.read;
  utf8 = utf8;
  keeps = keeps_same old.source.text values values refl;
  has_value = no_value old.source.text values token (plain.unescaped before old new token reads.read);
}

-- and a part of a template, with its value
pub part_again : {token : TokenParts} {told later : List Diagnostic} {values more : Values}
    (last : Option TokenParts) (old new : Reader) (before : TokenParts) → last ≡ Some before
    → ReadsWithoutGap TemplateTail (Some before) old told token new later
    → IsUtf8 new.source.text → KeepsValues old.source.text values more → HasValue old.source.text more token
    → IsReadAgain TemplateTail last old told values token new later more
part_again {token} {told} {later} last old new before is reads utf8 keeps has_value = record {
  before = before;
  last_is = is;
  again = refl;
  reads = subst (λ o. ReadsWithoutGap TemplateTail o old told token new later) (sym is) reads;
  starts = ap (λ t. t.start) reads.read.token_is ∙ ap (λ o. o.token.start) reads.read.reads.outcome_is;
  utf8 = utf8;
  keeps = keeps;
  has_value = has_value;
}

pub was_read : (has_read : Bool) (previous token : TokenParts) → last_read has_read previous ≡ Some token
    → has_read ≡ true
was_read true previous token e = refl
was_read false previous token e = absurd (let no = e in cc)

-- a lexer that took it is sound
pub sound_taken : {goal : Goal} {token : TokenParts} {values more : Values} (has_read : Bool) (old new : Reader)
    (found after : FindingsBuilder)
    → IsReadAgain goal (last_read has_read found.trivia.attachment.previous) old found.errors values token new
    after.errors more
    → IsSound old.source (last_read has_read found.trivia.attachment.previous) found.trivia values
    → after.trivia ≡ handle_token token found.trivia
    → IsSound new.source (last_read has_read after.trivia.attachment.previous) after.trivia more
sound_taken {goal} {token} {values} {more} has_read old new found after r sound e =
    let read : ReadsGoal goal (Some r.before) old token new =
    subst (λ o. ReadsGoal goal o old token new) r.last_is r.reads.read in
    subst (λ b. IsSound new.source (last_read b after.trivia.attachment.previous) after.trivia more)
    (sym (was_read has_read found.trivia.attachment.previous r.before r.last_is))
    (sound_again goal r.before token old new found.trivia after.trivia values more r.utf8
    (r.keeps.are_values sound.are_values)
    read (subst (λ o. IsSound old.source o found.trivia values) r.last_is sound) r.starts e)

-- and the token was read again, as contracts see it
abbrev pub reads_taken : {goal : Goal} {token : TokenParts} {collects : Bool} {tokens now : Reserved TokenParts}
    {values more : Values} (has_read : Bool) (old new : Reader) (found : FindingsBuilder) (errors : List Diagnostic)
    (trivia : Trivia)
    → IsReadAgain goal (last_read has_read found.trivia.attachment.previous) old found.errors values token new errors
    more
    → IsSound old.source (last_read has_read found.trivia.attachment.previous) found.trivia values
    → trivia ≡ handle_token token found.trivia → now ≡ with_token_again collects token tokens
    → LexesAgain goal (lexer_of collects old found has_read tokens values) token
    (lexer_of collects new (record found { errors = errors; trivia = trivia }) has_read now more)
reads_taken {goal} {token} {collects} {tokens} {now} {values} {more} has_read old new found errors trivia r sound told
    collected =
    let after : FindingsBuilder = record found { errors = errors; trivia = trivia } in
    let same =
    told_again (last_read has_read found.trivia.attachment.previous) token found.trivia trivia old.source values sound
    told in
    reads_again (lexer_of collects old found has_read tokens values) (lexer_of collects new after has_read now more)
    old goal token new found.errors errors trivia.attachment.attached trivia.attachment.previous more
    (subst IsUtf8 r.reads.read.text r.utf8) (record { text = refl; place = refl }) refl refl r.again r.reads
    (r.keeps.kept sound.are_values) r.has_value same.0
    (told_last token found.trivia trivia told)
    (rw (
      was_read has_read found.trivia.attachment.previous r.before r.last_is,
      collected,
      same.1,
      same.2,
      same.3,
    ) refl)

-- and so was a regular expression
pub regex_taken : {collects : Bool} {tokens now : Reserved TokenParts} {values : Values} (has_read : Bool)
    (read : RegexToken) (old new : Reader) (found : FindingsBuilder) (errors : List Diagnostic) (trivia : Trivia)
    (before : TokenParts) → last_read has_read found.trivia.attachment.previous ≡ Some before
    → ReadsExpression before old found.errors read new errors
    → IsUtf8 new.source.text
    → IsSound old.source (last_read has_read found.trivia.attachment.previous) found.trivia values
    → trivia ≡ handle_token read.token found.trivia → now ≡ with_token_again collects read.token tokens
    → ReadsRegex (lexer_of collects old found has_read tokens values) read
    (lexer_of collects new (record found { errors = errors; trivia = trivia }) has_read now values)
regex_taken has_read read old new found errors trivia before is reads utf8 sound told collected =
    let last = last_read has_read found.trivia.attachment.previous in
    let both : (again : ReadsWithoutGap RegularExpression last old found.errors read.token new errors)
    × (again.read.outcome.regex ≡ Some (info_of read)) =
    subst
    (λ o. (again : ReadsWithoutGap RegularExpression o old found.errors read.token new errors)
    × (again.read.outcome.regex ≡ Some (info_of read)))
    (sym is) (reads.reads, reads.info) in
    record {
      again =
          reads_taken has_read old new found errors trivia
          (record (plainly last old new before expression_is_plain is reads.reads utf8) { reads = both.0 })
          sound told collected;
      info = both.1;
    }

-- where the last token begins, which the goal may read again
pub behind_one : {goal : Goal} {bytes : ℕ} {collects : Bool} {tokens : Reserved TokenParts} {values : Values}
    (mark offset : ℕ) (has_read : Bool) (r : Reader) (found : FindingsBuilder)
    → IsBehindFor goal (lexer_of collects r found has_read tokens values)
    → bytes ≡ length (kind_text (kind_of_last (lexer_of collects r found has_read tokens values)))
    → list_all (has_mark mark) (again_kinds goal) ≡ true
    → IsSound r.source (last_read has_read found.trivia.attachment.previous) found.trivia values
    → IsUtf8 r.source.text → offset ≡ r.source.place
    → (bytes ≤ offset)
    × StartsWith r.source.text (last_read has_read found.trivia.attachment.previous) mark (offset - bytes)
behind_one {goal} {bytes} mark offset has_read r found behind bytes_are marked sound utf8 at =
    starts_with goal mark bytes r.source.text (last_read has_read found.trivia.attachment.previous) offset
    behind.token marked utf8 behind.last behind.kind_is bytes_are (at ∙ behind.place) sound.last_lies
    sound.last_spelled

-- a token without an escape that was read again from there
pub from_mark : {goal : Goal} {token : TokenParts} {told : List Diagnostic} {values : Values} {text : List ℕ}
    {mark start : ℕ}
    (last : Option TokenParts) (old new : Reader) → IsPlain goal → StartsWith text last mark start
    → ((before : TokenParts) → before.start ≡ start → ReadsSilently goal (Some before) old token new)
    → IsUtf8 new.source.text → IsReadAgain goal last old told values token new told values
from_mark {told} last old new plain starts reads utf8 =
    plainly last old new starts.token plain starts.last_is (reads starts.token starts.at told) utf8
