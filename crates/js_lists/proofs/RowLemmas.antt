-- The row of a token that a lexer read: what a session would make of it.
use Rattle.std.proofs.Common.{◌≡◌, ℕ, Bool, true, false, List, refl, sym, subst, Option, None}
use Rattle.std.specs.Prelude.{if◌then◌else◌}
use Rattle.std.specs.Str.{IsUtf8}
use Rattle.js_text.specs.Characters.{from_place}
use Rattle.js_text.specs.declared.reg_exp_flags.RegexInfo.{RegexInfo}
use Rattle.js_text.specs.declared.value.RowValue.{RowValue}
use Rattle.js_text.specs.declared.value.RowValue.TheVariants.{Units}
use Rattle.js_kind.specs.Kinds.{is_template_kind}
use Rattle.js_kind.specs.TokenParts.{TokenParts}
use Rattle.js_grammar.specs.Outcome.{Outcome, found_since, lengths_of}
use Rattle.js_grammar.specs.Reads.{is_onward}
use Rattle.js_grammar.specs.Values.{IsValueOf, decoded_units, template_row_value, template_units}
use Rattle.js_grammar.specs.declared.goal.Goal.{Goal}
use Rattle.js_grammar.proofs.Values.{goal_reads_value}
use Rattle.js_reader.specs.Decoded.{HasValue, IsKeptAs, Values}
use Rattle.js_lexer.specs.Lexer.{LexerState, LexesAgain, ReadsOutcome, ReadsToken}
use Rattle.js_session.specs.Live.{row_of}
use Rattle.js_session.specs.RowReader.{HoldsKept, HoldsPart, HoldsUnits, HoldsValue, ReadsRow}
use Rattle.js_session.specs.RowReader.{ReadsRowAgain}
use Rattle.js_session.specs.declared.command.Command.{Command}
use Rattle.js_session.specs.declared.row.Row.{Row}
use Rattle.js_session.proofs.ReadLemmas.{made_row, made_row_again}

-- the row of a token with this value: what was found since is the row's
abbrev pub row_made : Option Command → LexerState → TokenParts → Option RegexInfo → RowValue → LexerState → Row
row_made command old token regex value new =
    row_of command old.place true
    (record {
      token = token;
      value = value;
      regex = regex;
      findings = found_since (lengths_of old.findings) new.findings;
    })

-- a value that is kept is held
holds_kept : (template : Bool) (decoded : Values) (start : ℕ) (here : List ℕ) (value : RowValue)
    → IsKeptAs template decoded start here
    → value ≡ (if template then template_row_value (template_units here) else Units (decoded_units here))
    → HoldsKept template decoded start value
holds_kept true decoded start here value kept is = subst (λ found. HoldsPart found value) (sym kept) is
holds_kept false decoded start here value kept is = subst (λ found. HoldsUnits found value) (sym kept) is

-- the value of a token that was read is held
pub holds_value : (goal : Goal) (old : LexerState) (decoded : Values) (token : TokenParts) (o : Outcome)
    → IsUtf8 old.text
    → ReadsOutcome goal old o → token ≡ o.token → HasValue old.text decoded token → HoldsValue decoded token o.value
holds_value goal old decoded token o u reads same has =
    let is : IsValueOf old.text token o.value =
    subst (λ t. IsValueOf old.text t o.value) (sym same)
    (goal_reads_value old.text old.source_type goal old.last old.place o u reads.reads) in
    record {
      escaped = λ e. holds_kept (is_template_kind token.kind) decoded token.start (from_place old.text token.start)
          o.value (has e) (is.decoded e);
      unescaped = is.unescaped;
    }

-- The row of a token that was read on.
pub row_read : (goal : Goal) (command : Option Command) (old new : LexerState) (token : TokenParts)
    → is_onward goal ≡ true → IsUtf8 old.text → (r : ReadsToken goal old token new)
    → ReadsRow goal command old (row_made command old token None r.outcome.value new) new
row_read goal command old new token onward u r =
    made_row goal command old new (lengths_of old.findings) old.place token onward u r refl refl
    (row_made command old token None r.outcome.value new)
    (record {
      value = holds_value goal old new.decoded token r.outcome u r.reads r.token_is r.has_value;
      row_is = refl;
    })

-- The row of a token that was read again, of which this is known as a regular expression.
pub row_read_again : (goal : Goal) (command : Option Command) (old new : LexerState) (token : TokenParts)
    (regex : Option RegexInfo) → IsUtf8 old.text → (r : LexesAgain goal old token new) → r.outcome.regex ≡ regex
    → ReadsRowAgain goal command old (row_made command old token regex r.outcome.value new) new
row_read_again goal command old new token regex u r known =
    made_row_again goal command old new (lengths_of old.findings) old.place (record { token = token; regex = regex }) u
    (record { reads = r; regex = known }) refl refl (row_made command old token regex r.outcome.value new)
    (record {
      value = holds_value goal old new.decoded token r.outcome u r.reads r.token_is r.has_value;
      row_is = refl;
    })
