use Rattle.js_kind.specs.Kinds.{is_template_kind}
use Rattle.js_text.specs.Characters.{from_place}
use Rattle.std.proofs.Common.{ap}
use Rattle.std.proofs.lemmas.Result.{IfOk-weaker, err_from_is_err_and}
use Rattle.js_lexer.specs.Lexer.{Checkpoint}
use Rattle.js_lexer.proofs.LexerSteps.{reading_goes_on}
use Rattle.js_session.proofs.LexerLemmas.{goes_on-restored, on_err, within-after}
use Rattle.js_session.proofs.ReadLemmas.{made_row, is_kept}
use Rattle.js_session.proofs.read.read_row.Goals as goal

pub returns-in_err-token-clause-err : goal.returns-in_err-token-clause-err
returns-in_err-token-clause-err g c =
    let p = err_from_is_err_and c.from_residual.result c.from_residual.ensures.1 in
    rw p.1 (goes_on-restored _ _ c.in_err-token.ensures.err)

pub row_of-requires-clause-ordered : goal.row_of-requires-clause-ordered
row_of-requires-clause-ordered g c =
    let read = c.in_ok-token.ensures.ok in rw read.token_is read.reads.text_lies.ordered

pub row_of-requires-clause-value : goal.row_of-requires-clause-value
row_of-requires-clause-value g c =
    λ escaped.
    is_kept (is_template_kind c.in_ok-token.token.kind) c.read_token.new.lexer.decoded c.in_ok-token.token.start
    (from_place c.args.lexer.now.text c.in_ok-token.token.start) (c.in_ok-token.ensures.ok.has_value escaped)

pub returns-clause-err : goal.returns-clause-err
returns-clause-err g c =
    on_err c.row_of.result
    (reading_goes_on _ c.args.lexer.now c.read_token.new.lexer c.in_ok-token.token c.in_ok-token.ensures.ok)

pub returns-clause-ok : goal.returns-clause-ok
returns-clause-ok g c =
    IfOk-weaker c.row_of.result _ _
    (made_row c.args.goal c.args.command c.args.lexer.now c.read_token.new.lexer c.args.before.now.lengths
    c.offset-place.result c.in_ok-token.token c.requires.onward c.offset-place.ensures.utf8 c.in_ok-token.ensures.ok
    (ap (λ (x : Checkpoint). x.lengths) c.requires.before) c.offset-place.ensures.place)
    c.row_of.ensures

pub row_of-requires-clause-found : goal.row_of-requires-clause-found
row_of-requires-clause-found g c =
    rw (ap (λ (x : Checkpoint). x.lengths) c.requires.before)
    (within-after c.args.lexer.now.findings c.read_token.new.lexer.findings _ c.in_ok-token.ensures.ok.after.findings)
