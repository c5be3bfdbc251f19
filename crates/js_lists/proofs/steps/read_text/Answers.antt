use Rattle.std.proofs.Common.{◌≡◌, sym, ap, subst, false}
use Rattle.std.proofs.lemmas.Result.{on_err_weaker, on_ok_weaker}
use Rattle.std.specs.Str.{IsUtf8}
use Rattle.js_lexer.specs.Lexer.{fresh}
use Rattle.js_session.proofs.LexerLemmas.{on_err}
use Rattle.js_lists.specs.LiveLists.{live_taken}
use Rattle.js_lists.proofs.StepsLemmas.{takes_commands}
use Rattle.js_lists.proofs.TakenLemmas.{breaks_behind, breaks_here}
use Rattle.js_lists.proofs.steps.read_text.Goals as goal

pub follow_each-requires-clause-unread : goal.follow_each-requires-clause-unread
follow_each-requires-clause-unread g c =
    let e = c.in-Ok.ensures.ok in
    subst (λ x. c.in-Ok.lexer ≡ fresh x c.in-Ok.lexer.source_type false) (sym (ap (λ l. l.text) e))
    (subst (λ t. c.in-Ok.lexer ≡ fresh c.args.text.now t false) (sym (ap (λ l. l.source_type) e)) e)

pub follow_each-requires-clause-utf8 : goal.follow_each-requires-clause-utf8
follow_each-requires-clause-utf8 g c = subst IsUtf8 (sym (ap (λ l. l.text) c.in-Ok.ensures.ok)) c.utf8.text

pub returns-clause-ok : goal.returns-clause-ok
returns-clause-ok g c =
    on_ok_weaker c.end.result
    (takes_commands g.T.TakeTokens.takes g.T.TakeTokens.ends c.args.commands.now c.args.text.now c.args.source_type
    c.in-Ok.lexer c.follow_each.new.lexer.findings c.in_ok-found.found c.args.taker.now c.follow_each.new.taker
    c.end.new.self c.in-Ok.ensures.ok c.in_ok-found.ensures c.in_ok-follow_each.ensures.ok)
    c.end.ensures.ok

pub returns-clause-err : goal.returns-clause-err
returns-clause-err g c =
    let taken = c.in_ok-follow_each.ensures.ok in
    on_err_weaker c.end.result
    (breaks_behind g.T.TakeTokens.takes g.T.TakeTokens.breaks_off (live_taken c.args.commands.now taken.report.rows)
    c.args.taker.now c.follow_each.new.taker c.end.new.self taken.takes_each)
    c.end.ensures.err

pub returns-in_err-found-clause-err : goal.returns-in_err-found-clause-err
returns-in_err-found-clause-err g c =
    let taken = c.in_ok-follow_each.ensures.ok in
    on_err c.from_residual-in_err-found.result
    (breaks_here g.T.TakeTokens.takes g.T.TakeTokens.breaks_off (live_taken c.args.commands.now taken.report.rows)
    c.args.taker.now c.follow_each.new.taker taken.takes_each)
