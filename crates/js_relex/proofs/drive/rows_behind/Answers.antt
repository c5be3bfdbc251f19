use Rattle.std.proofs.Common.{sym, subst, inr}
use Rattle.js_session.specs.Session.{state_behind}
use Rattle.js_relex.specs.declared.drive.ReadRows.{ReadRows}
use Rattle.js_relex.specs.Joining.{BreaksBehind, ReadsUntil}
use Rattle.js_relex.proofs.Outcomes.{on_err}
use Rattle.js_relex.proofs.ReadRows.{breaks_behind, reads_behind}
use Rattle.js_relex.proofs.drive.rows_behind.Goals as goal

pub returns-in_err-joined-clause-broken : goal.returns-in_err-joined-clause-broken
returns-in_err-joined-clause-broken g c =
    on_err c.from_residual.result
    (inr
    (subst
    (λ n. BreaksBehind c.args.text.now c.args.source_type (state_behind c.args.token) c.args.joining.now
    c.args.commands.now n c.step_until_joined.new.steps)
    c.in-Ok.ensures.ticks
    (breaks_behind c.args.text.now c.args.source_type _ c.args.token c.args.joining.now c.args.commands.now
    c.in-Ok.session c.step_until_joined.new.session _ _ c.utf8.text c.requires.lasting c.in-Ok.ensures.ok
    c.in_err-joined.ensures.err)))

pub returns-clause-rows : goal.returns-clause-rows
returns-clause-rows g c =
    subst
    (λ (r : ReadRows). ReadsUntil c.args.text.now c.args.source_type (state_behind c.args.token) c.args.joining.now
    c.args.commands.now r.rows r.joined)
    (sym c.read_rows.ensures)
    (reads_behind c.args.text.now c.args.source_type _ c.args.token c.args.joining.now c.args.commands.now
    c.in-Ok.session c.step_until_joined.new.session _ _ c.in_ok-joined.joined c.in-Ok.ensures.ok
    c.in_ok-joined.ensures.ok)
