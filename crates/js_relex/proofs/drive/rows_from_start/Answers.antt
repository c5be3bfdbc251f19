use Rattle.std.proofs.Common.{◌-◌, ◌∙◌, [], ap, sym, subst, true, length}
use mathlib.Core.Bool.{false≢true}
use Rattle.js_session.specs.Session.{SessionState}
use Rattle.js_relex.specs.declared.drive.ReadRows.{ReadRows}
use Rattle.js_relex.specs.Joined.{Joins}
use Rattle.js_relex.specs.Joining.{ReadsEdited, StepsBroken, StepsUntil}
use Rattle.js_relex.proofs.Outcomes.{on_err}
use Rattle.js_relex.proofs.ReadRows.{breaks_at_once, breaks_from_start, first_joins, reads_from_start}
use Rattle.js_relex.proofs.drive.rows_from_start.Goals as goal

pub returns-in-Err-clause-broken : goal.returns-in-Err-clause-broken
returns-in-Err-clause-broken g c =
    breaks_at_once c.args.text.now c.args.source_type c.args.joining.now c.args.steps.now c.begin.new.steps
    c.in-Err.ensures.ticks_at_most

pub returns-then-is_joined-clause-rows : goal.returns-then-is_joined-clause-rows
returns-then-is_joined-clause-rows g c =
    let j = c.args.joining.now in
    let b = c.in-Ok.ensures.ok in
    let joins : Joins j (length j.commands - length j.commands) b.row =
    subst (λ cs. Joins j (length j.commands - length cs) b.row) c.commands-commands.ensures
    ((c.is_joined.ensures [] b.row (ap (λ (s : SessionState). s.rows) b.after)).0
    (let yes = c.if-is_joined.true in cc)) in
    subst (λ (r : ReadRows). ReadsEdited c.args.text.now c.args.source_type j 0 r.rows r.joined)
    (sym c.read_rows.ensures) (first_joins c.args.text.now c.args.source_type _ j c.in-Ok.session b joins)

pub returns-in_err-joined-clause-broken : goal.returns-in_err-joined-clause-broken
returns-in_err-joined-clause-broken g c =
    let j = c.args.joining.now in
    let b = c.in-Ok.ensures.ok in
    on_err c.from_residual.result
    (breaks_from_start c.args.text.now c.args.source_type _ j c.in-Ok.session c.step_until_joined.new.session
    c.args.steps.now c.begin.new.steps c.step_until_joined.new.steps b c.utf8.text c.requires.lasting
    c.in-Ok.ensures.ticks
    (λ joins.
    let yes =
    (c.is_joined.ensures [] b.row (ap (λ (s : SessionState). s.rows) b.after)).1
    (subst (λ cs. Joins j (length j.commands - length cs) b.row) (sym c.commands-commands.ensures) joins) in
    absurd (false≢true (sym c.if-is_joined.false ∙ yes)))
    (subst
    (λ cs. StepsBroken j cs c.in-Ok.session c.step_until_joined.new.session c.begin.new.steps
    c.step_until_joined.new.steps)
    c.commands-commands.ensures c.in_err-joined.ensures.err))

pub returns-clause-rows : goal.returns-clause-rows
returns-clause-rows g c =
    let j = c.args.joining.now in
    let b = c.in-Ok.ensures.ok in
    subst (λ (r : ReadRows). ReadsEdited c.args.text.now c.args.source_type j 0 r.rows r.joined)
    (sym c.read_rows-2.ensures)
    (reads_from_start c.args.text.now c.args.source_type _ j c.in-Ok.session c.step_until_joined.new.session _ _
    c.in_ok-joined.joined b
    (λ joins.
    let yes =
    (c.is_joined.ensures [] b.row (ap (λ (s : SessionState). s.rows) b.after)).1
    (subst (λ cs. Joins j (length j.commands - length cs) b.row) (sym c.commands-commands.ensures) joins) in
    absurd (false≢true (sym c.if-is_joined.false ∙ yes)))
    (subst
    (λ cs. StepsUntil j cs c.in-Ok.session c.step_until_joined.new.session c.begin.new.steps
    c.step_until_joined.new.steps c.in_ok-joined.joined)
    c.commands-commands.ensures c.in_ok-joined.ensures.ok))
