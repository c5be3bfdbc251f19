use Rattle.std.proofs.Common.{◌∙◌, length, sym, ap, arith, subst, None}
use Rattle.js_document.proofs.FromSession.{are_made, goes_resumed, reads_resumed, rows_long}
use Rattle.js_document.proofs.LastTokens.{last_some, last_split}
use Rattle.js_document.proofs.read.rows_behind.Goals as goal

pub read_on-requires-clause-goes : goal.read_on-requires-clause-goes
read_on-requires-clause-goes g c =
    let tokens = c.requires.known.0 in
    let is = c.requires.known.2 in
    let split = last_split None tokens c.args.last is (last_some tokens c.args.last is) in (
      split.0,
      goes_resumed g.K.KeepGoals.choice g.met.K.KeepGoals.is_rule g.K.KeepGoals.knows g.K.KeepGoals.alike c.args.open.now
          c.args.open.now c.args.joining.now c.args.text.now c.args.source_type _ split.0 c.args.last c.in-Ok.session
          c.args.state c.in-Ok.ensures.ok c.utf8.text c.requires.resumes c.requires.some_text
          (subst (g.K.KeepGoals.knows c.args.open.now c.args.state) split.1 c.requires.known.1),
    )

pub entries_of_session-requires : goal.entries_of_session-requires
entries_of_session-requires g c =
    let tokens = c.requires.known.0 in
    let is = c.requires.known.2 in
    let split = last_split None tokens c.args.last is (last_some tokens c.args.last is) in
    let goes = goes_resumed g.K.KeepGoals.choice g.met.K.KeepGoals.is_rule g.K.KeepGoals.knows g.K.KeepGoals.alike
    c.args.open.now c.args.open.now c.args.joining.now c.args.text.now c.args.source_type _ split.0 c.args.last
    c.in-Ok.session c.args.state c.in-Ok.ensures.ok c.utf8.text c.requires.resumes c.requires.some_text
    (subst (g.K.KeepGoals.knows c.args.open.now c.args.state) split.1 c.requires.known.1) in
    let made = are_made g.K.KeepGoals.choice g.met.K.KeepGoals.is_rule g.K.KeepGoals.knows g.K.KeepGoals.alike
    c.args.open.now c.read_on.new.open c.args.joining.now c.args.text.now c.args.source_type split.0 c.in-Ok.session
    c.read_on.new.session c.new-states.result.items c.read_on.new.states.items c.in_ok-left.left c.resume.new.steps
    c.read_on.new.steps (c.in_ok-left.ensures.ok split.0 goes) in
    made.states_long
    (ap (λ l. length l) c.new-states.ensures.items ∙ sym (ap (λ s. length s.rows) c.in-Ok.ensures.ok))

pub returns-clause-rows : goal.returns-clause-rows
returns-clause-rows g c = λ tokens known is.
    reads_resumed g.K.KeepGoals.choice g.met.K.KeepGoals.is_rule g.K.KeepGoals.knows g.K.KeepGoals.alike c.args.open.now
    c.read_on.new.open c.args.joining.now c.args.text.now c.args.source_type _ tokens c.args.last c.in-Ok.session
    c.read_on.new.session c.new-states.result.items c.read_on.new.states.items c.in_ok-left.left c.resume.new.steps
    c.read_on.new.steps c.in_ok-rows.rows.items c.in-Ok.ensures.ok c.new-states.ensures.items is
    (λ front split.
    c.in_ok-left.ensures.ok front
    (goes_resumed g.K.KeepGoals.choice g.met.K.KeepGoals.is_rule g.K.KeepGoals.knows g.K.KeepGoals.alike c.args.open.now
    c.args.open.now c.args.joining.now c.args.text.now c.args.source_type _ front c.args.last c.in-Ok.session c.args.state
    c.in-Ok.ensures.ok c.utf8.text c.requires.resumes c.requires.some_text
    (subst (g.K.KeepGoals.knows c.args.open.now c.args.state) split known)))
    c.in_ok-rows.ensures.rows c.in_ok-rows.ensures.states

pub returns-clause-ticks : goal.returns-clause-ticks
returns-clause-ticks g c =
    let tokens = c.requires.known.0 in
    let is = c.requires.known.2 in
    let split = last_split None tokens c.args.last is (last_some tokens c.args.last is) in
    let goes = goes_resumed g.K.KeepGoals.choice g.met.K.KeepGoals.is_rule g.K.KeepGoals.knows g.K.KeepGoals.alike
    c.args.open.now c.args.open.now c.args.joining.now c.args.text.now c.args.source_type _ split.0 c.args.last
    c.in-Ok.session c.args.state c.in-Ok.ensures.ok c.utf8.text c.requires.resumes c.requires.some_text
    (subst (g.K.KeepGoals.knows c.args.open.now c.args.state) split.1 c.requires.known.1) in
    let made = are_made g.K.KeepGoals.choice g.met.K.KeepGoals.is_rule g.K.KeepGoals.knows g.K.KeepGoals.alike
    c.args.open.now c.read_on.new.open c.args.joining.now c.args.text.now c.args.source_type split.0 c.in-Ok.session
    c.read_on.new.session c.new-states.result.items c.read_on.new.states.items c.in_ok-left.left c.resume.new.steps
    c.read_on.new.steps (c.in_ok-left.ensures.ok split.0 goes) in
    let ticks = made.ticks in
    let begun = c.in-Ok.ensures.ticks in
    let none = ap (λ s. length s.rows) c.in-Ok.ensures.ok in
    let rows =
    rows_long c.in_ok-rows.rows.items c.read_on.new.session.rows c.in_ok-rows.ensures.rows in
    omega (arith, ticks, begun, none, rows)
