use Rattle.std.proofs.Common.{[], ◌∷◌, ◌++◌, ◌∙◌, ap, arith, length, subst, sym, refl}
use Rattle.std.proofs.lemmas.Result.{IfOk-weaker}
use Rattle.js_kind.specs.TokenParts.{TokenParts}
use Rattle.js_session.specs.Session.{SessionState}
use Rattle.js_document.specs.Reading.{JoinsHeld, JoinsNone, StepsChosen}
use Rattle.js_document.proofs.FromSession.{are_made, goes_begun, reads_first, reads_on_from_start}
use Rattle.js_document.proofs.read.read_from_first.Goals as goal

pub joined_by-requires-clause-ordered : goal.joined_by-requires-clause-ordered
joined_by-requires-clause-ordered g c =
    let b = c.requires.begun.2 in
    let is = c.last_token-first.ensures [] b.row (c.rows.ensures.rows ∙ ap (λ (s : SessionState). s.rows) b.after) in
    (goes_begun g.K.KeepGoals.choice g.met.K.KeepGoals.is_rule g.K.KeepGoals.knows g.K.KeepGoals.alike c.args.open.now
    c.args.open.now c.args.joining.now c.args.text.now c.requires.begun.0 c.requires.begun.1 c.args.session.now b
    c.last_token-first.result c.first-state.result c.utf8.text is
    (c.first-state.ensures c.args.open.now c.last_token-first.result)).lies.ordered

pub joined_by-requires-clause-fits : goal.joined_by-requires-clause-fits
joined_by-requires-clause-fits g c =
    let b = c.requires.begun.2 in
    let is = c.last_token-first.ensures [] b.row (c.rows.ensures.rows ∙ ap (λ (s : SessionState). s.rows) b.after) in
    let inside = (goes_begun g.K.KeepGoals.choice g.met.K.KeepGoals.is_rule g.K.KeepGoals.knows g.K.KeepGoals.alike
    c.args.open.now c.args.open.now c.args.joining.now c.args.text.now c.requires.begun.0 c.requires.begun.1
    c.args.session.now b c.last_token-first.result c.first-state.result c.utf8.text is
    (c.first-state.ensures c.args.open.now c.last_token-first.result)).lies.end.0 in
    let fits = c.requires.fits in
    omega (arith, inside, fits)

pub read_on-requires-clause-goes : goal.read_on-requires-clause-goes
read_on-requires-clause-goes g c =
    let b = c.requires.begun.2 in
    let is = c.last_token-first.ensures [] b.row (c.rows.ensures.rows ∙ ap (λ (s : SessionState). s.rows) b.after) in (
      [],
      goes_begun g.K.KeepGoals.choice g.met.K.KeepGoals.is_rule g.K.KeepGoals.knows g.K.KeepGoals.alike c.args.open.now
          c.args.open.now c.args.joining.now c.args.text.now c.requires.begun.0 c.requires.begun.1 c.args.session.now b
          c.last_token-first.result c.first-state.result c.utf8.text is
          (c.first-state.ensures c.args.open.now c.last_token-first.result),
    )

pub returns-in-Some-clause-ok : goal.returns-in-Some-clause-ok
returns-in-Some-clause-ok g c = λ t collects entries b rows states.
    let is = c.last_token-first.ensures [] b.row (c.rows.ensures.rows ∙ ap (λ (s : SessionState). s.rows) b.after) in
    let joins = c.in-Some.ensures.some (c.last_token-first.result ∷ [])
    (c.first-state.ensures c.args.open.now c.last_token-first.result) refl in
    reads_first g.K.KeepGoals.choice g.met.K.KeepGoals.is_rule g.K.KeepGoals.knows g.K.KeepGoals.alike c.args.open.now
    c.args.open.now c.args.joining.now c.args.text.now t collects c.args.session.now b c.first-state.result c.in-Some.left
    entries (c.first-state.ensures c.args.open.now b.row.token)
    (subst
    (λ (x : TokenParts). JoinsHeld g.K.KeepGoals.knows g.K.KeepGoals.alike c.args.open.now c.args.joining.now x (x ∷ [])
    c.in-Some.left) is joins)
    rows
    (states ∙ c.in_ok-push.ensures.items ∙ ap (λ xs. xs ++ c.first-state.result ∷ []) c.requires.none)

pub returns-clause-ok : goal.returns-clause-ok
returns-clause-ok g c =
    let first = c.last_token-first.result in
    let begun = c.requires.begun.2 in
    let first_is = c.last_token-first.ensures [] begun.row
    (c.rows.ensures.rows ∙ ap (λ (s : SessionState). s.rows) begun.after) in
    let goes = goes_begun g.K.KeepGoals.choice g.met.K.KeepGoals.is_rule g.K.KeepGoals.knows g.K.KeepGoals.alike
    c.args.open.now c.args.open.now c.args.joining.now c.args.text.now c.requires.begun.0 c.requires.begun.1
    c.args.session.now begun first c.first-state.result c.utf8.text first_is
    (c.first-state.ensures c.args.open.now first) in
    let none = c.in_default.ensures.none (first ∷ []) (c.first-state.ensures c.args.open.now first) refl refl in
    let pushed = c.in_ok-push.ensures.items ∙ ap (λ xs. xs ++ c.first-state.result ∷ []) c.requires.none in
    IfOk-weaker c.read_on.result _ _
    (λ left steps t collects entries b rows states.
    let is = c.last_token-first.ensures [] b.row (c.rows.ensures.rows ∙ ap (λ (s : SessionState). s.rows) b.after) in
    reads_on_from_start g.K.KeepGoals.choice g.met.K.KeepGoals.is_rule g.K.KeepGoals.knows g.K.KeepGoals.alike
    c.args.open.now c.read_on.new.open c.args.joining.now c.args.text.now t collects c.args.session.now
    c.read_on.new.session b c.first-state.result c.read_on.new.states.items left c.args.steps.now c.read_on.new.steps
    entries (c.first-state.ensures c.read_on.new.open b.row.token)
    (subst
    (λ (x : TokenParts). JoinsNone g.K.KeepGoals.knows g.K.KeepGoals.alike c.args.open.now c.args.joining.now x (x ∷ []))
    is none)
    (subst
    (λ xs. StepsChosen g.K.KeepGoals.choice g.K.KeepGoals.knows g.K.KeepGoals.alike [] c.args.open.now c.read_on.new.open
    c.args.joining.now c.args.session.now c.read_on.new.session xs c.read_on.new.states.items left c.args.steps.now
    c.read_on.new.steps) pushed steps)
    rows states)
    (c.read_on.ensures.ok [] goes)

pub returns-clause-states : goal.returns-clause-states
returns-clause-states g c =
    let first = c.last_token-first.result in
    let begun = c.requires.begun.2 in
    let first_is = c.last_token-first.ensures [] begun.row
    (c.rows.ensures.rows ∙ ap (λ (s : SessionState). s.rows) begun.after) in
    let goes = goes_begun g.K.KeepGoals.choice g.met.K.KeepGoals.is_rule g.K.KeepGoals.knows g.K.KeepGoals.alike
    c.args.open.now c.args.open.now c.args.joining.now c.args.text.now c.requires.begun.0 c.requires.begun.1
    c.args.session.now begun first c.first-state.result c.utf8.text first_is
    (c.first-state.ensures c.args.open.now first) in
    let rows = ap (λ (s : SessionState). length s.rows) begun.after in
    let pushed = c.in_ok-push.ensures.items ∙ ap (λ xs. xs ++ c.first-state.result ∷ []) c.requires.none in
    IfOk-weaker c.read_on.result _ _
    (λ left steps.
    let made = are_made g.K.KeepGoals.choice g.met.K.KeepGoals.is_rule g.K.KeepGoals.knows g.K.KeepGoals.alike
    c.args.open.now c.read_on.new.open c.args.joining.now c.args.text.now c.requires.begun.0 [] c.args.session.now
    c.read_on.new.session c.push.new.self.items c.read_on.new.states.items left c.args.steps.now c.read_on.new.steps steps in
    made.states_long (ap (λ l. length l) pushed ∙ sym rows))
    (c.read_on.ensures.ok [] goes)

pub returns-clause-ticks : goal.returns-clause-ticks
returns-clause-ticks g c =
    let first = c.last_token-first.result in
    let begun = c.requires.begun.2 in
    let first_is = c.last_token-first.ensures [] begun.row
    (c.rows.ensures.rows ∙ ap (λ (s : SessionState). s.rows) begun.after) in
    let goes = goes_begun g.K.KeepGoals.choice g.met.K.KeepGoals.is_rule g.K.KeepGoals.knows g.K.KeepGoals.alike
    c.args.open.now c.args.open.now c.args.joining.now c.args.text.now c.requires.begun.0 c.requires.begun.1
    c.args.session.now begun first c.first-state.result c.utf8.text first_is
    (c.first-state.ensures c.args.open.now first) in
    let rows = ap (λ (s : SessionState). length s.rows) begun.after in
    IfOk-weaker c.read_on.result _ _
    (λ left steps.
    let made = are_made g.K.KeepGoals.choice g.met.K.KeepGoals.is_rule g.K.KeepGoals.knows g.K.KeepGoals.alike
    c.args.open.now c.read_on.new.open c.args.joining.now c.args.text.now c.requires.begun.0 [] c.args.session.now
    c.read_on.new.session c.push.new.self.items c.read_on.new.states.items left c.args.steps.now c.read_on.new.steps steps in
    (let ticks = made.ticks in omega (arith, ticks, rows)))
    (c.read_on.ensures.ok [] goes)
