use Rattle.std.proofs.Common.{◌≡◌, sym, ◌∙◌, ap, subst}
use Rattle.std.specs.Prelude.{OnOk}
use Rattle.js_session.specs.Effects.{effect_of}
use Rattle.js_choose.specs.Rules.{with_token}
use Rattle.js_choose.proofs.ChosenLemmas.{due_is_step}
use Rattle.js_choose.proofs.SessionLemmas.{tokens_told}
use Rattle.js_choose.proofs.session.make_step.Goals as goal

pub step-requires : goal.step-requires
step-requires g c =
    due_is_step c.args.session.now.text c.args.session.now.state.now.tokens c.args.command
    (g.met.G.ChooseGoals.is_rule c.args.session.now.text c.args.session.now.state.now.tokens c.args.command
    c.requires.chosen)

-- what is told is the tokens behind the step
pub returns-clause-told : goal.returns-clause-told
returns-clause-told g c =
    let s = c.args.session.now in
    let a = c.in_ok-step.ensures.ok in
    let token : c.last_token-token.result ≡ a.row.token =
    c.last_token-token.ensures s.rows a.row (c.rows.ensures.rows ∙ ap (λ x. x.rows) a.after) in
    let told : c.step.new.self.state.now.tokens
    ≡ with_token (effect_of c.args.command) s.state.now.tokens c.last_token-token.result =
    tokens_told g.G.ChooseGoals.choice g.met.G.ChooseGoals.is_rule s c.step.new.self c.args.command
    c.requires.utf8 c.requires.lies c.requires.chosen a
    ∙ sym (ap (with_token (effect_of c.args.command) s.state.now.tokens) token) in
    subst (λ tokens. OnOk c.tell.result (g.G.ChooseGoals.is_told c.tell.new.chooser tokens)) (sym told)
    (c.tell.ensures s.state.now.tokens c.requires.told)
