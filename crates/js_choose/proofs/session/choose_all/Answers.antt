use Rattle.std.proofs.Common.{◌∷◌, [], sym, ◌∙◌, ap, subst}
use Rattle.std.specs.Str.{IsUtf8}
use Rattle.js_choose.proofs.SessionLemmas.{Goes, goes_end, goes_less, goes_on, goes_start, tokens_begun}
use Rattle.js_choose.proofs.session.choose_all.Goals as goal

pub loop-command-init : goal.loop-command-init
loop-command-init g c =
    let rule = g.G.ChooseGoals.choice in
    let s = c.args.session.now in
    let tokens = tokens_begun s.text s.source_type s.collects s c.requires.begun in
    let token =
    c.last_token.ensures [] c.requires.begun.row
    (c.rows.ensures.rows ∙ ap (λ x. x.rows) c.requires.begun.after) in (
      subst (λ text. Goes rule text s.source_type s.collects c.new_in-commands.result s) c.requires.text_is
          (subst (λ cs. Goes rule s.text s.source_type s.collects cs s) (sym c.new_in-commands.ensures)
          (goes_start rule s.text s.source_type s.collects s (subst IsUtf8 (sym c.requires.text_is) c.requires.utf8)
          c.requires.begun)),
      subst (g.G.ChooseGoals.is_told c.read_passed.new.self) (ap (λ t. t ∷ []) token ∙ sym tokens)
          (c.read_passed.ensures [] (c.in_ok-pass.ensures.ok [] c.new-chooser.ensures)),
    )

pub loop-command-smaller : goal.loop-command-smaller
loop-command-smaller g c =
    let s = c.args.session.now in
    goes_less g.G.ChooseGoals.choice g.met.G.ChooseGoals.is_rule c.args.text.now s.source_type s.collects
    c.loop-command.commands c.loop-command.session c.make_step.new.session c.in-Some.command c.requires.utf8
    c.loop-command.invariant.0
    (sym (c.in-Some.ensures c.loop-command.session.state.now.tokens c.loop-command.invariant.1))
    c.in_ok-make_step.ensures.row

pub loop-command-preserved : goal.loop-command-preserved
loop-command-preserved g c =
    let s = c.args.session.now in
    let went =
    goes_on g.G.ChooseGoals.choice g.met.G.ChooseGoals.is_rule c.args.text.now s.source_type s.collects
    c.loop-command.commands c.loop-command.session c.make_step.new.session c.in-Some.command c.requires.utf8
    c.loop-command.invariant.0
    (sym (c.in-Some.ensures c.loop-command.session.state.now.tokens c.loop-command.invariant.1))
    c.in_ok-make_step.ensures.row in (
      subst (λ cs. Goes g.G.ChooseGoals.choice c.args.text.now s.source_type s.collects cs c.make_step.new.session)
          (sym c.in_ok-push.ensures.ok) went,
      c.in_ok-make_step.ensures.told,
    )

pub returns : goal.returns
returns g c =
    let s = c.args.session.now in
    goes_end g.G.ChooseGoals.choice g.met.G.ChooseGoals.is_rule c.args.text.now s.source_type s.collects
    c.loop-command.commands c.loop-command.session c.requires.utf8 c.requires.short c.loop-command.invariant.0
    (sym (c.in_default.ensures c.loop-command.session.state.now.tokens c.loop-command.invariant.1))
