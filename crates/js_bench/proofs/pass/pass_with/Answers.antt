use Rattle.std.proofs.Common.{refl, sym, ap, length, subst}
use Rattle.js_grammar.specs.declared.goal.Goal.TheVariants.{First}
use Rattle.js_bench.specs.Drive.{ReadsOn}
use Rattle.js_bench.specs.declared.pass.PassCounts.{PassCounts}
use Rattle.js_bench.proofs.PassLemmas.{passes_end, passes_less, passes_may, passes_on, passes_start}
use Rattle.js_bench.proofs.pass.pass_with.Goals as goal

pub tokens-init : goal.tokens-init
tokens-init g c =
    let l = c.args.lexer in
    passes_start g.G.ChooseGoals.is_told g.G.ChooseGoals.choice c.args.text.now l.source_type l.collects
    c.read_first.new.lexer c.new-chooser.result c.read_first.new.chooser c.requires.utf8 c.requires.short
    (subst (λ old. ReadsOn g.G.ChooseGoals.is_told First old c.read_first.new.lexer c.new-chooser.result
    c.read_first.new.chooser) c.requires.unread c.in_ok-read_first.ensures) c.new-chooser.ensures

pub follow-requires : goal.follow-requires
follow-requires g c =
    let l = c.args.lexer in
    passes_may g.G.ChooseGoals.choice (g.G.ChooseGoals.is_told c.tokens.chooser) c.args.text.now l.source_type
    l.collects c.tokens.tokens c.tokens.lexer c.in-Some.command g.met.G.ChooseGoals.is_rule c.requires.utf8
    c.tokens.invariant
    (sym (c.in-Some.ensures c.tokens.invariant.session.state.now.tokens c.tokens.invariant.is_told))

pub tokens-preserved : goal.tokens-preserved
tokens-preserved g c =
    let l = c.args.lexer in
    passes_on g.G.ChooseGoals.is_told g.G.ChooseGoals.choice c.args.text.now l.source_type l.collects c.tokens.tokens
    c.in_ok-tokens.field-0 c.tokens.lexer c.follow.new.lexer c.tokens.chooser c.follow.new.chooser c.in-Some.command
    g.met.G.ChooseGoals.is_rule c.requires.utf8 c.tokens.invariant
    (sym (c.in-Some.ensures c.tokens.invariant.session.state.now.tokens c.tokens.invariant.is_told))
    c.in_ok-tokens.ensures.follows c.in_ok-tokens.ensures.one_at_most

pub tokens-smaller : goal.tokens-smaller
tokens-smaller g c =
    let l = c.args.lexer in
    passes_less g.G.ChooseGoals.is_told g.G.ChooseGoals.choice c.args.text.now l.source_type l.collects
    c.tokens.tokens c.in_ok-tokens.field-0 c.tokens.lexer c.follow.new.lexer c.tokens.chooser c.follow.new.chooser
    c.in-Some.command g.met.G.ChooseGoals.is_rule c.requires.utf8 c.tokens.invariant
    (sym (c.in-Some.ensures c.tokens.invariant.session.state.now.tokens c.tokens.invariant.is_told))
    c.in_ok-tokens.ensures.follows

pub returns : goal.returns
returns g c =
    let l = c.args.lexer in
    let counts : PassCounts =
    record {
      tokens = c.tokens.tokens;
      comments = length c.comments.result.now;
      diagnostics = length c.errors.result.now;
    } in
    passes_end g.G.ChooseGoals.choice (g.G.ChooseGoals.is_told c.tokens.chooser) c.args.text.now l.source_type
    l.collects c.tokens.tokens c.tokens.lexer counts g.met.G.ChooseGoals.is_rule c.requires.utf8 c.requires.short
    c.tokens.invariant
    (sym (c.in_default.ensures c.tokens.invariant.session.state.now.tokens c.tokens.invariant.is_told)) refl
    (ap length c.comments.ensures) (ap length c.errors.ensures)
