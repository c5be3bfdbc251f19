use Rattle.std.proofs.Common.{arith, subst, true, false}
use Rattle.js_spell.specs.Strings.{EndsString}
use Rattle.js_spell.proofs.BreakSteps.{on_err}
use Rattle.js_spell.proofs.ItemSteps.{end_broken}
use Rattle.js_spell.proofs.SpellSteps.{place_of_items, string_broken, string_closed, string_open}
use Rattle.js_spell.proofs.string.read_string.Goals as goal

pub read_value-requires : goal.read_value-requires
read_value-requires c =
    omega (
      arith,
      place_of_items c.args.token.now.start c.args.source.now c.take_quote-literal.new.source
          c.take_quote-literal.result c.requires.start c.take_quote-literal.ensures,
    )

pub end_string-requires-clause-start : goal.end_string-requires-clause-start
end_string-requires-clause-start c =
    omega (
      arith,
      c.start.ensures,
      c.read_value.ensures.onward,
      place_of_items c.args.token.now.start c.args.source.now c.take_quote-literal.new.source
          c.take_quote-literal.result c.requires.start c.take_quote-literal.ensures,
    )

pub returns-then-is_closed-clause-ok : goal.returns-then-is_closed-clause-ok
returns-then-is_closed-clause-ok c =
    let here = c.read_value.new.source in
    let new = c.end_string.new.source in
    let between = c.read_value.new.errors in
    let after = c.end_string.new.errors in
    let ends : EndsString c.quote_of.result c.args.token.now.start here new between after true =
    subst (λ b. EndsString c.quote_of.result c.args.token.now.start here new between after b) c.if-is_closed.true
    (subst (λ s. EndsString c.quote_of.result s here new between after c.in_ok-is_closed.is_closed) c.start.ensures
    c.in_ok-is_closed.ensures.ok) in
    string_closed c.args.token.now.start c.args.source.now c.take_quote-literal.new.source here new c.args.errors.now
    between after c.args.token.now c.spell.new.token c.spell.result c.take_quote-literal.result c.in_ok-value.value
    c.quote_of.result c.requires.start
    c.take_quote-literal.ensures c.in_ok-value.ensures.ok c.quote_of.ensures ends c.spell.ensures.flags
    c.spell.ensures.parts

pub returns-clause-ok : goal.returns-clause-ok
returns-clause-ok c =
    let here = c.read_value.new.source in
    let new = c.end_string.new.source in
    let between = c.read_value.new.errors in
    let after = c.end_string.new.errors in
    let ends : EndsString c.quote_of.result c.args.token.now.start here new between after false =
    subst (λ b. EndsString c.quote_of.result c.args.token.now.start here new between after b) c.if-is_closed.false
    (subst (λ s. EndsString c.quote_of.result s here new between after c.in_ok-is_closed.is_closed) c.start.ensures
    c.in_ok-is_closed.ensures.ok) in
    string_open c.args.token.now.start c.args.source.now c.take_quote-literal.new.source here new c.args.errors.now
    between after c.args.token.now c.spell-2.new.token c.spell-2.result c.take_quote-literal.result c.in_ok-value.value
    c.quote_of.result c.requires.start
    c.take_quote-literal.ensures c.in_ok-value.ensures.ok c.quote_of.ensures ends c.spell-2.ensures.flags
    c.spell-2.ensures.parts

pub returns-in_err-value-clause-err : goal.returns-in_err-value-clause-err
returns-in_err-value-clause-err c =
    on_err c.from_residual.result _
    (string_broken c.args.token.now.start c.args.source.now c.take_quote-literal.new.source c.read_value.new.source
    c.args.errors.now c.read_value.new.errors c.take_quote-literal.result
    c.requires.start c.take_quote-literal.ensures c.in_err-value.ensures.err)

pub returns-in_err-is_closed-clause-err : goal.returns-in_err-is_closed-clause-err
returns-in_err-is_closed-clause-err c =
    let mid = c.take_quote-literal.new.source in
    let new = c.end_string.new.source in
    on_err c.from_residual-in_err-is_closed.result _
    (string_broken c.args.token.now.start c.args.source.now mid new c.args.errors.now c.end_string.new.errors
    c.take_quote-literal.result c.requires.start c.take_quote-literal.ensures
    (end_broken c.take_quote-literal.result c.args.token.now.start mid c.read_value.new.source new c.args.errors.now
    c.read_value.new.errors c.end_string.new.errors c.in_ok-value.value
    c.in_ok-value.ensures.ok c.in_err-is_closed.ensures.err))
