use Rattle.std.proofs.Common.{subst, ◌∙◌, ap, arith, []}
use Rattle.std.proofs.lemmas.Result.{on_err_weaker}
use Rattle.js_source.specs.Source.{At, rest}
use Rattle.js_grammar.specs.NumberReads.{missing_digits, number_items}
use Rattle.js_spell.specs.Numeric.{ReadsCut}
use Rattle.js_spell.proofs.NumericSteps.{if_ok_map}
use Rattle.js_spell.proofs.BreakSteps.{broken_first, broken_later, on_err}
use Rattle.js_spell.proofs.PrefixSteps.{prefixed_read, pointed_broken, pointed_read}
use Rattle.js_spell.proofs.numeric.read_items.Goals as goal

pub returns-then-advance_if_ascii_eq-clause-ok : goal.returns-then-advance_if_ascii_eq-clause-ok
returns-then-advance_if_ascii_eq-clause-ok c =
    pointed_read c.args.source.now c.advance_if_ascii_eq.new.self c.read_fraction.new.source c.args.errors.now
    c.read_fraction.new.errors c.args.has_separator.now c.read_fraction.new.has_separator
    c.if-advance_if_ascii_eq.ensures.cases c.in_ok-read_fraction.ensures.ok

pub returns-in-Prefix-clause-ok : goal.returns-in-Prefix-clause-ok
returns-in-Prefix-clause-ok c =
    let start = c.advance_if_ascii_eq.new.self in
    let mid = c.next_char-in-Prefix.new.self in
    let none = c.if-advance_if_ascii_eq.ensures.cases in
    let prefix = c.in-Prefix.ensures in
    let first = c.next_char.ensures.past _ _ prefix.here in
    let second = c.next_char-in-Prefix.ensures.past _ _ first.1 in
    if_ok_map c.read_behind_prefix.result _ _
    (λ kind cut.
    subst
    (λ (at : At). ReadsCut at c.read_behind_prefix.new.source c.args.errors.now c.read_behind_prefix.new.errors
    c.args.has_separator.now
    c.read_behind_prefix.new.has_separator kind (number_items (rest at))) none.1
    (prefixed_read c.in-Prefix.prefix start mid c.read_behind_prefix.new.source c.args.errors.now
    c.read_behind_prefix.new.errors c.args.has_separator.now c.read_behind_prefix.new.has_separator kind
    prefix (second.0 ∙ first.0) second.1 cut)) c.read_behind_prefix.ensures.ok

pub returns-in_err-read_fraction-clause-err : goal.returns-in_err-read_fraction-clause-err
returns-in_err-read_fraction-clause-err c =
    on_err c.from_residual.result _
    (pointed_broken c.args.source.now c.advance_if_ascii_eq.new.self c.read_fraction.new.source c.args.errors.now
    c.read_fraction.new.errors c.if-advance_if_ascii_eq.ensures.cases c.in_err-read_fraction.ensures.err)

pub returns-in-Prefix-clause-err : goal.returns-in-Prefix-clause-err
returns-in-Prefix-clause-err c =
    let start = c.advance_if_ascii_eq.new.self in
    let mid = c.next_char-in-Prefix.new.self in
    let new = c.read_behind_prefix.new.source in
    let none = c.if-advance_if_ascii_eq.ensures.cases in
    let first = c.next_char.ensures.past _ _ c.in-Prefix.ensures.here in
    let second = c.next_char-in-Prefix.ensures.past _ _ first.1 in
    let told = missing_digits c.args.source.now.place (number_items (rest c.args.source.now)).items in
    on_err_weaker c.read_behind_prefix.result
    (λ broken. broken_first told c.args.source.now new c.args.errors.now c.read_behind_prefix.new.errors
    (broken_later [] c.args.source.now mid new c.args.errors.now c.read_behind_prefix.new.errors
    (second.0 ∙ first.0 ∙ ap (λ (at : At). at.text) none.1)
    (omega (
      arith,
      c.advance_if_ascii_eq.ensures.onward,
      c.next_char.ensures.onward,
      c.next_char-in-Prefix.ensures.onward,
    )) broken)) c.read_behind_prefix.ensures.err
