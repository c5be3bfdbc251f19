use Rattle.std.proofs.Common.{subst, ◌∙◌, [], List, ◌++◌, ◌≡◌}
use Rattle.std.proofs.lemmas.Result.{on_err_weaker}
use Rattle.js_grammar.specs.Jsx.{jsx_child_reading}
use Rattle.js_grammar.specs.Reading.{reported_at}
use Rattle.js_source.specs.Source.{At, rest}
use Rattle.js_spell.specs.Breaks.{BreaksOff}
use Rattle.js_spell.proofs.BreakSteps.{broken_first}
use Rattle.js_spell.proofs.JsxSteps.{child_of_text, warnings_of_text}
use Rattle.js_spell.proofs.jsx.read_jsx_child.Goals as goal
use Rattle.js_spell.specs.Goals.{WarnsInPart}
use Rattle.std.specs.Prelude.{OnOk, OnErr}
use Rattle.js_text.specs.declared.span.Span.{Span}

pub returns-clause-ok : goal.returns-clause-ok
returns-clause-ok c =
    let angle = c.if-advance_if_ascii_eq.ensures.cases in
    let bracket = c.if-advance_if_ascii_eq-2.ensures.cases in
    child_of_text c.read_jsx_text.result c.args.source.now c.advance_if_ascii_eq.new.self
    c.advance_if_ascii_eq-2.new.self c.read_jsx_text.new.source c.args.errors.now c.read_jsx_text.new.errors angle.0
    angle.1 bracket.0 bracket.1 c.read_jsx_text.ensures.ok

pub returns-clause-err : goal.returns-clause-err
returns-clause-err c =
    let old = c.args.source.now in
    let new = c.read_jsx_text.new.source in
    let after = c.read_jsx_text.new.errors in
    let angle = c.if-advance_if_ascii_eq.ensures.cases in
    let bracket = c.if-advance_if_ascii_eq-2.ensures.cases in
    on_err_weaker c.read_jsx_text.result
    (λ broken. broken_first (reported_at old.place (jsx_child_reading (rest old))) old new c.args.errors.now after
    (subst (λ (at : At). BreaksOff [] at new c.args.errors.now after) (bracket.1 ∙ angle.1) broken))
    c.read_jsx_text.ensures.err

pub returns-clause-warned : goal.returns-clause-warned
returns-clause-warned c =
    let angle = c.if-advance_if_ascii_eq.ensures.cases in
    let bracket = c.if-advance_if_ascii_eq-2.ensures.cases in
    subst
    (λ (all : List Span). OnOk c.read_jsx_text.result (c.read_jsx_text.new.warnings ≡ c.args.warnings.now ++ all))
    (warnings_of_text c.args.source.now c.advance_if_ascii_eq.new.self c.advance_if_ascii_eq-2.new.self angle.0
    angle.1 bracket.0 bracket.1) c.read_jsx_text.ensures.warned

pub returns-clause-in_part : goal.returns-clause-in_part
returns-clause-in_part c =
    let angle = c.if-advance_if_ascii_eq.ensures.cases in
    let bracket = c.if-advance_if_ascii_eq-2.ensures.cases in
    subst
    (λ (all : List Span). OnErr c.read_jsx_text.result
    (WarnsInPart all c.args.warnings.now c.read_jsx_text.new.warnings))
    (warnings_of_text c.args.source.now c.advance_if_ascii_eq.new.self c.advance_if_ascii_eq-2.new.self angle.0
    angle.1 bracket.0 bracket.1) c.read_jsx_text.ensures.in_part
