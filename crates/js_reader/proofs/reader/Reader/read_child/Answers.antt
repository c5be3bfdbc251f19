use Rattle.std.proofs.Common.{◌≤◌, ◌∙◌, refl, subst, sym, ap}
use Rattle.js_reader.specs.Reader.{read_token}
use Rattle.js_reader.proofs.GoalSteps.{child_goal, child_grows, child_ordered}
use Rattle.js_reader.proofs.reader.Reader.read_child.Goals as goal

pub token_from-requires : goal.token_from-requires
token_from-requires c =
    let new = record c.args.self.now { source = c.read_jsx_child.new.source } in
    subst (λ n. n ≤ c.read_jsx_child.new.source.place) (sym c.offset-start.ensures.place)
    (child_ordered c.args.self.now new c.in_ok-kind.kind c.in_ok-kind.ensures.ok)

pub returns-clause-ok : goal.returns-clause-ok
returns-clause-ok c =
    let new = record c.args.self.now { source = c.read_jsx_child.new.source } in
    child_goal c.args.self.now new c.args.found.now c.read_jsx_child.new.errors c.read_jsx_child.new.warnings
    c.in_ok-kind.kind c.token_from.result c.in_ok-kind.ensures.ok c.in_ok-kind.ensures.warned refl
    (c.token_from.ensures
    ∙ ap (λ n. read_token c.args.self.now.line_has_ended n new.source.place c.in_ok-kind.kind)
    c.offset-start.ensures.place)

pub returns-clause-grown : goal.returns-clause-grown
returns-clause-grown c =
    child_grows c.args.found.now c.read_jsx_child.new.errors c.read_jsx_child.new.warnings _ _
    c.in_ok-kind.ensures.ok.reports c.in_ok-kind.ensures.warned

pub returns-in_err-kind-clause-grown : goal.returns-in_err-kind-clause-grown
returns-in_err-kind-clause-grown c =
    child_grows c.args.found.now c.read_jsx_child.new.errors c.read_jsx_child.new.warnings _ _
    c.in_err-kind.ensures.err.reports c.in_err-kind.ensures.in_part.warnings
