use Rattle.std.proofs.Common.{arith, refl}
use Rattle.js_text.specs.Ascii.{slash}
use Rattle.js_reader.proofs.GoalSteps.{behind_mark, expression_goal, expression_ordered, mark_passed}
use Rattle.js_reader.proofs.reader.Reader.read_expression.Goals as goal

pub read_regular_expression-requires : goal.read_regular_expression-requires
read_regular_expression-requires c =
    let mid = c.go_behind.new.source in
    mark_passed slash c.args.start c.args.self.now mid (omega arith)
    (behind_mark slash c.args.start c.args.self.now mid c.requires.boundary c.requires.here c.go_behind.ensures.past)

pub token_from-requires : goal.token_from-requires
token_from-requires c =
    let mid = c.go_behind.new.source in
    expression_ordered c.args.start c.args.self.now
    (record c.args.self.now {
      source = c.read_regular_expression.new.source;
    }) mid c.in_ok-info.info (behind_mark slash c.args.start c.args.self.now mid c.requires.boundary c.requires.here
    c.go_behind.ensures.past) c.in_ok-info.ensures.ok

pub returns-clause-ok : goal.returns-clause-ok
returns-clause-ok c =
    let mid = c.go_behind.new.source in
    expression_goal c.args.start c.args.self.now
    (record c.args.self.now {
      source = c.read_regular_expression.new.source;
    }) mid c.in_ok-info.info c.token_from.result
    (behind_mark slash c.args.start c.args.self.now mid c.requires.boundary c.requires.here
    c.go_behind.ensures.past) c.in_ok-info.ensures.ok refl c.token_from.ensures
