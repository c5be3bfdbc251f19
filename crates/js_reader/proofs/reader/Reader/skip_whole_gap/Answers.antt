use Rattle.js_reader.proofs.TriviaSteps.{grows_on}
use Rattle.js_reader.proofs.WholeSteps.{whole_at_once, whole_behind}
use Rattle.js_reader.proofs.reader.Reader.skip_whole_gap.Goals as goal

pub returns-then-is_none_reported-clause-ok : goal.returns-then-is_none_reported-clause-ok
returns-then-is_none_reported-clause-ok c =
    whole_at_once c.args.self.now c.skip_gap.new.self c.args.found.now c.skip_gap.new.found
    c.in_ok-skip_gap.ensures.ok (c.if-is_none_reported.ensures c.skip_gap.new.self.source_type)

pub returns-in-Ok-clause-ok : goal.returns-in-Ok-clause-ok
returns-in-Ok-clause-ok c =
    whole_behind c.args.self.now c.skip_gap.new.self c.skip_all_reported.new.self c.args.found.now c.skip_gap.new.found
    c.skip_all_reported.new.found c.in_ok-skip_gap.ensures.ok c.in-Ok.ensures.ok

pub returns-in-Ok-clause-grown : goal.returns-in-Ok-clause-grown
returns-in-Ok-clause-grown c =
    grows_on c.args.found.now c.skip_gap.new.found c.skip_all_reported.new.found c.skip_gap.ensures.grown
    c.skip_all_reported.ensures.grown

pub returns-in-Err-clause-grown : goal.returns-in-Err-clause-grown
returns-in-Err-clause-grown c =
    grows_on c.args.found.now c.skip_gap.new.found c.skip_all_reported.new.found c.skip_gap.ensures.grown
    c.skip_all_reported.ensures.grown
