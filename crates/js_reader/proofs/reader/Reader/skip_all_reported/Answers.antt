use Rattle.std.proofs.Common.{subst, Bool}
use Rattle.js_reader.specs.Reader.{SkipsReported}
use Rattle.js_reader.proofs.TriviaSteps.{grows_on}
use Rattle.js_reader.proofs.WholeSteps.{none_so_far, so_far}
use Rattle.js_reader.proofs.reader.Reader.skip_all_reported.Goals as goal

pub loop-init : goal.loop-init
loop-init c = none_so_far c.args.self.now c.args.found.now c.requires

pub returns-in_err-skip_reported-clause-grown : goal.returns-in_err-skip_reported-clause-grown
returns-in_err-skip_reported-clause-grown c =
    grows_on c.args.found.now c.loop.found c.skip_reported.new.found c.loop.invariant.grown
    c.skip_reported.ensures.grown

pub loop-preserved : goal.loop-preserved
loop-preserved c =
    so_far c.args.self.now c.loop.self c.skip_reported.new.self c.args.found.now c.loop.found c.skip_reported.new.found
    c.loop.invariant (subst
    (λ (b : Bool). SkipsReported c.loop.self c.loop.found b c.skip_reported.new.self c.skip_reported.new.found)
    c.if-branch.true c.in_ok-skip_reported.ensures.ok) c.skip_reported.ensures.grown
