use Rattle.js_reader.proofs.PartSteps.{run_fewer}
use Rattle.js_reader.proofs.gap.skip_blanks.Goals as goal

pub returns-clause-fewer : goal.returns-clause-fewer
returns-clause-fewer c =
    run_fewer c.args.table.now c.args.source.now c.pass_ascii.new.self c.pass_ascii.ensures.text
    c.pass_ascii.ensures.run
