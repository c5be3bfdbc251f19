use Rattle.js_rewrite.proofs.sources.check.Goals as goal

pub returns-in-Err-clause-cause : goal.returns-in-Err-clause-cause
returns-in-Err-clause-cause c =
    c.fault_of.ensures c.args.source.now c.args.source_type c.args.commands.now c.in-Err.ensures.err
