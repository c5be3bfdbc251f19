use Rattle.js_rewrite.proofs.Causes.{completely, exactly}
use Rattle.js_squeeze.proofs.squeezing.squeeze.Goals as goal

pub returns-clause-exact : goal.returns-clause-exact
returns-clause-exact c =
    λ fault is. exactly c.args.source.now c.args.source_type c.args.commands.now c.squeeze_source.result fault
    c.squeeze_source.ensures.ok c.squeeze_source.ensures.cause is

pub returns-clause-complete : goal.returns-clause-complete
returns-clause-complete c =
    completely c.args.source.now c.args.source_type c.args.commands.now c.squeeze_source.result
    c.squeeze_source.ensures.cause
