use Rattle.js_rewrite.proofs.Causes.{completely, exactly}
use Rattle.js_strip.proofs.stripping.strip.Goals as goal

pub returns-clause-exact : goal.returns-clause-exact
returns-clause-exact c =
    λ fault is. exactly c.args.source.now c.args.source_type c.args.commands.now c.strip_source.result fault
    c.strip_source.ensures.ok c.strip_source.ensures.cause is

pub returns-clause-complete : goal.returns-clause-complete
returns-clause-complete c =
    completely c.args.source.now c.args.source_type c.args.commands.now c.strip_source.result
    c.strip_source.ensures.cause
