use Rattle.js_lists.proofs.ListLemmas.{command_lists}
use Rattle.js_lists.proofs.lists.session_lists.Goals as goal

pub returns-in-Ok-clause-lists : goal.returns-in-Ok-clause-lists
returns-in-Ok-clause-lists c =
    command_lists c.args.commands.now c.args.source.now c.args.source_type c.new_in-lists.result
    c.read_steps.new.taker c.new_in-lists.ensures c.in-Ok.ensures.taken
