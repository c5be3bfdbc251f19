use Rattle.js_lists.proofs.ListLemmas.{chosen_lists}
use Rattle.js_lists.proofs.lists.chosen_lists.Goals as goal

pub returns-in-Ok-clause-lists : goal.returns-in-Ok-clause-lists
returns-in-Ok-clause-lists g c =
    chosen_lists g.G.ChooseGoals.choice c.args.source.now c.args.source_type c.new_in-lists.result
    c.read_chosen.new.taker c.new_in-lists.ensures c.in-Ok.ensures.taken
