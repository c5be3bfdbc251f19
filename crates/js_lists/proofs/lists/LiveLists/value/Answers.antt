use Rattle.js_lists.proofs.ListLemmas.{told_at}
use Rattle.js_lists.proofs.lists.LiveLists.value.Goals as goal

pub returns-in-None : goal.returns-in-None
returns-in-None c =
    λ taken x h at. c.told_value.ensures x.value
    (told_at c.args.self.now taken x c.args.index c.as_slice.result.now c.index-as_slice-index.result h at
    c.in-None.ensures.none c.as_slice.ensures c.index-as_slice-index.is)
