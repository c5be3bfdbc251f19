use Rattle.std.proofs.Common.{rules}
use Rattle.std.proofs.lemmas.List.Sorted.{answers_always}
use Rattle.js_source.proofs.Offsets.{searched}
use Rattle.js_source.proofs.offset_map.search.Goals as goal

-- the closure gives an entry's offset
pub returns-clause-found : goal.returns-clause-found
returns-clause-found g c =
    let position = c.binary_search_by_key.ensures.position (λ entry. entry.0) in
    let by_offset = position (answers_always _ _ _ (λ f a r g called. search rules)) in
    let facts = searched c.args.ordered.now c.requires c.args.offset c.binary_search_by_key.result in
    rw c.ok.ensures.value ((facts c.binary_search_by_key.ensures.bound by_offset).found)

pub returns-clause-absent : goal.returns-clause-absent
returns-clause-absent g c =
    let position = c.binary_search_by_key.ensures.position (λ entry. entry.0) in
    let by_offset = position (answers_always _ _ _ (λ f a r g called. search rules)) in
    let facts = searched c.args.ordered.now c.requires c.args.offset c.binary_search_by_key.result in
    rw c.ok.ensures.value ((facts c.binary_search_by_key.ensures.bound by_offset).absent)
