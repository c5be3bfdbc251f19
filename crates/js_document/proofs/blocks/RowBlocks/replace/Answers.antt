use Rattle.std.proofs.Common.{◌≡◌, List, ◌+◌, ◌-◌, ◌≤◌, ◌++◌, ◌∙◌, ap, arith, drop, length, map, subst, sym, take, ℕ}
use Rattle.std.proofs.lemmas.List.{length-append, length-drop, length-map, length-take}
use Rattle.std.specs.List.{AllByRecursion}
use Rattle.js_document.specs.declared.gap.Entry.{Entry}
use Rattle.js_document.specs.Blocks.{AreNumbered, BlockState, HasRows, HaveRows, MovesEntry, entries_in, moved_block, numbered}
use Rattle.js_document.specs.Gap.{shifted_entry}
use Rattle.js_document.proofs.BlockLemmas.{blocks_move, entries_both, entries_moved, moved_moves, numbered_are}
use Rattle.js_document.proofs.BlockLemmas.{numbered_entries, numbered_some, rows_up_to, some_moved}
use Rattle.js_document.proofs.BlockSteps.{behind_moves, between_long, high_long, replaced, up_to_few}
use Rattle.js_document.proofs.KeptLemmas.{all_joined}
use Rattle.js_document.proofs.ListLemmas.{all_dropped, all_taken}
use Rattle.js_document.proofs.blocks.RowBlocks.replace.Given.{Over}
use Rattle.js_document.proofs.blocks.RowBlocks.replace.Goals as goal
use Rattle.js_document.proofs.blocks.RowBlocks.replace.Goals.{After-blocks_around-range, In_ok-entries}

-- the rows of blocks of which some were put in the place of others
pub put_rows : {K : Type 0} (from to : ℕ) (front between behind new : List (BlockState K))
    → new ≡ numbered {K = K} 0 0 (front ++ between ++ map (moved_block {K = K} from to) behind)
    → entries_in {K = K} new
    ≡ entries_in {K = K} front ++ entries_in {K = K} between ++ map (shifted_entry {K = K} from to) (entries_in {K = K} behind)
put_rows {K} from to front between behind new is =
    let moved = map (moved_block {K = K} from to) behind in
    ap (entries_in {K = K}) is ∙ numbered_entries {K = K} 0 0 (front ++ between ++ moved)
    ∙ entries_both {K = K} (front ++ between) moved
    ∙ ap (λ es. es ++ entries_in {K = K} moved) (entries_both {K = K} front between)
    ∙ ap (λ es. entries_in {K = K} front ++ entries_in {K = K} between ++ es) (entries_moved {K = K} from to behind)

module _ (g : Over) (c : After-blocks_around-range g) where
  abbrev K : Type 0
  K = g.row.K.Denot

  abbrev bs : List (BlockState K)
  bs = c.self.inside.blocks.items

  -- the blocks that the rows stand in
  pub stand : HaveRows {K = K} bs c.args.start c.args.end c.blocks_around-range.result
  stand =
      subst (λ xs. HaveRows {K = K} xs c.args.start c.args.end c.blocks_around-range.result) c.as_slice.ensures.value
      c.blocks_around-range.ensures

pub blocks_around-range-requires-clause-numbered : goal.blocks_around-range-requires-clause-numbered
blocks_around-range-requires-clause-numbered g c = subst (AreNumbered 0 0) (sym c.as_slice.ensures.value) c.self.invariant.numbered

pub blocks_around-range-requires-clause-all : goal.blocks_around-range-requires-clause-all
blocks_around-range-requires-clause-all g c =
    c.self.invariant.len_is ∙ ap (λ xs. length (entries_in xs)) (sym c.as_slice.ensures.value)

pub blocks_around-range-requires-clause-inside : goal.blocks_around-range-requires-clause-inside
blocks_around-range-requires-clause-inside g c =
    let small = c.requires.inside in
    let same = ap (λ es. length es) c.self.view_is in
    let all = c.self.invariant.len_is in
    omega (arith, small, same, all)

pub between-requires-clause-before : goal.between-requires-clause-before
between-requires-clause-before g c = (stand g (goal.at.between-requires-clause-before g c).After-blocks_around-range).starts

pub between-requires-clause-behind : goal.between-requires-clause-behind
between-requires-clause-behind g c = (stand g (goal.at.between-requires-clause-behind g c).After-blocks_around-range).ends

pub between-requires-clause-inside : goal.between-requires-clause-inside
between-requires-clause-inside g c =
    let it = stand g (goal.at.between-requires-clause-inside g c).After-blocks_around-range in
    let high = it.high_is in
    let few = up_to_few c.self.inside.blocks.items c.blocks_around-range.result.to in
    let same = ap (λ es. length es) c.self.view_is in
    omega (arith, high, few, same)

module _ (g : Over) (c : In_ok-entries g) where
  held : HaveRows {K = g.row.K.Denot} c.self.inside.blocks.items c.args.start c.args.end c.blocks_around-range.result
  held =
      subst (λ xs. HaveRows {K = g.row.K.Denot} xs c.args.start c.args.end c.blocks_around-range.result) c.as_slice.ensures.value
      c.blocks_around-range.ensures

  abbrev blocks : List (BlockState g.row.K.Denot)
  blocks = c.self.inside.blocks.items

  abbrev rows : List (Entry g.row.K.Denot)
  rows = entries_in blocks

  abbrev from : ℕ
  from = c.blocks_around-range.result.from

  abbrev to : ℕ
  to = c.blocks_around-range.result.to

  abbrev moved : Entry g.row.K.Denot → Entry g.row.K.Denot
  moved = shifted_entry c.args.shift.now.from c.args.shift.now.to

  within : c.args.end ≤ length rows
  within = (let small = c.requires.inside in let same = ap (λ es. length es) c.self.view_is in omega (arith, small, same))

  starts : rows_up_to blocks from ≤ c.args.start
  starts = (let low = held.low_is in let less = held.starts in omega (arith, low, less))

  ends : c.args.end ≤ rows_up_to blocks to
  ends = (let high = held.high_is in let less = held.ends in omega (arith, high, less))

  -- the rows of the blocks that come
  between_is : c.in_ok-entries.entries.items
      ≡ take (c.args.start - rows_up_to blocks from) (drop (rows_up_to blocks from) rows) ++ c.args.rows.items
      ++ map moved (take (rows_up_to blocks to - c.args.end) (drop c.args.end rows))
  between_is =
      let low = c.blocks_around-range.result.low in
      let high = c.blocks_around-range.result.high in
      c.in_ok-entries.ensures
      ∙ ap
      (λ es. take (c.args.start - low) (drop low es) ++ c.args.rows.items
      ++ map moved (take (high - c.args.end) (drop c.args.end es))) (sym c.self.view_is)
      ∙ ap
      (λ n. take (c.args.start - n) (drop n rows) ++ c.args.rows.items
      ++ map moved (take (high - c.args.end) (drop c.args.end rows))) held.low_is
      ∙ ap
      (λ n. take (c.args.start - rows_up_to blocks from) (drop (rows_up_to blocks from) rows) ++ c.args.rows.items
      ++ map moved (take (n - c.args.end) (drop c.args.end rows))) held.high_is

  -- each may be moved by nothing
  fits : AllByRecursion (MovesEntry {K = g.row.K.Denot} 0 0) c.in_ok-entries.entries.items
  fits =
      let shift = c.args.shift.now in
      let old = c.args.self.now in
      let low = c.blocks_around-range.result.low in
      let high = c.blocks_around-range.result.high in
      let first = take (c.args.start - low) (drop low old) in
      let last = take (high - c.args.end) (drop c.args.end old) in
      subst (AllByRecursion (MovesEntry 0 0)) (sym c.in_ok-entries.ensures)
      (all_joined (MovesEntry 0 0) (first ++ c.args.rows.items) (map (shifted_entry shift.from shift.to) last)
      (all_joined (MovesEntry 0 0) first c.args.rows.items
      (all_taken (MovesEntry 0 0) (c.args.start - low) (drop low old)
      (all_dropped (MovesEntry 0 0) low old c.requires.fits)) c.requires.rows)
      (moved_moves shift.from shift.to last
      (all_taken (MovesEntry shift.from shift.to) (high - c.args.end) (drop c.args.end old) c.requires.moves)))

  may_move : AllByRecursion (MovesEntry {K = g.row.K.Denot} c.args.shift.now.from c.args.shift.now.to)
      (entries_in (drop to blocks))
  may_move =
      behind_moves blocks c.args.start c.args.end from to c.requires.ordered within starts ends
      (MovesEntry c.args.shift.now.from c.args.shift.now.to)
      (subst (λ es. AllByRecursion (MovesEntry c.args.shift.now.from c.args.shift.now.to) (drop c.args.end es))
      (sym c.self.view_is) c.requires.moves)

  long : length c.in_ok-entries.entries.items
      ≡ (c.args.start - rows_up_to blocks from) + length c.args.rows.items + (rows_up_to blocks to - c.args.end)
  long =
      between_long blocks c.args.start c.args.end from to c.requires.ordered within starts ends moved c.args.rows.items
      c.in_ok-entries.entries.items between_is

  rest_long : length (entries_in (drop to blocks)) ≡ length rows - rows_up_to blocks to
  rest_long = high_long blocks c.args.start c.args.end from to c.requires.ordered within starts ends

  few : rows_up_to blocks to ≤ length rows
  few = up_to_few blocks to

  -- what the rows become
  become : entries_in (take from blocks) ++ c.in_ok-entries.entries.items ++ map moved (entries_in (drop to blocks))
      ≡ take c.args.start rows ++ c.args.rows.items ++ map moved (drop c.args.end rows)
  become =
      replaced blocks c.args.start c.args.end from to c.requires.ordered within starts ends moved c.args.rows.items
      c.in_ok-entries.entries.items between_is

  -- and these are what the blocks have
  now : (between new : List (BlockState g.row.K.Denot)) → entries_in between ≡ c.in_ok-entries.entries.items
      → new ≡ numbered 0 0
      (take from blocks ++ between ++ map (moved_block c.args.shift.now.from c.args.shift.now.to) (drop to blocks))
      → entries_in new ≡ take c.args.start rows ++ c.args.rows.items ++ map moved (drop c.args.end rows)
  now between new same is =
      put_rows c.args.shift.now.from c.args.shift.now.to (take from blocks) between (drop to blocks) new is
      ∙ ap (λ es. entries_in (take from blocks) ++ es ++ map moved (entries_in (drop to blocks))) same ∙ become

pub blocks_of-requires-clause-moves : goal.blocks_of-requires-clause-moves
blocks_of-requires-clause-moves g c = fits g (goal.at.blocks_of-requires-clause-moves g c).In_ok-entries

pub put_between-requires-clause-ordered : goal.put_between-requires-clause-ordered
put_between-requires-clause-ordered g c = (held g (goal.at.put_between-requires-clause-ordered g c).In_ok-entries).ordered

pub put_between-requires-clause-inside : goal.put_between-requires-clause-inside
put_between-requires-clause-inside g c = (held g (goal.at.put_between-requires-clause-inside g c).In_ok-entries).inside

pub put_between-requires-clause-moves : goal.put_between-requires-clause-moves
put_between-requires-clause-moves g c =
    let shift = c.args.shift.now in
    let bs = c.self.inside.blocks.items in
    let to = c.blocks_around-range.result.to in
    blocks_move shift.from shift.to (drop to bs) (all_dropped HasRows to bs c.self.invariant.some)
    (may_move g (goal.at.put_between-requires-clause-moves g c).In_ok-entries)

pub put_between-requires-clause-few : goal.put_between-requires-clause-few
put_between-requires-clause-few g c =
    let at = (goal.at.put_between-requires-clause-few g c).In_ok-entries in
    let count = long g at in
    let same = ap (λ es. length es) c.in_ok-between.ensures.entries in
    let last = rest_long g at in
    let less = starts g at in
    let more = ends g at in
    let high = few g at in
    let sum = c.in_ok-len.ensures in
    let all = c.self.invariant.len_is in
    let view = ap (λ es. length es) c.self.view_is in
    let end = c.requires.inside in
    let ordered = c.requires.ordered in
    let read = c.len.ensures in
    let items = c.args.rows.ok.0 in
    omega (arith, count, same, last, less, more, high, sum, all, view, end, ordered, read, items)

pub returns-clause-ok : goal.returns-clause-ok
returns-clause-ok g c =
    let shift = c.args.shift.now in
    now g (goal.at.returns-clause-ok g c).In_ok-entries c.in_ok-between.between.items c.put_between.new.blocks.items
    c.in_ok-between.ensures.entries c.in_ok-put_between.ensures.ok
    ∙ ap
    (λ es. take c.args.start es ++ c.args.rows.items ++ map (shifted_entry shift.from shift.to) (drop c.args.end es))
    c.self.view_is

pub invariant_of-self-2 : goal.invariant_of-self-2
invariant_of-self-2 g c =
    let at = (goal.at.invariant_of-self-2 g c).In_ok-entries in
    let shift = c.args.shift.now in
    let bs = c.self.inside.blocks.items in
    let from = c.blocks_around-range.result.from in
    let to = c.blocks_around-range.result.to in
    let between = c.in_ok-between.between.items in
    let moved = map (moved_block shift.from shift.to) (drop to bs) in
    let new = take from bs ++ between ++ moved in
    record {
      some =
          subst (AllByRecursion HasRows) (sym c.in_ok-put_between.ensures.ok)
          (numbered_some 0 0 new
          (all_joined HasRows (take from bs ++ between) moved
          (all_joined HasRows (take from bs) between (all_taken HasRows from bs c.self.invariant.some)
          c.in_ok-between.ensures.some)
          (some_moved shift.from shift.to (drop to bs) (all_dropped HasRows to bs c.self.invariant.some))));
      numbered = subst (AreNumbered 0 0) (sym c.in_ok-put_between.ensures.ok) (numbered_are 0 0 new);
      len_is =
          let rows = entries_in bs in
          let behind = map (shifted_entry shift.from shift.to) (drop c.args.end rows) in
          let whole = ap (λ es. length es)
          (now g at between c.put_between.new.blocks.items c.in_ok-between.ensures.entries c.in_ok-put_between.ensures.ok)
          ∙ length-append (take c.args.start rows ++ c.args.rows.items) behind in
          let front = length-append (take c.args.start rows) c.args.rows.items in
          let first = length-take c.args.start rows in
          let last = length-map (drop c.args.end rows) (shifted_entry shift.from shift.to) in
          let rest = length-drop c.args.end rows in
          let sum = c.in_ok-len.ensures in
          let read = c.len.ensures in
          let items = c.args.rows.ok.0 in
          let all = c.self.invariant.len_is in
          let end = within g at in
          let ordered = c.requires.ordered in
          omega (arith, whole, front, first, last, rest, sum, read, items, all, end, ordered);
      small = omega arith;
    }
