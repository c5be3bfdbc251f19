use Rattle.std.proofs.Common.{◌≡◌, take}
use Rattle.js_document.specs.Blocks.{entries_in}
use Rattle.js_document.specs.Found.{counts_in, found_by}
use Rattle.js_document.specs.Gap.{rows_of}
use Rattle.js_document.proofs.blocks.numbered.found_in_blocks.Given as goal

-- So many items there are with those of the blocks so far.
abbrev pub invariant-loop-block : goal.invariant-loop-block
invariant-loop-block g l =
    l.counts ≡ counts_in (found_by (rows_of (entries_in (take l.block-index l.blocks))))
