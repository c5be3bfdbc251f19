use Rattle.std.proofs.Common.{◌≡◌, ◌++◌, drop, map, take}
use Rattle.js_document.specs.Blocks.{moved_block}
use Rattle.js_document.proofs.blocks.numbered.move_blocks.Given as goal

-- So many were moved; those behind them are as they were.
abbrev pub invariant-loop-block : goal.invariant-loop-block
invariant-loop-block g l =
    l.blocks ≡ map (moved_block l.shift.from l.shift.to) (take l.block-index l.initial.blocks)
    ++ drop l.block-index l.initial.blocks
