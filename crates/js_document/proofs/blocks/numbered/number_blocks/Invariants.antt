use Rattle.std.proofs.Common.{◌≡◌, ◌++◌, drop, take}
use Rattle.js_document.specs.Blocks.{numbered}
use Rattle.js_document.proofs.BlockLemmas.{rows_up_to, tokens_up_to}
use Rattle.js_document.proofs.blocks.numbered.number_blocks.Given as goal

-- So many are numbered; those behind them are as they were.
abbrev pub invariant-loop-block : goal.invariant-loop-block
invariant-loop-block g l = record {
  blocks : l.blocks ≡ numbered 0 0 (take l.block-index l.initial.blocks) ++ drop l.block-index l.initial.blocks;
  rows : l.rows ≡ rows_up_to l.initial.blocks l.block-index;
  tokens : l.tokens ≡ tokens_up_to l.initial.blocks l.block-index;
}
