use Rattle.std.proofs.Common.{ap}
use Rattle.js_document.specs.Blocks.{BlockState}
use Rattle.js_document.proofs.blocks.block.Block.number.Goals as goal

pub returns : goal.returns
returns g c =
    ap {A = BlockState _} (λ b. record b { rows_before = c.args.rows; tokens_before = c.args.tokens }) c.self.view_is
