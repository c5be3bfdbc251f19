use Rattle.std.proofs.Common.{◌∙◌, [], ap}
use Rattle.js_document.specs.Found.{counts_in, found_by}
use Rattle.js_document.specs.Gap.{count_tokens, rows_of}
use Rattle.js_document.proofs.BlockLemmas.{each_still}
use Rattle.js_document.proofs.blocks.block.Block.new.Goals as goal

pub invariant_of-result : goal.invariant_of-result
invariant_of-result g c = record {
  moves = c.requires;
  tokens_are =
      c.count_tokens-tokens.ensures.count ∙ ap (λ es. count_tokens (rows_of es)) c.as_slice.ensures.value;
  found_are =
      c.in_ok-found.ensures [] c.none.ensures
      ∙ ap (λ es. counts_in (found_by (rows_of es))) c.as_slice-2.ensures.value;
}

pub returns : goal.returns
returns g c =
    let still = each_still c.args.entries.items c.requires in
    λ j. record { entries = still j; rows_before = 0; tokens_before = 0 }
