use Rattle.js_lexer.proofs.CheckpointSteps.{is_spelled}
use Rattle.js_lexer.proofs.checkpoint.is_spelled_between.Goals as goal

pub returns : goal.returns
returns c =
    is_spelled _ _ _ _ _ _ _ _ _ c.requires.ordered c.requires.kind c.in-Some-Some.ensures.1 c.in-Some-Some.ensures'.1
    c.str_between.ensures.bytes c.str_between.ensures.characters c.to_str.ensures c.eq.ensures
