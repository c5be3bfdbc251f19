use Rattle.std.proofs.Common.{refl}
use Rattle.js_trivia.proofs.trivia_builder.class_in.Goals as goal

pub returns : goal.returns
returns c =
    rw (
      c.classify_if.ensures,
      c.range-content.ensures.value,
      c.opening_length.ensures,
      c.closing_length.ensures,
      c.is_line.ensures,
    ) refl
