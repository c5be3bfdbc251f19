-- Trees as they are drawn.
use Rattle.std.specs.Prelude.{ℕ, zero, suc, ◌+◌, List, [], ◌∷◌, ◌++◌}
use Rattle.js_parse_tool.specs.declared.draw.Line.{Line}
use Rattle.js_parse_tool.specs.declared.node.Node.{Node}

-- The nodes are those of so many trees, one after another, whose roots stand at a depth. Each has a line, behind those
-- of its children, which stand one level deeper.
pub data AreDrawn : ℕ → ℕ → List Node → List Line → Type 0 where
  none : (depth : ℕ) → AreDrawn depth zero [] []
  tree : (depth count : ℕ) (before within : List Node) (n : Node) (drawn inside : List Line)
      → AreDrawn depth count before drawn → AreDrawn (depth + 1) n.children within inside
      → AreDrawn depth (suc count) (before ++ within ++ n ∷ [])
      (drawn ++ inside ++ record { depth = depth; node = n } ∷ [])
