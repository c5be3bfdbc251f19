-- Trees as a list of nodes, each behind its children.
use Rattle.std.specs.Prelude.{◌≡◌, ℕ, ◌≤◌, List, [], ◌∷◌, ◌++◌, length, Option, None, Some, IfSome, slice_get}
use Rattle.std.specs.List.{last_or}
use Rattle.std.specs.Str.{IsCharBoundary}
use Rattle.js_text.specs.declared.span.Span.{Span}
use Rattle.js_reader.specs.Decoded.{IsStretch}
use Rattle.js_parse_tool.specs.declared.node.Node.{Node}

-- trees over a text, one after another: their nodes, and where their roots stand
pub record TreesState : Type 0 where
  pub text : List ℕ
  pub nodes : List Node
  pub roots : List Span

-- where a span ends; no span ends at the start of the source
abbrev pub end_of : Option Span → ℕ
end_of None = 0
end_of (Some s) = s.end

-- where the last span ends
abbrev pub last_end : List Span → ℕ
last_end ss = end_of (last_or None ss)

-- The spans are stretches of the text behind the place, one after another: each begins and ends at a place of the text.
abbrev pub AreInOrder : List ℕ → ℕ → List Span → Type 0
AreInOrder text from [] = Unit {0}
AreInOrder text from (s ∷ ss) = (from ≤ s.start) × IsStretch text s.start s.end × AreInOrder text s.end ss

-- No span begins before the place.
abbrev pub IsBefore : ℕ → List Span → Type 0
IsBefore from ss = IfSome (slice_get ss 0) (λ s. from ≤ s.start)

-- The span is a stretch of the text, and has these in it, one after another.
pub record HasInside (text : List ℕ) (span : Span) (within : List Span) : Type 0 where
  pub stretch : IsStretch text span.start span.end
  pub in_order : AreInOrder text span.start within
  pub ends : last_end within ≤ span.end

-- The nodes are those of trees whose roots stand there: each stands behind its children, which are the last roots
-- before it, and their spans stand in its own, one after another.
pub data AreTrees (text : List ℕ) : List Node → List Span → Type 0 where
  none : AreTrees text [] []
  node : (before : List Node) (earlier within : List Span) (n : Node) → AreTrees text before (earlier ++ within)
      → HasInside text n.span within → n.children ≡ length within
      → AreTrees text (before ++ n ∷ []) (earlier ++ n.span ∷ [])

-- The nodes are those of trees, whose roots stand one after another in a text.
pub record AreKept (text : List ℕ) (nodes : List Node) (roots : List Span) : Type 0 where
  pub start_place : IsCharBoundary text 0
  pub trees : AreTrees text nodes roots
  pub in_order : AreInOrder text 0 roots

-- A span may be that of a root between the roots before it and those within it.
pub record Fits (text : List ℕ) (before : List Span) (span : Span) (within : List Span) : Type 0 where
  pub stretch : IsStretch text span.start span.end
  pub behind : last_end before ≤ span.start
  pub begins : IsBefore span.start within
  pub ends : last_end within ≤ span.end
