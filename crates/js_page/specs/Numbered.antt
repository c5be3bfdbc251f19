-- Which lines the anchors of a page tell.
use Rattle.std.specs.Prelude.{◌≡◌, ℕ, suc, List, [], ◌∷◌, ◌++◌}
use Rattle.js_lines.specs.Lines.{lines_ended}
use Rattle.js_lines.specs.declared.line_ends.LineEnds.TheVariants.{EcmaScript}
use Rattle.js_page.specs.Pieces.{Piece, character, characters_of, closing, fault_closing, fault_opening, line, opening}

-- Each anchor among the pieces, before which these characters stand, tells the line that begins there: it is one more
-- than the lines that end before it.
abbrev pub AreNumbered : List ℕ → List Piece → Type 0
AreNumbered before [] = Unit {0}
AreNumbered before (character c ∷ ps) = AreNumbered (before ++ c ∷ []) ps
AreNumbered before (line n ∷ ps) =
    (n ≡ suc (lines_ended EcmaScript before (characters_of ps))) × AreNumbered before ps
AreNumbered before (opening class ∷ ps) = AreNumbered before ps
AreNumbered before (closing ∷ ps) = AreNumbered before ps
AreNumbered before (fault_opening title ∷ ps) = AreNumbered before ps
AreNumbered before (fault_closing ∷ ps) = AreNumbered before ps
