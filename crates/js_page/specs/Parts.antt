-- The parts of a page: what a token or a comment is, or what stands between two of them.
use Rattle.std.specs.Prelude.{ℕ, ◌-◌, max, min, nat_lt, List, [], ◌∷◌, ◌++◌, Option, Some, None, drop, take}
use Rattle.std.specs.List.{prefix_len}
use Rattle.js_lines.specs.Columns.{behind_front, front_within}
use Rattle.js_lines.specs.declared.columns.ColumnUnit.TheVariants.{Bytes}
use Rattle.js_page.specs.Lines.{lines_behind, pieces_in}
use Rattle.js_page.specs.Pieces.{Piece, closing, fault_closing, fault_opening, opening}
use Rattle.js_page.specs.declared.class.Class.{Class}
use Rattle.js_page.specs.declared.lines.Lines.{Lines}
use Rattle.js_page.specs.declared.writing.Fault.{Fault}

-- Where the writing of a page is: its lines, the characters of the source that are left, their place in bytes, and the
-- faults of which nothing was told.
pub record Here : Type 0 where
  pub lines : Lines
  pub left : List ℕ
  pub place : ℕ
  pub faults : List Fault

-- what opens the element of a class, if there is one, and what closes it
abbrev pub class_opening : Option Class → List Piece
class_opening None = []
class_opening (Some class) = opening class ∷ []

abbrev pub class_closing : Option Class → List Piece
class_closing None = []
class_closing (Some class) = closing ∷ []

-- how many of the faults, from the first on, start before a place
abbrev pub count_before : ℕ → List Fault → ℕ
count_before to faults = prefix_len (λ (fault : Fault). nat_lt fault.start to) faults

-- the characters up to a place
abbrev pub stretch_to : ℕ → Here → List ℕ
stretch_to to here = front_within Bytes (to - here.place) here.left

-- the same with the anchors of the lines that begin in them
abbrev pub plain_to : ℕ → Here → List Piece
plain_to to here = pieces_in here.lines (stretch_to to here)

-- where the writing is behind them
abbrev pub behind_stretch : ℕ → Here → Here
behind_stretch to here = record here {
  lines = lines_behind here.lines (stretch_to to here);
  left = behind_front Bytes (to - here.place) here.left;
  place = max here.place to;
}

-- A fault in a part that ends at a place: what stands before it, and its element, which ends where the fault does, or
-- the part.
abbrev pub fault_pieces : ℕ → Fault → Here → List Piece
fault_pieces to fault here =
    plain_to fault.start here
    ++ (fault_opening fault.title
    ∷ (plain_to (min fault.end to) (behind_stretch fault.start here) ++ fault_closing ∷ []))

abbrev pub behind_fault : ℕ → Fault → Here → Here
behind_fault to fault here = behind_stretch (min fault.end to) (behind_stretch fault.start here)

-- faults in a part that ends at a place, one behind the other
abbrev pub faults_pieces : ℕ → List Fault → Here → List Piece
faults_pieces to [] here = []
faults_pieces to (fault ∷ faults) here =
    fault_pieces to fault here ++ faults_pieces to faults (behind_fault to fault here)

abbrev pub behind_faults : ℕ → List Fault → Here → Here
behind_faults to [] here = here
behind_faults to (fault ∷ faults) here = behind_faults to faults (behind_fault to fault here)

-- the faults that are told in the part up to a place: those that start before it
abbrev pub told_to : ℕ → Here → List Fault
told_to to here = take (count_before to here.faults) here.faults

-- The part up to a place, in an element of a class, if there is one.
abbrev pub part_to : Option Class → ℕ → Here → List Piece
part_to class to here =
    class_opening class
    ++ (faults_pieces to (told_to to here) here
    ++ (plain_to to (behind_faults to (told_to to here) here) ++ class_closing class))

-- where the writing is behind that part
abbrev pub behind_part : ℕ → Here → Here
behind_part to here = record (behind_stretch to (behind_faults to (told_to to here) here)) {
  faults = drop (count_before to here.faults) here.faults;
}
