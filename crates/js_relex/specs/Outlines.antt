-- The outlines of rows.
use Rattle.std.specs.Prelude.{◌≡◌, Bool, not, ◌&&◌, ◌==◌, List, ℕ, length, map, Option}
use Rattle.js_session.specs.declared.command.Command.{Command}
use Rattle.js_session.specs.declared.row.Row.{Row}
use Rattle.js_session.specs.Shifted.{FitsShifted, shifted}
use Rattle.js_relex.specs.declared.outline.RowOutline.{RowOutline}

-- the row has an item in one of its lists
abbrev pub has_found : Row → Bool
has_found row =
    not (length row.diagnostics == 0 && (length row.deferred == 0
    && (length row.comments == 0 && (length row.irregular == 0
    && length row.warnings == 0))))

-- where the row's token ends, and whether it has found anything
abbrev pub outline_of : Row → RowOutline
outline_of row = record { end = row.token.end; has_found = has_found row }

-- The place where the row ends is a `u32` once it is shifted.
abbrev pub OutlineFits : ℕ → ℕ → RowOutline → Type 0
OutlineFits from to outline = FitsShifted from to outline.end

abbrev pub shifted_outline : ℕ → ℕ → RowOutline → RowOutline
shifted_outline from to outline = record outline { end = shifted from to outline.end }

-- These are the outlines of the rows, and the rows answer these commands; the first row answers none.
pub record AreOutlined (commands : List (Option Command)) (outlines : List RowOutline) (rows : List Row) : Type 0 where
  pub outlines_are : outlines ≡ map outline_of rows
  pub commands_are : map (λ (row : Row). row.command) rows ≡ commands
