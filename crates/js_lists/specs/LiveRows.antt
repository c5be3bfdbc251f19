-- Which rows are live: those whose tokens are live after the commands.
use Rattle.std.specs.Prelude.{List, [], ◌∷◌, take, drop, reverse, if◌then◌else◌}
use Rattle.js_session.specs.Effects.{effect_of, is_step}
use Rattle.js_session.specs.declared.command.Effect.{Effect}
use Rattle.js_session.specs.declared.command.Effect.TheVariants.{Reads, Peeks, ReLexes, Opens, Rewinds, Commits}
use Rattle.js_session.specs.declared.command.Command.{Command}
use Rattle.js_session.specs.declared.row.Row.{Row}

-- The rows that are live, the last one first; and those that were live at each open mark, the last mark first.
pub record RowState : Type 0 where
  pub now : List Row
  pub marks : List (List Row)

-- these rows, with a row in the place of the first one, if there is one
abbrev pub with_first : Row → List Row → List Row
with_first row [] = []
with_first row (first ∷ rows) = row ∷ rows

-- the state after an effect that gave this row: a peek, and a re-lex that was not taken, change nothing
abbrev pub with_row : Effect → Row → RowState → RowState
with_row (Reads goal) row s = record s { now = row ∷ s.now }
with_row (Peeks goal) row s = s
with_row (ReLexes goal) row s = if row.taken then record s { now = with_first row s.now } else s
with_row Opens row s = s
with_row Rewinds row s = s
with_row Commits row s = s

-- the state at the last open mark, which is closed
abbrev pub rows_rewound : List Row → List (List Row) → RowState
rows_rewound now [] = record { now = now; marks = [] }
rows_rewound now (m ∷ ms) = record { now = m; marks = ms }

-- the same state, with the last open mark closed
abbrev pub rows_committed : List Row → List (List Row) → RowState
rows_committed now [] = record { now = now; marks = [] }
rows_committed now (m ∷ ms) = record { now = now; marks = ms }

-- the state after an effect that gives no row
abbrev pub with_mark : Effect → RowState → RowState
with_mark (Reads goal) s = s
with_mark (Peeks goal) s = s
with_mark (ReLexes goal) s = s
with_mark Opens s = record s { marks = s.now ∷ s.marks }
with_mark Rewinds s = rows_rewound s.now s.marks
with_mark Commits s = rows_committed s.now s.marks

-- the state after these commands, which gave these rows
abbrev pub rows_behind : RowState → List Command → List Row → RowState
rows_behind s [] rows = s
rows_behind s (c ∷ cs) [] = rows_behind (with_mark (effect_of c) s) cs []
rows_behind s (c ∷ cs) (row ∷ rows) =
    if is_step c then rows_behind (with_row (effect_of c) row s) cs rows
    else rows_behind (with_mark (effect_of c) s) cs (row ∷ rows)

-- the rows that are live after the first step and these commands, the last one first
abbrev pub live_backward : List Command → List Row → List Row
live_backward commands rows = (rows_behind (record { now = take 1 rows; marks = [] }) commands (drop 1 rows)).now

-- the same in order
abbrev pub live_rows : List Command → List Row → List Row
live_rows commands rows = reverse (live_backward commands rows)
