-- Lists of a caller that are filled as far as there is room.
use Rattle.std.specs.Prelude.{◌≡◌, ℕ, List, ◌++◌, length, take, drop}

-- the items as far as there is room, and behind them what stood there
abbrev pub filled : {T : Type 0} → List T → List T → List T
filled old items = take (length old) items ++ drop (length items) old

-- A list that was filled with so many items was filled with these behind them.
abbrev pub PutsOn : {T : Type 0} → ℕ → List T → List T → List T → Type 0
PutsOn {T} place more old new =
    (start items : List T) → place ≡ length items → old ≡ filled start items → new ≡ filled start (items ++ more)
