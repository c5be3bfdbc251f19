-- Lists.
use Rattle.std.specs.Prelude.{List, [], ◌∷◌, Option, Some, None, Vec}

-- the items of a vector, if there is one
abbrev pub items_of : {T A : Type 0} → Option (Vec T A) → List T
items_of None = []
items_of (Some v) = v.items

-- the list with another last element; an empty list stays empty
abbrev pub with_last : {T : Type 0} → List T → T → List T
with_last [] y = []
with_last (x ∷ []) y = y ∷ []
with_last (x ∷ z ∷ zs) y = x ∷ with_last (z ∷ zs) y
