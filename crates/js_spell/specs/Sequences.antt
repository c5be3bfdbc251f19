-- Sequences of ASCII characters.
use Rattle.std.specs.Prelude.{◌≡◌, ℕ, ◌≤◌, Bool, true, false, List, ◌++◌}
use Rattle.js_grammar.specs.Gap.{is_prefix}
use Rattle.js_source.specs.Source.{At, rest}

-- The sequence was next, and it was taken; or it was not, and nothing was read.
abbrev pub TakesSequence : List ℕ → At → Bool → At → Type 0
TakesSequence sequence old true new = (new.text ≡ old.text) × (rest old ≡ sequence ++ rest new)
    × (old.place ≤ new.place)
TakesSequence sequence old false new = (is_prefix sequence (rest old) ≡ false) × (new ≡ old)
