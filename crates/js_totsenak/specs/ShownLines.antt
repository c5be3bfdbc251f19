-- Texts of several lines, as a terminal shows them.
use Rattle.std.specs.Prelude.{ℕ, ◌==◌, List, [], ◌∷◌, ◌++◌, if◌then◌else◌}
use Rattle.js_text.specs.Ascii.{carriage_return, line_feed}
use Rattle.js_totsenak.specs.Excerpt.{shown_text}

-- A character as it is shown behind another: a CR and a LF end a line, and both together end one.
abbrev pub shown_behind : ℕ → ℕ → List ℕ
shown_behind before c =
    if c == line_feed then (if before == carriage_return then [] else line_feed ∷ [])
    else if c == carriage_return then line_feed ∷ []
    else shown_text c

-- characters as they are shown behind another
abbrev pub shown_all_behind : ℕ → List ℕ → List ℕ
shown_all_behind before [] = []
shown_all_behind before (c ∷ cs) = shown_behind before c ++ shown_all_behind c cs

-- characters as they are shown
abbrev pub shown_lines : List ℕ → List ℕ
shown_lines cs = shown_all_behind line_feed cs
