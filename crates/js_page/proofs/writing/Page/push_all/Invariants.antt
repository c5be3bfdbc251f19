use Rattle.std.proofs.Common.{◌≡◌, ◌++◌, ◌<◌, ◌^◌, List, drop, length, string_bytes}
use Rattle.js_page.specs.Elements.{Element, elements_of, pieces_from}
use Rattle.js_page.specs.Pieces.{bytes_of}
use Rattle.js_page.specs.Written.{here}
use Rattle.js_page.proofs.writing.Page.push_all.Given as goal

-- What is left to be written completes the page.
abbrev pub invariant-loop-token : goal.invariant-loop-token
invariant-loop-token l =
    ((later : List Element)
    → string_bytes l.self.text
    ++ bytes_of (pieces_from (here l.self) (elements_of l.comments (drop l.token-index l.tokens) ++ later))
    ≡ string_bytes l.initial.self.text
    ++ bytes_of (pieces_from (here l.initial.self) (elements_of l.initial.comments l.tokens ++ later)))
    × (length l.self.left.now < 2 ^ 32)
