-- What the steps of writing a page do.
use Rattle.std.specs.Prelude.{◌≡◌, List, ◌++◌, chars, string_bytes}
use Rattle.js_page.specs.Elements.{Element, pieces_from}
use Rattle.js_page.specs.Parts.{Here}
use Rattle.js_page.specs.Pieces.{bytes_of}
use Rattle.js_page.specs.declared.writing.Page.{Page}

-- where the writing of a page is
abbrev pub here : Page → Here
here page = record { lines = page.lines; left = chars page.left.now; place = page.place; faults = page.faults.now }

-- The elements were written: with whatever follows, the page is that of these elements and what follows.
abbrev pub WritesOn : List Element → Page → Page → Type 0
WritesOn elements old new = (later : List Element)
    → string_bytes new.text ++ bytes_of (pieces_from (here new) later)
    ≡ string_bytes old.text ++ bytes_of (pieces_from (here old) (elements ++ later))
