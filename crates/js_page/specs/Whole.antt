-- Whole pages: a source with a title and a style.
use Rattle.std.specs.Prelude.{ℕ, List, ◌++◌, chars, codes, flat_map}
use Rattle.js_page.specs.Characters.{in_title}
use Rattle.js_page.specs.declared.whole.TheConstants.{HEAD, STYLE}

-- what stands before the fragment of a page with a title: what is not of the title is fixed
abbrev pub page_head : List ℕ → List ℕ
page_head title =
    HEAD.now ++ flat_map in_title (chars title) ++ codes "</title>\n<style>\n" ++ STYLE.now ++ codes "</style>\n"
