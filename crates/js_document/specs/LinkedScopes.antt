-- The scopes of the rule of js_jsx behind links.
use Rattle.std.specs.Prelude.{ℕ, Bool, not, ◌==◌, List, map, if◌then◌else◌}
use Rattle.js_jsx.specs.Scopes.{is_brace, is_tag, is_within_tag}
use Rattle.js_jsx.specs.declared.scope.Scope.{Scope}
use Rattle.js_jsx.specs.declared.scope.Scope.TheVariants.{Block, Template, Container, OpeningTag, ClosingTag}
use Rattle.js_jsx.specs.declared.scope.Scope.TheVariants.{TypeArguments, Children}
use Rattle.js_document.specs.declared.linked_scopes.Passed.{Passed}
use Rattle.js_document.specs.declared.linked_scopes.Passed.TheVariants.{Tags, TagsAndTypes, AllButBraces}
use Rattle.js_document.specs.declared.open.Node.{Node}
use Rattle.js_document.specs.Trie.{opened}

-- the number of a scope; a brace opens the first three
abbrev pub scope_number : Scope → ℕ
scope_number Block = 0
scope_number Template = 1
scope_number Container = 2
scope_number OpeningTag = 3
scope_number ClosingTag = 4
scope_number TypeArguments = 5
scope_number Children = 6

-- the scope with the number
abbrev pub scope_numbered : ℕ → Scope
scope_numbered number =
    if number == 0 then Block
    else if number == 1 then Template
    else if number == 2 then Container
    else if number == 3 then OpeningTag
    else if number == 4 then ClosingTag
    else if number == 5 then TypeArguments
    else Children

-- the scopes that are open where the link leads to
abbrev pub scopes_at : List Node → ℕ → List Scope
scopes_at nodes link = map scope_numbered (opened nodes link)

-- the scope is one of those that are passed
abbrev pub is_passed : Passed → Scope → Bool
is_passed Tags scope = is_tag scope
is_passed TagsAndTypes scope = is_within_tag scope
is_passed AllButBraces scope = not (is_brace scope)
