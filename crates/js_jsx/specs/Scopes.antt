-- What is open behind tokens: the scopes, the one that was opened last first.
use Rattle.std.specs.Prelude.{ℕ, Bool, true, false, List, [], ◌∷◌, length, Option, Some, None, slice_get}
use Rattle.std.specs.Prelude.{if◌then◌else◌}
use Rattle.js_jsx.specs.declared.scope.Scope.{Scope}
use Rattle.js_jsx.specs.declared.scope.Scope.TheVariants.{Block, Template, Container, OpeningTag, ClosingTag}
use Rattle.js_jsx.specs.declared.scope.Scope.TheVariants.{TypeArguments, Children}

-- a brace opens it
abbrev pub is_brace : Scope → Bool
is_brace Block = true
is_brace Template = true
is_brace Container = true
is_brace OpeningTag = false
is_brace ClosingTag = false
is_brace TypeArguments = false
is_brace Children = false

-- it stands between `{` and `}`
abbrev pub is_curly : Scope → Bool
is_curly Block = true
is_curly Template = false
is_curly Container = true
is_curly OpeningTag = false
is_curly ClosingTag = false
is_curly TypeArguments = false
is_curly Children = false

-- it is a tag
abbrev pub is_tag : Scope → Bool
is_tag Block = false
is_tag Template = false
is_tag Container = false
is_tag OpeningTag = true
is_tag ClosingTag = true
is_tag TypeArguments = false
is_tag Children = false

-- it is a tag, or type arguments in one
abbrev pub is_within_tag : Scope → Bool
is_within_tag Block = false
is_within_tag Template = false
is_within_tag Container = false
is_within_tag OpeningTag = true
is_within_tag ClosingTag = true
is_within_tag TypeArguments = true
is_within_tag Children = false

-- it is what stands between two tags
abbrev pub is_children : Scope → Bool
is_children Block = false
is_children Template = false
is_children Container = false
is_children OpeningTag = false
is_children ClosingTag = false
is_children TypeArguments = false
is_children Children = true

-- it is a substitution in a template
abbrev pub is_template : Scope → Bool
is_template Block = false
is_template Template = true
is_template Container = false
is_template OpeningTag = false
is_template ClosingTag = false
is_template TypeArguments = false
is_template Children = false

-- a scope that there may be passes the test
abbrev pub passes : (Scope → Bool) → Option Scope → Bool
passes test None = false
passes test (Some scope) = test scope

-- the scope that was opened last, if one is open
abbrev pub top : List Scope → Option Scope
top scopes = slice_get scopes 0

-- the scopes from the one on that was opened last and does not pass the test
abbrev pub skip_while : (Scope → Bool) → List Scope → List Scope
skip_while test [] = []
skip_while test (scope ∷ scopes) = if test scope then skip_while test scopes else scope ∷ scopes

-- the scopes without the tags that were opened last
abbrev pub without_tags : List Scope → List Scope
without_tags scopes = skip_while is_tag scopes

-- the scopes without the tags, and the type arguments in them, that were opened last
abbrev pub without_types : List Scope → List Scope
without_types scopes = skip_while is_within_tag scopes

-- the scopes from the last open brace on; none where no brace is open
abbrev pub from_brace : List Scope → List Scope
from_brace [] = []
from_brace (scope ∷ scopes) = if is_brace scope then scope ∷ scopes else from_brace scopes

-- the scopes without the children that were opened last, if it is children
abbrev pub without_children : List Scope → List Scope
without_children [] = []
without_children (scope ∷ scopes) = if is_children scope then scopes else scope ∷ scopes

-- it is type arguments
abbrev pub is_types : Scope → Bool
is_types Block = false
is_types Template = false
is_types Container = false
is_types OpeningTag = false
is_types ClosingTag = false
is_types TypeArguments = true
is_types Children = false

-- what was opened last is a brace, or nothing is open: no tag, no type arguments in one, and no children
abbrev pub is_code : Option Scope → Bool
is_code None = true
is_code (Some scope) = is_brace scope

-- the last open brace, if one is open
abbrev pub last_brace : List Scope → Option Scope
last_brace scopes = top (from_brace scopes)

-- how many scopes there are from the last open brace on
abbrev pub braced : List Scope → ℕ
braced scopes = length (from_brace scopes)

-- the same below each scope
abbrev pub braced_below : List Scope → List ℕ
braced_below [] = []
braced_below (scope ∷ scopes) = braced scopes ∷ braced_below scopes
