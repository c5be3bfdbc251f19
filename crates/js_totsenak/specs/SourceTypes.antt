-- Which type a source is of.
use Rattle.std.specs.Prelude.{ℕ, List, Option, Some, None, codes, nat_eq, if◌then◌else◌}
use Rattle.std.specs.List.{ends_with}
use Rattle.js_text.specs.declared.source_type.SourceType.{SourceType}
use Rattle.js_text.specs.declared.source_type.SourceType.TheVariants.{Module, Script, Unambiguous}
use Rattle.js_totsenak.specs.declared.syntax.Syntax.{Syntax}
use Rattle.js_totsenak.specs.declared.syntax.Syntax.TheVariants.{JavaScript, Jsx}

-- the type by the ending of the name
abbrev pub type_by_name : List ℕ → SourceType
type_by_name name =
    if ends_with nat_eq name (codes ".mjs") then Module
    else if ends_with nat_eq name (codes ".cjs") then Script else Unambiguous

-- the type of a source in which no type was said: JSX stands in modules
abbrev pub type_by_syntax : Syntax → List ℕ → SourceType
type_by_syntax JavaScript name = type_by_name name
type_by_syntax Jsx name = Module

-- the type that was said, or else by syntax and name
abbrev pub source_type_of : Option SourceType → Syntax → List ℕ → SourceType
source_type_of (Some t) syntax name = t
source_type_of None syntax name = type_by_syntax syntax name
