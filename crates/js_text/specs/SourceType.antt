-- What each type of a source text is.
use Rattle.std.specs.Prelude.{Bool, true, false}
use Rattle.js_text.specs.declared.source_type.SourceType.{SourceType}
use Rattle.js_text.specs.declared.source_type.SourceType.TheVariants.{Module, Script, Unambiguous}

-- the text is a module
abbrev pub is_module : SourceType → Bool
is_module Module = true
is_module Script = false
is_module Unambiguous = false

-- all code of the text is strict mode code
abbrev pub is_strict : SourceType → Bool
is_strict Module = true
is_strict Script = false
is_strict Unambiguous = false

-- whether the text is a module is not settled
abbrev pub is_unambiguous : SourceType → Bool
is_unambiguous Module = false
is_unambiguous Script = false
is_unambiguous Unambiguous = true
