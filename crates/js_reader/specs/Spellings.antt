-- Spellings that a reader finds.
use Rattle.std.specs.Prelude.{◌≡◌, ℕ, Bool, List}
use Rattle.js_text.specs.declared.source_type.SourceType.{SourceType}
use Rattle.js_grammar.specs.Spelling.{LongestSpelling}
use Rattle.js_kind.specs.declared.kind.Kind.{Kind}
use Rattle.js_source.specs.Source.{At, rest}

-- the longest spelling, of this kind
pub record SpellsLongest (t : SourceType) (line_has_ended : Bool) (old new : At) (kind : Kind) : Type 0 where
  pub text : new.text ≡ old.text
  pub spelled : List ℕ
  pub spelling : LongestSpelling t line_has_ended (rest old) spelled (rest new) kind
