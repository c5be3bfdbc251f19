-- Readings that break off for lack of memory.
use Rattle.std.specs.Prelude.{◌≡◌, ◌≤◌, List, ◌++◌}
use Rattle.js_text.specs.declared.diagnostic.Diagnostic.{Diagnostic}
use Rattle.js_source.specs.Source.{At}

-- Reading broke off for lack of memory, at or behind its start in the same text. What was reported is a beginning of
-- all that the reading tells, and this is left of it.
pub record BreaksOff (told : List Diagnostic) (old new : At) (before after : List Diagnostic) : Type 0 where
  pub text : new.text ≡ old.text
  pub more : List Diagnostic
  pub reports : after ≡ before ++ more
  pub onward : old.place ≤ new.place
  pub rest_of : List Diagnostic
  pub beginning : more ++ rest_of ≡ told
