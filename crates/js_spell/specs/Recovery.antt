-- What the reader does that reads on where nothing is spelled.
use Rattle.std.specs.Prelude.{◌≡◌, ◌≤◌, ◌||◌, Bool, Some}
use Rattle.js_text.specs.declared.diagnostic.Diagnostic.{Diagnostic}
use Rattle.js_grammar.specs.Reading.{moved_diagnostic}
use Rattle.js_grammar.specs.Recovery.{faulty, recovered}
use Rattle.js_source.specs.Source.{At, rest}
use Rattle.js_spell.specs.declared.recovery.Recovered.{Recovered}

-- What was read where nothing is spelled, up to the new place.
pub record Recovers (line_has_ended : Bool) (old : At) (r : Recovered) (new : At) : Type 0 where
  pub text : new.text ≡ old.text
  pub line_ended : Bool
  pub fault : Diagnostic
  pub recovery : recovered (rest old)
      ≡ Some (record (faulty r.kind (rest old) (rest new) fault) { line_ended = line_ended })
  pub line : r.is_on_new_line ≡ (line_ended || line_has_ended)
  pub reported : r.diagnostic ≡ moved_diagnostic old.place fault
  pub onward : old.place ≤ new.place
