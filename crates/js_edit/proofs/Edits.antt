-- A document of an edit is made of one of the source, where nothing is against either.
use Rattle.std.proofs.Common.{◌≡◌, ℕ, List, Result, Ok, Err, inl, inr, subst, String, string_bytes}
use Rattle.std.specs.declared.alloc.Global.{Global}
use Rattle.std.specs.Prelude.{◌⊎◌, IfOk}
use Rattle.js_relex.specs.Documents.{Cause, DocState, EditCause, IsDocumentOf, Relexes}
use Rattle.js_relex.specs.declared.fault.RelexFault.{RelexFault}
use Rattle.js_relex.specs.declared.fault.RelexFault.TheVariants.{Memory}
use Rattle.js_edit.specs.Run.{IsEdited, IsEditText, IsRefused, fault_line}
use Rattle.js_edit.specs.Words.{EditWords}

-- no document came for a cause
pub none_for : {P : RelexFault → Type 0} (d : DocState)
    → ((fault : RelexFault) → P fault → (Ok d ≡ Err fault) ⊎ (Ok d ≡ Err Memory)) → (fault : RelexFault) → ¬ (P fault)
none_for d exact fault h = elim (exact fault h) [
  | inl e ↦ absurd (cc)
  | inr e ↦ absurd (cc)
]

pub edited_by : (words : EditWords) (source : List ℕ) (old : DocState) (before now : ℕ)
    (r : Result DocState RelexFault) → IsDocumentOf source words.source_type words.commands old
    → ((fault : RelexFault) → ¬ (Cause source words.commands fault))
    → IfOk r (Relexes old words.start words.end words.text words.new_commands before now)
    → ((fault : RelexFault) → EditCause old.text words.start words.end words.text words.new_commands fault
    → (r ≡ Err fault) ⊎ (r ≡ Err Memory))
    → IfOk r (IsEdited words source)
edited_by words source old before now (Err f) is none relexes exact = tt
edited_by words source old before now (Ok d) is none relexes exact = record {
  old = old;
  old_is = is;
  new_is = rw (is.type_is, is.text_is) at relexes.document;
  spares = relexes.spares;
  no_cause = none;
  no_edit_cause =
      subst
      (λ x. (fault : RelexFault) → ¬ (EditCause x words.start words.end words.text words.new_commands fault))
      is.text_is (none_for d exact);
}

-- the line of a fault is the text of a run that is refused for it
pub refused_text : {E : Type 0} (words : EditWords) (source : List ℕ) (fault : RelexFault)
    (r : Result (String Global) E) → IfOk r (λ text. string_bytes text ≡ fault_line fault)
    → IfOk r (λ text. ¬ (fault ≡ Memory)) → (fault ≡ Memory) ⊎ IsRefused words source fault
    → IfOk r (λ text. IsEditText words source (string_bytes text))
refused_text words source fault (Err e) line told refused = tt
refused_text words source fault (Ok text) line told refused = elim refused [
  | inl e ↦ absurd (told e)
  | inr cause ↦ inr (fault, cause, line)
]
