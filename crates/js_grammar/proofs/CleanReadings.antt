-- What is read without a fault where a gap has ended is read the same where comments behind it are replaced.
use Rattle.std.proofs.Common.{◌≡◌, ℕ, Bool, true, false, List, [], ◌∷◌, ◌++◌}
use Rattle.std.proofs.Common.{refl, sym, ◌∙◌, ap}
use Rattle.std.specs.Prelude.{codes}
use Rattle.js_text.specs.Ascii.{grave_accent, number_sign}
use Rattle.js_text.specs.declared.source_type.SourceType.{SourceType}
use Rattle.js_kind.specs.declared.kind.Kind.{Kind}
use Rattle.js_grammar.specs.Gap.{is_prefix}
use Rattle.js_grammar.specs.Goals.{ReadsHere}
use Rattle.js_grammar.specs.Goals.ReadsHere.{spelled, recovers}
use Rattle.js_grammar.specs.Number.{begins_number}
use Rattle.js_grammar.specs.Reading.{Reading}
use Rattle.js_grammar.specs.Spelling.{Spelling}
use Rattle.js_grammar.specs.Spelling.Spelling.{name, private_name, punctuator, number, string, template, end_of_source}
use Rattle.js_grammar.specs.StringItems.{string_text}
use Rattle.js_grammar.specs.Template.IsTemplatePart.{no_substitution, head}
use Rattle.js_grammar.proofs.Clean.{recovery_reports}
use Rattle.js_grammar.proofs.HereReadings.{comment_spells_nothing}
use Rattle.js_grammar.proofs.NumberBegins.{number_begins}
use Rattle.js_grammar.proofs.PunctuatorLemmas.{some_text}

-- The same is read where other characters follow what was taken.
abbrev pub StaysRead : SourceType → Bool → List ℕ → List ℕ → Reading → Type 0
StaysRead t ended xs zs r = ReadsHere t ended (xs ++ zs) (record r { rest = zs })

-- Only the end of a source is spelled by nothing.
spelled_by_nothing : (t : SourceType) (ended : Bool) (xs ys : List ℕ) (kind : Kind) → Spelling t ended xs ys kind
    → xs ≡ [] → ys ≡ []
spelled_by_nothing t ended xs ys kind (name is follows kind_is) none = absurd (is.some none)
spelled_by_nothing t ended xs ys kind (private_name named is follows here kind_is) none =
    absurd (let no : [] ≡ number_sign ∷ named = sym none ∙ here in cc)
spelled_by_nothing t ended xs ys kind (punctuator p i is allowed kind_is) none =
    absurd (some_text p i (sym is ∙ none))
spelled_by_nothing t ended xs ys kind (number is follows) none =
    absurd
    (let no : false ≡ true = sym (ap (λ (z : List ℕ). begins_number (z ++ [])) none) ∙ number_begins xs [] kind is in cc)
spelled_by_nothing t ended xs ys kind (string is kind_is) none =
    absurd (let no : [] ≡ is.quote ∷ (string_text is.items ++ is.quote ∷ []) = sym none ∙ is.here in cc)
spelled_by_nothing t ended xs ys kind (template (no_substitution p e)) none =
    absurd (let no : [] ≡ grave_accent ∷ (string_text p.items ++ codes "`") = sym none ∙ p.here in cc)
spelled_by_nothing t ended xs ys kind (template (head p e)) none =
    absurd (let no : [] ≡ grave_accent ∷ (string_text p.items ++ codes "${") = sym none ∙ p.here in cc)
spelled_by_nothing t ended xs ys kind (end_of_source empty nothing kind_is) none = nothing

-- What is read without a fault, where a gap has ended: nothing of it is taken at the end of the source alone, and no
-- block comment begins there.
pub record IsClean (here : List ℕ) (r : Reading) : Type 0 where
  pub at_end : r.taken ≡ [] → r.rest ≡ []
  pub no_block : is_prefix (codes "/*") here ≡ false

pub clean_here : (t : SourceType) (ended : Bool) (here : List ℕ) (r : Reading) → ReadsHere t ended here r
    → r.diagnostics ≡ [] → IsClean here r
clean_here t ended here r (spelled xs l is) clean = record {
  at_end =
      λ none. spelled_by_nothing t ended xs r.rest r.kind l.spelling (sym (ap (λ (x : Reading). x.taken) is) ∙ none);
  no_block = by_flag (is_prefix (codes "/*") here) refl;
}
  where
    by_flag : (b : Bool) → is_prefix (codes "/*") here ≡ b → is_prefix (codes "/*") here ≡ false
    by_flag true e =
        absurd (comment_spells_nothing t ended here e xs r.rest r.kind l.here l.spelling)
    by_flag false e = e
clean_here t ended here r (recovers nothing found) clean =
    absurd (recovery_reports t ended here r nothing found clean)
