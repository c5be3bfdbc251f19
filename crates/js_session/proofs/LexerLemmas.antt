-- Lexers that have gone on, and what they may go back to.
use Rattle.std.proofs.Common.{◌≡◌, List, [], ◌∷◌, refl, sym, ◌∙◌, subst, ap}
use Rattle.std.proofs.Common.{append-nil}
use Rattle.std.proofs.Common.{Result, Ok, Err}
use Rattle.std.specs.Prelude.{OnErr}
use Rattle.js_grammar.specs.Outcome.{Findings, no_findings, joined, lengths_of, AreWithin}
use Rattle.js_kind.specs.TokenParts.{TokenParts}
use Rattle.js_lexer.specs.Lexer.{LexerState, IsRestored, BeginsAlike, GoesOnFrom}
use Rattle.js_lexer.proofs.LexerSteps.{begins_alike-append}
use Rattle.js_lexer.proofs.FindingLaws.{joined-assoc, joined-none, within-own, within-joined}
use Rattle.js_lexer.proofs.GoesOn.{has_token}
pub use Rattle.js_lexer.proofs.GoesOn.{can_rewind-on}
use Rattle.js_session.specs.Marks.{IsAlike}

pub begins_alike-refl : (ts : List TokenParts) → BeginsAlike ts ts
begins_alike-refl ts = subst (BeginsAlike ts) (append-nil ts) (begins_alike-append ts [])

pub begins_alike-trans : (a b c : List TokenParts) → BeginsAlike a b → BeginsAlike b c → BeginsAlike a c
begins_alike-trans [] b c h g = tt
begins_alike-trans (t ∷ ts) [] c h g = absurd (has_token t ts h)
begins_alike-trans (t ∷ ts) (n ∷ ns) [] h g = absurd (has_token n ns g)
begins_alike-trans (t ∷ []) (n ∷ ns) (x ∷ xs) h g = tt
begins_alike-trans (t ∷ u ∷ ts) (n ∷ []) (x ∷ xs) h g = absurd (has_token u ts h.1)
begins_alike-trans (t ∷ u ∷ ts) (n ∷ m ∷ ns) (x ∷ xs) h g = (g.0 ∙ h.0, begins_alike-trans (u ∷ ts) (m ∷ ns) xs h.1 g.1)

pub goes_on-trans : (a b c : LexerState) → GoesOnFrom a b → GoesOnFrom b c → GoesOnFrom a c
goes_on-trans a b c h g = record {
  text = g.text ∙ h.text;
  source_type = g.source_type ∙ h.source_type;
  collects = g.collects ∙ h.collects;
  tokens = begins_alike-trans a.tokens b.tokens c.tokens h.tokens g.tokens;
  findings = joined h.findings g.findings;
  goes_on = g.goes_on ∙ ap (λ f. joined f g.findings) h.goes_on ∙ joined-assoc a.findings h.findings g.findings;
}

-- a lexer that is alike has gone on by nothing
pub goes_on-alike : (a b : LexerState) → IsAlike a b → GoesOnFrom a b
goes_on-alike a b h = record {
  text = h.text;
  source_type = h.source_type;
  collects = h.collects;
  tokens = subst (BeginsAlike a.tokens) (sym h.tokens) (begins_alike-refl a.tokens);
  findings = no_findings;
  goes_on = h.findings ∙ sym (joined-none a.findings);
}

-- and so has one that was restored
pub alike : (a b : LexerState) → IsRestored a b → IsAlike a b
alike a b h = record {
  text = h.text;
  source_type = h.source_type;
  collects = h.collects;
  place = h.place;
  last = h.last;
  tokens = h.tokens;
  findings = h.findings;
}

pub goes_on-restored : (a b : LexerState) → IsRestored a b → GoesOnFrom a b
goes_on-restored a b h = goes_on-alike a b (alike a b h)

pub alike-restored : (a b c : LexerState) → IsAlike a b → IsRestored b c → IsAlike a c
alike-restored a b c h g = record {
  text = g.text ∙ h.text;
  source_type = g.source_type ∙ h.source_type;
  collects = g.collects ∙ h.collects;
  place = g.place ∙ h.place;
  last = g.last ∙ h.last;
  tokens = g.tokens ∙ h.tokens;
  findings = g.findings ∙ h.findings;
}

pub alike-sym : (a b : LexerState) → IsAlike a b → IsAlike b a
alike-sym a b h = record {
  text = sym h.text;
  source_type = sym h.source_type;
  collects = sym h.collects;
  place = sym h.place;
  last = sym h.last;
  tokens = sym h.tokens;
  findings = sym h.findings;
}

-- what was found is no less than what had been found before
pub within-after : (old new more : Findings) → new ≡ joined old more → AreWithin (lengths_of old) new
within-after old new more e =
    subst (AreWithin (lengths_of old)) (sym e) (within-joined (lengths_of old) old more (within-own old))

pub restored-refl : (l : LexerState) → IsRestored l l
restored-refl l =
    record {
      text = refl;
      source_type = refl;
      collects = refl;
      place = refl;
      last = refl;
      tokens = refl;
      findings = refl;
      pure_comments = refl;
      no_side_effects_comments = refl;
    }

-- what holds anyway holds where there is an error
pub on_err : {T E P : Type 0} (r : Result T E) → P → OnErr r P
on_err (Ok x) p = tt
on_err (Err e) p = p
