-- What stands in the table of punctuators, and the longest punctuator of a text.
use Rattle.std.proofs.Common.{◌≡◌, ℕ, ◌≤◌, Bool, true, false, not, ◌||◌, nat_lt, nat_le, List, [], ◌∷◌, ◌++◌}
use Rattle.std.proofs.Common.{length, refl, sym, ◌∙◌, ap, subst, inl, inr}
use Rattle.std.specs.List.{list_all}
use Rattle.std.proofs.lemmas.Bool.{leb-true}
use Rattle.std.proofs.Math.Seq.{drop-append_seam}
use Rattle.js_text.specs.declared.source_type.SourceType.{SourceType}
use Rattle.js_kind.specs.declared.kind.Kind.{Kind}
use Rattle.js_grammar.specs.Punctuators.{Punctuator, punctuators, IsIn, is_spelled, LongestPunctuator, NoPunctuator}
use Rattle.js_grammar.specs.Punctuators.{is_excluded}
use Rattle.js_grammar.proofs.Tests.{and_true, prefix_of}

pub passes_at : (test : Punctuator → Bool) (p : Punctuator) (ps : List Punctuator) → IsIn p ps
    → list_all test ps ≡ true → test p ≡ true
passes_at test p [] h e = absurd h
passes_at test p (q ∷ ps) h e =
    let both = and_true (test q) (list_all test ps) e in
    elim h [ inl here ↦ ap test here ∙ both.0 | inr there ↦ passes_at test p ps there both.1 ]

-- a text that the punctuator begins, with a rest that may follow it
pub spelled_at : (t : SourceType) (line_has_ended : Bool) (p : Punctuator) (vs : List ℕ)
    → is_excluded p t line_has_ended vs ≡ false → is_spelled t line_has_ended (p.text ++ vs) p ≡ true
spelled_at t line_has_ended p vs e = rw (prefix_of p.text vs) (rw drop-append_seam (rw e refl))

-- what a test of each entry says of one that is spelled
not_or : (a b : Bool) → a ≡ true → (not a || b) ≡ true → b ≡ true
not_or true b h e = e
not_or false b h e = absurd (cc)

pub not_true : (a : Bool) → a ≡ true → not a ≡ true → ⊥
not_true true h e = cc
not_true false h e = cc

-- each punctuator that is spelled there is no longer
pub longest_at : (t : SourceType) (line_has_ended : Bool) (text rest : List ℕ) (k : Kind)
    (l : LongestPunctuator t line_has_ended text rest k)
    (p : Punctuator) (vs : List ℕ) → IsIn p punctuators → text ≡ p.text ++ vs
    → is_excluded p t line_has_ended vs ≡ false
    → length p.text ≤ length l.it.text
longest_at t line_has_ended text rest k l p vs i e f =
    let spelled : is_spelled t line_has_ended text p ≡ true =
    subst (λ u. is_spelled t line_has_ended u p ≡ true) (sym e) (spelled_at t line_has_ended p vs f) in
    leb-true _ _
    (not_or (is_spelled t line_has_ended text p) _ spelled
    (passes_at
    (λ q. not (is_spelled t line_has_ended text q) || nat_le (length q.text) (length l.it.text)) p punctuators i
    l.longest))

-- the punctuator has a text
abbrev has_text : Punctuator → Bool
has_text p = nat_lt 0 (length p.text)

punctuators_have_text : list_all has_text punctuators ≡ true
punctuators_have_text = refl

pub some_text : (p : Punctuator) → IsIn p punctuators → p.text ≡ [] → ⊥
some_text p i none =
    let no : nat_lt 0 0 ≡ true =
    subst (λ (xs : List ℕ). nat_lt 0 (length xs) ≡ true) none (passes_at has_text p punctuators i punctuators_have_text)
    in cc

-- a punctuator that stands there, where none does
pub stands_there : (t : SourceType) (line_has_ended : Bool) (text vs : List ℕ) (p : Punctuator) → IsIn p punctuators
    → text ≡ p.text ++ vs → is_excluded p t line_has_ended vs ≡ false → NoPunctuator t line_has_ended text → ⊥
stands_there t line_has_ended text vs p i e allowed none =
    let spelled : is_spelled t line_has_ended text p ≡ true =
    subst (λ u. is_spelled t line_has_ended u p ≡ true) (sym e) (spelled_at t line_has_ended p vs allowed) in
    not_true _ spelled (passes_at (λ q. not (is_spelled t line_has_ended text q)) p punctuators i none)
