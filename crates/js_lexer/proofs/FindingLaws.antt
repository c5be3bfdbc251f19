-- Laws of what readings find: each goes through the lists one by one, and nothing above does.
use Rattle.std.proofs.Common.{◌≡◌, ℕ, ◌≤◌, List, length, take, refl, arith, append-nil, append_assoc}
use Rattle.std.proofs.Common.{length-append, Some}
use Rattle.std.proofs.Math.Seq.{drop-append_seam, take-append_seam}
use Rattle.std.proofs.lemmas.List.{take-append-le, take-take, length-take-le, take_all}
use Rattle.js_text.specs.declared.diagnostic.Diagnostic.{Diagnostic}
use Rattle.js_grammar.specs.Outcome.{Findings, FindingLengths, AreWithin, cut_to, found_since, joined, lengths_of}
use Rattle.js_grammar.specs.Outcome.{no_findings}
use Rattle.js_lexer.specs.Lexer.{put_errors_back}

pub joined-assoc : (a b c : Findings) → joined (joined a b) c ≡ joined a (joined b c)
joined-assoc a b c =
    rw (
      append_assoc a.diagnostics b.diagnostics c.diagnostics,
      append_assoc a.deferred b.deferred c.deferred,
      append_assoc a.comments b.comments c.comments,
      append_assoc a.irregular b.irregular c.irregular,
      append_assoc a.warnings b.warnings c.warnings,
    )
    refl

pub joined-none : (a : Findings) → joined a no_findings ≡ a
joined-none a =
    rw (
      append-nil a.diagnostics,
      append-nil a.deferred,
      append-nil a.comments,
      append-nil a.irregular,
      append-nil a.warnings,
    )
    refl

-- no list is shorter than itself
pub within-own : (a : Findings) → AreWithin (lengths_of a) a
within-own a = record {
  diagnostics = omega arith;
  deferred = omega arith;
  comments = omega arith;
  irregular = omega arith;
  warnings = omega arith;
}

pub within-joined : (lengths : FindingLengths) (a b : Findings) → AreWithin lengths a → AreWithin lengths (joined a b)
within-joined lengths a b h = record {
  diagnostics = omega (arith, h.diagnostics, length-append a.diagnostics b.diagnostics);
  deferred = omega (arith, h.deferred, length-append a.deferred b.deferred);
  comments = omega (arith, h.comments, length-append a.comments b.comments);
  irregular = omega (arith, h.irregular, length-append a.irregular b.irregular);
  warnings = omega (arith, h.warnings, length-append a.warnings b.warnings);
}

-- findings that have only grown, cut back
pub cut_to-joined : (old more : Findings) → cut_to (lengths_of old) (joined old more) ≡ old
cut_to-joined old more =
    rw (
      take-append_seam old.diagnostics more.diagnostics,
      take-append_seam old.deferred more.deferred,
      take-append_seam old.comments more.comments,
      take-append_seam old.irregular more.irregular,
      take-append_seam old.warnings more.warnings,
    )
    refl

-- and what was found since
pub found_since-joined : (old more : Findings) → found_since (lengths_of old) (joined old more) ≡ more
found_since-joined old more =
    rw (
      drop-append_seam old.diagnostics more.diagnostics,
      drop-append_seam old.deferred more.deferred,
      drop-append_seam old.comments more.comments,
      drop-append_seam old.irregular more.irregular,
      drop-append_seam old.warnings more.warnings,
    )
    refl

-- findings that have only grown but for diagnostics, cut back, with the diagnostics put back
pub cut_to-recovered : (old more : Findings) (left : List Diagnostic)
    → put_errors_back (Some old.diagnostics) (cut_to (lengths_of old) (joined (record old { diagnostics = left }) more))
    ≡ old
cut_to-recovered old more left =
    rw (
      take-append_seam old.deferred more.deferred,
      take-append_seam old.comments more.comments,
      take-append_seam old.irregular more.irregular,
      take-append_seam old.warnings more.warnings,
    )
    refl

-- cut back further than to where they had grown from
pub cut_to-joined-le : (l : FindingLengths) (f g : Findings) → AreWithin l f → cut_to l (joined f g) ≡ cut_to l f
cut_to-joined-le l f g h =
    rw (
      take-append-le l.diagnostics f.diagnostics g.diagnostics h.diagnostics,
      take-append-le l.deferred f.deferred g.deferred h.deferred,
      take-append-le l.comments f.comments g.comments h.comments,
      take-append-le l.irregular f.irregular g.irregular h.irregular,
      take-append-le l.warnings f.warnings g.warnings h.warnings,
    )
    refl

shorter : {X : Type 0} (k n : ℕ) (xs : List X) → n ≤ length xs → k ≤ length (take n xs) → k ≤ n
shorter k n xs within le = omega (arith, le, length-take-le n xs within)

-- cut back twice
pub cut_to-cut_to : (l m : FindingLengths) (f : Findings) → AreWithin m f → AreWithin l (cut_to m f)
    → cut_to l (cut_to m f) ≡ cut_to l f
cut_to-cut_to l m f h g =
    rw (
      take-take l.diagnostics m.diagnostics f.diagnostics
          (shorter l.diagnostics m.diagnostics f.diagnostics h.diagnostics g.diagnostics),
      take-take l.deferred m.deferred f.deferred (shorter l.deferred m.deferred f.deferred h.deferred g.deferred),
      take-take l.comments m.comments f.comments (shorter l.comments m.comments f.comments h.comments g.comments),
      take-take l.irregular m.irregular f.irregular
          (shorter l.irregular m.irregular f.irregular h.irregular g.irregular),
      take-take l.warnings m.warnings f.warnings (shorter l.warnings m.warnings f.warnings h.warnings g.warnings),
    )
    refl

-- not cut back
pub cut_to-all : (f : Findings) → cut_to (lengths_of f) f ≡ f
cut_to-all f =
    rw (
      take_all (length f.diagnostics) f.diagnostics (omega arith),
      take_all (length f.deferred) f.deferred (omega arith),
      take_all (length f.comments) f.comments (omega arith),
      take_all (length f.irregular) f.irregular (omega arith),
      take_all (length f.warnings) f.warnings (omega arith),
    )
    refl
