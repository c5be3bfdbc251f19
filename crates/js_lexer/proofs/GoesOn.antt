-- What a lexer that has gone on may go back to.
use Rattle.std.proofs.Common.{◌≡◌, ◌≤◌, take, List, [], ◌∷◌, length, sym, ◌∙◌, subst, ap, arith}
use Rattle.std.specs.Prelude.{IfSome}
use Rattle.std.specs.Str.{IsCharBoundary}
use Rattle.std.proofs.lemmas.List.{take-append-le}
use Rattle.js_grammar.specs.GapItems.{token_before}
use Rattle.js_grammar.specs.Outcome.{AreWithin}
use Rattle.js_grammar.specs.ReLexed.{HasSpelling}
use Rattle.js_kind.specs.TokenParts.{TokenParts}
use Rattle.js_trivia.specs.Trivia.{is_past, comment_starts, span_starts}
use Rattle.js_lexer.specs.Lexer.{LexerState, IsOnPlaces, Checkpoint, CanRewind, BeginsAlike, GoesOnFrom}
use Rattle.js_lexer.specs.Lexer.{checkpoint_of, asked_lengths}
use Rattle.js_lexer.proofs.FindingLaws.{within-joined}

-- a list that begins as one with a token has a token
pub has_token : (t : TokenParts) (ts : List TokenParts) → BeginsAlike (t ∷ ts) [] → ⊥
has_token t [] h = h
has_token t (u ∷ ts) h = h

begins_alike-length : (a b : List TokenParts) → BeginsAlike a b → length a ≤ length b
begins_alike-length [] b h = omega arith
begins_alike-length (t ∷ ts) [] h = absurd (has_token t ts h)
begins_alike-length (t ∷ []) (n ∷ ns) h = omega arith
begins_alike-length (t ∷ u ∷ ts) (n ∷ ns) h = let rest = begins_alike-length (u ∷ ts) ns h.1 in omega (arith, rest)

-- a lexer that has gone on may go back to where it could go before
pub can_rewind-on : (old new : LexerState) (c : Checkpoint) → CanRewind old c → GoesOnFrom old new → CanRewind new c
can_rewind-on old new c h g = record {
  place = subst (λ u. IsCharBoundary u c.place) (sym g.text) h.place;
  last = subst (λ u. IfSome c.last (IsOnPlaces u)) (sym g.text) h.last;
  spelling = subst (λ u. IfSome c.last (HasSpelling u)) (sym g.text) h.spelling;
  tokens = omega (arith, h.tokens, begins_alike-length old.tokens new.tokens g.tokens);
  findings =
      subst (AreWithin (asked_lengths c)) (sym g.goes_on)
      (within-joined (asked_lengths c) old.findings g.findings h.findings);
  comments =
      ap (λ f. is_past (token_before c.last).start (comment_starts (take c.lengths.comments f.comments))) g.goes_on
      ∙ ap (λ cs. is_past (token_before c.last).start (comment_starts cs))
      (take-append-le c.lengths.comments old.findings.comments g.findings.comments h.findings.comments)
      ∙ h.comments;
  irregular =
      ap (λ f. is_past (token_before c.last).start (span_starts (take c.lengths.irregular f.irregular))) g.goes_on
      ∙ ap (λ ss. is_past (token_before c.last).start (span_starts ss))
      (take-append-le c.lengths.irregular old.findings.irregular g.findings.irregular h.findings.irregular)
      ∙ h.irregular;
}

-- where a checkpoint copies nothing, no list is shorter than it was
pub within_all : (old now : LexerState) (c : Checkpoint) → c ≡ checkpoint_of old → CanRewind now c
    → AreWithin c.lengths now.findings
within_all old now c e h =
    let asked : asked_lengths c ≡ c.lengths = ap asked_lengths e ∙ ap (λ x. x.lengths) (sym e) in
    subst (λ n. AreWithin n now.findings) asked h.findings
