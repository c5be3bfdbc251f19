-- What rows make live, where they are moved, and that it may be moved where the rows may.
use Rattle.std.proofs.Common.{◌≡◌, ℕ, Bool, true, false, List, [], ◌∷◌, ◌++◌, map, refl, sym, ◌∙◌, ap}
use Rattle.std.specs.Prelude.{if◌then◌else◌}
use Rattle.std.specs.List.{AllByRecursion}
use Rattle.std.proofs.lemmas.List.{map-append}
use Rattle.std.proofs.lemmas.List.Elements.{All-append, All-nil}
use Rattle.js_text.specs.Lists.{with_last}
use Rattle.js_session.specs.Restated.{Findings, joined}
use Rattle.js_session.specs.declared.row.Row.{Row}
use Rattle.js_session.specs.Effects.{row_effect}
use Rattle.js_session.specs.declared.command.Effect.{Effect}
use Rattle.js_session.specs.declared.command.Effect.TheVariants.{Reads, Peeks, ReLexes, Opens, Rewinds, Commits}
use Rattle.js_session.specs.Live.{Live, State, after_row, nothing_live, outcome_of, row_findings, with_outcome}
use Rattle.js_session.specs.Live.{with_re_lexed}
use Rattle.js_session.specs.Shifted.{FitsShifted, OfComment, OfDiagnostic, OfFindings, OfSpan}
use Rattle.js_session.specs.Shifted.{shifted_comment, shifted_diagnostic, shifted_row, shifted_span, shifted_token}
use Rattle.js_session.proofs.LiveLemmas.{same_live}
use Rattle.js_relex.specs.Documents.{MayMove, live_behind}
use Rattle.js_relex.specs.LiveLists.{LiveMayMove, TokenMayMove, shifted_live}

module _ {A B : Type 0} (f : A → B) where
  map_last : (xs : List A) (y : A) → with_last (map f xs) (f y) ≡ map f (with_last xs y)
  map_last [] y = refl
  map_last (x ∷ []) y = refl
  map_last (x ∷ z ∷ zs) y = ap (λ l. f x ∷ l) (map_last (z ∷ zs) y)

module _ (from to : ℕ) where
  abbrev shift : Live → Live
  shift live = shifted_live from to live

  abbrev moved : Row → Row
  moved row = shifted_row from to row

  findings_moved : (live : Live) (row : Row)
      → joined (shift live).findings (row_findings (moved row))
      ≡ (shift (record live { findings = joined live.findings (row_findings row) })).findings
  findings_moved live row =
      λ i. record {
        diagnostics =
            sym (map-append (shifted_diagnostic from to) live.findings.diagnostics row.diagnostics) i;
        deferred = sym (map-append (shifted_diagnostic from to) live.findings.deferred row.deferred) i;
        comments = sym (map-append (shifted_comment from to) live.findings.comments row.comments) i;
        irregular = sym (map-append (shifted_span from to) live.findings.irregular row.irregular) i;
        warnings = sym (map-append (shifted_span from to) live.findings.warnings row.warnings) i;
      }

  row_moved : (live : Live) (effect : Effect) (row : Row)
      → (after_row effect (moved row) (record { now = shift live; marks = [] })).now
      ≡ shift (after_row effect row (record { now = live; marks = [] })).now
  row_moved live (Reads goal) row =
      same_live (with_outcome (shift live) (outcome_of (moved row))) (shift (with_outcome live (outcome_of row)))
      (sym (map-append (shifted_token from to) live.tokens (row.token ∷ []))) (findings_moved live row)
  row_moved live (ReLexes goal) row = by_taken row.taken
    where
      by_taken : (taken : Bool)
          → (if◌then◌else◌ {A = State} taken
          (record { now = with_re_lexed (shift live) (outcome_of (moved row)); marks = [] })
          (record { now = shift live; marks = [] })).now
          ≡ shift (if◌then◌else◌ {A = State} taken
          (record { now = with_re_lexed live (outcome_of row); marks = [] })
          (record { now = live; marks = [] })).now
      by_taken true =
          same_live (with_re_lexed (shift live) (outcome_of (moved row))) (shift (with_re_lexed live (outcome_of row)))
          (map_last (shifted_token from to) live.tokens row.token) (findings_moved live row)
      by_taken false = refl
  row_moved live (Peeks goal) row = refl
  row_moved live Opens row = refl
  row_moved live Rewinds row = refl
  row_moved live Commits row = refl

  -- What moved rows make live is what they make live, moved.
  pub moved_behind : (live : Live) (rows : List Row)
      → live_behind (shift live) (map moved rows) ≡ shift (live_behind live rows)
  moved_behind live [] = refl
  moved_behind live (row ∷ rows) =
      ap (λ l. live_behind l (map moved rows)) (row_moved live (row_effect row.command) row)
      ∙ moved_behind (after_row (row_effect row.command) row (record { now = live; marks = [] })).now rows

module _ {A : Type 0} (P : A → Type 0) where
  all_push : (xs : List A) (y : A) → AllByRecursion P xs → P y → AllByRecursion P (xs ++ y ∷ [])
  all_push [] y h k = (k, tt)
  all_push (x ∷ xs) y h k = (h.0, all_push xs y h.1 k)

  all_last : (xs : List A) (y : A) → AllByRecursion P xs → P y → AllByRecursion P (with_last xs y)
  all_last [] y h k = tt
  all_last (x ∷ []) y h k = (k, tt)
  all_last (x ∷ z ∷ zs) y h k = (h.0, all_last (z ∷ zs) y h.1 k)

found_both : (P : ℕ → Type 0) (a b : Findings) → OfFindings P a → OfFindings P b → OfFindings P (joined a b)
found_both P a b h k = record {
  diagnostics = All-append (OfDiagnostic P) a.diagnostics b.diagnostics h.diagnostics k.diagnostics;
  deferred = All-append (OfDiagnostic P) a.deferred b.deferred h.deferred k.deferred;
  comments = All-append (OfComment P) a.comments b.comments h.comments k.comments;
  irregular = All-append (OfSpan P) a.irregular b.irregular h.irregular k.irregular;
  warnings = All-append (OfSpan P) a.warnings b.warnings h.warnings k.warnings;
}

module _ (from to : ℕ) where
  token_may_move : (row : Row) → MayMove from to row → TokenMayMove from to row.token
  token_may_move row h = record { ordered = h.ordered; start = h.fits.start; end = h.fits.end }

  found_more : (live : Live) (row : Row) → LiveMayMove from to live → MayMove from to row
      → OfFindings (FitsShifted from to) (joined live.findings (row_findings row))
  found_more live row h m = found_both (FitsShifted from to) live.findings (row_findings row) h.found m.fits.found

  row_may_move : (live : Live) (effect : Effect) (row : Row) → LiveMayMove from to live → MayMove from to row
      → LiveMayMove from to (after_row effect row (record { now = live; marks = [] })).now
  row_may_move live (Reads goal) row h m = record {
    tokens = all_push (TokenMayMove from to) live.tokens row.token h.tokens (token_may_move row m);
    found = found_more live row h m;
  }
  row_may_move live (ReLexes goal) row h m = by_taken row.taken
    where
      by_taken : (taken : Bool)
          → LiveMayMove from to (if◌then◌else◌ {A = State} taken
          (record { now = with_re_lexed live (outcome_of row); marks = [] })
          (record { now = live; marks = [] })).now
      by_taken true = record {
        tokens = all_last (TokenMayMove from to) live.tokens row.token h.tokens (token_may_move row m);
        found = found_more live row h m;
      }
      by_taken false = h
  row_may_move live (Peeks goal) row h m = h
  row_may_move live Opens row h m = h
  row_may_move live Rewinds row h m = h
  row_may_move live Commits row h m = h

  behind_may_move : (live : Live) (rows : List Row) → LiveMayMove from to live
      → AllByRecursion (MayMove from to) rows → LiveMayMove from to (live_behind live rows)
  behind_may_move live [] h m = h
  behind_may_move live (row ∷ rows) h m =
      behind_may_move (after_row (row_effect row.command) row (record { now = live; marks = [] })).now rows
      (row_may_move live (row_effect row.command) row h m.0) m.1

  -- What rows make live may be moved where the rows may.
  pub live_may_move : (rows : List Row) → AllByRecursion (MayMove from to) rows
      → LiveMayMove from to (live_behind nothing_live rows)
  live_may_move rows m = behind_may_move nothing_live rows (record {
    tokens = tt;
    found = record {
      diagnostics = All-nil (OfDiagnostic (FitsShifted from to));
      deferred = All-nil (OfDiagnostic (FitsShifted from to));
      comments = All-nil (OfComment (FitsShifted from to));
      irregular = All-nil (OfSpan (FitsShifted from to));
      warnings = All-nil (OfSpan (FitsShifted from to));
    };
  }) m
