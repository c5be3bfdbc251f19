-- The lists of a caller, as what is live is put into them.
use Rattle.std.specs.Prelude.{◌≡◌, ℕ, ◌+◌, List, [], ◌∷◌, length}
use Rattle.js_grammar.specs.Outcome.{Findings}
use Rattle.js_lists.specs.Taken.{Taken}
use Rattle.js_lex_c.specs.Filled.{PutsOn, filled}
use Rattle.js_lex_c.specs.Held.{StayInPlace, held, with_findings}
use Rattle.js_lex_c.specs.Tokens.{pool, token_record, token_records, value_units}
use Rattle.js_lex_c.specs.declared.fill.JsCounts.{JsCounts}
use Rattle.js_lex_c.specs.declared.filler.Filler.{Filler}

-- A token was put behind those before it, and its units behind theirs; nothing else has changed.
pub record PutsTaken (old : Filler) (taken : Taken) (new : Filler) : Type 0 where
  pub tokens : PutsOn old.counts.tokens (token_record old.counts.units taken ∷ [])
      old.out.now.tokens.now new.out.now.tokens.now
  pub units : PutsOn old.counts.units (value_units taken.value) old.out.now.units.now new.out.now.units.now
  pub rest : held new.out.now
      ≡ record (held old.out.now) { tokens = new.out.now.tokens.now; units = new.out.now.units.now }
  pub stay : StayInPlace old.out.now new.out.now
  pub same : new.out.ghost_name ≡ old.out.ghost_name
  pub counted : new.counts ≡ record old.counts {
    tokens = old.counts.tokens + 1;
    units = old.counts.units + length (value_units taken.value);
  }

-- the counts with those of what was found beside the tokens
abbrev pub with_found_counts : Findings → JsCounts → JsCounts
with_found_counts found counts = record counts {
  diagnostics = length found.diagnostics;
  deferred = length found.deferred;
  comments = length found.comments;
  irregular = length found.irregular;
  warnings = length found.warnings;
}

-- The lists of what was found were filled, and counted; nothing else has changed.
pub record PutsFound (old : Filler) (found : Findings) (new : Filler) : Type 0 where
  pub lists : held new.out.now ≡ with_findings found (held old.out.now)
  pub stay : StayInPlace old.out.now new.out.now
  pub same : new.out.ghost_name ≡ old.out.ghost_name
  pub counted : new.counts ≡ with_found_counts found old.counts

-- so many tokens and units, and nothing else
abbrev pub token_counts : ℕ → ℕ → JsCounts
token_counts tokens units = record {
  tokens = tokens;
  units = units;
  diagnostics = 0;
  deferred = 0;
  comments = 0;
  irregular = 0;
  warnings = 0;
  place = 0;
}

-- These were taken: they and their units stand in the lists as far as there is room, and are counted.
pub record HasTaken (start : Filler) (all : List Taken) (now : Filler) : Type 0 where
  pub tokens : now.out.now.tokens.now ≡ filled start.out.now.tokens.now (token_records 0 all)
  pub units : now.out.now.units.now ≡ filled start.out.now.units.now (pool all)
  pub rest : held now.out.now
      ≡ record (held start.out.now) { tokens = now.out.now.tokens.now; units = now.out.now.units.now }
  pub stay : StayInPlace start.out.now now.out.now
  pub same : now.out.ghost_name ≡ start.out.ghost_name
  pub counted : now.counts ≡ token_counts (length (token_records 0 all)) (length (pool all))
