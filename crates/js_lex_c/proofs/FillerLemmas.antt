-- Tokens that were put into the lists of a caller, one after the other.
use Rattle.std.proofs.Common.{◌≡◌, ◌+◌, List, [], ◌∷◌, ◌++◌, length, refl, sym, ◌∙◌, ap, arith}
use Rattle.std.proofs.Common.{append-nil, append_assoc}
use Rattle.std.proofs.Common.{subst}
use Rattle.std.proofs.lemmas.List.{length-append}
use Rattle.js_lists.specs.Taken.{Taken, TakesEach}
use Rattle.js_lex_c.specs.Filled.{filled}
use Rattle.js_lex_c.specs.Filler.{HasTaken, PutsTaken, token_counts}
use Rattle.js_lex_c.specs.Held.{Held, StayInPlace}
use Rattle.js_lex_c.specs.Tokens.{pool, token_record, token_records, value_units}
use Rattle.js_lex_c.specs.declared.fill.JsCounts.{JsCounts}
use Rattle.js_lex_c.specs.declared.fill.JsLists.{JsLists}
use Rattle.js_lex_c.specs.declared.filler.Filler.{Filler}
use Rattle.js_lex_c.proofs.FillLemmas.{filled_none}
use Rattle.js_lex_c.proofs.RecordLemmas.{pool_more, records_more}

pub stay_on : (a b c : JsLists) → StayInPlace a b → StayInPlace b c → StayInPlace a c
stay_on a b c h g = record {
  tokens = g.tokens ∙ h.tokens;
  units = g.units ∙ h.units;
  diagnostics = g.diagnostics ∙ h.diagnostics;
  deferred = g.deferred ∙ h.deferred;
  comments = g.comments ∙ h.comments;
  irregular = g.irregular ∙ h.irregular;
  warnings = g.warnings ∙ h.warnings;
}

-- none was taken yet
taken_none : (start : Filler) → start.counts ≡ token_counts 0 0 → HasTaken start [] start
taken_none start none = record {
  tokens = sym (filled_none start.out.now.tokens.now);
  units = sym (filled_none start.out.now.units.now);
  rest = refl;
  stay = record {
    tokens = refl;
    units = refl;
    diagnostics = refl;
    deferred = refl;
    comments = refl;
    irregular = refl;
    warnings = refl;
  };
  same = refl;
  counted = none;
}

-- one more was taken
taken_more : (start old new : Filler) (all : List Taken) (taken : Taken) → HasTaken start all old
    → PutsTaken old taken new → HasTaken start (all ++ taken ∷ []) new
taken_more start old new all taken h p =
    let first = start.out.now in
    let token_count : old.counts.tokens ≡ length (token_records 0 all) = ap (λ c. c.tokens) h.counted in
    let unit_count : old.counts.units ≡ length (pool all) = ap (λ c. c.units) h.counted in
    let records : token_records 0 (all ++ taken ∷ [])
    ≡ token_records 0 all ++ token_record old.counts.units taken ∷ [] =
    records_more all taken ∙ ap (λ n. token_records 0 all ++ token_record n taken ∷ []) (sym unit_count) in
    let units = pool_more all taken in
    let tokens_now : old.counts.tokens + 1 ≡ length (token_records 0 (all ++ taken ∷ [])) =
    omega (
      arith,
      token_count,
      ap length records,
      length-append (token_records 0 all) (token_record old.counts.units taken ∷ []),
    ) in
    let units_now : old.counts.units + length (value_units taken.value) ≡ length (pool (all ++ taken ∷ [])) =
    omega (arith, unit_count, ap length units, length-append (pool all) (value_units taken.value)) in
    record {
      tokens =
          p.tokens first.tokens.now (token_records 0 all) token_count h.tokens
          ∙ ap (filled first.tokens.now) (sym records);
      units = p.units first.units.now (pool all) unit_count h.units ∙ ap (filled first.units.now) (sym units);
      rest =
          p.rest
          ∙ ap {A = Held} {B = Held}
          (λ l. record l { tokens = new.out.now.tokens.now; units = new.out.now.units.now }) h.rest;
      stay = stay_on first old.out.now new.out.now h.stay p.stay;
      same = p.same ∙ h.same;
      counted =
          p.counted
          ∙ ap {A = JsCounts} {B = JsCounts} (λ c. record c {
            tokens = old.counts.tokens + 1;
            units = old.counts.units + length (value_units taken.value);
          }) h.counted
          ∙ ap (λ n. token_counts n (old.counts.units + length (value_units taken.value))) tokens_now
          ∙ ap (token_counts (length (token_records 0 (all ++ taken ∷ [])))) units_now;
    }

-- these were taken behind those
taken_each : (start old new : Filler) (all more : List Taken) → HasTaken start all old
    → TakesEach PutsTaken old more new → HasTaken start (all ++ more) new
taken_each start old new all [] h e =
    subst (HasTaken start (all ++ [])) (sym e) (subst (λ xs. HasTaken start xs old) (sym (append-nil all)) h)
taken_each start old new all (taken ∷ more) h e =
    subst (λ xs. HasTaken start xs new) (append_assoc all (taken ∷ []) more)
    (taken_each start e.0 new (all ++ taken ∷ []) more (taken_more start old e.0 all taken h e.1) e.2)

-- From none on these were taken.
pub has_taken : (start new : Filler) (all : List Taken) → start.counts ≡ token_counts 0 0
    → TakesEach PutsTaken start all new → HasTaken start all new
has_taken start new all none e = taken_each start start new [] all (taken_none start none) e
