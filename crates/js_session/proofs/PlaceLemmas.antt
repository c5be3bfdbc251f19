-- Places that hold marks, and how many of them commands need.
use Rattle.std.proofs.Common.{◌≡◌, ℕ, suc, ◌+◌, ◌<◌, ◌≤◌, Bool, true, false, List, [], ◌∷◌, ◌++◌, length, refl}
use Rattle.std.proofs.Common.{sym, ◌∙◌, ap, subst, arith, cond, Option, Some, None, append-nil}
use Rattle.std.proofs.lemmas.Grind.{flat_map-append}
use Rattle.std.specs.List.{AllByRecursion}
use Rattle.std.specs.Option.{option_flatten}
use Rattle.std.specs.Prelude.{IsSome, ◌↔◌, option_to_list, MatchBool}
use Rattle.js_session.specs.declared.command.Command.{Command}
use Rattle.js_session.specs.declared.mark.SessionMark.{SessionMark}
use Rattle.js_session.specs.Effects.{effect_of, gives_row, closes_mark, opens_mark, is_step, opens_one}
use Rattle.js_session.specs.declared.command.Effect.{Effect}
use Rattle.js_session.specs.Effects.{free_after, needed_before, marks_needed}
use Rattle.js_session.specs.declared.command.Effect.TheVariants.{Reads, Peeks, ReLexes, Opens, Rewinds, Commits}
use Rattle.js_session.specs.Marks.{marks_in}
use Rattle.js_session.specs.Report.{HasMark}
use Rattle.js_session.specs.Session.{SessionState, AddsRow, Follows, after_command}
use Rattle.js_session.proofs.RunLemmas.{marks_more, same_marks}

-- there are as many marks as places that hold one
pub length-marks_in : (places : List (Option SessionMark)) → AllByRecursion IsSome places
    → length (marks_in places) ≡ length places
length-marks_in [] h = refl
length-marks_in (None ∷ places) h = absurd (cc)
length-marks_in (Some m ∷ places) h = ap (λ n. suc n) (length-marks_in places h.1)

-- one mark more
pub marks_in-push : (places : List (Option SessionMark)) (m : SessionMark)
    → marks_in (places ++ Some m ∷ []) ≡ marks_in places ++ m ∷ []
marks_in-push places m = flat_map-append option_to_list places (Some m ∷ [])

-- the places before the last one
all-before : (places : List (Option SessionMark)) (last : Option SessionMark)
    → AllByRecursion IsSome (places ++ last ∷ []) → AllByRecursion IsSome places × IsSome last
all-before [] last h = (tt, h.0)
all-before (p ∷ places) last h = let rest = all-before places last h.1 in ((h.0, rest.0), rest.1)

-- The last place was taken away, if there was one: with it the last mark.
pub record Pops (old new : List (Option SessionMark)) (last : Option (Option SessionMark)) : Type 0 where
  pub hold : AllByRecursion IsSome new
  pub items : marks_in old ≡ marks_in new ++ option_to_list (option_flatten last)
  pub found : IsSome (option_flatten last) ↔ (0 < length (marks_in old))
  pub frees : length (option_to_list last) ≡ length (option_to_list (option_flatten last))

pub pops : (old new : List (Option SessionMark)) (last : Option (Option SessionMark)) → AllByRecursion IsSome old
    → old ≡ new ++ option_to_list last → (IsSome last ↔ (0 < length old)) → Pops old new last
pops old new None h e found = record {
  hold = subst (AllByRecursion IsSome) (e ∙ append-nil new) h;
  items = ap marks_in e ∙ flat_map-append option_to_list new [];
  found = subst (λ n. IsSome {T = SessionMark} None ↔ (0 < n)) (sym (length-marks_in old h)) found;
  frees = refl;
}
pops old new (Some None) h e found =
    absurd (let no : false ≡ true = (all-before new None (subst (AllByRecursion IsSome) e h)).1 in cc)
pops old new (Some (Some m)) h e found = record {
  hold = (all-before new (Some m) (subst (AllByRecursion IsSome) e h)).0;
  items = ap marks_in e ∙ marks_in-push new m;
  found = subst (λ n. IsSome (Some m) ↔ (0 < n)) (sym (length-marks_in old h)) found;
  frees = refl;
}

-- at least so many places for marks are free after an effect, where those that it needs were free before it
still_free : (effect : Effect) (needed free : ℕ) → needed_before effect needed ≤ free → needed ≤ free_after effect free
still_free (Reads goal) needed free h = h
still_free (Peeks goal) needed free h = h
still_free (ReLexes goal) needed free h = h
still_free Opens needed free h = omega (arith, h)
still_free Rewinds needed free h = omega (arith, h)
still_free Commits needed free h = omega (arith, h)

-- an effect that gives a row needs no place
needs_none : (effect : Effect) (needed : ℕ) → gives_row effect ≡ true → needed_before effect needed ≡ needed
needs_none (Reads goal) needed e = refl
needs_none (Peeks goal) needed e = refl
needs_none (ReLexes goal) needed e = refl
needs_none Opens needed e = absurd (cc)
needs_none Rewinds needed e = absurd (cc)
needs_none Commits needed e = absurd (cc)

-- one that opens a mark needs one
needs_one : (effect : Effect) (needed free : ℕ) → opens_mark effect ≡ true → needed_before effect needed ≤ free
    → 0 < free
needs_one (Reads goal) needed free e h = absurd (cc)
needs_one (Peeks goal) needed free e h = absurd (cc)
needs_one (ReLexes goal) needed free e h = absurd (cc)
needs_one Opens needed free e h = omega (arith, h)
needs_one Rewinds needed free e h = absurd (cc)
needs_one Commits needed free e h = absurd (cc)

one_more : (effect : Effect) (needed : ℕ) → needed_before effect needed ≤ needed + 1
one_more (Reads goal) needed = omega arith
one_more (Peeks goal) needed = omega arith
one_more (ReLexes goal) needed = omega arith
one_more Opens needed = omega arith
one_more Rewinds needed = omega arith
one_more Commits needed = omega arith

-- no more places are needed than there are commands
pub needed_within : (commands : List Command) → marks_needed commands ≤ length commands
needed_within [] = omega arith
needed_within (c ∷ cs) =
    omega (arith, one_more (effect_of c) (marks_needed cs), needed_within cs)

pub place_for : (left rest : List Command) (c : Command) (free : ℕ) → left ≡ c ∷ rest → marks_needed left ≤ free
    → opens_one c ≡ true → 0 < free
place_for left rest c free e h one =
    needs_one (effect_of c) (marks_needed rest) free one (subst (λ l. marks_needed l ≤ free) e h)

-- where a command is followed, enough places stay free for those behind it
pub enough_on : (left rest : List Command) (c : Command) (old new : SessionState) → left ≡ c ∷ rest → Follows c old new
    → marks_needed left ≤ old.spare → marks_needed rest ≤ new.spare
enough_on left rest c old new e f h =
    by_step (is_step c) refl f (subst (λ l. marks_needed l ≤ old.spare) e h)
  where
    by_step : (b : Bool) → is_step c ≡ b → MatchBool b (AddsRow c old new) (new ≡ after_command c old)
        → needed_before (effect_of c) (marks_needed rest) ≤ old.spare → marks_needed rest ≤ new.spare
    by_step true is a enough =
        let same : new.spare ≡ old.spare = ap (λ (s : SessionState). s.spare) a.after in
        omega (arith, needs_none (effect_of c) (marks_needed rest) is, enough, same)
    by_step false is after enough =
        let now : new.spare ≡ free_after (effect_of c) old.spare = ap (λ (s : SessionState). s.spare) after in
        omega (arith, still_free (effect_of c) (marks_needed rest) old.spare enough, now)

-- what is free, and the mark that is opened or closed
places_more : (effect : Effect) (free : ℕ) → (opens_mark effect ≡ true → 0 < free)
    → free_after effect free + cond (opens_mark effect) 1 0 ≡ free + cond (closes_mark effect) 1 0
places_more (Reads goal) free h = refl
places_more (Peeks goal) free h = refl
places_more (ReLexes goal) free h = refl
places_more Opens free h = let some : 0 < free = h refl in omega (arith, some)
places_more Rewinds free h = omega arith
places_more Commits free h = omega arith

-- an effect that gives a row opens and closes no mark
no_mark : (effect : Effect) → gives_row effect ≡ true
    → ◌≡◌ {A = ℕ} (cond (opens_mark effect) 1 0) (cond (closes_mark effect) 1 0)
no_mark (Reads goal) e = refl
no_mark (Peeks goal) e = refl
no_mark (ReLexes goal) e = refl
no_mark Opens e = absurd (cc)
no_mark Rewinds e = absurd (cc)
no_mark Commits e = absurd (cc)

-- open marks and free places together stay as many
pub places_stay : (c : Command) (old new : SessionState) → HasMark c old.state → (opens_one c ≡ true → 0 < old.spare)
    → Follows c old new → length new.state.marks + new.spare ≡ length old.state.marks + old.spare
places_stay c old new has free f = by_step (is_step c) refl f
  where
    by_step : (b : Bool) → is_step c ≡ b → MatchBool b (AddsRow c old new) (new ≡ after_command c old)
        → length new.state.marks + new.spare ≡ length old.state.marks + old.spare
    by_step true is a =
        let same : new.spare ≡ old.spare = ap (λ (s : SessionState). s.spare) a.after in
        let marks = ap (λ (s : SessionState). length s.state.marks) a.after in
        omega (arith, same, marks, same_marks (effect_of c) a.row old.state is, no_mark (effect_of c) is)
    by_step false is after =
        let now : new.spare ≡ free_after (effect_of c) old.spare = ap (λ (s : SessionState). s.spare) after in
        let marks = ap (λ (s : SessionState). length s.state.marks) after in
        omega (arith, now, marks, marks_more (effect_of c) old.state is has, places_more (effect_of c) old.spare free)
