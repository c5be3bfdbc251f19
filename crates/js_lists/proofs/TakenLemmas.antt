-- Tokens that are taken one behind the other.
use Rattle.std.proofs.Common.{◌≡◌, List, [], ◌∷◌, ◌++◌, map, reverse, refl, sym, ◌∙◌, ap, subst, inl, inr}
use Rattle.std.proofs.lemmas.List.{map-append, reverse-append}
use Rattle.js_reader.specs.Decoded.{Values}
use Rattle.js_session.specs.declared.row.Row.{Row}
use Rattle.js_lists.specs.Drive.{HandsOver}
use Rattle.js_lists.specs.LiveLists.{taken_of}
use Rattle.js_lists.specs.Taken.{BreaksOff, Taken, TakesEach}
use Rattle.js_session.specs.declared.re_lex.LastRead.{LastRead}

-- one more token was taken
pub takes_more : {S : Type 0} (takes : S → Taken → S → Type 0) (xs : List Taken) (x : Taken) (old mid new : S)
    → TakesEach takes old xs mid → takes mid x new → TakesEach takes old (xs ++ x ∷ []) new
takes_more takes [] x old mid new h t = (new, subst (λ s. takes s x new) h t, refl)
takes_more takes (y ∷ xs) x old mid new h t = (h.0, h.1, takes_more takes xs x h.0 mid new h.2 t)

-- the tokens of what is taken of rows
pub tokens_of_taken : (rows : List Row)
    → map (λ (x : Taken). x.token) (map taken_of rows) ≡ map (λ (row : Row). row.token) rows
tokens_of_taken [] = refl
tokens_of_taken (row ∷ rows) = ap (λ ts. row.token ∷ ts) (tokens_of_taken rows)

-- what is taken of rows that stand backward
abbrev pub taken_backward : List Row → List Taken
taken_backward rows = map taken_of (reverse rows)

-- the same with one row more
pub backward_more : (row : Row) (rows : List Row)
    → taken_backward rows ++ taken_of row ∷ [] ≡ taken_backward (row ∷ rows)
backward_more row rows =
    sym (ap (map taken_of) (reverse-append (row ∷ []) rows) ∙ map-append taken_of (reverse rows) (row ∷ []))

-- tokens were taken, and then some more
pub takes_both : {S : Type 0} (takes : S → Taken → S → Type 0) (xs ys : List Taken) (old mid new : S)
    → TakesEach takes old xs mid → TakesEach takes mid ys new → TakesEach takes old (xs ++ ys) new
takes_both takes [] ys old mid new h g = subst (λ s. TakesEach takes s ys new) h g
takes_both takes (x ∷ xs) ys old mid new h g = (h.0, h.1, takes_both takes xs ys h.0 mid new h.2 g)

-- Nothing was taken, or there was no memory behind what was taken.
pub breaks_here : {S : Type 0} (takes : S → Taken → S → Type 0) (breaks_off : S → S → Type 0) (xs : List Taken)
    (old new : S) → TakesEach takes old xs new → BreaksOff takes breaks_off old new
breaks_here takes breaks_off xs old new h = record { taken = xs; behind = new; takes_each = h; after = inl refl }

pub breaks_behind : {S : Type 0} (takes : S → Taken → S → Type 0) (breaks_off : S → S → Type 0) (xs : List Taken)
    (old mid new : S) → TakesEach takes old xs mid → breaks_off mid new → BreaksOff takes breaks_off old new
breaks_behind takes breaks_off xs old mid new h b =
    record { taken = xs; behind = mid; takes_each = h; after = inr b }

-- tokens were taken, and then there was no memory for some more
pub breaks_later : {S : Type 0} (takes : S → Taken → S → Type 0) (breaks_off : S → S → Type 0) (xs : List Taken)
    (old mid new : S) → TakesEach takes old xs mid → BreaksOff takes breaks_off mid new
    → BreaksOff takes breaks_off old new
breaks_later takes breaks_off xs old mid new h b = record {
  taken = xs ++ b.taken;
  behind = b.behind;
  takes_each = takes_both takes xs b.taken old mid b.behind h b.takes_each;
  after = b.after;
}

-- One token was handed over, and no more.
pub breaks_handed : {S : Type 0} (takes : S → Taken → S → Type 0) (breaks_off : S → S → Type 0) (decoded : Values)
    (last : LastRead) (old new : S) → HandsOver takes decoded last old new → BreaksOff takes breaks_off old new
breaks_handed takes breaks_off decoded last old new h =
    breaks_here takes breaks_off
    (record { token = last.token; value = h.value; regex = last.regex } ∷ []) old new (new, h.taken, refl)
