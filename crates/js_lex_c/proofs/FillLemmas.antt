-- Lists of a caller, filled further.
use Rattle.std.proofs.Common.{◌≡◌, ℕ, zero, suc, ◌-◌, ◌<◌, ◌≤◌, List, [], ◌∷◌, ◌++◌, length, take, drop, refl, sym}
use Rattle.std.proofs.Common.{◌∙◌, ap, arith, append-nil}
use Rattle.std.proofs.Math.ListN.{set}
use Rattle.std.proofs.lemmas.List.{drop_all, length-drop}
use borrow.Rule.Slice.PartMut.{put_mid}
use Rattle.js_lex_c.specs.Filled.{filled}

take_none : {T : Type 0} (n : ℕ) → take {A = T} n [] ≡ []
take_none zero = refl
take_none (suc n) = refl

drop_none : {T : Type 0} (n : ℕ) → drop {A = T} n [] ≡ []
drop_none zero = refl
drop_none (suc n) = refl

pub filled_nowhere : {T : Type 0} (items : List T) → filled [] items ≡ []
filled_nowhere items = drop_none (length items)

pub filled_none : {T : Type 0} (old : List T) → filled old [] ≡ old
filled_none [] = refl
filled_none (x ∷ xs) = refl

-- the list keeps its room
pub length-filled : {T : Type 0} (old items : List T) → length (filled old items) ≡ length old
length-filled [] items = ap length (filled_nowhere items)
length-filled (x ∷ xs) [] = refl
length-filled (x ∷ xs) (y ∷ ys) = ap (λ n. suc n) (length-filled xs ys)

-- past the room nothing changes
pub filled_past : {T : Type 0} (start items more : List T) → length start ≤ length items
    → filled start (items ++ more) ≡ filled start items
filled_past [] items more past = filled_nowhere (items ++ more) ∙ sym (filled_nowhere items)
filled_past (x ∷ xs) [] more past = absurd (omega (arith, past))
filled_past (x ∷ xs) (y ∷ ys) more past =
    ap (λ l. y ∷ l) (filled_past xs ys more (omega (arith, past)))

-- within it the next item stands at its place
pub filled_at : {T : Type 0} (start items : List T) (item : T) → length items < length start
    → set (filled start items) (length items) item ≡ filled start (items ++ item ∷ [])
filled_at [] items item within = absurd (omega (arith, within))
filled_at (x ∷ xs) [] item within = ap (λ l. item ∷ l) (sym (filled_none xs))
filled_at (x ∷ xs) (y ∷ ys) item within =
    ap (λ l. y ∷ l) (filled_at xs ys item (omega (arith, within)))

-- and the next items from there on
filled_part : {T : Type 0} (start items more : List T) → length items ≤ length start
    → take (length items) (filled start items) ++ filled (drop (length items) (filled start items)) more
    ≡ filled start (items ++ more)
filled_part [] [] more within = refl
filled_part [] (y ∷ ys) more within = absurd (omega (arith, within))
filled_part (x ∷ xs) [] more within = refl
filled_part (x ∷ xs) (y ∷ ys) more within =
    ap (λ l. y ∷ l) (filled_part xs ys more (omega (arith, within)))

-- one item more
pub put_one : {T : Type 0} (start items old : List T) (place : ℕ) (item : T) → place ≡ length items
    → old ≡ filled start items → place < length old → set old place item ≡ filled start (items ++ item ∷ [])
put_one start items old place item at is within =
    let room = length-filled start items in
    rw (is, at) (filled_at start items item (omega (arith, at, within, ap length is, room)))

pub put_none : {T : Type 0} (start items old more : List T) (place : ℕ) → place ≡ length items
    → old ≡ filled start items → length old ≤ place → old ≡ filled start (items ++ more)
put_none start items old more place at is past =
    let room = length-filled start items in
    is ∙ sym (filled_past start items more (omega (arith, at, past, ap length is, room)))

-- several more
pub put_several : {T : Type 0} (start items old more part : List T) (place : ℕ) → place ≡ length items
    → old ≡ filled start items → place < length old → part ≡ filled (drop place old) more
    → put_mid place (length old - place) old part ≡ filled start (items ++ more)
put_several start items old more part place at is within filled_is =
    let room : length old ≡ length start = ap length is ∙ length-filled start items in
    let none : drop (length old - place) (drop place old) ≡ [] =
    drop_all (length old - place) (drop place old) (omega (arith, length-drop place old)) in
    ap (λ l. take place old ++ (part ++ l)) none
    ∙ ap (λ l. take place old ++ l) (append-nil part ∙ filled_is)
    ∙ ap (λ n. take n old ++ filled (drop n old) more) at
    ∙ ap (λ l. take (length items) l ++ filled (drop (length items) l) more) is
    ∙ filled_part start items more (omega (arith, at, within, room))
