use Rattle.std.proofs.Common.{◌≡◌, ℕ, ◌+◌, ◌≤◌, List, ◌∷◌, ◌++◌, length, take, drop, arith, ap, suc, zero-add, []}
use Rattle.std.specs.Prelude.{Result, Ok, Err, OnErr}
use Rattle.std.specs.declared.option.Option.{Option}
use Rattle.std.specs.Io.KnownBytes.{Appends}
use Rattle.std.proofs.KnownBytes.{Appends-trans}
use Rattle.std.proofs.lemmas.Grind.{common_steps}
use Rattle.std.proofs.lemmas.List.{take-append-le, take_all}
use Rattle.std.proofs.Math.Seq.{take-add}
use Rattle.js_process.specs.Outside.{OutputState, WritesAll, WritesPrefix}
use Rattle.js_process.specs.Writing.{Writes}

-- A piece that is written after a beginning makes a longer beginning.
pub appends_more : (was mid now : Option (List ℕ)) (text piece : List ℕ) (at n : ℕ) → piece ≡ drop at text
    → Appends was mid (take at text) → Appends mid now (take n piece) → Appends was now (take (at + n) text)
appends_more was mid now text piece at n e h k =
    rw (take-add at n text, ← e) (Appends-trans was mid now (take at text) (take n piece) h k)

-- What was read stays within the bound with a piece that fits.
pub length_within : (xs ys : List ℕ) (n most : ℕ) → length xs + n ≤ most → length (xs ++ take n ys) ≤ most
length_within xs ys n most h = grind (arith, common_steps)

-- What was written whole is a beginning too.
pub writes_whole : (old new : OutputState) (text : List ℕ) (n : ℕ) → WritesAll old new text → Writes text old new n
writes_whole old new text n all = record {
  partly = (length text, omega arith, rw (take_all (length text) text (omega arith)) all.written);
  whole = λ _. all;
}

-- A beginning of a text is one of the text with more behind it.
pub begins_with_more : (old new : OutputState) (xs ys all : List ℕ) → all ≡ xs ++ ys → WritesPrefix old new xs
    → WritesPrefix old new all
begins_with_more old new xs ys all e (n, few, h) =
    rw e (n, grind (arith, common_steps), rw (take-append-le n xs ys few) h)

take_behind : (xs ys : List ℕ) (n : ℕ) → take (length xs + n) (xs ++ ys) ≡ xs ++ take n ys
take_behind [] ys n = ap (λ m. take m ys) (zero-add n)
take_behind (x ∷ xs) ys n =
    let more : length (x ∷ xs) + n ≡ suc (length xs + n) = omega arith in
    rw more (ap (λ l. x ∷ l) (take_behind xs ys n))

-- A whole text, and a beginning of another behind it, are a beginning of both.
pub begins_behind : (old mid new : OutputState) (xs ys all : List ℕ) → all ≡ xs ++ ys
    → Appends old.written mid.written xs → WritesPrefix mid new ys → WritesPrefix old new all
begins_behind old mid new xs ys all e h (n, few, k) =
    rw e (
      length xs + n,
      grind (arith, common_steps),
      rw (take_behind xs ys n) (Appends-trans old.written mid.written new.written xs (take n ys) h k),
    )

-- and so where it is an error that tells the beginning
pub err_behind : {T E : Type 0} (r : Result T E) (old mid new : OutputState) (xs ys all : List ℕ) → all ≡ xs ++ ys
    → Appends old.written mid.written xs → OnErr r (WritesPrefix mid new ys) → OnErr r (WritesPrefix old new all)
err_behind (Ok x) old mid new xs ys all e h k = k
err_behind (Err x) old mid new xs ys all e h k = begins_behind old mid new xs ys all e h k
