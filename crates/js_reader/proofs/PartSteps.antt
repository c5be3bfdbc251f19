-- The classes of ASCII characters that tables tell, and the runs that tables pass.
use Rattle.std.proofs.Common.{◌≡◌, ℕ, ◌<◌, ◌≤◌, Bool, true, false, not, ◌&&◌, ◌||◌, ◌==◌, List}
use Rattle.std.proofs.Common.{length, length-append, refl, sym, ◌∙◌, ap, arith}
use Rattle.std.specs.Char.{is_ascii_alphabetic}
use Rattle.std.proofs.lemmas.Bool.{ltb-true, leb-true, leb-false, eqb-true, eq-eqb}
use Rattle.std.specs.Prelude.{MatchBool, nat_le}
use Rattle.js_text.specs.Characters.{is_identifier_start, is_white_space, is_irregular_whitespace, from_place}
use Rattle.js_text.proofs.CharacterLemmas.{start_in_ascii}
use Rattle.js_source.specs.Source.{At, rest}
use Rattle.js_source.specs.Runs.{HasAscii, PassesRun, TellsClass}
use Rattle.js_source.specs.Search.{matches_at}
use Rattle.js_source.proofs.Classes.{tells_class, tells_from, tells_other}
use Rattle.js_reader.specs.Gaps.{BeginsNoPiece}
use Rattle.js_reader.specs.Tables.{is_blank, is_symbol}
use Rattle.js_reader.proofs.FirstBytes.{begins_none}

abbrev pub is_start : ℕ → Bool
is_start b = is_ascii_alphabetic b || ((b == 36) || (b == 95))

pub tells_starts : (table : List Bool) → tells_from is_start 0 table ≡ true → length table ≡ 256
    → TellsClass is_identifier_start table
tells_starts table e n =
    tells_other is_start is_identifier_start table start_in_ascii (tells_class is_start table e n)

-- blanks are white space of which nothing is listed
pub blank_is_white : (b : ℕ) → is_blank b ≡ true → is_white_space b ≡ true
unfolding is_white_space
blank_is_white b e = rw e refl

pub blank_is_plain : (b : ℕ) → is_blank b ≡ true → is_irregular_whitespace b ≡ false
unfolding is_irregular_whitespace
blank_is_plain b e = by_test (b == 9) refl
  where
    second : (x : Bool) → (b == 9) ≡ false → (b == 32) ≡ x → is_irregular_whitespace b ≡ false
    second true f t = ap is_irregular_whitespace (eqb-true b 32 t)
    second false f t = absurd (let both : is_blank b ≡ false = rw (f, t) refl in cc)

    by_test : (x : Bool) → (b == 9) ≡ x → is_irregular_whitespace b ≡ false
    by_test true t = ap is_irregular_whitespace (eqb-true b 9 t)
    by_test false t = second (b == 32) t refl

and_true : (a b : Bool) → (a && b) ≡ true → (a ≡ true) × (b ≡ true)
and_true true b e = (refl, e)
and_true false b e = absurd (cc)

is_none : (b n : ℕ) → not (b == n) ≡ true → b ≡ n → ⊥
is_none b n e same = let both : true ≡ false = sym e ∙ ap not (eq-eqb b n same) in cc

mark_begins_none : (b : ℕ) → b < 128 → is_symbol b ≡ true → BeginsNoPiece b
mark_begins_none b small e =
    let is = and_true _ _ e in
    let minus = and_true _ _ is.1 in
    let symbols = and_true _ _ minus.1 in
    begins_none b (ltb-true 32 b is.0) small (is_none b 47 symbols.0) (is_none b 60 symbols.1) (is_none b 45 minus.0)

-- the bytes of a table of ASCII characters are such
pub small_of : (table : List Bool) (b : ℕ) → HasAscii table → matches_at table b ≡ true → b < 128
small_of table b ascii is = by_test (nat_le 128 b) refl
  where
    by_test : (x : Bool) → nat_le 128 b ≡ x → b < 128
    by_test true e = absurd (let both : true ≡ false = sym is ∙ ascii b (leb-true 128 b e) in cc)
    by_test false e = leb-false 128 b e

-- what the table of symbols tells
pub mark_none : (table : List Bool) (b : ℕ) → TellsClass is_symbol table → matches_at table b ≡ true → BeginsNoPiece b
mark_none table b tells is =
    let small = small_of table b tells.ascii is in mark_begins_none b small (sym (tells.tells b small) ∙ is)

pub tells_none : (table : List Bool) (b : ℕ) → TellsClass is_symbol table
    → MatchBool (matches_at table b) (BeginsNoPiece b) (Unit {0})
tells_none table b tells = by_test (matches_at table b) refl
  where
    by_test : (x : Bool) → matches_at table b ≡ x → MatchBool x (BeginsNoPiece b) (Unit {0})
    by_test true is = mark_none table b tells is
    by_test false is = tt

pub run_fewer : (table : List Bool) (old new : At) → new.text ≡ old.text → PassesRun table old.text old.place new.place
    → length (rest new) ≤ length (rest old)
run_fewer table old new text run =
    omega (
      arith,
      ap length run.here,
      length-append run.run (from_place old.text new.place),
      ap (λ u. length (from_place u new.place)) text,
    )
