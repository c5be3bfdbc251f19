-- The classes of name characters, in ASCII and past it.
use Rattle.std.proofs.Common.{◌≡◌, ℕ, ◌<◌, ◌≤◌, Bool, true, false, ◌||◌, ◌==◌, refl, arith}
use Rattle.std.proofs.lemmas.Bool.{ne_eqb}
use Rattle.std.specs.Char.{is_ascii_alphabetic, is_ascii_alphanumeric}
use Rattle.unicode_ident.specs.Ident.{is_xid_start, is_xid_continue}
use Rattle.unicode_ident.proofs.IdentLemmas.{is_xid_start-ascii, is_xid_continue-ascii}
use Rattle.js_text.specs.Characters.{is_identifier_start, is_identifier_part}

-- two tests that fail may be left out
pub or_neither : (a b c : Bool) → b ≡ false → c ≡ false → (a || (b || c)) ≡ a
or_neither true b c e f = refl
or_neither false b c e f = rw (e, f) refl

-- a test that fails may be left out
pub or_without : (a b c : Bool) → b ≡ false → (a || (b || c)) ≡ (a || c)
or_without true b c e = refl
or_without false b c e = rw e refl

-- the same tests in another order
pub or_last_first : (a b c : Bool) → ((a || b) || c) ≡ (a || (c || b))
or_last_first true b c = refl
or_last_first false true true = refl
or_last_first false true false = refl
or_last_first false false true = refl
or_last_first false false false = refl

-- in ASCII a name begins with a letter, `$` or `_`
pub start_in_ascii : (c : ℕ) → c < 128 → is_identifier_start c ≡ (is_ascii_alphabetic c || ((c == 36) || (c == 95)))
unfolding is_identifier_start
start_in_ascii c small = rw (is_xid_start-ascii c small) refl

-- past ASCII the class alone decides
pub start_past_ascii : (c : ℕ) → 128 ≤ c → is_identifier_start c ≡ is_xid_start c
unfolding is_identifier_start
start_past_ascii c large =
    or_neither (is_xid_start c) (c == 36) (c == 95) (ne_eqb c 36 (λ e. omega arith)) (ne_eqb c 95 (λ e. omega arith))

-- in ASCII a name goes on with a letter, a digit, `$` or `_`
pub part_in_ascii : (c : ℕ) → c < 128 → is_identifier_part c ≡ (is_ascii_alphanumeric c || ((c == 36) || (c == 95)))
unfolding is_identifier_part
part_in_ascii c small =
    rw (
      is_xid_continue-ascii c small,
      ne_eqb c 0x200C (λ e. omega arith),
      ne_eqb c 0x200D (λ e. omega arith),
      or_neither ((c == 36)) false false refl refl,
    )
    (or_last_first (is_ascii_alphanumeric c) (c == 95) (c == 36))

-- past ASCII the class decides, but for two joiners
pub part_past_ascii : (c : ℕ) → 128 ≤ c → is_identifier_part c ≡ (is_xid_continue c || ((c == 0x200C) || (c == 0x200D)))
unfolding is_identifier_part
part_past_ascii c large =
    or_without (is_xid_continue c) (c == 36) ((c == 0x200C) || (c == 0x200D)) (ne_eqb c 36 (λ e. omega arith))
