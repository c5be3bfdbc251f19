-- The first bytes of the marks and words that the class of a comment goes by.
use Rattle.std.specs.Prelude.{◌≡◌, ◌==◌, ℕ, false}
use Rattle.js_grammar.specs.CommentClasses.{is_beyond_ascii}

-- no mark and no word that a class goes by begins with the byte
pub record BeginsNoWord (b : ℕ) : Type 0 where
  pub ascii : is_beyond_ascii b ≡ false
  -- `@` and `#`, of annotations, licences and hints
  pub no_at : (b == 64) ≡ false
  pub no_number_sign : (b == 35) ≡ false
  -- the letters of `webpack`, `turbopack`, `v8 ignore`, `c8 ignore`, `node:coverage` and `istanbul ignore`
  pub no_w : (b == 119) ≡ false
  pub no_t : (b == 116) ≡ false
  pub no_v : (b == 118) ≡ false
  pub no_c : (b == 99) ≡ false
  pub no_n : (b == 110) ≡ false
  pub no_i : (b == 105) ≡ false
