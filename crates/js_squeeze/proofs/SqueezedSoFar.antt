-- What is left to write where no step or no token is left.
use Rattle.std.proofs.Common.{◌≡◌, ℕ, ◌≤◌, List, [], ◌∷◌, ◌++◌, drop, length, refl, sym, ◌∙◌, ap, subst, arith, Option}
use Rattle.std.specs.List.{filter}
use Rattle.std.proofs.lemmas.List.{drop_all}
use Rattle.js_kind.specs.TokenParts.{TokenParts}
use Rattle.js_lexer.specs.Lexer.{token_or_default}
use Rattle.js_session.specs.declared.row.Row.{Row}
use Rattle.js_squeeze.specs.SqueezeText.{first_reads, squeezed}

no_token_left : (source : List ℕ) (before : Option TokenParts) (rows : List Row)
    → squeezed source before rows [] ≡ drop (token_or_default before).end source
no_token_left source before [] = refl
no_token_left source before (row ∷ rows) = refl

-- What was written so far, with what is left of the source, is the whole text, where no row is left,
pub behind_rows : (source text total : List ℕ) (before : Option TokenParts) (rows : List Row) (index : ℕ)
    (left : List TokenParts) → length rows ≤ index
    → text ++ squeezed source before (filter first_reads (drop index rows)) left ≡ total
    → text ++ drop (token_or_default before).end source ≡ total
behind_rows source text total before rows index left end e =
    subst (λ rs. text ++ squeezed source before (filter first_reads rs) left ≡ total) (drop_all index rows end) e

-- or no token
pub behind_tokens : (source text total : List ℕ) (before : Option TokenParts) (rows : List Row) (left : List TokenParts)
    → length left ≡ 0 → text ++ squeezed source before rows left ≡ total
    → text ++ drop (token_or_default before).end source ≡ total
behind_tokens source text total before rows [] none e =
    ap (λ t. text ++ t) (sym (no_token_left source before rows)) ∙ e
behind_tokens source text total before rows (token ∷ left) none e = absurd (omega (arith, none))
