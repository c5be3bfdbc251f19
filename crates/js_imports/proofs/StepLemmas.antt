-- Tokens that change nothing but where the last one ends.
use Rattle.std.proofs.Common.{◌≡◌, true, refl, sym, ap, subst}
use Rattle.js_text.specs.declared.value.RowValue.{RowValue}
use Rattle.js_kind.specs.TokenParts.{TokenParts}
use Rattle.js_lists.specs.Taken.{Taken}
use Rattle.js_imports.specs.Classes.{is_plain, token_class}
use Rattle.js_imports.specs.Scans.{Scan, bracket_passed, done, is_passed_over, left, moved, passed, stepped}
use Rattle.js_imports.specs.declared.class.TokenClass.{TokenClass}
use Rattle.js_imports.specs.declared.class.TokenClass.TheVariants as class
use Rattle.js_imports.specs.declared.moves.Phase.{Phase}
use Rattle.js_imports.specs.declared.moves.Phase.TheVariants as phase

plain_passed : (c : TokenClass) (token : TokenParts) (v : RowValue) (s : Scan) → is_plain c ≡ true
    → passed c token v (record s { phase = phase.Plain }) ≡ record s { phase = phase.Plain; end = token.end }
unfolding passed left moved done bracket_passed
plain_passed class.Import token v s e = absurd cc
plain_passed class.Export token v s e = absurd cc
plain_passed class.Require token v s e = absurd cc
plain_passed class.Dot token v s e = absurd cc
plain_passed class.Comma token v s e = absurd cc
plain_passed class.OpenParen token v s e = absurd cc
plain_passed class.CloseParen token v s e = absurd cc
plain_passed class.OpenBrace token v s e = absurd cc
plain_passed class.CloseBrace token v s e = absurd cc
plain_passed class.OpenSquare token v s e = absurd cc
plain_passed class.OpenTemplate token v s e = absurd cc
plain_passed class.CloseOther token v s e = absurd cc
plain_passed _ token v s e = refl

passed_in : (p : Phase) (c : TokenClass) (token : TokenParts) (v : RowValue) (s : Scan) → is_passed_over p c ≡ true
    → passed c token v (record s { phase = p }) ≡ record s { phase = p; end = token.end }
passed_in phase.Plain c token v s e = plain_passed c token v s e
passed_in _ c token v s e = absurd cc

passed_over : (c : TokenClass) (token : TokenParts) (v : RowValue) (s : Scan)
    → is_passed_over s.phase c ≡ true → passed c token v s ≡ record s { end = token.end }
passed_over c token v s e = passed_in s.phase c token v s e

-- The step over such a token.
pub step_over : (c : TokenClass) (x : Taken) (s : Scan) → c ≡ token_class s.counts x.token
    → is_passed_over s.phase c ≡ true → record s { end = x.token.end } ≡ stepped x s
step_over c x s is over =
    sym (passed_over (token_class s.counts x.token) x.token x.value s
    (subst (λ (k : TokenClass). is_passed_over s.phase k ≡ true) is over))

-- The step at any other.
pub step_at : (c : TokenClass) (x : Taken) (s : Scan) → c ≡ token_class s.counts x.token
    → passed c x.token x.value s ≡ stepped x s
step_at c x s is = ap (λ (k : TokenClass). passed k x.token x.value s) is
