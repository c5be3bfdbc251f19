-- Pieces of a text that are appended one behind the other.
use Rattle.std.proofs.Common.{◌≡◌, ℕ, List, ◌++◌, ◌∙◌, ap, append_assoc}

-- one piece, and then another
pub two : (a b c x y : List ℕ) → b ≡ a ++ x → c ≡ b ++ y → c ≡ a ++ (x ++ y)
two a b c x y first second = second ∙ ap (λ s. s ++ y) first ∙ append_assoc a x y

-- the piece by another name
pub named : (a b x y : List ℕ) → b ≡ a ++ x → x ≡ y → b ≡ a ++ y
named a b x y e same = e ∙ ap (λ s. a ++ s) same
