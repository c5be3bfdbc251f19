-- The punctuators of the unrestricted goal (ECMA-262 12.8, with `@`), and what may not follow one.
use Rattle.std.specs.Prelude.{◌≡◌, ℕ, Bool, true, false, List, [], ◌∷◌, ◌++◌, length, drop, ◌==◌, ◌&&◌, ◌||◌, not}
use Rattle.std.specs.Prelude.{nat_le, codes, take, if◌then◌else◌, ◌⊎◌}
use Rattle.std.specs.Char.{is_ascii_digit}
use Rattle.std.specs.List.{list_all}
use Rattle.js_text.specs.Ascii.{asterisk, full_stop}
use Rattle.js_text.specs.Characters.{begins}
use Rattle.js_text.specs.SourceType.{is_module}
use Rattle.js_text.specs.declared.source_type.SourceType.{SourceType}
use Rattle.js_grammar.specs.Gap.{is_prefix}
use Rattle.js_kind.specs.Kinds.{kind_text}
use Rattle.js_kind.specs.declared.kind.Kind.{Kind}
use Rattle.js_kind.specs.declared.kind.Kind.TheVariants.{Amp, Amp2, Amp2Eq, AmpEq, Bang, Caret, CaretEq, Colon, Comma}
use Rattle.js_kind.specs.declared.kind.Kind.TheVariants.{Dot, Dot3, Eq, Eq2, Eq3, LAngle, LBrack, LCurly, LParen, LtEq}
use Rattle.js_kind.specs.declared.kind.Kind.TheVariants.{Minus, Minus2, MinusEq, Neq, Neq2, Percent, PercentEq, Pipe}
use Rattle.js_kind.specs.declared.kind.Kind.TheVariants.{PipeGt}
use Rattle.js_kind.specs.declared.kind.Kind.TheVariants.{Pipe2, Pipe2Eq, PipeEq, Plus, Plus2, PlusEq, Question}
use Rattle.js_kind.specs.declared.kind.Kind.TheVariants.{Question2, Question2Eq, QuestionDot, RAngle, RBrack, RCurly}
use Rattle.js_kind.specs.declared.kind.Kind.TheVariants.{RParen, Semicolon, ShiftLeft, ShiftLeftEq, Slash, SlashEq}
use Rattle.js_kind.specs.declared.kind.Kind.TheVariants.{Star, Star2, Star2Eq, StarEq, Tilde, Arrow, At}

-- the text begins with a dot that no digit follows
abbrev pub is_optional_dot : List ℕ → Bool
is_optional_dot [] = false
is_optional_dot (c ∷ cs) = (c == full_stop) && not (begins is_ascii_digit cs)

-- what may not follow a punctuator
pub data Exclusion : Type 0 where
  excludes_nothing : Exclusion
  excludes_digits : Exclusion
  excludes_asterisk : Exclusion
  excludes_reported_comment : Exclusion

-- The text may not follow. A reported comment is one in a module where a line has ended.
abbrev pub excludes : Exclusion → SourceType → Bool → List ℕ → Bool
excludes excludes_nothing t line_has_ended rest = false
excludes excludes_digits t line_has_ended rest = begins is_ascii_digit rest
excludes excludes_asterisk t line_has_ended rest = begins (λ c. c == asterisk) rest
excludes excludes_reported_comment t line_has_ended rest =
    is_prefix (codes "!--") rest && (is_module t && line_has_ended)

-- A punctuator: its text, its kind, and what may not follow it.
pub record Punctuator : Type 0 where
  pub text : List ℕ
  pub kind : Kind
  pub exclusion : Exclusion

-- the text may not follow the punctuator
abbrev pub is_excluded : Punctuator → SourceType → Bool → List ℕ → Bool
is_excluded p = excludes p.exclusion

-- a punctuator that anything may follow
abbrev pub unrestricted : Kind → Punctuator
unrestricted k = record { text = kind_text k; kind = k; exclusion = excludes_nothing }

-- a punctuator that no digit may follow
abbrev pub before_no_digit : Kind → Punctuator
before_no_digit k = record { text = kind_text k; kind = k; exclusion = excludes_digits }

-- `/`, which begins a comment before `*`
abbrev pub slash : Punctuator
slash = record { text = kind_text Slash; kind = Slash; exclusion = excludes_asterisk }

-- `<`, which begins a reported comment before `!--`
abbrev pub left_angle : Punctuator
left_angle = record { text = kind_text LAngle; kind = LAngle; exclusion = excludes_reported_comment }

-- All punctuators. Of those that begin with `>`, an unrestricted step gives `>` alone.
abbrev pub punctuators : List Punctuator
punctuators =
    unrestricted Amp
    ∷ unrestricted Amp2
    ∷ unrestricted Amp2Eq
    ∷ unrestricted AmpEq
    ∷ unrestricted Bang
    ∷ unrestricted Caret
    ∷ unrestricted CaretEq
    ∷ unrestricted Colon
    ∷ unrestricted Comma
    ∷ before_no_digit Dot
    ∷ unrestricted Dot3
    ∷ unrestricted Eq
    ∷ unrestricted Eq2
    ∷ unrestricted Eq3
    ∷ left_angle
    ∷ unrestricted LBrack
    ∷ unrestricted LCurly
    ∷ unrestricted LParen
    ∷ unrestricted LtEq
    ∷ unrestricted Minus
    ∷ unrestricted Minus2
    ∷ unrestricted MinusEq
    ∷ unrestricted Neq
    ∷ unrestricted Neq2
    ∷ unrestricted Percent
    ∷ unrestricted PercentEq
    ∷ unrestricted Pipe
    ∷ unrestricted Pipe2
    ∷ unrestricted Pipe2Eq
    ∷ unrestricted PipeEq
    ∷ unrestricted PipeGt
    ∷ unrestricted Plus
    ∷ unrestricted Plus2
    ∷ unrestricted PlusEq
    ∷ unrestricted Question
    ∷ unrestricted Question2
    ∷ unrestricted Question2Eq
    ∷ before_no_digit QuestionDot
    ∷ unrestricted RAngle
    ∷ unrestricted RBrack
    ∷ unrestricted RCurly
    ∷ unrestricted RParen
    ∷ unrestricted Semicolon
    ∷ unrestricted ShiftLeft
    ∷ unrestricted ShiftLeftEq
    ∷ slash
    ∷ unrestricted SlashEq
    ∷ unrestricted Star
    ∷ unrestricted Star2
    ∷ unrestricted Star2Eq
    ∷ unrestricted StarEq
    ∷ unrestricted Tilde
    ∷ unrestricted Arrow
    ∷ unrestricted At
    ∷ []

-- the punctuator stands in the list
abbrev pub IsIn : Punctuator → List Punctuator → Type 0
IsIn x [] = ⊥
IsIn x (y ∷ ys) = (x ≡ y) ⊎ IsIn x ys

-- the text begins with the punctuator, and what follows may follow it
abbrev pub is_spelled : SourceType → Bool → List ℕ → Punctuator → Bool
is_spelled t line_has_ended cs p = is_prefix p.text cs && not (is_excluded p t line_has_ended (drop (length p.text) cs))

-- The text begins with the punctuator `it`, after which rest is left, and with no longer one.
pub record LongestPunctuator (t : SourceType) (line_has_ended : Bool) (text rest : List ℕ)
    (kind_is : Kind) : Type 0 where
  pub it : Punctuator
  pub in_table : IsIn it punctuators
  pub here : text ≡ it.text ++ rest
  pub allowed : is_excluded it t line_has_ended rest ≡ false
  pub kind : kind_is ≡ it.kind
  pub longest : list_all
      (λ q. not (is_spelled t line_has_ended text q) || nat_le (length q.text) (length it.text)) punctuators ≡ true

-- No punctuator is spelled at the beginning of the text.
abbrev pub NoPunctuator : SourceType → Bool → List ℕ → Type 0
NoPunctuator t line_has_ended text = list_all (λ q. not (is_spelled t line_has_ended text q)) punctuators ≡ true

-- the character behind the text in a longer one that it begins
abbrev pub next_in : List ℕ → List ℕ → List ℕ
next_in text longer = if is_prefix text longer then take 1 (drop (length text) longer) else []

-- the characters behind the text in those of these punctuators that it begins
abbrev pub going_on : List ℕ → List Punctuator → List ℕ
going_on text [] = []
going_on text (p ∷ ps) = next_in text p.text ++ going_on text ps

-- the text does not begin with the character
abbrev pub is_not_next : List ℕ → ℕ → Bool
is_not_next text c = not (begins (λ x. x == c) text)
