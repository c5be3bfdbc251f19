-- What is read where a gap has ended depends on its characters, and on what goes on alike behind them.
use Rattle.std.proofs.Common.{◌≡◌, ℕ, Bool, true, false, ◌==◌, List, [], ◌∷◌, ◌++◌, length, drop, refl, sym}
use Rattle.std.proofs.Common.{◌∙◌, ap, subst, arith, Option, Some, None}
use Rattle.std.specs.Prelude.{codes, if◌then◌else◌}
use Rattle.std.proofs.lemmas.Bool.{eqb-true}
use Rattle.js_text.specs.Ascii.{full_stop, number_sign}
use Rattle.js_text.specs.Characters.{begins}
use Rattle.js_text.specs.declared.source_type.SourceType.{SourceType}
use Rattle.js_kind.specs.Digits.{is_digit_of}
use Rattle.js_kind.specs.declared.kind.Kind.TheVariants.{NoSubstitutionTemplate, TemplateHead, Undetermined}
use Rattle.js_grammar.specs.Gap.{is_prefix}
use Rattle.js_grammar.specs.Name.{begins_name, name_reading, private_reading}
use Rattle.js_grammar.specs.Number.{begins_number}
use Rattle.js_grammar.specs.NumberReads.{number_reading}
use Rattle.js_grammar.specs.Punctuators.{Punctuator, punctuators}
use Rattle.js_grammar.specs.Quoted.{begins_quoted, quoted_reading}
use Rattle.js_grammar.specs.Reading.{Reading}
use Rattle.js_grammar.specs.Readings.{longest_of, nothing_reading, punctuator_or_nothing, reading}
use Rattle.js_grammar.specs.Recovery.{invalid_character, unterminated_comment}
use Rattle.js_grammar.specs.StringItems.{is_quote}
use Rattle.js_grammar.proofs.Ahead.{AgreeFor, BeginAlike, agree_behind, alike_behind, begins_alike, nothing_before}
use Rattle.js_grammar.proofs.GapsAhead.{mark_agrees}
use Rattle.js_grammar.proofs.GoalsAhead.{nothing_left, punctuator_same, up_to_same}
use Rattle.js_grammar.proofs.HereReadings.{IsLongest, longest_is, longest_stands}
use Rattle.js_grammar.proofs.NamesAhead.{name_local, private_local}
use Rattle.js_grammar.proofs.NumbersAhead.{number_local}
use Rattle.js_grammar.proofs.PunctuatorsAhead.{punctuator_agrees}
use Rattle.js_grammar.proofs.StringsAhead.{part_local, string_local}
use Rattle.js_grammar.proofs.Tests.{prefix_of}

-- A reading that ends before these characters is, but for what is left, that of the other text.
abbrev pub IsSame : List ℕ → List ℕ → Reading → Reading → Type 0
IsSame ys zs found other = found.rest ≡ ys → other ≡ record found { rest = zs }

either_agrees : (ys zs : List ℕ) (b d : Bool) (f g o q : Reading) → b ≡ d → (b ≡ true → IsSame ys zs f o)
    → (b ≡ false → IsSame ys zs g q) → IsSame ys zs (if b then f else g) (if d then o else q)
either_agrees ys zs true d f g o q e first second left = rw (sym e) (first refl left)
either_agrees ys zs false d f g o q e first second left = rw (sym e) (second refl left)

-- a string or a template
quoted_local : (x : ℕ) (xs ys zs : List ℕ) → BeginAlike ys zs
    → IsSame ys zs (quoted_reading (x ∷ (xs ++ ys))) (quoted_reading (x ∷ (xs ++ zs)))
quoted_local x xs ys zs alike =
    either_agrees ys zs (is_quote x) _ _ _ _ _ refl (λ _. string_local x xs ys zs alike)
    (λ _. part_local TemplateHead NoSubstitutionTemplate x xs ys zs alike)

private_here : (x : ℕ) (xs ys zs : List ℕ) → BeginAlike ys zs → (x == number_sign) ≡ true
    → IsSame ys zs (private_reading (x ∷ (xs ++ ys))) (private_reading (x ∷ (xs ++ zs)))
private_here x xs ys zs alike is =
    subst (λ c. IsSame ys zs (private_reading (c ∷ (xs ++ ys))) (private_reading (c ∷ (xs ++ zs))))
    (sym (eqb-true x number_sign is)) (private_local xs ys zs alike)

number_begins_alike : (x : ℕ) (xs ys zs : List ℕ) → BeginAlike ys zs
    → begins_number (x ∷ (xs ++ ys)) ≡ begins_number (x ∷ (xs ++ zs))
number_begins_alike x xs ys zs alike =
    ap (λ b. if x == full_stop then b else is_digit_of 10 x)
    (begins_alike (is_digit_of 10) (xs ++ ys) (xs ++ zs) (alike_behind xs ys zs alike))

-- a character that begins nothing
nothing_local : (x : ℕ) (xs ys zs : List ℕ) → BeginAlike ys zs
    → IsSame ys zs (nothing_reading (x ∷ (xs ++ ys))) (nothing_reading (x ∷ (xs ++ zs)))
nothing_local x xs ys zs alike =
    either_agrees ys zs (x == 0xFFFD) _ _ _ _ _ refl (λ _ left. nothing_left ys zs alike left)
    (λ _ left. character left)
  where
    character : xs ++ ys ≡ ys
        → invalid_character x (xs ++ zs) ≡ record (invalid_character x (xs ++ ys)) { rest = zs }
    character left =
        let none : xs ≡ [] = nothing_before xs ys (sym left) in
        subst (λ (t : List ℕ). invalid_character x (t ++ zs) ≡ record (invalid_character x (t ++ ys)) { rest = zs })
        (sym none)
        (ap (λ (r : Reading). record r { diagnostics = (invalid_character x ys).diagnostics })
        (up_to_same Undetermined (x ∷ []) ys zs))

punctuator_local : (t : SourceType) (line_has_ended : Bool) (x : ℕ) (xs ys zs : List ℕ) → BeginAlike ys zs
    → (found : Option Punctuator) → IsLongest t line_has_ended (x ∷ (xs ++ ys)) punctuators found
    → IsSame ys zs (punctuator_or_nothing found (x ∷ (xs ++ ys))) (punctuator_or_nothing found (x ∷ (xs ++ zs)))
punctuator_local t line_has_ended x xs ys zs alike None is left = nothing_local x xs ys zs alike left
punctuator_local t line_has_ended x xs ys zs alike (Some p) is left =
    let here = longest_stands t line_has_ended (x ∷ (xs ++ ys)) p is in
    let begun : is_prefix p.text (x ∷ (xs ++ ys)) ≡ true =
    ap (is_prefix p.text) here ∙ prefix_of p.text (drop (length p.text) (x ∷ (xs ++ ys))) in
    punctuator_same p.text p.kind (x ∷ xs) ys zs begun left

-- What the function gives of a text that begins with a character, a row of its choices at a time, the last first: each
-- row is stated of its own choice alone.
abbrev from_punctuators : SourceType → Bool → List ℕ → Reading
from_punctuators t line_has_ended here =
    punctuator_or_nothing (longest_of t line_has_ended here punctuators) here

abbrev from_quoted : SourceType → Bool → List ℕ → Reading
from_quoted t line_has_ended here =
    if begins begins_quoted here then quoted_reading here else from_punctuators t line_has_ended here

abbrev from_numbers : SourceType → Bool → List ℕ → Reading
from_numbers t line_has_ended here =
    if begins_number here then number_reading here else from_quoted t line_has_ended here

abbrev from_private : SourceType → Bool → List ℕ → Reading
from_private t line_has_ended here =
    if begins (λ c. c == number_sign) here then private_reading here else from_numbers t line_has_ended here

abbrev from_names : SourceType → Bool → List ℕ → Reading
from_names t line_has_ended here =
    if begins_name here then name_reading here else from_private t line_has_ended here

punctuators_on : (t : SourceType) (line_has_ended : Bool) (x : ℕ) (xs ys zs : List ℕ) → BeginAlike ys zs
    → AgreeFor 4 ys zs
    → IsSame ys zs (from_punctuators t line_has_ended (x ∷ (xs ++ ys)))
    (from_punctuators t line_has_ended (x ∷ (xs ++ zs)))
punctuators_on t line_has_ended x xs ys zs alike agree left =
    ap (λ found. punctuator_or_nothing found (x ∷ (xs ++ zs)))
    (sym (punctuator_agrees t line_has_ended (x ∷ (xs ++ ys)) (x ∷ (xs ++ zs))
    (agree_behind 4 (x ∷ xs) ys zs agree)))
    ∙ punctuator_local t line_has_ended x xs ys zs alike
    (longest_of t line_has_ended (x ∷ (xs ++ ys)) punctuators)
    (longest_is t line_has_ended (x ∷ (xs ++ ys)) punctuators) left

quoted_on : (t : SourceType) (line_has_ended : Bool) (x : ℕ) (xs ys zs : List ℕ) → BeginAlike ys zs
    → AgreeFor 4 ys zs
    → IsSame ys zs (from_quoted t line_has_ended (x ∷ (xs ++ ys))) (from_quoted t line_has_ended (x ∷ (xs ++ zs)))
quoted_on t line_has_ended x xs ys zs alike agree =
    either_agrees ys zs (begins_quoted x) (begins_quoted x) (quoted_reading (x ∷ (xs ++ ys)))
    (from_punctuators t line_has_ended (x ∷ (xs ++ ys))) (quoted_reading (x ∷ (xs ++ zs)))
    (from_punctuators t line_has_ended (x ∷ (xs ++ zs))) refl
    (λ _. quoted_local x xs ys zs alike) (λ _. punctuators_on t line_has_ended x xs ys zs alike agree)

numbers_on : (t : SourceType) (line_has_ended : Bool) (x : ℕ) (xs ys zs : List ℕ) → BeginAlike ys zs
    → AgreeFor 4 ys zs
    → IsSame ys zs (from_numbers t line_has_ended (x ∷ (xs ++ ys))) (from_numbers t line_has_ended (x ∷ (xs ++ zs)))
numbers_on t line_has_ended x xs ys zs alike agree =
    either_agrees ys zs (begins_number (x ∷ (xs ++ ys))) (begins_number (x ∷ (xs ++ zs)))
    (number_reading (x ∷ (xs ++ ys))) (from_quoted t line_has_ended (x ∷ (xs ++ ys)))
    (number_reading (x ∷ (xs ++ zs))) (from_quoted t line_has_ended (x ∷ (xs ++ zs)))
    (number_begins_alike x xs ys zs alike)
    (λ _. number_local (x ∷ xs) ys zs alike) (λ _. quoted_on t line_has_ended x xs ys zs alike agree)

private_on : (t : SourceType) (line_has_ended : Bool) (x : ℕ) (xs ys zs : List ℕ) → BeginAlike ys zs
    → AgreeFor 4 ys zs
    → IsSame ys zs (from_private t line_has_ended (x ∷ (xs ++ ys))) (from_private t line_has_ended (x ∷ (xs ++ zs)))
private_on t line_has_ended x xs ys zs alike agree =
    either_agrees ys zs (x == number_sign) (x == number_sign)
    (private_reading (x ∷ (xs ++ ys))) (from_numbers t line_has_ended (x ∷ (xs ++ ys)))
    (private_reading (x ∷ (xs ++ zs))) (from_numbers t line_has_ended (x ∷ (xs ++ zs))) refl
    (λ is. private_here x xs ys zs alike is) (λ _. numbers_on t line_has_ended x xs ys zs alike agree)

names_on : (t : SourceType) (line_has_ended : Bool) (x : ℕ) (xs ys zs : List ℕ) → BeginAlike ys zs
    → AgreeFor 4 ys zs
    → IsSame ys zs (from_names t line_has_ended (x ∷ (xs ++ ys))) (from_names t line_has_ended (x ∷ (xs ++ zs)))
names_on t line_has_ended x xs ys zs alike agree =
    either_agrees ys zs (begins_name (x ∷ (xs ++ ys))) (begins_name (x ∷ (xs ++ zs)))
    (name_reading (x ∷ (xs ++ ys))) (from_private t line_has_ended (x ∷ (xs ++ ys)))
    (name_reading (x ∷ (xs ++ zs))) (from_private t line_has_ended (x ∷ (xs ++ zs))) refl
    (λ _. name_local (x ∷ xs) ys zs alike) (λ _. private_on t line_has_ended x xs ys zs alike agree)

pub reading_local : (t : SourceType) (line_has_ended : Bool) (x : ℕ) (xs ys zs : List ℕ) → BeginAlike ys zs
    → AgreeFor 4 ys zs
    → IsSame ys zs (reading t line_has_ended (x ∷ (xs ++ ys))) (reading t line_has_ended (x ∷ (xs ++ zs)))
reading_local t line_has_ended x xs ys zs alike agree =
    either_agrees ys zs (is_prefix (codes "/*") (x ∷ (xs ++ ys))) (is_prefix (codes "/*") (x ∷ (xs ++ zs)))
    (unterminated_comment (x ∷ (xs ++ ys))) (from_names t line_has_ended (x ∷ (xs ++ ys)))
    (unterminated_comment (x ∷ (xs ++ zs))) (from_names t line_has_ended (x ∷ (xs ++ zs)))
    (mark_agrees (codes "/*") (x ∷ xs) ys zs refl (omega arith) agree) (λ _ left. nothing_left ys zs alike left)
    (λ _. names_on t line_has_ended x xs ys zs alike agree)
