-- The steps of reading what an escape stands for.
use Rattle.std.proofs.Common.{◌≡◌, ◌≢◌, ℕ, ◌+◌, ◌*◌, ◌^◌, ◌<◌, ◌≤◌, Bool, true, false, not, ◌&&◌, ◌==◌, List, [], ◌∷◌}
use Rattle.std.proofs.Common.{◌++◌}
use Rattle.std.proofs.Common.{length, drop, refl, sym, ◌∙◌, ap, subst, arith, Some, None}
use Rattle.std.specs.Prelude.{nat_lt, MatchBool}
use Rattle.std.specs.Char.{digit_value}
use Rattle.std.specs.Char.Escape.{encode_utf16}
use Rattle.std.specs.Str.Parse.{digits_value}
use Rattle.std.specs.Int.{IsInRange}
use Rattle.std.proofs.lemmas.List.{append-nil}
use Rattle.std.proofs.lemmas.Int.Digits.{digits_value_push}
use Rattle.std.proofs.lemmas.Str.Parse.{digit_from_value}
use Rattle.std.proofs.lemmas.Bool.{ne_eqb, eq-eqb}
use Rattle.std.proofs.lemmas.Bool.Decides.{nat_tests}
use Rattle.std.proofs.Math.Nat.{pow-le-pow_right}
use Rattle.js_text.specs.Ascii.{line_feed, carriage_return, backslash}
use Rattle.js_text.specs.Characters.{begins}
use Rattle.js_text.specs.declared.diagnostic.Diagnostic.{Diagnostic}
use Rattle.js_text.specs.declared.diagnostic.Diagnostic.TheVariants.{UnterminatedString}
use Rattle.js_kind.specs.Digits.{is_digit_of}
use Rattle.js_grammar.specs.StringItems.{StringItem, line_continuation}
use Rattle.js_grammar.specs.StringItems.{octal_escape, digit_in_template, further_octal_digits, octal_digits}
use Rattle.js_grammar.specs.Number.{digit_zero}
use Rattle.js_grammar.specs.StringItems.{character_escape, single_character, digit_escape, escape, stretch}
use Rattle.js_grammar.specs.StringItems.{is_bad_escape, fault_reports}
use Rattle.js_grammar.specs.UnicodeEscape.{last_code_point}
use Rattle.js_grammar.proofs.EscapeCases.{continuation_of_two, continuation_of_one, nonzero_in_template, zero_and_digit}
use Rattle.js_grammar.proofs.EscapeCases.{zero_alone, octal_escape_is, digit_escape_in_template, digit_escape_octal}
use Rattle.js_grammar.proofs.EscapeCases.{digit_escape_itself, escape_at_end, escape_is_one}
use Rattle.js_grammar.proofs.Tests.{and_false}
use Rattle.js_grammar.proofs.UnicodeEscapes.{digits_taken, behind, below_digit}
use Rattle.js_source.specs.Source.{At, rest, Reads}
use Rattle.js_spell.specs.Escape.{TakesDigit, TakesDigits, ReadsEscapeOf, ReadsEscape}
use Rattle.js_spell.specs.Escape.{escaped_units, escaped_fault}
use Rattle.js_spell.specs.declared.escape.Escaped.{Escaped}
use Rattle.js_spell.specs.declared.escape.Escaped.TheVariants.{Nothing, CodePoint, Bad}
use Rattle.js_spell.proofs.NumericSteps.{leads_to}
use Rattle.js_spell.proofs.EscapeSteps.{no_digits, digits_value_small}

-- the item is known
pub known_read : (item known : StringItem) (old new : At) (found : Escaped) → item ≡ known
    → ReadsEscapeOf known old new found → ReadsEscapeOf item old new found
known_read item known old new found e read = rw e read

-- a line continuation
pub two_continue : (c : ℕ) (old new : At) → c ≡ carriage_return → Reads old new line_feed
    → ReadsEscapeOf (line_continuation c (rest old)) old new Nothing
two_continue c old new is read =
    let next : begins (λ d. d == line_feed) (rest old) ≡ true = ap (begins (λ d. d == line_feed)) read.here in
    rw (is, continuation_of_two (rest old) next)
    (record { text = read.text; left = ap (drop 1) read.here; units = refl; fault = refl; small = tt })

pub one_continues : (c : ℕ) (old new : At) → begins (λ d. d == line_feed) (rest old) ≡ false → new ≡ old
    → ReadsEscapeOf (line_continuation c (rest old)) old new Nothing
one_continues c old new none same =
    let alone = ap (λ b. (c == carriage_return) && b) none ∙ and_false (c == carriage_return) in
    rw (same, continuation_of_one c (rest old) alone)
    (record { text = refl; left = refl; units = refl; fault = refl; small = tt })

pub return_continues : (b : Bool) (c : ℕ) (old new : At) → c ≡ carriage_return
    → MatchBool b (Reads old new line_feed) ((begins (λ d. d == line_feed) (rest old) ≡ false) × (new ≡ old))
    → ReadsEscapeOf (line_continuation c (rest old)) old new Nothing
return_continues true c old new is read = two_continue c old new is read
return_continues false c old new is (none, same) = one_continues c old new none same

pub other_continues : (c : ℕ) (at : At) → c ≢ carriage_return
    → ReadsEscapeOf (line_continuation c (rest at)) at at Nothing
other_continues c at other =
    let alone = ap (λ b. b && begins (λ d. d == line_feed) (rest at)) (ne_eqb c carriage_return other) in
    rw (continuation_of_one c (rest at) alone)
    (record { text = refl; left = refl; units = refl; fault = refl; small = tt })

-- an octal escape
octal_value_small : (c : ℕ) (old new : At) (count value : ℕ) → TakesDigits 8 (c ∷ []) old new count value → count ≤ 2
    → value < 512
octal_value_small c old new count value so_far h =
    let small : value < 8 ^ (1 + count) = digits_value_small 8 (c ∷ []) old new count value so_far in
    let less : 8 ^ (1 + count) ≤ 8 ^ 3 =
    pow-le-pow_right {n = 8} (omega arith) {i = 1 + count} {j = 3} (omega arith) in
    omega arith

pub octal_value_fits : (c : ℕ) (old new : At) (count value : ℕ) → TakesDigits 8 (c ∷ []) old new count value
    → count ≤ 2 → value < 512
octal_value_fits c old new count value so_far h = octal_value_small c old new count value so_far h

own_unit : (n : ℕ) → n < 0x10000 → n ∷ [] ≡ encode_utf16 n
own_unit n h = let small : nat_lt n 0x10000 ≡ true = grind (arith, nat_tests) in rw small refl

octal_known : (c : ℕ) (old new : At) (count value : ℕ) (so_far : TakesDigits 8 (c ∷ []) old new count value)
    → count ≤ 2 → octal_digits (further_octal_digits c) (so_far.digits ++ rest new) ≡ so_far.digits
    → ReadsEscapeOf (octal_escape c (rest old)) old new (CodePoint value)
octal_known c old new count value so_far h taken =
    let small = octal_value_small c old new count value so_far h in
    let item = octal_escape_is c (rest old) so_far.digits (rest new)
    (ap (octal_digits (further_octal_digits c)) so_far.here ∙ taken)
    (ap (drop (length so_far.digits)) so_far.here ∙ behind so_far.digits (rest new)) in
    rw item
    (record {
      text = so_far.text;
      left = refl;
      units = ap (λ n. n ∷ []) so_far.value_is ∙ own_unit value (omega arith);
      fault = refl;
      small = omega arith;
    })

pub octal_whole : (c : ℕ) (old new : At) (count value : ℕ) → TakesDigits 8 (c ∷ []) old new count value
    → count ≡ further_octal_digits c → count ≤ 2
    → ReadsEscapeOf (octal_escape c (rest old)) old new (CodePoint value)
octal_whole c old new count value so_far e h =
    octal_known c old new count value so_far h
    (digits_taken 8 (further_octal_digits c) so_far.digits (rest new) so_far.all.1
    (omega (arith, so_far.count_is, e)) (λ less. absurd (omega (arith, so_far.count_is, e))))

pub octal_stopped : (c : ℕ) (old mid new : At) (count value : ℕ) → TakesDigits 8 (c ∷ []) old mid count value
    → count < further_octal_digits c → count ≤ 2 → TakesDigit 8 mid new None
    → ReadsEscapeOf (octal_escape c (rest old)) old new (CodePoint value)
octal_stopped c old mid new count value so_far less h (none, same) =
    rw same
    (octal_known c old mid count value so_far h
    (digits_taken 8 (further_octal_digits c) so_far.digits (rest mid) so_far.all.1
    (omega (arith, so_far.count_is)) (λ more. none)))

-- a digit in a template
pub other_digit_read : (c : ℕ) (at : At) → c ≢ digit_zero → ReadsEscapeOf (digit_in_template c (rest at)) at at Bad
other_digit_read c at other =
    rw (nonzero_in_template c (rest at) (ne_eqb c digit_zero other))
    (record { text = refl; left = refl; units = refl; fault = refl; small = tt })

pub zero_and_digit_read : (c digit : ℕ) (old new : At) → c ≡ digit_zero → TakesDigit 10 old new (Some digit)
    → ReadsEscapeOf (digit_in_template c (rest old)) old new Bad
zero_and_digit_read c digit old new is (d, is_digit, of, read) =
    let next : begins (is_digit_of 10) (rest old) ≡ true = ap (begins (is_digit_of 10)) read.here ∙ is_digit in
    rw (zero_and_digit c (rest old) (eq-eqb c digit_zero is) next)
    (record { text = read.text; left = ap (drop 1) read.here; units = refl; fault = refl; small = tt })

pub zero_alone_read : (c : ℕ) (old new : At) → c ≡ digit_zero → TakesDigit 10 old new None
    → ReadsEscapeOf (digit_in_template c (rest old)) old new (CodePoint 0)
zero_alone_read c old new is (none, same) =
    rw (same, zero_alone c (rest old) (eq-eqb c digit_zero is) none)
    (record { text = refl; left = refl; units = refl; fault = refl; small = omega arith })

-- a single character
pub character_read : (c value : ℕ) (at : At) → value ≡ single_character c → value ≤ last_code_point
    → ReadsEscapeOf (character_escape c (rest at)) at at (CodePoint value)
character_read c value at e small =
    record { text = refl; left = refl; units = ap encode_utf16 (sym e); fault = refl; small = small }

-- the first digit of an octal escape
pub octal_digit_range : (c : ℕ) → is_digit_of 8 c ≡ true → IsInRange 48 57 c
octal_digit_range c e = digit_from_value c (let below = below_digit 8 c e in omega arith)

pub first_octal_digit : (c value : ℕ) (at : At) → is_digit_of 8 c ≡ true → value ≡ digit_value c
    → TakesDigits 8 (c ∷ []) at at 0 value
first_octal_digit c value at e of =
    let alone : digits_value 8 (c ∷ []) ≡ value =
    digits_value_push 8 [] c ∙ zero_before (digit_value c) ∙ sym of in
    subst (λ n. TakesDigits 8 (c ∷ []) at at 0 n) alone (no_digits 8 (c ∷ []) at (below_digit 8 c e, tt))
  where
    zero_before : (n : ℕ) → 0 * 8 + n ≡ n
    zero_before n = omega arith

-- a digit behind a `\`
pub template_digit_read : (t : Bool) (c : ℕ) (old new : At) (found : Escaped) → t ≡ true
    → ReadsEscapeOf (digit_in_template c (rest old)) old new found
    → ReadsEscapeOf (digit_escape t c (rest old)) old new found
template_digit_read t c old new found e read = rw (e, digit_escape_in_template c (rest old)) read

pub octal_digit_read : (t : Bool) (c : ℕ) (old new : At) (found : Escaped) → t ≡ false → is_digit_of 8 c ≡ true
    → ReadsEscapeOf (octal_escape c (rest old)) old new found
    → ReadsEscapeOf (digit_escape t c (rest old)) old new found
octal_digit_read t c old new found e octal read = rw (e, digit_escape_octal c (rest old) octal) read

pub other_digit_itself : (t : Bool) (c value : ℕ) (at : At) → t ≡ false → is_digit_of 8 c ≡ false
    → value ≡ single_character c → value ≤ last_code_point
    → ReadsEscapeOf (digit_escape t c (rest at)) at at (CodePoint value)
other_digit_itself t c value at e none of small =
    rw (e, digit_escape_itself c (rest at) none) (character_read c value at of small)

-- the source ends behind a `\`
pub ended_escape_read : (t : Bool) (start : ℕ) (old new : At) (us : List ℕ) (before after : List Diagnostic)
    → rest old ≡ [] → new ≡ old → after ≡ before ++ (UnterminatedString (stretch start new.place) ∷ [])
    → ReadsEscape t start old new us us before after true
ended_escape_read t start old new us before after none same reported =
    let item = ap (escape t) none ∙ escape_at_end t in
    record {
      text = ap (λ a. a.text) same;
      left = rw item (sym (ap rest same ∙ none));
      units = rw item (sym (append-nil us));
      good = rw item refl;
      reports = rw item reported;
    }

-- an escape goes on behind it
pub escape_read : (t : Bool) (start c : ℕ) (old mid new : At) (us vs : List ℕ) (reports : List Diagnostic)
    (found : Escaped) (is_good : Bool) → Reads old mid c
    → ReadsEscapeOf (escape t (c ∷ rest mid)) mid new found
    → vs ≡ us ++ escaped_units found → is_bad_escape (escaped_fault found) ≡ not is_good
    → ReadsEscape t start old new us vs reports reports is_good
escape_read t start c old mid new us vs reports found is_good read escaped added good =
    let item : escape t (rest old) ≡ escape t (c ∷ rest mid) = ap (escape t) read.here in
    record {
      text = escaped.text ∙ read.text;
      left = rw item escaped.left;
      units = rw item (added ∙ ap (λ ws. us ++ ws) (sym escaped.units));
      good = rw item (ap is_bad_escape escaped.fault ∙ good);
      reports =
          rw item
          (sym
          (ap (λ fault. reports ++ fault_reports true start old.place new.place fault) escaped.fault
          ∙ ap (λ more. reports ++ more) (silent found) ∙ append-nil reports));
    }
  where
    silent : (found : Escaped) → fault_reports true start old.place new.place (escaped_fault found) ≡ []
    silent Nothing = refl
    silent (CodePoint d) = refl
    silent Bad = refl

tail_of : (b : ℕ) (cs xs ys : List ℕ) → b ∷ cs ≡ xs ++ ys → 0 < length xs → cs ≡ drop 1 xs ++ ys
tail_of b cs [] ys e h = absurd (omega arith)
tail_of b cs (x ∷ xs) ys e h = ap (drop 1) e

-- an escape ends no earlier than it begins
pub escape_moves_on : (t : Bool) (c : ℕ) (old mid new : At) (found : Escaped) → Reads old mid c
    → ReadsEscapeOf (escape t (c ∷ rest mid)) mid new found
    → old.place ≤ new.place
escape_moves_on t c old mid new found read escaped =
    let item = escape t (rest old) in
    let head = (escape_is_one t (rest old)).head in
    let left : item.rest ≡ rest new = ap (λ cs. (escape t cs).rest) read.here ∙ escaped.left in
    let here : rest old ≡ drop 1 item.text ++ rest new =
    tail_of backslash (rest old) item.text item.rest head.here head.some ∙ ap (λ cs. drop 1 item.text ++ cs) left in
    omega (arith, leads_to old new (drop 1 item.text) (escaped.text ∙ read.text) here)
