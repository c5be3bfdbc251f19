-- What is read of a name depends on its characters and on the first one behind them.
use Rattle.std.proofs.Common.{◌≡◌, ℕ, ◌<◌, Bool, true, false, not, ◌&&◌, ◌==◌, List, [], ◌∷◌, ◌++◌, length, drop}
use Rattle.std.proofs.Common.{refl, sym, ◌∙◌, ap, subst, arith, inl, inr, ◌⊎◌, Option, Some, None, append_assoc}
use Rattle.std.proofs.Common.{append-nil, length-append}
use Rattle.std.specs.Prelude.{if◌then◌else◌}
use Rattle.std.specs.Char.Utf16.{is_high_surrogate, is_low_surrogate}
use Rattle.std.specs.Option.{option_map_or}
use Rattle.std.proofs.lemmas.Bool.{eqb-true}
use Rattle.std.proofs.lemmas.List.{append_cancel_right, append_cancel_left}
use Rattle.std.proofs.Math.Seq.{drop-append_seam}
use Rattle.js_text.specs.Ascii.{backslash, number_sign}
use Rattle.js_text.specs.Characters.{begins, is_identifier_start, is_identifier_part}
use Rattle.js_kind.specs.Digits.{is_digit_of}
use Rattle.js_grammar.specs.Gap.{is_prefix}
use Rattle.js_grammar.specs.Name.{NameItem, name_item, name_items, CutsInto, items_text, latin_small_letter_u}
use Rattle.js_grammar.specs.Name.{is_surrogate, low_surrogate_escape, surrogate_text, item_of_code_point}
use Rattle.js_grammar.specs.Name.{item_of_escape, escape_item, ordinary_item, good_escape, faulty_escape, name_reading}
use Rattle.js_grammar.specs.Name.{begins_name, private_reading, private_name_of}
use Rattle.js_grammar.specs.Name.NameFault.{bad_escape, not_allowed}
use Rattle.js_grammar.specs.Reading.{Reading}
use Rattle.js_grammar.specs.UnicodeEscape.{UnicodeEscape, four_digits, unicode_escape, is_no_hex_digit}
use Rattle.js_grammar.specs.UnicodeEscape.{left_curly_bracket}
use Rattle.js_grammar.proofs.Ahead.{BeginAlike, begins_alike, alike_behind}
use Rattle.js_grammar.proofs.EscapesAhead.{four_digits_local, unicode_escape_local}
use Rattle.js_grammar.proofs.NameCuts.{items_cut, read_of_cut, private_of_cut, cut_text}
use Rattle.js_grammar.proofs.NameItems.{item_takes, escape_first, no_low_mark, no_low_letter, of_code_point}
use Rattle.js_grammar.proofs.NameItems.{of_no_code_point, of_allowed, of_not_allowed, of_surrogate, surrogate_alone}
use Rattle.js_grammar.proofs.NameItems.{surrogate_pair, other_escape}
use Rattle.js_grammar.proofs.NumberItems.{true_or_false}
use Rattle.js_grammar.proofs.UnicodeEscapes.{without_brace}

-- a `\u` and what follows it
abbrev marked : List ℕ → List ℕ
marked text = backslash ∷ latin_small_letter_u ∷ text

-- What an escape takes of a text: its digits, and perhaps the escape of a low surrogate.
record Takes (escape : UnicodeEscape) (text : List ℕ) : Type 0 where
  more : List ℕ
  here : text ≡ marked (escape.text ++ more)
  is : (more ≡ []) ⊎ (more ≡ low_surrogate_escape escape.rest)

takes_digits : (escape : UnicodeEscape) (text : List ℕ) → text ≡ marked escape.text → Takes escape text
takes_digits escape text e = record {
  more = [];
  here = e ∙ ap marked (sym (append-nil escape.text));
  is = inl refl;
}

escape_takes : (allowed : ℕ → Bool) (escape : UnicodeEscape) → Takes escape (item_of_escape allowed escape).text
escape_takes allowed escape = by_code_point escape.code_point refl
  where
    surrogate_takes : (c : ℕ) (text : List ℕ) → text ≡ marked (surrogate_text c escape) → Takes escape text
    surrogate_takes c text e =
        elim (true_or_false (is_high_surrogate c && not (begins (λ d. d == left_curly_bracket) escape.text))) [
          | inl pair ↦ record {
            more = low_surrogate_escape escape.rest;
            here = e ∙ ap marked (surrogate_pair c escape pair);
            is = inr refl;
          }
          | inr alone ↦ takes_digits escape text (e ∙ ap marked (surrogate_alone c escape alone))
        ]

    by_code_point : (o : Option ℕ) → escape.code_point ≡ o → Takes escape (item_of_escape allowed escape).text
    by_code_point None e =
        takes_digits escape (item_of_escape allowed escape).text
        (ap (λ (x : NameItem). x.text) (of_no_code_point allowed escape e))
    by_code_point (Some c) e =
        let text = (item_of_escape allowed escape).text in
        let here = of_code_point allowed c escape e in
        elim (true_or_false (is_surrogate c)) [
          | inl is ↦
              surrogate_takes c text (ap (λ (x : NameItem). x.text) (here ∙ of_surrogate allowed c escape is))
          | inr other ↦ elim (true_or_false (allowed c)) [
            | inl good ↦
                takes_digits escape text
                (ap (λ (x : NameItem). x.text) (here ∙ of_allowed allowed c escape other good))
            | inr bad ↦
                takes_digits escape text
                (ap (λ (x : NameItem). x.text) (here ∙ of_not_allowed allowed c escape other bad))
          ]
        ]

-- what is left behind the digits of an escape
left_behind : (allowed : ℕ → Bool) (xs left ys : List ℕ)
    → marked xs ≡ (item_of_escape allowed (unicode_escape (xs ++ ys))).text ++ left
    → (unicode_escape (xs ++ ys)).rest
    ≡ ((escape_takes allowed (unicode_escape (xs ++ ys))).more ++ left) ++ ys
left_behind allowed xs left ys e =
    let escape = unicode_escape (xs ++ ys) in
    let takes = escape_takes allowed escape in
    let both : marked xs ≡ marked ((escape.text ++ takes.more) ++ left) = e ∙ ap (λ t. t ++ left) takes.here in
    let inner : xs ≡ (escape.text ++ takes.more) ++ left = ap (drop 2) both in
    let whole : escape.text ++ escape.rest ≡ escape.text ++ ((takes.more ++ left) ++ ys) =
    sym (escape_first (xs ++ ys)) ∙ ap (λ t. t ++ ys) (inner ∙ append_assoc escape.text takes.more left)
    ∙ append_assoc escape.text (takes.more ++ left) ys in
    append_cancel_left escape.text escape.rest ((takes.more ++ left) ++ ys) whole

-- the escape of a low surrogate, by its digits
abbrev low_of : UnicodeEscape → List ℕ
low_of digits = if option_map_or is_low_surrogate digits.code_point false then marked digits.text else []

low_marked : (cs : List ℕ) → low_surrogate_escape (marked cs) ≡ low_of (four_digits cs)
unfolding low_surrogate_escape four_digits
low_marked cs = refl

low_digits : (xs us ys zs : List ℕ) → BeginAlike ys zs → (four_digits (xs ++ ys)).rest ≡ us ++ ys
    → low_surrogate_escape (marked (xs ++ zs)) ≡ low_surrogate_escape (marked (xs ++ ys))
low_digits xs us ys zs alike e =
    low_marked (xs ++ zs) ∙ ap low_of (four_digits_local xs us ys zs alike e) ∙ sym (low_marked (xs ++ ys))

-- the item of digits, behind which this is the escape of a low surrogate
abbrev item_with_low : (ℕ → Bool) → List ℕ → Option ℕ → List ℕ → NameItem
item_with_low allowed text code_point low =
    option_map_or
    (λ c.
    if is_surrogate c
    then faulty_escape
    (marked (if is_high_surrogate c && not (begins (λ d. d == left_curly_bracket) text) then text ++ low else text))
    bad_escape
    else if allowed c then good_escape (marked text) c
    else faulty_escape (marked text) (not_allowed c)) code_point (faulty_escape (marked text) bad_escape)

item_is : (allowed : ℕ → Bool) (escape : UnicodeEscape)
    → item_of_escape allowed escape
    ≡ item_with_low allowed escape.text escape.code_point (low_surrogate_escape escape.rest)
unfolding item_of_escape item_of_code_point surrogate_text
item_is allowed escape = refl

item_by_low : (allowed : ℕ → Bool) (escape : UnicodeEscape) (rest : List ℕ)
    → low_surrogate_escape rest ≡ low_surrogate_escape escape.rest
    → item_of_escape allowed (record escape { rest = rest }) ≡ item_of_escape allowed escape
item_by_low allowed escape rest e =
    item_is allowed (record escape { rest = rest })
    ∙ ap (item_with_low allowed escape.text escape.code_point) e
    ∙ sym (item_is allowed escape)

-- four digits, and what is left behind them
four_left : (xs left : List ℕ) → xs ≡ (four_digits xs).text ++ left → (four_digits xs).rest ≡ left
unfolding four_digits
four_left xs left e =
    let digits = (four_digits xs).text in
    ap (drop (length digits)) e ∙ drop-append_seam digits left

low_pair : (xs left ys zs : List ℕ) → BeginAlike ys zs → xs ≡ (four_digits (xs ++ ys)).text ++ left
    → low_surrogate_escape (marked (xs ++ zs)) ≡ low_surrogate_escape (marked (xs ++ ys))
low_pair xs left ys zs alike e =
    let digits = four_digits (xs ++ ys) in
    low_digits xs left ys zs alike
    (four_left (xs ++ ys) (left ++ ys) (ap (λ t. t ++ ys) e ∙ append_assoc digits.text left ys))

low_cases : (text : List ℕ)
    → (low_surrogate_escape text ≡ marked (four_digits (drop 2 text)).text) ⊎ (low_surrogate_escape text ≡ [])
unfolding low_surrogate_escape
low_cases text =
    elim (true_or_false (is_prefix (marked []) text
    && option_map_or is_low_surrogate (four_digits (drop 2 text)).code_point false)) [
      | inl there ↦ inl (rw there refl)
      | inr none ↦ inr (rw none refl)
    ]

-- The escape of a low surrogate is the same, or there is none and then what follows tells.
low_same : (xs left ys zs : List ℕ) → BeginAlike ys zs → xs ≡ low_surrogate_escape (xs ++ ys) ++ left
    → low_surrogate_escape (left ++ zs) ≡ low_surrogate_escape (left ++ ys)
    → low_surrogate_escape (xs ++ zs) ≡ low_surrogate_escape (xs ++ ys)
low_same xs left ys zs alike here behind =
    elim (low_cases (xs ++ ys)) [
      | inl low ↦ (
          let digits = four_digits (drop 2 (xs ++ ys)) in
          let ms = digits.text ++ left in
          let is : xs ≡ marked ms = here ∙ ap (λ t. t ++ left) low in
          let rest : drop 2 (xs ++ ys) ≡ ms ++ ys = ap (λ t. drop 2 (t ++ ys)) is in
          let same : ms ≡ (four_digits (ms ++ ys)).text ++ left = ap (λ t. (four_digits t).text ++ left) rest in
          subst (λ t. low_surrogate_escape (t ++ zs) ≡ low_surrogate_escape (t ++ ys)) (sym is)
          (low_pair ms left ys zs alike same))
      | inr none ↦ (
          let is : xs ≡ left = here ∙ ap (λ t. t ++ left) none in
          subst (λ t. low_surrogate_escape (t ++ zs) ≡ low_surrogate_escape (t ++ ys)) (sym is) behind)
    ]

-- an escape behind `\u` is the same before another text
unicode_same : (allowed : ℕ → Bool) (xs left ys zs : List ℕ) → BeginAlike ys zs
    → marked xs ≡ (item_of_escape allowed (unicode_escape (xs ++ ys))).text ++ left
    → low_surrogate_escape (left ++ zs) ≡ low_surrogate_escape (left ++ ys)
    → item_of_escape allowed (unicode_escape (xs ++ zs)) ≡ item_of_escape allowed (unicode_escape (xs ++ ys))
unicode_same allowed xs left ys zs alike e behind =
    let escape = unicode_escape (xs ++ ys) in
    let takes = escape_takes allowed escape in
    let more = takes.more ++ left in
    let rest : escape.rest ≡ more ++ ys = left_behind allowed xs left ys e in
    let low : low_surrogate_escape (more ++ zs) ≡ low_surrogate_escape (more ++ ys) =
    by_more takes.more escape.rest rest takes.is in
    ap (item_of_escape allowed) (unicode_escape_local xs more ys zs alike rest)
    ∙ item_by_low allowed escape (more ++ zs) (low ∙ ap low_surrogate_escape (sym rest))
  where
    by_more : (ms rest : List ℕ) → rest ≡ (ms ++ left) ++ ys → (ms ≡ []) ⊎ (ms ≡ low_surrogate_escape rest)
        → low_surrogate_escape ((ms ++ left) ++ zs) ≡ low_surrogate_escape ((ms ++ left) ++ ys)
    by_more ms rest here (inl none) =
        subst (λ t. low_surrogate_escape ((t ++ left) ++ zs) ≡ low_surrogate_escape ((t ++ left) ++ ys)) (sym none)
        behind
    by_more ms rest here (inr low) =
        low_same (ms ++ left) left ys zs alike (ap (λ t. t ++ left) (low ∙ ap low_surrogate_escape here)) behind

-- an item behind a `\`
escape_there : (allowed : ℕ → Bool) (c : ℕ) (cs : List ℕ) → (c == latin_small_letter_u) ≡ true
    → escape_item allowed (c ∷ cs) ≡ item_of_escape allowed (unicode_escape cs)
unfolding escape_item
escape_there allowed c cs is = rw is refl

-- takes two characters, where they stand there
two_characters : (allowed : ℕ → Bool) (c : ℕ) (cs : List ℕ) → 1 < length (escape_item allowed (c ∷ cs)).text
two_characters allowed c cs =
    elim (true_or_false (c == latin_small_letter_u)) [
      | inl is ↦
          subst (λ (t : List ℕ). 1 < length t)
          (sym (ap (λ (x : NameItem). x.text) (escape_there allowed c cs is)
          ∙ (escape_takes allowed (unicode_escape cs)).here)) (omega arith)
      | inr other ↦
          subst (λ (t : List ℕ). 1 < length t)
          (sym (ap (λ (x : NameItem). x.text) (other_escape allowed c cs other))) (omega arith)
    ]

-- so an item that begins before what may differ, and ends there, is not a `\` alone
not_alone : {A : Type 0} (allowed : ℕ → Bool) (x : ℕ) (left ys zs : List ℕ) → BeginAlike ys zs
    → x ∷ [] ≡ (escape_item allowed ys).text ++ left → A
not_alone allowed x left ys zs alike e =
    let two = two_characters allowed alike.first alike.rest in
    let here = ap (λ t. length (escape_item allowed t).text) alike.here in
    absurd (omega (arith, two, here, ap length e, length-append (escape_item allowed ys).text left))

escape_same : (allowed : ℕ → Bool) (x : ℕ) (xs left ys zs : List ℕ) → (x == backslash) ≡ true → BeginAlike ys zs
    → x ∷ xs ≡ (escape_item allowed (xs ++ ys)).text ++ left
    → low_surrogate_escape (left ++ zs) ≡ low_surrogate_escape (left ++ ys)
    → escape_item allowed (xs ++ zs) ≡ escape_item allowed (xs ++ ys)
escape_same allowed x [] left ys zs mark alike e behind = not_alone allowed x left ys zs alike e
escape_same allowed x (d ∷ xs) left ys zs mark alike e behind =
    elim (true_or_false (d == latin_small_letter_u)) [
      | inl is ↦ (
          let both : marked xs ≡ x ∷ d ∷ xs =
          ap (λ c. c ∷ latin_small_letter_u ∷ xs) (sym (eqb-true x backslash mark))
          ∙ ap (λ c. x ∷ c ∷ xs) (sym (eqb-true d latin_small_letter_u is)) in
          let here = escape_there allowed d (xs ++ ys) is in
          escape_there allowed d (xs ++ zs) is
          ∙ unicode_same allowed xs left ys zs alike (both ∙ e ∙ ap (λ (i : NameItem). i.text ++ left) here) behind
          ∙ sym here)
      | inr other ↦ other_escape allowed d (xs ++ zs) other ∙ sym (other_escape allowed d (xs ++ ys) other)
    ]

-- An item is the same before another text.
item_same : (allowed : ℕ → Bool) (xs left ys zs : List ℕ) (item : NameItem) → BeginAlike ys zs
    → name_item allowed (xs ++ ys) ≡ Some item → xs ≡ item.text ++ left
    → low_surrogate_escape (left ++ zs) ≡ low_surrogate_escape (left ++ ys)
    → name_item allowed (xs ++ zs) ≡ Some item
item_same allowed [] left ys zs item alike found e behind =
    let takes = item_takes allowed ys item found in
    absurd (omega (arith, takes.some, ap length e, length-append item.text left))
item_same allowed (x ∷ xs) left ys zs item alike found e behind =
    elim (true_or_false (x == backslash)) [
      | inl mark ↦ (
          let some : Some (escape_item allowed (xs ++ ys)) ≡ Some item = rw mark at found in
          let is : escape_item allowed (xs ++ ys) ≡ item = cc in
          let here = e ∙ ap (λ (i : NameItem). i.text ++ left) (sym is) in
          rw mark (ap Some (escape_same allowed x xs left ys zs mark alike here behind ∙ is)))
      | inr other ↦ elim (true_or_false (allowed x)) [
        | inl good ↦ rw (other, good) (rw (other, good) at found)
        | inr bad ↦ (let none : None ≡ Some item = rw (other, bad) at found in absurd (cc))
      ]
    ]

-- no item is where none is before a text that begins alike
none_same : (allowed : ℕ → Bool) (ys zs : List ℕ) → BeginAlike ys zs → name_item allowed ys ≡ None
    → name_item allowed zs ≡ None
none_same allowed ys zs alike none =
    ap (name_item allowed) alike.there
    ∙ by_first alike.first alike.rest alike.other (ap (name_item allowed) (sym alike.here) ∙ none)
  where
    by_first : (c : ℕ) (us vs : List ℕ) → name_item allowed (c ∷ us) ≡ None → name_item allowed (c ∷ vs) ≡ None
    by_first c us vs none =
        elim (true_or_false (c == backslash)) [
          | inl mark ↦ (let no : Some (escape_item allowed us) ≡ None = rw mark at none in absurd (cc))
          | inr other ↦ elim (true_or_false (allowed c)) [
            | inl good ↦ (let no : Some (ordinary_item c) ≡ None = rw (other, good) at none in absurd (cc))
            | inr bad ↦ rw (other, bad) refl
          ]
        ]

-- the characters of items are those before what is left
cut_here : (allowed : ℕ → Bool) (xs ys : List ℕ) (items : List NameItem) → CutsInto allowed (xs ++ ys) items ys
    → xs ≡ items_text items
cut_here allowed xs ys items cut =
    append_cancel_right xs (items_text items) ys (cut_text allowed (xs ++ ys) items ys cut)

brace_is_no_digit : is_no_hex_digit left_curly_bracket ≡ true
unfolding is_digit_of
brace_is_no_digit = refl

-- no digits stand where a brace does
four_brace : (text : List ℕ) → begins (λ c. c == left_curly_bracket) text ≡ true → (four_digits text).rest ≡ text
unfolding four_digits
four_brace [] brace = refl
four_brace (c ∷ cs) brace =
    let none : is_no_hex_digit c ≡ true =
    ap is_no_hex_digit (eqb-true c left_curly_bracket brace) ∙ brace_is_no_digit in
    rw none refl

four_without_brace : (text : List ℕ) → begins (λ c. c == left_curly_bracket) text ≡ false
    → unicode_escape text ≡ four_digits text
unfolding four_digits
four_without_brace text none = without_brace text none

-- four digits behind a `\u`, where the item ends before what may differ
low_of_unicode : (allowed : ℕ → Bool) (xs left ys zs : List ℕ) → BeginAlike ys zs
    → marked xs ≡ (item_of_escape allowed (unicode_escape (xs ++ ys))).text ++ left
    → low_surrogate_escape (marked (xs ++ zs)) ≡ low_surrogate_escape (marked (xs ++ ys))
low_of_unicode allowed xs left ys zs alike e =
    elim (true_or_false (begins (λ c. c == left_curly_bracket) (xs ++ ys))) [
      | inl brace ↦ low_digits xs xs ys zs alike (four_brace (xs ++ ys) brace)
      | inr none ↦ (
          let rest = left_behind allowed xs left ys e in
          let here = ap (λ (u : UnicodeEscape). u.rest) (sym (four_without_brace (xs ++ ys) none)) in
          low_digits xs ((escape_takes allowed (unicode_escape (xs ++ ys))).more ++ left) ys zs alike (here ∙ rest))
    ]

low_of_escape : (allowed : ℕ → Bool) (x : ℕ) (xs left ys zs : List ℕ) → (x == backslash) ≡ true → BeginAlike ys zs
    → x ∷ xs ≡ (escape_item allowed (xs ++ ys)).text ++ left
    → low_surrogate_escape (x ∷ (xs ++ zs)) ≡ low_surrogate_escape (x ∷ (xs ++ ys))
low_of_escape allowed x [] left ys zs mark alike e = not_alone allowed x left ys zs alike e
low_of_escape allowed x (d ∷ xs) left ys zs mark alike e =
    let first = eqb-true x backslash mark in
    elim (true_or_false (d == latin_small_letter_u)) [
      | inl is ↦ (
          let both : (t : List ℕ) → x ∷ d ∷ t ≡ marked t =
          λ t. ap (λ c. c ∷ d ∷ t) first ∙ ap (λ c. backslash ∷ c ∷ t) (eqb-true d latin_small_letter_u is) in
          let here = escape_there allowed d (xs ++ ys) is in
          ap low_surrogate_escape (both (xs ++ zs))
          ∙ low_of_unicode allowed xs left ys zs alike
          (sym (both xs) ∙ e ∙ ap (λ (i : NameItem). i.text ++ left) here)
          ∙ ap low_surrogate_escape (sym (both (xs ++ ys))))
      | inr other ↦
          ap (λ c. low_surrogate_escape (c ∷ d ∷ (xs ++ zs))) first ∙ no_low_letter (d ∷ (xs ++ zs)) other
          ∙ sym (no_low_letter (d ∷ (xs ++ ys)) other)
          ∙ ap (λ c. low_surrogate_escape (c ∷ d ∷ (xs ++ ys))) (sym first)
    ]

-- The escape of a low surrogate is the same before another text, where items end there.
low_of_item : (allowed : ℕ → Bool) (xs left ys zs : List ℕ) (item : NameItem) → BeginAlike ys zs
    → name_item allowed (xs ++ ys) ≡ Some item → xs ≡ item.text ++ left
    → low_surrogate_escape (xs ++ zs) ≡ low_surrogate_escape (xs ++ ys)
low_of_item allowed [] left ys zs item alike found e =
    let takes = item_takes allowed ys item found in
    absurd (omega (arith, takes.some, ap length e, length-append item.text left))
low_of_item allowed (x ∷ xs) left ys zs item alike found e =
    elim (true_or_false (x == backslash)) [
      | inl mark ↦ (
          let some : Some (escape_item allowed (xs ++ ys)) ≡ Some item = rw mark at found in
          let is : escape_item allowed (xs ++ ys) ≡ item = cc in
          low_of_escape allowed x xs left ys zs mark alike (e ∙ ap (λ (i : NameItem). i.text ++ left) (sym is)))
      | inr other ↦ no_low_mark (x ∷ (xs ++ zs)) other ∙ sym (no_low_mark (x ∷ (xs ++ ys)) other)
    ]

no_low_here : (allowed : ℕ → Bool) (text : List ℕ) → name_item allowed text ≡ None → low_surrogate_escape text ≡ []
no_low_here allowed [] none = no_low_mark [] refl
no_low_here allowed (c ∷ cs) none =
    elim (true_or_false (c == backslash)) [
      | inl mark ↦ (let no : Some (escape_item allowed cs) ≡ None = rw mark at none in absurd (cc))
      | inr other ↦ no_low_mark (c ∷ cs) other
    ]

low_of_cut : (allowed : ℕ → Bool) (xs ys zs : List ℕ) (items : List NameItem) → BeginAlike ys zs
    → CutsInto allowed (xs ++ ys) items ys
    → low_surrogate_escape (xs ++ zs) ≡ low_surrogate_escape (xs ++ ys)
low_of_cut allowed xs ys zs [] alike cut =
    no_low_here allowed (xs ++ zs) (none_same allowed (xs ++ ys) (xs ++ zs) (alike_behind xs ys zs alike) cut.0)
    ∙ sym (no_low_here allowed (xs ++ ys) cut.0)
low_of_cut allowed xs ys zs (item ∷ items) alike cut =
    low_of_item allowed xs (items_text items) ys zs item alike cut.0 (cut_here allowed xs ys (item ∷ items) cut)

-- The items are the same before another text.
cut_local : (allowed : ℕ → Bool) (xs ys zs : List ℕ) (items : List NameItem) → BeginAlike ys zs
    → CutsInto allowed (xs ++ ys) items ys → CutsInto allowed (xs ++ zs) items zs
cut_local allowed xs ys zs [] alike cut =
    let none : [] ≡ xs = sym (cut_here allowed xs ys [] cut) in (
      none_same allowed (xs ++ ys) (xs ++ zs) (alike_behind xs ys zs alike) cut.0,
      ap (λ t. t ++ zs) none,
    )
cut_local allowed xs ys zs (item ∷ items) alike cut =
    let left = items_text items in
    let here : xs ≡ item.text ++ left = cut_here allowed xs ys (item ∷ items) cut in
    let behind : (ts : List ℕ) → drop (length item.text) (xs ++ ts) ≡ left ++ ts =
    λ ts. ap (λ t. drop (length item.text) (t ++ ts)) here
    ∙ ap (drop (length item.text)) (append_assoc item.text left ts) ∙ drop-append_seam item.text (left ++ ts) in
    let there : CutsInto is_identifier_part (left ++ ys) items ys =
    subst (λ t. CutsInto is_identifier_part t items ys) (behind ys) cut.1 in
    let low = low_of_cut is_identifier_part left ys zs items alike there in (
      item_same allowed xs left ys zs item alike cut.0 here low,
      subst (λ t. CutsInto is_identifier_part t items zs) (sym (behind zs))
          (cut_local is_identifier_part left ys zs items alike there),
    )

-- What is read of a name is the same before another text that begins alike.
pub name_local : (xs ys zs : List ℕ) → BeginAlike ys zs → (name_reading (xs ++ ys)).rest ≡ ys
    → name_reading (xs ++ zs) ≡ record (name_reading (xs ++ ys)) { rest = zs }
name_local xs ys zs alike e =
    let items = name_items is_identifier_start (xs ++ ys) in
    let found = items_cut is_identifier_start (xs ++ ys) in
    let read = read_of_cut (xs ++ ys) items found.rest found.cut in
    let rest : found.rest ≡ ys = ap (λ (r : Reading). r.rest) (sym read) ∙ e in
    let cut = subst (λ t. CutsInto is_identifier_start (xs ++ ys) items t) rest found.cut in
    read_of_cut (xs ++ zs) items zs (cut_local is_identifier_start xs ys zs items alike cut)
    ∙ ap (λ (r : Reading). record r { rest = zs }) (sym read)

-- and so is what is read of a private name
private_there : (text : List ℕ) → begins_name text ≡ true
    → private_reading (number_sign ∷ text)
    ≡ private_name_of (name_items is_identifier_start text) (number_sign ∷ text)
private_there text begun = rw begun refl

private_missing : (text : List ℕ) → begins_name text ≡ false → (private_reading (number_sign ∷ text)).rest ≡ []
private_missing [] none = refl
private_missing (c ∷ cs) none = rw none refl

pub private_local : (xs ys zs : List ℕ) → BeginAlike ys zs
    → (private_reading (number_sign ∷ (xs ++ ys))).rest ≡ ys
    → private_reading (number_sign ∷ (xs ++ zs)) ≡ record (private_reading (number_sign ∷ (xs ++ ys))) { rest = zs }
private_local xs ys zs alike e =
    elim (true_or_false (begins_name (xs ++ ys))) [
      | inl begun ↦ (
          let there = sym (begins_alike _ (xs ++ ys) (xs ++ zs) (alike_behind xs ys zs alike)) ∙ begun in
          let items = name_items is_identifier_start (xs ++ ys) in
          let found = items_cut is_identifier_start (xs ++ ys) in
          let read = private_there (xs ++ ys) begun ∙ private_of_cut (xs ++ ys) items found.rest found.cut in
          let rest : found.rest ≡ ys = ap (λ (r : Reading). r.rest) (sym read) ∙ e in
          let cut = subst (λ t. CutsInto is_identifier_start (xs ++ ys) items t) rest found.cut in
          let other = cut_local is_identifier_start xs ys zs items alike cut in
          private_there (xs ++ zs) there
          ∙ private_of_cut (xs ++ zs) items zs other
          ∙ ap (λ (r : Reading). record r { rest = zs }) (sym read))
      | inr none ↦ (
          let no : [] ≡ alike.first ∷ alike.rest =
          sym (private_missing (xs ++ ys) none) ∙ e ∙ alike.here in
          absurd (cc))
    ]
