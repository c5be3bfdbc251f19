-- The steps of reading a name.
use Rattle.std.proofs.Common.{◌≡◌, ℕ, ◌<◌, ◌≤◌, Bool, true, false, not, ◌&&◌, ◌||◌, ◌==◌, List, [], ◌∷◌, ◌++◌, length}
use Rattle.std.proofs.Common.{length-append, refl, sym, ◌∙◌, ap, subst, arith, append_assoc, Option, Some, None}
use Rattle.std.specs.Prelude.{map, MatchBool, IfNone, IfSome}
use Rattle.std.specs.Char.{IsScalar, OutOfScalarRange, InScalarRange, is_ascii_alphanumeric}
use Rattle.std.specs.Char.Utf16.{is_high_surrogate, is_low_surrogate}
use Rattle.std.specs.Option.{option_map_or}
use Rattle.std.proofs.lemmas.Bool.{eqb-true, eq-eqb}
use Rattle.std.proofs.lemmas.Bool.Decides.{nat_tests}
use Rattle.js_text.specs.Ascii.{backslash}
use Rattle.js_text.specs.Characters.{begins, from_place, from_first, before_first, is_identifier_start}
use Rattle.js_text.specs.Characters.{is_identifier_part}
use Rattle.js_text.proofs.CharacterLemmas.{part_in_ascii}
use Rattle.js_text.proofs.TextLemmas.{before_from}
use Rattle.js_source.specs.Source.{At, rest, Reads, BeginsWith, HasFirstByte, StepsPast}
use Rattle.js_source.proofs.Classes.{tells_class, tells_from, tells_other}
use Rattle.js_source.specs.Runs.{PassesRun, TellsClass}
use Rattle.js_source.proofs.Places.{begins_with}
use Rattle.js_source.proofs.RunSteps.{from_first-run}
use Rattle.js_grammar.specs.Name.{NameItem, CutsInto, items_text, ordinary_item, is_no_part, begins_name, is_surrogate}
use Rattle.js_grammar.specs.Name.{low_surrogate_escape, surrogate_text, item_of_escape, item_of_code_point, escape_item}
use Rattle.js_grammar.specs.Name.{latin_small_letter_u}
use Rattle.js_grammar.specs.UnicodeEscape.{unicode_escape, hex_digits, left_curly_bracket, last_code_point}
use Rattle.js_grammar.proofs.NameItems.{backslash_is_no_name, escape_first, of_code_point, of_no_code_point, of_allowed}
use Rattle.js_grammar.proofs.NameItems.{of_not_allowed, of_surrogate, surrogate_alone, surrogate_pair, escape_there}
use Rattle.js_grammar.proofs.NameItems.{other_escape, no_escape, low_there, no_low, brace_begins}
use Rattle.js_grammar.proofs.NameLaws.{ordinary_here, ordinary_parts, ordinary_values}
use Rattle.js_grammar.proofs.NameLemmas.{parts_end}
use Rattle.js_grammar.proofs.NumberSound.{first_is}
use Rattle.js_grammar.proofs.Tests.{and_false}
use Rattle.js_spell.specs.Escape.{ReadsUnicodeEscape}
use Rattle.js_spell.specs.Name.{PassesUnescaped, Decodes}
use Rattle.js_spell.specs.declared.name.Decoding.{Decoding}
use Rattle.js_spell.specs.declared.name.Decoding.TheVariants.{Character, NotAllowed, Bad}
use Rattle.js_spell.specs.declared.name.Position.TheVariants.{First, Later}

-- the table of the parts in ASCII
abbrev pub is_ascii_part : ℕ → Bool
is_ascii_part b = is_ascii_alphanumeric b || ((b == 36) || (b == 95))

pub tells_parts : (table : List Bool) → tells_from is_ascii_part 0 table ≡ true → length table ≡ 256
    → TellsClass is_identifier_part table
tells_parts table e n =
    tells_other is_ascii_part is_identifier_part table part_in_ascii (tells_class is_ascii_part table e n)

-- the run that it passes
pub parts_passed : (table : List Bool) (old new : At) → TellsClass is_identifier_part table → new.text ≡ old.text
    → PassesRun table old.text old.place new.place → from_first is_no_part (rest new) ≡ from_first is_no_part (rest old)
parts_passed table old new tells text run =
    ap (λ u. from_first is_no_part (from_place u new.place)) text
    ∙ sym
    (ap (from_first is_no_part) run.here
    ∙ from_first-run is_no_part table (λ b small m. rw (sym (tells.tells b small) ∙ m) refl) run.run _ run.all)

pub run_fewer : (table : List Bool) (old new : At) → new.text ≡ old.text → PassesRun table old.text old.place new.place
    → length (rest new) ≤ length (rest old)
run_fewer table old new text run =
    omega (
      arith,
      ap length run.here,
      length-append run.run (from_place old.text new.place),
      ap (λ u. length (from_place u new.place)) text,
    )

pub none_begins : (p : ℕ → Bool) (c : ℕ) (xs : List ℕ) → begins p xs ≡ false → BeginsWith c xs → p c ≡ false
none_begins p c [] e h = absurd h
none_begins p c (d ∷ ds) e h = ap p (sym h) ∙ e

pub part_ends : (c : ℕ) (xs : List ℕ) → BeginsWith c xs → is_identifier_part c ≡ false → from_first is_no_part xs ≡ xs
part_ends c [] b e = absurd b
part_ends c (d ∷ ds) b e = let here : is_identifier_part d ≡ false = ap is_identifier_part b ∙ e in rw here refl

-- behind a character that was next
pub behind : (c : ℕ) (old new : At) → BeginsWith c (rest old) → StepsPast old new
    → (new.text ≡ old.text) × (rest old ≡ c ∷ rest new)
behind c old new begins past =
    let found = begins_with c (rest old) begins in
    let after = past c found.0 found.1 in
    (after.0, found.1 ∙ ap (λ xs. c ∷ xs) (sym after.1))

-- no ordinary character, since an escape begins the name
pub escape_begins : (old : At) → begins (λ c. c == backslash) (rest old) ≡ true → PassesUnescaped old First old
escape_begins old mark = record {
  characters = [];
  goes_on = record { text = refl; here = refl; go_on = λ more left cut. cut };
  stops = ap (begins is_identifier_part) (first_is backslash (rest old) mark) ∙ backslash_is_no_name.1;
  escape = λ _. mark;
}

begun : (text : List ℕ) → begins_name text ≡ true → begins (λ c. c == backslash) text ≡ false
    → (c : ℕ) × (cs : List ℕ) × (text ≡ c ∷ cs) × (is_identifier_start c ≡ true)
begun [] e none = absurd (cc)
begun (c ∷ cs) e none = (c, cs, refl, start (is_identifier_start c) (c == backslash) none e)
  where
    start : (a b : Bool) → b ≡ false → (a || b) ≡ true → a ≡ true
    start true b none e = refl
    start false b none e = let no : false ≡ true = sym none ∙ e in absurd (cc)

-- the first character of a name, and the parts behind it
pub plain_passed : (old mid new : At) → begins_name (rest old) ≡ true
    → begins (λ c. c == backslash) (rest old) ≡ false → StepsPast old mid → new.text ≡ mid.text
    → rest new ≡ from_first is_no_part (rest mid) → PassesUnescaped old Later new
plain_passed old mid new name none past text left =
    let found = begun (rest old) name none in
    let c = found.0 in
    let cs = found.1 in
    let after = past c cs found.2 in
    let left_is : rest new ≡ from_first is_no_part cs = left ∙ ap (from_first is_no_part) after.1 in
    let parts = before_first is_no_part cs in
    record {
      characters = c ∷ parts;
      goes_on = record {
        text = text ∙ after.0;
        here =
            found.2 ∙ ap (λ xs. c ∷ xs) (sym (before_from is_no_part cs))
            ∙ ap (λ xs. c ∷ (xs ++ from_first is_no_part cs)) (sym (ordinary_values parts).text)
            ∙ ap (λ xs. c ∷ (items_text (map ordinary_item parts) ++ xs)) (sym left_is);
        go_on = λ more left cut.
            subst (λ xs. CutsInto is_identifier_start xs (map ordinary_item (c ∷ parts) ++ more) left) (sym found.2) (
              ordinary_here is_identifier_start c cs backslash_is_no_name.0 found.3,
              ordinary_parts cs more left (subst (λ xs. CutsInto is_identifier_part xs more left) left_is cut),
            );
      };
      stops = ap (begins is_identifier_part) left_is ∙ parts_end cs;
      escape = λ no. absurd (cc);
    }

-- the mark of an escape is next
pub mark_first : (b : ℕ) (cs : List ℕ) → b < 128 → HasFirstByte b cs → b ≡ backslash
    → begins (λ c. c == backslash) cs ≡ true
mark_first b [] small first is = absurd first
mark_first b (c ∷ cs) small first is = eq-eqb c backslash (first.0 small ∙ is)

-- another character than an escape's mark was read
pub other_first : (b : ℕ) (old new : At) → Reads old new b → (b ≡ backslash → ⊥)
    → begins (λ c. c == backslash) (rest old) ≡ false
other_first b old new reads other =
    ap (begins (λ c. c == backslash)) reads.here ∙ none_equal (b == backslash) refl
  where
    none_equal : (same : Bool) → (b == backslash) ≡ same → same ≡ false
    none_equal true e = absurd (other (eqb-true b backslash e))
    none_equal false e = refl

-- the escape of a low surrogate, taken or not
pub low_taken : (old mid late new : At) (c : ℕ) (is : Bool) → Reads old mid backslash
    → Reads mid late latin_small_letter_u
    → ReadsUnicodeEscape (hex_digits 4 (rest late)) late new (Some c) → is ≡ is_low_surrogate c
    → MatchBool is (rest old ≡ low_surrogate_escape (rest old) ++ rest new) (low_surrogate_escape (rest old) ≡ [])
low_taken old mid late new c is mark letter read e =
    let here : rest old ≡ backslash ∷ latin_small_letter_u ∷ rest late =
    mark.here ∙ ap (λ t. backslash ∷ t) letter.here in
    by_test is (sym e) here
  where
    by_test : (b : Bool) → is_low_surrogate c ≡ b → rest old ≡ backslash ∷ latin_small_letter_u ∷ rest late
        → MatchBool b (rest old ≡ low_surrogate_escape (rest old) ++ rest new) (low_surrogate_escape (rest old) ≡ [])
    by_test true is here =
        here ∙ low_there (rest late) c read.code_point_is is
        ∙ ap (λ t. low_surrogate_escape t ++ (hex_digits 4 (rest late)).rest) (sym here)
        ∙ ap (λ t. low_surrogate_escape (rest old) ++ t) read.left
    by_test false none here =
        ap low_surrogate_escape here
        ∙ no_low (rest late) (ap (λ o. option_map_or is_low_surrogate o false) read.code_point_is ∙ none)

pub low_broken : (old mid late new : At) → Reads old mid backslash → Reads mid late latin_small_letter_u
    → ReadsUnicodeEscape (hex_digits 4 (rest late)) late new None
    → low_surrogate_escape (rest old) ≡ []
low_broken old mid late new mark letter read =
    ap low_surrogate_escape (mark.here ∙ ap (λ t. backslash ∷ t) letter.here)
    ∙ no_low (rest late) (ap (λ o. option_map_or is_low_surrogate o false) read.code_point_is)

-- what a code point is
scalar_is_none : (c : ℕ) → IsScalar c → InScalarRange c → is_surrogate c ≡ false
scalar_is_none c scalar range = grind (arith, nat_tests)

surrogate_is : (c : ℕ) → OutOfScalarRange c → c ≤ last_code_point → is_surrogate c ≡ true
surrogate_is c out small = grind (arith, nat_tests)

high_is : (c : ℕ) → OutOfScalarRange c → c ≤ last_code_point → c < 0xDC00 → is_high_surrogate c ≡ true
high_is c out small h = grind (arith, nat_tests)

low_is : (c : ℕ) → 0xDC00 ≤ c → is_high_surrogate c ≡ false
low_is c h = grind (arith, nat_tests)

abbrev mark_and_letter : List ℕ
mark_and_letter = backslash ∷ latin_small_letter_u ∷ []

module _ (allowed : ℕ → Bool) (old mid : At) (code_point : Option ℕ)
    (read : ReadsUnicodeEscape (unicode_escape (rest old)) old mid code_point) where
  taken : mark_and_letter ++ rest old ≡ (mark_and_letter ++ (unicode_escape (rest old)).text) ++ rest mid
  taken =
      ap (λ t. mark_and_letter ++ t)
      (escape_first (rest old) ∙ ap (λ t. (unicode_escape (rest old)).text ++ t) read.left)

  pub decoded_none : code_point ≡ None
      → Decodes (item_of_escape allowed (unicode_escape (rest old))) mark_and_letter old Bad mid
  decoded_none e =
      subst (λ (x : NameItem). Decodes x mark_and_letter old Bad mid)
      (sym (of_no_code_point allowed (unicode_escape (rest old)) (read.code_point_is ∙ e)))
      (record { text = read.text; here = taken; value = refl; fault = refl })

  item_is : (c : ℕ) → code_point ≡ Some c
      → item_of_escape allowed (unicode_escape (rest old)) ≡ item_of_code_point allowed (unicode_escape (rest old)) c
  item_is c e = of_code_point allowed c (unicode_escape (rest old)) (read.code_point_is ∙ e)

  pub decoded_character : (c : ℕ) → code_point ≡ Some c → IsScalar c → InScalarRange c → allowed c ≡ true
      → Decodes (item_of_escape allowed (unicode_escape (rest old))) mark_and_letter old (Character c) mid
  decoded_character c e scalar range is =
      subst (λ (x : NameItem). Decodes x mark_and_letter old (Character c) mid)
      (sym (item_is c e ∙ of_allowed allowed c (unicode_escape (rest old)) (scalar_is_none c scalar range) is))
      (record { text = read.text; here = taken; value = refl; fault = refl })

  pub decoded_not_allowed : (c : ℕ) → code_point ≡ Some c → IsScalar c → InScalarRange c → allowed c ≡ false
      → Decodes (item_of_escape allowed (unicode_escape (rest old))) mark_and_letter old (NotAllowed c) mid
  decoded_not_allowed c e scalar range other =
      subst (λ (x : NameItem). Decodes x mark_and_letter old (NotAllowed c) mid)
      (sym (item_is c e ∙ of_not_allowed allowed c (unicode_escape (rest old)) (scalar_is_none c scalar range) other))
      (record { text = read.text; here = taken; value = refl; fault = refl })

  surrogate_decoded : (c : ℕ) (new : At) → code_point ≡ Some c → OutOfScalarRange c → c ≤ last_code_point
      → new.text ≡ mid.text
      → mark_and_letter ++ rest old
      ≡ (mark_and_letter ++ surrogate_text c (unicode_escape (rest old))) ++ rest new
      → Decodes (item_of_escape allowed (unicode_escape (rest old))) mark_and_letter old Bad new
  surrogate_decoded c new e out small text here =
      subst (λ (x : NameItem). Decodes x mark_and_letter old Bad new)
      (sym (item_is c e ∙ of_surrogate allowed c (unicode_escape (rest old)) (surrogate_is c out small)))
      (record { text = text ∙ read.text; here = here; value = refl; fault = refl })

  pub decoded_alone : (c : ℕ) → code_point ≡ Some c → OutOfScalarRange c → c ≤ last_code_point
      → (is_high_surrogate c && not (begins (λ d. d == left_curly_bracket) (rest old))) ≡ false
      → Decodes (item_of_escape allowed (unicode_escape (rest old))) mark_and_letter old Bad mid
  decoded_alone c e out small lone =
      let alone = surrogate_alone c (unicode_escape (rest old))
      (ap (λ b. is_high_surrogate c && not b) (brace_begins (rest old)) ∙ lone) in
      surrogate_decoded c mid e out small refl
      (taken ∙ ap (λ t. (mark_and_letter ++ t) ++ rest mid) (sym alone))

  pub decoded_pair : (c : ℕ) (new : At) → code_point ≡ Some c → OutOfScalarRange c → c ≤ last_code_point
      → c < 0xDC00 → begins (λ d. d == left_curly_bracket) (rest old) ≡ false → new.text ≡ mid.text
      → rest mid ≡ low_surrogate_escape (rest mid) ++ rest new
      → Decodes (item_of_escape allowed (unicode_escape (rest old))) mark_and_letter old Bad new
  decoded_pair c new e out small below none text passed =
      let escape = unicode_escape (rest old) in
      let high : (is_high_surrogate c && not (begins (λ d. d == left_curly_bracket) escape.text)) ≡ true =
      rw (high_is c out small below, brace_begins (rest old), none) refl in
      let pair = surrogate_pair c escape high
      ∙ ap (λ t. escape.text ++ low_surrogate_escape t) read.left in
      surrogate_decoded c new e out small text
      (taken
      ∙ ap (λ t. (mark_and_letter ++ escape.text) ++ t) passed
      ∙ ap (λ t. mark_and_letter ++ t)
      (sym (append_assoc escape.text (low_surrogate_escape (rest mid)) (rest new)))
      ∙ ap (λ t. (mark_and_letter ++ t) ++ rest new) (sym pair))

-- a surrogate that no other may follow: in braces, or a low one
pub braced_alone : (c : ℕ) (text : List ℕ) → begins (λ d. d == left_curly_bracket) text ≡ true
    → (is_high_surrogate c && not (begins (λ d. d == left_curly_bracket) text)) ≡ false
braced_alone c text brace = rw brace (and_false (is_high_surrogate c))

pub low_alone : (c : ℕ) (text : List ℕ) → 0xDC00 ≤ c
    → (is_high_surrogate c && not (begins (λ d. d == left_curly_bracket) text)) ≡ false
low_alone c text h = rw (low_is c h) refl

-- behind a `\`, without the letter
pub other_decoded : (allowed : ℕ → Bool) (old mid new : At) (r : Option ℕ)
    → begins (λ c. c == latin_small_letter_u) (rest old) ≡ false → mid ≡ old
    → IfNone r ((rest mid ≡ []) × (new ≡ mid)) → IfSome r (λ c. Reads mid new c)
    → Decodes (escape_item allowed (rest old)) (backslash ∷ []) old Bad new
other_decoded allowed old mid new None other same none some =
    let at_end : rest old ≡ [] = ap rest (sym same) ∙ none.0 in
    subst (λ t. Decodes (escape_item allowed t) (backslash ∷ []) old Bad new) (sym at_end)
    (subst (λ (x : NameItem). Decodes x (backslash ∷ []) old Bad new) (sym (no_escape allowed))
    (record {
      text = ap (λ (a : At). a.text) (none.1 ∙ same);
      here = ap (λ (a : At). backslash ∷ rest a) (sym (none.1 ∙ same));
      value = refl;
      fault = refl;
    }))
other_decoded allowed old mid new (Some c) other same none read =
    let here : rest old ≡ c ∷ rest new = ap rest (sym same) ∙ read.here in
    let no : (c == latin_small_letter_u) ≡ false = ap (begins (λ c. c == latin_small_letter_u)) (sym here) ∙ other in
    subst (λ t. Decodes (escape_item allowed t) (backslash ∷ []) old Bad new) (sym here)
    (subst (λ (x : NameItem). Decodes x (backslash ∷ []) old Bad new) (sym (other_escape allowed c (rest new) no))
    (record {
      text = read.text ∙ ap (λ (a : At). a.text) same;
      here = ap (λ t. backslash ∷ t) here;
      value = refl;
      fault = refl;
    }))

pub unicode_decoded : (allowed : ℕ → Bool) (old mid new : At) (decoding : Decoding)
    → Reads old mid latin_small_letter_u
    → Decodes (item_of_escape allowed (unicode_escape (rest mid))) mark_and_letter mid decoding new
    → Decodes (escape_item allowed (rest old)) (backslash ∷ []) old decoding new
unicode_decoded allowed old mid new decoding letter decodes =
    subst (λ t. Decodes (escape_item allowed t) (backslash ∷ []) old decoding new) (sym letter.here)
    (subst (λ (x : NameItem). Decodes x (backslash ∷ []) old decoding new) (sym (escape_there allowed (rest mid)))
    (record {
      text = decodes.text ∙ letter.text;
      here = ap (λ t. backslash ∷ t) letter.here ∙ decodes.here;
      value = decodes.value;
      fault = decodes.fault;
    }))
