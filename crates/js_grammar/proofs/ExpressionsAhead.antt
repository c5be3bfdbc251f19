-- What is read of a regular expression depends on its characters, and on the first behind them.
use Rattle.std.proofs.Common.{◌≡◌, ℕ, zero, suc, ◌+◌, ◌<◌, ◌≤◌, Bool, true, false, ◌==◌, List, [], ◌∷◌, ◌++◌, length}
use Rattle.std.proofs.Common.{drop, refl, sym, ◌∙◌, ap, arith, length-append, append_assoc, Option, Some, None}
use Rattle.std.proofs.Common.{inl, inr}
use Rattle.std.specs.Prelude.{if◌then◌else◌}
use Rattle.std.specs.Str.{encode_utf8_all}
use Rattle.std.proofs.lemmas.List.{append_cancel_right}
use Rattle.js_text.specs.Ascii.{backslash, slash}
use Rattle.js_text.specs.Characters.{before_first, begins, from_first, is_line_terminator}
use Rattle.js_text.proofs.TextLemmas.{before_from}
use Rattle.js_kind.specs.declared.kind.Kind.TheVariants.{RegExp}
use Rattle.js_grammar.specs.Reading.{Reading, before_rest, read_up_to, size_of}
use Rattle.js_grammar.specs.RegularExpression.{behind_all, behind_body, behind_body_character, behind_bracket}
use Rattle.js_grammar.specs.RegularExpression.{behind_class, behind_class_character, behind_non_terminator, ends_flags}
use Rattle.js_grammar.specs.RegularExpression.{expression_of_body, flag_reports, is_any, left_square_bracket, no_flags}
use Rattle.js_grammar.specs.RegularExpression.{regular_expression, right_square_bracket}
use Rattle.js_grammar.specs.RegularExpression.{with_letters}
use Rattle.js_grammar.proofs.Ahead.{BeginAlike}
use Rattle.js_grammar.proofs.GapsAhead.{FirstIs, first_local}
use Rattle.js_grammar.proofs.GoalReadings.{FindsParts, behind_up_to_leaves, body_leaves, expression_terminated}
use Rattle.js_grammar.proofs.GoalReadings.{expression_unterminated, finds_body_characters, finds_class_characters}
use Rattle.js_grammar.proofs.GoalReadings.{finds_non_terminators, no_part, one_part, part_shorter}
use Rattle.js_grammar.proofs.GoalsAhead.{nothing_left, same_taken}
use Rattle.js_grammar.proofs.NumberItems.{true_or_false}
use Rattle.js_grammar.proofs.NumberSound.{first_is}
use Rattle.js_grammar.proofs.ReadingLemmas.{taken_is}

-- A part that ends before these characters is one in the other text too.
abbrev IsLocal : List ℕ → List ℕ → (List ℕ → Option (List ℕ)) → Type 0
IsLocal ys zs part = (xs ws : List ℕ) → part (xs ++ ys) ≡ Some (ws ++ ys) → part (xs ++ zs) ≡ Some (ws ++ zs)

-- a part does not end before what it begins with
starts_there : {A : Type 0} (part : List ℕ → Option (List ℕ)) → FindsParts part → (ys ws : List ℕ)
    → part ys ≡ Some (ws ++ ys) → A
starts_there part finds ys ws e =
    absurd (omega (arith, part_shorter part finds ys (ws ++ ys) e, length-append ws ys))

character_local : (ys zs : List ℕ) → IsLocal ys zs behind_non_terminator
character_local ys zs [] ws e = starts_there behind_non_terminator finds_non_terminators ys ws e
character_local ys zs (c ∷ cs) ws e = by_line_end (is_line_terminator c) e
  where
    by_line_end : (b : Bool) → (if b then None else Some (cs ++ ys)) ≡ Some (ws ++ ys)
        → (if b then None else Some (cs ++ zs)) ≡ Some (ws ++ zs)
    by_line_end true f = absurd (cc)
    by_line_end false f =
        let same : cs ++ ys ≡ ws ++ ys = cc in ap (λ t. Some (t ++ zs)) (append_cancel_right cs ws ys same)

class_part_local : (ys zs : List ℕ) → IsLocal ys zs behind_class_character
class_part_local ys zs [] ws e = starts_there behind_class_character finds_class_characters ys ws e
class_part_local ys zs (c ∷ cs) ws e = by_mark (c == backslash) (c == right_square_bracket) e
  where
    by_mark : (a b : Bool)
        → (if a then behind_non_terminator (cs ++ ys) else if b then None else behind_non_terminator (c ∷ (cs ++ ys)))
        ≡ Some (ws ++ ys)
        → (if a then behind_non_terminator (cs ++ zs) else if b then None else behind_non_terminator (c ∷ (cs ++ zs)))
        ≡ Some (ws ++ zs)
    by_mark true b f = character_local ys zs cs ws f
    by_mark false true f = absurd (cc)
    by_mark false false f = character_local ys zs (c ∷ cs) ws f

-- All parts up to a character with which none begins, where that is known of shorter texts.
all_from_shorter : (part : List ℕ → Option (List ℕ)) (stop : ℕ) (ys zs : List ℕ) → FindsParts part
    → IsLocal ys zs part → ((cs : List ℕ) → part (stop ∷ cs) ≡ None) → (xs us : List ℕ)
    → ((ws : List ℕ) → length ws < length xs → behind_all part (ws ++ ys) ≡ stop ∷ (us ++ ys)
    → behind_all part (ws ++ zs) ≡ stop ∷ (us ++ zs))
    → behind_all part (xs ++ ys) ≡ stop ∷ (us ++ ys) → behind_all part (xs ++ zs) ≡ stop ∷ (us ++ zs)
all_from_shorter part stop ys zs finds local stops xs us later e = by_part (part (xs ++ ys)) refl
  where
    by_part : (found : Option (List ℕ)) → part (xs ++ ys) ≡ found
        → behind_all part (xs ++ zs) ≡ stop ∷ (us ++ zs)
    by_part None f =
        let same : xs ++ ys ≡ (stop ∷ us) ++ ys = sym (no_part part (xs ++ ys) f) ∙ e in
        let front : xs ≡ stop ∷ us = append_cancel_right xs (stop ∷ us) ys same in
        ap (λ t. behind_all part (t ++ zs)) front ∙ no_part part (stop ∷ (us ++ zs)) (stops (us ++ zs))
    by_part (Some r) f =
        let behind : behind_all part r ≡ stop ∷ (us ++ ys) = sym (one_part part finds (xs ++ ys) r f) ∙ e in
        let leaves = behind_up_to_leaves part finds (length r) r in
        let ws = leaves.0 ++ (stop ∷ us) in
        let rest : r ≡ ws ++ ys =
        leaves.1 ∙ ap (λ t. leaves.0 ++ t) behind ∙ sym (append_assoc leaves.0 (stop ∷ us) ys) in
        let there = local xs ws (f ∙ ap Some rest) in
        let less : length ws < length xs =
        omega (
          arith,
          part_shorter part finds (xs ++ ys) r f,
          ap length rest,
          length-append ws ys,
          length-append xs ys,
        ) in
        one_part part finds (xs ++ zs) (ws ++ zs) there ∙ later ws less (ap (behind_all part) (sym rest) ∙ behind)

all_up_to : (part : List ℕ → Option (List ℕ)) (stop : ℕ) (ys zs : List ℕ) → FindsParts part → IsLocal ys zs part
    → ((cs : List ℕ) → part (stop ∷ cs) ≡ None) → (n : ℕ) (xs us : List ℕ) → length xs ≤ n
    → behind_all part (xs ++ ys) ≡ stop ∷ (us ++ ys) → behind_all part (xs ++ zs) ≡ stop ∷ (us ++ zs)
all_up_to part stop ys zs finds local stops zero xs us room e =
    all_from_shorter part stop ys zs finds local stops xs us (λ ws less f. absurd (omega (arith, room, less))) e
all_up_to part stop ys zs finds local stops (suc n) xs us room e =
    all_from_shorter part stop ys zs finds local stops xs us
    (λ ws less f. all_up_to part stop ys zs finds local stops n ws us (omega (arith, room, less)) f) e

all_local : (part : List ℕ → Option (List ℕ)) (stop : ℕ) (ys zs : List ℕ) → FindsParts part → IsLocal ys zs part
    → ((cs : List ℕ) → part (stop ∷ cs) ≡ None) → (xs us : List ℕ)
    → behind_all part (xs ++ ys) ≡ stop ∷ (us ++ ys) → behind_all part (xs ++ zs) ≡ stop ∷ (us ++ zs)
all_local part stop ys zs finds local stops xs us =
    all_up_to part stop ys zs finds local stops (length xs) xs us (omega arith)

class_local : (ys zs : List ℕ) → IsLocal ys zs behind_class
class_local ys zs xs ws e =
    by_bracket (begins (λ c. c == right_square_bracket) (behind_all behind_class_character (xs ++ ys))) refl e
  where
    by_bracket : (b : Bool)
        → begins (λ c. c == right_square_bracket) (behind_all behind_class_character (xs ++ ys)) ≡ b
        → (if b then Some (drop 1 (behind_all behind_class_character (xs ++ ys))) else None) ≡ Some (ws ++ ys)
        → behind_class (xs ++ zs) ≡ Some (ws ++ zs)
    by_bracket true is f =
        let left = behind_all behind_class_character (xs ++ ys) in
        let rest : drop 1 left ≡ ws ++ ys = cc in
        let here : left ≡ right_square_bracket ∷ (ws ++ ys) =
        first_is right_square_bracket left is ∙ ap (λ t. right_square_bracket ∷ t) rest in
        ap behind_bracket
        (all_local behind_class_character right_square_bracket ys zs finds_class_characters (class_part_local ys zs)
        (λ cs. refl) xs ws here)
    by_bracket false is f = absurd (cc)

body_part_local : (ys zs : List ℕ) → IsLocal ys zs behind_body_character
body_part_local ys zs [] ws e = starts_there behind_body_character finds_body_characters ys ws e
body_part_local ys zs (c ∷ cs) ws e = by_mark (c == backslash) (c == left_square_bracket) (c == slash) e
  where
    by_mark : (a b d : Bool)
        → (if a then behind_non_terminator (cs ++ ys) else if b then behind_class (cs ++ ys) else
        if d then None else behind_non_terminator (c ∷ (cs ++ ys))) ≡ Some (ws ++ ys)
        → (if a then behind_non_terminator (cs ++ zs) else if b then behind_class (cs ++ zs) else
        if d then None else behind_non_terminator (c ∷ (cs ++ zs))) ≡ Some (ws ++ zs)
    by_mark true b d f = character_local ys zs cs ws f
    by_mark false true d f = class_local ys zs cs ws f
    by_mark false false true f = absurd (cc)
    by_mark false false false f = character_local ys zs (c ∷ cs) ws f

-- what is read with flags of these letters
abbrev flags_of : List ℕ → List ℕ → ℕ → List ℕ → Reading
flags_of text rest pattern_end letters = record (read_up_to RegExp text rest) {
  regex = Some (record {
    pattern_end = pattern_end;
    flags = with_letters no_flags letters;
    flags_error = is_any (flag_reports no_flags (pattern_end + 1) letters);
  });
  diagnostics = flag_reports no_flags (pattern_end + 1) letters;
}

-- A regular expression that has its end, from what stands behind its `/` on, where its letters end in both texts.
pub terminated_local : (xs ys zs : List ℕ)
    → ((letters : List ℕ) → from_first ends_flags (letters ++ ys) ≡ ys
    → FirstIs ends_flags (letters ++ ys) (letters ++ zs) [] zs)
    → begins (λ c. c == slash) (behind_body (xs ++ ys)) ≡ true → (regular_expression (xs ++ ys)).rest ≡ ys
    → regular_expression (xs ++ zs) ≡ record (regular_expression (xs ++ ys)) { rest = zs }
terminated_local xs ys zs stops is left =
    let text = slash ∷ (xs ++ ys) in
    let other = slash ∷ (xs ++ zs) in
    let behind = behind_body (xs ++ ys) in
    let letters = before_first ends_flags (drop 1 behind) in
    let read = expression_terminated text behind is in
    let rest : from_first ends_flags (drop 1 behind) ≡ ys = sym (ap (λ (r : Reading). r.rest) read) ∙ left in
    let flags : drop 1 behind ≡ letters ++ ys =
    sym (before_from ends_flags (drop 1 behind)) ∙ ap (λ t. letters ++ t) rest in
    let here : behind ≡ slash ∷ (letters ++ ys) = first_is slash behind is ∙ ap (λ t. slash ∷ t) flags in
    let there : behind_body (xs ++ zs) ≡ slash ∷ (letters ++ zs) =
    all_local behind_body_character slash ys zs finds_body_characters (body_part_local ys zs) (λ cs. refl) xs
    letters here in
    let same = stops letters (ap (from_first ends_flags) (sym flags) ∙ rest) in
    let letters_are : before_first ends_flags (letters ++ zs) ≡ letters =
    same.before ∙ ap (before_first ends_flags) (sym flags) in
    let leaves = body_leaves (xs ++ ys) in
    let front : xs ≡ leaves.0 ++ (slash ∷ letters) =
    append_cancel_right xs (leaves.0 ++ (slash ∷ letters)) ys
    (leaves.1 ∙ ap (λ t. leaves.0 ++ t) here ∙ sym (append_assoc leaves.0 (slash ∷ letters) ys)) in
    let split : other ≡ (slash ∷ leaves.0) ++ (slash ∷ (letters ++ zs)) =
    ap (λ t. slash ∷ (t ++ zs)) front ∙ ap (λ t. slash ∷ t) (append_assoc leaves.0 (slash ∷ letters) zs) in
    let ends : before_rest other (slash ∷ (letters ++ zs)) ≡ before_rest text behind =
    taken_is other (slash ∷ leaves.0) (slash ∷ (letters ++ zs)) split
    ∙ sym (taken_is text (slash ∷ leaves.0) behind (ap (λ t. slash ∷ t) leaves.1)) in
    let pattern_end : size_of (read_up_to RegExp other (slash ∷ (letters ++ zs)))
    ≡ size_of (read_up_to RegExp text behind) =
    ap (λ t. length (encode_utf8_all t)) ends in
    ap (expression_of_body other) there
    ∙ expression_terminated other (slash ∷ (letters ++ zs)) refl
    ∙ ap (λ t. flags_of other (from_first ends_flags (letters ++ zs))
    (size_of (read_up_to RegExp other (slash ∷ (letters ++ zs)))) t) letters_are
    ∙ ap (λ n. flags_of other (from_first ends_flags (letters ++ zs)) n letters) pattern_end
    ∙ ap (λ t. flags_of other t (size_of (read_up_to RegExp text behind)) letters) same.from
    ∙ taken (size_of (read_up_to RegExp text behind)) letters
    ∙ ap (λ t. record (flags_of text t (size_of (read_up_to RegExp text behind)) letters) { rest = zs }) (sym rest)
    ∙ ap (λ (r : Reading). record r { rest = zs }) (sym read)
  where
    taken : (n : ℕ) (letters : List ℕ)
        → flags_of (slash ∷ (xs ++ zs)) zs n letters
        ≡ record (flags_of (slash ∷ (xs ++ ys)) ys n letters) { rest = zs }
    taken n letters = rw (sym (same_taken (slash ∷ xs) ys zs)) refl

-- A regular expression, from what stands behind its `/` on.
pub expression_local : (xs ys zs : List ℕ) → BeginAlike ys zs → (regular_expression (xs ++ ys)).rest ≡ ys
    → regular_expression (xs ++ zs) ≡ record (regular_expression (xs ++ ys)) { rest = zs }
expression_local xs ys zs alike left =
    elim (true_or_false (begins (λ c. c == slash) (behind_body (xs ++ ys)))) [
      | inl is ↦
          terminated_local xs ys zs (λ letters e. first_local ends_flags letters ys zs [] alike e) is left
      | inr none ↦
          nothing_left ys zs alike
          (sym (ap (λ (r : Reading). r.rest)
          (expression_unterminated (slash ∷ (xs ++ ys)) (behind_body (xs ++ ys)) none)) ∙ left)
    ]
