-- A token that is read again, for the last time, ends where it did or behind that.
use Rattle.std.proofs.Common.{◌≡◌, ℕ, ◌≤◌, true, false, ◌==◌, List, [], ◌∷◌, ◌++◌, drop, refl, sym}
use Rattle.std.proofs.Common.{◌∙◌, ap, subst, arith, Some, None, inl, inr, append-nil}
use Rattle.std.specs.Prelude.{if◌then◌else◌, ◌⊎◌, ◌≢◌, IfSome}
use Rattle.std.specs.Str.{IsCharBoundary, IsUtf8}
use Rattle.std.proofs.lemmas.Bool.{eqb-true, or_cases}
use Rattle.js_text.specs.Ascii.{equals_sign, hyphen_minus, slash}
use Rattle.js_text.specs.Characters.{begins, from_first, from_place, is_line_terminator}
use Rattle.js_text.proofs.TextLemmas.{place_past}
use Rattle.js_kind.specs.Kinds.{is_one_of, kind_text, number}
use Rattle.js_kind.proofs.KindNumbers.{number_injective}
use Rattle.js_kind.specs.TokenParts.{TokenParts}
use Rattle.js_kind.specs.declared.kind.Kind.{Kind}
use Rattle.js_kind.specs.declared.kind.Kind.TheVariants.{Eof, RCurly, Slash, SlashEq, TemplateMiddle}
use Rattle.js_kind.specs.declared.kind.Kind.TheVariants.{TemplateTail as TailKind}
use Rattle.js_grammar.specs.Goals.{ReadsExpression, ReadsJsxName, ReadsPart, next_part}
use Rattle.js_grammar.specs.Jsx.{ends_jsx_name, jsx_name_reading, jsx_name_up_to}
use Rattle.js_grammar.specs.Outcome.{Outcome}
use Rattle.js_grammar.specs.Reading.{Reading}
use Rattle.js_grammar.specs.RegularExpression.{behind_body, behind_body_character, ends_flags, regular_expression}
use Rattle.js_grammar.specs.RegularExpression.{regular_expression_reading}
use Rattle.js_grammar.specs.ReLexed.{HasSpelling, again_kinds}
use Rattle.js_grammar.specs.UnicodeEscape.{right_curly_bracket}
use Rattle.js_grammar.specs.declared.goal.Goal.TheVariants.{RegularExpression, TemplateTail as TailGoal}
use Rattle.js_grammar.proofs.AgainKinds.{again_is_re_lexed, only_one}
use Rattle.js_grammar.proofs.GoalReadings.{IsRead, Leaves, body_leaves, expression_read, expression_terminated, expression_unterminated}
use Rattle.js_grammar.proofs.GoalReadings.{finds_body_characters, leaves_dropped, leaves_from_first, leaves_then, one_part}
use Rattle.js_grammar.proofs.NumberItems.{true_or_false}
use Rattle.js_grammar.proofs.QuotedValues.{part_kind_is}
use Rattle.js_grammar.proofs.ReadingLemmas.{IsTaken}
use Rattle.js_grammar.proofs.Spans.{part_is_taken}

-- The token ends at the end of the other or behind it.
abbrev EndsBehind : TokenParts → TokenParts → Type 0
EndsBehind last token = last.end ≤ token.end

-- what is left of a text behind a place is what is left of it behind another one, and more
leaves_behind : (text : List ℕ) (last token : TokenParts) → IsUtf8 text → IsCharBoundary text last.end
    → IsCharBoundary text token.end → Leaves (from_place text last.end) (from_place text token.end)
    → EndsBehind last token
leaves_behind text last token u b d leaves =
    let past = place_past text last.end token.end leaves.0 u b d leaves.1 in omega (arith, past)

-- the tail of a text of which some characters were taken
leaves_tail : (c : ℕ) (cs taken rest : List ℕ) → c ∷ cs ≡ taken ++ rest → taken ≢ [] → Leaves cs rest
leaves_tail c cs [] rest e some = absurd (some refl)
leaves_tail c cs (d ∷ ds) rest e some = (ds, ap (drop 1) e)

-- what is left behind a token of this spelling, of which more was taken
spelled_tail : (text : List ℕ) (last : TokenParts) (kind : Kind) (c : ℕ) (taken rest : List ℕ) → kind_text kind ≡ c ∷ []
    → last.kind ≡ kind → from_place text last.start ≡ kind_text last.kind ++ from_place text last.end
    → from_place text last.start ≡ taken ++ rest → taken ≢ [] → Leaves (from_place text last.end) rest
spelled_tail text last kind c taken rest one is here whole some =
    leaves_tail c (from_place text last.end) taken rest
    (ap (λ l. l ++ from_place text last.end) (sym one ∙ ap kind_text (sym is)) ∙ sym here ∙ whole) some

part_is_no_end : (here behind : List ℕ) → here ≡ right_curly_bracket ∷ behind → (next_part here).kind ≡ Eof → ⊥
part_is_no_end here behind e =
    subst (λ h. (next_part h).kind ≡ Eof → ⊥) (sym e)
    (part_kind_is (λ kind. kind ≡ Eof → ⊥) TemplateMiddle TailKind (λ e. cc) (λ e. cc) (λ e. cc)
    right_curly_bracket behind)

-- The token starts where the last one did, and ends where that did or behind it.
pub record ReadsOver (last token : TokenParts) : Type 0 where
  pub start : token.start ≡ last.start
  pub end : last.end ≤ token.end

pub part_over : (text : List ℕ) (last : TokenParts) (o : Outcome) → IsUtf8 text → IsCharBoundary text last.end
    → HasSpelling text last → is_one_of (again_kinds TailGoal) last.kind ≡ true → ReadsPart text last.start o
    → ReadsOver last o.token
part_over text last o u d spelled fit read =
    let kind : last.kind ≡ RCurly = only_one last.kind RCurly fit in
    let taken : IsTaken (from_place text last.start) (next_part (from_place text last.start)) =
    subst (λ h. IsTaken h (next_part h)) (sym read.here)
    (part_is_taken TemplateMiddle TailKind right_curly_bracket read.behind) in
    let some = taken.some (part_is_no_end (from_place text last.start) read.behind read.here) in
    let leaves =
    spelled_tail text last RCurly right_curly_bracket (next_part (from_place text last.start)).taken
    (next_part (from_place text last.start)).rest refl kind (spelled (again_is_re_lexed TailGoal last.kind fit)) taken.here some
    in record {
      start = ap (λ x. x.token.start) read.outcome_is;
      end =
          leaves_behind text last o.token u d read.end
          (subst (Leaves (from_place text last.end)) read.rest leaves);
    }

ends_no_line : is_line_terminator equals_sign ≡ false
unfolding is_line_terminator
ends_no_line = refl

is_body_character : (cs : List ℕ) → behind_body_character (equals_sign ∷ cs) ≡ Some cs
is_body_character cs = ap (λ b. if b then None else Some cs) ends_no_line

-- what is left behind a regular expression that begins with `/=` is left behind these
divided_leaves : (cs : List ℕ) → Leaves cs (regular_expression (equals_sign ∷ cs)).rest
divided_leaves cs =
    elim (true_or_false (begins (λ c. c == slash) (behind_body (equals_sign ∷ cs)))) [
      | inl e ↦ rw (expression_terminated (slash ∷ equals_sign ∷ cs) (behind_body (equals_sign ∷ cs)) e) closed
      | inr e ↦ rw (expression_unterminated (slash ∷ equals_sign ∷ cs) (behind_body (equals_sign ∷ cs)) e)
          (cs, sym (append-nil cs))
    ]
  where
    left : List ℕ
    left = behind_body (equals_sign ∷ cs)

    body : Leaves cs left
    body =
        subst (Leaves cs)
        (sym (one_part behind_body_character finds_body_characters (equals_sign ∷ cs) cs (is_body_character cs)))
        (body_leaves cs)

    closed : Leaves cs (from_first ends_flags (drop 1 left))
    closed =
        leaves_then cs left (from_first ends_flags (drop 1 left)) body
        (leaves_then left (drop 1 left) (from_first ends_flags (drop 1 left)) (leaves_dropped 1 left)
        (leaves_from_first ends_flags (drop 1 left)))

expression_taken : (cs : List ℕ) → IsTaken (slash ∷ cs) (regular_expression cs)
expression_taken cs =
    let read : IfSome (regular_expression_reading (slash ∷ cs)) (IsRead (slash ∷ cs)) = expression_read (slash ∷ cs) in
    read.taken

expression_is_no_end : (cs : List ℕ) → (regular_expression cs).kind ≡ Eof → ⊥
expression_is_no_end cs =
    elim (true_or_false (begins (λ c. c == slash) (behind_body cs))) [
      | inl e ↦ rw (expression_terminated (slash ∷ cs) (behind_body cs) e) (λ is. cc)
      | inr e ↦ rw (expression_unterminated (slash ∷ cs) (behind_body cs) e) (λ is. cc)
    ]

found_expression : (cs : List ℕ) (found : Reading) → regular_expression_reading (slash ∷ cs) ≡ Some found
    → found ≡ regular_expression cs
found_expression cs found is = (let both : Some (regular_expression cs) ≡ Some found = is in cc)

one_of_two : (kind : Kind) → is_one_of (again_kinds RegularExpression) kind ≡ true
    → (kind ≡ Slash) ⊎ (kind ≡ SlashEq)
one_of_two kind fit = by_cases (or_cases (number kind == number Slash) (is_one_of (SlashEq ∷ []) kind) fit)
  where
    by_cases : ((number kind == number Slash) ≡ true) ⊎ (is_one_of (SlashEq ∷ []) kind ≡ true)
        → (kind ≡ Slash) ⊎ (kind ≡ SlashEq)
    by_cases (inl same) = inl (number_injective kind Slash (eqb-true _ _ same))
    by_cases (inr other) = inr (only_one kind SlashEq other)

pub expression_over : (text : List ℕ) (last : TokenParts) (o : Outcome) → IsUtf8 text → IsCharBoundary text last.end
    → HasSpelling text last → is_one_of (again_kinds RegularExpression) last.kind ≡ true
    → ReadsExpression text last.start o → ReadsOver last o.token
expression_over text last o u d spelled fit read = record {
  start = ap (λ x. x.token.start) read.outcome_is;
  end = leaves_behind text last o.token u d read.end (subst (Leaves (from_place text last.end)) read.rest (by_kind (one_of_two last.kind fit)));
}
  where
    here : from_place text last.start ≡ kind_text last.kind ++ from_place text last.end
    here = spelled (again_is_re_lexed RegularExpression last.kind fit)

    by_kind : (last.kind ≡ Slash) ⊎ (last.kind ≡ SlashEq) → Leaves (from_place text last.end) read.found.rest
    by_kind (inl is) =
        let whole : from_place text last.start ≡ slash ∷ from_place text last.end =
        here ∙ ap (λ k. kind_text k ++ from_place text last.end) is in
        let found : read.found ≡ regular_expression (from_place text last.end) =
        found_expression (from_place text last.end) read.found
        (ap regular_expression_reading (sym whole) ∙ read.read_is) in
        let taken = expression_taken (from_place text last.end) in
        subst (λ (r : Reading). Leaves (from_place text last.end) r.rest) (sym found)
        (leaves_tail slash (from_place text last.end) (regular_expression (from_place text last.end)).taken
        (regular_expression (from_place text last.end)).rest taken.here (taken.some (expression_is_no_end (from_place text last.end))))
    by_kind (inr is) =
        let whole : from_place text last.start ≡ slash ∷ equals_sign ∷ from_place text last.end =
        here ∙ ap (λ k. kind_text k ++ from_place text last.end) is in
        let found : read.found ≡ regular_expression (equals_sign ∷ from_place text last.end) =
        found_expression (equals_sign ∷ from_place text last.end) read.found
        (ap regular_expression_reading (sym whole) ∙ read.read_is) in
        subst (λ (r : Reading). Leaves (from_place text last.end) r.rest) (sym found)
        (divided_leaves (from_place text last.end))

pub name_over : (text : List ℕ) (last : TokenParts) (o : Outcome) → IsUtf8 text → ReadsJsxName text last o
    → ReadsOver last o.token
name_over text last o u read = record {
  start = ap (λ x. x.token.start) read.reads.outcome_is;
  end =
      leaves_behind text last o.token u read.name_end read.reads.end
      (subst (Leaves (from_place text last.end)) read.reads.rest
      (found_name read.part (from_place text last.end) read.reads.found read.reads.read_is));
}
  where
    found_name : (part behind : List ℕ) (found : Reading) → jsx_name_reading part behind ≡ Some found
        → Leaves behind found.rest
    found_name part behind found is =
        elim (true_or_false (begins (λ c. c == hyphen_minus) behind)) [
          | inl dash ↦ (
              let same : Some (jsx_name_up_to part behind (from_first ends_jsx_name behind)) ≡ Some found =
              sym (ap (λ b. if b then Some (jsx_name_up_to part behind
              (from_first ends_jsx_name behind)) else None) dash) ∙ is in
              let it : jsx_name_up_to part behind (from_first ends_jsx_name behind) ≡ found = cc in
              subst (λ (r : Reading). Leaves behind r.rest) it (leaves_from_first ends_jsx_name behind))
          | inr none ↦ absurd (let no : None ≡ Some found =
              sym (ap (λ b. if b then Some (jsx_name_up_to part behind
              (from_first ends_jsx_name behind)) else None) none) ∙ is in cc)
        ]
