-- What the grammar reads is one.
use Rattle.std.proofs.Common.{◌≡◌, ℕ, Bool, true, false, ◌==◌, List, [], ◌∷◌, ◌++◌, length}
use Rattle.std.proofs.Common.{drop, refl, sym, ◌∙◌, ap, subst, arith, inl, inr, Option, Some, None}
use Rattle.std.specs.Prelude.{if◌then◌else◌}
use Rattle.std.specs.List.{list_all}
use Rattle.std.specs.Str.{IsCharBoundary, IsUtf8, bytes_eq}
use Rattle.std.proofs.lemmas.Bool.{eqb-true}
use Rattle.js_text.specs.Ascii.{number_sign}
use Rattle.js_text.specs.Characters.{from_place, from_first, begins}
use Rattle.js_text.specs.declared.source_type.SourceType.{SourceType}
use Rattle.js_text.proofs.TextLemmas.{place_unique}
use Rattle.js_kind.specs.Kinds.{number}
use Rattle.js_kind.specs.TokenParts.{TokenParts}
use Rattle.js_kind.proofs.KindNumbers.{number_injective}
use Rattle.js_kind.specs.declared.kind.Kind.{Kind}
use Rattle.js_grammar.specs.Goals.{ReadsHere, ReadsBehindGap, ReadsHashbang, ReadsPlainly, ReadsPart, GoalReads}
use Rattle.js_grammar.specs.Goals.{spelled_reading, with_gap, ReadsJsxChild, with_warnings}
use Rattle.js_grammar.specs.Goals.{token_alone, line_has_ended_behind}
use Rattle.js_grammar.specs.Goals.ReadsHere.{spelled as spelled_here, recovers}
use Rattle.js_grammar.specs.Goals.ReadsPlainly.{hashbang as hashbang_read, behind_gap}
use Rattle.js_grammar.specs.Hashbang.{IsHashbang}
use Rattle.js_grammar.specs.Name.{begins_name}
use Rattle.js_grammar.specs.Number.{begins_number}
use Rattle.js_grammar.specs.Outcome.{Outcome, outcome_at}
use Rattle.js_grammar.specs.declared.goal.Goal.{Goal}
use Rattle.js_grammar.specs.declared.goal.Goal.TheVariants.{First, Next, TemplateTail as TailGoal}
use Rattle.js_grammar.specs.declared.goal.Goal.TheVariants.{RegularExpression, RightAngle, TypeScriptLeftAngle}
use Rattle.js_grammar.specs.declared.goal.Goal.TheVariants.{TypeScriptRightAngle, JsxIdentifier, JsxChild}
use Rattle.js_grammar.specs.declared.goal.Goal.TheVariants.{JsxAttributeValue}
use Rattle.js_grammar.specs.Angle.{angle_reading, right_angles, first_left_angle, first_right_angle}
use Rattle.js_grammar.specs.Goals.{ReadsAgain, ReadsAngle, ReadsAttributeString, ReadsAttributeValue, ReadsExpression}
use Rattle.js_grammar.specs.Goals.{ReadsFrom, ReadsJsxName, ReadsOn}
use Rattle.js_grammar.specs.Goals.ReadsAttributeValue.{string as attribute_string, plain}
use Rattle.js_grammar.specs.Jsx.{jsx_child_reading, jsx_name_reading, jsx_string_before, jsx_string_reading}
use Rattle.js_grammar.specs.Jsx.{jsx_child_warnings}
use Rattle.js_grammar.specs.RegularExpression.{regular_expression_reading}
use Rattle.std.proofs.lemmas.List.{append_cancel_right}
use Rattle.js_grammar.specs.Punctuators.{Punctuator, punctuators, IsIn}
use Rattle.js_grammar.specs.Reads.{IsSpelled, PlainReads, SameReading}
use Rattle.js_grammar.specs.Reads.PlainReads.{hashbang, spelled}
use Rattle.js_grammar.specs.Reading.{Reading}
use Rattle.js_grammar.specs.Spelling.{Spelling, LongestSpelling}
use Rattle.js_grammar.specs.Spelling.Spelling.{name, private_name, punctuator, number as number_spelled, string}
use Rattle.js_grammar.specs.Spelling.Spelling.{template, end_of_source}
use Rattle.js_grammar.specs.Quoted.{begins_quoted}
use Rattle.js_grammar.specs.StringItems.{is_quote}
use Rattle.js_grammar.proofs.StringBegins.{string_begins_quoted, template_begins_quoted}
use Rattle.js_grammar.proofs.TemplateLaws.{one_template}
use Rattle.js_grammar.proofs.SpellingClasses.{SpelledQuoted, only_quoted, quoted_string, quoted_template}
use Rattle.js_grammar.proofs.GapLemmas.{longest_gap_unique, whole_gap_unique}
use Rattle.js_grammar.proofs.NumberBegins.{number_begins}
use Rattle.js_grammar.proofs.NumberLaws.{one_kind}
use Rattle.js_grammar.proofs.NumberItems.{true_or_false}
use Rattle.js_grammar.proofs.NumberSound.{first_is}
use Rattle.js_grammar.proofs.SpellingClasses.{only_name, only_private_name, only_number}
use Rattle.js_grammar.specs.Spelling.{begins_named}
use Rattle.js_grammar.proofs.Starts.{name_begins, name_is_named, private_is_named, none_named}
use Rattle.js_grammar.proofs.PunctuatorLemmas.{some_text, passes_at}

-- fronts of one length are equal
fronts : {A : Type 0} (xs ys us vs : List A) → xs ++ ys ≡ us ++ vs → length xs ≡ length us → (xs ≡ us) × (ys ≡ vs)
fronts [] ys [] vs e l = (refl, e)
fronts [] ys (u ∷ us) vs e l = absurd (cc)
fronts (x ∷ xs) ys [] vs e l = absurd (cc)
fronts (x ∷ xs) ys (u ∷ us) vs e l =
    let tails : xs ++ ys ≡ us ++ vs = cc in
    let head : x ≡ u = cc in
    let ih = fronts xs ys us vs tails (omega (arith, l)) in
    (ap (λ t. t ∷ xs) head ∙ ap (λ t. u ∷ t) ih.0, ih.1)

-- the kind of the first punctuator with this text
abbrev kind_of : List Punctuator → List ℕ → Option Kind
kind_of [] text = None
kind_of (p ∷ ps) text = if bytes_eq p.text text then Some p.kind else kind_of ps text

-- the kind was found, and is this one
abbrev is_found : Option Kind → Kind → Bool
is_found None k = false
is_found (Some j) k = number j == number k

found_is : (found : Option Kind) (k : Kind) → is_found found k ≡ true → found ≡ Some k
found_is None k e = absurd (cc)
found_is (Some j) k e = ap Some (number_injective j k (eqb-true (number j) (number k) e))

-- each entry is the first of its text
abbrev is_first : Punctuator → Bool
is_first p = is_found (kind_of punctuators p.text) p.kind

firsts : list_all is_first punctuators ≡ true
firsts = refl

first_at : (p : Punctuator) → IsIn p punctuators → kind_of punctuators p.text ≡ Some p.kind
first_at p i = found_is (kind_of punctuators p.text) p.kind (passes_at is_first p punctuators i firsts)

-- the kind of what is spelled without a name or a number
kind_of_other : (t : SourceType) (line_has_ended : Bool) (xs ys : List ℕ) (j k : Kind)
    → Spelling t line_has_ended xs ys j → Spelling t line_has_ended xs ys k
    → begins begins_named (xs ++ ys) ≡ false → begins_number (xs ++ ys) ≡ false
    → begins begins_quoted (xs ++ ys) ≡ false → j ≡ k
kind_of_other t line_has_ended xs ys j k (name is follows kind) s no_named no_number no_quoted =
    let no : true ≡ false = sym (name_is_named (xs ++ ys) (name_begins xs ys is)) ∙ no_named in cc
kind_of_other t line_has_ended xs ys j k (private_name named is follows same kind) s no_named no_number no_quoted =
    let no : true ≡ false =
    sym (private_is_named (named ++ ys)) ∙ ap (λ zs. begins begins_named (zs ++ ys)) (sym same) ∙ no_named in cc
kind_of_other t line_has_ended xs ys j k (number_spelled is follows) s no_named no_number no_quoted =
    let no : true ≡ false = sym (number_begins xs ys j is) ∙ no_number in cc
kind_of_other t line_has_ended xs ys j k (string is kind) s no_named no_number no_quoted =
    let no : true ≡ false = sym (string_begins_quoted xs ys is) ∙ no_quoted in cc
kind_of_other t line_has_ended xs ys j k (template is) s no_named no_number no_quoted =
    let no : true ≡ false = sym (template_begins_quoted xs ys j is) ∙ no_quoted in cc
kind_of_other t line_has_ended xs ys j k s (string is kind) no_named no_number no_quoted =
    let no : true ≡ false = sym (string_begins_quoted xs ys is) ∙ no_quoted in cc
kind_of_other t line_has_ended xs ys j k s (template is) no_named no_number no_quoted =
    let no : true ≡ false = sym (template_begins_quoted xs ys k is) ∙ no_quoted in cc
kind_of_other t line_has_ended xs ys j k s (name is follows kind) no_named no_number no_quoted =
    let no : true ≡ false = sym (name_is_named (xs ++ ys) (name_begins xs ys is)) ∙ no_named in cc
kind_of_other t line_has_ended xs ys j k s (private_name named is follows same kind) no_named no_number no_quoted =
    let no : true ≡ false =
    sym (private_is_named (named ++ ys)) ∙ ap (λ zs. begins begins_named (zs ++ ys)) (sym same) ∙ no_named in cc
kind_of_other t line_has_ended xs ys j k s (number_spelled is follows) no_named no_number no_quoted =
    let no : true ≡ false = sym (number_begins xs ys k is) ∙ no_number in cc
kind_of_other t line_has_ended xs ys j k (punctuator p i same allowed kind)
    (punctuator q i' same' allowed' kind') no_named no_number no_quoted =
    let texts : p.text ≡ q.text = sym same ∙ same' in
    let kinds : Some p.kind ≡ Some q.kind =
    sym (first_at p i) ∙ ap (kind_of punctuators) texts ∙ first_at q i' in
    cc
kind_of_other t line_has_ended xs ys j k (punctuator p i same allowed kind) (end_of_source none end kind')
    no_named no_number no_quoted = absurd (some_text p i (sym same ∙ none))
kind_of_other t line_has_ended xs ys j k (end_of_source none end kind) (punctuator p i same allowed kind')
    no_named no_number no_quoted = absurd (some_text p i (sym same ∙ none))
kind_of_other t line_has_ended xs ys j k (end_of_source none end kind) (end_of_source none' end' kind')
    no_named no_number no_quoted = kind ∙ sym kind'

-- the kind of a string or a template
one_quoted : (xs ys : List ℕ) (j k : Kind) → SpelledQuoted xs ys j → SpelledQuoted xs ys k → j ≡ k
one_quoted xs ys j k a b =
    elim (true_or_false (begins is_quote (xs ++ ys))) [
      | inl quote ↦
          (quoted_string (xs ++ ys) xs ys j quote refl a).1 ∙ sym (quoted_string (xs ++ ys) xs ys k quote refl b).1
      | inr none ↦ (
          let one = quoted_template (xs ++ ys) xs ys j none refl a in
          let other = quoted_template (xs ++ ys) xs ys k none refl b in
          (one_template (xs ++ ys) xs ys xs ys j k (record { here = refl; part = one })
          (record { here = refl; part = other })).kind_is)
    ]

-- a text has one kind
kind_unique : (t : SourceType) (line_has_ended : Bool) (xs ys : List ℕ) (j k : Kind)
    → Spelling t line_has_ended xs ys j → Spelling t line_has_ended xs ys k → j ≡ k
kind_unique t line_has_ended xs ys j k s r =
    elim (true_or_false (begins_name (xs ++ ys))) [
      | inl named ↦ (
          let a = only_name t line_has_ended (xs ++ ys) xs ys j named refl s in
          let b = only_name t line_has_ended (xs ++ ys) xs ys k named refl r in
          a.kind_is ∙ sym b.kind_is)
      | inr no_name ↦ elim (true_or_false (begins (λ c. c == number_sign) (xs ++ ys))) [
        | inl private ↦ (
            let here : number_sign ∷ drop 1 (xs ++ ys) ≡ xs ++ ys = sym (first_is number_sign (xs ++ ys) private) in
            let a = only_private_name t line_has_ended (drop 1 (xs ++ ys)) xs ys j here s in
            let b = only_private_name t line_has_ended (drop 1 (xs ++ ys)) xs ys k here r in
            a.kind_is ∙ sym b.kind_is)
        | inr no_private ↦ elim (true_or_false (begins_number (xs ++ ys))) [
          | inl number ↦ (
              let a = only_number t line_has_ended (xs ++ ys) xs ys j number refl s in
              let b = only_number t line_has_ended (xs ++ ys) xs ys k number refl r in
              one_kind xs j k a.number b.number)
          | inr no_number ↦ elim (true_or_false (begins begins_quoted (xs ++ ys))) [
            | inl quoted ↦
                one_quoted xs ys j k (only_quoted t line_has_ended (xs ++ ys) xs ys j quoted refl s)
                (only_quoted t line_has_ended (xs ++ ys) xs ys k quoted refl r)
            | inr no_quoted ↦
                kind_of_other t line_has_ended xs ys j k s r (none_named (xs ++ ys) no_name no_private) no_number
                no_quoted
          ]
        ]
      ]
    ]

-- the longest spelling is one
pub longest_unique : (t : SourceType) (line_has_ended : Bool) (text xs ys us vs : List ℕ) (j k : Kind)
    → LongestSpelling t line_has_ended text xs ys j → LongestSpelling t line_has_ended text us vs k
    → (xs ≡ us) × (ys ≡ vs) × (j ≡ k)
longest_unique t line_has_ended text xs ys us vs j k a b =
    let same_length : length xs ≡ length us =
    omega (arith, a.longest us vs k b.here b.spelling, b.longest xs ys j a.here a.spelling) in
    let same = fronts xs ys us vs (sym a.here ∙ b.here) same_length in
    let other : Spelling t line_has_ended xs ys k =
    subst (λ r. Spelling t line_has_ended xs r k) (sym same.1)
    (subst (λ r. Spelling t line_has_ended r vs k) (sym same.0) b.spelling) in
    (same.0, same.1, kind_unique t line_has_ended xs ys j k a.spelling other)

hashbang_unique : (text : List ℕ) (line_has_ended : Bool) (a b : TokenParts) → IsUtf8 text → IsHashbang text a
    → IsHashbang text b → a.is_on_new_line ≡ line_has_ended → b.is_on_new_line ≡ line_has_ended → SameReading a b
hashbang_unique text line_has_ended a b utf8 h g m n = record {
  start = h.start ∙ sym g.start;
  end = place_unique text a.end b.end utf8 h.end g.end (h.up_to_line_end ∙ sym g.up_to_line_end);
  kind = h.kind ∙ sym g.kind;
  is_on_new_line = m ∙ sym n;
}

-- spellings at one place
here_unique : (text : List ℕ) (t : SourceType) (line_has_ended : Bool) (a b : TokenParts) (xs us : List ℕ)
    → IsUtf8 text → a.start ≡ b.start
    → IsCharBoundary text a.end → IsCharBoundary text b.end
    → LongestSpelling t line_has_ended (from_place text a.start) xs (from_place text a.end) a.kind
    → LongestSpelling t line_has_ended (from_place text b.start) us (from_place text b.end) b.kind
    → (a.end ≡ b.end) × (a.kind ≡ b.kind)
here_unique text t line_has_ended a b xs us utf8 start ea eb la lb =
    let there =
    subst (λ p. LongestSpelling t line_has_ended (from_place text p) us (from_place text b.end) b.kind)
    (sym start) lb in
    let same = longest_unique t line_has_ended _ _ _ _ _ _ _ la there in
    (place_unique text a.end b.end utf8 ea eb same.1, same.2)

spelled_unique : (text : List ℕ) (t : SourceType) (line_has_ended : Bool) (place : ℕ) (a b : TokenParts) → IsUtf8 text
    → IsSpelled text t line_has_ended place a → IsSpelled text t line_has_ended place b → SameReading a b
spelled_unique text t line_has_ended place a b utf8 h g =
    let gaps = longest_gap_unique _ _ _ _ _ _ _ h.gap g.gap in
    let start : a.start ≡ b.start = place_unique text _ _ utf8 h.start g.start gaps.1 in
    let there =
    subst (λ e. LongestSpelling t e (from_place text b.start) g.spelled (from_place text b.end) b.kind)
    (sym gaps.0) g.spelling in
    let same = here_unique text t a.is_on_new_line a b h.spelled g.spelled utf8 start h.end g.end h.spelling there in
    record { start = start; end = same.0; kind = same.1; is_on_new_line = gaps.0 }

-- the tokens that the grammar reads at a place have one span, kind and newline flag
pub plain_reads_unique : (text : List ℕ) (t : SourceType) (goal : Goal) (line_has_ended : Bool) (place : ℕ)
    (a b : TokenParts) → IsUtf8 text
    → PlainReads text t goal line_has_ended place a → PlainReads text t goal line_has_ended place b → SameReading a b
plain_reads_unique text t goal line_has_ended place a b utf8 (hashbang x h m) (hashbang y g n) =
    hashbang_unique text line_has_ended a b utf8 h g m n
plain_reads_unique text t goal line_has_ended place a b utf8 (hashbang x h m) (spelled y g) = absurd (cc)
plain_reads_unique text t goal line_has_ended place a b utf8 (spelled x h) (hashbang y g n) = absurd (cc)
plain_reads_unique text t goal line_has_ended place a b utf8 (spelled x h) (spelled y g) =
    spelled_unique text t line_has_ended place a b utf8 h g

-- what is read behind one gap is one
pub reading_unique : (t : SourceType) (line_has_ended : Bool) (here : List ℕ) (r s : Reading)
    → ReadsHere t line_has_ended here r → ReadsHere t line_has_ended here s → r ≡ s
reading_unique t line_has_ended here r s (spelled_here xs a e) (spelled_here us b f) =
    let same = longest_unique t line_has_ended here xs r.rest us s.rest r.kind s.kind a b in
    e ∙ ap (λ zs. spelled_reading zs r.rest r.kind) same.0
    ∙ ap (λ zs. spelled_reading us zs r.kind) same.1
    ∙ ap (spelled_reading us s.rest) same.2 ∙ sym f
reading_unique t line_has_ended here r s (spelled_here xs a e) (recovers nothing f) =
    absurd (nothing xs r.rest r.kind a.here a.spelling)
reading_unique t line_has_ended here r s (recovers nothing e) (spelled_here us b f) =
    absurd (nothing us s.rest s.kind b.here b.spelling)
reading_unique t line_has_ended here r s (recovers nothing e) (recovers nothing' f) =
    let same : Some r ≡ Some s = sym e ∙ f in cc

behind_gap_unique : (text : List ℕ) (t : SourceType) (before : Option TokenParts) (place : ℕ) (a b : Outcome)
    → IsUtf8 text
    → ReadsBehindGap text t before place a → ReadsBehindGap text t before place b → a ≡ b
behind_gap_unique text t before place a b utf8 h g =
    let gaps =
    whole_gap_unique t (line_has_ended_behind before) (from_place text place) h.pieces g.pieces h.line_has_ended
    g.line_has_ended
    (from_place text a.token.start) (from_place text b.token.start) h.gap g.gap in
    let start : a.token.start ≡ b.token.start = place_unique text _ _ utf8 h.start g.start gaps.2 in
    let there : ReadsHere t h.line_has_ended (from_place text a.token.start) g.reading =
    subst (λ e. ReadsHere t e (from_place text a.token.start) g.reading) (sym gaps.1)
    (subst (λ p. ReadsHere t g.line_has_ended (from_place text p) g.reading) (sym start) g.here) in
    let reading : h.reading ≡ g.reading =
    reading_unique t h.line_has_ended (from_place text a.token.start) h.reading g.reading h.here there in
    let same : outcome_at h.line_has_ended a.token.start h.reading
    ≡ outcome_at g.line_has_ended b.token.start g.reading =
    ap (λ e. outcome_at e a.token.start h.reading) gaps.1
    ∙ ap (λ p. outcome_at g.line_has_ended p h.reading) start
    ∙ ap (outcome_at g.line_has_ended b.token.start) reading in
    h.outcome_is ∙ ap (λ ps. with_gap t before place ps (outcome_at h.line_has_ended a.token.start h.reading)) gaps.0
    ∙ ap (with_gap t before place g.pieces) same ∙ sym g.outcome_is

hashbang_outcome_unique : (text : List ℕ) (line_has_ended : Bool) (a b : Outcome) → IsUtf8 text
    → ReadsHashbang text line_has_ended a → ReadsHashbang text line_has_ended b → a ≡ b
hashbang_outcome_unique text line_has_ended a b utf8 h g =
    let same =
    hashbang_unique text line_has_ended a.token b.token utf8 h.is_hashbang g.is_hashbang h.is_on_new_line
    g.is_on_new_line in
    let tokens : a.token ≡ b.token =
    rw (
      same.start,
      same.end,
      same.kind,
      same.is_on_new_line,
      h.escaped ∙ sym g.escaped,
      h.has_separator
          ∙ sym g.has_separator,
    ) refl in
    h.alone ∙ ap token_alone tokens ∙ sym g.alone

plainly_unique : (text : List ℕ) (t : SourceType) (goal : Goal) (before : Option TokenParts) (place : ℕ)
    (a b : Outcome) → IsUtf8 text
    → ReadsPlainly text t goal before place a → ReadsPlainly text t goal before place b → a ≡ b
plainly_unique text t goal before place a b utf8 (hashbang_read x h) (hashbang_read y g) =
    hashbang_outcome_unique text (line_has_ended_behind before) a b utf8 h g
plainly_unique text t goal before place a b utf8 (hashbang_read x h) (behind_gap y g) = absurd (cc)
plainly_unique text t goal before place a b utf8 (behind_gap x h) (hashbang_read y g) = absurd (cc)
plainly_unique text t goal before place a b utf8 (behind_gap x h) (behind_gap y g) =
    behind_gap_unique text t before place a b utf8 h g

-- the next part of a template is one
part_unique : (text : List ℕ) (start : ℕ) (a b : Outcome) → IsUtf8 text → ReadsPart text start a
    → ReadsPart text start b → a ≡ b
part_unique text start a b utf8 h g =
    h.outcome_is ∙ sym g.outcome_is

-- a token without an escape is one
from_unique : (text : List ℕ) (line_has_ended : Bool) (start : ℕ) (read : Option Reading) (a b : Outcome) → IsUtf8 text
    → ReadsFrom text line_has_ended start read a → ReadsFrom text line_has_ended start read b → a ≡ b
from_unique text line_has_ended start read a b utf8 h g =
    let both : Some h.found ≡ Some g.found = sym h.read_is ∙ g.read_is in
    let found : h.found ≡ g.found = cc in
    h.outcome_is ∙ ap (outcome_at line_has_ended start) found ∙ sym g.outcome_is

again_unique : (reads : ℕ → Outcome → Type 0) → ((start : ℕ) (a b : Outcome) → reads start a → reads start b → a ≡ b)
    → (before : Option TokenParts) (a b : Outcome) → ReadsAgain reads before a → ReadsAgain reads before b → a ≡ b
again_unique reads one None a b h g = absurd h
again_unique reads one (Some token) a b h g = one token.start a b h g

angle_unique : (text : List ℕ) (kinds : List Kind) (before : Option TokenParts) (a b : Outcome) → IsUtf8 text
    → ReadsAgain (ReadsAngle text kinds) before a → ReadsAgain (ReadsAngle text kinds) before b → a ≡ b
angle_unique text kinds before a b utf8 h g =
    again_unique (ReadsAngle text kinds)
    (λ start c d. from_unique text false start (angle_reading kinds (from_place text start)) c d utf8) before a b h g

jsx_name_unique : (text : List ℕ) (before : Option TokenParts) (a b : Outcome) → IsUtf8 text
    → ReadsOn (ReadsJsxName text) before a → ReadsOn (ReadsJsxName text) before b → a ≡ b
jsx_name_unique text None a b utf8 h g = absurd h
jsx_name_unique text (Some token) a b utf8 h g =
    let part : h.part ≡ g.part = append_cancel_right h.part g.part (from_place text token.end) (sym h.here ∙ g.here) in
    from_unique text false token.start (jsx_name_reading g.part (from_place text token.end)) a b utf8
    (subst (λ part. ReadsFrom text false token.start (jsx_name_reading part (from_place text token.end)) a) part
    h.reads)
    g.reads

jsx_child_unique : (text : List ℕ) (line_has_ended : Bool) (place : ℕ) (a b : Outcome) → IsUtf8 text
    → ReadsJsxChild text line_has_ended place a → ReadsJsxChild text line_has_ended place b → a ≡ b
jsx_child_unique text line_has_ended place a b utf8 h g =
    let here = from_place text place in
    h.outcome_is
    ∙ ap (with_warnings (jsx_child_warnings place here))
    (from_unique text line_has_ended place (Some (jsx_child_reading here)) h.child g.child utf8 h.reads g.reads)
    ∙ sym g.outcome_is

-- the value of an attribute begins at one place
attribute_string_unique : (text : List ℕ) (t : SourceType) (before : Option TokenParts) (place : ℕ) (a b : Outcome)
    → IsUtf8 text → ReadsAttributeString text t before place a
    → ReadsAttributeString text t before place b → a ≡ b
attribute_string_unique text t before place a b utf8 h g =
    let gaps =
    whole_gap_unique t (line_has_ended_behind before) (from_place text place) h.pieces g.pieces h.line_has_ended
    g.line_has_ended
    (from_place text a.token.start) (from_place text b.token.start) h.gap g.gap in
    let start : a.token.start ≡ b.token.start =
    place_unique text _ _ utf8 h.reads.begins g.reads.begins gaps.2 in
    let there : ReadsFrom text h.line_has_ended a.token.start
    (jsx_string_reading (from_place text a.token.start)) g.string =
    subst (λ e. ReadsFrom text e a.token.start (jsx_string_reading (from_place text a.token.start)) g.string)
    (sym gaps.1)
    (subst (λ p. ReadsFrom text g.line_has_ended p (jsx_string_reading (from_place text p)) g.string) (sym start)
    g.reads) in
    let string : h.string ≡ g.string =
    from_unique text h.line_has_ended a.token.start (jsx_string_reading (from_place text a.token.start))
    h.string g.string utf8 h.reads there in
    h.outcome_is ∙ ap (λ ps. with_gap t before place ps h.string) gaps.0
    ∙ ap (with_gap t before place g.pieces) string ∙ sym g.outcome_is

-- a string of an attribute begins with a quote
string_begins : (here : List ℕ) (found : Reading) → jsx_string_reading here ≡ Some found
    → begins is_quote here ≡ true
string_begins [] found e = absurd (cc)
string_begins (c ∷ cs) found e =
    elim (true_or_false (is_quote c)) [
      | inl is ↦ is
      | inr none ↦ absurd (let no : None ≡ Some found = sym (ap (pick c cs) none) ∙ e in cc)
    ]
  where
    pick : ℕ → List ℕ → Bool → Option Reading
    pick c cs b = if b then Some (jsx_string_before (c ∷ cs) (from_first (λ d. d == c) cs)) else None

no_string_there : (text : List ℕ) (t : SourceType) (before : Option TokenParts) (place : ℕ) (a b : Outcome)
    → IsUtf8 text → ReadsAttributeString text t before place a
    → begins is_quote (from_place text b.token.start) ≡ false → ReadsBehindGap text t before place b → a ≡ b
no_string_there text t before place a b utf8 h none g =
    let gaps =
    whole_gap_unique t (line_has_ended_behind before) (from_place text place) h.pieces g.pieces h.line_has_ended
    g.line_has_ended
    (from_place text a.token.start) (from_place text b.token.start) h.gap g.gap in
    let begun = string_begins (from_place text a.token.start) h.reads.found h.reads.read_is in
    absurd (let no : true ≡ false = sym begun ∙ ap (begins is_quote) gaps.2 ∙ none in cc)

attribute_unique : (text : List ℕ) (t : SourceType) (before : Option TokenParts) (place : ℕ) (a b : Outcome) → IsUtf8 text
    → ReadsAttributeValue text t before place a → ReadsAttributeValue text t before place b → a ≡ b
attribute_unique text t before place a b utf8 (attribute_string h) (attribute_string g) =
    attribute_string_unique text t before place a b utf8 h g
attribute_unique text t before place a b utf8 (attribute_string h) (plain none g) =
    no_string_there text t before place a b utf8 h none g
attribute_unique text t before place a b utf8 (plain none h) (attribute_string g) =
    sym (no_string_there text t before place b a utf8 g none h)
attribute_unique text t before place a b utf8 (plain x h) (plain y g) =
    behind_gap_unique text t before place a b utf8 h g

-- A reading is one.
pub goal_reads_unique : (text : List ℕ) (t : SourceType) (goal : Goal) (before : Option TokenParts) (place : ℕ)
    (a b : Outcome) → IsUtf8 text
    → GoalReads text t goal before place a → GoalReads text t goal before place b → a ≡ b
goal_reads_unique text t First before place a b utf8 h g = plainly_unique text t First before place a b utf8 h g
goal_reads_unique text t Next before place a b utf8 h g = plainly_unique text t Next before place a b utf8 h g
goal_reads_unique text t TailGoal before place a b utf8 h g =
    again_unique (ReadsPart text) (λ start c d. part_unique text start c d utf8) before a b h g
goal_reads_unique text t RegularExpression before place a b utf8 h g =
    again_unique (ReadsExpression text)
    (λ start c d. from_unique text false start (regular_expression_reading (from_place text start)) c d utf8)
    before a b h g
goal_reads_unique text t RightAngle before place a b utf8 h g = angle_unique text right_angles before a b utf8 h g
goal_reads_unique text t TypeScriptLeftAngle before place a b utf8 h g =
    angle_unique text first_left_angle before a b utf8 h g
goal_reads_unique text t TypeScriptRightAngle before place a b utf8 h g =
    angle_unique text first_right_angle before a b utf8 h g
goal_reads_unique text t JsxIdentifier before place a b utf8 h g = jsx_name_unique text before a b utf8 h g
goal_reads_unique text t JsxChild before place a b utf8 h g =
    jsx_child_unique text (line_has_ended_behind before) place a b utf8 h g
goal_reads_unique text t JsxAttributeValue before place a b utf8 h g =
    attribute_unique text t before place a b utf8 h g
