-- The spans of what is read: in order, and not empty but for the end of the source.
use Rattle.std.proofs.Common.{◌+◌, ◌≡◌, ◌≢◌, ℕ, ◌<◌, ◌≤◌, Bool, true, false, List, [], ◌∷◌, ◌++◌, ◌==◌}
use Rattle.std.proofs.Common.{length, drop, refl, sym, ◌∙◌, ap, subst, arith, zero, suc, append-nil, append_assoc, ◌⊎◌}
use Rattle.std.proofs.Common.{inl, inr, Option, None}
use Rattle.std.specs.Prelude.{codes, if◌then◌else◌, IfSome}
use Rattle.std.proofs.lemmas.Str.{length-le-encodes, IsCharBoundary-start}
use Rattle.std.specs.Str.{IsCharBoundary, IsUtf8}
use Rattle.js_text.specs.Ascii.{number_sign}
use Rattle.js_text.specs.Characters.{from_place, from_first, before_first, is_identifier_start, is_line_terminator}
use Rattle.js_text.specs.Characters.{begins}
use Rattle.js_text.specs.declared.source_type.SourceType.{SourceType}
use Rattle.js_text.proofs.TextLemmas.{place_past, before_from}
use Rattle.js_kind.specs.TokenParts.{TokenParts}
use Rattle.js_kind.specs.declared.kind.Kind.{Kind}
use Rattle.js_kind.specs.declared.kind.Kind.TheVariants.{Eof}
use Rattle.js_grammar.specs.Gap.{is_prefix}
use Rattle.js_grammar.specs.Goals.{ReadsHere, ReadsPlainly, ReadsPart, next_part}
use Rattle.js_grammar.specs.Goals.ReadsHere.{spelled as spelled_here, recovers}
use Rattle.js_grammar.specs.Goals.ReadsPlainly.{hashbang as hashbang_read, behind_gap}
use Rattle.js_grammar.specs.Hashbang.{begins_hashbang, IsHashbang}
use Rattle.js_grammar.specs.Number.{begins_number}
use Rattle.js_grammar.specs.Outcome.{Outcome}
use Rattle.js_grammar.specs.Name.{begins_name, items_reading, name_items, name_reading, no_private_name}
use Rattle.js_grammar.specs.Name.{private_name_of, private_reading}
use Rattle.js_grammar.specs.NumberReads.{number_reading}
use Rattle.js_grammar.specs.Recovery.{recovered, recovered_character, is_control_or_wide, unterminated_comment}
use Rattle.js_grammar.specs.Recovery.{binary_file, invalid_character}
use Rattle.js_grammar.specs.Reading.{Reading, before_rest, size_of}
use Rattle.js_grammar.specs.Spelling.{Spelling}
use Rattle.js_grammar.specs.declared.goal.Goal.{Goal}
use Rattle.js_grammar.specs.declared.goal.Goal.TheVariants.{First, Next, TemplateTail as TailGoal}
use Rattle.js_grammar.specs.declared.goal.Goal.TheVariants.{RegularExpression, RightAngle, TypeScriptLeftAngle}
use Rattle.js_grammar.specs.declared.goal.Goal.TheVariants.{TypeScriptRightAngle, JsxIdentifier, JsxChild}
use Rattle.js_grammar.specs.declared.goal.Goal.TheVariants.{JsxAttributeValue}
use Rattle.js_grammar.specs.Spelling.Spelling.{name, private_name, punctuator, number, string, template}
use Rattle.js_grammar.specs.Spelling.Spelling.{end_of_source}
use Rattle.js_grammar.specs.Quoted.{begins_quoted, quoted_reading}
use Rattle.js_grammar.specs.Template.{template_part_reading}
use Rattle.js_text.specs.Ascii.{grave_accent}
use Rattle.js_grammar.proofs.StringLaws.{string_has_characters}
use Rattle.js_grammar.proofs.TemplateLaws.{template_begins}
use Rattle.js_grammar.proofs.ReadingLemmas.{IsTaken, is_taken, end_is_taken}
use Rattle.js_grammar.proofs.StringSpans.{quoted_characters, part_characters, quoted_taken, part_taken}
use Rattle.js_grammar.specs.UnicodeEscape.{right_curly_bracket}
use Rattle.js_kind.specs.declared.kind.Kind.TheVariants.{TemplateMiddle, TemplateTail}
use Rattle.js_grammar.proofs.NameLaws.{name_characters, private_taken, same_rest}
use Rattle.js_grammar.proofs.NumberBegins.{number_begins}
use Rattle.js_grammar.proofs.NumberItems.{true_or_false}
use Rattle.js_grammar.proofs.NumberSound.{first_is}
use Rattle.js_grammar.proofs.NumberSpans.{number_characters, number_taken}
use Rattle.js_grammar.proofs.PieceLemmas.{from_first-hashbang}
use Rattle.js_grammar.proofs.PunctuatorLemmas.{some_text}
use Rattle.js_grammar.proofs.Tests.{prefix_is}

-- the span from start to end is in order, and has a byte but for the end of the source
pub record IsSpan (token : TokenParts) : Type 0 where
  pub ordered : token.start ≤ token.end
  pub some_text : token.kind ≢ Eof → token.start < token.end

-- where a spelling is no end of the source, it has a character
spelling_has_text : (t : SourceType) (line_has_ended : Bool) (xs ys : List ℕ) (k : Kind)
    → Spelling t line_has_ended xs ys k → k ≢ Eof → xs ≢ []
spelling_has_text t line_has_ended xs ys k (name is follows kind) some e = is.some e
spelling_has_text t line_has_ended xs ys k (private_name named is follows same kind) some e =
    let no : number_sign ∷ named ≡ [] = sym same ∙ e in cc
spelling_has_text t line_has_ended xs ys k (punctuator p i same allowed kind) some e = some_text p i (sym same ∙ e)
spelling_has_text t line_has_ended xs ys k (number is follows) some e =
    let begun : begins_number [] ≡ true = subst (λ us. begins_number us ≡ true) (append-nil xs ∙ e)
    (number_begins xs [] k is) in
    cc
spelling_has_text t line_has_ended xs ys k (string is kind) some e =
    let longer = string_has_characters xs ys is in omega (arith, ap length e, longer)
spelling_has_text t line_has_ended xs ys k (template is) some e =
    let begun = template_begins xs ys k is in
    let no : true ≡ false = sym begun ∙ ap (begins (λ c. c == grave_accent)) e in cc
spelling_has_text t line_has_ended xs ys k (end_of_source none end kind) some e = some kind

-- a place from which these characters lead to another is not behind it, and before it where there are any
pub leads : (text : List ℕ) (p q : ℕ) (xs : List ℕ) → IsUtf8 text → IsCharBoundary text p → IsCharBoundary text q
    → from_place text p ≡ xs ++ from_place text q → (p ≤ q) × (xs ≢ [] → p < q)
leads text p q xs u b d e =
    let past = place_past text p q xs u b d e in
    (omega (arith, past), λ some. omega (arith, past, length-le-encodes xs, some_length xs some))
  where
    some_length : (xs : List ℕ) → xs ≢ [] → 0 < length xs
    some_length [] some = absurd (some refl)
    some_length (x ∷ xs) some = omega arith

-- what holds of each way to recover
pub each_recovery : (P : Reading → Type 0) (b : Bool) (x y : Option Reading) → (b ≡ true → IfSome x P) → IfSome y P
    → IfSome (if b then x else y) P
each_recovery P true x y h k = h refl
each_recovery P false x y h k = k

-- What is read of a name was taken of its text.
pub name_is_taken : (here : List ℕ) → begins_name here ≡ true → IsTaken here (name_reading here)
unfolding items_reading
name_is_taken here begun =
    let found = name_characters here begun in
    is_taken here (name_reading here) found.0 refl found.2 (λ _. found.1)

-- and so is what is read of a `#` and what follows it
pub private_is_taken : (cs : List ℕ) → IsTaken (number_sign ∷ cs) (private_reading (number_sign ∷ cs))
private_is_taken cs =
    elim (true_or_false (begins_name cs)) [ inl begun ↦ rw begun (named cs begun) | inr none ↦ rw none (unnamed cs) ]
  where
    unnamed : (cs : List ℕ) → IsTaken (number_sign ∷ cs) (no_private_name (number_sign ∷ cs) cs)
    unnamed [] = is_taken (number_sign ∷ []) (no_private_name (number_sign ∷ []) []) (number_sign ∷ []) refl refl
        (λ _ none. cc)
    unnamed (c ∷ cs) =
        end_is_taken (number_sign ∷ c ∷ cs) (no_private_name (number_sign ∷ c ∷ cs) (c ∷ cs)) refl refl refl

    named : (cs : List ℕ) → begins_name cs ≡ true
        → IsTaken (number_sign ∷ cs) (private_name_of (name_items is_identifier_start cs) (number_sign ∷ cs))
    named cs begun =
        let found = name_characters cs begun in
        is_taken (number_sign ∷ cs) (private_name_of (name_items is_identifier_start cs) (number_sign ∷ cs))
        (number_sign ∷ found.0) (private_taken cs)
        (ap (λ t. number_sign ∷ t) found.2 ∙ ap (λ r. number_sign ∷ (found.0 ++ r)) (same_rest cs))
        (λ _ none. cc)

-- and of a number
pub number_is_taken : (here : List ℕ) → begins_number here ≡ true → IsTaken here (number_reading here)
number_is_taken here begun = by_leaves (number_characters here begun).leaves
  where
    taken : (number_reading here).taken ≡ before_rest here (number_reading here).rest
    taken = number_taken here

    by_leaves : (((number_reading here).kind ≡ Eof) × ((number_reading here).rest ≡ []))
        ⊎ ((xs : List ℕ) × (xs ≢ []) × (here ≡ xs ++ (number_reading here).rest))
        → IsTaken here (number_reading here)
    by_leaves (inl whole) = end_is_taken here (number_reading here) taken whole.0 whole.1
    by_leaves (inr some) = is_taken here (number_reading here) some.0 taken some.2 (λ _. some.1)

-- and of a string or a template
pub quoted_is_taken : (here : List ℕ) → begins begins_quoted here ≡ true → IsTaken here (quoted_reading here)
quoted_is_taken here begun =
    let took = quoted_characters here begun in
    is_taken here (quoted_reading here) took.characters (quoted_taken here begun) took.here (λ _. took.some)

-- and of the next part of a template
pub part_is_taken : (substitute tail : Kind) (opening : ℕ) (text : List ℕ)
    → IsTaken (opening ∷ text) (template_part_reading substitute tail (opening ∷ text))
part_is_taken substitute tail opening text =
    let took = part_characters substitute tail opening text in
    is_taken (opening ∷ text) (template_part_reading substitute tail (opening ∷ text)) took.characters
    (part_taken substitute tail opening text) took.here (λ _. took.some)

recovered_is_taken : (here : List ℕ) → IfSome (recovered here) (IsTaken here)
recovered_is_taken here =
    each_recovery (IsTaken here) (is_prefix (codes "/*") here) _ _
    (λ _. end_is_taken here (unterminated_comment here) refl refl refl)
    (each_recovery (IsTaken here) (begins_name here) _ _ (λ begun. name_is_taken here begun)
    (each_recovery (IsTaken here) (begins (λ c. c == number_sign) here) _ _
    (λ begun. subst (λ h. IsTaken h (private_reading h)) (sym (first_is number_sign here begun))
    (private_is_taken (drop 1 here)))
    (each_recovery (IsTaken here) (begins_number here) _ _ (λ begun. number_is_taken here begun)
    (each_recovery (IsTaken here) (begins begins_quoted here) _ _ (λ begun. quoted_is_taken here begun)
    (each_recovery (IsTaken here) (begins (λ c. c == 0xFFFD) here) _ _
    (λ _. end_is_taken here (binary_file here) refl refl refl) (character here))))))
  where
    character : (here : List ℕ) → IfSome (recovered_character here) (IsTaken here)
    character [] = tt
    character (c ∷ cs) =
        each_recovery (IsTaken (c ∷ cs)) (is_control_or_wide c) _ None
        (λ _. is_taken (c ∷ cs) (invalid_character c cs) (c ∷ []) refl refl (λ _ none. cc)) tt

-- What is read where a gap has ended begins the text, and has a character but for the end of the source.
pub here_is_taken : (t : SourceType) (line_has_ended : Bool) (here : List ℕ) (r : Reading)
    → ReadsHere t line_has_ended here r → IsTaken here r
here_is_taken t line_has_ended here r (spelled_here xs spelling is) =
    let taken : r.taken ≡ xs = ap (λ x. x.taken) is in
    record {
      here = spelling.here ∙ ap (λ ys. ys ++ r.rest) (sym taken);
      some = λ some none. spelling_has_text t line_has_ended xs r.rest r.kind spelling.spelling some (sym taken ∙ none);
    }
here_is_taken t line_has_ended here r (recovers nothing e) =
    subst (λ found. IfSome found (IsTaken here)) e (recovered_is_taken here)

-- the place where what was taken ends
pub taken_end : (text : List ℕ) (start end : ℕ) (r : Reading) → IsUtf8 text → IsCharBoundary text start
    → IsCharBoundary text end → r.rest ≡ from_place text end → IsTaken (from_place text start) r
    → end ≡ start + size_of r
taken_end text start end r u b d rest taken =
    place_past text start end r.taken u b d (taken.here ∙ ap (λ ys. r.taken ++ ys) rest)

-- Where what was taken ends at a place.
pub taken_span : (text : List ℕ) (start end : ℕ) (r : Reading) → IsUtf8 text → IsCharBoundary text start
    → IsCharBoundary text end → r.rest ≡ from_place text end → IsTaken (from_place text start) r
    → (start ≤ end) × (r.kind ≢ Eof → start < end)
taken_span text start end r u b d rest taken =
    let way = leads text start end r.taken u b d (taken.here ∙ ap (λ ys. r.taken ++ ys) rest) in
    (way.0, λ some. way.1 (taken.some some))

hashbang_start : (goal : Goal) (text : List ℕ) (place : ℕ) → begins_hashbang goal text place ≡ true
    → is_prefix (codes "#!") (from_place text 0) ≡ true
hashbang_start First text zero e = e
hashbang_start First text (suc place) e = absurd (cc)
hashbang_start Next text place e = absurd (cc)
hashbang_start TailGoal text place e = absurd (cc)
hashbang_start RegularExpression text place e = absurd (cc)
hashbang_start RightAngle text place e = absurd (cc)
hashbang_start TypeScriptLeftAngle text place e = absurd (cc)
hashbang_start TypeScriptRightAngle text place e = absurd (cc)
hashbang_start JsxIdentifier text place e = absurd (cc)
hashbang_start JsxChild text place e = absurd (cc)
hashbang_start JsxAttributeValue text place e = absurd (cc)

hashbang_span : (text : List ℕ) (token : TokenParts) → IsUtf8 text → is_prefix (codes "#!") (from_place text 0) ≡ true
    → IsHashbang text token → IsSpan token
hashbang_span text token u e h =
    let cs = drop 2 (from_place text 0) in
    let begins : from_place text 0 ≡ codes "#!" ++ cs = prefix_is (codes "#!") (from_place text 0) e in
    let end : from_place text token.end ≡ from_first is_line_terminator cs =
    h.up_to_line_end ∙ ap (from_first is_line_terminator) begins ∙ from_first-hashbang cs in
    let whole : from_place text 0 ≡ (codes "#!" ++ before_first is_line_terminator cs) ++ from_place text token.end =
    begins ∙ ap (λ r. codes "#!" ++ r) (sym (before_from is_line_terminator cs))
    ∙ sym (append_assoc (codes "#!") (before_first is_line_terminator cs) (from_first is_line_terminator cs))
    ∙ ap (λ r. (codes "#!" ++ before_first is_line_terminator cs) ++ r) (sym end) in
    let way =
    leads text 0 token.end (codes "#!" ++ before_first is_line_terminator cs) u
    (IsCharBoundary-start text u) h.end whole in
    record {
      ordered = subst (λ (n : ℕ). n ≤ token.end) (sym h.start) way.0;
      some_text =
          λ some. subst (λ (n : ℕ). n < token.end) (sym h.start) (way.1 (λ none. cc));
    }

pub plainly_span : (text : List ℕ) (t : SourceType) (goal : Goal) (before : Option TokenParts) (place : ℕ)
    (o : Outcome) → IsUtf8 text
    → ReadsPlainly text t goal before place o → IsSpan o.token
plainly_span text t goal before place o u (hashbang_read begins read) =
    hashbang_span text o.token u (hashbang_start goal text place begins) read.is_hashbang
plainly_span text t goal before place o u (behind_gap begins read) =
    let span =
    taken_span text o.token.start o.token.end read.reading u read.start read.end read.rest
    (here_is_taken t read.line_has_ended (from_place text o.token.start) read.reading read.here) in
    record { ordered = span.0; some_text = λ some. span.1 (λ e. some (ap (λ x. x.token.kind) read.outcome_is ∙ e)) }

pub plainly_places : (text : List ℕ) (t : SourceType) (goal : Goal) (before : Option TokenParts) (place : ℕ)
    (o : Outcome) → IsUtf8 text
    → ReadsPlainly text t goal before place o → IsCharBoundary text o.token.start × IsCharBoundary text o.token.end
plainly_places text t goal before place o u (hashbang_read begins read) =
    (subst (IsCharBoundary text) (sym read.is_hashbang.start) (IsCharBoundary-start text u), read.is_hashbang.end)
plainly_places text t goal before place o u (behind_gap begins read) = (read.start, read.end)

-- the next part of a template has a span
pub part_span : (text : List ℕ) (start : ℕ) (o : Outcome) → IsUtf8 text → ReadsPart text start o → IsSpan o.token
part_span text start o u read =
    let at : o.token.start ≡ start = ap (λ x. x.token.start) read.outcome_is in
    let kind : o.token.kind ≡ (next_part (from_place text start)).kind = ap (λ x. x.token.kind) read.outcome_is in
    let taken =
    subst (λ h. IsTaken h (next_part h)) (sym read.here)
    (part_is_taken TemplateMiddle TemplateTail right_curly_bracket read.behind) in
    let way = taken_span text start o.token.end (next_part (from_place text start)) u read.begins read.end read.rest
    taken in
    record {
      ordered = subst (λ (n : ℕ). n ≤ o.token.end) (sym at) way.0;
      some_text = λ some. subst (λ (n : ℕ). n < o.token.end) (sym at) (way.1 (λ e. some (kind ∙ e)));
    }
