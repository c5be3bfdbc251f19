-- What a goal reads in a text is read in another one where the same characters stand, and other ones follow.
use Rattle.std.proofs.Common.{◌≡◌, ◌≢◌, ℕ, ◌+◌, ◌<◌, ◌≤◌, Bool, true, false, ◌==◌, List, [], ◌∷◌, ◌++◌, length}
use Rattle.std.proofs.Common.{drop, refl, sym, ◌∙◌, ap, subst, arith, Option, Some, None, append_assoc, inl, inr}
use Rattle.std.proofs.Common.{length-append, not, ◌||◌}
use Rattle.std.specs.Prelude.{codes, if◌then◌else◌, IfSome, is_none}
use Rattle.std.specs.List.{list_all}
use Rattle.std.specs.Str.{IsCharBoundary, IsUtf8, encode_utf8_all}
use Rattle.std.proofs.lemmas.Bool.{and_parts}
use Rattle.std.proofs.lemmas.List.{append_cancel_right}
use Rattle.std.proofs.lemmas.Str.{IsCharBoundary-start}
use Rattle.js_text.specs.Ascii.{hyphen_minus, slash}
use Rattle.js_text.specs.Characters.{before_first, begins, from_first, from_place, is_line_terminator}
use Rattle.js_text.specs.SourceType.{is_module}
use Rattle.js_text.specs.declared.source_type.SourceType.{SourceType}
use Rattle.js_text.specs.declared.span.Span.{Span}
use Rattle.js_text.specs.declared.value.RowValue.TheVariants.{Nothing}
use Rattle.js_text.proofs.TextLemmas.{before_from, length-from_first, place_past}
use Rattle.js_kind.specs.Kinds.{is_identifier_name, is_one_of, kind_text}
use Rattle.js_kind.specs.TokenParts.{TokenParts}
use Rattle.js_kind.specs.declared.kind.Kind.{Kind}
use Rattle.js_kind.specs.declared.kind.Kind.TheVariants.{Eof, HashbangComment, Ident, PrivateIdentifier, RegExp, Str}
use Rattle.js_kind.specs.declared.kind.Kind.TheVariants.{TemplateMiddle, TemplateTail as TailKind}
use Rattle.js_grammar.specs.Angle.{angle_reading, first_left_angle, first_right_angle, punctuator_reading, right_angles}
use Rattle.js_grammar.specs.Gap.{Piece, WholeGap, is_prefix, whole_gap_piece}
use Rattle.js_grammar.specs.Goals.{GoalReads, ReadsAngle, ReadsAttributeValue, ReadsBehindGap, ReadsFrom, ReadsHashbang}
use Rattle.js_grammar.specs.Goals.{ReadsHere, ReadsJsxChild, ReadsJsxName, ReadsPart, ReadsPlainly}
use Rattle.js_grammar.specs.Goals.{line_has_ended_behind, next_part, token_alone, with_gap, with_warnings}
use Rattle.js_grammar.specs.Goals.ReadsAttributeValue.{string, plain}
use Rattle.js_grammar.specs.Goals.ReadsHere.{spelled, recovers}
use Rattle.js_grammar.specs.Goals.ReadsPlainly.{hashbang, behind_gap}
use Rattle.js_grammar.specs.Hashbang.{begins_hashbang}
use Rattle.js_grammar.specs.Jsx.{ends_jsx_name, jsx_child_reading, jsx_child_warnings, jsx_name_reading, jsx_name_up_to}
use Rattle.js_grammar.specs.Jsx.{jsx_string_before, jsx_string_reading}
use Rattle.js_grammar.specs.Outcome.{Outcome, gap_diagnostics, outcome_at}
use Rattle.js_grammar.specs.Reading.{Reading, moved_diagnostics, place_behind, size_of}
use Rattle.js_grammar.specs.Reads.{is_onward}
use Rattle.js_grammar.specs.RegularExpression.{behind_body, regular_expression, regular_expression_reading}
use Rattle.js_grammar.specs.StringItems.{is_quote, item_reports}
use Rattle.js_grammar.specs.Template.{template_items, template_part_reading}
use Rattle.js_grammar.specs.UnicodeEscape.{right_curly_bracket}
use Rattle.js_grammar.specs.declared.goal.Goal.{Goal}
use Rattle.js_grammar.specs.declared.goal.Goal.TheVariants.{First, Next, TemplateTail, RegularExpression, RightAngle}
use Rattle.js_grammar.specs.declared.goal.Goal.TheVariants.{TypeScriptLeftAngle, TypeScriptRightAngle, JsxIdentifier}
use Rattle.js_grammar.specs.declared.goal.Goal.TheVariants.{JsxChild, JsxAttributeValue}
use Rattle.js_grammar.proofs.AgainReadings.{hyphen_goes_on, jsx_string_stays, part_stays, stops_both, whole_first}
use Rattle.js_grammar.proofs.AtPlaces.{behind_characters, from_at}
use Rattle.js_grammar.proofs.Clean.{none_moved, recovery_reports}
use Rattle.js_grammar.proofs.EscapeCases.{first_is}
use Rattle.js_grammar.proofs.GapsAhead.{prefix_within}
use Rattle.js_grammar.proofs.GoalReadings.{IsRead, angle_is_read, angles, attribute_is_read, child_is_read}
use Rattle.js_grammar.proofs.GoalReadings.{expression_read, expression_terminated, expression_unterminated, is_angle}
use Rattle.js_grammar.proofs.GoalReadings.{jsx_name_is_read}
use Rattle.js_grammar.proofs.NumberItems.{true_or_false}
use Rattle.js_grammar.proofs.PieceLemmas.{from_first-hashbang}
use Rattle.js_grammar.proofs.ReadingLemmas.{IsTaken}
use Rattle.js_grammar.proofs.Reported.{piece_texts, pieces_text}
use Rattle.js_grammar.proofs.Spans.{part_is_taken}
use Rattle.js_grammar.proofs.StringBegins.{quote_is_quoted, quoted_begins_no_comment}
use Rattle.js_grammar.proofs.StringLaws.{not_empty}
use Rattle.js_grammar.proofs.StringSteps.{part_unterminated, part_with_substitution, part_with_tail}
use Rattle.js_grammar.proofs.Tests.{prefix_is}
use Rattle.js_grammar.proofs.Without.{true_is_not_false}
use Rattle.js_rewrite.specs.Space.{ends_as_word}
use Rattle.js_rewrite.proofs.Following.{Follows, FollowsToken, are_operators, last_character}
use Rattle.js_rewrite.proofs.FollowingAgain.{angle_follows, child_follows, expression_follows, jsx_name_follows, line_stops}
use Rattle.js_rewrite.proofs.ReadAlike.{BlankGap, FromAlike, ReadAlike, StandsAlike, behind_gap_alike, from_alike}
use Rattle.js_rewrite.proofs.ReadAlike.{gap_alike, no_piece, quiet_parts, read_alike, start_behind}

-- What is read by a goal in both texts.
pub record GoalAlike (text other zs : List ℕ) (t : SourceType) (goal : Goal) (there : Option TokenParts) (q : ℕ)
    (o : Outcome) : Type 0 where
  pub outcome : Outcome
  pub reads : GoalReads other t goal there q outcome
  pub alike : ReadAlike text other zs o outcome

-- the characters that were taken are those that stand there
taken_is : (text other zs : List ℕ) (t : SourceType) (kind : Kind) (start end q : ℕ) (xs : List ℕ)
    → (stands : StandsAlike text other t kind start end q zs) → from_place text start ≡ xs ++ from_place text end
    → stands.characters ≡ xs
taken_is text other zs t kind start end q xs stands here =
    append_cancel_right stands.characters xs (from_place text end) (sym stands.here ∙ here)

-- a part of a template
part_taken : (text : List ℕ) (start : ℕ) (o : Outcome) → ReadsPart text start o
    → IsTaken (from_place text start) (next_part (from_place text start))
part_taken text start o reads =
    subst (λ h. IsTaken h (next_part h)) (sym reads.here)
    (part_is_taken TemplateMiddle TailKind right_curly_bracket reads.behind)

part_read_on : (here behind xs ys zs : List ℕ) → here ≡ right_curly_bracket ∷ behind → here ≡ xs ++ ys
    → (xs ≡ [] → ⊥) → (next_part here).diagnostics ≡ [] → (next_part here).rest ≡ ys
    → (next_part (xs ++ zs) ≡ record (next_part here) { rest = zs })
    × ((left : List ℕ) × (xs ++ zs ≡ right_curly_bracket ∷ left))
part_read_on here behind [] ys zs begun e some clean left = absurd (some refl)
part_read_on here behind (x ∷ xs) ys zs begun e some clean left =
    let whole : x ∷ (xs ++ ys) ≡ right_curly_bracket ∷ behind = sym e ∙ begun in
    let mark : x ≡ right_curly_bracket = cc in
    let read = ap next_part e in (
      part_stays TemplateMiddle TailKind x xs ys zs (sym (ap (λ (r : Reading). r.diagnostics) read) ∙ clean)
          (sym (ap (λ (r : Reading). r.rest) read) ∙ left)
          ∙ ap (λ (r : Reading). record r { rest = zs }) (sym read),
      (xs ++ zs, ap (λ c. c ∷ (xs ++ zs)) mark),
    )

-- a part is of a kind of templates
pub part_is_no_end : (substitute tail : Kind) (text : List ℕ) → (template_part_reading substitute tail text).diagnostics ≡ []
    → (substitute ≡ Eof → ⊥) → (tail ≡ Eof → ⊥) → (template_part_reading substitute tail text).kind ≢ Eof
part_is_no_end substitute tail text clean no_substitute no_tail end =
    let found = template_items (drop 1 text) in
    elim (true_or_false (begins (λ c. c == 96) found.rest)) [
      | inl is ↦ no_tail
          (sym (ap (λ (r : Reading). r.kind) (part_with_tail substitute tail text found is)) ∙ end)
      | inr none ↦ elim (true_or_false (is_prefix (codes "${") found.rest)) [
        | inl is ↦ no_substitute
            (sym (ap (λ (r : Reading). r.kind) (part_with_substitution substitute tail text found none is)) ∙ end)
        | inr other ↦ (
            let read = part_unterminated substitute tail text found none other in
            not_empty (item_reports true 0 1 found.items) _
            (ap (λ (r : Reading). r.diagnostics) (sym read) ∙ clean))
      ]
    ]

part_alike : (text other zs : List ℕ) (t : SourceType) (token there : TokenParts) (q : ℕ) (o : Outcome)
    → IsUtf8 other → IsCharBoundary other there.start → ReadsPart text token.start o → o.findings.diagnostics ≡ []
    → StandsAlike text other t o.token.kind token.start o.token.end there.start zs
    → GoalAlike text other zs t TemplateTail (Some there) q o
part_alike text other zs t token there q o v d reads clean stands =
    let s = token.start in
    let here = from_place text s in
    let r = next_part here in
    let end = o.token.end in
    let taken = part_taken text s o reads in
    let quiet : r.diagnostics ≡ [] =
    none_moved s r.diagnostics (sym (ap (λ (x : Outcome). x.findings.diagnostics) reads.outcome_is) ∙ clean) in
    let whole : here ≡ r.taken ++ from_place text end = taken.here ∙ ap (λ h. r.taken ++ h) reads.rest in
    let front = taken_is text other zs t o.token.kind s end there.start r.taken stands whole in
    let there_is : from_place other there.start ≡ r.taken ++ zs = stands.there_is ∙ ap (λ x. x ++ zs) front in
    let read =
    part_read_on here reads.behind r.taken (from_place text end) zs reads.here whole
    (taken.some (part_is_no_end TemplateMiddle TailKind here quiet (λ no. absurd (cc)) (λ no. absurd (cc)))) quiet
    reads.rest in
    let again : next_part (from_place other there.start) ≡ record r { rest = zs } = ap next_part there_is ∙ read.0 in
    let end_is : end ≡ s + size_of r = ap (λ (x : Outcome). x.token.end) reads.outcome_is in
    let p = outcome_at false there.start (record r { rest = zs }) in
    let at = behind_characters other there.start r.taken zs v d there_is in
    record {
      outcome = p;
      reads = record {
        begins = d;
        behind = read.1.0;
        here = there_is ∙ read.1.1;
        end = at.0;
        rest = ap (λ (x : Reading). x.rest) again ∙ sym at.1;
        outcome_is = ap (outcome_at false there.start) (sym again);
      };
      alike =
          subst (λ x. ReadAlike text other zs x p) (sym reads.outcome_is)
          (read_alike text other false s there.start r zs (outcome_at false s r).findings p.findings v d
          (whole ∙ ap (λ n. r.taken ++ from_place text n) end_is) there_is
          (ap (moved_diagnostics there.start) quiet) refl);
    }

-- a regular expression
expression_kind : (cs : List ℕ) → (regular_expression cs).kind ≡ RegExp
expression_kind cs =
    elim (true_or_false (begins (λ c. c == slash) (behind_body cs))) [
      | inl is ↦ ap (λ (r : Reading). r.kind) (expression_terminated (slash ∷ cs) (behind_body cs) is)
      | inr none ↦ ap (λ (r : Reading). r.kind) (expression_unterminated (slash ∷ cs) (behind_body cs) none)
    ]

expression_taken : (here : List ℕ) (r : Reading) → regular_expression_reading here ≡ Some r → IsTaken here r
expression_taken here r found =
    (subst (λ x. IfSome x (IsRead here)) found (expression_read here)).taken

pub expression_is : (here : List ℕ) (r : Reading) → regular_expression_reading here ≡ Some r → r.kind ≡ RegExp
expression_is [] r found = absurd (let no : None ≡ Some r = found in cc)
expression_is (c ∷ cs) r found = by_slash (c == slash) found
  where
    by_slash : (b : Bool) → (if b then Some (regular_expression cs) else None) ≡ Some r → r.kind ≡ RegExp
    by_slash true f =
        let read : regular_expression cs ≡ r = cc in
        sym (ap (λ (x : Reading). x.kind) read) ∙ expression_kind cs
    by_slash false f = absurd (let no : None ≡ Some r = f in cc)

pub expression_some : (here : List ℕ) (r : Reading) → regular_expression_reading here ≡ Some r → r.kind ≢ Eof
expression_some here r found end = let no : RegExp ≡ Eof = sym (expression_is here r found) ∙ end in cc

expression_listed : is_one_of (PrivateIdentifier ∷ RegExp ∷ []) RegExp ≡ true
expression_listed = refl

-- a regular expression, and a name of JSX, end as words
expression_word : (kind : Kind) (last : ℕ) → kind ≡ RegExp → ends_as_word kind last ≡ true
expression_word kind last e =
    by_parts _ (is_identifier_name kind) (is_one_of (PrivateIdentifier ∷ RegExp ∷ []) kind)
    (ap (is_one_of (PrivateIdentifier ∷ RegExp ∷ [])) e ∙ expression_listed)
  where
    by_parts : (a b c : Bool) → c ≡ true → (a || (b || c)) ≡ true
    by_parts true b c f = refl
    by_parts false true c f = refl
    by_parts false false c f = f

ident_named : is_identifier_name Ident ≡ true
unfolding is_identifier_name
ident_named = refl

ident_word : (kind : Kind) (last : ℕ) → kind ≡ Ident → ends_as_word kind last ≡ true
ident_word kind last e =
    by_parts _ (is_identifier_name kind) (is_one_of (PrivateIdentifier ∷ RegExp ∷ []) kind)
    (ap is_identifier_name e ∙ ident_named)
  where
    by_parts : (a b c : Bool) → b ≡ true → (a || (b || c)) ≡ true
    by_parts true b c f = refl
    by_parts false b c f = rw f refl

expression_on : (t : SourceType) (xs ys zs : List ℕ) (r : Reading) → r.taken ≡ xs → FollowsToken t r.kind xs ys zs
    → regular_expression_reading (xs ++ ys) ≡ Some r → r.diagnostics ≡ [] → r.rest ≡ ys
    → regular_expression_reading (xs ++ zs) ≡ Some (record r { rest = zs })
expression_on t [] ys zs r taken w found clean left =
    absurd ((expression_taken ys r found).some (expression_some ys r found) taken)
expression_on t (x ∷ xs) ys zs r taken w found clean left = by_slash (x == slash) found
  where
    last : ℕ
    last = last_character (x ∷ xs)

    word : ends_as_word r.kind last ≡ true
    word = expression_word r.kind last (expression_is (x ∷ (xs ++ ys)) r found)

    by_slash : (b : Bool) → (if b then Some (regular_expression (xs ++ ys)) else None) ≡ Some r
        → (if b then Some (regular_expression (xs ++ zs)) else None) ≡ Some (record r { rest = zs })
    by_slash true f =
        let read : regular_expression (xs ++ ys) ≡ r = cc in
        ap Some
        (expression_follows t last xs ys zs (subst (λ b. Follows t b last ys zs) word w)
        (ap (λ (x : Reading). x.diagnostics) read ∙ clean) (ap (λ (x : Reading). x.rest) read ∙ left))
        ∙ ap (λ (x : Reading). Some (record x { rest = zs })) read
    by_slash false f = absurd (let no : None ≡ Some r = f in cc)

-- Where the last token is read again, what is known of it in both texts.
pub record TokenAlike (text other : List ℕ) (token there : TokenParts) : Type 0 where
  pub start : IsCharBoundary other there.start
  pub end : IsCharBoundary other there.end
  pub ordered : there.start ≤ there.end
  pub characters : List ℕ
  pub here : from_place text token.start ≡ characters ++ from_place text token.end
  pub behind : from_place other there.start ≡ characters ++ from_place other there.end

from_goal : (text other zs : List ℕ) (t : SourceType) (goal : Goal) (there : TokenParts) (q : ℕ)
    (read : List ℕ → Option Reading) (o : Outcome)
    → ((p : Outcome) → ReadsFrom other false there.start (read (from_place other there.start)) p
    → GoalReads other t goal (Some there) q p)
    → FromAlike text other zs false there.start read o → GoalAlike text other zs t goal (Some there) q o
from_goal text other zs t goal there q read o make f =
    record { outcome = f.outcome; reads = make f.outcome f.reads; alike = f.alike }

angle_taken : (kinds : List Kind) (here : List ℕ) (r : Reading) → list_all is_angle kinds ≡ true
    → angle_reading kinds here ≡ Some r → IsTaken here r
angle_taken kinds here r angles found =
    (subst (λ x. IfSome x (IsRead here)) found (angle_is_read kinds here angles)).taken

-- the kind is not that of the end of the source
abbrev no_end : Kind → Bool
no_end k = not (is_one_of (Eof ∷ []) k)

-- an angle is not the end of the source
angle_some : (kinds : List Kind) (here : List ℕ) (r : Reading) → list_all no_end kinds ≡ true
    → angle_reading kinds here ≡ Some r → r.kind ≢ Eof
angle_some [] here r all found end = absurd (let none : None ≡ Some r = found in cc)
angle_some (k ∷ ks) here r all found end =
    let both = and_parts (no_end k) (list_all no_end ks) all in
    by_mark both.0 (λ f. angle_some ks here r both.1 f end) (is_prefix (kind_text k) here) found
  where
    by_mark : no_end k ≡ true → (angle_reading ks here ≡ Some r → ⊥) → (b : Bool)
        → (if b then Some (punctuator_reading k here) else angle_reading ks here) ≡ Some r → ⊥
    by_mark other later true f =
        let read : punctuator_reading k here ≡ r = cc in
        let is_end : k ≡ Eof = ap (λ (x : Reading). x.kind) read ∙ end in
        true_is_not_false (no_end Eof) (sym (ap no_end is_end) ∙ other) refl
    by_mark other later false f = later f

angle_alike : (text other zs : List ℕ) (t : SourceType) (token there : TokenParts) (kinds : List Kind) (o : Outcome)
    → IsUtf8 other → IsCharBoundary other there.start → list_all is_angle kinds ≡ true
    → list_all (λ k. are_operators (kind_text k)) kinds ≡ true → list_all no_end kinds ≡ true
    → ReadsAngle text kinds token.start o
    → o.findings.diagnostics ≡ [] → StandsAlike text other t o.token.kind token.start o.token.end there.start zs
    → FromAlike text other zs false there.start (angle_reading kinds) o
angle_alike text other zs t token there kinds o v d angles operators some reads clean stands =
    let taken = angle_taken kinds (from_place text token.start) reads.found angles reads.read_is in
    from_alike text other t false token.start there.start (angle_reading kinds) o zs v d reads clean taken stands
    (λ w found quiet left.
    angle_follows t _ kinds reads.found.taken (from_place text o.token.end) zs operators
    (taken.some (angle_some kinds (from_place text token.start) reads.found some reads.read_is)) w reads.found found left)

jsx_rest : (part behind : List ℕ) (r : Reading) → jsx_name_reading part behind ≡ Some r
    → (from_first ends_jsx_name behind ≡ r.rest) × (r.kind ≡ Ident)
jsx_rest part behind r found = by_hyphen (begins (λ c. c == hyphen_minus) behind) found
  where
    by_hyphen : (b : Bool)
        → (if b then Some (jsx_name_up_to part behind (from_first ends_jsx_name behind)) else None) ≡ Some r
        → (from_first ends_jsx_name behind ≡ r.rest) × (r.kind ≡ Ident)
    by_hyphen true f =
        let read : jsx_name_up_to part behind (from_first ends_jsx_name behind) ≡ r = cc in
        (ap (λ (x : Reading). x.rest) read, sym (ap (λ (x : Reading). x.kind) read))
    by_hyphen false f = absurd (let no : None ≡ Some r = f in cc)

jsx_hyphen : (part behind : List ℕ) (r : Reading) → jsx_name_reading part behind ≡ Some r
    → begins (λ c. c == hyphen_minus) behind ≡ true
jsx_hyphen part behind r found = by_hyphen (begins (λ c. c == hyphen_minus) behind) found
  where
    by_hyphen : (b : Bool)
        → (if b then Some (jsx_name_up_to part behind (from_first ends_jsx_name behind)) else None) ≡ Some r → b ≡ true
    by_hyphen true f = refl
    by_hyphen false f = absurd (let no : None ≡ Some r = f in cc)

pub append_cancel_left : (xs ys zs : List ℕ) → xs ++ ys ≡ xs ++ zs → ys ≡ zs
append_cancel_left [] ys zs e = e
append_cancel_left (x ∷ xs) ys zs e = append_cancel_left xs ys zs (let same : xs ++ ys ≡ xs ++ zs = cc in same)

-- a name of JSX
jsx_name_alike : (text other zs : List ℕ) (t : SourceType) (token there : TokenParts) (q : ℕ) (o : Outcome)
    → IsUtf8 other → TokenAlike text other token there → ReadsJsxName text token o → o.findings.diagnostics ≡ []
    → StandsAlike text other t o.token.kind token.start o.token.end there.start zs
    → GoalAlike text other zs t JsxIdentifier (Some there) q o
jsx_name_alike text other zs t token there q o v a reads clean stands =
    let s = token.start in
    let part = reads.part in
    let behind = from_place text token.end in
    let r = reads.reads.found in
    let end = o.token.end in
    let ys = from_place text end in
    let xs = before_first ends_jsx_name behind in
    let read = reads.reads.read_is in
    let taken = (subst (λ x. IfSome x (IsRead (part ++ behind))) read (jsx_name_is_read part behind)).taken in
    let quiet : r.diagnostics ≡ [] =
    none_moved s r.diagnostics (sym (ap (λ (x : Outcome). x.findings.diagnostics) reads.reads.outcome_is) ∙ clean) in
    let left : r.rest ≡ ys = reads.reads.rest in
    let cut : behind ≡ xs ++ ys =
    sym (before_from ends_jsx_name behind) ∙ ap (λ h. xs ++ h) ((jsx_rest part behind r read).0 ∙ left) in
    let whole : from_place text s ≡ r.taken ++ ys = reads.here ∙ taken.here ∙ ap (λ h. r.taken ++ h) left in
    let front : r.taken ≡ part ++ xs =
    append_cancel_right r.taken (part ++ xs) ys
    (sym whole ∙ reads.here ∙ ap (λ h. part ++ h) cut ∙ sym (append_assoc part xs ys)) in
    let stand = taken_is text other zs t o.token.kind s end there.start r.taken stands whole in
    let there_is : from_place other there.start ≡ r.taken ++ zs = stands.there_is ∙ ap (λ x. x ++ zs) stand in
    let same_part : part ≡ a.characters =
    append_cancel_right part a.characters behind (sym reads.here ∙ a.here) in
    let other_part : from_place other there.start ≡ part ++ from_place other there.end =
    a.behind ∙ ap (λ h. h ++ from_place other there.end) (sym same_part) in
    let other_behind : from_place other there.end ≡ xs ++ zs =
    append_cancel_left part (from_place other there.end) (xs ++ zs)
    (sym other_part ∙ there_is ∙ ap (λ h. h ++ zs) front ∙ append_assoc part xs zs) in
    let last = last_character stands.characters in
    let kind : o.token.kind ≡ Ident =
    ap (λ (x : Outcome). x.token.kind) reads.reads.outcome_is ∙ (jsx_rest part behind r read).1 in
    let w : Follows t true last ys zs =
    subst (λ b. Follows t b last ys zs) (ident_word o.token.kind last kind) stands.follows in
    let again : jsx_name_reading part (from_place other there.end) ≡ Some (record r { rest = zs }) =
    ap (jsx_name_reading part) other_behind
    ∙ jsx_name_follows t last part xs ys zs w r (ap (jsx_name_reading part) (sym cut) ∙ read) left in
    let end_is : end ≡ s + size_of r = ap (λ (x : Outcome). x.token.end) reads.reads.outcome_is in
    let p = outcome_at false there.start (record r { rest = zs }) in
    record {
      outcome = p;
      reads = record {
        ordered = a.ordered;
        name_end = a.end;
        part = part;
        here = other_part;
        reads =
            from_at other false there.start (jsx_name_reading part (from_place other there.end))
            (record r { rest = zs }) v a.start again
            (subst (λ h. IsTaken h (record r { rest = zs })) (sym there_is) (record { here = refl; some = taken.some }));
      };
      alike =
          subst (λ x. ReadAlike text other zs x p) (sym reads.reads.outcome_is)
          (read_alike text other false s there.start r zs (outcome_at false s r).findings p.findings v a.start
          (whole ∙ ap (λ n. r.taken ++ from_place text n) end_is) there_is
          (ap (moved_diagnostics there.start) quiet) refl);
    }

-- the characters with which a name of JSX goes on
pub name_cut : (text : List ℕ) (token : TokenParts) (o : Outcome) → ReadsJsxName text token o
    → (xs : List ℕ) × (from_place text token.end ≡ xs ++ from_place text o.token.end)
name_cut text token o reads =
    let behind = from_place text token.end in
    let xs = before_first ends_jsx_name behind in (
      xs,
      sym (before_from ends_jsx_name behind)
          ∙ ap (λ h. xs ++ h) ((jsx_rest reads.part behind reads.reads.found reads.reads.read_is).0 ∙ reads.reads.rest),
    )

-- a name of JSX ends behind the name that it goes on with
pub name_grows : (text : List ℕ) (token : TokenParts) (o : Outcome) → IsUtf8 text → ReadsJsxName text token o
    → token.end ≤ o.token.end
name_grows text token o u reads =
    let cut = name_cut text token o reads in
    omega (arith, place_past text token.end o.token.end cut.0 u reads.name_end reads.reads.end cut.1)

-- some characters at least
pub name_goes_on : (text : List ℕ) (token : TokenParts) (o : Outcome) → IsUtf8 text → ReadsJsxName text token o
    → (xs : List ℕ) → from_place text token.end ≡ xs ++ from_place text o.token.end → 0 < length xs
name_goes_on text token o u reads [] here =
    let behind = from_place text token.end in
    let rest : from_first ends_jsx_name behind ≡ behind =
    (jsx_rest reads.part behind reads.reads.found reads.reads.read_is).0 ∙ reads.reads.rest ∙ sym here in
    let hyphen = jsx_hyphen reads.part behind reads.reads.found reads.reads.read_is in
    let first = first_is hyphen_minus behind hyphen in
    let stops : from_first ends_jsx_name (hyphen_minus ∷ drop 1 behind) ≡ hyphen_minus ∷ drop 1 behind =
    subst (λ h. from_first ends_jsx_name h ≡ h) first rest in
    true_is_not_false (ends_jsx_name hyphen_minus) (whole_first ends_jsx_name hyphen_minus (drop 1 behind) stops)
    hyphen_goes_on
name_goes_on text token o u reads (x ∷ xs) here = omega arith

-- What a goal reads of the last token again, it reads of the same token in the other text.
pub again_alike : (text other zs : List ℕ) (t : SourceType) (goal : Goal) (token there : TokenParts) (place q : ℕ)
    (o : Outcome) → IsUtf8 other → is_onward goal ≡ false → TokenAlike text other token there
    → GoalReads text t goal (Some token) place o → o.findings.diagnostics ≡ []
    → StandsAlike text other t o.token.kind token.start o.token.end there.start zs
    → GoalAlike text other zs t goal (Some there) q o
again_alike text other zs t First token there place q o v off a reads clean stands = absurd (cc)
again_alike text other zs t Next token there place q o v off a reads clean stands = absurd (cc)
again_alike text other zs t TemplateTail token there place q o v off a reads clean stands =
    part_alike text other zs t token there q o v a.start reads clean stands
again_alike text other zs t RegularExpression token there place q o v off a reads clean stands =
    from_goal text other zs t RegularExpression there q regular_expression_reading o (λ p r. r)
    (from_alike text other t false token.start there.start regular_expression_reading o zs v a.start reads clean
    (expression_taken (from_place text token.start) reads.found reads.read_is) stands
    (λ w found quiet left.
    expression_on t reads.found.taken (from_place text o.token.end) zs reads.found refl w found quiet left))
again_alike text other zs t RightAngle token there place q o v off a reads clean stands =
    from_goal text other zs t RightAngle there q (angle_reading right_angles) o (λ p r. r)
    (angle_alike text other zs t token there right_angles o v a.start angles.longest refl refl reads clean stands)
again_alike text other zs t TypeScriptLeftAngle token there place q o v off a reads clean stands =
    from_goal text other zs t TypeScriptLeftAngle there q (angle_reading first_left_angle) o (λ p r. r)
    (angle_alike text other zs t token there first_left_angle o v a.start angles.left refl refl reads clean stands)
again_alike text other zs t TypeScriptRightAngle token there place q o v off a reads clean stands =
    from_goal text other zs t TypeScriptRightAngle there q (angle_reading first_right_angle) o (λ p r. r)
    (angle_alike text other zs t token there first_right_angle o v a.start angles.right refl refl reads clean stands)
again_alike text other zs t JsxIdentifier token there place q o v off a reads clean stands =
    jsx_name_alike text other zs t token there q o v a reads clean stands
again_alike text other zs t JsxChild token there place q o v off a reads clean stands = absurd (cc)
again_alike text other zs t JsxAttributeValue token there place q o v off a reads clean stands = absurd (cc)

-- What is read of a token again is not the end of the source.
pub again_some : (text : List ℕ) (t : SourceType) (goal : Goal) (token : TokenParts) (place : ℕ) (o : Outcome)
    → is_onward goal ≡ false → goal ≢ JsxIdentifier → GoalReads text t goal (Some token) place o
    → o.findings.diagnostics ≡ [] → o.token.kind ≢ Eof
again_some text t First token place o off no_name read clean = absurd (cc)
again_some text t Next token place o off no_name read clean = absurd (cc)
again_some text t TemplateTail token place o off no_name read clean = λ end.
    part_is_no_end TemplateMiddle TailKind (from_place text token.start)
    (none_moved token.start (next_part (from_place text token.start)).diagnostics
    (sym (ap (λ (x : Outcome). x.findings.diagnostics) read.outcome_is) ∙ clean))
    (λ no. absurd (cc)) (λ no. absurd (cc)) (sym (ap (λ (x : Outcome). x.token.kind) read.outcome_is) ∙ end)
again_some text t RegularExpression token place o off no_name read clean = λ end.
    expression_some (from_place text token.start) read.found read.read_is
    (sym (ap (λ (x : Outcome). x.token.kind) read.outcome_is) ∙ end)
again_some text t RightAngle token place o off no_name read clean = λ end.
    angle_some right_angles (from_place text token.start) read.found refl read.read_is
    (sym (ap (λ (x : Outcome). x.token.kind) read.outcome_is) ∙ end)
again_some text t TypeScriptLeftAngle token place o off no_name read clean = λ end.
    angle_some first_left_angle (from_place text token.start) read.found refl read.read_is
    (sym (ap (λ (x : Outcome). x.token.kind) read.outcome_is) ∙ end)
again_some text t TypeScriptRightAngle token place o off no_name read clean = λ end.
    angle_some first_right_angle (from_place text token.start) read.found refl read.read_is
    (sym (ap (λ (x : Outcome). x.token.kind) read.outcome_is) ∙ end)
again_some text t JsxIdentifier token place o off no_name read clean = absurd (no_name refl)
again_some text t JsxChild token place o off no_name read clean = absurd (cc)
again_some text t JsxAttributeValue token place o off no_name read clean = absurd (cc)

-- A hashbang comment.
abbrev hashbang_read : List ℕ → List ℕ → Reading
hashbang_read xs rest = record {
  taken = xs;
  rest = rest;
  kind = HashbangComment;
  line_ended = false;
  escaped = false;
  has_separator = false;
  value = Nothing;
  regex = None;
  diagnostics = [];
}

token_parts : (a : TokenParts) (end : ℕ) (kind : Kind) (line escaped separator : Bool) → a.end ≡ end → a.kind ≡ kind
    → a.is_on_new_line ≡ line → a.escaped ≡ escaped → a.has_separator ≡ separator
    → a ≡ record {
      start = a.start;
      end = end;
      kind = kind;
      is_on_new_line = line;
      escaped = escaped;
      has_separator = separator;
    }
token_parts a end kind line escaped separator e f g h k =
    λ j. record {
      start = a.start;
      end = e j;
      kind = f j;
      is_on_new_line = g j;
      escaped = h j;
      has_separator = k j;
    }

ten_ends : is_line_terminator 10 ≡ true
unfolding is_line_terminator
ten_ends = refl

hashbang_alike : (text other zs : List ℕ) (t : SourceType) (before there : Option TokenParts) (o : Outcome)
    → IsUtf8 text → IsUtf8 other → is_none before ≡ is_none there → begins_hashbang First text 0 ≡ true
    → ReadsHashbang text (line_has_ended_behind before) o
    → StandsAlike text other t o.token.kind 0 o.token.end 0 zs → GoalAlike text other zs t First there 0 o
hashbang_alike text other zs t before there o u v same_before begun reads stands =
    let end = o.token.end in
    let nl = line_has_ended_behind before in
    let ys = from_place text end in
    let xs = stands.characters in
    let start_text = IsCharBoundary-start text u in
    let start_other = IsCharBoundary-start other v in
    let is = reads.is_hashbang in
    let here : from_place text 0 ≡ xs ++ ys = stands.here in
    let there_is : from_place other 0 ≡ xs ++ zs = stands.there_is in
    let stops =
    stops_both is_line_terminator xs ys zs
    (line_stops is_line_terminator ten_ends (λ c e. e) t (ends_as_word o.token.kind (last_character xs))
    (last_character xs) ys zs stands.follows)
    (sym (is.up_to_line_end ∙ ap (from_first is_line_terminator) here)) in
    let mark : from_place text 0 ≡ codes "#!" ++ drop 2 (from_place text 0) =
    prefix_is (codes "#!") (from_place text 0) begun in
    let rest = drop 2 (from_place text 0) in
    let short : length ys ≤ length rest =
    subst (λ h. length h ≤ length rest)
    (sym
    (is.up_to_line_end ∙ ap (from_first is_line_terminator) mark ∙ from_first-hashbang rest))
    (length-from_first is_line_terminator rest) in
    let room : 2 ≤ length xs =
    omega (
      arith,
      short,
      ap length (sym here ∙ mark),
      length-append xs ys,
      length-append (codes "#!") rest,
    ) in
    let other_begun : is_prefix (codes "#!") (from_place other 0) ≡ true =
    ap (is_prefix (codes "#!")) there_is ∙ sym (prefix_within (codes "#!") xs ys zs room)
    ∙ ap (is_prefix (codes "#!")) (sym here) ∙ begun in
    let at = behind_characters other 0 xs zs v start_other there_is in
    let p_end = place_behind 0 xs in
    let token : TokenParts =
    record {
      start = 0;
      end = p_end;
      kind = HashbangComment;
      is_on_new_line = line_has_ended_behind there;
      escaped = false;
      has_separator = false;
    } in
    let p = token_alone token in
    let end_is : end ≡ o.token.start + length (encode_utf8_all xs) =
    place_past text 0 end xs u start_text is.end here ∙ ap (λ n. n + length (encode_utf8_all xs)) (sym is.start) in
    record {
      outcome = p;
      reads = hashbang other_begun (record {
        is_hashbang = record {
          kind = refl;
          start = refl;
          end = at.0;
          up_to_line_end = at.1 ∙ sym (ap (from_first is_line_terminator) there_is ∙ stops.from);
        };
        is_on_new_line = refl;
        escaped = refl;
        has_separator = refl;
        alone = refl;
      });
      alike = record {
        ended = nl;
        reading = hashbang_read xs zs;
        token_is =
            token_parts o.token (o.token.start + length (encode_utf8_all xs)) HashbangComment nl false false end_is
            is.kind reads.is_on_new_line reads.escaped reads.has_separator;
        value_is = ap (λ (x : Outcome). x.value) reads.alone;
        regex_is = ap (λ (x : Outcome). x.regex) reads.alone;
        other_token = token_parts token p_end HashbangComment nl false false refl refl (sym same_before) refl refl;
        other_value = refl;
        other_regex = refl;
        no_diagnostic = refl;
        no_comment = refl;
        part = ap (from_place text) is.start ∙ here;
        other_part = there_is ∙ ap (λ h. xs ++ h) (sym at.1);
        behind = at.1;
      };
    }

-- what JSX has between tags, with warnings
warned_alike : (text other zs : List ℕ) (a b : List Span) (o p : Outcome) → ReadAlike text other zs o p
    → ReadAlike text other zs (with_warnings a o) (with_warnings b p)
warned_alike text other zs a b o p h = record {
  ended = h.ended;
  reading = h.reading;
  token_is = h.token_is;
  value_is = h.value_is;
  regex_is = h.regex_is;
  other_token = h.other_token;
  other_value = h.other_value;
  other_regex = h.other_regex;
  no_diagnostic = h.no_diagnostic;
  no_comment = h.no_comment;
  part = h.part;
  other_part = h.other_part;
  behind = h.behind;
}

some_same : (a b : Reading) → Some a ≡ Some b → a ≡ b
some_same a b e = cc

pub child_alike : (text other zs : List ℕ) (t : SourceType) (before there : Option TokenParts) (place q : ℕ)
    (o : Outcome) → IsUtf8 other → IsCharBoundary other q → is_module t ≡ true → is_none before ≡ is_none there
    → ReadsJsxChild text (line_has_ended_behind before) place o → o.findings.diagnostics ≡ []
    → StandsAlike text other t o.token.kind place o.token.end q zs
    → GoalAlike text other zs t JsxChild there q o
child_alike text other zs t before there place q o v d module_is same_before reads clean stands =
    let child = reads.child in
    let token_is : o.token ≡ child.token = ap (λ (x : Outcome). x.token) reads.outcome_is in
    let from =
    from_alike text other t (line_has_ended_behind before) place q (λ h. Some (jsx_child_reading h)) child zs v d
    reads.reads (sym (ap (λ (x : Outcome). x.findings.diagnostics) reads.outcome_is) ∙ clean)
    (subst (IsTaken (from_place text place)) (some_same _ _ reads.reads.read_is)
    (child_is_read (from_place text place)).taken)
    (subst (λ (k : TokenParts). StandsAlike text other t k.kind place k.end q zs) token_is stands)
    (λ w found quiet left.
    let read =
    some_same (jsx_child_reading (reads.reads.found.taken ++ from_place text child.token.end)) reads.reads.found found in
    ap Some
    (child_follows t _ _ reads.reads.found.taken (from_place text child.token.end) zs module_is w
    (ap (λ (r : Reading). r.diagnostics) read ∙ quiet)
    (ap (λ (r : Reading). r.rest) read ∙ left)
    ∙ ap (λ (r : Reading). record r { rest = zs }) read)) in
    let p = with_warnings (jsx_child_warnings q (from_place other q)) from.outcome in
    record {
      outcome = p;
      reads = record {
        child = from.outcome;
        reads =
            subst (λ f. ReadsFrom other f q (Some (jsx_child_reading (from_place other q))) from.outcome) same_before
            from.reads;
        outcome_is = refl;
      };
      alike =
          subst (λ x. ReadAlike text other zs x p) (sym reads.outcome_is)
          (warned_alike text other zs (jsx_child_warnings place (from_place text place))
          (jsx_child_warnings q (from_place other q)) child from.outcome from.alike);
    }

-- the string of an attribute: it has a quote
pub string_here : (here : List ℕ) (r : Reading) → jsx_string_reading here ≡ Some r → r.diagnostics ≡ []
    → (begins is_quote here ≡ true) × (r.kind ≡ Str)
string_here [] r found clean = absurd (let no : None ≡ Some r = found in cc)
string_here (c ∷ cs) r found clean = by_quote (is_quote c) found
  where
    closed : (rest : List ℕ) → jsx_string_before (c ∷ cs) rest ≡ r → r.kind ≡ Str
    closed [] read = not_empty [] _ (ap (λ (x : Reading). x.diagnostics) read ∙ clean)
    closed (d ∷ ds) read = sym (ap (λ (x : Reading). x.kind) read)

    by_quote : (b : Bool)
        → (if b then Some (jsx_string_before (c ∷ cs) (from_first (λ d. d == c) cs)) else None) ≡ Some r
        → (b ≡ true) × (r.kind ≡ Str)
    by_quote true f = (
      refl,
      closed (from_first (λ d. d == c) cs)
          (let read : jsx_string_before (c ∷ cs) (from_first (λ d. d == c) cs) ≡ r = cc in read),
    )
    by_quote false f = absurd (let no : None ≡ Some r = f in cc)

-- What is read where a gap has ended, and the gap of the other text.
pub record GapsAlike (text other : List ℕ) (t : SourceType) (there : Option TokenParts) (q : ℕ) (has : Bool)
    (o : Outcome) (zs : List ℕ) : Type 0 where
  pub characters : List ℕ
  pub here : from_place text o.token.start ≡ characters ++ from_place text o.token.end
  pub follows : FollowsToken t o.token.kind characters (from_place text o.token.end) zs
  pub gap : BlankGap other t there q has (characters ++ zs)

-- For the gap before a token, with the newline flag of the token.
abbrev pub GapsFor : List ℕ → List ℕ → SourceType → Option TokenParts → Option TokenParts → ℕ → ℕ → Outcome → List ℕ
    → Type 0
GapsFor text other t before there place q o zs =
    (pieces : List Piece) (has : Bool)
    → WholeGap t (line_has_ended_behind before) (from_place text place) pieces has (from_place text o.token.start)
    → gap_diagnostics place pieces ≡ [] → o.token.is_on_new_line ≡ has → GapsAlike text other t there q has o zs

-- what is read without a fault where a gap has ended has no line end
here_on_line : (t : SourceType) (has : Bool) (here : List ℕ) (r : Reading) → ReadsHere t has here r
    → r.diagnostics ≡ [] → r.line_ended ≡ false
here_on_line t has here r (spelled xs l is) clean = ap (λ (x : Reading). x.line_ended) is
here_on_line t has here r (recovers nothing found) clean =
    absurd (recovery_reports t has here r nothing found clean)

pub behind_gap_line : (text : List ℕ) (t : SourceType) (before : Option TokenParts) (place : ℕ) (o : Outcome)
    → (reads : ReadsBehindGap text t before place o) → o.findings.diagnostics ≡ []
    → o.token.is_on_new_line ≡ reads.line_has_ended
behind_gap_line text t before place o reads clean =
    let quiet =
    quiet_parts place o.token.start reads.pieces reads.reading
    (sym (ap (λ (x : Outcome). x.findings.diagnostics) reads.outcome_is) ∙ clean) in
    let none =
    here_on_line t reads.line_has_ended (from_place text o.token.start) reads.reading reads.here quiet.1 in
    ap (λ (x : Outcome). x.token.is_on_new_line) reads.outcome_is ∙ ap (λ b. b || reads.line_has_ended) none

-- a token behind a gap
pub behind_gaps_alike : (text other zs : List ℕ) (t : SourceType) (before there : Option TokenParts) (place q : ℕ)
    (o : Outcome) → IsUtf8 other → IsCharBoundary other q → ReadsBehindGap text t before place o
    → o.findings.diagnostics ≡ [] → GapsFor text other t before there place q o zs
    → (p : Outcome) × ReadsBehindGap other t there q p × ReadAlike text other zs o p
    × (begins is_quote (from_place text o.token.start) ≡ false → begins is_quote (from_place other p.token.start) ≡ false)
behind_gaps_alike text other zs t before there place q o v d reads clean gaps =
    let quiet =
    quiet_parts place o.token.start reads.pieces reads.reading
    (sym (ap (λ (x : Outcome). x.findings.diagnostics) reads.outcome_is) ∙ clean) in
    let g =
    gaps reads.pieces reads.line_has_ended reads.gap quiet.0 (behind_gap_line text t before place o reads clean) in
    gap_alike text other t before there place q o zs v d reads clean g.characters g.here g.follows g.gap

pub string_line : (here : List ℕ) (r : Reading) → jsx_string_reading here ≡ Some r → r.line_ended ≡ false
string_line [] r found = absurd (let no : None ≡ Some r = found in cc)
string_line (c ∷ cs) r found = by_quote (is_quote c) found
  where
    closed : (rest : List ℕ) → jsx_string_before (c ∷ cs) rest ≡ r → r.line_ended ≡ false
    closed [] read = sym (ap (λ (x : Reading). x.line_ended) read)
    closed (d ∷ ds) read = sym (ap (λ (x : Reading). x.line_ended) read)

    by_quote : (b : Bool)
        → (if b then Some (jsx_string_before (c ∷ cs) (from_first (λ d. d == c) cs)) else None) ≡ Some r
        → r.line_ended ≡ false
    by_quote true f =
        closed (from_first (λ d. d == c) cs)
        (let read : jsx_string_before (c ∷ cs) (from_first (λ d. d == c) cs) ≡ r = cc in read)
    by_quote false f = absurd (let no : None ≡ Some r = f in cc)

pub attribute_alike : (text other zs : List ℕ) (t : SourceType) (before there : Option TokenParts) (place q : ℕ)
    (o : Outcome) → IsUtf8 other → IsCharBoundary other q → ReadsAttributeValue text t before place o
    → o.findings.diagnostics ≡ [] → GapsFor text other t before there place q o zs
    → GoalAlike text other zs t JsxAttributeValue there q o
attribute_alike text other zs t before there place q o v d (plain no_quote reads) clean gaps =
    let found = behind_gaps_alike text other zs t before there place q o v d reads clean gaps in
    record { outcome = found.0; reads = plain (found.3 no_quote) found.1; alike = found.2 }
attribute_alike text other zs t before there place q o v d (string reads) clean gaps =
    let s = o.token.start in
    let end = o.token.end in
    let ys = from_place text end in
    let from = reads.reads in
    let r = from.found in
    let has = reads.line_has_ended in
    let whole : o ≡ with_gap t before place reads.pieces (outcome_at has s r) =
    reads.outcome_is ∙ ap (with_gap t before place reads.pieces) from.outcome_is in
    let quiet =
    quiet_parts place s reads.pieces r (sym (ap (λ (x : Outcome). x.findings.diagnostics) whole) ∙ clean) in
    let is = string_here (from_place text s) r from.read_is quiet.1 in
    let taken =
    (subst (λ x. IfSome x (IsRead (from_place text s))) from.read_is (attribute_is_read (from_place text s))).taken in
    let end_is : end ≡ s + size_of r = ap (λ (x : Outcome). x.token.end) whole in
    let string_end : reads.string.token.end ≡ end =
    ap (λ (x : Outcome). x.token.end) from.outcome_is ∙ sym end_is in
    let rest : r.rest ≡ ys = from.rest ∙ ap (from_place text) string_end in
    let here : from_place text s ≡ r.taken ++ ys = taken.here ∙ ap (λ h. r.taken ++ h) rest in
    let some : r.taken ≢ [] = taken.some (λ no. (let wrong : Str ≡ Eof = sym is.1 ∙ no in cc)) in
    let line : o.token.is_on_new_line ≡ has =
    ap (λ (x : Outcome). x.token.is_on_new_line) whole
    ∙ ap (λ b. b || has) (string_line (from_place text s) r from.read_is) in
    let g = gaps reads.pieces has reads.gap quiet.0 line in
    let front : g.characters ≡ r.taken = append_cancel_right g.characters r.taken ys (sym g.here ∙ here) in
    let gap : BlankGap other t there q has (r.taken ++ zs) =
    subst (λ x. BlankGap other t there q has (x ++ zs)) front g.gap in
    let none : whole_gap_piece t has (r.taken ++ zs) ≡ None =
    no_piece t has (ends_as_word o.token.kind (last_character r.taken)) r.taken ys zs
    (subst (λ x. FollowsToken t o.token.kind x ys zs) front g.follows) (λ empty. absurd (some empty))
    (subst (λ z. is_prefix (codes "/*") z ≡ false) here
    (quoted_begins_no_comment (from_place text s) (quote_is_quoted (from_place text s) is.0)))
    (subst (λ z. whole_gap_piece t has z ≡ None) here reads.gap.longest) in
    let start = start_behind q gap.pieces in
    let at =
    behind_characters other q (piece_texts gap.pieces) (r.taken ++ zs) v d
    (pieces_text t (line_has_ended_behind there) (from_place other q) gap.pieces has (r.taken ++ zs) gap.pieces_are) in
    let again : jsx_string_reading (from_place other start) ≡ Some (record r { rest = zs }) =
    ap jsx_string_reading at.1
    ∙ jsx_string_stays r.taken ys zs r (ap jsx_string_reading (sym here) ∙ from.read_is) quiet.1 rest in
    let inner = outcome_at has start (record r { rest = zs }) in
    let p = with_gap t there q gap.pieces inner in
    record {
      outcome = p;
      reads = string (record {
        pieces = gap.pieces;
        line_has_ended = has;
        gap =
            subst (WholeGap t (line_has_ended_behind there) (from_place other q) gap.pieces has) (sym at.1)
            (record { pieces_are = gap.pieces_are; longest = none });
        string = inner;
        reads =
            from_at other has start (jsx_string_reading (from_place other start)) (record r { rest = zs }) v at.0 again
            (subst (λ h. IsTaken h (record r { rest = zs })) (sym at.1) (record { here = refl; some = taken.some }));
        outcome_is = refl;
      });
      alike =
          subst (λ x. ReadAlike text other zs x p) (sym whole)
          (behind_gap_alike text other t before there place q s end reads.pieces has r zs gap v d here end_is quiet.1);
    }

-- The first or the plain goal, where no hashbang begins.
plainly_alike : (text other zs : List ℕ) (t : SourceType) (goal : Goal) (before there : Option TokenParts)
    (place q : ℕ) (o : Outcome) → IsUtf8 other → IsCharBoundary other q → begins_hashbang goal other q ≡ false
    → ReadsBehindGap text t before place o → o.findings.diagnostics ≡ []
    → GapsFor text other t before there place q o zs
    → (p : Outcome) × ReadsPlainly other t goal there q p × ReadAlike text other zs o p
plainly_alike text other zs t goal before there place q o v d other_none reads clean gaps =
    let found = behind_gaps_alike text other zs t before there place q o v d reads clean gaps in
    (found.0, behind_gap other_none found.1, found.2)

-- What a goal reads from behind the last token, it reads from behind the same token in the other text. What JSX has
-- between tags is read in modules alone, and has no gap before it.
pub onward_alike : (text other zs : List ℕ) (t : SourceType) (goal : Goal) (token there : TokenParts) (place q : ℕ)
    (o : Outcome) → IsUtf8 other → IsCharBoundary other q → is_onward goal ≡ true → goal ≢ First
    → (goal ≡ JsxChild → is_module t ≡ true) → GoalReads text t goal (Some token) place o
    → o.findings.diagnostics ≡ [] → GapsFor text other t (Some token) (Some there) place q o zs
    → (goal ≡ JsxChild → StandsAlike text other t o.token.kind place o.token.end q zs)
    → GoalAlike text other zs t goal (Some there) q o
onward_alike text other zs t First token there place q o v d on no_first in_module reads clean gaps stands =
    absurd (no_first refl)
onward_alike text other zs t Next token there place q o v d on no_first in_module (hashbang begins_it reads) clean gaps
    stands = absurd (cc)
onward_alike text other zs t Next token there place q o v d on no_first in_module (behind_gap none reads) clean gaps
    stands =
    let found =
    plainly_alike text other zs t Next (Some token) (Some there) place q o v d refl reads clean gaps in
    record { outcome = found.0; reads = found.1; alike = found.2 }
onward_alike text other zs t TemplateTail token there place q o v d on no_first in_module reads clean gaps stands =
    absurd (cc)
onward_alike text other zs t RegularExpression token there place q o v d on no_first in_module reads clean gaps stands =
    absurd (cc)
onward_alike text other zs t RightAngle token there place q o v d on no_first in_module reads clean gaps stands =
    absurd (cc)
onward_alike text other zs t TypeScriptLeftAngle token there place q o v d on no_first in_module reads clean gaps
    stands = absurd (cc)
onward_alike text other zs t TypeScriptRightAngle token there place q o v d on no_first in_module reads clean gaps
    stands = absurd (cc)
onward_alike text other zs t JsxIdentifier token there place q o v d on no_first in_module reads clean gaps stands =
    absurd (cc)
onward_alike text other zs t JsxChild token there place q o v d on no_first in_module reads clean gaps stands =
    child_alike text other zs t (Some token) (Some there) place q o v d (in_module refl) refl reads clean (stands refl)
onward_alike text other zs t JsxAttributeValue token there place q o v d on no_first in_module reads clean gaps stands =
    attribute_alike text other zs t (Some token) (Some there) place q o v d reads clean gaps

-- The first reading. In the other text too it begins at the start, where no hashbang begins but the one of the text.
pub first_alike : (text other zs : List ℕ) (t : SourceType) (o : Outcome) → IsUtf8 text → IsUtf8 other
    → GoalReads text t First None 0 o → o.findings.diagnostics ≡ [] → GapsFor text other t None None 0 0 o zs
    → (begins_hashbang First text 0 ≡ true → StandsAlike text other t o.token.kind 0 o.token.end 0 zs)
    → (begins_hashbang First text 0 ≡ false → begins_hashbang First other 0 ≡ false)
    → GoalAlike text other zs t First None 0 o
first_alike text other zs t o u v (hashbang begins_it reads) clean gaps stands none_there =
    hashbang_alike text other zs t None None o u v refl begins_it reads (stands begins_it)
first_alike text other zs t o u v (behind_gap none reads) clean gaps stands none_there =
    let found =
    plainly_alike text other zs t First None None 0 0 o v (IsCharBoundary-start other v) (none_there none) reads clean
    gaps in
    record { outcome = found.0; reads = found.1; alike = found.2 }
