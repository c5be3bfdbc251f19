-- A reading of each goal that ends four bytes before what may differ is the same in every text with that front.
use Rattle.std.proofs.Common.{◌≡◌, ◌≢◌, ℕ, zero, suc, ◌+◌, ◌<◌, ◌≤◌, Bool, true, false, ◌==◌, ◌&&◌, List, [], ◌∷◌, ◌++◌}
use Rattle.std.proofs.Common.{length}
use Rattle.std.proofs.Common.{drop, refl, sym, ◌∙◌, ap, subst, arith, length-append, length-drop, Option, Some, None}
use Rattle.std.proofs.Common.{inl, inr, ◌⊎◌}
use Rattle.std.specs.Prelude.{IfSome, codes, if◌then◌else◌}
use Rattle.std.specs.List.{list_all}
use Rattle.std.specs.Str.{IsCharBoundary}
use Rattle.std.proofs.lemmas.Bool.{eqb-true}
use Rattle.std.proofs.lemmas.List.{append_cancel_right}
use Rattle.std.proofs.lemmas.Str.{IsCharBoundary-start}
use Rattle.js_text.specs.Ascii.{hyphen_minus, number_sign, slash}
use Rattle.js_text.specs.Characters.{begins, from_first, from_place, is_identifier_start, is_line_terminator}
use Rattle.js_text.specs.declared.source_type.SourceType.{SourceType}
use Rattle.js_text.proofs.TextLemmas.{length-from_first}
use Rattle.js_kind.specs.TokenParts.{TokenParts}
use Rattle.js_kind.specs.declared.kind.Kind.{Kind}
use Rattle.js_kind.specs.declared.kind.Kind.TheVariants.{Eof, TemplateMiddle, TemplateTail}
use Rattle.js_grammar.specs.Angle.{angle_reading, first_left_angle, first_right_angle, right_angles}
use Rattle.js_grammar.specs.Gap.{Piece, Pieces, is_prefix, whole_gap_piece}
use Rattle.js_grammar.specs.Goals.{GoalReads, ReadsAngle, ReadsAttributeString, ReadsAttributeValue, ReadsBehindGap}
use Rattle.js_grammar.specs.Goals.{ReadsFrom, ReadsHashbang, ReadsHere, ReadsJsxName, ReadsPart, ReadsPlainly}
use Rattle.js_grammar.specs.Goals.{line_has_ended_behind, next_part, with_gap, ReadsJsxChild, with_warnings}
use Rattle.js_grammar.specs.Goals.ReadsAttributeValue.{string, plain}
use Rattle.js_grammar.specs.Goals.ReadsPlainly.{hashbang, behind_gap}
use Rattle.js_grammar.specs.Hashbang.{begins_hashbang}
use Rattle.js_grammar.specs.Jsx.{ends_jsx_name, jsx_child_reading, jsx_name_reading, jsx_name_up_to, jsx_string_before}
use Rattle.js_grammar.specs.Jsx.{jsx_string_reading, angles_among}
use Rattle.js_grammar.specs.Name.{begins_name, items_text, name_items, no_private_name, private_name_of}
use Rattle.js_grammar.specs.Name.{private_reading}
use Rattle.js_grammar.specs.NumberReads.{number_reading}
use Rattle.js_grammar.specs.Outcome.{Findings, Outcome, joined, outcome_at}
use Rattle.js_grammar.specs.Reading.{Reading}
use Rattle.js_grammar.specs.Readings.{reading}
use Rattle.js_grammar.specs.RegularExpression.{behind_body, ends_flags, regular_expression, regular_expression_reading}
use Rattle.js_grammar.specs.StringItems.{is_quote}
use Rattle.js_grammar.specs.UnicodeEscape.{right_curly_bracket}
use Rattle.js_grammar.specs.declared.goal.Goal.{Goal}
use Rattle.js_grammar.specs.declared.goal.Goal.TheVariants.{First, Next, TemplateTail as TailGoal}
use Rattle.js_grammar.specs.declared.goal.Goal.TheVariants.{RegularExpression, RightAngle, TypeScriptLeftAngle}
use Rattle.js_grammar.specs.declared.goal.Goal.TheVariants.{TypeScriptRightAngle, JsxIdentifier, JsxChild}
use Rattle.js_grammar.specs.declared.goal.Goal.TheVariants.{JsxAttributeValue}
use Rattle.js_grammar.proofs.Ahead.{AgreeFor, BeginAlike, alike_behind, begins_alike, nothing_before}
use Rattle.js_grammar.specs.Recovery.{unterminated_comment}
use Rattle.js_grammar.proofs.AtPlaces.{gap_end}
use Rattle.js_grammar.proofs.GapEnds.{reading_is_here}
use Rattle.js_grammar.specs.Moved.{reads_from}
use Rattle.js_grammar.proofs.GapsAhead.{first_local, SamePieces, findings_same, mark_agrees, none_local}
use Rattle.js_grammar.proofs.GapsAhead.{pieces_local}
use Rattle.js_grammar.proofs.ExpressionsAhead.{expression_local}
use Rattle.js_grammar.proofs.GoalReadings.{IsRead, angle_is_read, angles, attribute_is_read, body_leaves, child_is_read}
use Rattle.js_grammar.proofs.GoalReadings.{expression_read, expression_terminated, expression_unterminated, is_angle}
use Rattle.js_grammar.proofs.GoalReadings.{leaves_from_first}
use Rattle.js_grammar.proofs.GoalWays.{found_is_read}
use Rattle.js_grammar.proofs.GoalsAhead.{ReadsSame, angle_local, either_same, is_short_mark, jsx_child_local}
use Rattle.js_grammar.proofs.GoalsAhead.{jsx_name_local, jsx_string_local, none_same, nothing_left}
use Rattle.js_grammar.proofs.HereReadings.{here_is_reading, of_each_reading}
use Rattle.js_grammar.proofs.LocalReadings.{SameFront, around, boundary_same, goes_on_alike}
use Rattle.js_grammar.proofs.NameLaws.{name_characters}
use Rattle.js_grammar.proofs.NumberItems.{true_or_false}
use Rattle.js_grammar.proofs.NumberSound.{first_is}
use Rattle.js_grammar.proofs.NumberSpans.{number_characters}
use Rattle.js_grammar.proofs.PunctuatorLemmas.{some_text}
use Rattle.js_grammar.proofs.QuotedValues.{part_kind_is}
use Rattle.js_grammar.proofs.ReadingLemmas.{IsTaken, by_choice}
use Rattle.js_grammar.proofs.ReadingsAhead.{reading_local}
use Rattle.js_grammar.proofs.Spans.{here_is_taken, leads, part_is_taken, taken_span}
use Rattle.js_grammar.proofs.StringSpans.{quoted_characters}
use Rattle.js_grammar.proofs.StringsAhead.{part_local}
use Rattle.js_grammar.proofs.TokenStarts.{hashbang_place}

-- What is read of a text that begins with a character takes something.
shorter_by : (xs here rest : List ℕ) → xs ≢ [] → here ≡ xs ++ rest → length rest < length here
shorter_by [] here rest some e = absurd (some refl)
shorter_by (x ∷ xs) here rest some e = omega (arith, ap length e, length-append (x ∷ xs) rest)

private_shorter : (cs : List ℕ) → length (private_reading (number_sign ∷ cs)).rest < length (number_sign ∷ cs)
unfolding private_name_of
private_shorter cs =
    by_choice (λ (r : Reading). length r.rest < length (number_sign ∷ cs)) (begins_name cs)
    (private_name_of (name_items is_identifier_start cs) (number_sign ∷ cs)) (no_private_name (number_sign ∷ cs) cs)
    (λ _. omega (arith, length-drop (length (items_text (name_items is_identifier_start cs))) cs)) (λ _. unnamed cs)
  where
    unnamed : (xs : List ℕ) → length (no_private_name (number_sign ∷ cs) xs).rest < length (number_sign ∷ cs)
    unnamed [] = omega arith
    unnamed (x ∷ xs) = omega arith

pub here_shorter : (t : SourceType) (line_has_ended : Bool) (here : List ℕ) (r : Reading)
    → ReadsHere t line_has_ended here r → 0 < length here → length r.rest < length here
here_shorter t line_has_ended here r reads some =
    of_each_reading (λ r. length r.rest < length here) t line_has_ended here r (record {
      comment = some;
      name = λ e. let found = name_characters here e in shorter_by found.0 here _ found.1 found.2;
      private = λ e. subst (λ h. length (private_reading h).rest < length h) (sym (first_is number_sign here e))
          (private_shorter (drop 1 here));
      number = λ e. number (number_characters here e).leaves;
      quoted = λ e. let found = quoted_characters here e in shorter_by found.characters here _ found.some found.here;
      punctuator = λ p i e. shorter_by p.text here _ (some_text p i) e;
      end = λ e. absurd (omega (arith, some, ap length e));
      binary = λ c cs e. some;
      character = λ c cs e. omega (arith, ap length e);
    }) reads
  where
    number : (((number_reading here).kind ≡ Eof) × ((number_reading here).rest ≡ []))
        ⊎ ((xs : List ℕ) × (xs ≢ []) × (here ≡ xs ++ (number_reading here).rest))
        → length (number_reading here).rest < length here
    number (inl whole) = omega (arith, some, ap length whole.1)
    number (inr found) = shorter_by found.0 here _ found.1 found.2

-- What is read behind a gap, in the other text.
pub record LocalHere (t : SourceType) (line_has_ended : Bool) (us zs : List ℕ) (r : Reading) : Type 0 where
  pub none : whole_gap_piece t line_has_ended (us ++ zs) ≡ None
  pub reads : ReadsHere t line_has_ended (us ++ zs) (record r { rest = zs })

pub here_local : (t : SourceType) (line_has_ended : Bool) (us ys zs : List ℕ) (r : Reading) → BeginAlike ys zs
    → AgreeFor 4 ys zs → whole_gap_piece t line_has_ended (us ++ ys) ≡ None
    → ReadsHere t line_has_ended (us ++ ys) r → r.rest ≡ ys → LocalHere t line_has_ended us zs r
here_local t line_has_ended [] ys zs r alike agree none reads left =
    let some : 0 < length ys = omega (arith, ap length alike.here) in
    absurd (omega (arith, here_shorter t line_has_ended ys r reads some, ap length left))
here_local t line_has_ended (u ∷ us) ys zs r alike agree none reads left =
    let is = here_is_reading t line_has_ended (u ∷ (us ++ ys)) r reads in
    let no_comment : is_prefix (codes "/*") (u ∷ (us ++ ys)) ≡ false =
    elim (true_or_false (is_prefix (codes "/*") (u ∷ (us ++ ys)))) [
      | inl begun ↦ nothing_left ys zs alike (sym (ap (λ (x : Reading). x.rest) (is ∙ comment begun)) ∙ left)
      | inr other ↦ other
    ] in
    let there = none_local t line_has_ended u us ys zs agree no_comment none in
    let same : reading t line_has_ended (u ∷ (us ++ zs)) ≡ record r { rest = zs } =
    reading_local t line_has_ended u us ys zs alike agree (sym (ap (λ (x : Reading). x.rest) is) ∙ left)
    ∙ ap (λ (x : Reading). record x { rest = zs }) (sym is) in
    record {
      none = there;
      reads =
          subst (ReadsHere t line_has_ended (u ∷ (us ++ zs))) same
          (reading_is_here t line_has_ended (u ∷ (us ++ zs)) there);
    }
  where
    comment : is_prefix (codes "/*") (u ∷ (us ++ ys)) ≡ true
        → reading t line_has_ended (u ∷ (us ++ ys)) ≡ unterminated_comment (u ∷ (us ++ ys))
    comment begun = rw begun refl

-- behind a gap
gap_local : (front rest other : List ℕ) (t : SourceType) (before : Option TokenParts) (place : ℕ) (o : Outcome)
    → SameFront front rest other → IsCharBoundary (front ++ rest) place → o.token.end + 4 ≤ length front
    → ReadsBehindGap (front ++ rest) t before place o → ReadsBehindGap (front ++ other) t before place o
gap_local front rest other t before place o both b room reads =
    let text = front ++ rest in
    let new = front ++ other in
    let start = o.token.start in
    let e = o.token.end in
    let span =
    taken_span text start e reads.reading both.utf8 reads.start reads.end reads.rest
    (here_is_taken t reads.line_has_ended (from_place text start) reads.reading reads.here) in
    let first =
    gap_end text t (line_has_ended_behind before) reads.line_has_ended place start reads.pieces both.utf8 b reads.start
    reads.gap in
    let ends = goes_on_alike front rest other e both room reads.end in
    let inside : e ≤ length front = omega (arith, room) in
    let all = around front rest other place e both (omega (arith, first, span.0)) inside b reads.end in
    let token = around front rest other start e both span.0 inside reads.start reads.end in
    let pieces =
    pieces_local t (line_has_ended_behind before) all.part (from_place text e) (from_place new e) token.part reads.pieces
    reads.line_has_ended ends.alike ends.agree
    (subst (λ h. Pieces (whole_gap_piece t) (line_has_ended_behind before) h reads.pieces reads.line_has_ended
    (token.part ++ from_place text e)) all.here
    (subst (λ h. Pieces (whole_gap_piece t) (line_has_ended_behind before) (from_place text place) reads.pieces
    reads.line_has_ended h) token.here reads.gap.pieces_are)) in
    let here =
    here_local t reads.line_has_ended token.part (from_place text e) (from_place new e) reads.reading ends.alike ends.agree
    (subst (λ h. whole_gap_piece t reads.line_has_ended h ≡ None) token.here reads.gap.longest)
    (subst (λ h. ReadsHere t reads.line_has_ended h reads.reading) token.here reads.here) reads.rest in
    let r = record reads.reading { rest = from_place new e } in
    record {
      pieces = pieces.found;
      line_has_ended = reads.line_has_ended;
      gap = record {
        pieces_are =
            subst (λ h. Pieces (whole_gap_piece t) (line_has_ended_behind before) h pieces.found reads.line_has_ended
            (from_place new start)) (sym all.there)
            (subst (λ h. Pieces (whole_gap_piece t) (line_has_ended_behind before) (all.part ++ from_place new e)
            pieces.found reads.line_has_ended h) (sym token.there) pieces.are);
        longest = subst (λ h. whole_gap_piece t reads.line_has_ended h ≡ None) (sym token.there) here.none;
      };
      start = boundary_same front rest other start (omega (arith, room, span.0)) reads.start;
      end = boundary_same front rest other e (omega (arith, room)) reads.end;
      reading = r;
      here = subst (λ h. ReadsHere t reads.line_has_ended h r) (sym token.there) here.reads;
      rest = refl;
      outcome_is = reads.outcome_is ∙ findings reads.pieces pieces.found start reads.line_has_ended reads.reading pieces.same;
    }
  where
    findings : (xs ys : List Piece) (start : ℕ) (line_has_ended : Bool) (r : Reading) → SamePieces xs ys
        → with_gap t before place xs (outcome_at line_has_ended start r)
        ≡ with_gap t before place ys (outcome_at line_has_ended start r)
    findings xs ys start line_has_ended r same =
        ap (λ (f : Findings). record (outcome_at line_has_ended start r) {
          findings = joined f (outcome_at line_has_ended start r).findings;
        }) (sym (findings_same t before place xs ys (outcome_at line_has_ended start r).token same))

-- a reader that depends on its characters, and on what goes on alike behind them
abbrev ReaderIsLocal : (List ℕ → Option Reading) → Type 0
ReaderIsLocal read =
    (xs ys zs : List ℕ) → BeginAlike ys zs → AgreeFor 4 ys zs → ReadsSame ys zs (read (xs ++ ys)) (read (xs ++ zs))

-- from a place on
abbrev from_local : (front rest other : List ℕ) (line_has_ended : Bool) (start : ℕ) (read : List ℕ → Option Reading)
    (o : Outcome) → ReaderIsLocal read → ((here : List ℕ) → IfSome (read here) (IsRead here))
    → SameFront front rest other → o.token.end + 4 ≤ length front
    → ReadsFrom (front ++ rest) line_has_ended start (read (from_place (front ++ rest) start)) o
    → ReadsFrom (front ++ other) line_has_ended start (read (from_place (front ++ other) start)) o
from_local front rest other line_has_ended start read o local all both room reads =
    let text = front ++ rest in
    let new = front ++ other in
    let e = o.token.end in
    let here = from_place text start in
    let taken = (found_is_read here (read here) reads.found reads.read_is (all here)).taken in
    let span = taken_span text start e reads.found both.utf8 reads.begins reads.end reads.rest taken in
    let ends = goes_on_alike front rest other e both room reads.end in
    let token = around front rest other start e both span.0 (omega (arith, room)) reads.begins reads.end in
    let r = record reads.found { rest = from_place new e } in
    record {
      begins = boundary_same front rest other start (omega (arith, room, span.0)) reads.begins;
      found = r;
      read_is =
          ap read token.there
          ∙ local token.part (from_place text e) (from_place new e) ends.alike ends.agree reads.found
          (ap read (sym token.here) ∙ reads.read_is) reads.rest;
      end = boundary_same front rest other e (omega (arith, room)) reads.end;
      rest = refl;
      outcome_is = reads.outcome_is;
    }

-- the next part of a template
part_ahead : (behind us ys zs : List ℕ) → BeginAlike ys zs → us ++ ys ≡ right_curly_bracket ∷ behind
    → (next_part (us ++ ys)).rest ≡ ys
    → (next_part (us ++ zs) ≡ record (next_part (us ++ ys)) { rest = zs })
    × (behind_other : List ℕ) × (us ++ zs ≡ right_curly_bracket ∷ behind_other)
part_ahead behind [] ys zs alike here left =
    let taken = part_is_taken TemplateMiddle TemplateTail right_curly_bracket behind in
    let none : (next_part (right_curly_bracket ∷ behind)).taken ≡ [] =
    nothing_before (next_part (right_curly_bracket ∷ behind)).taken (right_curly_bracket ∷ behind)
    (taken.here ∙ ap (λ t. (next_part (right_curly_bracket ∷ behind)).taken ++ t)
    (ap (λ h. (next_part h).rest) (sym here) ∙ left ∙ here)) in
    absurd (taken.some
    (part_kind_is (λ k. k ≢ Eof) TemplateMiddle TemplateTail (λ e. cc) (λ e. cc) (λ e. cc) right_curly_bracket behind)
    none)
part_ahead behind (u ∷ us) ys zs alike here left =
    let mark : u ≡ right_curly_bracket = cc in
    (part_local TemplateMiddle TemplateTail u us ys zs alike left, us ++ zs, ap (λ c. c ∷ (us ++ zs)) mark)

part_goal : (front rest other : List ℕ) (start : ℕ) (o : Outcome) → SameFront front rest other
    → o.token.end + 4 ≤ length front → ReadsPart (front ++ rest) start o → ReadsPart (front ++ other) start o
part_goal front rest other start o both room reads =
    let text = front ++ rest in
    let new = front ++ other in
    let e = o.token.end in
    let taken : IsTaken (from_place text start) (next_part (from_place text start)) =
    subst (λ h. IsTaken h (next_part h)) (sym reads.here)
    (part_is_taken TemplateMiddle TemplateTail right_curly_bracket reads.behind) in
    let span = taken_span text start e (next_part (from_place text start)) both.utf8 reads.begins reads.end reads.rest taken in
    let ends = goes_on_alike front rest other e both room reads.end in
    let token = around front rest other start e both span.0 (omega (arith, room)) reads.begins reads.end in
    let ahead =
    part_ahead reads.behind token.part (from_place text e) (from_place new e) ends.alike (sym token.here ∙ reads.here)
    (ap (λ h. (next_part h).rest) (sym token.here) ∙ reads.rest) in
    let same : next_part (from_place new start) ≡ record (next_part (from_place text start)) { rest = from_place new e } =
    ap next_part token.there ∙ ahead.0
    ∙ ap (λ h. record (next_part h) { rest = from_place new e }) (sym token.here) in
    record {
      begins = boundary_same front rest other start (omega (arith, room, span.0)) reads.begins;
      behind = ahead.1;
      here = token.there ∙ ahead.2;
      end = boundary_same front rest other e (omega (arith, room)) reads.end;
      rest = ap (λ (r : Reading). r.rest) same;
      outcome_is = reads.outcome_is ∙ ap (outcome_at false start) (sym same);
    }

-- a regular expression, from its `/` on
expression_shorter : (cs : List ℕ) → length (regular_expression cs).rest ≤ length cs
expression_shorter cs =
    elim (true_or_false (begins (λ c. c == slash) (behind_body cs))) [
      | inl is ↦ rw (expression_terminated (slash ∷ cs) (behind_body cs) is)
          (let leaves = body_leaves cs in
          omega (
            arith,
            length-from_first ends_flags (drop 1 (behind_body cs)),
            length-drop 1 (behind_body cs),
            ap length leaves.1,
            length-append leaves.0 (behind_body cs),
          ))
      | inr none ↦ rw (expression_unterminated (slash ∷ cs) (behind_body cs) none) (omega arith)
    ]

expression_reader : ReaderIsLocal regular_expression_reading
expression_reader [] ys zs alike agree r found left = by_text ys refl found
  where
    by_text : (text : List ℕ) → ys ≡ text → regular_expression_reading text ≡ Some r
        → regular_expression_reading zs ≡ Some (record r { rest = zs })
    by_text [] e f = absurd (cc)
    by_text (c ∷ cs) e f = by_slash (c == slash) f
      where
        by_slash : (b : Bool) → (if b then Some (regular_expression cs) else None) ≡ Some r
            → regular_expression_reading zs ≡ Some (record r { rest = zs })
        by_slash true g =
            let same : regular_expression cs ≡ r = cc in
            absurd
            (omega (arith, expression_shorter cs, ap length (ap (λ (x : Reading). x.rest) same ∙ left ∙ e)))
        by_slash false g = absurd (cc)
expression_reader (x ∷ xs) ys zs alike agree r found left =
    either_same ys zs (x == slash) _ _ _ _ _ refl (λ _ y f g. one y f g) (λ _. none_same ys zs None) r found left
  where
    one : ReadsSame ys zs (Some (regular_expression (xs ++ ys))) (Some (regular_expression (xs ++ zs)))
    one y f g =
        let same : regular_expression (xs ++ ys) ≡ y = cc in
        ap Some (expression_local xs ys zs alike (ap (λ (z : Reading). z.rest) same ∙ g))
        ∙ ap (λ (z : Reading). Some (record z { rest = zs })) same

child_reader : ReaderIsLocal (λ here. Some (jsx_child_reading here))
child_reader xs ys zs alike agree r found left =
    let same : jsx_child_reading (xs ++ ys) ≡ r = cc in
    ap Some (jsx_child_local xs ys zs alike (ap (λ (z : Reading). z.rest) same ∙ left))
    ∙ ap (λ (z : Reading). Some (record z { rest = zs })) same

-- what JSX has between tags
child_goal : (front rest other : List ℕ) (line_has_ended : Bool) (place : ℕ) (o : Outcome)
    → SameFront front rest other → o.token.end + 4 ≤ length front
    → ReadsJsxChild (front ++ rest) line_has_ended place o → ReadsJsxChild (front ++ other) line_has_ended place o
child_goal front rest other line_has_ended place o both room reads =
    let here = from_place (front ++ rest) place in
    let moved = from_place (front ++ other) place in
    let there =
    from_local front rest other line_has_ended place (λ text. Some (jsx_child_reading text)) reads.child child_reader
    child_is_read both (subst (λ (x : Outcome). x.token.end + 4 ≤ length front) reads.outcome_is room) reads.reads in
    let found : Some (jsx_child_reading here) ≡ Some reads.reads.found = reads.reads.read_is in
    let found_there : Some (jsx_child_reading moved) ≡ Some there.found = there.read_is in
    let same : jsx_child_reading here ≡ reads.reads.found = cc in
    let same_there : jsx_child_reading moved ≡ there.found = cc in
    let warned : Reading → Outcome = λ r. with_warnings (angles_among place r.taken) reads.child in
    record {
      child = reads.child;
      reads = there;
      outcome_is = reads.outcome_is ∙ ap warned same ∙ sym (ap warned same_there);
    }

string_reader : ReaderIsLocal jsx_string_reading
string_reader xs ys zs alike agree = jsx_string_local xs ys zs alike

-- the lists of angles
record AreShort : Type 0 where
  pub longest : list_all is_short_mark right_angles ≡ true
  pub left : list_all is_short_mark first_left_angle ≡ true
  pub right : list_all is_short_mark first_right_angle ≡ true

are_short : AreShort
are_short = record { longest = refl; left = refl; right = refl }

angle_goal : (front rest other : List ℕ) (kinds : List Kind) (start : ℕ) (o : Outcome)
    → list_all is_short_mark kinds ≡ true → list_all is_angle kinds ≡ true → SameFront front rest other
    → o.token.end + 4 ≤ length front → ReadsAngle (front ++ rest) kinds start o
    → ReadsAngle (front ++ other) kinds start o
angle_goal front rest other kinds start o short are both room reads =
    from_local front rest other false start (angle_reading kinds) o
    (λ xs ys zs alike agree. angle_local kinds xs ys zs short agree) (λ here. angle_is_read kinds here are) both room
    reads

-- a name of JSX, which is read on
name_goal : (front rest other : List ℕ) (name : TokenParts) (o : Outcome) → SameFront front rest other
    → o.token.end + 4 ≤ length front → ReadsJsxName (front ++ rest) name o → ReadsJsxName (front ++ other) name o
name_goal front rest other name o both room reads =
    let text = front ++ rest in
    let new = front ++ other in
    let e = o.token.end in
    let from = reads.reads in
    let behind = from_place text name.end in
    let end_behind = name_end part_left behind from.found from.read_is in
    let span = leads text name.end e end_behind.0 both.utf8 reads.name_end from.end
    (end_behind.1 ∙ ap (λ t. end_behind.0 ++ t) from.rest) in
    let ends = goes_on_alike front rest other e both room from.end in
    let inside : e ≤ length front = omega (arith, room) in
    let token = around front rest other name.end e both span.0 inside reads.name_end from.end in
    let first =
    around front rest other name.start name.end both reads.ordered (omega (arith, inside, span.0)) from.begins
    reads.name_end in
    let part : first.part ≡ reads.part =
    append_cancel_right first.part reads.part behind (sym first.here ∙ reads.here) in
    record {
      ordered = reads.ordered;
      name_end = boundary_same front rest other name.end (omega (arith, room, span.0)) reads.name_end;
      part = reads.part;
      here = first.there ∙ ap (λ t. t ++ from_place new name.end) part;
      reads = record {
        begins =
            boundary_same front rest other name.start (omega (arith, room, span.0, reads.ordered)) from.begins;
        found = record from.found { rest = from_place new e };
        read_is =
            ap (jsx_name_reading reads.part) token.there
            ∙ jsx_name_local reads.part token.part (from_place text e) (from_place new e) ends.alike from.found
            (ap (jsx_name_reading reads.part) (sym token.here) ∙ from.read_is) from.rest;
        end = boundary_same front rest other e (omega (arith, room)) from.end;
        rest = refl;
        outcome_is = from.outcome_is;
      };
    }
  where
    part_left : List ℕ
    part_left = reads.part

    name_end : (part behind : List ℕ) (found : Reading) → jsx_name_reading part behind ≡ Some found
        → (xs : List ℕ) × (behind ≡ xs ++ found.rest)
    name_end part behind found e = by_hyphen (begins (λ c. c == hyphen_minus) behind) e
      where
        by_hyphen : (b : Bool)
            → (if b then Some (jsx_name_up_to part behind (from_first ends_jsx_name behind)) else None) ≡ Some found
            → (xs : List ℕ) × (behind ≡ xs ++ found.rest)
        by_hyphen true g =
            let same : jsx_name_up_to part behind (from_first ends_jsx_name behind) ≡ found = cc in
            let leaves = leaves_from_first ends_jsx_name behind in
            (leaves.0, leaves.1 ∙ ap (λ (r : Reading). leaves.0 ++ r.rest) same)
        by_hyphen false g = absurd (cc)

-- the string of an attribute takes something
string_takes : (ys : List ℕ) (found : Reading) → jsx_string_reading ys ≡ Some found → found.rest ≡ ys → ⊥
string_takes [] found is left = cc
string_takes (c ∷ cs) found is left = by_quote (is_quote c) is
  where
    closed : (rest : List ℕ) → length rest ≤ length cs → jsx_string_before (c ∷ cs) rest ≡ found → ⊥
    closed [] short same = omega (arith, ap length (ap (λ (x : Reading). x.rest) same ∙ left))
    closed (d ∷ ds) short same = omega (arith, short, ap length (ap (λ (x : Reading). x.rest) same ∙ left))

    by_quote : (b : Bool)
        → (if b then Some (jsx_string_before (c ∷ cs) (from_first (λ d. d == c) cs)) else None) ≡ Some found → ⊥
    by_quote true g =
        let same : jsx_string_before (c ∷ cs) (from_first (λ d. d == c) cs) ≡ found = cc in
        closed (from_first (λ d. d == c) cs) (length-from_first (λ d. d == c) cs) same
    by_quote false g = cc

-- the string of an attribute, behind a gap
string_goal : (front rest other : List ℕ) (t : SourceType) (before : Option TokenParts) (place : ℕ) (o : Outcome)
    → SameFront front rest other → IsCharBoundary (front ++ rest) place → o.token.end + 4 ≤ length front
    → ReadsAttributeString (front ++ rest) t before place o → ReadsAttributeString (front ++ other) t before place o
string_goal front rest other t before place o both b room reads =
    let text = front ++ rest in
    let new = front ++ other in
    let start = o.token.start in
    let e = reads.string.token.end in
    let same_end : o.token.end ≡ e = ap (λ (x : Outcome). x.token.end) reads.outcome_is in
    let far : e + 4 ≤ length front = omega (arith, room, same_end) in
    let here = from_place text start in
    let taken =
    (found_is_read here (jsx_string_reading here) reads.reads.found reads.reads.read_is (attribute_is_read here)).taken in
    let span =
    taken_span text start e reads.reads.found both.utf8 reads.reads.begins reads.reads.end reads.reads.rest taken in
    let first =
    gap_end text t (line_has_ended_behind before) reads.line_has_ended place start reads.pieces both.utf8 b
    reads.reads.begins reads.gap in
    let ends = goes_on_alike front rest other e both far reads.reads.end in
    let inside : e ≤ length front = omega (arith, far) in
    let all =
    around front rest other place e both (omega (arith, first, span.0)) inside b reads.reads.end in
    let token = around front rest other start e both span.0 inside reads.reads.begins reads.reads.end in
    let pieces =
    pieces_local t (line_has_ended_behind before) all.part (from_place text e) (from_place new e) token.part reads.pieces
    reads.line_has_ended ends.alike ends.agree
    (subst (λ h. Pieces (whole_gap_piece t) (line_has_ended_behind before) h reads.pieces reads.line_has_ended
    (token.part ++ from_place text e)) all.here
    (subst (λ h. Pieces (whole_gap_piece t) (line_has_ended_behind before) (from_place text place) reads.pieces
    reads.line_has_ended h) token.here reads.gap.pieces_are)) in
    let string_there =
    from_local front rest other reads.line_has_ended start jsx_string_reading reads.string string_reader attribute_is_read
    both far reads.reads in
    record {
      pieces = pieces.found;
      line_has_ended = reads.line_has_ended;
      gap = record {
        pieces_are =
            subst (λ h. Pieces (whole_gap_piece t) (line_has_ended_behind before) h pieces.found reads.line_has_ended
            (from_place new start)) (sym all.there)
            (subst (λ h. Pieces (whole_gap_piece t) (line_has_ended_behind before) (all.part ++ from_place new e)
            pieces.found reads.line_has_ended h) (sym token.there) pieces.are);
        longest =
            subst (λ h. whole_gap_piece t reads.line_has_ended h ≡ None) (sym token.there)
            (none_there token.part (from_place text e) (from_place new e) ends.agree
            (subst (λ h. whole_gap_piece t reads.line_has_ended h ≡ None) token.here reads.gap.longest)
            (reads.reads.found) (ap jsx_string_reading (sym token.here) ∙ reads.reads.read_is) reads.reads.rest);
      };
      string = reads.string;
      reads = string_there;
      outcome_is =
          reads.outcome_is
          ∙ ap (λ (f : Findings). record reads.string { findings = joined f reads.string.findings })
          (sym (findings_same t before place reads.pieces pieces.found reads.string.token pieces.same));
    }
  where
    quote_begins : (c : ℕ) (cs : List ℕ) (found : Reading) → jsx_string_reading (c ∷ cs) ≡ Some found
        → is_quote c ≡ true
    quote_begins c cs found e = by_quote (is_quote c) refl e
      where
        by_quote : (q : Bool) → is_quote c ≡ q
            → (if q then Some (jsx_string_before (c ∷ cs) (from_first (λ d. d == c) cs)) else None) ≡ Some found
            → is_quote c ≡ true
        by_quote true is g = is
        by_quote false is g = absurd (cc)

    nothing_taken : {A : Type 0} (ys : List ℕ) (found : Reading) → jsx_string_reading ys ≡ Some found
        → found.rest ≡ ys → A
    nothing_taken ys found is left =
        absurd (string_takes ys found is left)

    none_there : (us ys zs : List ℕ) → AgreeFor 4 ys zs → whole_gap_piece t reads.line_has_ended (us ++ ys) ≡ None
        → (found : Reading) → jsx_string_reading (us ++ ys) ≡ Some found → found.rest ≡ ys
        → whole_gap_piece t reads.line_has_ended (us ++ zs) ≡ None
    none_there [] ys zs agree none found is left = nothing_taken ys found is left
    none_there (u ∷ us) ys zs agree none found is left =
        none_local t reads.line_has_ended u us ys zs agree (no_slash u (us ++ ys) (quote_begins u (us ++ ys) found is)) none
      where
        no_slash : (c : ℕ) (cs : List ℕ) → is_quote c ≡ true → is_prefix (codes "/*") (c ∷ cs) ≡ false
        no_slash c cs e = by_slash (c == 47) refl
          where
            by_slash : (d : Bool) → (c == 47) ≡ d → (d && is_prefix (codes "*") cs) ≡ false
            by_slash true is = absurd (let no : true ≡ false = sym e ∙ ap is_quote (eqb-true c 47 is) in cc)
            by_slash false is = refl

-- the value of an attribute
attribute_goal : (front rest other : List ℕ) (t : SourceType) (before : Option TokenParts) (place : ℕ) (o : Outcome)
    → SameFront front rest other → IsCharBoundary (front ++ rest) place → o.token.end + 4 ≤ length front
    → ReadsAttributeValue (front ++ rest) t before place o → ReadsAttributeValue (front ++ other) t before place o
attribute_goal front rest other t before place o both b room (string reads) =
    string (string_goal front rest other t before place o both b room reads)
attribute_goal front rest other t before place o both b room (plain none reads) =
    let start = o.token.start in
    let e = o.token.end in
    let span =
    taken_span (front ++ rest) start e reads.reading both.utf8 reads.start reads.end reads.rest
    (here_is_taken t reads.line_has_ended (from_place (front ++ rest) start) reads.reading reads.here) in
    let ends = goes_on_alike front rest other e both room reads.end in
    let token = around front rest other start e both span.0 (omega (arith, room)) reads.start reads.end in
    let begun : begins is_quote (from_place (front ++ other) start) ≡ false =
    ap (begins is_quote) token.there
    ∙ sym (begins_alike is_quote _ _ (alike_behind token.part _ _ ends.alike))
    ∙ ap (begins is_quote) (sym token.here) ∙ none in
    plain begun (gap_local front rest other t before place o both b room reads)

-- the first and the plain goal
hashbang_same : (front rest other : List ℕ) (goal : Goal) (place e : ℕ) → SameFront front rest other
    → IsCharBoundary (front ++ rest) place → place ≤ e → e + 4 ≤ length front → IsCharBoundary (front ++ rest) e
    → begins_hashbang goal (front ++ rest) place ≡ begins_hashbang goal (front ++ other) place
hashbang_same front rest other First zero e both b ordered room d =
    let ends = goes_on_alike front rest other e both room d in
    let all = around front rest other 0 e both ordered (omega (arith, room)) b d in
    ap (is_prefix (codes "#!")) all.here
    ∙ mark_agrees (codes "#!") all.part _ _ refl (omega arith) ends.agree
    ∙ ap (is_prefix (codes "#!")) (sym all.there)
hashbang_same front rest other First (suc place) e both b ordered room d = refl
hashbang_same front rest other Next place e both b ordered room d = refl
hashbang_same front rest other TailGoal place e both b ordered room d = refl
hashbang_same front rest other RegularExpression place e both b ordered room d = refl
hashbang_same front rest other RightAngle place e both b ordered room d = refl
hashbang_same front rest other TypeScriptLeftAngle place e both b ordered room d = refl
hashbang_same front rest other TypeScriptRightAngle place e both b ordered room d = refl
hashbang_same front rest other JsxIdentifier place e both b ordered room d = refl
hashbang_same front rest other JsxChild place e both b ordered room d = refl
hashbang_same front rest other JsxAttributeValue place e both b ordered room d = refl

hashbang_goal : (front rest other : List ℕ) (line_has_ended : Bool) (o : Outcome) → SameFront front rest other
    → o.token.end + 4 ≤ length front → ReadsHashbang (front ++ rest) line_has_ended o
    → ReadsHashbang (front ++ other) line_has_ended o
hashbang_goal front rest other line_has_ended o both room reads =
    let text = front ++ rest in
    let new = front ++ other in
    let e = o.token.end in
    let is = reads.is_hashbang in
    let ends = goes_on_alike front rest other e both room is.end in
    let all =
    around front rest other 0 e both (omega arith) (omega (arith, room)) (IsCharBoundary-start text both.utf8) is.end in
    let there =
    first_local is_line_terminator all.part (from_place text e) (from_place new e) [] ends.alike
    (ap (from_first is_line_terminator) (sym all.here) ∙ sym is.up_to_line_end) in
    record {
      is_hashbang = record {
        kind = is.kind;
        start = is.start;
        end = boundary_same front rest other e (omega (arith, room)) is.end;
        up_to_line_end = sym there.from ∙ ap (from_first is_line_terminator) (sym all.there);
      };
      is_on_new_line = reads.is_on_new_line;
      escaped = reads.escaped;
      has_separator = reads.has_separator;
      alone = reads.alone;
    }

plainly_goal : (front rest other : List ℕ) (t : SourceType) (goal : Goal) (before : Option TokenParts) (place : ℕ)
    (o : Outcome) → SameFront front rest other → IsCharBoundary (front ++ rest) place → o.token.end + 4 ≤ length front
    → ReadsPlainly (front ++ rest) t goal before place o → ReadsPlainly (front ++ other) t goal before place o
plainly_goal front rest other t goal before place o both b room (hashbang begun reads) =
    hashbang
    (sym (hashbang_same front rest other goal place o.token.end both b
    (let none = hashbang_place goal (front ++ rest) place begun in omega (arith, none)) room reads.is_hashbang.end)
    ∙ begun)
    (hashbang_goal front rest other (line_has_ended_behind before) o both room reads)
plainly_goal front rest other t goal before place o both b room (behind_gap none reads) =
    let start = o.token.start in
    let span =
    taken_span (front ++ rest) start o.token.end reads.reading both.utf8 reads.start reads.end reads.rest
    (here_is_taken t reads.line_has_ended (from_place (front ++ rest) start) reads.reading reads.here) in
    let first =
    gap_end (front ++ rest) t (line_has_ended_behind before) reads.line_has_ended place start reads.pieces both.utf8 b
    reads.start reads.gap in
    behind_gap
    (sym (hashbang_same front rest other goal place o.token.end both b (omega (arith, first, span.0)) room reads.end)
    ∙ none)
    (gap_local front rest other t before place o both b room reads)

-- Every reading is local.
pub goal_local : (front rest other : List ℕ) (t : SourceType) (goal : Goal) (before : Option TokenParts) (place : ℕ)
    (o : Outcome) → SameFront front rest other → IsCharBoundary (front ++ rest) (reads_from goal before place)
    → o.token.end + 4 ≤ length front
    → GoalReads (front ++ rest) t goal before place o → GoalReads (front ++ other) t goal before place o
goal_local front rest other t First None place o both b room reads =
    plainly_goal front rest other t First None place o both b room reads
goal_local front rest other t First (Some token) place o both b room reads =
    plainly_goal front rest other t First (Some token) place o both b room reads
goal_local front rest other t Next None place o both b room reads =
    plainly_goal front rest other t Next None place o both b room reads
goal_local front rest other t Next (Some token) place o both b room reads =
    plainly_goal front rest other t Next (Some token) place o both b room reads
goal_local front rest other t JsxAttributeValue None place o both b room reads =
    attribute_goal front rest other t None place o both b room reads
goal_local front rest other t JsxAttributeValue (Some token) place o both b room reads =
    attribute_goal front rest other t (Some token) place o both b room reads
goal_local front rest other t JsxChild before place o both b room reads =
    child_goal front rest other (line_has_ended_behind before) place o both room reads
goal_local front rest other t TailGoal None place o both b room reads = reads
goal_local front rest other t TailGoal (Some token) place o both b room reads =
    part_goal front rest other token.start o both room reads
goal_local front rest other t RegularExpression None place o both b room reads = reads
goal_local front rest other t RegularExpression (Some token) place o both b room reads =
    from_local front rest other false token.start regular_expression_reading o expression_reader expression_read both room
    reads
goal_local front rest other t RightAngle None place o both b room reads = reads
goal_local front rest other t RightAngle (Some token) place o both b room reads =
    angle_goal front rest other right_angles token.start o are_short.longest angles.longest both room reads
goal_local front rest other t TypeScriptLeftAngle None place o both b room reads = reads
goal_local front rest other t TypeScriptLeftAngle (Some token) place o both b room reads =
    angle_goal front rest other first_left_angle token.start o are_short.left angles.left both room reads
goal_local front rest other t TypeScriptRightAngle None place o both b room reads = reads
goal_local front rest other t TypeScriptRightAngle (Some token) place o both b room reads =
    angle_goal front rest other first_right_angle token.start o are_short.right angles.right both room reads
goal_local front rest other t JsxIdentifier None place o both b room reads = reads
goal_local front rest other t JsxIdentifier (Some token) place o both b room reads =
    name_goal front rest other token o both room reads
