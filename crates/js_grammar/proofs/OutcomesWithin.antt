-- What is found by a reading lies within its text.
use Rattle.std.proofs.Common.{◌≡◌, ℕ, ◌+◌, ◌-◌, ◌≤◌, Bool, true, false, List, [], ◌∷◌, ◌++◌, length, refl, sym, ◌∙◌}
use Rattle.std.proofs.Common.{ap, subst, arith, length-append, Option, None, Some}
use Rattle.std.specs.Prelude.{IfSome, codes, if◌then◌else◌, ◌||◌, ◌&&◌, drop, is_none, not}
use Rattle.std.specs.List.{AllByRecursion, list_any}
use Rattle.std.specs.Option.{option_map}
use Rattle.std.specs.Str.{IsCharBoundary, IsUtf8}
use Rattle.std.proofs.lemmas.List.{length-drop}
use Rattle.std.proofs.lemmas.Str.{length-le-encodes}
use Rattle.js_text.specs.Characters.{before_first, begins, from_place, is_line_terminator, is_white_space}
use Rattle.js_text.specs.SourceType.{is_module, is_unambiguous}
use Rattle.js_text.specs.declared.comment.Comment.{Comment}
use Rattle.js_text.specs.declared.diagnostic.Diagnostic.{Diagnostic}
use Rattle.js_text.specs.declared.diagnostic.Diagnostic.TheVariants.{InvalidCharacter, UnexpectedEnd}
use Rattle.js_text.specs.declared.diagnostic.Diagnostic.TheVariants.{FileAppearsToBeBinary, InvalidNumberEnd}
use Rattle.js_text.specs.declared.diagnostic.Diagnostic.TheVariants.{UnterminatedString, UnterminatedMultiLineComment}
use Rattle.js_text.specs.declared.diagnostic.Diagnostic.TheVariants.{UnterminatedRegExp, UnicodeEscapeSequence}
use Rattle.js_text.specs.declared.diagnostic.Diagnostic.TheVariants.{InvalidEscapeSequence, RegExpFlag, RegExpFlagTwice}
use Rattle.js_text.specs.declared.diagnostic.Diagnostic.TheVariants.{UnexpectedJsxEnd, HtmlCommentInModule}
use Rattle.js_text.specs.declared.reg_exp_flags.RegexInfo.{RegexInfo}
use Rattle.js_text.specs.declared.source_type.SourceType.{SourceType}
use Rattle.js_text.specs.declared.span.Span.{Span}
use Rattle.js_text.proofs.TextLemmas.{place_past, rest_bytes}
use Rattle.js_kind.specs.TokenParts.{TokenParts}
use Rattle.js_kind.specs.declared.kind.Kind.{Kind}
use Rattle.js_kind.specs.declared.kind.Kind.TheVariants.{TemplateMiddle, TemplateTail}
use Rattle.js_grammar.specs.Angle.{angle_reading, first_left_angle, first_right_angle, right_angles}
use Rattle.js_grammar.specs.Attach.{attach_from, is_trailing}
use Rattle.js_grammar.specs.Gap.{Piece, PieceKind, Pieces, has_html_comments, is_prefix, is_reported, line_comment}
use Rattle.js_grammar.specs.Gap.{piece}
use Rattle.js_grammar.specs.Gap.{Cut, block_comment, cut_behind, one_character, whole_gap_piece}
use Rattle.js_grammar.specs.Gap.PieceKind.{white_space, line_terminator, single_line_comment, multi_line_comment}
use Rattle.js_grammar.specs.Gap.PieceKind.{html_open_comment, html_close_comment, reported_comment}
use Rattle.js_grammar.specs.GapItems.{Gap, Item, comment, irregular, irregular_of, line_end, token_before}
use Rattle.js_grammar.specs.Goals.{GoalReads, ReadsAngle, ReadsAttributeString, ReadsAttributeValue, ReadsBehindGap}
use Rattle.js_grammar.specs.Goals.{ReadsFrom, ReadsJsxChild, ReadsJsxName, ReadsPart, ReadsPlainly}
use Rattle.js_grammar.specs.Goals.{line_has_ended_behind, next_part, with_gap}
use Rattle.js_grammar.specs.Goals.ReadsAttributeValue.{string, plain}
use Rattle.js_grammar.specs.Goals.ReadsPlainly.{hashbang, behind_gap}
use Rattle.js_grammar.specs.Jsx.{jsx_child_reading, jsx_name_reading, jsx_string_reading}
use Rattle.js_grammar.specs.Outcome.{Findings, Outcome, gap_deferred, gap_diagnostics, gap_findings, html_deferred}
use Rattle.js_grammar.specs.Outcome.{joined, outcome_at, piece_deferred, piece_diagnostics}
use Rattle.js_grammar.specs.PieceItems.{gap_of, is_line_comment, items_from, items_of, items_of_kind}
use Rattle.js_grammar.specs.PieceItems.{is_separator, listed_if, piece_length, piece_span}
use Rattle.js_grammar.specs.Reading.{Reading, moved_diagnostic, moved_diagnostics, moved_regex, place_behind}
use Rattle.js_grammar.specs.RegularExpression.{regular_expression_reading}
use Rattle.js_grammar.specs.UnicodeEscape.{right_curly_bracket}
use Rattle.js_grammar.specs.declared.goal.Goal.{Goal}
use Rattle.js_grammar.specs.declared.goal.Goal.TheVariants.{First, Next, TemplateTail as TailGoal}
use Rattle.js_grammar.specs.declared.goal.Goal.TheVariants.{RegularExpression, RightAngle, TypeScriptLeftAngle}
use Rattle.js_grammar.specs.declared.goal.Goal.TheVariants.{TypeScriptRightAngle, JsxIdentifier, JsxChild}
use Rattle.js_grammar.specs.declared.goal.Goal.TheVariants.{JsxAttributeValue}
use Rattle.js_grammar.proofs.GoalReadings.{child_is_read}
use Rattle.js_grammar.proofs.ReadingLemmas.{by_choice}
use Rattle.js_grammar.proofs.Reported.{piece_texts, pieces_text}
use Rattle.js_grammar.proofs.Tests.{and_true, prefix_is}
use Rattle.js_grammar.proofs.ReadingsWithin.{AreWithin, DiagnosticWithin, SpanWithin, Within, all_both, angle_within}
use Rattle.js_grammar.proofs.ReadingsWithin.{angles_within, child_within, expression_within, here_within}
use Rattle.js_grammar.proofs.ReadingsWithin.{jsx_name_within}
use Rattle.js_grammar.proofs.ReadingsWithin.{jsx_string_within, part_within, size, size_both, size_parts}

abbrev pub CommentWithin : ℕ → Comment → Type 0
CommentWithin limit c = SpanWithin limit c.span × (c.attached_to ≤ limit)

-- Each place of what was found is there or before it.
pub record FoundWithin (limit : ℕ) (found : Findings) : Type 0 where
  pub diagnostics : AreWithin limit found.diagnostics
  pub deferred : AreWithin limit found.deferred
  pub comments : AllByRecursion (CommentWithin limit) found.comments
  pub irregular : AllByRecursion (SpanWithin limit) found.irregular
  pub warnings : AllByRecursion (SpanWithin limit) found.warnings

pub record OutcomeWithin (limit : ℕ) (o : Outcome) : Type 0 where
  pub regex : IfSome o.regex (λ (info : RegexInfo). info.pattern_end ≤ limit)
  pub found : FoundWithin limit o.findings

joined_within : (limit : ℕ) (a b : Findings) → FoundWithin limit a → FoundWithin limit b
    → FoundWithin limit (joined a b)
joined_within limit a b f g = record {
  diagnostics = all_both (DiagnosticWithin limit) a.diagnostics b.diagnostics f.diagnostics g.diagnostics;
  deferred = all_both (DiagnosticWithin limit) a.deferred b.deferred f.deferred g.deferred;
  comments = all_both (CommentWithin limit) a.comments b.comments f.comments g.comments;
  irregular = all_both (SpanWithin limit) a.irregular b.irregular f.irregular g.irregular;
  warnings = all_both (SpanWithin limit) a.warnings b.warnings f.warnings g.warnings;
}

-- what is read at a place
span_moved : (by limit all : ℕ) (s : Span) → by + limit ≤ all → SpanWithin limit s
    → (by + s.start ≤ all) × (by + s.end ≤ all)
span_moved by limit all s room h = let a = h.0 in let b = h.1 in (omega (arith, room, a), omega (arith, room, b))

moved_within : (by limit all : ℕ) (d : Diagnostic) → by + limit ≤ all → DiagnosticWithin limit d
    → DiagnosticWithin all (moved_diagnostic by d)
moved_within by limit all (InvalidCharacter c s) room h = span_moved by limit all s room h
moved_within by limit all (UnexpectedEnd s) room h = span_moved by limit all s room h
moved_within by limit all FileAppearsToBeBinary room h = tt
moved_within by limit all (InvalidNumberEnd s) room h = span_moved by limit all s room h
moved_within by limit all (UnterminatedString s) room h = span_moved by limit all s room h
moved_within by limit all (UnterminatedMultiLineComment s) room h = span_moved by limit all s room h
moved_within by limit all (UnterminatedRegExp s) room h = span_moved by limit all s room h
moved_within by limit all (UnicodeEscapeSequence s) room h = span_moved by limit all s room h
moved_within by limit all (InvalidEscapeSequence s) room h = span_moved by limit all s room h
moved_within by limit all (RegExpFlag c s) room h = span_moved by limit all s room h
moved_within by limit all (RegExpFlagTwice c s) room h = span_moved by limit all s room h
moved_within by limit all (UnexpectedJsxEnd c s) room h = span_moved by limit all s room h
moved_within by limit all (HtmlCommentInModule s) room h = span_moved by limit all s room h

all_moved : (by limit all : ℕ) (ds : List Diagnostic) → by + limit ≤ all → AreWithin limit ds
    → AreWithin all (moved_diagnostics by ds)
all_moved by limit all [] room h = tt
all_moved by limit all (d ∷ ds) room h = (moved_within by limit all d room h.0, all_moved by limit all ds room h.1)

regex_moved : (by limit all : ℕ) (regex : Option RegexInfo) → by + limit ≤ all
    → IfSome regex (λ (info : RegexInfo). info.pattern_end ≤ limit)
    → IfSome (option_map (moved_regex by) regex) (λ (info : RegexInfo). info.pattern_end ≤ all)
regex_moved by limit all None room h = tt
regex_moved by limit all (Some info) room h = omega (arith, room, h)

at_place : (line_has_ended : Bool) (place limit all : ℕ) (r : Reading) → place + limit ≤ all → Within limit r
    → OutcomeWithin all (outcome_at line_has_ended place r)
at_place line_has_ended place limit all r room h = record {
  regex = regex_moved place limit all r.regex room h.regex;
  found = record {
    diagnostics = all_moved place limit all r.diagnostics room h.diagnostics;
    deferred = tt;
    comments = tt;
    irregular = tt;
    warnings = tt;
  };
}

-- how many bytes the mark of a piece has, if there is something reported of it
abbrev mark_size : PieceKind → ℕ
mark_size white_space = 0
mark_size line_terminator = 0
mark_size single_line_comment = 0
mark_size multi_line_comment = 0
mark_size html_open_comment = 4
mark_size html_close_comment = 3
mark_size reported_comment = 4

abbrev HasMark : Piece → Type 0
HasMark x = mark_size x.kind ≤ size x.text

open_line : (more : List ℕ) → before_first is_line_terminator (codes "<!--" ++ more)
    ≡ codes "<!--" ++ before_first is_line_terminator more
unfolding is_line_terminator
open_line more = refl

open_is_long : (text : List ℕ) → is_prefix (codes "<!--") text ≡ true
    → 4 ≤ size (before_first is_line_terminator text)
open_is_long text e =
    let more = drop 4 text in
    let long = length-le-encodes (codes "<!--" ++ before_first is_line_terminator more) in
    let count : length (codes "<!--" ++ before_first is_line_terminator more)
    ≡ 4 + length (before_first is_line_terminator more) =
    length-append (codes "<!--") (before_first is_line_terminator more) in
    subst (λ xs. 4 ≤ size (before_first is_line_terminator xs)) (sym (prefix_is (codes "<!--") text e))
    (subst (λ xs. 4 ≤ size xs) (sym (open_line more)) (omega (arith, long, count)))

close_line : (more : List ℕ) → before_first is_line_terminator (codes "-->" ++ more)
    ≡ codes "-->" ++ before_first is_line_terminator more
unfolding is_line_terminator
close_line more = refl

close_is_long : (text : List ℕ) → is_prefix (codes "-->") text ≡ true
    → 3 ≤ size (before_first is_line_terminator text)
close_is_long text e =
    let more = drop 3 text in
    let long = length-le-encodes (codes "-->" ++ before_first is_line_terminator more) in
    let count : length (codes "-->" ++ before_first is_line_terminator more)
    ≡ 3 + length (before_first is_line_terminator more) =
    length-append (codes "-->") (before_first is_line_terminator more) in
    subst (λ xs. 3 ≤ size (before_first is_line_terminator xs)) (sym (prefix_is (codes "-->") text e))
    (subst (λ xs. 3 ≤ size xs) (sym (close_line more)) (omega (arith, long, count)))

abbrev MarksOf : Option Piece → Type 0
MarksOf found = IfSome found HasMark

block_has_mark : (line_has_ended : Bool) (text : List ℕ) → MarksOf (block_comment line_has_ended text)
block_has_mark line_has_ended text = by_cut (cut_behind (codes "*/") (drop 2 text))
  where
    by_cut : (cut : Option Cut) → MarksOf
        (option_map
        (λ cut. record {
          kind = multi_line_comment;
          text = codes "/*" ++ cut.front;
          line_has_ended = line_has_ended || list_any is_line_terminator cut.front;
          rest = cut.rest;
        }) cut)
    by_cut None = tt
    by_cut (Some cut) = omega arith

piece_has_mark : (t : SourceType) (line_has_ended : Bool) (text : List ℕ) → MarksOf (piece t line_has_ended text)
piece_has_mark t line_has_ended [] = tt
piece_has_mark t line_has_ended (c ∷ cs) =
    by_choice MarksOf (is_white_space c) (Some (one_character white_space line_has_ended c cs))
    (if is_line_terminator c then Some (one_character line_terminator true c cs)
    else if is_prefix (codes "//") (c ∷ cs) then Some (line_comment single_line_comment line_has_ended (c ∷ cs))
    else if is_prefix (codes "/*") (c ∷ cs) then block_comment line_has_ended (c ∷ cs)
    else if is_prefix (codes "<!--") (c ∷ cs) && has_html_comments t
    then Some (line_comment html_open_comment line_has_ended (c ∷ cs))
    else if is_prefix (codes "-->") (c ∷ cs) && (has_html_comments t && line_has_ended)
    then Some (line_comment html_close_comment line_has_ended (c ∷ cs))
    else None)
    (λ _. omega arith)
    (λ _. by_choice MarksOf (is_line_terminator c) (Some (one_character line_terminator true c cs))
    (if is_prefix (codes "//") (c ∷ cs) then Some (line_comment single_line_comment line_has_ended (c ∷ cs))
    else if is_prefix (codes "/*") (c ∷ cs) then block_comment line_has_ended (c ∷ cs)
    else if is_prefix (codes "<!--") (c ∷ cs) && has_html_comments t
    then Some (line_comment html_open_comment line_has_ended (c ∷ cs))
    else if is_prefix (codes "-->") (c ∷ cs) && (has_html_comments t && line_has_ended)
    then Some (line_comment html_close_comment line_has_ended (c ∷ cs))
    else None)
    (λ _. omega arith)
    (λ _. by_choice MarksOf (is_prefix (codes "//") (c ∷ cs))
    (Some (line_comment single_line_comment line_has_ended (c ∷ cs)))
    (if is_prefix (codes "/*") (c ∷ cs) then block_comment line_has_ended (c ∷ cs)
    else if is_prefix (codes "<!--") (c ∷ cs) && has_html_comments t
    then Some (line_comment html_open_comment line_has_ended (c ∷ cs))
    else if is_prefix (codes "-->") (c ∷ cs) && (has_html_comments t && line_has_ended)
    then Some (line_comment html_close_comment line_has_ended (c ∷ cs))
    else None)
    (λ _. omega arith)
    (λ _. by_choice MarksOf (is_prefix (codes "/*") (c ∷ cs)) (block_comment line_has_ended (c ∷ cs))
    (if is_prefix (codes "<!--") (c ∷ cs) && has_html_comments t
    then Some (line_comment html_open_comment line_has_ended (c ∷ cs))
    else if is_prefix (codes "-->") (c ∷ cs) && (has_html_comments t && line_has_ended)
    then Some (line_comment html_close_comment line_has_ended (c ∷ cs))
    else None)
    (λ _. block_has_mark line_has_ended (c ∷ cs))
    (λ _. by_choice MarksOf (is_prefix (codes "<!--") (c ∷ cs) && has_html_comments t)
    (Some (line_comment html_open_comment line_has_ended (c ∷ cs)))
    (if is_prefix (codes "-->") (c ∷ cs) && (has_html_comments t && line_has_ended)
    then Some (line_comment html_close_comment line_has_ended (c ∷ cs))
    else None)
    (λ e. open_is_long (c ∷ cs) (and_true (is_prefix (codes "<!--") (c ∷ cs)) (has_html_comments t) e).0)
    (λ _. by_choice MarksOf (is_prefix (codes "-->") (c ∷ cs) && (has_html_comments t && line_has_ended))
    (Some (line_comment html_close_comment line_has_ended (c ∷ cs))) None
    (λ e. close_is_long (c ∷ cs)
    (and_true (is_prefix (codes "-->") (c ∷ cs)) (has_html_comments t && line_has_ended) e).0)
    (λ _. tt))))))

whole_piece_has_mark : (t : SourceType) (line_has_ended : Bool) (text : List ℕ) (x : Piece)
    → whole_gap_piece t line_has_ended text ≡ Some x → HasMark x
whole_piece_has_mark t line_has_ended text x e =
    subst MarksOf e
    (by_choice MarksOf (is_reported t line_has_ended text)
    (Some (line_comment reported_comment line_has_ended text)) (piece t line_has_ended text)
    (λ r. open_is_long text (and_true (is_prefix (codes "<!--") text) (is_module t && line_has_ended) r).0)
    (λ _. piece_has_mark t line_has_ended text))

-- what is reported of pieces
piece_within : (limit place : ℕ) (kind : PieceKind) → place + mark_size kind ≤ limit
    → AreWithin limit (piece_diagnostics place kind)
piece_within limit place white_space h = tt
piece_within limit place line_terminator h = tt
piece_within limit place single_line_comment h = tt
piece_within limit place multi_line_comment h = tt
piece_within limit place html_open_comment h = tt
piece_within limit place html_close_comment h = tt
piece_within limit place reported_comment h = ((omega (arith, h), h), tt)

html_within : (limit : ℕ) (t : SourceType) (s : Span) → SpanWithin limit s → AreWithin limit (html_deferred t s)
html_within limit t s h =
    by_choice (AreWithin limit) (is_unambiguous t) (HtmlCommentInModule s ∷ []) [] (λ _. (h, tt)) (λ _. tt)

deferred_within : (limit : ℕ) (t : SourceType) (place : ℕ) (kind : PieceKind) → place + mark_size kind ≤ limit
    → AreWithin limit (piece_deferred t place kind)
deferred_within limit t place white_space h = tt
deferred_within limit t place line_terminator h = tt
deferred_within limit t place single_line_comment h = tt
deferred_within limit t place multi_line_comment h = tt
deferred_within limit t place html_open_comment h = html_within limit t _ (omega (arith, h), h)
deferred_within limit t place html_close_comment h = html_within limit t _ (omega (arith, h), h)
deferred_within limit t place reported_comment h = tt

pieces_within : (limit : ℕ) (t : SourceType) (had : Bool) (place : ℕ) (text : List ℕ) (xs : List Piece) (ended : Bool)
    (rest : List ℕ) → Pieces (whole_gap_piece t) had text xs ended rest → place_behind place (piece_texts xs) ≤ limit
    → AreWithin limit (gap_diagnostics place xs) × AreWithin limit (gap_deferred t place xs)
pieces_within limit t had place text [] ended rest g h = (tt, tt)
pieces_within limit t had place text (x ∷ xs) ended rest g h =
    let mark = whole_piece_has_mark t had text x g.0 in
    let both = size_both x.text (piece_texts xs) in
    let end = place_behind place x.text in
    let more = pieces_within limit t x.line_has_ended end x.rest xs ended rest g.1 (omega (arith, h, both)) in (
      all_both (DiagnosticWithin limit) (piece_diagnostics place x.kind) (gap_diagnostics end xs)
          (piece_within limit place x.kind (omega (arith, h, both, mark))) more.0,
      all_both (DiagnosticWithin limit) (piece_deferred t place x.kind) (gap_deferred t end xs)
          (deferred_within limit t place x.kind (omega (arith, h, both, mark))) more.1,
    )

-- the items of a gap
abbrev ItemWithin : ℕ → Item → Type 0
ItemWithin limit (irregular span) = SpanWithin limit span
ItemWithin limit line_end = Unit {0}
ItemWithin limit (comment found) = SpanWithin limit found.span

listed_within : (limit : ℕ) (b : Bool) (s : Span) → SpanWithin limit s → AllByRecursion (ItemWithin limit)
    (listed_if b s)
listed_within limit true s h = (h, tt)
listed_within limit false s h = tt

kind_within : (limit : ℕ) (kind : PieceKind) (place : ℕ) (ends : Bool) (x : Piece)
    → SpanWithin limit (piece_span place x) → AllByRecursion (ItemWithin limit) (items_of_kind kind place ends x)
kind_within limit white_space place ends x h = listed_within limit _ (piece_span place x) h
kind_within limit line_terminator place ends x h =
    all_both (ItemWithin limit) (listed_if (begins is_separator x.text && not ends) (piece_span place x))
    (line_end ∷ [])
    (listed_within limit (begins is_separator x.text && not ends) (piece_span place x) h) (tt, tt)
kind_within limit single_line_comment place ends x h = (h, tt)
kind_within limit multi_line_comment place ends x h = (h, tt)
kind_within limit html_open_comment place ends x h = (h, tt)
kind_within limit html_close_comment place ends x h = (h, tt)
kind_within limit reported_comment place ends x h = (h, tt)

items_within : (limit place : ℕ) (ends : Bool) (xs : List Piece) → place_behind place (piece_texts xs) ≤ limit
    → AllByRecursion (ItemWithin limit) (items_from place ends xs)
items_within limit place ends [] h = tt
items_within limit place ends (x ∷ xs) h =
    let both = size_both x.text (piece_texts xs) in
    all_both (ItemWithin limit) (items_of_kind x.kind place ends x)
    (items_from (place + piece_length x) (is_line_comment x.kind) xs)
    (kind_within limit x.kind place ends x (omega (arith, h, both), omega (arith, h, both)))
    (items_within limit (place + piece_length x) (is_line_comment x.kind) xs (omega (arith, h, both)))

irregular_within : (limit : ℕ) (items : List Item) → AllByRecursion (ItemWithin limit) items
    → AllByRecursion (SpanWithin limit) (irregular_of items)
irregular_within limit [] h = tt
irregular_within limit (irregular span ∷ xs) h = (h.0, irregular_within limit xs h.1)
irregular_within limit (line_end ∷ xs) h = irregular_within limit xs h.1
irregular_within limit (comment found ∷ xs) h = irregular_within limit xs h.1

attached_within : (limit : ℕ) (gap : Gap) (before items : List Item) → gap.previous.end ≤ limit
    → gap.token.start ≤ limit → AllByRecursion (ItemWithin limit) items
    → AllByRecursion (CommentWithin limit) (attach_from gap before items)
attached_within limit gap before [] p q h = tt
attached_within limit gap before (irregular span ∷ after) p q h =
    attached_within limit gap (irregular span ∷ before) after p q h.1
attached_within limit gap before (line_end ∷ after) p q h =
    attached_within limit gap (line_end ∷ before) after p q h.1
attached_within limit gap before (comment found ∷ after) p q h = (
  (
    h.0,
    by_choice (λ (n : ℕ). n ≤ limit) (is_trailing gap before found) gap.previous.end gap.token.start (λ _. p) (λ _. q),
  ),
  attached_within limit gap (comment found ∷ before) after p q h.1,
)

before_within : (limit : ℕ) (before : Option TokenParts) → IfSome before (λ (b : TokenParts). b.end ≤ limit)
    → (token_before before).end ≤ limit
before_within limit None h = omega arith
before_within limit (Some token) h = h

gap_within : (limit : ℕ) (t : SourceType) (before : Option TokenParts) (had : Bool) (place : ℕ) (text : List ℕ)
    (xs : List Piece) (ended : Bool) (rest : List ℕ) (token : TokenParts)
    → Pieces (whole_gap_piece t) had text xs ended rest → place_behind place (piece_texts xs) ≤ limit
    → token.start ≤ limit → IfSome before (λ (b : TokenParts). b.end ≤ limit)
    → FoundWithin limit (gap_findings t before place xs token)
gap_within limit t before had place text xs ended rest token g h start last =
    let reports = pieces_within limit t had place text xs ended rest g h in
    let items = items_within limit place false xs h in
    record {
      diagnostics = reports.0;
      deferred = reports.1;
      comments =
          attached_within limit (gap_of (is_none before) (token_before before) place xs token) [] (items_of place xs)
          (before_within limit before last) start items;
      irregular = irregular_within limit (items_of place xs) items;
      warnings = tt;
    }

-- what stands from a place on
pub room : (text : List ℕ) (place : ℕ) → IsUtf8 text → IsCharBoundary text place
    → place + size (from_place text place) ≡ length text
room text place u b =
    let rest = ap length (rest_bytes text place u b) ∙ length-drop place text in
    let inside = b.0 in
    omega (arith, rest, inside)

from_within : (text : List ℕ) (line_has_ended : Bool) (start : ℕ) (read : Option Reading) (o : Outcome) → IsUtf8 text
    → IfSome read (Within (size (from_place text start))) → ReadsFrom text line_has_ended start read o
    → OutcomeWithin (length text) o
from_within text line_has_ended start read o u h reads =
    let whole = room text start u reads.begins in
    subst (OutcomeWithin (length text)) (sym reads.outcome_is)
    (at_place line_has_ended start (size (from_place text start)) (length text) reads.found (omega (arith, whole))
    (subst (λ r. IfSome r (Within (size (from_place text start)))) reads.read_is h))

gap_ends : (text : List ℕ) (t : SourceType) (had : Bool) (place start : ℕ) (xs : List Piece) (ended : Bool)
    → IsUtf8 text → IsCharBoundary text place → IsCharBoundary text start
    → Pieces (whole_gap_piece t) had (from_place text place) xs ended (from_place text start)
    → place_behind place (piece_texts xs) ≤ length text
gap_ends text t had place start xs ended u b d g =
    let end = place_past text place start (piece_texts xs) u b d
    (pieces_text t had (from_place text place) xs ended (from_place text start) g) in
    let inside = d.0 in
    omega (arith, end, inside)

with_gap_within : (limit : ℕ) (t : SourceType) (before : Option TokenParts) (place : ℕ) (xs : List Piece) (o : Outcome)
    → FoundWithin limit (gap_findings t before place xs o.token) → OutcomeWithin limit o
    → OutcomeWithin limit (with_gap t before place xs o)
with_gap_within limit t before place xs o g h = record {
  regex = h.regex;
  found = joined_within limit (gap_findings t before place xs o.token) o.findings g h.found;
}

behind_gap_within : (text : List ℕ) (t : SourceType) (before : Option TokenParts) (place : ℕ) (o : Outcome)
    → IsUtf8 text → IsCharBoundary text place → IfSome before (λ (b : TokenParts). b.end ≤ length text)
    → ReadsBehindGap text t before place o → OutcomeWithin (length text) o
behind_gap_within text t before place o u b last reads =
    let start = o.token.start in
    let whole = room text start u reads.start in
    let had = line_has_ended_behind before in
    let read = outcome_at reads.line_has_ended start reads.reading in
    let inside = reads.start.0 in
    subst (OutcomeWithin (length text)) (sym reads.outcome_is)
    (with_gap_within (length text) t before place reads.pieces read
    (gap_within (length text) t before had place (from_place text place) reads.pieces reads.line_has_ended
    (from_place text start) read.token reads.gap.pieces_are
    (gap_ends text t had place start reads.pieces reads.line_has_ended u b reads.start reads.gap.pieces_are) inside
    last)
    (at_place reads.line_has_ended start (size (from_place text start)) (length text) reads.reading
    (omega (arith, whole))
    (here_within t reads.line_has_ended (from_place text start) reads.reading reads.here)))

plainly_within : (text : List ℕ) (t : SourceType) (goal : Goal) (before : Option TokenParts) (place : ℕ) (o : Outcome)
    → IsUtf8 text → IsCharBoundary text place → IfSome before (λ (b : TokenParts). b.end ≤ length text)
    → ReadsPlainly text t goal before place o → OutcomeWithin (length text) o
plainly_within text t goal before place o u b last (hashbang begun reads) =
    subst (OutcomeWithin (length text)) (sym reads.alone) (record {
      regex = tt;
      found = record { diagnostics = tt; deferred = tt; comments = tt; irregular = tt; warnings = tt };
    })
plainly_within text t goal before place o u b last (behind_gap none reads) =
    behind_gap_within text t before place o u b last reads

string_within : (text : List ℕ) (t : SourceType) (before : Option TokenParts) (place : ℕ) (o : Outcome) → IsUtf8 text
    → IsCharBoundary text place → IfSome before (λ (b : TokenParts). b.end ≤ length text)
    → ReadsAttributeString text t before place o → OutcomeWithin (length text) o
string_within text t before place o u b last reads =
    let start = o.token.start in
    let had = line_has_ended_behind before in
    let begins = reads.reads.begins in
    let at = ap (λ (x : Outcome). x.token.start) reads.reads.outcome_is in
    let inside = begins.0 in
    subst (OutcomeWithin (length text)) (sym reads.outcome_is)
    (with_gap_within (length text) t before place reads.pieces reads.string
    (gap_within (length text) t before had place (from_place text place) reads.pieces reads.line_has_ended
    (from_place text start) reads.string.token reads.gap.pieces_are
    (gap_ends text t had place start reads.pieces reads.line_has_ended u b begins reads.gap.pieces_are)
    (omega (arith, at, inside)) last)
    (from_within text reads.line_has_ended start (jsx_string_reading (from_place text start)) reads.string u
    (jsx_string_within (from_place text start)) reads.reads))

value_within : (text : List ℕ) (t : SourceType) (before : Option TokenParts) (place : ℕ) (o : Outcome) → IsUtf8 text
    → IsCharBoundary text place → IfSome before (λ (b : TokenParts). b.end ≤ length text)
    → ReadsAttributeValue text t before place o → OutcomeWithin (length text) o
value_within text t before place o u b last (string reads) = string_within text t before place o u b last reads
value_within text t before place o u b last (plain none reads) = behind_gap_within text t before place o u b last reads

part_of_within : (text : List ℕ) (start : ℕ) (o : Outcome) → IsUtf8 text → ReadsPart text start o
    → OutcomeWithin (length text) o
part_of_within text start o u reads =
    let whole = room text start u reads.begins in
    subst (OutcomeWithin (length text)) (sym reads.outcome_is)
    (at_place false start (size (from_place text start)) (length text) (next_part (from_place text start))
    (omega (arith, whole))
    (subst (λ h. Within (size h) (next_part h)) (sym reads.here)
    (part_within TemplateMiddle TemplateTail right_curly_bracket reads.behind)))

child_of_within : (text : List ℕ) (line_has_ended : Bool) (place : ℕ) (o : Outcome) → IsUtf8 text
    → ReadsJsxChild text line_has_ended place o → OutcomeWithin (length text) o
child_of_within text line_has_ended place o u reads =
    let here = from_place text place in
    let whole = room text place u reads.reads.begins in
    let parts = size_parts here (jsx_child_reading here).taken (jsx_child_reading here).rest
    (child_is_read here).taken.here in
    let child = from_within text line_has_ended place (Some (jsx_child_reading here)) reads.child u (child_within here)
    reads.reads in
    subst (OutcomeWithin (length text)) (sym reads.outcome_is) (record {
      regex = child.regex;
      found = record {
        diagnostics = child.found.diagnostics;
        deferred = child.found.deferred;
        comments = child.found.comments;
        irregular = child.found.irregular;
        warnings = angles_within (length text) place (jsx_child_reading here).taken (omega (arith, whole, parts));
      };
    })

name_of_within : (text : List ℕ) (name : TokenParts) (o : Outcome) → IsUtf8 text → ReadsJsxName text name o
    → OutcomeWithin (length text) o
name_of_within text name o u reads =
    from_within text false name.start (jsx_name_reading reads.part (from_place text name.end)) o u
    (jsx_name_within (size (from_place text name.start)) reads.part (from_place text name.end)) reads.reads

angle_of_within : (text : List ℕ) (kinds : List Kind) (start : ℕ) (o : Outcome) → IsUtf8 text
    → ReadsAngle text kinds start o → OutcomeWithin (length text) o
angle_of_within text kinds start o u reads =
    from_within text false start (angle_reading kinds (from_place text start)) o u
    (angle_within (size (from_place text start)) kinds (from_place text start)) reads

-- Each place of what a reading finds is one of the text, or its end.
pub goal_within : (text : List ℕ) (t : SourceType) (goal : Goal) (before : Option TokenParts) (place : ℕ) (o : Outcome)
    → IsUtf8 text → IsCharBoundary text place → IfSome before (λ (b : TokenParts). b.end ≤ length text)
    → GoalReads text t goal before place o → OutcomeWithin (length text) o
goal_within text t First before place o u b last reads = plainly_within text t First before place o u b last reads
goal_within text t Next before place o u b last reads = plainly_within text t Next before place o u b last reads
goal_within text t TailGoal None place o u b last reads = absurd reads
goal_within text t TailGoal (Some token) place o u b last reads = part_of_within text token.start o u reads
goal_within text t RegularExpression None place o u b last reads = absurd reads
goal_within text t RegularExpression (Some token) place o u b last reads =
    from_within text false token.start (regular_expression_reading (from_place text token.start)) o u
    (expression_within (from_place text token.start)) reads
goal_within text t RightAngle None place o u b last reads = absurd reads
goal_within text t RightAngle (Some token) place o u b last reads =
    angle_of_within text right_angles token.start o u reads
goal_within text t TypeScriptLeftAngle None place o u b last reads = absurd reads
goal_within text t TypeScriptLeftAngle (Some token) place o u b last reads =
    angle_of_within text first_left_angle token.start o u reads
goal_within text t TypeScriptRightAngle None place o u b last reads = absurd reads
goal_within text t TypeScriptRightAngle (Some token) place o u b last reads =
    angle_of_within text first_right_angle token.start o u reads
goal_within text t JsxIdentifier None place o u b last reads = absurd reads
goal_within text t JsxIdentifier (Some token) place o u b last reads = name_of_within text token o u reads
goal_within text t JsxChild before place o u b last reads =
    child_of_within text (line_has_ended_behind before) place o u reads
goal_within text t JsxAttributeValue before place o u b last reads =
    value_within text t before place o u b last reads
