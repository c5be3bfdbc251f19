-- Readings of a text and of another one, in which the same characters are read, and other ones follow.
use Rattle.std.proofs.Common.{◌≡◌, ℕ, ◌+◌, Bool, true, false, List, [], ◌∷◌, ◌++◌, refl, sym, ◌∙◌, ap}
use Rattle.std.proofs.Common.{subst, Option, Some, None}
use Rattle.std.specs.Prelude.{◌&&◌, codes, if◌then◌else◌}
use Rattle.std.specs.Option.{option_map}
use Rattle.std.specs.Str.{IsCharBoundary, IsUtf8}
use Rattle.std.proofs.lemmas.List.{append_cancel_right}
use Rattle.js_text.specs.Characters.{begins, from_place, is_line_terminator, is_white_space}
use Rattle.js_text.specs.SourceType.{is_module}
use Rattle.js_text.specs.declared.source_type.SourceType.{SourceType}
use Rattle.js_kind.specs.TokenParts.{TokenParts}
use Rattle.js_kind.specs.declared.kind.Kind.{Kind}
use Rattle.js_grammar.specs.Gap.{Piece, Pieces, has_html_comments, is_prefix, is_reported}
use Rattle.js_grammar.specs.Gap.{line_comment, one_character, whole_gap_piece}
use Rattle.js_grammar.specs.Gap.PieceKind.{white_space, line_terminator, single_line_comment, html_open_comment}
use Rattle.js_grammar.specs.Gap.PieceKind.{html_close_comment, reported_comment}
use Rattle.js_grammar.specs.Goals.{ReadsBehindGap, ReadsFrom, line_has_ended_behind, with_gap}
use Rattle.js_grammar.specs.Outcome.{Findings, Outcome, gap_diagnostics, outcome_at}
use Rattle.js_grammar.specs.Reading.{Reading, moved_diagnostics, moved_regex, moved_value, place_behind, reported_at}
use Rattle.js_grammar.specs.Reading.{size_of}
use Rattle.js_grammar.specs.StringItems.{is_quote}
use Rattle.js_grammar.proofs.AtPlaces.{BehindGap, ReadParts, behind_characters, from_at, gap_at, outcome_of}
use Rattle.js_grammar.proofs.Clean.{none_moved}
use Rattle.js_grammar.proofs.CleanReadings.{clean_here}
use Rattle.js_grammar.proofs.ReadingLemmas.{IsTaken}
use Rattle.js_grammar.proofs.Reported.{append_nil, piece_texts, pieces_text}
use Rattle.js_grammar.proofs.Spans.{here_is_taken}
use Rattle.js_rewrite.proofs.Following.{Follows, FollowsToken, are_operators, mark_here, nothing_behind}
use Rattle.js_rewrite.proofs.Following.{last_character, kept_before}
use Rattle.js_rewrite.proofs.Following.Follows.{kept}
use Rattle.js_rewrite.proofs.FollowingReadings.{clean_follows}

-- the token of what was read at a place
abbrev pub token_at : Bool → ℕ → Reading → TokenParts
token_at ended place reading = (outcome_at ended place reading).token

-- The same was read in both texts. In the other nothing is reported, and no comment is found, and these characters are
-- left behind it.
pub record ReadAlike (text other zs : List ℕ) (o p : Outcome) : Type 0 where
  pub ended : Bool
  pub reading : Reading
  pub token_is : o.token ≡ token_at ended o.token.start reading
  pub value_is : o.value ≡ moved_value o.token.start reading.value
  pub regex_is : o.regex ≡ option_map (moved_regex o.token.start) reading.regex
  pub other_token : p.token ≡ token_at ended p.token.start reading
  pub other_value : p.value ≡ moved_value p.token.start reading.value
  pub other_regex : p.regex ≡ option_map (moved_regex p.token.start) reading.regex
  pub no_diagnostic : p.findings.diagnostics ≡ []
  pub no_comment : p.findings.comments ≡ []
  pub part : from_place text o.token.start ≡ reading.taken ++ from_place text o.token.end
  pub other_part : from_place other p.token.start ≡ reading.taken ++ from_place other p.token.end
  pub behind : from_place other p.token.end ≡ zs

-- What was read at a place of each text, with what was found.
pub read_alike : (text other : List ℕ) (ended : Bool) (s q : ℕ) (r : Reading) (zs : List ℕ)
    (found other_found : Findings) → IsUtf8 other → IsCharBoundary other q
    → from_place text s ≡ r.taken ++ from_place text (s + size_of r) → from_place other q ≡ r.taken ++ zs
    → other_found.diagnostics ≡ [] → other_found.comments ≡ []
    → ReadAlike text other zs (record (outcome_at ended s r) { findings = found })
    (record (outcome_at ended q (record r { rest = zs })) { findings = other_found })
read_alike text other ended s q r zs found other_found u b here there none no_comment =
    let end = behind_characters other q r.taken zs u b there in
    record {
      ended = ended;
      reading = r;
      token_is = refl;
      value_is = refl;
      regex_is = refl;
      other_token = refl;
      other_value = refl;
      other_regex = refl;
      no_diagnostic = none;
      no_comment = no_comment;
      part = here;
      other_part = there ∙ ap (λ h. r.taken ++ h) (sym end.1);
      behind = end.1;
    }

-- A token of the kind stands in both texts at these places, and ends in the text there; in the other these characters
-- follow it.
pub record StandsAlike (text other : List ℕ) (t : SourceType) (kind : Kind) (start end there : ℕ) (zs : List ℕ)
    : Type 0 where
  pub characters : List ℕ
  pub here : from_place text start ≡ characters ++ from_place text end
  pub there_is : from_place other there ≡ characters ++ zs
  pub follows : FollowsToken t kind characters (from_place text end) zs

-- What is read of a text from a start on, and of the other text from where it stands there.
pub record FromAlike (text other zs : List ℕ) (ended : Bool) (q : ℕ) (read : List ℕ → Option Reading) (o : Outcome)
    : Type 0 where
  pub outcome : Outcome
  pub reads : ReadsFrom other ended q (read (from_place other q)) outcome
  pub alike : ReadAlike text other zs o outcome

pub from_alike : (text other : List ℕ) (t : SourceType) (ended : Bool) (s q : ℕ) (read : List ℕ → Option Reading)
    (o : Outcome) (zs : List ℕ) → IsUtf8 other → IsCharBoundary other q
    → (reads : ReadsFrom text ended s (read (from_place text s)) o) → o.findings.diagnostics ≡ []
    → IsTaken (from_place text s) reads.found → StandsAlike text other t o.token.kind s o.token.end q zs
    → (FollowsToken t reads.found.kind reads.found.taken (from_place text o.token.end) zs
    → read (reads.found.taken ++ from_place text o.token.end) ≡ Some reads.found → reads.found.diagnostics ≡ []
    → reads.found.rest ≡ from_place text o.token.end
    → read (reads.found.taken ++ zs) ≡ Some (record reads.found { rest = zs }))
    → FromAlike text other zs ended q read o
from_alike text other t ended s q read o zs v d reads clean taken stands stays =
    let r = reads.found in
    let end = o.token.end in
    let quiet : r.diagnostics ≡ [] =
    none_moved s r.diagnostics (sym (ap (λ (x : Outcome). x.findings.diagnostics) reads.outcome_is) ∙ clean) in
    let here : from_place text s ≡ r.taken ++ from_place text end =
    taken.here ∙ ap (λ h. r.taken ++ h) reads.rest in
    let front : stands.characters ≡ r.taken =
    append_cancel_right stands.characters r.taken (from_place text end) (sym stands.here ∙ here) in
    let there : from_place other q ≡ r.taken ++ zs = stands.there_is ∙ ap (λ x. x ++ zs) front in
    let kind : o.token.kind ≡ r.kind = ap (λ (x : Outcome). x.token.kind) reads.outcome_is in
    let w : FollowsToken t r.kind r.taken (from_place text end) zs =
    subst (λ k. FollowsToken t k r.taken (from_place text end) zs) kind
    (subst (λ x. FollowsToken t o.token.kind x (from_place text end) zs) front stands.follows) in
    let again : read (from_place other q) ≡ Some (record r { rest = zs }) =
    ap read there ∙ stays w (ap read (sym here) ∙ reads.read_is) quiet reads.rest in
    let end_is : end ≡ s + size_of r = ap (λ (x : Outcome). x.token.end) reads.outcome_is in
    let p = outcome_at ended q (record r { rest = zs }) in
    record {
      outcome = p;
      reads =
          from_at other ended q (read (from_place other q)) (record r { rest = zs }) v d again
          (subst (λ h. IsTaken h (record r { rest = zs })) (sym there) (record { here = refl; some = taken.some }));
      alike =
          subst (λ x. ReadAlike text other zs x p) (sym reads.outcome_is)
          (read_alike text other ended s q r zs (outcome_at ended s r).findings p.findings v d
          (here ∙ ap (λ n. r.taken ++ from_place text n) end_is) there (ap (moved_diagnostics q) quiet) refl);
    }

-- a choice that gives no piece
none_chosen : (b : Bool) (y : Piece) (o : Option Piece) → (if b then Some y else o) ≡ None → (b ≡ false) × (o ≡ None)
none_chosen true y o e = absurd (let no : Some y ≡ None = e in cc)
none_chosen false y o e = (refl, e)

false_when : (a b : Bool) → (b ≡ true → a ≡ true) → a ≡ false → b ≡ false
false_when a true h e = absurd (let no : true ≡ false = sym (h refl) ∙ e in cc)
false_when a false h e = refl

with_flag : (a b c : Bool) → (b ≡ true → a ≡ true) → (a && c) ≡ false → (b && c) ≡ false
with_flag a true c h e = rw (h refl) at e
with_flag a false c h e = refl

-- Where no piece begins with a character, and no block comment without an end does, none begins where something else
-- follows it.
none_follows : (t : SourceType) (has is_word : Bool) (c : ℕ) (ys zs : List ℕ) → Follows t is_word c ys zs
    → whole_gap_piece t has (c ∷ ys) ≡ None → is_prefix (codes "/*") (c ∷ ys) ≡ false
    → whole_gap_piece t has (c ∷ zs) ≡ None
none_follows t has is_word c ys zs w none no_block =
    let from : (mark : List ℕ) → are_operators mark ≡ true → is_prefix mark (c ∷ zs) ≡ true
    → is_prefix mark (c ∷ ys) ≡ true =
    λ mark all e. (mark_here t mark false 33 (c ∷ ys) (c ∷ zs) all refl (kept is_word c w) e).here in
    let reported = none_chosen (is_reported t has (c ∷ ys)) (line_comment reported_comment has (c ∷ ys)) _ none in
    let white = none_chosen (is_white_space c) (one_character white_space has c ys) _ reported.1 in
    let line = none_chosen (is_line_terminator c) (one_character line_terminator true c ys) _ white.1 in
    let slashes =
    none_chosen (is_prefix (codes "//") (c ∷ ys)) (line_comment single_line_comment has (c ∷ ys)) _ line.1 in
    let behind = rw no_block at slashes.1 in
    let opened =
    none_chosen (is_prefix (codes "<!--") (c ∷ ys) && has_html_comments t)
    (line_comment html_open_comment has (c ∷ ys)) _ behind in
    let close =
    none_chosen (is_prefix (codes "-->") (c ∷ ys) && (has_html_comments t && has))
    (line_comment html_close_comment has (c ∷ ys)) None opened.1 in
    rw (
      with_flag (is_prefix (codes "<!--") (c ∷ ys)) (is_prefix (codes "<!--") (c ∷ zs)) (is_module t && has)
          (from (codes "<!--") refl) reported.0,
      white.0,
      line.0,
      false_when (is_prefix (codes "//") (c ∷ ys)) (is_prefix (codes "//") (c ∷ zs)) (from (codes "//") refl)
          slashes.0,
      false_when (is_prefix (codes "/*") (c ∷ ys)) (is_prefix (codes "/*") (c ∷ zs)) (from (codes "/*") refl) no_block,
      with_flag (is_prefix (codes "<!--") (c ∷ ys)) (is_prefix (codes "<!--") (c ∷ zs)) (has_html_comments t)
          (from (codes "<!--") refl) opened.0,
      with_flag (is_prefix (codes "-->") (c ∷ ys)) (is_prefix (codes "-->") (c ∷ zs)) (has_html_comments t && has)
          (from (codes "-->") refl) close.0,
    ) refl

-- no piece begins where a token does, in the other text
pub no_piece : (t : SourceType) (has is_word : Bool) (xs ys zs : List ℕ) → Follows t is_word (last_character xs) ys zs
    → (xs ≡ [] → ys ≡ []) → is_prefix (codes "/*") (xs ++ ys) ≡ false → whole_gap_piece t has (xs ++ ys) ≡ None
    → whole_gap_piece t has (xs ++ zs) ≡ None
no_piece t has is_word [] ys zs w at_end no_block none =
    ap (whole_gap_piece t has) (nothing_behind t is_word 0 ys zs (at_end refl) w)
no_piece t has is_word (c ∷ []) ys zs w at_end no_block none = none_follows t has is_word c ys zs w none no_block
no_piece t has is_word (c ∷ d ∷ cs) ys zs w at_end no_block none =
    none_follows t has false c (d ∷ (cs ++ ys)) (d ∷ (cs ++ zs))
    (kept_before t false c (d ∷ cs) ys zs is_word (λ no. absurd (cc)) w) none no_block

-- A gap of the other text, before these characters: nothing is reported in it, and it has no comment.
pub record BlankGap (other : List ℕ) (t : SourceType) (there : Option TokenParts) (q : ℕ) (has : Bool) (rest : List ℕ)
    : Type 0 where
  pub pieces : List Piece
  pub pieces_are : Pieces (whole_gap_piece t) (line_has_ended_behind there) (from_place other q) pieces has rest
  pub quiet : gap_diagnostics q pieces ≡ []
  pub no_comment : (inner : Outcome) → inner.findings.comments ≡ []
      → (with_gap t there q pieces inner).findings.comments ≡ []

-- what a gap and what is read behind it report
pub quiet_parts : (place s : ℕ) (pieces : List Piece) (r : Reading)
    → gap_diagnostics place pieces ++ reported_at s r ≡ [] → (gap_diagnostics place pieces ≡ []) × (r.diagnostics ≡ [])
quiet_parts place s pieces r e =
    let parts = append_nil (gap_diagnostics place pieces) (reported_at s r) e in
    (parts.0, none_moved s r.diagnostics parts.1)

-- where the token behind that gap starts
abbrev pub start_behind : ℕ → List Piece → ℕ
start_behind q pieces = place_behind q (piece_texts pieces)

-- Behind the gap the same is read.
pub behind_gap_alike : (text other : List ℕ) (t : SourceType) (before there : Option TokenParts) (place q s end : ℕ)
    (pieces : List Piece) (has : Bool) (r : Reading) (zs : List ℕ)
    → (gap : BlankGap other t there q has (r.taken ++ zs)) → IsUtf8 other → IsCharBoundary other q
    → from_place text s ≡ r.taken ++ from_place text end → end ≡ s + size_of r → r.diagnostics ≡ []
    → ReadAlike text other zs (with_gap t before place pieces (outcome_at has s r))
    (with_gap t there q gap.pieces (outcome_at has (start_behind q gap.pieces) (record r { rest = zs })))
behind_gap_alike text other t before there place q s end pieces has r zs gap v d here end_is quiet =
    let p_start = start_behind q gap.pieces in
    let at =
    behind_characters other q (piece_texts gap.pieces) (r.taken ++ zs) v d
    (pieces_text t (line_has_ended_behind there) (from_place other q) gap.pieces has (r.taken ++ zs) gap.pieces_are) in
    let inner = outcome_at has p_start (record r { rest = zs }) in
    let p = with_gap t there q gap.pieces inner in
    read_alike text other has s p_start r zs (with_gap t before place pieces (outcome_at has s r)).findings p.findings v
    at.0 (here ∙ ap (λ n. r.taken ++ from_place text n) end_is) at.1
    (ap (λ ds. ds ++ moved_diagnostics p_start r.diagnostics) gap.quiet ∙ ap (moved_diagnostics p_start) quiet)
    (gap.no_comment inner refl)

-- What is read behind a gap of the text is read behind that of the other.
pub gap_alike : (text other : List ℕ) (t : SourceType) (before there : Option TokenParts) (place q : ℕ) (o : Outcome)
    (zs : List ℕ) → IsUtf8 other → IsCharBoundary other q → (reads : ReadsBehindGap text t before place o)
    → o.findings.diagnostics ≡ [] → (xs : List ℕ) → from_place text o.token.start ≡ xs ++ from_place text o.token.end
    → FollowsToken t o.token.kind xs (from_place text o.token.end) zs
    → BlankGap other t there q reads.line_has_ended (xs ++ zs)
    → (p : Outcome) × ReadsBehindGap other t there q p × ReadAlike text other zs o p
    × (begins is_quote (from_place text o.token.start) ≡ false → begins is_quote (from_place other p.token.start) ≡ false)
gap_alike text other t before there place q o zs v d reads clean xs cut follows blank =
    let s = o.token.start in
    let end = o.token.end in
    let ys = from_place text end in
    let r = reads.reading in
    let has = reads.line_has_ended in
    let quiet =
    quiet_parts place s reads.pieces r (sym (ap (λ (x : Outcome). x.findings.diagnostics) reads.outcome_is) ∙ clean) in
    let is_clean = clean_here t has (from_place text s) r reads.here quiet.1 in
    let here : from_place text s ≡ r.taken ++ ys =
    (here_is_taken t has (from_place text s) r reads.here).here ∙ ap (λ h. r.taken ++ h) reads.rest in
    let front : xs ≡ r.taken = append_cancel_right xs r.taken ys (sym cut ∙ here) in
    let kind : o.token.kind ≡ r.kind = ap (λ (x : Outcome). x.token.kind) reads.outcome_is in
    let w : FollowsToken t r.kind r.taken ys zs =
    subst (λ k. FollowsToken t k r.taken ys zs) kind
    (subst (λ x. FollowsToken t o.token.kind x ys zs) front follows) in
    let gap : BlankGap other t there q has (r.taken ++ zs) =
    subst (λ x. BlankGap other t there q has (x ++ zs)) front blank in
    let none : whole_gap_piece t has (r.taken ++ zs) ≡ None =
    no_piece t has _ r.taken ys zs w (λ empty. sym reads.rest ∙ is_clean.at_end empty)
    (subst (λ z. is_prefix (codes "/*") z ≡ false) here is_clean.no_block)
    (subst (λ z. whole_gap_piece t has z ≡ None) here reads.gap.longest) in
    let read : ReadParts =
    record { pieces = gap.pieces; line_has_ended = has; reading = record r { rest = zs } } in
    let behind : BehindGap t (line_has_ended_behind there) (from_place other q) read =
    record {
      left = r.taken ++ zs;
      gap = record { pieces_are = gap.pieces_are; longest = none };
      read = clean_follows t has (from_place text s) r.taken ys zs r here w reads.here quiet.1 reads.rest;
    } in
    let at =
    behind_characters other q (piece_texts gap.pieces) (r.taken ++ zs) v d
    (pieces_text t (line_has_ended_behind there) (from_place other q) gap.pieces has (r.taken ++ zs) gap.pieces_are) in
    let quote = λ (no_quote : begins is_quote (from_place text s) ≡ false).
    ap (begins is_quote) at.1
    ∙ first_same r.taken (λ empty. sym reads.rest ∙ is_clean.at_end empty) w
    (sym (ap (begins is_quote) here) ∙ no_quote) in (
      outcome_of t there q read,
      gap_at other t there q read v d behind,
      subst (λ x. ReadAlike text other zs x (outcome_of t there q read)) (sym reads.outcome_is)
          (behind_gap_alike text other t before there place q s end reads.pieces has r zs gap v d here
          (ap (λ (x : Outcome). x.token.end) reads.outcome_is) quiet.1),
      quote,
    )
  where
    first_same : {word : Bool} (us : List ℕ) → (us ≡ [] → from_place text o.token.end ≡ [])
        → Follows t word (last_character us) (from_place text o.token.end) zs
        → begins is_quote (us ++ from_place text o.token.end) ≡ false → begins is_quote (us ++ zs) ≡ false
    first_same {word = word} [] at_end w none =
        ap (begins is_quote) (nothing_behind t word 0 (from_place text o.token.end) zs (at_end refl) w)
    first_same (x ∷ us) at_end w none = none
