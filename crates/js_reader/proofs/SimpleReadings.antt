-- The steps of readings that need the source alone.
use Rattle.js_source.proofs.Places.{same_at}
use Rattle.std.proofs.Common.{◌≡◌, ◌<◌, ◌≤◌, ◌&&◌, ◌||◌, ◌==◌, not, ℕ, zero, suc, Bool, true, false, List, [], ◌∷◌}
use Rattle.std.proofs.Common.{refl, sym, ◌∙◌, ap, subst}
use Rattle.std.proofs.Common.{arith, Option, Some, None}
use Rattle.std.specs.Prelude.{codes, MatchBool, nat_le}
use Rattle.std.proofs.lemmas.Bool.{ne_eqb, eqb-true, leb-true, leb-false}
use Rattle.std.specs.Char.{is_ascii_digit}
use Rattle.js_text.proofs.CharacterLemmas.{start_in_ascii}
use Rattle.js_text.specs.Ascii.{grave_accent, number_sign}
use Rattle.js_text.specs.Characters.{begins, from_place, is_identifier_start}
use Rattle.js_text.specs.declared.comment.Comment.{Comment}
use Rattle.js_text.specs.declared.diagnostic.Diagnostic.{Diagnostic}
use Rattle.js_text.specs.declared.source_type.SourceType.{SourceType}
use Rattle.js_kind.specs.TokenParts.{TokenParts, default_parts}
use Rattle.js_kind.specs.declared.kind.Kind.{Kind}
use Rattle.js_kind.specs.declared.kind.Kind.TheVariants.{NoSubstitutionTemplate, TemplateHead}
use Rattle.js_grammar.specs.Gap.{is_prefix, is_reported, piece, whole_gap_piece, has_html_comments}
use Rattle.js_grammar.specs.Goals.{line_has_ended_behind}
use Rattle.js_grammar.specs.Name.{begins_name}
use Rattle.js_grammar.specs.Number.{begins_number}
use Rattle.js_grammar.specs.Reading.{reported_at}
use Rattle.js_grammar.specs.StringItems.{is_quote}
use Rattle.js_grammar.specs.declared.goal.Goal.TheVariants.{Next}
use Rattle.js_grammar.proofs.Flags.{punctuator_unflagged}
use Rattle.js_grammar.proofs.GapLemmas.{none_behind, unreported}
use Rattle.js_grammar.proofs.NumberClasses.{all_below, below}
use Rattle.js_grammar.proofs.PieceLemmas.{piece-other, piece-minus, piece-angle}
use Rattle.js_source.specs.Runs.{PassesRun, TellsClass}
use Rattle.js_source.specs.Source.{At, rest, Reads, IsPlaced, HasFirstByte, HasFirstTwoBytes, GoesTo}
use Rattle.js_source.specs.Search.{matches_at}
use Rattle.js_spell.specs.Name.{SpellsUnescapedName, SpellsUnescapedPrivateName}
use Rattle.js_spell.specs.Numeric.{SpellsUnseparatedNumber}
use Rattle.js_spell.specs.Strings.{SpellsUnescapedString, SpellsUnescapedPart}
use Rattle.js_trivia.specs.Attachment.{after_newline, after_token}
use Rattle.js_trivia.specs.Trivia.{Trivia, handle_token}
use Rattle.js_reader.specs.Gaps.{BeginsNoPiece}
use Rattle.js_reader.specs.Simple.{EndsGap, EndsGapInAscii, MeetsByte, PassesPieces}
use Rattle.js_reader.specs.Simple.{moved, after_ends, ends_told, PassesSimpleGap, SpellsFor, SpellsSimply}
use Rattle.js_reader.specs.Simple.{ReadsSimpleToken}
use Rattle.js_reader.specs.Reader.{ReadsInPart, ReadsTokenHere, ReadsWithGap, lexeme_token, simple_lexeme}
use Rattle.js_spell.specs.Families.{ReadsPunctuator}
use Rattle.js_reader.specs.Tables.{is_blank, is_symbol, is_name_start}
use Rattle.js_reader.specs.declared.findings_builder.FindingsBuilder.{FindingsBuilder}
use Rattle.js_reader.specs.declared.reader.Reader.{Reader}
use Rattle.js_reader.proofs.GapSteps.{blanks_lead, line_feed_skipped, no_gap_left}
use Rattle.js_reader.proofs.FirstBytes.{begins_none}
use Rattle.js_reader.proofs.PartSteps.{is_start, mark_none, small_of}
use Rattle.js_reader.proofs.NumberSteps.{digit_begins}
use Rattle.js_reader.proofs.ReadingSteps.{lexeme_spelled, lexeme_onward}
use Rattle.js_reader.proofs.ReadingSteps.{goal_behind, token_behind}
use Rattle.js_reader.proofs.SpellingSteps.{punctuator_spelled}
use Rattle.js_reader.proofs.SpeltSteps.{behind_mark, lexeme_as, lexeme_of_number, name_here, private_here}
use Rattle.js_reader.proofs.SpeltSteps.{string_here, template_here}
use Rattle.js_reader.proofs.WholeSteps.{whole_at_once}

-- nothing was passed yet
pub none_passed : (start : At) (ended : Bool) → PassesPieces start ended start ended
none_passed start ended = record { ends = 0; leads = λ r before later found skips. skips }

-- a run of blanks
pub blanks_passed : (table : List Bool) → TellsClass is_blank table → (start now next : At) (had has : Bool)
    → PassesPieces start had now has → next.text ≡ now.text
    → PassesRun table now.text now.place next.place → PassesPieces start had next has
blanks_passed table tells start now next had has s text run = record {
  ends = s.ends;
  leads = λ r before later found skips.
      s.leads r before later found
      (blanks_lead table tells (moved r now has) next (ends_told s.ends before) text run later found skips);
}

-- a run of one character
run_of_one : (table : List Bool) (now next : At) (b : ℕ) → b < 128 → matches_at table b ≡ true
    → rest now ≡ b ∷ rest next → next.text ≡ now.text → now.place ≤ next.place
    → PassesRun table now.text now.place next.place
run_of_one table now next b small has here text onward = record {
  onward = onward;
  placed = subst (λ t. IsPlaced t next.place) text next.placed;
  run = b ∷ [];
  all = (small, has, tt);
  here = here ∙ ap (λ t. b ∷ from_place t next.place) text;
}

pub blank_is_ascii : (table : List Bool) (b : ℕ) → TellsClass is_blank table → matches_at table b ≡ true → b < 128
blank_is_ascii table b tells is = small_of table b tells.ascii is

-- one blank
pub blank_passed : (table : List Bool) → TellsClass is_blank table → (start now next : At) (had has : Bool) (b : ℕ)
    → PassesPieces start had now has → matches_at table b ≡ true → rest now ≡ b ∷ rest next → next.text ≡ now.text
    → now.place ≤ next.place → PassesPieces start had next has
blank_passed table tells start now next had has b s is here text onward =
    blanks_passed table tells start now next had has s text
    (run_of_one table now next b (blank_is_ascii table b tells is) is here text onward)

-- a line feed
pub line_feed_passed : (start now next : At) (had has : Bool) → PassesPieces start had now has
    → rest now ≡ 10 ∷ rest next → next.text ≡ now.text → PassesPieces start had next true
line_feed_passed start now next had has s here text = record {
  ends = suc s.ends;
  leads = λ r before later found skips.
      s.leads r before later found
      ((line_feed_skipped (moved r now has) (ends_told s.ends before) next (ends_told (suc s.ends) before).trivia
      text here refl).leads later found skips);
}

-- the gap has ended
pub gap_passed : (start now : At) (had has : Bool) → PassesPieces start had now has → EndsGap has (rest now)
    → PassesSimpleGap start had now has
gap_passed start now had has s ends = record {
  ends = s.ends;
  skips = λ r before.
      let none = none_behind r.source_type has (rest now) (ends r.source_type) in
      whole_at_once (moved r start had) (moved r now has) before (ends_told s.ends before)
      (s.leads r before (moved r now has) (ends_told s.ends before)
      (no_gap_left false (moved r now has) (moved r now has) (ends_told s.ends before) (ends_told s.ends before)
      (record { source = refl; stays = record { source_type = refl; line_has_ended = refl } }) refl
      none.1))
      none.0;
}

whole_none : (t : SourceType) (ended : Bool) (cs : List ℕ) → is_reported t ended cs ≡ false → piece t ended cs ≡ None
    → whole_gap_piece t ended cs ≡ None
whole_none t ended cs none e = unreported t ended cs none ∙ e

-- a character that begins no piece
pub no_piece_ends : (b : ℕ) (ended : Bool) (cs : List ℕ) → HasFirstByte b cs → BeginsNoPiece b
    → EndsGapInAscii b ended cs
no_piece_ends b ended [] first none = absurd first
no_piece_ends b ended (c ∷ cs) first none = record {
  ascii = none.ascii;
  ends = λ t.
      ap (λ d. whole_gap_piece t ended (d ∷ cs)) (first.0 none.ascii)
      ∙ whole_none t ended (b ∷ cs) (rw (ne_eqb b 60 none.no_angle) refl)
      (piece-other t ended b cs none.no_white_space none.no_line_terminator none.no_slash none.no_angle none.no_minus);
}

-- no piece begins with the first character of a name
abbrev is_no_start : ℕ → Bool
is_no_start b = not (is_start b)

no_control_starts : all_below is_no_start 33 ≡ true
no_control_starts = refl

start_is_high : (b : ℕ) → is_start b ≡ true → 32 < b
start_is_high b is = by_test (nat_le 33 b) refl
  where
    by_test : (x : Bool) → nat_le 33 b ≡ x → 32 < b
    by_test true e = omega (arith, leb-true 33 b e)
    by_test false e =
        absurd
        (let none : not (is_start b) ≡ true = below is_no_start 33 b no_control_starts (leb-false 33 b e) in
        let both : false ≡ true = ap not (sym is) ∙ none in cc)

pub start_ends : (b : ℕ) (ended : Bool) (cs : List ℕ) → b < 128 → HasFirstByte b cs → is_start b ≡ true
    → EndsGapInAscii b ended cs
start_ends b ended cs small first is =
    no_piece_ends b ended cs first
    (begins_none b (start_is_high b is) small (λ e. let no : is_start 47 ≡ true = ap is_start (sym e) ∙ is in cc)
    (λ e. let no : is_start 60 ≡ true = ap is_start (sym e) ∙ is in cc)
    (λ e. let no : is_start 45 ≡ true = ap is_start (sym e) ∙ is in cc))

-- the gap has ended before the byte
pub byte_met : (b : ℕ) (start now : At) (had has : Bool) → PassesPieces start had now has
    → EndsGapInAscii b has (rest now) → HasFirstByte b (rest now) → MeetsByte b start had now has
byte_met b start now had has s ends next =
    record { gap = gap_passed start now had has s ends.ends; ascii = ends.ascii; next = next; ends = ends.ends }

-- what the table of symbols tells
pub mark_ends : (table : List Bool) (b : ℕ) (ended : Bool) (cs : List ℕ) → TellsClass is_symbol table
    → matches_at table b ≡ true → HasFirstByte b cs → EndsGapInAscii b ended cs
mark_ends table b ended cs tells is first = no_piece_ends b ended cs first (mark_none table b tells is)

-- what the table of the starts of names tells
pub starts_name : (table : List Bool) (b : ℕ) → TellsClass is_identifier_start table → matches_at table b ≡ true
    → is_identifier_start b ≡ true
starts_name table b tells is = sym (tells.tells b (small_of table b tells.ascii is)) ∙ is

-- the table of the starts of names tells as much
pub tells_ends : (table : List Bool) (b : ℕ) (ended : Bool) (cs : List ℕ) → TellsClass is_identifier_start table
    → matches_at table b ≡ true → HasFirstByte b cs → EndsGapInAscii b ended cs
tells_ends table b ended cs tells is first = by_test (nat_le 128 b) refl
  where
    by_test : (x : Bool) → nat_le 128 b ≡ x → EndsGapInAscii b ended cs
    by_test true e = absurd (let both : true ≡ false = sym is ∙ tells.ascii b (leb-true 128 b e) in cc)
    by_test false e =
        let small = leb-false 128 b e in
        start_ends b ended cs small first
        (sym (start_in_ascii b small) ∙ sym (tells.tells b small) ∙ is)

pub and_false : (x : Bool) → (x && false) ≡ false
and_false true = refl
and_false false = refl

-- a `-` where no line has ended
pub minus_alone : (b : ℕ) (ended : Bool) (cs : List ℕ) → b ≡ 45 → HasFirstByte b cs
    → MatchBool (not ended) (EndsGapInAscii b ended cs) (Unit {0})
minus_alone b true cs is first = tt
minus_alone b false [] is first = absurd first
minus_alone b false (c ∷ cs) is first =
    let small : b < 128 = omega (arith, is) in
    let same : c ≡ 45 = first.0 small ∙ is in
    record {
      ascii = small;
      ends = λ t.
          ap (λ d. whole_gap_piece t false (d ∷ cs)) same
          ∙ whole_none t false (45 ∷ cs) refl
          (piece-minus t false cs
          ∙ rw (and_false (has_html_comments t), and_false (is_prefix (codes "->") cs)) refl);
    }

no_mark : (second : ℕ) (cs : List ℕ) → (second == 33) ≡ false → HasFirstByte second cs
    → is_prefix (codes "!--") cs ≡ false
no_mark second [] other first = absurd first
no_mark second (d ∷ ds) other first = by_test (d == 33) refl
  where
    by_test : (x : Bool) → (d == 33) ≡ x → (x && is_prefix (codes "--") ds) ≡ false
    by_test true e =
        let is : d ≡ 33 = eqb-true d 33 e in
        let same : d ≡ second = first.1 (omega (arith, is)) in
        absurd (let both : true ≡ false = sym e ∙ ap (λ n. n == 33) same ∙ other in cc)
    by_test false e = refl

-- a `<` that no `!` follows
pub angle_alone : (b first second : ℕ) (ended : Bool) (cs : List ℕ) → b ≡ 60 → HasFirstByte b cs
    → HasFirstTwoBytes first second cs → MatchBool (not (second == 33)) (EndsGapInAscii b ended cs) (Unit {0})
angle_alone b first second ended [] is here two = absurd here
angle_alone b first second ended (c ∷ cs) is here two = by_test (second == 33) refl
  where
    small : b < 128
    small = omega (arith, is)

    same : c ≡ 60
    same = here.0 small ∙ is

    behind : HasFirstByte second cs
    behind = let at : c ≡ first = two.0.1 (omega (arith, same)) in two.1 (omega (arith, at, same))

    by_test : (x : Bool) → (second == 33) ≡ x → MatchBool (not x) (EndsGapInAscii b ended (c ∷ cs)) (Unit {0})
    by_test true e = tt
    by_test false e =
        let none = no_mark second cs e behind in
        record {
          ascii = small;
          ends = λ t.
              ap (λ d. whole_gap_piece t ended (d ∷ cs)) same
              ∙ whole_none t ended (60 ∷ cs) (rw none refl) (piece-angle t ended cs ∙ rw none refl);
        }

-- a name without an escape
pub simple_name : (ended : Bool) (old new : At) (kind : Kind) → begins_name (rest old) ≡ true
    → SpellsUnescapedName old new kind → SpellsSimply ended old new kind
simple_name ended old new kind begun spells r =
    let here = moved r old ended in
    λ errors. lexeme_as here (moved r new ended) (name_here here begun) refl refl (spells errors default_parts) refl

-- a punctuator
pub simple_punctuator : (r : Reader) (ended : Bool) (old new : At) (kind : Kind)
    → whole_gap_piece r.source_type ended (rest old) ≡ None
    → ((t : SourceType) (line_has_ended : Bool) → is_reported t line_has_ended (rest old) ≡ false
    → ReadsPunctuator t line_has_ended old new (Some kind))
    → SpellsFor r ended old new kind
simple_punctuator r ended old new kind none reads =
    let read = reads r.source_type ended (none_behind r.source_type ended (rest old) none).0 in
    lexeme_spelled (moved r old ended) (moved r new ended) kind (simple_lexeme kind ended)
    record { source_type = refl; line_has_ended = refl }
    (punctuator_unflagged read.1.it kind read.1.in_table read.1.kind)
    (punctuator_spelled r.source_type ended old new kind read) refl

-- where an ASCII character of the class is next, a name begins
pub name_begins : (b : ℕ) (cs : List ℕ) → b < 128 → HasFirstByte b cs → is_identifier_start b ≡ true
    → begins_name cs ≡ true
name_begins b [] small first is = absurd first
name_begins b (c ∷ cs) small first is =
    ap is_name_start (first.0 small) ∙ ap (λ x. x || (b == 92)) is

-- and it is no `\`
pub start_is_plain : (b : ℕ) → is_identifier_start b ≡ true → b ≡ 92 → ⊥
start_is_plain b is same =
    let small : b < 128 = omega (arith, same) in
    let no : is_start 92 ≡ true = ap is_start (sym same) ∙ sym (start_in_ascii b small) ∙ is in
    absurd (let both : false ≡ true = no in cc)

-- the reading of a token behind such a gap
pub behind_simple_gap : (previous : Option TokenParts) (r : Reader) (old : At) (had : Bool) (mid : At) (has : Bool)
    (before : FindingsBuilder) (token : TokenParts) (new : Reader) (later : List Diagnostic)
    → line_has_ended_behind previous ≡ had → (gap : PassesSimpleGap old had mid has)
    → ReadsTokenHere (moved r mid has) before.errors token new later
    → ReadsWithGap Next previous (moved r old had) before token new
    (record (ends_told gap.ends before) { errors = later })
behind_simple_gap previous r old had mid has before token new later first gap there =
    goal_behind Next previous (moved r old had) before token new (record (ends_told gap.ends before) { errors = later })
    refl refl
    (token_behind previous (moved r old had) before (moved r mid has) (ends_told gap.ends before) new later token
    first (gap.skips r before) there)

-- line ends that no comment stands between are forgotten at the next token
step : (attached pending : List Comment) (saw for_comment : Bool) (previous token : TokenParts) → pending ≡ []
    → (after_token token (after_newline record {
      attached = attached;
      pending = pending;
      saw_newline = saw;
      saw_newline_for_comment = for_comment;
      previous = previous;
    }) ≡ after_token token record {
      attached = attached;
      pending = pending;
      saw_newline = saw;
      saw_newline_for_comment = for_comment;
      previous = previous;
    })
    × ((after_newline record {
      attached = attached;
      pending = pending;
      saw_newline = saw;
      saw_newline_for_comment = for_comment;
      previous = previous;
    }).pending ≡ [])
step attached [] true for_comment previous token e = (refl, refl)
step attached [] false for_comment previous token e = (refl, refl)
step attached (c ∷ cs) saw for_comment previous token e = absurd (cc)

forgotten : (n : ℕ) (s : Trivia) (token : TokenParts) → s.attachment.pending ≡ []
    → (handle_token token (after_ends n s) ≡ handle_token token s) × ((after_ends n s).attachment.pending ≡ [])
forgotten zero s token none = (refl, none)
forgotten (suc n) s token none =
    let before = forgotten n s token none in
    let a = (after_ends n s).attachment in
    let now = step a.attached a.pending a.saw_newline a.saw_newline_for_comment a.previous token before.1 in
    (ap (λ x. record (after_ends n s) { attachment = x }) now.0 ∙ before.0, now.1)

pub ends_forgotten : (n : ℕ) (s : Trivia) (token : TokenParts) → s.attachment.pending ≡ []
    → handle_token token s ≡ handle_token token (after_ends n s)
ends_forgotten n s token none = sym (forgotten n s token none).0

-- a reading has moved its reader on
pub token_moves_on : {before after : List Diagnostic} {token : TokenParts} (old new : Reader)
    → ReadsTokenHere old before token new after → ReadsInPart old before new after
token_moves_on old new r = record {
  moves = record { text = r.reads.text; source_type = r.reads.source_type };
  errors = record { more = reported_at old.source.place r.reads.reading; is_more = r.reads.errors };
}

-- a source that goes to the place of another one over the same text is that
pub moved_on : (old new behind : At) (place : ℕ) → GoesTo place old new → place ≡ behind.place
    → behind.text ≡ old.text → new ≡ behind
moved_on old new behind place to at text = same_at new behind (to.text ∙ sym text) (to.there ∙ at)

-- a token that was read behind a simple gap is one of the same text
pub plain_text : (r : Reader) (before : FindingsBuilder) (old : At) (had : Bool) (token : TokenParts) (new : At)
    → ReadsSimpleToken old had token new → new.text ≡ old.text
plain_text r before old had token new p = (p.here r []).reads.text ∙ (p.gap.skips r before).skips.text

-- and that of a simple spelling is one of a token
pub simple_token : (old mid new : At) (had has : Bool) (kind : Kind) (token : TokenParts)
    → PassesSimpleGap old had mid has
    → SpellsSimply has mid new kind → token ≡ lexeme_token mid.place new.place (simple_lexeme kind has)
    → ReadsSimpleToken old had token new
simple_token old mid new had has kind token gap spells is = record {
  mid = mid;
  line_has_ended = has;
  gap = gap;
  here = λ r errors. record { lexeme = simple_lexeme kind has; reads = spells r errors; token_is = is };
  escaped = ap (λ t. t.escaped) is;
}

pub simple_onward : (ended : Bool) (old new : At) (kind : Kind) (r : Reader) → SpellsSimply ended old new kind
    → old.place ≤ new.place
simple_onward ended old new kind r spells =
    lexeme_onward (moved r old ended) (moved r new ended) (spells r [])

-- where a gap has ended, whatever source it is
pub gap_ends : (r : Reader) (before : FindingsBuilder) (old : At) (had : Bool) (new : At) (has : Bool)
    → PassesSimpleGap old had new has → EndsGap has (rest new)
gap_ends r before old had new has gap t = (gap.skips (record r { source_type = t }) before).longest

-- a string without an escape
pub simple_string : (ended : Bool) (old new : At) (kind : Kind) → begins is_quote (rest old) ≡ true
    → SpellsUnescapedString old new kind → SpellsSimply ended old new kind
simple_string ended old new kind begun spells r =
    let here = moved r old ended in
    λ errors. lexeme_as here (moved r new ended) (string_here here begun) refl refl (spells errors default_parts) refl

-- a template, or its first part, without an escape
pub simple_template : (ended : Bool) (old mid new : At) (kind : Kind) → Reads old mid grave_accent
    → SpellsUnescapedPart TemplateHead NoSubstitutionTemplate mid new kind
    → SpellsSimply ended old new kind
simple_template ended old mid new kind reads spells r =
    let here = moved r old ended in
    let behind = behind_mark grave_accent old mid (omega arith) reads in
    λ errors. lexeme_as here (moved r new ended) (template_here here mid reads) refl reads.text
    (spells grave_accent old.place behind errors default_parts) refl

-- a private name without an escape
pub simple_private : (ended : Bool) (old mid new : At) (kind : Kind) → Reads old mid number_sign
    → SpellsUnescapedPrivateName mid new kind → SpellsSimply ended old new kind
simple_private ended old mid new kind reads spells r =
    let here = moved r old ended in
    let behind = behind_mark number_sign old mid (omega arith) reads in
    λ errors. lexeme_as here (moved r new ended) (private_here here mid reads) refl reads.text
    (spells old.place behind errors default_parts) refl

-- a number without a separator
pub simple_number : (ended : Bool) (old new : At) (kind : Kind) → begins_number (rest old) ≡ true
    → SpellsUnseparatedNumber old new kind → SpellsSimply ended old new kind
simple_number ended old new kind begun spells r =
    λ errors. lexeme_of_number (moved r old ended) (moved r new ended) begun refl (spells errors default_parts) refl

-- where a digit is next, a number begins
pub number_begins : (b : ℕ) (cs : List ℕ) → HasFirstByte b cs → is_ascii_digit b ≡ true → begins_number cs ≡ true
number_begins b cs first is =
    sym (digit_begins cs b first (λ e. let no : is_ascii_digit 46 ≡ true = ap is_ascii_digit (sym e) ∙ is in cc)) ∙ is

-- where an ASCII quote is next, a string begins
pub string_begins : (b : ℕ) (cs : List ℕ) → b < 128 → HasFirstByte b cs → is_quote b ≡ true
    → begins is_quote cs ≡ true
string_begins b [] small first is = absurd first
string_begins b (c ∷ cs) small first is = ap is_quote (first.0 small) ∙ is

-- what was read from a source of its own, for the reader that goes behind it
pub spelled_from : (r : Reader) (here new : At) (kind : Kind) → here ≡ r.source
    → (whole_gap_piece r.source_type r.line_has_ended (rest here) ≡ None
    → SpellsFor r r.line_has_ended here new kind)
    → whole_gap_piece r.source_type r.line_has_ended (rest r.source) ≡ None
    → SpellsFor r r.line_has_ended r.source new kind
spelled_from r here new kind same spells none =
    subst (λ (a : At). SpellsFor r r.line_has_ended a new kind) same
    (spells (subst (λ (a : At). whole_gap_piece r.source_type r.line_has_ended (rest a) ≡ None) (sym same) none))

pub spelled_onward : (r : Reader) (new : At) (kind : Kind) → SpellsFor r r.line_has_ended r.source new kind
    → r.source.place ≤ new.place
spelled_onward r new kind spells =
    lexeme_onward r (moved r new r.line_has_ended) (spells [])
