-- What a reading makes of a row.
use Rattle.std.proofs.Common.{◌≡◌, ℕ, ◌≤◌, Bool, true, false, List, [], ◌∷◌, length, take, refl, sym, ◌∙◌, ap}
use Rattle.std.proofs.Common.{subst, Option, None, Some}
use Rattle.std.specs.Prelude.{is_some, if◌then◌else◌}
use Rattle.std.proofs.Math.Seq.{take-append_seam}
use Rattle.std.specs.Str.{IsUtf8, IsCharBoundary}
use Rattle.js_text.specs.Characters.{from_place}
use Rattle.js_text.specs.declared.value.RowValue.{RowValue}
use Rattle.js_text.specs.declared.value.RowValue.TheVariants.{Nothing, Slice, Units}
use Rattle.js_grammar.specs.Outcome.{FindingLengths, Outcome, joined, lengths_of, found_since}
use Rattle.js_grammar.specs.TokenText.{is_valued, text_start, text_end}
use Rattle.js_grammar.specs.Values.{IsValueOf, HasText, decoded_units, template_units, template_row_value}
use Rattle.js_grammar.specs.declared.goal.Goal.{Goal}
use Rattle.js_grammar.proofs.Values.{goal_reads_value}
use Rattle.js_kind.specs.Kinds.{is_template_kind}
use Rattle.js_kind.specs.TokenParts.{TokenParts}
use Rattle.js_reader.specs.Decoded.{Values, value_of, IsKeptAs, HasValue}
use Rattle.js_lexer.specs.Lexer.{LexerState, IsOnPlaces, ReadsToken, ReadsOutcome}
use Rattle.js_lexer.specs.Lexer.{Checkpoint, checkpoint_of}
use Rattle.js_lexer.proofs.FindingLaws.{found_since-joined}
use Rattle.js_lexer.proofs.LexerSteps.{reading_goes_on}
use Rattle.js_session.specs.declared.command.Command.{Command}
use Rattle.js_session.specs.declared.row.Row.{Row}
use Rattle.js_session.specs.Effects.{row_effect}
use Rattle.js_session.specs.Live.{Live, outcome_of}
use Rattle.js_session.specs.Marks.{lexer_behind, IsAlike}
use Rattle.js_session.specs.Report.{IsRow, IsRead, IsOfEffect, LiesOnPlaces, IsSliceOnPlaces}
use Rattle.js_grammar.specs.Reads.{is_onward}
use Rattle.js_text.specs.declared.reg_exp_flags.RegexInfo.{RegexInfo}
use Rattle.js_session.specs.declared.re_lex.LastRead.{LastRead}
use Rattle.js_session.specs.RowReader.{ReadsAgainAs}
use Rattle.js_session.proofs.AgainLemmas.{onward_regex}
use Rattle.js_session.specs.RowReader.{RowReaderState, ReadsRow, AddsLive, AddsPeek, GoesBack}
use Rattle.js_session.specs.RowReader.{IsMadeOf, ReadsRowAgain, IsKept, HoldsUnits, HoldsPart, HoldsKept, HoldsValue}

-- what a lexer made of an outcome, whether it read on or read its last token again
pub record IsReadingOf (goal : Goal) (old : LexerState) (token : TokenParts) (regex : Option RegexInfo)
    (new : LexerState) (o : Outcome) : Type 0 where
  pub token_is : token ≡ o.token
  pub reads : ReadsOutcome goal old o
  pub findings : new.findings ≡ joined old.findings o.findings
  pub has_value : HasValue old.text new.decoded token
  pub regex_is : o.regex ≡ regex

pub on : (goal : Goal) (old new : LexerState) (token : TokenParts) → is_onward goal ≡ true
    → (r : ReadsToken goal old token new) → IsReadingOf goal old token None new r.outcome
on goal old new token onward r = record {
  token_is = r.token_is;
  reads = r.reads;
  findings = r.after.findings;
  has_value = r.has_value;
  regex_is = onward_regex old.text old.source_type goal old.last old.place r.outcome onward r.reads.reads;
}

pub again : (goal : Goal) (old new : LexerState) (found : LastRead) → (r : ReadsAgainAs goal old found new)
    → IsReadingOf goal old found.token found.regex new r.reads.outcome
again goal old new found r = record {
  token_is = r.reads.token_is;
  reads = r.reads.reads;
  findings = r.reads.after.findings;
  has_value = r.reads.has_value;
  regex_is = r.regex;
}

same_outcome : (a b : Outcome) → a.token ≡ b.token → a.value ≡ b.value → a.regex ≡ b.regex → a.findings ≡ b.findings
    → a ≡ b
same_outcome a b e1 e2 e3 e4 = rw (e1, e2, e3, e4) refl

-- a token has one value
one_value : (text : List ℕ) (token : TokenParts) (a b : RowValue) → IsValueOf text token a → IsValueOf text token b
    → a ≡ b
one_value text token a b h g = by_flag token.escaped refl
  where
    by_flag : (escaped : Bool) → token.escaped ≡ escaped → a ≡ b
    by_flag true e = h.decoded e ∙ sym (g.decoded e)
    by_flag false e = h.unescaped e ∙ sym (g.unescaped e)

-- the value that was held of a name or a string is of its units
units_are : (here : List ℕ) (value : RowValue) (found : Option (List ℕ)) → found ≡ Some (decoded_units here)
    → HoldsUnits found value → value ≡ Units (decoded_units here)
units_are here value None e held = absurd held
units_are here value (Some units) e held = let same : units ≡ decoded_units here = cc in held ∙ ap Units same

-- and so of a part of a template
part_is : (here : List ℕ) (value : RowValue) (found : Option (Option (List ℕ))) → found ≡ Some (template_units here)
    → HoldsPart found value → value ≡ template_row_value (template_units here)
part_is here value None e held = absurd held
part_is here value (Some units) e held =
    let same : units ≡ template_units here = cc in held ∙ ap template_row_value same

kept_is : (template : Bool) (decoded : Values) (start : ℕ) (here : List ℕ) (value : RowValue)
    → IsKeptAs template decoded start here → HoldsKept template decoded start value
    → value ≡ (if template then template_row_value (template_units here) else Units (decoded_units here))
kept_is true decoded start here value kept held = part_is here value (value_of decoded.templates start) kept held
kept_is false decoded start here value kept held = units_are here value (value_of decoded.strings start) kept held

-- a value that was held is that of the token
held_value : (text : List ℕ) (decoded : Values) (token : TokenParts) (value : RowValue) → HasValue text decoded token
    → HoldsValue decoded token value → IsValueOf text token value
held_value text decoded token value has h = record {
  unescaped = h.unescaped;
  decoded = λ e.
      kept_is (is_template_kind token.kind) decoded token.start (from_place text token.start) value (has e)
      (h.escaped e);
}

-- a value is kept that was found
pub is_kept : (template : Bool) (decoded : Values) (start : ℕ) (here : List ℕ) → IsKeptAs template decoded start here
    → IsKept template decoded start
is_kept true decoded start here kept = ap is_some kept
is_kept false decoded start here kept = ap is_some kept

-- the outcome that a row of a token holds: its value, and what was reported since
made_outcome : (goal : Goal) (old new : LexerState) (token : TokenParts) (regex : Option RegexInfo) (value : RowValue)
    (row o : Outcome)
    → IsUtf8 old.text → IsReadingOf goal old token regex new o → HoldsValue new.decoded token value
    → row
    ≡ record {
      token = token;
      value = value;
      regex = regex;
      findings = found_since (lengths_of old.findings) new.findings;
    }
    → row ≡ o
made_outcome goal old new token regex value row o u r held made =
    let reads = r.reads.reads in
    let here : IsValueOf old.text token value = held_value old.text new.decoded token value r.has_value held in
    let there : IsValueOf old.text o.token o.value =
    goal_reads_value old.text old.source_type goal old.last old.place o u reads in
    let same : value ≡ o.value =
    one_value old.text token value o.value here
    (subst (λ t. IsValueOf old.text t o.value) (sym r.token_is) there) in
    let found =
    ap (found_since (lengths_of old.findings)) r.findings ∙ found_since-joined old.findings o.findings in
    made ∙ same_outcome _ o r.token_is same (sym r.regex_is) found

-- the value of a token without an escape lies on places, if its text does
plain_lies : (valued : Bool) (text : List ℕ) (start end : ℕ) → IsCharBoundary text start → IsCharBoundary text end
    → start ≤ end
    → IsSliceOnPlaces text (if valued then Slice (record { start = start; end = end }) else Nothing)
plain_lies true text start end b e ordered = (b, e, ordered)
plain_lies false text start end b e ordered = tt

-- a value that was decoded is no stretch of the text
decoded_lies : (template : Bool) (text us : List ℕ) (part : Option (List ℕ))
    → IsSliceOnPlaces text (if template then template_row_value part else Units us)
decoded_lies true text us None = tt
decoded_lies true text us (Some units) = tt
decoded_lies false text us part = tt

-- the value of a token lies on places
pub value_lies : (text : List ℕ) (token : TokenParts) (value : RowValue) → HasText text token
    → IsValueOf text token value
    → IsSliceOnPlaces text value
value_lies text token value lies is = by_flag token.escaped refl
  where
    by_flag : (escaped : Bool) → token.escaped ≡ escaped → IsSliceOnPlaces text value
    by_flag true e =
        subst (IsSliceOnPlaces text) (sym (is.decoded e))
        (decoded_lies (is_template_kind token.kind) text (decoded_units (from_place text token.start))
        (template_units (from_place text token.start)))
    by_flag false e =
        subst (IsSliceOnPlaces text) (sym (is.unescaped e))
        (plain_lies (is_valued token.kind) text (text_start token.kind token.start) (text_end token.kind token.end)
        lies.start lies.end lies.ordered)

-- and so does a row of an outcome
row_lies : (goal : Goal) (old : LexerState) (row : Row) (o : Outcome) → IsUtf8 old.text → ReadsOutcome goal old o
    → outcome_of row ≡ o → LiesOnPlaces old.text row
row_lies goal old row o u reads is =
    let text = old.text in
    let value : IsValueOf text o.token o.value =
    goal_reads_value text old.source_type goal old.last old.place o u reads.reads in
    record {
      token = subst (IsOnPlaces text) (sym (ap (λ x. x.token) is)) reads.places;
      value =
          subst (IsSliceOnPlaces text) (sym (ap (λ x. x.value) is))
          (value_lies text o.token o.value reads.text_lies value);
    }

-- A row was made of a token that was read from the place.
pub record MadeRow (command : Option Command) (place : ℕ) (old : LexerState) (row : Row) (token : TokenParts)
    (o : Outcome) : Type 0 where
  pub token_is : token ≡ row.token
  pub outcome_is : outcome_of row ≡ o
  pub command_is : row.command ≡ command
  pub place_is : row.place ≡ place
  pub taken : row.taken ≡ true
  pub places : LiesOnPlaces old.text row

made : (goal : Goal) (command : Option Command) (old new : LexerState) (place : ℕ)
    (token : TokenParts) (regex : Option RegexInfo) (row : Row) (o : Outcome)
    → IsUtf8 old.text → IsReadingOf goal old token regex new o
    → IsMadeOf command place (lengths_of old.findings) token regex new row → MadeRow command place old row token o
made goal command old new place token regex row o u r is =
    let outcome =
    made_outcome goal old new token regex row.value (outcome_of row) o u r is.value (ap outcome_of is.row_is) in
    record {
      token_is = sym (ap (λ x. x.token) is.row_is);
      outcome_is = outcome;
      command_is = ap (λ x. x.command) is.row_is;
      place_is = ap (λ x. x.place) is.row_is;
      taken = ap (λ x. x.taken) is.row_is;
      places = row_lies goal old row o u r.reads outcome;
    }

-- a row that was made of a token that was read
pub made_row : (goal : Goal) (command : Option Command) (old new : LexerState) (lengths : FindingLengths) (place : ℕ)
    (token : TokenParts) → is_onward goal ≡ true → IsUtf8 old.text → ReadsToken goal old token new
    → lengths ≡ lengths_of old.findings
    → place ≡ old.place → (row : Row) → IsMadeOf command place lengths token None new row
    → ReadsRow goal command old row new
made_row goal command old new lengths place token onward u r before at row is =
    let m =
    made goal command old new place token None row r.outcome u (on goal old new token onward r)
    (subst (λ l. IsMadeOf command place l token None new row) before is) in
    record {
      reads = record {
        outcome = r.outcome;
        token_is = sym m.token_is ∙ r.token_is;
        reads = r.reads;
        agrees = r.agrees;
        after = r.after;
        kept = r.kept;
        has_value = subst (HasValue old.text new.decoded) m.token_is r.has_value;
      };
      outcome_is = m.outcome_is;
      command_is = m.command_is;
      place = m.place_is ∙ at;
      taken = m.taken;
      places = m.places;
    }

-- and one of a token that was read again
pub made_row_again : (goal : Goal) (command : Option Command) (old new : LexerState) (lengths : FindingLengths)
    (place : ℕ) (found : LastRead) → IsUtf8 old.text → ReadsAgainAs goal old found new
    → lengths ≡ lengths_of old.findings
    → place ≡ old.place → (row : Row) → IsMadeOf command place lengths found.token found.regex new row
    → ReadsRowAgain goal command old row new
made_row_again goal command old new lengths place found u r before at row is =
    let m =
    made goal command old new place found.token found.regex row r.reads.outcome u (again goal old new found r)
    (subst (λ l. IsMadeOf command place l found.token found.regex new row) before is) in
    record {
      reads = record {
        outcome = r.reads.outcome;
        token_is = sym m.token_is ∙ r.reads.token_is;
        reads = r.reads.reads;
        after = r.reads.after;
        kept = r.reads.kept;
        has_value = subst (HasValue old.text new.decoded) m.token_is r.reads.has_value;
      };
      outcome_is = m.outcome_is;
      command_is = m.command_is;
      place = m.place_is ∙ at;
      taken = m.taken;
      places = m.places;
    }

-- a row that was added, and the reader gone back
pub goes_back_peeks : (goal : Goal) (command : Option Command) (old between new : RowReaderState) (c : Checkpoint)
    (live : ℕ) → AddsLive goal command old between
    → GoesBack c live between new → c ≡ checkpoint_of old.lexer → live ≡ length old.tokens
    → AddsPeek goal command old new
goes_back_peeks goal command old between new c live added back point tokens = record {
  row = added.row;
  behind = between.lexer;
  reads = added.reads;
  rows = back.rows ∙ added.rows;
  lexer = back.lexer old.lexer point (reading_goes_on goal old.lexer between.lexer added.row.token added.reads.reads);
  tokens =
      back.tokens ∙ ap (λ n. take n between.tokens) tokens ∙ ap (take (length old.tokens)) added.tokens
      ∙ take-append_seam old.tokens (added.row.token ∷ []);
}

-- A row that was read behind what is live is the row of its command.
pub read_is_row : (goal : Goal) (command : Option Command) (lexer new : LexerState) (now : Live) (row : Row)
    → IsAlike (lexer_behind lexer.text lexer.source_type lexer.collects now) lexer
    → ReadsRow goal command lexer row new
    → (IsRead lexer.text lexer.source_type now goal row
    → IsOfEffect lexer.text lexer.source_type now (row_effect command) row)
    → IsRow lexer.text lexer.source_type now command row
read_is_row goal command lexer new now row behind r give =
    let token : row.token ≡ r.reads.outcome.token = r.reads.token_is in
    record {
      command_is = r.command_is;
      place = r.place ∙ behind.place;
      gives = give (record {
        taken = r.taken;
        reads = rw (r.place, ← behind.last, r.outcome_is) r.reads.reads.reads;
        agrees = λ plain. rw (r.place, ← behind.last, r.outcome_is) (r.reads.agrees plain);
        some_text = rw token r.reads.reads.some_text;
      });
      places = r.places;
    }
