-- A reading that could not allocate, and what undoes it.
use Rattle.std.proofs.Common.{◌≡◌, ◌≤◌, Bool, List, [], length, refl, sym, ◌∙◌, ap, subst, Option}
use Rattle.js_places.specs.Reserved.{Reserved}
use Rattle.js_text.specs.declared.diagnostic.Diagnostic.{Diagnostic}
use Rattle.js_kind.specs.TokenParts.{TokenParts}
use Rattle.js_source.proofs.Places.{back_at}
use Rattle.js_source.specs.Source.{At, GoesTo}
use Rattle.js_trivia.specs.Attachment.{Attachment}
use Rattle.js_trivia.specs.Trivia.{Trivia, AreRangesUpTo, GrewFrom, cut_to, held, lengths_of}
use Rattle.js_trivia.specs.declared.lengths.TriviaLengths.{TriviaLengths}
use Rattle.js_grammar.specs.declared.goal.Goal.{Goal}
use Rattle.js_reader.specs.Decoded.{Values}
use Rattle.js_reader.specs.Found.{Extends, Grows, HasFound, found_up_to, start_of}
use Rattle.js_lexer.specs.Lexer.{IsRestored, IsSound, last_read, lexer_of, trivia_before}
use Rattle.js_reader.specs.declared.findings_builder.FindingsBuilder.{FindingsBuilder}
use Rattle.js_reader.specs.declared.reader.Reader.{Reader}
use Rattle.js_reader.specs.declared.reading_start.ReadingStart.{ReadingStart}
use Rattle.js_lexer.proofs.TriviaLaws.{back_after_calls, grew_by_calls, long_enough}
use Rattle.js_reader.proofs.TriviaSteps.{extends_none, grows_back, grows_reports}

-- What has been found since a reading began: between two gaps, where the builder of trivia had forgotten no more than
-- ranges of annotations, more may have been found.
pub record HasGrown (start : ReadingStart) (source : At) (before now : FindingsBuilder) : Type 0 where
  pub start_is : start ≡ start_of source before
  pub ranges : AreRangesUpTo start.found.trivia.comments start.found.trivia.pure_range
      start.found.trivia.no_side_effects
  pub between : before.trivia.attachment.pending ≡ []
  pub cleared : Trivia
  pub attachment : cleared.attachment ≡ before.trivia.attachment
  pub irregular : cleared.irregular_whitespaces ≡ before.trivia.irregular_whitespaces
  pub grows : Grows (record before { trivia = cleared }) now

grew : {start : ReadingStart} {source : At} (before now : FindingsBuilder) → HasGrown start source before now
    → GrewFrom before.trivia now.trivia
grew before now h =
    grew_by_calls before.trivia h.cleared now.trivia h.grows.items h.between h.attachment h.irregular
    (ap (λ (f : FindingsBuilder). f.trivia) h.grows.added)

-- It may be dropped.
pub may_go_back : {start : ReadingStart} {source : At} (before now : FindingsBuilder)
    → HasGrown start source before now → HasFound start.found now
may_go_back before now h =
    let long = long_enough before.trivia now.trivia (grew before now h) in
    let lengths = ap (λ (s : ReadingStart). s.found.trivia) h.start_is in
    record {
      comments = subst (λ (l : TriviaLengths). l.comments ≤ length (held now.trivia.attachment)) (sym lengths) long.0;
      irregular =
          subst (λ (l : TriviaLengths). l.irregular ≤ length now.trivia.irregular_whitespaces) (sym lengths) long.1;
      ranges = h.ranges;
    }

-- Then all is found that was found before.
pub found_again : {start : ReadingStart} {source : At} (before now back : FindingsBuilder)
    → HasGrown start source before now → back ≡ found_up_to start.found now → back ≡ before
found_again before now back h e =
    e ∙ ap (λ (s : ReadingStart). found_up_to s.found now) h.start_is
    ∙ grows_back (record before { trivia = h.cleared }) now (cut_to (lengths_of before.trivia) now.trivia) h.grows
    ∙ ap (λ (s : Trivia). record before { trivia = s })
    (back_after_calls before.trivia now.trivia h.between (grew before now h))

-- And the source stands where it stood.
pub stands_again : {start : ReadingStart} (before : FindingsBuilder) (old between new : At)
    → start ≡ start_of old before → between.text ≡ old.text → GoesTo start.position between new
    → new ≡ old
stands_again before old between new start_is text to =
    back_at old between new _ to text (ap (λ (s : ReadingStart). s.position) start_is)

-- a lexer of which all went back
pub undone : (collects has_read : Bool) (old new : Reader) (found back : FindingsBuilder) (tokens now : Reserved TokenParts)
    (values more : Values) → new.source ≡ old.source → new.source_type ≡ old.source_type → back ≡ found
    → now ≡ tokens
    → IsRestored (lexer_of collects old found has_read tokens values)
    (lexer_of collects new back has_read now more)
undone collects has_read old new found back tokens now values more source source_type same tokens_are = record {
  text = ap (λ (a : At). a.text) source;
  source_type = source_type;
  collects = refl;
  place = ap (λ (a : At). a.place) source;
  last = ap (λ (f : FindingsBuilder). last_read has_read f.trivia.attachment.previous) same;
  tokens = ap (λ (l : Reserved TokenParts). l.items) tokens_are;
  findings = rw same refl;
  pure_comments = ap (λ (f : FindingsBuilder). f.trivia.pure_comments) same;
  no_side_effects_comments = ap (λ (f : FindingsBuilder). f.trivia.no_side_effects_comments) same;
}

-- what was found where diagnostics alone were reported
pub reported_since : (start : ReadingStart) (source : At) (before : FindingsBuilder) (errors : List Diagnostic)
    → start ≡ start_of source before
    → AreRangesUpTo start.found.trivia.comments start.found.trivia.pure_range start.found.trivia.no_side_effects
    → before.trivia.attachment.pending ≡ [] → Extends before.errors errors
    → HasGrown start source before (record before { errors = errors })
reported_since start source before errors start_is ranges between reports = record {
  start_is = start_is;
  ranges = ranges;
  between = between;
  cleared = before.trivia;
  attachment = refl;
  irregular = refl;
  grows = grows_reports before errors before.deferred reports (extends_none before.deferred);
}

-- and what was found behind the start of a reading of the goal
pub read_since : (goal : Goal) (start : ReadingStart) (here : At) (last : Option TokenParts) (values : Values)
    (found : FindingsBuilder) (cleared : Trivia) (now : FindingsBuilder) → IsSound here last found.trivia values
    → cleared ≡ trivia_before goal found.trivia → Grows (record found { trivia = cleared }) now
    → start ≡ start_of here found
    → AreRangesUpTo start.found.trivia.comments start.found.trivia.pure_range start.found.trivia.no_side_effects
    → HasGrown start here found now
read_since goal start here last values found cleared now sound e grows start_is ranges = record {
  start_is = start_is;
  ranges = ranges;
  between = ap (λ (a : Attachment). a.pending) sound.attachment;
  cleared = cleared;
  attachment = ap (λ (s : Trivia). s.attachment) e;
  irregular = ap (λ (s : Trivia). s.irregular_whitespaces) e;
  grows = grows;
}
