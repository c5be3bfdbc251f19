-- Where the current token and the one before it stand.
use Rattle.std.proofs.Common.{◌≡◌, ◌≢◌, ◌<◌, ◌≤◌, ℕ, Bool, true, false, List, [], length, refl, sym, ◌∙◌, ap, subst}
use Rattle.std.proofs.Common.{Some, arith}
use Rattle.std.specs.Prelude.{Result, Ok, Err, MatchBool, OnOk, OnErr, ◌&&◌, if◌then◌else◌}
use Rattle.std.specs.Option.{is_some}
use Rattle.std.specs.Str.{IsCharBoundary}
use Rattle.std.specs.declared.alloc.AllocError.{AllocError}
use Rattle.js_text.specs.declared.source_type.SourceType.{SourceType}
use Rattle.js_text.specs.declared.span.Span.{Span}
use Rattle.js_kind.specs.Kinds.{is_name_kind}
use Rattle.js_kind.specs.TokenParts.{TokenParts}
use Rattle.js_kind.specs.declared.kind.Kind.{Kind}
use Rattle.js_kind.specs.declared.kind.Kind.TheVariants.{Colon, Eof, Semicolon}
use Rattle.js_grammar.specs.Goals.{GoalReads}
use Rattle.js_grammar.specs.Outcome.{Outcome, no_findings}
use Rattle.js_grammar.specs.Reads.{is_onward}
use Rattle.js_grammar.specs.declared.goal.Goal.{Goal}
use Rattle.js_grammar.specs.declared.goal.Goal.TheVariants.{First, Next, TemplateTail, RegularExpression, RightAngle}
use Rattle.js_grammar.specs.declared.goal.Goal.TheVariants.{TypeScriptLeftAngle, TypeScriptRightAngle, JsxIdentifier}
use Rattle.js_grammar.specs.declared.goal.Goal.TheVariants.{JsxChild, JsxAttributeValue}
use Rattle.js_lexer.specs.Lexer.{Checkpoint, LexerState, LexesAgain, ReadsToken, rewound}
use Rattle.js_lexer.specs.Places.{HoldsAsMany, IsSparse, ReadsInPlaces, StaysInPlaces}
use Rattle.js_cursor.specs.Checkpoint.{GoesOnFrom, IsOfToken}
use Rattle.js_cursor.specs.Cursor.{Advances, CursorState, HasByte, IsAsBefore, IsOnToken, ReadsOn, allows_semicolon}
use Rattle.js_cursor.specs.Cursor.{is_at, noting_escape, with_error, with_fatal_error}
use Rattle.js_cursor.specs.Onward.{HasNotAdvanced, HasNotGoneBack, HasPassed}
use Rattle.js_cursor.specs.ReLex.{ReLexes}
use Rattle.js_cursor.specs.Expect.{expecting, expecting_alternative, expecting_closing, expecting_semicolon}
use Rattle.js_cursor.specs.declared.diagnostic.CursorDiagnostic.{CursorDiagnostic}
use Rattle.js_cursor.proofs.CursorSteps.{kind_at}
use Rattle.js_cursor.proofs.GoesOn.{as_before_goes_on, error_goes_on, goes_on-refl, goes_on-trans, re_lexes_goes_on}
use Rattle.js_cursor.proofs.GoesOn.{reads_on_goes_on}

-- the lexer stands on a token that it has read
pub on_read : (goal : Goal) (text : List ℕ) (old new : LexerState) (before token : TokenParts) (previous : ℕ)
    → is_onward goal ≡ true → IsOnToken text old before previous → ReadsToken goal old token new
    → IsOnToken text new token before.end
on_read goal text old new before token previous onward on r = record {
  text_is = r.after.text ∙ on.text_is;
  last = r.after.last ∙ ap Some (sym r.token_is);
  some_text = subst HasByte (sym r.token_is) r.reads.some_text;
  ordered = subst (λ (t : TokenParts). t.start ≤ t.end) (sym r.token_is) r.reads.places.ordered;
  is_read = subst (λ (t : TokenParts). t.end ≤ new.place) (sym r.token_is) (omega (arith, r.after.place));
  previous =
      subst (λ (t : TokenParts). before.end ≤ t.start) (sym r.token_is)
      (omega (arith, r.reads.onward onward, on.is_read));
}

-- a token that is read again starts where it did
starts_in : (text : List ℕ) (t : SourceType) (goal : Goal) (before : TokenParts) (place : ℕ) (o : Outcome)
    → is_onward goal ≡ false → GoalReads text t goal (Some before) place o → o.token.start ≡ before.start
starts_in text t First before place o e reads = absurd (cc)
starts_in text t Next before place o e reads = absurd (cc)
starts_in text t TemplateTail before place o e reads = ap (λ (x : Outcome). x.token.start) reads.outcome_is
starts_in text t RegularExpression before place o e reads = ap (λ (x : Outcome). x.token.start) reads.outcome_is
starts_in text t RightAngle before place o e reads = ap (λ (x : Outcome). x.token.start) reads.outcome_is
starts_in text t TypeScriptLeftAngle before place o e reads = ap (λ (x : Outcome). x.token.start) reads.outcome_is
starts_in text t TypeScriptRightAngle before place o e reads = ap (λ (x : Outcome). x.token.start) reads.outcome_is
starts_in text t JsxIdentifier before place o e reads = ap (λ (x : Outcome). x.token.start) reads.reads.outcome_is
starts_in text t JsxChild before place o e reads = absurd (cc)
starts_in text t JsxAttributeValue before place o e reads = absurd (cc)

-- the lexer stands on a token that it has read again
pub on_again : (goal : Goal) (text : List ℕ) (old new : LexerState) (before token : TokenParts) (previous : ℕ)
    → is_onward goal ≡ false → IsOnToken text old before previous → LexesAgain goal old token new
    → IsOnToken text new token previous
on_again goal text old new before token previous again on r =
    let start : r.outcome.token.start ≡ before.start =
    starts_in old.text old.source_type goal before old.place r.outcome again
    (subst (λ o. GoalReads old.text old.source_type goal o old.place r.outcome) on.last r.reads.reads) in
    record {
      text_is = r.after.text ∙ on.text_is;
      last = r.after.last ∙ ap Some (sym r.token_is);
      some_text = subst HasByte (sym r.token_is) r.reads.some_text;
      ordered = subst (λ (t : TokenParts). t.start ≤ t.end) (sym r.token_is) r.reads.places.ordered;
      is_read = subst (λ (t : TokenParts). t.end ≤ new.place) (sym r.token_is) (omega (arith, r.after.place));
      previous = subst (λ (t : TokenParts). previous ≤ t.start) (sym r.token_is) (omega (arith, start, on.previous));
    }

-- a lexer at the same place, with the same last token, stands on it
pub on_same : (text : List ℕ) (old new : LexerState) (token : TokenParts) (previous : ℕ)
    → IsOnToken text old token previous → new.text ≡ old.text → new.last ≡ old.last → new.place ≡ old.place
    → IsOnToken text new token previous
on_same text old new token previous on same_text same_last same_place = record {
  text_is = same_text ∙ on.text_is;
  last = same_last ∙ on.last;
  some_text = on.some_text;
  ordered = on.ordered;
  is_read = omega (arith, same_place, on.is_read);
  previous = on.previous;
}

-- a checkpoint of a lexer has its token
pub of_checkpoint : (text : List ℕ) (l : LexerState) (to : Checkpoint) (token : TokenParts) (previous : ℕ)
    → IsOnToken text l token previous → to.last ≡ l.last → to.place ≡ l.place → IsOfToken to token previous
of_checkpoint text l to token previous on same_last same_place = record {
  last = same_last ∙ on.last;
  some_text = on.some_text;
  ordered = on.ordered;
  is_read = omega (arith, same_place, on.is_read);
  previous = on.previous;
}

-- and a lexer that goes back to one stands on its token
pub on_rewound : (text : List ℕ) (old new : LexerState) (to : Checkpoint) (before token : TokenParts)
    (previous end : ℕ) → IsOnToken text old before previous → IsOfToken to token end → new ≡ rewound old to
    → IsOnToken text new token end
on_rewound text old new to before token previous end on kept e = record {
  text_is = ap (λ (l : LexerState). l.text) e ∙ on.text_is;
  last = ap (λ (l : LexerState). l.last) e ∙ kept.last;
  some_text = kept.some_text;
  ordered = kept.ordered;
  is_read = let place = ap (λ (l : LexerState). l.place) e in omega (arith, place, kept.is_read);
  previous = kept.previous;
}

-- a lexer that goes to the end of its text stands on its token
pub on_end : (text : List ℕ) (old new : LexerState) (token : TokenParts) (previous : ℕ)
    → IsOnToken text old token previous → IsCharBoundary old.text old.place
    → new ≡ record old { place = length old.text } → IsOnToken text new token previous
on_end text old new token previous on place e =
    subst (λ (l : LexerState). IsOnToken text l token previous) (sym e)
    (record {
      text_is = on.text_is;
      last = on.last;
      some_text = on.some_text;
      ordered = on.ordered;
      is_read = let short = place.0 in omega (arith, on.is_read, short);
      previous = on.previous;
    })

-- and so does the lexer of a cursor as it is seen
pub on_view : (text : List ℕ) (a b : CursorState) → a ≡ b → IsOnToken text a.lexer a.token a.previous_end
    → IsOnToken text b.lexer b.token b.previous_end
on_view text a b e on = subst (λ (s : CursorState). IsOnToken text s.lexer s.token s.previous_end) e on

-- Where the next token was read, the old one was passed, and nothing has gone back.
pub record MovesOn (old new : CursorState) : Type 0 where
  pub passed : HasPassed old.token.kind old new
  pub onward : HasNotGoneBack old new

pub moves_on : (goal : Goal) (text : List ℕ) (old new : CursorState) → is_onward goal ≡ true
    → IsOnToken text old.lexer old.token old.previous_end → ReadsInPlaces old.lexer new.lexer → ReadsOn goal old new
    → MovesOn old new
moves_on goal text old new onward on places r =
    let next = on_read goal text old.lexer new.lexer old.token new.token old.previous_end onward on r.read in
    let end : new.previous_end ≡ old.token.end = ap (λ (c : CursorState). c.previous_end) r.others in
    let behind : old.token.end ≤ new.token.start = next.previous in
    record {
      passed = record {
        starts =
            λ some.
            let bytes : old.token.start < old.token.end = on.some_text some in
            omega (arith, bytes, behind);
        ends = omega (arith, on.ordered, end);
      };
      onward = record {
        places = places;
        goes_on = reads_on_goes_on goal old new r;
        start = omega (arith, on.ordered, behind);
        previous = omega (arith, on.ordered, on.previous, end);
      };
    }

-- The cursor stays on its token, with as many tokens in as many places.
pub record StaysAt (old new : CursorState) : Type 0 where
  pub token : new.token ≡ old.token
  pub previous : new.previous_end ≡ old.previous_end
  pub goes_on : GoesOnFrom old new
  pub held : HoldsAsMany old.lexer new.lexer

stays : (c : CursorState) → StaysAt c c
stays c = record {
  token = refl;
  previous = refl;
  goes_on = goes_on-refl c;
  held = record { text = refl; collects = refl; last = refl; tokens = refl; free = refl };
}

stays_either : (b : Bool) (c x y : CursorState) → StaysAt c x → StaysAt c y → StaysAt c (if b then x else y)
stays_either true c x y h k = h
stays_either false c x y h k = k

pub stays_fatal : (error : CursorDiagnostic) (c : CursorState) → StaysAt c (with_fatal_error error c)
stays_fatal error c =
    let r = goes_on-refl c in
    let at_end : CursorState =
    record c {
      fatal = Some (record { error = error; errors_len = length c.lexer.findings.diagnostics });
      lexer = record c.lexer { place = length c.lexer.text };
    } in
    stays_either (is_some c.fatal) c c at_end (stays c)
    (record {
      token = refl;
      previous = refl;
      goes_on = record {
        lexer = record {
          text = refl;
          source_type = refl;
          collects = refl;
          tokens = r.lexer.tokens;
          findings = no_findings;
          goes_on = r.lexer.goes_on;
        };
        decoded = r.decoded;
        ambient = refl;
        more = [];
        errors = r.errors;
      };
      held = record { text = refl; collects = refl; last = refl; tokens = refl; free = refl };
    })

pub stays_error : (error : CursorDiagnostic) (c : CursorState) → StaysAt c (with_error error c)
stays_error error c = record {
  token = refl;
  previous = refl;
  goes_on = error_goes_on error c;
  held = (stays c).held;
}

pub stays_expecting : (kind : Kind) (c : CursorState) → StaysAt c (expecting kind c)
stays_expecting kind c = stays_either (is_at kind c) c c _ (stays c) (stays_fatal _ c)

pub stays_closing : (kind : Kind) (opening : Span) (c : CursorState) → StaysAt c (expecting_closing kind opening c)
stays_closing kind opening c = stays_either (is_at kind c) c c _ (stays c) (stays_fatal _ c)

pub stays_alternative : (question : Span) (c : CursorState) → StaysAt c (expecting_alternative question c)
stays_alternative question c = stays_either (is_at Colon c) c c _ (stays c) (stays_fatal _ c)

pub stays_semicolon : (c : CursorState) → StaysAt c (expecting_semicolon c)
stays_semicolon c = stays_either (allows_semicolon c.token) c c _ (stays c) (stays_fatal _ c)

pub stays_noting : (kind : Kind) (c : CursorState) → StaysAt c (noting_escape kind c)
stays_noting kind c = stays_either (c.token.escaped && is_name_kind kind) c _ c (stays_error _ c) (stays c)

pub advances_goes_on : (kind : Kind) (old new : CursorState) → Advances kind old new → GoesOnFrom old new
advances_goes_on kind old new r =
    goes_on-trans old (noting_escape kind old) new (stays_noting kind old).goes_on
    (reads_on_goes_on Next (noting_escape kind old) new r)

still_sparse : (a b : LexerState) → HoldsAsMany a b → IsSparse a → IsSparse b
still_sparse a b h sparse = rw (h.collects, h.last) (let tokens = h.tokens in omega (arith, sparse, tokens))

-- a cursor that stays on its token has not advanced
stays_places : (a b : LexerState) → HoldsAsMany a b → StaysInPlaces a b
stays_places a b h = record {
  count = let tokens = h.tokens in let free = h.free in omega (arith, tokens, free);
  sparse = still_sparse a b h;
}

pub not_advanced : (a b c : CursorState) → c ≡ b → StaysAt a b → HasNotAdvanced a c
not_advanced a b c e h =
    subst (HasNotAdvanced a) (sym e)
    (record {
      places = stays_places a.lexer b.lexer h.held;
      goes_on = h.goes_on;
      start = ap (λ (t : TokenParts). t.start) h.token;
      previous = h.previous;
    })

-- and one that has not advanced has not gone back
pub not_back : (a b : CursorState) → HasNotAdvanced a b → HasNotGoneBack a b
not_back a b h = record {
  places = record { count = h.places.count; sparse = λ sparse byte. h.places.sparse sparse };
  goes_on = h.goes_on;
  start = let start = h.start in omega (arith, start);
  previous = let previous = h.previous in omega (arith, previous);
}

pub stays_back : (a b c : CursorState) → c ≡ b → StaysAt a b → HasNotGoneBack a c
stays_back a b c e h = not_back a c (not_advanced a b c e h)

-- a cursor in which nothing has changed
pub unmoved : (a c : CursorState) → c ≡ a → HasNotAdvanced a c
unmoved a c e = not_advanced a a c e (stays a)

pub unchanged : (a c : CursorState) → c ≡ a → HasNotGoneBack a c
unchanged a c e = not_back a c (unmoved a c e)

-- a cursor that goes on from where another one stays
pub onward_behind : (a b c d : CursorState) → c ≡ b → StaysAt a b → HasNotGoneBack c d → HasNotGoneBack a d
onward_behind a b c d e h k =
    let before = not_advanced a b c e h in
    let last : c.lexer.last ≡ a.lexer.last = ap (λ (s : CursorState). s.lexer.last) e ∙ h.held.last in
    record {
      places = record {
        count = let first = before.places.count in let next = k.places.count in omega (arith, first, next);
        sparse = λ sparse byte. k.places.sparse (before.places.sparse sparse) (rw last byte);
      };
      goes_on = goes_on-trans a c d before.goes_on k.goes_on;
      start = let same = before.start in let le = k.start in omega (arith, same, le);
      previous = let same = before.previous in let le = k.previous in omega (arith, same, le);
    }

pub passed_behind : (a b c d : CursorState) → c ≡ b → StaysAt a b → (r : Result (Unit {0}) AllocError)
    → OnOk r (HasPassed c.token.kind c d) → OnOk r (HasPassed a.token.kind a d)
passed_behind a b c d e h (Ok u) passed =
    let same : c.token ≡ a.token = ap (λ (s : CursorState). s.token) e ∙ h.token in
    record {
      starts = subst (λ (t : TokenParts). t.kind ≢ Eof → t.start < d.token.start) same passed.starts;
      ends = subst (λ (t : TokenParts). t.start ≤ d.previous_end) same passed.ends;
    }
passed_behind a b c d e h (Err error) passed = tt

-- a cursor that has not advanced from where another one has gone on
pub then_stays : (a b c : CursorState) → HasNotGoneBack a b → HasNotAdvanced b c → HasNotGoneBack a c
then_stays a b c h k = record {
  places = record {
    count = let first = h.places.count in let next = k.places.count in omega (arith, first, next);
    sparse = λ sparse byte. k.places.sparse (h.places.sparse sparse byte);
  };
  goes_on = goes_on-trans a b c h.goes_on k.goes_on;
  start = let le = h.start in let same = k.start in omega (arith, same, le);
  previous = let le = h.previous in let same = k.previous in omega (arith, same, le);
}

-- a cursor that is as it was has not gone back
pub before_onward : (old new : CursorState) → IsAsBefore old new → ReadsInPlaces old.lexer new.lexer
    → HasNotGoneBack old new
before_onward old new r places =
    let start : new.token.start ≡ old.token.start = ap (λ (c : CursorState). c.token.start) r.others in
    let previous : new.previous_end ≡ old.previous_end = ap (λ (c : CursorState). c.previous_end) r.others in
    record {
      places = places;
      goes_on = as_before_goes_on old new r;
      start = omega (arith, start);
      previous = omega (arith, previous);
    }

-- a token that was read again stands where it did
pub in_its_place : (goal : Goal) (text : List ℕ) (old new : CursorState) → is_onward goal ≡ false
    → IsOnToken text old.lexer old.token old.previous_end → StaysInPlaces old.lexer new.lexer → ReLexes goal old new
    → HasNotAdvanced old new
in_its_place goal text old new again on places r =
    let start : r.read.outcome.token.start ≡ old.token.start =
    starts_in old.lexer.text old.lexer.source_type goal old.token old.lexer.place r.read.outcome again
    (subst (λ o. GoalReads old.lexer.text old.lexer.source_type goal o old.lexer.place r.read.outcome) on.last
    r.read.reads.reads) in
    record {
      places = places;
      goes_on = re_lexes_goes_on goal old new r;
      start = ap (λ (t : TokenParts). t.start) r.read.token_is ∙ start;
      previous = ap (λ (c : CursorState). c.previous_end) r.others;
    }

pub taken_in_place : (goal : Goal) (text : List ℕ) (b : Bool) (old new : CursorState) → is_onward goal ≡ false
    → IsOnToken text old.lexer old.token old.previous_end → StaysInPlaces old.lexer new.lexer
    → MatchBool b (ReLexes goal old new) (new ≡ old) → HasNotAdvanced old new
taken_in_place goal text true old new again on places r = in_its_place goal text old new again on places r
taken_in_place goal text false old new again on places e = unmoved old new e

pub before_in_its_place : (old new : CursorState) → StaysInPlaces old.lexer new.lexer → IsAsBefore old new
    → HasNotAdvanced old new
before_in_its_place old new places r = record {
  places = places;
  goes_on = as_before_goes_on old new r;
  start = ap (λ (c : CursorState). c.token.start) r.others;
  previous = ap (λ (c : CursorState). c.previous_end) r.others;
}

-- an error that is reported, or for which there is no memory
pub reported : (error : CursorDiagnostic) (old new : CursorState) (r : Result (Unit {0}) AllocError)
    → OnOk r (new ≡ with_error error old) → OnErr r (new ≡ old) → HasNotAdvanced old new
reported error old new (Ok u) ok err = not_advanced old _ new ok (stays_error error old)
reported error old new (Err e) ok err = unmoved old new err

-- a token of the kind was passed
pub passed_at : (kind : Kind) (old new : CursorState) → is_at kind old ≡ true → HasPassed old.token.kind old new
    → HasPassed kind old new
passed_at kind old new at passed =
    record { starts = λ some. passed.starts (λ e. some (sym (kind_at kind old at) ∙ e)); ends = passed.ends }

pub passed_if_at : (kind : Kind) (old new : CursorState) (r : Result (Unit {0}) AllocError) → is_at kind old ≡ true
    → OnOk r (HasPassed old.token.kind old new) → OnOk r (is_at kind old ≡ true → HasPassed kind old new)
passed_if_at kind old new (Ok u) at passed = λ told. passed_at kind old new at passed
passed_if_at kind old new (Err error) at passed = tt

pub starts_behind_semicolon : (old new : CursorState) (r : Result (Unit {0}) AllocError)
    → is_at Semicolon old ≡ true → OnOk r (HasPassed old.token.kind old new)
    → OnOk r (is_at Semicolon old ≡ true → old.token.start < new.token.start)
starts_behind_semicolon old new (Ok u) at passed =
    λ told. (passed_at Semicolon old new at passed).starts (λ e. absurd (cc))
starts_behind_semicolon old new (Err error) at passed = tt
