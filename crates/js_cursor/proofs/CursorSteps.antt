-- The steps of a cursor.
use Rattle.std.proofs.Common.{◌≡◌, ◌≢◌, ◌<◌, ◌≤◌, ◌==◌, ℕ, Bool, true, false, List, [], ◌∷◌, ◌++◌}
use Rattle.std.proofs.Common.{length, take, drop}
use Rattle.std.proofs.Common.{Option, Some, None, refl, sym, ◌∙◌, ap, subst, arith, append-nil, length-append}
use Rattle.std.specs.Prelude.{◌&&◌, ◌||◌, ◌↔◌, if◌then◌else◌, is_none, IsTrue}
use Rattle.std.specs.Option.{is_some}
use Rattle.std.proofs.lemmas.Bool.{and_parts, eq-eqb, eqb-true}
use Rattle.std.proofs.lemmas.Bool.Decides.{same_from_decides}
use Rattle.std.proofs.Math.Seq.{take-append_seam}
use Rattle.js_text.specs.declared.diagnostic.Diagnostic.{Diagnostic}
use Rattle.js_kind.proofs.KindNumbers.{number_injective}
use Rattle.js_kind.specs.Kinds.{number, is_name_kind, is_one_of}
use Rattle.js_kind.specs.TokenParts.{TokenParts}
use Rattle.js_kind.specs.declared.kind.Kind.{Kind}
use Rattle.js_kind.specs.declared.kind.Kind.TheVariants.{Eof}
use Rattle.js_grammar.specs.ReLexed.{again_kinds}
use Rattle.js_grammar.specs.declared.goal.Goal.{Goal}
use Rattle.js_reader.specs.Decoded as of_values
use Rattle.js_lexer.specs.Lexer as of_state
use Rattle.js_lexer.specs.Lexer.{IsBehindFor}
use Rattle.js_lexer.proofs.GoesOn as of_lexer
use Rattle.js_cursor.specs.Checkpoint.{CanRewind, CursorCheckpoint, GoesOnFrom, checkpoint_with_errors_of, rewound}
use Rattle.js_cursor.specs.Checkpoint.{with_diagnostics}
use Rattle.js_cursor.specs.Cursor.{Advances, CursorState, HasByte, IsAsBefore, IsFresh, IsOnToken, is_at}
use Rattle.js_cursor.specs.Cursor.{noting_escape, span_of, with_error}
use Rattle.js_cursor.specs.ReLex.{is_angle, is_free, may_re_lex}
use Rattle.js_cursor.specs.declared.diagnostic.CursorDiagnostic.{CursorDiagnostic}
use Rattle.js_cursor.specs.declared.diagnostic.CursorDiagnostic.TheVariants.{EscapedKeyword}

-- a test for one kind compares numbers
pub is_kind : (a b : Kind) (r : Bool) → IsTrue r ↔ (a ≡ b) → r ≡ (number a == number b)
is_kind a b r h =
    same_from_decides r (number a == number b) h
    (λ e. number_injective a b (eqb-true _ _ e), λ e. eq-eqb _ _ (ap number e))

-- the kind of a token by the test for it
pub kind_at : (kind : Kind) (c : CursorState) → is_at kind c ≡ true → c.token.kind ≡ kind
kind_at kind c at = number_injective c.token.kind kind (eqb-true _ _ at)

noted_more : (b : Bool) (error : CursorDiagnostic) (c : CursorState)
    → (more : List CursorDiagnostic)
    × ((if b then with_error error c else c) ≡ record c { errors = c.errors ++ more })
noted_more true error c = (error ∷ [], refl)
noted_more false error c = ([], ap (λ es. record c { errors = es }) (sym (append-nil c.errors)))

-- an escape that is noted adds errors alone
pub noting_adds : (kind : Kind) (c : CursorState)
    → (more : List CursorDiagnostic) × (noting_escape kind c ≡ record c { errors = c.errors ++ more })
noting_adds kind c = noted_more (c.token.escaped && is_name_kind kind) (EscapedKeyword (span_of c.token)) c

-- where nothing could be read, an escape that was noted is taken back
pub back_from : (kind : Kind) (old noted read new : CursorState) (errors : List CursorDiagnostic)
    → noted ≡ noting_escape kind old → IsAsBefore noted read → errors ≡ take (length old.errors) read.errors
    → new ≡ record read { errors = errors } → IsAsBefore old new
back_from kind old noted read new errors noted_is before errors_are new_is =
    let adds = noting_adds kind old in
    let noted_all : noted ≡ record old { errors = old.errors ++ adds.0 } = noted_is ∙ adds.1 in
    let lexer_same : noted.lexer ≡ old.lexer = ap (λ (c : CursorState). c.lexer) noted_all in
    let new_lexer : new.lexer ≡ read.lexer = ap (λ (c : CursorState). c.lexer) new_is in
    let read_is : read ≡ record old { lexer = read.lexer; errors = old.errors ++ adds.0 } =
    before.others ∙ ap (λ (c : CursorState). record c { lexer = read.lexer }) noted_all in
    let errors_back : errors ≡ old.errors =
    errors_are ∙ ap (λ (c : CursorState). take (length old.errors) c.errors) read_is
    ∙ take-append_seam old.errors adds.0 in
    subst (IsAsBefore old) (sym new_is)
    (record {
      lexer = subst (λ l. of_state.IsRestored l read.lexer) lexer_same before.lexer;
      decoded =
          subst (λ (l : of_state.LexerState). of_values.Keeps l.decoded read.lexer.decoded) lexer_same before.decoded;
      others =
          ap (λ (c : CursorState). record c { errors = errors }) read_is
          ∙ ap (λ es. record old { lexer = read.lexer; errors = es }) errors_back;
    })

-- the lexer stands behind a token that the goal may read again
pub is_behind : (goal : Goal) (c : CursorState) → c.lexer.last ≡ Some c.token
    → is_one_of (again_kinds goal) c.token.kind ≡ true → is_free c ≡ true → IsBehindFor goal c.lexer
is_behind goal c last is free =
    record { token = c.token; last = last; kind_is = is; place = eqb-true _ _ (and_parts _ _ free).1 }

none_is : {A : Type 0} (o : Option A) → is_some o ≡ false → is_none o ≡ true
none_is None e = refl
none_is (Some x) e = absurd (cc)

all_hold : (a b c : Bool) → a ≡ true → c ≡ true → true ≡ (a && (b || c))
all_hold true true c first last = refl
all_hold true false c first last = sym last
all_hold false b c first last = absurd (cc)

-- what a re-lex of a compound answers where it was read again
pub angle_taken : (angle : Kind) (goal : Goal) (c : CursorState) → is_some c.fatal ≡ false → may_re_lex goal c ≡ true
    → true ≡ is_angle angle goal c
angle_taken angle goal c no_fatal may =
    all_hold (is_none c.fatal) (is_at angle c) (may_re_lex goal c) (none_is c.fatal no_fatal) may

-- a token that has a byte was passed
pub goes_past_byte : (kind : Kind) (old new : CursorState) → Advances kind old new → HasByte old.token
    → (number old.token.kind == number kind) ≡ true → kind ≢ Eof → 1 ≤ new.previous_end
goes_past_byte kind old new r has_byte at some =
    let end : new.previous_end ≡ old.token.end =
    ap (λ (c : CursorState). c.previous_end) r.others
    ∙ ap (λ (c : CursorState). c.token.end) (noting_adds kind old).1 in
    let is : old.token.kind ≡ kind = number_injective old.token.kind kind (eqb-true _ _ at) in
    let bytes : old.token.start < old.token.end = has_byte (λ e. some (sym is ∙ e)) in
    omega (arith, end, bytes)

-- a cursor that has gone on may go back to where it could go before
pub can_rewind-on : (old new : CursorState) (to : CursorCheckpoint) → CanRewind old to → GoesOnFrom old new
    → CanRewind new to
can_rewind-on old new to h g = record {
  lexer = of_lexer.can_rewind-on old.lexer new.lexer to.lexer h.lexer g.lexer;
  errors = omega (arith, h.errors, ap length g.errors, length-append old.errors g.more);
}

-- a cursor that went back to a checkpoint with a copy of what its lexer had reported
pub recovered_is : (earlier old new : CursorState) (left : List Diagnostic) (to : CursorCheckpoint)
    → to ≡ checkpoint_with_errors_of earlier → GoesOnFrom (with_diagnostics left earlier) old
    → of_state.IsRestored earlier.lexer new.lexer → new ≡ rewound old to → IsAsBefore earlier new
recovered_is earlier old new left to e goes restored new_is =
    let back : new ≡ rewound old (checkpoint_with_errors_of earlier) = new_is ∙ ap (rewound old) e in
    let lexer_back : new.lexer ≡ of_state.rewound old.lexer (of_state.checkpoint_with_errors_of earlier.lexer) =
    ap (λ (c : CursorState). c.lexer) back in
    let errors_back : take (length earlier.errors) old.errors ≡ earlier.errors =
    ap (take (length earlier.errors)) goes.errors ∙ take-append_seam earlier.errors goes.more in
    record {
      lexer = restored;
      decoded =
          subst (λ (l : of_state.LexerState). of_values.Keeps earlier.lexer.decoded l.decoded) (sym lexer_back)
          goes.decoded;
      others =
          back
          ∙ ap (λ es. record (rewound old (checkpoint_with_errors_of earlier)) { errors = es }) errors_back
          ∙ ap (λ a. record (rewound old (checkpoint_with_errors_of earlier)) { errors = earlier.errors; ambient = a })
          goes.ambient
          ∙ ap (λ l. record earlier { lexer = l }) (sym lexer_back);
    }

-- the lexer of a new cursor stands on its token
pub on_first : (goal : Goal) (old new : of_state.LexerState) (token : TokenParts) (rest : List ℕ)
    → rest ≡ drop old.place old.text → IsFresh old → of_state.ReadsToken goal old token new
    → IsOnToken rest new token 0
on_first goal old new token rest rest_is fresh r = record {
  text_is = r.after.text ∙ sym (rest_is ∙ ap (λ n. drop n old.text) fresh.place);
  last = r.after.last ∙ ap Some (sym r.token_is);
  some_text = subst HasByte (sym r.token_is) r.reads.some_text;
  ordered = subst (λ (t : TokenParts). t.start ≤ t.end) (sym r.token_is) r.reads.places.ordered;
  is_read = subst (λ (t : TokenParts). t.end ≤ new.place) (sym r.token_is) (omega (arith, r.after.place));
  previous = omega arith;
}
