-- What a cursor does is going on from where it was.
use Rattle.std.proofs.Common.{List, [], ◌∷◌, ◌++◌, refl, sym, ◌∙◌, ap, subst, append_assoc, append-nil}
use Rattle.js_kind.specs.TokenParts.{TokenParts}
use Rattle.js_grammar.specs.Outcome.{joined, no_findings}
use Rattle.js_grammar.specs.declared.goal.Goal.{Goal}
use Rattle.js_reader.specs.Decoded.{Keeps, Values}
use Rattle.js_lexer.specs.Lexer.{BeginsAlike, IsRestored, LexerState}
use Rattle.js_lexer.specs.Lexer as of_lexer
use Rattle.js_lexer.proofs.FindingLaws.{joined-assoc, joined-none}
use Rattle.js_lexer.proofs.GoesOn.{has_token}
use Rattle.js_lexer.proofs.LexerSteps.{begins_alike-append, reading_goes_on, re_lexing_goes_on}
use Rattle.js_cursor.specs.Checkpoint.{GoesOnFrom, without_fatal_error}
use Rattle.js_cursor.specs.Cursor.{CursorState, IsAsBefore, ReadsOn, with_error}
use Rattle.js_cursor.specs.ReLex.{ReLexes}
use Rattle.js_cursor.specs.declared.diagnostic.CursorDiagnostic.{CursorDiagnostic}

begins_alike-trans : (a b c : List TokenParts) → BeginsAlike a b → BeginsAlike b c → BeginsAlike a c
begins_alike-trans [] b c h k = tt
begins_alike-trans (t ∷ ts) [] c h k = absurd (has_token t ts h)
begins_alike-trans (t ∷ []) (n ∷ ns) [] h k = absurd (has_token n ns k)
begins_alike-trans (t ∷ []) (n ∷ ns) (m ∷ ms) h k = tt
begins_alike-trans (t ∷ u ∷ ts) (n ∷ []) c h k = absurd (has_token u ts h.1)
begins_alike-trans (t ∷ u ∷ ts) (n ∷ o ∷ ns) [] h k = absurd (has_token n (o ∷ ns) k)
begins_alike-trans (t ∷ u ∷ ts) (n ∷ o ∷ ns) (m ∷ ms) h k =
    (k.0 ∙ h.0, begins_alike-trans (u ∷ ts) (o ∷ ns) ms h.1 k.1)

pub begins_alike-refl : (ts : List TokenParts) → BeginsAlike ts ts
begins_alike-refl ts = subst (BeginsAlike ts) (append-nil ts) (begins_alike-append ts [])

pub keeps-trans : (a b c : Values) → Keeps a b → Keeps b c → Keeps a c
keeps-trans a b c h k = record {
  strings = λ start value e. k.strings start value (h.strings start value e);
  templates = λ start value e. k.templates start value (h.templates start value e);
}

pub keeps-refl : (a : Values) → Keeps a a
keeps-refl a = record { strings = λ start value e. e; templates = λ start value e. e }

lexer_goes_on-trans : (a b c : LexerState) → of_lexer.GoesOnFrom a b → of_lexer.GoesOnFrom b c
    → of_lexer.GoesOnFrom a c
lexer_goes_on-trans a b c h k = record {
  text = k.text ∙ h.text;
  source_type = k.source_type ∙ h.source_type;
  collects = k.collects ∙ h.collects;
  tokens = begins_alike-trans a.tokens b.tokens c.tokens h.tokens k.tokens;
  findings = joined h.findings k.findings;
  goes_on = k.goes_on ∙ ap (λ f. joined f k.findings) h.goes_on ∙ joined-assoc a.findings h.findings k.findings;
}

restored_goes_on : (old new : LexerState) → IsRestored old new → of_lexer.GoesOnFrom old new
restored_goes_on old new r = record {
  text = r.text;
  source_type = r.source_type;
  collects = r.collects;
  tokens = subst (BeginsAlike old.tokens) (sym r.tokens) (begins_alike-refl old.tokens);
  findings = no_findings;
  goes_on = r.findings ∙ sym (joined-none old.findings);
}

pub goes_on-trans : (a b c : CursorState) → GoesOnFrom a b → GoesOnFrom b c → GoesOnFrom a c
goes_on-trans a b c h k = record {
  lexer = lexer_goes_on-trans a.lexer b.lexer c.lexer h.lexer k.lexer;
  decoded = keeps-trans a.lexer.decoded b.lexer.decoded c.lexer.decoded h.decoded k.decoded;
  ambient = k.ambient ∙ h.ambient;
  more = h.more ++ k.more;
  errors = k.errors ∙ ap (λ es. es ++ k.more) h.errors ∙ append_assoc a.errors h.more k.more;
}

pub as_before_goes_on : (old new : CursorState) → IsAsBefore old new → GoesOnFrom old new
as_before_goes_on old new r = record {
  lexer = restored_goes_on old.lexer new.lexer r.lexer;
  decoded = r.decoded;
  ambient = ap (λ (c : CursorState). c.ambient) r.others;
  more = [];
  errors = ap (λ (c : CursorState). c.errors) r.others ∙ sym (append-nil old.errors);
}

abbrev pub goes_on-refl : (c : CursorState) → GoesOnFrom c c
goes_on-refl c = record {
  lexer = record {
    text = refl;
    source_type = refl;
    collects = refl;
    tokens = begins_alike-refl c.lexer.tokens;
    findings = no_findings;
    goes_on = sym (joined-none c.lexer.findings);
  };
  decoded = keeps-refl c.lexer.decoded;
  ambient = refl;
  more = [];
  errors = sym (append-nil c.errors);
}

pub reads_on_goes_on : (goal : Goal) (old new : CursorState) → ReadsOn goal old new → GoesOnFrom old new
reads_on_goes_on goal old new r = record {
  lexer = reading_goes_on goal old.lexer new.lexer new.token r.read;
  decoded = r.read.kept;
  ambient = ap (λ (c : CursorState). c.ambient) r.others;
  more = [];
  errors = ap (λ (c : CursorState). c.errors) r.others ∙ sym (append-nil old.errors);
}

pub re_lexes_goes_on : (goal : Goal) (old new : CursorState) → ReLexes goal old new → GoesOnFrom old new
re_lexes_goes_on goal old new r = record {
  lexer = re_lexing_goes_on goal old.lexer new.lexer new.token r.read;
  decoded = r.read.kept;
  ambient = ap (λ (c : CursorState). c.ambient) r.others;
  more = [];
  errors = ap (λ (c : CursorState). c.errors) r.others ∙ sym (append-nil old.errors);
}

pub error_goes_on : (error : CursorDiagnostic) (c : CursorState) → GoesOnFrom c (with_error error c)
error_goes_on error c =
    let r = goes_on-refl c in
    record {
      lexer = r.lexer;
      decoded = r.decoded;
      ambient = refl;
      more = error ∷ [];
      errors = refl;
    }

-- a cursor that goes on from where its fatal error was taken goes on from there
pub goes_on_without_fatal_error : (old now : CursorState) → GoesOnFrom (without_fatal_error old) now
    → GoesOnFrom old now
goes_on_without_fatal_error old now g = record {
  lexer = g.lexer;
  decoded = g.decoded;
  ambient = g.ambient;
  more = g.more;
  errors = g.errors;
}
