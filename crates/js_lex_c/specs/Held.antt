-- What the lists of a caller hold, and how they are filled.
use Rattle.std.specs.Prelude.{◌≡◌, ℕ, List, [], ◌∷◌, map}
use Rattle.js_grammar.specs.Outcome.{Findings}
use Rattle.js_lex_c.specs.Filled.{PutsOn, filled}
use Rattle.js_lex_c.specs.Records.{comment_record, diagnostic_record, span_record}
use Rattle.js_lex_c.specs.declared.fill.JsLists.{JsLists}
use Rattle.js_lex_c.specs.declared.record.JsComment.{JsComment}
use Rattle.js_lex_c.specs.declared.record.JsDiagnostic.{JsDiagnostic}
use Rattle.js_lex_c.specs.declared.record.JsSpan.{JsSpan}
use Rattle.js_lex_c.specs.declared.record.JsToken.{JsToken}

-- What the lists of a caller hold, each in all of its room.
pub record Held : Type 0 where
  pub tokens : List JsToken
  pub units : List ℕ
  pub diagnostics : List JsDiagnostic
  pub deferred : List JsDiagnostic
  pub comments : List JsComment
  pub irregular : List JsSpan
  pub warnings : List JsSpan

abbrev pub held : JsLists → Held
held out = record {
  tokens = out.tokens.now;
  units = out.units.now;
  diagnostics = out.diagnostics.now;
  deferred = out.deferred.now;
  comments = out.comments.now;
  irregular = out.irregular.now;
  warnings = out.warnings.now;
}

-- what lists without room hold
abbrev pub no_room : Held
no_room = record {
  tokens = [];
  units = [];
  diagnostics = [];
  deferred = [];
  comments = [];
  irregular = [];
  warnings = [];
}

-- Each list of the caller is still the same stretch of its memory.
pub record StayInPlace (old new : JsLists) : Type 0 where
  pub tokens : new.tokens.ghost_name ≡ old.tokens.ghost_name
  pub units : new.units.ghost_name ≡ old.units.ghost_name
  pub diagnostics : new.diagnostics.ghost_name ≡ old.diagnostics.ghost_name
  pub deferred : new.deferred.ghost_name ≡ old.deferred.ghost_name
  pub comments : new.comments.ghost_name ≡ old.comments.ghost_name
  pub irregular : new.irregular.ghost_name ≡ old.irregular.ghost_name
  pub warnings : new.warnings.ghost_name ≡ old.warnings.ghost_name

-- The token was put at its place, and nothing else has changed.
pub record PutsToken (place : ℕ) (token : JsToken) (old new : JsLists) : Type 0 where
  pub put : PutsOn place (token ∷ []) old.tokens.now new.tokens.now
  pub rest : held new ≡ record (held old) { tokens = new.tokens.now }
  pub stay : StayInPlace old new

-- The units were put from their place on, and nothing else has changed.
pub record PutsUnits (place : ℕ) (more : List ℕ) (old new : JsLists) : Type 0 where
  pub put : PutsOn place more old.units.now new.units.now
  pub rest : held new ≡ record (held old) { units = new.units.now }
  pub stay : StayInPlace old new

-- the lists filled with what was found beside the tokens
abbrev pub with_findings : Findings → Held → Held
with_findings found old = record old {
  diagnostics = filled old.diagnostics (map diagnostic_record found.diagnostics);
  deferred = filled old.deferred (map diagnostic_record found.deferred);
  comments = filled old.comments (map comment_record found.comments);
  irregular = filled old.irregular (map span_record found.irregular);
  warnings = filled old.warnings (map span_record found.warnings);
}
