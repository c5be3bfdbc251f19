-- Trees that leave no token out of a source, and what is printed of them.
use Rattle.std.specs.Prelude.{◌≡◌, ℕ, ◌≤◌, ◌⊎◌, List, [], ◌∷◌, ◌++◌, codes, length, Option, false, slice_range}
use Rattle.std.specs.Fmt.{decimal}
use Rattle.std.specs.Option.{is_some}
use Rattle.js_text.specs.declared.diagnostic.Diagnostic.{Diagnostic}
use Rattle.js_text.specs.declared.source_type.SourceType.TheVariants.{Module}
use Rattle.js_text.specs.declared.span.Span.{Span}
use Rattle.js_kind.specs.TokenParts.{TokenParts}
use Rattle.js_kind.specs.declared.kind.Kind.TheVariants.{Eof}
use Rattle.js_grammar.specs.declared.goal.Goal.TheVariants.{First}
use Rattle.js_lexer.specs.Lexer.{LexerState, ReadsToken, fresh}
use Rattle.js_cursor.specs.declared.diagnostic.CursorDiagnostic.{CursorDiagnostic}
use Rattle.js_cursor.specs.declared.diagnostic.FatalError.{FatalError}
use Rattle.js_parse_tool.specs.Depth.{most_depth}
use Rattle.js_parse_tool.specs.Drawn.{AreDrawn}
use Rattle.js_parse_tool.specs.Shown.{shown}
use Rattle.js_parse_tool.specs.Trees.{AreKept}
use Rattle.js_parse_tool.specs.declared.draw.Line.{Line}
use Rattle.js_parse_tool.specs.declared.node.Node.{Node}

-- The first token that a lexer reads is the end of its text.
pub record ReadsEnd (old now : LexerState) : Type 0 where
  pub token : TokenParts
  pub read : ReadsToken First old token now
  pub is_end : token.kind ≡ Eof

-- No token stands in a text of a module: it is a gap.
abbrev pub HasNoToken : List ℕ → Type 0
HasNoToken text = (now : LexerState) × ReadsEnd (fresh text Module false) now

-- From the place on no token stands before the spans, between them, and behind them.
abbrev pub Cover : List ℕ → ℕ → List Span → Type 0
Cover text from [] = HasNoToken (slice_range text from (length text))
Cover text from (s ∷ ss) = HasNoToken (slice_range text from s.start) × Cover text s.end ss

-- The trees of a source are printed, and what was reported. Where no fatal error was, the trees leave no token out.
pub record ShowsTrees (source text : List ℕ) : Type 0 where
  pub nodes : List Node
  pub roots : List Span
  pub errors : List CursorDiagnostic
  pub fatal : Option FatalError
  pub found : List Diagnostic
  pub kept : AreKept source nodes roots
  pub lines : List Line
  pub drawn : AreDrawn 0 (length roots) nodes lines
  pub covered : is_some fatal ≡ false → Cover source 0 roots
  pub text_is : text ≡ shown lines errors fatal found

-- what is printed where expressions nest too deep, with the place where they do
unfoldable pub depth_line : ℕ → List ℕ
depth_line at = codes "too deep at " ++ decimal at ++ codes "\n"

-- What is printed of a source: its trees, or a place where expressions nest too deep.
abbrev pub IsParseText : List ℕ → List ℕ → Type 0
IsParseText source text = ShowsTrees source text ⊎ ((at : ℕ) × (most_depth ≤ at) × (text ≡ depth_line at))
