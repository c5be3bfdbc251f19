-- Trees that leave no token out.
use Rattle.std.proofs.Common.{◌≡◌, ℕ, ◌+◌, ◌<◌, ◌≤◌, List, length, drop, get_or, sym, subst, ap, ◌∙◌}
use Rattle.std.proofs.Common.{Bool, inl, inr}
use Rattle.std.specs.Prelude.{slice_range}
use Rattle.std.specs.Prelude.{Option, false}
use Rattle.std.specs.Option.{is_some}
use Rattle.std.proofs.lemmas.List.{drop_all, drop_more}
use Rattle.js_text.specs.declared.diagnostic.Diagnostic.{Diagnostic}
use Rattle.js_text.specs.declared.span.Span.{Span}
use Rattle.js_text.specs.declared.source_type.SourceType.TheVariants.{Module}
use Rattle.js_kind.specs.TokenParts.{TokenParts}
use Rattle.js_kind.specs.declared.kind.Kind.TheVariants.{Eof}
use Rattle.js_grammar.specs.declared.goal.Goal.TheVariants.{First}
use Rattle.js_lexer.specs.Lexer.{LexerState, ReadsToken, fresh}
use Rattle.js_cursor.specs.declared.diagnostic.CursorDiagnostic.{CursorDiagnostic}
use Rattle.js_cursor.specs.declared.diagnostic.FatalError.{FatalError}
use Rattle.js_parse_tool.specs.Covered.{Cover, HasNoToken, IsParseText, ReadsEnd, depth_line}
use Rattle.js_parse_tool.specs.Depth.{most_depth}
use Rattle.js_parse_tool.specs.Drawn.{AreDrawn}
use Rattle.js_parse_tool.specs.Shown.{shown}
use Rattle.js_parse_tool.specs.Trees.{AreKept}
use Rattle.js_parse_tool.specs.declared.draw.Line.{Line}
use Rattle.js_parse_tool.specs.declared.node.Node.{Node}

pub end_read : (old now : LexerState) (token : TokenParts) → ReadsToken First old token now → token.kind ≡ Eof
    → ReadsEnd old now
end_read old now token read is_end = record { token = token; read = read; is_end = is_end }

-- a lexer that was fresh has read the end of its text
pub no_token : (text : List ℕ) (l now : LexerState) (collects : Bool) → l ≡ fresh text Module collects
    → collects ≡ false → ReadsEnd l now → HasNoToken text
no_token text l now collects e f h = (now, subst (λ s. ReadsEnd s now) (e ∙ ap (fresh text Module) f) h)

-- one more span
pub one_more : (text : List ℕ) (from i : ℕ) (spans : List Span) (s : Span) → i < length spans
    → get_or spans i s ≡ s → HasNoToken (slice_range text from s.start) → Cover text s.end (drop (i + 1) spans)
    → Cover text from (drop i spans)
one_more text from i spans s lt same h k =
    subst (Cover text from) (sym (drop_more spans i s lt))
    (subst (λ (r : Span). HasNoToken (slice_range text from r.start) × Cover text r.end (drop (i + 1) spans)) (sym same)
    (h, k))

-- none is left
pub no_more : (text : List ℕ) (from i : ℕ) (spans : List Span) → length spans ≤ i
    → HasNoToken (slice_range text from (length text)) → Cover text from (drop i spans)
no_more text from i spans all h = subst (Cover text from) (sym (drop_all i spans all)) h

-- the trees of a source are printed
pub trees_printed : (source now text : List ℕ) (nodes : List Node) (roots : List Span) (lines : List Line)
    (errors : List CursorDiagnostic) (fatal : Option FatalError) (found : List Diagnostic) → now ≡ source
    → AreKept now nodes roots → AreDrawn 0 (length roots) nodes lines
    → (is_some fatal ≡ false → Cover now 0 roots) → text ≡ shown lines errors fatal found → IsParseText source text
trees_printed source now text nodes roots lines errors fatal found same kept drawn covered text_is =
    subst (λ (s : List ℕ). IsParseText s text) same
    (inl
    (record {
      nodes = nodes;
      roots = roots;
      errors = errors;
      fatal = fatal;
      found = found;
      kept = kept;
      lines = lines;
      drawn = drawn;
      covered = covered;
      text_is = text_is;
    }))

-- that expressions nest too deep is printed
pub depth_printed : (source text : List ℕ) (at : ℕ) → most_depth ≤ at → text ≡ depth_line at
    → IsParseText source text
depth_printed source text at deep e = inr (at, deep, e)
