-- What is printed of a parse.
use Rattle.std.specs.Prelude.{ℕ, zero, suc, List, [], ◌++◌, codes, Option, Some, None}
use Rattle.std.specs.Fmt.{decimal}
use Rattle.std.specs.List.{flat_map}
use Rattle.js_text.specs.Diagnostic.{diagnostic_name, diagnostic_span}
use Rattle.js_text.specs.declared.diagnostic.Diagnostic.{Diagnostic}
use Rattle.js_text.specs.declared.span.Span.{Span}
use Rattle.js_cursor.specs.Diagnostic.{cursor_diagnostic_name, cursor_diagnostic_span}
use Rattle.js_cursor.specs.declared.diagnostic.CursorDiagnostic.{CursorDiagnostic}
use Rattle.js_cursor.specs.declared.diagnostic.FatalError.{FatalError}
use Rattle.js_parse_tool.specs.declared.draw.Line.{Line}
use Rattle.js_parse_tool.specs.declared.node.Node.{Node}
use Rattle.js_parse_tool.specs.declared.node.NodeKind.{NodeKind}
use Rattle.js_parse_tool.specs.declared.node.NodeKind.TheVariants as kinds

-- the name of what a node is
abbrev pub kind_name : NodeKind → List ℕ
kind_name kinds.Hashbang = codes "Hashbang"
kind_name kinds.Name = codes "Name"
kind_name kinds.Literal = codes "Literal"
kind_name kinds.RegularExpression = codes "RegularExpression"
kind_name kinds.Template = codes "Template"
kind_name kinds.Array = codes "Array"
kind_name kinds.Arrow = codes "Arrow"
kind_name kinds.Parentheses = codes "Parentheses"
kind_name kinds.Unary = codes "Unary"
kind_name kinds.Binary = codes "Binary"
kind_name kinds.Assignment = codes "Assignment"
kind_name kinds.Member = codes "Member"
kind_name kinds.Index = codes "Index"
kind_name kinds.Call = codes "Call"
kind_name kinds.Declarator = codes "Declarator"
kind_name kinds.Declaration = codes "Declaration"
kind_name kinds.Expression = codes "Expression"
kind_name kinds.Missing = codes "Missing"

-- two spaces for each level
abbrev pub indent : ℕ → List ℕ
indent zero = []
indent (suc depth) = indent depth ++ codes "  "

-- what a node is, and where it stands
unfoldable pub node_line : Node → List ℕ
node_line n =
    kind_name n.kind ++ codes " " ++ decimal n.span.start ++ codes ".." ++ decimal n.span.end ++ codes "\n"

-- the line of a node, indented by how deep it stands
abbrev pub line_text : Line → List ℕ
line_text line = indent line.depth ++ node_line line.node

-- the line of an error
unfoldable pub error_line : List ℕ → List ℕ → Span → List ℕ
error_line what name span =
    what ++ codes " " ++ name ++ codes " " ++ decimal span.start ++ codes ".." ++ decimal span.end ++ codes "\n"

-- the line of an error of the parser
abbrev pub parser_line : List ℕ → CursorDiagnostic → List ℕ
parser_line what error = error_line what (cursor_diagnostic_name error) (cursor_diagnostic_span error)

-- the line of the fatal error, where there is one
abbrev pub fatal_line : Option FatalError → List ℕ
fatal_line None = []
fatal_line (Some fatal) = parser_line (codes "fatal") fatal.error

-- the line of an error of the lexer; one without a place has none
abbrev pub line_at : List ℕ → Option Span → List ℕ
line_at name None = []
line_at name (Some span) = error_line (codes "lexer") name span

abbrev pub lexer_line : Diagnostic → List ℕ
lexer_line error = line_at (diagnostic_name error) (diagnostic_span error)

-- What is printed: the lines of the nodes, as they are drawn; then those of the errors of the parser, of the
-- fatal one, and of the errors of the lexer.
abbrev pub shown : List Line → List CursorDiagnostic → Option FatalError → List Diagnostic → List ℕ
shown lines errors fatal found =
    flat_map line_text lines ++ flat_map (parser_line (codes "error")) errors ++ fatal_line fatal
    ++ flat_map lexer_line found
