-- Regular expressions, angles and parts of JSX as they are read, one by one: the definitions compute to what stands
-- here.
use Rattle.std.proofs.Common.{◌≡◌, ℕ, Bool, true, false, List, [], ◌∷◌, ◌++◌, refl, Option, Some, None}
use Rattle.std.specs.Prelude.{codes}
use Rattle.std.specs.Char.{encode_utf8}
use Rattle.unicode_ident.proofs.Computing.{unicode_ident}
use Rattle.js_text.specs.Ascii.{line_feed, carriage_return}
use Rattle.js_text.specs.Characters.{is_identifier_part, is_line_terminator}
use Rattle.js_text.specs.RegExpFlags.{flags_of_bits}
use Rattle.js_text.specs.declared.diagnostic.Diagnostic.{Diagnostic}
use Rattle.js_text.specs.declared.diagnostic.Diagnostic.TheVariants.{RegExpFlag, RegExpFlagTwice, UnexpectedJsxEnd}
use Rattle.js_text.specs.declared.diagnostic.Diagnostic.TheVariants.{UnterminatedRegExp, UnterminatedString}
use Rattle.js_kind.specs.declared.kind.Kind.{Kind}
use Rattle.js_kind.specs.declared.kind.Kind.TheVariants.{Eof, GtEq, Ident, JSXText, LAngle, LCurly, RAngle, RegExp}
use Rattle.js_kind.specs.declared.kind.Kind.TheVariants.{ShiftRight, ShiftRight3, ShiftRight3Eq, ShiftRightEq, Str}
use Rattle.js_grammar.specs.Angle.{angle_reading, right_angles, first_left_angle, first_right_angle}
use Rattle.js_grammar.specs.Reading.{Reading, read_up_to, size_of}
use Rattle.js_grammar.specs.TokenText.{unescaped_value}
use Rattle.js_grammar.specs.Jsx.{jsx_child_reading, jsx_name_reading, jsx_string_reading, jsx_child_warnings}
use Rattle.js_grammar.specs.RegularExpression.{expression_of_body, regular_expression_reading}
use Rattle.js_grammar.specs.StringItems.{stretch}

-- what is read of a regular expression that the text begins with
abbrev ExpressionIs : List ℕ → List ℕ → ℕ → ℕ → Bool → List Diagnostic → Type 0
ExpressionIs text left pattern_end bits flags_error reported =
    regular_expression_reading text
    ≡ Some (record (read_up_to RegExp text left) {
      regex = Some (record { pattern_end = pattern_end; flags = flags_of_bits bits; flags_error = flags_error });
      diagnostics = reported;
    })

-- good ones
expressions :
    ExpressionIs (codes "/a/") [] 2 0 false []
    × ExpressionIs (codes "/[/\\]]\\//dgimsuvy.b") (codes ".b") 8 255 false []
    × ExpressionIs (codes "/=[[]\\[/y;") (codes ";") 7 32 false []
    × ExpressionIs (codes "/é/u\\u0061") (codes "\\u0061") 3 16 false []
unfolding is_line_terminator encode_utf8 expression_of_body is_identifier_part unicode_ident
expressions = (refl, refl, refl, refl)

-- flags at fault
faulty_flags :
    ExpressionIs (codes "/[/]\\//gg;") (codes ";") 6 1 true (RegExpFlagTwice 0x67 (stretch 8 9) ∷ [])
    × ExpressionIs (codes "/=]_iu/1/") (codes "/") 6 0 true (RegExpFlag 0x31 (stretch 7 8) ∷ [])
    × ExpressionIs (codes "/a/gxi$g_i") [] 2 3 true
    (RegExpFlag 0x78 (stretch 4 5) ∷ RegExpFlag 0x24 (stretch 6 7) ∷ RegExpFlagTwice 0x67 (stretch 7 8)
    ∷ RegExpFlag 0x5F (stretch 8 9) ∷ RegExpFlagTwice 0x69 (stretch 9 10) ∷ [])
unfolding is_line_terminator encode_utf8 expression_of_body is_identifier_part unicode_ident
faulty_flags = (refl, refl, refl)

-- expressions without an end
broken_expressions :
    ExpressionIs (codes "/") [] 1 0 false (UnterminatedRegExp (stretch 0 1) ∷ [])
    × ExpressionIs (codes "/a" ++ (line_feed ∷ codes "b")) [] 4 0 false (UnterminatedRegExp (stretch 0 3) ∷ [])
    × ExpressionIs (codes "/[/") [] 3 0 false (UnterminatedRegExp (stretch 0 3) ∷ [])
    × ExpressionIs (codes "/a\\") [] 3 0 false (UnterminatedRegExp (stretch 0 3) ∷ [])
    × ExpressionIs (codes "/\\" ++ (carriage_return ∷ line_feed ∷ codes "/")) [] 5 0 false
    (UnterminatedRegExp (stretch 0 3) ∷ [])
    × ExpressionIs (codes "/[a" ++ (0x2028 ∷ codes "]/g")) [] 9 0 false (UnterminatedRegExp (stretch 0 6) ∷ [])
unfolding is_line_terminator encode_utf8 expression_of_body
broken_expressions = (refl, refl, refl, refl, refl, refl)

-- a token of the kind that the text begins with, of which nothing is known but what is reported
abbrev Reads : Option Reading → Kind → List ℕ → List ℕ → List Diagnostic → Type 0
Reads read kind text left reported = read ≡ Some (record (read_up_to kind text left) { diagnostics = reported })

-- and one that has its text as value
abbrev ReadsText : Option Reading → Kind → List ℕ → List ℕ → Type 0
ReadsText read kind text left =
    read ≡ Some (record (read_up_to kind text left)
    { value = unescaped_value kind 0 (size_of (read_up_to kind text left)) })

angles :
    Reads (angle_reading right_angles (codes ">>")) ShiftRight (codes ">>") [] []
    × Reads (angle_reading right_angles (codes ">>>=b")) ShiftRight3Eq (codes ">>>=b") (codes "b") []
    × Reads (angle_reading right_angles (codes ">>>>")) ShiftRight3 (codes ">>>>") (codes ">") []
    × Reads (angle_reading right_angles (codes ">>==")) ShiftRightEq (codes ">>==") (codes "=") []
    × Reads (angle_reading right_angles (codes ">=>")) GtEq (codes ">=>") (codes ">") []
    × Reads (angle_reading right_angles (codes ">a")) RAngle (codes ">a") (codes "a") []
    × Reads (angle_reading first_left_angle (codes "<<=")) LAngle (codes "<<=") (codes "<=") []
    × Reads (angle_reading first_right_angle (codes ">>>")) RAngle (codes ">>>") (codes ">>") []
    × (angle_reading first_left_angle (codes ">") ≡ None)
angles = (refl, refl, refl, refl, refl, refl, refl, refl, refl)

children :
    Reads (Some (jsx_child_reading (codes "x}"))) Eof (codes "x}") (codes "}")
    (UnexpectedJsxEnd 0x7D (stretch 1 1) ∷ [])
    × Reads (Some (jsx_child_reading (codes "}"))) Eof (codes "}") (codes "}")
    (UnexpectedJsxEnd 0x7D (stretch 0 0) ∷ [])
    × Reads (Some (jsx_child_reading (0x20 ∷ line_feed ∷ codes ">>}"))) Eof (0x20 ∷ line_feed ∷ codes ">>}")
    (codes "}") (UnexpectedJsxEnd 0x7D (stretch 4 4) ∷ [])
    × Reads (Some (jsx_child_reading (codes ">a"))) Eof (codes ">a") [] []
    × Reads (Some (jsx_child_reading (codes "a>>b{"))) JSXText (codes "a>>b{") (codes "{") []
    × Reads (Some (jsx_child_reading (codes " a 'b' \\{c"))) JSXText (codes " a 'b' \\{c") (codes "{c") []
    × Reads (Some (jsx_child_reading (codes "a</b>"))) JSXText (codes "a</b>") (codes "</b>") []
    × Reads (Some (jsx_child_reading (codes "</b>"))) LAngle (codes "</b>") (codes "/b>") []
    × Reads (Some (jsx_child_reading (codes "{{"))) LCurly (codes "{{") (codes "{") []
    × Reads (Some (jsx_child_reading (codes "a"))) Eof (codes "a") [] []
    × Reads (Some (jsx_child_reading [])) Eof [] [] []
unfolding encode_utf8
children = (refl, refl, refl, refl, refl, refl, refl, refl, refl, refl, refl)

-- what a child is warned of: each `>` in its text, and none behind it
child_warnings :
    (jsx_child_warnings 3 (codes "x>y</a>") ≡ stretch 4 5 ∷ [])
    × (jsx_child_warnings 1 (codes "é>>{a>}") ≡ stretch 3 4 ∷ stretch 4 5 ∷ [])
    × (jsx_child_warnings 1 (codes ">") ≡ stretch 1 2 ∷ [])
    × (jsx_child_warnings 1 (codes "}>") ≡ [])
    × (jsx_child_warnings 0 (codes "<a>") ≡ [])
    × (jsx_child_warnings 0 (codes "{>") ≡ [])
unfolding encode_utf8
child_warnings = (refl, refl, refl, refl, refl, refl)

names :
    ReadsText (jsx_name_reading (codes "a") (codes "-b>x")) Ident (codes "a" ++ (codes "-b>x")) (codes ">x")
    × ReadsText (jsx_name_reading (codes "a") (codes "--1-:a")) Ident (codes "a" ++ (codes "--1-:a")) (codes ":a")
    × ReadsText (jsx_name_reading (codes "a") (codes "-\\u0061")) Ident (codes "a" ++ (codes "-\\u0061"))
    (codes "\\u0061")
    × (jsx_name_reading (codes "a") (codes ">-") ≡ None)
unfolding is_identifier_part unicode_ident
names = (refl, refl, refl, refl)

attributes :
    ReadsText (jsx_string_reading (codes "\"x\\n\"")) Str (codes "\"x\\n\"") []
    × ReadsText (jsx_string_reading (codes "'\\'x'")) Str (codes "'\\'x'") (codes "x'")
    × ReadsText (jsx_string_reading (codes "'\"" ++ (line_feed ∷ codes "'"))) Str
    (codes "'\"" ++ (line_feed ∷ codes "'")) []
    × Reads (jsx_string_reading (codes "\"x")) Eof (codes "\"x") [] (UnterminatedString (stretch 0 2) ∷ [])
    × (jsx_string_reading (codes "x\"") ≡ None)
unfolding encode_utf8
attributes = (refl, refl, refl, refl, refl)
