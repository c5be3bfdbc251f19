-- The numbers, names, texts and classes of kinds.
use Rattle.std.specs.Prelude.{ℕ, List, codes}
use Rattle.js_kind.specs.declared.kind.Kind.{Kind}
use Rattle.js_kind.specs.declared.kind.Kind.TheVariants as variant

-- What the text of a kind is, or its tokens are: the reserved words but for `yield` and the literals (ECMA-262 12.7.2,
-- ReservedWord), words with a meaning of their own at some places, such words of TypeScript, words that strict mode
-- code reserves (`let`, `static` and `yield` among them), literals that are words, punctuators, numbers, parts of
-- templates, and all else.
pub data KindClass : Type 0 where
  reserved_word : KindClass
  contextual_word : KindClass
  typescript_word : KindClass
  strict_word : KindClass
  literal_word : KindClass
  punctuator : KindClass
  number_literal : KindClass
  template_part : KindClass
  other : KindClass

-- the number of a class
abbrev pub class_number : KindClass → ℕ
class_number reserved_word = 0
class_number contextual_word = 1
class_number typescript_word = 2
class_number strict_word = 3
class_number literal_word = 4
class_number punctuator = 5
class_number number_literal = 6
class_number template_part = 7
class_number other = 8

-- the number of a kind, its class, its name, and its text: the one spelling of a word or a punctuator, a short
-- description of any other kind
pub record KindRow : Type 0 where
  pub number : ℕ
  pub name : List ℕ
  pub text : List ℕ
  pub class : KindClass

-- a row of the table
abbrev row : ℕ → KindClass → List ℕ → List ℕ → KindRow
row number class name text = record { number = number; name = name; text = text; class = class }

-- how many kinds there are
abbrev pub kind_count : ℕ
kind_count = 171

-- each kind with its number, from 0 on, its class, its name and its text
abbrev pub kind_row : Kind → KindRow
kind_row variant.Eof = row 0 other (codes "Eof") (codes "EOF")
kind_row variant.Undetermined = row 1 other (codes "Undetermined") (codes "Unknown")
kind_row variant.Skip = row 2 other (codes "Skip") (codes "Skipped")
kind_row variant.HashbangComment = row 3 other (codes "HashbangComment") (codes "#!")
kind_row variant.Ident = row 4 other (codes "Ident") (codes "Identifier")
kind_row variant.Await = row 5 reserved_word (codes "Await") (codes "await")
kind_row variant.Break = row 6 reserved_word (codes "Break") (codes "break")
kind_row variant.Case = row 7 reserved_word (codes "Case") (codes "case")
kind_row variant.Catch = row 8 reserved_word (codes "Catch") (codes "catch")
kind_row variant.Class = row 9 reserved_word (codes "Class") (codes "class")
kind_row variant.Const = row 10 reserved_word (codes "Const") (codes "const")
kind_row variant.Continue = row 11 reserved_word (codes "Continue") (codes "continue")
kind_row variant.Debugger = row 12 reserved_word (codes "Debugger") (codes "debugger")
kind_row variant.Default = row 13 reserved_word (codes "Default") (codes "default")
kind_row variant.Delete = row 14 reserved_word (codes "Delete") (codes "delete")
kind_row variant.Do = row 15 reserved_word (codes "Do") (codes "do")
kind_row variant.Else = row 16 reserved_word (codes "Else") (codes "else")
kind_row variant.Enum = row 17 reserved_word (codes "Enum") (codes "enum")
kind_row variant.Export = row 18 reserved_word (codes "Export") (codes "export")
kind_row variant.Extends = row 19 reserved_word (codes "Extends") (codes "extends")
kind_row variant.Finally = row 20 reserved_word (codes "Finally") (codes "finally")
kind_row variant.For = row 21 reserved_word (codes "For") (codes "for")
kind_row variant.Function = row 22 reserved_word (codes "Function") (codes "function")
kind_row variant.If = row 23 reserved_word (codes "If") (codes "if")
kind_row variant.Import = row 24 reserved_word (codes "Import") (codes "import")
kind_row variant.In = row 25 reserved_word (codes "In") (codes "in")
kind_row variant.Instanceof = row 26 reserved_word (codes "Instanceof") (codes "instanceof")
kind_row variant.New = row 27 reserved_word (codes "New") (codes "new")
kind_row variant.Return = row 28 reserved_word (codes "Return") (codes "return")
kind_row variant.Super = row 29 reserved_word (codes "Super") (codes "super")
kind_row variant.Switch = row 30 reserved_word (codes "Switch") (codes "switch")
kind_row variant.This = row 31 reserved_word (codes "This") (codes "this")
kind_row variant.Throw = row 32 reserved_word (codes "Throw") (codes "throw")
kind_row variant.Try = row 33 reserved_word (codes "Try") (codes "try")
kind_row variant.Typeof = row 34 reserved_word (codes "Typeof") (codes "typeof")
kind_row variant.Var = row 35 reserved_word (codes "Var") (codes "var")
kind_row variant.Void = row 36 reserved_word (codes "Void") (codes "void")
kind_row variant.While = row 37 reserved_word (codes "While") (codes "while")
kind_row variant.With = row 38 reserved_word (codes "With") (codes "with")
kind_row variant.Async = row 39 contextual_word (codes "Async") (codes "async")
kind_row variant.From = row 40 contextual_word (codes "From") (codes "from")
kind_row variant.Get = row 41 contextual_word (codes "Get") (codes "get")
kind_row variant.Meta = row 42 contextual_word (codes "Meta") (codes "meta")
kind_row variant.Of = row 43 contextual_word (codes "Of") (codes "of")
kind_row variant.Set = row 44 contextual_word (codes "Set") (codes "set")
kind_row variant.Target = row 45 contextual_word (codes "Target") (codes "target")
kind_row variant.Accessor = row 46 contextual_word (codes "Accessor") (codes "accessor")
kind_row variant.Source = row 47 contextual_word (codes "Source") (codes "source")
kind_row variant.Defer = row 48 contextual_word (codes "Defer") (codes "defer")
kind_row variant.Abstract = row 49 typescript_word (codes "Abstract") (codes "abstract")
kind_row variant.As = row 50 typescript_word (codes "As") (codes "as")
kind_row variant.Asserts = row 51 typescript_word (codes "Asserts") (codes "asserts")
kind_row variant.Assert = row 52 typescript_word (codes "Assert") (codes "assert")
kind_row variant.Any = row 53 typescript_word (codes "Any") (codes "any")
kind_row variant.Boolean = row 54 typescript_word (codes "Boolean") (codes "boolean")
kind_row variant.Constructor = row 55 typescript_word (codes "Constructor") (codes "constructor")
kind_row variant.Declare = row 56 typescript_word (codes "Declare") (codes "declare")
kind_row variant.Infer = row 57 typescript_word (codes "Infer") (codes "infer")
kind_row variant.Intrinsic = row 58 typescript_word (codes "Intrinsic") (codes "intrinsic")
kind_row variant.Is = row 59 typescript_word (codes "Is") (codes "is")
kind_row variant.KeyOf = row 60 typescript_word (codes "KeyOf") (codes "keyof")
kind_row variant.Module = row 61 typescript_word (codes "Module") (codes "module")
kind_row variant.Namespace = row 62 typescript_word (codes "Namespace") (codes "namespace")
kind_row variant.Never = row 63 typescript_word (codes "Never") (codes "never")
kind_row variant.Out = row 64 typescript_word (codes "Out") (codes "out")
kind_row variant.Readonly = row 65 typescript_word (codes "Readonly") (codes "readonly")
kind_row variant.Require = row 66 typescript_word (codes "Require") (codes "require")
kind_row variant.Number = row 67 typescript_word (codes "Number") (codes "number")
kind_row variant.Object = row 68 typescript_word (codes "Object") (codes "object")
kind_row variant.Satisfies = row 69 typescript_word (codes "Satisfies") (codes "satisfies")
kind_row variant.String = row 70 typescript_word (codes "String") (codes "string")
kind_row variant.Symbol = row 71 typescript_word (codes "Symbol") (codes "symbol")
kind_row variant.TypeKw = row 72 typescript_word (codes "Type") (codes "type")
kind_row variant.Undefined = row 73 typescript_word (codes "Undefined") (codes "undefined")
kind_row variant.Unique = row 74 typescript_word (codes "Unique") (codes "unique")
kind_row variant.Using = row 75 typescript_word (codes "Using") (codes "using")
kind_row variant.Unknown = row 76 typescript_word (codes "Unknown") (codes "unknown")
kind_row variant.Global = row 77 typescript_word (codes "Global") (codes "global")
kind_row variant.BigInt = row 78 typescript_word (codes "BigInt") (codes "bigint")
kind_row variant.Override = row 79 typescript_word (codes "Override") (codes "override")
kind_row variant.Implements = row 80 strict_word (codes "Implements") (codes "implements")
kind_row variant.Interface = row 81 strict_word (codes "Interface") (codes "interface")
kind_row variant.Let = row 82 strict_word (codes "Let") (codes "let")
kind_row variant.Package = row 83 strict_word (codes "Package") (codes "package")
kind_row variant.Private = row 84 strict_word (codes "Private") (codes "private")
kind_row variant.Protected = row 85 strict_word (codes "Protected") (codes "protected")
kind_row variant.Public = row 86 strict_word (codes "Public") (codes "public")
kind_row variant.Static = row 87 strict_word (codes "Static") (codes "static")
kind_row variant.Yield = row 88 strict_word (codes "Yield") (codes "yield")
kind_row variant.True = row 89 literal_word (codes "True") (codes "true")
kind_row variant.False = row 90 literal_word (codes "False") (codes "false")
kind_row variant.Null = row 91 literal_word (codes "Null") (codes "null")
kind_row variant.Amp = row 92 punctuator (codes "Amp") (codes "&")
kind_row variant.Amp2 = row 93 punctuator (codes "Amp2") (codes "&&")
kind_row variant.Amp2Eq = row 94 punctuator (codes "Amp2Eq") (codes "&&=")
kind_row variant.AmpEq = row 95 punctuator (codes "AmpEq") (codes "&=")
kind_row variant.Bang = row 96 punctuator (codes "Bang") (codes "!")
kind_row variant.Caret = row 97 punctuator (codes "Caret") (codes "^")
kind_row variant.CaretEq = row 98 punctuator (codes "CaretEq") (codes "^=")
kind_row variant.Colon = row 99 punctuator (codes "Colon") (codes ":")
kind_row variant.Comma = row 100 punctuator (codes "Comma") (codes ",")
kind_row variant.Dot = row 101 punctuator (codes "Dot") (codes ".")
kind_row variant.Dot3 = row 102 punctuator (codes "Dot3") (codes "...")
kind_row variant.Eq = row 103 punctuator (codes "Eq") (codes "=")
kind_row variant.Eq2 = row 104 punctuator (codes "Eq2") (codes "==")
kind_row variant.Eq3 = row 105 punctuator (codes "Eq3") (codes "===")
kind_row variant.GtEq = row 106 punctuator (codes "GtEq") (codes ">=")
kind_row variant.LAngle = row 107 punctuator (codes "LAngle") (codes "<")
kind_row variant.LBrack = row 108 punctuator (codes "LBrack") (codes "[")
kind_row variant.LCurly = row 109 punctuator (codes "LCurly") (codes "{")
kind_row variant.LParen = row 110 punctuator (codes "LParen") (codes "(")
kind_row variant.LtEq = row 111 punctuator (codes "LtEq") (codes "<=")
kind_row variant.Minus = row 112 punctuator (codes "Minus") (codes "-")
kind_row variant.Minus2 = row 113 punctuator (codes "Minus2") (codes "--")
kind_row variant.MinusEq = row 114 punctuator (codes "MinusEq") (codes "-=")
kind_row variant.Neq = row 115 punctuator (codes "Neq") (codes "!=")
kind_row variant.Neq2 = row 116 punctuator (codes "Neq2") (codes "!==")
kind_row variant.Percent = row 117 punctuator (codes "Percent") (codes "%")
kind_row variant.PercentEq = row 118 punctuator (codes "PercentEq") (codes "%=")
kind_row variant.Pipe = row 119 punctuator (codes "Pipe") (codes "|")
kind_row variant.Pipe2 = row 120 punctuator (codes "Pipe2") (codes "||")
kind_row variant.Pipe2Eq = row 121 punctuator (codes "Pipe2Eq") (codes "||=")
kind_row variant.PipeEq = row 122 punctuator (codes "PipeEq") (codes "|=")
kind_row variant.Plus = row 123 punctuator (codes "Plus") (codes "+")
kind_row variant.Plus2 = row 124 punctuator (codes "Plus2") (codes "++")
kind_row variant.PlusEq = row 125 punctuator (codes "PlusEq") (codes "+=")
kind_row variant.Question = row 126 punctuator (codes "Question") (codes "?")
kind_row variant.Question2 = row 127 punctuator (codes "Question2") (codes "??")
kind_row variant.Question2Eq = row 128 punctuator (codes "Question2Eq") (codes "??=")
kind_row variant.QuestionDot = row 129 punctuator (codes "QuestionDot") (codes "?.")
kind_row variant.RAngle = row 130 punctuator (codes "RAngle") (codes ">")
kind_row variant.RBrack = row 131 punctuator (codes "RBrack") (codes "]")
kind_row variant.RCurly = row 132 punctuator (codes "RCurly") (codes "}")
kind_row variant.RParen = row 133 punctuator (codes "RParen") (codes ")")
kind_row variant.Semicolon = row 134 punctuator (codes "Semicolon") (codes ";")
kind_row variant.ShiftLeft = row 135 punctuator (codes "ShiftLeft") (codes "<<")
kind_row variant.ShiftLeftEq = row 136 punctuator (codes "ShiftLeftEq") (codes "<<=")
kind_row variant.ShiftRight = row 137 punctuator (codes "ShiftRight") (codes ">>")
kind_row variant.ShiftRight3 = row 138 punctuator (codes "ShiftRight3") (codes ">>>")
kind_row variant.ShiftRight3Eq = row 139 punctuator (codes "ShiftRight3Eq") (codes ">>>=")
kind_row variant.ShiftRightEq = row 140 punctuator (codes "ShiftRightEq") (codes ">>=")
kind_row variant.Slash = row 141 punctuator (codes "Slash") (codes "/")
kind_row variant.SlashEq = row 142 punctuator (codes "SlashEq") (codes "/=")
kind_row variant.Star = row 143 punctuator (codes "Star") (codes "*")
kind_row variant.Star2 = row 144 punctuator (codes "Star2") (codes "**")
kind_row variant.Star2Eq = row 145 punctuator (codes "Star2Eq") (codes "**=")
kind_row variant.StarEq = row 146 punctuator (codes "StarEq") (codes "*=")
kind_row variant.Tilde = row 147 punctuator (codes "Tilde") (codes "~")
kind_row variant.Arrow = row 148 punctuator (codes "Arrow") (codes "=>")
kind_row variant.Decimal = row 149 number_literal (codes "Decimal") (codes "decimal")
kind_row variant.Float = row 150 number_literal (codes "Float") (codes "float")
kind_row variant.Binary = row 151 number_literal (codes "Binary") (codes "binary")
kind_row variant.Octal = row 152 number_literal (codes "Octal") (codes "octal")
kind_row variant.Hex = row 153 number_literal (codes "Hex") (codes "hex")
kind_row variant.PositiveExponential = row 154 number_literal (codes "PositiveExponential") (codes "float")
kind_row variant.NegativeExponential = row 155 number_literal (codes "NegativeExponential") (codes "float")
kind_row variant.DecimalBigInt = row 156 number_literal (codes "DecimalBigInt") (codes "decimal bigint")
kind_row variant.BinaryBigInt = row 157 number_literal (codes "BinaryBigInt") (codes "binary bigint")
kind_row variant.OctalBigInt = row 158 number_literal (codes "OctalBigInt") (codes "octal bigint")
kind_row variant.HexBigInt = row 159 number_literal (codes "HexBigInt") (codes "hex bigint")
kind_row variant.Str = row 160 other (codes "Str") (codes "string")
kind_row variant.RegExp = row 161 other (codes "RegExp") (codes "/regexp/")
kind_row variant.NoSubstitutionTemplate = row 162 template_part (codes "NoSubstitutionTemplate") (codes "${}")
kind_row variant.TemplateHead = row 163 template_part (codes "TemplateHead") (codes "${")
kind_row variant.TemplateMiddle = row 164 template_part (codes "TemplateMiddle") (codes "${expr}")
kind_row variant.TemplateTail = row 165 template_part (codes "TemplateTail") (codes "}")
kind_row variant.PrivateIdentifier = row 166 other (codes "PrivateIdentifier") (codes "#identifier")
kind_row variant.JSXText = row 167 other (codes "JSXText") (codes "jsx")
kind_row variant.At = row 168 punctuator (codes "At") (codes "@")
kind_row variant.PipeGt = row 169 punctuator (codes "PipeGt") (codes "|>")
kind_row variant.MatchKw = row 170 contextual_word (codes "Match") (codes "match")
