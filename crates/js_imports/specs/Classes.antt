-- What tokens are to the rule by which imports and exports are found.
use Rattle.std.specs.Prelude.{Bool, true, false, not, ◌&&◌, ◌||◌, [], ◌∷◌, if◌then◌else◌}
use Rattle.js_kind.specs.Kinds.{is_identifier_name, is_kind, is_one_of}
use Rattle.js_kind.specs.TokenParts.{TokenParts}
use Rattle.js_kind.specs.declared.kind.Kind.{Kind}
use Rattle.js_kind.specs.declared.kind.Kind.TheVariants as kind
use Rattle.js_imports.specs.declared.class.TokenClass.{TokenClass}
use Rattle.js_imports.specs.declared.class.TokenClass.TheVariants as class

-- the class of the words that the rule knows, and of other names
abbrev pub class_of_name : Kind → TokenClass
class_of_name k =
    if is_kind kind.Import k then class.Import
    else if is_kind kind.Export k then class.Export
    else if is_kind kind.Require k then class.Require
    else if is_kind kind.From k then class.From
    else if is_kind kind.As k then class.As
    else if is_kind kind.With k then class.With
    else if is_kind kind.Assert k then class.Assert
    else if is_kind kind.Default k then class.Default
    else if is_one_of (kind.Const ∷ kind.Let ∷ kind.Var ∷ []) k then class.Declares
    else if is_kind kind.Function k then class.Function
    else if is_kind kind.Class k then class.ClassWord
    else if is_kind kind.Async k then class.Async
    else if is_kind kind.Meta k then class.Meta
    else class.Name

-- the class of tokens that are no names
abbrev pub class_of_mark : Kind → TokenClass
class_of_mark k =
    if is_one_of (kind.Dot ∷ kind.QuestionDot ∷ []) k then class.Dot
    else if is_kind kind.Comma k then class.Comma
    else if is_kind kind.Star k then class.Star
    else if is_kind kind.LParen k then class.OpenParen
    else if is_kind kind.RParen k then class.CloseParen
    else if is_kind kind.LCurly k then class.OpenBrace
    else if is_kind kind.RCurly k then class.CloseBrace
    else if is_kind kind.LBrack k then class.OpenSquare
    else if is_kind kind.TemplateHead k then class.OpenTemplate
    else if is_one_of (kind.RBrack ∷ kind.TemplateTail ∷ []) k then class.CloseOther
    else if is_kind kind.Str k then class.Text
    else class.Other

-- the class of a token of the kind that has no escape
abbrev pub class_of : Kind → TokenClass
class_of k = if is_identifier_name k then class_of_name k else class_of_mark k

-- the class is that of a word that the rule knows
abbrev pub is_word : TokenClass → Bool
is_word class.Import = true
is_word class.Export = true
is_word class.Require = true
is_word class.From = true
is_word class.As = true
is_word class.With = true
is_word class.Assert = true
is_word class.Default = true
is_word class.Declares = true
is_word class.Function = true
is_word class.ClassWord = true
is_word class.Async = true
is_word class.Meta = true
is_word _ = false

-- the class is that of a name (ECMA-262 12.7, IdentifierName)
abbrev pub is_name : TokenClass → Bool
is_name class.Name = true
is_name c = is_word c

-- the class is that of a name or of a string (ECMA-262 16.2.2, ModuleExportName)
abbrev pub is_label : TokenClass → Bool
is_label class.Text = true
is_label c = is_name c

-- a token of the class begins nothing, and changes no bracket
abbrev pub is_plain : TokenClass → Bool
is_plain class.Import = false
is_plain class.Export = false
is_plain class.Require = false
is_plain class.Dot = false
is_plain class.Comma = false
is_plain class.OpenParen = false
is_plain class.CloseParen = false
is_plain class.OpenBrace = false
is_plain class.CloseBrace = false
is_plain class.OpenSquare = false
is_plain class.OpenTemplate = false
is_plain class.CloseOther = false
is_plain _ = true

-- A word with an escape in it is no keyword (ECMA-262 12.7.2), and so a name like others. Before `assert` no line ends.
-- `require` is a name like others where its calls don't count.
abbrev pub class_as_written : Bool → Bool → Bool → TokenClass → TokenClass
class_as_written escaped first counts class.Assert = if escaped || first then class.Name else class.Assert
class_as_written escaped first counts class.Require = if escaped || not counts then class.Name else class.Require
class_as_written escaped first counts c = if escaped && is_word c then class.Name else c

-- the class of a token
abbrev pub token_class : Bool → TokenParts → TokenClass
token_class counts token = class_as_written token.escaped token.is_on_new_line counts (class_of token.kind)
