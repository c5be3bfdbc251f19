-- Classes of elements, by what a token or a comment is.
use Rattle.std.specs.Prelude.{ℕ, Bool, ◌||◌, ◌==◌, List, codes, if◌then◌else◌}
use Rattle.js_kind.specs.Kinds.{is_name_kind, is_number_kind, is_reserved_keyword, number}
use Rattle.js_kind.specs.declared.kind.Kind.{Kind}
use Rattle.js_kind.specs.declared.kind.Kind.TheVariants as variant
use Rattle.js_text.specs.declared.comment.CommentContent.{CommentContent}
use Rattle.js_text.specs.declared.comment.CommentContent.TheVariants as content
use Rattle.js_page.specs.declared.class.Class.{Class}
use Rattle.js_page.specs.declared.class.Class.TheVariants as class

abbrev is : Kind → Kind → Bool
is other kind = number kind == number other

abbrev is_template_part : Kind → Bool
is_template_part kind =
    is variant.NoSubstitutionTemplate kind || is variant.TemplateHead kind || is variant.TemplateMiddle kind
    || is variant.TemplateTail kind

-- the class of a token that is neither a word nor a number
unfoldable pub class_of_other : Kind → Class
class_of_other kind =
    if is variant.Ident kind then class.Name else if is variant.PrivateIdentifier kind then class.PrivateName
    else if is variant.Str kind then class.Text else if is_template_part kind then class.Template
    else if is variant.RegExp kind then class.RegularExpression else if is variant.JSXText kind then class.JsxText
    else if is variant.HashbangComment kind then class.Comment else if is variant.Eof kind then class.End
    else if is variant.Undetermined kind || is variant.Skip kind then class.Unknown else class.Punctuator

-- The class of a token: reserved words (ECMA-262 12.7.2), other words that mean something at some places, numbers, and
-- all else.
abbrev pub class_of_token : Kind → Class
class_of_token kind =
    if is_reserved_keyword kind then class.Reserved else if is_name_kind kind then class.Word
    else if is_number_kind kind then class.Number else class_of_other kind

-- the class of a comment
abbrev pub class_of_comment : CommentContent → Class
class_of_comment content.None = class.Comment
class_of_comment content.Legal = class.Licence
class_of_comment content.JsdocLegal = class.Licence
class_of_comment content.Jsdoc = class.Documentation
class_of_comment content.Pure = class.Annotation
class_of_comment content.PureNotApplied = class.Annotation
class_of_comment content.NoSideEffects = class.Annotation
class_of_comment content.NoSideEffectsNotApplied = class.Annotation
class_of_comment content.Webpack = class.Annotation
class_of_comment content.Vite = class.Annotation
class_of_comment content.CoverageIgnore = class.Annotation
class_of_comment content.CoverageIgnoreFile = class.Annotation
class_of_comment content.Turbopack = class.Annotation
class_of_comment content.PropertyKey = class.Annotation

-- what opens an element of the class
abbrev pub opening_text : Class → List ℕ
opening_text class.Reserved = codes "<i class=k>"
opening_text class.Word = codes "<i class=w>"
opening_text class.Name = codes "<i class=n>"
opening_text class.PrivateName = codes "<i class=p>"
opening_text class.Number = codes "<i class=d>"
opening_text class.Text = codes "<i class=s>"
opening_text class.Template = codes "<i class=t>"
opening_text class.RegularExpression = codes "<i class=r>"
opening_text class.Punctuator = codes "<i class=o>"
opening_text class.JsxText = codes "<i class=x>"
opening_text class.Comment = codes "<i class=c>"
opening_text class.Documentation = codes "<i class=j>"
opening_text class.Licence = codes "<i class=l>"
opening_text class.Annotation = codes "<i class=a>"
opening_text class.End = codes "<i class=e>"
opening_text class.Unknown = codes "<i class=u>"

-- the letter that tells the class
abbrev pub letter_of : Class → ℕ
letter_of class.Reserved = 107
letter_of class.Word = 119
letter_of class.Name = 110
letter_of class.PrivateName = 112
letter_of class.Number = 100
letter_of class.Text = 115
letter_of class.Template = 116
letter_of class.RegularExpression = 114
letter_of class.Punctuator = 111
letter_of class.JsxText = 120
letter_of class.Comment = 99
letter_of class.Documentation = 106
letter_of class.Licence = 108
letter_of class.Annotation = 97
letter_of class.End = 101
letter_of class.Unknown = 117
