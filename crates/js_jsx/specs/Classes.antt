-- What the choice of goals tells tokens apart by.
use Rattle.std.specs.Prelude.{Bool, true, false, [], ◌∷◌, if◌then◌else◌}
use Rattle.js_kind.specs.Kinds.{is_kind, is_one_of}
use Rattle.js_kind.specs.declared.kind.Kind.{Kind}
use Rattle.js_kind.specs.declared.kind.Kind.TheVariants as kinds
use Rattle.js_jsx.specs.declared.class.TokenClass.{TokenClass}
use Rattle.js_jsx.specs.declared.class.TokenClass.TheVariants.{End, LeftAngle, RightAngle, LeftCurly, RightCurly}
use Rattle.js_jsx.specs.declared.class.TokenClass.TheVariants.{TemplateHead, TemplateMiddle, TemplateTail, Slash}
use Rattle.js_jsx.specs.declared.class.TokenClass.TheVariants.{SlashEqual, Equal, Comma, Semicolon, RightBracket}
use Rattle.js_jsx.specs.declared.class.TokenClass.TheVariants.{Extends, Bang, Other}

-- the class of tokens of the kind
unfoldable pub class_of : Kind → TokenClass
class_of kind =
    if is_kind kinds.Eof kind then End
    else if is_kind kinds.LAngle kind then LeftAngle
    else if is_kind kinds.RAngle kind then RightAngle
    else if is_kind kinds.LCurly kind then LeftCurly
    else if is_kind kinds.RCurly kind then RightCurly
    else if is_kind kinds.TemplateHead kind then TemplateHead
    else if is_kind kinds.TemplateMiddle kind then TemplateMiddle
    else if is_kind kinds.TemplateTail kind then TemplateTail
    else if is_kind kinds.Slash kind then Slash
    else if is_kind kinds.SlashEq kind then SlashEqual
    else if is_kind kinds.Eq kind then Equal
    else if is_kind kinds.Comma kind then Comma
    else if is_kind kinds.Semicolon kind then Semicolon
    else if is_one_of (kinds.RParen ∷ kinds.RBrack ∷ []) kind then RightBracket
    else if is_kind kinds.Extends kind then Extends
    else if is_kind kinds.Bang kind then Bang
    else Other

-- The class is this one.
abbrev pub is_comma : TokenClass → Bool
is_comma Comma = true
is_comma _ = false

abbrev pub is_equal : TokenClass → Bool
is_equal Equal = true
is_equal _ = false

abbrev pub is_slash : TokenClass → Bool
is_slash Slash = true
is_slash _ = false

abbrev pub is_bang : TokenClass → Bool
is_bang Bang = true
is_bang _ = false

-- A token of the class does nothing outside of tags and children.
abbrev pub is_idle : TokenClass → Bool
is_idle RightAngle = true
is_idle TemplateMiddle = true
is_idle Equal = true
is_idle Comma = true
is_idle Semicolon = true
is_idle RightBracket = true
is_idle Extends = true
is_idle Other = true
is_idle _ = false
