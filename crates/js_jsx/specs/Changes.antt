-- What tokens do to what is open.
use Rattle.std.specs.Prelude.{Bool, true, false, not, ◌||◌, List, ◌∷◌, drop, Option}
use Rattle.std.specs.Prelude.{if◌then◌else◌}
use Rattle.js_jsx.specs.declared.change.Change.{Change}
use Rattle.js_jsx.specs.declared.change.Change.TheVariants.{Stays, Opens, Becomes, EndsScope, EndsElement}
use Rattle.js_jsx.specs.declared.change.Change.TheVariants.{EndsEmptyElement, EndsTags, EndsTypes, EndsUpToBrace}
use Rattle.js_jsx.specs.declared.change.TagPlace.{TagPlace}
use Rattle.js_jsx.specs.declared.change.TagPlace.TheVariants.{First, Second, BehindExtends, Later}
use Rattle.js_jsx.specs.declared.class.TokenClass.{TokenClass}
use Rattle.js_jsx.specs.declared.class.TokenClass.TheVariants.{End, LeftAngle, RightAngle, LeftCurly, RightCurly}
use Rattle.js_jsx.specs.declared.class.TokenClass.TheVariants.{TemplateHead, TemplateMiddle, TemplateTail, Slash}
use Rattle.js_jsx.specs.declared.class.TokenClass.TheVariants.{Equal, Semicolon, RightBracket, Extends}
use Rattle.js_jsx.specs.Classes.{is_comma, is_equal, is_slash}
use Rattle.js_jsx.specs.declared.scope.Scope.{Scope}
use Rattle.js_jsx.specs.declared.scope.Scope.TheVariants.{Block, Template, Container, OpeningTag, ClosingTag}
use Rattle.js_jsx.specs.declared.scope.Scope.TheVariants.{TypeArguments, Children}
use Rattle.js_jsx.specs.Scopes.{from_brace, is_curly, is_template, passes, top}
use Rattle.js_jsx.specs.Scopes.{without_children, without_tags, without_types}

-- Among children a `<` opens a tag, and a `{` a container. A text that a `}` has ended is read as an end: so that this
-- closes the last open brace, all above it ends.
abbrev pub change_in_children : Bool → TokenClass → Change
change_in_children has_brace LeftAngle = Opens OpeningTag
change_in_children has_brace LeftCurly = Opens Container
change_in_children has_brace End = if has_brace then EndsUpToBrace else Stays
change_in_children has_brace _ = Stays

-- In type arguments a `<` opens others, and a `>` ends them; a `;` ends all that was taken for a tag.
abbrev pub change_in_types : TokenClass → Change
change_in_types LeftAngle = Opens TypeArguments
change_in_types RightAngle = EndsScope
change_in_types LeftCurly = Opens Block
change_in_types TemplateHead = Opens Template
change_in_types Semicolon = EndsTypes
change_in_types _ = Stays

-- Outside of tags and children a `<` opens a tag, where an operand may begin.
abbrev pub change_in_code : Bool → TokenClass → Change
change_in_code may_open LeftAngle = if may_open then Opens OpeningTag else Stays
change_in_code may_open LeftCurly = Opens Block
change_in_code may_open TemplateHead = Opens Template
change_in_code may_open _ = Stays

-- the same, where the tag that was opened last was none: type parameters
abbrev pub in_place_of_tag : Change → Change
in_place_of_tag (Opens scope) = Becomes scope
in_place_of_tag _ = EndsScope

-- what may follow the name `extends` of an attribute
abbrev pub follows_attribute : TokenClass → Bool
follows_attribute Equal = true
follows_attribute RightAngle = true
follows_attribute Slash = true
follows_attribute _ = false

-- What was taken for a tag was none: a `,` stands in it, a `=` as its second token, or anything but the rest of an
-- attribute behind `extends` as its second.
abbrev pub was_no_tag : TagPlace → TokenClass → Bool
was_no_tag First class = is_comma class
was_no_tag Second class = is_comma class || is_equal class
was_no_tag BehindExtends class = not (follows_attribute class)
was_no_tag Later class = is_comma class

-- All that was taken for tags was none: a `;`, a `)` or a `]` stands in it.
abbrev pub ends_tags : TokenClass → Bool
ends_tags Semicolon = true
ends_tags RightBracket = true
ends_tags _ = false

abbrev pub is_first : TagPlace → Bool
is_first First = true
is_first Second = false
is_first BehindExtends = false
is_first Later = false

-- what the `>` of a tag does: an element ends with its closing tag, or with one that has a `/` before the `>`, or else
-- its children begin
abbrev pub element_end : Bool → TokenClass → Change
element_end closing before =
    if closing then EndsElement
    else if is_slash before then EndsEmptyElement
    else Becomes Children

-- In a tag that goes on, a `/` as its first token makes it a closing one. A `{` opens a container, and a `<` another
-- tag as a value, or type arguments. A `}` belongs to the last open brace. A `>` ends the element, or its children
-- begin.
abbrev pub change_within_tag : Bool → Bool → TagPlace → TokenClass → TokenClass → Change
change_within_tag closing has_brace place before Slash = if is_first place then Becomes ClosingTag else Stays
change_within_tag closing has_brace place before LeftCurly = Opens Container
change_within_tag closing has_brace place before TemplateHead = Opens Template
change_within_tag closing has_brace place before LeftAngle =
    if is_equal before then Opens OpeningTag else Opens TypeArguments
change_within_tag closing has_brace place before RightCurly = if has_brace then EndsUpToBrace else Stays
change_within_tag closing has_brace place before TemplateMiddle = if has_brace then EndsUpToBrace else Stays
change_within_tag closing has_brace place before TemplateTail = if has_brace then EndsUpToBrace else Stays
change_within_tag closing has_brace place before RightAngle = element_end closing before
change_within_tag closing has_brace place before _ = Stays

-- the scopes that a change which opens none leaves open
abbrev pub left : Change → List Scope → List Scope
left EndsScope scopes = drop 1 scopes
left EndsElement scopes = without_children (drop 1 scopes)
left EndsEmptyElement scopes = drop 1 scopes
left EndsTags scopes = without_tags scopes
left EndsTypes scopes = without_types scopes
left EndsUpToBrace scopes = from_brace scopes
left _ scopes = scopes

-- a `}` closes a block or a container, and the last part of a template its substitution
abbrev pub closes : TokenClass → Option Scope → Bool
closes RightCurly scope = passes is_curly scope
closes TemplateTail scope = passes is_template scope
closes _ scope = false

-- the scopes without the one that was opened last, where a token of the class closes it
abbrev pub closed : TokenClass → List Scope → List Scope
closed class scopes = if closes class (top scopes) then drop 1 scopes else scopes

-- the scopes behind a token of the class with the change
abbrev pub changed : Change → TokenClass → List Scope → List Scope
changed (Opens scope) class scopes = scope ∷ scopes
changed (Becomes scope) class scopes = scope ∷ drop 1 scopes
changed change class scopes = closed class (left change scopes)

-- which of its own tokens comes next in a tag, behind one of the class
abbrev pub next_place : TagPlace → TokenClass → TagPlace
next_place First class = Second
next_place Second Extends = BehindExtends
next_place Second _ = Later
next_place BehindExtends class = Later
next_place Later class = Later

-- and in a scope that was opened now: a closing tag has its `/` behind it
abbrev pub place_in : Scope → TagPlace
place_in OpeningTag = First
place_in ClosingTag = Second
place_in _ = Later

-- Which of its own tokens comes next in the tag that was opened last, if it is a tag: behind anything that was open in
-- it, its second token is past.
abbrev pub place_behind : Bool → TagPlace → TokenClass → Change → TagPlace
place_behind is_in_tag place class Stays = if is_in_tag then next_place place class else place
place_behind is_in_tag place class (Opens scope) = place_in scope
place_behind is_in_tag place class (Becomes scope) = place_in scope
place_behind is_in_tag place class _ = Later

-- an element has ended
abbrev pub ends_element : Change → Bool
ends_element EndsElement = true
ends_element EndsEmptyElement = true
ends_element _ = false

-- nothing opens or ends
abbrev pub stays : Change → Bool
stays Stays = true
stays _ = false
