-- Strings and templates alike: where one begins, what is read there, and the value of that.
use Rattle.std.specs.Prelude.{ℕ, Bool, List, [], ◌∷◌, ◌==◌, ◌||◌, Option, Some, None, if◌then◌else◌}
use Rattle.js_text.specs.Ascii.{grave_accent, backslash, carriage_return}
use Rattle.js_text.specs.declared.value.RowValue.{RowValue}
use Rattle.js_text.specs.declared.value.RowValue.TheVariants.{Nothing, Slice, Units, Bad}
use Rattle.js_kind.specs.declared.kind.Kind.TheVariants.{NoSubstitutionTemplate, TemplateHead}
use Rattle.js_grammar.specs.Reading.{Reading}
use Rattle.js_grammar.specs.StringItems.{string_reading, is_quote}
use Rattle.js_grammar.specs.Template.{template_part_reading}

-- the marks that begin strings and templates
abbrev pub begins_quoted : ℕ → Bool
begins_quoted c = is_quote c || (c == grave_accent)

-- What is read of the string or template that the text begins with the mark of.
abbrev pub quoted_reading : List ℕ → Reading
quoted_reading [] = template_part_reading TemplateHead NoSubstitutionTemplate []
quoted_reading (c ∷ cs) =
    if is_quote c then string_reading c cs
    else template_part_reading TemplateHead NoSubstitutionTemplate (c ∷ cs)

-- the units of a value, if it has any of its own
abbrev pub units_in : RowValue → Option (List ℕ)
units_in Nothing = None
units_in (Slice span) = None
units_in (Units us) = Some us
units_in Bad = None

-- what begins an escape
abbrev pub is_backslash : ℕ → Bool
is_backslash c = c == backslash

-- what is escaped in a template begins with one of these: an escape, or a CR
abbrev pub is_backslash_or_return : ℕ → Bool
is_backslash_or_return c = (c == backslash) || (c == carriage_return)
