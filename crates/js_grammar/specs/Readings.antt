-- What is read where a gap has ended, as a function of what stands there.
use Rattle.std.specs.Prelude.{ℕ, Bool, List, [], ◌∷◌, length, drop, ◌==◌, nat_lt, codes, Option, Some, None}
use Rattle.std.specs.Prelude.{if◌then◌else◌}
use Rattle.js_text.specs.Ascii.{number_sign}
use Rattle.js_text.specs.Characters.{begins}
use Rattle.js_text.specs.declared.source_type.SourceType.{SourceType}
use Rattle.js_kind.specs.declared.kind.Kind.TheVariants.{Eof}
use Rattle.js_grammar.specs.Gap.{is_prefix}
use Rattle.js_grammar.specs.Name.{begins_name, name_reading, private_reading}
use Rattle.js_grammar.specs.Number.{begins_number}
use Rattle.js_grammar.specs.NumberReads.{number_reading}
use Rattle.js_grammar.specs.Punctuators.{Punctuator, punctuators, is_spelled}
use Rattle.js_grammar.specs.Quoted.{begins_quoted, quoted_reading}
use Rattle.js_grammar.specs.Reading.{Reading, read_up_to}
use Rattle.js_grammar.specs.Recovery.{binary_file, invalid_character, unterminated_comment}

-- the longer of two punctuators, if there are such
abbrev pub longer : Option Punctuator → Option Punctuator → Option Punctuator
longer None other = other
longer (Some p) None = Some p
longer (Some p) (Some q) = if nat_lt (length p.text) (length q.text) then Some q else Some p

-- the longest of these punctuators that is spelled at the beginning of the text
abbrev pub longest_of : SourceType → Bool → List ℕ → List Punctuator → Option Punctuator
longest_of t line_has_ended text [] = None
longest_of t line_has_ended text (p ∷ ps) =
    longer (if is_spelled t line_has_ended text p then Some p else None) (longest_of t line_has_ended text ps)

-- a punctuator that the text begins with
abbrev pub read_punctuator : List ℕ → Punctuator → Reading
read_punctuator text p = read_up_to p.kind text (drop (length p.text) text)

-- the end of the source, or a character that begins nothing
abbrev pub nothing_reading : List ℕ → Reading
nothing_reading [] = read_up_to Eof [] []
nothing_reading (c ∷ cs) = if c == 0xFFFD then binary_file (c ∷ cs) else invalid_character c cs

-- a punctuator, if there is one
abbrev pub punctuator_or_nothing : Option Punctuator → List ℕ → Reading
punctuator_or_nothing (Some p) text = read_punctuator text p
punctuator_or_nothing None text = nothing_reading text

-- What is read where a gap has ended: a comment without an end, a name, a private name, a number, a string or a
-- template, good or at fault; else the longest punctuator, the end of the source, or a character that begins nothing.
abbrev pub reading : SourceType → Bool → List ℕ → Reading
reading t line_has_ended here =
    if is_prefix (codes "/*") here then unterminated_comment here
    else if begins_name here then name_reading here
    else if begins (λ c. c == number_sign) here then private_reading here
    else if begins_number here then number_reading here
    else if begins begins_quoted here then quoted_reading here
    else punctuator_or_nothing (longest_of t line_has_ended here punctuators) here
