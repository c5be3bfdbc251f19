-- The longest spelling where no name and no number begins.
use Rattle.std.proofs.Common.{◌≡◌, ℕ, ◌≤◌, Bool, List, [], ◌∷◌, ◌++◌, length, refl, arith, Some}
use Rattle.js_text.specs.declared.source_type.SourceType.{SourceType}
use Rattle.js_kind.specs.declared.kind.Kind.{Kind}
use Rattle.js_kind.specs.declared.kind.Kind.TheVariants.{Eof}
use Rattle.js_source.specs.Source.{At, rest}
use Rattle.js_grammar.specs.Spelling.Spelling.{end_of_source}
use Rattle.js_grammar.proofs.SpellingClasses.{longest_of_punctuator}
use Rattle.js_reader.specs.Spellings.{SpellsLongest}
use Rattle.js_spell.specs.Families.{ReadsPunctuator}

empty_longest : (us vs : List ℕ) → [] ≡ us ++ vs → length us ≤ 0
empty_longest [] vs e = omega arith
empty_longest (u ∷ us) vs e = absurd (cc)

-- the end of the text
pub end_spelled : (t : SourceType) (line_has_ended : Bool) (old : At) → rest old ≡ []
    → SpellsLongest t line_has_ended old old Eof
end_spelled t line_has_ended old e = record {
  text = refl;
  spelled = [];
  spelling =
      rw e record {
        here = refl;
        spelling = end_of_source refl refl refl;
        longest = λ us vs j whole s. empty_longest us vs whole;
      };
}

-- the longest punctuator is spelled
pub punctuator_spelled : (t : SourceType) (line_has_ended : Bool) (old new : At) (k : Kind)
    → ReadsPunctuator t line_has_ended old new (Some k)
    → SpellsLongest t line_has_ended old new k
punctuator_spelled t line_has_ended old new k read =
    record {
      text = read.0;
      spelled = read.1.it.text;
      spelling = longest_of_punctuator t line_has_ended (rest old) (rest new) k read.1;
    }
