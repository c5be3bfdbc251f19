-- No token behind a simple gap is a hashbang comment.
use Rattle.std.proofs.Common.{◌≡◌, ℕ, Bool, true, false, not, List, [], refl, sym, ◌∙◌, ap}
use Rattle.std.proofs.lemmas.Bool.{eqb-true}
use Rattle.std.specs.List.{list_all}
use Rattle.std.specs.Str.{encode_utf8_all}
use Rattle.js_text.specs.declared.source_type.SourceType.{SourceType}
use Rattle.js_kind.specs.Kinds.{is_identifier_name, is_number_kind}
use Rattle.js_kind.specs.declared.kind.Kind.{Kind}
use Rattle.js_kind.specs.declared.kind.Kind.TheVariants.{HashbangComment}
use Rattle.js_kind.proofs.KindNumbers.{number_injective}
use Rattle.js_kind.proofs.NameKinds.{name_kind-is_identifier_name}
use Rattle.js_grammar.specs.Goals.{ReadsHere}
use Rattle.js_grammar.specs.Goals.ReadsHere.{spelled as spelled_here, recovers}
use Rattle.js_grammar.specs.Name.{decoded}
use Rattle.js_grammar.specs.Punctuators.{Punctuator, punctuators}
use Rattle.js_grammar.specs.Reading.{Reading}
use Rattle.js_grammar.specs.Spelling.{Spelling}
use Rattle.js_grammar.specs.Spelling.Spelling.{name, private_name, punctuator, number, string, template}
use Rattle.js_grammar.specs.Spelling.Spelling.{end_of_source}
use Rattle.js_grammar.specs.Template.{IsTemplatePart}
use Rattle.js_grammar.specs.Template.IsTemplatePart.{no_substitution, head}
use Rattle.js_grammar.proofs.Clean.{none_moved, recovery_reports}
use Rattle.js_grammar.proofs.NumberKinds.{number_kind}
use Rattle.js_grammar.proofs.PunctuatorLemmas.{passes_at}
use Rattle.js_source.specs.Source.{At}
use Rattle.js_reader.specs.Simple.{SpellsSimply}
use Rattle.js_reader.specs.declared.reader.Reader.{Reader}
use Rattle.js_lexer.specs.Lexer.{is_hashbang}

-- a kind of a class to which hashbang comments do not belong
other_class : (p : Kind → Bool) (kind : Kind) → p HashbangComment ≡ false → p kind ≡ true → is_hashbang kind ≡ false
other_class p kind none is = by_flag (is_hashbang kind) refl
  where
    by_flag : (b : Bool) → is_hashbang kind ≡ b → is_hashbang kind ≡ false
    by_flag false e = e
    by_flag true e =
        let same : kind ≡ HashbangComment = number_injective kind HashbangComment (eqb-true _ _ e) in
        absurd (let no : true ≡ false = sym is ∙ ap p same ∙ none in cc)

pub hashbang_is_no_name : is_identifier_name HashbangComment ≡ false
unfolding is_identifier_name
hashbang_is_no_name = refl

hashbang_is_no_number : is_number_kind HashbangComment ≡ false
unfolding is_number_kind
hashbang_is_no_number = refl

abbrev is_other : Punctuator → Bool
is_other p = not (is_hashbang p.kind)

punctuators_are_others : list_all is_other punctuators ≡ true
punctuators_are_others = refl

not_true : (b : Bool) → not b ≡ true → b ≡ false
not_true true e = absurd (cc)
not_true false e = refl

no_template : (xs ys : List ℕ) (kind : Kind) → IsTemplatePart xs ys kind → is_hashbang kind ≡ false
no_template xs ys kind (no_substitution part e) = ap is_hashbang e
no_template xs ys kind (head part e) = ap is_hashbang e

spelled_other : (t : SourceType) (line_has_ended : Bool) (xs ys : List ℕ) (kind : Kind)
    → Spelling t line_has_ended xs ys kind → is_hashbang kind ≡ false
spelled_other t line_has_ended xs ys kind (name is follows kind_is) =
    other_class is_identifier_name kind hashbang_is_no_name
    (ap is_identifier_name kind_is ∙ name_kind-is_identifier_name (encode_utf8_all (decoded xs)))
spelled_other t line_has_ended xs ys kind (private_name inner is follows same kind_is) = ap is_hashbang kind_is
spelled_other t line_has_ended xs ys kind (punctuator p i same allowed kind_is) =
    ap is_hashbang kind_is
    ∙ not_true (is_hashbang p.kind) (passes_at is_other p punctuators i punctuators_are_others)
spelled_other t line_has_ended xs ys kind (number is follows) =
    other_class is_number_kind kind hashbang_is_no_number (number_kind xs kind is).is_number
spelled_other t line_has_ended xs ys kind (string is kind_is) = ap is_hashbang kind_is
spelled_other t line_has_ended xs ys kind (template is) = no_template xs ys kind is
spelled_other t line_has_ended xs ys kind (end_of_source none at_end kind_is) = ap is_hashbang kind_is

-- what is read without a report is spelled
here_other : (t : SourceType) (line_has_ended : Bool) (here : List ℕ) (r : Reading)
    → ReadsHere t line_has_ended here r → r.diagnostics ≡ [] → is_hashbang r.kind ≡ false
here_other t line_has_ended here r (spelled_here xs spelling is) clean =
    spelled_other t line_has_ended xs r.rest r.kind spelling.spelling
here_other t line_has_ended here r (recovers nothing e) clean =
    absurd (recovery_reports t line_has_ended here r nothing e clean)

pub simply_other : (line_has_ended : Bool) (old new : At) (kind : Kind) (r : Reader)
    → SpellsSimply line_has_ended old new kind → is_hashbang kind ≡ false
simply_other line_has_ended old new kind r spells =
    let read = spells r [] in
    ap (λ l. is_hashbang l.kind) read.lexeme_is
    ∙ here_other r.source_type line_has_ended _ read.reading read.here
    (none_moved old.place read.reading.diagnostics (sym read.errors))
