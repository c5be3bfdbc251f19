-- The text of a token that may be read again is the spelling of its kind.
use Rattle.std.proofs.Common.{◌≡◌, ℕ, Bool, true, false, not, ◌==◌, List, [], ◌∷◌, ◌++◌, drop, refl, sym, ◌∙◌, ap}
use Rattle.std.proofs.Common.{subst, Option, None}
use Rattle.std.specs.Prelude.{codes, IfSome}
use Rattle.std.specs.List.{list_all}
use Rattle.std.specs.Str.{bytes_eq}
use Rattle.js_text.specs.Ascii.{number_sign}
use Rattle.js_text.specs.Characters.{begins, from_place}
use Rattle.js_text.specs.declared.source_type.SourceType.{SourceType}
use Rattle.js_kind.specs.Kinds.{is_identifier_name, keywords, kind_text}
use Rattle.js_kind.specs.TokenParts.{TokenParts}
use Rattle.js_kind.specs.declared.kind.Kind.{Kind}
use Rattle.js_kind.specs.declared.kind.Kind.TheVariants.{Eof, HashbangComment, Ident, NoSubstitutionTemplate}
use Rattle.js_kind.specs.declared.kind.Kind.TheVariants.{PrivateIdentifier, Str, TemplateHead, TemplateMiddle}
use Rattle.js_kind.specs.declared.kind.Kind.TheVariants.{TemplateTail, Undetermined}
use Rattle.js_kind.proofs.Members.{name_passes}
use Rattle.js_kind.proofs.NameKinds.{name_kind-is_identifier_name}
use Rattle.js_grammar.specs.Gap.{is_prefix}
use Rattle.js_grammar.specs.Goals.{ReadsHere, ReadsPlainly, GoalReads, next_part}
use Rattle.js_grammar.specs.Goals.ReadsHere.{spelled, recovers}
use Rattle.js_grammar.specs.Goals.ReadsPlainly.{hashbang, behind_gap}
use Rattle.js_grammar.specs.Name.{name_reading, items_reading, private_reading, private_name_of, no_private_name}
use Rattle.js_grammar.specs.Name.{begins_name}
use Rattle.js_grammar.specs.UnicodeEscape.{right_curly_bracket}
use Rattle.js_grammar.specs.Number.{begins_number}
use Rattle.js_grammar.specs.Outcome.{Outcome}
use Rattle.js_grammar.specs.Punctuators.{Punctuator, punctuators, IsIn}
use Rattle.js_grammar.specs.Quoted.{begins_quoted, quoted_reading}
use Rattle.js_grammar.specs.ReLexed.{is_re_lexed, HasSpelling}
use Rattle.js_grammar.specs.Recovery.{recovered, recovered_character, is_control_or_wide}
use Rattle.js_grammar.specs.Reading.{Reading}
use Rattle.js_grammar.specs.Spelling.{Spelling}
use Rattle.js_grammar.specs.Spelling.Spelling.{name, private_name, punctuator, number, string, template}
use Rattle.js_grammar.specs.Spelling.Spelling.{end_of_source}
use Rattle.js_grammar.specs.Template.IsTemplatePart.{no_substitution, head}
use Rattle.js_grammar.specs.declared.goal.Goal.{Goal}
use Rattle.js_grammar.proofs.GoalWays.{Way, ways}
use Rattle.js_grammar.proofs.GoalWays.Way.{plainly, part_on, alone}
use Rattle.js_grammar.proofs.NumberItems.{true_or_false}
use Rattle.js_grammar.proofs.NumberKinds.{number_kind, unmarked_parts}
use Rattle.js_grammar.proofs.NumberSpans.{number_characters}
use Rattle.js_grammar.proofs.PunctuatorLemmas.{passes_at}
use Rattle.js_grammar.proofs.QuotedValues.{quoted_kind_is, part_kind_is}
use Rattle.js_grammar.proofs.Spans.{each_recovery}
use Rattle.std.proofs.Common.{inl, inr}
use Rattle.std.proofs.lemmas.Slice.Eq.{bytes_eq-Decides}

not_true : (b : Bool) → not b ≡ true → b ≡ false
not_true true e = absurd (cc)
not_true false e = refl

-- kinds that are read once
abbrev is_read_once : Kind → Bool
is_read_once kind = not (is_re_lexed kind)

names_are_read_once : list_all is_read_once (Ident ∷ keywords) ≡ true
unfolding is_re_lexed
names_are_read_once = refl

name_is_read_once : (kind : Kind) → is_identifier_name kind ≡ true → is_re_lexed kind ≡ false
name_is_read_once kind is =
    not_true (is_re_lexed kind) (name_passes is_read_once kind names_are_read_once is)

-- the other kinds of what is read, apart from punctuators and numbers
pub record AreReadOnce : Type 0 where
  pub end : is_re_lexed Eof ≡ false
  pub undetermined : is_re_lexed Undetermined ≡ false
  pub hashbang : is_re_lexed HashbangComment ≡ false
  pub private : is_re_lexed PrivateIdentifier ≡ false
  pub string : is_re_lexed Str ≡ false
  pub no_substitution : is_re_lexed NoSubstitutionTemplate ≡ false
  pub head : is_re_lexed TemplateHead ≡ false
  pub middle : is_re_lexed TemplateMiddle ≡ false
  pub tail : is_re_lexed TemplateTail ≡ false

read_once : AreReadOnce
unfolding is_re_lexed
read_once = record {
  end = refl;
  undetermined = refl;
  hashbang = refl;
  private = refl;
  string = refl;
  no_substitution = refl;
  head = refl;
  middle = refl;
  tail = refl;
}

-- a punctuator has the spelling of its kind
abbrev has_own_text : Punctuator → Bool
has_own_text p = bytes_eq (kind_text p.kind) p.text

punctuators_have_own_texts : list_all has_own_text punctuators ≡ true
punctuators_have_own_texts = refl

absent : {A : Type 0} (kind : Kind) → is_re_lexed kind ≡ false → is_re_lexed kind ≡ true → A
absent kind none is = absurd (let no : true ≡ false = sym is ∙ none in cc)

punctuator_text : (p : Punctuator) → IsIn p punctuators → kind_text p.kind ≡ p.text
punctuator_text p i =
    (bytes_eq-Decides (kind_text p.kind) p.text).0 (passes_at has_own_text p punctuators i punctuators_have_own_texts)

-- a spelling of a kind that may be read again is that of its kind
spelled_text : (t : SourceType) (line_has_ended : Bool) (xs ys : List ℕ) (kind : Kind)
    → Spelling t line_has_ended xs ys kind → is_re_lexed kind ≡ true → xs ≡ kind_text kind
spelled_text t line_has_ended xs ys kind (name is follows kind_is) again =
    absent kind (name_is_read_once kind (ap is_identifier_name kind_is ∙ name_kind-is_identifier_name _)) again
spelled_text t line_has_ended xs ys kind (private_name named is follows same kind_is) again =
    absent kind (ap is_re_lexed kind_is ∙ read_once.private) again
spelled_text t line_has_ended xs ys kind (punctuator p i same allowed kind_is) again =
    same ∙ sym (punctuator_text p i) ∙ ap kind_text (sym kind_is)
spelled_text t line_has_ended xs ys kind (number is follows) again =
    absent kind (unmarked_parts kind (number_kind xs kind is).unmarked).1 again
spelled_text t line_has_ended xs ys kind (string is kind_is) again =
    absent kind (ap is_re_lexed kind_is ∙ read_once.string) again
spelled_text t line_has_ended xs ys kind (template (no_substitution part kind_is)) again =
    absent kind (ap is_re_lexed kind_is ∙ read_once.no_substitution) again
spelled_text t line_has_ended xs ys kind (template (head part kind_is)) again =
    absent kind (ap is_re_lexed kind_is ∙ read_once.head) again
spelled_text t line_has_ended xs ys kind (end_of_source none at_end kind_is) again =
    absent kind (ap is_re_lexed kind_is ∙ read_once.end) again

-- what is read to recover is of no such kind
abbrev IsReadOnce : Reading → Type 0
IsReadOnce r = is_re_lexed r.kind ≡ false

private_is_read_once : (here : List ℕ) → is_re_lexed (private_reading here).kind ≡ false
unfolding private_name_of
private_is_read_once here =
    elim (true_or_false (begins_name (drop 1 here)))
    [ inl begun ↦ rw begun read_once.private | inr none ↦ rw none (unnamed (drop 1 here)) ]
  where
    unnamed : (cs : List ℕ) → is_re_lexed (no_private_name here cs).kind ≡ false
    unnamed [] = read_once.undetermined
    unnamed (c ∷ cs) = read_once.end

named_is_read_once : (here : List ℕ) → is_re_lexed (name_reading here).kind ≡ false
unfolding items_reading
named_is_read_once here = name_is_read_once _ (name_kind-is_identifier_name _)

quoted_is_read_once : (here : List ℕ) → begins begins_quoted here ≡ true
    → is_re_lexed (quoted_reading here).kind ≡ false
quoted_is_read_once [] begun = absurd (cc)
quoted_is_read_once (c ∷ cs) begun =
    quoted_kind_is (λ kind. is_re_lexed kind ≡ false) read_once.string read_once.undetermined
    read_once.no_substitution read_once.head c cs

recovered_once : (here : List ℕ) → IfSome (recovered here) IsReadOnce
recovered_once here =
    each_recovery IsReadOnce (is_prefix (codes "/*") here) _ _ (λ _. read_once.end)
    (each_recovery IsReadOnce (begins_name here) _ _
    (λ _. named_is_read_once here)
    (each_recovery IsReadOnce (begins (λ c. c == number_sign) here) _ _
    (λ _. private_is_read_once here)
    (each_recovery IsReadOnce (begins_number here) _ _
    (λ begun. (unmarked_parts _ (number_characters here begun).unmarked).1)
    (each_recovery IsReadOnce (begins begins_quoted here) _ _ (λ begun. quoted_is_read_once here begun)
    (each_recovery IsReadOnce (begins (λ c. c == 0xFFFD) here) _ _ (λ _. read_once.end) (character here))))))
  where
    character : (xs : List ℕ) → IfSome (recovered_character xs) IsReadOnce
    character [] = tt
    character (c ∷ cs) = each_recovery IsReadOnce (is_control_or_wide c) _ None (λ _. read_once.undetermined) tt

here_text : (t : SourceType) (line_has_ended : Bool) (here : List ℕ) (r : Reading)
    → ReadsHere t line_has_ended here r → is_re_lexed r.kind ≡ true → here ≡ kind_text r.kind ++ r.rest
here_text t line_has_ended here r (spelled xs spelling is) again =
    spelling.here ∙ ap (λ us. us ++ r.rest) (spelled_text t line_has_ended xs r.rest r.kind spelling.spelling again)
here_text t line_has_ended here r (recovers nothing e) again =
    absent r.kind (subst (λ found. IfSome found IsReadOnce) e (recovered_once here)) again

plainly_spelled : (text : List ℕ) (t : SourceType) (goal : Goal) (before : Option TokenParts) (place : ℕ) (o : Outcome)
    → ReadsPlainly text t goal before place o → HasSpelling text o.token
plainly_spelled text t goal before place o (hashbang begun read) again =
    absent o.token.kind (ap is_re_lexed read.is_hashbang.kind ∙ read_once.hashbang) again
plainly_spelled text t goal before place o (behind_gap begun read) again =
    let kind : o.token.kind ≡ read.reading.kind = ap (λ x. x.token.kind) read.outcome_is in
    here_text t read.line_has_ended (from_place text o.token.start) read.reading read.here
    (ap is_re_lexed (sym kind) ∙ again)
    ∙ ap (λ k. kind_text k ++ read.reading.rest) (sym kind)
    ∙ ap (λ left. kind_text o.token.kind ++ left) read.rest

part_is_read_once : (opening : ℕ) (behind : List ℕ) → is_re_lexed (next_part (opening ∷ behind)).kind ≡ false
part_is_read_once opening behind =
    part_kind_is (λ kind. is_re_lexed kind ≡ false) TemplateMiddle TemplateTail read_once.middle read_once.tail
    read_once.undetermined opening behind

-- A token that was read and may be read again has the spelling of its kind.
pub goal_reads_spelling : (text : List ℕ) (t : SourceType) (goal : Goal) (before : Option TokenParts) (place : ℕ)
    (o : Outcome) → GoalReads text t goal before place o → HasSpelling text o.token
goal_reads_spelling text t goal before place o reads = by_way (ways text t goal before place o reads)
  where
    by_way : Way text t before place o → HasSpelling text o.token
    by_way (plainly goal reads) = plainly_spelled text t goal before place o reads
    by_way (part_on start reads) = λ again.
        absent o.token.kind
        (ap is_re_lexed (ap (λ x. x.token.kind) reads.outcome_is) ∙ ap (λ h. is_re_lexed (next_part h).kind) reads.here
        ∙ part_is_read_once right_curly_bracket reads.behind) again
    by_way (alone took) = took.spelling
