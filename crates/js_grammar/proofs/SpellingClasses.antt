-- What a text begins with tells which row of the grammar its spellings are of.
use Rattle.std.proofs.Common.{◌≡◌, ◌≢◌, ℕ, ◌≤◌, Bool, true, false, List, [], ◌∷◌, ◌++◌, ◌==◌, length, refl, sym, ◌∙◌}
use Rattle.std.proofs.Common.{ap}
use Rattle.std.proofs.Common.{subst, arith}
use Rattle.std.proofs.lemmas.List.{append-nil}
use Rattle.std.specs.Str.{encode_utf8_all}
use Rattle.js_text.specs.Ascii.{number_sign}
use Rattle.js_text.specs.Characters.{begins}
use Rattle.js_text.specs.declared.source_type.SourceType.{SourceType}
use Rattle.js_kind.specs.Keywords.{name_kind}
use Rattle.js_kind.specs.declared.kind.Kind.{Kind}
use Rattle.js_kind.specs.declared.kind.Kind.TheVariants.{PrivateIdentifier}
use Rattle.js_grammar.specs.Name.{IsName, begins_name, continues_name, decoded}
use Rattle.js_grammar.specs.Number.{IsNumber, begins_number, excluded_after}
use Rattle.js_grammar.specs.Punctuators.{LongestPunctuator, NoPunctuator}
use Rattle.js_grammar.specs.Spelling.{Spelling, LongestSpelling, NothingSpelled}
use Rattle.js_grammar.specs.Spelling.Spelling.{name, private_name, punctuator, number, string, template}
use Rattle.js_grammar.specs.Spelling.Spelling.{end_of_source}
use Rattle.js_grammar.specs.Quoted.{begins_quoted}
use Rattle.js_grammar.specs.StringItems.{IsString, is_quote}
use Rattle.js_grammar.specs.Template.{IsTemplatePart}
use Rattle.js_kind.specs.declared.kind.Kind.TheVariants.{Str}
use Rattle.js_text.specs.Ascii.{grave_accent}
use Rattle.js_grammar.proofs.StringBegins.{quoted_begins_no_named, quoted_begins_no_number}
use Rattle.js_grammar.proofs.StringBegins.{quoted_begins_no_punctuator, string_is_quoted, string_begins_quoted}
use Rattle.js_grammar.proofs.StringBegins.{template_is_quoted, template_begins_quoted, quote_begins_no_template}
use Rattle.js_grammar.proofs.NumberBegins.{number_begins}
use Rattle.js_grammar.proofs.PunctuatorLemmas.{longest_at, stands_there}
use Rattle.js_grammar.specs.Spelling.{begins_named}
use Rattle.js_grammar.proofs.Starts.{name_is_named, private_is_named, private_begins_no_name, name_begins}
use Rattle.js_grammar.proofs.Starts.{named_begins_no_number, named_begins_no_punctuator, number_begins_no_punctuator}

-- a name is spelled
pub record SpelledName (xs ys : List ℕ) (kind : Kind) : Type 0 where
  pub name : IsName xs
  pub follows : continues_name ys ≡ false
  pub kind_is : kind ≡ name_kind (encode_utf8_all (decoded xs))

-- a private name is spelled
pub record SpelledPrivateName (xs ys : List ℕ) (kind : Kind) : Type 0 where
  pub named : List ℕ
  pub name : IsName named
  pub follows : continues_name ys ≡ false
  pub same : xs ≡ number_sign ∷ named
  pub kind_is : kind ≡ PrivateIdentifier

-- a number is spelled
pub record SpelledNumber (xs ys : List ℕ) (kind : Kind) : Type 0 where
  pub number : IsNumber xs kind
  pub follows : excluded_after kind ys ≡ false

-- a private name stands at the beginning of the text
private_here : (here us vs named : List ℕ) → here ≡ us ++ vs → us ≡ number_sign ∷ named
    → here ≡ number_sign ∷ (named ++ vs)
private_here here us vs named e same = e ∙ ap (λ xs. xs ++ vs) same

-- what begins a name or a private name is at no end of a source
not_at_end : (here us vs : List ℕ) → here ≡ us ++ vs → us ≡ [] → vs ≡ [] → here ≡ []
not_at_end here us vs e empty end = e ∙ ap (λ xs. xs ++ vs) empty ∙ end

begins_none : (here : List ℕ) (p : List ℕ → Bool) → p [] ≡ false → p here ≡ true → here ≡ [] → ⊥
begins_none here p none some e = let no : true ≡ false = sym some ∙ ap p e ∙ none in cc

-- where a string or a template stands, nothing else begins
quoted_is_unnamed : {A : Type 0} (here us vs : List ℕ) → here ≡ us ++ vs → begins begins_quoted (us ++ vs) ≡ true
    → begins begins_named here ≡ true → A
quoted_is_unnamed here us vs e quoted named =
    absurd
    (let no : true ≡ false = sym named ∙ ap (begins begins_named) e ∙ quoted_begins_no_named (us ++ vs) quoted in cc)

quoted_is_no_number : {A : Type 0} (here us vs : List ℕ) → here ≡ us ++ vs → begins begins_quoted (us ++ vs) ≡ true
    → begins_number here ≡ true → A
quoted_is_no_number here us vs e quoted begun =
    absurd (let no : true ≡ false = sym begun ∙ ap begins_number e ∙ quoted_begins_no_number (us ++ vs) quoted in cc)

-- Where a name begins, only a name is spelled.
pub only_name : (t : SourceType) (line_has_ended : Bool) (here us vs : List ℕ) (kind : Kind) → begins_name here ≡ true
    → here ≡ us ++ vs → Spelling t line_has_ended us vs kind → SpelledName us vs kind
only_name t line_has_ended here us vs kind begun e (name is follows kind_is) =
    record { name = is; follows = follows; kind_is = kind_is }
only_name t line_has_ended here us vs kind begun e (private_name named is follows same kind_is) =
    let no : true ≡ false = sym begun ∙ ap begins_name (private_here here us vs named e same)
    ∙ private_begins_no_name (named ++ vs) in cc
only_name t line_has_ended here us vs kind begun e (punctuator p i same allowed kind_is) =
    absurd
    (stands_there t line_has_ended here vs p i (e ∙ ap (λ xs. xs ++ vs) same) allowed
    (named_begins_no_punctuator t line_has_ended here (name_is_named here begun)))
only_name t line_has_ended here us vs kind begun e (number is follows) =
    let no : true ≡ false = sym (ap begins_number e ∙ number_begins us vs kind is)
    ∙ named_begins_no_number here (name_is_named here begun) in cc
only_name t line_has_ended here us vs kind begun e (string is kind_is) =
    quoted_is_unnamed here us vs e (string_begins_quoted us vs is) (name_is_named here begun)
only_name t line_has_ended here us vs kind begun e (template is) =
    quoted_is_unnamed here us vs e (template_begins_quoted us vs kind is) (name_is_named here begun)
only_name t line_has_ended here us vs kind begun e (end_of_source empty end kind_is) =
    absurd (begins_none here begins_name refl begun (not_at_end here us vs e empty end))

-- Where a `#` begins, only a private name is spelled.
pub only_private_name : (t : SourceType) (line_has_ended : Bool) (cs us vs : List ℕ) (kind : Kind)
    → number_sign ∷ cs ≡ us ++ vs → Spelling t line_has_ended us vs kind → SpelledPrivateName us vs kind
only_private_name t line_has_ended cs us vs kind e (name is follows kind_is) =
    let no : true ≡ false = sym (ap begins_name e ∙ name_begins us vs is) ∙ private_begins_no_name cs in cc
only_private_name t line_has_ended cs us vs kind e (private_name named is follows same kind_is) =
    record { named = named; name = is; follows = follows; same = same; kind_is = kind_is }
only_private_name t line_has_ended cs us vs kind e (punctuator p i same allowed kind_is) =
    absurd
    (stands_there t line_has_ended (number_sign ∷ cs) vs p i (e ∙ ap (λ xs. xs ++ vs) same) allowed
    (named_begins_no_punctuator t line_has_ended (number_sign ∷ cs) (private_is_named cs)))
only_private_name t line_has_ended cs us vs kind e (number is follows) =
    let no : true ≡ false = sym (ap begins_number e ∙ number_begins us vs kind is)
    ∙ named_begins_no_number (number_sign ∷ cs) (private_is_named cs) in cc
only_private_name t line_has_ended cs us vs kind e (string is kind_is) =
    quoted_is_unnamed (number_sign ∷ cs) us vs e (string_begins_quoted us vs is) (private_is_named cs)
only_private_name t line_has_ended cs us vs kind e (template is) =
    quoted_is_unnamed (number_sign ∷ cs) us vs e (template_begins_quoted us vs kind is) (private_is_named cs)
only_private_name t line_has_ended cs us vs kind e (end_of_source empty end kind_is) =
    let no : number_sign ∷ cs ≡ [] = not_at_end (number_sign ∷ cs) us vs e empty end in cc

named_is_no_number : (here : List ℕ) → begins begins_named here ≡ true → begins_number here ≡ true → ⊥
named_is_no_number here named begun = let no : true ≡ false = sym begun ∙ named_begins_no_number here named in cc

-- Where a number begins, only a number is spelled.
pub only_number : (t : SourceType) (line_has_ended : Bool) (here us vs : List ℕ) (kind : Kind)
    → begins_number here ≡ true → here ≡ us ++ vs → Spelling t line_has_ended us vs kind → SpelledNumber us vs kind
only_number t line_has_ended here us vs kind begun e (name is follows kind_is) =
    absurd (named_is_no_number here (name_is_named here (ap begins_name e ∙ name_begins us vs is)) begun)
only_number t line_has_ended here us vs kind begun e (private_name named is follows same kind_is) =
    absurd
    (named_is_no_number here
    (ap (begins begins_named) (private_here here us vs named e same) ∙ private_is_named (named ++ vs)) begun)
only_number t line_has_ended here us vs kind begun e (punctuator p i same allowed kind_is) =
    absurd
    (stands_there t line_has_ended here vs p i (e ∙ ap (λ xs. xs ++ vs) same) allowed
    (number_begins_no_punctuator t line_has_ended here begun))
only_number t line_has_ended here us vs kind begun e (number is follows) = record { number = is; follows = follows }
only_number t line_has_ended here us vs kind begun e (string is kind_is) =
    quoted_is_no_number here us vs e (string_begins_quoted us vs is) begun
only_number t line_has_ended here us vs kind begun e (template is) =
    quoted_is_no_number here us vs e (template_begins_quoted us vs kind is) begun
only_number t line_has_ended here us vs kind begun e (end_of_source empty end kind_is) =
    absurd (begins_none here begins_number refl begun (not_at_end here us vs e empty end))

-- A string or a template is spelled.
pub data SpelledQuoted (xs ys : List ℕ) (kind : Kind) : Type 0 where
  a_string : IsString xs ys → kind ≡ Str → SpelledQuoted xs ys kind
  a_template : IsTemplatePart xs ys kind → SpelledQuoted xs ys kind

-- Where a string or a template begins, only such a one is spelled.
pub only_quoted : (t : SourceType) (line_has_ended : Bool) (here us vs : List ℕ) (kind : Kind)
    → begins begins_quoted here ≡ true → here ≡ us ++ vs → Spelling t line_has_ended us vs kind
    → SpelledQuoted us vs kind
only_quoted t line_has_ended here us vs kind begun e (name is follows kind_is) =
    quoted_is_unnamed (us ++ vs) here [] (sym e ∙ sym (append-nil here))
    (ap (begins begins_quoted) (append-nil here) ∙ begun) (name_is_named (us ++ vs) (name_begins us vs is))
only_quoted t line_has_ended here us vs kind begun e (private_name named is follows same kind_is) =
    quoted_is_unnamed (number_sign ∷ (named ++ vs)) here []
    (sym (private_here here us vs named e same) ∙ sym (append-nil here))
    (ap (begins begins_quoted) (append-nil here) ∙ begun) (private_is_named (named ++ vs))
only_quoted t line_has_ended here us vs kind begun e (punctuator p i same allowed kind_is) =
    absurd
    (stands_there t line_has_ended here vs p i (e ∙ ap (λ xs. xs ++ vs) same) allowed
    (quoted_begins_no_punctuator t line_has_ended here begun))
only_quoted t line_has_ended here us vs kind begun e (number is follows) =
    quoted_is_no_number (us ++ vs) here [] (sym e ∙ sym (append-nil here))
    (ap (begins begins_quoted) (append-nil here) ∙ begun) (number_begins us vs kind is)
only_quoted t line_has_ended here us vs kind begun e (string is kind_is) = a_string is kind_is
only_quoted t line_has_ended here us vs kind begun e (template is) = a_template is
only_quoted t line_has_ended here us vs kind begun e (end_of_source empty end kind_is) =
    absurd (begins_none here (begins begins_quoted) refl begun (not_at_end here us vs e empty end))

-- where a quote begins, that is a string; else a template
pub quoted_string : (here us vs : List ℕ) (kind : Kind) → begins is_quote here ≡ true → here ≡ us ++ vs
    → SpelledQuoted us vs kind → IsString us vs × (kind ≡ Str)
quoted_string here us vs kind begun e (a_string is kind_is) = (is, kind_is)
quoted_string here us vs kind begun e (a_template is) =
    absurd
    (let no : true ≡ false = sym (template_is_quoted us vs kind is) ∙ ap (begins (λ c. c == grave_accent)) (sym e)
    ∙ quote_begins_no_template here begun in cc)

pub quoted_template : (here us vs : List ℕ) (kind : Kind) → begins is_quote here ≡ false → here ≡ us ++ vs
    → SpelledQuoted us vs kind → IsTemplatePart us vs kind
quoted_template here us vs kind none e (a_string is kind_is) =
    absurd (let no : true ≡ false = sym (string_is_quoted us vs is) ∙ ap (begins is_quote) (sym e) ∙ none in cc)
quoted_template here us vs kind none e (a_template is) = is

-- where a punctuator stands, no name, no private name, no number, no string and no template begins
begins_no : (b : Bool) → (b ≡ true → ⊥) → b ≡ false
begins_no true refuted = absurd (refuted refl)
begins_no false refuted = refl

pub punctuator_begins_no_named : (t : SourceType) (line_has_ended : Bool) (text rest : List ℕ) (k : Kind)
    → LongestPunctuator t line_has_ended text rest k → begins begins_named text ≡ false
punctuator_begins_no_named t line_has_ended text rest k l =
    begins_no (begins begins_named text)
    (λ named. stands_there t line_has_ended text rest l.it l.in_table l.here l.allowed
    (named_begins_no_punctuator t line_has_ended text named))

pub punctuator_begins_no_number : (t : SourceType) (line_has_ended : Bool) (text rest : List ℕ) (k : Kind)
    → LongestPunctuator t line_has_ended text rest k → begins_number text ≡ false
punctuator_begins_no_number t line_has_ended text rest k l =
    begins_no (begins_number text)
    (λ begun. stands_there t line_has_ended text rest l.it l.in_table l.here l.allowed
    (number_begins_no_punctuator t line_has_ended text begun))

pub punctuator_begins_no_quoted : (t : SourceType) (line_has_ended : Bool) (text rest : List ℕ) (k : Kind)
    → LongestPunctuator t line_has_ended text rest k → begins begins_quoted text ≡ false
punctuator_begins_no_quoted t line_has_ended text rest k l =
    begins_no (begins begins_quoted text)
    (λ begun. stands_there t line_has_ended text rest l.it l.in_table l.here l.allowed
    (quoted_begins_no_punctuator t line_has_ended text begun))

-- the longest punctuator of a text is its longest spelling
pub longest_of_punctuator : (t : SourceType) (line_has_ended : Bool) (text rest : List ℕ) (k : Kind)
    → (l : LongestPunctuator t line_has_ended text rest k)
    → LongestSpelling t line_has_ended text l.it.text rest k
longest_of_punctuator t line_has_ended text rest k l = record {
  here = l.here;
  spelling = punctuator l.it l.in_table refl l.allowed l.kind;
  longest = λ us vs j e s. others us vs j e s;
}
  where
    no_named : (xs : List ℕ) → text ≡ xs → begins begins_named xs ≡ true → ⊥
    no_named xs e named =
        let no : true ≡ false = sym named ∙ ap (begins begins_named) (sym e)
        ∙ punctuator_begins_no_named t line_has_ended text rest k l in cc

    no_quoted : {A : Type 0} (us vs : List ℕ) → text ≡ us ++ vs → begins begins_quoted (us ++ vs) ≡ true → A
    no_quoted us vs e quoted =
        absurd
        (let no : true ≡ false = sym quoted ∙ ap (begins begins_quoted) (sym e)
        ∙ punctuator_begins_no_quoted t line_has_ended text rest k l in cc)

    others : (us vs : List ℕ) (j : Kind) → text ≡ us ++ vs → Spelling t line_has_ended us vs j
        → length us ≤ length l.it.text
    others us vs j e (name is follows kind) =
        absurd (no_named (us ++ vs) e (name_is_named (us ++ vs) (name_begins us vs is)))
    others us vs j e (private_name named is follows same kind) =
        absurd (no_named (number_sign ∷ (named ++ vs)) (private_here text us vs named e same)
        (private_is_named (named ++ vs)))
    others us vs j e (punctuator p i same allowed kind) =
        subst (λ xs. length xs ≤ length l.it.text) (sym same)
        (longest_at t line_has_ended text rest k l p vs i (e ∙ ap (λ xs. xs ++ vs) same) allowed)
    others us vs j e (number is follows) =
        let no : true ≡ false = sym (number_begins us vs j is) ∙ ap begins_number (sym e)
        ∙ punctuator_begins_no_number t line_has_ended text rest k l in cc
    others us vs j e (string is kind) = no_quoted us vs e (string_begins_quoted us vs is)
    others us vs j e (template is) = no_quoted us vs e (template_begins_quoted us vs j is)
    others us vs j e (end_of_source none end kind) = subst (λ xs. length xs ≤ length l.it.text) (sym none) (omega arith)

-- where no name, no private name, no number, no string, no template and no punctuator begins, and the text is not at
-- its end, nothing is spelled
pub nothing_spelled : (t : SourceType) (line_has_ended : Bool) (here : List ℕ) → here ≢ []
    → begins begins_named here ≡ false → begins_number here ≡ false → begins begins_quoted here ≡ false
    → NoPunctuator t line_has_ended here
    → NothingSpelled t line_has_ended here
nothing_spelled t line_has_ended here some no_named no_number no_quoted none us vs j e (name is follows kind) =
    let no : true ≡ false = sym (name_is_named (us ++ vs) (name_begins us vs is)) ∙ ap (begins begins_named) (sym e)
    ∙ no_named in cc
nothing_spelled t line_has_ended here some no_named no_number no_quoted none us vs j e
    (private_name named is follows same kind) =
    let no : true ≡ false = sym (private_is_named (named ++ vs))
    ∙ ap (begins begins_named) (sym (private_here here us vs named e same)) ∙ no_named in cc
nothing_spelled t line_has_ended here some no_named no_number no_quoted none us vs j e
    (punctuator p i same allowed kind) =
    stands_there t line_has_ended here vs p i (e ∙ ap (λ xs. xs ++ vs) same) allowed none
nothing_spelled t line_has_ended here some no_named no_number no_quoted none us vs j e (number is follows) =
    let no : true ≡ false = sym (number_begins us vs j is) ∙ ap begins_number (sym e) ∙ no_number in cc
nothing_spelled t line_has_ended here some no_named no_number no_quoted none us vs j e (string is kind) =
    let no : true ≡ false = sym (string_begins_quoted us vs is) ∙ ap (begins begins_quoted) (sym e) ∙ no_quoted in cc
nothing_spelled t line_has_ended here some no_named no_number no_quoted none us vs j e (template is) =
    let no : true ≡ false = sym (template_begins_quoted us vs j is) ∙ ap (begins begins_quoted) (sym e)
    ∙ no_quoted in cc
nothing_spelled t line_has_ended here some no_named no_number no_quoted none us vs j e (end_of_source empty end kind) =
    some (not_at_end here us vs e empty end)
