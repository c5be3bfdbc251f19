-- What is read where a name or a private name begins: it is the longest spelling, or nothing is spelled.
use Rattle.std.proofs.Common.{◌≡◌, ◌≢◌, ℕ, ◌+◌, ◌≤◌, Bool, true, false, List, [], ◌∷◌, ◌++◌, ◌==◌, length}
use Rattle.std.proofs.Common.{refl, sym, ◌∙◌, ap, subst, arith, inl, inr, Some}
use Rattle.std.specs.Prelude.{codes}
use Rattle.std.specs.Char.{encode_utf8}
use Rattle.std.proofs.lemmas.Bool.{eqb-true}
use Rattle.unicode_ident.proofs.Computing.{unicode_ident}
use Rattle.std.specs.Str.{encode_utf8_all}
use Rattle.js_text.specs.Ascii.{number_sign}
use Rattle.js_text.specs.Characters.{is_identifier_start}
use Rattle.js_text.specs.declared.diagnostic.Diagnostic.{Diagnostic}
use Rattle.js_text.specs.declared.source_type.SourceType.{SourceType}
use Rattle.js_kind.specs.Keywords.{name_kind}
use Rattle.js_kind.specs.Kinds.{is_identifier_name, is_number_kind}
use Rattle.js_kind.specs.declared.kind.Kind.{Kind}
use Rattle.js_kind.specs.declared.kind.Kind.TheVariants.{PrivateIdentifier}
use Rattle.js_kind.proofs.NameKinds.{name_kind-is_identifier_name, identifier_name-is_no_number}
use Rattle.js_grammar.specs.Gap.{is_prefix}
use Rattle.js_grammar.specs.Goals.{ReadsHere}
use Rattle.js_grammar.specs.Goals.ReadsHere.{spelled, recovers}
use Rattle.js_grammar.specs.Name.{name_items, items_report, name_reading, private_name_of, private_reading}
use Rattle.js_grammar.specs.Name.{begins_name}
use Rattle.js_grammar.specs.Name.{decoded}
use Rattle.js_grammar.specs.Recovery.{recovered}
use Rattle.js_grammar.specs.Reading.{Reading}
use Rattle.js_grammar.specs.Spelling.{LongestSpelling, NothingSpelled, Spelling}
use Rattle.js_grammar.specs.TokenText.{is_private_name}
use Rattle.js_grammar.specs.Spelling.Spelling.{name, private_name}
use Rattle.js_grammar.proofs.NameLaws.{BeginsWithName, good_name, name_is_read, clean_is_name, one_name}
use Rattle.js_grammar.proofs.NameLaws.{good_private_name, private_name_is_read, name_report}
use Rattle.js_grammar.proofs.Flags.{name_escape, private_escape}
use Rattle.js_grammar.proofs.NumberItems.{true_or_false}
use Rattle.js_grammar.proofs.SpellingClasses.{only_name, only_private_name}
use Rattle.js_grammar.proofs.Starts.{name_begins, private_begins_no_name}

-- the kind of the name whose characters these are
abbrev kind_of_name : List ℕ → Kind
kind_of_name cs = name_kind (encode_utf8_all cs)

-- the name that a text begins with is its longest spelling
pub longest_of_name : (t : SourceType) (line_has_ended : Bool) (here xs ys : List ℕ) → BeginsWithName here xs ys
    → LongestSpelling t line_has_ended here xs ys (kind_of_name (decoded xs))
longest_of_name t line_has_ended here xs ys b = record {
  here = b.here;
  spelling = name b.name b.follows refl;
  longest = λ us vs j e s. others us vs j e s;
}
  where
    others : (us vs : List ℕ) (j : Kind) → here ≡ us ++ vs → Spelling t line_has_ended us vs j → length us ≤ length xs
    others us vs j e s =
        let begun : begins_name here ≡ true = ap begins_name b.here ∙ name_begins xs ys b.name in
        let other = only_name t line_has_ended here us vs j begun e s in
        let same =
        one_name here xs ys us vs b (record { here = e; name = other.name; follows = other.follows }) in
        omega (arith, ap length same.characters)

name_flags : (cs : List ℕ)
    → (is_identifier_name (kind_of_name cs) ≡ true) × (is_number_kind (kind_of_name cs) ≡ false)
name_flags cs =
    let is = name_kind-is_identifier_name (encode_utf8_all cs) in
    (is, identifier_name-is_no_number (kind_of_name cs) is)

reads_good_name : (t : SourceType) (line_has_ended : Bool) (here xs ys : List ℕ) → BeginsWithName here xs ys
    → ReadsHere t line_has_ended here (good_name xs ys)
reads_good_name t line_has_ended here xs ys b =
    let flags = name_flags (decoded xs) in
    spelled xs (longest_of_name t line_has_ended here xs ys b)
    (rw (name_escape (kind_of_name (decoded xs)) xs flags.0, flags.0, flags.1) refl)

slash_begins_no_name : begins_name (47 ∷ []) ≡ false
unfolding is_identifier_start unicode_ident
slash_begins_no_name = refl

name_begins_no_comment : (here : List ℕ) → begins_name here ≡ true → is_prefix (codes "/*") here ≡ false
name_begins_no_comment [] begun = absurd (cc)
name_begins_no_comment (c ∷ cs) begun =
    elim (true_or_false (c == 47)) [
      | inl is ↦ (
          let no : true ≡ false =
          sym begun ∙ ap (λ d. begins_name (d ∷ [])) (eqb-true c 47 is) ∙ slash_begins_no_name in
          absurd (cc))
      | inr other ↦ rw other refl
    ]

name_is_recovered : (here : List ℕ) → begins_name here ≡ true → recovered here ≡ Some (name_reading here)
name_is_recovered here begun = rw (name_begins_no_comment here begun, begun) refl

faulty_name_spells_nothing : (t : SourceType) (line_has_ended : Bool) (here : List ℕ)
    → begins_name here ≡ true → (name_reading here).diagnostics ≢ [] → NothingSpelled t line_has_ended here
faulty_name_spells_nothing t line_has_ended here begun faults us vs kind e s =
    let is = only_name t line_has_ended here us vs kind begun e s in
    faults (ap (λ xs. (name_reading xs).diagnostics) e
    ∙ ap (λ (r : Reading). r.diagnostics) (name_is_read us vs is.name is.follows))

-- What is read of a name is what is read where it begins.
pub name_reads_here : (t : SourceType) (line_has_ended : Bool) (here : List ℕ) → begins_name here ≡ true
    → ReadsHere t line_has_ended here (name_reading here)
name_reads_here t line_has_ended here begun = by_faults (name_reading here).diagnostics refl
  where
    by_faults : (faults : List Diagnostic) → (name_reading here).diagnostics ≡ faults
        → ReadsHere t line_has_ended here (name_reading here)
    by_faults [] e =
        let found = clean_is_name 0 here begun (sym (name_report here) ∙ e) in
        let b = found.1 in
        let rest = (name_reading here).rest in
        let same : name_reading here ≡ good_name found.0 rest =
        ap name_reading b.here ∙ name_is_read found.0 rest b.name b.follows in
        subst (ReadsHere t line_has_ended here) (sym same) (reads_good_name t line_has_ended here found.0 rest b)
    by_faults (d ∷ ds) e =
        recovers
        (faulty_name_spells_nothing t line_has_ended here begun (λ none. let no : d ∷ ds ≡ [] = sym e ∙ none in cc))
        (name_is_recovered here begun)

-- and so where nothing is spelled, it reports something
pub faulty_name_reports : (t : SourceType) (line_has_ended : Bool) (here : List ℕ)
    → begins_name here ≡ true → NothingSpelled t line_has_ended here → (name_reading here).diagnostics ≢ []
faulty_name_reports t line_has_ended here begun nothing e =
    let found = clean_is_name 0 here begun (sym (name_report here) ∙ e) in
    nothing found.0 (name_reading here).rest (kind_of_name (decoded found.0)) found.1.here
    (name found.1.name found.1.follows refl)

private_flags : (is_identifier_name PrivateIdentifier ≡ false) × (is_private_name PrivateIdentifier ≡ true)
    × (is_number_kind PrivateIdentifier ≡ false)
unfolding is_identifier_name is_private_name is_number_kind
private_flags = (refl, refl, refl)

-- the name that is behind a `#` is a private name
longest_of_private_name : (t : SourceType) (line_has_ended : Bool) (cs xs ys : List ℕ) → BeginsWithName cs xs ys
    → LongestSpelling t line_has_ended (number_sign ∷ cs) (number_sign ∷ xs) ys PrivateIdentifier
longest_of_private_name t line_has_ended cs xs ys b = record {
  here = ap (λ t. number_sign ∷ t) b.here;
  spelling = private_name xs b.name b.follows refl refl;
  longest = λ us vs j e s. others us vs j e s;
}
  where
    others : (us vs : List ℕ) (j : Kind) → number_sign ∷ cs ≡ us ++ vs → Spelling t line_has_ended us vs j
        → length us ≤ length (number_sign ∷ xs)
    others us vs j e s =
        let other = only_private_name t line_has_ended cs us vs j e s in
        let behind : cs ≡ other.named ++ vs =
        let both : number_sign ∷ cs ≡ number_sign ∷ (other.named ++ vs) = e ∙ ap (λ zs. zs ++ vs) other.same in cc in
        let same =
        one_name cs xs ys other.named vs b (record { here = behind; name = other.name; follows = other.follows }) in
        omega (arith, ap length other.same, ap length same.characters)

pub sign_size : (xs : List ℕ) → length (encode_utf8_all (number_sign ∷ xs)) ≡ 1 + length (encode_utf8_all xs)
unfolding encode_utf8
sign_size xs = omega arith

reads_good_private_name : (t : SourceType) (line_has_ended : Bool) (cs xs ys : List ℕ) → BeginsWithName cs xs ys
    → ReadsHere t line_has_ended (number_sign ∷ cs) (good_private_name xs ys)
reads_good_private_name t line_has_ended cs xs ys b =
    spelled (number_sign ∷ xs) (longest_of_private_name t line_has_ended cs xs ys b)
    (rw (private_escape (number_sign ∷ xs), private_flags.0, private_flags.1, private_flags.2, sign_size xs) refl)

private_is_recovered : (cs : List ℕ) → recovered (number_sign ∷ cs) ≡ Some (private_reading (number_sign ∷ cs))
private_is_recovered cs = rw (private_begins_no_name cs) refl

-- behind a `#` nothing but a name without a fault is spelled
faulty_private_spells_nothing : (t : SourceType) (line_has_ended : Bool) (cs : List ℕ)
    → (private_reading (number_sign ∷ cs)).diagnostics ≢ [] → NothingSpelled t line_has_ended (number_sign ∷ cs)
faulty_private_spells_nothing t line_has_ended cs faults us vs kind e s =
    let is = only_private_name t line_has_ended cs us vs kind e s in
    let behind : cs ≡ is.named ++ vs =
    let both : number_sign ∷ cs ≡ number_sign ∷ (is.named ++ vs) = e ∙ ap (λ zs. zs ++ vs) is.same in cc in
    let begun : begins_name (is.named ++ vs) ≡ true = name_begins is.named vs is.name in
    let read : private_reading (number_sign ∷ (is.named ++ vs)) ≡ good_private_name is.named vs =
    rw begun (private_name_is_read is.named vs is.name is.follows) in
    faults (ap (λ xs. (private_reading (number_sign ∷ xs)).diagnostics) behind
    ∙ ap (λ (r : Reading). r.diagnostics) read)

recovered_private : (t : SourceType) (line_has_ended : Bool) (cs : List ℕ)
    → (private_reading (number_sign ∷ cs)).diagnostics ≢ []
    → ReadsHere t line_has_ended (number_sign ∷ cs) (private_reading (number_sign ∷ cs))
recovered_private t line_has_ended cs faults =
    recovers (faulty_private_spells_nothing t line_has_ended cs faults) (private_is_recovered cs)

unnamed_reports : (cs : List ℕ) → begins_name cs ≡ false → (private_reading (number_sign ∷ cs)).diagnostics ≢ []
unnamed_reports [] e f = cc
unnamed_reports (c ∷ cs) e f = let no = rw e at f in cc

-- where a name is behind a `#`, what is reported is what is reported of its items
pub private_report : (cs : List ℕ) → begins_name cs ≡ true
    → (private_reading (number_sign ∷ cs)).diagnostics ≡ items_report 1 (name_items is_identifier_start cs)
unfolding private_name_of
private_report cs begun = rw begun refl

-- What is read of a `#` and what follows it is what is read where it stands.
pub private_reads_here : (t : SourceType) (line_has_ended : Bool) (cs : List ℕ)
    → ReadsHere t line_has_ended (number_sign ∷ cs) (private_reading (number_sign ∷ cs))
private_reads_here t line_has_ended cs =
    elim (true_or_false (begins_name cs)) [
      | inl begun ↦ by_faults begun (items_report 1 (name_items is_identifier_start cs)) refl
      | inr none ↦ recovered_private t line_has_ended cs (unnamed_reports cs none)
    ]
  where
    by_faults : begins_name cs ≡ true → (faults : List Diagnostic)
        → items_report 1 (name_items is_identifier_start cs) ≡ faults
        → ReadsHere t line_has_ended (number_sign ∷ cs) (private_reading (number_sign ∷ cs))
    by_faults begun [] e =
        let found = clean_is_name 1 cs begun e in
        let b = found.1 in
        let rest = (name_reading cs).rest in
        let same : private_reading (number_sign ∷ cs) ≡ good_private_name found.0 rest =
        ap (λ xs. private_reading (number_sign ∷ xs)) b.here
        ∙ rw (name_begins found.0 rest b.name) (private_name_is_read found.0 rest b.name b.follows) in
        subst (ReadsHere t line_has_ended (number_sign ∷ cs)) (sym same)
        (reads_good_private_name t line_has_ended cs found.0 rest b)
    by_faults begun (d ∷ ds) e =
        recovered_private t line_has_ended cs
        (λ none. let no : d ∷ ds ≡ [] = sym e ∙ sym (private_report cs begun) ∙ none in cc)

-- and so where nothing is spelled, it reports something
pub faulty_private_reports : (t : SourceType) (line_has_ended : Bool) (cs : List ℕ)
    → NothingSpelled t line_has_ended (number_sign ∷ cs) → (private_reading (number_sign ∷ cs)).diagnostics ≢ []
faulty_private_reports t line_has_ended cs nothing e =
    elim (true_or_false (begins_name cs)) [
      | inl begun ↦ (
          let found = clean_is_name 1 cs begun (sym (private_report cs begun) ∙ e) in
          nothing (number_sign ∷ found.0) (name_reading cs).rest PrivateIdentifier
          (ap (λ t. number_sign ∷ t) found.1.here) (private_name found.0 found.1.name found.1.follows refl refl))
      | inr none ↦ unnamed_reports cs none e
    ]
