-- The longest punctuator of a family, by the table of all punctuators.
use Rattle.std.proofs.Common.{◌≡◌, ◌==◌, ◌&&◌, ℕ, Bool, true, false, List, [], ◌∷◌, ◌++◌, refl, sym}
use Rattle.std.proofs.Common.{◌∙◌, ap, subst, inl, inr, Option, Some, None, append_assoc}
use Rattle.std.specs.List.{list_all, list_any}
use Rattle.std.specs.Prelude.{codes, unwrap_or}
use Rattle.std.specs.Str.{bytes_eq}
use Rattle.std.proofs.lemmas.Bool.{and_parts, eqb-true, or_cases}
use Rattle.std.proofs.lemmas.List.Folds.{list_all-append}
use Rattle.std.proofs.lemmas.Slice.Eq.{bytes_eq-Decides}
use Rattle.js_text.specs.Ascii.{equals_sign, greater_than_sign}
use Rattle.js_text.specs.Characters.{begins}
use Rattle.js_text.specs.declared.source_type.SourceType.{SourceType}
use Rattle.js_kind.specs.Kinds.{number}
use Rattle.js_kind.specs.declared.kind.Kind.{Kind}
use Rattle.js_kind.proofs.KindNumbers.{number_injective}
use Rattle.js_grammar.specs.Gap.{is_reported}
use Rattle.js_grammar.specs.Punctuators.{Punctuator, punctuators, IsIn, Exclusion, excludes, excludes_nothing}
use Rattle.js_grammar.specs.Punctuators.{excludes_digits, excludes_asterisk, excludes_reported_comment, going_on}
use Rattle.js_grammar.specs.Punctuators.{is_not_next, LongestPunctuator}
use Rattle.js_grammar.proofs.LongestPunctuators.{longest}
use Rattle.js_source.specs.Source.{At, Reads, rest}
use Rattle.js_spell.specs.Families.{is_family, is_free, is_free_punctuator, is_member, is_member_if, next_if}
use Rattle.js_spell.specs.Families.{Family, only, TakesNext}

-- a punctuator with this text and this kind, which anything may follow where no reported comment stands
record FreePunctuator (text : List ℕ) (kind : Kind) : Type 0 where
  it : Punctuator
  in_table : IsIn it punctuators
  same_text : it.text ≡ text
  same_kind : it.kind ≡ kind
  free : is_free text it.exclusion ≡ true

free_punctuator : (text : List ℕ) (kind : Kind) (ps : List Punctuator)
    → ((p : Punctuator) → IsIn p ps → IsIn p punctuators)
    → list_any (is_free_punctuator text kind) ps ≡ true → FreePunctuator text kind
free_punctuator text kind [] inside e = absurd (cc)
free_punctuator text kind (p ∷ ps) inside e =
    elim (or_cases (is_free_punctuator text kind p) (list_any (is_free_punctuator text kind) ps) e) [
      | inl here ↦
          let first =
          and_parts (bytes_eq p.text text) (number p.kind == number kind && is_free text p.exclusion) here in
          let second = and_parts (number p.kind == number kind) (is_free text p.exclusion) first.1 in
          record {
            it = p;
            in_table = inside p (inl refl);
            same_text = (bytes_eq-Decides p.text text).0 first.0;
            same_kind = number_injective p.kind kind (eqb-true _ _ second.0);
            free = second.1;
          }
      | inr later ↦ free_punctuator text kind ps (λ q i. inside q (inr i)) later
    ]

-- what may follow it
allowed : (t : SourceType) (line_has_ended : Bool) (text cs : List ℕ) (e : Exclusion) → is_free text e ≡ true
    → is_reported t line_has_ended (text ++ cs) ≡ false → excludes e t line_has_ended cs ≡ false
allowed t line_has_ended text cs excludes_nothing free none = refl
allowed t line_has_ended text cs excludes_digits free none = absurd (cc)
allowed t line_has_ended text cs excludes_asterisk free none = absurd (cc)
allowed t line_has_ended text cs excludes_reported_comment free none =
    let is : text ≡ codes "<" = (bytes_eq-Decides text (codes "<")).0 free in
    subst (λ xs. is_reported t line_has_ended (xs ++ cs) ≡ false) is none

-- the text begins with none of some characters, of which these are
none_next : (next cs xs : List ℕ) → list_all (λ c. list_any (λ x. x == c) next) xs ≡ true
    → list_all (is_not_next cs) next ≡ true → list_all (is_not_next cs) xs ≡ true
none_next next cs [] among none = refl
none_next next cs (x ∷ xs) among none =
    let both = and_parts (list_any (λ y. y == x) next) (list_all (λ c. list_any (λ y. y == c) next) xs) among in
    rw (one x next both.0 none, none_next next cs xs both.1 none) refl
  where
    one : (x : ℕ) (ys : List ℕ) → list_any (λ y. y == x) ys ≡ true → list_all (is_not_next cs) ys ≡ true
        → is_not_next cs x ≡ true
    one x [] among none = absurd (cc)
    one x (y ∷ ys) among none =
        let both = and_parts (is_not_next cs y) (list_all (is_not_next cs) ys) none in
        elim (or_cases (y == x) (list_any (λ y. y == x) ys) among) [
          | inl same ↦ subst (λ z. is_not_next cs z ≡ true) (eqb-true y x same) both.0
          | inr later ↦ one x ys later both.1
        ]

-- A member of a family is the longest punctuator where the text goes on with no other one.
pub longest_member : (t : SourceType) (line_has_ended : Bool) (text next cs : List ℕ) (kind : Kind)
    → is_member text next kind ≡ true → is_reported t line_has_ended (text ++ cs) ≡ false
    → list_all (is_not_next cs) next ≡ true → LongestPunctuator t line_has_ended (text ++ cs) cs kind
longest_member t line_has_ended text next cs kind is reported none =
    let both = and_parts (list_any (is_free_punctuator text kind) punctuators)
    (list_all (λ c. list_any (λ x. x == c) next) (going_on text punctuators)) is in
    let free = free_punctuator text kind punctuators (λ p i. i) both.0 in
    let here : list_all (is_not_next cs) (going_on free.it.text punctuators) ≡ true =
    subst (λ xs. list_all (is_not_next cs) (going_on xs punctuators) ≡ true) (sym free.same_text)
    (none_next next cs (going_on text punctuators) both.1 none) in
    subst (λ xs. LongestPunctuator t line_has_ended (xs ++ cs) cs kind) free.same_text
    (subst (λ k. LongestPunctuator t line_has_ended (free.it.text ++ cs) cs k) free.same_kind
    (longest t line_has_ended free.it cs free.in_table
    (allowed t line_has_ended text cs free.it.exclusion free.free reported) here))

-- What is read behind a member is the one that goes on with the character, or the member itself, where the text goes on
-- with none of some other characters.
with_next : (t : SourceType) (line_has_ended : Bool) (text others : List ℕ) (kind : Kind) (c : ℕ)
    (longer found : Option Kind) (old new : At)
    → is_member text (others ++ next_if c longer) kind ≡ true → is_member_if (text ++ (c ∷ [])) [] longer ≡ true
    → list_all (is_not_next (rest old)) others ≡ true → is_reported t line_has_ended (text ++ rest old) ≡ false
    → TakesNext c longer old new found
    → LongestPunctuator t line_has_ended (text ++ rest old) (rest new) (unwrap_or found kind)
with_next t line_has_ended text others kind c longer None old new is is_longer no_other reported takes =
    subst (λ s. LongestPunctuator t line_has_ended (text ++ rest old) (rest s) kind) (sym takes.0)
    (longest_member t line_has_ended text (others ++ next_if c longer) (rest old) kind is reported
    (list_all-append (is_not_next (rest old)) others (next_if c longer) ∙ rw (no_other, takes.1) refl))
with_next t line_has_ended text others kind c longer (Some k) old new is is_longer no_other reported takes =
    let member : is_member (text ++ (c ∷ [])) [] k ≡ true =
    subst (λ o. is_member_if (text ++ (c ∷ [])) [] o ≡ true) takes.0 is_longer in
    let here : text ++ rest old ≡ (text ++ (c ∷ [])) ++ rest new =
    ap (λ r. text ++ r) takes.2 ∙ sym (append_assoc text (c ∷ []) (rest new)) in
    subst (λ xs. LongestPunctuator t line_has_ended xs (rest new) k) (sym here)
    (longest_member t line_has_ended (text ++ (c ∷ [])) [] (rest new) k member
    (subst (λ xs. is_reported t line_has_ended xs ≡ false) here reported) refl)

-- What holds of each member of a family: which character goes on behind it.
record Members (a : ℕ) (f : Family) : Type 0 where
  alone : is_member (a ∷ [])
      ((next_if a f.twice ++ next_if equals_sign f.equals) ++ next_if greater_than_sign f.greater) f.alone ≡ true
  twice : is_member_if (a ∷ a ∷ []) (next_if equals_sign f.twice_equals) f.twice ≡ true
  twice_equals : is_member_if (a ∷ a ∷ equals_sign ∷ []) [] f.twice_equals ≡ true
  equals : is_member_if (a ∷ equals_sign ∷ []) (next_if equals_sign f.equals_twice) f.equals ≡ true
  equals_twice : is_member_if (a ∷ equals_sign ∷ equals_sign ∷ []) [] f.equals_twice ≡ true
  greater : is_member_if (a ∷ greater_than_sign ∷ []) [] f.greater ≡ true

members : (a : ℕ) (f : Family) → is_family a f ≡ true → Members a f
members a f is =
    let all = six _ _ _ _ _ _ is in
    record {
      alone = all.0;
      twice = all.1;
      twice_equals = all.2;
      equals = all.3;
      equals_twice = all.4;
      greater = all.5;
    }
  where
    six : (a b c d e f : Bool) → (a && (b && (c && (d && (e && f))))) ≡ true
        → (a ≡ true) × (b ≡ true) × (c ≡ true) × (d ≡ true) × (e ≡ true) × (f ≡ true)
    six true true true true true true h = (refl, refl, refl, refl, refl, refl)
    six false b c d e f h = absurd (cc)
    six true false c d e f h = absurd (cc)
    six true true false d e f h = absurd (cc)
    six true true true false e f h = absurd (cc)
    six true true true true false f h = absurd (cc)
    six true true true true true false h = absurd (cc)

-- where nothing was taken
none_taken : (c : ℕ) (member found : Option Kind) (old new : At) → TakesNext c member old new found
    → ((kind : Kind) → found ≡ Some kind → ⊥)
    → (new ≡ old) × (list_all (is_not_next (rest old)) (next_if c member) ≡ true)
none_taken c member None old new takes none = takes
none_taken c member (Some kind) old new takes none = absurd (none kind refl)

-- The family is read behind its character: twice, and then perhaps with `=`,
pub read_twice : (a : ℕ) (f : Family) (t : SourceType) (line_has_ended : Bool) (old first second new : At)
    (kind : Kind) (found : Option Kind) → is_family a f ≡ true → rest old ≡ a ∷ rest first
    → TakesNext a f.twice first second (Some kind) → TakesNext equals_sign f.twice_equals second new found
    → is_reported t line_has_ended (rest old) ≡ false
    → LongestPunctuator t line_has_ended (rest old) (rest new) (unwrap_or found kind)
read_twice a f t line_has_ended old first second new kind found is here takes next reported =
    let all = members a f is in
    let text : rest old ≡ (a ∷ a ∷ []) ++ rest second = here ∙ ap (λ r. a ∷ r) takes.2 in
    subst (λ xs. LongestPunctuator t line_has_ended xs (rest new) (unwrap_or found kind)) (sym text)
    (with_next t line_has_ended (a ∷ a ∷ []) [] kind equals_sign f.twice_equals found second new
    (subst (λ o. is_member_if (a ∷ a ∷ []) (next_if equals_sign f.twice_equals) o ≡ true) takes.0 all.twice)
    all.twice_equals refl (subst (λ xs. is_reported t line_has_ended xs ≡ false) text reported) next)

-- with `=`, and then perhaps with another one,
pub read_equals : (a : ℕ) (f : Family) (t : SourceType) (line_has_ended : Bool) (old first second third new : At)
    (kind : Kind) (twice found : Option Kind) → is_family a f ≡ true → rest old ≡ a ∷ rest first
    → TakesNext a f.twice first second twice → ((kind : Kind) → twice ≡ Some kind → ⊥)
    → TakesNext equals_sign f.equals second third (Some kind) → TakesNext equals_sign f.equals_twice third new found
    → is_reported t line_has_ended (rest old) ≡ false
    → LongestPunctuator t line_has_ended (rest old) (rest new) (unwrap_or found kind)
read_equals a f t line_has_ended old first second third new kind twice found is here one none takes next reported =
    let all = members a f is in
    let same = none_taken a f.twice twice first second one none in
    let text : rest old ≡ (a ∷ equals_sign ∷ []) ++ rest third =
    here ∙ ap (λ s. a ∷ rest s) (sym same.0) ∙ ap (λ r. a ∷ r) takes.2 in
    subst (λ xs. LongestPunctuator t line_has_ended xs (rest new) (unwrap_or found kind)) (sym text)
    (with_next t line_has_ended (a ∷ equals_sign ∷ []) [] kind equals_sign f.equals_twice found third new
    (subst (λ o. is_member_if (a ∷ equals_sign ∷ []) (next_if equals_sign f.equals_twice) o ≡ true) takes.0 all.equals)
    all.equals_twice refl (subst (λ xs. is_reported t line_has_ended xs ≡ false) text reported) next)

-- or with neither, and then perhaps with `>`.
pub read_alone : (a : ℕ) (f : Family) (t : SourceType) (line_has_ended : Bool) (old first second third new : At)
    (twice equals found : Option Kind) → is_family a f ≡ true → rest old ≡ a ∷ rest first
    → TakesNext a f.twice first second twice → ((kind : Kind) → twice ≡ Some kind → ⊥)
    → TakesNext equals_sign f.equals second third equals → ((kind : Kind) → equals ≡ Some kind → ⊥)
    → TakesNext greater_than_sign f.greater third new found → is_reported t line_has_ended (rest old) ≡ false
    → LongestPunctuator t line_has_ended (rest old) (rest new) (unwrap_or found f.alone)
read_alone a f t line_has_ended old first second third new twice equals found is here one none_one two none_two next
    reported =
    let all = members a f is in
    let same = none_taken a f.twice twice first second one none_one in
    let again = none_taken equals_sign f.equals equals second third two none_two in
    let still : rest third ≡ rest first = ap rest (again.0 ∙ same.0) in
    let text : rest old ≡ (a ∷ []) ++ rest third = here ∙ ap (λ r. a ∷ r) (sym still) in
    let none : list_all (is_not_next (rest third)) (next_if a f.twice ++ next_if equals_sign f.equals) ≡ true =
    list_all-append (is_not_next (rest third)) (next_if a f.twice) (next_if equals_sign f.equals)
    ∙ rw (
      subst (λ xs. list_all (is_not_next xs) (next_if a f.twice) ≡ true) (sym still) same.1,
      subst (λ xs. list_all (is_not_next xs) (next_if equals_sign f.equals) ≡ true) (ap rest (sym again.0)) again.1,
    ) refl in
    subst (λ xs. LongestPunctuator t line_has_ended xs (rest new) (unwrap_or found f.alone)) (sym text)
    (with_next t line_has_ended (a ∷ []) (next_if a f.twice ++ next_if equals_sign f.equals) f.alone greater_than_sign
    f.greater found third new all.alone all.greater none
    (subst (λ xs. is_reported t line_has_ended xs ≡ false) text reported) next)

-- A family of one is read by its character.
pub read_only_one : (a : ℕ) (kind : Kind) (t : SourceType) (line_has_ended : Bool) (old new : At)
    → is_family a (only kind) ≡ true → rest old ≡ a ∷ rest new → is_reported t line_has_ended (rest old) ≡ false
    → LongestPunctuator t line_has_ended (rest old) (rest new) kind
read_only_one a kind t line_has_ended old new is here reported =
    read_alone a (only kind) t line_has_ended old new new new new None None None is here (refl, refl) (λ k e. cc)
    (refl, refl) (λ k e. cc) (refl, refl) reported

-- The character of a member was taken, or it was not next.
pub taken : (c : ℕ) (kind : Kind) (old new : At) → Reads old new c → TakesNext c (Some kind) old new (Some kind)
taken c kind old new reads = (refl, reads.text, reads.here)

pub not_taken : (c : ℕ) (kind : Kind) (old new : At) → begins (λ x. x == c) (rest old) ≡ false → new ≡ old
    → TakesNext c (Some kind) old new None
not_taken c kind old new none same = (same, rw none refl)
