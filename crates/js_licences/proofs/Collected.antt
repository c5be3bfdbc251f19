-- Comments that are added to a map from texts to places.
use Rattle.std.proofs.Common.{◌≡◌, ℕ, zero, suc, ◌+◌, ◌<◌, ◌≤◌, Bool, true, false, not, List, [], ◌∷◌, ◌++◌, length, refl}
use Rattle.std.proofs.Common.{ap, sym, subst, arith, cond, ◌∙◌, Some, None, append-nil, append_assoc, take}
use Rattle.std.proofs.Common.{Result, Ok, Err, OnOk, OnErr}
use Rattle.std.specs.Prelude.{bytes_eq, nat_lt, slice_get}
use Rattle.std.specs.List.{flat_map, position, position_or_len, prefix_len}
use Rattle.std.specs.Map.{keys_of, values_of}
use Rattle.std.proofs.lemmas.Bool.Decides.{nat_tests}
use Rattle.indexmap.specs.IndexMap.{insert_entry, set_value_at}
use Rattle.js_text.specs.declared.comment.Comment.{Comment}
use Rattle.js_licences.specs.Licences.{LicenceOf, holds_licence, licences_in, occurrence_of, occurrences}
use Rattle.js_licences.specs.Licences.{with_occurrence, with_occurrences}
use Rattle.js_licences.specs.declared.licences.Place.{Place}

pub some_is : {A : Type 0} (x y : A) → Some x ≡ Some y → x ≡ y
some_is x y e = cc

module _ {S : Type 0} (bytes : S → List ℕ) (text : List ℕ) where
  -- the keys whose text is another
  abbrev other : S → Bool
  other key = not (bytes_eq text (bytes key))

  -- no entry has the text
  abbrev pub IsNew : List (S × List Place) → Type 0
  IsNew [] = Unit {0}
  IsNew (e ∷ es) = (bytes_eq text (bytes e.0) ≡ false) × IsNew es

  -- the first entry with the text is the one at the index
  abbrev pub IsFirstAt : List (S × List Place) → ℕ → Type 0
  IsFirstAt [] i = ⊥
  IsFirstAt (e ∷ es) zero = bytes_eq text (bytes e.0) ≡ true
  IsFirstAt (e ∷ es) (suc i) = (bytes_eq text (bytes e.0) ≡ false) × IsFirstAt es i

  new_within : (es : List (S × List Place)) → length (keys_of es) ≤ prefix_len other (keys_of es) → IsNew es
  new_within [] far = tt
  new_within (e ∷ es) far = by_test (new_within es) (bytes_eq text (bytes e.0)) refl
    where
      by_test : (length (keys_of es) ≤ prefix_len other (keys_of es) → IsNew es) → (b : Bool)
          → bytes_eq text (bytes e.0) ≡ b → IsNew (e ∷ es)
      by_test later true f = absurd (let none : suc (length (keys_of es)) ≤ 0 = rw f at far in omega arith)
      by_test later false f = (
        f,
        later (let more : suc (length (keys_of es)) ≤ 1 + prefix_len other (keys_of es) = rw f at far in omega arith),
      )

  first_within : (es : List (S × List Place)) (i : ℕ) → prefix_len other (keys_of es) ≡ i → i < length (keys_of es)
      → IsFirstAt es i
  first_within [] i same less = absurd (omega (arith, less))
  first_within (e ∷ es) i same less = by_test (first_within es) (bytes_eq text (bytes e.0)) refl i same less
    where
      by_test : ((i : ℕ) → prefix_len other (keys_of es) ≡ i → i < length (keys_of es) → IsFirstAt es i) → (b : Bool)
          → bytes_eq text (bytes e.0) ≡ b → (i : ℕ) → prefix_len other (keys_of (e ∷ es)) ≡ i
          → i < length (keys_of (e ∷ es)) → IsFirstAt (e ∷ es) i
      by_test later true f zero same less = f
      by_test later true f (suc i) same less = absurd (let no : 0 ≡ suc i = rw f at same in omega (arith, no))
      by_test later false f zero same less =
          absurd (let no : 1 + prefix_len other (keys_of es) ≡ 0 = rw f at same in omega (arith, no))
      by_test later false f (suc i) same less =
          let next : 1 + prefix_len other (keys_of es) ≡ suc i = rw f at same in
          let within : suc i < suc (length (keys_of es)) = less in
          (f, later i (omega (arith, next)) (omega (arith, within)))

  -- the index of the first entry with the text, or how many there are
  abbrev place_in : List (S × List Place) → ℕ
  place_in es = position_or_len (λ key. bytes_eq text (bytes key)) (keys_of es)

  -- what a look-up tells
  pub new_from_position : (es : List (S × List Place)) → position (λ key. bytes_eq text (bytes key)) (keys_of es) ≡ None
      → IsNew es
  new_from_position es none = by_test (nat_lt (place_in es) (length (keys_of es))) refl none
    where
      by_test : (b : Bool) → nat_lt (place_in es) (length (keys_of es)) ≡ b → cond b (Some (place_in es)) None ≡ None → IsNew es
      by_test true less f = absurd (let no : Some (place_in es) ≡ None = f in cc)
      by_test false less f =
          new_within es (let far : length (keys_of es) ≤ place_in es = grind (arith, nat_tests) in far)

  pub first_from_position : (es : List (S × List Place)) (i : ℕ)
      → position (λ key. bytes_eq text (bytes key)) (keys_of es) ≡ Some i → IsFirstAt es i
  first_from_position es i some = by_test (nat_lt (place_in es) (length (keys_of es))) refl some
    where
      by_test : (b : Bool) → nat_lt (place_in es) (length (keys_of es)) ≡ b → cond b (Some (place_in es)) None ≡ Some i
          → IsFirstAt es i
      by_test true less f =
          let same : place_in es ≡ i = some_is (place_in es) i f in
          first_within es i same
          (subst (λ n. n < length (keys_of es)) same
          (let within : place_in es < length (keys_of es) = grind (arith, nat_tests) in within))
      by_test false less f = absurd (let no : None ≡ Some i = f in cc)

  -- a text that is new comes last
  pub with_new : (es : List (S × List Place)) (place : Place) → IsNew es
      → with_occurrence (licences_in bytes es) (record { text = text; place = place })
      ≡ licences_in bytes es ++ record { text = text; places = place ∷ [] } ∷ []
  with_new [] place new = refl
  with_new (e ∷ es) place new =
      let later = with_new es place new.1 in
      rw new.0 (ap (λ ls. record { text = bytes e.0; places = e.1 } ∷ ls) later)

  -- the place of one that is known comes behind those that it has
  pub with_known : (es : List (S × List Place)) (i : ℕ) (place : Place) (held : List Place) → IsFirstAt es i
      → slice_get (values_of es) i ≡ Some held
      → with_occurrence (licences_in bytes es) (record { text = text; place = place })
      ≡ licences_in bytes (set_value_at es i (held ++ place ∷ []))
  with_known [] i place held at here = absurd at
  with_known (e ∷ es) zero place held at here =
      let same : e.1 ≡ held = some_is e.1 held here in
      rw at (
      ap (λ ps. record { text = bytes e.0; places = ps ++ place ∷ [] } ∷ licences_in bytes es) same
      )
  with_known (e ∷ es) (suc i) place held at here =
      let later = with_known es i place held at.1 here in
      rw at.0 (ap (λ ls. record { text = bytes e.0; places = e.1 } ∷ ls) later)

module _ {S : Type 0} (bytes : S → List ℕ) where
  -- a key whose text is new comes last
  pub insert_new : (es : List (S × List Place)) (key : S) (places : List Place) → IsNew bytes (bytes key) es
      → insert_entry (λ a b. bytes_eq (bytes a) (bytes b)) es key places ≡ es ++ (key, places) ∷ []
  insert_new [] key places new = refl
  insert_new (e ∷ es) key places new =
      let later = insert_new es key places new.1 in
      rw new.0 (ap (λ rest. e ∷ rest) later)

  pub licences_push : (es : List (S × List Place)) (key : S) (places : List Place)
      → licences_in bytes (es ++ (key, places) ∷ [])
      ≡ licences_in bytes es ++ record { text = bytes key; places = places } ∷ []
  licences_push [] key places = refl
  licences_push (e ∷ es) key places =
      ap (λ ls. record { text = bytes e.0; places = e.1 } ∷ ls) (licences_push es key places)

-- an entry that is given the places that it has
pub same_places : {S : Type 0} (es : List (S × List Place)) (i : ℕ) (held : List Place)
    → slice_get (values_of es) i ≡ Some held → set_value_at es i held ≡ es
same_places [] i held here = refl
same_places (e ∷ es) zero held here = ap (λ ps. (e.0, ps) ∷ es) (sym (some_is e.1 held here))
same_places (e ∷ es) (suc i) held here = ap (λ rest. e ∷ rest) (same_places es i held here)

-- the first entry with a text has places
pub first_held : {S : Type 0} (bytes : S → List ℕ) (text : List ℕ) (es : List (S × List Place)) (i : ℕ)
    → IsFirstAt bytes text es i → (held : List Place) × (slice_get (values_of es) i ≡ Some held)
first_held bytes text [] i at = absurd at
first_held bytes text (e ∷ es) zero at = (e.1, refl)
first_held bytes text (e ∷ es) (suc i) at = first_held bytes text es i at.1

pub on_ok : {A E P Q : Type 0} (r : Result A E) → (P → Q) → OnOk r P → OnOk r Q
on_ok (Ok a) f h = f h
on_ok (Err e) f h = h

pub on_err : {A E P Q : Type 0} (r : Result A E) → (P → Q) → OnErr r P → OnErr r Q
on_err (Ok a) f h = h
on_err (Err e) f h = f h

-- one more comment that holds a licence, or that holds none
pub with_one_more : (licences : List LicenceOf) (name source : List ℕ) (comments : List Comment) (c : Comment)
    → holds_licence c.content ≡ true
    → with_occurrences licences (occurrences name source (comments ++ c ∷ []))
    ≡ with_occurrence (with_occurrences licences (occurrences name source comments)) (occurrence_of name source c)
with_one_more licences name source [] c holds = rw holds refl
with_one_more licences name source (first ∷ comments) c holds =
    by_test (holds_licence first.content) refl
    (with_one_more (with_occurrence licences (occurrence_of name source first)) name source comments c holds)
    (with_one_more licences name source comments c holds)
  where
    by_test : (b : Bool) → holds_licence first.content ≡ b
        → with_occurrences (with_occurrence licences (occurrence_of name source first))
        (occurrences name source (comments ++ c ∷ []))
        ≡ with_occurrence (with_occurrences (with_occurrence licences (occurrence_of name source first))
        (occurrences name source comments)) (occurrence_of name source c)
        → with_occurrences licences (occurrences name source (comments ++ c ∷ []))
        ≡ with_occurrence (with_occurrences licences (occurrences name source comments)) (occurrence_of name source c)
        → with_occurrences licences (occurrences name source (first ∷ (comments ++ c ∷ [])))
        ≡ with_occurrence (with_occurrences licences (occurrences name source (first ∷ comments)))
        (occurrence_of name source c)
    by_test true f taken passed = rw f taken
    by_test false f taken passed = rw f passed

pub with_no_more : (licences : List LicenceOf) (name source : List ℕ) (comments : List Comment) (c : Comment)
    → holds_licence c.content ≡ false
    → with_occurrences licences (occurrences name source (comments ++ c ∷ []))
    ≡ with_occurrences licences (occurrences name source comments)
with_no_more licences name source [] c holds = rw holds refl
with_no_more licences name source (first ∷ comments) c holds =
    by_test (holds_licence first.content) refl
    (with_no_more (with_occurrence licences (occurrence_of name source first)) name source comments c holds)
    (with_no_more licences name source comments c holds)
  where
    by_test : (b : Bool) → holds_licence first.content ≡ b
        → with_occurrences (with_occurrence licences (occurrence_of name source first))
        (occurrences name source (comments ++ c ∷ []))
        ≡ with_occurrences (with_occurrence licences (occurrence_of name source first))
        (occurrences name source comments)
        → with_occurrences licences (occurrences name source (comments ++ c ∷ []))
        ≡ with_occurrences licences (occurrences name source comments)
        → with_occurrences licences (occurrences name source (first ∷ (comments ++ c ∷ [])))
        ≡ with_occurrences licences (occurrences name source (first ∷ comments))
    by_test true f taken passed = rw f taken
    by_test false f taken passed = rw f passed

-- the texts of items up to one that is there
pub one_text_more : {A : Type 0} (f : A → List ℕ) (xs : List A) (i : ℕ) (x : A) → slice_get xs i ≡ Some x
    → flat_map f (take (suc i) xs) ≡ flat_map f (take i xs) ++ f x
one_text_more f [] i x here = absurd (cc)
one_text_more f (y ∷ ys) zero x here = append-nil (f y) ∙ ap f (some_is y x here)
one_text_more f (y ∷ ys) (suc i) x here =
    ap (λ rest. f y ++ rest) (one_text_more f ys i x here) ∙ sym (append_assoc (f y) (flat_map f (take i ys)) (f x))
