-- What follows a token in its text, and in the squeezed text.
use Rattle.std.proofs.Common.{◌≡◌, ◌≢◌, ℕ, Bool, true, false, ◌==◌, List, [], ◌∷◌, ◌++◌}
use Rattle.std.proofs.Common.{refl, sym, ◌∙◌, ap, subst, Option, Some, None, inl, inr, ◌⊎◌}
use Rattle.std.specs.Prelude.{if◌then◌else◌, slice_get, unwrap_or}
use Rattle.std.specs.List.{last_or}
use Rattle.std.specs.Str.{IsUtf8}
use Rattle.std.proofs.lemmas.Bool.{eq-eqb, eqb-true}
use Rattle.js_text.specs.Characters.{from_place}
use Rattle.js_text.specs.declared.source_type.SourceType.{SourceType}
use Rattle.js_kind.specs.TokenParts.{TokenParts}
use Rattle.js_kind.specs.declared.kind.Kind.{Kind}
use Rattle.js_grammar.specs.Gap.{piece}
use Rattle.js_grammar.proofs.Without.{true_is_not_false}
use Rattle.js_lexer.specs.Lexer.{IsOnPlaces}
use Rattle.js_session.specs.declared.row.Row.{Row}
use Rattle.js_session.specs.Live.{outcome_of}
use Rattle.js_rewrite.specs.Space.{ends_as_word, meets, need_space}
use Rattle.js_rewrite.proofs.Following.{FollowsToken, kept_before, last_character, nothing_behind}
use Rattle.js_rewrite.proofs.Following.Follows.{same, line_end, space, joined, nothing_left}
use Rattle.js_rewrite.proofs.GapsBefore.{Gapped}
use Rattle.js_squeeze.specs.SqueezeText.{first_reads, separator_behind}
use Rattle.js_squeeze.proofs.Written.{characters, characters_here, final, written}

-- What is written from a token on begins with the token, and what is behind it follows it as in the text. Where there
-- is nothing of the last token in its place, there is nothing of it.
pub record Future (text : List ℕ) (t : SourceType) (token : TokenParts) (rows : List Row) : Type 0 where
  pub zs : List ℕ
  pub whole : written text token rows ≡ characters text token ++ zs
  pub follows : FollowsToken t token.kind (characters text token) (from_place text token.end) zs
  pub final_some : characters text (final token rows) ≡ [] → characters text token ≡ []

pub no_row : (text : List ℕ) (t : SourceType) (token : TokenParts) → IsUtf8 text → IsOnPlaces text token
    → Future text t token []
no_row text t token u lies = record {
  zs = from_place text token.end;
  whole = characters_here text token u lies;
  follows = same;
  final_some = λ e. e;
}

-- the characters from the first token on begin with those of the last one in its place
final_begins : (text : List ℕ) (token : TokenParts) (rows : List Row) → IsUtf8 text
    → IsOnPlaces text (final token rows) → (rest : List ℕ) × (written text token rows ≡ characters text (final token rows) ++ rest)
final_begins text token [] u lies = (from_place text token.end, characters_here text token u lies)
final_begins text token (row ∷ rows) u lies = by_row (final_begins text row.token rows u) (first_reads row) refl lies
  where
    by_row : (IsOnPlaces text (final row.token rows)
        → (rest : List ℕ) × (written text row.token rows ≡ characters text (final row.token rows) ++ rest)) → (b : Bool)
        → first_reads row ≡ b → IsOnPlaces text (if b then token else final row.token rows)
        → (rest : List ℕ) × ((if b
        then characters text token
        ++ (separator_behind text token row (final row.token rows) ++ written text row.token rows)
        else written text row.token rows)
        ≡ characters text (if b then token else final row.token rows) ++ rest)
    by_row later true e lies = (separator_behind text token row (final row.token rows) ++ written text row.token rows, refl)
    by_row later false e lies = later lies

-- the last character of a text that is not empty
some_last : (o : Option ℕ) (xs : List ℕ) (l : ℕ) → last_or (Some l) xs ≡ Some (unwrap_or (last_or (Some l) xs) 0)
some_last o [] l = refl
some_last o (x ∷ xs) l = some_last o xs x

-- A separator is a line end, a space, or nothing, each where it may be.
pub data IsSeparator (t : SourceType) (row : Row) (kind : Kind) (xs : List ℕ) (next : List ℕ) : List ℕ → Type 0 where
  adjacent : row.token.start ≡ row.place → IsSeparator t row kind xs next []
  a_line_end : row.token.is_on_new_line ≡ true → IsSeparator t row kind xs next (10 ∷ [])
  a_space : row.token.is_on_new_line ≡ false → IsSeparator t row kind xs next (32 ∷ [])
  nothing : row.token.is_on_new_line ≡ false
      → need_space kind (last_or None xs) (slice_get next 0) ≡ false → IsSeparator t row kind xs next []

pub separator_is : (text : List ℕ) (t : SourceType) (before : TokenParts) (row : Row) (token : TokenParts)
    → IsSeparator t row before.kind (characters text before) (characters text token)
    (separator_behind text before row token)
separator_is text t before row token =
    by_flags (row.token.start == row.place) refl row.token.is_on_new_line refl
    (need_space before.kind (last_or None (characters text before)) (slice_get (characters text token) 0)) refl
  where
    by_flags : (a : Bool) → (row.token.start == row.place) ≡ a → (b : Bool) → row.token.is_on_new_line ≡ b
        → (c : Bool)
        → need_space before.kind (last_or None (characters text before)) (slice_get (characters text token) 0) ≡ c
        → IsSeparator t row before.kind (characters text before) (characters text token)
        (if a then [] else if b then 10 ∷ [] else if c then 32 ∷ [] else [])
    by_flags true e b f c g = adjacent (eqb-true row.token.start row.place e)
    by_flags false e true f c g = a_line_end f
    by_flags false e false f true g = a_space f
    by_flags false e false f false g = nothing f g

-- a character behind a token that needs no space meets it not
no_meeting : (kind : Kind) (x : ℕ) (xs : List ℕ) (n : ℕ)
    → need_space kind (last_or None (x ∷ xs)) (Some n) ≡ false
    → meets (ends_as_word kind (last_character (x ∷ xs))) (last_character (x ∷ xs)) n ≡ false
no_meeting kind x xs n e = subst (λ o. need_space kind o (Some n) ≡ false) (some_last None xs x) e

-- An empty token stands at the end.
abbrev pub EndsText : List ℕ → TokenParts → Type 0
EndsText text token = characters text token ≡ [] → from_place text token.end ≡ []

-- Behind a gap: what is written of the next token follows this one.
behind_gap : (text : List ℕ) (t : SourceType) (token : TokenParts) (row : Row) (rows : List Row) (sep : List ℕ)
    → IsUtf8 text → IsOnPlaces text (final row.token rows) → EndsText text token → EndsText text row.token
    → row.place ≡ token.end → row.token.start ≢ token.end → Gapped text t token.end (outcome_of row)
    → (f : Future text t row.token rows)
    → IsSeparator t row token.kind (characters text token) (characters text (final row.token rows)) sep
    → FollowsToken t token.kind (characters text token) (from_place text token.end) (sep ++ written text row.token rows)
behind_gap text t token row rows sep u lies ends row_ends at apart g f (adjacent here) = absurd (apart (here ∙ at))
behind_gap text t token row rows sep u lies ends row_ends at apart g f (a_line_end flag) = line_end g.begins_gap
behind_gap text t token row rows sep u lies ends row_ends at apart g f (a_space flag) =
    space g.begins_gap (g.line flag)
behind_gap text t token row rows sep u lies ends row_ends at apart g f (nothing flag none) =
    by_next (characters text token) refl (characters text (final row.token rows)) refl none
  where
    by_next : (xs : List ℕ) → characters text token ≡ xs → (next : List ℕ)
        → characters text (final row.token rows) ≡ next
        → need_space token.kind (last_or None xs) (slice_get next 0) ≡ false
        → FollowsToken t token.kind xs (from_place text token.end) (written text row.token rows)
    by_next xs e [] no_next free =
        let none = f.final_some no_next in
        let left : f.zs ≡ [] =
        nothing_behind t (ends_as_word row.token.kind (last_character (characters text row.token)))
        (last_character (characters text row.token)) (from_place text row.token.end) f.zs (row_ends none) f.follows in
        subst (FollowsToken t token.kind xs (from_place text token.end))
        (sym (f.whole ∙ ap (λ z. z ++ f.zs) none ∙ left)) (nothing_left g.begins_gap (g.line flag))
    by_next [] e (n ∷ next) here free =
        let none : piece t g.begins_gap.ended (from_place text token.end) ≡ None =
        ap (piece t g.begins_gap.ended) (ends e) in
        absurd (let no : None ≡ Some g.begins_gap.found = sym none ∙ g.begins_gap.here in cc)
    by_next (x ∷ xs) e (n ∷ next) here free =
        let begun = final_begins text row.token rows u lies in
        let first : written text row.token rows ≡ n ∷ (next ++ begun.0) =
        begun.1 ∙ ap (λ z. z ++ begun.0) here in
        subst (FollowsToken t token.kind (x ∷ xs) (from_place text token.end)) (sym first)
        (joined n g.begins_gap (g.line flag) (no_meeting token.kind x xs n free))

-- Beside: the next token stands right behind this one.
beside : (text : List ℕ) (t : SourceType) (token : TokenParts) (row : Row) (rows : List Row) → IsUtf8 text
    → IsOnPlaces text row.token → EndsText text row.token → row.token.start ≡ token.end
    → (f : Future text t row.token rows)
    → FollowsToken t token.kind (characters text token) (from_place text token.end) (written text row.token rows)
beside text t token row rows u lies row_ends at f =
    by_text (characters text row.token) refl
  where
    by_text : (xs : List ℕ) → characters text row.token ≡ xs
        → FollowsToken t token.kind (characters text token) (from_place text token.end) (written text row.token rows)
    by_text [] none =
        let word = ends_as_word row.token.kind (last_character (characters text row.token)) in
        let last = last_character (characters text row.token) in
        let left : f.zs ≡ [] =
        nothing_behind t word last (from_place text row.token.end) f.zs (row_ends none) f.follows in
        let here : from_place text token.end ≡ [] =
        ap (from_place text) (sym at) ∙ characters_here text row.token u lies
        ∙ ap (λ z. z ++ from_place text row.token.end) none ∙ row_ends none in
        let there : written text row.token rows ≡ [] = f.whole ∙ ap (λ z. z ++ f.zs) none ∙ left in
        subst (FollowsToken t token.kind (characters text token) (from_place text token.end)) (here ∙ sym there) same
    by_text (x ∷ xs) e =
        let here : from_place text token.end ≡ (x ∷ xs) ++ from_place text row.token.end =
        ap (from_place text) (sym at) ∙ characters_here text row.token u lies
        ∙ ap (λ z. z ++ from_place text row.token.end) e in
        let there : written text row.token rows ≡ (x ∷ xs) ++ f.zs = f.whole ∙ ap (λ z. z ++ f.zs) e in
        let behind : FollowsToken t row.token.kind (x ∷ xs) (from_place text row.token.end) f.zs =
        subst (λ z. FollowsToken t row.token.kind z (from_place text row.token.end) f.zs) e f.follows in
        subst (λ h. FollowsToken t token.kind (characters text token) h (written text row.token rows)) (sym here)
        (subst (FollowsToken t token.kind (characters text token) ((x ∷ xs) ++ from_place text row.token.end)) (sym there)
        (kept_before t (ends_as_word token.kind (last_character (characters text token)))
        (last_character (characters text token)) (x ∷ xs) (from_place text row.token.end) f.zs
        (ends_as_word row.token.kind (last_character (x ∷ xs))) (λ no. absurd (cc)) behind))

-- A row that reads one token more.
pub read_future : (text : List ℕ) (t : SourceType) (token : TokenParts) (row : Row) (rows : List Row) → IsUtf8 text
    → first_reads row ≡ true → IsOnPlaces text row.token → IsOnPlaces text (final row.token rows)
    → EndsText text token → EndsText text row.token → row.place ≡ token.end
    → (row.token.start ≡ token.end) ⊎ Gapped text t token.end (outcome_of row) → Future text t row.token rows
    → Future text t token (row ∷ rows)
read_future text t token row rows u first lies final_lies ends row_ends at gap f =
    let sep = separator_behind text token row (final row.token rows) in
    let is = separator_is text t token row (final row.token rows) in
    record {
      zs = sep ++ written text row.token rows;
      whole = rw first refl;
      follows = by_place (row.token.start == row.place) refl sep refl is;
      final_some = rw first (λ e. e);
    }
  where
    by_place : (b : Bool) → (row.token.start == row.place) ≡ b → (sep : List ℕ)
        → separator_behind text token row (final row.token rows) ≡ sep
        → IsSeparator t row token.kind (characters text token) (characters text (final row.token rows)) sep
        → FollowsToken t token.kind (characters text token) (from_place text token.end)
        (sep ++ written text row.token rows)
    by_place true e sep sep_is is =
        let none : sep ≡ [] = sym sep_is ∙ rw e refl in
        subst (λ s. FollowsToken t token.kind (characters text token) (from_place text token.end)
        (s ++ written text row.token rows)) (sym none)
        (beside text t token row rows u lies row_ends (eqb-true row.token.start row.place e ∙ at) f)
    by_place false e sep sep_is is =
        elim gap [
          | inl here ↦ absurd
              (true_is_not_false (row.token.start == row.place) (eq-eqb row.token.start row.place (here ∙ sym at)) e)
          | inr g ↦ behind_gap text t token row rows sep u final_lies ends row_ends at
              (λ here.
              true_is_not_false (row.token.start == row.place) (eq-eqb row.token.start row.place (here ∙ sym at)) e)
              g f is
        ]
