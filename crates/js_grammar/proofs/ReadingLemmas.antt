-- What was taken of a text is what stands before what is left.
use Rattle.std.proofs.Common.{◌≡◌, ◌≢◌, ℕ, ◌+◌, ◌-◌, ◌≤◌, Bool, true, false, ◌||◌, List, [], ◌++◌, length, refl}
use Rattle.std.proofs.Common.{sym, ◌∙◌, ap, arith, length-append, append-nil, add-zero}
use Rattle.std.specs.Prelude.{take, if◌then◌else◌}
use Rattle.std.proofs.Math.Seq.{take-append_seam}
use Rattle.js_text.specs.declared.value.RowValue.{RowValue}
use Rattle.js_text.specs.declared.value.RowValue.TheVariants.{Nothing, Slice}
use Rattle.js_kind.specs.declared.kind.Kind.{Kind}
use Rattle.js_kind.specs.declared.kind.Kind.TheVariants.{Eof}
use Rattle.js_grammar.specs.Reading.{Reading, before_rest, moved_value}
use Rattle.js_grammar.specs.TokenText.{is_private_name, is_quoted, is_valued, closing_length, text_start, text_end}
use Rattle.js_grammar.specs.TokenText.{text_slice, unescaped_value}

-- where the text is these characters and what is left, these were taken
pub taken_is : (text xs rest : List ℕ) → text ≡ xs ++ rest → before_rest text rest ≡ xs
taken_is text xs rest e =
    let n : length text - length rest ≡ length xs = omega (arith, ap length e, length-append xs rest) in
    ap (λ n. take n text) n ∙ ap (take (length xs)) e ∙ take-append_seam xs rest

-- a choice of two, for each of which it is known
pub by_choice : {A : Type 0} (P : A → Type 0) (b : Bool) (x y : A) → (b ≡ true → P x) → (b ≡ false → P y)
    → P (if b then x else y)
by_choice P true x y h k = h refl
by_choice P false x y h k = k refl

-- What was taken begins the text, and where the token is not the end of the source, it is something.
pub record IsTaken (text : List ℕ) (reading : Reading) : Type 0 where
  pub here : text ≡ reading.taken ++ reading.rest
  pub some : reading.kind ≢ Eof → reading.taken ≢ []

pub is_taken : (text : List ℕ) (reading : Reading) (xs : List ℕ) → reading.taken ≡ before_rest text reading.rest
    → text ≡ xs ++ reading.rest → (reading.kind ≢ Eof → xs ≢ []) → IsTaken text reading
is_taken text reading xs taken e some =
    let same = taken ∙ taken_is text xs reading.rest e in
    record {
      here = e ∙ ap (λ ys. ys ++ reading.rest) (sym same);
      some = λ kind none. some kind (sym same ∙ none);
    }

-- what reaches the end of the source as its end
pub end_is_taken : (text : List ℕ) (reading : Reading) → reading.taken ≡ before_rest text reading.rest
    → reading.kind ≡ Eof → reading.rest ≡ [] → IsTaken text reading
end_is_taken text reading taken kind rest =
    is_taken text reading text taken (sym (append-nil text) ∙ ap (λ ys. text ++ ys) (sym rest))
    (λ some. absurd (some kind))

-- The text of a token, of so many bytes, that is moved is its text at the other place.
start_moved : (b : Bool) (place : ℕ) → place + (if b then 0 + 1 else 0) ≡ (if b then place + 1 else place)
start_moved true place = refl
start_moved false place = add-zero place

end_moved : (b : Bool) (place size closing : ℕ) → (b ≡ true → closing ≤ size)
    → place + (if b then size - closing else size) ≡ (if b then (place + size) - closing else place + size)
end_moved true place size closing h = let enough = h refl in omega arith
end_moved false place size closing h = refl

pub unescaped_value_moved : (kind : Kind) (place size : ℕ) → (is_quoted kind ≡ true → closing_length kind ≤ size)
    → moved_value place (unescaped_value kind 0 size) ≡ unescaped_value kind place (place + size)
unescaped_value_moved kind place size marks =
    by_value (is_valued kind) (text_slice kind 0 size) (text_slice kind place (place + size))
    (ap (λ n. Slice (record { start = n; end = place + text_end kind size }))
    (start_moved (is_private_name kind || is_quoted kind) place)
    ∙ ap (λ n. Slice (record { start = text_start kind place; end = n }))
    (end_moved (is_quoted kind) place size (closing_length kind) marks))
  where
    by_value : (b : Bool) (x y : RowValue) → moved_value place x ≡ y
        → moved_value place (if b then x else Nothing) ≡ (if b then y else Nothing)
    by_value true x y e = e
    by_value false x y e = refl
