-- Where lines begin, and what stands on a line before an offset.
use Rattle.std.proofs.Common.{◌≡◌, ℕ, ◌+◌, ◌-◌, ◌<◌, ◌≤◌, ◌^◌, ◌==◌, Bool, true, false, List, [], ◌∷◌, ◌++◌}
use Rattle.std.proofs.Common.{length, take, drop, get_or, refl, sym, ap, ◌∙◌, subst, arith, leb, suc, zero}
use Rattle.std.proofs.Common.{◌⊎◌, inl, inr, Option, Some, None, IfSome, slice_get, if◌then◌else◌, length-append, length-take, length-drop, add-zero}
use Rattle.std.specs.Char.{len_utf8}
use Rattle.std.specs.List.Sorted.{IsPartitionedBy, IsPartitionPoint}
use Rattle.std.specs.Str.{chars, encode_utf8_all, IsCharBoundary, IsUtf8}
use Rattle.std.proofs.lemmas.Bool.{leb-true, leb-false, le-leb, ne_eqb, eq-eqb}
use Rattle.std.proofs.lemmas.List.{append_assoc, append_cancel_right, take-append-drop, get_or_append_left, get_or-append_right, get_or_default}
use Rattle.std.proofs.lemmas.Option.{get_or_from_slice_get, slice_get_cases}
use Rattle.std.proofs.lemmas.Str.{IsUtf8-take, IsUtf8-between, IsCharBoundary-start, encodes-chars, chars-append}
use Rattle.std.proofs.lemmas.Str.{chars_from_encodes, len_utf8_bounds}
use Rattle.js_text.proofs.TextLemmas.{past_character}
use Rattle.js_text.specs.Characters.{from_place}
use Rattle.js_source.proofs.Places.{at_place, at_start, between, cut_between, next_place, past, rest_bytes, step_placed, step_rest}
use Rattle.js_source.specs.Source.{At, rest}
use Rattle.js_lines.proofs.ColumnLemmas.{bytes_length, front-le, length_in-append, length_in-le, IsTooLong, front_is}
use Rattle.js_lines.specs.Columns.{length_in}
use Rattle.js_lines.specs.Lines.{AreLineStarts, Lines, ends_line, lines_ended, last_line, line_starts, starts_behind}
use Rattle.js_lines.specs.Lines.{front_at, back_at, position_of}
use Rattle.js_lines.specs.declared.columns.ColumnUnit.{ColumnUnit}
use Rattle.js_lines.specs.declared.columns.Position.{Position}
use Rattle.js_lines.specs.declared.columns.ColumnUnit.TheVariants.{Bytes}
use Rattle.js_lines.specs.declared.line_ends.LineEnds.{LineEnds}

-- the place and the bytes of what is left make up the text
pub place_left : (s : At) → s.place + length_in Bytes (rest s) ≡ length s.text
place_left s =
    omega (
      arith,
      bytes_length (rest s),
      ap length (rest_bytes s),
      length-drop s.place s.text,
      s.placed.boundary.0,
    )

-- An offset is rounded down to a place between characters: the characters before and behind it are those of that place.
pub rounded : (text : List ℕ) (p q : ℕ) → IsUtf8 text → q ≤ p → IsCharBoundary text q
    → ((i : ℕ) → q < i → i ≤ p → IsCharBoundary text i → ⊥)
    → (front_at text p ≡ chars (take q text)) × (back_at text p ≡ from_place text q)
    × (chars text ≡ chars (take q text) ++ from_place text q) × (length_in Bytes (chars (take q text)) ≡ q)
rounded text p q u le b nearest =
    let xs = chars (take q text) in
    let ys = from_place text q in
    let whole : chars text ≡ xs ++ ys =
    ap chars (sym (take-append-drop q text)) ∙ chars-append (take q text) (drop q text) (IsUtf8-take text q u b) in
    let n : length_in Bytes xs ≡ q =
    omega (arith, bytes_length xs, ap length (encodes-chars _ (IsUtf8-take text q u b)), length-take q text, b.0) in
    let stops : IsTooLong Bytes (p - length_in Bytes xs) ys = rw n (too_long ys refl) in
    let cut = front_is Bytes p xs ys (omega (arith, n)) stops in
    (rw whole cut.0, rw whole cut.1, whole, n)
  where
    too_long : (ys : List ℕ) → from_place text q ≡ ys → IsTooLong Bytes (p - q) ys
    too_long [] e = tt
    too_long (y ∷ ys) e = by_test (leb (q + len_utf8 y) p) refl
      where
        by_test : (t : Bool) → leb (q + len_utf8 y) p ≡ t → p - q < len_utf8 y
        by_test true t =
            absurd (nearest (q + len_utf8 y) (omega (arith, (len_utf8_bounds y).0)) (leb-true _ _ t)
            (past_character text q y ys u b e).0)
        by_test false t = omega (arith, leb-false _ _ t)

-- the line starts behind the line ends in xs, where ys follow
abbrev pub front_starts : LineEnds → ℕ → List ℕ → List ℕ → List ℕ
front_starts ends at [] ys = []
front_starts ends at (c ∷ xs) ys =
    if ends_line ends c (xs ++ ys) then (at + len_utf8 c) ∷ front_starts ends (at + len_utf8 c) xs ys
    else front_starts ends (at + len_utf8 c) xs ys

pub starts_split : (ends : LineEnds) (at : ℕ) (xs ys : List ℕ)
    → starts_behind ends at (xs ++ ys) ≡ front_starts ends at xs ys ++ starts_behind ends (at + length_in Bytes xs) ys
starts_split ends at [] ys = ap (λ n. starts_behind ends n ys) (sym (add-zero at))
starts_split ends at (c ∷ xs) ys =
    let same : at + len_utf8 c + length_in Bytes xs ≡ at + (len_utf8 c + length_in Bytes xs) = omega arith in
    by_test (ends_line ends c (xs ++ ys))
    (starts_split ends (at + len_utf8 c) xs ys
    ∙ ap (λ n. front_starts ends (at + len_utf8 c) xs ys ++ starts_behind ends n ys) same)
  where
    by_test : (b : Bool)
        → starts_behind ends (at + len_utf8 c) (xs ++ ys)
        ≡ front_starts ends (at + len_utf8 c) xs ys ++ starts_behind ends (at + (len_utf8 c + length_in Bytes xs)) ys
        → (if b then (at + len_utf8 c) ∷ starts_behind ends (at + len_utf8 c) (xs ++ ys)
        else starts_behind ends (at + len_utf8 c) (xs ++ ys))
        ≡ (if b then (at + len_utf8 c) ∷ front_starts ends (at + len_utf8 c) xs ys
        else front_starts ends (at + len_utf8 c) xs ys)
        ++ starts_behind ends (at + (len_utf8 c + length_in Bytes xs)) ys
    by_test true more = ap (λ zs. (at + len_utf8 c) ∷ zs) more
    by_test false more = more

-- there is one for each line that ends
pub front_count : (ends : LineEnds) (at : ℕ) (xs ys : List ℕ)
    → length (front_starts ends at xs ys) ≡ lines_ended ends xs ys
front_count ends at [] ys = refl
front_count ends at (c ∷ xs) ys =
    by_test (ends_line ends c (xs ++ ys)) (front_count ends (at + len_utf8 c) xs ys)
  where
    by_test : (b : Bool) → length (front_starts ends (at + len_utf8 c) xs ys) ≡ lines_ended ends xs ys
        → length (if b then (at + len_utf8 c) ∷ front_starts ends (at + len_utf8 c) xs ys
        else front_starts ends (at + len_utf8 c) xs ys)
        ≡ (if b then suc (lines_ended ends xs ys) else lines_ended ends xs ys)
    by_test true e = ap suc e
    by_test false e = e

-- they stand no further than behind xs
pub front_below : (ends : LineEnds) (at : ℕ) (xs ys : List ℕ) (k : ℕ) → k < length (front_starts ends at xs ys)
    → get_or (front_starts ends at xs ys) k 0 ≤ at + length_in Bytes xs
front_below ends at [] ys k h = absurd (omega arith)
front_below ends at (c ∷ xs) ys k h =
    by_test (ends_line ends c (xs ++ ys)) k (front_below ends (at + len_utf8 c) xs ys) h
  where
    by_test : (b : Bool) (k : ℕ)
        → ((j : ℕ) → j < length (front_starts ends (at + len_utf8 c) xs ys)
        → get_or (front_starts ends (at + len_utf8 c) xs ys) j 0 ≤ at + len_utf8 c + length_in Bytes xs)
        → k < length (if b then (at + len_utf8 c) ∷ front_starts ends (at + len_utf8 c) xs ys
        else front_starts ends (at + len_utf8 c) xs ys)
        → get_or (if b then (at + len_utf8 c) ∷ front_starts ends (at + len_utf8 c) xs ys
        else front_starts ends (at + len_utf8 c) xs ys) k 0 ≤ at + (len_utf8 c + length_in Bytes xs)
    by_test true zero more lt = omega arith
    by_test true (suc k) more lt = omega (arith, more k (omega arith))
    by_test false k more lt = omega (arith, more k lt)

-- and the line starts behind a place stand behind it
pub starts_above : (ends : LineEnds) (at : ℕ) (cs : List ℕ) (k : ℕ) → k < length (starts_behind ends at cs)
    → at < get_or (starts_behind ends at cs) k 0
starts_above ends at [] k h = absurd (omega arith)
starts_above ends at (c ∷ cs) k h = by_test (ends_line ends c cs) k (starts_above ends (at + len_utf8 c) cs) h
  where
    by_test : (b : Bool) (k : ℕ)
        → ((j : ℕ) → j < length (starts_behind ends (at + len_utf8 c) cs)
        → at + len_utf8 c < get_or (starts_behind ends (at + len_utf8 c) cs) j 0)
        → k < length (if b then (at + len_utf8 c) ∷ starts_behind ends (at + len_utf8 c) cs
        else starts_behind ends (at + len_utf8 c) cs)
        → at < get_or (if b then (at + len_utf8 c) ∷ starts_behind ends (at + len_utf8 c) cs
        else starts_behind ends (at + len_utf8 c) cs) k 0
    by_test true zero more lt = omega (arith, (len_utf8_bounds c).0)
    by_test true (suc k) more lt = omega (arith, more k (omega arith))
    by_test false k more lt = omega (arith, more k lt)

-- Two lists, of which the first has numbers up to p and the second such above p: a search by halves finds the seam.
pub partitioned : (p : ℕ) (fs gs : List ℕ) → ((k : ℕ) → k < length fs → get_or fs k 0 ≤ p)
    → ((k : ℕ) → k < length gs → p < get_or gs k 0)
    → IsPartitionedBy (λ y. leb y p) (fs ++ gs)
partitioned p fs gs below above = λ i j d le lt test. by_side i j d le lt test (leb (length fs) j) refl
  where
    by_side : (i j d : ℕ) → i ≤ j → j < length (fs ++ gs) → leb (get_or (fs ++ gs) j d) p ≡ true → (t : Bool)
        → leb (length fs) j ≡ t → leb (get_or (fs ++ gs) i d) p ≡ true
    by_side i j d le lt test true t =
        let past = leb-true _ _ t in
        let within : j - length fs < length gs = omega (arith, length-append fs gs, past) in
        let there : get_or (fs ++ gs) j d ≡ get_or gs (j - length fs) 0 =
        get_or-append_right fs gs (length fs) j d refl past ∙ get_or_default gs (j - length fs) d 0 within in
        absurd (omega (arith, above (j - length fs) within, leb-true _ _ test, there))
    by_side i j d le lt test false t =
        let within : i < length fs = omega (arith, leb-false _ _ t) in
        let here : get_or (fs ++ gs) i d ≡ get_or fs i 0 =
        get_or_append_left fs gs d i within ∙ get_or_default fs i d 0 within in
        le-leb _ _ (omega (arith, below i within, here))

pub seam_found : (p r : ℕ) (fs gs : List ℕ) → ((k : ℕ) → k < length fs → get_or fs k 0 ≤ p)
    → ((k : ℕ) → k < length gs → p < get_or gs k 0)
    → r ≤ length (fs ++ gs)
    → IsPartitionPoint (λ y. leb y p ≡ true) (λ y. leb y p ≡ false) (fs ++ gs) r → r ≡ length fs
seam_found p r fs gs below above bound point = omega (arith, not_below, not_above)
  where
    not_below : length fs ≤ r
    not_below = by_test (leb (length fs) r) refl
      where
        by_test : (t : Bool) → leb (length fs) r ≡ t → length fs ≤ r
        by_test true t = leb-true _ _ t
        by_test false t =
            let within : r < length fs = leb-false _ _ t in
            let fails = point.1 r 0 (omega arith) (omega (arith, length-append fs gs, within)) in
            let here : get_or (fs ++ gs) r 0 ≡ get_or fs r 0 = get_or_append_left fs gs 0 r within in
            absurd (omega (arith, leb-false _ _ fails, below r within, here))

    not_above : r ≤ length fs
    not_above = by_test (leb r (length fs)) refl
      where
        by_test : (t : Bool) → leb r (length fs) ≡ t → r ≤ length fs
        by_test true t = leb-true _ _ t
        by_test false t =
            let past : length fs < r = leb-false _ _ t in
            let passes = point.0 (length fs) 0 (omega arith) past in
            let within : 0 < length gs = omega (arith, length-append fs gs, past, bound) in
            let there : get_or (fs ++ gs) (length fs) 0 ≡ get_or gs (length fs - length fs) 0 =
            get_or-append_right fs gs (length fs) (length fs) 0 refl (omega arith) in
            let first : length fs - length fs ≡ 0 = omega arith in
            absurd (omega
            (arith, leb-true _ _ passes, above 0 within, there, ap (λ k. get_or gs k 0) first))

-- the start of the line on which the end of xs stands: the characters of that line lie between
pub start_of_line : (ends : LineEnds) (at : ℕ) (xs ys : List ℕ)
    → get_or (at ∷ front_starts ends at xs ys) (lines_ended ends xs ys) 0 + length_in Bytes (last_line ends xs ys)
    ≡ at + length_in Bytes xs
start_of_line ends at [] ys = refl
start_of_line ends at (c ∷ xs) ys =
    by_test (ends_line ends c (xs ++ ys)) (lines_ended ends xs ys) refl (start_of_line ends (at + len_utf8 c) xs ys)
  where
    by_test : (b : Bool) (n : ℕ) → lines_ended ends xs ys ≡ n
        → get_or ((at + len_utf8 c) ∷ front_starts ends (at + len_utf8 c) xs ys) n 0
        + length_in Bytes (last_line ends xs ys)
        ≡ at + len_utf8 c + length_in Bytes xs
        → get_or (at ∷ (if b then (at + len_utf8 c) ∷ front_starts ends (at + len_utf8 c) xs ys
        else front_starts ends (at + len_utf8 c) xs ys)) (if b then suc n else n) 0
        + length_in Bytes (if (if b then suc n else n) == 0 then c ∷ xs else last_line ends xs ys)
        ≡ at + (len_utf8 c + length_in Bytes xs)
    by_test true n e more =
        let some : (suc n == 0) ≡ false = ne_eqb (suc n) 0 (λ no. absurd (omega arith)) in rw some (omega (arith, more))
    by_test false zero e more = refl
    by_test false (suc n) e more =
        let some : (suc n == 0) ≡ false = ne_eqb (suc n) 0 (λ no. absurd (omega arith)) in rw some (omega (arith, more))

-- the last line is the end of the characters
pub last_line_is_end : (ends : LineEnds) (xs ys : List ℕ) → (us : List ℕ) × (xs ≡ us ++ last_line ends xs ys)
last_line_is_end ends [] ys = ([], refl)
last_line_is_end ends (c ∷ xs) ys = by_test (lines_ended ends (c ∷ xs) ys == 0) (last_line_is_end ends xs ys)
  where
    by_test : (b : Bool) → ((us : List ℕ) × (xs ≡ us ++ last_line ends xs ys))
        → (us : List ℕ) × (c ∷ xs ≡ us ++ (if b then c ∷ xs else last_line ends xs ys))
    by_test true more = ([], refl)
    by_test false more = (c ∷ more.0, ap (λ zs. c ∷ zs) more.1)

pub lines_ended-le : (ends : LineEnds) (xs ys : List ℕ) → lines_ended ends xs ys ≤ length_in Bytes xs
lines_ended-le ends [] ys = omega arith
lines_ended-le ends (c ∷ xs) ys = by_test (ends_line ends c (xs ++ ys)) (lines_ended-le ends xs ys)
  where
    by_test : (b : Bool) → lines_ended ends xs ys ≤ length_in Bytes xs
        → (if b then suc (lines_ended ends xs ys) else lines_ended ends xs ys) ≤ len_utf8 c + length_in Bytes xs
    by_test true le = omega (arith, le, (len_utf8_bounds c).0)
    by_test false le = omega (arith, le)

-- a search by halves for a place between characters finds the line behind the one on which it stands
pub line_found : (ends : LineEnds) (text starts : List ℕ) (p r : ℕ) → AreLineStarts ends text starts
    → r ≤ length starts
    → (IsPartitionedBy (λ y. leb y p) starts
    → IsPartitionPoint (λ y. leb y p ≡ true) (λ y. leb y p ≡ false) starts r)
    → (xs ys : List ℕ) → chars text ≡ xs ++ ys → p ≡ length_in Bytes xs → r ≡ suc (lines_ended ends xs ys)
line_found ends text starts p r are bound point xs ys whole at =
    seam_found p r (0 ∷ front_starts ends 0 xs ys) (starts_behind ends (0 + length_in Bytes xs) ys) below above
    (subst (λ zs. r ≤ length zs) same bound)
    (subst (λ zs. IsPartitionedBy (λ y. leb y p) zs
    → IsPartitionPoint (λ y. leb y p ≡ true) (λ y. leb y p ≡ false) zs r) same point
    (partitioned p (0 ∷ front_starts ends 0 xs ys) (starts_behind ends (0 + length_in Bytes xs) ys) below above))
    ∙ ap suc (front_count ends 0 xs ys)
  where
    same : starts ≡ (0 ∷ front_starts ends 0 xs ys) ++ starts_behind ends (0 + length_in Bytes xs) ys
    same = are.starts_are ∙ ap (λ cs. 0 ∷ starts_behind ends 0 cs) whole ∙ ap (λ zs. 0 ∷ zs) (starts_split ends 0 xs ys)

    below : (k : ℕ) → k < length (0 ∷ front_starts ends 0 xs ys) → get_or (0 ∷ front_starts ends 0 xs ys) k 0 ≤ p
    below zero lt = omega arith
    below (suc k) lt = omega (arith, front_below ends 0 xs ys k (omega arith), at)

    above : (k : ℕ) → k < length (starts_behind ends (0 + length_in Bytes xs) ys)
        → p < get_or (starts_behind ends (0 + length_in Bytes xs) ys) k 0
    above k lt = omega (arith, starts_above ends (0 + length_in Bytes xs) ys k lt, at)

-- the characters before and behind a place between characters
pub record Cut (text : List ℕ) (p : ℕ) : Type 0 where
  pub front : List ℕ
  pub whole : chars text ≡ front ++ from_place text p
  pub bytes : p ≡ length_in Bytes front

pub cut_at : (text : List ℕ) (p : ℕ) → IsUtf8 text → IsCharBoundary text p → Cut text p
cut_at text p u b =
    let found = rounded text p p u (omega arith) b (λ i lt le here. absurd (omega (arith, lt, le))) in
    record { front = chars (take p text); whole = found.2; bytes = sym found.3 }

-- Where the line begins on which a place stands.
pub record LineBegins (ends : LineEnds) (text xs ys : List ℕ) (start : ℕ) : Type 0 where
  pub onward : start ≤ length_in Bytes xs
  pub boundary : IsCharBoundary text start
  pub here : from_place text start ≡ last_line ends xs ys ++ ys

pub line_begins : (ends : LineEnds) (text starts xs ys : List ℕ) → AreLineStarts ends text starts
    → chars text ≡ xs ++ ys
    → (lines_ended ends xs ys < length starts)
    × LineBegins ends text xs ys (get_or starts (lines_ended ends xs ys) 0)
line_begins ends text starts xs ys are whole = (within, begins)
  where
    same : starts ≡ (0 ∷ front_starts ends 0 xs ys) ++ starts_behind ends (0 + length_in Bytes xs) ys
    same = are.starts_are ∙ ap (λ cs. 0 ∷ starts_behind ends 0 cs) whole ∙ ap (λ zs. 0 ∷ zs) (starts_split ends 0 xs ys)

    inside : lines_ended ends xs ys < length (0 ∷ front_starts ends 0 xs ys)
    inside = omega (arith, front_count ends 0 xs ys)

    within : lines_ended ends xs ys < length starts
    within = omega (
      arith,
      inside,
      ap length same,
      length-append (0 ∷ front_starts ends 0 xs ys) (starts_behind ends (0 + length_in Bytes xs) ys),
    )

    there : get_or starts (lines_ended ends xs ys) 0 ≡ get_or (0 ∷ front_starts ends 0 xs ys) (lines_ended ends xs ys) 0
    there =
        ap (λ zs. get_or zs (lines_ended ends xs ys) 0) same
        ∙ get_or_append_left (0 ∷ front_starts ends 0 xs ys) (starts_behind ends (0 + length_in Bytes xs) ys) 0 _ inside

    begins : LineBegins ends text xs ys (get_or starts (lines_ended ends xs ys) 0)
    begins =
        let end = last_line_is_end ends xs ys in
        let sum = start_of_line ends 0 xs ys in
        let parts = length_in-append Bytes end.0 (last_line ends xs ys) in
        let bytes : length_in Bytes xs ≡ length_in Bytes (end.0 ++ last_line ends xs ys) = ap (length_in Bytes) end.1 in
        let place : 0 + length (encode_utf8_all end.0) ≡ get_or starts (lines_ended ends xs ys) 0 =
        omega (arith, there, sum, parts, bytes, bytes_length end.0) in
        let start = at_place text 0 (at_start text are.utf8 are.short) in
        let all : rest start ≡ end.0 ++ (last_line ends xs ys ++ ys) =
        whole ∙ ap (λ zs. zs ++ ys) end.1 ∙ append_assoc end.0 (last_line ends xs ys) ys in
        let behind = past end.0 (last_line ends xs ys ++ ys) start all in
        subst (LineBegins ends text xs ys) place (record {
          onward = omega (arith, parts, bytes, bytes_length end.0);
          boundary = behind.0.boundary;
          here = behind.1;
        })

-- the characters between two places
pub chars_between : (text : List ℕ) (from to : ℕ) (xs : List ℕ) → IsUtf8 text → from ≤ to → IsCharBoundary text from
    → IsCharBoundary text to → from_place text from ≡ xs ++ from_place text to
    → chars (take (to - from) (drop from text)) ≡ xs
chars_between text from to xs u le f t e =
    sym (chars_from_encodes xs (take (to - from) (drop from text)) (IsUtf8-between text from to u le f t)
    (sym (between text from to u le f t xs e)))

-- each line begins between characters
pub starts_bounded : (ends : LineEnds) (s : At) (cs : List ℕ) (k : ℕ) → rest s ≡ cs
    → k < length (starts_behind ends s.place cs) → IsCharBoundary s.text (get_or (starts_behind ends s.place cs) k 0)
starts_bounded ends s [] k e lt = absurd (omega arith)
starts_bounded ends s (c ∷ cs) k e lt =
    by_test (ends_line ends c cs) k (λ j. starts_bounded ends (next_place s c cs e) cs j (step_rest s c cs e)) lt
  where
    by_test : (b : Bool) (k : ℕ)
        → ((j : ℕ) → j < length (starts_behind ends (s.place + len_utf8 c) cs)
        → IsCharBoundary s.text (get_or (starts_behind ends (s.place + len_utf8 c) cs) j 0))
        → k < length (if b then (s.place + len_utf8 c) ∷ starts_behind ends (s.place + len_utf8 c) cs
        else starts_behind ends (s.place + len_utf8 c) cs)
        → IsCharBoundary s.text (get_or (if b then (s.place + len_utf8 c)
        ∷ starts_behind ends (s.place + len_utf8 c) cs else starts_behind ends (s.place + len_utf8 c) cs) k 0)
    by_test true zero more lt = (step_placed s c cs e).boundary
    by_test true (suc k) more lt = more k (omega arith)
    by_test false k more lt = more k lt

pub start_bounded : (ends : LineEnds) (text starts : List ℕ) (k start : ℕ) → AreLineStarts ends text starts
    → slice_get (line_starts ends text) k ≡ Some start → IsCharBoundary text start
start_bounded ends text starts k start are found =
    let none_past : k < length (line_starts ends text) = within (slice_get_cases (line_starts ends text) k) in
    subst (IsCharBoundary text) (get_or_from_slice_get (line_starts ends text) k start 0 found) (by_number k none_past)
  where
    within : ((slice_get (line_starts ends text) k ≡ slice_get (line_starts ends text) k)
        × (((x : ℕ) × (k < length (line_starts ends text)) × (slice_get (line_starts ends text) k ≡ Some x)
        × (get_or (line_starts ends text) k x ≡ x))
        ⊎ ((length (line_starts ends text) ≤ k) × (slice_get (line_starts ends text) k ≡ None))))
        → k < length (line_starts ends text)
    within cases = elim cases.1 [ inl h ↦ h.1 | inr h ↦ absurd (let both = sym found ∙ h.1 in cc) ]

    by_number : (j : ℕ) → j < length (line_starts ends text) → IsCharBoundary text (get_or (line_starts ends text) j 0)
    by_number zero lt = IsCharBoundary-start text are.utf8
    by_number (suc j) lt =
        starts_bounded ends (at_place text 0 (at_start text are.utf8 are.short)) (chars text) j refl (omega arith)

-- the view of a table tells where its lines begin
pub of_view : (text starts : List ℕ) (ends : LineEnds) (lines : Lines) → record { text = text; ends = ends } ≡ lines
    → AreLineStarts ends text starts → AreLineStarts lines.ends lines.text starts
of_view text starts ends lines e are =
    subst (λ (v : Lines). AreLineStarts v.ends v.text starts) e are

-- a text has as many bytes as its characters
pub bytes_of_text : (text : List ℕ) → IsUtf8 text → length text ≡ length_in Bytes (chars text)
bytes_of_text text u = omega (arith, bytes_length (chars text), ap length (encodes-chars text u))

pub some_bounded : (ends : LineEnds) (text starts : List ℕ) (k : ℕ) → AreLineStarts ends text starts → (r : Option ℕ)
    → r ≡ slice_get (line_starts ends text) k → IfSome r (IsCharBoundary text)
some_bounded ends text starts k are None e = tt
some_bounded ends text starts k are (Some start) e = start_bounded ends text starts k start are (sym e)

-- What is known of the line on which an offset stands, once the offset is rounded down and the line's number is found.
pub record Locates (lines : Lines) (starts : List ℕ) (offset at line : ℕ) : Type 0 where
  pub line_is : line ≡ lines_ended lines.ends (front_at lines.text offset) (back_at lines.text offset)
  pub back_is : back_at lines.text offset ≡ from_place lines.text at
  pub within : line < length starts
  pub short : line ≤ at
  pub onward : get_or starts line 0 ≤ at
  pub boundary : IsCharBoundary lines.text (get_or starts line 0)
  pub before : chars (take (at - get_or starts line 0) (drop (get_or starts line 0) lines.text))
      ≡ last_line lines.ends (front_at lines.text offset) (back_at lines.text offset)

pub locates : (lines : Lines) (starts text : List ℕ) (offset at line : ℕ)
    → AreLineStarts lines.ends lines.text starts → text ≡ lines.text → at ≤ offset → IsCharBoundary text at
    → ((i : ℕ) → at < i → i ≤ offset → IsCharBoundary text i → ⊥)
    → ((xs ys : List ℕ) → chars lines.text ≡ xs ++ ys → at ≡ length_in Bytes xs
    → line ≡ lines_ended lines.ends xs ys)
    → Locates lines starts offset at line
locates lines starts text offset at line are same le b nearest number =
    let b' : IsCharBoundary lines.text at = subst (λ t. IsCharBoundary t at) same b in
    let found = rounded lines.text offset at are.utf8 le b'
    (λ i lt up here. nearest i lt up (subst (λ t. IsCharBoundary t i) (sym same) here)) in
    let front : front_at lines.text offset ≡ chars (take at lines.text) = found.0 in
    let back : back_at lines.text offset ≡ from_place lines.text at = found.1 in
    let line_is : line ≡ lines_ended lines.ends (chars (take at lines.text)) (from_place lines.text at) =
    number (chars (take at lines.text)) (from_place lines.text at) found.2 (sym found.3) in
    let begins = line_begins lines.ends lines.text starts (chars (take at lines.text)) (from_place lines.text at) are
    found.2 in
    subst (Locates lines starts offset at) (sym line_is) (record {
      line_is = ap (λ xs. lines_ended lines.ends xs (from_place lines.text at)) (sym front)
          ∙ ap (lines_ended lines.ends (front_at lines.text offset)) (sym back);
      back_is = back;
      within = begins.0;
      short = omega (
        arith,
        lines_ended-le lines.ends (chars (take at lines.text)) (from_place lines.text at),
        found.3,
      );
      onward = omega (arith, begins.1.onward, found.3);
      boundary = begins.1.boundary;
      before = chars_between lines.text _ at (last_line lines.ends (chars (take at lines.text))
          (from_place lines.text at)) are.utf8 (omega (arith, begins.1.onward, found.3)) begins.1.boundary b'
          begins.1.here
          ∙ ap (λ xs. last_line lines.ends xs (from_place lines.text at)) (sym front)
          ∙ ap (last_line lines.ends (front_at lines.text offset)) (sym back);
    })

-- Where the characters of a text are cut in two, the bytes of the first ones are a place between characters.
pub cut_in_two : (text xs ys : List ℕ) (p : ℕ) → IsUtf8 text → length text < 2 ^ 32 → chars text ≡ xs ++ ys
    → p ≡ length_in Bytes xs
    → IsCharBoundary text p × (chars (take p text) ≡ xs) × (chars (drop p text) ≡ ys)
cut_in_two text xs ys p u short whole at =
    let start = at_place text 0 (at_start text u short) in
    let behind = past xs ys start whole in
    let place : 0 + length (encode_utf8_all xs) ≡ p = omega (arith, at, bytes_length xs) in
    let found = subst (λ n. IsCharBoundary text n × (from_place text n ≡ ys)) place (behind.0.boundary, behind.1) in
    let halves : chars text ≡ chars (take p text) ++ from_place text p =
    ap chars (sym (take-append-drop p text)) ∙ chars-append (take p text) (drop p text) (IsUtf8-take text p u found.0) in (
      found.0,
      append_cancel_right (chars (take p text)) xs ys
          (ap (λ zs. chars (take p text) ++ zs) (sym found.1) ∙ sym halves ∙ whole),
      found.1,
    )

-- behind characters in which no line ends, the line goes on
pub lines_ended-append : (ends : LineEnds) (xs zs ys : List ℕ)
    → lines_ended ends (xs ++ zs) ys ≡ lines_ended ends xs (zs ++ ys) + lines_ended ends zs ys
lines_ended-append ends [] zs ys = omega arith
lines_ended-append ends (c ∷ xs) zs ys =
    by_test (ends_line ends c (xs ++ (zs ++ ys))) (ap (ends_line ends c) (append_assoc xs zs ys))
    (lines_ended-append ends xs zs ys)
  where
    by_test : (b : Bool) → ends_line ends c ((xs ++ zs) ++ ys) ≡ b
        → lines_ended ends (xs ++ zs) ys ≡ lines_ended ends xs (zs ++ ys) + lines_ended ends zs ys
        → (if ends_line ends c ((xs ++ zs) ++ ys) then suc (lines_ended ends (xs ++ zs) ys)
        else lines_ended ends (xs ++ zs) ys)
        ≡ (if b then suc (lines_ended ends xs (zs ++ ys)) else lines_ended ends xs (zs ++ ys))
        + lines_ended ends zs ys
    by_test true e more = rw e (omega (arith, more))
    by_test false e more = rw e (omega (arith, more))

pub last_line-append : (ends : LineEnds) (xs zs ys : List ℕ) → lines_ended ends zs ys ≡ 0
    → last_line ends (xs ++ zs) ys ≡ last_line ends xs (zs ++ ys) ++ zs
last_line-append ends [] [] ys none = refl
last_line-append ends [] (z ∷ zs) ys none =
    let first : (lines_ended ends (z ∷ zs) ys == 0) ≡ true = eq-eqb _ 0 none in rw first refl
last_line-append ends (c ∷ xs) zs ys none =
    let same : lines_ended ends (c ∷ (xs ++ zs)) ys ≡ lines_ended ends (c ∷ xs) (zs ++ ys) =
    omega (arith, lines_ended-append ends (c ∷ xs) zs ys, none) in
    by_test (lines_ended ends (c ∷ xs) (zs ++ ys) == 0) (ap (λ n. n == 0) same) (last_line-append ends xs zs ys none)
  where
    by_test : (b : Bool) → (lines_ended ends (c ∷ (xs ++ zs)) ys == 0) ≡ b
        → last_line ends (xs ++ zs) ys ≡ last_line ends xs (zs ++ ys) ++ zs
        → (if lines_ended ends (c ∷ (xs ++ zs)) ys == 0 then c ∷ (xs ++ zs) else last_line ends (xs ++ zs) ys)
        ≡ (if b then c ∷ xs else last_line ends xs (zs ++ ys)) ++ zs
    by_test true e more = rw e refl
    by_test false e more = rw e more

-- the line and the column behind the characters xs, where ys follow them
abbrev pub place_between : LineEnds → ColumnUnit → List ℕ → List ℕ → Position
place_between ends unit xs ys =
    record { line = lines_ended ends xs ys; column = length_in unit (last_line ends xs ys) }

-- a place further on by so much
abbrev pub moved_on : Position → ℕ → Position
moved_on p n = record { line = p.line; column = p.column + n }

grown : (ends : LineEnds) (unit : ColumnUnit) (xs zs ys : List ℕ)
    → lines_ended ends (xs ++ zs) ys ≡ lines_ended ends xs (zs ++ ys)
    → place_between ends unit (xs ++ zs) ys ≡ moved_on (place_between ends unit xs (zs ++ ys)) (length_in unit zs)
grown ends unit xs zs ys same =
    let none : lines_ended ends zs ys ≡ 0 = omega (arith, lines_ended-append ends xs zs ys, same) in
    let column : length_in unit (last_line ends (xs ++ zs) ys)
    ≡ length_in unit (last_line ends xs (zs ++ ys)) + length_in unit zs =
    ap (length_in unit) (last_line-append ends xs zs ys none)
    ∙ length_in-append unit (last_line ends xs (zs ++ ys)) zs in
    ap (λ n. place_with n (length_in unit (last_line ends (xs ++ zs) ys))) same
    ∙ ap (place_with (lines_ended ends xs (zs ++ ys))) column
  where
    place_with : ℕ → ℕ → Position
    place_with line column = record { line = line; column = column }

-- what stands from a place on begins with what stands up to a later one
joined : (text : List ℕ) (start end : ℕ) → IsUtf8 text → start ≤ end → IsCharBoundary text start
    → IsCharBoundary text end
    → from_place text start ≡ chars (take (end - start) (drop start text)) ++ from_place text end
joined text start end u le b b' =
    ap chars (sym (cut_between text start end le))
    ∙ chars-append (take (end - start) (drop start text)) (drop end text) (IsUtf8-between text start end u le b b')

-- The place of an offset from that of an earlier one on the same line: what stands between makes the difference.
pub position_on : (ends : LineEnds) (unit : ColumnUnit) (text : List ℕ) (from to start end : ℕ) → IsUtf8 text
    → start ≤ from → IsCharBoundary text start
    → ((i : ℕ) → start < i → i ≤ from → IsCharBoundary text i → ⊥)
    → end ≤ to → IsCharBoundary text end
    → ((i : ℕ) → end < i → i ≤ to → IsCharBoundary text i → ⊥)
    → start ≤ end
    → ((xs ys : List ℕ) → chars text ≡ xs ++ ys → end ≡ length_in Bytes xs
    → lines_ended ends xs ys ≡ (position_of ends unit text from).line)
    → position_of ends unit text to
    ≡ moved_on (position_of ends unit text from) (length_in unit (chars (take (end - start) (drop start text))))
position_on ends unit text from to start end u le b near le' b' near' order number =
    let old = rounded text from start u le b near in
    let new = rounded text to end u le' b' near' in
    let xs : List ℕ = chars (take start text) in
    let zs : List ℕ = chars (take (end - start) (drop start text)) in
    let ys : List ℕ = from_place text end in
    let between_them : from_place text start ≡ zs ++ ys = joined text start end u order b b' in
    let front : chars (take end text) ≡ xs ++ zs =
    append_cancel_right (chars (take end text)) (xs ++ zs) ys
    (sym new.2 ∙ old.2 ∙ ap (λ cs. xs ++ cs) between_them ∙ sym (append_assoc xs zs ys)) in
    let from_is : position_of ends unit text from ≡ place_between ends unit xs (zs ++ ys) =
    ap (λ cs. place_between ends unit cs (back_at text from)) old.0
    ∙ ap (place_between ends unit xs) (old.1 ∙ between_them) in
    let to_is : position_of ends unit text to ≡ place_between ends unit (xs ++ zs) ys =
    ap (λ cs. place_between ends unit cs (back_at text to)) (new.0 ∙ front)
    ∙ ap (place_between ends unit (xs ++ zs)) new.1 in
    let same : lines_ended ends (xs ++ zs) ys ≡ lines_ended ends xs (zs ++ ys) =
    ap (λ cs. lines_ended ends cs ys) (sym front) ∙ number (chars (take end text)) ys new.2 (sym new.3)
    ∙ ap (λ (p : Position). p.line) from_is in
    to_is ∙ grown ends unit xs zs ys same ∙ ap (λ (p : Position). moved_on p (length_in unit zs)) (sym from_is)

-- no column is longer than the text
pub column_le : (ends : LineEnds) (unit : ColumnUnit) (text : List ℕ) (p : ℕ) → IsUtf8 text
    → (position_of ends unit text p).column ≤ length text
column_le ends unit text p u =
    let end = last_line_is_end ends (front_at text p) (back_at text p) in
    let line : List ℕ = last_line ends (front_at text p) (back_at text p) in
    let bytes : length_in Bytes (front_at text p) ≡ length_in Bytes (end.0 ++ line) = ap (length_in Bytes) end.1 in
    omega (
      arith,
      length_in-le unit line,
      length_in-append Bytes end.0 line,
      bytes,
      front-le Bytes p (chars text),
      bytes_of_text text u,
    )
