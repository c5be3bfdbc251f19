-- Places on both sides of a gap, and the last of rising places up to one.
use Rattle.std.proofs.Common.{◌≡◌, ℕ, ◌+◌, ◌-◌, ◌<◌, ◌≤◌, Bool, true, false, List, [], ◌∷◌, ◌++◌, length, get_or}
use Rattle.std.proofs.Common.{take, drop, refl, sym, ap, ◌∙◌, arith, leb, map, reverse, add-one, length-append, length-drop}
use Rattle.std.proofs.lemmas.Bool.{leb-true, leb-false}
use Rattle.std.proofs.lemmas.List.{append_assoc, drop-drop, drop_at, get_or-append_right, get_or-map, get_or-reverse}
use Rattle.std.proofs.lemmas.List.{get_or_append_left, get_or_push, get_or_read, map_more, take-append-le}
use Rattle.std.proofs.lemmas.List.{length-map, length-reverse, map-append, reverse-append, take-append-drop}
use Rattle.js_edited_lines.specs.Starts.{IsLastUpTo, turned}

pub length_turned : (n : ℕ) (ds : List ℕ) → length (turned n ds) ≡ length ds
length_turned n ds = length-map (reverse ds) (λ d. n - d) ∙ length-reverse ds

pub turned_append : (n : ℕ) (xs ys : List ℕ) → turned n (xs ++ ys) ≡ turned n ys ++ turned n xs
turned_append n xs ys =
    ap (map (λ d. n - d)) (reverse-append xs ys) ∙ map-append (λ d. n - d) (reverse ys) (reverse xs)

-- the nearest of the places behind the gap is the first
pub turned_push : (n : ℕ) (ds : List ℕ) (d : ℕ) → turned n (ds ++ d ∷ []) ≡ (n - d) ∷ turned n ds
turned_push n ds d = turned_append n ds (d ∷ [])

-- to cut the list behind the gap short leaves out places near the gap
pub turned_take : (n k : ℕ) (ds : List ℕ) → turned n (take k ds) ≡ drop (length ds - k) (turned n ds)
turned_take n k ds =
    sym (drop_at (turned n (drop k ds)) (turned n (take k ds)) (length ds - k)
    (length_turned n (drop k ds) ∙ length-drop k ds))
    ∙ ap (drop (length ds - k)) (sym (turned_append n (take k ds) (drop k ds)) ∙ ap (turned n) (take-append-drop k ds))

-- the place with a number behind the gap
pub turned_at : (n k : ℕ) (ds : List ℕ) → k < length ds
    → get_or (turned n ds) k 0 ≡ n - get_or ds (length ds - 1 - k) 0
turned_at n k ds lt =
    get_or-map (λ d. n - d) (reverse ds) k 0 0 (omega (arith, length-reverse ds))
    ∙ ap (λ d. n - d) (get_or-reverse ds k 0 lt)

-- the place of a line that begins behind the gap
pub behind_at : (n line k place : ℕ) (before ds : List ℕ) → length before ≤ line
    → line < length (before ++ turned n ds) → k ≡ length (before ++ turned n ds) - 1 - line
    → place ≡ get_or ds k place
    → n - place ≡ get_or (before ++ turned n ds) line 0
behind_at n line k place before ds le lt at read =
    let whole : length (before ++ turned n ds) ≡ length before + length ds =
    length-append before (turned n ds) ∙ ap (λ m. length before + m) (length_turned n ds) in
    let within : k < length ds = omega (arith, whole, at, le, lt) in
    let there : line - length before < length ds = omega (arith, whole, le, lt) in
    let same : length ds - 1 - (line - length before) ≡ k = omega (arith, whole, at, le, lt) in
    ap (λ p. n - p) (get_or_read ds k place within read 0)
    ∙ ap (λ j. n - get_or ds j 0) (sym same)
    ∙ sym (get_or-append_right before (turned n ds) (length before) line 0 refl le
    ∙ turned_at n (line - length before) ds there)

-- Two lists, of which the first has places up to p and the second such above p: the last up to p ends the first.
pub last_is : (fs gs : List ℕ) (p line : ℕ) → 0 < length fs
    → ((k : ℕ) → k < length fs → get_or fs k 0 ≤ p)
    → ((k : ℕ) → k < length gs → p < get_or gs k 0)
    → IsLastUpTo (fs ++ gs) p line → line + 1 ≡ length fs
last_is fs gs p line some below above last = omega (arith, not_past, not_before)
  where
    not_past : line < length fs
    not_past = by_test (leb (length fs) line) refl
      where
        by_test : (t : Bool) → leb (length fs) line ≡ t → line < length fs
        by_test true t =
            let past : length fs ≤ line = leb-true _ _ t in
            let within : line - length fs < length gs = omega (arith, length-append fs gs, past, last.within) in
            let there : get_or (fs ++ gs) line 0 ≡ get_or gs (line - length fs) 0 =
            get_or-append_right fs gs (length fs) line 0 refl past in
            absurd (omega (arith, above (line - length fs) within, last.here (omega (arith, some, past)), there))
        by_test false t = leb-false _ _ t

    not_before : length fs ≤ line + 1
    not_before = by_test (leb (length fs) (line + 1)) refl
      where
        by_test : (t : Bool) → leb (length fs) (line + 1) ≡ t → length fs ≤ line + 1
        by_test true t = leb-true _ _ t
        by_test false t =
            let within : line + 1 < length fs = leb-false _ _ t in
            let here : get_or (fs ++ gs) (line + 1) 0 ≡ get_or fs (line + 1) 0 =
            get_or_append_left fs gs 0 (line + 1) within in
            absurd (omega (arith, below (line + 1) within, last.next (omega (arith, length-append fs gs, within)), here))

last_item : (xs left : List ℕ) (r k : ℕ) → xs ≡ left ++ r ∷ [] → k + 1 ≡ length xs → get_or xs k 0 ≡ r
last_item xs left r k e at =
    ap (λ zs. get_or zs k 0) e ∙ get_or_push left r 0 k (omega (arith, ap length e, length-append left (r ∷ []), at))

-- the last place before the gap is no further than the end of the text
pub last_within : (n m k start : ℕ) (before ds all : List ℕ) → before ++ turned n ds ≡ all
    → ((j : ℕ) → j < length all → get_or all j 0 ≤ m)
    → k + 1 ≡ length before → start ≡ get_or before k start → start ≤ m
last_within n m k start before ds all e each at read =
    let lt : k < length before = omega (arith, at) in
    let within : k < length all = omega (arith, lt, ap length e, length-append before (turned n ds)) in
    let same : get_or all k 0 ≡ start =
    ap (λ zs. get_or zs k 0) (sym e) ∙ get_or_append_left before (turned n ds) 0 k lt
    ∙ sym (get_or_read before k start lt read 0) in
    omega (arith, each k within, same)

-- it is moved behind the gap
pub moved_behind : (n start k r : ℕ) (before left ds : List ℕ) → before ≡ left ++ r ∷ [] → k + 1 ≡ length before
    → start ≡ get_or before k start → start ≤ n
    → left ++ turned n (ds ++ (n - start) ∷ []) ≡ before ++ turned n ds
moved_behind n start k r before left ds e at read le =
    let same : start ≡ r =
    get_or_read before k start (omega (arith, at)) read 0 ∙ last_item before left r k e at in
    let back : n - (n - start) ≡ start = omega (arith, le) in
    ap (λ zs. left ++ zs) (turned_push n ds (n - start) ∙ ap (λ s. s ∷ turned n ds) (back ∙ same))
    ∙ sym (append_assoc left (r ∷ []) (turned n ds)) ∙ ap (λ zs. zs ++ turned n ds) (sym e)

-- the nearest place behind the gap is moved before it
pub moved_before : (n d k r : ℕ) (before behind left : List ℕ) → behind ≡ left ++ r ∷ [] → k + 1 ≡ length behind
    → d ≡ get_or behind k 0
    → (before ++ (n - d) ∷ []) ++ turned n left ≡ before ++ turned n behind
moved_before n d k r before behind left e at read =
    let same : d ≡ r = read ∙ last_item behind left r k e at in
    append_assoc before ((n - d) ∷ []) (turned n left)
    ∙ ap (λ s. before ++ (n - s) ∷ turned n left) same
    ∙ ap (λ zs. before ++ zs) (sym (turned_push n left r) ∙ ap (turned n) (sym e))

-- one more place is added before the gap
pub added : (place line start : ℕ) (xs ys zs found : List ℕ)
    → ys ≡ xs ++ map (λ p. place + p) (take line found) → zs ≡ ys ++ (place + start) ∷ []
    → start ≡ get_or (0 ∷ found) (line + 1) 0 → line < length found
    → zs ≡ xs ++ map (λ p. place + p) (take (line + 1) found)
added place line start xs ys zs found e f read lt =
    let same : start ≡ get_or found line 0 = read ∙ ap (λ n. get_or (0 ∷ found) n 0) (add-one line) in
    f ∙ ap (λ us. us ++ (place + start) ∷ []) e
    ∙ append_assoc xs (map (λ p. place + p) (take line found)) ((place + start) ∷ [])
    ∙ ap (λ s. xs ++ (map (λ p. place + p) (take line found) ++ (place + s) ∷ [])) same
    ∙ ap (λ us. xs ++ us) (sym (map_more (λ p. place + p) found line 0 lt))

-- what is left before the gap and behind it, where it stands between two lines and both sides are cut short
pub cut_before : (n from : ℕ) (before ds all : List ℕ) → before ++ turned n ds ≡ all → from ≤ length before
    → take from before ≡ take from all
cut_before n from before ds all e le = sym (take-append-le from before (turned n ds) le) ∙ ap (take from) e

pub cut_behind : (n to k : ℕ) (before ds all : List ℕ) → before ++ turned n ds ≡ all → length before ≤ to
    → to ≤ length all → k ≡ length all - to
    → turned n (take k ds) ≡ drop to all
cut_behind n to k before ds all e le within count =
    let whole : length all ≡ length before + length ds =
    omega (arith, ap length e, length-append before (turned n ds), length_turned n ds) in
    let place : length before + (length ds - k) ≡ to = omega (arith, whole, count, le, within) in
    turned_take n k ds
    ∙ ap (drop (length ds - k)) (sym (drop_at before (turned n ds) (length before) refl))
    ∙ drop-drop (length ds - k) (length before) (before ++ turned n ds)
    ∙ ap (λ j. drop j (before ++ turned n ds)) place ∙ ap (drop to) e
