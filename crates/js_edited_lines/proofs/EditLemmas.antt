-- Where lines begin in a text that was edited.
use Rattle.std.proofs.Common.{◌≡◌, ℕ, ◌+◌, ◌-◌, ◌<◌, ◌≤◌, ◌^◌, ◌==◌, Bool, true, false, List, [], ◌∷◌, ◌++◌, length}
use Rattle.std.proofs.Common.{get_or, take, drop, refl, sym, ap, ◌∙◌, subst, arith, zero, suc, map, reverse, length-append}
use Rattle.std.proofs.Common.{◌&&◌, not, if◌then◌else◌, leb}
use Rattle.std.specs.Char.{len_utf8}
use Rattle.std.specs.Str.{chars, encode_utf8_all, IsCharBoundary, IsUtf8}
use Rattle.std.proofs.lemmas.Bool.{leb-true, leb-false}
use Rattle.std.proofs.lemmas.List.{append_assoc, append_cancel_right, drop_at, length-drop, length-take, take-append-drop}
use Rattle.std.proofs.lemmas.List.{append-nil, take_all, take_at}
use Rattle.std.proofs.lemmas.Str.{chars-append, IsUtf8-between, IsUtf8-take, len_utf8_bounds}
use Rattle.js_text.specs.Ascii.{carriage_return, line_feed}
use Rattle.js_text.specs.Characters.{begins, from_place}
use Rattle.js_text.proofs.TextLemmas.{place_past}
use Rattle.js_source.proofs.Places.{at_place, at_start, nothing_at_end}
use Rattle.js_lines.proofs.ColumnLemmas.{front_is, length_in-append, IsTooLong}
use Rattle.js_lines.proofs.LineLemmas.{bytes_of_text, chars_between, cut_at, cut_in_two, front_below, front_count}
use Rattle.js_lines.proofs.LineLemmas.{front_starts, lines_ended-append, Locates, locates, starts_above, starts_bounded, starts_split}
use Rattle.js_lines.specs.Columns.{behind_front, front_within, length_in}
use Rattle.js_lines.specs.Lines.{AreLineStarts, Lines, back_at, ends_line, front_at, is_line_end, line_starts, lines_ended, starts_behind}
use Rattle.js_lines.specs.declared.columns.ColumnUnit.TheVariants.{Bytes}
use Rattle.js_lines.specs.declared.line_ends.LineEnds.{LineEnds}
use Rattle.js_edited_lines.proofs.GapLemmas.{last_is}
use Rattle.js_edited_lines.proofs.LineContent.{parted}
use Rattle.js_edited_lines.specs.Edited.{AreLinesOf, IsEdited, KeptLines, lines_in, Replaces}
use Rattle.js_edited_lines.specs.Starts.{IsLastUpTo, turned}

-- no line begins behind the end of the text
pub each_within : (ends : LineEnds) (text starts : List ℕ) → AreLineStarts ends text starts
    → (k : ℕ) → k < length starts → get_or starts k 0 ≤ length text
each_within ends text starts are k lt =
    subst (λ zs. get_or zs k 0 ≤ length text) (sym are.starts_are)
    (by_number k (subst (λ zs. k < length zs) are.starts_are lt))
  where
    by_number : (j : ℕ) → j < length (line_starts ends text) → get_or (line_starts ends text) j 0 ≤ length text
    by_number zero lt = omega arith
    by_number (suc j) lt =
        (starts_bounded ends (at_place text 0 (at_start text are.utf8 are.short)) (chars text) j refl (omega arith)).0

-- whether a LF begins the characters
abbrev pub begins_lf : List ℕ → Bool
begins_lf = begins (λ d. d == line_feed)

-- of what follows characters, the lines that end in them depend on a LF alone
pub front_next : (ends : LineEnds) (at : ℕ) (xs ys zs : List ℕ) → begins_lf ys ≡ begins_lf zs
    → front_starts ends at xs ys ≡ front_starts ends at xs zs
front_next ends at [] ys zs same = refl
front_next ends at (c ∷ xs) ys zs same =
    by_test (ends_line ends c (xs ++ zs)) (here xs) (front_next ends (at + len_utf8 c) xs ys zs same)
  where
    next : (us : List ℕ) → begins_lf (us ++ ys) ≡ begins_lf (us ++ zs)
    next [] = same
    next (u ∷ us) = refl

    here : (us : List ℕ) → ends_line ends c (us ++ ys) ≡ ends_line ends c (us ++ zs)
    here us = ap (λ b. is_line_end ends c && not ((c == carriage_return) && b)) (next us)

    by_test : (b : Bool) → ends_line ends c (xs ++ ys) ≡ b
        → front_starts ends (at + len_utf8 c) xs ys ≡ front_starts ends (at + len_utf8 c) xs zs
        → (if ends_line ends c (xs ++ ys) then (at + len_utf8 c) ∷ front_starts ends (at + len_utf8 c) xs ys
        else front_starts ends (at + len_utf8 c) xs ys)
        ≡ (if b then (at + len_utf8 c) ∷ front_starts ends (at + len_utf8 c) xs zs
        else front_starts ends (at + len_utf8 c) xs zs)
    by_test true e more = rw e (ap (λ us. (at + len_utf8 c) ∷ us) more)
    by_test false e more = rw e more

-- places counted from a place further on
pub front_moved : (ends : LineEnds) (n at : ℕ) (xs ys : List ℕ)
    → map (λ p. n + p) (front_starts ends at xs ys) ≡ front_starts ends (n + at) xs ys
front_moved ends n at [] ys = refl
front_moved ends n at (c ∷ xs) ys =
    by_test (ends_line ends c (xs ++ ys))
    (front_moved ends n (at + len_utf8 c) xs ys ∙ ap (λ p. front_starts ends p xs ys) place) place
  where
    place : n + (at + len_utf8 c) ≡ n + at + len_utf8 c
    place = omega arith

    by_test : (b : Bool)
        → map (λ p. n + p) (front_starts ends (at + len_utf8 c) xs ys) ≡ front_starts ends (n + at + len_utf8 c) xs ys
        → n + (at + len_utf8 c) ≡ n + at + len_utf8 c
        → map (λ p. n + p) (if b then (at + len_utf8 c) ∷ front_starts ends (at + len_utf8 c) xs ys
        else front_starts ends (at + len_utf8 c) xs ys)
        ≡ (if b then (n + at + len_utf8 c) ∷ front_starts ends (n + at + len_utf8 c) xs ys
        else front_starts ends (n + at + len_utf8 c) xs ys)
    by_test true more e = ap (λ p. p ∷ map (λ q. n + q) (front_starts ends (at + len_utf8 c) xs ys)) e
        ∙ ap (λ us. (n + at + len_utf8 c) ∷ us) more
    by_test false more e = more

-- Places counted from the end of a text are those of another text too, where the same characters end both.
pub from_end : (ends : LineEnds) (at to n m : ℕ) (cs rs : List ℕ)
    → n ≡ at + length_in Bytes cs → m ≡ to + length_in Bytes cs
    → map (λ d. n - d) rs ≡ starts_behind ends at cs → map (λ d. m - d) rs ≡ starts_behind ends to cs
from_end ends at to n m [] [] whole new e = refl
from_end ends at to n m [] (r ∷ rs) whole new e = absurd (omega (arith, ap length e))
from_end ends at to n m (c ∷ cs) rs whole new e =
    by_test (ends_line ends c cs) rs
    (λ us. from_end ends (at + len_utf8 c) (to + len_utf8 c) n m cs us (omega (arith, whole)) (omega (arith, new))) e
  where
    by_test : (b : Bool) (us : List ℕ)
        → ((vs : List ℕ) → map (λ d. n - d) vs ≡ starts_behind ends (at + len_utf8 c) cs
        → map (λ d. m - d) vs ≡ starts_behind ends (to + len_utf8 c) cs)
        → map (λ d. n - d) us ≡ (if b then (at + len_utf8 c) ∷ starts_behind ends (at + len_utf8 c) cs
        else starts_behind ends (at + len_utf8 c) cs)
        → map (λ d. m - d) us ≡ (if b then (to + len_utf8 c) ∷ starts_behind ends (to + len_utf8 c) cs
        else starts_behind ends (to + len_utf8 c) cs)
    by_test true [] more f = absurd (omega (arith, ap length f))
    by_test true (u ∷ us) more f =
        let first : n - u ≡ at + len_utf8 c = ap (λ zs. get_or zs 0 0) f in
        let others : map (λ d. n - d) us ≡ starts_behind ends (at + len_utf8 c) cs = ap (drop 1) f in
        let place : m - u ≡ to + len_utf8 c = omega (arith, whole, new, first, (len_utf8_bounds c).0) in
        ap (λ p. p ∷ map (λ d. m - d) us) place ∙ ap (λ vs. (to + len_utf8 c) ∷ vs) (more us others)
    by_test false us more f = more us f

-- Of characters in which lines end, with some behind them, the first places are those of line ends in them.
pub first_starts : (ends : LineEnds) (xs ys : List ℕ)
    → take (lines_ended ends xs ys) (starts_behind ends 0 (xs ++ ys)) ≡ front_starts ends 0 xs ys
first_starts ends xs ys =
    ap (take (lines_ended ends xs ys)) (starts_split ends 0 xs ys)
    ∙ take_at (front_starts ends 0 xs ys) (starts_behind ends (0 + length_in Bytes xs) ys) (lines_ended ends xs ys)
    (front_count ends 0 xs ys)

-- The starts of lines up to a place, and those behind it.
pub record Halves (ends : LineEnds) (xs ys starts : List ℕ) (line : ℕ) : Type 0 where
  pub count : line ≡ lines_ended ends xs ys
  pub until : take (line + 1) starts ≡ 0 ∷ front_starts ends 0 xs ys
  pub behind : drop (line + 1) starts ≡ starts_behind ends (length_in Bytes xs) ys
  pub within : line + 1 ≤ length starts

pub halves : (ends : LineEnds) (text starts xs ys : List ℕ) (p line : ℕ) → AreLineStarts ends text starts
    → chars text ≡ xs ++ ys → p ≡ length_in Bytes xs → IsLastUpTo starts p line → Halves ends xs ys starts line
halves ends text starts xs ys p line are whole at last =
    let count : line + 1 ≡ length (0 ∷ front_starts ends 0 xs ys) =
    last_is (0 ∷ front_starts ends 0 xs ys) (starts_behind ends (length_in Bytes xs) ys) p line (omega arith) below above
    (subst (λ zs. IsLastUpTo zs p line) same last) in
    record {
      count = omega (arith, count, front_count ends 0 xs ys);
      until = ap (take (line + 1)) same
          ∙ take_at (0 ∷ front_starts ends 0 xs ys) (starts_behind ends (length_in Bytes xs) ys) (line + 1) (sym count);
      behind = ap (drop (line + 1)) same
          ∙ drop_at (0 ∷ front_starts ends 0 xs ys) (starts_behind ends (length_in Bytes xs) ys) (line + 1) (sym count);
      within = omega (
        arith,
        count,
        ap length same,
        length-append (0 ∷ front_starts ends 0 xs ys) (starts_behind ends (length_in Bytes xs) ys),
      );
    }
  where
    same : starts ≡ (0 ∷ front_starts ends 0 xs ys) ++ starts_behind ends (length_in Bytes xs) ys
    same = are.starts_are ∙ ap (λ cs. 0 ∷ starts_behind ends 0 cs) whole ∙ ap (λ zs. 0 ∷ zs) (starts_split ends 0 xs ys
        ∙ ap (λ n. front_starts ends 0 xs ys ++ starts_behind ends n ys) from_zero)
      where
        from_zero : 0 + length_in Bytes xs ≡ length_in Bytes xs
        from_zero = omega arith

    below : (k : ℕ) → k < length (0 ∷ front_starts ends 0 xs ys) → get_or (0 ∷ front_starts ends 0 xs ys) k 0 ≤ p
    below zero lt = omega arith
    below (suc k) lt = omega (arith, front_below ends 0 xs ys k (omega arith), at)

    above : (k : ℕ) → k < length (starts_behind ends (length_in Bytes xs) ys)
        → p < get_or (starts_behind ends (length_in Bytes xs) ys) k 0
    above k lt = omega (arith, starts_above ends (length_in Bytes xs) ys k lt, at)

-- where both texts end alike behind an edit, in bytes
pub record Lengths (old new : List ℕ) (start end inserted : ℕ) (e : Replaces old new start end inserted) : Type 0 where
  pub old_is : length old ≡ end + length_in Bytes e.behind
  pub new_is : length new ≡ start + inserted + length_in Bytes e.behind

pub lengths : (old new : List ℕ) (start end inserted : ℕ) → IsUtf8 old → IsUtf8 new
    → (e : Replaces old new start end inserted) → Lengths old new start end inserted e
lengths old new start end inserted u v e = record {
  old_is = omega (
    arith,
    bytes_of_text old u,
    ap (length_in Bytes) e.old_is,
    length_in-append Bytes e.front (e.dropped ++ e.behind),
    length_in-append Bytes e.dropped e.behind,
    e.start_is,
    e.end_is,
  );
  new_is = omega (
    arith,
    bytes_of_text new v,
    ap (length_in Bytes) e.new_is,
    length_in-append Bytes e.front (e.added ++ e.behind),
    length_in-append Bytes e.added e.behind,
    e.start_is,
    e.inserted_is,
  );
}

-- The lines that end before the last character before an edit do not depend on it.
untouched : (ends : LineEnds) (xs near ys zs : List ℕ)
    → length_in Bytes xs ≤ length_in Bytes xs + length_in Bytes near - 1
    → front_starts ends 0 xs (near ++ ys) ≡ front_starts ends 0 xs (near ++ zs)
untouched ends [] near ys zs le = refl
untouched ends (x ∷ xs) [] ys zs le = absurd (omega (arith, le, (len_utf8_bounds x).0))
untouched ends (x ∷ xs) (a ∷ near) ys zs le = front_next ends 0 (x ∷ xs) (a ∷ (near ++ ys)) (a ∷ (near ++ zs)) refl

-- a cut behind characters, by their length
pub front_exact : (n : ℕ) (xs ys : List ℕ) → length_in Bytes xs ≡ n
    → (front_within Bytes n (xs ++ ys) ≡ xs) × (behind_front Bytes n (xs ++ ys) ≡ ys)
front_exact n xs ys e = front_is Bytes n xs ys (omega (arith, e)) (next ys)
  where
    next : (us : List ℕ) → IsTooLong Bytes (n - length_in Bytes xs) us
    next [] = tt
    next (u ∷ us) = omega (arith, e, (len_utf8_bounds u).0)

-- a part of a text that ends behind the next character, or with the text, tells whether a LF is next
lf_seen : (text : List ℕ) (to until : ℕ) → IsUtf8 text → to ≤ until → IsCharBoundary text to
    → IsCharBoundary text until
    → (to + 1 ≤ length text → to + 1 ≤ until) → (length text < to + 1 → until ≡ length text)
    → begins_lf (chars (take (until - to) (drop to text))) ≡ begins_lf (from_place text to)
lf_seen text to until u le b b' one end =
    by_part (chars (take (until - to) (drop to text))) refl ∙ ap begins_lf (sym whole)
  where
    whole : from_place text to ≡ chars (take (until - to) (drop to text)) ++ from_place text until
    whole = parted text to until u le b b'

    by_part : (zs : List ℕ) → chars (take (until - to) (drop to text)) ≡ zs
        → begins_lf zs ≡ begins_lf (zs ++ from_place text until)
    by_part (z ∷ zs) e = refl
    by_part [] e =
        let bytes : until ≡ to + length (encode_utf8_all []) =
        place_past text to until [] u b b' (whole ∙ ap (λ cs. cs ++ from_place text until) e) in
        let same : until ≡ to = omega (arith, bytes) in
        let last : until ≡ length text = end (by_order same) in
        let none : from_place text until ≡ [] = ap (from_place text) last ∙ nothing_at_end text in
        ap begins_lf (sym none)
      where
        by_order : until ≡ to → length text < to + 1
        by_order same = by_test (leb (to + 1) (length text)) refl
          where
            by_test : (t : Bool) → leb (to + 1) (length text) ≡ t → length text < to + 1
            by_test true t = absurd (omega (arith, one (leb-true _ _ t), same))
            by_test false t = leb-false _ _ t

-- What an edit of a text leaves of the starts of its lines: those up to a place before it, those in the part that is
-- searched, and those behind it, which are counted from the end.
pub record Edits (ends : LineEnds) (old new starts : List ℕ) (from until first past found : ℕ) : Type 0 where
  pub ordered : first ≤ past
  pub within : past + 1 ≤ length starts
  pub there : found ≤ length (starts_behind ends 0 (chars (take (until - from) (drop from new))))
  pub all : (ds : List ℕ) → turned (length old) ds ≡ drop (past + 1) starts
      → (take (first + 1) starts ++ map (λ p. from + p)
      (take found (starts_behind ends 0 (chars (take (until - from) (drop from new)))))) ++ turned (length new) ds
      ≡ line_starts ends new

-- The characters around an edit: those before a place, from there up to the edit, and behind it those up to another
-- place.
pub record Around (old new : List ℕ) (start end inserted from until : ℕ) (e : Replaces old new start end inserted)
    : Type 0 where
  pub xs : List ℕ
  pub near : List ℕ
  pub zs : List ℕ
  pub front_is : e.front ≡ xs ++ near
  pub xs_bytes : from ≡ length_in Bytes xs
  pub new_is : chars new ≡ xs ++ ((near ++ e.added) ++ e.behind)
  pub part : chars (take (until - from) (drop from new)) ≡ (near ++ e.added) ++ zs
  pub seam : begins_lf zs ≡ begins_lf e.behind

pub around : (old new : List ℕ) (start end inserted from until : ℕ) → IsUtf8 old → IsUtf8 new → length new < 2 ^ 32
    → (e : Replaces old new start end inserted)
    → from ≤ start - 1 → IsCharBoundary new from → IsCharBoundary new until
    → (start + inserted + 1 ≤ length new → start + inserted + 1 ≤ until)
    → (length new < start + inserted + 1 → until ≡ length new)
    → Around old new start end inserted from until e
around old new start end inserted from until v u short e le b b' one last =
    let cut = cut_at new from u b in
    let at_start_of = cut_in_two new e.front (e.added ++ e.behind) start u short e.new_is e.start_is in
    let at_end_of =
    cut_in_two new (e.front ++ e.added) e.behind (start + inserted) u short
    (e.new_is ∙ sym (append_assoc e.front e.added e.behind))
    (omega (arith, e.start_is, e.inserted_is, length_in-append Bytes e.front e.added)) in
    let near : List ℕ = chars (take (start - from) (drop from new)) in
    let zs : List ℕ = chars (take (until - (start + inserted)) (drop (start + inserted) new)) in
    let from_start : from_place new from ≡ near ++ (e.added ++ e.behind) =
    parted new from start u (omega (arith, le)) b at_start_of.0 ∙ ap (λ cs. near ++ cs) at_start_of.2 in
    let behind_is : e.behind ≡ zs ++ from_place new until =
    sym at_end_of.2 ∙ parted new (start + inserted) until u to_until at_end_of.0 b' in
    record {
      xs = cut.front;
      near = near;
      zs = zs;
      front_is = append_cancel_right e.front (cut.front ++ near) (e.added ++ e.behind)
          (sym e.new_is ∙ cut.whole ∙ ap (λ cs. cut.front ++ cs) from_start
          ∙ sym (append_assoc cut.front near (e.added ++ e.behind)));
      xs_bytes = cut.bytes;
      new_is = cut.whole ∙ ap (λ cs. cut.front ++ cs) (from_start ∙ sym (append_assoc near e.added e.behind));
      part = chars_between new from until ((near ++ e.added) ++ zs) u (omega (arith, le, to_until)) b b'
          (from_start ∙ sym (append_assoc near e.added e.behind) ∙ ap (λ cs. (near ++ e.added) ++ cs) behind_is
          ∙ sym (append_assoc (near ++ e.added) zs (from_place new until)));
      seam = lf_seen new (start + inserted) until u to_until at_end_of.0 b' one last ∙ ap begins_lf at_end_of.2;
    }
  where
    to_until : start + inserted ≤ until
    to_until = by_test (leb (start + inserted + 1) (length new)) refl
      where
        by_test : (t : Bool) → leb (start + inserted + 1) (length new) ≡ t → start + inserted ≤ until
        by_test true t = omega (arith, one (leb-true _ _ t))
        by_test false t =
            omega (arith, last (leb-false _ _ t), (lengths old new start end inserted v u e).new_is)

-- the bytes of the part up to the end of what was added
part_bytes : (old new : List ℕ) (start end inserted from until : ℕ) (e : Replaces old new start end inserted)
    → (r : Around old new start end inserted from until e)
    → length_in Bytes (r.near ++ e.added) ≡ start + inserted - from
part_bytes old new start end inserted from until e r =
    omega (
      arith,
      ap (length_in Bytes) r.front_is,
      length_in-append Bytes r.xs r.near,
      length_in-append Bytes r.near e.added,
      r.xs_bytes,
      e.start_is,
      e.inserted_is,
    )

-- the starts of lines in the edited text
new_starts : (ends : LineEnds) (old new : List ℕ) (start end inserted from until : ℕ)
    → (e : Replaces old new start end inserted) (r : Around old new start end inserted from until e)
    → line_starts ends new
    ≡ ((0 ∷ front_starts ends 0 r.xs ((r.near ++ e.added) ++ e.behind))
    ++ front_starts ends from (r.near ++ e.added) e.behind) ++ starts_behind ends (start + inserted) e.behind
new_starts ends old new start end inserted from until e r =
    ap (λ cs. 0 ∷ starts_behind ends 0 cs) r.new_is
    ∙ ap (λ us. 0 ∷ us) (starts_split ends 0 r.xs ((r.near ++ e.added) ++ e.behind)
    ∙ ap (λ n. front_starts ends 0 r.xs ((r.near ++ e.added) ++ e.behind)
    ++ starts_behind ends n ((r.near ++ e.added) ++ e.behind)) here
    ∙ ap (λ us. front_starts ends 0 r.xs ((r.near ++ e.added) ++ e.behind) ++ us)
    (starts_split ends from (r.near ++ e.added) e.behind
    ∙ ap (λ n. front_starts ends from (r.near ++ e.added) e.behind ++ starts_behind ends n e.behind) there))
    ∙ sym (append_assoc (0 ∷ front_starts ends 0 r.xs ((r.near ++ e.added) ++ e.behind))
    (front_starts ends from (r.near ++ e.added) e.behind) (starts_behind ends (start + inserted) e.behind))
  where
    here : 0 + length_in Bytes r.xs ≡ from
    here = omega (arith, r.xs_bytes)

    there : from + length_in Bytes (r.near ++ e.added) ≡ start + inserted
    there =
        omega (
          arith,
          part_bytes old new start end inserted from until e r,
          ap (length_in Bytes) r.front_is,
          length_in-append Bytes r.xs r.near,
          r.xs_bytes,
          e.start_is,
        )

pub edits : (ends : LineEnds) (old new starts : List ℕ) (start end inserted from until first past found : ℕ)
    → AreLineStarts ends old starts → IsUtf8 new
    → (e : Replaces old new start end inserted) (r : Around old new start end inserted from until e)
    → from ≤ start - 1
    → IsLastUpTo starts from first → IsLastUpTo starts end past
    → found
    ≡ lines_ended ends (front_at (take (until - from) (drop from new)) (start + inserted - from))
    (back_at (take (until - from) (drop from new)) (start + inserted - from))
    → Edits ends old new starts from until first past found
edits ends old new starts start end inserted from until first past found are u e r le up_to up_past told =
    record {
      ordered = omega (
        arith,
        before.count,
        beyond.count,
        ap (λ us. lines_ended ends us e.behind)
            (ap (λ us. us ++ e.dropped) r.front_is ∙ append_assoc r.xs r.near e.dropped),
        lines_ended-append ends r.xs (r.near ++ e.dropped) e.behind,
        ap (lines_ended ends r.xs) (append_assoc r.near e.dropped e.behind),
      );
      within = beyond.within;
      there = omega (
        arith,
        found_is,
        ap (λ us. length (starts_behind ends 0 us)) r.part,
        ap length (starts_split ends 0 (r.near ++ e.added) r.zs),
        length-append (front_starts ends 0 (r.near ++ e.added) r.zs)
            (starts_behind ends (0 + length_in Bytes (r.near ++ e.added)) r.zs),
        front_count ends 0 (r.near ++ e.added) r.zs,
      );
      all = all;
    }
  where
    before : Halves ends r.xs (r.near ++ (e.dropped ++ e.behind)) starts first
    before =
        halves ends old starts r.xs (r.near ++ (e.dropped ++ e.behind)) from first are
        (e.old_is ∙ ap (λ cs. cs ++ (e.dropped ++ e.behind)) r.front_is
        ∙ append_assoc r.xs r.near (e.dropped ++ e.behind)) r.xs_bytes up_to

    beyond : Halves ends (e.front ++ e.dropped) e.behind starts past
    beyond =
        halves ends old starts (e.front ++ e.dropped) e.behind end past are
        (e.old_is ∙ sym (append_assoc e.front e.dropped e.behind))
        (omega (arith, e.start_is, e.end_is, length_in-append Bytes e.front e.dropped)) up_past

    found_is : found ≡ lines_ended ends (r.near ++ e.added) r.zs
    found_is =
        let n : ℕ = start + inserted - from in
        let two = front_exact n (r.near ++ e.added) r.zs (part_bytes old new start end inserted from until e r) in
        told ∙ ap (λ cs. lines_ended ends (front_within Bytes n cs) (behind_front Bytes n cs)) r.part
        ∙ ap (λ cs. lines_ended ends cs (behind_front Bytes n ((r.near ++ e.added) ++ r.zs))) two.0
        ∙ ap (lines_ended ends (r.near ++ e.added)) two.1

    searched : map (λ p. from + p) (take found (starts_behind ends 0 (chars (take (until - from) (drop from new)))))
        ≡ front_starts ends from (r.near ++ e.added) e.behind
    searched =
        let zero_more : from + 0 ≡ from = omega arith in
        ap (λ cs. map (λ p. from + p) (take found (starts_behind ends 0 cs))) r.part
        ∙ ap (λ n. map (λ p. from + p) (take n (starts_behind ends 0 ((r.near ++ e.added) ++ r.zs)))) found_is
        ∙ ap (map (λ p. from + p)) (first_starts ends (r.near ++ e.added) r.zs)
        ∙ front_moved ends from 0 (r.near ++ e.added) r.zs
        ∙ ap (λ n. front_starts ends n (r.near ++ e.added) r.zs) zero_more
        ∙ front_next ends from (r.near ++ e.added) r.zs e.behind r.seam

    kept : take (first + 1) starts ≡ 0 ∷ front_starts ends 0 r.xs ((r.near ++ e.added) ++ e.behind)
    kept =
        before.until
        ∙ ap (λ us. 0 ∷ us) (untouched ends r.xs r.near (e.dropped ++ e.behind) (e.added ++ e.behind)
        (omega (arith, le, r.xs_bytes, e.start_is, ap (length_in Bytes) r.front_is, length_in-append Bytes r.xs r.near)))
        ∙ ap (λ cs. 0 ∷ front_starts ends 0 r.xs cs) (sym (append_assoc r.near e.added e.behind))

    end_bytes : length_in Bytes (e.front ++ e.dropped) ≡ end
    end_bytes = omega (arith, e.start_is, e.end_is, length_in-append Bytes e.front e.dropped)

    all : (ds : List ℕ) → turned (length old) ds ≡ drop (past + 1) starts
        → (take (first + 1) starts ++ map (λ p. from + p)
        (take found (starts_behind ends 0 (chars (take (until - from) (drop from new)))))) ++ turned (length new) ds
        ≡ line_starts ends new
    all ds same =
        let sizes = lengths old new start end inserted are.utf8 u e in
        let behind : turned (length new) ds ≡ starts_behind ends (start + inserted) e.behind =
        from_end ends end (start + inserted) (length old) (length new) e.behind (reverse ds) sizes.old_is sizes.new_is
        (same ∙ beyond.behind ∙ ap (λ n. starts_behind ends n e.behind) end_bytes) in
        ap (λ us. (us ++ map (λ p. from + p)
        (take found (starts_behind ends 0 (chars (take (until - from) (drop from new)))))) ++ turned (length new) ds) kept
        ∙ ap (λ us. ((0 ∷ front_starts ends 0 r.xs ((r.near ++ e.added) ++ e.behind)) ++ us) ++ turned (length new) ds)
        searched
        ∙ ap (λ us. ((0 ∷ front_starts ends 0 r.xs ((r.near ++ e.added) ++ e.behind))
        ++ front_starts ends from (r.near ++ e.added) e.behind) ++ us) behind
        ∙ sym (new_starts ends old new start end inserted from until e r)

-- the line on which an offset stands, by the search by halves
pub located : (kept : KeptLines) (text : List ℕ) (offset at line : ℕ) → AreLinesOf kept text → at ≤ offset
    → IsCharBoundary text at
    → ((i : ℕ) → at < i → i ≤ offset → IsCharBoundary text i → ⊥)
    → IsLastUpTo kept.starts at line → Locates (lines_in kept text) kept.starts offset at line
located kept text offset at line lines le b nearest last =
    locates (lines_in kept text) kept.starts text offset at line lines.are refl le b nearest
    (λ xs ys whole bytes. (halves kept.ends text kept.starts xs ys at line lines.are whole bytes last).count)

-- Between two places of a text other characters are put.
pub replaced : (old new added : List ℕ) (start end : ℕ) → IsUtf8 old → IsUtf8 added → start ≤ end
    → IsCharBoundary old start → IsCharBoundary old end → new ≡ take start old ++ added ++ drop end old
    → Replaces old new start end (length added)
replaced old new added start end u v le b b' e =
    let cut = cut_at old start u b in
    let there : from_place old start ≡ chars (take (end - start) (drop start old)) ++ from_place old end =
    parted old start end u le b b' in
    let front : chars (take start old) ≡ cut.front =
    append_cancel_right (chars (take start old)) cut.front (from_place old start)
    (sym (chars-append (take start old) (drop start old) (IsUtf8-take old start u b))
    ∙ ap chars (take-append-drop start old) ∙ cut.whole) in
    let dropped_bytes : length_in Bytes (chars (take (end - start) (drop start old))) ≡ end - start =
    sym (bytes_of_text (take (end - start) (drop start old)) (IsUtf8-between old start end u le b b'))
    ∙ length-take (end - start) (drop start old) ∙ omega (arith, length-drop start old, b'.0) in
    record {
      front = cut.front;
      dropped = chars (take (end - start) (drop start old));
      added = chars added;
      behind = from_place old end;
      old_is = cut.whole ∙ ap (λ cs. cut.front ++ cs) there;
      new_is = ap chars (e ∙ append_assoc (take start old) added (drop end old))
          ∙ chars-append (take start old) (added ++ drop end old) (IsUtf8-take old start u b)
          ∙ ap (λ cs. cs ++ chars (added ++ drop end old)) front
          ∙ ap (λ cs. cut.front ++ cs) (chars-append added (drop end old) v);
      start_is = cut.bytes;
      end_is = omega (arith, dropped_bytes, le);
      inserted_is = bytes_of_text added v;
    }

-- of a text that was not edited yet, all starts stand before the gap
map_zero : (xs : List ℕ) → map (λ p. 0 + p) xs ≡ xs
map_zero [] = refl
map_zero (x ∷ xs) = let same : 0 + x ≡ x = omega arith in ap (λ p. p ∷ map (λ q. 0 + q) xs) same ∙ ap (λ us. x ∷ us) (map_zero xs)

pub all_before : (ends : LineEnds) (text before behind : List ℕ) (n last : ℕ)
    → before ≡ (0 ∷ []) ++ map (λ p. 0 + p) (take last (starts_behind ends 0 (chars text)))
    → last ≡ length (line_starts ends text) - 1 → behind ≡ []
    → before ++ turned n behind ≡ line_starts ends text
all_before ends text before behind n last e count none =
    let all : take last (starts_behind ends 0 (chars text)) ≡ starts_behind ends 0 (chars text) =
    take_all last (starts_behind ends 0 (chars text)) (omega (arith, count)) in
    ap (λ ds. before ++ turned n ds) none ∙ append-nil before ∙ e
    ∙ ap (λ us. 0 ∷ us) (map_zero (take last (starts_behind ends 0 (chars text))) ∙ all)

-- what was edited is within the text
pub edit_fits : (kept : KeptLines) (text : List ℕ) (start end inserted : ℕ) → IsUtf8 text
    → IsEdited kept text start end inserted
    → (start + inserted ≤ length text) × (start + inserted < 2 ^ 32) × (end ≤ kept.bytes)
edit_fits kept text start end inserted u e =
    let sizes = lengths e.old text start end inserted e.lines_are.are.utf8 u e.replaces in (
      omega (arith, sizes.new_is),
      omega (arith, sizes.new_is, e.short),
      omega (arith, sizes.old_is, e.lines_are.bytes_are),
    )

-- The starts of lines in the edited text, by what stands before the gap and behind it.
pub edited_starts : (ends : LineEnds) (old new starts : List ℕ) (from until first past found : ℕ)
    → Edits ends old new starts from until first past found
    → (part : Lines) → part ≡ record { text = take (until - from) (drop from new); ends = ends }
    → (kept before behind after : List ℕ) (bytes n : ℕ)
    → kept ≡ take (first + 1) starts → turned bytes behind ≡ drop (past + 1) starts → bytes ≡ length old
    → before ≡ kept ++ map (λ p. from + p) (take found (starts_behind part.ends 0 (chars part.text)))
    → after ≡ behind → n ≡ length new
    → before ++ turned n after ≡ line_starts ends new
edited_starts ends old new starts from until first past found e part is_part kept before behind after bytes n kept_is
    behind_is size before_is after_is new_size =
    ap (λ m. before ++ turned m after) new_size ∙ ap (λ ds. before ++ turned (length new) ds) after_is
    ∙ ap (λ us. us ++ turned (length new) behind)
    (before_is
    ∙ ap (λ (l : Lines). kept ++ map (λ p. from + p) (take found (starts_behind l.ends 0 (chars l.text)))) is_part
    ∙ ap (λ us. us ++ map (λ p. from + p)
    (take found (starts_behind ends 0 (chars (take (until - from) (drop from new)))))) kept_is)
    ∙ e.all behind (ap (λ m. turned m behind) (sym size) ∙ behind_is)

-- a text has no more line ends than bytes
pub count_le : (ends : LineEnds) (at : ℕ) (cs : List ℕ) → length (starts_behind ends at cs) ≤ length_in Bytes cs
count_le ends at [] = omega arith
count_le ends at (c ∷ cs) = by_test (ends_line ends c cs) (count_le ends (at + len_utf8 c) cs)
  where
    by_test : (b : Bool) → length (starts_behind ends (at + len_utf8 c) cs) ≤ length_in Bytes cs
        → length (if b then (at + len_utf8 c) ∷ starts_behind ends (at + len_utf8 c) cs
        else starts_behind ends (at + len_utf8 c) cs)
        ≤ len_utf8 c + length_in Bytes cs
    by_test true le = omega (arith, le, (len_utf8_bounds c).0)
    by_test false le = omega (arith, le)
