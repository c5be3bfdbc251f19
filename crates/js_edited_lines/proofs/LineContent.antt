-- A line and its line end.
use Rattle.std.proofs.Common.{◌≡◌, ℕ, ◌+◌, ◌-◌, ◌<◌, ◌≤◌, ◌==◌, ◌&&◌, ◌||◌, not, Bool, true, false, List, [], ◌∷◌, ◌++◌, length}
use Rattle.std.proofs.Common.{take, drop, get_or, add-zero, length-append, length-drop, Some, None, slice_get}
use Rattle.std.proofs.Common.{refl, sym, ap, ◌∙◌, subst, arith, zero, suc, ◌⊎◌, inl, inr, if◌then◌else◌}
use Rattle.std.specs.Char.{encode_utf8, len_utf8}
use Rattle.std.specs.Str.{chars, encode_utf8_all, IsCharBoundary, IsUtf8}
use Rattle.std.proofs.lemmas.Bool.{eqb-true, eq-eqb, ne_eqb}
use Rattle.std.proofs.lemmas.List.{append_assoc, append-nil, drop-drop, get_or-drop, nil_from_length, same_from_push}
use Rattle.std.proofs.lemmas.Option.{get_or_from_slice_get, slice_get_cases, slice_get_within}
use Rattle.std.proofs.lemmas.Str.{chars-append, chars-nil, chars_from_encodes, encodes-append, encodes-chars, IsUtf8-between}
use Rattle.std.proofs.lemmas.Str.{len_utf8_bounds}
use Rattle.js_text.specs.Ascii.{carriage_return, line_feed}
use Rattle.js_text.specs.Characters.{begins, from_place, is_line_terminator}
use Rattle.js_source.proofs.Places.{at_place, at_start, cut_between, next_place, step_rest}
use Rattle.js_source.specs.Source.{At, rest}
use Rattle.js_text.proofs.TextLemmas.{place_past}
use Rattle.js_lines.proofs.ColumnLemmas.{bytes_length}
use Rattle.js_lines.proofs.LineLemmas.{starts_above}
use Rattle.js_lines.specs.Columns.{length_in}
use Rattle.js_lines.specs.Lines.{begins_line_end, ends_line, is_line_end, last_line, line_content, lines_ended, opens_pair}
use Rattle.js_lines.specs.Lines.{AreLineStarts, line_starts, starts_behind}
use Rattle.js_lines.specs.declared.columns.ColumnUnit.TheVariants.{Bytes}
use Rattle.js_lines.specs.declared.line_ends.LineEnds.{LineEnds}
use Rattle.js_lines.specs.declared.line_ends.LineEnds.TheVariants.{EcmaScript, LineFeeds, LanguageServer}
use Rattle.js_edited_lines.specs.Content.{IsWithoutReturn}

-- what stands from a place on is what stands up to a later one, and then what stands there
pub parted : (text : List ℕ) (start end : ℕ) → IsUtf8 text → start ≤ end → IsCharBoundary text start
    → IsCharBoundary text end
    → from_place text start ≡ chars (take (end - start) (drop start text)) ++ from_place text end
parted text start end u le b b' =
    ap chars (sym (cut_between text start end le))
    ∙ chars-append (take (end - start) (drop start text)) (drop end text) (IsUtf8-between text start end u le b b')

-- the characters of a text, the last of which is known
pub last_char : (text front : List ℕ) (c : ℕ) → IsUtf8 text → IsUtf8 front → text ≡ front ++ encode_utf8 c
    → chars text ≡ chars front ++ c ∷ []
last_char text front c u v e =
    sym (chars_from_encodes (chars front ++ c ∷ []) text u
    (encodes-append (chars front) (c ∷ []) ∙ ap (λ bs. bs ++ encode_utf8_all (c ∷ [])) (encodes-chars front v)
    ∙ ap (λ bs. front ++ bs) (append-nil (encode_utf8 c)) ∙ sym e))

pub no_char : (text : List ℕ) → length text ≡ 0 → chars text ≡ []
no_char text e = ap chars (nil_from_length text e) ∙ chars-nil

-- a LF ends a line always
line_feed_ends : (ends : LineEnds) (cs : List ℕ) → ends_line ends line_feed cs ≡ true
unfolding is_line_terminator
line_feed_ends EcmaScript cs = refl
line_feed_ends LineFeeds cs = refl
line_feed_ends LanguageServer cs = refl

-- Whether a line end begins with a character: it is one alone (a), or with the next one (b), or none.
data Beginning (c : ℕ) (cs : List ℕ) (a b : Bool) : Type 0 where
  ends_alone : (a || b) ≡ true → (a && not b) ≡ true → Beginning c cs a b
  ends_pair : (a || b) ≡ true → (a && not b) ≡ false → c ≡ carriage_return
      → begins (λ d. d == line_feed) cs ≡ true → Beginning c cs a b
  ends_none : (a || b) ≡ false → (a && not b) ≡ false → b ≡ false → Beginning c cs a b

both : (a b : Bool) → (a && b) ≡ true → (a ≡ true) × (b ≡ true)
both true b e = (refl, e)
both false b e = absurd (cc)

beginning : (ends : LineEnds) (c : ℕ) (cs : List ℕ) → Beginning c cs (is_line_end ends c) (opens_pair c cs)
beginning ends c cs = by_tests (is_line_end ends c) (opens_pair c cs) opens
  where
    opens : opens_pair c cs ≡ true → (c ≡ carriage_return) × (begins (λ d. d == line_feed) cs ≡ true)
    opens e =
        let parts = both (c == carriage_return) (begins (λ d. d == line_feed) cs) e in
        (eqb-true c carriage_return parts.0, parts.1)

    by_tests : (a b : Bool) → (b ≡ true → (c ≡ carriage_return) × (begins (λ d. d == line_feed) cs ≡ true))
        → Beginning c cs a b
    by_tests true false pair = ends_alone refl refl
    by_tests false false pair = ends_none refl refl refl
    by_tests true true pair = ends_pair refl refl (pair refl).0 (pair refl).1
    by_tests false true pair = ends_pair refl refl (pair refl).0 (pair refl).1

-- The characters xs are the content of a line with its line end, which is one character or a CR LF.
pub data Ended (xs content : List ℕ) : Type 0 where
  by_one : (c : ℕ) → xs ≡ content ++ c ∷ []
      → (c ≡ line_feed → (us : List ℕ) → content ≡ us ++ carriage_return ∷ [] → ⊥) → Ended xs content
  by_pair : xs ≡ content ++ carriage_return ∷ line_feed ∷ [] → Ended xs content

-- where a line ends, what follows it is told by the rest
last_on : (ends : LineEnds) (c : ℕ) (xs ys : List ℕ) → lines_ended ends (c ∷ xs) ys ≡ 1
    → last_line ends (c ∷ xs) ys ≡ last_line ends xs ys
last_on ends c xs ys count =
    let some : (lines_ended ends (c ∷ xs) ys == 0) ≡ false = ne_eqb _ 0 (λ no. absurd (omega (arith, no, count))) in
    rw some refl

no_more : (ends : LineEnds) (xs ys : List ℕ) → lines_ended ends xs ys ≡ 0 → last_line ends xs ys ≡ [] → xs ≡ []
no_more ends [] ys count last = refl
no_more ends (x ∷ xs) ys count last =
    let first : (lines_ended ends (x ∷ xs) ys == 0) ≡ true = eq-eqb _ 0 count in
    let here : last_line ends (x ∷ xs) ys ≡ x ∷ xs = rw first refl in
    absurd (let no : x ∷ xs ≡ [] = sym here ∙ last in cc)

count_here : (ends : LineEnds) (c : ℕ) (xs ys : List ℕ) → ends_line ends c (xs ++ ys) ≡ true
    → lines_ended ends (c ∷ xs) ys ≡ suc (lines_ended ends xs ys)
count_here ends c xs ys t = rw t refl

count_on : (ends : LineEnds) (c : ℕ) (xs ys : List ℕ) → ends_line ends c (xs ++ ys) ≡ false
    → lines_ended ends (c ∷ xs) ys ≡ lines_ended ends xs ys
count_on ends c xs ys t = rw t refl

-- a line that ends behind its first character has no other
alone : (ends : LineEnds) (c : ℕ) (xs ys : List ℕ) → lines_ended ends (c ∷ xs) ys ≡ 1
    → last_line ends (c ∷ xs) ys ≡ [] → ends_line ends c (xs ++ ys) ≡ true → xs ≡ []
alone ends c xs ys count last t =
    no_more ends xs ys (omega (arith, count, count_here ends c xs ys t)) (sym (last_on ends c xs ys count) ∙ last)

-- the characters of a line with its line end
pub ended : (ends : LineEnds) (xs ys : List ℕ) → lines_ended ends xs ys ≡ 1 → last_line ends xs ys ≡ []
    → Ended xs (line_content ends (xs ++ ys))
ended ends [] ys count last = absurd (omega (arith, count))
ended ends (c ∷ xs) ys count last = by_beginning (beginning ends c (xs ++ ys)) (ended ends xs ys)
  where
    empty : begins_line_end ends c (xs ++ ys) ≡ true → line_content ends (c ∷ (xs ++ ys)) ≡ []
    empty b = rw b refl

    by_line_feed : (us : List ℕ) → c ≡ carriage_return → begins (λ d. d == line_feed) (us ++ ys) ≡ true
        → lines_ended ends us ys ≡ 1 → last_line ends us ys ≡ [] → c ∷ us ≡ carriage_return ∷ line_feed ∷ []
    by_line_feed [] cr lf count last = absurd (omega (arith, count))
    by_line_feed (d ∷ us) cr lf count last =
        let feed : d ≡ line_feed = eqb-true d line_feed lf in
        let ends_here : ends_line ends d (us ++ ys) ≡ true =
        ap (λ e. ends_line ends e (us ++ ys)) feed ∙ line_feed_ends ends (us ++ ys) in
        let no : us ≡ [] = alone ends d us ys count last ends_here in
        ap (λ e. e ∷ d ∷ us) cr ∙ ap (λ e. carriage_return ∷ e ∷ us) feed
        ∙ ap (λ es. carriage_return ∷ line_feed ∷ es) no

    on : (us : List ℕ) → opens_pair c (xs ++ ys) ≡ false → Ended xs us → Ended (c ∷ xs) (c ∷ us)
    on us p (by_pair e) = by_pair (ap (λ zs. c ∷ zs) e)
    on us p (by_one d e apart) = by_one d (ap (λ zs. c ∷ zs) e) (λ feed vs f. before vs feed f)
      where
        before : (vs : List ℕ) → d ≡ line_feed → c ∷ us ≡ vs ++ carriage_return ∷ [] → ⊥
        before [] feed f =
            let cr : c ≡ carriage_return = ap (λ zs. get_or zs 0 0) f in
            let none : us ≡ [] = ap (drop 1) f in
            let here : xs ≡ line_feed ∷ [] = e ∙ ap (λ zs. zs ++ d ∷ []) none ∙ ap (λ x. x ∷ []) feed in
            let opens : opens_pair c (xs ++ ys) ≡ true =
            ap (λ x. opens_pair x (xs ++ ys)) cr ∙ ap (λ zs. opens_pair carriage_return (zs ++ ys)) here in
            absurd (let no : true ≡ false = sym opens ∙ p in cc)
        before (v ∷ vs) feed f = apart feed vs (ap (drop 1) f)

    by_beginning : Beginning c (xs ++ ys) (is_line_end ends c) (opens_pair c (xs ++ ys))
        → (lines_ended ends xs ys ≡ 1 → last_line ends xs ys ≡ [] → Ended xs (line_content ends (xs ++ ys)))
        → Ended (c ∷ xs) (line_content ends (c ∷ (xs ++ ys)))
    by_beginning (ends_alone b t) more =
        subst (Ended (c ∷ xs)) (sym (empty b)) (by_one c
        (ap (λ us. c ∷ us) (alone ends c xs ys count last t))
        (λ feed us e. absurd (omega (arith, ap length e, length-append us (carriage_return ∷ [])))))
    by_beginning (ends_pair b t cr lf) more =
        subst (Ended (c ∷ xs)) (sym (empty b)) (by_pair (by_line_feed xs cr lf (sym (count_on ends c xs ys t) ∙ count)
        (sym (last_on ends c xs ys count) ∙ last)))
    by_beginning (ends_none b t p) more =
        let content : line_content ends (c ∷ (xs ++ ys)) ≡ c ∷ line_content ends (xs ++ ys) = rw b refl in
        subst (Ended (c ∷ xs)) (sym content) (on (line_content ends (xs ++ ys)) p
        (more (sym (count_on ends c xs ys t) ∙ count) (sym (last_on ends c xs ys count) ∙ last)))

-- The content by the last character and what stands before it, where that is no CR before a LF, and else by both.
pub content_by_one : (xs front content : List ℕ) (c : ℕ) → xs ≡ front ++ c ∷ []
    → (c ≡ line_feed → (us : List ℕ) → front ≡ us ++ carriage_return ∷ [] → ⊥)
    → Ended xs content → front ≡ content
content_by_one xs front content c e apart (by_one d f other) = (same_from_push front content c d (sym e ∙ f)).0
content_by_one xs front content c e apart (by_pair f) =
    let whole : front ++ c ∷ [] ≡ (content ++ carriage_return ∷ []) ++ line_feed ∷ [] =
    sym e ∙ f ∙ sym (append_assoc content (carriage_return ∷ []) (line_feed ∷ [])) in
    let parts = same_from_push front (content ++ carriage_return ∷ []) c line_feed whole in
    absurd (apart parts.1 content parts.0)

pub content_by_pair : (xs front content : List ℕ) → xs ≡ (front ++ carriage_return ∷ []) ++ line_feed ∷ []
    → Ended xs content → front ≡ content
content_by_pair xs front content e (by_one d f apart) =
    let parts = same_from_push (front ++ carriage_return ∷ []) content line_feed d (sym e ∙ f) in
    absurd (apart (sym parts.1) front (sym parts.0))
content_by_pair xs front content e (by_pair f) =
    let whole : (front ++ carriage_return ∷ []) ++ line_feed ∷ [] ≡ (content ++ carriage_return ∷ []) ++ line_feed ∷ [] =
    sym e ∙ f ∙ sym (append_assoc content (carriage_return ∷ []) (line_feed ∷ [])) in
    let parts = same_from_push (front ++ carriage_return ∷ []) (content ++ carriage_return ∷ []) line_feed line_feed whole in
    (same_from_push front content carriage_return carriage_return parts.0).0

pub content_by_feed : (xs front without content : List ℕ) → xs ≡ front ++ line_feed ∷ [] → IsWithoutReturn front without
    → Ended xs content → without ≡ content
content_by_feed xs front without content e (inl f) ended =
    content_by_pair xs without content (e ∙ ap (λ zs. zs ++ line_feed ∷ []) f) ended
content_by_feed xs front without content e (inr h) ended =
    sym h.0 ∙ content_by_one xs front content line_feed e (λ feed us f. h.1 us f) ended

-- where the next line begins behind characters, one line ends in them, and nothing of them is behind its end
pub one_line : (ends : LineEnds) (at next : ℕ) (xs ys more : List ℕ) → starts_behind ends at (xs ++ ys) ≡ next ∷ more
    → next ≡ at + length_in Bytes xs
    → (lines_ended ends xs ys ≡ 1) × (last_line ends xs ys ≡ [])
one_line ends at next [] ys more e place =
    absurd (omega (arith, starts_above ends at ys 0 (some e), ap (λ zs. get_or zs 0 0) e, place))
  where
    some : starts_behind ends at ys ≡ next ∷ more → 0 < length (starts_behind ends at ys)
    some f = omega (arith, ap length f)
one_line ends at next (c ∷ xs) ys more e place =
    by_test (ends_line ends c (xs ++ ys)) refl e (λ f. one_line ends (at + len_utf8 c) next xs ys more f (omega (arith, place)))
  where
    by_last : (us : List ℕ) → ends_line ends c (us ++ ys) ≡ true → length_in Bytes us ≡ 0
        → (lines_ended ends (c ∷ us) ys ≡ 1) × (last_line ends (c ∷ us) ys ≡ [])
    by_last [] t empty = (count_here ends c [] ys t, last_on ends c [] ys (count_here ends c [] ys t))
    by_last (u ∷ us) t empty = absurd (omega (arith, empty, (len_utf8_bounds u).0))

    by_test : (b : Bool) → ends_line ends c (xs ++ ys) ≡ b
        → (if b then (at + len_utf8 c) ∷ starts_behind ends (at + len_utf8 c) (xs ++ ys)
        else starts_behind ends (at + len_utf8 c) (xs ++ ys)) ≡ next ∷ more
        → (starts_behind ends (at + len_utf8 c) (xs ++ ys) ≡ next ∷ more
        → (lines_ended ends xs ys ≡ 1) × (last_line ends xs ys ≡ []))
        → (lines_ended ends (c ∷ xs) ys ≡ 1) × (last_line ends (c ∷ xs) ys ≡ [])
    by_test true t f rec =
        let first : at + len_utf8 c ≡ next = ap (λ zs. get_or zs 0 0) f in by_last xs t (omega (arith, first, place))
    by_test false t f rec =
        let found = rec f in
        let count : lines_ended ends (c ∷ xs) ys ≡ 1 = count_on ends c xs ys t ∙ found.0 in
        (count, last_on ends c xs ys count ∙ found.1)

-- where no line ends, all is content
pub no_line : (ends : LineEnds) (at : ℕ) (cs : List ℕ) → starts_behind ends at cs ≡ [] → line_content ends cs ≡ cs
no_line ends at [] e = refl
no_line ends at (c ∷ cs) e = by_beginning (beginning ends c cs) (no_line ends (at + len_utf8 c) cs)
  where
    on : ends_line ends c cs ≡ false → starts_behind ends (at + len_utf8 c) cs ≡ []
    on t =
        let here : starts_behind ends at (c ∷ cs) ≡ starts_behind ends (at + len_utf8 c) cs = rw t refl in sym here ∙ e

    by_line_feed : (us : List ℕ) (p : ℕ) → begins (λ d. d == line_feed) us ≡ true → starts_behind ends p us ≡ [] → ⊥
    by_line_feed [] p lf f = absurd (cc)
    by_line_feed (d ∷ us) p lf f =
        let ends_here : ends_line ends d us ≡ true =
        ap (λ x. ends_line ends x us) (eqb-true d line_feed lf) ∙ line_feed_ends ends us in
        let here : starts_behind ends p (d ∷ us) ≡ (p + len_utf8 d) ∷ starts_behind ends (p + len_utf8 d) us =
        rw ends_here refl in
        absurd (omega (arith, ap length here, ap length f))

    by_beginning : Beginning c cs (is_line_end ends c) (opens_pair c cs)
        → (starts_behind ends (at + len_utf8 c) cs ≡ [] → line_content ends cs ≡ cs)
        → line_content ends (c ∷ cs) ≡ c ∷ cs
    by_beginning (ends_alone b t) more =
        let here : starts_behind ends at (c ∷ cs) ≡ (at + len_utf8 c) ∷ starts_behind ends (at + len_utf8 c) cs =
        rw t refl in
        absurd (omega (arith, ap length here, ap length e))
    by_beginning (ends_pair b t cr lf) more = absurd (by_line_feed cs (at + len_utf8 c) lf (on t))
    by_beginning (ends_none b t p) more =
        let content : line_content ends (c ∷ cs) ≡ c ∷ line_content ends cs = rw b refl in
        content ∙ ap (λ zs. c ∷ zs) (more (on t))

-- The starts are those of a line that begins at a place, and of the lines behind it.
pub record BeginsAt (ends : LineEnds) (text : List ℕ) (start : ℕ) (starts : List ℕ) : Type 0 where
  pub boundary : IsCharBoundary text start
  pub onward : starts ≡ start ∷ starts_behind ends start (from_place text start)

begins_at : (ends : LineEnds) (s : At) (cs : List ℕ) (k : ℕ) → rest s ≡ cs
    → k < length (s.place ∷ starts_behind ends s.place cs)
    → (start : ℕ) × BeginsAt ends s.text start (drop k (s.place ∷ starts_behind ends s.place cs))
begins_at ends s cs zero e lt = (
  s.place,
  record {
    boundary = s.placed.boundary;
    onward = ap (λ us. s.place ∷ starts_behind ends s.place us) (sym e);
  },
)
begins_at ends s [] (suc k) e lt = absurd (omega (arith, lt))
begins_at ends s (c ∷ cs) (suc k) e lt =
    by_test (ends_line ends c cs) (λ j. begins_at ends (next_place s c cs e) cs j (step_rest s c cs e)) lt
  where
    by_test : (b : Bool)
        → ((j : ℕ) → j < length ((s.place + len_utf8 c) ∷ starts_behind ends (s.place + len_utf8 c) cs)
        → (start : ℕ) × BeginsAt ends s.text start
        (drop j ((s.place + len_utf8 c) ∷ starts_behind ends (s.place + len_utf8 c) cs)))
        → suc k < length (s.place ∷ (if b then (s.place + len_utf8 c) ∷ starts_behind ends (s.place + len_utf8 c) cs
        else starts_behind ends (s.place + len_utf8 c) cs))
        → (start : ℕ) × BeginsAt ends s.text start
        (drop (suc k) (s.place ∷ (if b then (s.place + len_utf8 c) ∷ starts_behind ends (s.place + len_utf8 c) cs
        else starts_behind ends (s.place + len_utf8 c) cs)))
    by_test true more within = more k (omega (arith, within))
    by_test false more within = more (suc k) (omega (arith, within))

-- a line of a text begins at a place between characters
pub line_at : (ends : LineEnds) (text starts : List ℕ) (k start : ℕ) → AreLineStarts ends text starts
    → slice_get starts k ≡ Some start → BeginsAt ends text start (drop k starts)
line_at ends text starts k start are found =
    subst (λ n. BeginsAt ends text n (drop k starts)) same
    (subst (λ zs. BeginsAt ends text line.0 (drop k zs)) (sym are.starts_are) line.1)
  where
    within : k < length starts
    within = slice_get_within starts k start found

    line : (n : ℕ) × BeginsAt ends text n (drop k (line_starts ends text))
    line =
        begins_at ends (at_place text 0 (at_start text are.utf8 are.short)) (chars text) k refl
        (subst (λ zs. k < length zs) are.starts_are within)

    same : line.0 ≡ start
    same =
        ap (λ zs. get_or zs 0 0) (sym line.1.onward ∙ ap (drop k) (sym are.starts_are))
        ∙ get_or-drop k starts 0 0 ∙ ap (λ n. get_or starts n 0) (add-zero k)
        ∙ get_or_from_slice_get starts k start 0 found

-- What is known of a line and of the one behind it.
pub record WholeLine (ends : LineEnds) (text : List ℕ) (start next : ℕ) : Type 0 where
  pub onward : start ≤ next
  pub from : IsCharBoundary text start
  pub to : IsCharBoundary text next
  pub whole : from_place text start ≡ chars (take (next - start) (drop start text)) ++ from_place text next
  pub count : lines_ended ends (chars (take (next - start) (drop start text))) (from_place text next) ≡ 1
  pub last : last_line ends (chars (take (next - start) (drop start text))) (from_place text next) ≡ []

pub whole_line : (ends : LineEnds) (text starts : List ℕ) (k start next : ℕ) → AreLineStarts ends text starts
    → slice_get starts k ≡ Some start → slice_get starts (k + 1) ≡ Some next → WholeLine ends text start next
whole_line ends text starts k start next are here there = record {
  onward = le;
  from = first.boundary;
  to = second.boundary;
  whole = parts;
  count = one.0;
  last = one.1;
}
  where
    first : BeginsAt ends text start (drop k starts)
    first = line_at ends text starts k start are here

    second : BeginsAt ends text next (drop (k + 1) starts)
    second = line_at ends text starts (k + 1) next are there

    rest_is : starts_behind ends start (from_place text start) ≡ next ∷ starts_behind ends next (from_place text next)
    rest_is = ap (drop 1) (sym first.onward) ∙ drop-drop 1 k starts ∙ second.onward

    le : start ≤ next
    le =
        omega (
          arith,
          starts_above ends start (from_place text start) 0 (omega (arith, ap length rest_is)),
          ap (λ us. get_or us 0 0) rest_is,
        )

    parts : from_place text start ≡ chars (take (next - start) (drop start text)) ++ from_place text next
    parts = parted text start next are.utf8 le first.boundary second.boundary

    bytes : next ≡ start + length_in Bytes (chars (take (next - start) (drop start text)))
    bytes =
        omega (
          arith,
          place_past text start next (chars (take (next - start) (drop start text))) are.utf8 first.boundary
              second.boundary parts,
          bytes_length (chars (take (next - start) (drop start text))),
        )

    one : (lines_ended ends (chars (take (next - start) (drop start text))) (from_place text next) ≡ 1)
        × (last_line ends (chars (take (next - start) (drop start text))) (from_place text next) ≡ [])
    one =
        one_line ends start next (chars (take (next - start) (drop start text))) (from_place text next)
        (starts_behind ends next (from_place text next)) (ap (starts_behind ends start) (sym parts) ∙ rest_is) bytes

-- The last line of a text is all that is left of it.
pub last_one : (ends : LineEnds) (text starts : List ℕ) (k start : ℕ) → AreLineStarts ends text starts
    → slice_get starts k ≡ Some start → slice_get starts (k + 1) ≡ None
    → line_content ends (from_place text start) ≡ from_place text start
last_one ends text starts k start are here none =
    no_line ends start (from_place text start) (nil_from_length _ empty)
  where
    first : BeginsAt ends text start (drop k starts)
    first = line_at ends text starts k start are here

    past : length starts ≤ k + 1
    past = by_cases (slice_get_cases starts (k + 1))
      where
        by_cases : ((slice_get starts (k + 1) ≡ slice_get starts (k + 1))
            × (((x : ℕ) × (k + 1 < length starts) × (slice_get starts (k + 1) ≡ Some x) × (get_or starts (k + 1) x ≡ x))
            ⊎ ((length starts ≤ k + 1) × (slice_get starts (k + 1) ≡ None)))) → length starts ≤ k + 1
        by_cases cases = elim cases.1 [ inl h ↦ absurd (let no = sym none ∙ h.2 in cc) | inr h ↦ h.0 ]

    empty : length (starts_behind ends start (from_place text start)) ≡ 0
    empty = omega (arith, ap length first.onward, length-drop k starts, past)
