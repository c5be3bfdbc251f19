-- What a search for line ends passes.
use Rattle.std.proofs.Common.{◌≡◌, ℕ, ◌+◌, ◌&&◌, ◌||◌, ◌==◌, not, Bool, true, false, List, [], ◌∷◌, ◌++◌}
use Rattle.std.proofs.Common.{take, drop, subst, leb, suc, ◌-◌, ◌<◌, ◌≤◌, refl, sym, ap, ◌∙◌, arith, if◌then◌else◌, append_assoc, append-nil}
use Rattle.std.specs.Char.{len_utf8}
use Rattle.std.proofs.lemmas.Bool.{eqb-true, leb-true, leb-false}
use Rattle.std.proofs.lemmas.List.{append_cancel_right, take-append-drop}
use Rattle.std.proofs.lemmas.Str.{IsUtf8-take, chars-append}
use Rattle.std.specs.Str.{chars, IsUtf8}
use Rattle.js_text.proofs.TextLemmas.{before_from, place_past}
use Rattle.js_text.specs.Characters.{begins, before_first, from_first, from_place, is_line_terminator, CharAt}
use Rattle.js_source.proofs.Skips.{line_terminator_matches}
use Rattle.js_source.specs.Search.{four_bytes, matches_char}
use Rattle.js_source.specs.Source.{At, IsPlaced, Reads, rest}
use Rattle.js_lines.proofs.ColumnLemmas.{bytes_length, front_step, front_stops}
use Rattle.js_text.specs.Ascii.{carriage_return, line_feed}
use Rattle.js_lines.specs.Columns.{front_within, length_in}
use Rattle.js_lines.specs.Lines.{begins_line_end, ends_line, is_line_end, line_content, opens_pair, starts_behind}
use Rattle.js_lines.specs.Lines.{starts_from}
use Rattle.js_lines.specs.declared.table.TheConstants.{LINE_END_BYTES}
use Rattle.js_lines.specs.declared.columns.ColumnUnit.TheVariants.{Bytes}
use Rattle.js_lines.specs.declared.line_ends.LineEnds.{LineEnds}
use Rattle.js_lines.specs.declared.line_ends.LineEnds.TheVariants.{EcmaScript, LineFeeds, LanguageServer}

either_true : (a b : Bool) (P : Type 0) → (a || b) ≡ true → (a ≡ true → P) → (b ≡ true → P) → P
either_true true b P e f g = f refl
either_true false b P e f g = g e

both_true : (a b : Bool) → (a && b) ≡ true → a ≡ true
both_true true b e = refl
both_true false b e = absurd (cc)

-- line ends are made of line terminators
pub line_end_terminates : (ends : LineEnds) (c : ℕ) → is_line_end ends c ≡ true → is_line_terminator c ≡ true
unfolding is_line_terminator
line_end_terminates EcmaScript c e = e
line_end_terminates LineFeeds c e = let same : c ≡ 10 = eqb-true c 10 e in rw same refl
line_end_terminates LanguageServer c e =
    either_true (c == 10) (c == 13) _ e
    (λ t. let same : c ≡ 10 = eqb-true c 10 t in rw same refl)
    (λ t. let same : c ≡ 13 = eqb-true c 13 t in rw same refl)

pub pair_terminates : (c : ℕ) (cs : List ℕ) → opens_pair c cs ≡ true → is_line_terminator c ≡ true
unfolding is_line_terminator
pair_terminates c cs e =
    let same : c ≡ 13 = eqb-true c 13 (both_true (c == 13) (begins (λ d. d == line_feed) cs) e) in rw same refl

-- a character that is no line terminator neither ends a line nor begins a line end
pub no_end : (ends : LineEnds) (c : ℕ) (cs : List ℕ) → is_line_terminator c ≡ false
    → (ends_line ends c cs ≡ false) × (begins_line_end ends c cs ≡ false)
no_end ends c cs none =
    by_tests (is_line_end ends c) (opens_pair c cs) (line_end_terminates ends c) (pair_terminates c cs)
  where
    by_tests : (a b : Bool) → (a ≡ true → is_line_terminator c ≡ true) → (b ≡ true → is_line_terminator c ≡ true)
        → ((a && not b) ≡ false) × ((a || b) ≡ false)
    by_tests true b f g = absurd (let both : true ≡ false = sym (f refl) ∙ none in cc)
    by_tests false true f g = absurd (let both : true ≡ false = sym (g refl) ∙ none in cc)
    by_tests false false f g = (refl, refl)

module _ (m : ℕ → Bool) (stops : (c : ℕ) → is_line_terminator c ≡ true → m c ≡ true) where
  not_passed : (c : ℕ) → m c ≡ false → is_line_terminator c ≡ false
  not_passed c e = by_test (is_line_terminator c) refl
    where
      by_test : (b : Bool) → is_line_terminator c ≡ b → b ≡ false
      by_test true t = absurd (let both : true ≡ false = sym (stops c t) ∙ e in cc)
      by_test false t = refl

  -- a search that stops at each line terminator passes no line end
  pub starts_passed : (ends : LineEnds) (p q : ℕ) (cs : List ℕ)
      → p + length_in Bytes cs ≡ q + length_in Bytes (from_first m cs)
      → starts_behind ends p cs ≡ starts_behind ends q (from_first m cs)
  starts_passed ends p q [] e = refl
  starts_passed ends p q (c ∷ cs) e = by_test (m c) refl e (starts_passed ends (p + len_utf8 c) q cs)
    where
      by_test : (b : Bool) → m c ≡ b
          → p + (len_utf8 c + length_in Bytes cs) ≡ q + length_in Bytes (if b then c ∷ cs else from_first m cs)
          → (p + len_utf8 c + length_in Bytes cs ≡ q + length_in Bytes (from_first m cs)
          → starts_behind ends (p + len_utf8 c) cs ≡ starts_behind ends q (from_first m cs))
          → starts_behind ends p (c ∷ cs) ≡ starts_behind ends q (if b then c ∷ cs else from_first m cs)
      by_test true t same more =
          let there : p ≡ q = omega (arith, same) in ap (λ n. starts_behind ends n (c ∷ cs)) there
      by_test false t same more =
          let fails : ends_line ends c cs ≡ false = (no_end ends c cs (not_passed c t)).0 in
          rw fails (more (omega (arith, same)))

  pub content_passed : (ends : LineEnds) (cs : List ℕ)
      → line_content ends cs ≡ before_first m cs ++ line_content ends (from_first m cs)
  content_passed ends [] = refl
  content_passed ends (c ∷ cs) = by_test (m c) refl (content_passed ends cs)
    where
      by_test : (b : Bool) → m c ≡ b
          → line_content ends cs ≡ before_first m cs ++ line_content ends (from_first m cs)
          → line_content ends (c ∷ cs)
          ≡ (if b then [] else c ∷ before_first m cs) ++ line_content ends (if b then c ∷ cs else from_first m cs)
      by_test true t more = refl
      by_test false t more =
          let fails : begins_line_end ends c cs ≡ false = (no_end ends c cs (not_passed c t)).1 in
          rw fails (ap (λ zs. c ∷ zs) more)

-- From the characters old to the characters new nothing but content of a line was passed.
pub record PassesContent (ends : LineEnds) (old new : List ℕ) : Type 0 where
  pub passed : List ℕ
  pub here : old ≡ passed ++ new
  pub content : line_content ends old ≡ passed ++ line_content ends new

pub passes_none : (ends : LineEnds) (cs : List ℕ) → PassesContent ends cs cs
passes_none ends cs = record { passed = []; here = refl; content = refl }

pub passes_more : (ends : LineEnds) (xs ys zs : List ℕ) → PassesContent ends xs ys → PassesContent ends ys zs
    → PassesContent ends xs zs
passes_more ends xs ys zs f g = record {
  passed = f.passed ++ g.passed;
  here = f.here ∙ ap (λ us. f.passed ++ us) g.here ∙ sym (append_assoc f.passed g.passed zs);
  content = f.content ∙ ap (λ us. f.passed ++ us) g.content
      ∙ sym (append_assoc f.passed g.passed (line_content ends zs));
}

pub passes_search : (m : ℕ → Bool) → ((c : ℕ) → is_line_terminator c ≡ true → m c ≡ true) → (ends : LineEnds)
    → (cs : List ℕ) → PassesContent ends cs (from_first m cs)
passes_search m stops ends cs = record {
  passed = before_first m cs;
  here = sym (before_from m cs);
  content = content_passed m stops ends cs;
}

pub passes_character : (ends : LineEnds) (c : ℕ) (cs : List ℕ) → begins_line_end ends c cs ≡ false
    → PassesContent ends (c ∷ cs) cs
passes_character ends c cs none = record { passed = c ∷ []; here = refl; content = rw none refl }

-- at a line end, and at the end of the text, the content is all that was passed
pub content_ended : (ends : LineEnds) (old new : List ℕ) → PassesContent ends old new → line_content ends new ≡ []
    → old ≡ line_content ends old ++ new
content_ended ends old new f none =
    f.here ∙ ap (λ us. us ++ new) (sym (f.content ∙ ap (λ us. f.passed ++ us) none ∙ append-nil f.passed))

pub content_ends_here : (ends : LineEnds) (old new : List ℕ) (c : ℕ) (cs : List ℕ) → PassesContent ends old new
    → new ≡ c ∷ cs → begins_line_end ends c cs ≡ true → old ≡ line_content ends old ++ new
content_ends_here ends old new c cs f e is =
    let there : line_content ends (c ∷ cs) ≡ [] = rw is refl in
    content_ended ends old new f (ap (line_content ends) e ∙ there)

pub content_ends_text : (ends : LineEnds) (old new : List ℕ) → PassesContent ends old new → new ≡ []
    → old ≡ line_content ends old ++ new
content_ends_text ends old new f e = content_ended ends old new f (ap (line_content ends) e)

pub passes_past : (ends : LineEnds) (old new : List ℕ) (c : ℕ) (cs : List ℕ) → PassesContent ends old new
    → new ≡ c ∷ cs → begins_line_end ends c cs ≡ false → PassesContent ends old cs
passes_past ends old new c cs f e none =
    passes_more ends old (c ∷ cs) cs (subst (PassesContent ends old) e f) (passes_character ends c cs none)

-- the place behind a character that was read
pub place_behind : (s t : At) (c : ℕ) → Reads s t c → CharAt s.text s.place c t.place
    → t.place ≡ s.place + len_utf8 c
place_behind s t c reads at =
    omega (
      arith,
      place_past s.text s.place t.place (c ∷ []) s.placed.utf8 at.from at.to at.here,
      sym (bytes_length (c ∷ [])),
    )

pub starts_search : (m : ℕ → Bool) → ((c : ℕ) → is_line_terminator c ≡ true → m c ≡ true) → (ends : LineEnds)
    → (s t : At) → rest t ≡ from_first m (rest s)
    → s.place + length_in Bytes (rest s) ≡ t.place + length_in Bytes (rest t)
    → starts_from ends s ≡ starts_from ends t
starts_search m stops ends s t e bytes =
    starts_passed m stops ends s.place t.place (rest s) (bytes ∙ ap (λ cs. t.place + length_in Bytes cs) e)
    ∙ ap (starts_behind ends t.place) (sym e)

pub starts_here : (ends : LineEnds) (s t : At) (c : ℕ) → rest s ≡ c ∷ rest t → t.place ≡ s.place + len_utf8 c
    → ends_line ends c (rest t) ≡ true → starts_from ends s ≡ t.place ∷ starts_from ends t
starts_here ends s t c e place is =
    let here : starts_behind ends s.place (c ∷ rest t)
    ≡ (s.place + len_utf8 c) ∷ starts_behind ends (s.place + len_utf8 c) (rest t) = rw is refl in
    ap (starts_behind ends s.place) e ∙ here ∙ ap (λ n. n ∷ starts_behind ends n (rest t)) (sym place)

pub starts_on : (ends : LineEnds) (s t : At) (c : ℕ) → rest s ≡ c ∷ rest t → t.place ≡ s.place + len_utf8 c
    → ends_line ends c (rest t) ≡ false → starts_from ends s ≡ starts_from ends t
starts_on ends s t c e place none =
    let here : starts_behind ends s.place (c ∷ rest t) ≡ starts_behind ends (s.place + len_utf8 c) (rest t) =
    rw none refl in
    ap (starts_behind ends s.place) e ∙ here ∙ ap (λ n. starts_behind ends n (rest t)) (sym place)

-- the search for line ends stops at each line terminator
pub stops_at_ends : (c : ℕ) → is_line_terminator c ≡ true → matches_char (four_bytes LINE_END_BYTES) c ≡ true
stops_at_ends = line_terminator_matches (four_bytes LINE_END_BYTES) refl refl refl

-- the content of a line, from the bytes that it begins
pub content_is : (ends : LineEnds) (bytes : List ℕ) (s : At) → s.text ≡ bytes
    → chars bytes ≡ line_content ends (chars bytes) ++ rest s
    → chars (take s.place bytes) ≡ line_content ends (chars bytes)
content_is ends bytes s same content =
    let there = subst (λ t. IsPlaced t s.place) same s.placed in
    let left : from_place s.text s.place ≡ from_place bytes s.place = ap (λ t. from_place t s.place) same in
    let whole : chars bytes ≡ chars (take s.place bytes) ++ from_place bytes s.place =
    ap chars (sym (take-append-drop s.place bytes))
    ∙ chars-append (take s.place bytes) (drop s.place bytes) (IsUtf8-take bytes s.place there.utf8 there.boundary) in
    append_cancel_right (chars (take s.place bytes)) (line_content ends (chars bytes)) (from_place bytes s.place)
    (sym whole ∙ content ∙ ap (λ cs. line_content ends (chars bytes) ++ cs) left)

-- whether a LF is next is told by one byte
lf_kept : (n : ℕ) (cs : List ℕ)
    → begins (λ d. d == line_feed) (front_within Bytes (suc n) cs) ≡ begins (λ d. d == line_feed) cs
lf_kept n [] = refl
lf_kept n (d ∷ ds) = by_test (leb (len_utf8 d) (suc n)) refl (d == line_feed) refl
  where
    by_test : (b : Bool) → leb (len_utf8 d) (suc n) ≡ b → (t : Bool) → (d == line_feed) ≡ t
        → begins (λ x. x == line_feed) (if b then d ∷ front_within Bytes (suc n - len_utf8 d) ds else [])
        ≡ (d == line_feed)
    by_test true e t f = refl
    by_test false e true f =
        let same : d ≡ 10 = eqb-true d 10 f in
        let one : len_utf8 d ≡ 1 = ap len_utf8 same in
        absurd (omega (arith, leb-false _ _ e, one))
    by_test false e false f = sym f

-- where a character is longer than n, no front of a content that begins with it is
none_fits : (ends : LineEnds) (n c : ℕ) (cs : List ℕ) → n < len_utf8 c
    → front_within Bytes n (line_content ends (c ∷ cs)) ≡ []
none_fits ends n c cs long = by_test (begins_line_end ends c cs)
  where
    by_test : (b : Bool) → front_within Bytes n (if b then [] else c ∷ line_content ends cs) ≡ []
    by_test true = refl
    by_test false = (front_stops Bytes n (c ∷ line_content ends cs) long).0

-- A cut behind one byte more than is asked for leaves a line's content up to there as it was.
pub content_cut : (ends : LineEnds) (n : ℕ) (cs : List ℕ)
    → front_within Bytes n (line_content ends (front_within Bytes (suc n) cs))
    ≡ front_within Bytes n (line_content ends cs)
content_cut ends n [] = refl
content_cut ends n (c ∷ cs) = by_test (leb (len_utf8 c) n) refl (content_cut ends (n - len_utf8 c) cs)
  where
    by_end : (b : Bool) → len_utf8 c ≤ n
        → front_within Bytes (n - len_utf8 c) (line_content ends (front_within Bytes (suc (n - len_utf8 c)) cs))
        ≡ front_within Bytes (n - len_utf8 c) (line_content ends cs)
        → front_within Bytes n (if b then [] else c ∷ line_content ends
        (front_within Bytes (suc (n - len_utf8 c)) cs))
        ≡ front_within Bytes n (if b then [] else c ∷ line_content ends cs)
    by_end true le more = refl
    by_end false le more =
        (front_step Bytes n c (line_content ends (front_within Bytes (suc (n - len_utf8 c)) cs)) le).0
        ∙ ap (λ zs. c ∷ zs) more ∙ sym ((front_step Bytes n c (line_content ends cs) le).0)

    same_end : begins_line_end ends c (front_within Bytes (suc (n - len_utf8 c)) cs) ≡ begins_line_end ends c cs
    same_end = ap (λ b. is_line_end ends c || ((c == carriage_return) && b)) (lf_kept (n - len_utf8 c) cs)

    by_width : (b : Bool) → leb (len_utf8 c) (suc n) ≡ b → n < len_utf8 c
        → front_within Bytes n (line_content ends
        (if b then c ∷ front_within Bytes (suc n - len_utf8 c) cs else [])) ≡ []
    by_width true e long = none_fits ends n c (front_within Bytes (suc n - len_utf8 c) cs) long
    by_width false e long = refl

    by_test : (b : Bool) → leb (len_utf8 c) n ≡ b
        → front_within Bytes (n - len_utf8 c) (line_content ends (front_within Bytes (suc (n - len_utf8 c)) cs))
        ≡ front_within Bytes (n - len_utf8 c) (line_content ends cs)
        → front_within Bytes n (line_content ends (front_within Bytes (suc n) (c ∷ cs)))
        ≡ front_within Bytes n (line_content ends (c ∷ cs))
    by_test true e more =
        let le : len_utf8 c ≤ n = leb-true _ _ e in
        let room : suc n - len_utf8 c ≡ suc (n - len_utf8 c) = omega arith in
        let step : front_within Bytes (suc n) (c ∷ cs) ≡ c ∷ front_within Bytes (suc (n - len_utf8 c)) cs =
        (front_step Bytes (suc n) c cs (omega arith)).0 ∙ ap (λ k. c ∷ front_within Bytes k cs) room in
        ap (λ zs. front_within Bytes n (line_content ends zs)) step
        ∙ ap (λ b. front_within Bytes n (if b then [] else c ∷ line_content ends
        (front_within Bytes (suc (n - len_utf8 c)) cs))) same_end
        ∙ by_end (begins_line_end ends c cs) le more
    by_test false e more =
        let long : n < len_utf8 c = leb-false _ _ e in
        by_width (leb (len_utf8 c) (suc n)) refl long ∙ sym (none_fits ends n c cs long)
