-- Each anchor tells the line that begins there.
use Rattle.std.proofs.Common.{◌≡◌, ℕ, suc, ◌+◌, Bool, true, false, not, List, [], ◌∷◌, ◌++◌, ◌∙◌, ap, sym, subst, refl, arith}
use Rattle.std.proofs.Common.{append_assoc, true≢false}
use Rattle.std.specs.Prelude.{◌&&◌, ◌||◌, ◌==◌, if◌then◌else◌}
use Rattle.std.proofs.lemmas.Bool.{eqb-true}
use Rattle.js_text.specs.Characters.{begins, is_line_terminator}
use Rattle.js_lines.specs.Lines.{ends_line, lines_ended}
use Rattle.js_lines.specs.declared.line_ends.LineEnds.TheVariants.{EcmaScript}
use Rattle.js_page.proofs.TextLemmas.{characters_in, same_characters, without_marks}
use Rattle.js_page.specs.Lines.{begun, ended, ends_before, ends_behind, first_line, next_lines, pieces_in}
use Rattle.js_page.specs.Numbered.{AreNumbered}
use Rattle.js_page.specs.Pieces.{Piece, character, characters_of, closing, fault_closing, fault_opening, line, opening}
use Rattle.js_page.specs.declared.lines.Lines.{Lines}

abbrev one_if : Bool → ℕ
one_if b = if b then 1 else 0

abbrev line_feed_next : List ℕ → Bool
line_feed_next cs = begins (λ d. d == 10) cs

-- one line more, or none
one_more : (b : Bool) (m n k : ℕ) → m ≡ n + k → (if b then suc m else m) ≡ (if b then suc n else n) + k
one_more true m n k e = omega (arith, e)
one_more false m n k e = e

first_one : (b : Bool) → (if b then suc 0 else 0) ≡ 0 + one_if b
first_one true = refl
first_one false = refl

-- the lines that end before a place, with one character more
ended_more : (before : List ℕ) (c : ℕ) (rest : List ℕ)
    → lines_ended EcmaScript (before ++ c ∷ []) rest
    ≡ lines_ended EcmaScript before (c ∷ rest) + one_if (ends_line EcmaScript c rest)
ended_more [] c rest = first_one (ends_line EcmaScript c rest)
ended_more (d ∷ ds) c rest =
    ap (λ cs. if ends_line EcmaScript d cs then suc (lines_ended EcmaScript (ds ++ c ∷ []) rest)
    else lines_ended EcmaScript (ds ++ c ∷ []) rest) (append_assoc ds (c ∷ []) rest)
    ∙ one_more (ends_line EcmaScript d (ds ++ c ∷ rest)) (lines_ended EcmaScript (ds ++ c ∷ []) rest)
    (lines_ended EcmaScript ds (c ∷ rest)) (one_if (ends_line EcmaScript c rest)) (ended_more ds c rest)

-- The lines are those behind these characters, where others follow: a CR has ended one if no LF follows.
abbrev IsAt : Lines → List ℕ → List ℕ → Type 0
IsAt s before cs =
    suc (lines_ended EcmaScript before cs) ≡ s.number + one_if (s.behind_return && not (line_feed_next cs))

begun_by : (a b : Bool) (n k : ℕ) → k ≡ n + one_if (b && not a) → (if not a && b then n + 1 else n) ≡ k
begun_by true true n k e = omega (arith, e)
begun_by true false n k e = omega (arith, e)
begun_by false true n k e = omega (arith, e)
begun_by false false n k e = omega (arith, e)

-- the number of the line on which a character stands
begun_is : (s : Lines) (before : List ℕ) (c : ℕ) (cs : List ℕ) → IsAt s before (c ∷ cs)
    → begun s c ≡ suc (lines_ended EcmaScript before (c ∷ cs))
begun_is s before c cs at =
    begun_by (c == 10) s.behind_return s.number (suc (lines_ended EcmaScript before (c ∷ cs))) at

abbrev Apart : (r a u v : Bool) → Type 0
Apart r a u v = r ≡ true → (a ≡ false) × (u ≡ false) × (v ≡ false)

apart : (c : ℕ) → Apart (c == 13) (c == 10) (c == 0x2028) (c == 0x2029)
apart c e =
    let is : c ≡ 13 = eqb-true c 13 e in (
      subst (λ d. (d == 10) ≡ false) (sym is) refl,
      subst (λ d. (d == 0x2028) ≡ false) (sym is) refl,
      subst (λ d. (d == 0x2029) ≡ false) (sym is) refl,
    )

ended_by : (a r u v f : Bool) (n : ℕ) → Apart r a u v
    → n + one_if (((a || r) || (u || v)) && not (r && f))
    ≡ (if (a || u) || v then n + 1 else n) + one_if (r && not f)
ended_by true true u v f n h = absurd (true≢false (h refl).0)
ended_by false true true v f n h = absurd (true≢false (h refl).1)
ended_by false true false true f n h = absurd (true≢false (h refl).2)
ended_by false true false false true n h = omega arith
ended_by false true false false false n h = omega arith
ended_by true false u v f n h = omega arith
ended_by false false true v f n h = omega arith
ended_by false false false true f n h = omega arith
ended_by false false false false f n h = omega arith

ended_is : (n c : ℕ) (cs : List ℕ)
    → n + one_if (ends_line EcmaScript c cs) ≡ ended n c + one_if ((c == 13) && not (line_feed_next cs))
unfolding is_line_terminator
ended_is n c cs = ended_by (c == 10) (c == 13) (c == 0x2028) (c == 0x2029) (line_feed_next cs) n (apart c)

one_later : (n k : ℕ) → suc (n + k) ≡ suc n + k
one_later n k = omega arith

at_next : (s : Lines) (before : List ℕ) (c : ℕ) (cs : List ℕ) → IsAt s before (c ∷ cs)
    → IsAt (next_lines s c) (before ++ c ∷ []) cs
at_next s before c cs at =
    ap suc (ended_more before c cs)
    ∙ one_later (lines_ended EcmaScript before (c ∷ cs)) (one_if (ends_line EcmaScript c cs))
    ∙ ap (λ n. n + one_if (ends_line EcmaScript c cs)) (sym (begun_is s before c cs at))
    ∙ ended_is (begun s c) c cs

line_before : (p : Bool) (n k : ℕ) → (if p then n + 1 else n) ≡ k → p ≡ true → n + 1 ≡ k
line_before true n k e h = e
line_before false n k e h = absurd (true≢false (sym h))

line_after : (a r u v f : Bool) (n k : ℕ) → Apart r a u v
    → k ≡ (if (a || u) || v then n + 1 else n) + one_if (r && not f) → ((a || u) || v) ≡ true → n + 1 ≡ k
line_after true true u v f n k h e q = absurd (true≢false (h refl).0)
line_after false true true v f n k h e q = absurd (true≢false (h refl).1)
line_after false true false true f n k h e q = absurd (true≢false (h refl).2)
line_after false true false false f n k h e q = absurd (true≢false (sym q))
line_after true false u v f n k h e q = omega (arith, e)
line_after false false true v f n k h e q = omega (arith, e)
line_after false false false true f n k h e q = omega (arith, e)
line_after false false false false f n k h e q = absurd (true≢false (sym q))

numbered_step : (p q : Bool) (n m c : ℕ) (before cs : List ℕ) (later : List Piece) → characters_of later ≡ cs
    → (p ≡ true → n ≡ suc (lines_ended EcmaScript before (c ∷ cs)))
    → (q ≡ true → m ≡ suc (lines_ended EcmaScript (before ++ c ∷ []) cs)) → AreNumbered (before ++ c ∷ []) later
    → AreNumbered before (((if p then line n ∷ [] else []) ++ (character c ∷ (if q then line m ∷ [] else []))) ++ later)
numbered_step true true n m c before cs later are first second rest = (
  subst (λ xs. n ≡ suc (lines_ended EcmaScript before (c ∷ xs))) (sym are) (first refl),
  (subst (λ xs. m ≡ suc (lines_ended EcmaScript (before ++ c ∷ []) xs)) (sym are) (second refl), rest),
)
numbered_step true false n m c before cs later are first second rest =
    (subst (λ xs. n ≡ suc (lines_ended EcmaScript before (c ∷ xs))) (sym are) (first refl), rest)
numbered_step false true n m c before cs later are first second rest =
    (subst (λ xs. m ≡ suc (lines_ended EcmaScript (before ++ c ∷ []) xs)) (sym are) (second refl), rest)
numbered_step false false n m c before cs later are first second rest = rest

numbered_in : (s : Lines) (before cs : List ℕ) → IsAt s before cs → AreNumbered before (pieces_in s cs)
numbered_in s before [] at = tt
numbered_in s before (c ∷ cs) at =
    numbered_step (ends_before s c) (ends_behind c) (s.number + 1) (begun s c + 1) c before cs
    (pieces_in (next_lines s c) cs) (characters_in (next_lines s c) cs)
    (line_before (ends_before s c) s.number (suc (lines_ended EcmaScript before (c ∷ cs))) (begun_is s before c cs at))
    (line_after (c == 10) (c == 13) (c == 0x2028) (c == 0x2029) (line_feed_next cs) (begun s c)
    (suc (lines_ended EcmaScript (before ++ c ∷ []) cs)) (apart c) (at_next s before c cs at))
    (numbered_in (next_lines s c) (before ++ c ∷ []) cs (at_next s before c cs at))

-- marks change nothing
numbered_with_marks : (before : List ℕ) (ps : List Piece) → AreNumbered before (without_marks ps)
    → AreNumbered before ps
numbered_with_marks before [] are = are
numbered_with_marks before (character c ∷ ps) are = numbered_with_marks (before ++ c ∷ []) ps are
numbered_with_marks before (line n ∷ ps) are = (
  subst (λ cs. n ≡ suc (lines_ended EcmaScript before cs)) (same_characters ps) are.0,
  numbered_with_marks before ps are.1,
)
numbered_with_marks before (opening c ∷ ps) are = numbered_with_marks before ps are
numbered_with_marks before (closing ∷ ps) are = numbered_with_marks before ps are
numbered_with_marks before (fault_opening title ∷ ps) are = numbered_with_marks before ps are
numbered_with_marks before (fault_closing ∷ ps) are = numbered_with_marks before ps are

-- pieces that are those of a source without their marks, behind the anchor of the first line
pub numbered_source : (cs : List ℕ) (ps : List Piece) → without_marks ps ≡ pieces_in first_line cs
    → AreNumbered [] (line 1 ∷ ps)
numbered_source cs ps same =
    (refl, numbered_with_marks [] ps (subst (AreNumbered []) (sym same) (numbered_in first_line [] cs refl)))
