-- Trees that grow.
use Rattle.std.proofs.Common.{◌≡◌, ℕ, ◌≤◌, ◌-◌, List, [], ◌∷◌, ◌++◌, length, take, drop, Option, None, Some, refl, sym}
use Rattle.std.proofs.Common.{ap, ◌∙◌, subst, arith}
use Rattle.std.specs.Prelude.{slice_get}
use Rattle.std.specs.List.{last_or}
use Rattle.std.specs.Str.{IsCharBoundary}
use Rattle.std.proofs.lemmas.List.{take-append-drop}
use Rattle.js_text.specs.declared.span.Span.{Span}
use Rattle.js_reader.specs.Decoded.{IsStretch}
use Rattle.js_parse_tool.specs.Trees.{AreInOrder, AreKept, AreTrees, Fits, IsBefore, end_of, last_end}
use Rattle.js_parse_tool.specs.Trees.AreTrees.{node, none}
use Rattle.js_parse_tool.specs.declared.node.Node.{Node}

last_at : (s : Span) (ss : List Span) → slice_get (s ∷ ss) (length ss) ≡ last_or None (s ∷ ss)
last_at s [] = refl
last_at s (t ∷ ts) = last_at t ts

-- the last of a list
pub last_is : (ss : List Span) → slice_get ss (length ss - 1) ≡ last_or None ss
last_is [] = refl
last_is (s ∷ ss) =
    let same : length (s ∷ ss) - 1 ≡ length ss = omega arith in
    ap (slice_get (s ∷ ss)) same ∙ last_at s ss

-- spans in order, in two parts
order_split : (text : List ℕ) (o : Option Span) (xs ys : List Span) → AreInOrder text (end_of o) (xs ++ ys)
    → AreInOrder text (end_of o) xs × AreInOrder text (end_of (last_or o xs)) ys
order_split text o [] ys h = (tt, h)
order_split text o (x ∷ xs) ys h = let rest = order_split text (Some x) xs ys h.2 in ((h.0, h.1, rest.0), rest.1)

-- spans in order, and one more
order_push : (text : List ℕ) (o : Option Span) (xs : List Span) (s : Span) → AreInOrder text (end_of o) xs
    → end_of (last_or o xs) ≤ s.start → IsStretch text s.start s.end → AreInOrder text (end_of o) (xs ++ s ∷ [])
order_push text o [] s h behind stretch = (behind, stretch, tt)
order_push text o (x ∷ xs) s h behind stretch = (h.0, h.1, order_push text (Some x) xs s h.2 behind stretch)

order_from : (text : List ℕ) (m n : ℕ) (ys : List Span) → AreInOrder text m ys → IsBefore n ys → AreInOrder text n ys
order_from text m n [] h before = tt
order_from text m n (s ∷ ss) h before = (before, h.1, h.2)

-- spans in order end at a place
place_of_last : (text : List ℕ) (o : Option Span) (xs : List Span) → IsCharBoundary text (end_of o)
    → AreInOrder text (end_of o) xs → IsCharBoundary text (end_of (last_or o xs))
place_of_last text o [] place h = place
place_of_last text o (x ∷ xs) place h = place_of_last text (Some x) xs h.1.end_place h.2

-- from a place to the end of spans in order
stretch_to_last : (text : List ℕ) (start : ℕ) (s : Span) (ss : List Span) → IsStretch text start s.end
    → AreInOrder text s.end ss → IsStretch text start (end_of (last_or (Some s) ss))
stretch_to_last text start s [] stretch h = stretch
stretch_to_last text start s (x ∷ xs) stretch h =
    stretch_to_last text start x xs
    (record {
      start_place = stretch.start_place;
      end_place = h.1.end_place;
      ordered =
          let first = stretch.ordered in
          let then_it = h.0 in
          let last = h.1.ordered in
          omega (arith, first, then_it, last);
    })
    h.2

-- what the roots within take up fits
hull_first : (text : List ℕ) (before : List Span) (s : Span) (ss : List Span)
    → AreInOrder text (last_end before) (s ∷ ss)
    → Fits text before (record { start = s.start; end = last_end (s ∷ ss) }) (s ∷ ss)
hull_first text before s ss h = record {
  stretch = stretch_to_last text s.start s ss h.1 h.2;
  behind = h.0;
  begins = let same : s.start ≤ s.start = omega arith in same;
  ends = let same : last_end (s ∷ ss) ≤ last_end (s ∷ ss) = omega arith in same;
}

abbrev start_of : Option Span → ℕ
start_of None = 0
start_of (Some s) = s.start

pub hull_some : (text : List ℕ) (before within : List Span) (first : Span) (n : ℕ)
    → AreInOrder text (last_end before) within → slice_get within 0 ≡ Some first → n ≡ last_end within
    → Fits text before (record { start = first.start; end = n }) within
hull_some text before [] first n h e end = absurd (cc)
hull_some text before (s ∷ ss) first n h e end =
    let at : s.start ≡ first.start = ap start_of e in
    subst (λ m. Fits text before (record { start = first.start; end = m }) (s ∷ ss)) (sym end)
    (subst (λ m. Fits text before (record { start = m; end = last_end (s ∷ ss) }) (s ∷ ss)) at
    (hull_first text before s ss h))

pub hull_none : (text : List ℕ) (before within : List Span) (n : ℕ) → IsCharBoundary text (last_end before)
    → slice_get within 0 ≡ None → n ≡ last_end before → Fits text before (record { start = n; end = n }) within
hull_none text before [] n place e at =
    subst (λ m. Fits text before (record { start = m; end = m }) []) (sym at)
    (record {
      stretch =
          record {
            start_place = place;
            end_place = place;
            ordered = let same : last_end before ≤ last_end before = omega arith in same;
          };
      behind = let same : last_end before ≤ last_end before = omega arith in same;
      begins = tt;
      ends = let least : 0 ≤ last_end before = omega arith in least;
    })
hull_none text before (s ∷ ss) n place e at = absurd (cc)

-- roots, in the two parts at a mark
pub kept_parts : (text : List ℕ) (roots before within : List Span) → IsCharBoundary text 0 → AreInOrder text 0 roots
    → roots ≡ before ++ within → IsCharBoundary text (last_end before) × AreInOrder text (last_end before) within
kept_parts text roots before within start h e =
    let parts = order_split text None before within (subst (AreInOrder text 0) e h) in
    (place_of_last text None before start parts.0, parts.1)

-- a node over the roots behind a mark
pub kept_close : (text : List ℕ) (nodes : List Node) (roots before within : List Span) (n : Node)
    → AreKept text nodes roots → roots ≡ before ++ within → Fits text before n.span within
    → n.children ≡ length within → AreKept text (nodes ++ n ∷ []) (before ++ n.span ∷ [])
kept_close text nodes roots before within n kept e fits children =
    let parts = order_split text None before within (subst (AreInOrder text 0) e kept.in_order) in
    record {
      start_place = kept.start_place;
      trees =
          node nodes before within n (subst (AreTrees text nodes) e kept.trees)
          (record {
            stretch = fits.stretch;
            in_order = order_from text (last_end before) n.span.start within parts.1 fits.begins;
            ends = fits.ends;
          })
          children;
      in_order = order_push text None before n.span parts.0 fits.behind fits.stretch;
    }

-- a node over what lies behind a mark of a slice of the roots
pub kept_behind : (text : List ℕ) (nodes : List Node) (roots slice before within : List Span) (mark : ℕ) (n : Node)
    → AreKept text nodes roots → slice ≡ roots → before ≡ take mark slice → within ≡ drop mark slice
    → (IsCharBoundary text (last_end before) → AreInOrder text (last_end before) within
    → Fits text before n.span within)
    → n.children ≡ length within → AreKept text (nodes ++ n ∷ []) (take mark roots ++ n.span ∷ [])
kept_behind text nodes roots slice before within mark n kept same front back fits children =
    let whole : roots ≡ before ++ within =
    sym same ∙ sym (take-append-drop mark slice) ∙ ap (λ bs. bs ++ drop mark slice) (sym front)
    ∙ ap (λ ws. before ++ ws) (sym back) in
    let parts = kept_parts text roots before within kept.start_place kept.in_order whole in
    subst (λ bs. AreKept text (nodes ++ n ∷ []) (bs ++ n.span ∷ [])) (front ∙ ap (take mark) same)
    (kept_close text nodes roots before within n kept whole (fits parts.0 parts.1) children)

pub kept_none : (text : List ℕ) (nodes : List Node) (roots : List Span) → IsCharBoundary text 0 → nodes ≡ []
    → roots ≡ [] → AreKept text nodes roots
kept_none text nodes roots start e f = record {
  start_place = start;
  trees = subst (λ ns. AreTrees text ns roots) (sym e) (subst (AreTrees text []) (sym f) none);
  in_order = subst (AreInOrder text 0) (sym f) tt;
}

-- the same trees, as they are told
pub kept_as : (text now_text : List ℕ) (nodes now_nodes : List Node) (roots now_roots : List Span)
    → AreKept text nodes roots → now_text ≡ text → now_nodes ≡ nodes → now_roots ≡ roots
    → AreKept now_text now_nodes now_roots
kept_as text now_text nodes now_nodes roots now_roots kept a b c =
    subst (λ t. AreKept t now_nodes now_roots) (sym a)
    (subst (λ ns. AreKept text ns now_roots) (sym b) (subst (AreKept text nodes) (sym c) kept))
