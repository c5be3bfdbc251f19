-- Trees, as they are drawn from the last one on.
use Rattle.std.proofs.Common.{◌≡◌, ℕ, zero, suc, ◌+◌, List, [], ◌∷◌, ◌++◌, length, get_or, drop, replicate, reverse}
use Rattle.std.proofs.Common.{◌≤◌, refl, sym, ap, ◌∙◌, subst, add-one, append_assoc, arith}
use Rattle.std.proofs.lemmas.List.{append-nil, length-append, reverse-append, reverse-reverse}
use Rattle.std.proofs.lemmas.List.Elements.{All-append, All-drop, All-replicate}
use Rattle.std.specs.List.{All}
use Rattle.js_text.specs.declared.span.Span.{Span}
use Rattle.js_parse_tool.specs.Drawn.{AreDrawn}
use Rattle.js_parse_tool.specs.Drawn.AreDrawn.{none, tree}
use Rattle.js_parse_tool.specs.Trees.{AreTrees}
use Rattle.js_parse_tool.specs.Trees.AreTrees.{none as no_trees, node}
use Rattle.js_parse_tool.specs.declared.draw.Line.{Line}
use Rattle.js_parse_tool.specs.declared.node.Node.{Node}

abbrev pub line_of : ℕ → Node → Line
line_of depth n = record { depth = depth; node = n }

-- the lines of nodes, the last one first, by the depths of the trees to come
abbrev pub walk : List Node → List ℕ → List Line
walk [] ds = []
walk (n ∷ ns) ds =
    line_of (get_or ds 0 0) n ∷ walk ns (replicate n.children (get_or ds 0 0 + 1) ++ drop 1 ds)

-- one more depth before the others
pub one_in_front : (count depth : ℕ) (ds : List ℕ)
    → replicate (count + 1) depth ++ ds ≡ depth ∷ (replicate count depth ++ ds)
one_in_front count depth ds = rw add-one refl

-- the parts of a tree, turned about
turned : {A : Type 0} (xs ys rest : List A) (z : A)
    → reverse (xs ++ ys ++ z ∷ []) ++ rest ≡ z ∷ (reverse ys ++ (reverse xs ++ rest))
turned xs ys rest z = simp (reverse-append, append_assoc)

walked_on : (depth count : ℕ) (nodes : List Node) (lines : List Line) → AreDrawn depth count nodes lines
    → (rest : List Node) (ds : List ℕ)
    → walk (reverse nodes ++ rest) (replicate count depth ++ ds) ≡ reverse lines ++ walk rest ds
walked_on d c nodes lines (none depth) rest ds = refl
walked_on d c nodes lines (tree depth count before within n outer inner f g) rest ds =
    ap (λ ns. walk ns (depth ∷ replicate count depth ++ ds)) (turned before within rest n)
    ∙ ap (λ (ls : List Line). line_of depth n ∷ ls)
    (walked_on (depth + 1) n.children within inner g (reverse before ++ rest) (replicate count depth ++ ds)
    ∙ ap (λ (ls : List Line). reverse inner ++ ls) (walked_on depth count before outer f rest ds))
    ∙ sym (turned outer inner (walk rest ds) (line_of depth n))

-- the lines of so many trees, from the last one on
pub walked : (count : ℕ) (nodes : List Node) (lines drawn : List Line)
    → lines ≡ walk (reverse nodes) (replicate count 0) → AreDrawn 0 count nodes drawn → lines ≡ reverse drawn
walked count nodes lines drawn e f =
    e ∙ ap (λ ns. walk ns (replicate count 0)) (sym (append-nil (reverse nodes)))
    ∙ ap (walk (reverse nodes ++ [])) (sym (append-nil (replicate count 0)))
    ∙ walked_on 0 count nodes drawn f [] [] ∙ append-nil (reverse drawn)

-- before the first line
pub nothing_drawn : (count : ℕ) (nodes : List Node) (ds : List ℕ) → ds ≡ replicate count 0 ++ []
    → [] ++ walk (reverse nodes) ds ≡ walk (reverse nodes) (replicate count 0)
nothing_drawn count nodes ds e = ap (walk (reverse nodes)) (e ∙ append-nil (replicate count 0))

-- one more line
pub line_drawn : (whole lines new_lines : List Line) (rest before : List Node) (n : Node) (ds under new_ds : List ℕ)
    (depth : ℕ) → lines ++ walk (reverse rest) ds ≡ whole → rest ≡ before ++ n ∷ [] → depth ≡ get_or ds 0 0
    → under ≡ drop 1 ds → new_ds ≡ replicate n.children (depth + 1) ++ under
    → new_lines ≡ lines ++ line_of depth n ∷ [] → new_lines ++ walk (reverse before) new_ds ≡ whole
line_drawn whole lines new_lines rest before n ds under new_ds depth e parts first others more added =
    let turned_rest : reverse rest ≡ n ∷ reverse before =
    ap reverse parts ∙ reverse-append before (n ∷ []) in
    let depths : new_ds ≡ replicate n.children (get_or ds 0 0 + 1) ++ drop 1 ds =
    more ∙ ap (λ d. replicate n.children (d + 1) ++ under) first
    ∙ ap (λ us. replicate n.children (get_or ds 0 0 + 1) ++ us) others in
    let line : new_lines ≡ lines ++ line_of (get_or ds 0 0) n ∷ [] =
    added ∙ ap (λ (d : ℕ). lines ++ line_of d n ∷ []) first in
    ap (λ ls. ls ++ walk (reverse before) new_ds) line
    ∙ append_assoc lines (line_of (get_or ds 0 0) n ∷ []) (walk (reverse before) new_ds)
    ∙ ap (λ us. lines ++ line_of (get_or ds 0 0) n ∷ walk (reverse before) us) depths
    ∙ ap (λ ns. lines ++ walk ns ds) (sym turned_rest) ∙ e

-- after the last line
pub all_drawn : (whole lines : List Line) (rest : List Node) (ds : List ℕ)
    → lines ++ walk (reverse rest) ds ≡ whole → length rest ≡ 0 → lines ≡ whole
all_drawn whole lines [] ds e none_left = sym (append-nil lines) ∙ e
all_drawn whole lines (n ∷ ns) ds e none_left =
    let less : length ns + 1 ≡ 0 = omega arith in absurd (omega arith)

-- the first of some depths
pub first_deep : (most : ℕ) (ds : List ℕ) → All (λ d. d ≤ most) ds → get_or ds 0 0 ≤ most
first_deep most [] h = omega arith
first_deep most (d ∷ ds) h = h 0 0 (omega arith)

-- the depths of some trees, and one level more in place of the first
pub one_deeper : (most more count depth : ℕ) (ds under new_ds : List ℕ) → All (λ d. d ≤ most) ds → more ≡ most + 1
    → depth ≡ get_or ds 0 0 → under ≡ drop 1 ds → new_ds ≡ replicate count (depth + 1) ++ under
    → All (λ d. d ≤ more) new_ds
one_deeper most more count depth ds under new_ds h one first others deeper =
    let deep : get_or ds 0 0 ≤ most = first_deep most ds h in
    let fits : depth + 1 ≤ more = omega arith in
    let under_fits : All (λ d. d ≤ more) (drop 1 ds) =
    All-drop (λ d. d ≤ more) 1 ds
    (λ k d lt. let below : get_or ds k d ≤ most = h k d lt in omega arith) in
    subst (All (λ d. d ≤ more)) (ap (λ us. replicate count (depth + 1) ++ us) (sym others) ∙ sym deeper)
    (All-append (λ d. d ≤ more) (replicate count (depth + 1)) (drop 1 ds)
    (All-replicate (λ d. d ≤ more) count (depth + 1) fits) under_fits)

-- So many trees, one after another.
data Forest : ℕ → List Node → Type 0 where
  nothing : Forest zero []
  more : (count : ℕ) (before within : List Node) (n : Node) → Forest count before → Forest n.children within
      → Forest (suc count) (before ++ within ++ n ∷ [])

-- the last of some trees, and those before it
record LastTree (count : ℕ) (nodes : List Node) : Type 0 where
  before : List Node
  within : List Node
  n : Node
  whole : nodes ≡ before ++ within ++ n ∷ []
  front : Forest count before
  inside : Forest n.children within

last_tree : (count : ℕ) (nodes : List Node) → Forest (suc count) nodes → LastTree count nodes
last_tree c nodes (more count before within n f g) = record {
  before = before;
  within = within;
  n = n;
  whole = refl;
  front = f;
  inside = g;
}

record TwoForests (a b : ℕ) (nodes : List Node) : Type 0 where
  xs : List Node
  ys : List Node
  whole : nodes ≡ xs ++ ys
  front : Forest a xs
  back : Forest b ys

regrouped : (xs ys zs : List Node) (n : Node) → ((xs ++ ys) ++ zs) ++ n ∷ [] ≡ xs ++ ((ys ++ zs) ++ n ∷ [])
regrouped xs ys zs n = simp append_assoc

parted : (a b : ℕ) (nodes : List Node) → Forest (a + b) nodes → TwoForests a b nodes
parted a zero nodes f = record {
  xs = nodes;
  ys = [];
  whole = sym (append-nil nodes);
  front = let same : a + zero ≡ a = omega arith in subst (λ c. Forest c nodes) same f;
  back = nothing;
}
parted a (suc b) nodes f =
    let same : a + suc b ≡ suc (a + b) = omega arith in
    let last = last_tree (a + b) nodes (subst (λ c. Forest c nodes) same f) in
    let rest = parted a b last.before last.front in
    record {
      xs = rest.xs;
      ys = rest.ys ++ last.within ++ last.n ∷ [];
      whole =
          last.whole ∙ ap (λ bs. bs ++ last.within ++ last.n ∷ []) rest.whole
          ∙ regrouped rest.xs rest.ys last.within last.n;
      front = rest.front;
      back = more b rest.ys last.within last.n rest.back last.inside;
    }

forest_of : (text : List ℕ) (nodes : List Node) (roots : List Span) → AreTrees text nodes roots
    → Forest (length roots) nodes
forest_of text nodes roots no_trees = nothing
forest_of text nodes roots (node before earlier within n t inside children) =
    let sum : length (earlier ++ within) ≡ length earlier + length within = length-append earlier within in
    let parts =
    parted (length earlier) (length within) before
    (subst (λ c. Forest c before) sum (forest_of text before (earlier ++ within) t)) in
    let count : suc (length earlier) ≡ length (earlier ++ n.span ∷ []) =
    let one : length (earlier ++ n.span ∷ []) ≡ length earlier + 1 = length-append earlier (n.span ∷ []) in
    omega arith in
    subst (λ c. Forest c (before ++ n ∷ [])) count
    (subst (Forest (suc (length earlier))) (ap (λ bs. bs ++ n ∷ []) (sym parts.whole))
    (more (length earlier) parts.xs parts.ys n parts.front
    (subst (λ c. Forest c parts.ys) (sym children) parts.back)))

drawing : (count : ℕ) (nodes : List Node) → Forest count nodes → (depth : ℕ)
    → (lines : List Line) × AreDrawn depth count nodes lines
drawing c nodes nothing depth = ([], none depth)
drawing c nodes (more count before within n f g) depth =
    let front = drawing count before f depth in
    let inside = drawing n.children within g (depth + 1) in
    (_, tree depth count before within n front.0 inside.0 front.1 inside.1)

-- what was drawn of trees from the last one on, turned about
pub lines_of_trees : (text : List ℕ) (nodes : List Node) (roots : List Span) (count : ℕ) (back lines : List Line)
    → AreTrees text nodes roots → count ≡ length roots
    → ((drawn : List Line) → AreDrawn 0 count nodes drawn → back ≡ reverse drawn) → lines ≡ reverse back
    → AreDrawn 0 (length roots) nodes lines
lines_of_trees text nodes roots count back lines t counted backwards turned_back =
    let drawing_of = drawing (length roots) nodes (forest_of text nodes roots t) 0 in
    let same : back ≡ reverse drawing_of.0 =
    backwards drawing_of.0 (subst (λ c. AreDrawn 0 c nodes drawing_of.0) (sym counted) drawing_of.1) in
    subst (AreDrawn 0 (length roots) nodes)
    (sym (turned_back ∙ ap reverse same ∙ reverse-reverse drawing_of.0)) drawing_of.1
