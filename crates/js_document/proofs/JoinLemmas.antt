-- The old row that a row of an edited text joins, among old ones in the order of their places.
use Rattle.std.proofs.Common.{◌≡◌, ℕ, zero, suc, ◌+◌, ◌-◌, ◌<◌, ◌≤◌, Bool, true, false, leb, List, [], ◌∷◌, length}
use Rattle.std.proofs.Common.{refl, sym, ◌∙◌, ap, subst, arith, Some}
use Rattle.std.specs.List.{AllByRecursion}
use Rattle.std.specs.Prelude.{reverse, slice_get}
use Rattle.std.proofs.lemmas.Bool.{leb-false, leb-true}
use Rattle.std.proofs.lemmas.List.{length-map}
use Rattle.js_kind.specs.TokenParts.{TokenParts}
use Rattle.js_session.specs.declared.row.Row.{Row}
use Rattle.js_session.specs.Shifted.{shifted_token}
use Rattle.js_relex.specs.Joined.{at_start}
use Rattle.js_document.specs.declared.gap.Entry.{Entry}
use Rattle.js_document.specs.declared.open.Node.{Node}
use Rattle.js_document.specs.Gap.{AreInOrder, ComesLater, rows_of}
use Rattle.js_document.specs.Reading.{IsHeldToken, IsSeam, JoiningState, JoinsHeld, JoinsNone, Knowledge}
use Rattle.js_document.specs.States.{Alikeness, IsLast}
use Rattle.js_document.proofs.ListLemmas.{get_turned, get_within}

-- of rows in order a later one comes later
pub order_at : (rows : List Row) (m n : ℕ) (x y : Row) → AreInOrder rows → slice_get rows m ≡ Some x → slice_get rows n ≡ Some y
    → m < n → ComesLater x.token y.token
order_at [] m n x y order at_m at_n less = absurd (cc)
order_at (row ∷ rows) m zero x y order at_m at_n less = absurd (omega (arith, less))
order_at (row ∷ rows) zero (suc n) x y order at_m at_n less =
    let same : row ≡ x = cc in
    subst (λ (r : Row). ComesLater r.token y.token) same (among rows n order.0 at_n)
  where
    among : (rows : List Row) (n : ℕ) → AllByRecursion (λ (later : Row). ComesLater row.token later.token) rows
        → slice_get rows n ≡ Some y → ComesLater row.token y.token
    among [] n all at = absurd (cc)
    among (r ∷ rs) zero all at =
        (let same : r ≡ y = cc in subst (λ (q : Row). ComesLater row.token q.token) same all.0)
    among (r ∷ rs) (suc n) all at = among rs n all.1 at
order_at (row ∷ rows) (suc m) (suc n) x y order at_m at_n less =
    order_at rows m n x y order.1 at_m at_n (omega (arith, less))

module _ {K : Type 0} (back : List (Entry K)) (order : AreInOrder (reverse (rows_of {K = K} back))) where
  row_at : (es : List (Entry K)) (n : ℕ) (e : Entry K) → slice_get es n ≡ Some e
      → slice_get (rows_of {K = K} es) n ≡ Some e.row
  row_at [] n e is = absurd (cc)
  row_at (x ∷ es) zero e is = (let same : x ≡ e = cc in ap (λ (y : Entry K). Some y.row) same)
  row_at (x ∷ es) (suc n) e is = row_at es n e is

  -- entries from the last one on start no later
  falls : (i j : ℕ) (x y : Entry K) → slice_get back i ≡ Some x → slice_get back j ≡ Some y → i ≤ j
      → y.row.token.start ≤ x.row.token.start
  falls i j x y at_i at_j less = by_place (leb j i) refl
    where
      long : length (rows_of {K = K} back) ≡ length back
      long = length-map back (λ (e : Entry K). e.row)

      within : j < length back
      within = get_within back j y at_j

      turned : (n : ℕ) (e : Entry K) → slice_get back n ≡ Some e
          → slice_get (reverse (rows_of {K = K} back)) (length back - 1 - n) ≡ Some e.row
      turned n e at =
          let inside = get_within back n e at in
          let place : length (rows_of {K = K} back) - 1 - (length back - 1 - n) ≡ n = omega (arith, inside, long) in
          get_turned (rows_of {K = K} back) (length back - 1 - n) (omega (arith, inside, long))
          ∙ ap (slice_get (rows_of {K = K} back)) place ∙ row_at back n e at

      by_place : (b : Bool) → leb j i ≡ b → y.row.token.start ≤ x.row.token.start
      by_place true e =
          let same : i ≡ j = (let past = leb-true j i e in omega (arith, past, less)) in
          let both : Some x ≡ Some y = sym at_i ∙ ap (slice_get back) same ∙ at_j in
          let one : x ≡ y = cc in
          let starts = ap (λ (z : Entry K). z.row.token.start) one in
          omega (arith, starts)
      by_place false e =
          let before = leb-false j i e in
          (order_at (reverse (rows_of {K = K} back)) (length back - 1 - j) (length back - 1 - i) y.row x.row order
          (turned j y at_j) (turned i x at_i) (omega (arith, before, within))).starts

-- No entry before the index is joined.
abbrev pub NoneUntil : {K : Type 0} → Knowledge K → Alikeness → List Node → JoiningState K → TokenParts → K → ℕ → Type 0
NoneUntil {K} knows Alike nodes j token state index =
    (tokens : List TokenParts) → knows nodes state tokens → IsLast token tokens → (left : ℕ) (entry : Entry K)
    → left < index → slice_get j.back left ≡ Some entry → IsHeldToken {K = K} j token entry
    → (others : List TokenParts) (other : TokenParts) → knows nodes entry.state others → IsLast other others
    → at_start other ≡ at_start entry.row.token → Alike tokens others → ⊥

module _ {K : Type 0} (knows : Knowledge K) (Alike : Alikeness) (nodes : List Node) (j : JoiningState K)
    (token padded : TokenParts) (state : K) (is_padded : padded ≡ shifted_token 0 j.pad token) where
  -- an entry that is held starts with the padded token
  held_start : (entry : Entry K) → IsHeldToken {K = K} j token entry → entry.row.token.start ≡ padded.start
  held_start entry held = ap (λ (t : TokenParts). t.start) (held.same ∙ sym is_padded)

  pub none_at_first : (at : ℕ) → IsSeam {K = K} j.back padded.start at
      → NoneUntil {K = K} knows Alike nodes j token state at
  none_at_first at seam tokens known last left entry less there held others other known_others is_last kind alike =
      let above = seam.above left entry less there in
      let same = held_start entry held in
      omega (arith, above, same)

  -- the next one is not joined either
  pub none_next : (left : ℕ) (entry : Entry K) → slice_get j.back left ≡ Some entry
      → ((tokens others : List TokenParts) (other : TokenParts) → knows nodes state tokens
      → knows nodes entry.state others → IsLast token tokens → IsLast other others → at_start other ≡ at_start token
      → entry.row.token ≡ padded → Alike tokens others → ⊥)
      → NoneUntil {K = K} knows Alike nodes j token state left
      → NoneUntil {K = K} knows Alike nodes j token state (left + 1)
  none_next left entry there differ none tokens known last n e less at held others other known_others is_last kind alike =
      by_place (leb left n) refl
    where
      by_place : (b : Bool) → leb left n ≡ b → ⊥
      by_place false before =
          none tokens known last n e (leb-false left n before) at held others other known_others is_last kind alike
      by_place true past =
          let same : n ≡ left = (let at_least = leb-true left n past in omega (arith, at_least, less)) in
          let both : Some e ≡ Some entry = sym at ∙ ap (slice_get j.back) same ∙ there in
          let one : e ≡ entry = cc in
          let is_token : e.row.token ≡ padded = held.same ∙ sym is_padded in
          differ tokens others other known (subst (λ (x : Entry K). knows nodes x.state others) one known_others) last
          is_last (kind ∙ ap at_start held.same)
          (ap (λ (x : Entry K). x.row.token) (sym one) ∙ is_token) alike

  -- where the next one starts elsewhere, none is
  pub none_further : (at left : ℕ) (entry : Entry K) → AreInOrder (reverse (rows_of {K = K} j.back))
      → IsSeam {K = K} j.back padded.start at → at ≤ left → slice_get j.back left ≡ Some entry
      → (entry.row.token.start ≡ padded.start → ⊥) → NoneUntil {K = K} knows Alike nodes j token state left
      → (tokens : List TokenParts) → knows nodes state tokens → IsLast token tokens
      → JoinsNone {K = K} knows Alike nodes j token tokens
  none_further at left entry order seam from there elsewhere none tokens known last n e at_n held others other
      known_others is_last kind alike = by_place (leb left n) refl
    where
      by_place : (b : Bool) → leb left n ≡ b → ⊥
      by_place false before =
          none tokens known last n e (leb-false left n before) at_n held others other known_others is_last kind alike
      by_place true past =
          let further = falls {K = K} j.back order left n entry e there at_n (leb-true left n past) in
          let below = seam.below left entry from there in
          let same = held_start e held in
          elsewhere (omega (arith, further, below, same))

  -- and behind the last one none is
  pub none_left : (left : ℕ) → length j.back ≤ left → NoneUntil {K = K} knows Alike nodes j token state left
      → (tokens : List TokenParts) → knows nodes state tokens → IsLast token tokens
      → JoinsNone {K = K} knows Alike nodes j token tokens
  none_left left past none tokens known last n e at held others other known_others is_last kind alike =
      let within = get_within j.back n e at in
      none tokens known last n e (omega (arith, within, past)) at held others other known_others is_last kind alike

  pub joins_here : (left : ℕ) (entry : Entry K) → slice_get j.back left ≡ Some entry → j.limit ≤ padded.start
      → entry.row.token ≡ padded → (tokens : List TokenParts)
      → ((others : List TokenParts) (other : TokenParts) → knows nodes entry.state others → IsLast other others
      → at_start other ≡ at_start token → Alike tokens others) → JoinsHeld {K = K} knows Alike nodes j token tokens left
  joins_here left entry there far same tokens alike = record {
    entry = entry;
    is_there = there;
    is_held = record {
      behind = (let start = ap (λ (t : TokenParts). t.start) same in omega (arith, far, start));
      same = same ∙ is_padded;
    };
    alike = λ others other known_others is_last kind.
        alike others other known_others is_last
        (kind ∙ ap at_start (same ∙ is_padded));
  }

  -- a token before the edit is none that is held
  pub none_before : padded.start < j.limit → (tokens : List TokenParts) → JoinsNone {K = K} knows Alike nodes j token tokens
  none_before before tokens n e at held others other known_others is_last kind alike =
      let far = held.behind in
      let same = held_start e held in
      omega (arith, far, same, before)
