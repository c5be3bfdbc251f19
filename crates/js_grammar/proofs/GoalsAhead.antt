-- What is read of parts of JSX and of angles depends on its characters, and on the first behind them.
use Rattle.std.proofs.Common.{◌≡◌, ℕ, ◌≤◌, Bool, true, false, ◌==◌, ◌&&◌, List, [], ◌∷◌, ◌++◌, length, drop}
use Rattle.std.proofs.Common.{length-drop, refl, sym, ◌∙◌, ap, subst, arith, length-append, append_assoc, Option, Some}
use Rattle.std.proofs.Common.{None}
use Rattle.std.specs.Prelude.{nat_le, if◌then◌else◌}
use Rattle.std.specs.List.{list_all}
use Rattle.std.proofs.lemmas.Bool.{and_parts, leb-true}
use Rattle.std.proofs.Math.Seq.{drop-append_seam}
use Rattle.js_text.specs.Ascii.{hyphen_minus, less_than_sign}
use Rattle.js_text.specs.Characters.{begins, from_first}
use Rattle.js_text.proofs.TextLemmas.{length-from_first}
use Rattle.js_text.specs.declared.diagnostic.Diagnostic.TheVariants.{UnexpectedJsxEnd}
use Rattle.js_kind.specs.Kinds.{kind_text}
use Rattle.js_kind.specs.declared.kind.Kind.{Kind}
use Rattle.js_kind.specs.declared.kind.Kind.TheVariants.{Eof, JSXText, LAngle, LCurly, Str}
use Rattle.js_grammar.specs.Angle.{angle_reading, punctuator_reading}
use Rattle.js_grammar.specs.Gap.{is_prefix}
use Rattle.js_grammar.specs.Jsx.{begins_child, ends_jsx_name, ends_jsx_text, jsx_child_reading, jsx_name_reading}
use Rattle.js_grammar.specs.Jsx.{jsx_name_up_to, jsx_string_before, jsx_string_reading, jsx_text_before}
use Rattle.js_grammar.specs.Jsx.{jsx_text_reading, reported}
use Rattle.js_grammar.specs.NumberReads.{empty_span}
use Rattle.js_grammar.specs.Reading.{Reading, before_rest, read_up_to, size_of}
use Rattle.js_grammar.specs.StringItems.{is_quote}
use Rattle.js_grammar.specs.TokenText.{unescaped_value}
use Rattle.js_grammar.specs.UnicodeEscape.{left_curly_bracket}
use Rattle.js_grammar.proofs.Ahead.{AgreeFor, BeginAlike, agree_behind, alike_behind, are_ascii, begins_alike}
use Rattle.js_grammar.proofs.Ahead.{nothing_before, prefix_agrees}
use Rattle.js_grammar.proofs.GapsAhead.{first_local}
use Rattle.js_grammar.proofs.ReadingLemmas.{taken_is}
use Rattle.js_grammar.proofs.Tests.{prefix_is}

-- A reading that ends before these characters is, but for what is left, that of the other text.
abbrev pub ReadsSame : List ℕ → List ℕ → Option Reading → Option Reading → Type 0
ReadsSame ys zs found other =
    (r : Reading) → found ≡ Some r → r.rest ≡ ys → other ≡ Some (record r { rest = zs })

pub either_same : (ys zs : List ℕ) (b d : Bool) (f g o q : Option Reading) → b ≡ d
    → (b ≡ true → ReadsSame ys zs f o) → (b ≡ false → ReadsSame ys zs g q)
    → ReadsSame ys zs (if b then f else g) (if d then o else q)
either_same ys zs true d f g o q e first second r found left = rw (sym e) (first refl r found left)
either_same ys zs false d f g o q e first second r found left = rw (sym e) (second refl r found left)

pub none_same : (ys zs : List ℕ) (o : Option Reading) → ReadsSame ys zs None o
none_same ys zs o r found left = absurd (cc)

-- what is left to the end of the source is not what begins with a character
pub nothing_left : {A : Type 0} (ys zs : List ℕ) → BeginAlike ys zs → [] ≡ ys → A
nothing_left ys zs alike e = absurd (let no : [] ≡ alike.first ∷ alike.rest = e ∙ alike.here in cc)

-- the same characters are taken
pub same_taken : (xs ys zs : List ℕ) → before_rest (xs ++ ys) ys ≡ before_rest (xs ++ zs) zs
same_taken xs ys zs = taken_is (xs ++ ys) xs ys refl ∙ sym (taken_is (xs ++ zs) xs zs refl)

pub up_to_same : (kind : Kind) (xs ys zs : List ℕ)
    → read_up_to kind (xs ++ zs) zs ≡ record (read_up_to kind (xs ++ ys) ys) { rest = zs }
up_to_same kind xs ys zs = rw (sym (same_taken xs ys zs)) refl

-- where so many characters are left out, what is left
pub dropped_is : (n : ℕ) (xs ys zs : List ℕ) → n ≤ length (xs ++ ys) → drop n (xs ++ ys) ≡ ys
    → drop n (xs ++ zs) ≡ zs
dropped_is n xs ys zs short left =
    let same : n ≡ length xs =
    omega (arith, short, ap length left, length-drop n (xs ++ ys), length-append xs ys) in
    ap (λ m. drop m (xs ++ zs)) same ∙ drop-append_seam xs zs

-- a punctuator
pub punctuator_same : (mark : List ℕ) (kind : Kind) (xs ys zs : List ℕ) → is_prefix mark (xs ++ ys) ≡ true
    → drop (length mark) (xs ++ ys) ≡ ys
    → read_up_to kind (xs ++ zs) (drop (length mark) (xs ++ zs))
    ≡ record (read_up_to kind (xs ++ ys) (drop (length mark) (xs ++ ys))) { rest = zs }
punctuator_same mark kind xs ys zs is left =
    let room : length mark ≤ length (xs ++ ys) =
    omega (
      arith,
      ap length (prefix_is mark (xs ++ ys) is),
      length-append mark (drop (length mark) (xs ++ ys)),
    ) in
    ap (read_up_to kind (xs ++ zs)) (dropped_is (length mark) xs ys zs room left) ∙ up_to_same kind xs ys zs
    ∙ ap (λ rest. record (read_up_to kind (xs ++ ys) rest) { rest = zs }) (sym left)

-- the text of a kind is a few ASCII characters
abbrev pub is_short_mark : Kind → Bool
is_short_mark kind = are_ascii (kind_text kind) && nat_le (length (kind_text kind)) 4

-- an angle
pub angle_local : (kinds : List Kind) (xs ys zs : List ℕ) → list_all is_short_mark kinds ≡ true → AgreeFor 4 ys zs
    → ReadsSame ys zs (angle_reading kinds (xs ++ ys)) (angle_reading kinds (xs ++ zs))
angle_local [] xs ys zs short agree = none_same ys zs None
angle_local (k ∷ ks) xs ys zs short agree =
    let both = and_parts (is_short_mark k) (list_all is_short_mark ks) short in
    let parts = and_parts (are_ascii (kind_text k)) (nat_le (length (kind_text k)) 4) both.0 in
    either_same ys zs (is_prefix (kind_text k) (xs ++ ys)) _ _ _ _ _
    (prefix_agrees 4 (kind_text k) (xs ++ ys) (xs ++ zs) parts.0 (leb-true (length (kind_text k)) 4 parts.1)
    (agree_behind 4 xs ys zs agree))
    (λ is r found left. one is r found left) (λ _. angle_local ks xs ys zs both.1 agree)
  where
    one : is_prefix (kind_text k) (xs ++ ys) ≡ true
        → ReadsSame ys zs (Some (punctuator_reading k (xs ++ ys))) (Some (punctuator_reading k (xs ++ zs)))
    one is r found left =
        let same : punctuator_reading k (xs ++ ys) ≡ r = cc in
        ap Some (punctuator_same (kind_text k) k xs ys zs is (ap (λ (x : Reading). x.rest) same ∙ left))
        ∙ ap (λ (x : Reading). Some (record x { rest = zs })) same

-- a name of JSX
pub jsx_name_local : (part xs ys zs : List ℕ) → BeginAlike ys zs
    → ReadsSame ys zs (jsx_name_reading part (xs ++ ys)) (jsx_name_reading part (xs ++ zs))
jsx_name_local part xs ys zs alike =
    either_same ys zs (begins (λ c. c == hyphen_minus) (xs ++ ys)) _ _ _ _ _
    (begins_alike (λ c. c == hyphen_minus) (xs ++ ys) (xs ++ zs) (alike_behind xs ys zs alike))
    (λ is r found left. one r found left) (λ _. none_same ys zs None)
  where
    up_to : jsx_name_up_to part (xs ++ zs) zs ≡ record (jsx_name_up_to part (xs ++ ys) ys) { rest = zs }
    up_to =
        let taken : before_rest (part ++ (xs ++ zs)) zs ≡ before_rest (part ++ (xs ++ ys)) ys =
        ap (λ t. before_rest t zs) (sym (append_assoc part xs zs)) ∙ sym (same_taken (part ++ xs) ys zs)
        ∙ ap (λ t. before_rest t ys) (append_assoc part xs ys) in
        rw taken refl

    one : ReadsSame ys zs (Some (jsx_name_up_to part (xs ++ ys) (from_first ends_jsx_name (xs ++ ys))))
        (Some (jsx_name_up_to part (xs ++ zs) (from_first ends_jsx_name (xs ++ zs))))
    one r found left =
        let same : jsx_name_up_to part (xs ++ ys) (from_first ends_jsx_name (xs ++ ys)) ≡ r = cc in
        let here : from_first ends_jsx_name (xs ++ ys) ≡ ys = ap (λ (x : Reading). x.rest) same ∙ left in
        let there = first_local ends_jsx_name xs ys zs [] alike here in
        ap (λ rest. Some (jsx_name_up_to part (xs ++ zs) rest)) there.from ∙ ap Some up_to
        ∙ ap (λ rest. Some (record (jsx_name_up_to part (xs ++ ys) rest) { rest = zs })) (sym here)
        ∙ ap (λ (x : Reading). Some (record x { rest = zs })) same

-- the string of an attribute
pub jsx_string_local : (xs ys zs : List ℕ) → BeginAlike ys zs
    → ReadsSame ys zs (jsx_string_reading (xs ++ ys)) (jsx_string_reading (xs ++ zs))
jsx_string_local [] ys zs alike r found left = by_text ys refl found
  where
    by_text : (text : List ℕ) → ys ≡ text → jsx_string_reading text ≡ Some r
        → jsx_string_reading zs ≡ Some (record r { rest = zs })
    by_text [] e f = absurd (cc)
    by_text (c ∷ cs) e f = by_quote (is_quote c) f
      where
        closed : (rest : List ℕ) → length rest ≤ length cs → jsx_string_before (c ∷ cs) rest ≡ r
            → jsx_string_reading zs ≡ Some (record r { rest = zs })
        closed [] short same =
            absurd (omega (arith, ap length (ap (λ (x : Reading). x.rest) same ∙ left ∙ e)))
        closed (d ∷ ds) short same =
            absurd (omega (arith, short, ap length (ap (λ (x : Reading). x.rest) same ∙ left ∙ e)))

        by_quote : (b : Bool)
            → (if b then Some (jsx_string_before (c ∷ cs) (from_first (λ d. d == c) cs)) else None) ≡ Some r
            → jsx_string_reading zs ≡ Some (record r { rest = zs })
        by_quote true g =
            let same : jsx_string_before (c ∷ cs) (from_first (λ d. d == c) cs) ≡ r = cc in
            closed (from_first (λ d. d == c) cs) (length-from_first (λ d. d == c) cs) same
        by_quote false g = absurd (cc)
jsx_string_local (x ∷ xs) ys zs alike r found left =
    either_same ys zs (is_quote x) _ _ _ _ _ refl (λ _ r found left. one r found left) (λ _. none_same ys zs None) r
    found left
  where
    closed : (rest : List ℕ) → from_first (λ d. d == x) (xs ++ ys) ≡ rest → (r : Reading)
        → jsx_string_before (x ∷ (xs ++ ys)) rest ≡ r → r.rest ≡ ys
        → jsx_string_before (x ∷ (xs ++ zs)) (from_first (λ d. d == x) (xs ++ zs)) ≡ record r { rest = zs }
    closed [] e r same left = nothing_left ys zs alike (ap (λ (y : Reading). y.rest) same ∙ left)
    closed (d ∷ ds) e r same left =
        let rest : ds ≡ ys = ap (λ (y : Reading). y.rest) same ∙ left in
        let there = first_local (λ c. c == x) xs ys zs (d ∷ []) alike (e ∙ ap (λ t. d ∷ t) rest) in
        ap (jsx_string_before (x ∷ (xs ++ zs))) there.from
        ∙ ap (λ (r : Reading). record r { value = unescaped_value Str 0 (size_of r) }) (up_to_same Str (x ∷ xs) ys zs)
        ∙ ap (λ t. record (jsx_string_before (x ∷ (xs ++ ys)) (d ∷ t)) { rest = zs }) (sym rest)
        ∙ ap (λ (y : Reading). record y { rest = zs }) same

    one : ReadsSame ys zs (Some (jsx_string_before (x ∷ (xs ++ ys)) (from_first (λ d. d == x) (xs ++ ys))))
        (Some (jsx_string_before (x ∷ (xs ++ zs)) (from_first (λ d. d == x) (xs ++ zs))))
    one y f g =
        let same : jsx_string_before (x ∷ (xs ++ ys)) (from_first (λ d. d == x) (xs ++ ys)) ≡ y = cc in
        ap Some (closed (from_first (λ d. d == x) (xs ++ ys)) refl y same g)

-- A child of JSX: a mark, or text up to one.
before_same : (xs ys zs behind : List ℕ) → BeginAlike ys zs → (jsx_text_before (xs ++ ys) behind).rest ≡ ys
    → behind ≡ ys
before_same xs ys zs [] alike left = left
before_same xs ys zs (c ∷ cs) alike left = by_child (begins_child c) left
  where
    by_child : (b : Bool)
        → (if b then read_up_to JSXText (xs ++ ys) (c ∷ cs) else
        reported Eof (xs ++ ys) (c ∷ cs)
        (UnexpectedJsxEnd c (empty_span (size_of (read_up_to Eof (xs ++ ys) (c ∷ cs)))))).rest ≡ ys
        → c ∷ cs ≡ ys
    by_child true e = e
    by_child false e = e

text_before : (xs : List ℕ) (c : ℕ) (r o : List ℕ)
    → jsx_text_before (xs ++ (c ∷ o)) (c ∷ o) ≡ record (jsx_text_before (xs ++ (c ∷ r)) (c ∷ r)) { rest = c ∷ o }
text_before xs c r o =
    let taken : before_rest (xs ++ (c ∷ o)) (c ∷ o) ≡ before_rest (xs ++ (c ∷ r)) (c ∷ r) =
    sym (same_taken xs (c ∷ r) (c ∷ o)) in
    rw taken (by_child (begins_child c))
  where
    by_child : (b : Bool)
        → (if b then record (read_up_to JSXText (xs ++ (c ∷ r)) (c ∷ r)) { rest = c ∷ o } else
        record (reported Eof (xs ++ (c ∷ r)) (c ∷ r)
        (UnexpectedJsxEnd c (empty_span (size_of (read_up_to Eof (xs ++ (c ∷ r)) (c ∷ r)))))) { rest = c ∷ o })
        ≡ record (if b then read_up_to JSXText (xs ++ (c ∷ r)) (c ∷ r) else
        reported Eof (xs ++ (c ∷ r)) (c ∷ r)
        (UnexpectedJsxEnd c (empty_span (size_of (read_up_to Eof (xs ++ (c ∷ r)) (c ∷ r)))))) { rest = c ∷ o }
    by_child true = refl
    by_child false = refl

text_local : (xs ys zs : List ℕ) → BeginAlike ys zs → (jsx_text_reading (xs ++ ys)).rest ≡ ys
    → jsx_text_reading (xs ++ zs) ≡ record (jsx_text_reading (xs ++ ys)) { rest = zs }
text_local xs ys zs alike left =
    let here = before_same xs ys zs (from_first ends_jsx_text (xs ++ ys)) alike left in
    let there = first_local ends_jsx_text xs ys zs [] alike here in
    ap (jsx_text_before (xs ++ zs)) there.from
    ∙ subst
    (λ (t : List ℕ). jsx_text_before (xs ++ zs) zs ≡ record (jsx_text_before (xs ++ t) t) { rest = zs }) (sym alike.here)
    (subst
    (λ (t : List ℕ). jsx_text_before (xs ++ t) t
    ≡ record (jsx_text_before (xs ++ (alike.first ∷ alike.rest)) (alike.first ∷ alike.rest)) { rest = t })
    (sym alike.there) (text_before xs alike.first alike.rest alike.other))
    ∙ ap (λ t. record (jsx_text_before (xs ++ ys) t) { rest = zs }) (sym here)

mark_local : (kind : Kind) (x : ℕ) (xs ys zs : List ℕ) → xs ++ ys ≡ ys
    → read_up_to kind (x ∷ (xs ++ zs)) (xs ++ zs) ≡ record (read_up_to kind (x ∷ (xs ++ ys)) (xs ++ ys)) { rest = zs }
mark_local kind x xs ys zs left =
    let none : xs ≡ [] = nothing_before xs ys (sym left) in
    subst (λ (t : List ℕ). read_up_to kind (x ∷ (t ++ zs)) (t ++ zs)
    ≡ record (read_up_to kind (x ∷ (t ++ ys)) (t ++ ys)) { rest = zs }) (sym none) (up_to_same kind (x ∷ []) ys zs)

pub jsx_child_local : (xs ys zs : List ℕ) → BeginAlike ys zs → (jsx_child_reading (xs ++ ys)).rest ≡ ys
    → jsx_child_reading (xs ++ zs) ≡ record (jsx_child_reading (xs ++ ys)) { rest = zs }
jsx_child_local [] ys zs alike left =
    subst (λ (t : List ℕ). jsx_child_reading t ≡ record (jsx_child_reading ys) { rest = t }) (sym alike.there)
    (subst (λ (t : List ℕ). jsx_child_reading (alike.first ∷ alike.other)
    ≡ record (jsx_child_reading t) { rest = alike.first ∷ alike.other }) (sym alike.here)
    (at_start alike.first alike.rest alike.other
    (subst (λ (t : List ℕ). (jsx_child_reading t).rest ≡ t) alike.here left)))
  where
    shorter : {A : Type 0} (c : ℕ) (r : List ℕ) → r ≡ c ∷ r → A
    shorter c r e = absurd (omega (arith, ap length e))

    at_start : (c : ℕ) (r o : List ℕ) → (jsx_child_reading (c ∷ r)).rest ≡ c ∷ r
        → jsx_child_reading (c ∷ o) ≡ record (jsx_child_reading (c ∷ r)) { rest = c ∷ o }
    at_start c r o e = by_mark (c == less_than_sign) (c == left_curly_bracket) e
      where
        by_mark : (a b : Bool)
            → (if a then read_up_to LAngle (c ∷ r) r else if b then read_up_to LCurly (c ∷ r) r
            else jsx_text_reading (c ∷ r)).rest ≡ c ∷ r
            → (if a then read_up_to LAngle (c ∷ o) o else if b then read_up_to LCurly (c ∷ o) o
            else jsx_text_reading (c ∷ o))
            ≡ record (if a then read_up_to LAngle (c ∷ r) r else if b then read_up_to LCurly (c ∷ r) r
            else jsx_text_reading (c ∷ r)) { rest = c ∷ o }
        by_mark true b e = shorter c r e
        by_mark false true e = shorter c r e
        by_mark false false e =
            text_local [] (c ∷ r) (c ∷ o)
            (record { first = c; rest = r; other = o; here = refl; there = refl }) e
jsx_child_local (x ∷ xs) ys zs alike left = by_mark (x == less_than_sign) (x == left_curly_bracket) left
  where
    by_mark : (a b : Bool)
        → (if a then read_up_to LAngle (x ∷ (xs ++ ys)) (xs ++ ys) else
        if b then read_up_to LCurly (x ∷ (xs ++ ys)) (xs ++ ys) else jsx_text_reading (x ∷ (xs ++ ys))).rest ≡ ys
        → (if a then read_up_to LAngle (x ∷ (xs ++ zs)) (xs ++ zs) else
        if b then read_up_to LCurly (x ∷ (xs ++ zs)) (xs ++ zs) else jsx_text_reading (x ∷ (xs ++ zs)))
        ≡ record (if a then read_up_to LAngle (x ∷ (xs ++ ys)) (xs ++ ys) else
        if b then read_up_to LCurly (x ∷ (xs ++ ys)) (xs ++ ys) else jsx_text_reading (x ∷ (xs ++ ys))) { rest = zs }
    by_mark true b e = mark_local LAngle x xs ys zs e
    by_mark false true e = mark_local LCurly x xs ys zs e
    by_mark false false e = text_local (x ∷ xs) ys zs alike e
