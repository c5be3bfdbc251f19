-- What other goals read without a fault is read the same where another text follows it.
use Rattle.std.proofs.Common.{◌≡◌, ℕ, Bool, true, false, not, ◌||◌, ◌&&◌, ◌==◌, List, [], ◌∷◌, ◌++◌, length}
use Rattle.std.proofs.Common.{drop, refl, sym, ◌∙◌, ap, subst, append_assoc, Some, None, inl, inr}
use Rattle.std.specs.Prelude.{if◌then◌else◌, nat_lt}
use Rattle.std.specs.List.{list_all}
use Rattle.std.proofs.lemmas.Bool.{and_parts, eqb-true}
use Rattle.std.proofs.lemmas.List.{append_cancel_right}
use Rattle.unicode_ident.proofs.Computing.{unicode_ident}
use Rattle.js_text.specs.Ascii.{full_stop, hyphen_minus, less_than_sign, slash}
use Rattle.js_text.specs.Characters.{begins, from_first, is_identifier_part, is_irregular_whitespace}
use Rattle.js_text.specs.Characters.{is_line_terminator, is_white_space}
use Rattle.js_text.specs.SourceType.{is_module}
use Rattle.js_text.specs.declared.diagnostic.Diagnostic.TheVariants.{UnexpectedJsxEnd}
use Rattle.js_text.specs.declared.source_type.SourceType.{SourceType}
use Rattle.js_kind.specs.Kinds.{kind_text}
use Rattle.js_kind.specs.declared.kind.Kind.{Kind}
use Rattle.js_kind.specs.declared.kind.Kind.TheVariants.{Eof, JSXText, LAngle, LCurly}
use Rattle.js_grammar.specs.Angle.{angle_reading, punctuator_reading}
use Rattle.js_grammar.specs.Gap.{is_prefix}
use Rattle.js_grammar.specs.Jsx.{begins_child, ends_jsx_name, ends_jsx_text, jsx_child_reading, jsx_name_reading}
use Rattle.js_grammar.specs.Jsx.{jsx_name_up_to, jsx_text_before, jsx_text_reading, reported}
use Rattle.js_grammar.specs.NumberReads.{empty_span}
use Rattle.js_grammar.specs.Reading.{Reading, before_rest, read_up_to, size_of}
use Rattle.js_grammar.specs.RegularExpression.{behind_body, ends_flags, is_flag_character, regular_expression}
use Rattle.js_grammar.specs.UnicodeEscape.{left_curly_bracket}
use Rattle.js_grammar.proofs.Ahead.{nothing_before}
use Rattle.js_grammar.proofs.AgainReadings.{PassesBlanks, false_when, hyphen_goes_on, stops_both, whole_first}
use Rattle.js_grammar.proofs.AgainReadings.{module_begins}
use Rattle.js_grammar.proofs.BlankedGaps.{PieceIs, piece_is}
use Rattle.js_grammar.proofs.BlankedGaps.PieceIs.{white, line, a_comment}
use Rattle.js_grammar.proofs.EscapeCases.{first_is}
use Rattle.js_grammar.proofs.ExpressionsAhead.{terminated_local}
use Rattle.js_grammar.proofs.GoalReadings.{expression_unterminated}
use Rattle.js_grammar.proofs.GoalsAhead.{ReadsSame, jsx_child_local, none_same, punctuator_same, same_taken, up_to_same}
use Rattle.js_grammar.proofs.NumberItems.{true_or_false}
use Rattle.js_grammar.proofs.StringLaws.{not_empty}
use Rattle.js_grammar.proofs.Tests.{prefix_is, prefix_of}
use Rattle.js_grammar.proofs.Without.{true_is_not_false}
use Rattle.js_rewrite.specs.Space.{begins_as_word, is_operator, meets}
use Rattle.js_rewrite.proofs.Following.{BeginsGap, Follows, are_operators, kept_before, last_character}
use Rattle.js_rewrite.proofs.Following.{mark_here}
use Rattle.js_rewrite.proofs.Following.Follows.{same, kept, line_end, space, joined, nothing_left}

-- An angle.
pub angle_follows : (t : SourceType) (is_word : Bool) (kinds : List Kind) (xs ys zs : List ℕ)
    → list_all (λ k. are_operators (kind_text k)) kinds ≡ true → (xs ≡ [] → ⊥)
    → Follows t is_word (last_character xs) ys zs
    → ReadsSame ys zs (angle_reading kinds (xs ++ ys)) (angle_reading kinds (xs ++ zs))
angle_follows t is_word [] xs ys zs all some w r found left = none_same ys zs None r found left
angle_follows t is_word (k ∷ ks) xs ys zs all some w r found left =
    let both = and_parts (are_operators (kind_text k)) (list_all (λ k. are_operators (kind_text k)) ks) all in
    by_mark both.0 (angle_follows t is_word ks xs ys zs both.1 some w) (is_prefix (kind_text k) (xs ++ ys)) refl found
  where
    by_mark : are_operators (kind_text k) ≡ true
        → ReadsSame ys zs (angle_reading ks (xs ++ ys)) (angle_reading ks (xs ++ zs)) → (b : Bool)
        → is_prefix (kind_text k) (xs ++ ys) ≡ b
        → (if b then Some (punctuator_reading k (xs ++ ys)) else angle_reading ks (xs ++ ys)) ≡ Some r
        → (if is_prefix (kind_text k) (xs ++ zs) then Some (punctuator_reading k (xs ++ zs))
        else angle_reading ks (xs ++ zs)) ≡ Some (record r { rest = zs })
    by_mark operators later true is f =
        let read : punctuator_reading k (xs ++ ys) ≡ r = cc in
        let behind : drop (length (kind_text k)) (xs ++ ys) ≡ ys = ap (λ (x : Reading). x.rest) read ∙ left in
        let front : xs ≡ kind_text k =
        append_cancel_right xs (kind_text k) ys
        (prefix_is (kind_text k) (xs ++ ys) is ∙ ap (λ t. kind_text k ++ t) behind) in
        let there : is_prefix (kind_text k) (xs ++ zs) ≡ true =
        ap (λ t. is_prefix (kind_text k) (t ++ zs)) front ∙ prefix_of (kind_text k) zs in
        rw there
        (ap Some
        (punctuator_same (kind_text k) k xs ys zs is behind ∙ ap (λ (x : Reading). record x { rest = zs }) read))
    by_mark operators later false is f =
        let there : is_prefix (kind_text k) (xs ++ zs) ≡ false =
        false_when (is_prefix (kind_text k) (xs ++ ys)) (is_prefix (kind_text k) (xs ++ zs))
        (λ e.
        (mark_here t (kind_text k) false 33 (xs ++ ys) (xs ++ zs) operators refl
        (kept_before t false 33 xs ys zs is_word some w) e).here)
        is in
        rw there (later r f left)

-- what begins with a character that passes is left whole
first_whole : (p : ℕ → Bool) (c : ℕ) (cs : List ℕ) → p c ≡ true → from_first p (c ∷ cs) ≡ c ∷ cs
first_whole p c cs e = rw e refl

-- A run of characters that do not pass ends behind a word, where it would not end before the same.
pub word_stops : (p : ℕ → Bool) → PassesBlanks p → ((c : ℕ) → p c ≡ false → (last : ℕ) → meets true last c ≡ true)
    → (t : SourceType) (is_word : Bool) (last : ℕ) (ys zs : List ℕ) → is_word ≡ true → Follows t is_word last ys zs
    → from_first p ys ≡ ys → from_first p zs ≡ zs
word_stops p passes meet t is_word last ys zs word same e = e
word_stops p passes meet t is_word last ys zs word (kept other c {ys = ys'} {zs = zs'} w) e =
    first_whole p c zs' (whole_first p c ys' e)
word_stops p passes meet t is_word last ys zs word (line_end {zs = zs'} g) e = first_whole p 10 zs' passes.1
word_stops p passes meet t is_word last ys zs word (space {zs = zs'} g f) e = first_whole p 32 zs' passes.0
word_stops p passes meet t is_word last ys zs word (nothing_left g f) e = refl
word_stops p passes meet t is_word last ys zs word (joined c {zs = zs'} g f apart) e = by_test (p c) refl
  where
    by_test : (b : Bool) → p c ≡ b → from_first p (c ∷ zs') ≡ c ∷ zs'
    by_test true is = first_whole p c zs' is
    by_test false is =
        true_is_not_false (meets is_word last c) (ap (λ b. meets b last c) word ∙ meet c is last) apart

word_meets : (last c : ℕ) → begins_as_word c ≡ true → meets true last c ≡ true
word_meets last c e = rw e refl

flag_blanks : PassesBlanks ends_flags
unfolding is_identifier_part unicode_ident
flag_blanks = (refl, refl)

flags_meet : (c : ℕ) → ends_flags c ≡ false → (last : ℕ) → meets true last c ≡ true
flags_meet c e last =
    let flag : is_flag_character c ≡ true = not_false (is_flag_character c) e in
    let part = (and_parts (nat_lt c 128) (is_identifier_part c) flag).1 in
    word_meets last c (rw part refl)
  where
    not_false : (b : Bool) → not b ≡ false → b ≡ true
    not_false true e = refl
    not_false false e = absurd (cc)

-- A regular expression, from what stands behind its `/` on.
pub expression_follows : (t : SourceType) (last : ℕ) (xs ys zs : List ℕ) → Follows t true last ys zs
    → (regular_expression (xs ++ ys)).diagnostics ≡ [] → (regular_expression (xs ++ ys)).rest ≡ ys
    → regular_expression (xs ++ zs) ≡ record (regular_expression (xs ++ ys)) { rest = zs }
expression_follows t last xs ys zs w clean left =
    elim (true_or_false (begins (λ c. c == slash) (behind_body (xs ++ ys)))) [
      | inl is ↦
          let stops = word_stops ends_flags flag_blanks flags_meet t true last ys zs refl w in
          terminated_local xs ys zs
          (λ letters e.
          let both = stops_both ends_flags letters ys zs stops e in
          record { from = both.from; before = both.before })
          is left
      | inr none ↦
          not_empty [] _
          (sym (ap (λ (r : Reading). r.diagnostics)
          (expression_unterminated (slash ∷ (xs ++ ys)) (behind_body (xs ++ ys)) none)) ∙ clean)
    ]

-- A name of JSX.
name_blanks : PassesBlanks ends_jsx_name
unfolding is_identifier_part unicode_ident
name_blanks = (refl, refl)

jsx_name_meets : (c : ℕ) → ends_jsx_name c ≡ false → (last : ℕ) → meets true last c ≡ true
jsx_name_meets c e last = by_part (is_identifier_part c) refl (not_false (is_identifier_part c || (c == hyphen_minus)) e)
  where
    not_false : (b : Bool) → not b ≡ false → b ≡ true
    not_false true e = refl
    not_false false e = absurd (cc)

    at_hyphen : (a b d e f : Bool) → e ≡ true → (a || (b || ((d || e) || f))) ≡ true
    at_hyphen true b d e f is = refl
    at_hyphen false true d e f is = refl
    at_hyphen false false true e f is = refl
    at_hyphen false false false e f is = rw is refl

    by_part : (b : Bool) → is_identifier_part c ≡ b → (b || (c == hyphen_minus)) ≡ true → meets true last c ≡ true
    by_part true is f = word_meets last c (rw is refl)
    by_part false is f =
        at_hyphen (begins_as_word c) (is_operator last && is_operator c) (c == full_stop) (c == hyphen_minus)
        ((last == full_stop) && begins_as_word c) f

pub jsx_name_follows : (t : SourceType) (last : ℕ) (part xs ys zs : List ℕ) → Follows t true last ys zs
    → ReadsSame ys zs (jsx_name_reading part (xs ++ ys)) (jsx_name_reading part (xs ++ zs))
jsx_name_follows t last part [] ys zs w r found left = by_hyphen (begins (λ c. c == hyphen_minus) ys) refl found
  where
    by_hyphen : (b : Bool) → begins (λ c. c == hyphen_minus) ys ≡ b
        → (if b then Some (jsx_name_up_to part ys (from_first ends_jsx_name ys)) else None) ≡ Some r
        → jsx_name_reading part zs ≡ Some (record r { rest = zs })
    by_hyphen true is f =
        let read : jsx_name_up_to part ys (from_first ends_jsx_name ys) ≡ r = cc in
        let behind : from_first ends_jsx_name ys ≡ ys = ap (λ (x : Reading). x.rest) read ∙ left in
        let hyphen = first_is hyphen_minus ys is in
        let stops : from_first ends_jsx_name (hyphen_minus ∷ drop 1 ys) ≡ hyphen_minus ∷ drop 1 ys =
        subst (λ h. from_first ends_jsx_name h ≡ h) hyphen behind in
        true_is_not_false (ends_jsx_name hyphen_minus) (whole_first ends_jsx_name hyphen_minus (drop 1 ys) stops)
        hyphen_goes_on
    by_hyphen false is f = absurd (let no : None ≡ Some r = f in cc)
jsx_name_follows t last part (x ∷ xs) ys zs w r found left = by_hyphen (x == hyphen_minus) found
  where
    up_to : jsx_name_up_to part (x ∷ xs ++ zs) zs ≡ record (jsx_name_up_to part (x ∷ xs ++ ys) ys) { rest = zs }
    up_to =
        let taken : before_rest (part ++ (x ∷ xs ++ zs)) zs ≡ before_rest (part ++ (x ∷ xs ++ ys)) ys =
        ap (λ t. before_rest t zs) (sym (append_assoc part (x ∷ xs) zs)) ∙ sym (same_taken (part ++ x ∷ xs) ys zs)
        ∙ ap (λ t. before_rest t ys) (append_assoc part (x ∷ xs) ys) in
        rw taken refl

    by_hyphen : (b : Bool)
        → (if b then Some (jsx_name_up_to part (x ∷ (xs ++ ys)) (from_first ends_jsx_name (x ∷ (xs ++ ys)))) else None)
        ≡ Some r
        → (if b then Some (jsx_name_up_to part (x ∷ (xs ++ zs)) (from_first ends_jsx_name (x ∷ (xs ++ zs)))) else None)
        ≡ Some (record r { rest = zs })
    by_hyphen true f =
        let read : jsx_name_up_to part (x ∷ (xs ++ ys)) (from_first ends_jsx_name (x ∷ (xs ++ ys))) ≡ r = cc in
        let here : from_first ends_jsx_name (x ∷ (xs ++ ys)) ≡ ys = ap (λ (x : Reading). x.rest) read ∙ left in
        let there =
        stops_both ends_jsx_name (x ∷ xs) ys zs
        (word_stops ends_jsx_name name_blanks jsx_name_meets t true last ys zs refl w) here in
        ap (λ rest. Some (jsx_name_up_to part (x ∷ (xs ++ zs)) rest)) there.from ∙ ap Some up_to
        ∙ ap (λ rest. Some (record (jsx_name_up_to part (x ∷ (xs ++ ys)) rest) { rest = zs })) (sym here)
        ∙ ap (λ (x : Reading). Some (record x { rest = zs })) read
    by_hyphen false f = absurd (let no : None ≡ Some r = f in cc)

-- A line up to its end: before it, and before a line end that stands for what begins with one.
pub line_stops : (p : ℕ → Bool) → p 10 ≡ true → ((c : ℕ) → p c ≡ true → is_line_terminator c ≡ true)
    → (t : SourceType) (is_word : Bool) (last : ℕ) (ys zs : List ℕ) → Follows t is_word last ys zs
    → from_first p ys ≡ ys → from_first p zs ≡ zs
line_stops p passes lines t is_word last ys zs same e = e
line_stops p passes lines t is_word last ys zs (kept other c {ys = ys'} {zs = zs'} w) e =
    first_whole p c zs' (whole_first p c ys' e)
line_stops p passes lines t is_word last ys zs (line_end {zs = zs'} g) e = first_whole p 10 zs' passes
line_stops p passes lines t is_word last [] zs (space g f) e =
    absurd (let no : None ≡ Some g.found = g.here in cc)
line_stops p passes lines t is_word last (y ∷ ys) zs (space g f) e =
    true_is_not_false (is_line_terminator y) (lines y (whole_first p y ys e)) f
line_stops p passes lines t is_word last ys zs (nothing_left g f) e = refl
line_stops p passes lines t is_word last [] zs (joined c g f apart) e =
    absurd (let no : None ≡ Some g.found = g.here in cc)
line_stops p passes lines t is_word last (y ∷ ys) zs (joined c g f apart) e =
    true_is_not_false (is_line_terminator y) (lines y (whole_first p y ys e)) f

-- A child of JSX, before a gap of a module: it is a mark.
abbrev ChildStays : List ℕ → List ℕ → List ℕ → Type 0
ChildStays xs ys zs = jsx_child_reading (xs ++ zs) ≡ record (jsx_child_reading (xs ++ ys)) { rest = zs }

mark_stays : (kind : Kind) (x : ℕ) (xs ys zs : List ℕ) → xs ++ ys ≡ ys
    → read_up_to kind (x ∷ (xs ++ zs)) (xs ++ zs) ≡ record (read_up_to kind (x ∷ (xs ++ ys)) (xs ++ ys)) { rest = zs }
mark_stays kind x xs ys zs left =
    let none : xs ≡ [] = nothing_before xs ys (sym left) in
    subst (λ (t : List ℕ). read_up_to kind (x ∷ (t ++ zs)) (t ++ zs)
    ≡ record (read_up_to kind (x ∷ (t ++ ys)) (t ++ ys)) { rest = zs }) (sym none) (up_to_same kind (x ∷ []) ys zs)

-- text ends before nothing but a mark
no_text_before : {A : Type 0} (text behind : List ℕ) (d : ℕ) (cs : List ℕ) → begins_child d ≡ false
    → (jsx_text_before text behind).rest ≡ d ∷ cs → (jsx_text_before text behind).diagnostics ≡ [] → A
no_text_before text [] d cs no_mark e clean = absurd (let no : [] ≡ d ∷ cs = e in cc)
no_text_before text (b ∷ bs) d cs no_mark e clean = by_child (begins_child b) refl e clean
  where
    by_child : {A : Type 0} (is : Bool) → begins_child b ≡ is
        → (if is then read_up_to JSXText text (b ∷ bs)
        else reported Eof text (b ∷ bs)
        (UnexpectedJsxEnd b (empty_span (size_of (read_up_to Eof text (b ∷ bs)))))).rest ≡ d ∷ cs
        → (if is then read_up_to JSXText text (b ∷ bs)
        else reported Eof text (b ∷ bs)
        (UnexpectedJsxEnd b (empty_span (size_of (read_up_to Eof text (b ∷ bs)))))).diagnostics ≡ [] → A
    by_child true is f g =
        let same_mark : b ≡ d = cc in
        true_is_not_false (begins_child b) is (ap begins_child same_mark ∙ no_mark)
    by_child false is f g = not_empty [] _ g

child_before : (xs ys zs : List ℕ) (d : ℕ) (cs : List ℕ) → ys ≡ d ∷ cs → begins_child d ≡ false
    → (jsx_child_reading (xs ++ ys)).diagnostics ≡ [] → (jsx_child_reading (xs ++ ys)).rest ≡ ys → ChildStays xs ys zs
child_before [] ys zs d cs e no_mark clean left = at_start (d == less_than_sign) (d == left_curly_bracket) refl refl no_mark
    (ap (λ h. (jsx_child_reading h).diagnostics) (sym e) ∙ clean)
    (ap (λ h. (jsx_child_reading h).rest) (sym e) ∙ left ∙ e)
  where
    at_start : {A : Type 0} (a b : Bool) → (d == less_than_sign) ≡ a → (d == left_curly_bracket) ≡ b → (a || b) ≡ false
        → (if a then read_up_to LAngle (d ∷ cs) cs else
        if b then read_up_to LCurly (d ∷ cs) cs else jsx_text_reading (d ∷ cs)).diagnostics ≡ []
        → (if a then read_up_to LAngle (d ∷ cs) cs else
        if b then read_up_to LCurly (d ∷ cs) cs else jsx_text_reading (d ∷ cs)).rest ≡ d ∷ cs → A
    at_start true b is_a is_b none f g = absurd (cc)
    at_start false true is_a is_b none f g = absurd (cc)
    at_start false false is_a is_b none f g =
        no_text_before (d ∷ cs) (from_first ends_jsx_text (d ∷ cs)) d cs (rw (is_a, is_b) refl) g f
child_before (x ∷ xs) ys zs d cs e no_mark clean left = by_mark (x == less_than_sign) (x == left_curly_bracket) clean left
  where
    by_mark : (a b : Bool)
        → (if a then read_up_to LAngle (x ∷ (xs ++ ys)) (xs ++ ys) else
        if b then read_up_to LCurly (x ∷ (xs ++ ys)) (xs ++ ys) else jsx_text_reading (x ∷ (xs ++ ys))).diagnostics
        ≡ []
        → (if a then read_up_to LAngle (x ∷ (xs ++ ys)) (xs ++ ys) else
        if b then read_up_to LCurly (x ∷ (xs ++ ys)) (xs ++ ys) else jsx_text_reading (x ∷ (xs ++ ys))).rest ≡ ys
        → (if a then read_up_to LAngle (x ∷ (xs ++ zs)) (xs ++ zs) else
        if b then read_up_to LCurly (x ∷ (xs ++ zs)) (xs ++ zs) else jsx_text_reading (x ∷ (xs ++ zs)))
        ≡ record (if a then read_up_to LAngle (x ∷ (xs ++ ys)) (xs ++ ys) else
        if b then read_up_to LCurly (x ∷ (xs ++ ys)) (xs ++ ys) else jsx_text_reading (x ∷ (xs ++ ys))) { rest = zs }
    by_mark true b f g = mark_stays LAngle x xs ys zs g
    by_mark false true f g = mark_stays LCurly x xs ys zs g
    by_mark false false f g =
        no_text_before (x ∷ (xs ++ ys)) (from_first ends_jsx_text (x ∷ (xs ++ ys))) d cs no_mark (g ∙ e) f

-- no gap of a module begins with a mark of a child
child_marks_are_no_blanks : (is_white_space 60 ≡ false) × (is_white_space 123 ≡ false)
    × (is_line_terminator 60 ≡ false) × (is_line_terminator 123 ≡ false)
unfolding is_white_space is_irregular_whitespace is_line_terminator
child_marks_are_no_blanks = (refl, refl, refl, refl)

no_child_mark : (p : ℕ → Bool) → p 60 ≡ false → p 123 ≡ false → (d : ℕ) → p d ≡ true → begins_child d ≡ false
no_child_mark p angle curly d e =
    elim (true_or_false (d == 60)) [
      | inl is ↦ true_is_not_false (p d) e (ap p (eqb-true d 60 is) ∙ angle)
      | inr no_angle ↦ elim (true_or_false (d == 123)) [
        | inl is ↦ true_is_not_false (p d) e (ap p (eqb-true d 123 is) ∙ curly)
        | inr no_curly ↦ rw (no_angle, no_curly) refl
      ]
    ]

gap_of_module : (t : SourceType) (ys : List ℕ) → is_module t ≡ true → BeginsGap t ys
    → (d : ℕ) × (cs : List ℕ) × (ys ≡ d ∷ cs) × (begins_child d ≡ false)
gap_of_module t ys module_is g = by_piece (piece_is t g.ended ys g.found g.here)
  where
    by_piece : PieceIs g.ended ys g.found → (d : ℕ) × (cs : List ℕ) × (ys ≡ d ∷ cs) × (begins_child d ≡ false)
    by_piece (white c cs here is x) =
        (c, cs, here, no_child_mark is_white_space child_marks_are_no_blanks.0 child_marks_are_no_blanks.1 c is)
    by_piece (line c cs here no_white is x) =
        (c, cs, here, no_child_mark is_line_terminator child_marks_are_no_blanks.2 child_marks_are_no_blanks.3 c is)
    by_piece (a_comment is) =
        let mark = module_begins t g.ended ys g.found is.kind module_is g.here is.is in (47, mark.0, mark.1, refl)

before_gap : (t : SourceType) (xs ys zs : List ℕ) → is_module t ≡ true → BeginsGap t ys
    → (jsx_child_reading (xs ++ ys)).diagnostics ≡ [] → (jsx_child_reading (xs ++ ys)).rest ≡ ys → ChildStays xs ys zs
before_gap t xs ys zs module_is g clean left =
    let first = gap_of_module t ys module_is g in
    child_before xs ys zs first.0 first.1 first.2 first.3 clean left

pub child_follows : (t : SourceType) (is_word : Bool) (last : ℕ) (xs ys zs : List ℕ) → is_module t ≡ true
    → Follows t is_word last ys zs → (jsx_child_reading (xs ++ ys)).diagnostics ≡ []
    → (jsx_child_reading (xs ++ ys)).rest ≡ ys → ChildStays xs ys zs
child_follows t is_word last xs ys zs module_is same clean left =
    ap (λ (h : List ℕ). record (jsx_child_reading (xs ++ ys)) { rest = h }) left
child_follows t is_word last xs ys zs module_is (kept word c {ys = ys'} {zs = zs'} w) clean left =
    jsx_child_local xs (c ∷ ys') (c ∷ zs')
    (record { first = c; rest = ys'; other = zs'; here = refl; there = refl }) left
child_follows t is_word last xs ys zs module_is (line_end g) clean left = before_gap t xs ys zs module_is g clean left
child_follows t is_word last xs ys zs module_is (space g f) clean left = before_gap t xs ys zs module_is g clean left
child_follows t is_word last xs ys zs module_is (joined c g f apart) clean left =
    before_gap t xs ys zs module_is g clean left
child_follows t is_word last xs ys zs module_is (nothing_left g f) clean left =
    before_gap t xs ys zs module_is g clean left
