-- What other goals read without a fault is read the same where comments behind it are replaced.
use Rattle.std.proofs.Common.{◌≡◌, ℕ, ◌≤◌, Bool, true, false, ◌==◌, List, [], ◌∷◌, ◌++◌, length, drop}
use Rattle.std.proofs.Common.{refl, sym, ◌∙◌, ap, subst, arith, append_assoc, length-append, Some, None, inl, inr}
use Rattle.std.specs.Prelude.{codes, if◌then◌else◌}
use Rattle.std.proofs.lemmas.Bool.{eqb-true}
use Rattle.std.proofs.lemmas.List.{append_cancel_right}
use Rattle.unicode_ident.proofs.Computing.{unicode_ident}
use Rattle.js_text.specs.Ascii.{hyphen_minus}
use Rattle.js_text.specs.Characters.{before_first, begins, from_first, is_identifier_part}
use Rattle.js_text.specs.SourceType.{is_module}
use Rattle.js_text.proofs.TextLemmas.{length-from_first}
use Rattle.js_text.specs.declared.comment.CommentKind.{CommentKind}
use Rattle.js_text.specs.declared.source_type.SourceType.{SourceType}
use Rattle.js_kind.specs.declared.kind.Kind.{Kind}
use Rattle.js_kind.specs.declared.kind.Kind.TheVariants.{Str}
use Rattle.js_grammar.specs.Gap.{Piece, is_prefix, piece}
use Rattle.js_grammar.specs.Jsx.{ends_jsx_name}
use Rattle.js_grammar.specs.Jsx.{jsx_string_before, jsx_string_reading}
use Rattle.js_grammar.specs.Reading.{Reading, size_of}
use Rattle.js_grammar.specs.StringItems.{is_quote, item_reports, string_text}
use Rattle.js_grammar.specs.Template.{IsPart, template_items, template_part_reading}
use Rattle.js_grammar.specs.TokenText.{unescaped_value}
use Rattle.js_grammar.proofs.Ahead.{BeginAlike, nothing_before}
use Rattle.js_grammar.proofs.EscapeCases.{first_is}
use Rattle.js_grammar.proofs.GoalsAhead.{up_to_same}
use Rattle.js_grammar.proofs.NumberItems.{true_or_false}
use Rattle.js_grammar.proofs.PieceLemmas.{piece-angle}
use Rattle.js_grammar.proofs.StringLaws.{not_empty, template_cut}
use Rattle.js_grammar.proofs.StringSteps.{part_unterminated, part_with_substitution, part_with_tail}
use Rattle.js_grammar.proofs.TemplateLaws.{substitution_is_read, tail_is_read, part_here}
use Rattle.js_grammar.proofs.Tests.{prefix_is}
use Rattle.js_grammar.proofs.QuotedAnywhere.{part_anywhere}
use Rattle.js_grammar.specs.Blanks.{kind_of}
use Rattle.js_grammar.proofs.Without.{comment_begins}
use Rattle.js_grammar.proofs.Without.{begins_comment, no_close, same}

-- A part of a template that a mark ends, by its items.
ended_part : (opening : ℕ) (closing xs ys : List ℕ) → (template_items (xs ++ ys)).rest ≡ closing ++ ys
    → IsPart opening closing (opening ∷ xs) ys
ended_part opening closing xs ys left =
    let found = template_items (xs ++ ys) in
    let cut : xs ++ ys ≡ string_text found.items ++ (closing ++ ys) =
    sym (template_cut (xs ++ ys)) ∙ ap (λ t. string_text found.items ++ t) left in
    let front : xs ≡ string_text found.items ++ closing =
    append_cancel_right xs (string_text found.items ++ closing) ys
    (cut ∙ sym (append_assoc (string_text found.items) closing ys)) in
    record {
      items = found.items;
      here = ap (λ t. opening ∷ t) front;
      found =
          ap template_items (sym cut) ∙ ap (λ (r : List ℕ). record { items = found.items; rest = r }) left;
    }

-- A part of a template is read the same whatever follows it.
abbrev PartStays : Kind → Kind → ℕ → List ℕ → List ℕ → List ℕ → Type 0
PartStays substitute tail opening xs ys zs =
    template_part_reading substitute tail (opening ∷ (xs ++ zs))
    ≡ record (template_part_reading substitute tail (opening ∷ (xs ++ ys))) { rest = zs }

tail_stays : (substitute tail : Kind) (opening : ℕ) (xs ys zs : List ℕ)
    → (template_items (xs ++ ys)).rest ≡ codes "`" ++ ys → PartStays substitute tail opening xs ys zs
tail_stays substitute tail opening xs ys zs rest =
    let part = ended_part opening (codes "`") xs ys rest in
    let alike : BeginAlike (codes "`" ++ ys) (codes "`" ++ zs) =
    record { first = 96; rest = ys; other = zs; here = refl; there = refl } in
    let other = part_anywhere opening (codes "`") (opening ∷ xs) ys zs tail part alike refl in
    ap (template_part_reading substitute tail) (part_here opening (codes "`") (opening ∷ xs) zs other.part)
    ∙ tail_is_read substitute tail opening (opening ∷ xs) zs other.part ∙ other.read
    ∙ ap (λ (r : Reading). record r { rest = zs })
    (sym
    (ap (template_part_reading substitute tail) (part_here opening (codes "`") (opening ∷ xs) ys part)
    ∙ tail_is_read substitute tail opening (opening ∷ xs) ys part))

substitution_stays : (substitute tail : Kind) (opening : ℕ) (xs ys zs : List ℕ)
    → (template_items (xs ++ ys)).rest ≡ codes "${" ++ ys → PartStays substitute tail opening xs ys zs
substitution_stays substitute tail opening xs ys zs rest =
    let part = ended_part opening (codes "${") xs ys rest in
    let alike : BeginAlike (codes "${" ++ ys) (codes "${" ++ zs) =
    record { first = 36; rest = 123 ∷ ys; other = 123 ∷ zs; here = refl; there = refl } in
    let other = part_anywhere opening (codes "${") (opening ∷ xs) ys zs substitute part alike refl in
    ap (template_part_reading substitute tail) (part_here opening (codes "${") (opening ∷ xs) zs other.part)
    ∙ substitution_is_read substitute tail opening (opening ∷ xs) zs other.part ∙ other.read
    ∙ ap (λ (r : Reading). record r { rest = zs })
    (sym
    (ap (template_part_reading substitute tail) (part_here opening (codes "${") (opening ∷ xs) ys part)
    ∙ substitution_is_read substitute tail opening (opening ∷ xs) ys part))

pub part_stays : (substitute tail : Kind) (opening : ℕ) (xs ys zs : List ℕ)
    → (template_part_reading substitute tail (opening ∷ (xs ++ ys))).diagnostics ≡ []
    → (template_part_reading substitute tail (opening ∷ (xs ++ ys))).rest ≡ ys
    → PartStays substitute tail opening xs ys zs
part_stays substitute tail opening xs ys zs clean left =
    let found = template_items (xs ++ ys) in
    let text = opening ∷ (xs ++ ys) in
    elim (true_or_false (begins (λ c. c == 96) found.rest)) [
      | inl is ↦ (
          let read = part_with_tail substitute tail text found is in
          let behind : drop 1 found.rest ≡ ys = sym (ap (λ (r : Reading). r.rest) read) ∙ left in
          tail_stays substitute tail opening xs ys zs
          (first_is 96 found.rest is ∙ ap (λ t. 96 ∷ t) behind))
      | inr no_tail ↦ elim (true_or_false (is_prefix (codes "${") found.rest)) [
        | inl is ↦ (
            let read = part_with_substitution substitute tail text found no_tail is in
            let behind : drop 2 found.rest ≡ ys = sym (ap (λ (r : Reading). r.rest) read) ∙ left in
            substitution_stays substitute tail opening xs ys zs
            (prefix_is (codes "${") found.rest is ∙ ap (λ t. codes "${" ++ t) behind))
        | inr none ↦ (
            let read = part_unterminated substitute tail text found no_tail none in
            not_empty (item_reports true 0 1 found.items) _
            (ap (λ (r : Reading). r.diagnostics) (sym read) ∙ clean))
      ]
    ]

pub false_when : (a b : Bool) → (b ≡ true → a ≡ true) → a ≡ false → b ≡ false
false_when a true h e = absurd (let no : true ≡ false = sym (h refl) ∙ e in cc)
false_when a false h e = refl

-- a test that both blanks pass
abbrev pub PassesBlanks : (ℕ → Bool) → Type 0
PassesBlanks p = (p 32 ≡ true) × (p 10 ≡ true)

-- what begins with a character that passes is left whole
first_whole : (p : ℕ → Bool) (c : ℕ) (cs : List ℕ) → p c ≡ true → from_first p (c ∷ cs) ≡ c ∷ cs
first_whole p c cs e = rw e refl

pub whole_first : (p : ℕ → Bool) (c : ℕ) (cs : List ℕ) → from_first p (c ∷ cs) ≡ c ∷ cs → p c ≡ true
whole_first p c cs e = by_test (p c) refl
  where
    by_test : (b : Bool) → p c ≡ b → p c ≡ true
    by_test true is = is
    by_test false is =
        let stands : from_first p cs ≡ c ∷ cs = rw is at e in
        absurd (omega (arith, length-from_first p cs, ap length stands))

-- Where the first character that passes stands, in both texts.
pub record StopsBoth (p : ℕ → Bool) (xs ys zs : List ℕ) : Type 0 where
  pub from : from_first p (xs ++ zs) ≡ zs
  pub before : before_first p (xs ++ zs) ≡ before_first p (xs ++ ys)
  pub behind : from_first p ys ≡ ys

nothing_before_stop : (p : ℕ → Bool) (ys : List ℕ) → from_first p ys ≡ ys → before_first p ys ≡ []
nothing_before_stop p [] e = refl
nothing_before_stop p (c ∷ cs) e = rw (whole_first p c cs e) refl

pub stops_both : (p : ℕ → Bool) (xs ys zs : List ℕ) → (from_first p ys ≡ ys → from_first p zs ≡ zs)
    → from_first p (xs ++ ys) ≡ ys → StopsBoth p xs ys zs
stops_both p [] ys zs stops e =
    record {
      from = stops e;
      before = nothing_before_stop p zs (stops e) ∙ sym (nothing_before_stop p ys e);
      behind = e;
    }
stops_both p (x ∷ xs) ys zs stops e = by_test (stops_both p xs ys zs stops) (p x) refl
  where
    by_test : (from_first p (xs ++ ys) ≡ ys → StopsBoth p xs ys zs) → (b : Bool) → p x ≡ b
        → StopsBoth p (x ∷ xs) ys zs
    by_test more true is =
        let stands : (x ∷ xs) ++ ys ≡ ys = sym (first_whole p x (xs ++ ys) is) ∙ e in
        absurd (omega (arith, ap length stands, length-append (x ∷ xs) ys))
    by_test more false is =
        let later = more (rw is at e) in
        record {
          from = rw is later.from;
          before = rw is (ap (λ t. x ∷ t) later.before);
          behind = later.behind;
        }

pub hyphen_goes_on : ends_jsx_name hyphen_minus ≡ false
unfolding is_identifier_part unicode_ident
hyphen_goes_on = refl

-- The first character that passes, and what is left behind it.
first_behind : (p : ℕ → Bool) (xs ys zs : List ℕ) (d : ℕ) → from_first p (xs ++ ys) ≡ d ∷ ys
    → from_first p (xs ++ zs) ≡ d ∷ zs
first_behind p [] ys zs d e = absurd (omega (arith, length-from_first p ys, ap length e))
first_behind p (x ∷ xs) ys zs d e = by_test (first_behind p xs ys zs d) (p x) refl
  where
    by_test : (from_first p (xs ++ ys) ≡ d ∷ ys → from_first p (xs ++ zs) ≡ d ∷ zs) → (b : Bool) → p x ≡ b
        → from_first p (x ∷ (xs ++ zs)) ≡ d ∷ zs
    by_test later true is =
        let stands : x ∷ (xs ++ ys) ≡ d ∷ ys = sym (first_whole p x (xs ++ ys) is) ∙ e in
        let nothing : xs ≡ [] = nothing_before xs ys (sym (ap (drop 1) stands)) in
        first_whole p x (xs ++ zs) is ∙ ap (λ (t : List ℕ). x ∷ (t ++ zs)) nothing
        ∙ ap (λ c. c ∷ zs) (let same : x ≡ d = cc in same)
    by_test later false is = rw is (later (rw is at e))

-- The string of an attribute of JSX is read the same whatever follows it.
pub jsx_string_stays : (xs ys zs : List ℕ) (r : Reading) → jsx_string_reading (xs ++ ys) ≡ Some r
    → r.diagnostics ≡ [] → r.rest ≡ ys → jsx_string_reading (xs ++ zs) ≡ Some (record r { rest = zs })
jsx_string_stays [] ys zs r found clean left = by_text ys refl found
  where
    by_text : (text : List ℕ) → ys ≡ text → jsx_string_reading text ≡ Some r
        → jsx_string_reading zs ≡ Some (record r { rest = zs })
    by_text [] e f = absurd (let no : None ≡ Some r = f in cc)
    by_text (c ∷ cs) e f = by_quote (is_quote c) f
      where
        closed : (rest : List ℕ) → length rest ≤ length cs → jsx_string_before (c ∷ cs) rest ≡ r
            → jsx_string_reading zs ≡ Some (record r { rest = zs })
        closed [] short read =
            absurd (omega (arith, ap length (ap (λ (x : Reading). x.rest) read ∙ left ∙ e)))
        closed (d ∷ ds) short read =
            absurd (omega (arith, short, ap length (ap (λ (x : Reading). x.rest) read ∙ left ∙ e)))

        by_quote : (b : Bool)
            → (if b then Some (jsx_string_before (c ∷ cs) (from_first (λ d. d == c) cs)) else None) ≡ Some r
            → jsx_string_reading zs ≡ Some (record r { rest = zs })
        by_quote true g =
            let read : jsx_string_before (c ∷ cs) (from_first (λ d. d == c) cs) ≡ r = cc in
            closed (from_first (λ d. d == c) cs) (length-from_first (λ d. d == c) cs) read
        by_quote false g = absurd (let no : None ≡ Some r = g in cc)
jsx_string_stays (x ∷ xs) ys zs r found clean left = by_quote (is_quote x) found
  where
    closed : (rest : List ℕ) → from_first (λ d. d == x) (xs ++ ys) ≡ rest
        → jsx_string_before (x ∷ (xs ++ ys)) rest ≡ r
        → jsx_string_before (x ∷ (xs ++ zs)) (from_first (λ d. d == x) (xs ++ zs)) ≡ record r { rest = zs }
    closed [] e read =
        not_empty [] _ (ap (λ (y : Reading). y.diagnostics) read ∙ clean)
    closed (d ∷ ds) e read =
        let rest : ds ≡ ys = ap (λ (y : Reading). y.rest) read ∙ left in
        let there = first_behind (λ c. c == x) xs ys zs d (e ∙ ap (λ t. d ∷ t) rest) in
        ap (jsx_string_before (x ∷ (xs ++ zs))) there
        ∙ ap (λ (r : Reading). record r { value = unescaped_value Str 0 (size_of r) }) (up_to_same Str (x ∷ xs) ys zs)
        ∙ ap (λ t. record (jsx_string_before (x ∷ (xs ++ ys)) (d ∷ t)) { rest = zs }) (sym rest)
        ∙ ap (λ (y : Reading). record y { rest = zs }) read

    by_quote : (b : Bool)
        → (if b then Some (jsx_string_before (x ∷ (xs ++ ys)) (from_first (λ d. d == x) (xs ++ ys))) else None)
        ≡ Some r
        → (if b then Some (jsx_string_before (x ∷ (xs ++ zs)) (from_first (λ d. d == x) (xs ++ zs))) else None)
        ≡ Some (record r { rest = zs })
    by_quote true f =
        let read : jsx_string_before (x ∷ (xs ++ ys)) (from_first (λ d. d == x) (xs ++ ys)) ≡ r = cc in
        ap Some (closed (from_first (λ d. d == x) (xs ++ ys)) refl read)
    by_quote false f = absurd (let no : None ≡ Some r = f in cc)

-- A comment of a module begins with a `/`.
no_open : (t : SourceType) (ended : Bool) (cs : List ℕ) (x : Piece) → is_module t ≡ true
    → piece t ended (60 ∷ cs) ≡ Some x → ⊥
no_open t ended cs x module_is here =
    let found = sym (piece-angle t ended cs) ∙ here in
    elim (true_or_false (is_prefix (codes "!--") cs)) [
      | inl mark ↦ (let none : None ≡ Some x = rw (mark, module_is) at found in cc)
      | inr no_mark ↦ (let none : None ≡ Some x = rw no_mark at found in cc)
    ]

pub module_begins : (t : SourceType) (ended : Bool) (ys : List ℕ) (x : Piece) (kind : CommentKind)
    → is_module t ≡ true → piece t ended ys ≡ Some x → kind_of x.kind x.text ≡ Some kind
    → (cs : List ℕ) × (ys ≡ 47 ∷ cs)
module_begins t ended [] x kind module_is here is = absurd (let no : None ≡ Some x = here in cc)
module_begins t ended (c ∷ cs) x kind module_is here is = (cs, ap (λ d. d ∷ cs) slash)
  where
    begun : begins begins_comment (c ∷ cs) ≡ true
    begun = comment_begins t ended (c ∷ cs) x kind here is

    slash : c ≡ 47
    slash =
        elim (true_or_false (c == 47)) [
          | inl is ↦ eqb-true c 47 is
          | inr no_slash ↦ elim (true_or_false (c == 60)) [
            | inl angle ↦ absurd
                (no_open t ended cs x module_is
                (subst (λ d. piece t ended (d ∷ cs) ≡ Some x) (eqb-true c 60 angle) here))
            | inr no_angle ↦ (
                let minus : (c == 45) ≡ true = rw (no_slash, no_angle) at begun in
                absurd
                (no_close t ended cs x module_is
                (subst (λ d. piece t ended (d ∷ cs) ≡ Some x) (eqb-true c 45 minus) here)))
          ]
        ]
