-- The steps of reading a number with a prefix.
use Rattle.std.proofs.Common.{◌≡◌, ℕ, Bool, true, false, ◌==◌, List, [], ◌∷◌, ◌++◌, refl, sym, ◌∙◌}
use Rattle.std.proofs.Common.{ap, inl, inr, Some, None}
use Rattle.std.proofs.lemmas.Bool.{eqb-true}
use Rattle.js_text.specs.Ascii.{full_stop, low_line}
use Rattle.js_grammar.proofs.NumberItems.{true_or_false}
use Rattle.js_text.specs.Characters.{begins}
use Rattle.js_text.specs.declared.diagnostic.Diagnostic.{Diagnostic}
use Rattle.js_source.specs.Source.{At, rest, Reads}
use Rattle.js_grammar.specs.Number.{Base, base_of, digit_zero, whole, run}
use Rattle.js_grammar.specs.NumberReads.{Items, number_items, zero_items, point_items, fraction_items, missing_digits}
use Rattle.js_grammar.specs.NumberReads.{no_items, items-cons, suffix_or}
use Rattle.js_grammar.proofs.NumberSteps.{number_zero, number_point, zero_base, behind_prefix_broken}
use Rattle.js_grammar.proofs.NumberSteps.{behind_prefix_whole}
use Rattle.js_kind.specs.declared.kind.Kind.{Kind}
use Rattle.js_kind.specs.declared.kind.Kind.TheVariants.{Eof, Float}
use Rattle.js_spell.specs.Numeric.{ReadsRun, ReadsEnd, ReadsCut, ReadsPart, HasPrefix, base_of_prefix}
use Rattle.js_spell.specs.Numeric.{behind_base}
use Rattle.js_spell.specs.declared.numeric.Prefix.{Prefix}
use Rattle.js_spell.specs.Breaks.{BreaksOff}
use Rattle.js_spell.proofs.NumericSteps.{point_broken}
use Rattle.js_spell.proofs.NumericSteps.{leads_to, point_read, items_append, no_items_read, suffix_read, no_suffix_read}

-- what ends at its end
pub cut_of_end : (old new : At) (before after : List Diagnostic) (f g : Bool) (kind : Kind) (number : Items)
    → ReadsEnd old new before after f g kind number
    → ReadsCut old new before after f g kind number
cut_of_end old new before after f g kind number end = record {
  text = end.items.text;
  reports = end.items.reports;
  separator = end.items.separator;
  left = end.left;
  kind_is = end.kind_is;
  here = inr end.items.here;
}

pub prefix_broken_read : (base : Base) (old mid new : At) (before after : List Diagnostic) (f g : Bool)
    → new.text ≡ mid.text → rest new ≡ []
    → ReadsRun base.radix old mid before after f g false
    → ReadsCut old new before after f g Eof (behind_base base (rest old))
prefix_broken_read base old mid new before after f g text none digits =
    rw (behind_prefix_broken base (run base.radix (rest old)) digits.whole_run) (record {
      text = text ∙ digits.items.text;
      reports = digits.items.reports;
      separator = digits.items.separator;
      left = sym none;
      kind_is = refl;
      here = inl none;
    })

prefix_end_read : (base : Base) (old mid new : At) (before during after : List Diagnostic) (f g h : Bool) (kind : Kind)
    → ReadsRun base.radix old mid before during f g true
    → ReadsEnd mid new during after g h kind (suffix_or base.big_kind (no_items base.kind (rest mid)) (rest mid))
    → ReadsCut old new before after f h kind (behind_base base (rest old))
prefix_end_read base old mid new before during after f g h kind digits end =
    let item = run base.radix (rest old) in
    let later : ReadsEnd mid new during after g h kind
    (suffix_or base.big_kind (no_items base.kind item.rest) item.rest) = rw digits.left end in
    let more = suffix_or base.big_kind (no_items base.kind item.rest) item.rest in
    rw (behind_prefix_whole base item digits.whole_run)
    (cut_of_end old new before after f h kind (items-cons item more) (record {
      items = items_append old mid new before during after f g h (item ∷ []) more.items digits.items later.items;
      left = later.left;
      kind_is = later.kind_is;
    }))

pub prefix_big_read : (base : Base) (old mid new : At) (before after : List Diagnostic) (f g : Bool)
    → ReadsRun base.radix old mid before after f g true → Reads mid new 110
    → ReadsCut old new before after f g base.big_kind (behind_base base (rest old))
prefix_big_read base old mid new before after f g digits read =
    prefix_end_read base old mid new before after after f g g base.big_kind digits
    (suffix_read mid new after g base.big_kind (no_items base.kind (rest mid)) read)

pub prefix_plain_read : (base : Base) (old mid : At) (before after : List Diagnostic) (f g : Bool)
    → ReadsRun base.radix old mid before after f g true → begins (λ c. c == 110) (rest mid) ≡ false
    → ReadsCut old mid before after f g base.kind (behind_base base (rest old))
prefix_plain_read base old mid before after f g digits none =
    prefix_end_read base old mid mid before after after f g g base.kind digits
    (no_suffix_read mid mid after after g g base.big_kind base.kind (no_items base.kind (rest mid)) none
    (record { items = no_items_read mid after g; left = refl; kind_is = refl }))

named_is_no_separator : (c : ℕ) (base : Base) → base_of c ≡ Some base → (c == low_line) ≡ false
named_is_no_separator c base e =
    elim (true_or_false (c == low_line)) [
      | inl same ↦ (let none : base_of c ≡ None = ap base_of (eqb-true c low_line same) in absurd (cc))
      | inr other ↦ other
    ]

-- a prefix, and what stands behind it
pub prefixed_read : (prefix : Prefix) (old mid new : At) (before after : List Diagnostic) (f g : Bool) (kind : Kind)
    → (p : HasPrefix prefix (rest old)) → mid.text ≡ old.text → rest mid ≡ p.behind
    → ReadsCut mid new before after f g kind (behind_base (base_of_prefix prefix) (rest mid))
    → ReadsCut old new before after f g kind (number_items (rest old))
prefixed_read prefix old mid new before after f g kind p text behind cut =
    let base = base_of_prefix prefix in
    let xs = digit_zero ∷ p.letter ∷ [] in
    let more = behind_base base (rest mid) in
    let here : rest old ≡ xs ++ rest mid = p.here ∙ ap (λ t. digit_zero ∷ p.letter ∷ t) (sym behind) in
    let found : number_items (rest old) ≡ items-cons (whole xs (rest mid)) more =
    ap number_items here ∙ number_zero (xs ++ rest mid) refl refl ∙ ap (λ b. zero_items b (xs ++ rest mid)) p.base
    ∙ zero_base base (xs ++ rest mid) in
    let place = leads_to old mid xs text here in
    let plain = named_is_no_separator p.letter base p.base in
    rw found (record {
      text = cut.text ∙ text;
      reports = cut.reports ∙ ap (λ at. before ++ missing_digits at more.items) place;
      separator = rw plain cut.separator;
      left = cut.left;
      kind_is = cut.kind_is;
      here = elim cut.here [ inl none ↦ inl none | inr rest_here ↦ inr (here ∙ ap (λ t. xs ++ t) rest_here) ];
    })

-- a point
pub pointed_read : (old mid new : At) (before after : List Diagnostic) (f g : Bool) → Reads old mid full_stop
    → ReadsPart mid new before after f g (fraction_items (rest mid))
    → ReadsCut old new before after f g Float (number_items (rest old))
pointed_read old mid new before after f g read part =
    rw (number_point (rest old) (ap (begins (λ c. c == full_stop)) read.here))
    (cut_of_end old new before after f g Float (point_items (rest old))
    (point_read old mid new before after f g read part))

pub pointed_broken : (old mid new : At) (before after : List Diagnostic) → Reads old mid full_stop
    → BreaksOff (missing_digits mid.place (fraction_items (rest mid)).items) mid new before after
    → BreaksOff (missing_digits old.place (number_items (rest old)).items) old new before after
pointed_broken old mid new before after read broken =
    rw (number_point (rest old) (ap (begins (λ c. c == full_stop)) read.here))
    (point_broken old mid new before after read broken)

-- a number of a lead
pub led_read : (old new : At) (before after : List Diagnostic) (f g : Bool) (kind : Kind) (number : Items)
    → number_items (rest old) ≡ number
    → ReadsEnd old new before after f g kind number → ReadsCut old new before after f g kind (number_items (rest old))
led_read old new before after f g kind number e end = rw e (cut_of_end old new before after f g kind number end)
