-- Laws of strings and templates: each is what is read without a fault, and nothing else.
use Rattle.std.specs.Str.{encode_utf8_all}
use Rattle.std.proofs.Common.{None}
use Rattle.js_grammar.proofs.ReadingLemmas.{taken_is}
use Rattle.std.proofs.Common.{◌≡◌, ℕ, zero, suc, ◌<◌, true, false, ◌&&◌, ◌==◌, List, [], ◌∷◌}
use Rattle.std.proofs.Common.{◌++◌}
use Rattle.std.proofs.Common.{length, drop, refl, sym, ◌∙◌, ap, arith, Option, inl, inr, append_assoc}
use Rattle.std.proofs.Common.{subst}
use Rattle.std.proofs.lemmas.Bool.{eq-eqb}
use Rattle.js_text.specs.Characters.{begins}
use Rattle.js_text.specs.declared.diagnostic.Diagnostic.{Diagnostic}
use Rattle.js_kind.specs.declared.kind.Kind.TheVariants.{Str}
use Rattle.js_grammar.specs.Reading.{Reading, place_behind}
use Rattle.js_grammar.specs.StringItems.{Fault, StringItem, StringItems, items_up_to, string_text}
use Rattle.js_grammar.specs.StringItems.{string_units}
use Rattle.js_grammar.specs.StringItems.{contains_escape, is_good, are_good, fault_reports, item_reports, quoted_value}
use Rattle.js_grammar.specs.StringItems.{string_items, string_item, string_reading, string_of_items, is_quote, IsString}
use Rattle.js_grammar.specs.StringItems.Fault.{no_fault, bad_escape, unfinished_escape}
use Rattle.js_grammar.specs.StringItems.StringValue.{units}
use Rattle.js_grammar.specs.Template.{template_items, template_item}
use Rattle.js_grammar.proofs.EscapeCases.{first_is}
use Rattle.js_grammar.proofs.NumberItems.{true_or_false}
use Rattle.js_grammar.proofs.StringSteps.{FindsHeads, none_or_some, good_ones, string_item_heads, template_item_heads}
use Rattle.js_grammar.proofs.StringSteps.{string_terminated, string_unterminated}

-- a text is its items and what is left behind them
pub items_and_rest : (step : List ℕ → Option StringItem) → FindsHeads step → (most : ℕ) (text : List ℕ)
    → string_text (items_up_to step most text).items ++ (items_up_to step most text).rest ≡ text
items_and_rest step heads zero text = refl
items_and_rest step heads (suc most) text =
    elim (none_or_some (step text)) [
      | inl e ↦ rw e refl
      | inr (item, e) ↦ (
          let more = items_up_to step most item.rest in
          rw e
          (append_assoc item.text (string_text more.items) more.rest
          ∙ ap (λ cs. item.text ++ cs) (items_and_rest step heads most item.rest)
          ∙ sym (heads text item e).here))
    ]

pub string_cut : (quote : ℕ) (text : List ℕ)
    → string_text (string_items quote text).items ++ (string_items quote text).rest ≡ text
string_cut quote text = items_and_rest (string_item quote) (string_item_heads quote) (length text) text

pub template_cut : (text : List ℕ)
    → string_text (template_items text).items ++ (template_items text).rest ≡ text
template_cut text = items_and_rest template_item template_item_heads (length text) text

-- items of which nothing is reported are good in a string
pub clean_ones : (start place : ℕ) (items : List StringItem) → item_reports false start place items ≡ []
    → are_good items ≡ true
clean_ones start place [] e = refl
clean_ones start place (x ∷ xs) e =
    one x.fault (λ n. clean_ones start (place_behind place x.text) xs n) (place_behind place x.text) e
  where
    one : (fault : Fault) {ds : List Diagnostic} → (ds ≡ [] → are_good xs ≡ true) → (end : ℕ)
        → fault_reports false start place end fault ++ ds ≡ []
        → (is_good fault && are_good xs) ≡ true
    one no_fault more end e = more e
    one bad_escape more end e = absurd (cc)
    one unfinished_escape more end e = absurd (cc)

pub string_here : (xs ys : List ℕ) (string : IsString xs ys)
    → xs ++ ys ≡ string.quote ∷ (string_text string.items ++ (string.quote ∷ ys))
string_here xs ys string =
    ap (λ cs. cs ++ ys) string.here
    ∙ ap (λ cs. string.quote ∷ cs) (append_assoc (string_text string.items) (string.quote ∷ []) ys)

-- what is read of a good string of these characters, with its items and what follows it
abbrev pub good_string : List ℕ → List StringItem → List ℕ → Reading
good_string xs items ys = record {
  taken = xs;
  rest = ys;
  kind = Str;
  line_ended = false;
  escaped = contains_escape items;
  has_separator = false;
  value = quoted_value (contains_escape items) (units (string_units items)) Str (length (encode_utf8_all xs));
  regex = None;
  diagnostics = [];
}

-- A string is read as such.
pub string_is_read : (xs ys : List ℕ) (string : IsString xs ys)
    → string_reading string.quote (string_text string.items ++ (string.quote ∷ ys)) ≡ good_string xs string.items ys
string_is_read xs ys string =
    let text = string.quote ∷ (string_text string.items ++ (string.quote ∷ ys)) in
    ap (string_of_items string.quote text) string.found
    ∙ string_terminated string.quote text (record { items = string.items; rest = string.quote ∷ ys })
    (eq-eqb string.quote string.quote refl)
    ∙ rw (
      taken_is text xs ys (sym (string_here xs ys string)),
      good_ones false 0 1 string.items string.good,
    ) refl

pub not_empty : {A : Type 0} (ds : List Diagnostic) (d : Diagnostic) → ds ++ (d ∷ []) ≡ [] → A
not_empty [] d e = absurd (cc)
not_empty (x ∷ xs) d e = absurd (cc)

-- xs is a string that the text begins with, and ys follow it
pub record BeginsWithString (text xs ys : List ℕ) : Type 0 where
  pub here : text ≡ xs ++ ys
  pub string : IsString xs ys

-- What is read without a fault is a string.
pub clean_is_string : (quote : ℕ) (text : List ℕ) → is_quote quote ≡ true
    → (string_reading quote text).diagnostics ≡ []
    → (xs : List ℕ) × BeginsWithString (quote ∷ text) xs (string_reading quote text).rest
clean_is_string quote text is clean =
    let found = string_items quote text in
    elim (true_or_false (begins (λ c. c == quote) found.rest)) [
      | inr none ↦ (
          let read = string_unterminated quote (quote ∷ text) found none in
          not_empty (item_reports false 0 1 found.items) _
          (ap (λ (r : Reading). r.diagnostics) (sym read) ∙ clean))
      | inl closed ↦ (
          let read = string_terminated quote (quote ∷ text) found closed in
          let left = first_is quote found.rest closed in
          let ys = drop 1 found.rest in
          let xs = quote ∷ (string_text found.items ++ (quote ∷ [])) in
          let whole : text ≡ string_text found.items ++ (quote ∷ ys) =
          sym (string_cut quote text) ∙ ap (λ cs. string_text found.items ++ cs) left in
          let again : string_items quote (string_text found.items ++ (quote ∷ ys))
          ≡ record { items = found.items; rest = quote ∷ ys } =
          ap (string_items quote) (sym whole) ∙ ap (λ cs. record { items = found.items; rest = cs }) left in
          let good = clean_ones 0 1 found.items
          (ap (λ (r : Reading). r.diagnostics) (sym read) ∙ clean) in
          let rest_is : (string_reading quote text).rest ≡ ys = ap (λ (r : Reading). r.rest) read in (
            xs,
            subst (λ left. BeginsWithString (quote ∷ text) xs left) (sym rest_is)
                (record {
                  here =
                      ap (λ cs. quote ∷ cs) (whole ∙ sym (append_assoc (string_text found.items) (quote ∷ []) ys));
                  string =
                      record {
                        quote = quote;
                        is_quote = is;
                        items = found.items;
                        here = refl;
                        found = again;
                        good = good;
                      };
                }),
          ))
    ]

-- A text begins with one string at most.
pub one_string : (text xs ys us vs : List ℕ) → BeginsWithString text xs ys → BeginsWithString text us vs
    → (xs ≡ us) × (ys ≡ vs)
one_string text xs ys us vs a b =
    let same = sym (string_here xs ys a.string) ∙ sym a.here ∙ b.here ∙ string_here us vs b.string in
    let quotes : a.string.quote ≡ b.string.quote = ap first same in
    let behind = ap (drop 1) same in
    let found = sym a.string.found ∙ ap (string_items a.string.quote) behind
    ∙ ap (λ q. string_items q (string_text b.string.items ++ (b.string.quote ∷ vs))) quotes ∙ b.string.found in
    let items : a.string.items ≡ b.string.items = ap (λ (i : StringItems). i.items) found in
    let left : ys ≡ vs = ap (λ (i : StringItems). drop 1 i.rest) found in (
      a.string.here ∙ ap (λ q. q ∷ (string_text a.string.items ++ (q ∷ []))) quotes
          ∙ ap (λ its. b.string.quote ∷ (string_text its ++ (b.string.quote ∷ []))) items ∙ sym b.string.here,
      left,
    )
  where
    first : List ℕ → ℕ
    first [] = 0
    first (c ∷ cs) = c

-- What is read where a string begins is that string, and nothing is reported.
pub string_read_here : (quote : ℕ) (text xs ys : List ℕ) (begun : BeginsWithString (quote ∷ text) xs ys)
    → string_reading quote text ≡ good_string xs begun.string.items ys
string_read_here quote text xs ys begun =
    let same = begun.here ∙ string_here xs ys begun.string in
    ap (λ c. string_reading c text) (ap first same)
    ∙ ap (string_reading begun.string.quote) (ap (drop 1) same) ∙ string_is_read xs ys begun.string
  where
    first : List ℕ → ℕ
    first [] = 0
    first (c ∷ cs) = c

-- a string begins with a quote, and has two characters at least
pub string_begins : (xs ys : List ℕ) → IsString xs ys → begins is_quote xs ≡ true
string_begins xs ys string = ap (begins is_quote) string.here ∙ string.is_quote

pub string_has_characters : (xs ys : List ℕ) → IsString xs ys → 0 < length xs
string_has_characters xs ys string = omega (arith, ap length string.here)
