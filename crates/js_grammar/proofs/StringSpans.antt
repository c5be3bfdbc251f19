-- What is read of a string or of a part of a template, good or at fault, is characters that its text begins with, one
-- at least.
use Rattle.std.proofs.Common.{refl}
use Rattle.js_grammar.specs.Reading.{before_rest}
use Rattle.std.proofs.Common.{◌≡◌, ◌≢◌, ℕ, true, ◌==◌, List, [], ◌∷◌, ◌++◌, take, drop, sym, ◌∙◌, ap}
use Rattle.std.proofs.Common.{inl, inr, append_assoc}
use Rattle.std.specs.Prelude.{codes}
use Rattle.std.proofs.lemmas.List.{take-append-drop}
use Rattle.js_text.specs.Ascii.{grave_accent}
use Rattle.js_text.specs.Characters.{begins}
use Rattle.js_kind.specs.declared.kind.Kind.{Kind}
use Rattle.js_grammar.specs.Gap.{is_prefix}
use Rattle.js_grammar.specs.StringItems.{StringItem, string_text, string_items, string_reading}
use Rattle.js_grammar.specs.Quoted.{begins_quoted, quoted_reading}
use Rattle.js_grammar.specs.StringItems.{is_quote}
use Rattle.js_kind.specs.declared.kind.Kind.TheVariants.{NoSubstitutionTemplate, TemplateHead}
use Rattle.js_grammar.specs.Template.{template_items, template_part_reading}
use Rattle.js_grammar.proofs.NumberItems.{true_or_false}
use Rattle.js_grammar.proofs.StringLaws.{string_cut, template_cut}
use Rattle.js_grammar.proofs.StringSteps.{string_terminated, string_unterminated, part_with_tail}
use Rattle.js_grammar.proofs.StringSteps.{part_with_substitution, part_unterminated}

-- some characters of the text were read, and the rest is left
pub record TakesCharacters (text rest : List ℕ) : Type 0 where
  pub characters : List ℕ
  pub some : characters ≢ []
  pub here : text ≡ characters ++ rest

taken : (opening count : ℕ) (text behind : List ℕ) (items : List StringItem)
    → string_text items ++ behind ≡ text → TakesCharacters (opening ∷ text) (drop count behind)
taken opening count text behind items e = record {
  characters = opening ∷ (string_text items ++ take count behind);
  some = λ none. cc;
  here =
      ap (λ cs. opening ∷ cs)
      (sym e ∙ ap (λ cs. string_text items ++ cs) (sym (take-append-drop count behind))
      ∙ sym (append_assoc (string_text items) (take count behind) (drop count behind)));
}

-- of a string, from its quote on
pub string_characters : (quote : ℕ) (text : List ℕ)
    → TakesCharacters (quote ∷ text) (string_reading quote text).rest
string_characters quote text =
    let found = string_items quote text in
    let all = taken quote 1 text found.rest found.items (string_cut quote text) in
    elim (true_or_false (begins (λ c. c == quote) found.rest)) [
      | inl closed ↦ rw (string_terminated quote (quote ∷ text) found closed) all
      | inr open_end ↦ rw (string_unterminated quote (quote ∷ text) found open_end) all
    ]

-- of a part of a template, from the mark on that begins it
pub part_characters : (substitute tail : Kind) (opening : ℕ) (text : List ℕ)
    → TakesCharacters (opening ∷ text) (template_part_reading substitute tail (opening ∷ text)).rest
part_characters substitute tail opening text =
    let found = template_items text in
    let cut = template_cut text in
    elim (true_or_false (begins (λ c. c == grave_accent) found.rest)) [
      | inl is ↦
          rw (part_with_tail substitute tail (opening ∷ text) found is)
          (taken opening 1 text found.rest found.items cut)
      | inr none ↦
          elim (true_or_false (is_prefix (codes "${") found.rest)) [
            | inl begun ↦
                rw (part_with_substitution substitute tail (opening ∷ text) found none begun)
                (taken opening 2 text found.rest found.items cut)
            | inr other ↦
                rw (part_unterminated substitute tail (opening ∷ text) found none other)
                (taken opening 1 text found.rest found.items cut)
          ]
    ]

-- of either, from its mark on
pub quoted_characters : (text : List ℕ) → begins begins_quoted text ≡ true
    → TakesCharacters text (quoted_reading text).rest
quoted_characters [] begun = absurd (cc)
quoted_characters (c ∷ cs) begun =
    elim (true_or_false (is_quote c)) [
      | inl quote ↦ rw quote (string_characters c cs)
      | inr other ↦ rw other (part_characters TemplateHead NoSubstitutionTemplate c cs)
    ]

-- What was taken is what stands before what is left.
pub string_taken : (quote : ℕ) (text : List ℕ)
    → (string_reading quote text).taken ≡ before_rest (quote ∷ text) (string_reading quote text).rest
string_taken quote text =
    let found = string_items quote text in
    elim (true_or_false (begins (λ c. c == quote) found.rest)) [
      | inl closed ↦ rw (string_terminated quote (quote ∷ text) found closed) refl
      | inr open_end ↦ rw (string_unterminated quote (quote ∷ text) found open_end) refl
    ]

pub part_taken : (substitute tail : Kind) (opening : ℕ) (text : List ℕ)
    → (template_part_reading substitute tail (opening ∷ text)).taken
    ≡ before_rest (opening ∷ text) (template_part_reading substitute tail (opening ∷ text)).rest
part_taken substitute tail opening text =
    let found = template_items text in
    elim (true_or_false (begins (λ c. c == grave_accent) found.rest)) [
      | inl is ↦ rw (part_with_tail substitute tail (opening ∷ text) found is) refl
      | inr none ↦
          elim (true_or_false (is_prefix (codes "${") found.rest)) [
            | inl begun ↦ rw (part_with_substitution substitute tail (opening ∷ text) found none begun) refl
            | inr other ↦ rw (part_unterminated substitute tail (opening ∷ text) found none other) refl
          ]
    ]

pub quoted_taken : (text : List ℕ) → begins begins_quoted text ≡ true
    → (quoted_reading text).taken ≡ before_rest text (quoted_reading text).rest
quoted_taken [] begun = absurd (cc)
quoted_taken (c ∷ cs) begun =
    elim (true_or_false (is_quote c)) [
      | inl quote ↦ rw quote (string_taken c cs)
      | inr other ↦ rw other (part_taken TemplateHead NoSubstitutionTemplate c cs)
    ]
