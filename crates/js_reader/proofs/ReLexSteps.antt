-- What is read of goals that begin where the last token does.
use Rattle.std.proofs.Common.{◌≡◌, ℕ, ◌+◌, ◌≤◌, true, false, List, [], ◌∷◌, refl, sym, ◌∙◌, ap, subst, arith, Some}
use Rattle.std.specs.Str.{IsCharBoundary}
use Rattle.js_text.specs.Characters.{from_place}
use Rattle.js_text.specs.declared.diagnostic.Diagnostic.{Diagnostic}
use Rattle.js_text.proofs.TextLemmas.{place_past}
use Rattle.js_kind.specs.TokenParts.{TokenParts}
use Rattle.js_source.specs.Source.{rest}
use Rattle.js_grammar.specs.Goals.{ReadsPart, next_part}
use Rattle.js_grammar.specs.Outcome.{outcome_at}
use Rattle.js_grammar.specs.Reading.{size_of}
use Rattle.js_grammar.specs.UnicodeEscape.{right_curly_bracket}
use Rattle.js_grammar.specs.declared.goal.Goal.TheVariants.{TemplateTail as TailGoal}
use Rattle.js_grammar.proofs.Marks.{one_byte}
use Rattle.js_grammar.proofs.Spans.{part_is_taken, taken_end}
use Rattle.js_grammar.proofs.Values.{IsValued}
use Rattle.js_kind.specs.declared.kind.Kind.TheVariants.{TemplateMiddle, TemplateTail}
use Rattle.js_source.proofs.Places.{at_boundary}
use Rattle.js_spell.specs.Spells.{Spells}
use Rattle.js_spell.specs.declared.spelt.Spelt.{Spelt}
use Rattle.js_reader.specs.Decoded.{KeepsPart, Values}
use Rattle.js_reader.specs.Reader.{ReadsWithoutGap}
use Rattle.js_reader.specs.declared.reader.Reader.{Reader}
use Rattle.js_reader.proofs.SpeltSteps.{IsKept, next_part_valued, value_kept}

-- The reader stands behind a `}` at the start, and reads a part of a template there.
pub record ReadsPartBehind (start : ℕ) (old : Reader) (before : List Diagnostic) (new : Reader)
    (after : List Diagnostic) (was now : TokenParts) (spelt : Spelt) : Type 0 where
  pub there : IsCharBoundary old.source.text start
  pub here : from_place old.source.text start ≡ right_curly_bracket ∷ rest old.source
  pub spells : Spells (next_part (right_curly_bracket ∷ rest old.source)) start old.source new.source before
      after was now spelt
  pub source_type : new.source_type ≡ old.source_type

pub behind_curly_bracket : {before after : List Diagnostic} {was now : TokenParts} {spelt : Spelt} (start told : ℕ)
    (old new : Reader)
    → IsCharBoundary old.source.text start
    → from_place old.source.text start ≡ right_curly_bracket ∷ rest old.source → told ≡ start
    → Spells (next_part (right_curly_bracket ∷ rest old.source)) told old.source new.source before after was now
    spelt
    → new.source_type ≡ old.source_type → ReadsPartBehind start old before new after was now spelt
behind_curly_bracket {before} {after} {was} {now} {spelt} start told old new there here same spells
    source_type = record {
      there = there;
      here = here;
      spells =
          subst
          (λ (n : ℕ). Spells (next_part (right_curly_bracket ∷ rest old.source)) n old.source new.source before
          after was now spelt) same spells;
      source_type = source_type;
    }

-- the place behind the `}`
pub behind_curly : (start : ℕ) (old : Reader) → IsCharBoundary old.source.text start
    → from_place old.source.text start ≡ right_curly_bracket ∷ rest old.source → start + 1 ≡ old.source.place
behind_curly start old there e =
    sym (place_past old.source.text start old.source.place (right_curly_bracket ∷ []) old.source.placed.utf8 there
    old.source.placed.boundary e
    ∙ ap (λ n. start + n) (one_byte right_curly_bracket (omega arith)))

-- the token that was read
abbrev pub part_token : ℕ → ℕ → TokenParts → Spelt → TokenParts
part_token start end now spelt = record {
  start = start;
  end = end;
  kind = spelt.kind;
  is_on_new_line = false;
  escaped = now.escaped;
  has_separator = false;
}

-- where it ends
part_end : {start : ℕ} {old new : Reader} {before after : List Diagnostic} {was now : TokenParts} {spelt : Spelt}
    → ReadsPartBehind start old before new after was now spelt
    → new.source.place ≡ start + size_of (next_part (from_place old.source.text start))
part_end {start} {old} {new} read =
    taken_end old.source.text start new.source.place (next_part (from_place old.source.text start))
    old.source.placed.utf8 read.there
    (subst (λ (u : List ℕ). IsCharBoundary u new.source.place) read.spells.read.text new.source.placed.boundary)
    (rw read.here (read.spells.read.left ∙ ap (λ u. from_place u new.source.place) read.spells.read.text))
    (rw read.here (part_is_taken TemplateMiddle TemplateTail right_curly_bracket (rest old.source)))

-- The part ends behind its start.
pub part_ordered : {start : ℕ} {old new : Reader} {before after : List Diagnostic} {was now : TokenParts}
    {spelt : Spelt} → ReadsPartBehind start old before new after was now spelt → start ≤ new.source.place
part_ordered read = omega (arith, part_end read)

-- The part is what is read of this goal.
pub reads_next_part : {start : ℕ} {old new : Reader} {before after : List Diagnostic} {was now : TokenParts}
    {spelt : Spelt} (token : TokenParts) → ReadsPartBehind start old before new after was now spelt
    → token ≡ part_token start new.source.place now spelt
    → (last : TokenParts) → last.start ≡ start → ReadsWithoutGap TailGoal (Some last) old before token new after
reads_next_part {start} {old} {new} {before} {after} {was} {now} {spelt} token read is last same =
    let here = from_place old.source.text start in
    let made = next_part here in
    let end = part_end read in
    let as_made : next_part (right_curly_bracket ∷ rest old.source) ≡ made = ap next_part (sym read.here) in
    let spells =
    subst
    (λ r. Spells r start old.source new.source before after was now spelt) as_made read.spells in
    let valued = subst (λ h. IsValued true h (next_part h)) (sym read.here) (next_part_valued (rest old.source)) in
    let reads : ReadsPart old.source.text start (outcome_at false start made) = record {
      begins = read.there;
      behind = rest old.source;
      here = read.here;
      end =
          subst (IsCharBoundary old.source.text) end
          (subst (λ (u : List ℕ). IsCharBoundary u new.source.place) spells.read.text new.source.placed.boundary);
      rest =
          spells.read.left ∙ ap (λ u. from_place u new.source.place) spells.read.text
          ∙ ap (from_place old.source.text) end;
      outcome_is = refl;
    } in
    record {
      read = record {
        text = spells.read.text;
        source_type = read.source_type;
        end = sym (ap (λ t. t.end) is);
        outcome = outcome_at false start made;
        token_is =
            is
            ∙ rw (
              end,
              valued.line,
              valued.separator,
              spells.read.kind_is,
              ap (λ t. t.escaped) spells.flags,
            ) refl;
        reads =
            subst (λ (n : ℕ). ReadsPart old.source.text n (outcome_at false start made)) (sym same) reads;
      };
      findings = refl;
      errors = spells.read.reports;
    }

-- and its value is kept
pub next_part_kept : {start : ℕ} {old new : Reader} {before after : List Diagnostic} {was now : TokenParts}
    {spelt : Spelt} (values kept : Values) (read : ReadsPartBehind start old before new after was now spelt)
    → KeepsPart start spelt.value values kept
    → IsKept (at_boundary old.source start read.there) values kept spelt.kind now.escaped
next_part_kept {start} {old} values kept read keeps =
    value_kept (at_boundary old.source start read.there) values kept start
    (subst (λ h. IsValued true h (next_part (right_curly_bracket ∷ rest old.source))) (sym read.here)
    (next_part_valued (rest old.source))) refl read.spells keeps
