-- What is read of names, strings and templates, and the values that are kept of them.
use Rattle.std.proofs.Common.{◌≡◌, ℕ, ◌+◌, ◌<◌, Bool, true, false, ◌==◌, List, [], ◌∷◌, ◌++◌, drop, refl, sym, ◌∙◌}
use Rattle.std.proofs.Common.{ap, subst, Option, None, Some}
use Rattle.js_text.specs.Ascii.{grave_accent, number_sign}
use Rattle.js_text.specs.Characters.{begins}
use Rattle.js_text.specs.declared.diagnostic.Diagnostic.{Diagnostic}
use Rattle.js_text.specs.declared.value.RowValue.{RowValue}
use Rattle.js_kind.specs.Kinds.{is_template_kind}
use Rattle.js_kind.specs.TokenParts.{TokenParts}
use Rattle.js_kind.specs.declared.kind.Kind.{Kind}
use Rattle.js_kind.specs.declared.kind.Kind.TheVariants.{NoSubstitutionTemplate, TemplateHead, TemplateMiddle}
use Rattle.js_kind.specs.declared.kind.Kind.TheVariants.{TemplateTail}
use Rattle.js_source.specs.Source.{At, rest, Reads, BeginsWith, StepsPast}
use Rattle.js_grammar.specs.Goals.{ReadsHere, next_part}
use Rattle.js_grammar.specs.Name.{begins_name, name_reading, private_reading}
use Rattle.js_grammar.specs.Number.{begins_number}
use Rattle.js_grammar.specs.NumberReads.{number_reading}
use Rattle.js_grammar.specs.Quoted.{quoted_reading}
use Rattle.js_grammar.specs.Reading.{Reading, reported_at}
use Rattle.js_grammar.specs.StringItems.{is_quote, string_reading}
use Rattle.js_grammar.specs.Template.{template_part_reading}
use Rattle.js_grammar.specs.TokenText.{is_valued, unescaped_value}
use Rattle.js_grammar.specs.UnicodeEscape.{right_curly_bracket}
use Rattle.js_grammar.specs.Values.{decoded_units, decoded_value, template_row_value, template_units}
use Rattle.js_grammar.proofs.Marks.{one_byte}
use Rattle.js_grammar.proofs.NameReadings.{name_reads_here, private_reads_here}
use Rattle.js_grammar.proofs.NumberReadings.{number_flags, number_reads_here}
use Rattle.js_grammar.proofs.NumberSound.{first_is}
use Rattle.js_grammar.proofs.QuotedReadings.{quoted_reads_here}
use Rattle.js_grammar.proofs.ReadingLemmas.{by_choice}
use Rattle.js_grammar.proofs.StringBegins.{quote_is_quoted}
use Rattle.js_grammar.proofs.Values.{IsValued, name_is_valued, private_is_valued, string_is_valued, part_is_valued}
use Rattle.js_spell.specs.Breaks.{BreaksOff}
use Rattle.js_spell.specs.Spells.{Spells, spelt_value}
use Rattle.js_spell.specs.declared.spelt.Spelt.{Spelt}
use Rattle.js_spell.specs.declared.spelt.SpeltValue.{SpeltValue}
use Rattle.js_spell.specs.declared.spelt.SpeltValue.TheVariants.{Plain}
use Rattle.js_reader.specs.Decoded.{Values, KeepsSpelt, KeepsPart, KeepsValues, HasValueHere, HoldsTemplate}
use Rattle.js_reader.specs.Reader.{ReadsInPart, ReadsLexeme}
use Rattle.js_reader.specs.declared.reader.Reader.{Reader}
use Rattle.js_reader.proofs.DecodedSteps.{keeps_same, keeps_string, keeps_template, has_string, has_template}
use Rattle.js_reader.proofs.DecodedSteps.{needs_no_value}
use Rattle.js_spell.proofs.RecoverSteps.{leads_to}

-- What is read where the reader stands, with its value: that of a part of a template or not.
pub record IsReadHere (template : Bool) (old : Reader) (reading : Reading) : Type 0 where
  pub reads : ReadsHere old.source_type old.line_has_ended (rest old.source) reading
  pub valued : IsValued template (rest old.source) reading

as_here : (template : Bool) (old : Reader) (here : List ℕ) (reading : Reading) → rest old.source ≡ here
    → ReadsHere old.source_type old.line_has_ended here reading → IsValued template here reading
    → IsReadHere template old reading
as_here template old here reading e reads valued = record {
  reads = subst (λ h. ReadsHere old.source_type old.line_has_ended h reading) (sym e) reads;
  valued = subst (λ h. IsValued template h reading) (sym e) valued;
}

-- a name
pub name_here : (old : Reader) → begins_name (rest old.source) ≡ true
    → IsReadHere false old (name_reading (rest old.source))
name_here old begun = record {
  reads = name_reads_here old.source_type old.line_has_ended (rest old.source) begun;
  valued = name_is_valued (rest old.source) begun;
}

-- a `#`, and what follows it
pub private_here : (old : Reader) (mid : At) → Reads old.source mid number_sign
    → IsReadHere false old (private_reading (number_sign ∷ rest mid))
private_here old mid reads =
    as_here false old (number_sign ∷ rest mid) _ reads.here
    (private_reads_here old.source_type old.line_has_ended (rest mid)) (private_is_valued (rest mid))

-- a string
pub string_here : (old : Reader) → begins is_quote (rest old.source) ≡ true
    → IsReadHere false old (quoted_reading (rest old.source))
string_here old begun = record {
  reads =
      quoted_reads_here old.source_type old.line_has_ended (rest old.source)
      (quote_is_quoted (rest old.source) begun);
  valued = valued (rest old.source) begun;
}
  where
    valued : (here : List ℕ) → begins is_quote here ≡ true → IsValued false here (quoted_reading here)
    valued [] e = absurd (cc)
    valued (c ∷ cs) e =
        let same : string_reading c cs ≡ quoted_reading (c ∷ cs) = rw e refl in
        subst (IsValued false (c ∷ cs)) same (string_is_valued c cs e)

-- the kinds of parts of templates
record ArePartKinds : Type 0 where
  pub head : is_template_kind TemplateHead ≡ true
  pub middle : is_template_kind TemplateMiddle ≡ true
  pub tail : is_template_kind TemplateTail ≡ true
  pub no_substitution : is_template_kind NoSubstitutionTemplate ≡ true

part_kinds : ArePartKinds
unfolding is_template_kind
part_kinds = record { head = refl; middle = refl; tail = refl; no_substitution = refl }

-- a template, or its first part
abbrev pub first_part : List ℕ → Reading
first_part here = template_part_reading TemplateHead NoSubstitutionTemplate here

pub template_here : (old : Reader) (mid : At) → Reads old.source mid grave_accent
    → IsReadHere true old (first_part (grave_accent ∷ rest mid))
template_here old mid reads =
    as_here true old (grave_accent ∷ rest mid) _ reads.here
    (quoted_reads_here old.source_type old.line_has_ended (grave_accent ∷ rest mid) refl)
    (part_is_valued TemplateHead NoSubstitutionTemplate part_kinds.head part_kinds.no_substitution grave_accent
    (rest mid) refl)

-- and the value of a further part
pub next_part_valued : (behind : List ℕ)
    → IsValued true (right_curly_bracket ∷ behind) (next_part (right_curly_bracket ∷ behind))
next_part_valued behind =
    part_is_valued TemplateMiddle TemplateTail part_kinds.middle part_kinds.tail right_curly_bracket behind refl

-- What was read where the reader stood, and in which no line ends.
lexeme_read : {reading : Reading} {mid : At} {start : ℕ} {before after : List Diagnostic} {was now : TokenParts}
    {spelt : Spelt} (old new : Reader)
    → ReadsHere old.source_type old.line_has_ended (rest old.source) reading → reading.line_ended ≡ false
    → start ≡ old.source.place → mid.text ≡ old.source.text
    → Spells reading start mid new.source before after was now spelt → new.source_type ≡ old.source_type
    → ReadsLexeme old before
    (record {
      kind = spelt.kind;
      is_on_new_line = old.line_has_ended;
      escaped = now.escaped;
      has_separator = now.has_separator;
    }) new after
lexeme_read {reading} {before} old new here line at text spells source_type = record {
  text = spells.read.text ∙ text;
  source_type = source_type;
  reading = reading;
  here = here;
  behind = spells.read.left;
  lexeme_is =
      rw (
        line,
        spells.read.kind_is,
        ap (λ t. t.escaped) spells.flags,
        ap (λ t. t.has_separator) spells.flags,
      ) refl;
  errors = spells.read.reports ∙ ap (λ n. before ++ reported_at n reading) at;
}

-- a name, a string or a part of a template
pub lexeme_as : {template : Bool} {reading : Reading} {mid : At} {start : ℕ} {before after : List Diagnostic}
    {was now : TokenParts} {spelt : Spelt} (old new : Reader) → IsReadHere template old reading
    → start ≡ old.source.place → mid.text ≡ old.source.text
    → Spells reading start mid new.source before after was now spelt → new.source_type ≡ old.source_type
    → ReadsLexeme old before
    (record {
      kind = spelt.kind;
      is_on_new_line = old.line_has_ended;
      escaped = now.escaped;
      has_separator = now.has_separator;
    }) new after
lexeme_as old new here at text spells source_type =
    lexeme_read old new here.reads here.valued.line at text spells source_type

-- and a number
pub lexeme_of_number : {start : ℕ} {before after : List Diagnostic} {was now : TokenParts} {spelt : Spelt}
    (old new : Reader)
    → begins_number (rest old.source) ≡ true → start ≡ old.source.place
    → Spells (number_reading (rest old.source)) start old.source new.source before after was now spelt
    → new.source_type ≡ old.source_type
    → ReadsLexeme old before
    (record {
      kind = spelt.kind;
      is_on_new_line = old.line_has_ended;
      escaped = now.escaped;
      has_separator = now.has_separator;
    }) new after
lexeme_of_number old new begun at spells source_type =
    lexeme_read old new (number_reads_here old.source_type old.line_has_ended (rest old.source) begun)
    (number_flags (rest old.source)).0 at refl spells source_type

-- The reader has moved on where a reading broke off, or where its value could not be kept.
pub broke_off : {told : List Diagnostic} {mid : At} {before after : List Diagnostic} (old new : Reader)
    → BreaksOff told mid new.source before after → mid.text ≡ old.source.text
    → new.source_type ≡ old.source_type → ReadsInPart old before new after
broke_off old new broke text source_type = record {
  moves = record { text = broke.text ∙ text; source_type = source_type };
  errors = record { more = broke.more; is_more = broke.reports };
}

pub was_spelt : {reading : Reading} {mid : At} {start : ℕ} {before after : List Diagnostic} {was now : TokenParts}
    {spelt : Spelt} (old new : Reader)
    → Spells reading start mid new.source before after was now spelt → mid.text ≡ old.source.text
    → new.source_type ≡ old.source_type → ReadsInPart old before new after
was_spelt {reading} {start} old new spells text source_type = record {
  moves = record { text = spells.read.text ∙ text; source_type = source_type };
  errors = record { more = reported_at start reading; is_more = spells.read.reports };
}

-- What is kept of a spelling of this kind.
pub record IsKept (here : At) (old new : Values) (kind : Kind) (escaped : Bool) : Type 0 where
  pub kept : KeepsValues here.text old new
  pub has_value : HasValueHere here new kind escaped

-- a value is kept as that of a part of a template, or not
abbrev pub KeepsAs : Bool → ℕ → SpeltValue → Values → Values → Type 0
KeepsAs true start value old new = KeepsPart start value old new
KeepsAs false start value old new = KeepsSpelt start value old new

unchanged : (template : Bool) (start : ℕ) (old new : Values) → KeepsAs template start Plain old new → new ≡ old
unchanged true start old new e = e
unchanged false start old new e = e

-- the value of a token as it stands in the source
unescaped_is_unescaped : (kind : Kind) (size : ℕ) → spelt_value (unescaped_value kind 0 size) ≡ Plain
unescaped_is_unescaped kind size = by_choice (λ v. spelt_value v ≡ Plain) (is_valued kind) _ _ (λ _. refl)
    (λ _. refl)

part_held : (start : ℕ) (o : Option (List ℕ)) (old new : Values)
    → KeepsPart start (spelt_value (template_row_value o)) old new → HoldsTemplate start o old new
part_held start None old new h = h
part_held start (Some us) old new h = h

-- and one that was decoded
decoded_kept : (template : Bool) (here : At) (old new : Values) (kind : Kind) → is_template_kind kind ≡ template
    → KeepsAs template here.place (spelt_value (decoded_value kind (rest here))) old new
    → IsKept here old new kind true
decoded_kept true here old new kind is keeps =
    let value : decoded_value kind (rest here) ≡ template_row_value (template_units (rest here)) = rw is refl in
    let holds =
    part_held here.place (template_units (rest here)) old new
    (subst (λ (v : RowValue). KeepsPart here.place (spelt_value v) old new) value keeps) in
    record {
      kept = keeps_template here (template_units (rest here)) old new holds refl;
      has_value = has_template here (template_units (rest here)) old new kind true is holds refl;
    }
decoded_kept false here old new kind is keeps =
    let holds = rw is at keeps in
    record {
      kept = keeps_string here (decoded_units (rest here)) old new holds refl;
      has_value = has_string here (decoded_units (rest here)) old new kind true is holds refl;
    }

-- The value of what was read is kept.
pub value_kept : {template : Bool} {reading : Reading} {mid new : At} {start : ℕ} {before after : List Diagnostic}
    {was now : TokenParts} {spelt : Spelt} (here : At) (values kept : Values) (held : ℕ)
    → IsValued template (rest here) reading → held ≡ here.place
    → Spells reading start mid new before after was now spelt → KeepsAs template held spelt.value values kept
    → IsKept here values kept spelt.kind now.escaped
value_kept {template} {reading} {now} {spelt} here values kept held valued at spells keeps =
    let escaped : now.escaped ≡ reading.escaped = ap (λ t. t.escaped) spells.flags in
    subst (IsKept here values kept spelt.kind) (sym escaped)
    (subst (λ k. IsKept here values kept k reading.escaped) spells.read.kind_is (by_flag reading.escaped refl))
  where
    there : KeepsAs template here.place (spelt_value reading.value) values kept
    there =
        subst (λ v. KeepsAs template here.place v values kept) spells.value
        (subst (λ (n : ℕ). KeepsAs template n spelt.value values kept) at keeps)

    by_flag : (escaped : Bool) → reading.escaped ≡ escaped → IsKept here values kept reading.kind escaped
    by_flag false e =
        let plain = ap spelt_value (valued.value.0 e) ∙ unescaped_is_unescaped reading.kind _ in
        let same =
        unchanged template here.place values kept
        (subst (λ v. KeepsAs template here.place v values kept) plain there) in
        record {
          kept = keeps_same here.text values kept same;
          has_value = needs_no_value here kept reading.kind false refl;
        }
    by_flag true e =
        decoded_kept template here values kept reading.kind (valued.kind e)
        (subst (λ (v : RowValue). KeepsAs template here.place (spelt_value v) values kept) (valued.value.1 e) there)

-- A `#` was taken.
pub takes_sign : (old mid : At) → BeginsWith number_sign (rest old) → StepsPast old mid → Reads old mid number_sign
takes_sign old mid begun past = by_text (rest old) refl begun
  where
    by_text : (xs : List ℕ) → rest old ≡ xs → BeginsWith number_sign xs → Reads old mid number_sign
    by_text [] e h = absurd h
    by_text (c ∷ cs) e h =
        let after = past c cs e in
        let same : c ≡ number_sign = h in
        record { text = after.0; here = e ∙ ap (λ d. d ∷ cs) same ∙ ap (λ ds. number_sign ∷ ds) (sym after.1) }

-- and a backquote
pub takes_backquote : (old mid : At) → begins (λ c. c == grave_accent) (rest old) ≡ true → StepsPast old mid
    → Reads old mid grave_accent
takes_backquote old mid begun past =
    let here = first_is grave_accent (rest old) begun in
    let after = past grave_accent (drop 1 (rest old)) here in
    record { text = after.0; here = here ∙ ap (λ ds. grave_accent ∷ ds) (sym after.1) }

-- which is one byte
pub behind_mark : (mark : ℕ) (old mid : At) → mark < 128 → Reads old mid mark
    → old.place + 1 ≡ mid.place
behind_mark mark old mid low reads =
    sym (leads_to old mid (mark ∷ []) reads.text reads.here ∙ ap (λ n. old.place + n) (one_byte mark low))
