-- The value of an attribute of JSX, behind a whole gap.
use Rattle.std.proofs.Common.{◌≡◌, ℕ, ◌≤◌, false, List, refl, sym, ◌∙◌, ap, subst}
use Rattle.std.proofs.Common.{Option}
use Rattle.std.specs.Str.{IsCharBoundary}
use Rattle.js_text.specs.Characters.{begins, from_place}
use Rattle.js_text.specs.declared.diagnostic.Diagnostic.{Diagnostic}
use Rattle.js_kind.specs.TokenParts.{TokenParts}
use Rattle.js_kind.specs.declared.kind.Kind.{Kind}
use Rattle.js_grammar.specs.Goals.{line_has_ended_behind, with_gap}
use Rattle.js_grammar.specs.Goals.ReadsAttributeValue.{string as attribute_string, plain as attribute_plain}
use Rattle.js_grammar.specs.Jsx.{jsx_string_reading}
use Rattle.js_grammar.specs.Outcome.{outcome_at}
use Rattle.js_grammar.specs.Reading.{reported_at}
use Rattle.js_grammar.specs.StringItems.{is_quote}
use Rattle.js_grammar.specs.declared.goal.Goal.TheVariants.{JsxAttributeValue}
use Rattle.js_grammar.proofs.GoalReadings.{attribute_is_read}
use Rattle.js_source.specs.Source.{rest}
use Rattle.js_spell.specs.Goals.{SpellsJsxString}
use Rattle.js_reader.specs.Found.{Extends}
use Rattle.js_reader.specs.Goals.{ReadsAttributeHere, ReadsStringHere}
use Rattle.js_reader.specs.Goals.ReadsAttributeHere.{string, plain}
use Rattle.js_reader.specs.Reader.{read_token, ReadsTokenHere, ReadsWithGap, SkipsWholeGap}
use Rattle.js_reader.specs.declared.findings_builder.FindingsBuilder.{FindingsBuilder}
use Rattle.js_reader.proofs.ReadingSteps.{gap_to, gap_told, token_behind}
use Rattle.js_reader.specs.declared.reader.Reader.{Reader}
use Rattle.js_reader.proofs.GoalSteps.{ReadTo, goes_on, read_from, token_of}

-- a string that was read here
pub string_here : {before after : List Diagnostic} (old new : Reader) (kind : Kind) (token : TokenParts)
    → SpellsJsxString old.source new.source before after kind → new.source_type ≡ old.source_type
    → token ≡ read_token old.line_has_ended old.source.place new.source.place kind
    → ReadsStringHere old before token new after
string_here old new kind token spells source_type is = record {
  text = spells.spells.text;
  source_type = source_type;
  found = spells.found;
  read = spells.read;
  token_is = is ∙ ap (read_token old.line_has_ended old.source.place new.source.place) (sym spells.spells.kind_is);
  left = spells.spells.left;
  errors = spells.spells.reports;
}

-- which goes on
pub string_ordered : {before after : List Diagnostic} (old new : Reader) (kind : Kind)
    → SpellsJsxString old.source new.source before after kind
    → old.source.place ≤ new.source.place
string_ordered old new kind spells =
    let to : ReadTo old.source.text old.source.place (jsx_string_reading (rest old.source)) spells.found new.source =
    record {
      same = spells.spells.text;
      boundary = old.source.placed.boundary;
      read_is = spells.read;
      left = spells.spells.left;
      all = attribute_is_read (rest old.source);
    } in
    goes_on to

string_goal : (previous : Option TokenParts) (old : Reader) (before : FindingsBuilder) (mid : Reader)
    (told : FindingsBuilder) (new : Reader) (later : List Diagnostic) (token : TokenParts)
    → line_has_ended_behind previous ≡ old.line_has_ended → SkipsWholeGap old before mid told
    → ReadsStringHere mid told.errors token new later
    → ReadsWithGap JsxAttributeValue previous old before token new (record told { errors = later })
string_goal previous old before mid told new later token first gap read =
    let t = old.source_type in
    let pieces = gap.skips.pieces in
    let start : ℕ = mid.source.place in
    let string = outcome_at mid.line_has_ended start read.found in
    let text : mid.source.text ≡ old.source.text = gap.skips.text in
    let there : rest mid.source ≡ from_place old.source.text start = ap (λ u. from_place u start) text in
    let to : ReadTo old.source.text start (jsx_string_reading (from_place old.source.text start)) read.found
    new.source =
    record {
      same = read.text ∙ text;
      boundary = subst (λ (u : List ℕ). IsCharBoundary u start) text mid.source.placed.boundary;
      read_is = ap jsx_string_reading (sym there) ∙ read.read;
      left = read.left;
      all = attribute_is_read (from_place old.source.text start);
    } in
    let outcome = with_gap t previous old.source.place pieces string in
    record {
      read = record {
        text = read.text ∙ text;
        source_type = read.source_type ∙ gap.skips.source_type;
        end = sym (ap (λ t. t.end) read.token_is);
        outcome = outcome;
        token_is = read.token_is ∙ token_of mid.line_has_ended read.found.kind to refl;
        reads =
            attribute_string (record {
              pieces = pieces;
              line_has_ended = mid.line_has_ended;
              gap = gap_to previous old before mid told first gap;
              string = string;
              reads = read_from mid.line_has_ended to;
              outcome_is = refl;
            });
      };
      gap =
          gap_told previous old before mid told outcome (reported_at start read.found) later gap refl refl
          read.errors;
    }

plain_goal : (previous : Option TokenParts) (old : Reader) (before : FindingsBuilder) (mid : Reader)
    (told : FindingsBuilder) (new : Reader) (later : List Diagnostic) (token : TokenParts)
    → line_has_ended_behind previous ≡ old.line_has_ended → SkipsWholeGap old before mid told
    → begins is_quote (rest mid.source) ≡ false → ReadsTokenHere mid told.errors token new later
    → ReadsWithGap JsxAttributeValue previous old before token new (record told { errors = later })
plain_goal previous old before mid told new later token first gap none read =
    let behind = token_behind previous old before mid told new later token first gap read in
    record {
      read = record {
        text = behind.text;
        source_type = behind.source_type;
        end = behind.end;
        outcome = behind.outcome;
        token_is = behind.token_is;
        reads =
            attribute_plain
            (ap (λ u. begins is_quote (from_place u mid.source.place)) (sym gap.skips.text) ∙ none) behind.reads;
      };
      gap = behind.gap;
    }

-- The value of an attribute behind the gap that was skipped.
pub attribute_goal : (previous : Option TokenParts) (old : Reader) (before : FindingsBuilder) (mid : Reader)
    (told : FindingsBuilder) (new : Reader) (later : List Diagnostic) (token : TokenParts)
    → line_has_ended_behind previous ≡ old.line_has_ended → SkipsWholeGap old before mid told
    → ReadsAttributeHere mid told.errors token new later
    → ReadsWithGap JsxAttributeValue previous old before token new (record told { errors = later })
attribute_goal previous old before mid told new later token first gap (string read) =
    string_goal previous old before mid told new later token first gap read
attribute_goal previous old before mid told new later token first gap (plain none read) =
    plain_goal previous old before mid told new later token first gap none read

pub attribute_reports : {before after : List Diagnostic} {token : TokenParts} (old new : Reader)
    → ReadsAttributeHere old before token new after → Extends before after
attribute_reports old new (string read) =
    record { more = reported_at old.source.place read.found; is_more = read.errors }
attribute_reports old new (plain none read) =
    record { more = reported_at old.source.place read.reads.reading; is_more = read.reads.errors }
