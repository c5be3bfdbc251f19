-- The records that C sees of a document.
use Rattle.std.specs.Prelude.{false, length}
use Rattle.js_text.specs.declared.value.RowValue.{RowValue}
use Rattle.js_text.specs.declared.value.RowValue.TheVariants.{Nothing, Slice, Units, Bad}
use Rattle.js_kind.specs.Kinds.{number}
use Rattle.js_kind.specs.TokenParts.{TokenParts}
use Rattle.js_lines.specs.declared.columns.Position.{Position}
use Rattle.js_document.specs.declared.change.Change.{Change}
use Rattle.js_document.specs.declared.change.ChangedRange.{ChangedRange}
use Rattle.js_lex_c.specs.Records.{span_record}
use Rattle.js_lex_c.specs.Tokens.{token_flags, value_form, value_units}
use Rattle.js_lex_c.specs.declared.document_record.JsChange.{JsChange}
use Rattle.js_lex_c.specs.declared.document_record.JsLiveToken.{JsLiveToken}
use Rattle.js_lex_c.specs.declared.document_record.JsLiveValue.{JsLiveValue}
use Rattle.js_lex_c.specs.declared.document_record.JsPosition.{JsPosition}
use Rattle.js_lex_c.specs.declared.document_record.JsRange.{JsRange}
use Rattle.js_lex_c.specs.declared.record.JsSpan.{JsSpan}

abbrev pub live_token_record : TokenParts → JsLiveToken
live_token_record token = record {
  span = record { start = token.start; end = token.end };
  kind = number token.kind;
  flags = token_flags token false;
}

-- the stretch of the text that a value is, of any other 0 and 0
abbrev pub value_stretch : RowValue → JsSpan
value_stretch Nothing = record { start = 0; end = 0 }
value_stretch (Slice span) = span_record span
value_stretch (Units units) = record { start = 0; end = 0 }
value_stretch Bad = record { start = 0; end = 0 }

abbrev pub live_value_record : RowValue → JsLiveValue
live_value_record value = record {
  span = value_stretch value;
  unit_count = length (value_units value);
  form = value_form value;
}

abbrev pub range_record : ChangedRange → JsRange
range_record range = record { start = range.start; old_end = range.old_end; new_end = range.new_end }

abbrev pub change_record : Change → JsChange
change_record change = record {
  tokens = range_record change.tokens;
  comments = range_record change.comments;
  diagnostics = range_record change.diagnostics;
  kept_rows = change.kept_rows;
  read_rows = change.read_rows;
  moved_from = change.moved.from;
  moved_to = change.moved.to;
}

abbrev pub position_record : Position → JsPosition
position_record position = record { line = position.line; column = position.column }
