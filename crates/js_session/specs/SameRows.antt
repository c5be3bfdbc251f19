-- Reports of two texts that have the same rows, but for where these stand.
use Rattle.std.specs.Prelude.{◌≡◌, ℕ, Bool, true, false, List, [], Option}
use Rattle.std.specs.List.{AllZip}
use Rattle.std.specs.Option.{option_map}
use Rattle.js_text.specs.declared.reg_exp_flags.RegExpFlags.{RegExpFlags}
use Rattle.js_text.specs.declared.reg_exp_flags.RegexInfo.{RegexInfo}
use Rattle.js_text.specs.declared.value.RowValue.{RowValue}
use Rattle.js_text.specs.declared.value.RowValue.TheVariants.{Nothing, Slice, Units, Bad}
use Rattle.js_session.specs.Report.{text_of}
use Rattle.js_session.specs.declared.report.Report.{Report}
use Rattle.js_session.specs.declared.row.Row.{Row}

-- a value that was not good
abbrev pub is_bad : RowValue → Bool
is_bad Nothing = false
is_bad (Slice span) = false
is_bad (Units units) = false
is_bad Bad = true

-- A value of one text is that of the other: both are nothing, both are bad, or they have the same units.
pub record SameValue (text other : List ℕ) (a b : RowValue) : Type 0 where
  pub bad : is_bad a ≡ is_bad b
  pub units : text_of text a ≡ text_of other b

-- the flags of the regular expression of a row, if it has one
abbrev pub row_flags : Row → Option RegExpFlags
row_flags row = option_map (λ (info : RegexInfo). info.flags) row.regex

-- A row of one text is that of the other: it answers the same command in the same way, and its token has the same kind,
-- flags and value.
pub record SameRow (text other : List ℕ) (a b : Row) : Type 0 where
  pub command : a.command ≡ b.command
  pub taken : a.taken ≡ b.taken
  pub kind : a.token.kind ≡ b.token.kind
  pub is_on_new_line : a.token.is_on_new_line ≡ b.token.is_on_new_line
  pub escaped : a.token.escaped ≡ b.token.escaped
  pub has_separator : a.token.has_separator ≡ b.token.has_separator
  pub flags : row_flags a ≡ row_flags b
  pub value : SameValue text other a.value b.value

-- The report of the other text has as many rows, each the same, and in it are no diagnostic and no comment.
pub record SameRows (text : List ℕ) (before : Report) (other : List ℕ) (after : Report) : Type 0 where
  pub rows : AllZip (SameRow text other) before.rows after.rows
  pub no_diagnostic : after.diagnostics ≡ []
  pub no_comment : after.comments ≡ []
