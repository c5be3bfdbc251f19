-- The rule: what a token means behind those before it.
use Rattle.std.specs.Prelude.{Bool, Option, Some, None, unwrap_or, if◌then◌else◌}
use Rattle.js_imports.specs.Classes.{is_label, is_name}
use Rattle.js_imports.specs.declared.class.TokenClass.{TokenClass}
use Rattle.js_imports.specs.declared.class.TokenClass.TheVariants as class
use Rattle.js_imports.specs.declared.moves.Act.{Act}
use Rattle.js_imports.specs.declared.moves.Act.TheVariants as act
use Rattle.js_imports.specs.declared.moves.Move.{Move}
use Rattle.js_imports.specs.declared.moves.Phase.{Phase}
use Rattle.js_imports.specs.declared.moves.Phase.TheVariants as phase

-- the move where something is done
abbrev pub with : Act → Phase → Move
with a p = record { act = a; phase = p }

-- the move where nothing is done
abbrev pub to : Phase → Move
to p = with act.Nothing p

-- Behind nothing that is to be gone on with. A declaration begins where no bracket is open.
abbrev pub behind_plain : Bool → TokenClass → Move
behind_plain top class.Import = with act.Begin phase.Import
behind_plain top class.Export = if top then with act.Begin phase.Export else to phase.Plain
behind_plain top class.Require = with act.Begin phase.Require
behind_plain top class.Dot = to phase.Dot
behind_plain top _ = to phase.Plain

-- where a clause, or the specifier of an import without one, may begin
abbrev pub begins_clause : TokenClass → Option Move
begins_clause class.Text = Some (with act.TellImport phase.Specifier)
begins_clause class.OpenBrace = Some (to phase.ClauseBraces)
begins_clause class.Star = Some (to phase.Clause)
begins_clause c = if is_name c then Some (to phase.Clause) else None

-- behind `import .`
abbrev pub behind_import_dot : TokenClass → Option Move
behind_import_dot class.Meta = Some (with act.TellMeta phase.Plain)
behind_import_dot _ = None

-- in a clause, outside its braces
abbrev pub in_clause : TokenClass → Option Move
in_clause class.From = Some (to phase.ClauseFrom)
in_clause class.Comma = Some (to phase.Clause)
in_clause class.Star = Some (to phase.Clause)
in_clause class.OpenBrace = Some (to phase.ClauseBraces)
in_clause c = if is_name c then Some (to phase.Clause) else None

-- behind the `from` of a clause, which may be a name of it
abbrev pub behind_clause_from : TokenClass → Option Move
behind_clause_from class.Text = Some (with act.TellImport phase.Specifier)
behind_clause_from class.From = Some (to phase.ClauseFrom)
behind_clause_from class.Comma = Some (to phase.Clause)
behind_clause_from c = if is_name c then Some (to phase.Clause) else None

-- in the braces of a clause
abbrev pub in_clause_braces : TokenClass → Option Move
in_clause_braces class.CloseBrace = Some (to phase.Clause)
in_clause_braces class.Comma = Some (to phase.ClauseBraces)
in_clause_braces c = if is_label c then Some (to phase.ClauseBraces) else None

-- behind the specifier of a declaration
abbrev pub behind_specifier : TokenClass → Option Move
behind_specifier class.With = Some (to phase.With)
behind_specifier class.Assert = Some (to phase.With)
behind_specifier _ = None

-- behind the `with` of attributes
abbrev pub behind_with : TokenClass → Option Move
behind_with class.OpenBrace = Some (to phase.Attributes)
behind_with _ = None

-- in attributes
abbrev pub in_attributes : TokenClass → Option Move
in_attributes class.CloseBrace = Some (with act.Extend phase.Plain)
in_attributes class.Comma = Some (to phase.Attributes)
in_attributes class.Other = Some (to phase.Attributes)
in_attributes c = if is_label c then Some (to phase.Attributes) else None

-- behind the `(` of an import call
abbrev pub in_call : TokenClass → Option Move
in_call class.Text = Some (with act.KeepText phase.CallText)
in_call class.CloseParen = Some (with act.DropCall phase.Plain)
in_call _ = None

-- behind `export`
abbrev pub behind_export : TokenClass → Option Move
behind_export class.Star = Some (to phase.ExportAll)
behind_export class.OpenBrace = Some (to phase.ExportNames)
behind_export class.Default = Some (with act.AddName phase.Plain)
behind_export class.Declares = Some (to phase.Declares)
behind_export class.Function = Some (to phase.ExportNamed)
behind_export class.ClassWord = Some (to phase.ExportNamed)
behind_export class.Async = Some (to phase.ExportAsync)
behind_export _ = None

-- behind `export *`
abbrev pub behind_export_all : TokenClass → Option Move
behind_export_all class.As = Some (to phase.ExportAllAs)
behind_export_all class.From = Some (to phase.ExportFrom)
behind_export_all _ = None

-- behind `export * as`
abbrev pub behind_export_all_as : TokenClass → Option Move
behind_export_all_as c = if is_label c then Some (with act.AddName phase.Exported) else None

-- behind `export {..}` or `export * as NAME`
abbrev pub behind_exported : TokenClass → Option Move
behind_exported class.From = Some (to phase.ExportFrom)
behind_exported _ = None

-- behind the `from` of an export
abbrev pub behind_export_from : TokenClass → Option Move
behind_export_from class.Text = Some (with act.TellFrom phase.Specifier)
behind_export_from _ = None

-- in a list of exports, where a name may begin
abbrev pub in_export_names : TokenClass → Option Move
in_export_names class.CloseBrace = Some (to phase.Exported)
in_export_names c = if is_label c then Some (with act.AddName phase.ExportName) else None

-- behind a name of such a list
abbrev pub behind_export_name : TokenClass → Option Move
behind_export_name class.CloseBrace = Some (to phase.Exported)
behind_export_name class.Comma = Some (to phase.ExportNames)
behind_export_name class.As = Some (to phase.ExportNameAs)
behind_export_name _ = None

-- behind the `as` of such a list
abbrev pub behind_export_name_as : TokenClass → Option Move
behind_export_name_as c = if is_label c then Some (with act.Rename phase.ExportName) else None

-- where a declaration of variables has a name or a pattern
abbrev pub in_declaration : TokenClass → Option Move
in_declaration class.OpenBrace = Some (with act.OpenPattern phase.Plain)
in_declaration class.OpenSquare = Some (with act.OpenPattern phase.Plain)
in_declaration c = if is_name c then Some (with act.AddName phase.Declared) else None

-- behind a name that is declared
abbrev pub behind_declared : TokenClass → Option Move
behind_declared class.Comma = Some (to phase.Declares)
behind_declared _ = None

-- behind `export async`
abbrev pub behind_export_async : TokenClass → Option Move
behind_export_async class.Function = Some (to phase.ExportNamed)
behind_export_async _ = None

-- behind `export function` or `export class`
abbrev pub behind_export_named : TokenClass → Option Move
behind_export_named class.Star = Some (to phase.ExportNamed)
behind_export_named c = if is_name c then Some (with act.AddName phase.Plain) else None

-- behind `require`
abbrev pub behind_require : TokenClass → Option Move
behind_require class.OpenParen = Some (to phase.RequireCall)
behind_require _ = None

-- behind the `(` of a call of `require`
abbrev pub in_require_call : TokenClass → Option Move
in_require_call class.Text = Some (with act.KeepText phase.RequireText)
in_require_call _ = None

-- behind the string of such a call
abbrev pub behind_require_text : TokenClass → Option Move
behind_require_text class.CloseParen = Some (with act.TellRequire phase.Plain)
behind_require_text _ = None

-- behind `import`: a declaration goes on where no bracket is open
abbrev pub behind_import : Bool → TokenClass → Option Move
behind_import top class.OpenParen = Some (with act.OpenCall phase.Call)
behind_import top class.Dot = Some (to phase.ImportDot)
behind_import top c = if top then begins_clause c else None

-- how what the last tokens were goes on, if it does
abbrev pub going_on : Phase → Bool → TokenClass → Option Move
going_on phase.Plain top c = None
going_on phase.Dot top c = Some (to phase.Plain)
going_on phase.Import top c = behind_import top c
going_on phase.ImportDot top c = behind_import_dot c
going_on phase.Clause top c = in_clause c
going_on phase.ClauseFrom top c = behind_clause_from c
going_on phase.ClauseBraces top c = in_clause_braces c
going_on phase.Specifier top c = behind_specifier c
going_on phase.With top c = behind_with c
going_on phase.Attributes top c = in_attributes c
going_on phase.Call top c = in_call c
going_on phase.CallText top c = None
going_on phase.CallEnd top c = None
going_on phase.Export top c = behind_export c
going_on phase.ExportAll top c = behind_export_all c
going_on phase.ExportAllAs top c = behind_export_all_as c
going_on phase.Exported top c = behind_exported c
going_on phase.ExportFrom top c = behind_export_from c
going_on phase.ExportNames top c = in_export_names c
going_on phase.ExportName top c = behind_export_name c
going_on phase.ExportNameAs top c = behind_export_name_as c
going_on phase.Declares top c = in_declaration c
going_on phase.Declared top c = behind_declared c
going_on phase.ExportAsync top c = behind_export_async c
going_on phase.ExportNamed top c = behind_export_named c
going_on phase.Require top c = behind_require c
going_on phase.RequireCall top c = in_require_call c
going_on phase.RequireText top c = behind_require_text c

-- The move at a token: how what the last tokens were goes on; or as behind others, where it doesn't.
abbrev pub move_behind : Phase → Bool → TokenClass → Move
move_behind p top c = unwrap_or (going_on p top c) (behind_plain top c)
