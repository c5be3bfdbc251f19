-- The rule followed token by token: what is kept of the tokens so far, and what is found.
use Rattle.std.specs.Prelude.{ℕ, zero, suc, ◌+◌, ◌-◌, ◌==◌, Bool, true, false, List, [], ◌∷◌, ◌++◌, length, drop, filter}
use Rattle.std.specs.Prelude.{Option, Some, None, slice_get, if◌then◌else◌}
use Rattle.js_text.specs.declared.span.Span.{Span}
use Rattle.js_text.specs.declared.value.RowValue.{RowValue}
use Rattle.js_text.specs.declared.value.RowValue.TheVariants as value
use Rattle.js_kind.specs.TokenParts.{TokenParts}
use Rattle.js_lists.specs.Taken.{Taken}
use Rattle.js_imports.specs.Classes.{is_plain, token_class}
use Rattle.js_imports.specs.Moves.{move_behind}
use Rattle.js_imports.specs.declared.class.TokenClass.{TokenClass}
use Rattle.js_imports.specs.declared.class.TokenClass.TheVariants as class
use Rattle.js_imports.specs.declared.found.Found.{Found}
use Rattle.js_imports.specs.declared.found.Role.{Role}
use Rattle.js_imports.specs.declared.found.Role.TheVariants as role
use Rattle.js_imports.specs.declared.moves.Act.{Act}
use Rattle.js_imports.specs.declared.moves.Act.TheVariants as act
use Rattle.js_imports.specs.declared.moves.Move.{Move}
use Rattle.js_imports.specs.declared.moves.Phase.{Phase}
use Rattle.js_imports.specs.declared.moves.Phase.TheVariants as phase
use Rattle.js_imports.specs.declared.opened.Open.{Open}
use Rattle.js_imports.specs.declared.opened.OpenPart.{OpenPart}
use Rattle.js_imports.specs.declared.opened.OpenPart.TheVariants as part

-- What is kept of the tokens so far: what the last of them were, how many brackets are open, where the last one ends, the
-- index of what the last tokens belong to, the import calls and patterns that are open, the innermost first, and what is
-- found, in the order in which it began.
pub record Scan : Type 0 where
  pub counts : Bool
  pub phase : Phase
  pub depth : ℕ
  pub end : ℕ
  pub current : ℕ
  pub opened : List Open
  pub found : List Found

-- before the first token; it is told whether calls of `require` count
abbrev pub at_start : Bool → Scan
at_start counts = record {
  counts = counts;
  phase = phase.Plain;
  depth = 0;
  end = 0;
  current = 0;
  opened = [];
  found = [];
}

-- the stretch of a token
abbrev pub span_of : TokenParts → Span
span_of token = record { start = token.start; end = token.end }

-- what begins with this stretch, and is nothing yet
abbrev pub unsettled : Span → Found
unsettled span = record { role = role.Nothing; span = span; part = span; value = value.Nothing }

-- it is something, and ends there
abbrev pub with_role : Role → ℕ → Found → Found
with_role r end x = record x { role = r; span = record { start = x.span.start; end = end } }

-- it is something with this specifier or name, with which it ends
abbrev pub with_text : Role → Span → RowValue → Found → Found
with_text r span v x =
    record { role = r; span = record { start = x.span.start; end = span.end }; part = span; value = v }

-- it goes on up to there
abbrev pub with_end : ℕ → Found → Found
with_end end x = record x { span = record { start = x.span.start; end = end } }

-- its argument starts there
abbrev pub with_argument_start : ℕ → Found → Found
with_argument_start start x = record x { part = record { start = start; end = x.part.end } }

-- its argument ends there
abbrev pub with_argument_end : ℕ → Found → Found
with_argument_end end x = record x { part = record { start = x.part.start; end = end } }

-- it has no specifier
abbrev pub without_value : Found → Found
without_value x = record x { value = value.Nothing }

-- what is found, with a change of what has this index
abbrev pub change : (Found → Found) → ℕ → List Found → List Found
change f index [] = []
change f zero (x ∷ xs) = f x ∷ xs
change f (suc index) (x ∷ xs) = x ∷ change f index xs

-- the same once what has this index was changed
abbrev pub changed : (Found → Found) → ℕ → Scan → Scan
changed f index s = record s { found = change f index s.found }

-- Behind the `(` of an import call: a token that is no `)` begins its argument.
abbrev pub left_call : TokenClass → TokenParts → Scan → Scan
left_call class.CloseParen token s = s
left_call _ token s = changed (with_argument_start token.start) s.current s

-- Behind the string in an import call: where its argument goes on, it has no specifier.
abbrev pub left_text : TokenClass → Scan → Scan
left_text class.CloseParen s = s
left_text class.Comma s = s
left_text _ s = changed without_value s.current s

-- Behind what looks like an import call: where a `{` follows in brackets, it was the head of a method.
abbrev pub left_end : TokenClass → TokenParts → Scan → Scan
left_end class.OpenBrace token s =
    if s.depth == 0 then s else changed (with_role role.Nothing token.end) s.current s
left_end _ token s = s

-- what a token shows of those before it, of which the last ones were these
abbrev pub left_behind : Phase → TokenClass → TokenParts → Scan → Scan
left_behind phase.Call c token s = left_call c token s
left_behind phase.CallText c token s = left_text c s
left_behind phase.CallEnd c token s = left_end c token s
left_behind _ c token s = s

-- what a token shows of those before it
unfoldable pub left : TokenClass → TokenParts → Scan → Scan
left c token s = left_behind s.phase c token s

-- once something has begun
abbrev pub begun : TokenParts → Scan → Scan
begun token s = record s { current = length s.found; found = s.found ++ unsettled (span_of token) ∷ [] }

-- once an import call or a pattern was opened, to which the last tokens belong
abbrev pub with_open : OpenPart → Scan → Scan
with_open p s = record s { opened = record { part = p; index = s.current; depth = s.depth } ∷ s.opened }

-- once a name that is exported was added
abbrev pub with_name : TokenParts → RowValue → Scan → Scan
with_name token v s = record s {
  found = s.found ++ with_text role.ExportName (span_of token) v (unsettled (span_of token)) ∷ [];
}

-- once something was done at a token
unfoldable pub done : Act → TokenParts → RowValue → Scan → Scan
done act.Nothing token v s = s
done act.Begin token v s = begun token s
done act.TellImport token v s = changed (with_text role.StaticImport (span_of token) v) s.current s
done act.TellFrom token v s = changed (with_text role.ExportFrom (span_of token) v) s.current s
done act.TellMeta token v s = changed (with_text role.ImportMeta (span_of token) value.Nothing) s.current s
done act.TellRequire token v s = changed (with_role role.Require token.end) s.current s
done act.Extend token v s = changed (with_end token.end) s.current s
done act.KeepText token v s = changed (with_text role.Nothing (span_of token) v) s.current s
done act.OpenCall token v s = with_open part.Argument s
done act.DropCall token v s = record s { opened = drop 1 s.opened }
done act.OpenPattern token v s = with_open part.Pattern (begun token s)
done act.AddName token v s = with_name token v s
done act.Rename token v s =
    changed (with_text role.ExportName (span_of token) v) (length s.found - 1) s

-- once a token was moved behind
unfoldable pub moved : Move → TokenParts → RowValue → Scan → Scan
moved m token v s = record (done m.act token v s) { phase = m.phase }

-- once a part of an import call, or a pattern, ended with a closing bracket
abbrev pub ended : OpenPart → ℕ → TokenParts → Scan → Scan
ended part.Argument index token s = record s {
  phase = phase.CallEnd;
  current = index;
  found = change (with_role role.DynamicImport token.end) index (change (with_argument_end s.end) index s.found);
}
ended part.Options index token s = record s {
  phase = phase.CallEnd;
  current = index;
  found = change (with_role role.DynamicImport token.end) index s.found;
}
ended part.Pattern index token s = record s {
  found = change (with_role role.ExportPattern token.end) index (change (with_argument_end token.end) index s.found);
}

-- the same where these brackets are open behind it, if this was opened last and has ended
abbrev pub ended_last : Option Open → TokenParts → Scan → Scan
ended_last None token s = s
ended_last (Some o) token s =
    if o.depth == s.depth then ended o.part o.index token (record s { opened = drop 1 s.opened }) else s

-- once a bracket was closed
unfoldable pub closed : TokenParts → Scan → Scan
closed token s = ended_last (slice_get s.opened 0) token (record s { depth = s.depth - 1 })

-- once the argument of an import call ended with a comma
abbrev pub separated_part : OpenPart → Open → Scan → Scan
separated_part part.Argument o s = record s {
  opened = record o { part = part.Options } ∷ drop 1 s.opened;
  found = change (with_argument_end s.end) o.index s.found;
}
separated_part part.Options o s = s
separated_part part.Pattern o s = s

-- the same if this was opened last, and the comma stands in no other bracket
abbrev pub separated_last : Option Open → Scan → Scan
separated_last None s = s
separated_last (Some o) s = if o.depth == s.depth - 1 then separated_part o.part o s else s

-- once a comma was passed
unfoldable pub separated : Scan → Scan
separated s = separated_last (slice_get s.opened 0) s

-- once a bracket was opened
abbrev pub opened_more : Scan → Scan
opened_more s = record s { depth = s.depth + 1 }

-- what a token does to brackets, and to what stands in them
unfoldable pub bracket_passed : TokenClass → TokenParts → Scan → Scan
bracket_passed class.OpenParen token s = opened_more s
bracket_passed class.OpenBrace token s = opened_more s
bracket_passed class.OpenSquare token s = opened_more s
bracket_passed class.OpenTemplate token s = opened_more s
bracket_passed class.CloseParen token s = closed token s
bracket_passed class.CloseBrace token s = closed token s
bracket_passed class.CloseOther token s = closed token s
bracket_passed class.Comma token s = separated s
bracket_passed _ token s = s

-- once a token of this class was taken
unfoldable pub passed : TokenClass → TokenParts → RowValue → Scan → Scan
passed c token v s = record (bracket_passed c token
    (moved (move_behind s.phase (s.depth == 0) c) token v (left c token s))) { end = token.end }

-- a token of the class changes nothing but where the last token ends
abbrev pub is_passed_over : Phase → TokenClass → Bool
is_passed_over phase.Plain c = is_plain c
is_passed_over _ c = false

-- once a token was taken
abbrev pub stepped : Taken → Scan → Scan
stepped x s = passed (token_class s.counts x.token) x.token x.value s

-- once these tokens were taken, one behind the other
abbrev pub scanned : Scan → List Taken → Scan
scanned s [] = s
scanned s (x ∷ xs) = scanned (stepped x s) xs

-- it is something
abbrev pub is_something : Role → Bool
is_something role.Nothing = false
is_something _ = true

-- those that are something, in order
abbrev pub told : List Found → List Found
told found = filter (λ (x : Found). is_something x.role) found
