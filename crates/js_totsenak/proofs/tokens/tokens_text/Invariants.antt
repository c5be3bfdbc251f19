use Rattle.std.proofs.Common.{◌≡◌, take, string_bytes}
use Rattle.js_lines.specs.declared.line_ends.LineEnds.TheVariants.{EcmaScript}
use Rattle.js_totsenak.specs.Check.{in_characters}
use Rattle.js_totsenak.specs.Tokens.{tokens_text}
use Rattle.js_totsenak.proofs.tokens.tokens_text.Given as goal

-- The lines so far were appended.
abbrev pub invariant-loop-token : goal.invariant-loop-token
invariant-loop-token l =
    (l.places ≡ in_characters (record { text = l.source; ends = EcmaScript }))
    × (string_bytes l.text ≡ tokens_text l.source (take l.token-index l.tokens))
