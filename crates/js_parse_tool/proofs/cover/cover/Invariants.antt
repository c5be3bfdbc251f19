use Rattle.std.proofs.Common.{drop}
use Rattle.js_parse_tool.specs.Covered.{Cover}
use Rattle.js_parse_tool.proofs.cover.cover.Given as goal

-- Where the spans that are left cover the rest, all of them cover the source.
abbrev pub invariant-loop-span : goal.invariant-loop-span
invariant-loop-span l = Cover l.source l.from (drop l.span-index l.spans) → Cover l.source 0 l.spans
