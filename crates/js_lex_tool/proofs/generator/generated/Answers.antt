use Rattle.std.proofs.Common.{◌≡◌, ◌∙◌, ◌+◌, ◌-◌, sym, append-nil, arith, string_bytes}
use Rattle.js_lex_tool.proofs.Generating.{line_next, generated_length}
use Rattle.js_lex_tool.specs.Generated.{generated}
use Rattle.js_lex_tool.proofs.generator.generated.Goals as goal

pub loop-number-preserved : goal.loop-number-preserved
loop-number-preserved c =
    let next = line_next (string_bytes c.loop-number.text) c.loop-number.number (c.args.lines + 1) (omega arith) in
    let pushed = rw c.in_ok-push_line.was at c.push_line.ensures in
    rw pushed (sym next ∙ c.loop-number.invariant)

pub returns-clause-short : goal.returns-clause-short
returns-clause-short c =
    let none : c.args.lines + 1 - c.loop-number.number ≡ 0 = omega arith in
    let all : string_bytes c.loop-number.text ≡ generated c.args.lines =
    rw (none, append-nil) at c.loop-number.invariant in
    rw all (generated_length c.args.lines c.requires.few)
