use Rattle.std.proofs.Common.{false}
use Rattle.js_lex_tool.specs.declared.words.Commands.TheVariants.{All}
use Rattle.js_lex_tool.proofs.AnsweringAnew.{meant_allowed, meant_by_each}
use Rattle.js_lex_tool.proofs.anew.meant_commands.Goals as goal

pub returns-in-Ok-clause-meant : goal.returns-in-Ok-clause-meant
returns-in-Ok-clause-meant c =
    rw c.in-All.is
    (λ report is. meant_by_each All c.args.source.now c.args.source_type false c.in-Ok.ran.0 c.in-Ok.ran.1 report
    c.in-Ok.ensures.commands c.in-Ok.ensures.report is)

pub returns-in-Ok-clause-allowed : goal.returns-in-Ok-clause-allowed
returns-in-Ok-clause-allowed c =
    meant_allowed All c.args.source.now c.args.source_type false c.in-Ok.ran.0 c.in-Ok.ran.1 tt
    c.in-Ok.ensures.commands
