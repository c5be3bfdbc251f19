use Rattle.js_text.specs.Characters.{is_line_terminator}
use Rattle.js_source.specs.Source.{rest}
use Rattle.js_spell.proofs.RecoverSteps.{line_end_found}
use Rattle.js_spell.proofs.recovery.skip_to_end.Goals as goal

pub returns-clause-line_end : goal.returns-clause-line_end
returns-clause-line_end c =
    line_end_found is_line_terminator c.is_eof-found.result (rest c.skip_line-found.new.source)
    (rest c.args.source.now) c.is_eof-found.ensures.characters c.skip_line-found.ensures.rest
