use Rattle.js_reader.proofs.simple.pass_more.Goals as goal

pub returns : goal.returns
returns c = c.pass_blanks.ensures c.args.line_has_ended.now
