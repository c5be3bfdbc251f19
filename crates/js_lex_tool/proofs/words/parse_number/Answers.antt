use Rattle.std.proofs.Common.{◌∙◌, sym, ap}
use Rattle.js_lex_tool.specs.Words.{number_in}
use Rattle.js_lex_tool.proofs.Counts.{number_in-count, number_in-zero}
use Rattle.js_lex_tool.proofs.words.parse_number.Goals as goal

pub returns-in-text : goal.returns-in-text
returns-in-text c = sym (ap (number_in c.args.most) c.in-text.is ∙ number_in-zero c.args.most)

pub returns-in_default : goal.returns-in_default
returns-in_default c =
    c.parse_count.ensures ∙ number_in-count c.args.most c.args.digits.now c.in_default.not-text
