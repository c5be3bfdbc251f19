use Rattle.std.proofs.Common.{rules}
use Rattle.js_trivia.proofs.WordSteps.{below_128}
use Rattle.js_trivia.proofs.classes.begins_no_word.Goals as goal

pub returns-in_default : goal.returns-in_default
returns-in_default c = record {
  ascii = below_128 c.args.b c.if-b-ge128.false;
  no_at = search rules;
  no_number_sign = search rules;
  no_w = search rules;
  no_t = search rules;
  no_v = search rules;
  no_c = search rules;
  no_n = search rules;
  no_i = search rules;
}
