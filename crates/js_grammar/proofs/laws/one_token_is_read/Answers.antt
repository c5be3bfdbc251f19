use Rattle.js_grammar.proofs.Unique.{plain_reads_unique}
use Rattle.js_grammar.proofs.laws.one_token_is_read.Goals as goal

pub returns : goal.returns
returns c = plain_reads_unique
