use Rattle.js_reader.proofs.TriviaSteps.{grows_none}
use Rattle.js_reader.proofs.reader.Reader.skip_character.Goals as goal

pub returns-clause-grown : goal.returns-clause-grown
returns-clause-grown c = grows_none c.args.found.now
