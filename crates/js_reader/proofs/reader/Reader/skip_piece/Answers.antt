use Rattle.js_reader.proofs.TriviaSteps.{grows_none}
use Rattle.js_reader.proofs.reader.Reader.skip_piece.Goals as goal

pub returns-in-None-clause-grown : goal.returns-in-None-clause-grown
returns-in-None-clause-grown c = grows_none c.args.found.now

pub returns-in-Some-clause-grown : goal.returns-in-Some-clause-grown
returns-in-Some-clause-grown c = grows_none c.args.found.now
