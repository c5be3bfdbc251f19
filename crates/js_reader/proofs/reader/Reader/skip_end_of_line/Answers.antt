use Rattle.std.proofs.Common.{[], ◌∷◌}
use Rattle.js_grammar.specs.GapItems.{line_end}
use Rattle.js_reader.proofs.GapSteps.{end_of_line, end_of_text}
use Rattle.js_reader.proofs.TriviaSteps.{grows_by, grows_none}
use Rattle.js_reader.proofs.reader.Reader.skip_end_of_line.Goals as goal

pub returns-in-Some-clause-ends : goal.returns-in-Some-clause-ends
returns-in-Some-clause-ends c =
    end_of_line c.args.self.now c.args.found.now c.next_char.new.self _ _
    c.in-Some.ensures.some c.requires c.handle_newline.ensures

pub returns-in-Some-clause-grown : goal.returns-in-Some-clause-grown
returns-in-Some-clause-grown c = grows_by c.args.found.now _ (line_end ∷ []) c.handle_newline.ensures

pub returns-in_default-clause-ends : goal.returns-in_default-clause-ends
returns-in_default-clause-ends c =
    end_of_text c.args.self.now c.args.found.now c.next_char.new.self c.in_default.ensures.none.1
    c.in_default.ensures.none.0

pub returns-in_default-clause-grown : goal.returns-in_default-clause-grown
returns-in_default-clause-grown c = grows_none c.args.found.now
