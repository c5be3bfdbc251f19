use Rattle.std.proofs.Common.{[], ◌∷◌}
use Rattle.js_grammar.specs.GapItems.{line_end}
use Rattle.js_reader.proofs.GapSteps.{line_feed_skipped}
use Rattle.js_reader.proofs.TriviaSteps.{grows_by}
use Rattle.js_reader.proofs.reader.Reader.skip_line_feed.Goals as goal

pub returns-clause-skips : goal.returns-clause-skips
returns-clause-skips c =
    line_feed_skipped c.args.self.now c.args.found.now c.next_ascii.new.self _
    c.next_ascii.ensures.reads.text c.next_ascii.ensures.reads.here c.handle_newline.ensures

pub returns-clause-grown : goal.returns-clause-grown
returns-clause-grown c = grows_by c.args.found.now _ (line_end ∷ []) c.handle_newline.ensures
