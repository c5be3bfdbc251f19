use Rattle.std.proofs.Common.{[]}
use Rattle.js_grammar.specs.PieceItems.{listed_if}
use Rattle.js_reader.proofs.GapSteps.{white_skipped, some_skipped, character_on}
use Rattle.js_spell.proofs.SequenceSteps.{behind}
use Rattle.js_reader.proofs.TriviaSteps.{grows_by}
use Rattle.js_reader.proofs.reader.Reader.skip_white_space.Goals as goal

pub list_if-requires : goal.list_if-requires
list_if-requires c =
    let after = behind c.args.c c.args.self.now.source c.next_char.new.self c.requires.next c.next_char.ensures.past in
    rw (c.new-span.ensures, c.offset-start.ensures.place, c.offset.ensures.place)
    (character_on c.args.self.now.source c.next_char.new.self c.args.c after.0 after.1)

pub returns-in_err-list_if-clause-grown : goal.returns-in_err-list_if-clause-grown
returns-in_err-list_if-clause-grown c = grows_by c.args.found.now _ [] c.in_err-list_if.ensures.err

pub returns-clause-ok : goal.returns-clause-ok
returns-clause-ok c =
    let after = behind c.args.c c.args.self.now.source c.next_char.new.self c.requires.next c.next_char.ensures.past in
    some_skipped c.args.self.now c.args.found.now _ _
    (white_skipped c.args.self.now c.args.found.now c.next_char.new.self c.args.c after.0 after.1 _ c.requires.white
    (rw (c.is_irregular_whitespace.ensures, c.new-span.ensures, c.offset-start.ensures.place, c.offset.ensures.place)
    at c.in_ok-list_if.ensures.ok))

pub returns-clause-grown : goal.returns-clause-grown
returns-clause-grown c =
    grows_by c.args.found.now _ (listed_if c.is_irregular_whitespace.result c.new-span.result)
    c.in_ok-list_if.ensures.ok
