use Rattle.std.proofs.Common.{sym, ◌∙◌, ap, [], ◌∷◌, ◌++◌}
use Rattle.js_grammar.specs.GapItems.{line_end}
use Rattle.js_grammar.specs.PieceItems.{listed_if}
use Rattle.js_trivia.specs.Trivia.{handle_newline}
use Rattle.js_reader.proofs.GapSteps.{line_end_skipped, some_skipped, character_on, and_true}
use Rattle.js_spell.proofs.SequenceSteps.{behind}
use Rattle.js_reader.proofs.TriviaSteps.{grows_by, calls-append}
use Rattle.js_reader.proofs.reader.Reader.skip_line_terminator.Goals as goal

pub list_if-requires : goal.list_if-requires
list_if-requires c =
    let after = behind c.args.c c.args.self.now.source c.next_char.new.self c.requires.next c.next_char.ensures.past in
    rw (c.new-span.ensures, c.offset-start.ensures.place, c.offset.ensures.place)
    (character_on c.args.self.now.source c.next_char.new.self c.args.c after.0 after.1)

pub returns-in_err-list_if-clause-grown : goal.returns-in_err-list_if-clause-grown
returns-in_err-list_if-clause-grown c = grows_by c.args.found.now _ [] c.in_err-list_if.ensures.err

pub returns-clause-ok : goal.returns-clause-ok
returns-clause-ok c =
    let after = behind c.args.c c.args.self.now.source c.next_char.new.self c.requires.next c.next_char.ensures.past in
    let listed =
    rw (
      c.is_separator.ensures ∙ sym (and_true _),
      c.new-span.ensures,
      c.offset-start.ensures.place,
      c.offset.ensures.place,
    ) at c.in_ok-list_if.ensures.ok in
    some_skipped c.args.self.now c.args.found.now _ _
    (line_end_skipped c.args.self.now c.args.found.now c.next_char.new.self c.args.c
    after.0 after.1 _ _ c.requires.dark c.requires.ends (c.handle_newline.ensures ∙ ap handle_newline listed))

pub returns-clause-grown : goal.returns-clause-grown
returns-clause-grown c =
    let listed = listed_if c.is_separator.result c.new-span.result in
    grows_by c.args.found.now _ (listed ++ line_end ∷ [])
    (c.handle_newline.ensures ∙ ap handle_newline c.in_ok-list_if.ensures.ok
    ∙ sym (calls-append listed (line_end ∷ []) c.args.found.now.trivia))
