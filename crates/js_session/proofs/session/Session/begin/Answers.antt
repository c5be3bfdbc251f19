use Rattle.std.proofs.Common.{[], ◌∙◌, ap}
use Rattle.js_lexer.specs.Lexer.{LexerState}
use Rattle.js_session.specs.RowReader.{RowReaderState}
use Rattle.js_session.proofs.StepLemmas.{first_added}
use Rattle.js_session.proofs.session.Session.begin.Goals as goal

abbrev unread : LexerState → RowReaderState
unread lexer = record { lexer = lexer; rows = []; tokens = [] }

-- the first row was read by a new lexer
pub returns-in-Ok-add_row-clause-ok : goal.returns-in-Ok-add_row-clause-ok
returns-in-Ok-add_row-clause-ok g c =
    rw (c.new_in.ensures.items, c.new_in.ensures.free)
    (first_added c.args.text.now c.args.source_type (g.C.LexerConfig.collects c.args.config) c.in-Ok-new.reader
    c.add_row.new.self (c.in-Ok-new.ensures ∙ ap unread c.in-Ok.ensures.ok) c.in-Ok-add_row.ensures.ok)
