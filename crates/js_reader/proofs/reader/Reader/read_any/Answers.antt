use Rattle.std.proofs.Common.{refl}
use Rattle.js_kind.specs.declared.kind.Kind.TheVariants.{Eof}
use Rattle.js_grammar.proofs.Flags.{end_unflagged}
use Rattle.js_reader.proofs.ReadingSteps.{lexeme_spelled}
use Rattle.js_reader.proofs.SpellingSteps.{end_spelled}
use Rattle.js_reader.proofs.reader.Reader.read_any.Goals as goal

pub returns-in-None-clause-ok : goal.returns-in-None-clause-ok
returns-in-None-clause-ok c =
    lexeme_spelled c.args.self.now _ Eof c.lexeme.result
    record { source_type = refl; line_has_ended = refl } end_unflagged
    (end_spelled c.args.self.now.source_type c.args.self.now.line_has_ended c.args.self.now.source
    c.in-None.ensures.none) c.lexeme.ensures c.args.errors.now
