use Rattle.std.proofs.Common.{◌∙◌, ap, refl}
use Rattle.js_source.specs.Source.{rest}
use Rattle.js_grammar.proofs.NumberReadings.{number_flags}
use Rattle.js_reader.proofs.SpeltSteps.{lexeme_of_number}
use Rattle.js_reader.proofs.reader.Reader.read_number.Goals as goal

pub returns-clause-ok : goal.returns-clause-ok
returns-clause-ok c =
    rw c.lexeme_of.ensures
    (lexeme_of_number c.args.self.now
    (record c.args.self.now { source = c.read_number.new.source })
    c.requires refl c.in_ok-spelt.ensures.ok refl)

pub returns-clause-unescaped : goal.returns-clause-unescaped
returns-clause-unescaped c =
    ap (λ l. l.escaped) c.lexeme_of.ensures ∙ ap (λ t. t.escaped) c.in_ok-spelt.ensures.ok.flags
    ∙ (number_flags (rest c.args.self.now.source)).1
