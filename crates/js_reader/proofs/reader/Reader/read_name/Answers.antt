use Rattle.std.proofs.Common.{◌∙◌, ap, refl}
use Rattle.js_reader.proofs.SpeltSteps.{lexeme_as, name_here, value_kept}
use Rattle.js_reader.proofs.reader.Reader.read_name.Goals as goal

pub returns-clause-ok : goal.returns-clause-ok
returns-clause-ok c =
    rw c.lexeme_of.ensures
    (lexeme_as c.args.self.now
    (record c.args.self.now { source = c.read_name.new.source })
    (name_here c.args.self.now c.requires) refl refl c.in_ok-kind.ensures.ok refl)

pub returns-clause-kept : goal.returns-clause-kept
returns-clause-kept c =
    let at = c.start-start.ensures ∙ ap (λ t. t.start) c.token_here-token.ensures in
    (value_kept c.args.self.now.source c.args.decoded.now c.keep_value.new.decoded c.start-start.result
    (name_here c.args.self.now c.requires).valued at c.in_ok-kind.ensures.ok
    c.in_ok-keep_value.ensures.ok).kept

pub returns-clause-value : goal.returns-clause-value
returns-clause-value c =
    let at = c.start-start.ensures ∙ ap (λ t. t.start) c.token_here-token.ensures in
    rw c.lexeme_of.ensures
    (value_kept c.args.self.now.source c.args.decoded.now c.keep_value.new.decoded c.start-start.result
    (name_here c.args.self.now c.requires).valued at c.in_ok-kind.ensures.ok
    c.in_ok-keep_value.ensures.ok).has_value
