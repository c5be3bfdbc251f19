use Rattle.std.proofs.Common.{ap, ◌∙◌, [], ◌∷◌, ◌++◌}
use Rattle.js_text.specs.declared.diagnostic.Diagnostic.TheVariants.{UnterminatedString}
use Rattle.js_grammar.specs.StringItems.{stretch}
use Rattle.js_spell.proofs.DecodeSteps.{ended_escape_read, escape_moves_on}
use Rattle.js_spell.proofs.escape.read_escape.Goals as goal

pub returns-in-None-clause-ok : goal.returns-in-None-clause-ok
returns-in-None-clause-ok c =
    let none = c.in-None.ensures.none in
    ended_escape_read c.args.in_template c.args.token.now.start c.args.source.now c.next_char.new.self c.args.text.now
    c.args.errors.now c.report_unterminated.new.errors none.0 none.1 (c.in_ok-report_unterminated-in-None.ensures.ok
    ∙ ap (λ n. c.args.errors.now ++ (UnterminatedString (stretch n c.next_char.new.self.place) ∷ [])) c.start.ensures)

pub returns-in_err-push_code_point-in-CodePoint-clause-onward
    : goal.returns-in_err-push_code_point-in-CodePoint-clause-onward
returns-in_err-push_code_point-in-CodePoint-clause-onward c =
    escape_moves_on c.args.in_template c.in-Some.first c.args.source.now c.next_char.new.self
    c.read_escape_of.new.source c.read_escape_of.result c.in-Some.ensures.some c.read_escape_of.ensures

pub returns-in-Nothing-clause-onward : goal.returns-in-Nothing-clause-onward
returns-in-Nothing-clause-onward c =
    escape_moves_on c.args.in_template c.in-Some.first c.args.source.now c.next_char.new.self
    c.read_escape_of.new.source c.read_escape_of.result c.in-Some.ensures.some c.read_escape_of.ensures

pub returns-in-Bad-clause-onward : goal.returns-in-Bad-clause-onward
returns-in-Bad-clause-onward c =
    escape_moves_on c.args.in_template c.in-Some.first c.args.source.now c.next_char.new.self
    c.read_escape_of.new.source c.read_escape_of.result c.in-Some.ensures.some c.read_escape_of.ensures

pub returns-in_ok-push_code_point-in-CodePoint-clause-onward
    : goal.returns-in_ok-push_code_point-in-CodePoint-clause-onward
returns-in_ok-push_code_point-in-CodePoint-clause-onward c =
    escape_moves_on c.args.in_template c.in-Some.first c.args.source.now c.next_char.new.self
    c.read_escape_of.new.source c.read_escape_of.result c.in-Some.ensures.some c.read_escape_of.ensures
