use Rattle.std.proofs.Common.{refl, sym, ◌∙◌}
use Rattle.js_reader.proofs.LineSteps.{no_close_in_module, no_close_in_line, close_only}
use Rattle.js_reader.proofs.TriviaSteps.{grows_none}
use Rattle.js_reader.proofs.reader.Reader.skip_html_close.Goals as goal

pub returns-then-is_module-clause-ok : goal.returns-then-is_module-clause-ok
returns-then-is_module-clause-ok c = (
  record { source = refl; stays = record { source_type = refl; line_has_ended = refl } },
  refl,
  no_close_in_module c.args.self.now c.requires (sym c.is_module.ensures ∙ c.if-is_module.true),
)

pub returns-then-is_module-clause-grown : goal.returns-then-is_module-clause-grown
returns-then-is_module-clause-grown c = grows_none c.args.found.now

pub returns-then-not-self-clause-ok : goal.returns-then-not-self-clause-ok
returns-then-not-self-clause-ok c = (
  record { source = refl; stays = record { source_type = refl; line_has_ended = refl } },
  refl,
  no_close_in_line c.args.self.now c.requires c.if-not-self.true,
)

pub returns-then-not-self-clause-grown : goal.returns-then-not-self-clause-grown
returns-then-not-self-clause-grown c = grows_none c.args.found.now

pub skip_html_comment-requires-clause-is : goal.skip_html_comment-requires-clause-is
skip_html_comment-requires-clause-is c =
    close_only c.args.self.now c.requires (sym c.is_module.ensures ∙ c.if-is_module.false) c.if-not-self.false
