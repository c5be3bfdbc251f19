use Rattle.std.proofs.Common.{refl, subst, Some, None}
use Rattle.js_session.specs.RowReader.{ReadsIfFits}
use Rattle.js_lists.proofs.follow.read_again.Goals as goal

pub returns-in-Some : goal.returns-in-Some
returns-in-Some g c = record {
  found = Some c.in-Some.last;
  reads =
      subst (λ x. ReadsIfFits c.args.goal c.args.lexer.now x c.read_again.new.lexer) c.in-Some.is
      c.in_ok-found.ensures.ok;
  after = refl;
}

pub returns-in-None : goal.returns-in-None
returns-in-None g c = record {
  found = None;
  reads =
      subst (λ x. ReadsIfFits c.args.goal c.args.lexer.now x c.read_again.new.lexer) c.in-None.is
      c.in_ok-found.ensures.ok;
  after = refl;
}
