use Rattle.std.proofs.Common.{◌≡◌, true, false, sym, ◌∙◌, subst}
use Rattle.js_session.specs.RowReader.{ReadsIfFits}
use Rattle.js_lists.proofs.step.read_token_again.Goals as goal

pub returns : goal.returns
returns g c =
    (subst (λ x. ReadsIfFits c.args.goal c.args.lexer.now x c.read_again.new.lexer) c.in-Some.is
    c.in_ok-found.ensures.ok).1

pub unreachable-requires : goal.unreachable-requires
unreachable-requires g c =
    let unfit =
    subst (λ x. ReadsIfFits c.args.goal c.args.lexer.now x c.read_again.new.lexer) c.in-None.is
    c.in_ok-found.ensures.ok in
    absurd (let no : true ≡ false = sym c.requires.fits ∙ unfit.0 in cc)
