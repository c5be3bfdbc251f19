use Rattle.std.proofs.Common.{Bool, subst}
use Rattle.std.proofs.lemmas.Result.{IfOk-weaker}
use Rattle.js_text.specs.declared.comment.CommentKind.TheVariants.{Line}
use Rattle.js_reader.specs.Reader.{SkipsOpenedLine}
use Rattle.js_reader.proofs.GapSteps.{piece_from}
use Rattle.js_reader.proofs.LineSteps.{at_line_end, slashes, line_skipped}
use Rattle.js_reader.proofs.TriviaSteps.{grows_on}
use Rattle.js_reader.proofs.reader.Reader.skip_comment.Goals as goal

pub skip_end_of_line-requires : goal.skip_end_of_line-requires
skip_end_of_line-requires c =
    at_line_end Line c.args.self.now c.args.found.now c.skip_opened_line.new.self c.skip_opened_line.new.found
    (subst (λ (b : Bool). SkipsOpenedLine Line c.args.self.now c.args.found.now b c.skip_opened_line.new.self
    c.skip_opened_line.new.found) c.if-branch.true c.in_ok-skip_opened_line.ensures.ok)

pub returns-then-branch-clause-ok : goal.returns-then-branch-clause-ok
returns-then-branch-clause-ok c =
    let line =
    subst (λ (b : Bool). SkipsOpenedLine Line c.args.self.now c.args.found.now b c.skip_opened_line.new.self
    c.skip_opened_line.new.found) c.if-branch.true c.in_ok-skip_opened_line.ensures.ok in
    line_skipped c.args.self.now c.args.found.now c.skip_opened_line.new.self c.skip_opened_line.new.found
    c.skip_end_of_line.new.self c.skip_end_of_line.new.found
    (slashes c.args.self.now c.args.found.now c.skip_opened_line.new.self c.skip_opened_line.new.found
    line) c.skip_end_of_line.ensures.ends

pub returns-then-branch-clause-grown : goal.returns-then-branch-clause-grown
returns-then-branch-clause-grown c =
    grows_on c.args.found.now c.skip_opened_line.new.found c.skip_end_of_line.new.found c.skip_opened_line.ensures.grown
    c.skip_end_of_line.ensures.grown

pub returns-clause-ok : goal.returns-clause-ok
returns-clause-ok c =
    let none =
    subst (λ (b : Bool). SkipsOpenedLine Line c.args.self.now c.args.found.now b c.skip_opened_line.new.self
    c.skip_opened_line.new.found) c.if-branch.false c.in_ok-skip_opened_line.ensures.ok in
    IfOk-weaker c.skip_block_comment.result (λ skipped. _) (λ skipped. _)
    (λ skipped s. piece_from c.args.self.now c.skip_opened_line.new.self c.skip_block_comment.new.self c.args.found.now
    c.skip_opened_line.new.found c.skip_block_comment.new.found skipped none.0 none.1 s)
    c.skip_block_comment.ensures.ok
