use Rattle.std.proofs.Common.{false, subst}
use Rattle.std.proofs.lemmas.Result.{IfOk-weaker, on_err_weaker}
use Rattle.js_reader.specs.Reader.{MovesOn, ReadsTokenHere}
use Rattle.js_reader.specs.declared.reader.Reader.{Reader}
use Rattle.js_reader.proofs.WholeSteps.{pieces_move_on}
use Rattle.js_reader.proofs.SimpleReadings.{token_moves_on}
use Rattle.js_reader.proofs.ReadingSteps.{token_behind}
use Rattle.js_reader.proofs.TriviaSteps.{either_way, extends_none, grows_on, grows_reports}
use Rattle.js_reader.proofs.reader.Reader.read_behind_gap.Goals as goal

pub returns-in-Some-clause-ok : goal.returns-in-Some-clause-ok
returns-in-Some-clause-ok c = λ previous first.
    token_behind previous c.args.self.now c.args.found.now c.skip_whole_gap.new.self c.skip_whole_gap.new.found
    c.read_simple.new.self c.skip_whole_gap.new.found.errors c.in-Some.token
    first c.in_ok-skip_whole_gap.ensures.ok (c.in-Some.ensures.some c.skip_whole_gap.new.found.errors)

pub returns-in-None-clause-ok : goal.returns-in-None-clause-ok
returns-in-None-clause-ok c =
    IfOk-weaker c.read_here.result _ _
    (λ token read previous first. token_behind previous c.args.self.now c.args.found.now c.skip_whole_gap.new.self
    c.skip_whole_gap.new.found c.read_here.new.self c.read_here.new.errors token
    first c.in_ok-skip_whole_gap.ensures.ok (subst
    (λ (r : Reader).
    ReadsTokenHere r c.skip_whole_gap.new.found.errors token c.read_here.new.self c.read_here.new.errors)
    c.in-None.ensures.none read))
    c.read_here.ensures.ok

pub returns-in-None-clause-err : goal.returns-in-None-clause-err
returns-in-None-clause-err c =
    on_err_weaker c.read_here.result
    (λ part. pieces_move_on false c.args.self.now c.skip_whole_gap.new.self c.read_here.new.self c.args.found.now
    c.skip_whole_gap.new.found c.in_ok-skip_whole_gap.ensures.ok.skips
    (subst (λ (r : Reader). MovesOn r c.read_here.new.self) c.in-None.ensures.none part.moves)) c.read_here.ensures.err

pub returns-in-None-clause-grown : goal.returns-in-None-clause-grown
returns-in-None-clause-grown c =
    let found = c.skip_whole_gap.new.found in
    let reports =
    either_way c.read_here.result
    (IfOk-weaker c.read_here.result _ _ (λ token read. (token_moves_on _ _ read).errors) c.read_here.ensures.ok)
    (on_err_weaker c.read_here.result (λ part. part.errors) c.read_here.ensures.err) in
    grows_on c.args.found.now found _ c.skip_whole_gap.ensures.grown
    (grows_reports found c.read_here.new.errors found.deferred reports (extends_none found.deferred))
