use Rattle.std.proofs.Common.{◌∙◌, arith}
use Rattle.js_session.specs.WholeSource.{IsEof}
use Rattle.js_session.proofs.WholeLemmas.{reaches_start, reaches_step, reaches_few, reaches_fewer, reaches_end}
use Rattle.js_session.proofs.whole_source.step_to_end.Given as given
use Rattle.js_session.proofs.whole_source.step_to_end.Goals as goal

pub loop-session-init : goal.loop-session-init
loop-session-init g c =
    let s = c.args.session.now in
    reaches_start s.text s.source_type s.collects s c.requires.utf8 c.requires.begun

pub overflow_add-count : goal.overflow_add-count
overflow_add-count g c =
    let s = c.args.session.now in
    let few = reaches_few s.text s.source_type s.collects c.loop-session.count c.loop-session.session
    c.loop-session.invariant in omega (arith, few, c.requires.short)

-- where the loop goes on, the last row is not the end of the source
goes_on : (g : given.Over) (c : goal.In_ok-step g) → ¬ (IsEof c.loop-session.invariant.last)
goes_on g c =
    let r = c.loop-session.invariant in
    λ eof. let yes = (c.ends_with_eof.ensures r.before r.last (c.rows.ensures.rows ∙ r.last_is)).1 eof in
    let no = c.loop-session-test.true in absurd cc

pub loop-session-smaller : goal.loop-session-smaller
loop-session-smaller g c =
    let s = c.args.session.now in
    let r = c.loop-session.invariant in
    let fewer = reaches_fewer s.text s.source_type s.collects c.loop-session.count c.loop-session.session r
    (goes_on g c) in omega (arith, fewer)

pub loop-session-preserved : goal.loop-session-preserved
loop-session-preserved g c =
    let s = c.args.session.now in
    let r = c.loop-session.invariant in
    reaches_step s.text s.source_type s.collects c.loop-session.count c.loop-session.session
    c.step.new.self c.requires.utf8 r (goes_on g c) c.in_ok-step.ensures.ok

pub returns-clause-report : goal.returns-clause-report
returns-clause-report g c =
    let s = c.args.session.now in
    let r = c.loop-session.invariant in
    let eof : IsEof r.last =
    (c.ends_with_eof.ensures r.before r.last (c.rows.ensures.rows ∙ r.last_is)).0
    (let no = c.loop-session-test.false in cc) in
    reaches_end s.text s.source_type s.collects c.loop-session.count c.loop-session.session
    c.requires.utf8 c.requires.short r eof

pub returns-clause-few : goal.returns-clause-few
returns-clause-few g c =
    let s = c.args.session.now in
    reaches_few s.text s.source_type s.collects c.loop-session.count c.loop-session.session c.loop-session.invariant
