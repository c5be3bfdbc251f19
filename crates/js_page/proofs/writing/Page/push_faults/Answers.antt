use Rattle.std.proofs.Common.{string_bytes}
use Rattle.js_page.proofs.FaultLemmas.{steps_more}
use Rattle.js_page.specs.Written.{here}
use Rattle.js_page.proofs.writing.Page.push_faults.Goals as goal

pub loop-fault-preserved : goal.loop-fault-preserved
loop-fault-preserved c =
    let more =
    steps_more c.args.to c.args.faults.now c.loop-fault.fault-index c.fault-item.result (here c.args.self.now)
    (here c.loop-fault.self) (here c.push_fault.new.self) (string_bytes c.args.self.now.text)
    (string_bytes c.loop-fault.self.text) (string_bytes c.push_fault.new.self.text) c.loop-fault-test.true
    c.fault-item.is c.loop-fault.invariant.0 c.loop-fault.invariant.1 c.in_ok-push_fault.ensures.text
    c.in_ok-push_fault.ensures.here in
    (more.0, more.1, c.in_ok-push_fault.ensures.short)
