use Rattle.std.proofs.Common.{ap}
use Rattle.std.proofs.lemmas.Result.{on_ok_weaker}
use Rattle.js_lists.specs.declared.pending.Pending.{Pending}
use Rattle.js_lists.proofs.HandedLemmas.{opens_mark}
use Rattle.js_lists.proofs.pending.Pending.open.Goals as goal

pub returns : goal.returns
returns g c =
    let p : Pending = c.args.self.now in
    on_ok_weaker c.push.result
    (λ pushed. opens_mark c.args.lexer.now p _ c.checkpoint.result c.len.result c.push.new.self
    c.checkpoint.ensures.state c.checkpoint.ensures.open c.len.ensures pushed
    (ap (λ ms. record p { marks = c.push.new.self }) pushed))
    c.push.ensures.ok
