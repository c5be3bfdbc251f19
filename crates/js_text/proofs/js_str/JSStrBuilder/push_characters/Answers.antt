use Rattle.std.proofs.Common.{◌∙◌, ◌++◌, ap, sym, map-id}
use Rattle.std.proofs.lemmas.Iterator.{YieldsList-from_chars}
use Rattle.std.proofs.lemmas.Iterator.Consumers.{YieldsList-end, YieldsList-so_far}
use Rattle.std.proofs.lemmas.Result.{err_from_is_err_and}
use Rattle.std.specs.Str.{chars}
use Rattle.js_text.specs.JsStr.{units_of, AddsPrefix}
use Rattle.js_text.proofs.JsStrLemmas.{adds_first}
use Rattle.js_text.proofs.js_str.JSStrBuilder.push_characters.Goals as goal

pub returns-in_err-push-clause-err : goal.returns-in_err-push-clause-err
returns-in_err-push-clause-err c =
    let characters = YieldsList-from_chars c.args.s.now c.utf8.s cc in
    let first = YieldsList-so_far characters c.loop-c.yielded _ c.loop-c.yielded_by in
    let so_far : AddsPrefix (units_of (chars c.args.s.now)) c.args.self.now c.push.new.self =
    adds_first (chars c.args.s.now) c.loop-c.yielded _ _ (sym (map-id c.loop-c.yielded) ∙ first)
    (c.in_err-push.ensures.err ∙ c.loop-c.invariant) in
    let fault = err_from_is_err_and c.from_residual.result c.from_residual.ensures.1 in
    rw fault.1 so_far

pub returns-clause-ok : goal.returns-clause-ok
returns-clause-ok c =
    let characters = YieldsList-from_chars c.args.s.now c.utf8.s cc in
    let done = YieldsList-end characters c.loop-c.yielded _ c.loop-c.yielded_by _ _ c.in-None.is c.next.ensures.steps in
    c.loop-c.invariant ∙ ap (λ cs. c.args.self.now ++ units_of cs) (sym (map-id c.loop-c.yielded) ∙ done.0)
