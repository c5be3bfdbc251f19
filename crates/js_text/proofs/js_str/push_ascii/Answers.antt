use Rattle.std.proofs.Common.{◌∙◌, ◌++◌, ◌≤◌, length, ap, sym}
use Rattle.std.proofs.lemmas.List.{take_all}
use Rattle.js_text.proofs.JsStrLemmas.{units-IsAscii}
use Rattle.js_text.proofs.js_str.push_ascii.Goals as goal

pub returns : goal.returns
returns c =
    let done = c.bytes.invariant in
    let all : length c.args.text.now ≤ c.bytes.b-index = c.bytes-test.false in
    done.added ∙ ap (λ us. c.args.units.now.items ++ us)
    (take_all _ c.args.text.now all ∙ sym (units-IsAscii c.args.text.now c.bytes.b-index all done.ascii))
