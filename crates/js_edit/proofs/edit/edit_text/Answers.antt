use Rattle.std.proofs.Common.{inl}
use Rattle.std.proofs.lemmas.Result.{IfOk-weaker}
use Rattle.js_edit.proofs.Edits.{refused_text}
use Rattle.js_edit.proofs.edit.edit_text.Goals as goal

pub returns-in-Ok : goal.returns-in-Ok
returns-in-Ok g c =
    IfOk-weaker c.document_text.result _ _ (λ text is. inl (c.in-Ok.document, c.in-Ok.ensures.ok, is))
    c.document_text.ensures

pub returns : goal.returns
returns g c =
    refused_text c.args.line.now c.args.old.now.source.now c.in-Err.fault c.fault_text.result c.fault_text.ensures.line
    c.fault_text.ensures.told c.in-Err.ensures.err
