use Rattle.std.proofs.Common.{inr, Err, Ok}
use Rattle.js_relex.proofs.Causes.{complete_of, exact_of}
use Rattle.js_relex.proofs.document.LexDoc.new.Goals as goal

pub returns-in-Err-clause-exact : goal.returns-in-Err-clause-exact
returns-in-Err-clause-exact g c =
    exact_of (Err c.in-Err.fault) c.args.text.now c.args.commands.now (inr c.in-Err.ensures.cause) tt

pub returns-in-Err-clause-complete : goal.returns-in-Err-clause-complete
returns-in-Err-clause-complete g c =
    complete_of (Err c.in-Err.fault) c.args.text.now c.args.commands.now (inr c.in-Err.ensures.cause)

pub returns-in-Ok-document_of_text-clause-exact : goal.returns-in-Ok-document_of_text-clause-exact
returns-in-Ok-document_of_text-clause-exact g c =
    exact_of (Ok c.in-Ok-document_of_text.document) c.args.text.now c.args.commands.now tt
    (c.in-Ok.ensures.short, c.in-Ok.ensures.lasting)
