use Rattle.std.proofs.Common.{◌<◌, ◌≤◌, arith, inr, length, Err, Ok}
use Rattle.std.specs.Prelude.{◌^◌}
use Rattle.js_document.specs.Documents.{TextCause}
use Rattle.js_document.specs.declared.fault.DocumentFault.TheVariants.{Overlong}
use Rattle.js_document.proofs.Causes.{complete_of, exact_of, no_text_cause, one_text_cause}
use Rattle.js_document.proofs.document.Document.new.Goals as goal

pub returns-then-is_overlong-clause-cause : goal.returns-then-is_overlong-clause-cause
returns-then-is_overlong-clause-cause g c = inr (c.is_overlong.ensures.0 (let yes = c.if-is_overlong.true in cc))

pub returns-then-is_overlong-clause-exact : goal.returns-then-is_overlong-clause-exact
returns-then-is_overlong-clause-exact g c =
    let text = c.args.text.now in
    exact_of (TextCause text) (one_text_cause text) (length text < 2 ^ 32) (no_text_cause text) (Err Overlong)
    (inr (c.is_overlong.ensures.0 (let yes = c.if-is_overlong.true in cc))) tt

pub returns-then-is_overlong-clause-complete : goal.returns-then-is_overlong-clause-complete
returns-then-is_overlong-clause-complete g c =
    let text = c.args.text.now in
    complete_of (TextCause text) (one_text_cause text) (length text < 2 ^ 32) (no_text_cause text) (Err Overlong)
    (inr (c.is_overlong.ensures.0 (let yes = c.if-is_overlong.true in cc)))

pub of_text-requires : goal.of_text-requires
of_text-requires g c =
    let short : 2 ^ 32 ≤ length c.args.text.now → ⊥ =
    λ long. (let yes = c.is_overlong.ensures.1 long in let no = c.if-is_overlong.false in absurd (cc)) in
    omega (arith, short)

pub returns-in-Ok-clause-exact : goal.returns-in-Ok-clause-exact
returns-in-Ok-clause-exact g c =
    let text = c.args.text.now in
    let short : 2 ^ 32 ≤ length text → ⊥ =
    λ long. (let yes = c.is_overlong.ensures.1 long in let no = c.if-is_overlong.false in absurd (cc)) in
    exact_of (TextCause text) (one_text_cause text) (length text < 2 ^ 32) (no_text_cause text) (Ok c.in-Ok.document) tt
    (omega (arith, short))
