use Rattle.std.proofs.Common.{◌≡◌, true, sym, ◌∙◌, ap, subst, None}
use Rattle.std.proofs.lemmas.Result.{on_ok_weaker}
use Rattle.js_text.specs.declared.value.RowValue.{RowValue}
use Rattle.js_text.specs.declared.value.RowValue.TheVariants.{Slice}
use Rattle.js_kind.specs.Kinds.{is_identifier_name}
use Rattle.js_lists.specs.Taken.{Taken, plain_taken}
use Rattle.js_lists.proofs.PlainLemmas.{name_value}
use Rattle.js_lists.proofs.chosen.hand_over_plain.Goals as goal

pub returns-then-is_name-clause-ok : goal.returns-then-is_name-clause-ok
returns-then-is_name-clause-ok g c =
    let token = c.args.token.now in
    let is : is_identifier_name token.kind ≡ true =
    sym c.is_name.ensures ∙ c.if-is_name.true in
    let value : Slice c.span.result ≡ (plain_taken token).value =
    ap Slice c.span.ensures ∙ sym (name_value token.kind token.start token.end is) in
    on_ok_weaker c.take.result
    (subst (λ taken. g.T.TakeTokens.takes c.args.taker.now taken c.take.new.self)
    (ap {A = RowValue} {B = Taken} (λ v. record { token = token; value = v; regex = None }) value))
    c.take.ensures.ok
