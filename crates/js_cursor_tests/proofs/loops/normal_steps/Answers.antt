use Rattle.std.proofs.Common.{◌≡◌, ◌<◌, ◌^◌, Bool, true, false, refl, sym, ◌∙◌, arith}
use Rattle.std.specs.Prelude.{not}
use Rattle.js_kind.specs.declared.kind.Kind.TheVariants.{RCurly}
use Rattle.js_cursor.specs.Lists.{ends_at, is_stuck}
use Rattle.js_cursor_tests.proofs.loops.normal_steps.Goals as goal

not_true : (a : Bool) → not a ≡ true → a ≡ false
not_true true e = absurd (cc)
not_true false e = refl

pub elements-smaller : goal.elements-smaller
elements-smaller c =
    let short : c.elements.cursor.token.start < 2 ^ 32 = omega arith in
    let is_open : ends_at RCurly c.elements.cursor ≡ false =
    not_true _ (sym c.normal_list_goes_on.ensures ∙ c.elements-test.true) in
    let leads : is_stuck c.elements.cursor c.bump.new.self ≡ false = cc in
    c.what_leads_on_leaves_less.ensures RCurly c.elements.cursor c.bump.new.self short is_open leads
