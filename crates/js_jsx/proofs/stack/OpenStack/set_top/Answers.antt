use Rattle.std.proofs.Common.{◌≡◌, ◌∙◌, ap, arith, length, reverse, slice_set, suc}
use Rattle.js_text.proofs.ListLemmas.{with_last-set}
use Rattle.js_jsx.specs.Stack.{with_top}
use Rattle.js_jsx.proofs.StackLemmas.{reverse-with_last, top_of_none}
use Rattle.js_jsx.proofs.stack.OpenStack.set_top.Goals as goal
use Rattle.js_jsx.proofs.stack.OpenStack.set_top.Goals.{in-Some-checked_sub, in_default-checked_sub}

pub returns-after-checked_sub : goal.returns-after-checked_sub
returns-after-checked_sub c =
    let xs = c.in-Some.items.value.items in
    let item = c.args.item in
    let long = ap length (c.as_slice.ensures.value ∙ ap (λ v. v.items) c.deref.ensures) in
    let seen = ap reverse c.in-Some.ensures.items ∙ c.self.view_is in
    elim c.match-checked_sub.branch [
      | in-Some-checked_sub w ↦
          let last = w.in-Some-checked_sub.last in
          let at = w.in-Some-checked_sub.ensures in
          let written : c.put_boxed.new.self ≡ slice_set xs last item =
          c.put_boxed.ensures ∙ ap (λ b. b.value.items) w.items-is
          ∙ ap (λ v. slice_set v.items last item) w.deref_mut.ensures.value in
          let count : length xs ≡ suc last = omega (arith, long, at.0, at.1) in
          ap reverse (written ∙ with_last-set xs last item count)
          ∙ reverse-with_last xs item ∙ ap (λ l. with_top l item) seen
      | in_default-checked_sub w ↦
          let none : length xs ≡ 0 = omega (arith, long, w.in_default-checked_sub.ensures) in
          ap reverse (c.put_boxed.ensures ∙ ap (λ b. b.value.items) w.items-is)
          ∙ top_of_none xs item none ∙ ap (λ l. with_top l item) seen
    ]
