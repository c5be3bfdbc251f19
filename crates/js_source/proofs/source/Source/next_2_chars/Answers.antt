use Rattle.std.proofs.Common.{arith, ap, length, ◌∙◌}
use Rattle.js_source.specs.Source.{At}
use Rattle.js_source.proofs.Places.{same_at}
use Rattle.js_source.proofs.source.Source.next_2_chars.Goals as goal

pub returns-in-None-clause-none : goal.returns-in-None-clause-none
returns-in-None-clause-none c =
    let read = c.in_ok-first.ensures.some in
    let none = c.in-None.ensures.none in (
      omega (arith, ap length read.here, ap length none.0),
      same_at _ _ (ap (λ (a : At). a.text) (c.self-2.view_is ∙ none.1) ∙ read.text)
          (ap (λ (a : At). a.place) c.self.view_is),
    )
