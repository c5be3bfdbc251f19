use Rattle.std.proofs.Common.{Bool, true, false, ◌≡◌, sym, ap, ◌∙◌, ◌==◌}
use Rattle.std.specs.Prelude.{MatchBool}
use Rattle.js_text.specs.Characters.{begins}
use Rattle.js_source.specs.Source.{At, rest, Reads}
use Rattle.js_grammar.specs.Number.{is_exponent_indicator}
use Rattle.js_spell.specs.Numeric.{TakesExponentIndicator}
use Rattle.js_spell.proofs.NumericSteps.{exponent_marks, no_mark}
use Rattle.js_spell.proofs.numeric.take_exponent_mark.Goals as goal

large : (b : Bool) (old mid new : At) → mid ≡ old → begins (λ c. c == 101) (rest old) ≡ false
    → MatchBool b (Reads mid new 69) ((begins (λ c. c == 69) (rest mid) ≡ false) × (new ≡ mid))
    → MatchBool b (TakesExponentIndicator old new) ((begins is_exponent_indicator (rest old) ≡ false) × (new ≡ old))
large true old mid new same none cases =
    record {
      mark = 69;
      is = exponent_marks.1;
      read =
          record { text = cases.text ∙ ap (λ a. a.text) same; here = ap rest (sym same) ∙ cases.here };
    }
large false old mid new same none cases =
    (no_mark (rest old) none (ap (λ a. begins (λ c. c == 69) (rest a)) (sym same) ∙ cases.0), cases.1 ∙ same)

pub returns-then-advance_if_ascii_eq-clause-cases : goal.returns-then-advance_if_ascii_eq-clause-cases
returns-then-advance_if_ascii_eq-clause-cases c =
    record { mark = 101; is = exponent_marks.0; read = c.if-advance_if_ascii_eq.ensures.cases }

pub returns-clause-cases : goal.returns-clause-cases
returns-clause-cases c =
    let none = c.if-advance_if_ascii_eq.ensures.cases in
    large c.advance_if_ascii_eq-2.result c.args.source.now c.advance_if_ascii_eq.new.self
    c.advance_if_ascii_eq-2.new.self none.1 none.0
    c.advance_if_ascii_eq-2.ensures.cases
