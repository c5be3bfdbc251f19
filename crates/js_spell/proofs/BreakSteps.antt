-- Readings that break off, step by step.
use Rattle.std.proofs.Common.{◌≡◌, ◌≤◌, List, [], ◌++◌, refl, sym, ◌∙◌, ap, arith, append_assoc, Result, Ok, Err}
use Rattle.std.specs.Prelude.{OnErr}
use Rattle.std.proofs.lemmas.List.{append-nil}
use Rattle.js_text.specs.declared.diagnostic.Diagnostic.{Diagnostic}
use Rattle.js_source.specs.Source.{At}
use Rattle.js_spell.specs.Breaks.{BreaksOff}

pub on_err : {T E : Type 0} (r : Result T E) (P : Type 0) → P → OnErr r P
on_err (Ok x) P p = tt
on_err (Err e) P p = p

-- nothing was reported
pub unreported : (told : List Diagnostic) (old new : At) (before after : List Diagnostic) → new.text ≡ old.text
    → old.place ≤ new.place → after ≡ before → BreaksOff told old new before after
unreported told old new before after text onward e = record {
  text = text;
  more = [];
  reports = e ∙ sym (append-nil before);
  onward = onward;
  rest_of = told;
  beginning = refl;
}

-- a step was read, and then the rest broke off
pub broken_behind : (told behind added : List Diagnostic) (old mid new : At) (before between after : List Diagnostic)
    → mid.text ≡ old.text → old.place ≤ mid.place → between ≡ before ++ added → told ≡ added ++ behind
    → BreaksOff behind mid new between after → BreaksOff told old new before after
broken_behind told behind added old mid new before between after text onward reported whole broken = record {
  text = broken.text ∙ text;
  more = added ++ broken.more;
  reports =
      broken.reports ∙ ap (λ ds. ds ++ broken.more) reported ∙ append_assoc before added broken.more;
  onward = omega (arith, onward, broken.onward);
  rest_of = broken.rest_of;
  beginning =
      append_assoc added broken.more broken.rest_of ∙ ap (λ ds. added ++ ds) broken.beginning ∙ sym whole;
}

-- a step was passed of which nothing is reported, and then the rest broke off
pub broken_later : (told : List Diagnostic) (old mid new : At) (before after : List Diagnostic)
    → mid.text ≡ old.text → old.place ≤ mid.place → BreaksOff told mid new before after
    → BreaksOff told old new before after
broken_later told old mid new before after text onward broken =
    broken_behind told told [] old mid new before before after text onward (sym (append-nil before)) refl broken

-- a step broke off, behind which this is reported
pub broken_before : (whole told later : List Diagnostic) (old new : At) (before after : List Diagnostic)
    → whole ≡ told ++ later → BreaksOff told old new before after → BreaksOff whole old new before after
broken_before whole told later old new before after e broken = record {
  text = broken.text;
  more = broken.more;
  reports = broken.reports;
  onward = broken.onward;
  rest_of = broken.rest_of ++ later;
  beginning =
      sym (append_assoc broken.more broken.rest_of later) ∙ ap (λ ds. ds ++ later) broken.beginning ∙ sym e;
}

-- a step broke off that has reported nothing
pub broken_first : (told : List Diagnostic) (old new : At) (before after : List Diagnostic)
    → BreaksOff [] old new before after → BreaksOff told old new before after
broken_first told old new before after broken = broken_before told [] told old new before after refl broken
