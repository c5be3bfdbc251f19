use Rattle.std.proofs.Common.{◌≡◌, ◌∙◌, true, sym, ap, subst}
use Rattle.js_lists.specs.Taken.{Taken, taken_as}
use Rattle.js_imports.proofs.StepLemmas.{step_over}
use Rattle.js_imports.specs.Classes.{class_as_written, class_of, token_class}
use Rattle.js_imports.specs.Scans.{Scan, is_passed_over, stepped}
use Rattle.js_imports.proofs.scan.Scanner.step.Goals as goal

pub returns-then-is_passed_over : goal.returns-then-is_passed_over
returns-then-is_passed_over c = λ regex.
    let inside = c.self.inside in
    let s : Scan = record {
      counts = inside.counts;
      phase = inside.phase;
      depth = inside.depth;
      end = inside.end;
      current = inside.current;
      opened = inside.opened;
      found = inside.found;
    } in
    let same : s ≡ c.args.self.now = c.self.view_is in
    let token = c.args.token.now in
    let x : Taken = taken_as token c.args.value regex in
    let written = c.as_written-class.result in
    let class : written ≡ token_class s.counts token =
    c.as_written-class.ensures
    ∙ ap (λ k. class_as_written c.escaped.result c.is_on_new_line.result s.counts k)
    (c.class_of.ensures ∙ ap class_of c.kind.ensures)
    ∙ ap (λ escaped. class_as_written escaped c.is_on_new_line.result s.counts (class_of token.kind)) c.escaped.ensures
    ∙ ap (λ first. class_as_written token.escaped first s.counts (class_of token.kind)) c.is_on_new_line.ensures in
    let over : is_passed_over s.phase written ≡ true =
    subst (λ (p : Scan). is_passed_over p.phase written ≡ true) (sym same)
    (sym c.is_passed_over.ensures ∙ c.if-is_passed_over.true) in
    ap (λ end. record s { end = end }) c.end-self-inside.ensures
    ∙ step_over written x s class over ∙ ap (stepped x) same
