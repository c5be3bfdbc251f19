use Rattle.std.proofs.Common.{Bool, refl, rules, subst, ◌∙◌, ap, sym, [], ◌∷◌, ◌++◌}
use Rattle.std.proofs.lemmas.Result.{err_from_is_err_and}
use Rattle.js_text.specs.declared.comment.CommentKind.TheVariants.{HtmlOpen}
use Rattle.js_text.specs.declared.diagnostic.Diagnostic.TheVariants.{HtmlCommentInModule}
use Rattle.js_reader.specs.Found.{Extends}
use Rattle.js_reader.specs.Reader.{SkipsOpenedLine}
use Rattle.js_reader.specs.declared.findings_builder.FindingsBuilder.{FindingsBuilder}
use Rattle.js_reader.proofs.LineSteps.{at_line_end}
use Rattle.js_reader.proofs.TriviaSteps.{extends_none, extends_same, grows_none, grows_on, grows_reports}
use Rattle.js_reader.proofs.WholeSteps.{reported_skips, stays}
use Rattle.js_reader.proofs.reader.Reader.skip_reported.Goals as goal

pub returns-then-not-is_module-clause-grown : goal.returns-then-not-is_module-clause-grown
returns-then-not-is_module-clause-grown c = grows_none c.args.found.now

pub returns-then-not-self-clause-grown : goal.returns-then-not-self-clause-grown
returns-then-not-self-clause-grown c = grows_none c.args.found.now

pub returns-in_err-push-clause-err : goal.returns-in_err-push-clause-err
returns-in_err-push-clause-err c =
    let p = err_from_is_err_and c.from_residual-in_err-push.result c.from_residual-in_err-push.ensures.1 in
    let line =
    subst (λ (b : Bool). SkipsOpenedLine HtmlOpen c.args.self.now c.args.found.now b c.skip_opened_line.new.self
    c.skip_opened_line.new.found) c.if-not-branch.false c.in_ok-skip_opened_line.ensures.ok in
    rw p.1
    (stays c.args.self.now _ line.text line.stays.source_type)

pub skip_end_of_line-requires : goal.skip_end_of_line-requires
skip_end_of_line-requires c =
    at_line_end HtmlOpen c.args.self.now c.args.found.now c.skip_opened_line.new.self c.skip_opened_line.new.found
    (subst (λ (b : Bool). SkipsOpenedLine HtmlOpen c.args.self.now c.args.found.now b c.skip_opened_line.new.self
    c.skip_opened_line.new.found) c.if-not-branch.false c.in_ok-skip_opened_line.ensures.ok)

pub returns-in_err-skip_gap-clause-grown : goal.returns-in_err-skip_gap-clause-grown
returns-in_err-skip_gap-clause-grown c =
    let line = c.skip_opened_line.new.found in
    let noted : FindingsBuilder = record line { errors = c.push.new.self } in
    let reports : Extends line.errors noted.errors = record { more = _; is_more = c.in_ok-push.ensures.ok } in
    grows_on c.args.found.now noted c.skip_gap.new.found
    (grows_on c.args.found.now line noted c.skip_opened_line.ensures.grown
    (grows_reports line noted.errors line.deferred reports (extends_none line.deferred)))
    (grows_on noted c.skip_end_of_line.new.found c.skip_gap.new.found c.skip_end_of_line.ensures.grown
    c.skip_gap.ensures.grown)

pub returns-clause-ok : goal.returns-clause-ok
returns-clause-ok c =
    let line =
    subst (λ (b : Bool). SkipsOpenedLine HtmlOpen c.args.self.now c.args.found.now b c.skip_opened_line.new.self
    c.skip_opened_line.new.found) c.if-not-branch.false c.in_ok-skip_opened_line.ensures.ok in
    reported_skips c.args.self.now c.args.found.now c.skip_opened_line.new.self _ c.skip_opened_line.new.found
    (record c.skip_opened_line.new.found { errors = c.push.new.self }) c.skip_gap.new.self c.skip_gap.new.found
    (sym c.is_module.ensures ∙ c.if-not-is_module.false) c.if-not-self.false line refl refl refl
    (ap (λ ds. record c.skip_opened_line.new.found { errors = ds })
    (c.in_ok-push.ensures.ok
    ∙ ap (λ span. c.skip_opened_line.new.found.errors ++ HtmlCommentInModule span ∷ [])
    (c.sized-span.ensures ∙ rw (c.offset-start.ensures.place, c.opening_length.ensures) refl)))
    (c.skip_end_of_line.ensures.ends.leads c.skip_gap.new.self c.skip_gap.new.found c.in_ok-skip_gap.ensures.ok)

pub returns-clause-grown : goal.returns-clause-grown
returns-clause-grown c =
    let line = c.skip_opened_line.new.found in
    let noted : FindingsBuilder = record line { errors = c.push.new.self } in
    let reports : Extends line.errors noted.errors = record { more = _; is_more = c.in_ok-push.ensures.ok } in
    grows_on c.args.found.now noted c.skip_gap.new.found
    (grows_on c.args.found.now line noted c.skip_opened_line.ensures.grown
    (grows_reports line noted.errors line.deferred reports (extends_none line.deferred)))
    (grows_on noted c.skip_end_of_line.new.found c.skip_gap.new.found c.skip_end_of_line.ensures.grown
    c.skip_gap.ensures.grown)

pub returns-in_err-push-clause-grown : goal.returns-in_err-push-clause-grown
returns-in_err-push-clause-grown c =
    let line = c.skip_opened_line.new.found in
    let noted : FindingsBuilder = record line { errors = c.push.new.self } in
    grows_on c.args.found.now line noted c.skip_opened_line.ensures.grown
    (grows_reports line noted.errors line.deferred (extends_same line.errors noted.errors (search rules))
    (extends_none line.deferred))
