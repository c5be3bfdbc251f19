use Rattle.std.proofs.Common.{Bool, subst, ap}
use Rattle.js_reader.specs.Reader.{SkipsOpenedLine}
use Rattle.js_reader.specs.declared.findings_builder.FindingsBuilder.{FindingsBuilder}
use Rattle.js_reader.proofs.LineSteps.{at_line_end, html_piece, line_skipped}
use Rattle.js_reader.proofs.TriviaSteps.{extends_none, grows_on, grows_reports}
use Rattle.js_reader.proofs.reader.Reader.skip_html_comment.Goals as goal

pub skip_end_of_line-requires : goal.skip_end_of_line-requires
skip_end_of_line-requires c =
    at_line_end c.args.kind c.args.self.now c.args.found.now c.skip_opened_line.new.self c.skip_opened_line.new.found
    (subst (λ (b : Bool). SkipsOpenedLine c.args.kind c.args.self.now c.args.found.now b c.skip_opened_line.new.self
    c.skip_opened_line.new.found) c.if-not-branch.false c.in_ok-skip_opened_line.ensures.ok)

pub returns-clause-ok : goal.returns-clause-ok
returns-clause-ok c =
    let line =
    subst (λ (b : Bool). SkipsOpenedLine c.args.kind c.args.self.now c.args.found.now b c.skip_opened_line.new.self
    c.skip_opened_line.new.found) c.if-not-branch.false c.in_ok-skip_opened_line.ensures.ok in
    let told : FindingsBuilder =
    record c.skip_opened_line.new.found { deferred = c.defer_html.new.deferred } in
    line_skipped c.args.self.now c.args.found.now c.skip_opened_line.new.self told c.skip_end_of_line.new.self
    c.skip_end_of_line.new.found
    (html_piece c.args.kind c.requires.kind c.args.self.now c.args.found.now c.skip_opened_line.new.self
    c.skip_opened_line.new.found told line c.requires.is
    (ap (λ ds. record c.skip_opened_line.new.found { deferred = ds })
    (rw (← line.stays.source_type, ← c.offset-start.ensures.place, ← c.opening_length.ensures, ← c.sized-span.ensures)
    c.in_ok-defer_html.ensures.ok))) c.skip_end_of_line.ensures.ends

pub returns-clause-grown : goal.returns-clause-grown
returns-clause-grown c =
    let told : FindingsBuilder =
    record c.skip_opened_line.new.found { deferred = c.defer_html.new.deferred } in
    grows_on c.args.found.now told c.skip_end_of_line.new.found
    (grows_on c.args.found.now c.skip_opened_line.new.found told c.skip_opened_line.ensures.grown
    (grows_reports c.skip_opened_line.new.found c.skip_opened_line.new.found.errors c.defer_html.new.deferred
    (extends_none c.skip_opened_line.new.found.errors) (record { more = _; is_more = c.in_ok-defer_html.ensures.ok })))
    c.skip_end_of_line.ensures.grown
