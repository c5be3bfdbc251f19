use Rattle.std.proofs.Common.{◌≡◌, ◌-◌, ap, arith, drop, get_or, subst, sym, take, ◌∙◌}
use Rattle.std.specs.Str.{chars, IsCharBoundary}
use Rattle.js_lines.proofs.LineLemmas.{Locates}
use Rattle.js_edited_lines.proofs.EditLemmas.{located}
use Rattle.js_edited_lines.specs.Edited.{KeptLines, lines_in}
use Rattle.js_edited_lines.specs.Starts.{IsLastUpTo}
use Rattle.js_edited_lines.proofs.edited.EditedLines.front_of_line.Goals as goal
use Rattle.js_edited_lines.proofs.edited.EditedLines.front_of_line.Goals.{After-line_at-line, After-start_of-start}

found : (c : After-line_at-line)
    → Locates (lines_in c.args.self.now c.args.text.now) c.args.self.now.starts c.args.offset
    c.floor_char_boundary-at.result c.line_at-line.result
found c =
    let at = c.floor_char_boundary-at in
    located c.args.self.now c.args.text.now c.args.offset at.result c.line_at-line.result c.requires at.ensures.bound
    at.ensures.boundary at.ensures.nearest
    (subst (λ (v : KeptLines). IsLastUpTo v.starts at.result c.line_at-line.result) c.self.view_is c.line_at-line.ensures)

start_is : (c : After-start_of-start)
    → c.start_of-start.result ≡ get_or c.args.self.now.starts c.line_at-line.result 0
start_is c =
    c.start_of-start.ensures ∙ ap (λ (v : KeptLines). get_or v.starts c.line_at-line.result 0) c.self.view_is

pub overflow_cast-result : goal.overflow_cast-result
overflow_cast-result c =
    let known = found ((goal.at.overflow_cast-result c).After-line_at-line) in
    omega (arith, known.short, c.floor_char_boundary-at.ensures.bound, c.ranges.offset.fits)

pub range-requires-clause-start_boundary : goal.range-requires-clause-start_boundary
range-requires-clause-start_boundary c _ =
    subst (IsCharBoundary c.args.text.now)
    (sym (start_is ((goal.at.range-requires-clause-start_boundary c).After-start_of-start)))
    (found ((goal.at.range-requires-clause-start_boundary c).After-line_at-line)).boundary

pub returns-clause-line : goal.returns-clause-line
returns-clause-line c = (found ((goal.at.returns-clause-line c).After-line_at-line)).line_is

pub returns-clause-before : goal.returns-clause-before
returns-clause-before c =
    let at = c.floor_char_boundary-at.result in
    ap chars (c.range.ensures.value ∙ ap (λ n. take (at - n) (drop n c.args.text.now))
    (start_is ((goal.at.returns-clause-before c).After-start_of-start)))
    ∙ (found ((goal.at.returns-clause-before c).After-line_at-line)).before
