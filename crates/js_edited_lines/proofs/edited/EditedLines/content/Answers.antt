use Rattle.std.proofs.Common.{◌≡◌, ◌+◌, ◌-◌, ◌++◌, List, ap, arith, drop, length, length-drop, length-take, slice_get}
use Rattle.std.proofs.Common.{sym, take, ℕ, ◌∙◌}
use Rattle.std.specs.Str.{chars}
use Rattle.js_text.specs.Characters.{from_place}
use Rattle.js_lines.specs.Lines.{last_line, line_content, lines_ended}
use Rattle.js_edited_lines.proofs.LineContent.{WholeLine, last_one, line_at, whole_line}
use Rattle.js_edited_lines.specs.Edited.{KeptLines}
use Rattle.js_edited_lines.proofs.edited.EditedLines.content.Goals as goal
use Rattle.js_edited_lines.proofs.edited.EditedLines.content.Goals.{In-Some}

line : (c : In-Some) → WholeLine c.args.self.now.ends c.args.text.now c.args.start c.in-Some.next
line c =
    whole_line c.args.self.now.ends c.args.text.now c.args.self.now.starts c.args.line c.args.start c.in-Some.next
    c.requires.lines.are c.requires.there
    (ap (λ (v : KeptLines). slice_get v.starts (c.args.line + 1)) (sym c.self.view_is) ∙ sym c.in-Some.ensures)

pub range-requires-clause-start_le_end : goal.range-requires-clause-start_le_end
range-requires-clause-start_le_end c = (line ((goal.at.range-requires-clause-start_le_end c).In-Some)).onward

pub range-requires-clause-start_boundary : goal.range-requires-clause-start_boundary
range-requires-clause-start_boundary c _ = (line ((goal.at.range-requires-clause-start_boundary c).In-Some)).from

pub range-requires-clause-end_boundary : goal.range-requires-clause-end_boundary
range-requires-clause-end_boundary c = (line ((goal.at.range-requires-clause-end_boundary c).In-Some)).to

pub range_from-requires : goal.range_from-requires
range_from-requires c _ =
    (line_at c.args.self.now.ends c.args.text.now c.args.self.now.starts c.args.line c.args.start
    c.requires.lines.are c.requires.there).boundary

pub returns-in-Some-clause-characters : goal.returns-in-Some-clause-characters
returns-in-Some-clause-characters c =
    let whole = line ((goal.at.returns-in-Some-clause-characters c).In-Some) in
    let ends = c.args.self.now.ends in
    let ys : List ℕ = from_place c.args.text.now c.in-Some.next in
    let here : chars c.range.result.now
    ≡ chars (take (c.in-Some.next - c.args.start) (drop c.args.start c.args.text.now)) =
    ap chars c.range.ensures.value in
    c.without_end.ensures.content ends ys (ap (λ cs. lines_ended ends cs ys) here ∙ whole.count)
    (ap (λ cs. last_line ends cs ys) here ∙ whole.last)
    ∙ ap (λ cs. line_content ends (cs ++ ys)) here ∙ ap (line_content ends) (sym whole.whole)

pub returns-in-Some-clause-within : goal.returns-in-Some-clause-within
returns-in-Some-clause-within c =
    let whole = line ((goal.at.returns-in-Some-clause-within c).In-Some) in
    omega (
      arith,
      c.without_end.ensures.within,
      ap length c.range.ensures.value,
      length-take (c.in-Some.next - c.args.start) (drop c.args.start c.args.text.now),
      length-drop c.args.start c.args.text.now,
      whole.onward,
      whole.to.0,
    )

pub returns-in-None-clause-characters : goal.returns-in-None-clause-characters
returns-in-None-clause-characters c =
    ap chars c.range_from.ensures.value
    ∙ sym (last_one c.args.self.now.ends c.args.text.now c.args.self.now.starts c.args.line c.args.start
    c.requires.lines.are c.requires.there
    (ap (λ (v : KeptLines). slice_get v.starts (c.args.line + 1)) (sym c.self.view_is) ∙ sym c.in-None.ensures))
