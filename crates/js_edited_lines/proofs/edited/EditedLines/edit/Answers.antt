use Rattle.std.proofs.Common.{◌≡◌, ◌≤◌, ◌+◌, ◌-◌, List, ap, arith, drop, length, subst, sym, take, ℕ, ◌∙◌}
use Rattle.std.specs.Str.{chars}
use Rattle.js_lines.specs.Lines.{back_at, front_at, Lines, lines_ended, starts_behind}
use Rattle.js_lines.specs.declared.line_ends.LineEnds.{LineEnds}
use Rattle.js_edited_lines.proofs.EditLemmas.{around, each_within, edit_fits, edited_starts, Edits, edits}
use Rattle.js_edited_lines.specs.Edited.{AreLinesOf, KeptLines}
use Rattle.js_edited_lines.specs.Starts.{all_starts}
use Rattle.js_edited_lines.proofs.edited.EditedLines.edit.Goals as goal
use Rattle.js_edited_lines.proofs.edited.EditedLines.edit.Goals.{After-floor_char_boundary-from, After-line_at-past}

abbrev lines_with : List ℕ → LineEnds → Lines
lines_with t ends = record { text = t; ends = ends }

-- the edit is within the text
fits : (c : After-floor_char_boundary-from) → c.args.start + c.args.inserted ≤ length c.args.text.now
fits c = (edit_fits c.args.self.now c.args.text.now c.args.start c.args.end c.args.inserted c.utf8.text c.requires).0

-- the lines as they were before the edit
kept : (c : After-line_at-past) → AreLinesOf (record {
  ends = c.self.inside.ends;
  bytes = c.self.inside.starts.bytes;
  starts = all_starts c.self.inside.starts;
}) c.requires.old
kept c = subst (λ (v : KeptLines). AreLinesOf v c.requires.old) (sym c.self.view_is) c.requires.lines_are

-- what the edit leaves of them
left : (c : After-line_at-past)
    → Edits c.self.inside.ends c.requires.old c.args.text.now (all_starts c.self.inside.starts)
    c.floor_char_boundary-from.result c.ceil_char_boundary-until.result c.line_at-first.result c.line_at-past.result
    c.locate-found.result.line
left c =
    let text = c.args.text.now in
    let from = c.floor_char_boundary-from in
    let until = c.ceil_char_boundary-until in
    let ends = c.self.inside.ends in
    let offset = c.args.start + c.args.inserted - from.result in
    let le : from.result ≤ c.args.start - 1 = omega (arith, from.ensures.bound, c.saturating_sub.ensures) in
    edits ends c.requires.old text (all_starts c.self.inside.starts) c.args.start c.args.end c.args.inserted from.result
    until.result c.line_at-first.result c.line_at-past.result c.locate-found.result.line (kept c).are c.utf8.text
    c.requires.replaces
    (around c.requires.old text c.args.start c.args.end c.args.inserted from.result until.result (kept c).are.utf8
    c.utf8.text c.requires.short c.requires.replaces le from.ensures.boundary until.ensures.boundary until.ensures.bound
    until.ensures.beyond) le c.line_at-first.ensures c.line_at-past.ensures
    (c.locate-found.ensures.line
    ∙ ap (λ (l : Lines). lines_ended l.ends (front_at l.text offset) (back_at l.text offset)) c.in_ok-part.ensures
    ∙ ap (λ (t : List ℕ). lines_ended ends (front_at t offset) (back_at t offset)) c.range.ensures.value)

pub overflow_add-to : goal.overflow_add-to
overflow_add-to c =
    omega (arith, fits ((goal.at.overflow_add-to c).After-floor_char_boundary-from), c.requires.short)

pub overflow_cast-to-2 : goal.overflow_cast-to-2
overflow_cast-to-2 c =
    omega (arith, fits ((goal.at.overflow_cast-to-2 c).After-floor_char_boundary-from), c.requires.short)

pub cut-requires-clause-ordered : goal.cut-requires-clause-ordered
cut-requires-clause-ordered c =
    let e = left ((goal.at.cut-requires-clause-ordered c).After-line_at-past) in
    (omega arith, omega (arith, e.ordered), e.within)

pub cut-requires-clause-within : goal.cut-requires-clause-within
cut-requires-clause-within c k lt =
    let lines = kept ((goal.at.cut-requires-clause-within c).After-line_at-past) in
    omega (
      arith,
      each_within c.self.inside.ends c.requires.old (all_starts c.self.inside.starts) lines.are k lt,
      lines.bytes_are,
    )

pub add-requires-clause-there : goal.add-requires-clause-there
add-requires-clause-there c =
    let e = left ((goal.at.add-requires-clause-there c).After-line_at-past) in
    omega (
      arith,
      e.there,
      ap (λ (l : Lines). length (starts_behind l.ends 0 (chars l.text))) c.in_ok-part.ensures,
      ap (λ (t : List ℕ). length (starts_behind c.self.inside.ends 0 (chars t))) c.range.ensures.value,
    )

pub returns-clause-ok : goal.returns-clause-ok
returns-clause-ok c =
    let before = (goal.at.returns-clause-ok c).After-line_at-past in
    let text = c.args.text.now in
    let from = c.floor_char_boundary-from.result in
    let until = c.ceil_char_boundary-until.result in
    let ends = c.self.inside.ends in
    let part : c.in_ok-part.part ≡ record { text = take (until - from) (drop from text); ends = ends } =
    c.in_ok-part.ensures ∙ ap (λ (t : List ℕ). lines_with t ends) c.range.ensures.value in
    record {
      bytes_are = c.add.ensures.others.1;
      are = record {
        utf8 = c.utf8.text;
        short = c.requires.short;
        starts_are = edited_starts ends c.requires.old text (all_starts c.self.inside.starts) from until
            c.line_at-first.result c.line_at-past.result c.locate-found.result.line (left before) c.in_ok-part.part part
            c.cut.new.self.before.items c.add.new.self.before.items c.cut.new.self.behind.items
            c.add.new.self.behind.items c.cut.new.self.bytes c.add.new.self.bytes c.in_ok-cut.ensures.before
            c.in_ok-cut.ensures.behind (c.in_ok-cut.ensures.bytes ∙ (kept before).bytes_are) c.add.ensures.before
            (ap (λ v. v.items) c.add.ensures.others.0) c.add.ensures.others.1;
      };
    }
