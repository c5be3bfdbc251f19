use Rattle.std.proofs.Common.{◌≡◌, ◌∷◌, ◌++◌, ◌-◌, ◌+◌, [], ap, arith, length, map, take, ◌∙◌}
use Rattle.std.specs.Str.{chars}
use Rattle.js_lines.proofs.LineLemmas.{bytes_of_text}
use Rattle.js_lines.specs.Lines.{Lines, line_starts, starts_behind}
use Rattle.js_edited_lines.proofs.EditLemmas.{all_before, count_le}
use Rattle.js_edited_lines.proofs.edited.EditedLines.new.Goals as goal

pub overflow_cast-last : goal.overflow_cast-last
overflow_cast-last c =
    omega (
      arith,
      c.line_count-last.ensures,
      ap (λ (l : Lines). length (line_starts l.ends l.text)) c.in_ok-table.ensures,
      count_le c.args.ends 0 (chars c.args.text.now),
      bytes_of_text c.args.text.now c.utf8.text,
      c.requires,
    )

pub returns-clause-lines : goal.returns-clause-lines
returns-clause-lines c =
    let text = c.args.text.now in
    let last = c.line_count-last.result - 1 in
    let fresh = c.in_ok-starts.ensures in
    let before : c.add.new.self.before.items
    ≡ (0 ∷ []) ++ map (λ p. 0 + p) (take last (starts_behind c.args.ends 0 (chars text))) =
    c.add.ensures.before
    ∙ ap (λ us. us ++ map (λ p. 0 + p) (take last
    (starts_behind c.in_ok-table.table.ends 0 (chars c.in_ok-table.table.text)))) (c.in_ok-reserve.ensures.items ∙ fresh.0)
    ∙ ap (λ (l : Lines). (0 ∷ []) ++ map (λ p. 0 + p) (take last (starts_behind l.ends 0 (chars l.text))))
    c.in_ok-table.ensures in
    record {
      bytes_are = c.add.ensures.others.1 ∙ fresh.2;
      are = record {
        utf8 = c.utf8.text;
        short = c.requires;
        starts_are = all_before c.args.ends text c.add.new.self.before.items c.add.new.self.behind.items
            c.add.new.self.bytes last before
            (ap (λ n. n - 1) (c.line_count-last.ensures
            ∙ ap (λ (l : Lines). length (line_starts l.ends l.text)) c.in_ok-table.ensures))
            (ap (λ v. v.items) c.add.ensures.others.0 ∙ fresh.1);
      };
    }
