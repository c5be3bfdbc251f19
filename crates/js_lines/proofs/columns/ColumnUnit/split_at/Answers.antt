use Rattle.std.proofs.Common.{◌≡◌, take, drop, ap, sym, ◌∙◌}
use Rattle.std.specs.Str.{chars, IsCharBoundary}
use Rattle.js_lines.proofs.ColumnLemmas.{front_behind}
use Rattle.js_lines.proofs.LineLemmas.{cut_in_two}
use Rattle.js_lines.specs.Columns.{behind_front, front_within}
use Rattle.js_lines.proofs.columns.ColumnUnit.split_at.Goals as goal
use Rattle.js_lines.proofs.columns.ColumnUnit.split_at.Goals.{After-bytes_within}

cut : (c : After-bytes_within)
    → IsCharBoundary c.args.text.now c.bytes_within.result
    × (chars (take c.bytes_within.result c.args.text.now) ≡ front_within c.args.self c.args.column (chars c.args.text.now))
    × (chars (drop c.bytes_within.result c.args.text.now) ≡ behind_front c.args.self c.args.column (chars c.args.text.now))
cut c =
    cut_in_two c.args.text.now (front_within c.args.self c.args.column (chars c.args.text.now))
    (behind_front c.args.self c.args.column (chars c.args.text.now)) c.bytes_within.result c.utf8.text c.requires
    (sym (front_behind c.args.self c.args.column (chars c.args.text.now))) c.bytes_within.ensures

pub split_at-requires : goal.split_at-requires
split_at-requires c = (cut ((goal.at.split_at-requires c).After-bytes_within)).0

pub returns-clause-front : goal.returns-clause-front
returns-clause-front c =
    ap chars c.split_at.ensures.front ∙ (cut ((goal.at.returns-clause-front c).After-bytes_within)).1

pub returns-clause-behind : goal.returns-clause-behind
returns-clause-behind c =
    ap chars c.split_at.ensures.back ∙ (cut ((goal.at.returns-clause-behind c).After-bytes_within)).2
