use Rattle.std.proofs.Common.{◌≡◌, ◌+◌, ◌≤◌, ◌++◌, map, take, vec_capacity, vec_len}
use Rattle.std.specs.Str.{chars}
use Rattle.js_lines.specs.Lines.{starts_behind}
use Rattle.js_edited_lines.proofs.starts.Starts.add.Given as goal

-- The starts of the lines so far were added.
abbrev pub invariant-loop-line : goal.invariant-loop-line
invariant-loop-line l = record {
  before : l.self.before.items ≡ l.fn.self.before.items
      ++ map (λ start. l.place + start) (take l.line (starts_behind l.part.ends 0 (chars l.part.text)));
  room : vec_len l.self.before + l.last ≤ vec_capacity l.self.before + l.line;
  behind : l.self.behind ≡ l.fn.self.behind;
  bytes : l.self.bytes ≡ l.fn.self.bytes;
}
