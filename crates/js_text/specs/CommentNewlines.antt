-- On which sides of a comment lines end.
use Rattle.std.specs.Prelude.{ℕ, ◌+◌, Bool, if◌then◌else◌}
use Rattle.js_text.specs.declared.comment_newlines.CommentNewlines.{CommentNewlines}

-- the bits of a set
abbrev pub newline_bits : CommentNewlines → ℕ
newline_bits newlines = newlines.0

-- the set: bit 0 where a line has ended before the comment, bit 1 where a line ends after it
abbrev pub newlines_of : Bool → Bool → CommentNewlines
newlines_of preceded followed = record { 0 = (if preceded then 1 else 0) + (if followed then 2 else 0) }
