use Rattle.std.proofs.Common.{drop}
use Rattle.js_strip.proofs.StrippedText.{StrippedSoFar}
use Rattle.js_strip.proofs.without_comments.strip_text.Given as goal

-- What was written, with what is left of the text without the comments that are left, is the text without them all.
abbrev pub invariant-loop-comment : goal.invariant-loop-comment
invariant-loop-comment l = StrippedSoFar l.text l.comments (drop l.comment-index l.comments) l.place l.stripped
