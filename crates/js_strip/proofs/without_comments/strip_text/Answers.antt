use Rattle.std.proofs.Common.{subst, sym}
use Rattle.js_strip.proofs.StrippedText.{StrippedSoFar, so_far_start}
use Rattle.js_strip.proofs.without_comments.strip_text.Goals as goal

pub loop-comment-init : goal.loop-comment-init
loop-comment-init c =
    subst (StrippedSoFar c.args.text.now c.args.comments.now c.args.comments.now 0) (sym c.new_in-stripped.ensures)
    (so_far_start c.args.text.now c.args.comments.now c.utf8.text c.requires)
