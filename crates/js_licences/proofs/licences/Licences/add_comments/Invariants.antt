use Rattle.std.proofs.Common.{◌≡◌, take}
use Rattle.js_licences.specs.Licences.{occurrences, with_occurrences}
use Rattle.js_licences.proofs.licences.Licences.add_comments.Given as goal

-- The comments so far were added.
abbrev pub invariant-loop-comment : goal.invariant-loop-comment
invariant-loop-comment l =
    l.self ≡ with_occurrences l.initial.self (occurrences l.name l.lines.text (take l.comment-index l.comments))
