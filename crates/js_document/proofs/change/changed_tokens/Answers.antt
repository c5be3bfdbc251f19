use Rattle.std.proofs.Common.{◌≡◌, ◌+◌, ◌-◌, ◌∙◌, arith, length, subst, sym}
use Rattle.std.proofs.lemmas.List.{length-take-le}
use Rattle.std.specs.List.{AllByRecursion}
use Rattle.js_relex.specs.LiveLists.{TokenMayMove}
use Rattle.js_document.specs.Gap.{count_tokens, rows_of}
use Rattle.js_document.proofs.ComparedTokens.{again_moves, compared, compared_old}
use Rattle.js_document.proofs.change.changed_tokens.Goals as goal

pub left_from_reading-reading-requires : goal.left_from_reading-reading-requires
left_from_reading-reading-requires g c = c.requires.few

pub old_tokens-requires : goal.old_tokens-requires
old_tokens-requires g c =
    let few = c.left_from_reading-reading.ensures.few in
    let all = c.requires.few in
    let long = length-take-le c.args.left c.args.entries.now.back all in
    omega (arith, few, all, long)

pub new_tokens-requires-clause-ordered : goal.new_tokens-requires-clause-ordered
new_tokens-requires-clause-ordered g c =
    let few = c.left_from_reading-reading.ensures.few in
    let long = length-take-le c.args.left c.args.entries.now.back c.requires.few in
    omega (arith, few, long)

pub new_tokens-requires-clause-moves : goal.new_tokens-requires-clause-moves
new_tokens-requires-clause-moves g c =
    let edit = c.args.edit.now in
    again_moves edit.start edit.end edit.text.now c.args.entries.now c.args.left c.args.pad c.requires c.args.read.now
    c.left_from_reading-reading.result c.left_from_reading-reading.ensures.few c.left_from_reading-reading.ensures.reading

pub changed_range-requires-clause-may_move : goal.changed_range-requires-clause-may_move
changed_range-requires-clause-may_move g c =
    let edit = c.args.edit.now in
    subst (AllByRecursion (TokenMayMove edit.end (edit.start + length edit.text.now)))
    (sym (c.as_slice.ensures ∙ c.in_ok-old.ensures))
    (compared_old edit.start edit.end edit.text.now c.args.entries.now c.args.left c.args.pad c.requires c.args.read.now
    c.left_from_reading-reading.result c.left_from_reading-reading.ensures.few c.left_from_reading-reading.ensures.reading)

pub returns : goal.returns
returns g c =
    let edit = c.args.edit.now in
    let gap = c.args.entries.now in
    let start = c.saturating_sub-start.result in
    let place : start ≡ count_tokens (rows_of gap.front) - 1 =
    (let one = c.saturating_sub-start.ensures in let count = c.front_tokens.ensures in omega (arith, one, count)) in
    compared edit.start edit.end edit.text.now gap c.args.left c.args.pad c.requires c.args.read.now
    c.left_from_reading-reading.result c.left_from_reading-reading.ensures.few c.left_from_reading-reading.ensures.reading
    start c.as_slice.result.now c.as_slice-2.result.now c.changed_range.result place
    (c.as_slice.ensures ∙ c.in_ok-old.ensures) (c.as_slice-2.ensures ∙ c.in_ok-new.ensures) c.changed_range.ensures
