use Rattle.std.proofs.Common.{◌≡◌, [], ◌∷◌, drop, sym, ◌∙◌, subst}
use Rattle.js_lex_c.specs.Records.{comment_record}
use Rattle.js_lex_c.specs.Filled.{PutsOn}
use Rattle.js_lex_c.proofs.DocumentFill.{drop_next, filled_full, filled_next, filled_out, within_next}
use Rattle.js_lex_c.proofs.document_fill.fill_comments.Goals as goal

pub loop-place-preserved : goal.loop-place-preserved
loop-place-preserved g c =
    let place = c.loop-place.place in
    let all = c.args.comments.now in
    let left = c.next.new.self in
    let kept = c.loop-place.invariant in
    let next : drop place all ≡ c.in-Some.comment ∷ left = sym kept.0 ∙ c.in-Some.ensures.steps in (
      drop_next place all c.in-Some.comment left next,
      filled_next comment_record c.args.room.now c.loop-place.room c.put.new.room all place c.in-Some.comment left kept.2
          next kept.1
          (subst (λ put. PutsOn place (put ∷ []) c.loop-place.room c.put.new.room) c.comment_record.ensures c.put.ensures),
      within_next place all c.in-Some.comment left next,
    )

pub returns : goal.returns
returns g c =
    let kept = c.loop-place.invariant in
    filled_full comment_record c.args.room.now c.loop-place.room c.args.comments.now c.loop-place.place kept.2
    c.loop-place-test.false kept.1

pub returns-in_default : goal.returns-in_default
returns-in_default g c =
    let kept = c.loop-place.invariant in
    filled_out comment_record c.args.room.now c.loop-place.room c.args.comments.now c.loop-place.place
    (sym kept.0 ∙ c.in_default.ensures.steps.0) kept.1
