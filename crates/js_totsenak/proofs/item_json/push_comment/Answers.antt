use Rattle.std.proofs.Common.{ap, codes}
use Rattle.std.proofs.lemmas.Result.{on_ok_weaker}
use Rattle.js_totsenak.proofs.TextLemmas.{named, two}
use Rattle.js_totsenak.specs.ItemJson.{comment_json}
use Rattle.js_totsenak.specs.Members.{word_member}
use Rattle.js_totsenak.proofs.item_json.push_comment.Goals as goal

pub returns-clause-text : goal.returns-clause-text
unfolding comment_json
returns-clause-text c =
    on_ok_weaker c.push_piece.result
    (λ h. two _ _ _ _ _
    (two _ _ _ _ _
    (two _ _ _ _ _
    (two _ _ _ _ _
    (two _ _ _ _ _
    (two _ _ _ _ _ c.in_ok-push_object_head.ensures
    (named _ _ _ _ c.in_ok-push_word.ensures (ap (word_member (codes "kind")) c.name.ensures)))
    c.in_ok-push_stretch.ensures.text)
    (named _ _ _ _ c.in_ok-push_word-2.ensures (ap (word_member (codes "content")) c.name-2.ensures)))
    (named _ _ _ _ c.in_ok-push_word-3.ensures (ap (word_member (codes "position")) c.name-3.ensures)))
    c.in_ok-push_sides.ensures) h) c.push_piece.ensures
