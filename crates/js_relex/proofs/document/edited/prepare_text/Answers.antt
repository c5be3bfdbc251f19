use Rattle.std.proofs.Common.{◌≡◌, ◌∙◌, ◌+◌, ◌<◌, ◌≤◌, ap, subst, sym, length, inl, inr, Some, None, map, ◌∷◌}
use Rattle.std.specs.Prelude.{◌^◌}
use Rattle.js_relex.specs.Documents.{DocState, joining}
use Rattle.js_relex.specs.Joined.{JoiningState}
use Rattle.js_relex.specs.Joining.{BreaksEdited, PreparedState, ReadsEdited}
use Rattle.js_relex.specs.Kept.{IsKept}
use Rattle.js_relex.proofs.Lasted.{has_lasted}
use Rattle.js_relex.proofs.Relexed.{document_of}
use Rattle.js_relex.proofs.Ticks.{broken_at_most, read_at_most}
use Rattle.js_relex.proofs.document.edited.prepare_text.Goals as goal

pub count_kept-kept-requires : goal.count_kept-kept-requires
count_kept-kept-requires g c =
    (has_lasted _ _ _ _ c.old.invariant).commands_are ∙ ap (λ cs. None ∷ map Some cs) (sym c.as_slice.ensures)

pub returns-in_err-read-clause-at_most : goal.returns-in_err-read-clause-at_most
returns-in_err-read-clause-at_most g c =
    let old = c.args.old.now in
    let edit = c.args.edit.now in
    let commands = c.args.commands.now in
    let kept = c.count_kept-kept.result in
    let now = c.read_edited.new.steps in
    let rows = ap (λ (d : DocState). d.report.rows) c.old.view_is in
    let j : c.joining_of-joining.result ≡ joining old edit.start edit.end edit.text.now commands =
    c.joining_of-joining.ensures in
    elim c.in_err-read.ensures.broken [
      | inl same ↦ inl same
      | inr broken ↦ inr
          (broken_at_most old edit.start edit.end edit.text.now c.as_str.result.now commands kept c.args.steps.now now
          (c.as_str.ensures ∙ c.requires.text)
          (subst (λ rs. IsKept edit.start rs commands kept) rows c.count_kept-kept.ensures.kept)
          (subst (λ rs. kept ≤ length rs) rows c.count_kept-kept.ensures.few)
          (subst (λ (x : JoiningState). now + kept ≤ c.args.steps.now + (length x.commands + 1)) j
          c.in_err-read.ensures.at_most)
          (subst (λ x. BreaksEdited c.as_str.result.now old.source_type x kept c.args.steps.now now) j broken))
    ]

pub returns-clause-at_most : goal.returns-clause-at_most
returns-clause-at_most g c =
    let old = c.args.old.now in
    let edit = c.args.edit.now in
    let commands = c.args.commands.now in
    let kept = c.count_kept-kept.result in
    let read = c.in_ok-read.read in
    let text = c.as_str.result.now in
    let is = c.as_str.ensures ∙ c.requires.text in
    let rows = ap (λ (d : DocState). d.report.rows) c.old.view_is in
    let j : c.joining_of-joining.result ≡ joining old edit.start edit.end edit.text.now commands =
    c.joining_of-joining.ensures in
    let p : PreparedState =
    record { text = text; commands = commands; kept = kept; rows = read.rows; joined = read.joined } in
    inr
    (read_at_most old edit.start edit.end edit.text.now p
    (document_of old _ _ _ _ _ _ c.old.invariant c.old.view_is)
    (record {
      edit = c.requires.edit;
      text_is = is;
      utf8 = c.as_str.utf8;
      short = subst (λ t. length t < 2 ^ 32) (sym c.as_str.ensures) c.requires.short;
      lasting = c.requires.lasting;
      kept_is = subst (λ rs. IsKept edit.start rs commands kept) rows c.count_kept-kept.ensures.kept;
      few_kept = subst (λ rs. kept ≤ length rs) rows c.count_kept-kept.ensures.few;
      reads = subst (λ x. ReadsEdited text old.source_type x kept read.rows read.joined) j c.in_ok-read.ensures.rows;
    })
    c.args.steps.now c.read_edited.new.steps c.in_ok-read.ensures.ticks)
