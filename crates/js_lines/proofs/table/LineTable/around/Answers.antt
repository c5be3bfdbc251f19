use Rattle.std.proofs.Common.{◌≡◌, ◌+◌, ap, arith, drop, suc, sym, ◌∙◌}
use Rattle.std.specs.Str.{chars}
use Rattle.js_text.specs.Characters.{from_place}
use Rattle.js_lines.proofs.ContentLemmas.{content_cut}
use Rattle.js_lines.specs.Columns.{front_within}
use Rattle.js_lines.specs.Lines.{Lines, line_content}
use Rattle.js_lines.specs.declared.columns.ColumnUnit.TheVariants.{Bytes}
use Rattle.js_lines.proofs.table.LineTable.around.Goals as goal

pub returns-clause-behind : goal.returns-clause-behind
returns-clause-behind c =
    let most = c.args.most in
    let ends = c.args.self.now.ends in
    let at = c.front_of_line-at.result.2 in
    let same_text : c.self.inside.text.now ≡ c.args.self.now.text = ap (λ (v : Lines). v.text) c.self.view_is in
    let same_ends : c.self.inside.ends ≡ ends = ap (λ (v : Lines). v.ends) c.self.view_is in
    let from : chars c.range_from.result.now ≡ from_place c.args.self.now.text at =
    ap chars (c.range_from.ensures.value ∙ ap (drop at) same_text) in
    let one_more : most + 1 ≡ suc most = omega arith in
    let rest : chars c.split_at-2.result.0.now ≡ front_within Bytes (suc most) (from_place c.args.self.now.text at) =
    c.split_at-2.ensures.front ∙ ap (front_within Bytes (most + 1)) from
    ∙ ap (λ n. front_within Bytes n (from_place c.args.self.now.text at)) one_more in
    c.split_at-3.ensures.front
    ∙ ap (front_within Bytes most) (c.content_of-content.ensures.characters
    ∙ ap (λ e. line_content e (chars c.split_at-2.result.0.now)) same_ends ∙ ap (line_content ends) rest)
    ∙ content_cut ends most (from_place c.args.self.now.text at)
    ∙ ap (λ cs. front_within Bytes most (line_content ends cs)) (sym c.front_of_line-at.ensures.behind)
