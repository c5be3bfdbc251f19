use Rattle.std.proofs.Common.{◌≡◌, ◌-◌, ap, arith, drop, take, subst, sym, ◌∙◌}
use Rattle.std.specs.Str.{chars, IsCharBoundary}
use Rattle.js_lines.proofs.LineLemmas.{column_le, moved_on, of_view, position_on}
use Rattle.js_lines.specs.Columns.{length_in}
use Rattle.js_lines.specs.Lines.{Lines, position_of}
use Rattle.js_lines.specs.declared.columns.Position.{Position}
use Rattle.js_lines.proofs.table.LineTable.position_from.Goals as goal
use Rattle.js_lines.proofs.table.LineTable.position_from.Goals.{After-length_of}

found : (c : After-length_of)
    → moved_on c.args.known c.length_of.result
    ≡ position_of c.args.self.now.ends c.args.unit c.args.self.now.text c.args.offset
found c =
    let ends = c.args.self.now.ends in
    let text = c.args.self.now.text in
    let unit = c.args.unit in
    let start = c.floor_char_boundary-start in
    let end = c.floor_char_boundary-end in
    let are = of_view _ _ _ _ c.self.view_is c.self.invariant in
    let same : c.self.inside.text.now ≡ text = ap (λ (v : Lines). v.text) c.self.view_is in
    let passed : c.length_of.result
    ≡ length_in unit (chars (take (end.result - start.result) (drop start.result text))) =
    c.length_of.ensures.value
    ∙ ap (λ bs. length_in unit (chars bs)) (c.range.ensures.value
    ∙ ap (λ t. take (end.result - start.result) (drop start.result t)) same) in
    ap (moved_on c.args.known) passed
    ∙ ap (λ p. moved_on p (length_in unit (chars (take (end.result - start.result) (drop start.result text)))))
    c.requires
    ∙ sym (position_on ends unit text c.args.from c.args.offset start.result end.result are.utf8 start.ensures.bound
    (subst (λ t. IsCharBoundary t start.result) same start.ensures.boundary)
    (λ i lt le here. start.ensures.nearest i lt le (subst (λ t. IsCharBoundary t i) (sym same) here)) end.ensures.bound
    (subst (λ t. IsCharBoundary t end.result) same end.ensures.boundary)
    (λ i lt le here. end.ensures.nearest i lt le (subst (λ t. IsCharBoundary t i) (sym same) here)) c.if-start-end.false
    (λ xs ys whole bytes. sym (c.line_at.ensures xs ys whole bytes) ∙ c.if-line_at-known.false
    ∙ ap (λ (p : Position). p.line) c.requires))

pub overflow_add-result : goal.overflow_add-result
overflow_add-result c =
    let are = of_view _ _ _ _ c.self.view_is c.self.invariant in
    omega (
      arith,
      ap (λ (p : Position). p.column) (found ((goal.at.overflow_add-result c).After-length_of)),
      column_le c.args.self.now.ends c.args.unit c.args.self.now.text c.args.offset are.utf8,
      are.short,
    )

pub returns : goal.returns
returns c = found ((goal.at.returns c).After-length_of)
