use Rattle.std.proofs.Common.{◌≡◌, ℕ, ◌-◌, get_or, take, drop, ap, arith, sym, subst, ◌∙◌}
use Rattle.std.specs.Str.{chars, IsCharBoundary}
use Rattle.std.proofs.lemmas.List.{get_or_read}
use Rattle.js_lines.proofs.LineLemmas.{Locates, locates, of_view}
use Rattle.js_lines.specs.Lines.{Lines}
use Rattle.js_lines.proofs.table.LineTable.front_of_line.Goals as goal
use Rattle.js_lines.proofs.table.LineTable.front_of_line.Goals.{After-line_at-line}

same_text : (c : After-line_at-line) → c.self.inside.text.now ≡ c.args.self.now.text
same_text c = ap (λ (v : Lines). v.text) c.self.view_is

found : (c : After-line_at-line)
    → Locates c.args.self.now c.self.inside.starts.items c.args.offset c.floor_char_boundary-at.result
    c.line_at-line.result
found c =
    locates c.args.self.now c.self.inside.starts.items c.self.inside.text.now c.args.offset
    c.floor_char_boundary-at.result c.line_at-line.result (of_view _ _ _ _ c.self.view_is c.self.invariant) (same_text c)
    c.floor_char_boundary-at.ensures.bound c.floor_char_boundary-at.ensures.boundary
    c.floor_char_boundary-at.ensures.nearest c.line_at-line.ensures

start_is : (c : After-line_at-line) (x : ℕ)
    → x ≡ get_or c.self.inside.starts.items c.line_at-line.result x
    → x ≡ get_or c.self.inside.starts.items c.line_at-line.result 0
start_is c x e = get_or_read c.self.inside.starts.items c.line_at-line.result x (found c).within e 0

pub index-requires : goal.index-requires
index-requires c = omega (arith, (found ((goal.at.index-requires c).After-line_at-line)).within)

pub overflow_cast-result : goal.overflow_cast-result
overflow_cast-result c =
    let known = found ((goal.at.overflow_cast-result c).After-line_at-line) in
    omega (arith, known.short, c.floor_char_boundary-at.ensures.bound, c.ranges.offset.fits)

pub range-requires-clause-start_le_end : goal.range-requires-clause-start_le_end
range-requires-clause-start_le_end c =
    let before = (goal.at.range-requires-clause-start_le_end c).After-line_at-line in
    omega (arith, (found before).onward, start_is before c.index.result.now c.index.ensures)

pub range-requires-clause-start_boundary : goal.range-requires-clause-start_boundary
range-requires-clause-start_boundary c _ =
    let before = (goal.at.range-requires-clause-start_boundary c).After-line_at-line in
    subst (λ t. IsCharBoundary t c.index.result.now) (sym (same_text before))
    (subst (IsCharBoundary c.args.self.now.text) (sym (start_is before c.index.result.now c.index.ensures))
    (found before).boundary)

pub returns-clause-line : goal.returns-clause-line
returns-clause-line c = (found ((goal.at.returns-clause-line c).After-line_at-line)).line_is

pub returns-clause-before : goal.returns-clause-before
returns-clause-before c =
    let before = (goal.at.returns-clause-before c).After-line_at-line in
    let at = c.floor_char_boundary-at.result in
    ap chars (c.range.ensures.value ∙ ap (λ t. take (at - c.index.result.now) (drop c.index.result.now t))
    (same_text before)
    ∙ ap (λ n. take (at - n) (drop n c.args.self.now.text)) (start_is before c.index.result.now c.index.ensures))
    ∙ (found before).before

pub returns-clause-behind : goal.returns-clause-behind
returns-clause-behind c = (found ((goal.at.returns-clause-behind c).After-line_at-line)).back_is
