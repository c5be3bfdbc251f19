use Rattle.std.proofs.Common.{◌≤◌, ◌-◌, ap, arith}
use Rattle.js_source.specs.Source.{rest}
use Rattle.js_lines.proofs.ColumnLemmas.{front_step}
use Rattle.js_lines.proofs.ContentLemmas.{place_behind}
use Rattle.js_lines.specs.Columns.{length_in, front_within, width_in}
use Rattle.js_lines.specs.declared.columns.ColumnUnit.TheVariants.{Bytes}
use Rattle.js_lines.proofs.columns.ColumnUnit.bytes_up_to.Goals as goal

pub loop-c-preserved : goal.loop-c-preserved
loop-c-preserved c =
    let unit = c.args.self in
    let new = c.pass_char.new.self in
    let fits : width_in unit c.in-Some.c ≤ c.loop-c.left =
    omega (arith, c.width_of-width.ensures, c.if-left-width.false) in
    let step = (front_step unit c.loop-c.left c.in-Some.c (rest new) fits).0 in
    omega (
      arith,
      c.loop-c.invariant,
      ap (λ cs. length_in Bytes (front_within unit c.loop-c.left cs)) c.pass_char.ensures.reads.here,
      ap (length_in Bytes) step,
      ap (λ n. length_in Bytes (front_within unit (c.loop-c.left - n) (rest new))) c.width_of-width.ensures,
      place_behind c.loop-c.source new c.in-Some.c c.pass_char.ensures.reads c.pass_char.ensures.at,
    )
