use Rattle.std.proofs.Common.{◌∙◌, ap, arith, drop, map, subst, sym, take}
use Rattle.std.proofs.lemmas.List.{take_all}
use Rattle.std.specs.List.{AllByRecursion}
use Rattle.std.specs.Prelude.{reverse}
use Rattle.js_session.specs.Shifted.{shifted_row}
use Rattle.js_document.specs.Changed.{EntryMayMove, last_token_of}
use Rattle.js_document.specs.Gap.{IsPadded, rows_of}
use Rattle.js_document.specs.Reading.{with_rows}
use Rattle.js_document.proofs.EntryLoops.{padded_move}
use Rattle.js_document.proofs.ListLemmas.{all_dropped, all_taken}
use Rattle.js_document.proofs.change.old_tokens.Goals as goal

pub add_rows-requires-clause-moves : goal.add_rows-requires-clause-moves
add_rows-requires-clause-moves g c =
    let gap = c.args.entries.now in
    let high = c.back_len.result in
    subst (λ n. AllByRecursion (EntryMayMove n 0) (drop c.args.left (take high gap.back))) (sym c.pad.ensures.pad)
    (padded_move gap.pad (drop c.args.left (take high gap.back))
    (all_dropped (IsPadded gap.pad) c.args.left (take high gap.back)
    (all_taken (IsPadded gap.pad) high gap.back c.pad.ensures.padded)))

pub returns : goal.returns
returns g c =
    let gap = c.args.entries.now in
    let high = c.back_len.result in
    let all = c.back_len.ensures in
    c.in_ok-add_rows.ensures
    ∙ ap (λ ts. with_rows ts (map (shifted_row c.pad.result 0) (reverse (rows_of (drop c.args.left (take high gap.back))))))
    c.in_ok-tokens.ensures
    ∙ ap
    (λ n. with_rows (last_token_of gap.front)
    (map (shifted_row n 0) (reverse (rows_of (drop c.args.left (take high gap.back)))))) c.pad.ensures.pad
    ∙ ap
    (λ es. with_rows (last_token_of gap.front) (map (shifted_row gap.pad 0) (reverse (rows_of (drop c.args.left es)))))
    (take_all high gap.back (omega (arith, all)))
