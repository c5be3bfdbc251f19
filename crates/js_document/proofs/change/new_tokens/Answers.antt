use Rattle.std.proofs.Common.{◌≡◌, ◌+◌, ◌-◌, ◌∙◌, ap, arith, drop, map, subst, sym, take, ◌≤◌, List, ℕ}
use Rattle.std.proofs.lemmas.List.{drop-take}
use Rattle.std.specs.List.{AllByRecursion}
use Rattle.std.specs.Prelude.{reverse}
use Rattle.js_session.specs.Shifted.{shifted_row}
use Rattle.js_document.specs.Changed.{EntryMayMove, last_token_of}
use Rattle.js_document.specs.Gap.{rows_of}
use Rattle.js_document.specs.Reading.{with_rows}
use Rattle.js_document.proofs.TokenLemmas.{rows_both}
use Rattle.js_document.proofs.change.new_tokens.Goals as goal

-- the items from one index up to another
between : {A : Type 0} (xs : List A) (low high : ℕ) → low ≤ high → drop low (take high xs) ≡ take (high - low) (drop low xs)
between xs low high less =
    ap (λ n. drop low (take n xs)) (let place : high ≡ low + (high - low) = omega (arith, less) in place)
    ∙ drop-take low (high - low) xs

pub add_rows-requires-clause-moves : goal.add_rows-requires-clause-moves
add_rows-requires-clause-moves g c =
    subst (AllByRecursion (EntryMayMove c.args.pad 0))
    (sym (between c.args.entries.now.back c.args.reading c.args.left c.requires.ordered)) c.requires.moves

pub returns : goal.returns
returns g c =
    let read = rows_of c.args.read.now in
    let back = c.args.entries.now.back in
    let behind = map (shifted_row c.args.pad 0)
    (reverse (rows_of (take (c.args.left - c.args.reading) (drop c.args.reading back)))) in
    c.in_ok-add_rows.ensures
    ∙ ap (λ es. with_rows c.add_read.new.tokens (map (shifted_row c.args.pad 0) (reverse (rows_of es))))
    (between back c.args.reading c.args.left c.requires.ordered)
    ∙ ap (λ ts. with_rows ts behind)
    (c.in_ok-add_read.ensures ∙ ap (λ ts. with_rows ts read) c.in_ok-tokens.ensures)
    ∙ sym (rows_both (last_token_of c.args.entries.now.front) read behind)
