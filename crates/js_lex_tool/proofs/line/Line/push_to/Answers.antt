use Rattle.std.proofs.Common.{◌≡◌, ◌+◌, ◌++◌, ap, sym, ◌∙◌, arith, length, take, string_bytes, replicate}
use Rattle.js_lex_tool.proofs.Lines.{block_cut, block_split}
use Rattle.js_lex_tool.proofs.line.Line.push_to.Goals as goal

pub truncate-requires : goal.truncate-requires
truncate-requires c =
    let line = c.as_str-line.result.now in
    let block : c.range.result.now ≡ take 64 (line ++ replicate 64 0) =
    c.range.ensures.value
    ∙ ap (take 64) (c.with_zeros-whole.ensures ∙ ap (λ xs. xs ++ replicate 64 0) (sym c.as_str-line.ensures)) in
    let end : c.len.result + length line ≡ length (string_bytes c.args.text.now) + length line =
    omega (arith, c.len.ensures) in
    let zero = block_split (string_bytes c.args.text.now) line c.range.result.now (string_bytes c.push_str-2.new.self)
    (c.len.result + length line) block c.in_ok-push_str.ensures.bytes (omega (arith, c.if-line-gt-BLOCK.false)) end in
    λ within. (omega (arith, within), λ some below high. absurd (omega (arith, zero, high)))

pub returns : goal.returns
returns c =
    let line = c.as_str-line.result.now in
    let block : c.range.result.now ≡ take 64 (line ++ replicate 64 0) =
    c.range.ensures.value
    ∙ ap (take 64) (c.with_zeros-whole.ensures ∙ ap (λ xs. xs ++ replicate 64 0) (sym c.as_str-line.ensures)) in
    let end : c.len.result + length line ≡ length (string_bytes c.args.text.now) + length line =
    omega (arith, c.len.ensures) in
    c.truncate.ensures.bytes
    ∙ block_cut (string_bytes c.args.text.now) line c.range.result.now (string_bytes c.push_str-2.new.self)
    (c.len.result + length line) block c.in_ok-push_str.ensures.bytes (omega (arith, c.if-line-gt-BLOCK.false)) end
    ∙ ap (λ xs. string_bytes c.args.text.now ++ xs) c.as_str-line.ensures
