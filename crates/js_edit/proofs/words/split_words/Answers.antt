use Rattle.std.proofs.Common.{arith, sym, ◌∙◌, ap, take, map, string_bytes}
use Rattle.std.proofs.lemmas.List.{take-map}
use Rattle.js_edit.proofs.Dashes.{behind}
use Rattle.js_edit.proofs.words.split_words.Goals as goal

pub returns-then-at-words-clause-old : goal.returns-then-at-words-clause-old
returns-then-at-words-clause-old c =
    sym (take-map string_bytes c.dashes_at-at.result c.args.words.now)
    ∙ ap (λ n. take n (map string_bytes c.args.words.now)) c.dashes_at-at.ensures

pub returns-then-at-words-clause-new : goal.returns-then-at-words-clause-new
returns-then-at-words-clause-new c =
    behind c.args.words.now c.dashes_at-at.result c.dashes_at-at.ensures (omega (arith, c.if-at-words.true))
