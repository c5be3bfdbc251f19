use Rattle.std.proofs.Common.{◌∙◌, ◌+◌, ap, arith, refl}
use Rattle.js_text.specs.Ascii.{grave_accent}
use Rattle.std.proofs.lemmas.Result.{err_from_is_err_and}
use Rattle.js_reader.proofs.SpeltSteps.{behind_mark, broke_off, lexeme_as, takes_backquote, template_here, value_kept}
use Rattle.js_reader.proofs.SpeltSteps.{was_spelt}
use Rattle.js_reader.proofs.reader.Reader.read_template.Goals as goal

pub read_template_part-requires : goal.read_template_part-requires
read_template_part-requires c =
    let old = c.args.self.now in
    let mid = c.next_char.new.self in
    let reads = takes_backquote old.source mid c.requires c.next_char.ensures.past in
    ap (λ t. t.start + 1) c.token_here-token.ensures
    ∙ behind_mark grave_accent old.source mid (omega arith) reads

pub returns-clause-ok : goal.returns-clause-ok
returns-clause-ok c =
    let old = c.args.self.now in
    let mid = c.next_char.new.self in
    let reads = takes_backquote old.source mid c.requires c.next_char.ensures.past in
    rw c.lexeme_of.ensures
    (lexeme_as old (record old { source = c.read_template_part.new.source })
    (template_here old mid reads)
    (ap (λ t. t.start) c.token_here-token.ensures) reads.text
    (c.in_ok-kind.ensures.ok grave_accent) refl)

pub returns-clause-kept : goal.returns-clause-kept
returns-clause-kept c =
    let at = c.start-start.ensures ∙ ap (λ t. t.start) c.token_here-token.ensures in
    let old = c.args.self.now in
    let mid = c.next_char.new.self in
    let reads = takes_backquote old.source mid c.requires c.next_char.ensures.past in
    (value_kept old.source c.args.decoded.now c.keep_part.new.decoded c.start-start.result
    (template_here old mid reads).valued at (c.in_ok-kind.ensures.ok grave_accent)
    c.in_ok-keep_part.ensures.ok).kept

pub returns-clause-value : goal.returns-clause-value
returns-clause-value c =
    let at = c.start-start.ensures ∙ ap (λ t. t.start) c.token_here-token.ensures in
    let old = c.args.self.now in
    let mid = c.next_char.new.self in
    let reads = takes_backquote old.source mid c.requires c.next_char.ensures.past in
    rw c.lexeme_of.ensures
    (value_kept old.source c.args.decoded.now c.keep_part.new.decoded c.start-start.result
    (template_here old mid reads).valued at (c.in_ok-kind.ensures.ok grave_accent)
    c.in_ok-keep_part.ensures.ok).has_value

pub returns-in_err-kind-clause-err : goal.returns-in_err-kind-clause-err
returns-in_err-kind-clause-err c =
    let old = c.args.self.now in
    let mid = c.next_char.new.self in
    let reads = takes_backquote old.source mid c.requires c.next_char.ensures.past in
    let p = err_from_is_err_and c.from_residual.result c.from_residual.ensures.1 in
    rw p.1
    (broke_off old (record old { source = c.read_template_part.new.source })
    (c.in_err-kind.ensures.err grave_accent) reads.text refl)

pub returns-in_err-keep_part-clause-err : goal.returns-in_err-keep_part-clause-err
returns-in_err-keep_part-clause-err c =
    let old = c.args.self.now in
    let mid = c.next_char.new.self in
    let reads = takes_backquote old.source mid c.requires c.next_char.ensures.past in
    let p = err_from_is_err_and c.from_residual-in_err-keep_part.result c.from_residual-in_err-keep_part.ensures.1 in
    rw p.1
    (was_spelt old (record old { source = c.read_template_part.new.source })
    (c.in_ok-kind.ensures.ok grave_accent) reads.text refl)
