use Rattle.std.proofs.Common.{◌∙◌, ap, arith, refl}
use Rattle.js_text.specs.Ascii.{number_sign}
use Rattle.std.proofs.lemmas.Result.{err_from_is_err_and}
use Rattle.js_reader.proofs.SpeltSteps.{behind_mark, broke_off, lexeme_as, private_here, takes_sign, value_kept}
use Rattle.js_reader.proofs.SpeltSteps.{was_spelt}
use Rattle.js_reader.proofs.reader.Reader.read_private_name.Goals as goal

pub returns-clause-ok : goal.returns-clause-ok
returns-clause-ok c =
    let old = c.args.self.now in
    let mid = c.next_char.new.self in
    let reads = takes_sign old.source mid c.requires c.next_char.ensures.past in
    let behind = behind_mark number_sign old.source mid (omega arith)
    reads in
    rw c.lexeme_of.ensures
    (lexeme_as old (record old { source = c.read_private_name.new.source })
    (private_here old mid reads) refl reads.text (c.in_ok-kind.ensures.ok old.source.place behind) refl)

pub returns-clause-kept : goal.returns-clause-kept
returns-clause-kept c =
    let at = c.start-start.ensures ∙ ap (λ t. t.start) c.token_here-token.ensures in
    let old = c.args.self.now in
    let mid = c.next_char.new.self in
    let reads = takes_sign old.source mid c.requires c.next_char.ensures.past in
    let behind = behind_mark number_sign old.source mid (omega arith)
    reads in
    (value_kept old.source c.args.decoded.now c.keep_value.new.decoded c.start-start.result
    (private_here old mid reads).valued at
    (c.in_ok-kind.ensures.ok old.source.place behind) c.in_ok-keep_value.ensures.ok).kept

pub returns-clause-value : goal.returns-clause-value
returns-clause-value c =
    let at = c.start-start.ensures ∙ ap (λ t. t.start) c.token_here-token.ensures in
    let old = c.args.self.now in
    let mid = c.next_char.new.self in
    let reads = takes_sign old.source mid c.requires c.next_char.ensures.past in
    let behind = behind_mark number_sign old.source mid (omega arith)
    reads in
    rw c.lexeme_of.ensures
    (value_kept old.source c.args.decoded.now c.keep_value.new.decoded c.start-start.result
    (private_here old mid reads).valued at
    (c.in_ok-kind.ensures.ok old.source.place behind) c.in_ok-keep_value.ensures.ok).has_value

pub returns-in_err-kind-clause-err : goal.returns-in_err-kind-clause-err
returns-in_err-kind-clause-err c =
    let old = c.args.self.now in
    let mid = c.next_char.new.self in
    let reads = takes_sign old.source mid c.requires c.next_char.ensures.past in
    let behind = behind_mark number_sign old.source mid (omega arith)
    reads in
    let p = err_from_is_err_and c.from_residual.result c.from_residual.ensures.1 in
    rw p.1
    (broke_off old (record old { source = c.read_private_name.new.source })
    (c.in_err-kind.ensures.err old.source.place behind) reads.text refl)

pub returns-in_err-keep_value-clause-err : goal.returns-in_err-keep_value-clause-err
returns-in_err-keep_value-clause-err c =
    let old = c.args.self.now in
    let mid = c.next_char.new.self in
    let reads = takes_sign old.source mid c.requires c.next_char.ensures.past in
    let behind = behind_mark number_sign old.source mid (omega arith)
    reads in
    let p = err_from_is_err_and c.from_residual-in_err-keep_value.result c.from_residual-in_err-keep_value.ensures.1 in
    rw p.1
    (was_spelt old (record old { source = c.read_private_name.new.source })
    (c.in_ok-kind.ensures.ok old.source.place behind) reads.text refl)
