use Rattle.std.proofs.Common.{◌∙◌, ◌+◌, ap, refl}
use Rattle.js_grammar.specs.UnicodeEscape.{right_curly_bracket}
use Rattle.std.proofs.lemmas.Result.{err_from_is_err_and}
use Rattle.js_reader.proofs.ReLexSteps.{behind_curly, behind_curly_bracket, next_part_kept, part_ordered}
use Rattle.js_reader.proofs.ReLexSteps.{reads_next_part}
use Rattle.js_reader.proofs.SpeltSteps.{broke_off, was_spelt}
use Rattle.js_reader.proofs.reader.Reader.read_next_part.Goals as goal

pub read_template_part-requires : goal.read_template_part-requires
read_template_part-requires c =
    ap (λ t. t.start + 1) c.set_start.ensures
    ∙ behind_curly c.args.start c.args.self.now c.requires.begins c.requires.here

pub new-requires : goal.new-requires
new-requires c =
    let old = c.args.self.now in
    let new = record old { source = c.read_template_part.new.source } in
    rw c.offset.ensures.place (part_ordered (behind_curly_bracket c.args.start c.set_start.new.self.start old new
    c.requires.begins c.requires.here (ap (λ t. t.start) c.set_start.ensures)
    (c.in_ok-spelt.ensures.ok right_curly_bracket) refl))

pub token-requires : goal.token-requires
token-requires c =
    let old = c.args.self.now in
    let new = record old { source = c.read_template_part.new.source } in
    rw (c.new.ensures, c.offset.ensures.place)
    (part_ordered (behind_curly_bracket c.args.start c.set_start.new.self.start old new
    c.requires.begins c.requires.here (ap (λ t. t.start) c.set_start.ensures)
    (c.in_ok-spelt.ensures.ok right_curly_bracket) refl))

pub returns-clause-ok : goal.returns-clause-ok
returns-clause-ok c =
    let old = c.args.self.now in
    let new = record old { source = c.read_template_part.new.source } in
    reads_next_part c.token.result (behind_curly_bracket c.args.start c.set_start.new.self.start old new
    c.requires.begins c.requires.here (ap (λ t. t.start) c.set_start.ensures)
    (c.in_ok-spelt.ensures.ok right_curly_bracket) refl)
    (c.token.ensures ∙ rw (c.new.ensures, c.offset.ensures.place, c.escaped.ensures) refl)

pub returns-clause-value : goal.returns-clause-value
returns-clause-value c =
    let old = c.args.self.now in
    let new = record old { source = c.read_template_part.new.source } in
    rw (c.token.ensures, c.new.ensures, c.escaped.ensures)
    (next_part_kept c.args.decoded.now c.keep_part.new.decoded
    (behind_curly_bracket c.args.start c.set_start.new.self.start old new
    c.requires.begins c.requires.here (ap (λ t. t.start) c.set_start.ensures)
    (c.in_ok-spelt.ensures.ok right_curly_bracket) refl) c.in_ok-keep_part.ensures.ok).has_value

pub returns-clause-kept : goal.returns-clause-kept
returns-clause-kept c =
    let old = c.args.self.now in
    let new = record old { source = c.read_template_part.new.source } in
    (next_part_kept c.args.decoded.now c.keep_part.new.decoded
    (behind_curly_bracket c.args.start c.set_start.new.self.start old new
    c.requires.begins c.requires.here (ap (λ t. t.start) c.set_start.ensures)
    (c.in_ok-spelt.ensures.ok right_curly_bracket) refl) c.in_ok-keep_part.ensures.ok).kept

pub returns-in_err-spelt-clause-err : goal.returns-in_err-spelt-clause-err
returns-in_err-spelt-clause-err c =
    let old = c.args.self.now in
    let p = err_from_is_err_and c.from_residual.result c.from_residual.ensures.1 in
    rw p.1
    (broke_off old (record old { source = c.read_template_part.new.source })
    (c.in_err-spelt.ensures.err right_curly_bracket) refl refl)

pub returns-in_err-keep_part-clause-err : goal.returns-in_err-keep_part-clause-err
returns-in_err-keep_part-clause-err c =
    let old = c.args.self.now in
    let p = err_from_is_err_and c.from_residual-in_err-keep_part.result c.from_residual-in_err-keep_part.ensures.1 in
    rw p.1
    (was_spelt old (record old { source = c.read_template_part.new.source })
    (c.in_ok-spelt.ensures.ok right_curly_bracket) refl refl)
