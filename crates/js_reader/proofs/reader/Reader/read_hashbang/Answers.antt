use Rattle.std.proofs.Common.{◌∙◌, sym, ap, refl}
use Rattle.js_kind.specs.TokenParts.{default_parts}
use Rattle.js_kind.specs.declared.kind.Kind.TheVariants.{HashbangComment}
use Rattle.js_reader.proofs.ReadingSteps.{hashbang_read}
use Rattle.js_reader.proofs.reader.Reader.read_hashbang.Goals as goal

pub returns : goal.returns
returns c =
    hashbang_read c.args.self.now _ c.advance_if_sequence.new.source c.new.result c.offset-2.result
    (sym c.offset.ensures.place ∙ c.if-offset-ne0.false)
    record { source_type = refl; line_has_ended = refl } c.if-not-advance_if_sequence.ensures
    c.skip_line.ensures.text c.skip_line.ensures.rest c.offset-2.ensures.place
    (c.new.ensures
    ∙ ap (λ s. record default_parts
    { start = s.start; end = s.end; kind = HashbangComment; is_on_new_line = c.args.self.now.line_has_ended })
    c.new-span.ensures)
