use Rattle.std.proofs.Common.{refl, sym, ◌∙◌, arith, ◌||◌, true, false}
use Rattle.std.specs.Prelude.{string_bytes}
use Rattle.js_source.specs.Source.{rest}
use Rattle.js_grammar.proofs.NameLaws.{ended}
use Rattle.js_spell.specs.declared.name.Position.TheVariants.{Later}
use Rattle.js_spell.specs.Name.{items_told}
use Rattle.js_spell.proofs.BreakSteps.{on_err, unreported}
use Rattle.js_spell.proofs.NameReadings.{items_broken, parts_added, then_read, parts_fewer}
use Rattle.js_spell.proofs.name.read_rest_into.Goals as goal

pub returns-then-not-begins_ascii-clause-ok : goal.returns-then-not-begins_ascii-clause-ok
returns-then-not-begins_ascii-clause-ok c =
    let passes = c.in_ok-read_parts_into.ensures.ok in (
      c.parts.invariant.has_escape || false,
      record {
        read =
            parts_added Later c.args.source.now c.parts.source c.read_parts_into.new.source c.args.errors.now
            c.parts.errors (string_bytes c.args.decoded.now) (string_bytes c.parts.decoded)
            (string_bytes c.read_parts_into.new.decoded) c.parts.invariant.has_escape c.parts.invariant.read passes;
        end =
            ended (rest c.read_parts_into.new.source) passes.stops
            (sym c.begins_ascii.ensures ∙ c.if-not-begins_ascii.true);
      },
    )

pub parts-smaller : goal.parts-smaller
parts-smaller c =
    omega (
      arith,
      parts_fewer c.parts.source c.read_parts_into.new.source (string_bytes c.parts.decoded)
          (string_bytes c.read_parts_into.new.decoded) c.in_ok-read_parts_into.ensures.ok,
      c.in_ok-read_escape_into.ensures.fewer,
    )

pub parts-preserved : goal.parts-preserved
parts-preserved c = record {
  has_escape = (c.parts.invariant.has_escape || false) || true;
  read =
      then_read Later c.args.source.now Later c.read_parts_into.new.source Later c.read_escape_into.new.source
      c.args.errors.now c.parts.errors c.read_escape_into.new.errors (string_bytes c.args.decoded.now)
      (string_bytes c.read_parts_into.new.decoded) (string_bytes c.read_escape_into.new.decoded)
      (c.parts.invariant.has_escape || false) true
      (parts_added Later c.args.source.now c.parts.source c.read_parts_into.new.source c.args.errors.now
      c.parts.errors (string_bytes c.args.decoded.now) (string_bytes c.parts.decoded)
      (string_bytes c.read_parts_into.new.decoded) c.parts.invariant.has_escape
      c.parts.invariant.read c.in_ok-read_parts_into.ensures.ok) c.in_ok-read_escape_into.ensures.ok;
}

pub returns-in_err-read_parts_into-clause-err : goal.returns-in_err-read_parts_into-clause-err
returns-in_err-read_parts_into-clause-err c =
    let mid = c.parts.source in
    on_err c.from_residual.result _
    (items_broken Later c.args.source.now Later mid c.read_parts_into.new.source c.args.errors.now c.parts.errors
    c.parts.errors (string_bytes c.args.decoded.now) (string_bytes c.parts.decoded) c.parts.invariant.has_escape
    c.parts.invariant.read
    (unreported (items_told Later mid) mid c.read_parts_into.new.source c.parts.errors c.parts.errors
    c.read_parts_into.ensures.text c.read_parts_into.ensures.onward refl))

pub returns-in_err-read_escape_into-clause-err : goal.returns-in_err-read_escape_into-clause-err
returns-in_err-read_escape_into-clause-err c =
    let mid = c.read_parts_into.new.source in
    on_err c.from_residual-in_err-read_escape_into.result _
    (items_broken Later c.args.source.now Later mid c.read_escape_into.new.source c.args.errors.now c.parts.errors
    c.read_escape_into.new.errors (string_bytes c.args.decoded.now) (string_bytes c.read_parts_into.new.decoded)
    (c.parts.invariant.has_escape || false)
    (parts_added Later c.args.source.now c.parts.source mid c.args.errors.now c.parts.errors
    (string_bytes c.args.decoded.now) (string_bytes c.parts.decoded) (string_bytes c.read_parts_into.new.decoded)
    c.parts.invariant.has_escape c.parts.invariant.read
    c.in_ok-read_parts_into.ensures.ok) c.in_err-read_escape_into.ensures.err)
