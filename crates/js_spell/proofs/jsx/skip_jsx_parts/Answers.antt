use Rattle.std.proofs.Common.{arith, sym, ◌∙◌, ap}
use Rattle.js_text.specs.Characters.{begins, from_first, is_identifier_part}
use Rattle.js_grammar.specs.Jsx.{ends_jsx_name}
use Rattle.js_source.specs.Source.{rest}
use Rattle.js_spell.proofs.JsxSteps.{fewer_behind, no_part_begins, past_hyphen, past_parts}
use Rattle.js_spell.proofs.jsx.skip_jsx_parts.Goals as goal

pub parts-init : goal.parts-init
parts-init c = record {
  text = c.skip_parts.ensures.text;
  left =
      past_parts (rest c.args.source.now) ∙ ap (from_first ends_jsx_name) (sym c.skip_parts.ensures.rest);
  none = ap (begins is_identifier_part) c.skip_parts.ensures.rest ∙ no_part_begins (rest c.args.source.now);
  onward = c.skip_parts.ensures.onward;
}

pub parts-smaller : goal.parts-smaller
parts-smaller c =
    fewer_behind c.parts.source c.advance_if_ascii_eq.new.self c.skip_parts-in-parts.new.source
    c.parts-test.ensures.cases c.skip_parts-in-parts.ensures.rest

pub parts-preserved : goal.parts-preserved
parts-preserved c =
    let mid = c.advance_if_ascii_eq.new.self in
    let read = c.parts-test.ensures.cases in
    record {
      text = c.skip_parts-in-parts.ensures.text ∙ read.text ∙ c.parts.invariant.text;
      left =
          c.parts.invariant.left ∙ past_hyphen c.parts.source mid read ∙ past_parts (rest mid)
          ∙ ap (from_first ends_jsx_name) (sym c.skip_parts-in-parts.ensures.rest);
      none = ap (begins is_identifier_part) c.skip_parts-in-parts.ensures.rest ∙ no_part_begins (rest mid);
      onward =
          omega (
            arith,
            c.parts.invariant.onward,
            c.advance_if_ascii_eq.ensures.onward,
            c.skip_parts-in-parts.ensures.onward,
          );
    }
