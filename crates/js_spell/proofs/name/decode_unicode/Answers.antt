use Rattle.std.proofs.Common.{refl, sym, ◌∙◌, ap, arith, subst, Some, None}
use Rattle.std.specs.Char.{IsScalar, InScalarRange}
use Rattle.js_source.specs.Source.{rest}
use Rattle.js_spell.specs.Name.{class_of}
use Rattle.js_spell.proofs.NameSteps.{decoded_none, decoded_character, decoded_not_allowed, decoded_alone, decoded_pair}
use Rattle.js_spell.proofs.NameSteps.{braced_alone, low_alone}
use Rattle.js_spell.proofs.name.decode_unicode.Goals as goal

pub returns-in-None : goal.returns-in-None
returns-in-None c =
    decoded_none (class_of c.args.position) c.args.source.now c.read_unicode_escape.new.source None
    c.in-None.ensures.read refl

pub returns-then-allows : goal.returns-then-allows
returns-then-allows c =
    let found = c.in-Some-from_u32.ensures.value in
    decoded_character (class_of c.args.position) c.args.source.now c.read_unicode_escape.new.source
    (Some c.in-Some.value) c.in-Some.ensures.read c.in-Some-from_u32.c (ap Some (sym found.1))
    (subst IsScalar (sym found.1) found.0) (subst InScalarRange (sym found.1) c.in-Some-from_u32.ensures.cases)
    (sym c.allows.ensures ∙ c.if-allows.true)

pub returns-in-Some-from_u32 : goal.returns-in-Some-from_u32
returns-in-Some-from_u32 c =
    let found = c.in-Some-from_u32.ensures.value in
    decoded_not_allowed (class_of c.args.position) c.args.source.now c.read_unicode_escape.new.source
    (Some c.in-Some.value) c.in-Some.ensures.read c.in-Some-from_u32.c (ap Some (sym found.1))
    (subst IsScalar (sym found.1) found.0) (subst InScalarRange (sym found.1) c.in-Some-from_u32.ensures.cases)
    (sym c.allows.ensures ∙ c.if-allows.false)

pub returns-then-is_braced : goal.returns-then-is_braced
returns-then-is_braced c =
    decoded_alone (class_of c.args.position) c.args.source.now c.read_unicode_escape.new.source
    (Some c.in-Some.value) c.in-Some.ensures.read c.in-Some.value refl c.in_default.ensures.cases
    c.in-Some.ensures.small
    (braced_alone c.in-Some.value (rest c.args.source.now)
    (sym c.begins_ascii-is_braced.ensures ∙ c.if-is_braced.true))

pub returns-then-value-lt-FIRST_LOW_SURROGATE : goal.returns-then-value-lt-FIRST_LOW_SURROGATE
returns-then-value-lt-FIRST_LOW_SURROGATE c =
    decoded_pair (class_of c.args.position) c.args.source.now c.read_unicode_escape.new.source
    (Some c.in-Some.value) c.in-Some.ensures.read c.in-Some.value c.pass_low_surrogate.new.source refl
    c.in_default.ensures.cases c.in-Some.ensures.small c.if-value-lt-FIRST_LOW_SURROGATE.true
    (sym c.begins_ascii-is_braced.ensures ∙ c.if-is_braced.false) c.pass_low_surrogate.ensures.text
    c.pass_low_surrogate.ensures.passed

pub returns-else-value-lt-FIRST_LOW_SURROGATE : goal.returns-else-value-lt-FIRST_LOW_SURROGATE
returns-else-value-lt-FIRST_LOW_SURROGATE c =
    decoded_alone (class_of c.args.position) c.args.source.now c.read_unicode_escape.new.source
    (Some c.in-Some.value) c.in-Some.ensures.read c.in-Some.value refl c.in_default.ensures.cases
    c.in-Some.ensures.small
    (low_alone c.in-Some.value (rest c.args.source.now) (omega (arith, c.if-value-lt-FIRST_LOW_SURROGATE.false)))
