use Rattle.std.proofs.Common.{◌≡◌, refl, sym, ◌∙◌, subst, false}
use Rattle.std.specs.List.{slice_range}
use Rattle.std.specs.Str.{IsCharBoundary}
use Rattle.js_kind.specs.Keywords.{name_kind}
use Rattle.js_source.proofs.Places.{between}
use Rattle.js_spell.specs.declared.spelt.SpeltValue.TheVariants.{Plain}
use Rattle.js_spell.specs.declared.name.Position.TheVariants.{Later}
use Rattle.js_spell.proofs.NameReadings.{unescaped_spelled}
use Rattle.js_spell.proofs.name.read_unescaped_name_by.Goals as goal

pub returns-clause-some : goal.returns-clause-some
returns-clause-some c = λ errors token.
    let passed = c.if-not-pass_name.ensures in
    let old = c.args.source.now in
    let new = c.pass_name.new.source in
    let begun : IsCharBoundary new.text old.place =
    subst (λ text. IsCharBoundary text old.place) (sym passed.text) old.placed.boundary in
    let whole : c.as_bytes.result.now ≡ new.text = c.as_bytes.ensures.value ∙ c.whole.ensures.text in
    let from : c.offset_of-from.result ≡ old.place = c.offset_of-from.ensures ∙ c.position-start.ensures.place in
    let kind : c.match_keyword_between.result ≡ name_kind (slice_range new.text old.place new.place) =
    rw (← whole, ← from, ← c.offset-to.ensures.place) c.match_keyword_between.ensures in
    unescaped_spelled old new errors token (record token { escaped = false; has_separator = false }) Later
    (slice_range new.text old.place new.place) (record { kind = c.match_keyword_between.result; value = Plain })
    (passed.passes refl) (passed.ends refl)
    (between new.text old.place new.place new.placed.utf8 passed.onward begun new.placed.boundary) refl kind refl
