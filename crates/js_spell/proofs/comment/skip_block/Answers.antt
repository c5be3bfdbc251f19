use Rattle.std.proofs.Common.{◌≡◌, ◌^◌, ◌∷◌, not, sym, ◌∙◌, ap, subst}
use Rattle.js_source.specs.Pairs.{before_pair, from_pair}
use Rattle.js_source.specs.Source.{rest, SpellsBetween}
use Rattle.js_spell.specs.Comments.{block_end}
use Rattle.js_spell.proofs.CommentSteps.{block_found, comment_characters, no_cut, no_line_end, short_between}
use Rattle.js_spell.proofs.comment.skip_block.Goals as goal

pub has_line_end-requires : goal.has_line_end-requires
has_line_end-requires c =
    rw c.str_from_pos_to_current.ensures.bytes (short_between _ _ _ (2 ^ 32)
    c.advance_behind_pair.new.self.placed.short)

pub returns-then-not-is_plain-clause-cut : goal.returns-then-not-is_plain-clause-cut
returns-then-not-is_plain-clause-cut c =
    let old = c.args.source.now in
    let new = c.advance_behind_pair.new.self in
    let text = c.str_from_pos_to_current.result.now in
    let found : from_pair block_end (rest old) ≡ 42 ∷ 47 ∷ rest new = c.in_ok-is_plain.ensures.some in
    let spells : SpellsBetween old.text old.place new.place text =
    subst (λ p. SpellsBetween old.text p new.place text) c.position-start.ensures.place
    (subst (λ t. SpellsBetween t c.position-start.result new.place text) c.advance_behind_pair.ensures.text
    c.str_from_pos_to_current.ensures.characters) in
    block_found old new c.has_line_end.result c.in_ok-is_plain.is_plain found
    (sym (comment_characters old new text c.advance_behind_pair.ensures.text found
    spells) ∙ sym c.has_line_end.ensures)

pub returns-else-not-is_plain-clause-cut : goal.returns-else-not-is_plain-clause-cut
returns-else-not-is_plain-clause-cut c =
    let old = c.args.source.now in
    let is_plain = c.in_ok-is_plain.is_plain in
    block_found old c.advance_behind_pair.new.self (not is_plain) is_plain c.in_ok-is_plain.ensures.some
    (no_line_end (before_pair block_end (rest old)) (c.in_ok-is_plain.ensures.clean c.if-not-is_plain.false)
    ∙ sym (ap not c.if-not-is_plain.false))

pub returns-in_err-is_plain-clause-cut : goal.returns-in_err-is_plain-clause-cut
returns-in_err-is_plain-clause-cut c =
    rw c.from_residual.ensures (no_cut (rest c.args.source.now) c.in_err-is_plain.ensures.none)
