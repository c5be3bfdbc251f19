use Rattle.js_source.proofs.Places.{back_at}
use Rattle.std.proofs.Common.{refl, ◌∙◌, [], ◌∷◌}
use Rattle.js_grammar.specs.GapItems.{comment}
use Rattle.js_reader.proofs.BlockSteps.{block_marked, block_skipped, block_unlicensed, no_block, no_block_end}
use Rattle.js_reader.proofs.CommentTexts.{placed_in}
use Rattle.js_reader.proofs.TriviaSteps.{grows_by, grows_none}
use Rattle.js_reader.proofs.reader.Reader.skip_block_comment.Goals as goal

pub returns-then-not-advance_if_sequence-clause-ok : goal.returns-then-not-advance_if_sequence-clause-ok
returns-then-not-advance_if_sequence-clause-ok c =
    let none = c.if-not-advance_if_sequence.ensures in (
      record { source = none.1; stays = record { source_type = refl; line_has_ended = refl } },
      refl,
      no_block c.args.self.now c.requires.next c.requires.no_line none.0,
    )

pub returns-then-not-advance_if_sequence-clause-grown : goal.returns-then-not-advance_if_sequence-clause-grown
returns-then-not-advance_if_sequence-clause-grown c = grows_none c.args.found.now

pub add_searched_comment-requires-clause-placed : goal.add_searched_comment-requires-clause-placed
add_searched_comment-requires-clause-placed c =
    let takes = c.if-not-advance_if_sequence.ensures in
    let same = c.whole-text.ensures.text ∙ c.skip_block.ensures.text ∙ takes.0 in
    rw (same, c.offset-start.ensures.place, c.offset-end.ensures.place, c.block_kind-kind.ensures)
    (placed_in _ _ _ _ _ _ _
    (block_marked c.args.self.now.source c.advance_if_sequence.new.source c.skip_block.new.source
    c.in-Some.block.line_has_ended c.in-Some.block.is_plain takes c.skip_block.ensures.text c.in-Some.ensures.cut))

pub add_searched_comment-requires-clause-licensed : goal.add_searched_comment-requires-clause-licensed
add_searched_comment-requires-clause-licensed c =
    let takes = c.if-not-advance_if_sequence.ensures in
    let same = c.whole-text.ensures.text ∙ c.skip_block.ensures.text ∙ takes.0 in
    rw (same, c.offset-start.ensures.place, c.offset-end.ensures.place, c.block_kind-kind.ensures)
    (block_unlicensed c.args.self.now.source c.advance_if_sequence.new.source c.skip_block.new.source
    c.in-Some.block.line_has_ended c.in-Some.block.is_plain takes
    c.skip_block.ensures.text c.in-Some.ensures.cut c.in-Some.ensures.plain)

pub returns-in_err-add_searched_comment-in-Some-clause-grown
    : goal.returns-in_err-add_searched_comment-in-Some-clause-grown
returns-in_err-add_searched_comment-in-Some-clause-grown c =
    grows_by c.args.found.now _ [] c.in_err-add_searched_comment-in-Some.ensures.err

pub returns-in_ok-add_searched_comment-in-Some-clause-ok : goal.returns-in_ok-add_searched_comment-in-Some-clause-ok
returns-in_ok-add_searched_comment-in-Some-clause-ok c =
    let takes = c.if-not-advance_if_sequence.ensures in
    let same = c.whole-text.ensures.text ∙ c.skip_block.ensures.text ∙ takes.0 in
    block_skipped c.args.self.now c.args.found.now c.advance_if_sequence.new.source _ _
    c.in-Some.block.line_has_ended c.in-Some.block.is_plain takes c.skip_block.ensures.text c.in-Some.ensures.cut refl
    c.either-self.ensures
    (rw (same, c.offset-start.ensures.place, c.offset-end.ensures.place, c.block_kind-kind.ensures)
    at c.in_ok-add_searched_comment-in-Some.ensures.ok)

pub returns-in_ok-add_searched_comment-in-Some-clause-grown
    : goal.returns-in_ok-add_searched_comment-in-Some-clause-grown
returns-in_ok-add_searched_comment-in-Some-clause-grown c =
    grows_by c.args.found.now _ (comment _ ∷ []) c.in_ok-add_searched_comment-in-Some.ensures.ok

pub returns-in-None-clause-ok : goal.returns-in-None-clause-ok
returns-in-None-clause-ok c =
    let takes = c.if-not-advance_if_sequence.ensures in (
      record {
        source =
            back_at c.args.self.now.source c.skip_block.new.source c.set_position.new.self c.position-position.result
            c.set_position.ensures (c.skip_block.ensures.text ∙ takes.0) c.position-position.ensures.place;
        stays = record { source_type = refl; line_has_ended = refl };
      },
      refl,
      no_block_end c.args.self.now c.advance_if_sequence.new.source takes c.in-None.ensures.cut,
    )

pub returns-in-None-clause-grown : goal.returns-in-None-clause-grown
returns-in-None-clause-grown c = grows_none c.args.found.now
