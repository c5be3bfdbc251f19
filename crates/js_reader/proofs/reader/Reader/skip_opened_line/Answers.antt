use Rattle.std.proofs.Common.{refl, ◌∙◌, [], ◌∷◌}
use Rattle.js_grammar.specs.GapItems.{comment}
use Rattle.js_reader.proofs.CommentTexts.{placed_in}
use Rattle.js_reader.proofs.LineSteps.{line_marked, line_unlicensed, behind_line}
use Rattle.js_reader.proofs.TriviaSteps.{grows_by, grows_none}
use Rattle.js_reader.proofs.reader.Reader.skip_opened_line.Goals as goal

pub returns-then-not-advance_if_sequence-clause-grown : goal.returns-then-not-advance_if_sequence-clause-grown
returns-then-not-advance_if_sequence-clause-grown c = grows_none c.args.found.now

pub add_searched_comment-requires-clause-placed : goal.add_searched_comment-requires-clause-placed
add_searched_comment-requires-clause-placed c =
    let takes = rw c.opening_sequence.ensures at c.if-not-advance_if_sequence.ensures in
    let same = c.whole-text.ensures.text ∙ c.skip_line-is_plain.ensures.text ∙ takes.0 in
    rw (same, c.offset-start.ensures.place, c.offset-end.ensures.place)
    (placed_in _ _ _ _ _ _ _
    (line_marked c.args.kind c.requires c.args.self.now.source c.advance_if_sequence.new.source
    c.skip_line-is_plain.new.source takes c.skip_line-is_plain.ensures.text c.skip_line-is_plain.ensures.rest))

pub add_searched_comment-requires-clause-licensed : goal.add_searched_comment-requires-clause-licensed
add_searched_comment-requires-clause-licensed c =
    let takes = rw c.opening_sequence.ensures at c.if-not-advance_if_sequence.ensures in
    let same = c.whole-text.ensures.text ∙ c.skip_line-is_plain.ensures.text ∙ takes.0 in
    rw (same, c.offset-start.ensures.place, c.offset-end.ensures.place)
    (line_unlicensed c.args.kind c.requires c.args.self.now.source c.advance_if_sequence.new.source
    c.skip_line-is_plain.new.source takes
    c.skip_line-is_plain.ensures.text c.skip_line-is_plain.ensures.rest c.skip_line-is_plain.result
    c.skip_line-is_plain.ensures.plain)

pub returns-in_err-add_searched_comment-clause-grown : goal.returns-in_err-add_searched_comment-clause-grown
returns-in_err-add_searched_comment-clause-grown c =
    grows_by c.args.found.now _ [] c.in_err-add_searched_comment.ensures.err

pub returns-clause-ok : goal.returns-clause-ok
returns-clause-ok c =
    let takes = rw c.opening_sequence.ensures at c.if-not-advance_if_sequence.ensures in
    let same = c.whole-text.ensures.text ∙ c.skip_line-is_plain.ensures.text ∙ takes.0 in
    behind_line c.args.kind c.requires c.args.self.now c.args.found.now c.advance_if_sequence.new.source _ _
    takes c.skip_line-is_plain.ensures.text c.skip_line-is_plain.ensures.rest refl refl
    (rw (same, c.offset-start.ensures.place, c.offset-end.ensures.place) at c.in_ok-add_searched_comment.ensures.ok)

pub returns-clause-grown : goal.returns-clause-grown
returns-clause-grown c =
    grows_by c.args.found.now _ (comment _ ∷ []) c.in_ok-add_searched_comment.ensures.ok
