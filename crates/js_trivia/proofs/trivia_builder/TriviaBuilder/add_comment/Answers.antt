use Rattle.std.proofs.Common.{◌≡◌, ◌+◌, length, ◌∙◌, ap, arith}
use Rattle.std.proofs.lemmas.List.{take-append-drop}
use Rattle.js_grammar.specs.GapItems.{found_at}
use Rattle.js_trivia.specs.Trivia.{Trivia, held}
use Rattle.js_trivia.proofs.Starts.{length_after_comment}
use Rattle.js_trivia.proofs.trivia_builder.TriviaBuilder.add_comment.Goals as goal

pub note_class-requires-clause-held : goal.note_class-requires-clause-held
note_class-requires-clause-held c =
    let found = found_at (record { start = c.args.start; end = c.args.end }) c.args.kind c.args.content in
    let pushed : length (held c.push_comment.new.self.attachment) ≡ length (held c.args.self.now.attachment) + 1 =
    ap (λ (s : Trivia). length (held s.attachment)) c.in_ok-push_comment-in-Some.ensures.ok
    ∙ length_after_comment found c.args.self.now.attachment in
    let whole : length (held c.args.self.now.attachment) ≡ length c.self.inside.comments.items =
    rw (← c.self.view_is) (ap length (take-append-drop c.self.inside.processed c.self.inside.comments.items)) in
    omega (arith, c.in-Some.ensures.behind, ap length c.as_slice.ensures.value)

pub note_class-requires-in-Some-find_comment-clause-held : goal.note_class-requires-in-Some-find_comment-clause-held
note_class-requires-in-Some-find_comment-clause-held c =
    let whole : length (held c.args.self.now.attachment) ≡ length c.self.inside.comments.items =
    rw (← c.self.view_is) (ap length (take-append-drop c.self.inside.processed c.self.inside.comments.items)) in
    omega (arith, c.in-Some-find_comment.ensures.held, ap length c.as_slice-in-None.ensures.value)
