use Rattle.std.proofs.Common.{◌∙◌, ◌++◌, ap, append-nil, drop, refl}
use Rattle.js_reader.proofs.findings_builder.FindingsBuilder.since.Goals as goal

pub returns : goal.returns
returns c =
    rw (
      c.in_ok-items_from.ensures ∙ ap (drop c.args.then.now.errors) c.as_slice.ensures,
      c.in_ok-items_from-2.ensures ∙ ap (drop c.args.then.now.deferred) c.as_slice-2.ensures,
      c.in_ok-items_from-3.ensures
          ∙ ap (drop c.args.then.now.trivia.comments)
          (c.comments.ensures ∙ ap (λ cs. c.args.self.now.trivia.attachment.attached ++ cs) c.requires.between
          ∙ append-nil c.args.self.now.trivia.attachment.attached),
      c.in_ok-items_from-4.ensures ∙ ap (drop c.args.then.now.trivia.irregular) c.irregular_whitespaces.ensures,
      c.in_ok-items_from-5.ensures ∙ ap (drop c.args.then.now.warnings) c.as_slice-3.ensures,
    ) refl
