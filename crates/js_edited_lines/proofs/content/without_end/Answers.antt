use Rattle.std.proofs.Common.{◌≡◌, ◌∷◌, ◌++◌, [], ap, ◌∙◌}
use Rattle.std.specs.Str.{chars}
use Rattle.js_text.specs.Ascii.{line_feed}
use Rattle.js_lines.specs.Lines.{line_content}
use Rattle.js_edited_lines.proofs.LineContent.{content_by_feed, content_by_one, ended}
use Rattle.js_edited_lines.proofs.content.without_end.Goals as goal

pub returns-then-last-eq10-clause-content : goal.returns-then-last-eq10-clause-content
returns-then-last-eq10-clause-content c ends ys count last =
    let line = chars c.args.line.now in
    let front = chars c.in-Some.front.now in
    let whole : line ≡ front ++ line_feed ∷ [] =
    c.in-Some.ensures.some ∙ ap (λ d. front ++ d ∷ []) c.if-last-eq10.true in
    content_by_feed line front (chars c.without_return.result.now) (line_content ends (line ++ ys)) whole
    c.without_return.ensures.characters (ended ends line ys count last)

pub returns-clause-content : goal.returns-clause-content
returns-clause-content c ends ys count last =
    let line = chars c.args.line.now in
    content_by_one line (chars c.in-Some.front.now) (line_content ends (line ++ ys)) c.in-Some.last
    c.in-Some.ensures.some (λ feed us f. c.if-last-eq10.false feed) (ended ends line ys count last)
