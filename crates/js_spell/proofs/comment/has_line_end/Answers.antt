use Rattle.std.proofs.Common.{◌≡◌, true, false, sym, ◌∙◌, ap}
use Rattle.std.specs.Str.{chars}
use Rattle.js_text.specs.Characters.{from_first, is_line_terminator}
use Rattle.js_source.specs.Source.{rest}
use Rattle.js_spell.proofs.CommentSteps.{ends_line}
use Rattle.js_spell.proofs.comment.has_line_end.Goals as goal

pub returns : goal.returns
returns c =
    let found : rest c.skip_line.new.source ≡ from_first is_line_terminator (chars c.args.text.now) =
    c.skip_line.ensures.rest ∙ ap (from_first is_line_terminator) c.new-source.ensures.characters in
    ends_line (chars c.args.text.now) c.is_eof.result
    (λ ended. sym found ∙ c.is_eof.ensures.characters.0 ended)
    (λ going none.
    let at_end : c.is_eof.result ≡ true = c.is_eof.ensures.characters.1 (found ∙ none) in
    let both : true ≡ false = sym at_end ∙ going in cc)
