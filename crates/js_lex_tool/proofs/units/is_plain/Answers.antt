use Rattle.std.proofs.Common.{◌≡◌, ◌++◌, append-nil, sym, ◌∙◌, ap}
use Rattle.std.specs.Str.{chars}
use Rattle.js_text.specs.Characters.{from_place}
use Rattle.js_lex_tool.proofs.Plain.{text_itself}
use Rattle.js_lex_tool.proofs.units.is_plain.Goals as goal

pub returns : goal.returns
returns c = λ ended.
    let run = c.pass_ascii.ensures.run in
    let new = c.pass_ascii.new.self in
    let characters : chars c.args.value.now ≡ run.run =
    sym c.new-source.ensures.characters ∙ run.here
    ∙ ap (λ xs. run.run ++ xs)
    (ap (λ t. from_place t new.place) (sym c.pass_ascii.ensures.text) ∙ c.is_eof.ensures.characters.0 ended)
    ∙ append-nil run.run in
    text_itself c.themselves.result.now c.themselves.ensures c.args.value.now run.run c.utf8.value characters run.all
