use Rattle.std.proofs.Common.{◌∙◌, ap}
use Rattle.std.proofs.lemmas.List.{take_rest}
use Rattle.js_lex_c.specs.Filled.{filled}
use Rattle.js_lex_c.proofs.FillLemmas.{put_none, put_several}
use Rattle.js_lex_c.proofs.put.put_all.Goals as goal

pub returns-then-place-room : goal.returns-then-place-room
returns-then-place-room g c =
    λ start items at is. put_several start items c.args.room.now c.args.items.now c.fill.new.room c.args.place at is
    c.if-place-room.true (c.fill.ensures ∙ ap (λ l. filled l c.args.items.now) (take_rest c.args.room.now c.args.place))

pub returns-else-place-room : goal.returns-else-place-room
returns-else-place-room g c =
    λ start items at is. put_none start items c.args.room.now c.args.items.now c.args.place at is c.if-place-room.false
