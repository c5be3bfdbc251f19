use Rattle.js_lex_c.proofs.FillLemmas.{put_none, put_one}
use Rattle.js_lex_c.proofs.put.put.Goals as goal

pub returns-then-place-room : goal.returns-then-place-room
returns-then-place-room g c =
    λ start items at is. put_one start items c.args.room.now c.args.place c.args.item at is c.if-place-room.true

pub returns-else-place-room : goal.returns-else-place-room
returns-else-place-room g c =
    λ start items at is. put_none start items c.args.room.now _ c.args.place at is c.if-place-room.false
