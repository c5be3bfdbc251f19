use Rattle.js_lex_tool.proofs.Lines.{lanes_end}
use Rattle.js_lex_tool.proofs.put.put_end_of_16.Goals as goal

pub returns-clause-written : goal.returns-clause-written
returns-clause-written c =
    lanes_end 16 c.args.len c.args.at c.args.bytes.now c.args.room.now c.requires.fits.0 c.requires.fits.1 c.requires.width
    c.requires.within
