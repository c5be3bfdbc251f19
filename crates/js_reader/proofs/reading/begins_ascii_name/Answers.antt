use Rattle.js_reader.proofs.reading.begins_ascii_name.Goals as goal

pub returns : goal.returns
returns c = c.requires.table.tells c.args.b c.requires.ascii
