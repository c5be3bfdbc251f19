use Rattle.js_edit.specs.Words.{edit_words_of}
use Rattle.js_edit.proofs.edit.edit_run.Goals as goal

pub returns : goal.returns
returns g c = c.text_run.ensures.run (edit_words_of c.args.words.now.items) c.read_edit_words.ensures
