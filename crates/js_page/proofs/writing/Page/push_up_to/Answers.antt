use Rattle.std.proofs.Common.{string_bytes}
use Rattle.js_page.proofs.StretchLemmas.{none_written, stays_here}
use Rattle.js_page.specs.Written.{here}
use Rattle.js_page.proofs.writing.Page.push_up_to.Goals as goal

pub returns-then-to-self-clause-text : goal.returns-then-to-self-clause-text
returns-then-to-self-clause-text c =
    none_written c.args.to (here c.args.self.now) c.if-to-self.true (string_bytes c.args.self.now.text)

pub returns-then-to-self-clause-here : goal.returns-then-to-self-clause-here
returns-then-to-self-clause-here c = stays_here c.args.to (here c.args.self.now) c.if-to-self.true
