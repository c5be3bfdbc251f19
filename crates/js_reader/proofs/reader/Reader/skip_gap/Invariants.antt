use Rattle.std.proofs.Common.{◌≡◌, false, length}
use Rattle.js_source.specs.Source.{rest}
use Rattle.js_reader.specs.Found.{Grows}
use Rattle.js_reader.specs.Reader.{Leads}
use Rattle.js_reader.proofs.reader.Reader.skip_gap.Given as goal

abbrev pub invariant-loop-self : goal.invariant-loop-self
invariant-loop-self l = record {
  text : l.self.source.text ≡ l.fn.self.source.text;
  source_type : l.self.source_type ≡ l.fn.self.source_type;
  leads : Leads false l.fn.self l.fn.found false l.self l.found;
  grown : Grows l.fn.found l.found;
}

abbrev pub decreases-loop-self : goal.decreases-loop-self
decreases-loop-self l = length (rest l.self.source)
