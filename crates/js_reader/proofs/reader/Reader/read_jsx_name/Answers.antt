use Rattle.std.proofs.Common.{[], ap, refl}
use Rattle.js_source.specs.Source.{rest}
use Rattle.js_reader.proofs.GoalSteps.{name_goal, name_ordered, no_hyphen}
use Rattle.js_reader.proofs.reader.Reader.read_jsx_name.Goals as goal

pub token_from-requires : goal.token_from-requires
token_from-requires c =
    name_ordered c.args.start c.args.self.now c.read_jsx_identifier.new.source c.requires.boundary c.requires.ordered
    c.if-not-read_jsx_identifier.ensures

pub returns : goal.returns
returns c =
    name_goal c.args.start c.args.self.now (record c.args.self.now { source = c.read_jsx_identifier.new.source })
    c.token_from.result c.requires.boundary c.requires.ordered
    c.if-not-read_jsx_identifier.ensures refl c.token_from.ensures

pub returns-then-not-read_jsx_identifier : goal.returns-then-not-read_jsx_identifier
returns-then-not-read_jsx_identifier c =
    let reads = c.if-not-read_jsx_identifier.ensures in (
      no_hyphen (rest c.args.self.now.source) (reads.1 []),
      ap (λ s. record c.args.self.now { source = s }) reads.0,
    )
