use Rattle.std.proofs.Common.{◌≤◌, subst, sym}
use Rattle.js_reader.proofs.AttributeSteps.{string_ordered}
use Rattle.js_reader.proofs.reader.Reader.read_attribute_string.Goals as goal

pub token_from-requires : goal.token_from-requires
token_from-requires c =
    let new = record c.args.self.now { source = c.read_jsx_string.new.source } in
    subst (λ n. n ≤ c.read_jsx_string.new.source.place) (sym c.offset-start.ensures.place)
    (string_ordered c.args.self.now new c.in_ok-kind.kind c.in_ok-kind.ensures.ok)
