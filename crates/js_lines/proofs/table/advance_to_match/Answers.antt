use Rattle.std.proofs.Common.{◌≡◌, ◌+◌, ap, length, sym, ◌∙◌}
use Rattle.js_source.specs.Source.{rest}
use Rattle.js_lines.proofs.LineLemmas.{place_left}
use Rattle.js_lines.specs.Columns.{length_in}
use Rattle.js_lines.specs.declared.columns.ColumnUnit.TheVariants.{Bytes}
use Rattle.js_lines.proofs.table.advance_to_match.Goals as goal
use Rattle.js_lines.proofs.table.advance_to_match.Goals.{After-advance_to_one_of}

same_end : (c : After-advance_to_one_of)
    → c.args.source.now.place + length_in Bytes (rest c.args.source.now)
    ≡ c.advance_to_one_of.new.self.place + length_in Bytes (rest c.advance_to_one_of.new.self)
same_end c =
    place_left c.args.source.now
    ∙ ap length (sym c.advance_to_one_of.ensures.text)
    ∙ sym (place_left c.advance_to_one_of.new.self)

pub returns-in_err-advance_to_one_of-clause-bytes : goal.returns-in_err-advance_to_one_of-clause-bytes
returns-in_err-advance_to_one_of-clause-bytes c =
    same_end ((goal.at.returns-in_err-advance_to_one_of-clause-bytes c).After-advance_to_one_of)

pub returns-clause-bytes : goal.returns-clause-bytes
returns-clause-bytes c = same_end ((goal.at.returns-clause-bytes c).After-advance_to_one_of)
