use Rattle.std.proofs.Common.{◌≡◌, length, rules, tests, ap, ◌∙◌}
use Rattle.js_source.proofs.Places.{nothing_at_end, at_end_only}
use Rattle.js_text.specs.Characters.{from_place}
use Rattle.js_source.proofs.source.Source.is_eof.Goals as goal

pub returns-clause-characters : goal.returns-clause-characters
returns-clause-characters c =
    rw (← c.self.view_is) (
      λ t. let e : c.self.inside.place ≡ length c.self.inside.text.now = search (rules, tests) in
          ap (from_place c.self.inside.text.now) e ∙ nothing_at_end c.self.inside.text.now,
      λ e. let there = at_end_only _ _ c.self.inside.placed.utf8 c.self.inside.placed.boundary e in search (
        rules,
        tests,
      ),
    )
