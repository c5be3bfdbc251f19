-- Which syntax a source has, and by which rule its goals are chosen.
use Rattle.std.specs.Prelude.{ℕ, Bool, ◌||◌, List, codes, nat_eq, if◌then◌else◌}
use Rattle.std.specs.List.{ends_with}
use Rattle.js_auto.specs.Choice.{choice_in}
use Rattle.js_choose.specs.Rules.{Rule}
use Rattle.js_jsx.specs.Choice.{choice}
use Rattle.js_totsenak.specs.declared.syntax.Syntax.{Syntax}
use Rattle.js_totsenak.specs.declared.syntax.Syntax.TheVariants.{JavaScript, Jsx}

-- the rule by which the goals of a source are chosen
abbrev pub rule_of : Syntax → Rule
rule_of JavaScript = choice_in
rule_of Jsx = choice

-- the syntax that was said, or else by the ending of the name
abbrev pub syntax_of : Bool → List ℕ → Syntax
syntax_of said_jsx name =
    if said_jsx || (ends_with nat_eq name (codes ".jsx") || ends_with nat_eq name (codes ".tsx")) then Jsx
    else JavaScript
