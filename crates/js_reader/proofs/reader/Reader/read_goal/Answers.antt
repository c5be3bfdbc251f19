use Rattle.std.proofs.Common.{◌≡◌, false, refl, sym, ◌∙◌, ap, subst}
use Rattle.js_grammar.specs.Hashbang.{begins_hashbang}
use Rattle.js_grammar.specs.Reads.{is_plain}
use Rattle.js_grammar.specs.declared.goal.Goal.{Goal}
use Rattle.std.proofs.lemmas.Result.{IfOk-weaker}
use Rattle.js_reader.proofs.GoalSteps.{child_unescaped}
use Rattle.js_reader.proofs.DecodedSteps.{keeps_same, no_value}
use Rattle.js_reader.specs.Reader.{ReadsWithGap}
use Rattle.js_reader.proofs.ReadingSteps.{goal_hashbang, goal_answers, some_token_before}
use Rattle.js_reader.proofs.TriviaSteps.{grows_none}
use Rattle.js_reader.proofs.reader.Reader.read_goal.Goals as goal
use Rattle.js_grammar.specs.Goals.{line_has_ended_behind}
use Rattle.js_kind.specs.TokenParts.{TokenParts}
use Rattle.std.specs.Prelude.{Option, IfOk}

pub returns-in-Some-clause-ok : goal.returns-in-Some-clause-ok
returns-in-Some-clause-ok c = λ previous line_has_ended.
    subst (λ (g : Goal). ReadsWithGap g previous c.args.self.now c.args.found.now c.in-Some.token
    c.read_hashbang.new.self
    c.args.found.now) (sym c.in-First.is)
    (goal_hashbang previous c.args.self.now c.read_hashbang.new.self c.args.found.now c.in-Some.token line_has_ended
    c.in-Some.ensures)

pub returns-in-Some-clause-grown : goal.returns-in-Some-clause-grown
returns-in-Some-clause-grown c = grows_none c.args.found.now

pub returns-in-None-clause-ok : goal.returns-in-None-clause-ok
returns-in-None-clause-ok c =
    let same = c.in-None.ensures in
    let none : begins_hashbang c.args.goal c.args.self.now.source.text c.args.self.now.source.place ≡ false =
    ap (λ g. begins_hashbang g c.args.self.now.source.text c.args.self.now.source.place) c.in-First.is ∙ same.0 in
    goal_answers c.args.goal c.args.self.now c.read_hashbang.new.self c.args.found.now c.read_behind_gap.new.self
    c.read_behind_gap.new.found c.read_behind_gap.result same.1
    (ap is_plain c.in-First.is) none c.read_behind_gap.ensures.ok

pub returns-in-Next-clause-ok : goal.returns-in-Next-clause-ok
returns-in-Next-clause-ok c =
    let none : begins_hashbang c.args.goal c.args.self.now.source.text c.args.self.now.source.place ≡ false =
    ap (λ g. begins_hashbang g c.args.self.now.source.text c.args.self.now.source.place) c.in-Next.is in
    goal_answers c.args.goal c.args.self.now c.args.self.now c.args.found.now c.read_behind_gap-in-Next.new.self
    c.read_behind_gap-in-Next.new.found c.read_behind_gap-in-Next.result
    (record { source = refl; stays = record { source_type = refl; line_has_ended = refl } })
    (ap is_plain c.in-Next.is) none c.read_behind_gap-in-Next.ensures.ok

pub returns-in-JsxChild-clause-ok : goal.returns-in-JsxChild-clause-ok
returns-in-JsxChild-clause-ok c =
    subst (λ (g : Goal). IfOk c.read_child.result (λ token. (previous : Option TokenParts)
    → line_has_ended_behind previous ≡ c.args.self.now.line_has_ended
    → ReadsWithGap g previous c.args.self.now c.args.found.now token c.read_child.new.self c.read_child.new.found))
    (sym c.in-JsxChild.is) c.read_child.ensures.ok

pub returns-in-JsxChild-clause-value : goal.returns-in-JsxChild-clause-value
returns-in-JsxChild-clause-value c =
    let before = some_token_before c.args.self.now.line_has_ended in
    IfOk-weaker c.read_child.result _ _
    (λ token read. no_value c.args.self.now.source.text c.args.decoded.now token
    (child_unescaped before.0 c.args.self.now c.read_child.new.self token (read before.0 before.1).read))
    c.read_child.ensures.ok

pub returns-in-JsxChild-clause-kept : goal.returns-in-JsxChild-clause-kept
returns-in-JsxChild-clause-kept c =
    keeps_same c.args.self.now.source.text c.args.decoded.now c.args.decoded.now refl

pub returns-in-JsxAttributeValue-clause-ok : goal.returns-in-JsxAttributeValue-clause-ok
returns-in-JsxAttributeValue-clause-ok c =
    IfOk-weaker c.read_attribute_value.result _ _
    (λ token read previous first. subst (λ (g : Goal). ReadsWithGap g previous c.args.self.now c.args.found.now token
    c.read_attribute_value.new.self c.read_attribute_value.new.found) (sym c.in-JsxAttributeValue.is)
    (read previous first)) c.read_attribute_value.ensures.ok

pub returns-in-Some-clause-kept : goal.returns-in-Some-clause-kept
returns-in-Some-clause-kept c =
    keeps_same c.args.self.now.source.text c.args.decoded.now c.args.decoded.now refl
