use Rattle.std.proofs.Common.{◌≡◌, ◌∙◌, Some, ap, arith, drop, sym}
use Rattle.std.specs.Prelude.{slice_get}
use Rattle.std.proofs.lemmas.Option.{slice_get_within}
use Rattle.js_jsx.specs.Scopes.{top}
use Rattle.js_jsx.proofs.ScopeLemmas.{skips_all, skips_none, skips_one}
use Rattle.js_jsx.proofs.StackLemmas.{first_behind}
use Rattle.js_document.specs.LinkedScopes.{is_passed}
use Rattle.js_document.proofs.OpenedLemmas.{drop_next}
use Rattle.js_document.proofs.linked_scopes.LinkedScopes.passed.Goals as goal

pub loop-scope-preserved : goal.loop-scope-preserved
loop-scope-preserved c =
    let scopes = c.args.self.now in
    let count = c.loop-scope.count in
    let at : Some c.in-Some.scope ≡ slice_get scopes count =
    c.in-Some.ensures ∙ ap top c.loop-scope.invariant.rest ∙ first_behind count scopes in
    let within = slice_get_within scopes count c.in-Some.scope (sym at) in
    record {
      few = omega (arith, within);
      rest = c.without-below.ensures ∙ ap (drop 1) c.loop-scope.invariant.rest ∙ drop_next count scopes;
      left =
          sym
          (skips_one (is_passed c.args.passed) scopes count c.in-Some.scope at
          (sym c.takes.ensures ∙ c.if-not-takes.false))
          ∙ c.loop-scope.invariant.left;
    }

pub loop-scope-smaller : goal.loop-scope-smaller
loop-scope-smaller c =
    let scopes = c.args.self.now in
    let count = c.loop-scope.count in
    let at : Some c.in-Some.scope ≡ slice_get scopes count =
    c.in-Some.ensures ∙ ap top c.loop-scope.invariant.rest ∙ first_behind count scopes in
    let within = slice_get_within scopes count c.in-Some.scope (sym at) in
    omega (arith, within)

pub returns-then-not-takes : goal.returns-then-not-takes
returns-then-not-takes c =
    let scopes = c.args.self.now in
    let count = c.loop-scope.count in
    let at = c.in-Some.ensures ∙ ap top c.loop-scope.invariant.rest ∙ first_behind count scopes in
    skips_none (is_passed c.args.passed) scopes count c.in-Some.scope at (sym c.takes.ensures ∙ c.if-not-takes.true)
    ∙ c.loop-scope.invariant.left

pub returns-in_default : goal.returns-in_default
returns-in_default c =
    let scopes = c.args.self.now in
    let count = c.loop-scope.count in
    skips_all (is_passed c.args.passed) scopes count
    (c.in_default.ensures ∙ ap top c.loop-scope.invariant.rest ∙ first_behind count scopes)
    ∙ c.loop-scope.invariant.left
