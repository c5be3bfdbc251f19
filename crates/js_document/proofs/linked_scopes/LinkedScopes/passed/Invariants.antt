use Rattle.std.proofs.Common.{◌≡◌, ◌-◌, ◌≤◌, drop, length}
use Rattle.js_jsx.specs.Scopes.{skip_while}
use Rattle.js_document.specs.LinkedScopes.{is_passed}
use Rattle.js_document.proofs.linked_scopes.LinkedScopes.passed.Given as goal

-- What is left behind those that were passed is what is left behind all that are.
abbrev pub invariant-loop-scope : goal.invariant-loop-scope
invariant-loop-scope l = record {
  few : l.count ≤ length l.self;
  rest : l.rest ≡ drop l.count l.self;
  left : skip_while (is_passed l.passed) (drop l.count l.self) ≡ skip_while (is_passed l.passed) l.self;
}

abbrev pub decreases-loop-scope : goal.decreases-loop-scope
decreases-loop-scope l = length l.self - l.count
