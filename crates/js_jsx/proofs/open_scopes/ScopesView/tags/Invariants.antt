use Rattle.std.proofs.Common.{◌≡◌, ◌-◌, drop, length}
use Rattle.js_jsx.specs.Scopes.{is_tag, skip_while}
use Rattle.js_jsx.proofs.open_scopes.ScopesView.tags.Given as goal

-- What is left behind those that were passed is what is left behind all that are skipped.
abbrev pub invariant-loop-scope : goal.invariant-loop-scope
invariant-loop-scope l = skip_while is_tag (drop l.depth l.self) ≡ skip_while is_tag l.self

abbrev pub decreases-loop-scope : goal.decreases-loop-scope
decreases-loop-scope l = length l.self - l.depth
