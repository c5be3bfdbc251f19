use Rattle.js_cursor.proofs.GoesOn.{as_before_goes_on, error_goes_on, goes_on_without_fatal_error, re_lexes_goes_on}
use Rattle.js_cursor.proofs.GoesOn.{reads_on_goes_on}
use Rattle.js_cursor.proofs.TokenSteps.{advances_goes_on, stays_expecting, stays_fatal}
use Rattle.js_cursor.proofs.laws.calls_go_on.Goals as goal

pub returns : goal.returns
returns c = record {
  advances = advances_goes_on;
  reads = reads_on_goes_on;
  re_lexes = re_lexes_goes_on;
  as_before = as_before_goes_on;
  error = error_goes_on;
  fatal = λ error old. (stays_fatal error old).goes_on;
  expects = λ kind old. (stays_expecting kind old).goes_on;
  tries = goes_on_without_fatal_error;
}
