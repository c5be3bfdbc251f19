use Rattle.js_session.proofs.RunsOn.{run_reserved, run_reserved_from}
use Rattle.js_session.proofs.laws.reserving_marks_is_no_command.Goals as goal

pub returns-clause-from_start : goal.returns-clause-from_start
returns-clause-from_start c = run_reserved

pub returns-clause-from_token : goal.returns-clause-from_token
returns-clause-from_token c = run_reserved_from
