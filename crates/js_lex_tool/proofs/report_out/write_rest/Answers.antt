use Rattle.std.proofs.Common.{◌++◌, string_bytes}
use Rattle.js_lex_tool.specs.ReportText.{found_lines}
use Rattle.js_lex_tool.proofs.Held.{ends_at_once}
use Rattle.js_lex_tool.proofs.report_out.write_rest.Goals as goal

pub returns-in-Ok : goal.returns-in-Ok
returns-in-Ok g c =
    let wrote = c.write_status.ensures in
    record {
      status = wrote.status;
      writes = rw (c.as_str.ensures.value, c.in-Ok.ensures) at wrote.text;
      faults = wrote.faults;
      in_time = wrote.in_time;
    }

pub returns-in-Err : goal.returns-in-Err
returns-in-Err g c =
    ends_at_once (string_bytes c.args.held.now ++ found_lines c.args.report.now)
    (g.O.ByteOut.state c.args.output.now)
