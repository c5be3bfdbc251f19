use Rattle.js_lex_tool.proofs.tool.report_status.Goals as goal

pub from_utf8_unchecked-source-requires : goal.from_utf8_unchecked-source-requires
from_utf8_unchecked-source-requires g c = rw c.as_slice.ensures c.requires.utf8

pub write_report_text-requires : goal.write_report_text-requires
write_report_text-requires g c = rw (c.from_utf8_unchecked-source.ensures, c.as_slice.ensures) c.requires.slices

pub returns-clause-status : goal.returns-clause-status
returns-clause-status g c = c.write_report_text.ensures.status

pub returns-clause-text : goal.returns-clause-text
returns-clause-text g c =
    rw (c.from_utf8_unchecked-source.ensures, c.as_slice.ensures) at c.write_report_text.ensures.writes

pub returns-clause-faults : goal.returns-clause-faults
returns-clause-faults g c = c.write_report_text.ensures.faults

pub returns-clause-in_time : goal.returns-clause-in_time
returns-clause-in_time g c = c.write_report_text.ensures.in_time
