use Rattle.js_cursor.proofs.cursor.Cursor.parse_normal_list_breakable.Goals as goal

pub returns-in-Err-clause-err : goal.returns-in-Err-clause-err
returns-in-Err-clause-err g c =
    record { fault = c.in-Err.fault; given_is = c.from.ensures; why = c.in-Err.ensures.err }
