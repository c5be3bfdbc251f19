use Rattle.js_parse_tool.proofs.arrow.pass_parameters.Goals as goal

pub returns-in_err-parse_delimited_list-clause-goes_on : goal.returns-in_err-parse_delimited_list-clause-goes_on
returns-in_err-parse_delimited_list-clause-goes_on g c =
    c.going_on_composes.ensures.goes c.args.cursor.now c.expect.new.self c.parse_delimited_list.new.self
    c.expect.ensures.onward.goes_on (c.parse_delimited_list.ensures.goes_on.goes_on (λ f from answer h to read. read))

pub returns-in_err-expect-2-clause-goes_on : goal.returns-in_err-expect-2-clause-goes_on
returns-in_err-expect-2-clause-goes_on g c =
    c.going_on_composes.ensures.goes c.args.cursor.now c.parse_delimited_list.new.self c.expect-2.new.self
    (c.going_on_composes.ensures.goes c.args.cursor.now c.expect.new.self c.parse_delimited_list.new.self
    c.expect.ensures.onward.goes_on (c.parse_delimited_list.ensures.goes_on.goes_on (λ f from answer h to read. read)))
    c.expect-2.ensures.onward.goes_on

pub returns-clause-goes_on : goal.returns-clause-goes_on
returns-clause-goes_on g c =
    c.going_on_composes.ensures.goes c.args.cursor.now c.parse_delimited_list.new.self c.expect-2.new.self
    (c.going_on_composes.ensures.goes c.args.cursor.now c.expect.new.self c.parse_delimited_list.new.self
    c.expect.ensures.onward.goes_on (c.parse_delimited_list.ensures.goes_on.goes_on (λ f from answer h to read. read)))
    c.expect-2.ensures.onward.goes_on
