-- The programs beside `js_lex`: their names, and what each prints where its arguments are not valid.
use Rattle.std.specs.Prelude.{ℕ, List, codes}

abbrev pub js_edit : List ℕ
js_edit = codes "js_edit"

abbrev pub js_edit_usage : List ℕ
js_edit_usage =
    codes "usage: js_edit module|script|unambiguous START END TEXT COMMAND[*N].. [-- COMMAND[*N]..]"

abbrev pub js_bench : List ℕ
js_bench = codes "js_bench"

abbrev pub js_bench_usage : List ℕ
js_bench_usage = codes "usage: js_bench module|script|unambiguous tokens|no-tokens|lists N [jsx]"

abbrev pub js_parse_example : List ℕ
js_parse_example = codes "js_parse_example"

-- it takes no arguments
abbrev pub js_parse_example_usage : List ℕ
js_parse_example_usage = codes "usage: js_parse_example"
