use Rattle.std.proofs.Common.{◌≡◌, None, Some, length, sym, ◌∙◌, ap, arith}
use Rattle.std.specs.List.{position_or_len}
use Rattle.std.specs.Option.{option_map}
use Rattle.std.proofs.lemmas.Str.Pattern.{split_once_first}
use Rattle.js_lex_tool.specs.Words.{is_star, command_of}
use Rattle.js_lex_tool.proofs.Stars.{repeated_once}
use Rattle.js_lex_tool.proofs.words.parse_repeated.Goals as goal

pub returns-in_ok-parse_command-in-None : goal.returns-in_ok-parse_command-in-None
returns-in_ok-parse_command-in-None c =
    let none : position_or_len is_star c.args.word.now ≡ length c.args.word.now =
    split_once_first 42 c.args.word.now None c.in-None.ensures.cases (omega arith) in
    let found : command_of c.args.word.now ≡ Some c.in_ok-parse_command-in-None.field-0 =
    sym c.in_ok-parse_command-in-None.ensures in
    sym (repeated_once c.args.word.now none ∙ ap (option_map (λ command. (command, 1))) found)
