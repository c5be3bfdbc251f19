-- Which command comes next in code, where nothing is open but braces: there the class of the last token tells.
use Rattle.std.specs.Prelude.{Option, Some, None, if◌then◌else◌}
use Rattle.js_session.specs.declared.command.Command.{Command}
use Rattle.js_session.specs.declared.command.Command.TheVariants.{Next, JsxChild, Regex, TemplateTail}
use Rattle.js_jsx.specs.declared.change.Change.TheVariants.{Stays}
use Rattle.js_jsx.specs.declared.class.TokenClass.{TokenClass}
use Rattle.js_jsx.specs.declared.class.TokenClass.TheVariants as classes
use Rattle.js_jsx.specs.Changes.{changed}
use Rattle.js_jsx.specs.Choice.{is_in_template}
use Rattle.js_jsx.specs.Scopes.{is_children, passes, top}
use Rattle.js_jsx.specs.States.{State, ends}

-- A brace may close the last one that is open, behind which children go on.
abbrev pub reads_behind_brace : State → TokenClass → Command
reads_behind_brace state class =
    if passes is_children (top (changed Stays class state.scopes)) then JsxChild else Next

-- a `/` or `/=` divides, or begins a regular expression
abbrev pub command_at_slash : State → Command
command_at_slash state = if ends state then Next else Regex

-- the command behind a last token of the class in code
abbrev pub choice_in_code : State → TokenClass → Option Command
choice_in_code state classes.End = None
choice_in_code state classes.RightCurly =
    if is_in_template state then Some TemplateTail else Some (reads_behind_brace state classes.RightCurly)
choice_in_code state classes.TemplateTail = Some (reads_behind_brace state classes.TemplateTail)
choice_in_code state classes.Slash = Some (command_at_slash state)
choice_in_code state classes.SlashEqual = Some (command_at_slash state)
choice_in_code state _ = Some Next
