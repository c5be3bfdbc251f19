-- The words for the commands.
use Rattle.std.specs.Prelude.{ℕ, List, [], ◌∷◌, codes}
use Rattle.js_session.specs.declared.command.Command.{Command}
use Rattle.js_session.specs.declared.command.Command.TheVariants.{Next, JsxChild, JsxAttr, Regex, TemplateTail}
use Rattle.js_session.specs.declared.command.Command.TheVariants.{JsxName, RAngle, TsLAngle, TsRAngle, Peek}
use Rattle.js_session.specs.declared.command.Command.TheVariants.{Mark, Rewind, Commit}

-- the word for a command
abbrev pub command_word : Command → List ℕ
command_word Next = codes "next"
command_word JsxChild = codes "jsx-child"
command_word JsxAttr = codes "jsx-attr"
command_word Regex = codes "regex"
command_word TemplateTail = codes "template"
command_word JsxName = codes "jsx-name"
command_word RAngle = codes "rangle"
command_word TsLAngle = codes "ts-langle"
command_word TsRAngle = codes "ts-rangle"
command_word Peek = codes "peek"
command_word Mark = codes "mark"
command_word Rewind = codes "rewind"
command_word Commit = codes "commit"

-- each command once
abbrev pub all_commands : List Command
all_commands =
    Next ∷ JsxChild ∷ JsxAttr ∷ Regex ∷ TemplateTail ∷ JsxName ∷ RAngle ∷ TsLAngle ∷ TsRAngle ∷ Peek ∷ Mark ∷ Rewind
    ∷ Commit ∷ []
