-- What each command does: one function of the command, on which everything else about commands rests.
use Rattle.std.specs.Prelude.{ℕ, ◌+◌, ◌-◌, Bool, true, false, List, [], ◌∷◌, Option, Some, None}
use Rattle.js_grammar.specs.declared.goal.Goal.TheVariants.{First, Next as NextGoal, TemplateTail as TailGoal}
use Rattle.js_grammar.specs.declared.goal.Goal.TheVariants.{RegularExpression, RightAngle, TypeScriptLeftAngle}
use Rattle.js_grammar.specs.declared.goal.Goal.TheVariants.{TypeScriptRightAngle, JsxIdentifier}
use Rattle.js_grammar.specs.declared.goal.Goal.TheVariants.{JsxChild as ChildGoal, JsxAttributeValue}
use Rattle.js_session.specs.declared.command.Command.{Command}
use Rattle.js_session.specs.declared.command.Command.TheVariants.{Next, JsxChild, JsxAttr, Regex, TemplateTail}
use Rattle.js_session.specs.declared.command.Command.TheVariants.{JsxName, RAngle, TsLAngle, TsRAngle, Peek}
use Rattle.js_session.specs.declared.command.Command.TheVariants.{Mark, Rewind, Commit}
use Rattle.js_session.specs.declared.command.Effect.{Effect}
use Rattle.js_session.specs.declared.command.Effect.TheVariants.{Reads, Peeks, ReLexes, Opens, Rewinds, Commits}

-- the effect of a command
abbrev pub effect_of : Command → Effect
effect_of Next = Reads NextGoal
effect_of JsxChild = Reads ChildGoal
effect_of JsxAttr = Reads JsxAttributeValue
effect_of Regex = ReLexes RegularExpression
effect_of TemplateTail = ReLexes TailGoal
effect_of JsxName = ReLexes JsxIdentifier
effect_of RAngle = ReLexes RightAngle
effect_of TsLAngle = ReLexes TypeScriptLeftAngle
effect_of TsRAngle = ReLexes TypeScriptRightAngle
effect_of Peek = Peeks NextGoal
effect_of Mark = Opens
effect_of Rewind = Rewinds
effect_of Commit = Commits

-- the effect of the command of a row; the first row, which has none, reads the first goal
abbrev pub row_effect : Option Command → Effect
row_effect None = Reads First
row_effect (Some command) = effect_of command

-- the effects that give a row
abbrev pub gives_row : Effect → Bool
gives_row (Reads goal) = true
gives_row (Peeks goal) = true
gives_row (ReLexes goal) = true
gives_row Opens = false
gives_row Rewinds = false
gives_row Commits = false

-- the effects that close a mark
abbrev pub closes_mark : Effect → Bool
closes_mark (Reads goal) = false
closes_mark (Peeks goal) = false
closes_mark (ReLexes goal) = false
closes_mark Opens = false
closes_mark Rewinds = true
closes_mark Commits = true

-- the effects that open one
abbrev pub opens_mark : Effect → Bool
opens_mark (Reads goal) = false
opens_mark (Peeks goal) = false
opens_mark (ReLexes goal) = false
opens_mark Opens = true
opens_mark Rewinds = false
opens_mark Commits = false

-- the effects that give a row which stays: its token is live from then on, or is the last live one
abbrev pub lasts : Effect → Bool
lasts (Reads goal) = true
lasts (Peeks goal) = false
lasts (ReLexes goal) = true
lasts Opens = false
lasts Rewinds = false
lasts Commits = false

-- the commands that give a row
abbrev pub is_step : Command → Bool
is_step command = gives_row (effect_of command)

-- the commands that give a row which stays
abbrev pub is_lasting : Command → Bool
is_lasting command = lasts (effect_of command)

-- the commands that close a mark
abbrev pub closes : Command → Bool
closes command = closes_mark (effect_of command)

-- the commands that open one
abbrev pub opens_one : Command → Bool
opens_one command = opens_mark (effect_of command)

-- How many places for marks are free after an effect, where so many were before it: opening a mark takes one, and
-- closing it frees that again.
abbrev pub free_after : Effect → ℕ → ℕ
free_after (Reads goal) free = free
free_after (Peeks goal) free = free
free_after (ReLexes goal) free = free
free_after Opens free = free - 1
free_after Rewinds free = free + 1
free_after Commits free = free + 1

-- how many have to be free before an effect, where so many have to be after it
abbrev pub needed_before : Effect → ℕ → ℕ
needed_before (Reads goal) needed = needed
needed_before (Peeks goal) needed = needed
needed_before (ReLexes goal) needed = needed
needed_before Opens needed = needed + 1
needed_before Rewinds needed = needed - 1
needed_before Commits needed = needed - 1

-- how many have to be free before these commands, so that each that opens a mark finds one
abbrev pub marks_needed : List Command → ℕ
marks_needed [] = 0
marks_needed (c ∷ cs) = needed_before (effect_of c) (marks_needed cs)
