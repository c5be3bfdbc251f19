-- Why a call gives no lists, and what it answers then.
use Rattle.std.specs.Prelude.{◌≡◌, ℕ, ◌<◌, ◌≤◌, List, length, map, slice_index}
use Rattle.js_session.specs.Faults.{Cause, SourceCause}
use Rattle.js_session.specs.declared.command.Command.{Command}
use Rattle.js_session.specs.declared.fault.LexFault.{LexFault}
use Rattle.js_session.specs.declared.fault.LexFault.TheVariants.{Overlong, NotUtf8, NoMark, Memory}
use Rattle.js_lex_c.specs.Numbers.{command_count, command_number, source_type_count}
use Rattle.js_lex_c.specs.declared.fault.Fault.{Fault}
use Rattle.js_lex_c.specs.declared.fault.Fault.TheVariants.{UnknownSourceType, UnknownCommand, Lex}

abbrev pub out_of_memory : Fault
out_of_memory = Lex Memory

-- what a call answers
abbrev pub lex_fault_number : LexFault → ℕ
lex_fault_number Overlong = 11
lex_fault_number (NotUtf8 at) = 6
lex_fault_number (NoMark index) = 7
lex_fault_number Memory = 1

abbrev pub fault_number : Fault → ℕ
fault_number UnknownSourceType = 13
fault_number (UnknownCommand index) = 12
fault_number (Lex fault) = lex_fault_number fault

-- the offset of a byte or the index of a command
abbrev pub lex_fault_place : LexFault → ℕ
lex_fault_place Overlong = 0
lex_fault_place (NotUtf8 at) = at
lex_fault_place (NoMark index) = index
lex_fault_place Memory = 0

abbrev pub fault_place : Fault → ℕ
fault_place UnknownSourceType = 0
fault_place (UnknownCommand index) = index
fault_place (Lex fault) = lex_fault_place fault

-- The number at the index is the first that is that of no command.
pub record FirstUnknown (numbers : List ℕ) (index : ℕ) : Type 0 where
  pub within : index < length numbers
  pub unknown : command_count ≤ slice_index numbers index
  pub earlier : (i : ℕ) → i < index → slice_index numbers i < command_count

-- There was no memory, and the number is that of a source type: this is tested before memory is asked for.
pub record LacksMemory (number : ℕ) (fault : Fault) : Type 0 where
  pub memory : fault ≡ out_of_memory
  pub known : number < source_type_count

-- The number is that of no source type, and this is the fault.
pub record IsUnknownType (number : ℕ) (fault : Fault) : Type 0 where
  pub fault_is : fault ≡ UnknownSourceType
  pub past : source_type_count ≤ number

-- the cause of a fault of the numbers of commands
abbrev pub CommandsFault : List ℕ → Fault → Type 0
CommandsFault numbers UnknownSourceType = ⊥
CommandsFault numbers (UnknownCommand index) = FirstUnknown numbers index
CommandsFault numbers (Lex fault) = ⊥

-- the cause of a fault of a source whose goals are chosen, with this number of a source type
abbrev pub AutoFaultCause : List ℕ → ℕ → Fault → Type 0
AutoFaultCause source number UnknownSourceType = source_type_count ≤ number
AutoFaultCause source number (UnknownCommand index) = ⊥
AutoFaultCause source number (Lex fault) = (number < source_type_count) × SourceCause source fault

-- the same with these numbers of commands
abbrev pub StepsFaultCause : List ℕ → ℕ → List ℕ → Fault → Type 0
StepsFaultCause source number numbers UnknownSourceType = source_type_count ≤ number
StepsFaultCause source number numbers (UnknownCommand index) =
    (number < source_type_count) × FirstUnknown numbers index
StepsFaultCause source number numbers (Lex fault) =
    (number < source_type_count)
    × ((commands : List Command) × (map command_number commands ≡ numbers) × Cause source commands fault)
