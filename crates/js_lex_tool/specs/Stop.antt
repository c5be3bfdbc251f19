-- The faults that `js_lex` prints.
use Rattle.js_process.specs.Status.{Status}
use Rattle.js_process.specs.Status.Status.{OutOfMemory, Usage, ReadFailed, WriteFailed, TooLong, NotUtf8, NoMark}
use Rattle.js_process.specs.Status.Status.{Diagnosed, NoArguments}
use Rattle.js_lex_tool.specs.declared.stop.StopFault.{StopFault}
use Rattle.js_lex_tool.specs.declared.stop.StopFault.TheVariants as fault

-- the status with which the program stops for a fault
abbrev pub status_of_stop : StopFault → Status
status_of_stop fault.Memory = OutOfMemory
status_of_stop fault.Usage = Usage
status_of_stop fault.ReadFailed = ReadFailed
status_of_stop fault.WriteFailed = WriteFailed
status_of_stop fault.TooLong = TooLong
status_of_stop fault.NotUtf8 = NotUtf8
status_of_stop fault.NoMark = NoMark
status_of_stop fault.Diagnosed = Diagnosed
status_of_stop fault.NoArguments = NoArguments
