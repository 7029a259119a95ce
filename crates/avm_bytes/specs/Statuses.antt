-- The numbers of statuses. 0 to 3 are the exit statuses of the command line.
use Rattle.std.specs.Prelude.{ℕ}
use Rattle.avm_bytes.specs.declared.statuses.Status.{Status}
use Rattle.avm_bytes.specs.declared.statuses.Status.TheVariants as status

abbrev pub status_number : Status → ℕ
status_number status.Done = 0
status_number status.Refused = 1
status_number status.Usage = 2
status_number status.Memory = 3
status_number status.NoRoom = 4
status_number status.Propose = 5
status_number status.NoText = 6
status_number status.NotAssembled = 7
status_number status.NoProgram = 8
status_number status.NoLedger = 9
status_number status.NoBlock = 10
status_number status.WrongBase = 11
status_number status.WrongOutcome = 12
status_number status.WrongState = 13
status_number status.NoEntry = 14
status_number status.NoRun = 15
status_number status.Ended = 16
status_number status.Needs = 17
status_number status.NoHeader = 18
status_number status.NoCall = 19
status_number status.NoItems = 20
status_number status.TooLong = 21
