-- What a report that can't be made means for the receiver.
use Rattle.report_maker.specs.declared.error.ReportError.{ReportError}
use Rattle.report_maker.specs.declared.error.ReportError.TheVariants as report
use Rattle.receiver_replay.specs.declared.error.ReceiveError.{ReceiveError}
use Rattle.receiver_replay.specs.declared.error.ReceiveError.TheVariants.{Program, StillRunning, NoCrash, Spent, NoMemory}

-- the same cause
abbrev pub error_of : ReportError → ReceiveError
error_of (report.Program rule) = Program rule
error_of report.StillRunning = StillRunning
error_of report.NoCrash = NoCrash
error_of (report.Spent first width) = Spent first width
error_of report.NoMemory = NoMemory
