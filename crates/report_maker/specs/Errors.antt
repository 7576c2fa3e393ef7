-- What the error of a part means for the whole.
use Rattle.std.specs.Prelude.{◌≡◌, ◌≢◌, ◌⊎◌}
use Rattle.elf32.specs.declared.error.ElfError.{ElfError}
use Rattle.elf32.specs.declared.error.ElfError.TheVariants as rules
use Rattle.wide_solve.specs.declared.error.WideError.{WideError}
use Rattle.wide_solve.specs.declared.error.WideError.TheVariants as wide
use Rattle.report_maker.specs.declared.error.MakeError.{MakeError}
use Rattle.report_maker.specs.declared.error.MakeError.TheVariants as make
use Rattle.report_maker.specs.declared.error.ReportError.{ReportError}
use Rattle.report_maker.specs.declared.error.ReportError.TheVariants as report

-- a search that found nothing: the same cause
abbrev pub error_of : WideError → MakeError
error_of (wide.Spent first width) = make.Spent first width
error_of wide.NoMemory = make.NoMemory

-- a report that isn't made of a trace: the same cause
abbrev pub of_make : MakeError → ReportError
of_make (make.Spent first width) = report.Spent first width
of_make make.NoMemory = report.NoMemory

-- the rule that a file breaks, or want of memory, which is no rule
abbrev pub IsOfRule : ElfError → ReportError → Type 0
IsOfRule rule error = ((rule ≢ rules.NoMemory) × (error ≡ report.Program rule)) ⊎ ((rule ≡ rules.NoMemory) × (error ≡ report.NoMemory))

-- a rule that is named is one of the thirteen
abbrev pub NamesRule : ReportError → Type 0
NamesRule (report.Program rule) = rule ≢ rules.NoMemory
NamesRule _ = Unit {0}
