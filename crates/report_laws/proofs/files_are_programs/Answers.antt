use Rattle.elf32.proofs.Accepted.{entry_aligned}
use Rattle.report_laws.proofs.FileLemmas.{file_is_program}
use Rattle.report_laws.proofs.files_are_programs.Goals as goal

pub returns : goal.returns
returns c = λ bytes in_range unbroken. file_is_program bytes in_range (entry_aligned bytes unbroken)
