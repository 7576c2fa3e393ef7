use Rattle.std.proofs.Common.{◌≡◌, take, map, Some}
use Rattle.std.specs.List.{All}
use Rattle.rv_decode.specs.Rows.{IsWellFormed}
use Rattle.rv_decode.specs.Table.{decoded}
use Rattle.test_programs.proofs.program.instructions.Given as goal

abbrev pub invariant-loop-word : goal.invariant-loop-word
invariant-loop-word l = record { stand : map decoded (take l.word-index l.words) ≡ map Some l.code.items; formed : All IsWellFormed l.code.items }
