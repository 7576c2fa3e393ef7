use Rattle.bit_blast.specs.Rows.{AreRows}
use Rattle.blast_tests.proofs.tests.blast_times.Given as goal

abbrev pub invariant-loop : goal.invariant-loop
invariant-loop l = AreRows l.arena l.net l.rows
