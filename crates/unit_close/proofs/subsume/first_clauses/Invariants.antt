use Rattle.std.proofs.Common.{◌≡◌, [], take}
use Rattle.unit_close.proofs.subsume.first_clauses.Given as goal

abbrev pub invariant-loop-i : goal.invariant-loop-i
invariant-loop-i l = record {
  names : l.first.names ≡ l.watches.names;
  clauses : l.first.clauses ≡ take l.i l.watches.clauses;
  idle : l.first.loose ≡ [];
}
