use Rattle.std.proofs.Common.{ℕ, Option, []}
use Rattle.byte_groups.specs.Gathered.{lists_of}
use Rattle.byte_groups.specs.Dealt.{AreDealt}
use Rattle.byte_groups.proofs.dealt.empty_lists.Given as goal

abbrev pub invariant-loop : goal.invariant-loop
invariant-loop l = (of : ℕ → Option ℕ) → AreDealt of l.counter [] (lists_of l.lists.items)
