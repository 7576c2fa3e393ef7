use Rattle.std.proofs.Common.{◌≡◌, ◌∙◌, arith, false, sym}
use Rattle.fault_io.specs.Reads.{fails}
use Rattle.fault_io.proofs.ReadLemmas.{fails_not_listed, fails_not_last, fails_listed, one_more}
use Rattle.fault_io.proofs.mem_folder.Reads.make.Goals as goal
use Rattle.fault_io.proofs.mem_folder.Reads.make.Goals.{else-self-lt18446744073709551615-via-then-self-lt18446744073709551615+else-contains, else-self-lt18446744073709551615-via-else-self-lt18446744073709551615}

-- the read that was made didn't fail
passed : (c : goal.Joined-else-self-lt18446744073709551615) → fails c.loop-more.self.failing c.saturating_add-self.result ≡ false
passed c = elim c.else-self-lt18446744073709551615.branch [
  | else-self-lt18446744073709551615-via-then-self-lt18446744073709551615+else-contains w ↦ rw (← w.as_slice.ensures) (fails_not_listed w.as_slice.result.now c.saturating_add-self.result (sym w.contains.ensures.value ∙ w.if-contains.false))
  | else-self-lt18446744073709551615-via-else-self-lt18446744073709551615 w ↦ fails_not_last _ _ w.if-self-lt18446744073709551615.false
]

pub loop-more-preserved : goal.loop-more-preserved
loop-more-preserved c = record {
  kept = c.loop-more.invariant.kept;
  from = c.loop-more.invariant.from;
  made = c.saturating_add-self.ensures;
  most = omega arith;
  quiet = one_more _ _ _ _ c.loop-more.invariant.quiet (omega arith) (rw c.loop-more.invariant.kept at (passed c));
}

pub returns-then-contains-clause-kept : goal.returns-then-contains-clause-kept
returns-then-contains-clause-kept c = c.loop-more.invariant.kept

pub returns-then-contains-clause-failed : goal.returns-then-contains-clause-failed
returns-then-contains-clause-failed c = λ is. record {
  later = omega arith;
  others = λ number above below. c.loop-more.invariant.quiet number above (omega arith);
  fault =
      let listed = fails_listed c.as_slice.result.now c.saturating_add-self.result c.if-self-lt18446744073709551615.true (sym c.contains.ensures.value ∙ c.if-contains.true) in
      rw (c.as_slice.ensures, c.loop-more.invariant.kept) at listed;
}
