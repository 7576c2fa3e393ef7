use Rattle.std.proofs.Common.{rules}
use Rattle.rv_event.proofs.Derived.{ends}
use Rattle.rv_event.proofs.SameLemmas.{same_transcript_from}
use Rattle.rv_event.proofs.transcript.Transcript.agrees.Goals as goal

pub returns-then-same_end-clause-equal : goal.returns-then-same_end-clause-equal
returns-then-same_end-clause-equal c = search (rules, ends)

pub returns-else-same_end-clause-equal : goal.returns-else-same_end-clause-equal
returns-else-same_end-clause-equal c = search (rules, ends)

pub returns-then-same_end-clause-computed : goal.returns-then-same_end-clause-computed
returns-then-same_end-clause-computed c = same_transcript_from _ _ _ (returns-then-same_end-clause-equal c)

pub returns-else-same_end-clause-computed : goal.returns-else-same_end-clause-computed
returns-else-same_end-clause-computed c = same_transcript_from _ _ _ (returns-else-same_end-clause-equal c)
