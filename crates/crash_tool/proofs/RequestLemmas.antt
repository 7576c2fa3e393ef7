-- From what was asked for by the answer to the same by the status.
use Rattle.std.proofs.Common.{◌≡◌, ℕ, List, Option, Some, None, Result, Ok, Err, sym, subst, inl, inr, arith}
use Rattle.std.specs.Prelude.{IsErrAnd}
use Rattle.fault_io.specs.Files.{Files}
use Rattle.fault_io.specs.Requests.{Request}
use Rattle.crash_tool.specs.declared.answer.Refusal.{Refusal}
use Rattle.crash_tool.specs.declared.answer.Role.TheVariants.{Program}
use Rattle.tool_words.specs.Words.{Task, Asked, OnFiles, OnDemo}
use Rattle.crash_tool.specs.Refusals.{Answer, status, status_of}
use Rattle.crash_tool.specs.Answers.{read_of}
use Rattle.crash_tool.specs.Call.{Change, Says}
use Rattle.crash_tool.specs.Requests.{IsUnread, AsksFor}
use Rattle.crash_tool.proofs.CallLemmas.{no_refusal_is_0}

-- where the program was not read, no text comes
no_text : (task : Task) (failed : Type 0) (files : Option Files) → IsUnread task files failed 0 → ⊥
no_text task failed None (inl e) = omega arith
no_text task failed None (inr (inl e)) = let is = e.0 in omega arith
no_text task failed None (inr (inr e)) = omega arith
no_text task failed (Some held) (inl e) = omega arith
no_text task failed (Some held) (inr (inl e)) = let is = e.0 in omega arith
no_text task failed (Some held) (inr (inr e)) = by (read_of Program (held task.program)) e
  where
    by : (r : Result (List ℕ) Refusal) → IsErrAnd r (λ refusal. 0 ≡ status_of refusal) → ⊥
    by (Ok bytes) is = is
    by (Err refusal) is = no_refusal_is_0 refusal (sym is)

-- the status that is given is the answer's, but for a text that could not be written
pub said-asked : (w : Option Asked) (files : Option Files) (failed : Type 0) (before after : List Request) (a : Answer) (out err : Change) (s : ℕ)
    → AsksFor w files failed before after (status a) → Says a out err s → AsksFor w files failed before after s
said-asked w files failed before after (Err r) out err s asks says = subst (λ given. AsksFor w files failed before after given) (sym says.status_is) asks
said-asked None files failed before after (Ok b) out err s asks says = asks
said-asked (Some (OnDemo kind size options)) files failed before after (Ok b) out err s asks says = asks
said-asked (Some (OnFiles task)) files failed before after (Ok b) out err s (inl none) says = let is = none.1 in absurd (omega arith)
said-asked (Some (OnFiles task)) files failed before after (Ok b) out err s (inr (inl one)) says = absurd (no_text task failed files one.1)
said-asked (Some (OnFiles task)) files failed before after (Ok b) out err s (inr (inr both)) says = inr (inr both)
