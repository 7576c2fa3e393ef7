-- From the files that were read to the answer.
use Rattle.std.proofs.Common.{◌≡◌, ◌≢◌, ◌∙◌, ℕ, Bool, true, false, List, length, nat_lt, Option, Some, None, Result, Ok, Err, IfOk, IfErr, IfSome, refl, ap, subst, inl, inr}
use Rattle.std.specs.Prelude.{if◌then◌else◌}
use Rattle.fault_io.specs.Files.{Files}
use Rattle.crash_tool.specs.declared.answer.Refusal.{Refusal}
use Rattle.crash_tool.specs.declared.answer.Refusal.TheVariants.{NoMemory, Usage, CannotRead, TooLong, NotAProgram, NoCrash, StillRunning, Spent, NotAReport, WrongProgram, Differs}
use Rattle.crash_tool.specs.declared.answer.Role.{Role}
use Rattle.crash_tool.specs.declared.answer.Role.TheVariants.{Program, Input}
use Rattle.tool_words.specs.declared.words.Action.TheVariants.{Make, Check}
use Rattle.tool_words.specs.Words.{Task}
use Rattle.crash_tool.specs.Refusals.{Answer, IsGiven}
use Rattle.crash_tool.specs.Made.{transcript_under}
use Rattle.crash_tool.specs.Outcome.{outcome}
use Rattle.crash_tool.specs.Answers.{limit_of, read_of, role_of, IsAnswerOf, IsOfSecond, IsOfProgram, IsDone}
use Rattle.crash_tool.specs.Received.{IsAccepted}
use Rattle.crash_tool.specs.Call.{IsReadBut, IsBut, IsRightBut, IsReadFault, IsOfFiles, IsReceived}

-- a read that answered a file answered the true one
was_read : (true_one : Result (List ℕ) Refusal) (p : List ℕ) (failed : Type 0) → IsReadBut true_one failed (Ok p) → Ok p ≡ true_one
was_read true_one p failed (inl is) = is
was_read true_one p failed (inr (inl bad)) = cc
was_read true_one p failed (inr (inr bad)) = absurd bad.0

-- a file that was read is the one that is held
is_held : (role : Role) (file : Option (List ℕ)) (p q : List ℕ) → Ok p ≡ read_of role file → file ≡ Some q → p ≡ q
is_held role file p q read held = by (nat_lt (limit_of role) (length q)) (read ∙ ap (read_of role) held)
  where
    by : (b : Bool) → Ok p ≡ (if b then Err (TooLong role) else Ok q) → p ≡ q
    by true is = cc
    by false is = cc

module _ (task : Task) (files later : Option Files) (p : List ℕ) (first second failed : Type 0) where
  abbrev FirstRead : Type 0
  FirstRead = IfSome files (λ held. IsReadBut (read_of Program (held task.program)) first (Ok p))

  abbrev SecondRead : Result (List ℕ) Refusal → Type 0
  SecondRead given = IfSome later (λ held. IsReadBut (read_of (role_of task.action) (held task.second)) second given)

-- the program was read, and the second file was not
pub second-refused : (task : Task) (files later : Option Files) (p : List ℕ) (first second failed : Type 0) (refusal : Refusal)
    → FirstRead task files later p first second failed → later ≡ files → SecondRead task files later p first second failed (Err refusal) → (second → failed)
    → IfSome files (λ held. IsRightBut (IsDone task held) failed (Err refusal))
second-refused task None later p first second failed refusal a same b fails = tt
second-refused task (Some held) later p first second failed refusal a same b fails =
    go (was_read _ p first a) (subst (λ f. IfSome f (λ h. IsReadBut (read_of (role_of task.action) (h task.second)) second (Err refusal))) same b)
  where
    go : Ok p ≡ read_of Program (held task.program) → IsReadBut (read_of (role_of task.action) (held task.second)) second (Err refusal) → IsRightBut (IsDone task held) failed (Err refusal)
    go is (inl e) = inl (subst (λ r. IsOfProgram task held r (Err refusal)) is (subst (λ r. IsOfSecond task p r (Err refusal)) e refl))
    go is (inr (inl e)) = inr (inl (cc))
    go is (inr (inr e)) = inr (inr (e.0, fails e.1))

-- both files were read
pub both-read : (task : Task) (files later : Option Files) (p x : List ℕ) (first second failed : Type 0) (a : Answer)
    → FirstRead task files later p first second failed → later ≡ files → SecondRead task files later p first second failed (Ok x) → IsBut (IsAnswerOf task.action p task.options x) a
    → IfSome files (λ held. IsRightBut (IsDone task held) failed a)
both-read task None later p x first second failed a r same s is = tt
both-read task (Some held) later p x first second failed a r same s (inl is) =
    let one = was_read _ p first r in
    let two = was_read _ x second (subst (λ f. IfSome f (λ h. IsReadBut (read_of (role_of task.action) (h task.second)) second (Ok x))) same s) in
    inl (subst (λ t. IsOfProgram task held t a) one (subst (λ t. IsOfSecond task p t a) two is))
both-read task (Some held) later p x first second failed a r same s (inr wanted) = inr (inl wanted)

-- and what was read is what is held
pub both-received : (task : Task) (files later : Option Files) (p x : List ℕ) (first second failed : Type 0) (a : Answer)
    → FirstRead task files later p first second failed → later ≡ files → SecondRead task files later p first second failed (Ok x) → (task.action ≡ Check → IfOk a (λ _. IsAccepted p task.options x))
    → IfSome files (IsReceived task a)
both-received task None later p x first second failed a r same s is = tt
both-received task (Some held) later p x first second failed a r same s is = λ q bytes action is_q is_bytes.
    let one = is_held Program (held task.program) p q (was_read _ p first r) is_q in
    let two = is_held (role_of task.action) (held task.second) x bytes (was_read _ x second (subst (λ f. IfSome f (λ h. IsReadBut (read_of (role_of task.action) (h task.second)) second (Ok x))) same s)) is_bytes in
    subst (λ u. IfOk a (λ _. IsAccepted u task.options bytes)) one (subst (λ u. IfOk a (λ _. IsAccepted p task.options u)) two (is action))

-- where both files are held, the answer to `make` is the outcome
pub make-outcome : (task : Task) (held : Files) (p x : List ℕ) (a : Answer) → IsDone task held a → task.action ≡ Make → held task.program ≡ Some p → held task.second ≡ Some x
    → a ≡ outcome p task.options (length x) (transcript_under p task.options x)
unfolding outcome
make-outcome task held p x a done is_make is_p is_x = of_program (nat_lt 16777216 (length p)) refl (subst (λ f. IsOfProgram task held (read_of Program f) a) is_p done)
  where
    of_second : (c : Bool) → nat_lt 16777216 (length p) ≡ false → nat_lt 65536 (length x) ≡ c → IsOfSecond task p (if c then Err (TooLong Input) else Ok x) a
        → a ≡ outcome p task.options (length x) (transcript_under p task.options x)
    of_second true eb ec is = rw (eb, ec) is
    of_second false eb ec is = subst (λ action. IsAnswerOf action p task.options x a) is_make is

    of_program : (b : Bool) → nat_lt 16777216 (length p) ≡ b → IsOfProgram task held (if b then Err (TooLong Program) else Ok p) a
        → a ≡ outcome p task.options (length x) (transcript_under p task.options x)
    of_program true eb is = rw eb is
    of_program false eb is =
        let at : IsOfSecond task p (read_of Input (Some x)) a = subst (λ f. IsOfSecond task p (read_of Input f) a) is_x (subst (λ action. IsOfSecond task p (read_of (role_of action) (held task.second)) a) is_make is) in
        of_second (nat_lt 65536 (length x)) eb refl at

-- ---- refusals that come of files that were read

pub no_read_fault : (a : Answer) → IfErr a IsOfFiles → IsReadFault a → ⊥
no_read_fault (Ok b) is fault = fault
no_read_fault (Err (CannotRead role)) is fault = is
no_read_fault (Err _) is fault = fault

pub no_usage : (a : Answer) → IfErr a IsOfFiles → a ≢ Err Usage
no_usage (Ok b) is e = cc
no_usage (Err r) is e =
    let same : r ≡ Usage = cc in
    subst IsOfFiles same is

-- they are given
pub of_files : (a : Answer) → IfErr a IsOfFiles → IfErr a IsGiven
of_files (Ok b) is = tt
of_files (Err NoMemory) is = tt
of_files (Err Usage) is = tt
of_files (Err (CannotRead role)) is = tt
of_files (Err (TooLong role)) is = tt
of_files (Err (NotAProgram rule)) is = is
of_files (Err NoCrash) is = tt
of_files (Err StillRunning) is = tt
of_files (Err (Spent first width)) is = tt
of_files (Err (NotAReport line)) is = tt
of_files (Err WrongProgram) is = tt
of_files (Err (Differs line)) is = tt

-- an answer of files is right but for want of memory
pub but_for_memory : (is : Answer → Type 0) (failed : Type 0) (a : Answer) → IsBut is a → IsRightBut is failed a
but_for_memory is failed a (inl right) = inl right
but_for_memory is failed a (inr wanted) = inr (inl wanted)
