-- From what was said to what the call promises.
use Rattle.std.proofs.Common.{◌≡◌, ◌≢◌, ◌∙◌, ℕ, List, [], length, Option, Some, None, refl, sym, ap, subst, inl, inr, arith, append-nil, Ok, Err, IfOk, IfErr, IfSome}
use Rattle.fault_io.specs.Files.{Files}
use Rattle.fault_io.specs.Faults.{Rose, NoFault, after_taking}
use Rattle.report_format.specs.Text.{Content}
use Rattle.report_format.specs.Reading.{IsTextOf}
use Rattle.receiver_replay.specs.Right.{IsRight}
use Rattle.crash_tool.specs.declared.answer.Refusal.{Refusal}
use Rattle.crash_tool.specs.declared.answer.Refusal.TheVariants.{NoMemory, Usage, CannotRead, TooLong, NotAProgram, NoCrash, StillRunning, Spent, NotAReport, WrongProgram, Differs}
use Rattle.tool_words.specs.declared.words.Action.{Action}
use Rattle.tool_words.specs.declared.words.Action.TheVariants.{Make, Check}
use Rattle.crash_tool.specs.Refusals.{Answer, IsGiven, status_of, line_of, write_line, out_of, err_of, IsLineOf}
use Rattle.tool_words.specs.Words.{Task, Asked, OnFiles, OnDemo, make_by, make_in, task_in}
use Rattle.crash_tool.specs.Made.{transcript_under}
use Rattle.crash_tool.specs.Outcome.{outcome}
use Rattle.crash_tool.specs.Answers.{IsDone, IsAnswerTo, files_for}
use Rattle.crash_tool.specs.Received.{IsAccepted}
use Rattle.crash_tool.specs.Call.{Change, Says, OfRight, IsRightBut, IsStatusBut, IsCannotRead, TakesPrefix, Takes, TakesNothing, TakesLine, HasFault, HasNoFault, Gives, IsReceived}
use Rattle.crash_tool.proofs.AnswerLemmas.{make-outcome}

pub no_refusal_is_0 : (r : Refusal) → status_of r ≡ 0 → ⊥
no_refusal_is_0 NoMemory e = omega arith
no_refusal_is_0 Usage e = omega arith
no_refusal_is_0 (CannotRead role) e = omega arith
no_refusal_is_0 (TooLong role) e = omega arith
no_refusal_is_0 (NotAProgram rule) e = omega arith
no_refusal_is_0 NoCrash e = omega arith
no_refusal_is_0 StillRunning e = omega arith
no_refusal_is_0 (Spent first width) e = omega arith
no_refusal_is_0 (NotAReport line) e = omega arith
no_refusal_is_0 WrongProgram e = omega arith
no_refusal_is_0 (Differs line) e = omega arith

no_refusal_is_4 : (r : Refusal) → status_of r ≡ 4 → ⊥
no_refusal_is_4 NoMemory e = omega arith
no_refusal_is_4 Usage e = omega arith
no_refusal_is_4 (CannotRead role) e = omega arith
no_refusal_is_4 (TooLong role) e = omega arith
no_refusal_is_4 (NotAProgram rule) e = omega arith
no_refusal_is_4 NoCrash e = omega arith
no_refusal_is_4 StillRunning e = omega arith
no_refusal_is_4 (Spent first width) e = omega arith
no_refusal_is_4 (NotAReport line) e = omega arith
no_refusal_is_4 WrongProgram e = omega arith
no_refusal_is_4 (Differs line) e = omega arith

-- the line that was put is one of the status
pub said_given : (a : Answer) (out err : Change) (s : ℕ) → Says a out err s → IfErr a IsGiven → s ≢ 0 → (line : List ℕ) × IsLineOf s line × TakesLine err line
said_given (Ok b) out err s says given not_0 = elim says.zero_or_four [
  | inl zero ↦ absurd (not_0 zero)
  | inr four ↦ (write_line, inl (four, refl), says.line four)
]
said_given (Err r) out err s says given not_0 = (line_of r, inr (r, given, says.status_is, refl), says.line)

nothing : (h : Option (List ℕ)) → h ≡ after_taking h []
nothing None = refl
nothing (Some xs) = ap Some (sym (append-nil xs))

takes_nothing : (c : Change) → TakesNothing c → Takes c []
takes_nothing c same = same ∙ nothing c.held

faultless : (old new : ℕ) → Rose old new → NoFault old new → ⊥
faultless old new rose none = omega (arith, none.same, none.below)

is_3 : (r : Refusal) → IsCannotRead r → status_of r ≡ 3
is_3 (CannotRead role) is = refl
is_3 _ is = absurd is

module _ (is : Answer → Type 0) (old new : ℕ) (out err : Change) (s : ℕ) where
  -- the status has its cause
  pub said-status : (a : Answer) → IsRightBut is (Rose old new) a → Says a out err s → IsStatusBut is (Rose old new) (HasFault out) s
  said-status (Ok b) (inl right) says = elim says.zero_or_four [
    | inl zero ↦ inl (record { answer = Ok b; right = right; property = zero })
    | inr four ↦ inr (inr (inr (four, (record { answer = Ok b; right = right; property = refl }, says.cause four))))
  ]
  said-status (Ok b) (inr (inl e)) says = cc
  said-status (Ok b) (inr (inr e)) says = absurd e.0
  said-status (Err r) (inl right) says = inl (record { answer = Err r; right = right; property = says.status_is })
  said-status (Err r) (inr (inl e)) says =
      let is : r ≡ NoMemory = cc in
      inr (inl (says.status_is ∙ ap status_of is))
  said-status (Err r) (inr (inr e)) says = inr (inr (inl (says.status_is ∙ is_3 r e.0, e.1)))

  -- at status 0 the text was put
  pub said-text : (a : Answer) → IsRightBut is (Rose old new) a → Says a out err s → s ≡ 0 → OfRight is (λ answer. Takes out (out_of answer))
  said-text (Ok b) (inl right) says zero = record { answer = Ok b; right = right; property = says.text zero }
  said-text (Ok b) (inr (inl e)) says zero = cc
  said-text (Ok b) (inr (inr e)) says zero = absurd e.0
  said-text (Err r) but says zero = absurd (no_refusal_is_0 r (sym says.status_is ∙ zero))

  -- at status 4 a first part of the text was put
  pub said-part : (a : Answer) → IsRightBut is (Rose old new) a → Says a out err s → s ≡ 4 → OfRight is (λ answer. TakesPrefix out (out_of answer))
  said-part (Ok b) (inl right) says four = record { answer = Ok b; right = right; property = says.part }
  said-part (Ok b) (inr (inl e)) says four = cc
  said-part (Ok b) (inr (inr e)) says four = absurd e.0
  said-part (Err r) but says four = absurd (no_refusal_is_4 r (sym says.status_is ∙ four))

  -- a refusal other than for memory or a failed read is a right answer, and its line was put
  pub said-line : (a : Answer) → IsRightBut is (Rose old new) a → Says a out err s → s ≢ 0 → s ≢ 1 → s ≢ 4 → (s ≡ 3 → NoFault old new)
      → OfRight is (λ answer. TakesLine err (err_of answer))
  said-line (Ok b) but says not_0 not_1 not_4 none = elim says.zero_or_four [ inl zero ↦ absurd (not_0 zero) | inr four ↦ absurd (not_4 four) ]
  said-line (Err r) (inl right) says not_0 not_1 not_4 none = record { answer = Err r; right = right; property = says.line }
  said-line (Err r) (inr (inl e)) says not_0 not_1 not_4 none =
      let is : r ≡ NoMemory = cc in
      absurd (not_1 (says.status_is ∙ ap status_of is))
  said-line (Err r) (inr (inr e)) says not_0 not_1 not_4 none = absurd (faultless old new e.1 (none (says.status_is ∙ is_3 r e.0)))

  -- without faults and want of memory a right answer was said, all of it
  pub said-whole : (a : Answer) → IsRightBut is (Rose old new) a → Says a out err s → s ≢ 1 → NoFault old new → HasNoFault out → HasNoFault err
      → OfRight is (λ answer. Gives answer out err s)
  said-whole (Ok b) (inl right) says some none no_out no_err = record {
    answer = Ok b;
    right = right;
    property = elim says.zero_or_four [
      | inl zero ↦ record { status_is = zero; text = says.text zero; line = takes_nothing err (says.quiet zero) }
      | inr four ↦ absurd (faultless out.old out.new (says.cause four) no_out)
    ];
  }
  said-whole (Ok b) (inr (inl e)) says some none no_out no_err = cc
  said-whole (Ok b) (inr (inr e)) says some none no_out no_err = absurd e.0
  said-whole (Err r) (inl right) says some none no_out no_err = record {
    answer = Err r;
    right = right;
    property = record { status_is = says.status_is; text = takes_nothing out says.nothing; line = says.line.whole no_err };
  }
  said-whole (Err r) (inr (inl e)) says some none no_out no_err =
      let is : r ≡ NoMemory = cc in
      absurd (some (says.status_is ∙ ap status_of is))
  said-whole (Err r) (inr (inr e)) says some none no_out no_err = absurd (faultless old new e.1 none)

-- ---- the same where the folder tells its files

module _ (w : Option Asked) (old new : ℕ) (out err : Change) (s : ℕ) (a : Answer) where
  abbrev WasTold : Option Files → Type 0
  WasTold files = IfSome files (λ held. IsRightBut (IsAnswerTo w held) (Rose old new) a)

  pub status-told : (files : Option Files) → WasTold files → Says a out err s → IfSome files (λ held. IsStatusBut (IsAnswerTo w held) (Rose old new) (HasFault out) s)
  status-told None told says = tt
  status-told (Some held) told says = said-status (IsAnswerTo w held) old new out err s a told says

  pub text-told : (files : Option Files) → WasTold files → Says a out err s → IfSome files (λ held. s ≡ 0 → OfRight (IsAnswerTo w held) (λ answer. Takes out (out_of answer)))
  text-told None told says = tt
  text-told (Some held) told says = said-text (IsAnswerTo w held) old new out err s a told says

  pub part-told : (files : Option Files) → WasTold files → Says a out err s → IfSome files (λ held. s ≡ 4 → OfRight (IsAnswerTo w held) (λ answer. TakesPrefix out (out_of answer)))
  part-told None told says = tt
  part-told (Some held) told says = said-part (IsAnswerTo w held) old new out err s a told says

  pub line-told : (files : Option Files) → WasTold files → Says a out err s
      → IfSome files (λ held. s ≢ 0 → s ≢ 1 → s ≢ 4 → (s ≡ 3 → NoFault old new) → OfRight (IsAnswerTo w held) (λ answer. TakesLine err (err_of answer)))
  line-told None told says = tt
  line-told (Some held) told says = said-line (IsAnswerTo w held) old new out err s a told says

  pub whole-told : (files : Option Files) → WasTold files → Says a out err s
      → IfSome files (λ held. s ≢ 1 → NoFault old new → HasNoFault out → HasNoFault err → OfRight (IsAnswerTo w held) (λ answer. Gives answer out err s))
  whole-told None told says = tt
  whole-told (Some held) told says = said-whole (IsAnswerTo w held) old new out err s a told says

-- the outcome, where the files are told and hold what the words name
headline-by : (task : Task) (action : Action) (files : Option Files) (old new : ℕ) (a : Answer) (out err : Change) (s : ℕ)
    → task.action ≡ action → IfSome files (λ held. IsRightBut (IsDone task held) (Rose old new) a) → Says a out err s
    → IfSome (make_by action task) (λ make. IfSome files (λ held. (p x : List ℕ) → held make.program ≡ Some p → held make.input ≡ Some x → s ≢ 1 → NoFault old new → HasNoFault out → HasNoFault err
    → Gives (outcome p make.options (length x) (transcript_under p make.options x)) out err s))
headline-by task Make None old new a out err s action is says = tt
headline-by task Make (Some held) old new a out err s action is says = λ p x is_p is_x some none no_out no_err.
    let whole = said-whole (IsDone task held) old new out err s a is says some none no_out no_err in
    subst (λ o. Gives o out err s) (make-outcome task held p x whole.answer whole.right action is_p is_x) whole.property
headline-by task _ files old new a out err s action is says = tt

pub headline-told : (w : Option Asked) (files : Option Files) (old new : ℕ) (a : Answer) (out err : Change) (s : ℕ)
    → IfSome (files_for w files) (λ held. IsRightBut (IsAnswerTo w held) (Rose old new) a) → Says a out err s
    → IfSome (make_in (task_in w)) (λ make. IfSome files (λ held. (p x : List ℕ) → held make.program ≡ Some p → held make.input ≡ Some x → s ≢ 1 → NoFault old new → HasNoFault out → HasNoFault err
    → Gives (outcome p make.options (length x) (transcript_under p make.options x)) out err s))
headline-told None files old new a out err s is says = tt
headline-told (Some (OnDemo kind size options)) files old new a out err s is says = tt
headline-told (Some (OnFiles task)) files old new a out err s is says = headline-by task task.action files old new a out err s refl is says

-- at status 0 a report that was checked is right
accepted : (p bytes : List ℕ) (task : Task) (a : Answer) (out err : Change) (s : ℕ) → IfOk a (λ _. IsAccepted p task.options bytes) → Says a out err s → s ≡ 0
    → (report : Content) × IsTextOf report bytes × IsRight p report task.options.steps
accepted p bytes task (Ok b) out err s is says zero = is
accepted p bytes task (Err r) out err s is says zero = absurd (no_refusal_is_0 r (sym says.status_is ∙ zero))

pub received-told : (w : Option Task) (files : Option Files) (a : Answer) (out err : Change) (s : ℕ)
    → IfSome w (λ task. IfSome files (IsReceived task a)) → Says a out err s
    → IfSome w (λ task. IfSome files (λ held. (p bytes : List ℕ) → task.action ≡ Check → held task.program ≡ Some p → held task.second ≡ Some bytes → s ≡ 0
    → (report : Content) × IsTextOf report bytes × IsRight p report task.options.steps))
received-told None files a out err s is says = tt
received-told (Some task) None a out err s is says = tt
received-told (Some task) (Some held) a out err s is says = λ p bytes action is_p is_bytes zero. accepted p bytes task a out err s (is p bytes action is_p is_bytes) says zero
