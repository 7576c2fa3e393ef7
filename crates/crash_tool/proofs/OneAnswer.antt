-- Words have one answer over the files that are held.
use Rattle.std.proofs.Common.{◌≡◌, ◌∙◌, ℕ, List, Option, Some, None, Result, Ok, Err, sym, ap}
use Rattle.fault_io.specs.Files.{Files}
use Rattle.report_format.specs.Text.{Content, IsReport, text}
use Rattle.report_format.specs.Reading.{FailsAt}
use Rattle.crash_tool.specs.declared.answer.Refusal.{Refusal}
use Rattle.crash_tool.specs.declared.answer.Role.TheVariants.{Program}
use Rattle.crash_tool.specs.Refusals.{Answer}
use Rattle.tool_words.specs.declared.words.Action.{Action}
use Rattle.tool_words.specs.declared.words.Action.TheVariants.{Make, Run, Replay, Check, Stack}
use Rattle.tool_words.specs.declared.words.Options.{Options}
use Rattle.tool_words.specs.Words.{Task, Asked, OnFiles, OnDemo}
use Rattle.crash_tool.specs.Made.{made, transcript_under}
use Rattle.crash_tool.specs.Demo.{IsDemoAnswer, summed}
use Rattle.rv_decode.specs.declared.instr.Instr.{Instr}
use Rattle.rv_assemble.specs.declared.region.Region.{Region}
use Rattle.rv_assemble.specs.declared.demo.DemoKind.{DemoKind}
use Rattle.rv_assemble.specs.Parts.{IsFile}
use Rattle.rv_assemble.specs.Demo.{demo_code, demo_regions, demo_input}
use Rattle.crash_tool.specs.Received.{IsReading, IsByReading, replay_answer, check_answer}
use Rattle.crash_tool.specs.Stack.{stack_answer}
use Rattle.crash_tool.specs.Answers.{read_of, role_of, IsAnswerOf, IsOfSecond, IsOfProgram, IsAnswerTo}

module _ (one_report : (a b : Content) → IsReport a → IsReport b → text a ≡ text b → a ≡ b) (one_line : (bytes : List ℕ) (m n : ℕ) → FailsAt m bytes → FailsAt n bytes → m ≡ n)
    (one_file : (code : List Instr) (regions : List Region) (a b : List ℕ) → IsFile code regions a → IsFile code regions b → a ≡ b) where
  one_reading : (bytes : List ℕ) (r q : Result Content ℕ) → IsReading bytes r → IsReading bytes q → r ≡ q
  one_reading bytes (Ok a) (Ok b) is_a is_b = ap Ok (one_report a b is_a.report is_b.report (sym is_a.written ∙ is_b.written))
  one_reading bytes (Ok a) (Err n) is_a fails = absurd (fails.no_text a is_a)
  one_reading bytes (Err m) (Ok b) fails is_b = absurd (fails.no_text b is_b)
  one_reading bytes (Err m) (Err n) fails other = ap Err (one_line bytes m n fails other)

  by_one_reading : (answer_of : Result Content ℕ → Answer) (bytes : List ℕ) (a b : Answer) → IsByReading answer_of bytes a → IsByReading answer_of bytes b → a ≡ b
  by_one_reading answer_of bytes a b is_a is_b = is_a.same ∙ ap answer_of (one_reading bytes is_a.reading is_b.reading is_a.read is_b.read) ∙ sym is_b.same

  of_action : (action : Action) (p : List ℕ) (o : Options) (x : List ℕ) (a b : Answer) → IsAnswerOf action p o x a → IsAnswerOf action p o x b → a ≡ b
  of_action Make p o x a b is_a is_b = is_a ∙ sym is_b
  of_action Run p o x a b is_a is_b = is_a ∙ sym is_b
  of_action Replay p o x a b is_a is_b = by_one_reading (replay_answer p) x a b is_a is_b
  of_action Check p o x a b is_a is_b = by_one_reading (check_answer p o) x a b is_a is_b
  of_action Stack p o x a b is_a is_b = by_one_reading (stack_answer p) x a b is_a is_b

  of_second : (task : Task) (p : List ℕ) (read : Result (List ℕ) Refusal) (a b : Answer) → IsOfSecond task p read a → IsOfSecond task p read b → a ≡ b
  of_second task p (Err refused) a b is_a is_b = is_a ∙ sym is_b
  of_second task p (Ok x) a b is_a is_b = of_action task.action p task.options x a b is_a is_b

  of_program : (task : Task) (held : Files) (read : Result (List ℕ) Refusal) (a b : Answer) → IsOfProgram task held read a → IsOfProgram task held read b → a ≡ b
  of_program task held (Err refused) a b is_a is_b = is_a ∙ sym is_b
  of_program task held (Ok p) a b is_a is_b = of_second task p (read_of (role_of task.action) (held task.second)) a b is_a is_b

  of_demo : (kind : DemoKind) (size : ℕ) (o : Options) (a b : Answer) → IsDemoAnswer kind size o a → IsDemoAnswer kind size o b → a ≡ b
  of_demo kind size o a b is_a is_b =
      is_a.same ∙ ap (λ p. summed kind size (made p o (transcript_under p o (demo_input kind size)))) (one_file (demo_code kind size) (demo_regions size) is_a.program is_b.program is_a.file is_b.file) ∙ sym is_b.same

  pub one_answer : (asked : Option Asked) (held : Files) (a b : Answer) → IsAnswerTo asked held a → IsAnswerTo asked held b → a ≡ b
  one_answer None held a b is_a is_b = is_a ∙ sym is_b
  one_answer (Some (OnFiles task)) held a b is_a is_b = of_program task held (read_of Program (held task.program)) a b is_a is_b
  one_answer (Some (OnDemo kind size options)) held a b is_a is_b = of_demo kind size options a b is_a is_b
