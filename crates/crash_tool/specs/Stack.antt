-- Where a report's run ended, and through which calls it came there.
use Rattle.std.specs.Prelude.{ℕ, List, Result, Ok, Err}
use Rattle.elf32.specs.Symbols.{symbols}
use Rattle.elf32.specs.declared.symbols.Symbol.{Symbol}
use Rattle.rv_event.specs.declared.transcript.Transcript.{Transcript}
use Rattle.rv_machine.specs.declared.trace.Run.{Run}
use Rattle.report_format.specs.Text.{Content}
use Rattle.receiver_replay.specs.declared.error.ReceiveError.{ReceiveError}
use Rattle.receiver_replay.specs.Received.{its_run, replayed}
use Rattle.symbol_stack.specs.Stack.{stack_of, last_counter}
use Rattle.symbol_stack.specs.Text.{text}
use Rattle.crash_tool.specs.Refusals.{Answer, of_receive}
use Rattle.crash_tool.specs.declared.answer.Refusal.TheVariants.{NotAReport}

-- the last event's program counter, and the calls after all events but the last, by the names of functions
unfoldable pub told_by : List Symbol → Transcript → List ℕ
told_by functions t = text functions (stack_of t.events) (last_counter t.events)

abbrev pub by_stack : List ℕ → Transcript → Result Run ReceiveError → Answer
by_stack p t (Err error) = Err (of_receive error)
by_stack p t (Ok run) = Ok (told_by (symbols p) t)

-- the text of the stack of the run on the report's input, where that run is the report's
abbrev pub stack_answer : List ℕ → Result Content ℕ → Answer
stack_answer p (Err line) = Err (NotAReport line)
stack_answer p (Ok report) = by_stack p (its_run p report report.steps) (replayed p report)
