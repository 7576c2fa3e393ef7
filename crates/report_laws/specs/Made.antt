-- The report that a program, the seed, the limit of steps and the trace fix.
use Rattle.std.specs.Prelude.{ℕ, Bool, List, [], Option, length, unwrap_or}
use Rattle.sha2.specs.Sha256.{sha256}
use Rattle.elf32.specs.Loads.{Program, loaded_program}
use Rattle.rv_event.specs.declared.event.Trap.{Trap}
use Rattle.rv_event.specs.declared.transcript.Transcript.{Transcript}
use Rattle.rv_machine.specs.Class.{in_class}
use Rattle.trace_conditions.specs.Conditions.{conditions_of}
use Rattle.group_laws.specs.Groups.{groups_of}
use Rattle.set_laws.specs.Sets.{sets_from}
use Rattle.set_laws.specs.Spent.{all_conflicts, first_spent}
use Rattle.input_laws.specs.Order.{first}
use Rattle.report_format.specs.Text.{Content}
use Rattle.report_laws.specs.Mask.{mask}

-- The first input, in the order that the seed fixes, of the trace's length and with the same trace. There is one where t
-- is the trace of some input.
abbrev pub first_input : Program → ℕ → ℕ → Transcript → List ℕ
first_input program seed limit t = unwrap_or (first (mask seed t.n) (in_class program limit t)) []

-- for each byte of that input, the values that it may take by the conditions of the trace
abbrev pub sets_of : Program → ℕ → ℕ → Transcript → List (ℕ → Bool)
sets_of program seed limit t = sets_from (conditions_of program t) (first_input program seed limit t)

-- how many groups of the input's bytes the trace's conditions make
abbrev pub number_of_groups : Program → Transcript → ℕ
number_of_groups program t = length (groups_of (conditions_of program t) t.n)

-- how many conflicts the search counts for all groups of more than two bytes
abbrev pub number_of_conflicts : Program → ℕ → Transcript → ℕ
number_of_conflicts program seed t = all_conflicts (conditions_of program t) (mask seed t.n) t.n

-- the first group of more than two bytes that spends a budget of conflicts: its first byte, and how many it has
abbrev pub spent_of : Program → ℕ → Transcript → ℕ → Option (ℕ × ℕ)
spent_of program seed t budget = first_spent (conditions_of program t) (mask seed t.n) t.n budget

-- a report of a program and of a trace that this trap ended, with this input and these sets
abbrev pub report_with : List ℕ → ℕ → Transcript → Trap → List ℕ → List (ℕ → Bool) → Content
report_with p seed t trap input sets = record {
  length = length p;
  digest = sha256 p;
  trap = trap;
  steps = length t.events;
  seed = seed;
  input = input;
  sets = sets;
}

-- the report with the first input and its sets
unfoldable pub report_of : List ℕ → ℕ → ℕ → Transcript → Trap → Content
report_of p seed limit t trap = report_with p seed t trap (first_input (loaded_program p) seed limit t) (sets_of (loaded_program p) seed limit t)
