-- The text of a run.
use Rattle.std.specs.Prelude.{ℕ, List, [], ◌∷◌, ◌++◌, flat_map, length, codes}
use Rattle.std.specs.Fmt.{decimal}
use Rattle.std.specs.FinSet as set
use Rattle.rv_event.specs.declared.event.End.{End}
use Rattle.rv_event.specs.declared.event.End.TheVariants as ends
use Rattle.rv_event.specs.declared.event.Event.{Event}
use Rattle.rv_event.specs.declared.transcript.Transcript.{Transcript}
use Rattle.watchers.specs.Counters.{counters, all_covered, last_sixteen}
use Rattle.report_format.specs.Text.{word_digits, trap_line, steps_line, joined}

-- trap KIND PC VALUE, exit CODE, or limit
abbrev pub end_line : End → List ℕ
end_line (ends.Trap trap) = trap_line trap
end_line (ends.Exit code) = codes "exit " ++ decimal code
end_line ends.Limit = codes "limit"

-- covered N, the number of program counters
abbrev pub covered_line : List Event → List ℕ
covered_line events = codes "covered " ++ decimal (set.len (all_covered events))

-- numbers of eight digits, each after a space
abbrev pub spaced : List ℕ → List ℕ
spaced numbers = flat_map (λ number. codes " " ++ word_digits number) numbers

-- last and the last program counters, at most sixteen, the oldest first
abbrev pub last_line : List Event → List ℕ
last_line events = codes "last" ++ spaced (last_sixteen (counters events))

abbrev pub run_lines : Transcript → List (List ℕ)
run_lines t = end_line t.end ∷ steps_line (length t.events) ∷ covered_line t.events ∷ last_line t.events ∷ []

-- the text by what two watches tell: the end, the number of steps, the number of program counters and the last of them
abbrev pub seen_text : End → ℕ → ℕ → List ℕ → List ℕ
seen_text end steps covered last =
    joined (end_line end ∷ steps_line steps ∷ (codes "covered " ++ decimal covered) ∷ (codes "last" ++ spaced last) ∷ [])

unfoldable pub run_text : Transcript → List ℕ
run_text t = joined (run_lines t)
