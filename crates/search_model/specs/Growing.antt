-- The same trimming with fewer tests: of lists that grow from the last decision.
use Rattle.std.specs.Prelude.{ℕ, zero, suc, ◌-◌, ◌≡◌, Bool, true, List, [], ◌∷◌, ◌++◌, length, take, reverse, Contains, if◌then◌else◌}
use Rattle.search_model.specs.Literals.{Literals}
use Rattle.search_model.specs.Tests.{is_conflict}
use Rattle.search_model.specs.Search.{Trimmed}

-- whatever passes the test still passes it with more elements, in any order
abbrev pub IsMonotone : {L : Type 0} → (List L → Bool) → Type 0
IsMonotone {L} test = (few more : List L) → ((l : L) → Contains few l → Contains more l) → test few ≡ true → test more ≡ true

-- One pass: while those tried fail the test, the last of the earlier decisions, which come last first, joins them and the
-- end. The end that it comes to is the shortest with which those left pass, or all.
unfoldable pub grown_end : {L : Type 0} → (List L → Bool) → List L → List L → List L → List L
grown_end test tried end [] = end
grown_end test tried end (d ∷ earlier) = if test tried then end else grown_end test (tried ++ d ∷ []) (d ∷ end) earlier

-- the first decision of an end is left; the next pass is over those after it
abbrev pub keep_first : {L : Type 0} → (Trimmed L → List L → Trimmed L) → List L → Trimmed L → List L → Trimmed L
keep_first next decisions t [] = t
keep_first next decisions t (d ∷ later) =
    next (record { left = t.left ++ d ∷ []; before = take (length decisions - length (d ∷ later)) decisions }) later

-- at most so many passes, over the rest of the decisions
unfoldable pub passes : {L : Type 0} → (List L → Bool) → List L → ℕ → Trimmed L → List L → Trimmed L
passes test decisions zero t rest = t
passes test decisions (suc n) t rest =
    keep_first (λ t later. passes test decisions n t later) decisions t (grown_end test t.left [] (reverse rest))

-- the decisions that a conflict needs, found by passes
abbrev pub trim_by_passes : {L : Type 0} → Literals L → List (List L) → List L → Trimmed L
trim_by_passes lits clauses decisions =
    passes (is_conflict lits clauses) decisions (length decisions) (record { left = []; before = [] }) decisions
