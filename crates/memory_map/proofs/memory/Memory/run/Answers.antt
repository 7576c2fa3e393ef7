use Rattle.std.proofs.Common.{ℕ, List, sym, ◌∙◌, subst}
use Rattle.memory_map.specs.Layout.{IsRun}
use Rattle.memory_map.proofs.Runs.{run_of_part}
use Rattle.memory_map.proofs.memory.Memory.run.Goals as goal

pub returns-then-allows : goal.returns-then-allows
returns-then-allows c =
    subst (λ (bs : List ℕ). IsRun c.args.right c.args.self.now.map c.args.address bs) (sym c.rest.ensures)
    (run_of_part c.args.self.now.map c.args.address c.args.right _ c.in-Some.ensures.some (sym c.allows.ensures ∙ c.if-allows.true))
