-- The bits that stay fixed, part by part of their order.
use Rattle.std.specs.Prelude.{◌≡◌, ℕ, Bool, List, drop}
use Rattle.gate_net.specs.declared.literals.Lit.{Lit}
use Rattle.wide_laws.specs.Sets.{fixed_from}

-- from those kept before bit `start` of the order, freeing comes to these at `end`
abbrev pub Frees : (List Lit → Bool) → List Lit → ℕ → ℕ → List Lit → List Lit → Type 0
Frees frees order start end kept kept' = fixed_from frees kept (drop start order) ≡ fixed_from frees kept' (drop end order)
