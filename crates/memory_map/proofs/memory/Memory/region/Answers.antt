use Rattle.std.proofs.Common.{◌≡◌, sym, ap, ◌∙◌, ◌∷◌, List, ℕ, Option, Some, None, IfSome, IfNone, Bor}
use Rattle.std.specs.FinMap as finmap
use Rattle.memory_map.specs.Part.{Part}
use Rattle.memory_map.specs.Cells.{Map}
use Rattle.memory_map.specs.Layout.{map_of, IsPartAt, first_cell}
use Rattle.memory_map.proofs.Maps.{get_map, part_in_map}
use Rattle.memory_map.proofs.memory.Memory.region.Goals as goal

found : (o : Option (Bor Part)) (ps : List Part) (m : Map) (a : ℕ) → map_of ps ≡ m → IfSome o (λ r. IsPartAt (first_cell ps) a r.now) → IfSome o (λ r. IsPartAt (finmap.get m) a r.now)
found (Some r) ps m a e h = part_in_map ps m a r.now e h
found None ps m a e h = h

missed : (o : Option (Bor Part)) (ps : List Part) (m : Map) (a : ℕ) → map_of ps ≡ m → IfNone o (first_cell ps a ≡ None) → IfNone o (finmap.get m a ≡ None)
missed (Some r) ps m a e h = h
missed None ps m a e h = ap (λ n. finmap.get n a) (sym e) ∙ get_map ps a ∙ h

pub returns : goal.returns
returns c =
    let ps = c.self.inside.stack ∷ c.self.inside.regions.items in
    let e : map_of ps ≡ c.args.self.now.map = (ap (λ s. s.map) c.self.view_is) in
    let h = rw c.deref.ensures.value at c.region_of.ensures in
    record { some = found c.region_of.result ps c.args.self.now.map c.args.address e h.some; none = missed c.region_of.result ps c.args.self.now.map c.args.address e h.none }
