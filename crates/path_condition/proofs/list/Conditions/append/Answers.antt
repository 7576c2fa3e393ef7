use Rattle.std.proofs.Common.{◌≡◌, ℕ, List, ◌∙◌, sym, ap, subst, Some, false, length, arith}
use Rattle.std.specs.BTreeMap.{Updates}
use Rattle.std.specs.Ordering.{nat_cmp}
use Rattle.path_condition.specs.Listed.{is_listed}
use Rattle.path_condition.specs.Places.{HasPlaces}
use Rattle.path_condition.proofs.PlaceLemmas.{keeps_places, pushes_place}
use Rattle.path_condition.proofs.list.Conditions.append.Goals as goal

pub invariant_of-self-in_err-push : goal.invariant_of-self-in_err-push
invariant_of-self-in_err-push c =
    let absent : is_listed c.self.inside.terms.items c.args.t ≡ false = ap (λ ts. is_listed ts c.args.t) c.self.view_is ∙ c.requires in
    subst (λ (ts : List ℕ). HasPlaces ts c.insert.new.self) (sym c.in_err-push.ensures.items)
    (keeps_places c.self.inside.terms.items c.self.inside.places c.insert.new.self c.self.invariant c.args.t absent (Some c.len.result) c.in_ok-insert.ensures.updates)

pub invariant_of-self-2 : goal.invariant_of-self-2
invariant_of-self-2 c =
    let absent : is_listed c.self.inside.terms.items c.args.t ≡ false = ap (λ ts. is_listed ts c.args.t) c.self.view_is ∙ c.requires in
    let count : c.len.result ≡ length c.self.inside.terms.items = omega arith in
    let updates = subst (λ (n : ℕ). Updates nat_cmp c.self.inside.places c.insert.new.self c.args.t (Some n)) count c.in_ok-insert.ensures.updates in
    subst (λ (ts : List ℕ). HasPlaces ts c.insert.new.self) (sym c.in_ok-push.ensures.items)
    (pushes_place c.self.inside.terms.items c.self.inside.places c.insert.new.self c.self.invariant c.args.t absent updates)
