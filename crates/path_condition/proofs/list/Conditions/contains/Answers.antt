use Rattle.std.proofs.Common.{◌≡◌, ◌∙◌, sym, ap, arith, ◌<◌, ◌≤◌, length, Some, nat_lt, false}
use Rattle.std.proofs.lemmas.Bool.Decides.{nat_tests}
use Rattle.path_condition.specs.Listed.{is_listed}
use Rattle.path_condition.proofs.PlaceLemmas.{without_place, past_end, at_place, item_at}
use Rattle.path_condition.proofs.list.Conditions.contains.Goals as goal

pub returns-then-place-len : goal.returns-then-place-len
returns-then-place-len c =
    let inside : c.in-Some.place.now < length c.self.inside.terms.items = omega (arith, c.if-place-len.true, c.len.ensures) in
    c.eq.ensures
    ∙ at_place c.self.inside.terms.items c.self.inside.places c.self.invariant c.args.t c.in-Some.place.now c.index.result.now (sym c.in-Some.ensures.value)
    (item_at c.self.inside.terms.items c.in-Some.place.now c.index.result.now inside ∙ ap Some (sym c.index.ensures))
    ∙ ap (λ ts. is_listed ts c.args.t) c.self.view_is

pub returns-else-place-len : goal.returns-else-place-len
returns-else-place-len c =
    let past : length c.self.inside.terms.items ≤ c.in-Some.place.now = omega (arith, c.if-place-len.false, c.len.ensures) in
    let no : nat_lt c.in-Some.place.now c.len.result ≡ false = grind (arith, nat_tests) in
    no
    ∙ sym (past_end c.self.inside.terms.items c.self.inside.places c.self.invariant c.args.t c.in-Some.place.now (sym c.in-Some.ensures.value) past)
    ∙ ap (λ ts. is_listed ts c.args.t) c.self.view_is

pub returns-in-None : goal.returns-in-None
returns-in-None c =
    sym (without_place c.self.inside.terms.items c.self.inside.places c.self.invariant c.args.t (sym c.in-None.ensures.value))
    ∙ ap (λ ts. is_listed ts c.args.t) c.self.view_is
