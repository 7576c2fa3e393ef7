use Rattle.std.proofs.Common.{refl}
use Rattle.std.specs.Prelude.{None}
use Rattle.std.proofs.lemmas.Option.{slice_get-get_or}
use Rattle.symbol_stack.specs.Names.{name_of}
use Rattle.symbol_stack.proofs.NameLemmas.{is_named, one_name}
use Rattle.symbol_stack.proofs.names.Names.name_of.Goals as goal

pub returns-in_err-place : goal.returns-in_err-place
returns-in_err-place c =
    let symbols = c.self.inside.symbols.now in
    rw c.from_residual.ensures (rw (← c.self.view_is) (one_name symbols c.args.pc None (name_of symbols c.args.pc) (c.in_err-place.ensures.none refl) (is_named symbols c.args.pc)))

pub returns : goal.returns
returns c =
    let symbols = c.self.inside.symbols.now in
    let h = c.in_ok-place.ensures in
    let s = c.index-self-place.result in
    let here = slice_get-get_or symbols c.in_ok-place.place s h.within in
    rw (← c.self.view_is) (one_name symbols c.args.pc _ (name_of symbols c.args.pc) (h.some _ here) (is_named symbols c.args.pc))
