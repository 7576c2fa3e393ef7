use Rattle.std.proofs.Common.{◌≡◌, ◌∙◌, sym, ap, Bool, true, if◌then◌else◌, subst, arith}
use Rattle.std.specs.FinMap as finmap
use Rattle.memory_map.specs.Cells.{can, write, with_byte}
use Rattle.memory_map.specs.Heaps.{Space}
use Rattle.sym_replay.specs.declared.state.ReplayState.{ReplayState}
use Rattle.sym_replay.specs.States.{terms_of, IsState}
use Rattle.sym_replay.proofs.StateLemmas.{number_put, number_state}
use Rattle.sym_replay.proofs.state.ReplayState.put_number.Goals as goal

pub returns-then-store-clause-state : goal.returns-then-store-clause-state
returns-then-store-clause-state c trees h =
    let s = c.args.self.now in
    let may : can write (finmap.get s.memory.map c.args.address) ≡ true = sym c.store.ensures.stored ∙ c.if-store.true in
    let stored : c.store.new.self ≡ record s.memory { map = with_byte s.memory.map c.args.address c.args.byte (finmap.get s.memory.map c.args.address) } =
    c.store.ensures.after ∙ ap (λ (b : Bool). if b then (let m : Space = record s.memory { map = with_byte s.memory.map c.args.address c.args.byte (finmap.get s.memory.map c.args.address) } in m) else s.memory) c.if-store.true in
    subst (λ (s : ReplayState). IsState trees s) (sym c.forget.ensures.rest)
    (number_state trees s c.forget.new.self.bytes c.store.new.self c.args.address c.args.byte (omega arith) may stored c.forget.ensures.bytes h)

pub returns-then-store-clause-terms : goal.returns-then-store-clause-terms
returns-then-store-clause-terms c trees =
    let s = c.args.self.now in
    let may : can write (finmap.get s.memory.map c.args.address) ≡ true = sym c.store.ensures.stored ∙ c.if-store.true in
    let stored : c.store.new.self ≡ record s.memory { map = with_byte s.memory.map c.args.address c.args.byte (finmap.get s.memory.map c.args.address) } =
    c.store.ensures.after ∙ ap (λ (b : Bool). if b then (let m : Space = record s.memory { map = with_byte s.memory.map c.args.address c.args.byte (finmap.get s.memory.map c.args.address) } in m) else s.memory) c.if-store.true in
    ap (terms_of trees) c.forget.ensures.rest ∙ number_put trees s c.forget.new.self.bytes c.store.new.self c.args.address c.args.byte may stored c.forget.ensures.bytes
