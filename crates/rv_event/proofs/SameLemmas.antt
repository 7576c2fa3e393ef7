-- The test for equal runs is true exactly of equal runs.
use Rattle.std.proofs.Common.{◌≡◌, ℕ, Bool, true, false, ◌&&◌, ◌==◌, List, [], ◌∷◌, ◌↔◌, IsTrue, refl, ap, arith}
use Rattle.std.proofs.lemmas.Bool.Decides.{nat_tests, same_from_decides}
use Rattle.rv_event.specs.declared.event.Event.{Event}
use Rattle.rv_event.specs.declared.event.EventKind.{EventKind}
use Rattle.rv_event.specs.declared.event.EventKind.TheVariants as kinds
use Rattle.rv_event.specs.declared.event.Trap.{Trap}
use Rattle.rv_event.specs.declared.event.TrapKind.{TrapKind}
use Rattle.rv_event.specs.declared.event.TrapKind.TheVariants as traps
use Rattle.rv_event.specs.declared.event.End.{End}
use Rattle.rv_event.specs.declared.event.End.TheVariants as ends
use Rattle.rv_event.specs.declared.transcript.Transcript.{Transcript}
use Rattle.rv_event.specs.Same.{same_kind, same_trap_kind, same_numbers, same_event, same_events, same_trap, same_end, same_transcript}

-- both sides of a conjunction that is true
both : (s t : Bool) → (s && t) ≡ true → (s ≡ true) × (t ≡ true)
both true t e = (refl, e)
both false t e = cc

number_same : (c d : ℕ) → (c == d) ≡ true → c ≡ d
number_same c d e = grind (arith, nat_tests)

number_itself : (c : ℕ) → (c == c) ≡ true
number_itself c = grind (arith, nat_tests)

kind_same : (a b : EventKind) → same_kind a b ≡ true → a ≡ b
kind_same kinds.Plain kinds.Plain e = refl
kind_same kinds.Load kinds.Load e = refl
kind_same kinds.Store kinds.Store e = refl
kind_same kinds.Call kinds.Call e = refl
kind_same kinds.NoFetch kinds.NoFetch e = refl
kind_same a b e = cc

kind_itself : (a : EventKind) → same_kind a a ≡ true
kind_itself kinds.Plain = refl
kind_itself kinds.Load = refl
kind_itself kinds.Store = refl
kind_itself kinds.Call = refl
kind_itself kinds.NoFetch = refl

trap_kind_same : (a b : TrapKind) → same_trap_kind a b ≡ true → a ≡ b
trap_kind_same traps.Illegal traps.Illegal e = refl
trap_kind_same traps.FetchFault traps.FetchFault e = refl
trap_kind_same traps.MisalignedJump traps.MisalignedJump e = refl
trap_kind_same traps.LoadFault traps.LoadFault e = refl
trap_kind_same traps.StoreFault traps.StoreFault e = refl
trap_kind_same traps.Breakpoint traps.Breakpoint e = refl
trap_kind_same traps.Abort traps.Abort e = refl
trap_kind_same a b e = cc

trap_kind_itself : (a : TrapKind) → same_trap_kind a a ≡ true
trap_kind_itself traps.Illegal = refl
trap_kind_itself traps.FetchFault = refl
trap_kind_itself traps.MisalignedJump = refl
trap_kind_itself traps.LoadFault = refl
trap_kind_itself traps.StoreFault = refl
trap_kind_itself traps.Breakpoint = refl
trap_kind_itself traps.Abort = refl

numbers_same : (xs ys : List ℕ) → same_numbers xs ys ≡ true → xs ≡ ys
unfolding same_numbers
numbers_same [] [] e = refl
numbers_same (x ∷ xs) (y ∷ ys) e =
    let h = both (x == y) (same_numbers xs ys) e in
    let first : x ≡ y = number_same x y h.0 in
    let rest : xs ≡ ys = numbers_same xs ys h.1 in
    cc
numbers_same [] (y ∷ ys) e = cc
numbers_same (x ∷ xs) [] e = cc

numbers_itself : (xs : List ℕ) → same_numbers xs xs ≡ true
unfolding same_numbers
numbers_itself [] = refl
numbers_itself (x ∷ xs) = rw (number_itself x) (numbers_itself xs)

event_same : (a b : Event) → same_event a b ≡ true → a ≡ b
unfolding same_event
event_same a b e =
    let h = both (a.pc == b.pc) _ e in
    let k = both (a.word == b.word) _ h.1 in
    let l = both (a.addr == b.addr) _ k.1 in
    let m = both (same_numbers a.call b.call) (same_kind a.kind b.kind) l.1 in
    let pc : a.pc ≡ b.pc = number_same a.pc b.pc h.0 in
    let word : a.word ≡ b.word = number_same a.word b.word k.0 in
    let addr : a.addr ≡ b.addr = number_same a.addr b.addr l.0 in
    let call : a.call ≡ b.call = numbers_same a.call b.call m.0 in
    let kind : a.kind ≡ b.kind = kind_same a.kind b.kind m.1 in
    (λ i. record { pc = pc i; word = word i; addr = addr i; call = call i; kind = kind i })

event_itself : (a : Event) → same_event a a ≡ true
unfolding same_event
event_itself a = rw (number_itself a.pc, number_itself a.word, number_itself a.addr, numbers_itself a.call) (kind_itself a.kind)

events_same : (xs ys : List Event) → same_events xs ys ≡ true → xs ≡ ys
unfolding same_events
events_same [] [] e = refl
events_same (a ∷ xs) (b ∷ ys) e =
    let h = both (same_event a b) (same_events xs ys) e in
    let first : a ≡ b = event_same a b h.0 in
    let rest : xs ≡ ys = events_same xs ys h.1 in
    cc
events_same [] (b ∷ ys) e = cc
events_same (a ∷ xs) [] e = cc

events_itself : (xs : List Event) → same_events xs xs ≡ true
unfolding same_events
events_itself [] = refl
events_itself (a ∷ xs) = rw (event_itself a) (events_itself xs)

trap_same : (a b : Trap) → same_trap a b ≡ true → a ≡ b
unfolding same_trap
trap_same a b e =
    let h = both (same_trap_kind a.kind b.kind) _ e in
    let k = both (a.pc == b.pc) (a.value == b.value) h.1 in
    let kind : a.kind ≡ b.kind = trap_kind_same a.kind b.kind h.0 in
    let pc : a.pc ≡ b.pc = number_same a.pc b.pc k.0 in
    let value : a.value ≡ b.value = number_same a.value b.value k.1 in
    (λ i. record { kind = kind i; pc = pc i; value = value i })

trap_itself : (a : Trap) → same_trap a a ≡ true
unfolding same_trap
trap_itself a = rw (trap_kind_itself a.kind, number_itself a.pc) (number_itself a.value)

end_same : (a b : End) → same_end a b ≡ true → a ≡ b
unfolding same_end
end_same (ends.Trap a) (ends.Trap b) e = ap ends.Trap (trap_same a b e)
end_same (ends.Exit a) (ends.Exit b) e = ap ends.Exit (number_same a b e)
end_same ends.Limit ends.Limit e = refl
end_same a b e = cc

end_itself : (a : End) → same_end a a ≡ true
unfolding same_end
end_itself (ends.Trap a) = trap_itself a
end_itself (ends.Exit a) = number_itself a
end_itself ends.Limit = refl

transcript_same : (a b : Transcript) → same_transcript a b ≡ true → a ≡ b
unfolding same_transcript
transcript_same a b e =
    let h = both (a.n == b.n) _ e in
    let k = both (same_events a.events b.events) (same_end a.end b.end) h.1 in
    let n : a.n ≡ b.n = number_same a.n b.n h.0 in
    let events : a.events ≡ b.events = events_same a.events b.events k.0 in
    let end : a.end ≡ b.end = end_same a.end b.end k.1 in
    (λ i. record { n = n i; events = events i; end = end i })

transcript_itself : (a : Transcript) → same_transcript a a ≡ true
unfolding same_transcript
transcript_itself a = rw (number_itself a.n, events_itself a.events) (end_itself a.end)

transcript_equal : (a b : Transcript) → a ≡ b → same_transcript a b ≡ true
transcript_equal a b e = rw e (transcript_itself b)

-- the test is true exactly of equal runs
pub same_transcript-Decides : (a b : Transcript) → IsTrue (same_transcript a b) ↔ (a ≡ b)
same_transcript-Decides a b = (transcript_same a b, transcript_equal a b)

-- a bool that is true exactly of equal runs is the test
pub same_transcript_from : (r : Bool) (a b : Transcript) → IsTrue r ↔ (a ≡ b) → r ≡ same_transcript a b
same_transcript_from r a b d = same_from_decides r (same_transcript a b) d (same_transcript-Decides a b)
