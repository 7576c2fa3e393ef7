-- What two runs have to have in common for one step to look the same, and what looking the same says of them.
use Rattle.std.proofs.Common.{◌≡◌, nat_lt, ℕ, ◌+◌, ◌-◌, ◌%◌, ◌^◌, List, [], ◌∷◌, length, Option, Some, None, Bool, true, false, if◌then◌else◌, refl, sym, ap, ◌∙◌, arith, subst, slice_index, ◌==◌, ◌⊎◌, inl, inr}
use Rattle.std.proofs.lemmas.Bool.{eq-eqb}
use Rattle.rv_event.specs.declared.event.End.TheVariants as ends
use Rattle.rv_event.specs.declared.event.TrapKind.{TrapKind}
use Rattle.rv_word.specs.Word.{bits}
use Rattle.rv_event.specs.declared.event.TrapKind.TheVariants as traps
use Rattle.rv_event.specs.declared.event.EventKind.TheVariants as kinds
use Rattle.rv_event.specs.declared.event.EventKind.{EventKind}
use Rattle.rv_decode.specs.declared.instr.Instr.{Instr}
use Rattle.rv_decode.specs.declared.instr.Instr.TheVariants.{Lui, Auipc, Jal, Jalr, Branch, Load, Store, AluImm, AluReg, Fence, Ecall, Ebreak}
use Rattle.rv_decode.specs.declared.instr.Width.{Width}
use Rattle.memory_map.specs.Cells.{read, write, first_without}
use Rattle.call_replies.specs.declared.Reply.{Reply}
use Rattle.call_replies.specs.declared.Reply.TheVariants.{Answers, Moves, Breaks, Exits}
use Rattle.call_replies.specs.Calls.{reply_to}
use Rattle.rv_machine.specs.State.{State, Next, Goes, Ends, StepResult, reg, write_reg, at, following, trap, no_call, event_of}
use Rattle.rv_machine.specs.Effects.{even, jump, exit, taken, size_of, after_load, after_store, after_call, address_of, effect}
use Rattle.replay_law.proofs.Agreeing.{HaveSameRights, first_same, reply_same}

-- two states, each on an input, that the events so far do not tell apart
pub record AreAlike (x y : List ℕ) (s r : State) : Type 0 where
  pub pc : r.pc ≡ s.pc
  pub rights : HaveSameRights r.memory s.memory
  pub heap : r.heap ≡ s.heap
  pub left : length y - r.place ≡ length x - s.place

-- two steps go to one program counter, or come to one end
abbrev pub Looks : Next → Next → Type 0
Looks (Goes r) (Goes s) = r.pc ≡ s.pc
Looks (Goes r) (Ends e) = ⊥
Looks (Ends e) (Goes s) = ⊥
Looks (Ends d) (Ends e) = d ≡ e

-- the program counter or the trap's value that a step shows
abbrev pub shown_by : Next → ℕ
shown_by (Goes s) = s.pc
shown_by (Ends (ends.Trap t)) = t.value
shown_by (Ends (ends.Exit code)) = 0
shown_by (Ends ends.Limit) = 0

-- the target of a jump by an offset
abbrev pub target_of : State → ℕ → ℕ
target_of s offset = (s.pc + offset) % 2 ^ 32

-- the values of a call are the same
pub record HaveSameCall (s r : State) : Type 0 where
  pub a7 : reg r 17 ≡ reg s 17
  pub a0 : reg r 10 ≡ reg s 10
  pub a1 : reg r 11 ≡ reg s 11
  pub a2 : reg r 12 ≡ reg s 12

-- the values that an instruction pins
abbrev pub IsPinned : State → State → Instr → Type 0
IsPinned s r (Jalr rd rs1 imm) = even (address_of r rs1 (bits imm)) ≡ even (address_of s rs1 (bits imm))
IsPinned s r (Branch c rs1 rs2 offset) = (target_of s (bits offset) ≡ following s.pc) ⊎ (taken c (reg r rs1) (reg r rs2) ≡ taken c (reg s rs1) (reg s rs2))
IsPinned s r (Load width rd rs1 imm) = address_of r rs1 (bits imm) ≡ address_of s rs1 (bits imm)
IsPinned s r (Store width rs1 rs2 imm) = address_of r rs1 (bits imm) ≡ address_of s rs1 (bits imm)
IsPinned s r Ecall = HaveSameCall s r
IsPinned s r (Lui rd imm) = Unit {0}
IsPinned s r (Auipc rd imm) = Unit {0}
IsPinned s r (Jal rd offset) = Unit {0}
IsPinned s r (AluImm op rd rs1 imm) = Unit {0}
IsPinned s r (AluReg op rd rs1 rs2) = Unit {0}
IsPinned s r (Fence word) = Unit {0}
IsPinned s r Ebreak = Unit {0}

-- two steps that look the same
pub record LookSame (a b : StepResult) : Type 0 where
  pub event : b.event ≡ a.event
  pub next : Looks b.next a.next

-- ---- from pinned values to the same look

-- two events with the same parts
pub event_same : (s r : State) → r.pc ≡ s.pc → (word addr addr' : ℕ) → addr' ≡ addr → (call call' : List ℕ) → call' ≡ call → (kind : EventKind) → event_of r word addr' call' kind ≡ event_of s word addr call kind
event_same s r e word addr addr' f call call' g kind = (λ i. record { pc = e i; word = word; addr = f i; call = g i; kind = kind })

-- two plain events
pub plain_same : (s r : State) → r.pc ≡ s.pc → (word : ℕ) → event_of r word 0 no_call kinds.Plain ≡ event_of s word 0 no_call kinds.Plain
plain_same s r e word = event_same s r e word 0 0 refl no_call no_call refl kinds.Plain

-- two traps with the same parts look the same
pub trap_same : (p q : ℕ) → p ≡ q → (kind : TrapKind) (v w : ℕ) → v ≡ w → Looks (trap p kind v) (trap q kind w)
trap_same p q e kind v w f = (λ i. ends.Trap (record { kind = kind; pc = e i; value = f i }))

-- two jumps, by the same test of their targets
jump_if : (b : Bool) (p q t u : ℕ) (a c : State) → p ≡ q → t ≡ u → Looks (if b then Goes (at t a) else trap p traps.MisalignedJump t) (if b then Goes (at u c) else trap q traps.MisalignedJump u)
jump_if true p q t u a c e f = f
jump_if false p q t u a c e f = trap_same p q e traps.MisalignedJump t u f

-- two jumps to one target look the same
jump_looks : (p q t u : ℕ) (a c : State) → p ≡ q → t ≡ u → Looks (jump p t a) (jump q u c)
jump_looks p q t u a c e f =
    subst (λ (b : Bool). Looks (if b then Goes (at t a) else trap p traps.MisalignedJump t) (if u % 4 == 0 then Goes (at u c) else trap q traps.MisalignedJump u))
    (ap (λ n. n % 4 == 0) (sym f)) (jump_if (u % 4 == 0) p q t u a c e f)

-- a jump whose test holds goes on
jump_straight : (p t : ℕ) (a : State) (b : Bool) → b ≡ true → (if b then Goes (at t a) else trap p traps.MisalignedJump t) ≡ Goes (at t a)
jump_straight p t a true e = refl
jump_straight p t a false e = cc

-- a jump to a multiple of 4 goes on
pub jump_is : (p t : ℕ) (a : State) → t % 4 ≡ 0 → jump p t a ≡ Goes (at t a)
jump_is p t a e = jump_straight p t a (t % 4 == 0) (eq-eqb (t % 4) 0 e)

-- a branch, by whether it is taken
abbrev branch : Bool → ℕ → ℕ → State → Next
branch b pc t s = if b then jump pc t s else Goes (at (following pc) s)

-- a branch to the next instruction, taken or not
branch_near : (b : Bool) (pc t : ℕ) (s : State) → t ≡ following pc → following pc % 4 ≡ 0 → branch b pc t s ≡ Goes (at (following pc) s)
branch_near true pc t s e f = jump_is pc t s (ap (λ n. n % 4) e ∙ f) ∙ ap (λ n. Goes (at n s)) e
branch_near false pc t s e f = refl

-- two branches with the same outcome look the same
branch_same : (b : Bool) (p q t u : ℕ) (r s : State) → p ≡ q → t ≡ u → Looks (branch b p t r) (branch b q u s)
branch_same true p q t u r s e f = jump_looks p q t u r s e f
branch_same false p q t u r s e f = ap following e

-- two steps that go on to one program counter look the same
both_near : (m n : Next) (r s : State) → m ≡ Goes r → n ≡ Goes s → r.pc ≡ s.pc → Looks m n
both_near m n r s e f g = subst (λ (k : Next). Looks k n) (sym e) (subst (λ (k : Next). Looks (Goes r) k) (sym f) g)

-- two loads with the same fault look the same
load_looks : (s r : State) (width : Width) (rd a c : ℕ) (o : Option ℕ) → r.pc ≡ s.pc → Looks (after_load r width rd a o) (after_load s width rd c o)
load_looks s r width rd a c None e = ap following e
load_looks s r width rd a c (Some fault) e = trap_same r.pc s.pc e traps.LoadFault fault fault refl

-- two stores with the same fault look the same
store_looks : (s r : State) (width : Width) (v w a c : ℕ) (o : Option ℕ) → r.pc ≡ s.pc → Looks (after_store r width v a o) (after_store s width w c o)
store_looks s r width v w a c None e = ap following e
store_looks s r width v w a c (Some fault) e = trap_same r.pc s.pc e traps.StoreFault fault fault refl

-- two exits with one code look the same
exit_looks : (p q : ℕ) → p ≡ q → (code : ℕ) → Looks (exit p code) (exit q code)
exit_looks p q e code = either (nat_lt code 128)
  where
    either : (b : Bool) → Looks (if b then Ends (ends.Exit code) else trap p traps.Abort code) (if b then Ends (ends.Exit code) else trap q traps.Abort code)
    either true = refl
    either false = trap_same p q e traps.Abort code code refl

-- two calls with the same reply look the same
reply_looks : (x y : List ℕ) (s r : State) (p : Reply) → r.pc ≡ s.pc → Looks (after_call y r p) (after_call x s p)
reply_looks x y s r (Answers v) e = ap following e
reply_looks x y s r (Moves k) e = ap following e
reply_looks x y s r (Breaks h a) e = ap following e
reply_looks x y s r (Exits code) e = exit_looks r.pc s.pc e code

-- ranges at one address have the same fault
faults_same : {x y : List ℕ} {s r : State} → AreAlike x y s r → (right n a c : ℕ) → a ≡ c → first_without right r.memory a n ≡ first_without right s.memory c n
faults_same {x} {y} {s} {r} al right n a c e = ap (λ p. first_without right r.memory p n) e ∙ first_same r.memory s.memory al.rights right n c

-- calls with the same values have the same reply
replies_same : {x y : List ℕ} {s r : State} → AreAlike x y s r → HaveSameCall s r → reply_to r.memory r.heap (length y - r.place) (reg r 17) (reg r 10) (reg r 11) (reg r 12) ≡ reply_to s.memory s.heap (length x - s.place) (reg s 17) (reg s 10) (reg s 11) (reg s 12)
replies_same {x} {y} {s} {r} al h =
    (λ i. reply_to r.memory (al.heap i) (al.left i) (h.a7 i) (h.a0 i) (h.a1 i) (h.a2 i)) ∙ reply_same al.rights s.heap (length x - s.place) (reg s 17) (reg s 10) (reg s 11) (reg s 12)

-- the address after a multiple of 4 is one
pub next_aligned : (pc : ℕ) → pc % 4 ≡ 0 → following pc % 4 ≡ 0
next_aligned pc e = omega arith

-- two branches look the same, where one to the next instruction has no outcome
branch_looks : (s r : State) (b c : Bool) (offset : ℕ) → r.pc ≡ s.pc → s.pc % 4 ≡ 0 → (target_of s offset ≡ following s.pc) ⊎ (b ≡ c) → Looks (branch b r.pc (target_of r offset) r) (branch c s.pc (target_of s offset) s)
branch_looks s r b c offset e al (inl near) =
    both_near _ _ (at (following r.pc) r) (at (following s.pc) s)
    (branch_near b r.pc (target_of r offset) r (ap (λ p. (p + offset) % 2 ^ 32) e ∙ near ∙ ap following (sym e)) (ap (λ p. following p % 4) e ∙ next_aligned s.pc al))
    (branch_near c s.pc (target_of s offset) s near (next_aligned s.pc al))
    (ap following e)
branch_looks s r b c offset e al (inr same) =
    subst (λ (d : Bool). Looks (branch b r.pc (target_of r offset) r) (branch d s.pc (target_of s offset) s)) same
    (branch_same b r.pc s.pc (target_of r offset) (target_of s offset) r s e (ap (λ p. (p + offset) % 2 ^ 32) e))

-- the row of each instruction
pub row_looks : {x y : List ℕ} {s r : State} → AreAlike x y s r → s.pc % 4 ≡ 0 → (word : ℕ) (i : Instr) → IsPinned s r i → LookSame (effect x s word i) (effect y r word i)
unfolding effect
row_looks {x} {y} {s} {r} al ev word (Lui rd imm) h = record { event = plain_same s r al.pc word; next = ap following al.pc }
row_looks {x} {y} {s} {r} al ev word (Auipc rd imm) h = record { event = plain_same s r al.pc word; next = ap following al.pc }
row_looks {x} {y} {s} {r} al ev word (Jal rd offset) h = record {
  event = plain_same s r al.pc word;
  next = jump_looks r.pc s.pc (target_of r (bits offset)) (target_of s (bits offset)) (write_reg rd (following r.pc) r) (write_reg rd (following s.pc) s) al.pc (ap (λ p. (p + bits offset) % 2 ^ 32) al.pc);
}
row_looks {x} {y} {s} {r} al ev word (Jalr rd rs1 imm) h = record {
  event = plain_same s r al.pc word;
  next = jump_looks r.pc s.pc (even (address_of r rs1 (bits imm))) (even (address_of s rs1 (bits imm))) (write_reg rd (following r.pc) r) (write_reg rd (following s.pc) s) al.pc h;
}
row_looks {x} {y} {s} {r} al ev word (Branch c rs1 rs2 offset) h = record {
  event = plain_same s r al.pc word;
  next = branch_looks s r (taken c (reg r rs1) (reg r rs2)) (taken c (reg s rs1) (reg s rs2)) (bits offset) al.pc ev h;
}
row_looks {x} {y} {s} {r} al ev word (Load width rd rs1 imm) h = record {
  event = event_same s r al.pc word (address_of s rs1 (bits imm)) (address_of r rs1 (bits imm)) h no_call no_call refl kinds.Load;
  next = subst (λ (o : Option ℕ). Looks (after_load r width rd (address_of r rs1 (bits imm)) (first_without read r.memory (address_of r rs1 (bits imm)) (size_of width))) (after_load s width rd (address_of s rs1 (bits imm)) o))
      (faults_same al read (size_of width) (address_of r rs1 (bits imm)) (address_of s rs1 (bits imm)) h)
      (load_looks s r width rd (address_of r rs1 (bits imm)) (address_of s rs1 (bits imm)) (first_without read r.memory (address_of r rs1 (bits imm)) (size_of width)) al.pc);
}
row_looks {x} {y} {s} {r} al ev word (Store width rs1 rs2 imm) h = record {
  event = event_same s r al.pc word (address_of s rs1 (bits imm)) (address_of r rs1 (bits imm)) h no_call no_call refl kinds.Store;
  next = subst (λ (o : Option ℕ). Looks (after_store r width (reg r rs2) (address_of r rs1 (bits imm)) (first_without write r.memory (address_of r rs1 (bits imm)) (size_of width))) (after_store s width (reg s rs2) (address_of s rs1 (bits imm)) o))
      (faults_same al write (size_of width) (address_of r rs1 (bits imm)) (address_of s rs1 (bits imm)) h)
      (store_looks s r width (reg r rs2) (reg s rs2) (address_of r rs1 (bits imm)) (address_of s rs1 (bits imm)) (first_without write r.memory (address_of r rs1 (bits imm)) (size_of width)) al.pc);
}
row_looks {x} {y} {s} {r} al ev word (AluImm op rd rs1 imm) h = record { event = plain_same s r al.pc word; next = ap following al.pc }
row_looks {x} {y} {s} {r} al ev word (AluReg op rd rs1 rs2) h = record { event = plain_same s r al.pc word; next = ap following al.pc }
row_looks {x} {y} {s} {r} al ev word (Fence bits') h = record { event = plain_same s r al.pc word; next = ap following al.pc }
row_looks {x} {y} {s} {r} al ev word Ecall h = record {
  event = event_same s r al.pc word 0 0 refl (reg s 17 ∷ reg s 10 ∷ reg s 11 ∷ reg s 12 ∷ []) (reg r 17 ∷ reg r 10 ∷ reg r 11 ∷ reg r 12 ∷ []) (λ i. h.a7 i ∷ h.a0 i ∷ h.a1 i ∷ h.a2 i ∷ []) kinds.Call;
  next = subst (λ (p : Reply). Looks (after_call y r (reply_to r.memory r.heap (length y - r.place) (reg r 17) (reg r 10) (reg r 11) (reg r 12))) (after_call x s p)) (replies_same al h)
      (reply_looks x y s r (reply_to r.memory r.heap (length y - r.place) (reg r 17) (reg r 10) (reg r 11) (reg r 12)) al.pc);
}
row_looks {x} {y} {s} {r} al ev word Ebreak h = record { event = plain_same s r al.pc word; next = trap_same r.pc s.pc al.pc traps.Breakpoint 0 0 refl }

-- ---- from the same look to pinned values

-- a jump shows its target
pub jump_shows : (pc t : ℕ) (a : State) → shown_by (jump pc t a) ≡ t
jump_shows pc t a = by_test (t % 4 == 0)
  where
    by_test : (b : Bool) → shown_by (if b then Goes (at t a) else trap pc traps.MisalignedJump t) ≡ t
    by_test true = refl
    by_test false = refl

-- branches that show the same have the same outcome, or go to the next instruction
branch_pins : (b c : Bool) (p q t u : ℕ) (r s : State) → p ≡ q → t ≡ u → shown_by (branch b p t r) ≡ shown_by (branch c q u s) → (u ≡ following q) ⊎ (b ≡ c)
branch_pins true true p q t u r s e f h = inr refl
branch_pins true false p q t u r s e f h = inl (sym f ∙ sym (jump_shows p t r) ∙ h)
branch_pins false true p q t u r s e f h = inl (sym (jump_shows q u s) ∙ sym h ∙ ap following e)
branch_pins false false p q t u r s e f h = inr refl

-- instructions that show the same have the same pinned values
pub row_pins : {x y : List ℕ} {s r : State} → AreAlike x y s r → (word : ℕ) (i : Instr) → (effect y r word i).event ≡ (effect x s word i).event → shown_by (effect y r word i).next ≡ shown_by (effect x s word i).next → IsPinned s r i
unfolding effect
row_pins al word (Lui rd imm) e h = tt
row_pins al word (Auipc rd imm) e h = tt
row_pins al word (Jal rd offset) e h = tt
row_pins {x} {y} {s} {r} al word (Jalr rd rs1 imm) e h =
    sym (jump_shows r.pc (even (address_of r rs1 (bits imm))) (write_reg rd (following r.pc) r)) ∙ h ∙ jump_shows s.pc (even (address_of s rs1 (bits imm))) (write_reg rd (following s.pc) s)
row_pins {x} {y} {s} {r} al word (Branch c rs1 rs2 offset) e h =
    branch_pins (taken c (reg r rs1) (reg r rs2)) (taken c (reg s rs1) (reg s rs2)) r.pc s.pc (target_of r (bits offset)) (target_of s (bits offset)) r s al.pc (ap (λ p. (p + bits offset) % 2 ^ 32) al.pc) h
row_pins al word (Load width rd rs1 imm) e h = (λ i. (e i).addr)
row_pins al word (Store width rs1 rs2 imm) e h = (λ i. (e i).addr)
row_pins al word (AluImm op rd rs1 imm) e h = tt
row_pins al word (AluReg op rd rs1 rs2) e h = tt
row_pins al word (Fence bits') e h = tt
row_pins al word Ecall e h = record {
  a7 = (λ i. slice_index (e i).call 0);
  a0 = (λ i. slice_index (e i).call 1);
  a1 = (λ i. slice_index (e i).call 2);
  a2 = (λ i. slice_index (e i).call 3);
}
row_pins al word Ebreak e h = tt
