-- The table and its reading by opcode say the same of each word, and a word matches one row at most.
use Rattle.std.proofs.Common.{◌≡◌, ℕ, ◌<◌, refl, arith, rules, ◌==◌, is_some, if◌then◌else◌, Bool, true, false}
use Rattle.rv_decode.specs.Fields.{opcode_of, funct3_of, funct7_of}
use Rattle.rv_decode.specs.Table.{table, decoded, rows_matched}
use Rattle.rv_decode.specs.Opcodes.{branch_of, load_of, store_of, alu_immediate_of, alu_register_of, instruction_of}

-- a goal by the outcome of a test
by_test : {P : Type 0} (b : Bool) → (b ≡ true → P) → (b ≡ false → P) → P
by_test true f g = f refl
by_test false f g = g refl

-- a number that passes the test for k is k
pub is : (a k : ℕ) → (a == k) ≡ true → a ≡ k
is a k h = search rules

-- a number that fails the test for k isn't k
is_not : (a k : ℕ) → (a == k) ≡ false → a ≡ k → ⊥
is_not a k h e = search rules

-- a word that isn't k fails the test for k
not_whole : (w k : ℕ) → (w ≡ k → ⊥) → (w == k) ≡ false
not_whole w k h = by_test (w == k) (λ s. absurd (h (is w k s))) (λ s. s)

-- a goal by the value of three bits
by_three_bits : {P : Type 0} (f : ℕ) → f < 8 → (f ≡ 0 → P) → (f ≡ 1 → P) → (f ≡ 2 → P) → (f ≡ 3 → P) → (f ≡ 4 → P) → (f ≡ 5 → P) → (f ≡ 6 → P) → (f ≡ 7 → P) → P
by_three_bits f small a b c d e g h k =
    by_test (f == 0) (λ s. a (is f 0 s)) (λ s0.
    by_test (f == 1) (λ s. b (is f 1 s)) (λ s1.
    by_test (f == 2) (λ s. c (is f 2 s)) (λ s2.
    by_test (f == 3) (λ s. d (is f 3 s)) (λ s3.
    by_test (f == 4) (λ s. e (is f 4 s)) (λ s4.
    by_test (f == 5) (λ s. g (is f 5 s)) (λ s5.
    by_test (f == 6) (λ s. h (is f 6 s)) (λ s6.
    k (grind arith))))))))

-- a goal by the values of funct7 that the table has
by_funct7 : {P : Type 0} (f : ℕ) → (f ≡ 0 → P) → (f ≡ 0x20 → P) → (f ≡ 1 → P) → ((f == 0) ≡ false → (f == 0x20) ≡ false → (f == 1) ≡ false → P) → P
by_funct7 f a b c d =
    by_test (f == 0) (λ s. a (is f 0 s)) (λ s0.
    by_test (f == 0x20) (λ s. b (is f 0x20 s)) (λ s1.
    by_test (f == 1) (λ s. c (is f 1 s)) (λ s2.
    d s0 s1 s2)))

-- the two readings agree, and count the same
abbrev IsListed : ℕ → Type 0
IsListed w = (decoded w ≡ instruction_of w) × (rows_matched w ≡ (if is_some (instruction_of w) then 1 else 0))

-- the opcode of LUI
upper_immediates : (w : ℕ) → opcode_of w ≡ 0x37 → IsListed w
unfolding decoded rows_matched table instruction_of
upper_immediates w e = rw (not_whole w 0x00000073 (λ s. omega arith)) (rw (not_whole w 0x00100073 (λ s. omega arith)) (rw e (refl, refl)))

-- the opcode of AUIPC
program_counters : (w : ℕ) → opcode_of w ≡ 0x17 → IsListed w
unfolding decoded rows_matched table instruction_of
program_counters w e = rw (not_whole w 0x00000073 (λ s. omega arith)) (rw (not_whole w 0x00100073 (λ s. omega arith)) (rw e (refl, refl)))

-- the opcode of JAL
jumps : (w : ℕ) → opcode_of w ≡ 0x6f → IsListed w
unfolding decoded rows_matched table instruction_of
jumps w e = rw (not_whole w 0x00000073 (λ s. omega arith)) (rw (not_whole w 0x00100073 (λ s. omega arith)) (rw e (refl, refl)))

-- the opcode of JALR
register_jumps : (w : ℕ) → opcode_of w ≡ 0x67 → IsListed w
unfolding decoded rows_matched table instruction_of
register_jumps w e =
    rw (not_whole w 0x00000073 (λ s. omega arith)) (rw (not_whole w 0x00100073 (λ s. omega arith)) (rw e
    (by_three_bits (funct3_of w) (omega arith)
    (λ k. rw k (refl, refl))
    (λ k. rw k (refl, refl))
    (λ k. rw k (refl, refl))
    (λ k. rw k (refl, refl))
    (λ k. rw k (refl, refl))
    (λ k. rw k (refl, refl))
    (λ k. rw k (refl, refl))
    (λ k. rw k (refl, refl)))))

-- the opcode of the branches
branches : (w : ℕ) → opcode_of w ≡ 0x63 → IsListed w
unfolding decoded rows_matched table instruction_of branch_of
branches w e =
    rw (not_whole w 0x00000073 (λ s. omega arith)) (rw (not_whole w 0x00100073 (λ s. omega arith)) (rw e
    (by_three_bits (funct3_of w) (omega arith)
    (λ k. rw k (refl, refl))
    (λ k. rw k (refl, refl))
    (λ k. rw k (refl, refl))
    (λ k. rw k (refl, refl))
    (λ k. rw k (refl, refl))
    (λ k. rw k (refl, refl))
    (λ k. rw k (refl, refl))
    (λ k. rw k (refl, refl)))))

-- the opcode of the loads
loads : (w : ℕ) → opcode_of w ≡ 0x03 → IsListed w
unfolding decoded rows_matched table instruction_of load_of
loads w e =
    rw (not_whole w 0x00000073 (λ s. omega arith)) (rw (not_whole w 0x00100073 (λ s. omega arith)) (rw e
    (by_three_bits (funct3_of w) (omega arith)
    (λ k. rw k (refl, refl))
    (λ k. rw k (refl, refl))
    (λ k. rw k (refl, refl))
    (λ k. rw k (refl, refl))
    (λ k. rw k (refl, refl))
    (λ k. rw k (refl, refl))
    (λ k. rw k (refl, refl))
    (λ k. rw k (refl, refl)))))

-- the opcode of the stores
stores : (w : ℕ) → opcode_of w ≡ 0x23 → IsListed w
unfolding decoded rows_matched table instruction_of store_of
stores w e =
    rw (not_whole w 0x00000073 (λ s. omega arith)) (rw (not_whole w 0x00100073 (λ s. omega arith)) (rw e
    (by_three_bits (funct3_of w) (omega arith)
    (λ k. rw k (refl, refl))
    (λ k. rw k (refl, refl))
    (λ k. rw k (refl, refl))
    (λ k. rw k (refl, refl))
    (λ k. rw k (refl, refl))
    (λ k. rw k (refl, refl))
    (λ k. rw k (refl, refl))
    (λ k. rw k (refl, refl)))))

-- the opcode of the operations on a register and an immediate
immediates : (w : ℕ) → opcode_of w ≡ 0x13 → IsListed w
unfolding decoded rows_matched table instruction_of alu_immediate_of
immediates w e =
    rw (not_whole w 0x00000073 (λ s. omega arith)) (rw (not_whole w 0x00100073 (λ s. omega arith)) (rw e
    (by_three_bits (funct3_of w) (omega arith)
    (λ k. rw k (refl, refl))
    (λ k. rw k (by_test (funct7_of w == 0) (λ h. rw h (refl, refl)) (λ h. rw h (refl, refl))))
    (λ k. rw k (refl, refl))
    (λ k. rw k (refl, refl))
    (λ k. rw k (refl, refl))
    (λ k. rw k (by_test (funct7_of w == 0) (λ h. rw (is (funct7_of w) 0 h) (refl, refl)) (λ h. rw h (by_test (funct7_of w == 0x20) (λ i. rw i (refl, refl)) (λ i. rw i (refl, refl))))))
    (λ k. rw k (refl, refl))
    (λ k. rw k (refl, refl)))))

-- the opcode of the operations on two registers
registers : (w : ℕ) → opcode_of w ≡ 0x33 → IsListed w
unfolding decoded rows_matched table instruction_of alu_register_of
registers w e =
    rw (not_whole w 0x00000073 (λ s. omega arith)) (rw (not_whole w 0x00100073 (λ s. omega arith)) (rw e
    (by_three_bits (funct3_of w) (omega arith)
    (λ k. rw k (by_funct7 (funct7_of w) (λ h. rw h (refl, refl)) (λ h. rw h (refl, refl)) (λ h. rw h (refl, refl)) (λ a b d. rw a (rw b (rw d (refl, refl))))))
    (λ k. rw k (by_funct7 (funct7_of w) (λ h. rw h (refl, refl)) (λ h. rw h (refl, refl)) (λ h. rw h (refl, refl)) (λ a b d. rw a (rw b (rw d (refl, refl))))))
    (λ k. rw k (by_funct7 (funct7_of w) (λ h. rw h (refl, refl)) (λ h. rw h (refl, refl)) (λ h. rw h (refl, refl)) (λ a b d. rw a (rw b (rw d (refl, refl))))))
    (λ k. rw k (by_funct7 (funct7_of w) (λ h. rw h (refl, refl)) (λ h. rw h (refl, refl)) (λ h. rw h (refl, refl)) (λ a b d. rw a (rw b (rw d (refl, refl))))))
    (λ k. rw k (by_funct7 (funct7_of w) (λ h. rw h (refl, refl)) (λ h. rw h (refl, refl)) (λ h. rw h (refl, refl)) (λ a b d. rw a (rw b (rw d (refl, refl))))))
    (λ k. rw k (by_funct7 (funct7_of w) (λ h. rw h (refl, refl)) (λ h. rw h (refl, refl)) (λ h. rw h (refl, refl)) (λ a b d. rw a (rw b (rw d (refl, refl))))))
    (λ k. rw k (by_funct7 (funct7_of w) (λ h. rw h (refl, refl)) (λ h. rw h (refl, refl)) (λ h. rw h (refl, refl)) (λ a b d. rw a (rw b (rw d (refl, refl))))))
    (λ k. rw k (by_funct7 (funct7_of w) (λ h. rw h (refl, refl)) (λ h. rw h (refl, refl)) (λ h. rw h (refl, refl)) (λ a b d. rw a (rw b (rw d (refl, refl)))))))))

-- the opcode of the fences
fences : (w : ℕ) → opcode_of w ≡ 0x0f → IsListed w
unfolding decoded rows_matched table instruction_of
fences w e =
    rw (not_whole w 0x00000073 (λ s. omega arith)) (rw (not_whole w 0x00100073 (λ s. omega arith)) (rw e
    (by_three_bits (funct3_of w) (omega arith)
    (λ k. rw k (refl, refl))
    (λ k. rw k (refl, refl))
    (λ k. rw k (refl, refl))
    (λ k. rw k (refl, refl))
    (λ k. rw k (refl, refl))
    (λ k. rw k (refl, refl))
    (λ k. rw k (refl, refl))
    (λ k. rw k (refl, refl)))))

-- the opcode of ECALL and EBREAK
systems : (w : ℕ) → opcode_of w ≡ 0x73 → IsListed w
unfolding decoded rows_matched table instruction_of
systems w e = rw e (by_test (w == 0x00000073) (λ h. rw (is w 0x00000073 h) (refl, refl)) (λ h. rw h (by_test (w == 0x00100073) (λ i. rw i (refl, refl)) (λ i. rw i (refl, refl)))))

-- no row has another opcode
others : (w : ℕ) → (opcode_of w == 0x37) ≡ false → (opcode_of w == 0x17) ≡ false → (opcode_of w == 0x6f) ≡ false → (opcode_of w == 0x67) ≡ false → (opcode_of w == 0x63) ≡ false → (opcode_of w == 0x03) ≡ false → (opcode_of w == 0x23) ≡ false → (opcode_of w == 0x13) ≡ false → (opcode_of w == 0x33) ≡ false → (opcode_of w == 0x0f) ≡ false → (opcode_of w == 0x73) ≡ false → IsListed w
unfolding decoded rows_matched table instruction_of
others w h37 h17 h6f h67 h63 h03 h23 h13 h33 h0f h73 =
    rw (not_whole w 0x00000073 (λ s. is_not (opcode_of w) 0x73 h73 (omega arith))) (rw (not_whole w 0x00100073 (λ s. is_not (opcode_of w) 0x73 h73 (omega arith)))
    ((rw h37 (rw h17 (rw h6f (rw h67 (rw h63 (rw h03 (rw h23 (rw h13 (rw h33 (rw h0f (refl, refl)))))))))))))

-- each word is read the same
all_listed : (w : ℕ) → IsListed w
all_listed w =
    by_test (opcode_of w == 0x37) (λ h. upper_immediates w (is (opcode_of w) 0x37 h)) (λ h37.
    by_test (opcode_of w == 0x17) (λ h. program_counters w (is (opcode_of w) 0x17 h)) (λ h17.
    by_test (opcode_of w == 0x6f) (λ h. jumps w (is (opcode_of w) 0x6f h)) (λ h6f.
    by_test (opcode_of w == 0x67) (λ h. register_jumps w (is (opcode_of w) 0x67 h)) (λ h67.
    by_test (opcode_of w == 0x63) (λ h. branches w (is (opcode_of w) 0x63 h)) (λ h63.
    by_test (opcode_of w == 0x03) (λ h. loads w (is (opcode_of w) 0x03 h)) (λ h03.
    by_test (opcode_of w == 0x23) (λ h. stores w (is (opcode_of w) 0x23 h)) (λ h23.
    by_test (opcode_of w == 0x13) (λ h. immediates w (is (opcode_of w) 0x13 h)) (λ h13.
    by_test (opcode_of w == 0x33) (λ h. registers w (is (opcode_of w) 0x33 h)) (λ h33.
    by_test (opcode_of w == 0x0f) (λ h. fences w (is (opcode_of w) 0x0f h)) (λ h0f.
    by_test (opcode_of w == 0x73) (λ h. systems w (is (opcode_of w) 0x73 h)) (λ h73.
    others w h37 h17 h6f h67 h63 h03 h23 h13 h33 h0f h73)))))))))))

-- the table and its reading by opcode agree
pub listed : (w : ℕ) → decoded w ≡ instruction_of w
listed w = (all_listed w).0

-- a word matches one row where it stands for an instruction, and else none
pub one_row : (w : ℕ) → rows_matched w ≡ (if is_some (decoded w) then 1 else 0)
one_row w = rw (all_listed w).0 (all_listed w).1
