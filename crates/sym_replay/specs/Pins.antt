-- What the pins of an event add.
use Rattle.std.specs.Prelude.{◌≡◌, ℕ, List, ◌++◌, slice_index, bit_and}
use Rattle.rv_word.specs.Word.{byte_of}
use Rattle.term_model.specs.Tree.{Tree}
use Rattle.term_arena.specs.Trees.{trees_of}
use Rattle.normal_form.specs.Norm.{norm}
use Rattle.sym_replay.specs.declared.value.Value.{Value}
use Rattle.sym_replay.specs.declared.value.Value.TheVariants.{Known}
use Rattle.replay_law.specs.Forms.{pin, with_conditions}
use Rattle.replay_law.specs.Terms.{SymbolicState, reg_term}

-- conditions of an arena, with more, are those of the arena later
abbrev pub Adds : List Tree → List ℕ → List Tree → List Tree → List ℕ → Type 0
Adds old before more new after = trees_of new after ≡ with_conditions (trees_of old before) more

-- the pins of a7, a0, a1 and a2 to the values of a call
abbrev pub call_conditions : SymbolicState → List ℕ → List Tree
call_conditions s call =
    pin norm (reg_term s 17) (slice_index call 0) ++ (pin norm (reg_term s 10) (slice_index call 1) ++ (pin norm (reg_term s 11) (slice_index call 2) ++ pin norm (reg_term s 12) (slice_index call 3)))

-- a sum is a target once its lowest bit is cleared, byte by byte
pub record IsTarget (sum target : ℕ) : Type 0 where
  pub lowest : bit_and (byte_of 0 sum) 0xfe ≡ byte_of 0 target
  pub second : byte_of 1 sum ≡ byte_of 1 target
  pub third : byte_of 2 sum ≡ byte_of 2 target
  pub highest : byte_of 3 sum ≡ byte_of 3 target

-- a value is known to be a target
abbrev pub IsKnownTarget : Value → ℕ → Type 0
IsKnownTarget sum target = (w : ℕ) × (sum ≡ Known w) × IsTarget w target
