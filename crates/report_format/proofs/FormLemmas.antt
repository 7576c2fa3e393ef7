-- The words for traps, and the bytes of sets.
use Rattle.std.proofs.Common.{◌+◌, ◌*◌, ◌^◌, ◌<◌, ◌≤◌, ℕ, Bool, true, false, All, length, get_or, arith, refl}
use Rattle.std.specs.Prelude.{◌≡◌, if◌then◌else◌}
use Rattle.std.specs.List.{range_with_len}
use Rattle.std.proofs.lemmas.List.{length-map}
use Rattle.std.proofs.lemmas.List.Sums.{length-filter, count_by-le-length}
use Rattle.std.proofs.lemmas.List.FromFn.{length-range_with_len}
use Rattle.std.proofs.lemmas.List.Elements.{All-map}
use Rattle.input_laws.specs.Inputs.{bytes}
use Rattle.input_laws.specs.Sets.{size}
use Rattle.byte_sets.specs.ByteSet.{set_byte, set_bytes}
use Rattle.rv_event.specs.declared.event.TrapKind.{TrapKind}
use Rattle.rv_event.specs.declared.event.TrapKind.TheVariants.{Illegal, FetchFault, MisalignedJump, LoadFault, StoreFault, Breakpoint, Abort}
use Rattle.text_lines.proofs.Cuts.{Dark, dark-literal}
use Rattle.report_format.specs.Text.{kind_name}

pub dark-kind : (kind : TrapKind) → Dark (kind_name kind)
dark-kind Illegal = dark-literal (kind_name Illegal) refl
dark-kind FetchFault = dark-literal (kind_name FetchFault) refl
dark-kind MisalignedJump = dark-literal (kind_name MisalignedJump) refl
dark-kind LoadFault = dark-literal (kind_name LoadFault) refl
dark-kind StoreFault = dark-literal (kind_name StoreFault) refl
dark-kind Breakpoint = dark-literal (kind_name Breakpoint) refl
dark-kind Abort = dark-literal (kind_name Abort) refl

-- ---- sets

pub size_small : (set : ℕ → Bool) → size set < 2 ^ 64
unfolding bytes
size_small set = omega (arith, length-filter set bytes, count_by-le-length set bytes, length-range_with_len 0 256)

pub set_bytes-length : (set : ℕ → Bool) → length (set_bytes set) ≡ 32
unfolding set_bytes
set_bytes-length set = simp length-map (length-range_with_len 0 32)

weight_small : (b : ℕ) (t : Bool) → (if t then 2 ^ b else 0) ≤ 2 ^ b
weight_small b true = omega arith
weight_small b false = omega arith

set_byte-low : (set : ℕ → Bool) (k : ℕ) → set_byte set k < 256
set_byte-low set k = omega (arith, weight_small 0 (set (8 * k + 0)), weight_small 1 (set (8 * k + 1)), weight_small 2 (set (8 * k + 2)), weight_small 3 (set (8 * k + 3)), weight_small 4 (set (8 * k + 4)), weight_small 5 (set (8 * k + 5)), weight_small 6 (set (8 * k + 6)), weight_small 7 (set (8 * k + 7)))

pub set_bytes-low : (set : ℕ → Bool) → All (λ b. b < 256) (set_bytes set)
unfolding set_bytes
set_bytes-low set = All-map (λ b. b < 256) (set_byte set) (range_with_len 0 32) (λ i d lt. set_byte-low set (get_or (range_with_len 0 32) i d))
