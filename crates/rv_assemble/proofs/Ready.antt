-- The code and the regions are as the reading asks.
use Rattle.std.proofs.Common.{◌≡◌, None, ℕ, ◌+◌, ◌*◌, ◌≤◌, ◌^◌, List, [], ◌∷◌, length, map, arith, ap, ◌∙◌}
use Rattle.std.specs.List.{All, sum_by}
use Rattle.std.proofs.lemmas.List.Elements.{All-nil, All-cons, All-head, All-tail}
use Rattle.std.proofs.lemmas.List.Sums.{sum_by-cons}
use Rattle.elf32.specs.declared.span.Span.{Span}
use Rattle.elf32.specs.Spans.{stack, overlap}
use Rattle.rv_assemble.specs.declared.region.Region.{Region}
use Rattle.elf32.specs.Fields.{e_entry}
use Rattle.elf32.specs.Rules.{refusal}
use Rattle.elf32.specs.Loads.{loaded_program}
use Rattle.rv_decode.specs.declared.instr.Instr.{Instr}
use Rattle.rv_assemble.specs.Layout.{file_of}
use Rattle.rv_assemble.specs.Parts.{IsRegion, held, span_of, places, CanLoad, code_region, Spells, IsFile, file_length}
use Rattle.rv_assemble.proofs.Readback.{Fits, CanBe, entry_read, accepted, image_read, length-file}
use Rattle.rv_assemble.proofs.Sums.{all_held}
use Rattle.rv_assemble.proofs.Texts.{spelled_length}

abbrev IsWithin : Span → Type 0
IsWithin s = s.base + s.size ≤ 2 ^ 32

all_fit : (rs : List Region) → All IsRegion rs → All IsWithin (map span_of rs) → sum_by (λ s. s.size) (map span_of rs) ≤ 67108864 → All Fits rs
all_fit [] all within small = All-nil Fits
all_fit (r ∷ rs) all within small =
    let here : IsRegion r = All-head IsRegion r rs all in
    let below : IsWithin (span_of r) = All-head IsWithin (span_of r) (map span_of rs) within in
    let sum = sum_by-cons (λ (s : Span). s.size) (span_of r) (map span_of rs) in
    All-cons Fits r rs
    (record { held = here.held; rights = here.rights; within = below; small = omega arith })
    (all_fit rs (All-tail IsRegion r rs all) (All-tail IsWithin (span_of r) (map span_of rs) within) (omega arith))

pub can_be : (count : ℕ) (text : List ℕ) (rs : List Region) → length text ≡ 4 * count → length rs ≤ 63 → All IsRegion rs → CanLoad (places count rs) → CanBe (code_region text ∷ rs)
can_be count text rs size few all can =
    let code : Span = record { base = 0x10000; size = 4 * count } in
    let spans : map span_of (code_region text ∷ rs) ≡ places count rs =
    ap (λ n. let s : Span = record { base = 0x10000; size = n } in s ∷ map span_of rs) size in
    let sum = sum_by-cons (λ (s : Span). s.size) code (map span_of rs) in
    let small : 4 * count + sum_by (λ s. s.size) (map span_of rs) ≤ 67108864 = omega (arith, can.small) in
    let below : IsWithin code = All-head IsWithin code (map span_of rs) can.within in
    let hold : 4 * count + held rs ≤ 67108864 = all_held count rs all can in
    let all_bytes = sum_by-cons (λ (r : Region). length r.bytes) (code_region text) rs in
    record {
      all = All-cons Fits (code_region text) rs
          (record { held = omega arith; rights = omega arith; within = omega (arith, below); small = omega arith })
          (all_fit rs all (All-tail IsWithin code (map span_of rs) can.within) (omega arith));
      few = omega arith;
      apart = ap (λ ss. overlap (stack ∷ ss)) spans ∙ can.apart;
      small = omega (arith, ap (λ (ss : List Span). sum_by (λ s. s.size) ss) spans);
      held = omega arith;
    }

-- what holds of the file that is written
pub record Built (code : List Instr) (rs : List Region) (file : List ℕ) : Type 0 where
  pub is_file : IsFile code rs file
  pub accepted : refusal file ≡ None
  pub entry : e_entry file ≡ 0x10000
  pub length : length file ≡ file_length (length code) rs

pub built : (code : List Instr) (rs : List Region) (text : Region) (file : List ℕ) → file ≡ file_of (text ∷ rs) → text ≡ code_region text.bytes → Spells text.bytes code → length rs ≤ 63 → All IsRegion rs → CanLoad (places (length code) rs) → Built code rs file
built code rs text file is region spells few all can =
    let whole : file ≡ file_of (code_region text.bytes ∷ rs) = is ∙ ap (λ (r : Region). file_of (r ∷ rs)) region in
    let size : length text.bytes ≡ 4 * length code = spelled_length text.bytes code spells in
    let ready : CanBe (code_region text.bytes ∷ rs) = can_be (length code) text.bytes rs size few all can in
    let sum = sum_by-cons (λ (r : Region). length r.bytes) (code_region text.bytes) rs in
    record {
      is_file = record {
        text = text.bytes;
        spells = spells;
        written = whole;
        segments = ap (λ b. (loaded_program b).segments) whole ∙ image_read (code_region text.bytes ∷ rs) ready;
      };
      accepted = ap refusal whole ∙ accepted (code_region text.bytes ∷ rs) ready;
      entry = ap e_entry whole ∙ entry_read (code_region text.bytes ∷ rs);
      length = omega (arith, ap length whole, length-file (code_region text.bytes ∷ rs));
    }
