-- What the rules give for the image of a file.
use Rattle.std.proofs.Common.{◌≡◌, ◌≤◌, ◌%◌, ℕ, List, length, refl, Bool, true, false, not, ltb-false, eqb-true, Option, Some, None, if◌then◌else◌, ◌∷◌}
use Rattle.std.specs.List.{list_any}
use Rattle.elf32.specs.declared.error.ElfError.{ElfError}
use Rattle.elf32.specs.declared.header.Header.{Header}
use Rattle.elf32.specs.declared.image.Image.{Image}
use Rattle.elf32.specs.Fields.{e_entry, headers}
use Rattle.elf32.specs.Spans.{stack, overlap}
use Rattle.elf32.specs.Rules.{refusal, segment_refusal, is_short, lacks_magic, has_other_class, has_other_encoding, has_other_type, has_other_machine, has_other_instructions, lacks_table, is_outside, spans_of, memory_size}
use Rattle.elf32.specs.Loads.{segments_of, loaded_program, program_of}
use Rattle.elf32.proofs.Order.{in_order_permutes, in_order_rises}
use Rattle.elf32.proofs.Kept.{Kept, kept}

-- a rule is kept, and so are those after it
rule_kept : (b : Bool) (e : ElfError) (rest : Option ElfError) → (if b then Some e else rest) ≡ None → b ≡ false
rule_kept true e rest h = absurd (cc)
rule_kept false e rest h = refl

others_kept : (b : Bool) (e : ElfError) (rest : Option ElfError) → (if b then Some e else rest) ≡ None → rest ≡ None
others_kept true e rest h = absurd (cc)
others_kept false e rest h = h

not_false : (b : Bool) → not b ≡ false → b ≡ true
not_false true h = refl
not_false false h = absurd (cc)

-- what the rules of the program headers and the entry point say
pub record KeepsRules (file_length entry : ℕ) (hs : List Header) : Type 0 where
  pub inside : list_any (is_outside file_length) hs ≡ false
  pub apart : overlap (stack ∷ spans_of hs) ≡ false
  pub small : memory_size hs ≤ 67108864
  pub aligned : entry % 4 ≡ 0

keeps_rules : (file_length entry : ℕ) (hs : List Header) → segment_refusal file_length entry hs ≡ None → KeepsRules file_length entry hs
unfolding segment_refusal
keeps_rules file_length entry hs none =
    let one = others_kept _ _ _ none in
    let two = others_kept _ _ _ one in
    let three = others_kept _ _ _ two in
    let four = others_kept _ _ _ three in
    record {
      inside = rule_kept _ _ _ one;
      apart = rule_kept _ _ _ two;
      small = ltb-false _ _ (rule_kept _ _ _ three);
      aligned = eqb-true _ _ (not_false _ (rule_kept _ _ _ four));
    }

accepted : (bytes : List ℕ) → refusal bytes ≡ None → KeepsRules (length bytes) (e_entry bytes) (headers bytes)
unfolding refusal
accepted bytes none =
    let one = others_kept (is_short bytes) _ _ none in
    let two = others_kept (lacks_magic bytes) _ _ one in
    let three = others_kept (has_other_class bytes) _ _ two in
    let four = others_kept (has_other_encoding bytes) _ _ three in
    let five = others_kept (has_other_type bytes) _ _ four in
    let six = others_kept (has_other_machine bytes) _ _ five in
    let seven = others_kept (has_other_instructions bytes) _ _ six in
    keeps_rules (length bytes) (e_entry bytes) (headers bytes) (others_kept (lacks_table bytes) _ _ seven)

pub entry_aligned : (bytes : List ℕ) → refusal bytes ≡ None → (loaded_program bytes).entry % 4 ≡ 0
entry_aligned bytes none = let k = accepted bytes none in k.aligned

pub image_kept : (bytes : List ℕ) → refusal bytes ≡ None → Kept (loaded_program bytes).segments
image_kept bytes none =
    let k = accepted bytes none in
    let found = segments_of bytes (headers bytes) in
    kept bytes (headers bytes) found (loaded_program bytes).segments refl (in_order_permutes found) (in_order_rises found) k.inside k.apart k.small

-- the program of a file's image is the file's
pub same_program : (image : Image) (bytes : List ℕ) → image.entry ≡ (loaded_program bytes).entry → image.segments ≡ (loaded_program bytes).segments → program_of image ≡ loaded_program bytes
same_program image bytes entry segments = λ i. record { entry = entry i; segments = segments i }

-- a file that breaks no rule has an ELF header
pub has_header : (bytes : List ℕ) → refusal bytes ≡ None → 52 ≤ length bytes
unfolding refusal
has_header bytes none = ltb-false _ _ (rule_kept _ _ _ none)
