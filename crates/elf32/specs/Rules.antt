-- The rules of a file, and the first that it breaks.
use Rattle.std.specs.Prelude.{ℕ, ◌+◌, ◌*◌, ◌%◌, ◌/◌, ◌^◌, List, ◌∷◌, length, slice_index, map, ◌==◌, ◌&&◌, ◌||◌, nat_lt, not, Bool, if◌then◌else◌, Option, Some, None}
use Rattle.std.specs.List.{filter, list_any, sum_by}
use Rattle.elf32.specs.declared.error.ElfError.{ElfError}
use Rattle.elf32.specs.declared.error.ElfError.TheVariants.{Short, NotElf, Class, Data, Kind, Machine, Flags, Table, Dynamic, Overlap, TooBig, Entry}
use Rattle.elf32.specs.declared.error.ElfError.TheVariants as errors
use Rattle.elf32.specs.declared.header.Header.{Header}
use Rattle.elf32.specs.declared.span.Span.{Span}
use Rattle.elf32.specs.Spans.{stack, overlap}
use Rattle.elf32.specs.Fields.{e_type, e_machine, e_entry, e_phoff, e_flags, e_phentsize, e_phnum, headers}

-- "ELF Header": rules over the file's bytes

abbrev pub is_short : List ℕ → Bool
is_short bytes = nat_lt (length bytes) 52

-- "ELF Identification", EI_MAG0 to EI_MAG3
abbrev pub lacks_magic : List ℕ → Bool
lacks_magic bytes = not ((slice_index bytes 0 == 0x7f) && (slice_index bytes 1 == 0x45) && (slice_index bytes 2 == 0x4c) && (slice_index bytes 3 == 0x46))

-- EI_CLASS is ELFCLASS32
abbrev pub has_other_class : List ℕ → Bool
has_other_class bytes = not (slice_index bytes 4 == 1)

-- EI_DATA is ELFDATA2LSB
abbrev pub has_other_encoding : List ℕ → Bool
has_other_encoding bytes = not (slice_index bytes 5 == 1)

-- e_type is ET_EXEC
abbrev pub has_other_type : List ℕ → Bool
has_other_type bytes = not (e_type bytes == 2)

-- e_machine is EM_RISCV
abbrev pub has_other_machine : List ℕ → Bool
has_other_machine bytes = not (e_machine bytes == 243)

-- RISC-V psABI, "File Header": e_flags has EF_RISCV_RVC, its bit 0, or EF_RISCV_RVE, its bit 3
abbrev pub has_other_instructions : List ℕ → Bool
has_other_instructions bytes = (e_flags bytes % 2 == 1) || (e_flags bytes / 8 % 2 == 1)

-- there are more than 64 program headers; or there are some, and their size is not 32 or their table ends past the file
abbrev pub lacks_table : List ℕ → Bool
lacks_table bytes = nat_lt 64 (e_phnum bytes) || (nat_lt 0 (e_phnum bytes) && (not (e_phentsize bytes == 32) || nat_lt (length bytes) (e_phoff bytes + 32 * e_phnum bytes)))

-- "Program Header": rules over the program headers and the file's length

-- p_type is PT_DYNAMIC or PT_INTERP
abbrev pub is_dynamic : Header → Bool
is_dynamic h = (h.kind == 2) || (h.kind == 3)

-- p_type is PT_LOAD
abbrev pub is_load : Header → Bool
is_load h = h.kind == 1

-- a PT_LOAD header has more bytes in the file than in memory, or ends past the file or past the addresses
abbrev pub is_outside : ℕ → Header → Bool
is_outside file_length h = is_load h && (nat_lt h.memsz h.filesz || nat_lt file_length (h.offset + h.filesz) || nat_lt (2 ^ 32) (h.vaddr + h.memsz))

-- a PT_LOAD header gives a segment where p_memsz isn't 0
abbrev pub is_loaded : Header → Bool
is_loaded h = is_load h && nat_lt 0 h.memsz

abbrev pub span_of : Header → Span
span_of h = record { base = h.vaddr; size = h.memsz }

-- the addresses of the segments
abbrev pub spans_of : List Header → List Span
spans_of hs = map span_of (filter is_loaded hs)

-- the bytes in memory that all PT_LOAD headers ask for
abbrev pub memory_size : List Header → ℕ
memory_size hs = sum_by (λ h. h.memsz) (filter is_load hs)

-- the rules of the program headers and of the entry point, in their order: the first that is broken
unfoldable pub segment_refusal : ℕ → ℕ → List Header → Option ElfError
segment_refusal file_length entry hs =
    if list_any is_dynamic hs then Some Dynamic
    else if list_any (is_outside file_length) hs then Some errors.Segment
    else if overlap (stack ∷ spans_of hs) then Some Overlap
    else if nat_lt 67108864 (memory_size hs) then Some TooBig
    else if not (entry % 4 == 0) then Some Entry
    else None

-- all rules in their order: the first that the file breaks, if there is one
unfoldable pub refusal : List ℕ → Option ElfError
refusal bytes =
    if is_short bytes then Some Short
    else if lacks_magic bytes then Some NotElf
    else if has_other_class bytes then Some Class
    else if has_other_encoding bytes then Some Data
    else if has_other_type bytes then Some Kind
    else if has_other_machine bytes then Some Machine
    else if has_other_instructions bytes then Some Flags
    else if lacks_table bytes then Some Table
    else segment_refusal (length bytes) (e_entry bytes) (headers bytes)
