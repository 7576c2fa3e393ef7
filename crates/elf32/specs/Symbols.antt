-- The function symbols of a file, after the System V generic ABI's chapters "Sections", "String Table" and "Symbol Table".
use Rattle.std.specs.Prelude.{ℕ, ◌+◌, ◌*◌, ◌/◌, ◌%◌, List, [], ◌∷◌, length, slice_index, map, take, drop, ◌==◌, ◌&&◌, ◌||◌, nat_lt, nat_le, not, Bool, Option, Some, None, find, if◌then◌else◌}
use Rattle.std.specs.List.{range_with_len, slice_get, filter_map, list_all}
use Rattle.std.specs.Option.{option_map}
use Rattle.elf32.specs.Fields.{half_in, word_in}
use Rattle.elf32.specs.declared.sections.Section.{Section}
use Rattle.elf32.specs.declared.symbols.Symbol.{Symbol}

-- "ELF Header": the fields of an Elf32_Ehdr that place the section headers

abbrev pub e_shoff : List ℕ → ℕ
e_shoff bytes = word_in bytes 32

abbrev pub e_shentsize : List ℕ → ℕ
e_shentsize bytes = half_in bytes 46

abbrev pub e_shnum : List ℕ → ℕ
e_shnum bytes = half_in bytes 48

-- "Section Header": the Elf32_Shdr at a place, its type, offset, size and link
unfoldable pub section_at : List ℕ → ℕ → Section
section_at bytes place = record {
  kind = word_in bytes (place + 4);
  offset = word_in bytes (place + 16);
  size = word_in bytes (place + 20);
  link = word_in bytes (place + 24);
}

-- the file's section headers
unfoldable pub sections : List ℕ → List Section
sections bytes = map (λ i. section_at bytes (e_shoff bytes + 40 * i)) (range_with_len 0 (e_shnum bytes))

-- there are no section headers, or they have another size, or they end past the file
abbrev pub lacks_sections : List ℕ → Bool
lacks_sections bytes = (e_shnum bytes == 0) || (not (e_shentsize bytes == 40) || nat_lt (length bytes) (e_shoff bytes + 40 * e_shnum bytes))

-- a section ends past a file of so many bytes
abbrev pub ends_past : ℕ → Section → Bool
ends_past size s = nat_lt size (s.offset + s.size)

-- sh_type is SHT_SYMTAB
abbrev pub has_symbols : Section → Bool
has_symbols s = s.kind == 2

-- sh_type is SHT_STRTAB
abbrev pub has_strings : Section → Bool
has_strings s = s.kind == 3

-- the bytes of a section
abbrev pub bytes_of : List ℕ → Section → List ℕ
bytes_of bytes s = take s.size (drop s.offset bytes)

-- ---- symbols

-- what stands before the first zero of a list that has one
unfoldable pub before_zero : List ℕ → Option (List ℕ)
before_zero [] = None
before_zero (b ∷ bs) = if b == 0 then Some [] else option_map (λ name. b ∷ name) (before_zero bs)

-- the name at a place of a string table, which a zero of the table ends
abbrev pub name_at : List ℕ → ℕ → Option (List ℕ)
name_at strings place = before_zero (drop place strings)

-- a name of 1 to 255 printed characters of ASCII but the space
abbrev pub is_name : List ℕ → Bool
is_name name = nat_lt 0 (length name) && (nat_le (length name) 255 && list_all (λ b. nat_le 33 b && nat_le b 126) name)

-- a name, where it is one
abbrev pub checked_name : Option (List ℕ) → Option (List ℕ)
checked_name None = None
checked_name (Some name) = if is_name name then Some name else None

-- the Elf32_Sym at a place, where its type, the low four bits of st_info, is STT_FUNC, and it has a name
unfoldable pub symbol_at : List ℕ → List ℕ → ℕ → Option Symbol
symbol_at bytes strings place =
    if slice_index bytes (place + 12) % 16 == 2
    then option_map (λ name. record { value = word_in bytes (place + 4); size = word_in bytes (place + 8); name = name }) (checked_name (name_at strings (word_in bytes place)))
    else None

-- a list of one, or of none
abbrev pub one_or_none : Option Symbol → List Symbol
one_or_none None = []
one_or_none (Some s) = s ∷ []

-- the function symbols of a symbol table with a string table, in its order: each whole entry of 16 bytes that is one
abbrev pub symbols_in : List ℕ → Section → Section → List Symbol
symbols_in bytes t s = filter_map (λ i. symbol_at bytes (bytes_of bytes s) (t.offset + 16 * i)) (range_with_len 0 (t.size / 16))

-- the string table of a symbol table, where the file has it
abbrev pub strings_for : List ℕ → Option Section → Option Section
strings_for bytes None = None
strings_for bytes (Some s) = if has_strings s && not (ends_past (length bytes) s) then Some s else None

-- the symbol table, where the file has it
abbrev pub table_in : List ℕ → Option Section → Option Section
table_in bytes None = None
table_in bytes (Some t) = if ends_past (length bytes) t then None else Some t

abbrev pub symbols_with : List ℕ → Section → Option Section → List Symbol
symbols_with bytes t None = []
symbols_with bytes t (Some s) = symbols_in bytes t s

abbrev pub symbols_for : List ℕ → Option Section → List Symbol
symbols_for bytes None = []
symbols_for bytes (Some t) = symbols_with bytes t (strings_for bytes (slice_get (sections bytes) t.link))

-- the function symbols of a file: none where it has no section headers, no symbol table or no string table for that
unfoldable pub symbols : List ℕ → List Symbol
symbols bytes = if lacks_sections bytes then [] else symbols_for bytes (table_in bytes (find has_symbols (sections bytes)))
