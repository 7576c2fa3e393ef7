-- The text of a stack.
use Rattle.std.specs.Prelude.{ℕ, ◌-◌, ◌==◌, List, [], ◌∷◌, ◌++◌, take, reverse, flat_map, length, codes, Option, Some, None, if◌then◌else◌}
use Rattle.std.specs.Fmt.{decimal}
use Rattle.std.specs.Int.{w32, to_be_bytes}
use Rattle.hex.specs.Hex.{encode_lower}
use Rattle.elf32.specs.declared.symbols.Symbol.{Symbol}
use Rattle.symbol_stack.specs.Names.{name_of}

-- the eight digits of a word
abbrev pub word_digits : ℕ → List ℕ
word_digits word = encode_lower (to_be_bytes w32 word)

-- NAME+OFFSET, or ? where there is no name
abbrev pub name_text : Option Symbol → ℕ → List ℕ
name_text None pc = codes "?"
name_text (Some s) pc = s.name ++ (codes "+" ++ word_digits (pc - s.value))

-- a word, a program counter and its name
abbrev pub counter_line : List Symbol → List ℕ → ℕ → List ℕ
counter_line symbols word pc = word ++ (word_digits pc ++ (codes " " ++ (name_text (name_of symbols pc) pc ++ 10 ∷ [])))

-- how many calls aren't told
abbrev pub more_line : ℕ → List ℕ
more_line n = if n == 0 then [] else codes "more " ++ (decimal n ++ 10 ∷ [])

-- where a run is, and its last 64 calls from the last back
abbrev pub text : List Symbol → List ℕ → ℕ → List ℕ
text symbols stack pc =
    counter_line symbols (codes "at ") pc
    ++ (flat_map (counter_line symbols (codes "from ")) (take 64 (reverse stack)) ++ more_line (length stack - 64))
