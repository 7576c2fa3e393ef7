-- Fields of a line.
use Rattle.std.specs.Prelude.{ℕ, Bool, ◌&&◌, List, length, nat_lt}
use Rattle.std.specs.Char.{is_ascii_graphic}
use Rattle.std.specs.Int.{w32, to_be_bytes}
use Rattle.std.specs.List.{list_all}
use Rattle.hex.specs.Hex.{encode_lower}

-- 1 to 255 bytes from 21 to 7E hexadecimal.
abbrev pub is_name : List ℕ → Bool
is_name text = nat_lt 0 (length text) && (nat_lt (length text) 256 && list_all is_ascii_graphic text)

-- Eight digits of a word.
abbrev pub word_digits : ℕ → List ℕ
word_digits word = encode_lower (to_be_bytes w32 word)
