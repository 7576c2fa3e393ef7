-- Ranges of addresses, address by address.
use Rattle.std.specs.Prelude.{◌≡◌, ◌≢◌, ℕ, ◌+◌, ◌%◌, ◌^◌, ◌<◌, true, false}
use Rattle.std.specs.FinMap.{get}
use Rattle.memory_map.specs.Cells.{Map, can}

-- each of so many addresses from one up, modulo 2 ^ 32, has a right
abbrev pub EachCan : ℕ → Map → ℕ → ℕ → Type 0
EachCan right memory address len = (i : ℕ) → i < len → can right (get memory ((address + i) % 2 ^ 32)) ≡ true

-- of so many addresses from one up, modulo 2 ^ 32, this one lacks a right, and each before it has it
pub record IsFirstWithout (right : ℕ) (memory : Map) (address len fault : ℕ) : Type 0 where
  pub place : ℕ
  pub within : place < len
  pub is : fault ≡ (address + place) % 2 ^ 32
  pub lacks : can right (get memory fault) ≡ false
  pub before : EachCan right memory address place

-- an address is none of so many from another up, modulo 2 ^ 32
abbrev pub IsOutside : ℕ → ℕ → ℕ → Type 0
IsOutside address len q = (i : ℕ) → i < len → q ≢ (address + i) % 2 ^ 32
