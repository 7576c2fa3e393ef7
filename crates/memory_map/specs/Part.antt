-- Parts of memory.
use Rattle.std.specs.Prelude.{ℕ, refl, List}
use Rattle.std.specs.Coded.{Coded, code_by, coded×, coded_ℕ, coded_list}

-- bytes from an address up, all with the same rights, and room for so many without more memory
pub record Part : Type 0 where
  pub base : ℕ
  pub rights : ℕ
  pub bytes : List ℕ
  pub room : ℕ

-- a part as numbers and a list
abbrev pub part_code : Coded Part
part_code =
    code_by (ℕ × (ℕ × (List ℕ × ℕ))) (coded× coded_ℕ (coded× coded_ℕ (coded× (coded_list coded_ℕ) coded_ℕ)))
    (λ p. (p.base, (p.rights, (p.bytes, p.room))))
    (λ t. record { base = t.0; rights = t.1.0; bytes = t.1.1.0; room = t.1.1.1 })
    (λ _. refl)
