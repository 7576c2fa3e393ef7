use Rattle.std.proofs.Common.{ap, ◌∙◌, ◌/◌, ◌%◌, ◌^◌, ◌*◌, ◌≡◌, ℕ, zero, suc, refl, arith}
use Rattle.std.proofs.lemmas.Nat.{and_mask, pow-add}
use Rattle.std.proofs.Math.Nat.{pow-suc}
use Rattle.rv_word.proofs.byte_of.Goals as goal

-- a shift by k bytes divides by 256 ^ k
bytes_shifted : (k : ℕ) → 2 ^ (8 * k) ≡ 256 ^ k
bytes_shifted zero = refl
bytes_shifted (suc k) = grind (arith, bytes_shifted k, pow-add 2 (8 * k) 8, pow-suc 256 k)

pub returns : goal.returns
returns c = record {
  value = and_mask (c.args.a / 2 ^ (8 * c.args.k)) 8 ∙ ap (λ p. c.args.a / p % 256) (bytes_shifted c.args.k);
}
