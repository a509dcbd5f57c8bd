use Rattle.std.proofs.Common.{◌≡◌, ◌%◌, List, ℕ, length, map, bit_and, replicate, ◌∙◌, arith}
use Rattle.std.specs.Simd.Lanes.{zip2}
use Rattle.std.proofs.lemmas.Nat.{and_mask}
use Rattle.std.proofs.lemmas.Simd.{zip2_splat}
use Rattle.run_texts.proofs.Sixteen.{half_looked_up}
use Rattle.run_texts.proofs.hex_digits.low_digits.Goals as goal

low_halves : (v : List ℕ) → length v ≡ 16 → zip2 bit_and v (replicate 16 15) ≡ map (λ b. b % 16) v
low_halves v long = zip2_splat bit_and v 16 15 long ∙ (λ i. map (λ b. and_mask b 4 i) v)

pub swizzle : goal.swizzle
swizzle c = (half_looked_up (λ b. b % 16) c.args.bytes _ c.fits-bytes (λ b h. omega arith)
    (low_halves c.args.bytes c.fits-bytes.0)).0

pub returns : goal.returns
returns c = (half_looked_up (λ b. b % 16) c.args.bytes _ c.fits-bytes (λ b h. omega arith)
    (low_halves c.args.bytes c.fits-bytes.0)).1
