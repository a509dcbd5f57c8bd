use Rattle.std.proofs.Common.{◌≡◌, ◌/◌, ◌^◌, List, ℕ, map, length, replicate, arith}
use Rattle.std.specs.Simd.Lanes.{zip2}
use Rattle.std.proofs.lemmas.Simd.{zip2_splat}
use Rattle.run_texts.proofs.Sixteen.{half_looked_up}
use Rattle.run_texts.proofs.hex_digits.high_digits.Goals as goal

high_halves : (v : List ℕ) → length v ≡ 16 → zip2 (λ a b. a / 2 ^ b) v (replicate 16 4) ≡ map (λ b. b / 16) v
high_halves v long = zip2_splat (λ a b. a / 2 ^ b) v 16 4 long

pub swizzle : goal.swizzle
swizzle c = (half_looked_up (λ b. b / 16) c.args.bytes _ c.fits-bytes (λ b h. omega arith)
    (high_halves c.args.bytes c.fits-bytes.0)).0

pub returns : goal.returns
returns c = (half_looked_up (λ b. b / 16) c.args.bytes _ c.fits-bytes (λ b h. omega arith)
    (high_halves c.args.bytes c.fits-bytes.0)).1
