-- The number of a word can be read back.
use Rattle.std.proofs.Common.{◌≡◌, ℕ, ◌+◌, ◌*◌, ◌/◌, ◌%◌, ◌<◌, ◌≤◌, Bool, true, false, eqb, eq-eqb, ne_eqb, arith}
use Rattle.flow_lock.specs.Words.{flag, code, word_of, Small}
use Rattle.flow_lock.specs.declared.word.Word.{Word}

pub flag_le : (b : Bool) → flag b ≤ 1
flag_le true = omega arith
flag_le false = omega arith

pub is_flag : (n : ℕ) (b : Bool) → n ≡ flag b → eqb n 1 ≡ b
is_flag n true e = eq-eqb n 1 e
is_flag n false e = ne_eqb n 1 (λ h. omega arith)

parts : (g b d l p : ℕ) → b ≤ 1 → d ≤ 1 → l ≤ 1 → p < 65536
    → let n = g * 4294967296 + b * 262144 + d * 131072 + l * 65536 + p in
    (n / 4294967296 ≡ g) × (n % 65536 ≡ p) × (n / 65536 % 2 ≡ l) × (n / 131072 % 2 ≡ d) × (n / 262144 % 2 ≡ b)
parts g b d l p hb hd hl hp = (omega arith, omega arith, omega arith, omega arith, omega arith)

pub reads_back : (w : Word) → Small w → word_of (code w) ≡ w
reads_back w s =
    let t = parts w.generation (flag w.busy) (flag w.doomed) (flag w.live) w.pins (flag_le w.busy) (flag_le w.doomed)
    (flag_le w.live) s.1 in
    λ i. record {
      generation = t.0 i;
      pins = t.1 i;
      live = is_flag _ w.live t.2 i;
      doomed = is_flag _ w.doomed t.3 i;
      busy = is_flag _ w.busy t.4 i;
    }

-- a word with no bits but these
pub writes : (g p : ℕ) (l : Bool)
    → code (record { generation = g; pins = p; live = l; doomed = false; busy = false })
    ≡ g * 4294967296 + flag l * 65536 + p
writes g p l = omega arith
