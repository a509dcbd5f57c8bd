-- What several writes to a sink do, one after the other.
use Rattle.std.proofs.Common.{◌≡◌, ℕ, ◌+◌, ◌-◌, ◌≤◌, List, [], take, drop, length, Option, IsTrue, Result, Err, subst}
use Rattle.std.proofs.Common.{sym, ◌∙◌, take-append-drop, length-drop, arith}
use Rattle.std.specs.Io.KnownBytes.{Appends, Keeps}
use Rattle.std.proofs.Math.Seq.{take-add}
use Rattle.std.proofs.lemmas.List.{take_all}
use Rattle.std.proofs.KnownBytes.{Appends-trans, Appends-kept}
use Rattle.tas_num.specs.Causes.{Rose}
use Rattle.tas_num.specs.Streams.{SinkState, Counts, Wrote}
use Rattle.tas_num.specs.declared.outside.IoFault.{IoFault}
use Rattle.tas_num.specs.declared.outside.IoFault.TheVariants.{Failed, OutOfMemory}

-- a count that rose later rose
pub rose_later : {a b c : ℕ} → a ≤ b → Rose b c → Rose a c
rose_later low h = grind (arith, low, h)

-- n bytes more behind the first k
pub appends_more : (a b c : Option (List ℕ)) (bytes : List ℕ) (k n : ℕ) → Appends a b (take k bytes)
    → Appends b c (take n (drop k bytes)) → Appends a c (take (k + n) bytes)
appends_more a b c bytes k n first second =
    let both = Appends-trans a b c (take k bytes) (take n (drop k bytes)) first second in
    subst (Appends a c) (sym (take-add k n bytes)) both

-- a count of faults goes on from where it stands
pub counts_from : (a b c : ℕ) (f : IoFault) → b ≡ a → Counts {A = ℕ} b (Err f) c → Counts {A = Unit {0}} a (Err f) c
counts_from a b c Failed e h = subst (λ n. Rose n c × (n ≤ c)) e h
counts_from a b c OutOfMemory e h = h ∙ e

-- the first k, and then a fault
pub stopped : (a b c : SinkState) (bytes : List ℕ) (k : ℕ) (f : IoFault) → Appends a.held b.held (take k bytes)
    → b.faults ≡ a.faults → b.grows ≡ a.grows → Keeps b.held c.held → Counts {A = ℕ} b.faults (Err f) c.faults
    → (◌≡◌ {A = Result ℕ IoFault} (Err f) (Err OutOfMemory) → IsTrue b.grows) → c.grows ≡ b.grows
    → Wrote a (Err f) c bytes []
stopped a b c bytes k f grown counts same kept count memory kept_too =
    record {
      front = take k bytes;
      rest = drop k bytes;
      split = take-append-drop k bytes;
      grown = Appends-kept a.held b.held c.held (take k bytes) grown kept;
      whole = tt;
      counts = counts_from a.faults b.faults c.faults f counts count;
      memory = λ e. subst IsTrue same (memory (cc e));
      same = kept_too ∙ same;
    }

-- all that is left, as so many bytes of it
pub whole : (k : ℕ) (bytes : List ℕ) → take (length bytes - k) (drop k bytes) ≡ drop k bytes
whole k bytes = take_all (length bytes - k) (drop k bytes) (omega (arith, length-drop k bytes))

-- a piece of what is left ends within the bytes
pub within : (k n : ℕ) (bytes : List ℕ) → k ≤ length bytes → n ≤ length (take (length bytes - k) (drop k bytes))
    → k + n ≤ length bytes
within k n bytes small bound =
    let left : n ≤ length (drop k bytes) = subst (λ (xs : List ℕ). n ≤ length xs) (whole k bytes) bound in
    omega (arith, length-drop k bytes)
