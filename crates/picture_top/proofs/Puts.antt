-- Texts that are written one after the other.
use Rattle.std.proofs.Common.{◌≡◌, ℕ, ◌∙◌, List, [], ◌++◌, append_assoc, append-nil, sym, ap, subst, IsTrue, Result, Ok}
use Rattle.std.proofs.Common.{Err, IsErr}
use Rattle.std.proofs.KnownBytes.{Appends-trans}
use Rattle.std.proofs.lemmas.Bool.{false≢true}
use Rattle.tas_num.specs.declared.outside.IoFault.{IoFault}
use Rattle.tas_num.specs.Streams.{SinkState, Counts, Wrote}

-- A text, and a text behind it.
pub put_then : (a b c : SinkState) (r : Result (Unit {0}) IoFault) (x y : List ℕ) → Wrote a (Ok tt) b x []
    → Wrote b r c y [] → Wrote a r c (x ++ y) []
put_then a b c r x y first second =
    let f = first.front in
    let all : f ≡ x = sym (append-nil f) ∙ (ap (λ t. f ++ t) (sym first.whole) ∙ first.split) in
    record {
      front = f ++ second.front;
      rest = second.rest;
      split = append_assoc f second.front second.rest ∙ (ap (λ t. f ++ t) second.split ∙ ap (λ t. t ++ y) all);
      grown = Appends-trans a.held b.held c.held f second.front first.grown second.grown;
      whole = second.whole;
      counts = subst (λ n. Counts n r c.faults) first.counts second.counts;
      memory = λ e. subst IsTrue first.same (second.memory e);
      same = second.same ∙ first.same;
    }

-- A text that was not written whole, and whatever was to follow it.
pub put_stopped : (a b : SinkState) (r s : Result (Unit {0}) IoFault) (x y : List ℕ) → IsErr r → r ≡ s
    → Wrote a s b x [] → Wrote a r b (x ++ y) []
put_stopped a b (Ok u) s x y e same first = absurd (false≢true e)
put_stopped a b (Err f) s x y e same first =
    let p : Wrote a (Err f) b x [] = subst (λ (t : Result (Unit {0}) IoFault). Wrote a t b x []) (sym same) first in
    record {
      front = p.front;
      rest = p.rest ++ y;
      split = sym (append_assoc p.front p.rest y) ∙ ap (λ t. t ++ y) p.split;
      grown = p.grown;
      whole = tt;
      counts = p.counts;
      memory = p.memory;
      same = p.same;
    }

pub put_as : (a b : SinkState) (r : Result (Unit {0}) IoFault) (x y : List ℕ) → x ≡ y → Wrote a r b x []
    → Wrote a r b y []
put_as a b r x y e p = subst (λ (t : List ℕ). Wrote a r b t []) e p
