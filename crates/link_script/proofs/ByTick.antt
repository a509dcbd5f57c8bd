-- Frames by the ticks of their emission: where one more goes, and which were sent in a tick.
use Rattle.std.proofs.Common.{◌≡◌, ℕ, zero, suc, ◌<◌, ◌≤◌, ◌-◌, ◌+◌, Bool, true, false, List, [], ◌∷◌, ◌++◌, eqb, ltb}
use Rattle.std.proofs.Common.{leb, cond, length, take, drop, get_or, filter, refl, sym, ◌∙◌, ap, subst, arith}
use Rattle.std.specs.List.{insert, AllWithin}
use Rattle.std.specs.List.Sorted.{IsPartitionPoint, IsNonDecreasingBy}
use Rattle.std.proofs.lemmas.Bool.Decides.{nat_tests}
use Rattle.std.proofs.lemmas.List.Sorted.{IsNonDecreasingBy-insert}
use Rattle.link_script.specs.Emitted.{behind_earlier}
use Rattle.link_script.specs.declared.frames.Sent.{Sent}

-- the frames up to a place pass a test, and those from there on do not
record Cut (p : Sent → Bool) (fs : List Sent) (i : ℕ) : Type 0 where
  front : (k : ℕ) (d : Sent) → k < i → p (get_or fs k d) ≡ true
  rest : (k : ℕ) (d : Sent) → i ≤ k → k < length fs → p (get_or fs k d) ≡ false

cut_of : (p : Sent → Bool) (fs : List Sent) (i : ℕ)
    → IsPartitionPoint (λ (f : Sent). p f ≡ true) (λ (f : Sent). p f ≡ false) fs i → Cut p fs i
cut_of p fs i h = record { front = λ k d l. h.0 k d (omega arith) l; rest = λ k d l m. h.1 k d l m }

-- the parts of a list behind its first element
shifted : {p : Sent → Bool} {f : Sent} {fs : List Sent} {i : ℕ} → Cut p (f ∷ fs) (suc i) → Cut p fs i
shifted c = record {
  front = λ k d h. c.front (suc k) d (omega arith);
  rest = λ k d l h. c.rest (suc k) d (omega arith) (omega arith);
}

shifted_none : {p : Sent → Bool} {f : Sent} {fs : List Sent} → Cut p (f ∷ fs) zero → Cut p fs zero
shifted_none c = record {
  front = λ k d h. absurd (omega arith);
  rest = λ k d l h. c.rest (suc k) d (omega arith) (omega arith);
}

-- the first element is of the front, or of the rest
in_front : {p : Sent → Bool} {f : Sent} {fs : List Sent} {i : ℕ} → Cut p (f ∷ fs) (suc i) → p f ≡ true
in_front {p} {f} c = c.front zero f (omega arith)

in_rest : {p : Sent → Bool} {f : Sent} {fs : List Sent} → Cut p (f ∷ fs) zero → p f ≡ false
in_rest {p} {f} c = c.rest zero f (omega arith) (omega arith)

-- a frame goes to the end of those that were sent no later
behind_cut : (fs : List Sent) (s : Sent) (i : ℕ) → i ≤ length fs → Cut (λ (f : Sent). leb f.tick s.tick) fs i
    → insert fs i s ≡ behind_earlier fs s
behind_cut [] s zero h p = refl
behind_cut [] s (suc i) h p = absurd (omega arith)
behind_cut (f ∷ fs) s zero h p =
    let later : leb f.tick s.tick ≡ false = in_rest p in
    let before : ltb s.tick f.tick ≡ true = grind (arith, nat_tests) in
    rw (before, behind_earlier) refl
behind_cut (f ∷ fs) s (suc i) h p =
    let earlier : leb f.tick s.tick ≡ true = in_front p in
    let behind : ltb s.tick f.tick ≡ false = grind (arith, nat_tests) in
    rw (behind, behind_earlier) (ap (λ r. f ∷ r) (behind_cut fs s i (omega arith) (shifted p)))

-- the frames from the first one of a tick on to the last one
sent_in_cut : (fs : List Sent) (t i n : ℕ) → i ≤ length fs → n ≤ length (drop i fs)
    → Cut (λ (f : Sent). ltb f.tick t) fs i → Cut (λ (f : Sent). leb f.tick t) (drop i fs) n
    → take n (drop i fs) ≡ filter (λ (f : Sent). eqb f.tick t) fs
sent_in_cut [] t zero zero hi hn p q = refl
sent_in_cut [] t (suc i) n hi hn p q = absurd (omega arith)
sent_in_cut [] t zero (suc n) hi hn p q = absurd (omega arith)
sent_in_cut (f ∷ fs) t (suc i) n hi hn p q =
    let before : ltb f.tick t ≡ true = in_front p in
    let other : eqb f.tick t ≡ false = grind (arith, nat_tests) in
    rw other (sent_in_cut fs t i n (omega arith) hn (shifted p) q)
sent_in_cut (f ∷ fs) t zero (suc n) hi hn p q =
    let from : ltb f.tick t ≡ false = in_rest p in
    let until : leb f.tick t ≡ true = in_front q in
    let here : eqb f.tick t ≡ true = grind (arith, nat_tests) in
    rw here (ap (λ r. f ∷ r) (sent_in_cut fs t zero n (omega arith) (omega arith) (shifted_none p) (shifted q)))
sent_in_cut (f ∷ fs) t zero zero hi hn p q =
    let after : leb f.tick t ≡ false = in_rest q in
    let other : eqb f.tick t ≡ false = grind (arith, nat_tests) in
    rw other (sent_in_cut fs t zero zero (omega arith) (omega arith) (shifted_none p) (shifted_none q))

-- one more frame in its place leaves the frames by their ticks
stays_cut : (fs : List Sent) (s : Sent) (i : ℕ) → i ≤ length fs → Cut (λ (f : Sent). leb f.tick s.tick) fs i
    → IsNonDecreasingBy (λ (f : Sent). f.tick) fs → IsNonDecreasingBy (λ (f : Sent). f.tick) (insert fs i s)
stays_cut fs s i h p up =
    IsNonDecreasingBy-insert (λ (f : Sent). f.tick) fs i s up h
    (λ k d l. let e : leb (get_or fs k d).tick s.tick ≡ true = p.front k d l in grind (arith, nat_tests))
    (λ k d l m. let e : leb (get_or fs k d).tick s.tick ≡ false = p.rest k d l m in grind (arith, nat_tests))

-- the same by what `partition_point` says of the list that the code holds
pub pushed : (now items part after : List Sent) (s : Sent) (i : ℕ) → part ≡ items → items ≡ now
    → after ≡ insert items i s → i ≤ length part
    → IsPartitionPoint (λ (f : Sent). leb f.tick s.tick ≡ true) (λ (f : Sent). leb f.tick s.tick ≡ false) part i
    → after ≡ behind_earlier now s
pushed now items part after s i e f a h p =
    a ∙ (ap (λ fs. insert fs i s) (sym e) ∙ (behind_cut part s i h (cut_of (λ (f : Sent). leb f.tick s.tick) part i p)
    ∙ ap (λ fs. behind_earlier fs s) (e ∙ f)))

pub stays_by_tick : (items part after : List Sent) (s : Sent) (i : ℕ) → part ≡ items → after ≡ insert items i s
    → i ≤ length part
    → IsPartitionPoint (λ (f : Sent). leb f.tick s.tick ≡ true) (λ (f : Sent). leb f.tick s.tick ≡ false) part i
    → IsNonDecreasingBy (λ (f : Sent). f.tick) items → IsNonDecreasingBy (λ (f : Sent). f.tick) after
stays_by_tick items part after s i e a h p up =
    let rises : IsNonDecreasingBy (λ (f : Sent). f.tick) part =
    subst (IsNonDecreasingBy (λ (f : Sent). f.tick)) (sym e) up in
    subst (IsNonDecreasingBy (λ (f : Sent). f.tick)) (ap (λ fs. insert fs i s) e
    ∙ sym a) (stays_cut part s i h (cut_of (λ (f : Sent). leb f.tick s.tick) part i p) rises)

pub of_tick_is : (fs rest : List Sent) (t i n : ℕ) → rest ≡ drop i fs → i ≤ length fs → n ≤ length rest
    → IsPartitionPoint (λ (f : Sent). ltb f.tick t ≡ true) (λ (f : Sent). ltb f.tick t ≡ false) fs i
    → IsPartitionPoint (λ (f : Sent). leb f.tick t ≡ true) (λ (f : Sent). leb f.tick t ≡ false) rest n
    → take n rest ≡ filter (λ (f : Sent). eqb f.tick t) fs
of_tick_is fs rest t i n e hi hn p q =
    ap (take n) e ∙ sent_in_cut fs t i n hi (subst (λ r. n ≤ length r) e hn)
    (cut_of (λ (f : Sent). ltb f.tick t) fs i p)
    (subst (λ r. Cut (λ (f : Sent). leb f.tick t) r n) e (cut_of (λ (f : Sent). leb f.tick t) rest n q))

-- the frames from the first one of a tick on
from_cut : (fs : List Sent) (t i : ℕ) → i ≤ length fs → Cut (λ (f : Sent). ltb f.tick t) fs i
    → drop i fs ≡ filter (λ (f : Sent). leb t f.tick) fs
from_cut [] t zero h p = refl
from_cut [] t (suc i) h p = absurd (omega arith)
from_cut (f ∷ fs) t zero h p =
    let early : ltb f.tick t ≡ false = in_rest p in
    let here : leb t f.tick ≡ true = grind (arith, nat_tests) in
    rw here (ap (λ r. f ∷ r) (from_cut fs t zero (omega arith) (shifted_none p)))
from_cut (f ∷ fs) t (suc i) h p =
    let early : ltb f.tick t ≡ true = in_front p in
    let other : leb t f.tick ≡ false = grind (arith, nat_tests) in
    rw other (from_cut fs t i (omega arith) (shifted p))

pub kept_from : (now items part : List Sent) (t i : ℕ) → part ≡ items → items ≡ now → i ≤ length part
    → IsPartitionPoint (λ (f : Sent). ltb f.tick t ≡ true) (λ (f : Sent). ltb f.tick t ≡ false) part i
    → drop i items ≡ filter (λ (f : Sent). leb t f.tick) now
kept_from now items part t i e f h p =
    ap (drop i) (sym e) ∙ (from_cut part t i h (cut_of (λ (g : Sent). ltb g.tick t) part i p)
    ∙ ap (filter (λ (g : Sent). leb t g.tick)) (e ∙ f))
