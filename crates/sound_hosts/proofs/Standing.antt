-- The marks of the slots of flows that stand: for the laws of phases and of the time of a tick.
use Rattle.std.proofs.Common.{◌≡◌, ℕ, zero, suc, ◌<◌, ◌==◌, ◌&&◌, ◌||◌, not, Bool, true, false, List, [], ◌∷◌, ◌++◌}
use Rattle.std.proofs.Common.{◌≢◌, set, refl, sym, ap, ◌∙◌, arith, length, slice_get, Some, Option, true≢false}
use Rattle.std.specs.List.{list_any}
use Rattle.std.proofs.lemmas.Bool.{eqb-true}
use Rattle.std.proofs.lemmas.Bool.Decides.{nat_tests}
use Rattle.host_rounds.specs.Lists.{Each}
use Rattle.flow_lock.specs.Answers.{is_open_in}
use Rattle.flow_lock.specs.Steps.{mark_at}
use Rattle.flow_lock.specs.Words.{word_at}
use Rattle.flow_lock.specs.declared.view.Mark.{Mark}
use Rattle.flow_lock.specs.declared.view.View.{View}
use Rattle.flow_lock.specs.declared.word.Word.{Word}
use Rattle.host_books.specs.Books.{Book}
use Rattle.sound_hosts.specs.Hosts.{CoreHost, is_doomed_in, word_of, AreNumbered}
use Rattle.sound_hosts.specs.Sound.{IsHostSound, IsWorded, IsMarked, IsMarkedAs}
use Rattle.sound_hosts.proofs.Numbers.{mark_there}
use Rattle.sound_hosts.proofs.OpenSockets.{each_at, standing}

-- ----- lists
pub every_at : {X : Type 0} (P : X → Type 0) (xs : List X) → ((n : ℕ) (x : X) → slice_get xs n ≡ Some x → P x)
    → Each P xs
every_at P [] all = tt
every_at P (x ∷ xs) all = (all 0 x refl, every_at P xs (λ n y e. all (suc n) y e))

pub any_at : {X : Type 0} (p : X → Bool) (xs : List X) (n : ℕ) (x : X) → slice_get xs n ≡ Some x → p x ≡ true
    → list_any p xs ≡ true
any_at p [] n x at e = absurd (cc (at))
any_at {X} p (y ∷ ys) zero x at e = ap (λ t. t || list_any p ys) (ap p (same y x at) ∙ e)
  where
    same : (a b : X) → ◌≡◌ {A = Option X} (Some a) (Some b) → a ≡ b
    same a b q = cc (q)
any_at p (y ∷ ys) (suc n) x at e = ap (λ t. p y || t) (any_at p ys n x at e) ∙ or_true (p y)
  where
    or_true : (b : Bool) → (b || true) ≡ true
    or_true true = refl
    or_true false = refl

pub none_at : {X : Type 0} (p : X → Bool) (xs : List X) → Each (λ (x : X). p x ≡ false) xs → list_any p xs ≡ false
none_at p [] each = refl
none_at p (x ∷ xs) each = λ i. each.0 i || none_at p xs each.1 i

pub within : (slots : ℕ) (before bs : List Book) → AreNumbered slots before bs
    → Each (λ (b : Book). b.id.slot < slots) bs
within slots before [] numbered = tt
within slots before (b ∷ bs) numbered = (numbered.0, within slots (before ++ b ∷ []) bs numbered.2)

and_both : (a b : Bool) → (a && b) ≡ true → (a ≡ true) × (b ≡ true)
and_both true b e = (refl, e)
and_both false b e = absurd (true≢false (sym e))

-- ----- marks of flows that stand
module _ (h : CoreHost) (sound : IsHostSound h) where
  abbrev v : View
  v = h.slow.pass.view

  in_slot : (slot : ℕ) (b : Book) → slot ≡ b.id.slot → (slot == b.id.slot) ≡ true
  in_slot slot b e = grind (arith, nat_tests, e)

  stands_as : (n : ℕ) (b : Book) → slice_get h.books n ≡ Some b → IsMarkedAs v.marks b
  stands_as n b at stands =
      let low : b.id.slot < h.table.slots =
      each_at (λ (c : Book). c.id.slot < h.table.slots) h.books n b
      (within h.table.slots [] h.books sound.numbered) at in
      let wide : length v.marks ≡ h.table.slots = sound.wide.0 in
      let marked : IsMarked h.books b.id.slot (mark_at v.marks b.id.slot) =
      sound.table.marks b.id.slot (mark_at v.marks b.id.slot)
      (mark_there v.marks b.id.slot (omega (arith, low, wide))) in
      let open_ : is_open_in v.marks b.id ≡ true =
      each_at (λ (c : Book). c.filed ≡ false → is_open_in v.marks c.id ≡ true) h.books n b (standing h sound) at
      stands in
      let both = and_both (mark_at v.marks b.id.slot).live
      ((mark_at v.marks b.id.slot).generation == b.id.generation) open_ in
      let generation : (mark_at v.marks b.id.slot).generation ≡ b.id.generation =
      eqb-true (mark_at v.marks b.id.slot).generation b.id.generation both.1 in
      let doomed : (mark_at v.marks b.id.slot).doomed ≡ not b.indexed =
      marked.doomed ∙ any_doomed b.indexed refl in
      λ i. record { generation = generation i; live = both.0 i; doomed = doomed i }
    where
      own : word_at v.words b.id.slot ≡ word_of b
      own = each_at (IsWorded v) h.books n b sound.table.words at stands

      -- another doomed one of the slot says that this one is, too
      other : (c : Book) → IsWorded v c → b.indexed ≡ true → is_doomed_in b.id.slot c ≡ false
      other c worded is = by (is_doomed_in b.id.slot c) refl
        where
          by : (t : Bool) → is_doomed_in b.id.slot c ≡ t → is_doomed_in b.id.slot c ≡ false
          by false e = e
          by true e =
              let x = and_both (not c.indexed && not c.filed) (c.id.slot == b.id.slot) e in
              let y = and_both (not c.indexed) (not c.filed) x.0 in
              let slot : c.id.slot ≡ b.id.slot = grind (arith, nat_tests, x.1) in
              let stays : c.filed ≡ false = not_true c.filed y.1 in
              let words : word_of c ≡ word_of b = sym (worded stays) ∙ (ap (λ s. word_at v.words s) slot ∙ own) in
              let same : not c.indexed ≡ not b.indexed = ap (λ (w : Word). w.doomed) words in
              absurd (true≢false (sym y.0 ∙ (same ∙ ap not is)))
            where
              not_true : (a : Bool) → not a ≡ true → a ≡ false
              not_true true q = absurd (true≢false (sym q))
              not_true false q = refl

      others : b.indexed ≡ true → (cs : List Book) → Each (IsWorded v) cs
          → Each (λ (c : Book). is_doomed_in b.id.slot c ≡ false) cs
      others is [] each = tt
      others is (c ∷ cs) each = (other c each.0 is, others is cs each.1)

      any_doomed : (i : Bool) → b.indexed ≡ i → list_any (is_doomed_in b.id.slot) h.books ≡ not b.indexed
      any_doomed true e =
          none_at (is_doomed_in b.id.slot) h.books (others e h.books sound.table.words) ∙ sym (ap not e)
      any_doomed false e =
          any_at (is_doomed_in b.id.slot) h.books n b at
          (λ j. (not (e j) && not (stands j)) && in_slot b.id.slot b refl j)
          ∙ sym (ap not e)

  pub stand_marked : Each (IsMarkedAs v.marks) h.books
  stand_marked = every_at (IsMarkedAs v.marks) h.books stands_as

-- ----- a mark that is set
pub mark_else : (ms : List Mark) (i k : ℕ) (m : Mark) → k ≢ i → mark_at (set ms i m) k ≡ mark_at ms k
mark_else [] i k m ne = refl
mark_else (x ∷ xs) zero zero m ne = absurd (ne refl)
mark_else (x ∷ xs) zero (suc k) m ne = refl
mark_else (x ∷ xs) (suc i) zero m ne = refl
mark_else (x ∷ xs) (suc i) (suc k) m ne = mark_else xs i k m (λ e. ne (ap suc e))

pub mark_own : (ms : List Mark) (i : ℕ) (m : Mark) → i < length ms → mark_at (set ms i m) i ≡ m
mark_own [] i m lt = absurd (omega (arith, lt))
mark_own (x ∷ xs) zero m lt = refl
mark_own (x ∷ xs) (suc i) m lt = mark_own xs i m (omega (arith, lt))
