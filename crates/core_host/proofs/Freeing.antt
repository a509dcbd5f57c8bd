-- Slots that are freed alone: for the answers for what a host leaves.
use Rattle.std.proofs.Common.{◌≡◌, ◌≢◌, ℕ, zero, suc, ◌+◌, ◌≤◌, cond, true, false, List, [], ◌∷◌, ◌++◌}
use Rattle.std.proofs.Common.{length, refl, sym, ap, ◌∙◌, subst, arith, length-set, append-nil, append_assoc}
use Rattle.std.specs.Prelude.{Some}
use mathlib.Core.Option as O
use lib.ListN.{get_elem?}
use Rattle.atomic_table.proofs.Lists.{set_else, set_here}
use Rattle.atomic_table.specs.Seated.{TableId}
use Rattle.tas_model.specs.declared.entry.FlowId.{FlowId}
use Rattle.host_rounds.specs.Lists.{Each}
use Rattle.flow_state.specs.Flow.{Flow, left_of}
use Rattle.flow_lock.specs.Answers.{IsFreed, IsHeldBack}
use Rattle.flow_lock.specs.Orders.{pins_at, same_flow, total, at_slot}
use Rattle.flow_lock.specs.Passes.{Seen}
use Rattle.flow_lock.specs.Steps.{IsAlone, alone_or, condemned, known_words, mark, noted}
use Rattle.flow_lock.specs.Words.{put_word, word_at, dead_word}
use Rattle.flow_lock.specs.declared.view.Mark.{Mark}
use Rattle.flow_lock.specs.declared.view.Turn.{Turn}
use Rattle.flow_lock.specs.declared.view.View.{View}
use Rattle.flow_lock.specs.declared.word.Word.{Word}
use Rattle.flow_lock.proofs.Sums.{at_below, at_index}
use Rattle.app_reaper.proofs.Walking.{kept, on_itself}
use Rattle.core_host.specs.Ending.{IsSole, MayFree, AreFreed, left_in, found_in, AreFound}
use Rattle.core_host.proofs.Found.{Entries, found_more}

-- ----- words
pins_else : (ws : List Word) (i k : ℕ) (w : Word) → k ≢ i → pins_at (put_word i w ws) k ≡ pins_at ws k
pins_else [] i k w ne = refl
pins_else (x ∷ xs) zero zero w ne = absurd (ne refl)
pins_else (x ∷ xs) zero (suc k) w ne = refl
pins_else (x ∷ xs) (suc i) zero w ne = refl
pins_else (x ∷ xs) (suc i) (suc k) w ne = pins_else xs i k w (λ e. ne (ap suc e))

pins_doomed : (ws : List Word) (i : ℕ) → pins_at (put_word i (record (word_at ws i) { doomed = true }) ws) i ≡ pins_at
    ws i
pins_doomed [] i = refl
pins_doomed (x ∷ xs) zero = refl
pins_doomed (x ∷ xs) (suc i) = pins_doomed xs i

known_alone : (i : ℕ) (w : Word) (v : View) → IsAlone v → known_words i w v ≡ put_word i w v.words
known_alone i w v alone = ap (λ (ts : List Turn). alone_or ts (put_word i w v.words) v.words) alone.1

-- ----- one flow
module _ (t : TableId) (s n : Seen) (f : FlowId) (more : List FlowId) (may : MayFree t s (f ∷ more)) where
  abbrev v : View
  v = s.view

  -- doomed, its word has the one pin still
  doomed_pins : pins_at (condemned f v).words f.slot ≡ 1
  doomed_pins =
      ap (λ ws. pins_at ws f.slot) (known_alone f.slot (record (word_at v.words f.slot) { doomed = true }) v
      may.quiet.alone)
      ∙ (pins_doomed v.words f.slot ∙ may.each.0.pins)

  -- so it isn't held back
  pub never_held : (w : View) (k : ℕ) → IsHeldBack f (condemned f v) w k → ⊥
  never_held w k (x, many, known, after) =
      many.1 (sym many.0 ∙ (ap (λ (y : Word). y.pins) (known may.quiet.alone) ∙ doomed_pins))

  -- its mark says that it is doomed
  pub doomed_mark : get_elem? (condemned f v).marks f.slot ≡ O.some (mark f.generation true true)
  doomed_mark =
      set_here v.marks f.slot _ (at_below v.marks f.slot _ may.each.0.owner.1.1)
      ∙ ap (λ (m : Mark). O.some (record m { doomed = true }))
      (at_index v.marks f.slot _ (mark 0 false false) may.each.0.owner.1.1)

  none_here : total (at_slot f.slot) more ≡ 0
  none_here =
      let o : at_slot f.slot f + total (at_slot f.slot) more ≤ 1 = may.once f.slot in
      let one = on_itself f in omega (arith, o, one)

  -- and then the others can be freed still
  module _ (table : n.table ≡ s.table) (free : IsFreed f (condemned f v) n.view) where
    pub base_same : n.view.base ≡ v.base
    base_same = ap (λ (x : View). x.base) free.1

    words : n.view.words ≡ put_word f.slot (dead_word f.generation)
        (put_word f.slot (record (word_at v.words f.slot) { doomed = true }) v.words)
    words =
        ap (λ (x : View). x.words) free.1
        ∙ (ap (λ (ts : List Turn). alone_or ts (put_word f.slot (dead_word f.generation) (condemned f v).words)
        (condemned f v).words) may.quiet.alone.1
        ∙ ap (put_word f.slot (dead_word f.generation))
        (known_alone f.slot (record (word_at v.words f.slot) { doomed = true }) v may.quiet.alone))

    other : (g : FlowId) → g.slot ≢ f.slot → IsSole t.slots s g → IsSole t.slots n g
    other g ne is =
        let pin = kept f.slot v.pins is.owner.0.0 g ne is.owner.0.1 in record {
          owner = (
            (pin.0, ap (λ (x : View). get_elem? x.pins pin.0) free.1 ∙ pin.1),
            (
              is.owner.1.0,
              ap (λ (x : View). get_elem? x.marks g.slot) free.1
                  ∙ (set_else _ f.slot g.slot _ ne ∙ (set_else v.marks f.slot g.slot _ ne ∙ is.owner.1.1)),
            ),
          );
          low = is.low;
          pins = ap (λ ws. pins_at ws g.slot) words
              ∙ (pins_else _ f.slot g.slot _ ne ∙ (pins_else v.words f.slot g.slot _ ne ∙ is.pins));
        }

    others : (gs : List FlowId) → total (at_slot f.slot) gs ≡ 0 → Each (IsSole t.slots s) gs → Each (IsSole t.slots n)
        gs
    others [] none each = tt
    others (g ∷ gs) none each =
        let rest : total (at_slot f.slot) gs ≡ 0 = omega (arith, none) in
        let ne : g.slot ≢ f.slot = λ e. absurd (let one = subst (λ k. at_slot k g ≡ 1) e (on_itself g) in
        omega (arith, none, one)) in
        (other g ne each.0, others gs rest each.1)

    pub freed_may : MayFree t n more
    freed_may = record {
      quiet = record {
        table = table ∙ may.quiet.table;
        alone = (
          ap (λ (x : View). x.baton) free.1 ∙ may.quiet.alone.0,
          ap (λ (x : View). x.turns) free.1 ∙ ap (noted [] [] (f ∷ [])) may.quiet.alone.1,
          ap (λ (x : View). x.made) free.1 ∙ may.quiet.alone.2,
        );
        held = ap (λ (x : View). x.held) free.1 ∙ may.quiet.held;
        wide = ap (λ (ws : List Word). length ws) words
            ∙ (length-set _ f.slot _ ∙ (length-set v.words f.slot _ ∙ may.quiet.wide));
      };
      each = others more none_here may.each.1;
      once = λ i.
          let o : at_slot i f + total (at_slot i) more ≤ 1 = may.once i in omega (arith, o);
    }

-- the slot of one flow was freed
pub one_freed : (t : TableId) (s n : Seen) (f : FlowId) → n.table ≡ s.table → IsFreed f (condemned f s.view) n.view
    → AreFreed t (f ∷ []) s n
one_freed t s n f table free = record {
  base = ap (λ (x : View). x.base) free.1;
  others = λ more may. freed_may t s n f more may table free;
}

pub none_freed : (t : TableId) (s : Seen) → AreFreed t [] s s
none_freed t s = record { base = refl; others = λ more may. may }

pub more_freed : (t : TableId) (fs : List FlowId) (f : FlowId) (s m n : Seen) → AreFreed t fs s m
    → AreFreed t (f ∷ []) m n → AreFreed t (fs ++ f ∷ []) s n
more_freed t fs f s m n a b = record {
  base = b.base ∙ a.base;
  others = λ more may.
      b.others more (a.others (f ∷ more) (subst (MayFree t s) (append_assoc fs (f ∷ []) more) may));
}

-- ----- one flow after the other
-- those in front were freed, and found
pub record IsFreeing (t : TableId) (all : List FlowId) (s : Seen) (es : Entries) (left : List FlowId) (m : Seen)
    (fs : Entries) : Type 0 where
  pub done : List FlowId
  pub all_are : all ≡ done ++ left
  pub freed : AreFreed t done s m
  pub found : (ids : List FlowId) → AreFound s.view.base es ids → AreFound s.view.base fs (ids ++ done)

pub freeing_begins : (t : TableId) (all : List FlowId) (s : Seen) (es : Entries) → IsFreeing t all s es all s es
freeing_begins t all s es = record {
  done = [];
  all_are = refl;
  freed = none_freed t s;
  found = λ ids found. subst (AreFound s.view.base es) (sym (append-nil ids)) found;
}

-- what is left may be freed
pub still_may : (t : TableId) (all : List FlowId) (s : Seen) (es : Entries) (left : List FlowId) (m : Seen) (fs :
    Entries)
    → IsFreeing t all s es left m fs → MayFree t s all → MayFree t m left
still_may t all s es left m fs is may = is.freed.others left (subst (MayFree t s) is.all_are may)

-- the first of them
pub first_may : (t : TableId) (m : Seen) (f : FlowId) (rest left : List FlowId) → left ≡ f ∷ rest → MayFree t m left
    → MayFree t m (f ∷ [])
first_may t m f rest left split may =
    let is : MayFree t m (f ∷ rest) = subst (MayFree t m) split may in record {
      quiet = is.quiet;
      each = (is.each.0, tt);
      once = λ i. let o : at_slot i f + total (at_slot i) rest ≤ 1 = is.once i in omega (arith, o);
    }

pub freeing_more : (t : TableId) (all : List FlowId) (s : Seen) (es : Entries) (left rest : List FlowId) (m n : Seen)
    (fs gs : Entries) (f : FlowId) (r : Flow) → IsFreeing t all s es left m fs → left ≡ f ∷ rest
    → AreFreed t (f ∷ []) m n → left_of r ≡ left_in m.view.base f
    → ((id : FlowId) → found_in gs id
    ≡ cond (same_flow (left_of r).id id) (Some (left_of r)) (found_in fs id))
    → IsFreeing t all s es rest n gs
freeing_more t all s es left rest m n fs gs f r is split free own put = record {
  done = is.done ++ f ∷ [];
  all_are = is.all_are ∙ (ap (λ l. is.done ++ l) split ∙ sym (append_assoc is.done (f ∷ []) rest));
  freed = more_freed t is.done f s m n is.freed free;
  found = λ ids found.
      subst (AreFound s.view.base gs) (append_assoc ids is.done (f ∷ []))
      (found_more s.view.base fs gs (left_of r) f (own ∙ ap (λ base. left_in base f) is.freed.base) put (ids ++ is.done)
      (is.found ids found));
}

pub freeing_ends : (t : TableId) (all : List FlowId) (s : Seen) (es : Entries) (left : List FlowId) (m : Seen)
    (fs : Entries) → IsFreeing t all s es left m fs → left ≡ []
    → AreFreed t all s m × ((ids : List FlowId) → AreFound s.view.base es ids → AreFound s.view.base fs (ids ++ all))
freeing_ends t all s es left m fs is none =
    let same : all ≡ is.done = is.all_are ∙ (ap (λ l. is.done ++ l) none ∙ append-nil is.done) in (
      subst (λ l. AreFreed t l s m) (sym same) is.freed,
      λ ids found. subst (λ l. AreFound s.view.base fs (ids ++ l)) (sym same) (is.found ids found),
    )
