-- A closed flow is swept alone: for the law sweeps_alone_keep_the_slots.
use Rattle.std.proofs.Common.{◌≡◌, ◌≢◌, ℕ, ◌+◌, ◌<◌, ◌==◌, ◌&&◌, ◌||◌, not, Bool, true, false, List, [], ◌∷◌}
use Rattle.std.proofs.Common.{◌++◌, length}
use Rattle.std.proofs.Common.{refl, sym, ap, ◌∙◌, subst, arith, inl, inr, set, Some, slice_get, count_by, true≢false}
use Rattle.std.specs.Prelude.{◌⊎◌}
use Rattle.std.specs.List.{list_any}
use Rattle.std.proofs.lemmas.Bool.{eqb-true}
use Rattle.std.proofs.lemmas.Bool.Decides.{nat_tests}
use Rattle.tas_model.specs.declared.entry.FlowId.{FlowId}
use Rattle.host_rounds.specs.Hosts.{is_held_by}
use Rattle.host_rounds.specs.Lists.{Each}
use Rattle.host_rounds.proofs.Lists.{each_append}
use Rattle.core_rounds.proofs.Filters.{tally, count_cons}
use Rattle.flow_lock.specs.Answers.{is_open_in}
use Rattle.flow_lock.specs.Orders.{same_flow}
use Rattle.flow_lock.specs.Steps.{IsAlone, alone_or, condemned, counted, mark, mark_at}
use Rattle.flow_lock.specs.Words.{flag, word_at, put_word, dead_word, sole_word}
use Rattle.flow_lock.specs.declared.view.Mark.{Mark}
use Rattle.flow_lock.specs.declared.view.Turn.{Turn}
use Rattle.flow_lock.specs.declared.view.View.{View}
use Rattle.flow_lock.specs.declared.word.Word.{Word}
use Rattle.app_reaper.specs.Sweeping.{IsSweep}
use Rattle.app_reaper.specs.declared.sweeping.Swept.{Swept}
use Rattle.app_reaper.specs.declared.sweeping.Swept.TheVariants.{Freed, Pinned}
use Rattle.host_books.specs.Books.{Book}
use Rattle.sound_hosts.specs.Hosts.{is_of_slot, stands_in, is_doomed_in, word_of, AreNumbered}
use Rattle.sound_hosts.specs.Ending.{is_freed, swept_as}
use Rattle.sound_hosts.specs.Sound.{IsMarked, IsWorded, AreSlots}
use Rattle.sound_hosts.proofs.Distinct.{distinct}
use Rattle.sound_hosts.proofs.Numbers.{at_set, mark_there, word_else, word_own, none_doomed, apart, unlike}

-- ----- one of a list is another
pub any_swap : {X : Type 0} (p : X → Bool) (xs : List X) (x y : X) (cs : List X) → p y ≡ p x
    → list_any p (xs ++ y ∷ cs) ≡ list_any p (xs ++ x ∷ cs)
any_swap p [] x y cs e = ap (λ b. b || list_any p cs) e
any_swap p (a ∷ xs) x y cs e = ap (λ b. p a || b) (any_swap p xs x y cs e)

pub count_swap : {X : Type 0} (p : X → Bool) (xs : List X) (x y : X) (cs : List X) → p y ≡ p x
    → count_by p (xs ++ y ∷ cs) ≡ count_by p (xs ++ x ∷ cs)
count_swap p [] x y cs e =
    count_cons p y cs ∙ (ap (λ b. tally b + count_by p cs) e ∙ sym (count_cons p x cs))
count_swap p (a ∷ xs) x y cs e =
    count_cons p a (xs ++ y ∷ cs)
    ∙ (ap (λ n. tally (p a) + n) (count_swap p xs x y cs e) ∙ sym (count_cons p a (xs ++ x ∷ cs)))

pub any_here : {X : Type 0} (p : X → Bool) (xs : List X) (x : X) (cs : List X) → p x ≡ true
    → list_any p (xs ++ x ∷ cs) ≡ true
any_here p [] x cs e = ap (λ b. b || list_any p cs) e
any_here p (a ∷ xs) x cs e = by (p a) (any_here p xs x cs e)
  where
    by : (b : Bool) → list_any p (xs ++ x ∷ cs) ≡ true → (b || list_any p (xs ++ x ∷ cs)) ≡ true
    by true h = refl
    by false h = h

no_one : {X : Type 0} (p : X → Bool) (zs : List X) → Each (λ (z : X). p z ≡ false) zs → list_any p zs ≡ false
no_one p [] each = refl
no_one p (z ∷ zs) each = λ i. each.0 i || no_one p zs each.1 i

any_none : {X : Type 0} (p : X → Bool) (xs : List X) (x : X) (cs : List X) → Each (λ (a : X). p a ≡ false) xs
    → p x ≡ false → Each (λ (c : X). p c ≡ false) cs → list_any p (xs ++ x ∷ cs) ≡ false
any_none p [] x cs a e c = λ i. e i || no_one p cs c i
any_none p (a ∷ xs) x cs each e c = λ i. each.0 i || any_none p xs x cs each.1 e c i

pub firsts : {X : Type 0} (P : X → Type 0) (zs : List X) (x : X) (cs : List X) → Each P (zs ++ x ∷ cs) → Each P zs
firsts P [] x cs e = tt
firsts P (z ∷ zs) x cs e = (e.0, firsts P zs x cs e.1)

pub lasts : {X : Type 0} (P : X → Type 0) (zs : List X) (x : X) (cs : List X) → Each P (zs ++ x ∷ cs) → Each P cs
lasts P [] x cs e = e.1
lasts P (z ∷ zs) x cs e = lasts P zs x cs e.1

each_swap : {X : Type 0} (P Q : X → Type 0) (xs : List X) (x y : X) (cs : List X) → Each P (xs ++ x ∷ cs)
    → (Each P xs → Each Q xs) → Q y → (Each P cs → Each Q cs) → Each Q (xs ++ y ∷ cs)
each_swap P Q xs x y cs each f q g =
    each_append Q xs (y ∷ cs) (f (firsts P xs x cs each)) (q, g (lasts P xs x cs each))

pub middle : {X : Type 0} (P : X → Type 0) (xs : List X) (x : X) (cs : List X) → Each P (xs ++ x ∷ cs) → P x
middle P [] x cs e = e.0
middle P (a ∷ xs) x cs e = middle P xs x cs e.1

-- ----- books of other flows
same_sym : (f g : FlowId) → same_flow f g ≡ same_flow g f
same_sym f g = grind (arith, nat_tests)

pub apart_before : (slots : ℕ) (pre xs : List Book) (b : Book) (cs : List Book) → AreNumbered slots pre (xs ++ b ∷ cs)
    → Each (λ (c : Book). same_flow b.id c.id ≡ false) xs
apart_before slots pre [] b cs numbered = tt
apart_before slots pre (c ∷ xs) b cs numbered = (
  same_sym b.id c.id
      ∙ middle (λ (d : Book). same_flow c.id d.id ≡ false) xs b cs (distinct slots pre c (xs ++ b ∷ cs) numbered),
  apart_before slots (pre ++ c ∷ []) xs b cs numbered.2,
)

pub apart_behind : (slots : ℕ) (pre xs : List Book) (b : Book) (cs : List Book) → AreNumbered slots pre (xs ++ b ∷ cs)
    → Each (λ (c : Book). same_flow b.id c.id ≡ false) cs
apart_behind slots pre [] b cs numbered = distinct slots pre b cs numbered
apart_behind slots pre (c ∷ xs) b cs numbered = apart_behind slots (pre ++ c ∷ []) xs b cs numbered.2

within : (slots : ℕ) (pre xs : List Book) (b : Book) (cs : List Book) → AreNumbered slots pre (xs ++ b ∷ cs)
    → b.id.slot < slots
within slots pre [] b cs numbered = numbered.0
within slots pre (c ∷ xs) b cs numbered = within slots (pre ++ c ∷ []) xs b cs numbered.2

-- two that stand have different slots
module _ (v : View) (b : Book) (stands : b.filed ≡ false) (own : IsWorded v b) where
  abbrev IsElsewhere : Book → Type 0
  IsElsewhere c = c.filed ≡ false → (c.id.slot == b.id.slot) ≡ false

  elsewhere : (c : Book) → same_flow b.id c.id ≡ false → IsWorded v c → IsElsewhere c
  elsewhere c apart worded f = by (c.id.slot == b.id.slot) refl
    where
      by : (s : Bool) → (c.id.slot == b.id.slot) ≡ s → (c.id.slot == b.id.slot) ≡ false
      by false e = e
      by true e =
          let slot : c.id.slot ≡ b.id.slot = grind (arith, nat_tests, e) in
          let words : word_of c ≡ word_of b =
          sym (worded f) ∙ (ap (λ s. word_at v.words s) slot ∙ own stands) in
          let generation : c.id.generation ≡ b.id.generation = ap (λ (x : Word). x.generation) words in
          let same : same_flow b.id c.id ≡ true = grind (arith, nat_tests, slot, generation) in
          absurd (true≢false (sym same ∙ apart))

  pub all_elsewhere : (cs : List Book) → Each (λ (c : Book). same_flow b.id c.id ≡ false) cs → Each (IsWorded v) cs
      → Each IsElsewhere cs
  all_elsewhere [] apart each = tt
  all_elsewhere (c ∷ cs) apart each = (elsewhere c apart.0 each.0, all_elsewhere cs apart.1 each.1)

-- none of those stands in the slot
none_stands : (i : ℕ) (cs : List Book) → Each (λ (c : Book). c.filed ≡ false → (c.id.slot == i) ≡ false) cs
    → Each (λ (c : Book). stands_in i c ≡ false) cs
none_stands i [] each = tt
none_stands i (c ∷ cs) each = (by c.filed refl each.0, none_stands i cs each.1)
  where
    by : (f : Bool) → c.filed ≡ f → (c.filed ≡ false → (c.id.slot == i) ≡ false)
        → (not c.filed && (c.id.slot == i)) ≡ false
    by true e h = ap (λ x. not x && (c.id.slot == i)) e
    by false e h = (λ j. not (e j) && h e j)

-- ----- the flow that is swept
and_right : (a b : Bool) → (a && b) ≡ true → b ≡ true
and_right true b e = e
and_right false b e = absurd (true≢false (sym e))

held_if : (x : Bool) → 1 + flag x ≢ 1 → true ≡ x
held_if true ne = refl
held_if false ne = absurd (ne refl)

free_if : (x : Bool) → 1 + flag x ≡ 1 → false ≡ x
free_if true e = absurd (omega (arith, e))
free_if false e = refl

-- What the table has of books: the marks and words of all slots, which are as many as the table has, and of the one
-- that is swept its mark says that it stands.
module _ (slots : ℕ) (v : View) (xs : List Book) (b : Book) (cs : List Book) (stands : b.filed ≡ false)
    (alone : IsAlone v) (wide : (length v.marks ≡ slots) × (length v.words ≡ slots))
    (numbered : AreNumbered slots [] (xs ++ b ∷ cs)) (table : AreSlots (xs ++ b ∷ cs) v)
    (open_ : is_open_in v.marks b.id ≡ true) where
  worded : Each (IsWorded v) (xs ++ b ∷ cs)
  worded = table.words

  marked : (i : ℕ) (m : Mark) → slice_get v.marks i ≡ Some m → IsMarked (xs ++ b ∷ cs) i m
  marked = table.marks

  own : word_at v.words b.id.slot ≡ word_of b
  own = middle (IsWorded v) xs b cs worded stands

  low : b.id.slot < slots
  low = within slots [] xs b cs numbered

  pub low_mark : b.id.slot < length v.marks
  low_mark = let w : length v.marks ≡ slots = wide.0 in let l = low in omega (arith, l, w)

  low_word : b.id.slot < length v.words
  low_word = let w : length v.words ≡ slots = wide.1 in let l = low in omega (arith, l, w)

  generation : (mark_at v.marks b.id.slot).generation ≡ b.id.generation
  generation =
      eqb-true (mark_at v.marks b.id.slot).generation b.id.generation
      (and_right (mark_at v.marks b.id.slot).live _ open_)

  mark_is : IsMarked (xs ++ b ∷ cs) b.id.slot (mark_at v.marks b.id.slot)
  mark_is = marked b.id.slot (mark_at v.marks b.id.slot)
      (mark_there v.marks b.id.slot low_mark)

  -- the others
  pub front : Each (λ (c : Book). c.filed ≡ false → (c.id.slot == b.id.slot) ≡ false) xs
  front = all_elsewhere v b stands (λ f. own) xs (apart_before slots [] xs b cs numbered)
      (firsts (IsWorded v) xs b cs worded)

  pub back : Each (λ (c : Book). c.filed ≡ false → (c.id.slot == b.id.slot) ≡ false) cs
  back = all_elsewhere v b stands (λ f. own) cs (apart_behind slots [] xs b cs numbered)
      (lasts (IsWorded v) xs b cs worded)

  -- ----- what the sweep found
  abbrev doomed_word : Word
  doomed_word = record (word_at v.words b.id.slot) { doomed = true }

  condemned_words : (condemned b.id v).words
      ≡ put_word b.id.slot doomed_word v.words
  condemned_words = ap (λ (ts : List Turn). alone_or ts (put_word b.id.slot doomed_word v.words)
      v.words) alone.1

  condemned_word : word_at (condemned b.id v).words b.id.slot ≡ doomed_word
  condemned_word = ap (λ ws. word_at ws b.id.slot) condemned_words
      ∙ word_own v.words b.id.slot doomed_word low_word

  still_alone : IsAlone (condemned b.id v)
  still_alone = alone

  pins_are : doomed_word.pins ≡ 1 + flag (is_held_by b.holder)
  pins_are = ap (λ (x : Word). x.pins) own

  -- it was freed exactly where no application has its socket
  pub freed_if : (w : View) (a : Swept) → IsSweep b.id v w a → is_freed a ≡ not (is_held_by b.holder)
  freed_if w Freed s =
      let found : sole_word b.id.generation ≡ doomed_word = s.0 still_alone ∙ condemned_word in
      let one : 1 + flag (is_held_by b.holder) ≡ 1 = sym pins_are ∙ sym (ap (λ (x : Word). x.pins) found) in
      ap not (free_if (is_held_by b.holder) one)
  freed_if w (Pinned n pin) s =
      let found : s.0 ≡ doomed_word = s.2 still_alone ∙ condemned_word in
      let many : 1 + flag (is_held_by b.holder) ≢ 1 =
      λ e. s.1.1 (sym s.1.0 ∙ (ap (λ (x : Word). x.pins) found ∙ (pins_are ∙ e))) in
      ap not (held_if (is_held_by b.holder) many)

  -- ----- the slots after it
  -- words of others
  others_worded : (w : View) → ((k : ℕ) → k ≢ b.id.slot → word_at w.words k ≡ word_at v.words k)
      → (zs : List Book) → Each (IsWorded v) zs
      → Each (λ (c : Book). c.filed ≡ false → (c.id.slot == b.id.slot) ≡ false) zs → Each (IsWorded w) zs
  others_worded w same [] each away = tt
  others_worded w same (z ∷ zs) each away = (
    λ f. same z.id.slot (λ e. unlike z.id.slot b.id.slot e (away.0 f)) ∙ each.0 f,
    others_worded w same zs each.1 away.1,
  )

  slot_test : (b.id.slot == b.id.slot) ≡ true
  slot_test = grind (arith, nat_tests)

  -- marks of other slots
  other_marks : (a : Swept) (i : ℕ) (m : Mark) → i ≢ b.id.slot → slice_get v.marks i ≡ Some m
      → IsMarked (xs ++ swept_as a b ∷ cs) i m
  other_marks a i m ne at =
      let old = marked i m at in
      let test : (b.id.slot == i) ≡ false = apart b.id.slot i ne in
      let off : (x y : Bool) → (x && (b.id.slot == i)) ≡ (y && (b.id.slot == i)) =
      λ x y. ap (λ s. x && s) test ∙ (none_of x ∙ (sym (none_of y) ∙ sym (ap (λ s. y && s) test))) in
      record {
        generation = old.generation ∙ sym (count_swap (is_of_slot i) xs b (swept_as a b) cs refl);
        live = old.live ∙ sym (any_swap (stands_in i) xs b (swept_as a b) cs (off (not (is_freed a)) (not b.filed)));
        doomed = old.doomed
            ∙ sym (any_swap (is_doomed_in i) xs b (swept_as a b) cs
            (off (true && not (is_freed a)) (not b.indexed && not b.filed)));
      }
    where
      none_of : (x : Bool) → (x && false) ≡ false
      none_of true = refl
      none_of false = refl

  pub slots_still : (w : View) (a : Swept) → IsSweep b.id v w a
      → AreSlots (xs ++ swept_as a b ∷ cs) w
  slots_still w Freed s =
      let words : w.words ≡ put_word b.id.slot (dead_word b.id.generation) (put_word b.id.slot doomed_word
      v.words) =
      ap (λ (x : View). x.words) s.1
      ∙ (ap (λ (ts : List Turn). alone_or ts (put_word b.id.slot (dead_word b.id.generation)
      (condemned b.id v).words) (condemned b.id v).words) alone.1
      ∙ ap (put_word b.id.slot (dead_word b.id.generation)) condemned_words) in
      let marks : w.marks ≡ set (condemned b.id v).marks b.id.slot (mark b.id.generation false false) =
      ap (λ (x : View). x.marks) s.1 in
      record {
        marks = λ i m at. by_mark i m
            (at_set (condemned b.id v).marks b.id.slot i (mark b.id.generation false false) m
            (ap (λ (ms : List Mark). slice_get ms i) (sym marks) ∙ at));
        words = each_swap (IsWorded v) (IsWorded w) xs b (swept_as Freed b) cs worded
            (λ each. others_worded w (away words) xs each front) (λ f. absurd (true≢false f))
            (λ each. others_worded w (away words) cs each back);
      }
    where
      away : w.words ≡ put_word b.id.slot (dead_word b.id.generation) (put_word b.id.slot doomed_word
          v.words) → (k : ℕ) → k ≢ b.id.slot → word_at w.words k ≡ word_at v.words k
      away words k ne =
          ap (λ ws. word_at ws k) words
          ∙ (word_else (put_word b.id.slot doomed_word v.words) b.id.slot k (dead_word b.id.generation)
          ne
          ∙ word_else v.words b.id.slot k doomed_word ne)

      none : list_any (stands_in b.id.slot) (xs ++ swept_as Freed b ∷ cs) ≡ false
      none = any_none (stands_in b.id.slot) xs (swept_as Freed b) cs (none_stands b.id.slot xs front) refl
          (none_stands b.id.slot cs back)

      by_mark : (i : ℕ) (m : Mark)
          → ((i ≡ b.id.slot) × (m ≡ mark b.id.generation false false))
          ⊎ ((i ≢ b.id.slot) × (slice_get (condemned b.id v).marks i ≡ Some m))
          → IsMarked (xs ++ swept_as Freed b ∷ cs) i m
      by_mark i m (inl (here, is)) =
          subst (λ k. IsMarked (xs ++ swept_as Freed b ∷ cs) k m) (sym here) (record {
            generation = ap (λ (x : Mark). x.generation) is
                ∙ (sym generation ∙ (mark_is.generation
                ∙ sym (count_swap (is_of_slot b.id.slot) xs b (swept_as Freed b) cs refl)));
            live = ap (λ (x : Mark). x.live) is ∙ sym none;
            doomed = ap (λ (x : Mark). x.doomed) is
                ∙ sym (none_doomed b.id.slot (xs ++ swept_as Freed b ∷ cs) none);
          })
      by_mark i m (inr (ne, at)) =
          by_old (at_set v.marks b.id.slot i
          (record (mark_at v.marks b.id.slot) { doomed = true }) m at)
        where
          by_old : ((i ≡ b.id.slot) × (m ≡ record (mark_at v.marks b.id.slot) { doomed = true }))
              ⊎ ((i ≢ b.id.slot) × (slice_get v.marks i ≡ Some m))
              → IsMarked (xs ++ swept_as Freed b ∷ cs) i m
          by_old (inl (here, is)) = absurd (ne here)
          by_old (inr (differs, there)) = other_marks Freed i m differs there
  slots_still w (Pinned n pin) s = by_steps s.3
    where
      done : w.words ≡ (condemned b.id v).words → w.marks ≡ (condemned b.id v).marks
          → AreSlots (xs ++ swept_as (Pinned n pin) b ∷ cs) w
      done words marks = record {
        marks = λ i m at. by_mark i m
            (at_set v.marks b.id.slot i
            (record (mark_at v.marks b.id.slot) { doomed = true }) m
            (ap (λ (ms : List Mark). slice_get ms i) (sym marks) ∙ at));
        words = each_swap (IsWorded v) (IsWorded w) xs b (swept_as (Pinned n pin) b) cs worded
            (λ each. others_worded w away xs each front)
            (λ f. ap (λ ws. word_at ws b.id.slot) words
            ∙ (condemned_word ∙ ap (λ (x : Word). record x { doomed = true }) own))
            (λ each. others_worded w away cs each back);
      }
        where
          away : (k : ℕ) → k ≢ b.id.slot → word_at w.words k ≡ word_at v.words k
          away k ne =
              ap (λ ws. word_at ws k) (words ∙ condemned_words)
              ∙ word_else v.words b.id.slot k doomed_word ne

          by_mark : (i : ℕ) (m : Mark)
              → ((i ≡ b.id.slot) × (m ≡ record (mark_at v.marks b.id.slot) { doomed = true }))
              ⊎ ((i ≢ b.id.slot) × (slice_get v.marks i ≡ Some m))
              → IsMarked (xs ++ swept_as (Pinned n pin) b ∷ cs) i m
          by_mark i m (inl (here, is)) =
              subst (λ k. IsMarked (xs ++ swept_as (Pinned n pin) b ∷ cs) k m) (sym here) (record {
                generation = ap (λ (x : Mark). x.generation) is
                    ∙ (mark_is.generation
                    ∙ sym (count_swap (is_of_slot b.id.slot) xs b (swept_as (Pinned n pin) b) cs refl));
                live = ap (λ (x : Mark). x.live) is
                    ∙ (mark_is.live
                    ∙ sym (any_swap (stands_in b.id.slot) xs b (swept_as (Pinned n pin) b) cs
                    (ap (λ f. not f && (b.id.slot == b.id.slot)) (sym stands))));
                doomed = ap (λ (x : Mark). x.doomed) is
                    ∙ sym (any_here (is_doomed_in b.id.slot) xs (swept_as (Pinned n pin) b) cs slot_test);
              })
          by_mark i m (inr (differs, there)) = other_marks (Pinned n pin) i m differs there

      by_steps : (w ≡ counted b.id.slot s.0 (condemned b.id v))
          ⊎ ((y : Word) × (w ≡ counted b.id.slot s.0 (counted b.id.slot y (condemned b.id v))))
          → AreSlots (xs ++ swept_as (Pinned n pin) b ∷ cs) w
      by_steps (inl e) = done (ap (λ (x : View). x.words) e) (ap (λ (x : View). x.marks) e)
      by_steps (inr y) = done (ap (λ (x : View). x.words) y.1) (ap (λ (x : View). x.marks) y.1)
