-- What the table, the histories and the applications have of the books, while the slow path goes from flow to flow: for
-- the law time_keeps_it.
use Rattle.std.proofs.Common.{◌≡◌, ◌≢◌, ℕ, ◌<◌, ◌==◌, ◌&&◌, not, true, false, List, [], ◌∷◌}
use Rattle.std.proofs.Common.{◌++◌, length, refl, sym, ap, ◌∙◌, subst, inl, inr, slice_get}
use Rattle.std.proofs.Common.{true≢false, eq-eqb, length-set}
use Rattle.std.specs.Prelude.{IsPermutation, ◌⊎◌}
use Rattle.tas_model.specs.declared.entry.FlowId.{FlowId}
use Rattle.host_rounds.specs.Hosts.{is_held_by}
use Rattle.host_rounds.specs.Lists.{Each}
use Rattle.host_rounds.proofs.Lists.{each_append}
use Rattle.flow_lock.specs.Answers.{is_open_in}
use Rattle.flow_lock.specs.Orders.{known_of}
use Rattle.flow_lock.specs.Steps.{alone_or, condemned, counted, known_words, mark, mark_at}
use Rattle.flow_lock.specs.Words.{word_at, put_word, dead_word}
use Rattle.flow_lock.specs.declared.view.Held.{Held}
use Rattle.flow_lock.specs.declared.view.History.{History}
use Rattle.flow_lock.specs.declared.view.Mark.{Mark}
use Rattle.flow_lock.specs.declared.view.Turn.{Turn}
use Rattle.flow_lock.specs.declared.view.View.{View}
use Rattle.flow_lock.specs.declared.word.Word.{Word}
use Rattle.app_reaper.specs.Sweeping.{IsSweep}
use Rattle.app_reaper.specs.declared.sweeping.Swept.{Swept}
use Rattle.app_reaper.specs.declared.sweeping.Swept.TheVariants.{Freed, Pinned}
use Rattle.flow_clock.specs.Histories.{is_over}
use Rattle.flow_clock.proofs.Keeping.{after_sweep}
use Rattle.libtas_sockets.specs.Apps.{Application}
use Rattle.host_books.specs.Books.{Book}
use Rattle.host_books.specs.Indexes.{AreIndexed}
use Rattle.sound_hosts.specs.Ending.{is_freed, swept_as}
use Rattle.sound_hosts.specs.Hosts.{CoreHost, is_held_of}
use Rattle.sound_hosts.specs.Leading.{LedOn, Leads}
use Rattle.sound_hosts.specs.Moving.{IsLed}
use Rattle.sound_hosts.specs.Sound.{AreSlots, IsApp, HasHolder, IsPlain, IsMarkedAs}
use Rattle.sound_hosts.proofs.Kept.{indexed_still}
use Rattle.sound_hosts.proofs.Numbers.{unlike}
use Rattle.sound_hosts.proofs.OneFlow.{one_leads, words_same}
use Rattle.sound_hosts.proofs.Standing.{mark_else, mark_own}
use Rattle.sound_hosts.proofs.Sweeping.{firsts, lasts, middle, freed_if, slots_still, front, back, low_mark}
use Rattle.sound_turns.specs.Passing.{AreTabled, swept_book}
use Rattle.sound_hosts.proofs.Names.{names_swap}
use Rattle.sound_turns.proofs.Lists.{numbered_swap, indexed_swap, swept_more}

-- ----- one flow is led on
pub base_leads : (f : FlowId) (k : History) (v w : View) → LedOn (known_of f v.base) k → IsLed f k v w
    → Leads v.base w.base
base_leads f k v w led by = subst (Leads v.base) (sym by.base) (one_leads v.base f k led)

pub led_tabled : (h : CoreHost) (bs : List Book) (f : FlowId) (k : History) (v w : View) → AreTabled h bs v
    → LedOn (known_of f v.base) k → IsLed f k v w → AreTabled h bs w
led_tabled h bs f k v w t led by =
    let leads : Leads v.base w.base = base_leads f k v w led by in
    record {
      alone = by.alone;
      slow_pass = by.slow ∙ t.slow_pass;
      wide = (ap (λ (ms : List Mark). length ms) by.marks ∙ t.wide.0, by.wide ∙ t.wide.1);
      tuples = λ g. (leads g).tuple ∙ t.tuples g;
      swept = t.swept;
      numbered = t.numbered;
      plain = t.plain;
      indexed = indexed_still v.base w.base leads bs t.indexed;
      slots = record {
        marks = λ i m at. t.slots.marks i m (ap (λ (ms : List Mark). slice_get ms i) (sym by.marks) ∙ at);
        words = words_same v w by.words bs t.slots.words;
      };
      marked = subst (λ (ms : List Mark). Each (IsMarkedAs ms) bs) (sym by.marks) t.marked;
      apps = t.apps;
      holders = t.holders;
    }

-- ----- one flow is swept
known_long : (i : ℕ) (w : Word) (v : View) → length (known_words i w v) ≡ length v.words
known_long i w v = by v.turns
  where
    by : (ts : List Turn) → length (alone_or ts (put_word i w v.words) v.words) ≡ length v.words
    by [] = length-set v.words i w
    by (t ∷ ts) = refl

-- of a sweep: what it leaves of the view
pub record IsAfterSweep (f : FlowId) (v w : View) : Type 0 where
  pub slow : w.slow ≡ v.slow
  pub base : w.base ≡ v.base
  pub words : length w.words ≡ length v.words
  pub marks : (k : ℕ) → k ≢ f.slot → mark_at w.marks k ≡ mark_at v.marks k

after : (f : FlowId) (v w : View) (a : Swept) → IsSweep f v w a → IsAfterSweep f v w
after f v w Freed s = record {
  slow = ap (λ (x : View). x.slow) s.1;
  base = ap (λ (x : View). x.base) s.1;
  words = ap (λ (x : View). length x.words) s.1
      ∙ (known_long f.slot (dead_word f.generation) (condemned f v)
      ∙ known_long f.slot (record (word_at v.words f.slot) { doomed = true }) v);
  marks = λ k ne. ap (λ (x : View). mark_at x.marks k) s.1
      ∙ (mark_else (condemned f v).marks f.slot k (mark f.generation false false) ne
      ∙ mark_else v.marks f.slot k (record (mark_at v.marks f.slot) { doomed = true }) ne);
}
after f v w (Pinned n pin) s = by s.3
  where
    by : (w ≡ counted f.slot s.0 (condemned f v))
        ⊎ ((y : Word) × (w ≡ counted f.slot s.0 (counted f.slot y (condemned f v)))) → IsAfterSweep f v w
    by (inl e) = record {
      slow = ap (λ (x : View). x.slow) e;
      base = ap (λ (x : View). x.base) e;
      words = ap (λ (x : View). length x.words) e
          ∙ known_long f.slot (record (word_at v.words f.slot) { doomed = true }) v;
      marks = λ k ne. ap (λ (x : View). mark_at x.marks k) e
          ∙ mark_else v.marks f.slot k (record (mark_at v.marks f.slot) { doomed = true }) ne;
    }
    by (inr (y, e)) = record {
      slow = ap (λ (x : View). x.slow) e;
      base = ap (λ (x : View). x.base) e;
      words = ap (λ (x : View). length x.words) e
          ∙ known_long f.slot (record (word_at v.words f.slot) { doomed = true }) v;
      marks = λ k ne. ap (λ (x : View). mark_at x.marks k) e
          ∙ mark_else v.marks f.slot k (record (mark_at v.marks f.slot) { doomed = true }) ne;
    }

-- one that wasn't freed is doomed by its mark
own_mark : (f : FlowId) (v w : View) (a : Swept) → IsSweep f v w a → is_freed a ≡ false → f.slot < length v.marks
    → mark_at w.marks f.slot ≡ record (mark_at v.marks f.slot) { doomed = true }
own_mark f v w Freed s held low = absurd (true≢false held)
own_mark f v w (Pinned n pin) s held low = by s.3
  where
    own : mark_at (condemned f v).marks f.slot ≡ record (mark_at v.marks f.slot) { doomed = true }
    own = mark_own v.marks f.slot (record (mark_at v.marks f.slot) { doomed = true }) low

    by : (w ≡ counted f.slot s.0 (condemned f v))
        ⊎ ((y : Word) × (w ≡ counted f.slot s.0 (counted f.slot y (condemned f v))))
        → mark_at w.marks f.slot ≡ record (mark_at v.marks f.slot) { doomed = true }
    by (inl e) = ap (λ (x : View). mark_at x.marks f.slot) e ∙ own
    by (inr (y, e)) = ap (λ (x : View). mark_at x.marks f.slot) e ∙ own

module _ (h : CoreHost) (xs : List Book) (b : Book) (cs : List Book) (v w : View) (a : Swept)
    (t : AreTabled h (xs ++ b ∷ cs) v) (stands : b.filed ≡ false) (over : is_over (known_of b.id v.base) ≡ true)
    (sweep : IsSweep b.id v w a) where
  marked : mark_at v.marks b.id.slot ≡ mark b.id.generation true (not b.indexed)
  marked = middle (IsMarkedAs v.marks) xs b cs t.marked stands

  open_ : is_open_in v.marks b.id ≡ true
  open_ = ap (λ (m : Mark). m.live && (m.generation == b.id.generation)) marked
      ∙ eq-eqb b.id.generation b.id.generation refl

  pub freed : is_freed a ≡ not (is_held_by b.holder)
  freed = freed_if h.table.slots v xs b cs stands t.alone t.wide t.numbered t.slots open_ w a sweep

  pub as_book : swept_as a b ≡ swept_book b
  as_book = ap (λ x. record b { indexed = false; filed = x }) freed

  left : IsAfterSweep b.id v w
  left = after b.id v w a sweep

  pub same_base : w.base ≡ v.base
  same_base = left.base

  abbrev IsAway : Book → Type 0
  IsAway c = c.filed ≡ false → (c.id.slot == b.id.slot) ≡ false

  others_marked : (zs : List Book) → Each (IsMarkedAs v.marks) zs → Each IsAway zs → Each (IsMarkedAs w.marks) zs
  others_marked [] x y = tt
  others_marked (z ∷ zs) x y = (
    λ f. left.marks z.id.slot (λ e. unlike z.id.slot b.id.slot e (y.0 f)) ∙ x.0 f,
    others_marked zs x.1 y.1,
  )

  fronts : Each IsAway xs
  fronts = front h.table.slots v xs b cs stands t.alone t.wide t.numbered t.slots open_

  backs : Each IsAway cs
  backs = back h.table.slots v xs b cs stands t.alone t.wide t.numbered t.slots open_

  own_marked : IsMarkedAs w.marks (swept_book b)
  own_marked f =
      own_mark b.id v w a sweep (freed ∙ f)
      (low_mark h.table.slots v xs b cs stands t.alone t.wide t.numbered t.slots open_)
      ∙ ap (λ (m : Mark). record m { doomed = true }) marked

  apps_still : (ys : List Application) → Each (IsApp h.table (xs ++ b ∷ cs)) ys
      → Each (IsApp h.table (xs ++ swept_book b ∷ cs)) ys
  apps_still [] each = tt
  apps_still (y ∷ ys) each = (
    record {
      own = each.0.own;
      turns = each.0.turns;
      begun = each.0.begun;
      sockets = subst (IsPermutation y.sockets)
          (sym (names_swap (is_held_of y.number) xs b (swept_book b) cs refl refl)) each.0.sockets;
    },
    apps_still ys each.1,
  )

  held_stays : is_held_by b.holder ≡ true → not (is_held_by b.holder) ≡ false
  held_stays e = ap not e

  holders_still : Each (HasHolder h.apps) (xs ++ swept_book b ∷ cs)
  holders_still =
      each_append (HasHolder h.apps) xs (swept_book b ∷ cs) (firsts (HasHolder h.apps) xs b cs t.holders) (
        λ e. ((middle (HasHolder h.apps) xs b cs t.holders e).0, held_stays e),
        lasts (HasHolder h.apps) xs b cs t.holders,
      )

  pub swept_tabled : AreTabled h (xs ++ swept_book b ∷ cs) w
  swept_tabled = record {
    alone = (after_sweep b.id v w a sweep).alone t.alone;
    slow_pass = left.slow ∙ t.slow_pass;
    wide = ((after_sweep b.id v w a sweep).slots ∙ t.wide.0, left.words ∙ t.wide.1);
    tuples = λ g. ap (λ (l : List Held). (known_of g l).tuple) left.base ∙ t.tuples g;
    swept = swept_more h.books xs b cs stands t.swept;
    numbered = numbered_swap b (swept_book b) refl h.table.slots [] xs cs t.numbered;
    plain = each_append IsPlain xs (swept_book b ∷ cs) (firsts IsPlain xs b cs t.plain)
        (λ f. refl, lasts IsPlain xs b cs t.plain);
    indexed = subst (AreIndexed (xs ++ swept_book b ∷ cs)) (sym left.base)
        (indexed_swap b (swept_book b) refl v.base refl xs cs (λ e. over) t.indexed);
    slots = subst (λ (c : Book). AreSlots (xs ++ c ∷ cs) w) as_book
        (slots_still h.table.slots v xs b cs stands t.alone t.wide t.numbered t.slots open_ w a sweep);
    marked = each_append (IsMarkedAs w.marks) xs (swept_book b ∷ cs)
        (others_marked xs (firsts (IsMarkedAs v.marks) xs b cs t.marked) fronts)
        (own_marked, others_marked cs (lasts (IsMarkedAs v.marks) xs b cs t.marked) backs);
    apps = apps_still h.apps t.apps;
    holders = holders_still;
  }
