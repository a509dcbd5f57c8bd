-- Pins that are given up: for the answers for what an application that ends gives up.
use Rattle.std.proofs.Common.{◌≡◌, ℕ, zero, suc, ◌+◌, ◌-◌, ◌==◌, cond, Bool, true, false, List, [], ◌∷◌, ◌++◌, length}
use Rattle.std.proofs.Common.{refl, sym, ap, ◌∙◌, subst}
use Rattle.std.proofs.Common.{arith, length-set}
use Rattle.std.proofs.lemmas.Bool.Decides.{nat_tests}
use Rattle.std.specs.Prelude.{slice_get, remove, Some}
use Rattle.atomic_table.specs.Seated.{TableId}
use Rattle.tas_model.specs.declared.entry.FlowId.{FlowId}
use Rattle.flow_lock.specs.Claims.{holds_on}
use Rattle.flow_lock.specs.Orders.{pins_at, total, at_slot}
use Rattle.flow_lock.specs.declared.view.Held.{Held}
use Rattle.flow_lock.specs.Passes.{Seen}
use Rattle.flow_lock.specs.Steps.{IsAlone, alone_or, noted, pin_less, unpinned}
use Rattle.flow_lock.specs.Words.{put_word, word_at}
use Rattle.flow_lock.specs.declared.view.Turn.{Turn}
use Rattle.flow_lock.specs.declared.view.View.{View}
use Rattle.flow_lock.specs.declared.word.Word.{Word}
use Rattle.app_reaper.specs.Reaping.{ArePins}
use Rattle.app_reaper.proofs.Walking.{pins_left, front}
use Rattle.host_rounds.specs.Lists.{Each}
use Rattle.libtas_sockets.specs.Apps.{Application}
use Rattle.core_phase.specs.declared.lane.Lane.{Lane}
use Rattle.core_phase.specs.declared.lane.Lane.TheVariants as lanes
use Rattle.sound_phases.specs.Phased.{apps_in}
use Rattle.core_host.specs.Ending.{IsQuiet, HasFewer, HasLeft, IsAtEase, sockets_on}

-- ----- words
less_none : (n : ℕ) → n ≡ n - 0
less_none n = omega arith

words_pins : (ws : List Word) (i k : ℕ)
    → pins_at (put_word i (pin_less (word_at ws i)) ws) k ≡ pins_at ws k - cond {A = ℕ} (i == k) 1 0
words_pins [] i k = by (i == k)
  where
    by : (t : Bool) → 0 ≡ 0 - cond {A = ℕ} t 1 0
    by t = omega arith
words_pins (x ∷ xs) zero zero =
    let e : (0 == 0) ≡ true = grind (arith, nat_tests) in
    ap (λ t. x.pins - cond {A = ℕ} t 1 0) (sym e)
words_pins (x ∷ xs) zero (suc k) =
    let e : (0 == suc k) ≡ false = grind (arith, nat_tests) in
    less_none (pins_at xs k) ∙ ap (λ t. pins_at xs k - cond {A = ℕ} t 1 0) (sym e)
words_pins (x ∷ xs) (suc i) zero =
    let e : (suc i == 0) ≡ false = grind (arith, nat_tests) in
    less_none x.pins ∙ ap (λ t. x.pins - cond {A = ℕ} t 1 0) (sym e)
words_pins (x ∷ xs) (suc i) (suc k) =
    let e : (suc i == suc k) ≡ (i == k) = grind (arith, nat_tests) in
    words_pins xs i k ∙ ap (λ t. pins_at xs k - cond {A = ℕ} t 1 0) (sym e)

unpinned_words : (f : FlowId) (v : View) → IsAlone v
    → (unpinned f v).words ≡ put_word f.slot (pin_less (word_at v.words f.slot)) v.words
unpinned_words f v alone =
    ap (λ (ts : List Turn). alone_or ts (put_word f.slot (pin_less (word_at v.words f.slot)) v.words) v.words) alone.1

-- ----- views
pub no_fewer : (v : View) → IsAlone v → HasFewer (λ i. 0) v v
no_fewer v alone = record {
  alone = alone;
  slow = refl;
  held = refl;
  base = refl;
  wide = refl;
  pins = λ i. less_none (pins_at v.words i);
}

unpinned_fewer : (f : FlowId) (v : View) → IsAlone v → HasFewer (λ i. at_slot i f) v (unpinned f v)
unpinned_fewer f v alone = record {
  alone = (alone.0, ap (noted [] [] (f ∷ [])) alone.1, alone.2);
  slow = refl;
  held = refl;
  base = refl;
  wide = ap (λ (ws : List Word). length ws) (unpinned_words f v alone) ∙ length-set v.words f.slot _;
  pins = λ i. ap (λ ws. pins_at ws i) (unpinned_words f v alone) ∙ words_pins v.words f.slot i;
}

pub fewer_more : (f g k : ℕ → ℕ) (u v w : View) → HasFewer f u v → HasFewer g v w → ((i : ℕ) → k i ≡ f i + g i)
    → HasFewer k u w
fewer_more f g k u v w a b sum = record {
  alone = b.alone;
  slow = b.slow ∙ a.slow;
  held = b.held ∙ a.held;
  base = b.base ∙ a.base;
  wide = b.wide ∙ a.wide;
  pins = λ i.
      let x : pins_at v.words i ≡ pins_at u.words i - f i = a.pins i in
      let y : pins_at w.words i ≡ pins_at v.words i - g i = b.pins i in
      let s : k i ≡ f i + g i = sum i in
      omega (arith, x, y, s);
}

-- ----- one pin after the other
-- those in front were given up
pub record IsLettingGo (t : TableId) (all : List FlowId) (v : View) (s : Seen) (left : List FlowId) : Type 0 where
  pub table : s.table ≡ t
  pub done : ℕ → ℕ
  pub fewer : HasFewer done v s.view
  pub sum : (i : ℕ) → total (at_slot i) all ≡ done i + total (at_slot i) left
  pub pins : ArePins t.slots s.view left

pub letting_begins : (t : TableId) (all : List FlowId) (s : Seen) → IsQuiet t s → ArePins t.slots s.view all
    → IsLettingGo t all s.view s all
letting_begins t all s quiet pins = record {
  table = quiet.table;
  done = λ i. 0;
  fewer = no_fewer s.view quiet.alone;
  sum = λ i. omega arith;
  pins = pins;
}

pub letting_more : (t : TableId) (all : List FlowId) (v : View) (s n : Seen) (left rest : List FlowId) (f : FlowId)
    → IsLettingGo t all v s left → slice_get left 0 ≡ Some f → rest ≡ remove left 0
    → n ≡ record s { view = unpinned f s.view } → IsLettingGo t all v n rest
letting_more t all v s n left rest f is first after step =
    subst (λ (m : Seen). IsLettingGo t all v m rest) (sym step) (record {
      table = is.table;
      done = λ i. is.done i + at_slot i f;
      fewer = fewer_more is.done (λ i. at_slot i f) (λ i. is.done i + at_slot i f) v s.view (unpinned f s.view) is.fewer
          (unpinned_fewer f s.view is.fewer.alone) (λ i. refl);
      sum = λ i.
          let a : total (at_slot i) all ≡ is.done i + total (at_slot i) left = is.sum i in
          let b : total (at_slot i) left ≡ at_slot i f + total (at_slot i) rest = ap (total (at_slot i)) split in
          omega (arith, a, b);
      pins = pins_left t.slots f rest s.view (unpinned f s.view) refl (subst (ArePins t.slots s.view) split is.pins);
    })
  where
    split : left ≡ f ∷ rest
    split = front left f first ∙ ap (λ (l : List FlowId). f ∷ l) (sym after)

pub letting_ends : (t : TableId) (all : List FlowId) (v : View) (s : Seen) (left : List FlowId)
    → IsLettingGo t all v s left → left ≡ [] → HasFewer (λ i. total (at_slot i) all) v s.view
letting_ends t all v s left is none = record {
  alone = is.fewer.alone;
  slow = is.fewer.slow;
  held = is.fewer.held;
  base = is.fewer.base;
  wide = is.fewer.wide;
  pins = λ i.
      let a : pins_at s.view.words i ≡ pins_at v.words i - is.done i = is.fewer.pins i in
      let b : total (at_slot i) all ≡ is.done i + total (at_slot i) left = is.sum i in
      let c : total (at_slot i) left ≡ 0 = ap (total (at_slot i)) none in
      omega (arith, a, b, c);
}

-- a view that holds nothing holds nothing of a slot
pub holds_none : (i : ℕ) (v : View) → v.held ≡ [] → holds_on i v ≡ 0
holds_none i v none = ap (total (λ (h : Held). at_slot i h.flow)) none

-- ----- one application after the other
pub none_left : (t : TableId) (s : Seen) → IsQuiet t s → HasLeft (λ i. 0) s s
none_left t s quiet = record { table = refl; view = no_fewer s.view quiet.alone; own = refl; marks = refl }

left_more : (f g k : ℕ → ℕ) (s m n : Seen) → HasLeft f s m → HasLeft g m n → ((i : ℕ) → k i ≡ f i + g i) → HasLeft k s n
left_more f g k s m n a b sum = record {
  table = b.table ∙ a.table;
  view = fewer_more f g k s.view m.view n.view a.view b.view sum;
  own = b.own ∙ a.own;
  marks = b.marks ∙ a.marks;
}

left_so : (f k : ℕ → ℕ) (s n : Seen) → HasLeft f s n → ((i : ℕ) → k i ≡ f i) → HasLeft k s n
left_so f k s n a same = record {
  table = a.table;
  view = record {
    alone = a.view.alone;
    slow = a.view.slow;
    held = a.view.held;
    base = a.view.base;
    wide = a.view.wide;
    pins = λ i. a.view.pins i ∙ ap (λ m. pins_at s.view.words i - m) (sym (same i));
  };
  own = a.own;
  marks = a.marks;
}

pub still_quiet : (t : TableId) (f : ℕ → ℕ) (s n : Seen) → IsQuiet t s → HasLeft f s n → IsQuiet t n
still_quiet t f s n quiet left = record {
  table = left.table ∙ quiet.table;
  alone = left.view.alone;
  held = left.view.held ∙ quiet.held;
  wide = left.view.wide ∙ quiet.wide;
}

-- those in front left
pub record AreLeaving (t : TableId) (all : List Lane) (s : Seen) (left : List Lane) (n : Seen) : Type 0 where
  pub done : ℕ → ℕ
  pub view : HasLeft done s n
  pub sum : (i : ℕ) → sockets_on (apps_in all) i ≡ done i + sockets_on (apps_in left) i
  pub ease : Each (IsAtEase t) (apps_in left)

pub leaving_begins : (t : TableId) (all left : List Lane) (s : Seen) → IsQuiet t s → Each (IsAtEase t) (apps_in all)
    → left ≡ all → AreLeaving t all s left s
leaving_begins t all left s quiet ease same = subst (λ l. AreLeaving t all s l s) (sym same) (record {
  done = λ i. 0;
  view = none_left t s quiet;
  sum = λ i. omega arith;
  ease = ease;
})

each_split : (P : Application → Type 0) (xs ys : List Application) → Each P (xs ++ ys) → Each P xs × Each P ys
each_split P [] ys each = (tt, each)
each_split P (x ∷ xs) ys each = let r = each_split P xs ys each.1 in ((each.0, r.0), r.1)

-- the applications of the next lane, and of the others
apps_split : (l : Lane) (ls : List Lane) → apps_in (l ∷ ls) ≡ apps_in (l ∷ []) ++ apps_in ls
apps_split (lanes.Core l) ls = refl
apps_split (lanes.App l) ls = refl

sockets_split : (l : Lane) (ls : List Lane) (i : ℕ)
    → sockets_on (apps_in (l ∷ ls)) i ≡ sockets_on (apps_in (l ∷ [])) i + sockets_on (apps_in ls) i
sockets_split (lanes.Core l) ls i = omega arith
sockets_split (lanes.App l) ls i = omega arith

pub next_ease : (t : TableId) (all left rest : List Lane) (s n : Seen) (l : Lane) → AreLeaving t all s left n
    → left ≡ l ∷ rest → Each (IsAtEase t) (apps_in (l ∷ []))
next_ease t all left rest s n l is split =
    (each_split (IsAtEase t) (apps_in (l ∷ [])) (apps_in rest)
    (subst (Each (IsAtEase t)) (ap apps_in split ∙ apps_split l rest) is.ease)).0

pub leaving_more : (t : TableId) (all left rest : List Lane) (s m n : Seen) (l : Lane) → AreLeaving t all s left m
    → left ≡ l ∷ rest → HasLeft (sockets_on (apps_in (l ∷ []))) m n → AreLeaving t all s rest n
leaving_more t all left rest s m n l is split one = record {
  done = λ i. is.done i + sockets_on (apps_in (l ∷ [])) i;
  view = left_more is.done (sockets_on (apps_in (l ∷ []))) (λ i. is.done i + sockets_on (apps_in (l ∷ [])) i) s m n
      is.view one (λ i. refl);
  sum = λ i.
      let a : sockets_on (apps_in all) i ≡ is.done i + sockets_on (apps_in left) i = is.sum i in
      let b : sockets_on (apps_in left) i ≡ sockets_on (apps_in (l ∷ rest)) i =
      ap (λ ls. sockets_on (apps_in ls) i) split in
      let c : sockets_on (apps_in (l ∷ rest)) i ≡ sockets_on (apps_in (l ∷ [])) i + sockets_on (apps_in rest) i =
      sockets_split l rest i in
      omega (arith, a, b, c);
  ease = (each_split (IsAtEase t) (apps_in (l ∷ [])) (apps_in rest)
      (subst (Each (IsAtEase t)) (ap apps_in split ∙ apps_split l rest) is.ease)).1;
}

pub leaving_ends : (t : TableId) (all left : List Lane) (s n : Seen) → AreLeaving t all s left n → left ≡ []
    → HasLeft (sockets_on (apps_in all)) s n
leaving_ends t all left s n is none = left_so is.done (sockets_on (apps_in all)) s n is.view (λ i.
    let a : sockets_on (apps_in all) i ≡ is.done i + sockets_on (apps_in left) i = is.sum i in
    let b : sockets_on (apps_in left) i ≡ 0 = ap (λ ls. sockets_on (apps_in ls) i) none in
    omega (arith, a, b))

pub no_lanes : (ls : List Lane) → length ls ≡ 0 → ls ≡ []
no_lanes [] e = refl
no_lanes (l ∷ ls) e = absurd (omega (arith, e))
