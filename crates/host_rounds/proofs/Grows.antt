-- A tick takes nothing back: lists that grow by entries of a tick.
use Rattle.std.proofs.Common.{◌≡◌, ℕ, zero, suc, ◌≤◌, Bool, true, false, List, [], ◌∷◌, ◌++◌, map, max, Option, Some}
use Rattle.std.proofs.Common.{None, refl, sym, subst, ap, ◌∙◌, arith, append_assoc, append-nil}
use Rattle.tas_model.specs.declared.entry.Entry.{Entry}
use Rattle.tas_model.specs.declared.entry.Caller.{Caller}
use Rattle.tas_model.specs.declared.entry.Call.{Call}
use Rattle.tas_model.specs.declared.entry.Call.TheVariants as calls
use Rattle.tas_model.specs.NextSegment.{Going, going}
use Rattle.tas_model.specs.LegalHistory.{last_tick}
use Rattle.tas_model.proofs.Tests.{on_cond}
use Rattle.host_rounds.specs.declared.log.LogLine.{LogLine}
use Rattle.host_rounds.specs.Lists.{Each, change_first, change_at}
use Rattle.host_rounds.specs.Hosts.{Live, endpoint, is_over, with_call}
use Rattle.host_rounds.specs.Upkeep.{swept, controlled, timed, timed_unless, emits, emits_where}
use Rattle.host_rounds.specs.Passing.{AllAt, LinesAt, Grew, LogGrew, AllGrew, IsUpTo}
use Rattle.host_rounds.proofs.Flows.{on_control}

-- ----- lists of entries and lines
at_append : (t : ℕ) (xs ys : List Entry) → AllAt t xs → AllAt t ys → AllAt t (xs ++ ys)
at_append t [] ys a b = b
at_append t (x ∷ xs) ys a b = (a.0, at_append t xs ys a.1 b)

lines_append : (t : ℕ) (xs ys : List LogLine) → LinesAt t xs → LinesAt t ys → LinesAt t (xs ++ ys)
lines_append t [] ys a b = b
lines_append t (x ∷ xs) ys a b = (a.0, lines_append t xs ys a.1 b)

pub grew_none : (t : ℕ) (h : List Entry) → Grew t h h
grew_none t h = ([], sym (append-nil h), tt)

pub grew_both : (t : ℕ) (h g k : List Entry) → Grew t h g → Grew t g k → Grew t h k
grew_both t h g k a b = (
  a.0 ++ b.0,
  b.1 ∙ ap (λ (zs : List Entry). zs ++ b.0) a.1 ∙ append_assoc h a.0 b.0,
  at_append t a.0 b.0 a.2 b.2,
)

pub log_none : (t : ℕ) (h : List LogLine) → LogGrew t h h
log_none t h = ([], sym (append-nil h), tt)

pub log_both : (t : ℕ) (h g k : List LogLine) → LogGrew t h g → LogGrew t g k → LogGrew t h k
log_both t h g k a b = (
  a.0 ++ b.0,
  b.1 ∙ ap (λ (zs : List LogLine). zs ++ b.0) a.1 ∙ append_assoc h a.0 b.0,
  lines_append t a.0 b.0 a.2 b.2,
)

last_of : (t n : ℕ) (more : List Entry) → n ≤ t → AllAt t more → last_tick n more ≤ t
last_of t n [] h a = h
last_of t n (x ∷ xs) h a = let here : x.tick ≡ t = a.0 in last_of t x.tick xs (omega arith) a.1

last_append : (t n : ℕ) (h more : List Entry) → last_tick n h ≤ t → AllAt t more → last_tick n (h ++ more) ≤ t
last_append t n [] more low a = last_of t n more low a
last_append t n (x ∷ h) more low a = last_append t x.tick h more low a

pub grew_low : (t : ℕ) (h g : List Entry) → last_tick 0 h ≤ t → Grew t h g → last_tick 0 g ≤ t
grew_low t h g low a = subst (λ (zs : List Entry). last_tick 0 zs ≤ t) (sym a.1) (last_append t 0 h a.0 low a.2)

-- ----- one flow
-- where it had no entry of a later tick, it grew
abbrev pub Grows : ℕ → Live → Live → Type 0
Grows t l m = IsUpTo t l → Grew t l.flow.entries m.flow.entries

pub stays : (t : ℕ) (l : Live) → Grows t l l
stays t l low = grew_none t l.flow.entries

pub call_grows : (by : Caller) (t : ℕ) (call : Call) (offer : List ℕ) (l : Live)
    → Grows t l (with_call l by t call offer)
call_grows by t call offer l low =
    let same : max t (last_tick 0 l.flow.entries) ≡ t = omega arith in
    (_, refl, (same, tt))

controlled_grows : (by : Caller) (t : ℕ) (l : Live) → Grows t l (controlled by t l)
controlled_grows by t l = on_control (Grows t l) _ by t l (λ h. call_grows by t calls.Control [] l) (λ h. stays t l)

pub timed_grows : (by : Caller) (t : ℕ) (l : Live) → Grows t l (timed by t l)
timed_grows by t l = by_over (is_over l) where
  by_over : (b : Bool) → Grows t l (timed_unless b by t l)
  by_over true = stays t l
  by_over false = λ low.
      let m : Live = with_call l by t calls.Tick [] in
      let one : Grew t l.flow.entries m.flow.entries = call_grows by t calls.Tick [] l low in
      grew_both t l.flow.entries m.flow.entries (controlled by t m).flow.entries one
      (controlled_grows by t m (grew_low t l.flow.entries m.flow.entries low one))

pub swept_grows : (t : ℕ) (l : Live) → Grows t l (swept l)
swept_grows t l = on_cond (Grows t l) (is_over l) _ _ (λ h. stays t l) (λ h. stays t l)

pub emits_grows : (by : Caller) (t : ℕ) (l : Live) → Grows t l (emits by t l)
emits_grows by t l = by_going (going (endpoint l)) where
  by_going : (o : Option Going) → Grows t l (emits_where o by t l)
  by_going None = stays t l
  by_going (Some g) = call_grows by t calls.Emit [] l

-- ----- all flows
pub low_after : (t : ℕ) (ls ms : List Live) → Each (IsUpTo t) ls → AllGrew t ls ms → Each (IsUpTo t) ms
low_after t [] [] low a = tt
low_after t [] (m ∷ ms) low a = (grew_low t [] m.flow.entries (omega arith) a.0, low_after t [] ms tt a.1)
low_after t (l ∷ ls) [] low a = absurd a
low_after t (l ∷ ls) (m ∷ ms) low a = (grew_low t l.flow.entries m.flow.entries low.0 a.0, low_after t ls ms low.1 a.1)

pub all_stay : (t : ℕ) (ls : List Live) → AllGrew t ls ls
all_stay t [] = tt
all_stay t (l ∷ ls) = (grew_none t l.flow.entries, all_stay t ls)

pub all_both : (t : ℕ) (ls ms ps : List Live) → AllGrew t ls ms → AllGrew t ms ps → AllGrew t ls ps
all_both t [] [] [] a b = tt
all_both t [] [] (p ∷ ps) a b = b
all_both t [] (m ∷ ms) [] a b = absurd b
all_both t [] (m ∷ ms) (p ∷ ps) a b = (
  grew_both t [] m.flow.entries p.flow.entries a.0 b.0,
  all_both t [] ms ps a.1 b.1,
)
all_both t (l ∷ ls) [] ps a b = absurd a
all_both t (l ∷ ls) (m ∷ ms) [] a b = absurd b
all_both t (l ∷ ls) (m ∷ ms) (p ∷ ps) a b =
    (grew_both t l.flow.entries m.flow.entries p.flow.entries a.0 b.0, all_both t ls ms ps a.1 b.1)

pub map_grows : (t : ℕ) (f : Live → Live) → ((l : Live) → Grows t l (f l)) → (ls : List Live) → Each (IsUpTo t) ls
    → AllGrew t ls (map f ls)
map_grows t f each [] low = tt
map_grows t f each (l ∷ ls) low = (each l low.0, map_grows t f each ls low.1)

pub first_grows : (t : ℕ) (test : Live → Bool) (f : Live → Live) → ((l : Live) → Grows t l (f l)) → (ls : List Live)
    → Each (IsUpTo t) ls → AllGrew t ls (change_first test f ls)
first_grows t test f each [] low = tt
first_grows t test f each (l ∷ ls) low = by_test (test l) (first_grows t test f each ls low.1) where
  by_test : (b : Bool) → AllGrew t ls (change_first test f ls)
      → AllGrew t (l ∷ ls) (elim b [ true ↦ f l ∷ ls | false ↦ l ∷ change_first test f ls ])
  by_test true rest = (each l low.0, all_stay t ls)
  by_test false rest = (grew_none t l.flow.entries, rest)

pub at_grows : (t n : ℕ) (f : Live → Live) → ((l : Live) → Grows t l (f l)) → (ls : List Live) → Each (IsUpTo t) ls
    → AllGrew t ls (change_at n f ls)
at_grows t n f each [] low = tt
at_grows t zero f each (l ∷ ls) low = (each l low.0, all_stay t ls)
at_grows t (suc n) f each (l ∷ ls) low = (grew_none t l.flow.entries, at_grows t n f each ls low.1)

pub push_grows : (t : ℕ) (ls : List Live) (m : Live) → Grew t [] m.flow.entries → AllGrew t ls (ls ++ m ∷ [])
push_grows t [] m a = (a, tt)
push_grows t (l ∷ ls) m a = (grew_none t l.flow.entries, push_grows t ls m a)
