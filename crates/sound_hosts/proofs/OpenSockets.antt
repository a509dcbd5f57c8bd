-- The flows of an application's sockets are open: for the law no_call_finds_its_slot_in_use.
use Rattle.std.proofs.Common.{◌≡◌, ℕ, zero, suc, ◌&&◌, not, cond, Bool, true, false, List, [], ◌∷◌, map, refl, sym}
use Rattle.std.proofs.Common.{ap, ◌∙◌}
use Rattle.std.proofs.Common.{subst, All, Some, Option, slice_get, eqb, eq-eqb, true≢false}
use Rattle.std.specs.List.{filter}
use Rattle.std.proofs.lemmas.List.Elements.{All-nil, All-cons, All-head, All-tail}
use Rattle.std.proofs.lemmas.List.Sorted.{All-permutation, IsPermutation-sym}
use mathlib.Core.Option as O
use mathlib.Core.Option.{some-injective, some-ne-none}
use lib.ListN.{get_elem?}
use Rattle.tas_model.specs.declared.entry.FlowId.{FlowId}
use Rattle.host_rounds.specs.Hosts.{Holder, Waiting, Application, GivenUp, is_held_by, is_waiting_by}
use Rattle.host_rounds.specs.Lists.{Each}
use Rattle.flow_lock.specs.Answers.{is_open_in}
use Rattle.flow_lock.specs.Steps.{mark, mark_at}
use Rattle.flow_lock.specs.declared.view.Mark.{Mark}
use Rattle.flow_clock.specs.Ledgers.{IsKept}
use Rattle.libtas_sockets.specs.Apps as libtas
use Rattle.libtas_sockets.specs.Connecting.{AreOpen}
use Rattle.host_books.specs.Books.{Book}
use Rattle.sound_hosts.specs.Hosts.{CoreHost, id_of, is_indexed, is_doomed, is_holder, is_held_of}
use Rattle.sound_hosts.specs.Sound.{IsHostSound, IsApp, HasHolder}

-- ----- marks
pub mark_here : (ms : List Mark) (i : ℕ) (m : Mark) → get_elem? ms i ≡ O.some m → mark_at ms i ≡ m
mark_here [] i m e = absurd (some-ne-none m (sym e))
mark_here (x ∷ xs) zero m e = some-injective x m e
mark_here (x ∷ xs) (suc i) m e = mark_here xs i m e

owner_open : (ms : List Mark) (f : FlowId) (d : Bool) → get_elem? ms f.slot ≡ O.some (mark f.generation true d)
    → is_open_in ms f ≡ true
owner_open ms f d e =
    ap (λ (m : Mark). m.live && eqb m.generation f.generation) (mark_here ms f.slot (mark f.generation true d) e)
    ∙ eq-eqb f.generation f.generation refl

-- ----- lists
module _ {X : Type 0} (P : X → Type 0) where
  pub each_all : (xs : List X) → Each P xs → All P xs
  each_all [] each = All-nil P
  each_all (x ∷ xs) each = All-cons P x xs each.0 (each_all xs each.1)

  pub all_each : (xs : List X) → All P xs → Each P xs
  all_each [] all = tt
  all_each (x ∷ xs) all = (All-head P x xs all, all_each xs (All-tail P x xs all))

  pub each_at : (xs : List X) (n : ℕ) (x : X) → Each P xs → slice_get xs n ≡ Some x → P x
  each_at [] n x each e = absurd (cc e)
  each_at (y ∷ ys) zero x each e = subst P (same y x e) each.0
    where
      same : (a b : X) → ◌≡◌ {A = Option X} (Some a) (Some b) → a ≡ b
      same a b q = cc q
  each_at (y ∷ ys) (suc n) x each e = each_at ys n x each.1 e

module _ (P : FlowId → Type 0) (test : Book → Bool) where
  abbrev IsSo : Book → Type 0
  IsSo b = test b ≡ true → P b.id

  -- what holds of the names of those that pass
  pub of_filtered : (bs : List Book) → Each P (map id_of (filter test bs)) → Each IsSo bs
  of_filtered [] each = tt
  of_filtered (b ∷ bs) each = by (test b) refl each (of_filtered bs)
    where
      by : (c : Bool) → test b ≡ c
          → Each P (map id_of (cond c (b ∷ filter test bs) (filter test bs)))
          → (Each P (map id_of (filter test bs)) → Each IsSo bs)
          → Each IsSo (b ∷ bs)
      by true e each rest = (λ t. each.0, rest each.1)
      by false e each rest = (λ t. absurd (true≢false (sym t ∙ e)), rest each)

  pub to_filtered : (bs : List Book) → Each IsSo bs → Each P (map id_of (filter test bs))
  to_filtered [] each = tt
  to_filtered (b ∷ bs) each = by (test b) refl (to_filtered bs each.1)
    where
      by : (c : Bool) → test b ≡ c → Each P (map id_of (filter test bs))
          → Each P (map id_of (cond c (b ∷ filter test bs) (filter test bs)))
      by true e rest = (each.0 e, rest)
      by false e rest = rest

-- ----- the flows of a sound host
module _ (h : CoreHost) (sound : IsHostSound h) where
  abbrev IsOpen : FlowId → Type 0
  IsOpen f = is_open_in h.slow.pass.view.marks f ≡ true

  kept_open : (f : FlowId) → IsKept h.table.slots h.slow.pass f → IsOpen f
  kept_open f kept = owner_open h.slow.pass.view.marks f kept.0.1.0 kept.0.1.1

  each_open : (fs : List FlowId) → Each (IsKept h.table.slots h.slow.pass) fs → Each IsOpen fs
  each_open [] each = tt
  each_open (f ∷ fs) each = (kept_open f each.0, each_open fs each.1)

  indexed_open : Each (λ (b : Book). is_indexed b ≡ true → IsOpen b.id) h.books
  indexed_open =
      of_filtered IsOpen is_indexed h.books
      (subst (Each IsOpen) sound.kept.pins (each_open h.slow.pins sound.sound.0.owned.each_pin))

  doomed_open : Each (λ (b : Book). is_doomed b ≡ true → IsOpen b.id) h.books
  doomed_open =
      of_filtered IsOpen is_doomed h.books
      (all_each IsOpen (map id_of (filter is_doomed h.books))
      (All-permutation IsOpen h.slow.doomed (map id_of (filter is_doomed h.books)) sound.kept.doomed
      (each_all IsOpen h.slow.doomed (each_open h.slow.doomed sound.sound.0.owned.each_doomed))))

  -- a flow whose record stands is open
  open_by : (i f : Bool) (id : FlowId) → (i ≡ true → IsOpen id) → ((not i && not f) ≡ true → IsOpen id)
      → f ≡ false → IsOpen id
  open_by true f id x y e = x refl
  open_by false f id x y e = y (ap not e)

  standing_open : (bs : List Book) → Each (λ (b : Book). is_indexed b ≡ true → IsOpen b.id) bs
      → Each (λ (b : Book). is_doomed b ≡ true → IsOpen b.id) bs → Each (λ (b : Book). b.filed ≡ false → IsOpen b.id) bs
  standing_open [] x y = tt
  standing_open (b ∷ bs) x y = (λ e. open_by b.indexed b.filed b.id x.0 y.0 e, standing_open bs x.1 y.1)

  pub standing : Each (λ (b : Book). b.filed ≡ false → IsOpen b.id) h.books
  standing = standing_open h.books indexed_open doomed_open

  held_by : (n : ℕ) (x : Holder) → is_holder n x ≡ true → is_held_by x ≡ true
  held_by n Waiting e = e
  held_by n (Application m) e = refl
  held_by n GivenUp e = e

  held_open : (n : ℕ) (bs : List Book) → Each (λ (b : Book). b.filed ≡ false → IsOpen b.id) bs
      → Each (HasHolder h.apps) bs → Each (λ (b : Book). is_held_of n b ≡ true → IsOpen b.id) bs
  held_open n [] x y = tt
  held_open n (b ∷ bs) x y = (λ e. x.0 (y.0 (held_by n b.holder e)).1, held_open n bs x.1 y.1)

  pub sockets_open : (n : ℕ) (a : libtas.Application) → slice_get h.apps n ≡ Some a
      → AreOpen h.slow.pass.view.marks a
  sockets_open n a at =
      let app : IsApp h.table h.books a = each_at (IsApp h.table h.books) h.apps n a sound.apps at in
      let names : List FlowId = map id_of (filter (is_held_of a.number) h.books) in
      All-permutation IsOpen names a.sockets (IsPermutation-sym a.sockets names app.sockets)
      (each_all IsOpen names
      (to_filtered IsOpen (is_held_of a.number) h.books (held_open a.number h.books standing sound.holders)))

-- ----- a flow that waits for Accept
pub not_held : (n : ℕ) (x : Holder) → is_waiting_by x ≡ true → is_holder n x ≡ false
not_held n Waiting e = refl
not_held n (Application m) e = absurd (true≢false (sym e))
not_held n GivenUp e = refl

pub and_both : (a b : Bool) → (a && b) ≡ true → (a ≡ true) × (b ≡ true)
and_both true b e = (refl, e)
and_both false b e = absurd (true≢false (sym e))

pub not_true : (b : Bool) → not b ≡ true → b ≡ false
not_true true e = absurd (true≢false (sym e))
not_true false e = refl
