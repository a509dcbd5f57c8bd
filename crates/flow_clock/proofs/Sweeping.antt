-- Doomed flows are tried again, one after the other.
use Rattle.std.proofs.Common.{◌≡◌, ℕ, suc, ◌+◌, ◌<◌, List, [], ◌∷◌, ◌++◌, ap, sym, ◌∙◌, refl, arith, subst, length}
use Rattle.std.proofs.Common.{append_assoc, append-nil}
use Rattle.std.specs.Prelude.{Some, slice_get, remove, drop}
use Rattle.atomic_table.specs.Seated.{TableId}
use Rattle.tas_model.specs.declared.entry.FlowId.{FlowId}
use Rattle.flow_index.specs.declared.change.Change.{Change}
use Rattle.core_worker.specs.declared.kicks.Kick.{Kick}
use Rattle.slow_handshake.specs.Openings.{Openings}
use Rattle.flow_lock.specs.Passes.{Seen}
use Rattle.flow_state.specs.Flow.{Flow}
use Rattle.app_reaper.specs.declared.sweeping.Swept.{Swept}
use Rattle.app_reaper.specs.declared.sweeping.Swept.TheVariants.{Freed, Pinned}
use Rattle.app_reaper.proofs.Walking.{front, same_pin, no_pins}
use Rattle.flow_clock.specs.Ledgers.{ledger, IsReady, KeepsRights, AreKept}
use Rattle.flow_clock.proofs.Chains.{one_more}
use Rattle.flow_clock.proofs.Keeping.{no_step, two_steps}
use Rattle.flow_clock.specs.Walks.{doomed_with, IsSwept, WasSweptAgain, AreSweptAgain, IsSweepStopped}

-- What holds between two doomed flows: `done` were tried, and those of them that others still have pins of stand behind
-- those that are left.
pub record Sweeping (t : TableId) (s₀ : Seen) (doomed₀ : List FlowId) (filed₀ : List Flow) (s : Seen)
    (doomed : List FlowId) (filed : List Flow) (count : ℕ) : Type 0 where
  pub done : List FlowId
  pub left : List FlowId
  pub tried : List FlowId
  pub all : doomed₀ ≡ done ++ left
  pub now : doomed ≡ left ++ tried
  pub long : length left ≡ count
  pub swept : (pins : List FlowId) (changes : List Change) (kicks : List Kick) (path : Openings)
      → AreSweptAgain done (ledger s₀.view pins [] filed₀ changes kicks path)
      (ledger s.view pins tried filed changes kicks path)
  pub ready : IsReady t s
  pub rights : KeepsRights s₀.view s.view
  pub kept : (pins : List FlowId) → AreKept t.slots s₀ doomed₀ pins → AreKept t.slots s doomed pins

pub sweeping_begins : (t : TableId) (s : Seen) (doomed : List FlowId) (filed : List Flow) → IsReady t s
    → Sweeping t s doomed filed s doomed filed (length doomed)
sweeping_begins t s doomed filed ready = record {
  done = [];
  left = doomed;
  tried = [];
  all = refl;
  now = sym (append-nil doomed);
  long = refl;
  swept = λ pins changes kicks path. refl;
  ready = ready;
  rights = no_step s.view;
  kept = λ pins is. is;
}

doomed_behind : (f : FlowId) (a : Swept) (xs ys : List FlowId)
    → doomed_with f a (xs ++ ys) ≡ xs ++ doomed_with f a ys
doomed_behind f Freed xs ys = refl
doomed_behind f (Pinned n pin) xs ys = append_assoc xs ys (f ∷ [])

first_of : (left tried : List FlowId) (g : FlowId) (n : ℕ) → length left ≡ n → 0 < n
    → slice_get (left ++ tried) 0 ≡ Some g → left ≡ g ∷ drop 1 left
first_of [] tried g n long more q = absurd (omega (arith, long, more))
first_of (x ∷ xs) tried g n long more q = ap (λ y. y ∷ xs) (same_pin x g q)

pub sweeping_more : (t : TableId) (s₀ : Seen) (doomed₀ : List FlowId) (filed₀ : List Flow) (s n : Seen)
    (doomed rest doomed' : List FlowId) (filed filed' : List Flow) (count count' : ℕ) (f : FlowId)
    → Sweeping t s₀ doomed₀ filed₀ s doomed filed count → 0 < count → count ≡ count' + 1
    → slice_get doomed 0 ≡ Some f → rest ≡ remove doomed 0
    → IsSwept f s.view n.view filed filed' rest doomed' → IsReady t n → KeepsRights s.view n.view
    → ((pins : List FlowId) → AreKept t.slots s (f ∷ rest) pins → AreKept t.slots n doomed' pins)
    → Sweeping t s₀ doomed₀ filed₀ n doomed' filed' count'
sweeping_more t s₀ doomed₀ filed₀ s n doomed rest doomed' filed filed' count count' f is more less q gone w ready rights
    keeps =
    let here : slice_get (is.left ++ is.tried) 0 ≡ Some f = subst (λ l. slice_get l 0 ≡ Some f) is.now q in
    let first : is.left ≡ f ∷ drop 1 is.left = first_of is.left is.tried f count is.long more here in
    let behind : rest ≡ drop 1 is.left ++ is.tried =
    gone ∙ (ap (λ l. remove l 0) is.now ∙ ap (λ l. remove (l ++ is.tried) 0) first) in
    let tried : List FlowId = doomed_with f w.swept is.tried in
    let one : length is.left ≡ suc (length (drop 1 is.left)) = ap (λ (l : List FlowId). length l) first in
    let long : length (drop 1 is.left) ≡ count' = let l = is.long in omega arith in
    let all : doomed ≡ f ∷ rest = front doomed f q ∙ ap (λ l. f ∷ l) (sym gone) in
    record {
      done = is.done ++ f ∷ [];
      left = drop 1 is.left;
      tried = tried;
      all = is.all ∙ (ap (λ l. is.done ++ l) first ∙ sym (append_assoc is.done (f ∷ []) (drop 1 is.left)));
      now = w.waiting ∙ (ap (doomed_with f w.swept) behind ∙ doomed_behind f w.swept (drop 1 is.left) is.tried);
      long = long;
      swept = λ pins changes kicks path.
          one_more WasSweptAgain is.done f (ledger s₀.view pins [] filed₀ changes kicks path)
          (ledger s.view pins is.tried filed changes kicks path) (ledger n.view pins tried filed' changes kicks path)
          (is.swept pins changes kicks path)
          (record {
            swept = record { swept = w.swept; sweep = w.sweep; filing = w.filing; waiting = refl };
            rest = refl;
          });
      ready = ready;
      rights = two_steps s₀.view s.view n.view is.rights rights;
      kept = λ pins k. keeps pins (subst (λ l. AreKept t.slots s l pins) all (is.kept pins k));
    }

pub sweeping_ends : (t : TableId) (s₀ : Seen) (doomed₀ : List FlowId) (filed₀ : List Flow) (s : Seen)
    (doomed : List FlowId) (filed : List Flow) (count : ℕ) (pins : List FlowId) (changes : List Change)
    (kicks : List Kick) (path : Openings) → Sweeping t s₀ doomed₀ filed₀ s doomed filed count → count ≡ 0
    → AreSweptAgain doomed₀ (ledger s₀.view pins [] filed₀ changes kicks path)
    (ledger s.view pins doomed filed changes kicks path)
sweeping_ends t s₀ doomed₀ filed₀ s doomed filed count pins changes kicks path is none =
    let left : is.left ≡ [] = no_pins is.left (is.long ∙ none) in
    let all : doomed₀ ≡ is.done = is.all ∙ (ap (λ l. is.done ++ l) left ∙ append-nil is.done) in
    let now : doomed ≡ is.tried = is.now ∙ ap (λ l. l ++ is.tried) left in
    let end = is.swept pins changes kicks path in
    subst (λ l. AreSweptAgain l (ledger s₀.view pins [] filed₀ changes kicks path)
    (ledger s.view pins doomed filed changes kicks path)) (sym all)
    (subst (λ l. AreSweptAgain is.done (ledger s₀.view pins [] filed₀ changes kicks path)
    (ledger s.view pins l filed changes kicks path)) (sym now) end)

pub sweeping_stops : (t : TableId) (s₀ : Seen) (doomed₀ : List FlowId) (filed₀ : List Flow) (s : Seen)
    (doomed : List FlowId) (filed filed' : List Flow) (count : ℕ) (pins : List FlowId) (changes : List Change)
    (kicks : List Kick) (path : Openings) → Sweeping t s₀ doomed₀ filed₀ s doomed filed count → filed' ≡ filed
    → IsSweepStopped (ledger s₀.view pins doomed₀ filed₀ changes kicks path)
    (ledger s.view pins doomed filed' changes kicks path)
sweeping_stops t s₀ doomed₀ filed₀ s doomed filed filed' count pins changes kicks path is same = record {
  done = is.done;
  left = is.left;
  all = is.all;
  after = ledger s.view pins is.tried filed changes kicks path;
  swept = is.swept pins changes kicks path;
  rest = ap (λ l. ledger s.view pins l filed' changes kicks path) is.now
      ∙ ap (λ l. ledger s.view pins (is.left ++ is.tried) l changes kicks path) same;
}
