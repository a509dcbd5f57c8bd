-- An application that tries a call which leaves it its socket has it still after a phase.
use Rattle.std.proofs.Common.{◌≡◌, ◌<◌, ℕ, zero, suc, List, [], ◌∷◌, ap, sym, ◌∙◌, subst, arith, refl}
use Rattle.std.proofs.Common.{append-nil}
use Rattle.std.specs.Prelude.{All}
use Rattle.std.specs.Arc.{arc_value}
use Rattle.std.specs.List.{list_any}
use Rattle.app_reaper.specs.Lists.{is_on}
use Rattle.atomic_table.specs.Seated.{TableId}
use Rattle.tas_model.specs.declared.entry.FlowId.{FlowId}
use Rattle.flow_lock.specs.Orders.{Order}
use Rattle.flow_lock.specs.Passes.{Seen, new_turn}
use Rattle.flow_lock.specs.Answers.{IsTaken, Holds}
use Rattle.flow_lock.specs.Histories.{longer}
use Rattle.flow_lock.specs.Steps.{IsAlone, noted, added, gave}
use Rattle.flow_lock.specs.declared.view.History.{History}
use lib.ListN.{get_elem?}
use Rattle.flow_lock.specs.declared.view.Held.{Held}
use Rattle.flow_lock.specs.declared.view.View.{View}
use Rattle.libtas_sockets.specs.Apps.{Application, IsSocket}
use Rattle.libtas_sockets.specs.declared.socket.Socket.{Socket}
use Rattle.core_phase.specs.Attempts.{HasTried}
use Rattle.core_phase.specs.Lanes.{HasPlayed, IsIdle, MayPlay, with_turns_of}
use Rattle.core_phase.specs.Phases.{AreParts, IsPhase}
use Rattle.core_phase.specs.declared.attempt.Attempt.{Attempt}
use Rattle.core_phase.specs.declared.attempt.Attempt.TheVariants as attempts
use Rattle.core_phase.specs.declared.attempt.Answered.{Answered}
use Rattle.core_phase.specs.declared.lane.AppLane.{AppLane}
use Rattle.core_phase.specs.declared.lane.Lane.{Lane}
use Rattle.core_phase.specs.declared.lane.Lane.TheVariants as lanes
use Rattle.host_rounds.specs.Lists.{Each}
use Rattle.core_worker.specs.Workers.{Common}
use Rattle.phase_tests.specs.Hosts.{KeepsSocket, HasSocket, IsTalking, IsReadyLane, IsBetween, AreReady, AreBetween}
use Rattle.phase_tests.specs.Hosts.{IsPlayedBy, IsReadyHost, IsPlayedHost}
use Rattle.phase_tests.specs.Hosts as hosts
use Rattle.phase_tests.specs.declared.hosts.Host.{Host}
use Rattle.phase_tests.specs.Resting.{IsRested}

-- ----- lists
pub all_of : {X : Type 0} (P : X → Type 0) (xs : List X) → Each P xs → All P xs
all_of P [] each k d near = absurd (omega (arith, near))
all_of P (x ∷ xs) each zero d near = each.0
all_of P (x ∷ xs) each (suc k) d near = all_of P xs each.1 k d (omega (arith, near))

pub each_of : {X : Type 0} (P : X → Type 0) (xs : List X) → All P xs → Each P xs
each_of P [] all = tt
each_of P (x ∷ xs) all =
    (all 0 x (omega arith), each_of P xs (λ k d near. all (suc k) d (omega (arith, near))))

each_map : {X : Type 0} (P Q : X → Type 0) (xs : List X) → ((x : X) → P x → Q x) → Each P xs → Each Q xs
each_map P Q [] f each = tt
each_map P Q (x ∷ xs) f each = (f x each.0, each_map P Q xs f each.1)

both_each : {X : Type 0} (P Q : X → Type 0) (xs : List X) → Each P xs → Each Q xs → Each (λ x. P x × Q x) xs
both_each P Q [] p q = tt
both_each P Q (x ∷ xs) p q = ((p.0, q.0), both_each P Q xs p.1 q.1)

-- ----- one application
-- what it tries leaves its sockets
sockets_stay : (s : Socket) (tick : ℕ) (a b : Application) (before after : Attempt) (answer : Answered)
    → HasTried s tick a b before after answer → KeepsSocket before → b.sockets ≡ a.sockets
sockets_stay s tick a b attempts.Nothing after answer h keeps = ap (λ (x : Application). x.sockets) h.0
sockets_stay s tick a b (attempts.Send bytes) after answer h keeps =
    let (offered, same, result, is, called) = h in ap (λ (x : Application). x.sockets) called.1
sockets_stay s tick a b (attempts.Recv buf) after answer h keeps =
    let (result, is, called) = h in ap (λ (x : Application). x.sockets) called.1
sockets_stay s tick a b attempts.Shut after answer h keeps =
    let (result, is, called) = h in ap (λ (x : Application). x.sockets) called.1
sockets_stay s tick a b attempts.Close after answer h keeps = absurd keeps
sockets_stay s tick a b attempts.Abort after answer h keeps = absurd keeps

-- so the lane has its socket in the turn's end
has_it : (p : ℕ) (v after : Lane) → HasPlayed (with_turns_of (new_turn p ∷ []) v) after → IsTalking v
    → HasSocket (with_turns_of [] after)
has_it p (lanes.Core v) (lanes.Core w) did talks = tt
has_it p (lanes.Core v) (lanes.App w) did talks = absurd did
has_it p (lanes.App v) (lanes.Core w) did talks = absurd did
has_it p (lanes.App v) (lanes.App w) did talks =
    let stay = sockets_stay v.socket v.tick _ w.app v.attempt w.attempt w.answer did.tried talks.1 in
    let same = ap (λ (l : AppLane). l.socket) did.same in (
      subst (λ (s : Socket). IsSocket w.app s) (sym same) (has v.app w.app v.socket stay talks.0.0),
      subst (λ h. h < 67108863) (sym (ap (λ (l : AppLane). l.host) did.same)) talks.0.1,
    )
  where
    has : (a b : Application) (s : Socket) → b.sockets ≡ a.sockets → IsSocket a s → IsSocket b s
    has a b s same is = ap (list_any (is_on s.0)) same ∙ is

-- ----- all lanes
have_them : (order : Order) (p : ℕ) (vs ws : List Lane) → AreParts order p vs ws → Each IsTalking vs
    → Each HasSocket ws
have_them order p [] ws none each = subst (Each HasSocket) (sym none) tt
have_them order p (v ∷ vs) [] parts each = absurd parts
have_them order p (v ∷ vs) (w ∷ ws) parts each =
    let part = parts.0 in (
      subst HasSocket (sym part.back) (has_it p v part.after part.did each.0),
      have_them order (suc p) vs ws parts.1 each.1,
    )

may_play : (l : Lane) → IsTalking l → MayPlay l
may_play (lanes.Core l) talks = tt
may_play (lanes.App l) talks = talks.2

pub all_idle : (c : Common) (ls : List Lane) → AreReady c ls → All (IsIdle c) ls
all_idle c ls ready = all_of (IsIdle c) ls (each_map (IsReadyLane c) (IsIdle c) ls (λ l r. r.0) ready.each)

pub all_may : (c : Common) (ls : List Lane) → AreReady c ls → All MayPlay ls
all_may c ls ready = all_of MayPlay ls (each_map (IsReadyLane c) MayPlay ls (λ l r. may_play l r.1) ready.each)

-- they are idle again after a phase, and have their sockets
pub all_between : (c : Common) (vs ws : List Lane) (v w : View) → AreReady c vs → All (IsIdle c) ws
    → IsPhase vs ws v w → AreBetween c ws
all_between c vs ws v w ready idle is = record {
  each = both_each (IsIdle c) HasSocket ws (each_of (IsIdle c) ws idle)
      (have_them is.order 0 vs ws is.parts
      (each_map (IsReadyLane c) IsTalking vs (λ l r. r.1) ready.each));
}

-- a history that grows by nothing
longer_nil : (h : History) → longer h [] ≡ h
longer_nil h = λ i. record h { entries = append-nil h.entries i }

-- ----- the slow path
pub alone_played : (v w : View) → w ≡ record v { base = w.base; words = w.words } → IsAlone v → IsAlone w
alone_played v w e alone = (
  ap (λ (x : View). x.baton) e ∙ alone.0,
  ap (λ (x : View). x.turns) e ∙ alone.1,
  ap (λ (x : View). x.made) e ∙ alone.2,
)

pub as_known : (v w : View) (b : List Held) → w ≡ record v { base = b; words = w.words }
    → w ≡ record v { base = w.base; words = w.words }
as_known v w b e = e ∙ (λ i. record v { base = sym (ap (λ (x : View). x.base) e) i; words = w.words })

-- so it rests still
pub rests_on : (t : TableId) (id : FlowId) (s n : Seen) → IsPlayedBy s n → IsRested t id s → IsRested t id n
rests_on t id s n played h = record {
  table = played.table ∙ h.table;
  alone = alone_played s.view n.view played.view h.alone;
  held = ap (λ (x : View). x.held) played.view ∙ h.held;
  pin = (h.pin.0, ap (λ (x : View). get_elem? x.pins h.pin.0) played.view ∙ h.pin.1);
}

-- ----- the record in hand
-- it was taken, the lanes played, and it was given back as it was
module _ (t : TableId) (id : FlowId) (h : History) (s u p n : Seen) (rested : IsRested t id s)
    (took : IsTaken id h s.view u.view) (table : u.table ≡ s.table) (played : IsPlayedBy u p) where
  pub taken_alone : IsAlone u.view
  taken_alone =
      let e = took.3 in (
        ap (λ (x : View). x.baton) e ∙ rested.alone.0,
        ap (λ (x : View). x.turns) e ∙ rested.alone.1,
        ap (λ (x : View). x.made) e ∙ rested.alone.2,
      )

  pub in_hand : Holds p.view id h
  in_hand = (
    record { flow = id; history = h },
    ap (λ (x : View). x.held) played.view ∙ ap (λ (x : View). x.held) took.3,
    refl,
    ([], sym (longer_nil h)),
  )

  pub given_back : n ≡ record p { view = gave id h p.view } → IsRested t id n
  given_back e =
      let v = ap (λ (x : Seen). x.view) e in
      let alone = alone_played u.view p.view played.view taken_alone in record {
        table = ap (λ (x : Seen). x.table) e ∙ (played.table ∙ (table ∙ rested.table));
        alone = (
          ap (λ (x : View). x.baton) v ∙ alone.0,
          ap (λ (x : View). x.turns) v ∙ ap (noted (added id p.view.held h) [] []) alone.1,
          ap (λ (x : View). x.made) v ∙ alone.2,
        );
        held = ap (λ (x : View). x.held) v;
        pin = (
          rested.pin.0,
          ap (λ (x : View). get_elem? x.pins rested.pin.0) v
              ∙ (ap (λ (x : View). get_elem? x.pins rested.pin.0) played.view
              ∙ (ap (λ (x : View). get_elem? x.pins rested.pin.0) took.3 ∙ rested.pin.1)),
        );
      }

-- ----- hosts
-- the host with a pass that rests, whatever else is new of it
between : (h n : Host) (g : Seen) → IsReadyHost h → n.shared ≡ h.shared → n.pin ≡ h.pin
    → AreBetween (arc_value n.shared) n.lanes.items → IsRested (arc_value h.shared).table h.pin g
    → IsPlayedHost (record n { slow = g })
between h n g is shared pin lanes rested =
    let table : (arc_value n.shared).table ≡ (arc_value h.shared).table =
    ap (λ (a : Common). a.table) (ap arc_value shared) in record {
      rested = subst (λ (t : TableId). IsRested t n.pin g) (sym table)
          (subst (λ (p : FlowId). IsRested (arc_value h.shared).table p g) (sym pin) rested);
      slot = subst (λ (t : TableId). n.pin.slot < t.slots) (sym table)
          (subst (λ (p : FlowId). p.slot < (arc_value h.shared).table.slots) (sym pin) is.slot);
      lanes = lanes;
    }

pub played_of : (h n : Host) → IsReadyHost h → hosts.HasPlayed h n → IsPlayedHost n
played_of h n is did =
    between h n n.slow is did.shared did.pin did.lanes
    (rests_on (arc_value h.shared).table h.pin h.slow n.slow did.slow is.rested)

-- the record was in hand, and was given back
pub back_of : (h n : Host) (x : History) (u g : Seen) → IsReadyHost h → IsTaken h.pin x h.slow.view u.view
    → u.table ≡ h.slow.table → hosts.HasPlayed (record h { slow = u }) n
    → g ≡ record (n.slow) { view = gave n.pin x n.slow.view } → IsPlayedHost (record n { slow = g })
back_of h n x u g is took table did e =
    between h n g is did.shared did.pin did.lanes
    (given_back (arc_value h.shared).table h.pin x h.slow u n.slow g is.rested took table did.slow
    (e ∙ (λ i. record (n.slow) { view = gave (did.pin i) x n.slow.view })))

pub held_of : (h n : Host) (x : History) (u : Seen) → IsReadyHost h → IsTaken h.pin x h.slow.view u.view
    → u.table ≡ h.slow.table → hosts.HasPlayed (record h { slow = u }) n → Holds n.slow.view n.pin x
held_of h n x u is took table did =
    subst (λ (p : FlowId). Holds n.slow.view p x) (sym did.pin)
    (in_hand (arc_value h.shared).table h.pin x h.slow u n.slow n.slow is.rested took table did.slow)
