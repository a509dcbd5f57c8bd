-- Applications after a phase, lane by lane: for the law phases_keep_it.
use Rattle.std.proofs.Common.{◌≡◌, ℕ, suc, ◌+◌, List, [], ◌∷◌, ◌++◌, refl, sym, ap, ◌∙◌, subst}
use Rattle.std.proofs.Common.{arith, append_assoc}
use Rattle.std.specs.Prelude.{Result, Ok, Err}
use Rattle.atomic_table.specs.Seated.{TableId}
use Rattle.tas_model.specs.declared.entry.FlowId.{FlowId}
use Rattle.host_rounds.specs.Lists.{Each}
use Rattle.flow_lock.specs.Orders.{Order, total, at_slot}
use Rattle.flow_lock.specs.Passes.{new_turn}
use Rattle.flow_lock.specs.Steps.{without}
use Rattle.flow_lock.specs.declared.view.View.{View}
use Rattle.libtas_sockets.specs.Apps.{Application, IsSocket, flow_of, with_view, without_socket}
use Rattle.libtas_sockets.specs.Calling.{after_close, after_abort}
use Rattle.libtas_sockets.specs.declared.socket.Socket.{Socket}
use Rattle.libtas_sockets.specs.declared.socket_error.SocketError.{SocketError}
use Rattle.libtas_sockets.specs.declared.socket_error.SocketError.TheVariants as errors
use Rattle.app_deeds.specs.Deeds.{left_by_close, left_by_abort}
use Rattle.core_phase.specs.Attempts.{HasTried, MayTry, pin_left}
use Rattle.core_phase.specs.Lanes.{HasPlayed, MayPlay, pins_left, with_turns_of}
use Rattle.core_phase.specs.Phases.{IsPart, AreParts, left_on}
use Rattle.core_phase.specs.declared.attempt.Attempt.{Attempt}
use Rattle.core_phase.specs.declared.attempt.Attempt.TheVariants as attempts
use Rattle.core_phase.specs.declared.attempt.Answered.{Answered}
use Rattle.core_phase.specs.declared.lane.AppLane.{AppLane}
use Rattle.core_phase.specs.declared.lane.Lane.{Lane}
use Rattle.core_phase.specs.declared.lane.Lane.TheVariants as lanes
use Rattle.host_books.specs.Books.{Book}
use Rattle.sound_hosts.specs.Leaving.{HasLeft, books_left}
use Rattle.sound_hosts.specs.Sound.{IsApp}
use Rattle.sound_hosts.proofs.Leaving.{AreRight, left_right, socket_had, socket_slot, flow_had}
use Rattle.sound_phases.specs.Phased.{apps_in, books_after}
use Rattle.sound_phases.proofs.Deeds.{TriesHad, LaneHas}

-- ----- what a try leaves of its application
module _ (s : Socket) (u : View) (none : u.turns ≡ []) where
  same_left : (a b : Application) → b ≡ with_view b.pass.view a → HasLeft [] a (with_view u b)
  same_left a b e = record {
    number = ap (λ (x : Application). x.number) e;
    own = ap (λ (x : Application). x.pass.table) e;
    turns = none;
    begun = ap (λ (x : Application). x.begun) e;
    sockets = ap (λ (x : Application). x.sockets) e;
    had = tt;
  }

  socket_left : (a m b : Application) → IsSocket a s → m ≡ with_view m.pass.view a → b ≡ without_socket s m
      → HasLeft (flow_of a s ∷ []) a (with_view u b)
  socket_left a m b there e left = record {
    number = ap (λ (x : Application). x.number) left ∙ ap (λ (x : Application). x.number) e;
    own = ap (λ (x : Application). x.pass.table) left ∙ ap (λ (x : Application). x.pass.table) e;
    turns = none;
    begun = ap (λ (x : Application). x.begun) left ∙ ap (λ (x : Application). x.begun) e;
    sockets = ap (λ (x : Application). x.sockets) left
        ∙ (ap (λ (x : Application). without s.0 x.sockets) e
        ∙ ap (λ k. without k a.sockets) (sym (socket_slot s.0 a.sockets)));
    had = (socket_had s.0 a.sockets there, tt);
  }

  error_left : (a m b : Application) → m ≡ with_view m.pass.view a → b ≡ m → HasLeft [] a (with_view u b)
  error_left a m b e left = same_left a b (left ∙ (e ∙ ap (λ (y : Application). with_view y.pass.view a) (sym left)))

  close_left : {T : Type 0} (result : Result T SocketError) (a m b : Application) → IsSocket a s
      → m ≡ with_view m.pass.view a → b ≡ after_close result s m
      → HasLeft (left_by_close result (flow_of a s)) a (with_view u b)
  close_left (Ok x) a m b there e left = socket_left a m b there e left
  close_left (Err x) a m b there e left = error_left a m b e left

  abort_left : {T : Type 0} (result : Result T SocketError) (a m b : Application) → IsSocket a s
      → m ≡ with_view m.pass.view a → b ≡ after_abort result s m
      → HasLeft (left_by_abort result (flow_of a s)) a (with_view u b)
  abort_left (Ok x) a m b there e left = socket_left a m b there e left
  abort_left (Err (errors.Closed x)) a m b there e left = socket_left a m b there e left
  abort_left (Err errors.NotYet) a m b there e left = error_left a m b e left
  abort_left (Err errors.NotOpen) a m b there e left = error_left a m b e left
  abort_left (Err errors.Shut) a m b there e left = error_left a m b e left
  abort_left (Err (errors.Busy x)) a m b there e left = error_left a m b e left
  abort_left (Err (errors.Stale x)) a m b there e left = error_left a m b e left
  abort_left (Err (errors.Moved x y)) a m b there e left = error_left a m b e left
  abort_left (Err (errors.Early x)) a m b there e left = error_left a m b e left
  abort_left (Err (errors.SlotInUse x)) a m b there e left = error_left a m b e left
  abort_left (Err (errors.PortInUse x)) a m b there e left = error_left a m b e left
  abort_left (Err errors.NoPort) a m b there e left = error_left a m b e left
  abort_left (Err errors.NoFlowSlot) a m b there e left = error_left a m b e left
  abort_left (Err errors.OutOfMemory) a m b there e left = error_left a m b e left

  pub try_left : (tick : ℕ) (a b : Application) (before after : Attempt) (answer : Answered) → MayTry a s before
      → HasTried s tick a b before after answer → HasLeft (pin_left (flow_of a s) before answer) a (with_view u b)
  try_left tick a b attempts.Nothing after answer may (e, is) =
      same_left a b (e ∙ ap (λ (y : Application). with_view y.pass.view a) (sym e))
  try_left tick a b (attempts.Send bytes) after answer may (offered, now, result, is, h) = same_left a b h.1
  try_left tick a b (attempts.Recv buf) after answer may (result, is, h) = same_left a b h.1
  try_left tick a b attempts.Shut after answer may (result, is, h) = same_left a b h.1
  try_left tick a b attempts.Close after answer may (result, is, m, h, e) =
      subst (λ (x : Answered). HasLeft (pin_left (flow_of a s) attempts.Close x) a (with_view u b)) (sym is)
      (close_left result a m b may h.1 e)
  try_left tick a b attempts.Abort after answer may (result, is, m, h, e) =
      subst (λ (x : Answered). HasLeft (pin_left (flow_of a s) attempts.Abort x) a (with_view u b)) (sym is)
      (abort_left result a m b may h.1 e)

-- ----- lanes
lane_is : (x y : AppLane) → lanes.App x ≡ lanes.App y → x ≡ y
lane_is x y e = cc (e)

app_left : (order : Order) (p : ℕ) (v w : AppLane) → MayPlay (lanes.App v)
    → IsPart order p (lanes.App v) (lanes.App w)
    → HasLeft (pins_left (lanes.App v) (lanes.App w)) v.app w.app
app_left order p v w may part = by part.after part.did part.back
  where
    by : (after : Lane) → HasPlayed (with_turns_of (new_turn p ∷ []) (lanes.App v)) after
        → lanes.App w ≡ with_turns_of [] after
        → HasLeft (pin_left (flow_of v.app v.socket) v.attempt w.answer) v.app w.app
    by (lanes.Core m) did back = absurd did
    by (lanes.App m) did back =
        let u : View = record (m.app.pass.view) { turns = [] } in
        let is : w ≡ record m { app = with_view u m.app } = lane_is w (record m { app = with_view u m.app }) back in
        subst (λ (x : AppLane). HasLeft (pin_left (flow_of v.app v.socket) v.attempt x.answer) v.app x.app) (sym is)
        (of_ready m.app m.answer u refl (try_left v.socket u refl v.tick (with_view
        (record (v.app.pass.view) { turns = new_turn p ∷ [] }) v.app) m.app v.attempt m.attempt m.answer
        may.0 did.tried))
      where
        -- the turn that it was lent is no part of it
        of_ready : (b : Application) (answer : Answered) (u : View) → u.turns ≡ []
            → HasLeft (pin_left (flow_of v.app v.socket) v.attempt answer)
            (with_view (record (v.app.pass.view) { turns = new_turn p ∷ [] }) v.app) (with_view u b)
            → HasLeft (pin_left (flow_of v.app v.socket) v.attempt answer) v.app (with_view u b)
        of_ready b answer u none left = record {
          number = left.number;
          own = left.own;
          turns = left.turns;
          begun = left.begun;
          sockets = left.sockets;
          had = left.had;
        }

-- ----- all lanes
module _ (table : TableId) (generation : ℕ → ℕ) (order : Order) where
  pub lanes_right : (p : ℕ) (vs ws : List Lane) (front : List Application) (pins pins' : ℕ → ℕ) (bs : List Book)
      → AreParts order p vs ws → Each MayPlay vs → ((i : ℕ) → pins' i + left_on i vs ws ≡ pins i)
      → AreRight table generation pins bs (front ++ apps_in vs)
      → AreRight table generation pins' (books_after vs ws bs) (front ++ apps_in ws)
  lanes_right p [] ws front pins pins' bs parts may less right =
      subst (λ (ls : List Lane). AreRight table generation pins' bs (front ++ apps_in ls)) (sym parts)
      (subst (λ (q : ℕ → ℕ). AreRight table generation q bs (front ++ [])) (λ j i. same i j) right)
    where
      same : (i : ℕ) → pins i ≡ pins' i
      same i = let l : pins' i + 0 ≡ pins i = less i in omega (arith, l)
  lanes_right p (v ∷ vs) [] front pins pins' bs parts may less right = absurd parts
  lanes_right p (lanes.Core v ∷ vs) (lanes.Core w ∷ ws) front pins pins' bs parts may less right =
      lanes_right (suc p) vs ws front pins pins' bs parts.1 may.1 (λ i. cores i) right
    where
      cores : (i : ℕ) → pins' i + left_on i vs ws ≡ pins i
      cores i = let l : pins' i + (0 + left_on i vs ws) ≡ pins i = less i in omega (arith, l)
  lanes_right p (lanes.Core v ∷ vs) (lanes.App w ∷ ws) front pins pins' bs parts may less right =
      absurd parts.0.deeds
  lanes_right p (lanes.App v ∷ vs) (lanes.Core w ∷ ws) front pins pins' bs parts may less right =
      absurd parts.0.deeds
  lanes_right p (lanes.App v ∷ vs) (lanes.App w ∷ ws) front pins pins' bs parts may less right =
      let ids : List FlowId = pins_left (lanes.App v) (lanes.App w) in
      subst (λ (xs : List Application).
      AreRight table generation pins' (books_after vs ws (books_left v.app.number ids bs)) xs)
      (append_assoc front (w.app ∷ []) (apps_in ws))
      (lanes_right (suc p) vs ws (front ++ w.app ∷ []) (λ i. pins' i + left_on i vs ws) pins'
      (books_left v.app.number ids bs) parts.1 may.1 (λ i. refl)
      (subst (λ (xs : List Application).
      AreRight table generation (λ i. pins' i + left_on i vs ws) (books_left v.app.number ids bs) xs)
      (sym (append_assoc front (w.app ∷ []) (apps_in vs)))
      (left_right table generation front (apps_in vs) ids pins (λ i. pins' i + left_on i vs ws) bs v.app w.app right
      (app_left order p v w may.0 parts.0) mid)))
    where
      mid : (i : ℕ) → (pins' i + left_on i vs ws) + total (at_slot i) (pins_left (lanes.App v) (lanes.App w)) ≡ pins i
      mid i =
          let l : pins' i + (total (at_slot i) (pins_left (lanes.App v) (lanes.App w)) + left_on i vs ws) ≡ pins i =
          less i in
          omega (arith, l)

-- ----- what is tried is tried on flows of the host
module _ (table : TableId) (bs : List Book) where
  tries_had : (a : Application) (s : Socket) (before : Attempt) → IsApp table bs a → MayTry a s before
      → TriesHad bs (flow_of a s) before
  tries_had a s attempts.Nothing app may = tt
  tries_had a s (attempts.Send bytes) app may =
      (a.number, flow_had table bs a (flow_of a s) app (socket_had s.0 a.sockets may.0))
  tries_had a s (attempts.Recv buf) app may =
      (a.number, flow_had table bs a (flow_of a s) app (socket_had s.0 a.sockets may.0))
  tries_had a s attempts.Shut app may =
      (a.number, flow_had table bs a (flow_of a s) app (socket_had s.0 a.sockets may))
  tries_had a s attempts.Close app may =
      (a.number, flow_had table bs a (flow_of a s) app (socket_had s.0 a.sockets may))
  tries_had a s attempts.Abort app may =
      (a.number, flow_had table bs a (flow_of a s) app (socket_had s.0 a.sockets may))

  pub lanes_had : (ls : List Lane) → Each (IsApp table bs) (apps_in ls) → Each MayPlay ls → Each (LaneHas bs) ls
  lanes_had [] apps may = tt
  lanes_had (lanes.Core l ∷ ls) apps may = (tt, lanes_had ls apps may.1)
  lanes_had (lanes.App l ∷ ls) apps may =
      (tries_had l.app l.socket l.attempt apps.0 may.0.0, lanes_had ls apps.1 may.1)
