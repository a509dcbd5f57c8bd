-- A turn, frame by frame and kick by kick.
use Rattle.std.proofs.Common.{◌≡◌, ap, sym, ◌∙◌, refl, subst, ℕ, zero, suc, ◌+◌, ◌<◌, ◌≤◌, List, [], ◌∷◌, ◌++◌}
use Rattle.std.proofs.Common.{append_assoc, append-nil, inl, inr, false, length, arith, tests}
use Rattle.std.proofs.lemmas.List.{length-append}
use Rattle.std.specs.Prelude.{Option, Some, slice_get, nat_lt, Result, Ok, Err, OnOk, OnErr}
use Rattle.tas_model.specs.declared.entry.FlowId.{FlowId}
use Rattle.flow_lock.specs.Passes.{Seen}
use Rattle.flow_lock.specs.declared.view.History.{History}
use Rattle.context_queue.specs.Notes.{Place, Receiver, HasTaken}
use Rattle.context_queue.specs.declared.note.Note.{Note}
use Rattle.core_worker.specs.Workers.{Common, Worker, Sight, sight_of, with_sight, with_pass, with_kicks}
use Rattle.core_worker.specs.Workers.{IsFree, HasQueue}
use Rattle.core_worker.specs.Handling.{IsHandled, setting_of}
use Rattle.core_worker.specs.Sending.{IsAllSent, IsPartSent}
use Rattle.core_worker.specs.Turns.{deferred_by, exceptions_by, placed}
use Rattle.core_worker.specs.Turns.{IsFrameDone, IsFirstDone, AreFramesDone, IsFrameLeft, AreFramesLeft}
use Rattle.core_worker.specs.Turns.{kicked_in, IsKicked, IsKickDone, AreKicksDone, AreKicksLeft}
use Rattle.core_worker.specs.Turns.{HasTakenMore, IsDrained, IsBounded}
use Rattle.core_worker.specs.declared.frames.Frame.{Frame}
use Rattle.core_worker.specs.declared.frames.Handled.{Handled}
use Rattle.core_worker.specs.declared.frames.PassedFrame.{PassedFrame}

-- ----- frames
none_first : (n : ℕ) → nat_lt 0 (suc n) ≡ false → ⊥
none_first n = grind (arith, tests)

-- one frame more
pub frames_more : (c : Common) (tick : ℕ) (fs : List Frame) (f : Frame) (v m w : Worker)
    → AreFramesDone c tick fs v m → IsFrameDone c tick f m w → AreFramesDone c tick (fs ++ f ∷ []) v w
frames_more c tick [] f v m w e d = (w, subst (λ x. IsFrameDone c tick f x w) e d, refl)
frames_more c tick (g ∷ fs) f v m w (x, one, more) d = (x, one, frames_more c tick fs f x m w more d)

-- the first of a list
first_or : Frame → List Frame → Frame
first_or d [] = d
first_or d (f ∷ fs) = f

-- the frame that was handled is the one that was taken out, and stands where its answer says
pub frame_done : (c : Common) (tick : ℕ) (u v : Worker) (f g : Frame) (rest fs : List Frame) (h : Handled)
    (seen : Sight) (ds es : List PassedFrame) (packet : List ℕ) → u ≡ v → u.frames ≡ f ∷ rest → u.frames ≡ g ∷ fs
    → packet ≡ f.packet → IsHandled (setting_of c tick u) f.id packet (sight_of u) seen h
    → ds ≡ u.deferred ++ deferred_by g h → es ≡ u.exceptions ++ exceptions_by g h
    → IsFirstDone c tick v (record (with_sight seen u) { frames = fs; deferred = ds; exceptions = es })
unfolding first_or
frame_done c tick u v f g rest fs h seen ds es packet is first taken bytes done deferred exceptions =
    let n : Worker = record (with_sight seen u) { frames = fs; deferred = ds; exceptions = es } in
    let same : f ≡ g = ap (first_or f) (sym first ∙ taken) in
    let of_f : IsHandled (setting_of c tick u) f.id f.packet (sight_of u) seen h =
    subst (λ b. IsHandled (setting_of c tick u) f.id b (sight_of u) seen h) bytes done in
    let of_g : IsHandled (setting_of c tick u) g.id g.packet (sight_of u) seen h =
    subst (λ (x : Frame). IsHandled (setting_of c tick u) x.id x.packet (sight_of u) seen h) same of_f in
    let after : n ≡ placed g h fs (with_sight seen u) =
    ap (λ l. record (with_sight seen u) { frames = fs; deferred = l; exceptions = es }) deferred
    ∙ ap (λ l. record (with_sight seen u) { frames = fs; deferred = u.deferred ++ deferred_by g h; exceptions = l })
    exceptions in
    subst (λ (w : Worker). IsFirstDone c tick w n) is
    (g, record { rest = fs; first = taken; answer = h; seen = seen; handled = of_g; after = after })

-- a loop that handles frames: those handled, and those that are left
pub record Handling (c : Common) (tick : ℕ) (first now : Worker) : Type 0 where
  pub handled : List Frame
  pub done : AreFramesDone c tick handled first now
  pub all : first.frames ≡ handled ++ now.frames
  pub core : now.core ≡ first.core
  pub kicks : now.kicks ≡ first.kicks

pub handling_first : (c : Common) (tick : ℕ) (w : Worker) → Handling c tick w w
handling_first c tick w = record { handled = []; done = refl; all = refl; core = refl; kicks = refl }

pub handling_more : (c : Common) (tick : ℕ) (first m w : Worker) → Handling c tick first m → IsFirstDone c tick m w
    → Handling c tick first w
handling_more c tick first m w h (f, d) =
    let rest : w.frames ≡ d.rest = ap (λ (x : Worker). x.frames) d.after in
    let next : m.frames ≡ f ∷ w.frames = d.first ∙ ap (λ l. f ∷ l) (sym rest) in
    record {
      handled = h.handled ++ f ∷ [];
      done = frames_more c tick h.handled f first m w h.done d;
      all = h.all ∙ (ap (λ l. h.handled ++ l) next ∙ sym (append_assoc h.handled (f ∷ []) w.frames));
      core = ap (λ (x : Worker). x.core) d.after ∙ h.core;
      kicks = ap (λ (x : Worker). x.kicks) d.after ∙ h.kicks;
    }

-- with none left all were handled
pub handling_ends : (c : Common) (tick : ℕ) (first w : Worker) → Handling c tick first w → w.frames ≡ []
    → AreFramesDone c tick first.frames first w
handling_ends c tick first w h none =
    let all : first.frames ≡ h.handled = h.all ∙ (ap (λ l. h.handled ++ l) none ∙ append-nil h.handled) in
    subst (λ l. AreFramesDone c tick l first w) (sym all) h.done

left_frames : (c : Common) (tick : ℕ) (m w : Worker) → IsFrameLeft c tick m w → w.frames ≡ m.frames
left_frames c tick m w (inl e) = ap (λ (x : Worker). x.frames) e
left_frames c tick m w (inr (f, rest, first, seen, un, e)) = ap (λ (x : Worker). x.frames) e

pub handling_stops : (c : Common) (tick : ℕ) (first m w : Worker) → Handling c tick first m → IsFrameLeft c tick m w
    → AreFramesLeft c tick first w
handling_stops c tick first m w h left =
    (h.handled, m, h.done, left, h.all ∙ ap (λ l. h.handled ++ l) (sym (left_frames c tick m w left)))

pub left_core : (c : Common) (tick : ℕ) (m w : Worker) → IsFrameLeft c tick m w
    → (w.core ≡ m.core) × (w.kicks ≡ m.kicks)
left_core c tick m w (inl e) = (ap (λ (x : Worker). x.core) e, ap (λ (x : Worker). x.kicks) e)
left_core c tick m w (inr (f, rest, first, seen, un, e)) =
    (ap (λ (x : Worker). x.core) e, ap (λ (x : Worker). x.kicks) e)

-- ----- the queue of kicks
pub same_queue : (c : Common) (v w : Worker) → w.core ≡ v.core → w.kicks ≡ v.kicks → HasQueue c v → HasQueue c w
same_queue c v w core kicks (place, there, line) =
    (place, ap (λ k. slice_get c.kicks k) core ∙ there, line ∙ ap (λ (r : Receiver). r.line) (sym kicks))

pub queue_taken : (c : Common) (note : Note) (v w : Worker) → HasTaken note v.kicks w.kicks
    → w ≡ with_kicks w.kicks v → HasQueue c v → HasQueue c w
queue_taken c note v w taken e (place, there, line) = (
  place,
  ap (λ k. slice_get c.kicks k) (ap (λ (x : Worker). x.core) e) ∙ there,
  line ∙ sym (ap (λ (r : Receiver). r.line) taken.1),
)

-- ----- kicks
-- one kick more
pub kicks_more : (c : Common) (tick n : ℕ) (v m w : Worker) → AreKicksDone c tick n v m
    → IsKickDone c (IsAllSent v.core tick) m w → AreKicksDone c tick (suc n) v w
kicks_more c tick zero v m w e d = (w, subst (λ x. IsKickDone c (IsAllSent v.core tick) x w) e d, refl)
kicks_more c tick (suc n) v m w (x, one, more) d =
    let same : x.core ≡ v.core = ap (λ (y : Worker). y.core) one.after in
    (x, one, kicks_more c tick n x m w more (subst (λ k. IsKickDone c (IsAllSent k tick) m w) (sym same) d))

-- one kick, taken and then followed
pub kick_after : (c : Common) (sent : (core : ℕ) → History → History → Type 0) (note : Note) (v u n : Worker)
    → HasTaken note v.kicks u.kicks → u ≡ with_kicks u.kicks v
    → IsKicked (kicked_in c.table.slots note) (sent u.core) u.pass.view n.pass.view → n ≡ with_pass n.pass u
    → IsFree c v → IsFree c n → IsKickDone c (sent v.core) v n
kick_after c sent note v u n taken first kicked last free free_then =
    let id : Option FlowId = kicked_in c.table.slots note in
    let core : u.core ≡ v.core = ap (λ (x : Worker). x.core) first in
    let pass : u.pass ≡ v.pass = ap (λ (x : Worker). x.pass) first in
    let by_core : IsKicked id (sent v.core) u.pass.view n.pass.view =
    subst (λ k. IsKicked id (sent k) u.pass.view n.pass.view) core kicked in
    record {
      note = note;
      kicks = u.kicks;
      taken = taken;
      pass = n.pass;
      table = free_then.0.0 ∙ sym free.0.0;
      kicked = subst (λ (s : Seen). IsKicked id (sent v.core) s.view n.pass.view) pass by_core;
      after = last ∙ ap (with_pass n.pass) first;
    }

pub queue_after : (c : Common) (note : Note) (v u n : Worker) → HasTaken note v.kicks u.kicks
    → u ≡ with_kicks u.kicks v → n ≡ with_pass n.pass u → HasQueue c v → HasQueue c n
queue_after c note v u n taken first last queue =
    same_queue c u n (ap (λ (x : Worker). x.core) last) (ap (λ (x : Worker). x.kicks) last)
    (queue_taken c note v u taken first queue)

-- a loop that takes kicks
pub record Kicking (c : Common) (tick count : ℕ) (first now : Worker) : Type 0 where
  pub done : AreKicksDone c tick count first now
  pub taken : HasTakenMore count first.kicks now.kicks
  pub core : now.core ≡ first.core
  pub frames : now.frames ≡ first.frames
  pub senders : now.senders ≡ first.senders
  pub free : IsFree c now
  pub queue : HasQueue c now

pub kicking_first : (c : Common) (tick : ℕ) (w : Worker) → IsFree c w → HasQueue c w → Kicking c tick 0 w w
kicking_first c tick w free queue = record {
  done = refl;
  taken = omega arith;
  core = refl;
  frames = refl;
  senders = refl;
  free = free;
  queue = queue;
}

-- one note more
taken_more : (note : Note) (r q : Receiver) → HasTaken note r q → HasTakenMore 1 r q
taken_more note r q (from, e) =
    ap (λ (x : Receiver). length x.taken) e ∙ length-append r.taken (record { from = from; note = note } ∷ [])

pub kicking_more : (c : Common) (tick count : ℕ) (first m w : Worker) → Kicking c tick count first m
    → IsKickDone c (IsAllSent m.core tick) m w → IsFree c w → HasQueue c w → Kicking c tick (count + 1) first w
kicking_more c tick count first m w k d free queue = record {
  done =
      let next : suc count ≡ count + 1 = omega arith in
      subst (λ n. AreKicksDone c tick n first w) next
      (kicks_more c tick count first m w k.done (subst (λ n. IsKickDone c (IsAllSent n tick) m w) k.core d));
  taken =
      let one : HasTakenMore 1 m.kicks w.kicks =
      subst (HasTakenMore 1 m.kicks) (sym (ap (λ (x : Worker). x.kicks) d.after))
      (taken_more d.note m.kicks d.kicks d.taken) in
      let before = k.taken in
      omega arith;
  core = ap (λ (x : Worker). x.core) d.after ∙ k.core;
  frames = ap (λ (x : Worker). x.frames) d.after ∙ k.frames;
  senders = ap (λ (x : Worker). x.senders) d.after ∙ k.senders;
  free = free;
  queue = queue;
}

pub kicking_stops : (c : Common) (tick count : ℕ) (first m w : Worker) → Kicking c tick count first m
    → IsKickDone c (IsPartSent m.core tick) m w → AreKicksLeft c tick first w
kicking_stops c tick count first m w k d =
    (count, m, k.done, subst (λ n. IsKickDone c (IsPartSent n tick) m w) k.core d)

-- the core's queue has room for so many
abbrev pub HasRoomOf : Common → (core room : ℕ) → Type 0
HasRoomOf c core room = (place : Place) × (slice_get c.kicks core ≡ Some place) × (room ≡ place.room)

-- as many were taken as it has room for
pub all_taken : (c : Common) (core room count : ℕ) (r q : Receiver) → HasRoomOf c core room → HasTakenMore count r q
    → count ≤ room → room ≤ count → IsDrained c core r q
all_taken c core room count r q (place, there, is) taken few all =
    inr (place, there, let t = taken in omega (arith, t, few, all, is))

-- no more were taken than there is room for
pub within : (c : Common) (core room count : ℕ) (r q : Receiver) → HasRoomOf c core room → HasTakenMore count r q
    → count ≤ room → IsBounded c core r q
within c core room count r q (place, there, is) taken few =
    (place, there, let t = taken in omega (arith, t, few, is))

-- the kick at which memory was wanting was taken too
pub within_one_more : (c : Common) (tick count room : ℕ) (first m w : Worker)
    → HasRoomOf c first.core room → Kicking c tick count first m → count < room
    → IsKickDone c (IsPartSent m.core tick) m w → IsBounded c first.core first.kicks w.kicks
within_one_more c tick count room first m w (place, there, is) k few d =
    let one : HasTakenMore 1 m.kicks w.kicks =
    subst (HasTakenMore 1 m.kicks) (sym (ap (λ (x : Worker). x.kicks) d.after))
    (taken_more d.note m.kicks d.kicks d.taken) in
    let before = k.taken in
    (place, there, omega (arith, one, before, few, is))

-- the same, counted from before the frames, which take no kick
pub drained_since : {A E : Type 0} (c : Common) (v m w : Worker) (x : Result A E) → m.core ≡ v.core
    → m.kicks ≡ v.kicks → OnOk x (IsDrained c m.core m.kicks w.kicks) → OnOk x (IsDrained c v.core v.kicks w.kicks)
drained_since c v m w x core kicks is =
    subst (λ n. OnOk x (IsDrained c n v.kicks w.kicks)) core
    (subst (λ r. OnOk x (IsDrained c m.core r w.kicks)) kicks is)

pub bounded_since : (c : Common) (v m w : Worker) → m.core ≡ v.core → m.kicks ≡ v.kicks
    → IsBounded c m.core m.kicks w.kicks → IsBounded c v.core v.kicks w.kicks
bounded_since c v m w core kicks is =
    subst (λ n. IsBounded c n v.kicks w.kicks) core (subst (λ r. IsBounded c m.core r w.kicks) kicks is)

-- no kick was taken
pub none_taken : (c : Common) (v w : Worker) → HasQueue c v → w.kicks ≡ v.kicks → IsBounded c v.core v.kicks w.kicks
none_taken c v w (place, there, line) same =
    let taken = ap (λ (r : Receiver). length r.taken) same in (place, there, omega (arith, taken))

-- ----- loops
pub no_frame : (l : List Frame) → nat_lt 0 (length l) ≡ false → l ≡ []
no_frame [] e = refl
no_frame (f ∷ fs) e = absurd (none_first (length fs) e)

pub err_of : {A E : Type 0} (P : Type 0) → P → (x : Result A E) → OnErr x P
err_of P p (Ok a) = tt
err_of P p (Err e) = p
