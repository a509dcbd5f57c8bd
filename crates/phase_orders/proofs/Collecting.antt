-- What lanes left is what the slow path collects: for the laws left_frames_are_collected and broken_frames_are_lines.
use Rattle.std.proofs.Common.{◌≡◌, ℕ, suc, Bool, cond, List, [], ◌∷◌, ◌++◌, map, refl, sym, ap, ◌∙◌}
use Rattle.std.proofs.Common.{subst, append_assoc, append-nil}
use Rattle.std.specs.Prelude.{Option, Some, None, is_some, IsPermutation}
use Rattle.std.proofs.lemmas.List.Sorted.{IsPermutation-refl, IsPermutation-trans}
use Rattle.std.proofs.lemmas.List.Sorted.{IsPermutation-append_right, IsPermutation-map}
use Rattle.segment_fields.specs.declared.segment.Refused.{Refused}
use Rattle.segment_fields.specs.Text.{refusal}
use Rattle.tas_model.specs.declared.entry.Caller.TheVariants.{Slow}
use Rattle.host_rounds.specs.Deliveries.{received, delivered, delivered_packet}
use Rattle.host_rounds.specs.Hosts.{Host}
use Rattle.host_rounds.specs.Lists.{Each}
use Rattle.host_rounds.specs.Scripts.{Scripts}
use Rattle.host_rounds.specs.declared.log.LogLine.{LogLine}
use Rattle.host_rounds.proofs.Lists.{map_append, filter_append}
use Rattle.core_rounds.specs.CoreTicks.{rest_phase}
use Rattle.flow_lock.specs.Orders.{Order, of}
use Rattle.flow_lock.specs.declared.view.Deed.{Deed}
use Rattle.host_books.specs.Tries.{Try}
use Rattle.host_books.specs.Words.{joined}
use Rattle.core_worker.specs.declared.frames.Frame.{Frame}
use Rattle.core_phase.specs.Deeds.{IsTurnOf}
use Rattle.core_phase.specs.Phases.{AreParts}
use Rattle.core_phase.specs.Words.{arrival_of, packet_by}
use Rattle.core_phase.specs.declared.lane.CoreLane.{CoreLane}
use Rattle.core_phase.specs.declared.lane.Lane.{Lane}
use Rattle.core_phase.specs.declared.lane.Lane.TheVariants as lanes
use Rattle.lane_orders.proofs.Handing.{by_same, four}
use Rattle.phase_orders.specs.CoreTurns.{arrivals_of, frame_in, is_broken, broken_in, line_for, lines_of}
use Rattle.phase_orders.specs.Lanes.{IsCoreAt, AreSetOut, left_in, all_left, LanePhase}
use Rattle.phase_orders.specs.Collecting.{frames_of, exceptions_of, deferred_of, log_of, HasNoLines, all_broken}
use Rattle.phase_orders.specs.Collecting.{all_passed, collected}
use Rattle.phase_orders.proofs.CoreTurns.{core_turn, lines_joined}

-- ----- frames
module _ (check : Bool) where
  -- what a lane left: the frames whose packets break a rule, and those that it passed on
  abbrev left_frames : Lane → Lane → List Frame
  left_frames v w = broken_in check (frames_of v) ++ (map frame_in (exceptions_of w) ++ map frame_in (deferred_of w))

  abbrev all_left_frames : List Lane → List Lane → List Frame
  all_left_frames [] ws = []
  all_left_frames (v ∷ vs) [] = []
  all_left_frames (v ∷ vs) (w ∷ ws) = left_frames v w ++ all_left_frames vs ws

  -- all broken ones, then all exceptions, and then all that were deferred
  abbrev in_parts : List Lane → List Lane → List Frame
  in_parts vs ws =
      all_broken check vs
      ++ (joined (λ (w : Lane). map frame_in (exceptions_of w)) ws
      ++ joined (λ (w : Lane). map frame_in (deferred_of w)) ws)

  one_more : (v w : Lane) (vs ws : List Lane) → IsPermutation (all_left_frames vs ws) (in_parts vs ws)
      → IsPermutation (all_left_frames (v ∷ vs) (w ∷ ws)) (in_parts (v ∷ vs) (w ∷ ws))
  one_more v w vs ws more =
      let b = broken_in check (frames_of v) in
      let x = map frame_in (exceptions_of w) in
      let d = map frame_in (deferred_of w) in
      let bs = all_broken check vs in
      let xs = joined (λ (w : Lane). map frame_in (exceptions_of w)) ws in
      let ds = joined (λ (w : Lane). map frame_in (deferred_of w)) ws in
      let same : (b ++ bs) ++ ((x ++ xs) ++ (d ++ ds)) ≡ in_parts (v ∷ vs) (w ∷ ws) =
      ap (λ l. l ++ ((x ++ xs) ++ (d ++ ds)))
      (sym (filter_append (is_broken check) (frames_of v) (joined frames_of vs))) in
      IsPermutation-trans (left_frames v w ++ all_left_frames vs ws) (left_frames v w ++ in_parts vs ws)
      (in_parts (v ∷ vs) (w ∷ ws))
      (IsPermutation-append_right (left_frames v w) (all_left_frames vs ws) (in_parts vs ws) more)
      (IsPermutation-trans (left_frames v w ++ in_parts vs ws) ((b ++ bs) ++ ((x ++ d) ++ (xs ++ ds)))
      (in_parts (v ∷ vs) (w ∷ ws))
      (four b (x ++ d) bs (xs ++ ds))
      (IsPermutation-trans ((b ++ bs) ++ ((x ++ d) ++ (xs ++ ds))) ((b ++ bs) ++ ((x ++ xs) ++ (d ++ ds)))
      (in_parts (v ∷ vs) (w ∷ ws))
      (IsPermutation-append_right (b ++ bs) ((x ++ d) ++ (xs ++ ds)) ((x ++ xs) ++ (d ++ ds)) (four x d xs ds))
      (by_same ((b ++ bs) ++ ((x ++ xs) ++ (d ++ ds))) (in_parts (v ∷ vs) (w ∷ ws)) same)))

  -- ----- lanes
  module _ (order : Order) where
    parts_left : (p : ℕ) (vs ws : List Lane) → AreParts order p vs ws
        → IsPermutation (all_left_frames vs ws) (in_parts vs ws)
    parts_left p [] ws parts = subst (λ l. IsPermutation [] (in_parts [] l)) (sym parts) (IsPermutation-refl [])
    parts_left p (v ∷ vs) [] parts = absurd parts
    parts_left p (v ∷ vs) (w ∷ ws) parts = one_more v w vs ws (parts_left (suc p) vs ws parts.1)

    module _ (cores t : ℕ) where
      core_left : (v w : CoreLane) → v.worker.check_sums ≡ check
          → left_in (lanes.Core v) (lanes.Core w) ≡ arrivals_of check (left_frames (lanes.Core v) (lanes.Core w))
      core_left v w checks =
          (λ i. arrivals_of (checks i) (broken_in (checks i) v.worker.frames)
          ++ arrivals_of (checks i) (map_append frame_in w.worker.exceptions w.worker.deferred i))
          ∙ sym (map_append (arrival_of check) (broken_in check v.worker.frames)
          (map frame_in w.worker.exceptions ++ map frame_in w.worker.deferred))

      lanes_left : {S A : Type 0} (p : ℕ) (os : List (Option (Try S A))) (vs ws : List Lane)
          → AreSetOut check cores t os vs
          → AreParts order p vs ws → all_left vs ws ≡ arrivals_of check (all_left_frames vs ws)
      lanes_left p [] [] ws set parts = refl
      lanes_left p [] (v ∷ vs) ws set parts = absurd set
      lanes_left p (o ∷ os) [] ws set parts = absurd set
      lanes_left p (o ∷ os) (v ∷ vs) [] set parts = absurd parts
      lanes_left p (o ∷ os) (lanes.Core v ∷ vs) (lanes.Core w ∷ ws) set parts =
          (λ i. core_left v w set.0.1.checks i ++ lanes_left (suc p) os vs ws set.1 parts.1 i)
          ∙ sym (map_append (arrival_of check) (left_frames (lanes.Core v) (lanes.Core w)) (all_left_frames vs ws))
      lanes_left p (o ∷ os) (lanes.Core v ∷ vs) (lanes.App w ∷ ws) set parts = absurd parts.0.deeds
      lanes_left p (o ∷ os) (lanes.App v ∷ vs) (lanes.Core w ∷ ws) set parts = absurd parts.0.deeds
      lanes_left p (o ∷ os) (lanes.App v ∷ vs) (lanes.App w ∷ ws) set parts =
          lanes_left (suc p) os vs ws set.1 parts.1

      -- ----- lines
      core_lines : (v w : CoreLane) (ds : List Deed) → IsCoreAt check cores t v → IsTurnOf v.tick v.worker w.worker ds
          → v.worker.log ≡ [] → w.worker.log ≡ lines_of check t (broken_in check v.worker.frames)
      core_lines v w ds at is none =
          let r = core_turn {S = ℕ} {A = ℕ} v.tick [] v.worker w.worker ds at.exceptions at.deferred is in
          r.1.lines
          ∙ (λ i. none i ++ lines_of (at.checks i) (at.tick i) (broken_in (at.checks i) v.worker.frames))

      lanes_lines : {S A : Type 0} (p : ℕ) (os : List (Option (Try S A))) (vs ws : List Lane)
          → AreSetOut check cores t os vs
          → AreParts order p vs ws → Each HasNoLines vs → joined log_of ws ≡ lines_of check t (all_broken check vs)
      lanes_lines p [] [] ws set parts told = ap (joined log_of) parts
      lanes_lines p [] (v ∷ vs) ws set parts told = absurd set
      lanes_lines p (o ∷ os) [] ws set parts told = absurd set
      lanes_lines p (o ∷ os) (v ∷ vs) [] set parts told = absurd parts
      lanes_lines p (o ∷ os) (lanes.Core v ∷ vs) (lanes.Core w ∷ ws) set parts told =
          (λ i. core_lines v w (of p order) set.0.1 parts.0.deeds told.0 i
          ++ lanes_lines (suc p) os vs ws set.1 parts.1 told.1 i)
          ∙ (sym (lines_joined check t (broken_in check v.worker.frames) (all_broken check vs))
          ∙ ap (lines_of check t) (sym (filter_append (is_broken check) v.worker.frames (joined frames_of vs))))
      lanes_lines p (o ∷ os) (lanes.Core v ∷ vs) (lanes.App w ∷ ws) set parts told = absurd parts.0.deeds
      lanes_lines p (o ∷ os) (lanes.App v ∷ vs) (lanes.Core w ∷ ws) set parts told = absurd parts.0.deeds
      lanes_lines p (o ∷ os) (lanes.App v ∷ vs) (lanes.App w ∷ ws) set parts told =
          lanes_lines (suc p) os vs ws set.1 parts.1 told.1

-- ----- the slow path's order
joined_map : {X B C : Type 0} (g : X → List B) (f : B → C) (xs : List X)
    → joined (λ (x : X). map f (g x)) xs ≡ map f (joined g xs)
joined_map g f [] = refl
joined_map g f (x ∷ xs) = ap (λ l. map f (g x) ++ l) (joined_map g f xs) ∙ sym (map_append f (g x) (joined g xs))

pub left_collected : {S A : Type 0} (scripts : Scripts S A) (check : Bool) (cores t : ℕ)
    (l : LanePhase scripts check cores t)
    → IsPermutation (all_left l.before l.after) (collected check l.before l.after)
left_collected scripts check cores t l =
    let fs = all_left_frames check l.before l.after in
    let is : all_left l.before l.after ≡ arrivals_of check fs =
    lanes_left check l.phase.order cores t 0 l.asks l.before l.after l.set_out l.phase.parts in
    let passed : joined (λ (w : Lane). map frame_in (exceptions_of w)) l.after
    ++ joined (λ (w : Lane). map frame_in (deferred_of w)) l.after ≡ map frame_in (all_passed l.after) =
    (λ i. joined_map exceptions_of frame_in l.after i ++ joined_map deferred_of frame_in l.after i)
    ∙ sym (map_append frame_in (joined exceptions_of l.after) (joined deferred_of l.after)) in
    let same : arrivals_of check (in_parts check l.before l.after) ≡ collected check l.before l.after =
    map_append (arrival_of check) (all_broken check l.before) _
    ∙ ap (λ k. arrivals_of check (all_broken check l.before) ++ arrivals_of check k) passed in
    subst (λ k. IsPermutation k (collected check l.before l.after)) (sym is)
    (subst (IsPermutation (arrivals_of check fs)) same
    (IsPermutation-map (arrival_of check) fs (in_parts check l.before l.after)
    (parts_left check l.phase.order 0 l.before l.after l.phase.parts)))

pub lines_collected : {S A : Type 0} (scripts : Scripts S A) (check : Bool) (cores t : ℕ)
    (l : LanePhase scripts check cores t) → Each HasNoLines l.before
    → joined log_of l.after ≡ lines_of check t (all_broken check l.before)
lines_collected scripts check cores t l told =
    lanes_lines check l.phase.order cores t 0 l.asks l.before l.after l.set_out l.phase.parts told

-- ----- frames whose packets break a rule of reading
module _ {S A : Type 0} (scripts : Scripts S A) (t : ℕ) (check : Bool) where
  abbrev with_lines : Host → List LogLine → Host
  with_lines host lines = record host { log = host.log ++ lines }

  -- these frames come to the host as the lines of those that break a rule
  abbrev AreLines : Host → List Frame → Type 0
  AreLines host fs = rest_phase scripts t host (arrivals_of check fs) ≡ with_lines host (lines_of check t fs)

  one_line : (host : Host) (f : Frame) (r : Refused) → refusal check f.packet ≡ Some r
      → delivered (received Slow) scripts.starts t host (arrival_of check f)
      ≡ with_lines host (line_for t f.id (refusal check f.packet))
  one_line host f r e =
      ap (λ (o : Option Refused). delivered_packet (received Slow) scripts.starts t host f.id (packet_by o f.packet)) e
      ∙ sym (ap (λ (o : Option Refused). with_lines host (line_for t f.id o)) e)

  pub broken_lines : (host : Host) (fs : List Frame) → AreLines host (broken_in check fs)
  broken_lines host [] = ap (λ (l : List LogLine). record host { log = l }) (sym (append-nil host.log))
  broken_lines host (f ∷ fs) = by (refusal check f.packet) refl (broken_lines host fs) (λ h. broken_lines h fs)
    where
      rest : List Frame
      rest = broken_in check fs

      is : (o : Option Refused) → refusal check f.packet ≡ o
          → cond (is_some o) (f ∷ rest) rest ≡ broken_in check (f ∷ fs)
      is o e = ap (λ (q : Option Refused). cond (is_some q) (f ∷ rest) rest) (sym e)

      by : (o : Option Refused) → refusal check f.packet ≡ o → AreLines host rest → ((h : Host) → AreLines h rest)
          → AreLines host (broken_in check (f ∷ fs))
      by None e here more = subst (AreLines host) (is None e) here
      by (Some r) e here more =
          let line : List LogLine = line_for t f.id (refusal check f.packet) in
          subst (AreLines host) (is (Some r) e)
          (ap (λ (h : Host). rest_phase scripts t h (arrivals_of check rest)) (one_line host f r e)
          ∙ (more (with_lines host line)
          ∙ ap (λ (l : List LogLine). record host { log = l }) (append_assoc host.log line (lines_of check t rest))))
