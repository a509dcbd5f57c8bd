-- The timers, the frames and the asks of a tick in serial order, as deeds.
use Rattle.std.proofs.Common.{◌≡◌, ℕ, ◌+◌, Bool, true, false, List, [], ◌∷◌, ◌++◌, length, map, fold, refl, sym, ap}
use Rattle.std.proofs.Common.{◌∙◌, append_assoc, if◌then◌else◌}
use Rattle.tas_model.specs.declared.entry.FourTuple.{FourTuple}
use Rattle.tas_model.specs.declared.entry.FrameId.{FrameId}
use Rattle.tas_model.specs.declared.entry.Seg.{Seg}
use Rattle.tas_model.specs.declared.entry.Caller.{Caller}
use Rattle.tas_model.specs.declared.entry.Caller.TheVariants.{Slow, Core}
use Rattle.host_rounds.specs.declared.opening.Start.{Start}
use Rattle.host_rounds.specs.Lists.{Each, change_first, change_at}
use Rattle.host_rounds.specs.Hosts.{Live, Host, Starts, next_start, endpoint, is_known, is_indexed_as}
use Rattle.host_rounds.specs.Upkeep.{timed}
use Rattle.host_rounds.specs.Deliveries.{Packet, Damaged, Segment, Arrival, received, received_serially, rx_caller}
use Rattle.host_rounds.specs.Deliveries.{is_fast, arrived, delivered_packet, delivered}
use Rattle.host_rounds.specs.Scripts.{Site, Scripts}
use Rattle.host_rounds.specs.Rounds.{Action, Frame, Ask, Deed, does, on_host, timers_from, actions_of}
use Rattle.host_rounds.proofs.Lists.{change_past, length_push}

-- ----- what the slow path does by itself
abbrev pub by_slow : {A : Type 0} → List (Action A) → List (Deed A)
by_slow {A} actions = map (λ (a : Action A). record { by = Slow; action = a }) actions

pub slow_actions : {A : Type 0} (xs : List (Action A)) → actions_of (by_slow xs) ≡ xs
slow_actions [] = refl
slow_actions {A} (x ∷ xs) = ap (λ (zs : List (Action A)). x ∷ zs) (slow_actions xs)

-- what is known of the slow path is known of each who does it
pub slow_workers : {A : Type 0} (W : Caller → Type 0) → W Slow → (xs : List (Action A))
    → Each (λ (m : Deed A). W m.by) (by_slow xs)
slow_workers W slow [] = tt
slow_workers W slow (x ∷ xs) = (slow, slow_workers W slow xs)

abbrev pub at_flows : {S : Type 0} → Site S → List Live → Site S
at_flows site ls = record site { host = record (site.host) { flows = ls } }

pub timers_fold : {S A : Type 0} (scripts : Scripts S A) (t n : ℕ) (site : Site S) (pre ls : List Live) → n ≡ length pre
    → fold (does scripts t) (at_flows site (pre ++ ls)) (by_slow (timers_from n ls)) ≡ at_flows site (pre
    ++ map (timed Slow t) ls)
timers_fold scripts t n site pre [] h = refl
timers_fold scripts t n site pre (l ∷ ls) h =
    let one : change_at n (timed Slow t) (pre ++ l ∷ ls) ≡ (pre ++ timed Slow t l ∷ []) ++ ls =
    rw h (change_past (timed Slow t) pre l ls ∙ sym (append_assoc pre (timed Slow t l ∷ []) ls)) in
    ap (λ (zs : List Live). fold (does scripts t) (at_flows site zs) (by_slow (timers_from (n + 1) ls))) one
    ∙ timers_fold scripts t (n + 1) site (pre ++ timed Slow t l ∷ []) ls (length_push n pre (timed Slow t l) h)
    ∙ ap (λ (zs : List Live). at_flows site zs) (append_assoc pre (timed Slow t l ∷ []) (map (timed Slow t) ls))

-- ----- due frames
abbrev first_caller : (Live → Bool) → Seg → List Live → Caller
first_caller test seg [] = Slow
first_caller test seg (l ∷ ls) = elim (test l) [ true ↦ rx_caller (endpoint l) seg | false ↦ first_caller test seg ls ]

abbrev caller_of : List Live → Packet → Caller
caller_of ls (Damaged rule) = Slow
caller_of ls (Segment tuple seg) = first_caller (is_indexed_as tuple) seg ls

first_change : (test : Live → Bool) (t : ℕ) (frame : FrameId) (seg : Seg) (ls : List Live)
    → change_first test (received (first_caller test seg ls) t frame seg) ls
    ≡ change_first test (received_serially t frame seg) ls
first_change test t frame seg [] = refl
first_change test t frame seg (l ∷ ls) =
    by_test (test l) (first_caller test seg (l ∷ ls)) refl (first_change test t frame seg ls) where
      by_test : (b : Bool) (by : Caller)
          → by ≡ elim b [ true ↦ rx_caller (endpoint l) seg | false ↦ first_caller test seg ls ]
          → change_first test (received (first_caller test seg ls) t frame seg) ls
          ≡ change_first test (received_serially t frame seg) ls
          → ◌≡◌ {A = List Live} (elim b [
            | true ↦ received by t frame seg l ∷ ls
            | false ↦ l
                ∷ change_first test (received by t frame seg) ls
          ])
          (elim b [
            | true ↦ received_serially t frame seg l ∷ ls
            | false ↦ l
                ∷ change_first test (received_serially t frame seg) ls
          ])
      by_test true by k h = ap (λ (c : Caller). received c t frame seg l ∷ ls) k
      by_test false by k h = ap (λ (c : Caller). l ∷ change_first test (received c t frame seg) ls) k
          ∙ ap (λ (zs : List Live). l ∷ zs) h

arrived_same : (known : Bool) (start : Start) (t : ℕ) (host : Host) (frame : FrameId) (tuple : FourTuple) (seg : Seg)
    → arrived known (received (first_caller (is_indexed_as tuple) seg host.flows) t frame seg) start t host frame tuple
    seg
    ≡ arrived known (received_serially t frame seg) start t host frame tuple seg
arrived_same true start t host frame tuple seg =
    ap (λ (zs : List Live). record host { flows = zs }) (first_change (is_indexed_as tuple) t frame seg host.flows)
arrived_same false start t host frame tuple seg = refl

packet_same : (starts : Starts) (t : ℕ) (host : Host) (frame : FrameId) (packet : Packet)
    → delivered_packet (received (caller_of host.flows packet)) starts t host frame packet
    ≡ delivered_packet received_serially starts t host frame packet
packet_same starts t host frame (Damaged rule) = refl
packet_same starts t host frame (Segment tuple seg) =
    arrived_same (is_known host tuple) (next_start starts host tuple) t host frame tuple seg

abbrev pub frames_made : {A : Type 0} → Starts → ℕ → Host → List Arrival → List (Deed A)
frames_made starts t host [] = []
frames_made starts t host (x ∷ xs) =
    (record { by = caller_of host.flows x.packet; action = Frame x })
    ∷ frames_made starts t (delivered received_serially starts t host x) xs

pub frames_fold : {S A : Type 0} (scripts : Scripts S A) (t : ℕ) (site : Site S) (frames : List Arrival)
    → fold (does scripts t) site (frames_made scripts.starts t site.host frames)
    ≡ on_host (λ (host : Host). fold (delivered received_serially scripts.starts t) host frames) site
frames_fold scripts t site [] = refl
frames_fold scripts t site (x ∷ xs) =
    let next : Host = delivered received_serially scripts.starts t site.host x in
    ap (λ (h : Host). fold (does scripts t) (record site { host = h }) (frames_made scripts.starts t next xs))
    (packet_same scripts.starts t site.host x.frame x.packet)
    ∙ frames_fold scripts t (record site { host = next }) xs

pub frames_actions : {A : Type 0} (starts : Starts) (t : ℕ) (host : Host) (frames : List Arrival)
    → actions_of (frames_made {A = A} starts t host frames) ≡ map Frame frames
frames_actions starts t host [] = refl
frames_actions {A} starts t host (x ∷ xs) =
    ap (λ (zs : List (Action A)). Frame x ∷ zs)
    (frames_actions starts t (delivered received_serially starts t host x) xs)

module _ (W : Caller → Type 0) (slow : W Slow) (core : W (Core 0)) where
  rx_worker : (b : Bool) → W (if b then Core 0 else Slow)
  rx_worker true = core
  rx_worker false = slow

  first_worker : (test : Live → Bool) (seg : Seg) (ls : List Live) → W (first_caller test seg ls)
  first_worker test seg [] = slow
  first_worker test seg (l ∷ ls) = by_test (test l) (first_worker test seg ls) where
    by_test : (b : Bool) → W (first_caller test seg ls)
        → W (elim b [ true ↦ rx_caller (endpoint l) seg | false ↦ first_caller test seg ls ])
    by_test true h = rx_worker (is_fast (endpoint l) seg)
    by_test false h = h

  packet_worker : (ls : List Live) (packet : Packet) → W (caller_of ls packet)
  packet_worker ls (Damaged rule) = slow
  packet_worker ls (Segment tuple seg) = first_worker (is_indexed_as tuple) seg ls

  pub frames_workers : (A : Type 0) (starts : Starts) (t : ℕ) (host : Host) (frames : List Arrival)
      → Each (λ (m : Deed A). W m.by) (frames_made starts t host frames)
  frames_workers A starts t host [] = tt
  frames_workers A starts t host (x ∷ xs) =
      (packet_worker host.flows x.packet, frames_workers A starts t (delivered received_serially starts t host x) xs)

-- ----- what the applications ask
pub asks_fold : {S A : Type 0} (scripts : Scripts S A) (t : ℕ) (site : Site S) (asks : List A)
    → fold (does scripts t) site (by_slow (map Ask asks)) ≡ fold (scripts.asked t) site asks
asks_fold scripts t site [] = refl
asks_fold scripts t site (a ∷ asks) = asks_fold scripts t (scripts.asked t site a) asks
