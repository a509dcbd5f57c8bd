-- A host keeps its parameters and loses no flow, whatever it does in a tick.
use Rattle.std.proofs.Common.{◌≡◌, ◌≤◌, ℕ, suc, Bool, true, false, List, [], ◌∷◌, length, map}
use Rattle.std.proofs.Common.{fold}
use Rattle.std.proofs.Common.{Option, Some, None, refl, sym, ap, subst, ◌∙◌, ◌&&◌, arith, length-append}
use Rattle.std.proofs.lemmas.List.{length-map}
use Rattle.tas_model.specs.declared.entry.FourTuple.{FourTuple}
use Rattle.tas_model.specs.declared.entry.FrameId.{FrameId}
use Rattle.tas_model.specs.declared.entry.Seg.{Seg}
use Rattle.tas_model.specs.declared.entry.Entry.{Entry}
use Rattle.tas_model.specs.declared.entry.Caller.TheVariants.{Slow}
use Rattle.host_rounds.specs.Lists.{change_first, change_at}
use Rattle.host_rounds.specs.declared.opening.Start.{Start}
use Rattle.host_rounds.specs.Hosts.{Live, Host, Holder, Starts, next_start, is_known, is_indexed_as, is_listening}
use Rattle.host_rounds.specs.Hosts.{is_full}
use Rattle.host_rounds.specs.Hosts.{lowest_free, at_flow, opened_in, new_flow}
use Rattle.host_rounds.specs.Upkeep.{swept, timed, quieted}
use Rattle.host_rounds.specs.Deliveries.{Arrival, Packet, Damaged, Segment, Taking, opens, opened_by_syn}
use Rattle.host_rounds.specs.Deliveries.{met_no_flow, arrived}
use Rattle.host_rounds.specs.Deliveries.{delivered, delivered_packet}
use Rattle.host_rounds.specs.SerialOrder.{slow_phase, emit_phase}
use Rattle.asked_host.proofs.Accepting.{length_at}

-- the later host has the same parameters, and all flows of the earlier one
pub record Lasts (before after : Host) : Type 0 where
  pub params : after.params ≡ before.params
  pub grown : length before.flows ≤ length after.flows

pub lasts_same : (host : Host) → Lasts host host
lasts_same host = record { params = refl; grown = omega arith }

pub lasts_both : (a b c : Host) → Lasts a b → Lasts b c → Lasts a c
lasts_both a b c first then = record {
  params = then.params ∙ first.params;
  grown = omega (arith, first.grown, then.grown);
}

-- ----- changes of flows
length_first : (test : Live → Bool) (f : Live → Live) (ls : List Live) → length (change_first test f ls) ≡ length ls
length_first test f [] = refl
length_first test f (l ∷ ls) = by_test (test l) (length_first test f ls) where
  by_test : (b : Bool) → length (change_first test f ls) ≡ length ls
      → length {A = Live} (elim b [ true ↦ f l ∷ ls | false ↦ l ∷ change_first test f ls ]) ≡ length (l ∷ ls)
  by_test true same = refl
  by_test false same = ap suc same

pub lasts_flows : (host : Host) (ls : List Live) → length ls ≡ length host.flows
    → Lasts host (record host { flows = ls })
lasts_flows host ls same = record { params = refl; grown = omega (arith, same) }

pub lasts_at : (f : Live → Live) (n : ℕ) (host : Host) → Lasts host (at_flow n f host)
lasts_at f n host = lasts_flows host (change_at n f host.flows) (length_at f n host.flows)

pub lasts_map : (f : Live → Live) (host : Host) → Lasts host (record host { flows = map f host.flows })
lasts_map f host = lasts_flows host (map f host.flows) (length-map host.flows f)

pub lasts_opened : (host : Host) (slot : ℕ) (tuple : FourTuple) (scale : Option ℕ) (holder : Holder) (x : Entry)
    → Lasts host (opened_in host slot tuple scale holder x)
lasts_opened host slot tuple scale holder x = record {
  params = refl;
  grown = omega (arith, length-append host.flows (new_flow host slot tuple scale holder x ∷ []));
}

-- ----- phases
pub lasts_slow : (t : ℕ) (host : Host) → Lasts host (slow_phase t host)
lasts_slow t host =
    lasts_flows host (map (timed Slow t) (map swept host.flows))
    (length-map (map swept host.flows) (timed Slow t) ∙ length-map host.flows swept)

pub lasts_emit : (t : ℕ) (host : Host) → Lasts host (emit_phase t host)
lasts_emit t host = lasts_map (quieted t) host

lasts_syn : (full : Bool) (free : Option ℕ) (start : Start) (t : ℕ) (host : Host) (frame : FrameId) (tuple : FourTuple)
    (seg : Seg) → Lasts host (opened_by_syn full free start t host frame tuple seg)
lasts_syn true free start t host frame tuple seg = record { params = refl; grown = omega arith }
lasts_syn false None start t host frame tuple seg = record { params = refl; grown = omega arith }
lasts_syn false (Some slot) start t host frame tuple seg = lasts_opened host slot tuple _ _ _

lasts_no_flow : (opening listening : Bool) (start : Start) (t : ℕ) (host : Host) (frame : FrameId) (tuple : FourTuple)
    (seg : Seg) → Lasts host (met_no_flow opening listening start t host frame tuple seg)
lasts_no_flow true listening start t host frame tuple seg =
    lasts_syn (is_full host tuple.lport) (lowest_free host) start t host frame tuple seg
lasts_no_flow false listening start t host frame tuple seg = record { params = refl; grown = omega arith }

lasts_arrived : (known : Bool) (take_in : Live → Live) (start : Start) (t : ℕ) (host : Host) (frame : FrameId)
    (tuple : FourTuple) (seg : Seg) → Lasts host (arrived known take_in start t host frame tuple seg)
lasts_arrived true take_in start t host frame tuple seg =
    lasts_flows host (change_first (is_indexed_as tuple) take_in host.flows)
    (length_first (is_indexed_as tuple) take_in host.flows)
lasts_arrived false take_in start t host frame tuple seg =
    lasts_no_flow (is_listening host tuple.lport && opens seg) (is_listening host tuple.lport) start t host frame tuple
    seg

lasts_packet : (taking : Taking) (starts : Starts) (t : ℕ) (host : Host) (frame : FrameId) (packet : Packet)
    → Lasts host (delivered_packet taking starts t host frame packet)
lasts_packet taking starts t host frame (Damaged rule) = record { params = refl; grown = omega arith }
lasts_packet taking starts t host frame (Segment tuple seg) =
    lasts_arrived (is_known host tuple) (taking t frame seg) (next_start starts host tuple) t host frame tuple seg

pub lasts_frame : (taking : Taking) (starts : Starts) (t : ℕ) (host : Host) (x : Arrival)
    → Lasts host (delivered taking starts t host x)
lasts_frame taking starts t host x = lasts_packet taking starts t host x.frame x.packet

pub lasts_frames : (taking : Taking) (starts : Starts) (t : ℕ) (frames : List Arrival) (host : Host)
    → Lasts host (fold (delivered taking starts t) host frames)
lasts_frames taking starts t [] host = lasts_same host
lasts_frames taking starts t (x ∷ xs) host =
    let next : Host = delivered taking starts t host x in
    lasts_both host next (fold (delivered taking starts t) next xs)
    (lasts_frame taking starts t host x) (lasts_frames taking starts t xs next)

pub lasts_made : (before after made : Host) → after ≡ made → Lasts before made → Lasts before after
lasts_made before after made is lasts = subst (Lasts before) (sym is) lasts
