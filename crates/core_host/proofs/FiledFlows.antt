-- Flows whose records were filed stay as they are, whatever is done to their host: for the law
-- filed_histories_are_kept.
use Rattle.std.proofs.Common.{◌≡◌, ℕ, zero, suc, ◌&&◌, Bool, true, false, List, [], ◌∷◌, ◌++◌, map, fold}
use Rattle.std.proofs.Common.{slice_get, Option, Some, None, IfSome, refl, sym, subst, ap, ◌∙◌, true≢false, arith}
use Rattle.std.proofs.Common.{◌<◌, ◌==◌, length, get_or, is_some}
use Rattle.std.proofs.lemmas.List.Quantifiers.{position-Some}
use Rattle.std.specs.Prelude.{position}
use Rattle.tas_model.specs.declared.entry.Reason.{Reason}
use Rattle.tas_model.specs.ApplicationCalls.{Column, Over, Running, column}
use Rattle.tas_model.specs.Endpoint.{Endpoint}
use Rattle.tas_model.specs.declared.entry.FourTuple.{FourTuple}
use Rattle.tas_model.specs.declared.entry.FrameId.{FrameId}
use Rattle.tas_model.specs.declared.entry.Seg.{Seg}
use Rattle.tas_model.specs.declared.entry.Caller.TheVariants.{Slow}
use Rattle.host_rounds.specs.declared.opening.Start.{Start}
use Rattle.host_rounds.specs.Lists.{change_first, change_at}
use Rattle.host_rounds.specs.Hosts.{Live, Host, Starts, Application, next_start, is_known}
use Rattle.host_rounds.specs.Hosts.{is_indexed_as, is_listening, is_full, lowest_free, is_over, is_held, is_held_by}
use Rattle.host_rounds.specs.Hosts.{endpoint, is_running, is_ready, is_waiting_by}
use Rattle.host_rounds.specs.Deliveries.{Arrival, Packet, Damaged, Segment, received, opens, opened_by_syn}
use Rattle.host_rounds.specs.Deliveries.{met_no_flow, arrived, delivered_packet, delivered}
use Rattle.host_rounds.specs.SerialOrder.{emit_phase}
use Rattle.host_rounds.specs.Upkeep.{quieted}
use Rattle.host_rounds.proofs.Filed.{IsFiled, filed_quieted, filed_unknown}

-- The flow's record was filed: it is closed, and neither the index nor an application has it.
pub record IsAway (l : Live) : Type 0 where
  pub filed : IsFiled l
  pub held : is_held l ≡ false

abbrev pub Keeps : Live → Live → Type 0
Keeps l m = IsAway l → m ≡ l

-- so it is with each flow, at its place; others may have been opened meanwhile
abbrev pub AllKept : (before after : List Live) → Type 0
AllKept [] ms = Unit {0}
AllKept (l ∷ ls) [] = ⊥
AllKept (l ∷ ls) (m ∷ ms) = Keeps l m × AllKept ls ms

abbrev pub Kept : Host → Host → Type 0
Kept before after = AllKept before.flows after.flows

-- ----- lists
pub all_stay : (ls : List Live) → AllKept ls ls
all_stay [] = tt
all_stay (l ∷ ls) = (λ away. refl, all_stay ls)

pub all_both : (ls ms ps : List Live) → AllKept ls ms → AllKept ms ps → AllKept ls ps
all_both [] ms ps a b = tt
all_both (l ∷ ls) [] ps a b = absurd a
all_both (l ∷ ls) (m ∷ ms) [] a b = absurd b
all_both (l ∷ ls) (m ∷ ms) (p ∷ ps) a b = (
  λ away. (let same : m ≡ l = a.0 away in b.0 (subst IsAway (sym same) away) ∙ same),
  all_both ls ms ps a.1 b.1,
)

pub push_kept : (ls : List Live) (m : Live) → AllKept ls (ls ++ m ∷ [])
push_kept [] m = tt
push_kept (l ∷ ls) m = (λ away. refl, push_kept ls m)

pub map_kept : (f : Live → Live) → ((l : Live) → Keeps l (f l)) → (ls : List Live) → AllKept ls (map f ls)
map_kept f each [] = tt
map_kept f each (l ∷ ls) = (each l, map_kept f each ls)

-- the flow at this place, where there is one, isn't put away
pub at_kept : (n : ℕ) (f : Live → Live) (ls : List Live) → IfSome (slice_get ls n) (λ l. IsAway l → ⊥)
    → AllKept ls (change_at n f ls)
at_kept n f [] there = tt
at_kept zero f (l ∷ ls) there = (λ away. absurd (there away), all_stay ls)
at_kept (suc n) f (l ∷ ls) there = (λ away. refl, at_kept n f ls there)

first_kept : (tuple : FourTuple) (f : Live → Live) (ls : List Live)
    → AllKept ls (change_first (is_indexed_as tuple) f ls)
first_kept tuple f [] = tt
first_kept tuple f (l ∷ ls) = by_test (is_indexed_as tuple l) refl (first_kept tuple f ls) where
  by_test : (b : Bool) → is_indexed_as tuple l ≡ b → AllKept ls (change_first (is_indexed_as tuple) f ls)
      → AllKept (l ∷ ls) (elim b [ true ↦ f l ∷ ls | false ↦ l ∷ change_first (is_indexed_as tuple) f ls ])
  by_test true is rest =
      (λ away. absurd (true≢false (sym is ∙ filed_unknown tuple l away.filed)), all_stay ls)
  by_test false is rest = (λ away. refl, rest)

-- ----- frames
syn_kept : (full : Bool) (free : Option ℕ) (start : Start) (t : ℕ) (host : Host) (frame : FrameId) (tuple : FourTuple)
    (seg : Seg) → Kept host (opened_by_syn full free start t host frame tuple seg)
syn_kept true free start t host frame tuple seg = all_stay host.flows
syn_kept false None start t host frame tuple seg = all_stay host.flows
syn_kept false (Some slot) start t host frame tuple seg = push_kept host.flows _

no_flow_kept : (opening listening : Bool) (start : Start) (t : ℕ) (host : Host) (frame : FrameId) (tuple : FourTuple)
    (seg : Seg) → Kept host (met_no_flow opening listening start t host frame tuple seg)
no_flow_kept true listening start t host frame tuple seg =
    syn_kept (is_full host tuple.lport) (lowest_free host) start t host frame tuple seg
no_flow_kept false listening start t host frame tuple seg = all_stay host.flows

arrived_kept : (known : Bool) (take_in : Live → Live) (start : Start) (t : ℕ) (host : Host) (frame : FrameId)
    (tuple : FourTuple) (seg : Seg) → Kept host (arrived known take_in start t host frame tuple seg)
arrived_kept true take_in start t host frame tuple seg = first_kept tuple take_in host.flows
arrived_kept false take_in start t host frame tuple seg =
    no_flow_kept (is_listening host tuple.lport && opens seg)
    (is_listening host tuple.lport) start t host frame tuple seg

packet_kept : (starts : Starts) (t : ℕ) (host : Host) (frame : FrameId) (packet : Packet)
    → Kept host (delivered_packet (received Slow) starts t host frame packet)
packet_kept starts t host frame (Damaged rule) = all_stay host.flows
packet_kept starts t host frame (Segment tuple seg) =
    arrived_kept (is_known host tuple) (received Slow t frame seg) (next_start starts host tuple) t host frame tuple seg

pub frames_kept : (starts : Starts) (t : ℕ) (host : Host) (xs : List Arrival)
    → Kept host (fold (delivered (received Slow) starts t) host xs)
frames_kept starts t host [] = all_stay host.flows
frames_kept starts t host (x ∷ xs) =
    let next : Host = delivered (received Slow) starts t host x in
    all_both host.flows next.flows (fold (delivered (received Slow) starts t) next xs).flows
    (packet_kept starts t host x.frame x.packet) (frames_kept starts t next xs)

-- ----- emissions
pub emissions_kept : (t : ℕ) (host : Host) → Kept host (emit_phase t host)
emissions_kept t host = map_kept (quieted t) (λ l away. filed_quieted t l away.filed) host.flows

-- ----- applications
-- the flow at this place isn't put away
abbrev pub Stands : List Live → (place : ℕ) → Type 0
Stands ls n = IfSome (slice_get ls n) (λ l. IsAway l → ⊥)

-- it is changed, and then changed again
pub twice_kept : (n : ℕ) (f g : Live → Live) (ls : List Live) → Stands ls n
    → AllKept ls (change_at n g (change_at n f ls))
twice_kept n f g [] there = tt
twice_kept zero f g (l ∷ ls) there = (λ away. absurd (there away), all_stay ls)
twice_kept (suc n) f g (l ∷ ls) there = (λ away. refl, twice_kept n f g ls there)

-- an application has it
pub held_stands : (ls : List Live) (n app : ℕ) (l : Live) → slice_get ls n ≡ Some l → l.holder ≡ Application app
    → Stands ls n
held_stands ls n app l there is =
    subst (λ (o : Option Live). IfSome o (λ m. IsAway m → ⊥)) (sym there)
    (λ away. true≢false (sym (ap is_held_by is) ∙ away.held))

running_not : (e : Endpoint) (why : Reason) → e.reason ≡ Some why
    → (elim (column e) [ Running ↦ true | _ ↦ false ]) ≡ false
running_not e why r =
    let over : column e ≡ Over why = rw r refl in
    subst (λ (c : Column). (elim c [ Running ↦ true | _ ↦ false ]) ≡ false) (sym over) refl

running_open : (l : Live) → is_running l ≡ true → is_over l ≡ true → ⊥
running_open l runs over = by_reason (endpoint l).reason refl
  where
    by_reason : (o : Option Reason) → (endpoint l).reason ≡ o → ⊥
    by_reason None r = true≢false (sym over ∙ ap is_some r)
    by_reason (Some why) r = true≢false (sym runs ∙ running_not (endpoint l) why r)

and_right : (a b : Bool) → (a && b) ≡ true → b ≡ true
and_right true b h = h
and_right false b h = absurd (true≢false (sym h))

all_places : (P : Live → Type 0) (ls : List Live) (n : ℕ) → ((d : Live) → n < length ls → P (get_or ls n d))
    → IfSome (slice_get ls n) P
all_places P [] n each = tt
all_places P (l ∷ ls) zero each = each l (omega arith)
all_places P (l ∷ ls) (suc n) each = all_places P ls n (λ d near. each d (omega (arith, near)))

-- it may be accepted
pub ready_stands : (ls : List Live) (n port : ℕ) → position (is_ready port) ls ≡ Some n → Stands ls n
ready_stands ls n port found =
    all_places (λ (l : Live). IsAway l → ⊥) ls n
    (λ d near away. running_open (get_or ls n d)
    (and_right ((get_or ls n d).flow.tuple.lport == port && is_waiting_by (get_or ls n d).holder)
    (is_running (get_or ls n d)) (position-Some (is_ready port) ls n d found).1) away.filed.over)
