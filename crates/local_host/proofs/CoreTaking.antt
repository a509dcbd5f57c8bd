-- What cores took, among the flows of a host: all that is known of the flows stays.
use Rattle.std.proofs.Common.{◌≡◌, ℕ, zero, suc, arith, append_assoc, ◌<◌, ◌++◌, List, [], ◌∷◌, length, get_or}
use Rattle.std.proofs.Common.{map, fold, All, Bool, true, false}
use Rattle.std.proofs.Common.{Option, Some, None, is_some, slice_get, refl, sym, ap, subst, ◌∙◌, true≢false}
use Rattle.std.specs.Prelude.{IsPermutation}
use Rattle.std.specs.List.{filter}
use Rattle.std.proofs.lemmas.List.Elements.{All-head, All-tail, All-nil}
use Rattle.tas_model.specs.declared.entry.FourTuple.{FourTuple}
use Rattle.tas_model.specs.declared.entry.FrameId.{FrameId}
use Rattle.tas_model.specs.declared.entry.HostParams.{HostParams}
use Rattle.tas_model.specs.declared.entry.Seg.{Seg}
use Rattle.tas_model.specs.declared.entry.Caller.TheVariants.{Core, App}
use Rattle.host_rounds.specs.Hosts.{Live, Host, Starts, is_indexed_as, next_start}
use Rattle.host_rounds.specs.Deliveries.{Packet, Damaged, Segment, Arrival, received, arrived}
use Rattle.host_rounds.specs.Deliveries.{delivered_packet}
use Rattle.core_rounds.specs.CoreTicks.{Taken, taken_by_cores, is_frame}
use Rattle.local_host.specs.declared.host.Listener as code
use Rattle.local_host.specs.Arriving.{arrival_in}
use Rattle.std.proofs.Common.{Result, Ok, Err, IfOk, OnOk, OnErr}
use Rattle.local_host.specs.declared.flows.Openings.{Openings}
use Rattle.local_host.specs.declared.lanes.Handed.{Handed}
use Rattle.local_host.specs.declared.lanes.Job.{Job}
use Rattle.local_host.specs.declared.lanes.Lane.{Lane}
use Rattle.local_host.specs.declared.attempts.Attempt.{Attempt}
use Rattle.local_host.specs.declared.attempts.Trial.{Trial}
use Rattle.local_host.specs.declared.cores.SideWork.{SideWork}
use Rattle.local_host.specs.SideWork.{IsSideWork, IsSidePhase}
use Rattle.local_host.specs.Trying.{AreAnswered, AreMade, IsMadeBy, IsMade, attempt_of, put_trials, tried_trial}
use Rattle.local_host.specs.Trying.{tried_live, held_after, unanswered, CanTry, CanTryIt}
use Rattle.local_host.proofs.Asking.{asked, asked_calms}
use Rattle.flow_state.specs.declared.call.Answer.{Answer}
use Rattle.flow_state.specs.declared.call.CallIn.{CallIn}
use Rattle.flow_state.specs.declared.call.CallIn.TheVariants as ins
use Rattle.flow_state.specs.Calls.{call_of, offer_of}
use Rattle.tas_model.specs.Endpoint.{is_closed}
use Rattle.tas_model.specs.LegalHistory.{replay}
use Rattle.host_rounds.specs.Logs.{Flow}
use Rattle.local_host.proofs.HandingOut.{in_lanes}
use Rattle.local_host.proofs.Trying.{tried_answered, both_made, none_made, can_try}
use Rattle.local_host.proofs.LaneLists.{perm_by, crossed}
use Rattle.std.proofs.lemmas.List.Sorted.{IsPermutation-refl, IsPermutation-trans, IsPermutation-append}
use Rattle.std.proofs.lemmas.List.Sorted.{IsPermutation-append_left, IsPermutation-append_comm, IsPermutation-sym}
use Rattle.local_host.specs.Index.{IsKnown}
use Rattle.local_host.specs.Ports.{IsHost}
use Rattle.local_host.specs.Lanes.{worked_job, left_by, IsWorked, packet_taken}
use Rattle.local_host.specs.Handing.{place_in, jobs_in, left_in, strays_in, trials_in, taken_packet, flow_taken}
use Rattle.local_host.specs.Handing.{TookFrames, IsLendingOut, AreFilled, AreGathered}
use Rattle.local_host.proofs.Indexing.{Keeps}
use Rattle.local_host.proofs.Standing.{Stays, Calms, known_change, known_calm, found_stands}
use Rattle.local_host.proofs.Ports.{host_change, host_none}
use Rattle.local_host.proofs.Places.{found_change}
use Rattle.local_host.proofs.Hosting.{known_is}
use Rattle.local_host.specs.Lanes.{arrival_of, left_of}
use Rattle.local_host.specs.Handing.{AreHanded, AreDistinct, AreLanes, put_jobs, IsSteered, IsSteeredPhase}
use Rattle.local_host.proofs.LaneWork.{taken_shape, place_kept, frame_done, took_frames}

-- ----- lanes that worked
left_both : (t : ℕ) (js ks : List Job) → left_by t (js ++ ks) ≡ left_by t js ++ left_by t ks
left_both t [] ks = refl
left_both t (j ∷ js) ks =
    ap (λ (hs : List Handed). left_of j.core t j.frames.items j.flow ++ hs) (left_both t js ks)
    ∙ sym (append_assoc (left_of j.core t j.frames.items j.flow) (left_by t js) (left_by t ks))

map_both : {A B : Type 0} (f : A → B) (xs ys : List A) → map f (xs ++ ys) ≡ map f xs ++ map f ys
map_both f [] ys = refl
map_both {A} {B} f (x ∷ xs) ys = ap (λ (zs : List B). f x ∷ zs) (map_both f xs ys)

-- what each lane did, all did
pub lanes_worked : (t : ℕ) (lanes after : List Lane) → length after ≡ length lanes
    → ((i : ℕ) (d : Lane) → i < length lanes → (get_or after i d).failed ≡ false
    → IsWorked t (get_or lanes i d) (get_or after i d))
    → All (λ (l : Lane). l.failed ≡ false) after → All (λ (l : Lane). l.left.items ≡ []) lanes
    → (jobs_in after ≡ map (worked_job t) (jobs_in lanes))
    × IsPermutation (left_in after) (left_by t (jobs_in lanes) ++ strays_in lanes)
    × (trials_in after ≡ map (tried_trial t) (trials_in lanes))
lanes_worked t [] [] len each done fresh = (refl, IsPermutation-refl [], refl)
lanes_worked t [] (a ∷ bs) len each done fresh = absurd (omega (arith, len))
lanes_worked t (l ∷ ls) [] len each done fresh = absurd (omega (arith, len))
lanes_worked t (l ∷ ls) (a ∷ rest) len each done fresh =
    let mine : IsWorked t l a = each 0 a (omega arith) (All-head (λ (m : Lane). m.failed ≡ false) a rest done) in
    let others = lanes_worked t ls rest (omega (arith, len))
    (λ i d low ok. each (suc i) d (omega (arith, low)) ok)
    (All-tail (λ (m : Lane). m.failed ≡ false) a rest done) (All-tail (λ (m : Lane). m.left.items ≡ []) l ls fresh) in (
      ap (λ (js : List Job). js ++ jobs_in rest) mine.jobs
          ∙ (ap (λ (js : List Job). map (worked_job t) l.jobs.items ++ js) others.0
          ∙ sym (map_both (worked_job t) l.jobs.items (jobs_in ls))),
      subst (λ (hs : List Handed). IsPermutation (left_in (a ∷ rest)) (hs ++ strays_in (l ∷ ls)))
          (sym (left_both t l.jobs.items (jobs_in ls)))
          (IsPermutation-trans (left_in (a ∷ rest))
          ((left_by t l.jobs.items ++ l.strays.items) ++ (left_by t (jobs_in ls) ++ strays_in ls))
          ((left_by t l.jobs.items ++ left_by t (jobs_in ls)) ++ (l.strays.items ++ strays_in ls))
          (IsPermutation-append a.left.items (left_by t l.jobs.items ++ l.strays.items) (left_in rest)
          (left_by t (jobs_in ls) ++ strays_in ls)
          (perm_by a.left.items (left_by t l.jobs.items ++ l.strays.items)
          (mine.left ∙ ap (λ (hs : List Handed). (hs ++ left_by t l.jobs.items) ++ l.strays.items)
          (All-head (λ (m : Lane). m.left.items ≡ []) l ls fresh)))
          others.1)
          (crossed (left_by t l.jobs.items) l.strays.items (left_by t (jobs_in ls)) (strays_in ls))),
      ap (λ (xs : List Trial). xs ++ trials_in rest) mine.trials
          ∙ (ap (λ (xs : List Trial). map (tried_trial t) l.trials.items ++ xs) others.2
          ∙ sym (map_both (tried_trial t) l.trials.items (trials_in ls))),
    )

-- ----- the whole of a tick's frames
pub cores_took : (t : ℕ) (old now lent put end : List Live) (jobs : List Job) (left rest : List Handed)
    (given attempts : List (Option Attempt)) (cores : List ℕ) (frames : List Arrival) (lanes after : List Lane)
    → AreHanded old now jobs left cores frames → AreDistinct frames
    → IsLendingOut now lent given jobs left lanes → AreAnswered given given
    → length after ≡ length lanes
    → ((i : ℕ) (d : Lane) → i < length lanes → (get_or after i d).failed ≡ false
    → IsWorked t (get_or lanes i d) (get_or after i d))
    → All (λ (l : Lane). l.failed ≡ false) after → put ≡ put_jobs (jobs_in after) lent
    → end ≡ put_trials (trials_in after) put → attempts ≡ map attempt_of (trials_in after)
    → IsPermutation (left_in after) rest
    → IsSideWork t old cores frames (map arrival_of rest) given attempts end
cores_took t old now lent put end jobs left rest given attempts cores frames lanes after handed distinct out fresh len
    each done back ends told sorted = record {
      middle = put_jobs (map (worked_job t) (jobs_in lanes)) now;
      took = took_frames t old now jobs (jobs_in lanes) left rest cores frames handed distinct are.moved are.shuffled
          gathered;
      same = subst (AreAnswered given) (sym told_by) (tried_answered t given out.trials out.lent.tried fresh);
      made = subst
          (λ (ys : List (Option Attempt)). AreMade t ys (put_jobs (map (worked_job t) (jobs_in lanes)) now) end)
          (sym told_by)
          (subst (AreMade t (map attempt_of (map (tried_trial t) out.trials))
          (put_jobs (map (worked_job t) (jobs_in lanes)) now)) (sym ended)
          (both_made t old now lent jobs (jobs_in lanes) left cores frames given out.trials handed are.moved out.lent
          fresh));
    } where
      are : AreLanes jobs left out.trials lanes
      are = out.have

      worked : (jobs_in after ≡ map (worked_job t) (jobs_in lanes))
          × IsPermutation (left_in after) (left_by t (jobs_in lanes) ++ strays_in lanes)
          × (trials_in after ≡ map (tried_trial t) (trials_in lanes))
      worked = lanes_worked t lanes after len each done are.fresh

      trials : trials_in after ≡ map (tried_trial t) out.trials
      trials = worked.2 ∙ ap (map (tried_trial t)) are.tried

      told_by : attempts ≡ map attempt_of (map (tried_trial t) out.trials)
      told_by = told ∙ ap (map attempt_of) trials

      ended : end ≡ put_trials (map (tried_trial t) out.trials) (put_jobs (map (worked_job t) (jobs_in lanes)) lent)
      ended = ends ∙ (ap (λ (xs : List Trial). put_trials xs put) trials
          ∙ ap (put_trials (map (tried_trial t) out.trials))
          (back ∙ ap (λ (js : List Job). put_jobs js lent) worked.0))

      gathered : IsPermutation (left ++ left_by t (jobs_in lanes)) rest
      gathered =
          let ls : List Handed = left_by t (jobs_in lanes) in
          IsPermutation-trans (left ++ ls) (strays_in lanes ++ ls) rest
          (IsPermutation-append_left ls left (strays_in lanes) are.passed)
          (IsPermutation-trans (strays_in lanes ++ ls) (ls ++ strays_in lanes) rest
          (IsPermutation-append_comm (strays_in lanes) ls)
          (IsPermutation-trans (ls ++ strays_in lanes) (left_in after) rest
          (IsPermutation-sym (left_in after) (ls ++ strays_in lanes) worked.1) sorted))

-- of lanes that were filled, that worked, and whose work was gathered
pub lanes_took : {t : ℕ} {old lent after : List Live} {given attempts : List (Option Attempt)} {cores : List ℕ}
    {frames rest : List Arrival} {lanes worked : List Lane}
    → AreFilled old lent given cores frames lanes → AreDistinct frames → AreAnswered given given
    → length worked ≡ length lanes
    → ((i : ℕ) (d : Lane) → i < length lanes → (get_or worked i d).failed ≡ false
    → IsWorked t (get_or lanes i d) (get_or worked i d))
    → AreGathered lent worked rest attempts after
    → IsSideWork t old cores frames rest given attempts after
lanes_took {t} {old} {lent} {after} {given} {attempts} {cores} {frames} {rest} {lanes} {worked} filled distinct fresh
    len each all =
    subst (λ (xs : List Arrival). IsSideWork t old cores frames xs given attempts after) (sym all.rest)
    (cores_took t old filled.middle lent (put_jobs (jobs_in worked) lent) after filled.jobs filled.left all.left given
    attempts cores frames lanes worked filled.handed distinct filled.lending fresh len each all.done refl all.flows
    all.attempts all.sorted)

pub lanes_try : {old lent : List Live} {given : List (Option Attempt)} {cores : List ℕ} {frames : List Arrival}
    {lanes : List Lane} → AreFilled old lent given cores frames lanes → All CanTryIt given
    → All (λ (l : Lane). All CanTry l.trials.items) lanes
lanes_try {old} {lent} {given} {cores} {frames} {lanes} filled tries =
    in_lanes CanTry lanes (subst (All CanTry) (sym filled.lending.have.tried)
    (can_try given filled.lending.trials filled.lending.lent.tried tries))

-- ----- one frame
found_at : (F : List Live) (p : Packet) → is_some (place_in F p) ≡ true → (i : ℕ) × (place_in F p ≡ Some i)
found_at F p known = by_place (place_in F p) refl known where
  by_place : (o : Option ℕ) → place_in F p ≡ o → is_some o ≡ true → (i : ℕ) × (place_in F p ≡ Some i)
  by_place None is h = absurd (true≢false (sym h))
  by_place (Some i) is h = (i, is)

core_keeps : (core t : ℕ) (frame : FrameId) (seg : Seg) → Keeps (received (Core core) t frame seg)
core_keeps core t frame seg = record { same = λ l. record { tuple = refl; id = refl; index = λ h. h } }

core_stays : (core t : ℕ) (frame : FrameId) (seg : Seg) → Stays (received (Core core) t frame seg)
core_stays core t frame seg l = refl

frame_known : (known : FourTuple → Option Openings) (slots : ℕ → Option ℕ) (places : List ℕ) (given : ℕ)
    (marks : List Bool) (core t : ℕ) (frame : FrameId) (p : Packet) (F : List Live) → is_some (place_in F p) ≡ true
    → IsKnown known slots places given marks F → IsKnown known slots places given marks (taken_packet core t frame p F)
frame_known known slots places given marks core t frame (Damaged rule) F here is = is
frame_known known slots places given marks core t frame (Segment tuple seg) F here is =
    let f : Live → Live = received (Core core) t frame seg in
    let at = found_at F (Segment tuple seg) here in
    subst (IsKnown known slots places given marks) (found_change (is_indexed_as tuple) f F at.0 at.1).1
    (known_change known slots places given marks f F at.0 (core_keeps core t frame seg) (core_stays core t frame seg)
    (found_stands tuple F at.0 at.1 is.filed) is)

frame_host : {params : HostParams} {listeners : List code.Listener} (core t : ℕ) (frame : FrameId) (p : Packet)
    (F : List Live) → is_some (place_in F p) ≡ true → IsHost params listeners F
    → IsHost params listeners (taken_packet core t frame p F)
frame_host core t frame (Damaged rule) F here is = is
frame_host {params} {listeners} core t frame (Segment tuple seg) F here is =
    let f : Live → Live = received (Core core) t frame seg in
    let at = found_at F (Segment tuple seg) here in
    subst (IsHost params listeners) (found_change (is_indexed_as tuple) f F at.0 at.1).1
    (host_change f at.0 (core_keeps core t frame seg) is)

-- a frame leads to where it led
pub there : (F : List Live) (i : ℕ) (d : Live) → i < length F → slice_get F i ≡ Some (get_or F i d)
there [] i d low = absurd (omega (arith, low))
there (l ∷ ls) zero d low = refl
there (l ∷ ls) (suc i) d low = there ls i d (omega (arith, low))

pub place_below : (p : Packet) (F : List Live) (i : ℕ) → place_in F p ≡ Some i → i < length F
place_below (Damaged rule) F i h = absurd (cc (h))
place_below (Segment tuple seg) F i h = (found_change (is_indexed_as tuple) (λ (l : Live). l) F i h).0

frame_leads : (core t : ℕ) (frame : FrameId) (p q : Packet) (F : List Live) → is_some (place_in F p) ≡ true
    → place_in (taken_packet core t frame p F) q ≡ place_in F q
frame_leads core t frame p q [] here = by_none p here where
  by_none : (r : Packet) → is_some (place_in [] r) ≡ true → place_in (taken_packet core t frame r []) q ≡ place_in [] q
  by_none (Damaged rule) h = refl
  by_none (Segment tuple seg) h = refl
frame_leads core t frame p q (l ∷ ls) here =
    let F : List Live = l ∷ ls in
    let at = found_at F p here in
    let i : ℕ = at.0 in
    let low : i < length F = place_below p F i at.1 in
    let m : Live = get_or F i l in
    let stands : slice_get F i ≡ Some m = there F i l low in
    ap (λ (G : List Live). place_in G q) (frame_done core t i frame p F m stands at.1)
    ∙ place_kept F i m (packet_taken core t frame p m) q stands (taken_shape core t frame p m)

-- ----- all that were taken
abbrev AreKnown : List Live → List Taken → Type 0
AreKnown F order = All (λ (x : Taken). is_some (place_in F x.arrival.packet) ≡ true) order

rest_known : (t : ℕ) (F : List Live) (x : Taken) (order : List Taken) → AreKnown F (x ∷ order)
    → AreKnown (flow_taken t F x) order
rest_known t F x order all = λ k d low.
    ap is_some (frame_leads x.core t x.arrival.frame x.arrival.packet (get_or order k d).arrival.packet F
    (All-head (λ (y : Taken). is_some (place_in F y.arrival.packet) ≡ true) x order all))
    ∙ All-tail (λ (y : Taken). is_some (place_in F y.arrival.packet) ≡ true) x order all k d low

first_known : (F : List Live) (x : Taken) (order : List Taken) → AreKnown F (x ∷ order)
    → is_some (place_in F x.arrival.packet) ≡ true
first_known F x order all = All-head (λ (y : Taken). is_some (place_in F y.arrival.packet) ≡ true) x order all

-- after them all a frame leads to where it led
pub order_leads : (t : ℕ) (order : List Taken) (F : List Live) (q : Packet) → AreKnown F order
    → place_in (fold (flow_taken t) F order) q ≡ place_in F q
order_leads t [] F q all = refl
order_leads t (x ∷ order) F q all =
    order_leads t order (flow_taken t F x) q (rest_known t F x order all)
    ∙ frame_leads x.core t x.arrival.frame x.arrival.packet q F (first_known F x order all)

order_known : (known : FourTuple → Option Openings) (slots : ℕ → Option ℕ) (places : List ℕ) (given : ℕ)
    (marks : List Bool) (t : ℕ) (order : List Taken) (F : List Live) → AreKnown F order
    → IsKnown known slots places given marks F
    → IsKnown known slots places given marks (fold (flow_taken t) F order)
order_known known slots places given marks t [] F all is = is
order_known known slots places given marks t (x ∷ order) F all is =
    order_known known slots places given marks t order (flow_taken t F x) (rest_known t F x order all)
    (frame_known known slots places given marks x.core t x.arrival.frame x.arrival.packet F (first_known F x order all)
    is)

order_host : {params : HostParams} {listeners : List code.Listener} (t : ℕ) (order : List Taken) (F : List Live)
    → AreKnown F order → IsHost params listeners F → IsHost params listeners (fold (flow_taken t) F order)
order_host t [] F all is = is
order_host {params} {listeners} t (x ∷ order) F all is =
    order_host t order (flow_taken t F x) (rest_known t F x order all)
    (frame_host x.core t x.arrival.frame x.arrival.packet F (first_known F x order all) is)

pub took_known : {known : FourTuple → Option Openings} {slots : ℕ → Option ℕ} {places : List ℕ} {given : ℕ}
    {marks : List Bool} {t : ℕ} {old after : List Live} {cores : List ℕ} {frames rest : List Arrival}
    → TookFrames t old cores frames rest after → IsKnown known slots places given marks old
    → IsKnown known slots places given marks after
took_known {known} {slots} {places} {given} {marks} {t} {old} {after} {cores} {frames} {rest} took is =
    subst (IsKnown known slots places given marks) took.made
    (order_known known slots places given marks t took.order old took.known is)

pub took_host : {params : HostParams} {listeners : List code.Listener} {t : ℕ} {old after : List Live}
    {cores : List ℕ} {frames rest : List Arrival} → TookFrames t old cores frames rest after
    → IsHost params listeners old → IsHost params listeners after
took_host {params} {listeners} {t} {old} {after} {cores} {frames} {rest} took is =
    subst (IsHost params listeners) took.made (order_host t took.order old took.known is)

-- ----- the host
packet_done : (starts : Starts) (core t : ℕ) (host : Host) (frame : FrameId) (p : Packet)
    → is_some (place_in host.flows p) ≡ true
    → ◌≡◌ {A = Host} (delivered_packet (received (Core core)) starts t host frame p)
    (record host { flows = taken_packet core t frame p host.flows })
packet_done starts core t host frame (Damaged rule) here = absurd (true≢false (sym here))
packet_done starts core t host frame (Segment tuple seg) here =
    let at = found_at host.flows (Segment tuple seg) here in
    ap (λ (b : Bool). arrived b (received (Core core) t frame seg) (next_start starts host tuple) t host frame tuple
    seg)
    (known_is tuple host at.0 at.1)

order_done : (starts : Starts) (t : ℕ) (order : List Taken) (host : Host) → AreKnown host.flows order
    → ◌≡◌ {A = Host} (taken_by_cores starts t host order)
    (record host { flows = fold (flow_taken t) host.flows order })
order_done starts t [] host all = refl
order_done starts t (x ∷ order) host all =
    ap (λ (h : Host). taken_by_cores starts t h order)
    (packet_done starts x.core t host x.arrival.frame x.arrival.packet (first_known host.flows x order all))
    ∙ order_done starts t order (record host { flows = flow_taken t host.flows x })
    (rest_known t host.flows x order all)

pub took_phase : (t : ℕ) (host : Host) (after : List Live) (cores : List ℕ) (frames rest : List Arrival)
    → TookFrames t host.flows cores frames rest after
    → IsSteeredPhase t host cores frames rest (record host { flows = after })
took_phase t host after cores frames rest took = record {
  phase = record {
    order = took.order;
    shared = took.shared;
    made = λ starts. order_done starts t took.order host took.known
        ∙ ap (λ (F : List Live). record host { flows = F }) took.made;
  };
  steered = took.steered;
}

-- cores took none
pub none_taken : (t : ℕ) (host : Host) (cores : List ℕ) (frames rest : List Arrival) → rest ≡ frames
    → IsSteeredPhase t host cores frames rest host
none_taken t host cores frames rest same = record {
  phase = record {
    order = [];
    shared = λ frame. ap (filter (is_frame frame)) same;
    made = λ starts. refl;
  };
  steered = All-nil (IsSteered cores frames);
}

-- the frames alone
pub frames_alone : (hs : List Handed) → map arrival_in (map (λ (h : Handed). h.arrival) hs) ≡ map arrival_of hs
frames_alone [] = refl
frames_alone (h ∷ hs) = ap (λ (xs : List Arrival). arrival_of h ∷ xs) (frames_alone hs)

-- ----- attempts among what is known of flows
-- who holds it, and nothing else
record IsHeldAs (l m : Live) : Type 0 where
  flow : m.flow ≡ l.flow
  indexed : m.indexed ≡ l.indexed
  filed : m.filed ≡ l.filed

held_as : (call : CallIn) (l : Live) → IsHeldAs l (held_after call l)
held_as (ins.Connect iss) l = record { flow = refl; indexed = refl; filed = refl }
held_as (ins.Passive frame iss seg) l = record { flow = refl; indexed = refl; filed = refl }
held_as (ins.Rx frame seg) l = record { flow = refl; indexed = refl; filed = refl }
held_as ins.Emit l = record { flow = refl; indexed = refl; filed = refl }
held_as ins.Tick l = record { flow = refl; indexed = refl; filed = refl }
held_as ins.Control l = record { flow = refl; indexed = refl; filed = refl }
held_as ins.Accept l = record { flow = refl; indexed = refl; filed = refl }
held_as ins.Ready l = record { flow = refl; indexed = refl; filed = refl }
held_as (ins.Send bytes) l = record { flow = refl; indexed = refl; filed = refl }
held_as (ins.Recv most) l = record { flow = refl; indexed = refl; filed = refl }
held_as ins.Shut l = record { flow = refl; indexed = refl; filed = refl }
held_as ins.Close l = record { flow = refl; indexed = refl; filed = refl }
held_as ins.Abort l = record { flow = refl; indexed = refl; filed = refl }

abbrev asked_by : ℕ → Attempt → Live → Live
asked_by t x l = asked (App x.app) t (call_of x.call) (offer_of x.call) l

tried_keeps : (t : ℕ) (x : Attempt) → Keeps (tried_live t x)
tried_keeps t x = record {
  same =
      λ l. record {
        tuple = ap (λ (f : Flow). f.tuple) (held_as x.call (asked_by t x l)).flow;
        id = ap (λ (f : Flow). f.id) (held_as x.call (asked_by t x l)).flow;
        index = λ h. sym (held_as x.call (asked_by t x l)).indexed ∙ h;
      };
}

tried_calms : (t : ℕ) (x : Attempt) → Calms (tried_live t x)
tried_calms t x l at =
    let rest = asked_calms (App x.app) t (call_of x.call) (offer_of x.call) l at in
    let held = held_as x.call (asked_by t x l) in
    record {
      over = ap (λ (f : Flow). is_closed (replay f.params f.entries)) held.flow ∙ rest.over;
      index = held.indexed ∙ rest.index;
    }

tried_stays : (t : ℕ) (x : Attempt) → Stays (tried_live t x)
tried_stays t x l = (held_as x.call (asked_by t x l)).filed

one_known : (known : FourTuple → Option Openings) (slots : ℕ → Option ℕ) (places : List ℕ) (given : ℕ)
    (marks : List Bool) (t : ℕ) (x : Attempt) (o : Option Answer) (F G : List Live) → IsMadeBy t x o F G
    → IsKnown known slots places given marks F → IsKnown known slots places given marks G
one_known known slots places given marks t x None F G made is = subst (IsKnown known slots places given marks) made is
one_known known slots places given marks t x (Some a) F G made is =
    subst (IsKnown known slots places given marks) made.2
    (known_calm known slots places given marks (tried_live t x) F x.place (tried_keeps t x) (tried_calms t x)
    (tried_stays t x) is)

made_known : (known : FourTuple → Option Openings) (slots : ℕ → Option ℕ) (places : List ℕ) (given : ℕ)
    (marks : List Bool) (t : ℕ) (xs : List (Option Attempt)) (F G : List Live) → AreMade t xs F G
    → IsKnown known slots places given marks F → IsKnown known slots places given marks G
made_known known slots places given marks t [] F G made is = subst (IsKnown known slots places given marks) made is
made_known known slots places given marks t (x ∷ xs) F G made is =
    made_known known slots places given marks t xs made.0 G made.2 (by_attempt x made.1) where
      by_attempt : (o : Option Attempt) → IsMade t o F made.0 → IsKnown known slots places given marks made.0
      by_attempt None one = subst (IsKnown known slots places given marks) one is
      by_attempt (Some y) one = one_known known slots places given marks t y y.answer F made.0 one is

one_host : {params : HostParams} {listeners : List code.Listener} (t : ℕ) (x : Attempt) (o : Option Answer)
    (F G : List Live) → IsMadeBy t x o F G → IsHost params listeners F → IsHost params listeners G
one_host {params} {listeners} t x None F G made is = subst (IsHost params listeners) made is
one_host {params} {listeners} t x (Some a) F G made is =
    subst (IsHost params listeners) made.2 (host_change (tried_live t x) x.place (tried_keeps t x) is)

made_host : {params : HostParams} {listeners : List code.Listener} (t : ℕ) (xs : List (Option Attempt))
    (F G : List Live) → AreMade t xs F G → IsHost params listeners F → IsHost params listeners G
made_host {params} {listeners} t [] F G made is = subst (IsHost params listeners) made is
made_host {params} {listeners} t (x ∷ xs) F G made is = made_host t xs made.0 G made.2 (by_attempt x made.1) where
  by_attempt : (o : Option Attempt) → IsMade t o F made.0 → IsHost params listeners made.0
  by_attempt None one = subst (IsHost params listeners) one is
  by_attempt (Some y) one = one_host t y y.answer F made.0 one is

-- ----- what a call gave
abbrev Given : {E : Type 0} (t : ℕ) (old after : List Live) (cores : List ℕ) (frames : List Arrival)
    (given : List (Option Attempt)) → Result SideWork E → Type 0
Given t old after cores frames given r =
    IfOk r (λ (w : SideWork).
    IsSideWork t old cores frames (map arrival_in w.rest.items) given w.attempts.items after)

pub sound_side : {E : Type 0} {known : FourTuple → Option Openings} {slots : ℕ → Option ℕ} {places : List ℕ}
    {count : ℕ} {marks : List Bool} (t : ℕ) (old after : List Live) (cores : List ℕ) (frames : List Arrival)
    (given : List (Option Attempt)) (r : Result SideWork E)
    → Given t old after cores frames given r → IsKnown known slots places count marks old
    → OnOk r (IsKnown known slots places count marks after)
sound_side {E} {known} {slots} {places} {count} {marks} t old after cores frames given (Ok w) side is =
    made_known known slots places count marks t w.attempts.items side.middle after side.made (took_known side.took is)
sound_side t old after cores frames given (Err e) side is = tt

pub host_side : {E : Type 0} {params : HostParams} {listeners : List code.Listener} (t : ℕ) (old after : List Live)
    (cores : List ℕ) (frames : List Arrival) (given : List (Option Attempt)) (r : Result SideWork E)
    → Given t old after cores frames given r → OnErr r (after ≡ []) → IsHost params listeners old
    → IsHost params listeners after
host_side t old after cores frames given (Ok w) side none is =
    made_host t w.attempts.items side.middle after side.made (took_host side.took is)
host_side {E} {params} {listeners} t old after cores frames given (Err e) side none is =
    subst (IsHost params listeners) (sym none) (host_none is)

pub phase_side : {E : Type 0} (t : ℕ) (host : Host) (after : List Live) (cores : List ℕ) (frames : List Arrival)
    (given : List (Option Attempt)) (r : Result SideWork E) → Given t host.flows after cores frames given r
    → IfOk r (λ (w : SideWork). IsSidePhase t host cores frames (map arrival_in w.rest.items) given w.attempts.items
    (record host { flows = after }))
phase_side t host after cores frames given (Ok w) side = record {
  middle = record host { flows = side.middle };
  phase = took_phase t host side.middle cores frames (map arrival_in w.rest.items) side.took;
  same = side.same;
  made = side.made;
  others = refl;
}
phase_side t host after cores frames given (Err e) side = tt

-- nobody took or tried anything
pub none_worked : (t : ℕ) (host : Host) (cores : List ℕ) (frames rest : List Arrival) (given : List (Option Attempt))
    → rest ≡ frames → AreAnswered given given → IsSidePhase t host cores frames rest given given host
none_worked t host cores frames rest given same fresh = record {
  middle = host;
  phase = none_taken t host cores frames rest same;
  same = fresh;
  made = none_made t given host.flows fresh;
  others = refl;
}

-- nobody tried anything
pub none_tried : {t : ℕ} {host after : Host} {cores : List ℕ} {frames rest : List Arrival}
    (given attempts : List (Option Attempt)) → given ≡ []
    → IsSidePhase t host cores frames rest given attempts after → IsSteeredPhase t host cores frames rest after
none_tried {t} {host} {after} {cores} {frames} {rest} given attempts none side =
    subst (IsSteeredPhase t host cores frames rest)
    (ap (λ (F : List Live). record (side.middle) { flows = F }) (unmoved attempts (side.same ∙ none) side.made)
    ∙ side.others) side.phase where
      unmoved : (xs : List (Option Attempt)) → map unanswered xs ≡ []
          → AreMade t xs side.middle.flows after.flows → side.middle.flows ≡ after.flows
      unmoved [] nothing made = made
      unmoved (x ∷ xs) nothing made = absurd (cc (nothing))
