-- A host whose flow of a four-tuple changes, and one that opens a flow.
use Rattle.std.proofs.Common.{◌≡◌, ℕ, suc, ◌<◌, ◌++◌, ◌&&◌, not, Bool, true, false, cond}
use Rattle.std.proofs.Common.{List, [], ◌∷◌, length, get_or, position, Option, Some, None, refl, sym}
use Rattle.std.proofs.Common.{ap, ◌∙◌, true≢false, arith, tests, nat_lt}
use Rattle.std.specs.List.{list_any, position_or_len}
use Rattle.std.proofs.lemmas.List.Sums.{fails_before_first}
use Rattle.tas_model.specs.declared.entry.FlowId.{FlowId}
use Rattle.tas_model.specs.declared.entry.FrameId.{FrameId}
use Rattle.tas_model.specs.declared.entry.FourTuple.{FourTuple}
use Rattle.tas_model.specs.declared.entry.HostParams.{HostParams}
use Rattle.tas_model.specs.declared.entry.Seg.{Seg}
use Rattle.tas_model.specs.declared.entry.Entry.{Entry}
use Rattle.tas_model.specs.declared.entry.Call.TheVariants as calls
use Rattle.tas_model.specs.declared.entry.Caller.TheVariants.{Slow, App}
use Rattle.host_rounds.specs.declared.opening.Start.{Start}
use Rattle.host_rounds.specs.Lists.{change_at}
use Rattle.host_rounds.specs.Hosts.{Live, Host, Holder, Waiting, Application, changed, is_known}
use Rattle.host_rounds.specs.Hosts.{is_indexed_as, lowest_free, next_generation}
use Rattle.host_rounds.specs.Hosts.{Starts, flow_params, next_start, first_entry, opened_in}
use Rattle.host_rounds.specs.Deliveries.{opened_by_syn}
use Rattle.host_rounds.proofs.Loops.{none_found, known_found}
use Rattle.tas_runs.specs.LocalScript.{connects, opened_by_connect, connected_where, connected}
use Rattle.local_host.specs.Live.{opened_live, connected_by}
use Rattle.local_host.proofs.Places.{found_change}

-- ----- the flow of a four-tuple
pub changed_found : (host : Host) (tuple : FourTuple) (f : Live → Live) (i : ℕ) (flows : List Live)
    → position (is_indexed_as tuple) host.flows ≡ Some i → flows ≡ change_at i f host.flows
    → ◌≡◌ {A = Host} (record host { flows = flows }) (changed host tuple f)
changed_found host tuple f i flows found made = ap (λ (ls : List Live). record host { flows = ls })
    (made ∙ (found_change (is_indexed_as tuple) f host.flows i found).1)

pub changed_none : (host : Host) (tuple : FourTuple) (f : Live → Live)
    → position (is_indexed_as tuple) host.flows ≡ None → host ≡ changed host tuple f
changed_none host tuple f none = sym (ap (λ (ls : List Live). record host { flows = ls })
    (none_found (is_indexed_as tuple) f host.flows none))

not_lower : (b : Bool) (i : ℕ) → cond b (Some i) None ≡ None → b ≡ false
not_lower true i h = absurd (cc (h))
not_lower false i h = refl

none_any : {X : Type 0} (test : X → Bool) (xs : List X) (d : X)
    → ((k : ℕ) → k < length xs → test (get_or xs k d) ≡ false) → list_any test xs ≡ false
none_any test [] d fails = refl
none_any test (x ∷ xs) d fails =
    let here : test x ≡ false = fails 0 (omega arith) in
    let rest : list_any test xs ≡ false = none_any test xs d (λ k below. fails (suc k) (omega arith)) in
    rw (here, rest) refl

-- where none is found there is none
pub unknown : {X : Type 0} (test : X → Bool) (xs : List X) → position test xs ≡ None → list_any test xs ≡ false
unknown test [] h = refl
unknown test (x ∷ xs) h =
    let ends : nat_lt (position_or_len test (x ∷ xs)) (length (x ∷ xs)) ≡ false = not_lower _ _ h in
    none_any test (x ∷ xs) x (λ k below. fails_before_first test (x ∷ xs) k x (grind (arith, tests, ends, below)))

pub known_is : (tuple : FourTuple) (host : Host) (i : ℕ) → position (is_indexed_as tuple) host.flows ≡ Some i
    → is_known host tuple ≡ true
known_is tuple host i found = known_found (is_indexed_as tuple) host.flows i found

pub unknown_is : (tuple : FourTuple) (host : Host) → position (is_indexed_as tuple) host.flows ≡ None
    → is_known host tuple ≡ false
unknown_is tuple host none = unknown (is_indexed_as tuple) host.flows none

-- ----- openings
opened_there : (host : Host) (slot : ℕ) (tuple : FourTuple) (scale : Option ℕ) (holder : Holder) (x y : Entry)
    (params : HostParams) (id : FlowId) (flows : List Live)
    → id ≡ record { slot = slot; generation = next_generation slot host.flows }
    → params ≡ flow_params host.params scale → x ≡ y
    → flows ≡ host.flows ++ opened_live id tuple params holder x ∷ []
    → ◌≡◌ {A = Host} (record host { flows = flows }) (opened_in host slot tuple scale holder y)
opened_there host slot tuple scale holder x y params id flows is are same made =
    let next : FlowId = record { slot = slot; generation = next_generation slot host.flows } in
    ap (λ (ls : List Live). record host { flows = ls })
    (made
    ∙ (ap (λ (i : FlowId). host.flows ++ opened_live i tuple params holder x ∷ []) is
    ∙ (ap (λ (p : HostParams). host.flows ++ opened_live next tuple p holder x ∷ []) are
    ∙ ap (λ (z : Entry). host.flows ++ opened_live next tuple (flow_params host.params scale) holder z ∷ []) same)))

pub syn_opened : (host : Host) (slot t : ℕ) (frame : FrameId) (tuple : FourTuple) (seg : Seg) (start given : Start)
    (params : HostParams) (id : FlowId) (flows : List Live)
    → lowest_free host ≡ Some slot → id ≡ record { slot = slot; generation = next_generation slot host.flows }
    → params ≡ flow_params host.params start.scale → given ≡ start
    → flows ≡ host.flows ++ opened_live id tuple params Waiting
    (first_entry Slow t (calls.Passive frame given.number seg)) ∷ []
    → ◌≡◌ {A = Host} (record host { flows = flows })
    (opened_by_syn false (lowest_free host) start t host frame tuple seg)
syn_opened host slot t frame tuple seg start given params id flows free is are same made =
    opened_there host slot tuple start.scale Waiting (first_entry Slow t (calls.Passive frame given.number seg))
    (first_entry Slow t (calls.Passive frame start.number seg)) params id flows is are
    (ap (λ (s : Start). first_entry Slow t (calls.Passive frame s.number seg)) same) made
    ∙ ap (λ (o : Option ℕ). opened_by_syn false o start t host frame tuple seg) (sym free)

-- ----- a connect
same_connect : (o : Option ℕ) (start : Start) (t : ℕ) (host : Host) (tuple : FourTuple)
    → connected_by 0 o start t host tuple ≡ opened_by_connect o start t host tuple
same_connect None start t host tuple = refl
same_connect (Some slot) start t host tuple = refl

not_wanted : (wanted known : Bool) (start : Start) (t : ℕ) (host : Host) (tuple : FourTuple) → known ≡ true
    → host ≡ connected_where (wanted && not known) start t host tuple
not_wanted true true start t host tuple h = refl
not_wanted false true start t host tuple h = refl
not_wanted wanted false start t host tuple h = absurd (true≢false (sym h))

wanted_so : (wanted known : Bool) (start : Start) (t : ℕ) (host : Host) (tuple : FourTuple) → wanted ≡ true
    → known ≡ false
    → opened_by_connect (lowest_free host) start t host tuple
    ≡ connected_where (wanted && not known) start t host tuple
wanted_so true false start t host tuple h g = refl
wanted_so false known start t host tuple h g = absurd (true≢false (sym h))
wanted_so true true start t host tuple h g = absurd (true≢false g)

-- a flow has the four-tuple
pub connects_none : (starts : Starts) (t : ℕ) (tuple : FourTuple) (seg : Seg) (host : Host) (i : ℕ)
    → position (is_indexed_as tuple) host.flows ≡ Some i → host ≡ connected starts t tuple seg host
connects_none starts t tuple seg host i found =
    not_wanted (connects seg) (is_known host tuple) (next_start starts host tuple) t host tuple
    (known_is tuple host i found)

-- and none has it
pub connects_one : (starts : Starts) (t : ℕ) (tuple : FourTuple) (seg : Seg) (host : Host)
    → position (is_indexed_as tuple) host.flows ≡ None → connects seg ≡ true
    → connected_by 0 (lowest_free host) (next_start starts host tuple) t host tuple
    ≡ connected starts t tuple seg host
connects_one starts t tuple seg host none wanted =
    same_connect (lowest_free host) (next_start starts host tuple) t host tuple
    ∙ wanted_so (connects seg) (is_known host tuple) (next_start starts host tuple) t host tuple wanted
    (unknown_is tuple host none)

-- the segment is no SYN of the host's own
pub connects_not : (starts : Starts) (t : ℕ) (tuple : FourTuple) (seg : Seg) (host : Host) → connects seg ≡ false
    → host ≡ connected starts t tuple seg host
connects_not starts t tuple seg host other =
    ap (λ (b : Bool). connected_where (b && not (is_known host tuple)) (next_start starts host tuple) t host tuple)
    (sym other)
