-- All flows of a host along a tick: for the laws of closed_flows.
use Rattle.std.proofs.Common.{◌≡◌, ℕ, zero, suc, ◌&&◌, Bool, true, false, List, [], ◌∷◌, ◌++◌, map, fold, slice_get}
use Rattle.std.proofs.Common.{Option, Some, None, refl, sym, subst, ap, ◌∙◌, true≢false}
use Rattle.tas_model.specs.declared.entry.FourTuple.{FourTuple}
use Rattle.tas_model.specs.declared.entry.FrameId.{FrameId}
use Rattle.tas_model.specs.declared.entry.Seg.{Seg}
use Rattle.tas_model.specs.declared.entry.Caller.{Caller}
use Rattle.tas_model.specs.declared.entry.Caller.TheVariants.{Slow}
use Rattle.tas_model.specs.declared.entry.Call.TheVariants as calls
use Rattle.tas_model.proofs.Tests.{on_cond}
use Rattle.host_rounds.specs.declared.opening.Start.{Start}
use Rattle.host_rounds.specs.Lists.{Each, change_first, change_at}
use Rattle.host_rounds.specs.Hosts.{Live, Host, Starts, next_start, with_call, is_known, is_indexed_as, is_over}
use Rattle.host_rounds.specs.Hosts.{is_listening, is_full, lowest_free, same_tuple}
use Rattle.host_rounds.specs.Histories.{HasHistory}
use Rattle.host_rounds.specs.Upkeep.{swept, all_swept, timed, emits}
use Rattle.host_rounds.specs.Deliveries.{Packet, Damaged, Segment, received, opens, opened_by_syn, met_no_flow, arrived}
use Rattle.host_rounds.specs.Deliveries.{delivered_packet}
use Rattle.host_rounds.specs.Scripts.{Site, Scripts}
use Rattle.host_rounds.specs.Moves.{Move, Calls, Opens, Notes, Holds, Listens, moved, MayMove, AreByMoves}
use Rattle.host_rounds.specs.Rounds.{Action, Timer, Frame, Ask, Emission, Deed, done_by, does, on_host, Due, Round}
use Rattle.host_rounds.proofs.AllLegal.{AreLegal, asked_keeps, call_cases, done_kept, all_swept_kept}
use Rattle.closed_flows.specs.Silence.{GrewSilently, SentNothing, IsFindable}
use Rattle.closed_flows.proofs.Silent.{Still, still, still_both, indexed_still, app_still, emits_still, timed_still}
use Rattle.closed_flows.proofs.Silent.{holder_still}

-- ----- lists
-- flow by flow; the index has each that was opened meanwhile
abbrev pub AllStill : (before after : List Live) → Type 0
AllStill [] ms = Each (λ (m : Live). m.indexed ≡ true) ms
AllStill (l ∷ ls) [] = ⊥
AllStill (l ∷ ls) (m ∷ ms) = Still l m × AllStill ls ms

all_stay : (ls : List Live) → AllStill ls ls
all_stay [] = tt
all_stay (l ∷ ls) = (still l, all_stay ls)

new_both : (ms ps : List Live) → Each (λ (m : Live). m.indexed ≡ true) ms → AllStill ms ps
    → Each (λ (m : Live). m.indexed ≡ true) ps
new_both [] ps a b = b
new_both (m ∷ ms) [] a b = absurd b
new_both (m ∷ ms) (p ∷ ps) a b = (b.0.indexed ∙ a.0, new_both ms ps a.1 b.1)

all_both : (ls ms ps : List Live) → AllStill ls ms → AllStill ms ps → AllStill ls ps
all_both [] ms ps a b = new_both ms ps a b
all_both (l ∷ ls) [] ps a b = absurd a
all_both (l ∷ ls) (m ∷ ms) [] a b = absurd b
all_both (l ∷ ls) (m ∷ ms) (p ∷ ps) a b = (still_both l m p a.0 b.0, all_both ls ms ps a.1 b.1)

first_still : (test : Live → Bool) (f : Live → Live)
    → ((l : Live) → HasHistory l → test l ≡ true → Still l (f l)) → (ls : List Live) → Each HasHistory ls
    → AllStill ls (change_first test f ls)
first_still test f each [] legal = tt
first_still test f each (l ∷ ls) legal = by_test (test l) refl (first_still test f each ls legal.1) where
  by_test : (b : Bool) → test l ≡ b → AllStill ls (change_first test f ls)
      → AllStill (l ∷ ls) (elim b [ true ↦ f l ∷ ls | false ↦ l ∷ change_first test f ls ])
  by_test true is rest = (each l legal.0 is, all_stay ls)
  by_test false is rest = (still l, rest)

at_still : (n : ℕ) (f : Live → Live) → ((l : Live) → HasHistory l → Still l (f l)) → (ls : List Live)
    → Each HasHistory ls → AllStill ls (change_at n f ls)
at_still n f each [] legal = tt
at_still zero f each (l ∷ ls) legal = (each l legal.0, all_stay ls)
at_still (suc n) f each (l ∷ ls) legal = (still l, at_still n f each ls legal.1)

map_still : (f : Live → Live) → ((l : Live) → Still l (f l)) → (ls : List Live) → AllStill ls (map f ls)
map_still f each [] = tt
map_still f each (l ∷ ls) = (each l, map_still f each ls)

push_still : (ls : List Live) (m : Live) → m.indexed ≡ true → AllStill ls (ls ++ m ∷ [])
push_still [] m is = (is, tt)
push_still (l ∷ ls) m is = (still l, push_still ls m is)

-- ----- frames
and_left : (a b : Bool) → (a && b) ≡ true → a ≡ true
and_left true b h = refl
and_left false b h = absurd (true≢false (sym h))

syn_still : (full : Bool) (free : Option ℕ) (start : Start) (t : ℕ) (host : Host) (frame : FrameId)
    (tuple : FourTuple) (seg : Seg)
    → AllStill host.flows (opened_by_syn full free start t host frame tuple seg).flows
syn_still true free start t host frame tuple seg = all_stay host.flows
syn_still false None start t host frame tuple seg = all_stay host.flows
syn_still false (Some slot) start t host frame tuple seg = push_still host.flows _ refl

no_flow_still : (opening listening : Bool) (start : Start) (t : ℕ) (host : Host) (frame : FrameId)
    (tuple : FourTuple) (seg : Seg)
    → AllStill host.flows (met_no_flow opening listening start t host frame tuple seg).flows
no_flow_still true listening start t host frame tuple seg =
    syn_still (is_full host tuple.lport) (lowest_free host) start t host frame tuple seg
no_flow_still false listening start t host frame tuple seg = all_stay host.flows

arrived_still : (known : Bool) (by : Caller) (start : Start) (t : ℕ) (host : Host) (frame : FrameId)
    (tuple : FourTuple) (seg : Seg) → AreLegal host
    → AllStill host.flows (arrived known (received by t frame seg) start t host frame tuple seg).flows
arrived_still true by start t host frame tuple seg legal =
    first_still (is_indexed_as tuple) (received by t frame seg)
    (λ l one is. indexed_still by t (calls.Rx frame seg) [] l one
    (and_left l.indexed (same_tuple tuple l.flow.tuple) is)) host.flows legal
arrived_still false by start t host frame tuple seg legal =
    no_flow_still (is_listening host tuple.lport && opens seg)
    (is_listening host tuple.lport) start t host frame tuple seg

packet_still : (by : Caller) (starts : Starts) (t : ℕ) (host : Host) (frame : FrameId) (packet : Packet)
    → AreLegal host
    → AllStill host.flows (delivered_packet (received by) starts t host frame packet).flows
packet_still by starts t host frame (Damaged rule) legal = all_stay host.flows
packet_still by starts t host frame (Segment tuple seg) legal =
    arrived_still (is_known host tuple) by (next_start starts host tuple) t host frame tuple seg legal

-- ----- moves
abbrev Stay : Host → Host → Type 0
Stay before after = AllStill before.flows after.flows

move_still : (starts : Starts) (t : ℕ) (host : Host) (m : Move) → AreLegal host → MayMove host m
    → Stay host (moved starts t host m)
move_still starts t host (Calls n by call offer) legal may =
    call_cases (Stay host) starts t host n by call offer may (all_stay host.flows)
    (λ app. at_still n (λ (l : Live). with_call l by t call offer)
    (λ l one. app_still by t call offer app l one) host.flows legal)
move_still starts t host (Opens slot tuple app) legal may = push_still host.flows _ refl
move_still starts t host (Notes event) legal may = all_stay host.flows
move_still starts t host (Holds n holder) legal may =
    at_still n (λ (l : Live). record l { holder = holder }) (λ l one. holder_still l holder) host.flows legal
move_still starts t host (Listens listeners) legal may = all_stay host.flows

asked_still : {S A : Type 0} (scripts : Scripts S A) (t : ℕ) (site : Site S) (a : A) → AreByMoves scripts
    → AreLegal site.host
    → Stay site.host (scripts.asked t site a).host
asked_still scripts t site a by_moves legal =
    asked_keeps (Stay site.host) scripts t by_moves
    (λ host m each may so_far. all_both site.host.flows host.flows (moved scripts.starts t host m).flows so_far
    (move_still scripts.starts t host m each may))
    site a legal (all_stay site.host.flows)

-- ----- ticks
done_still : {S A : Type 0} (scripts : Scripts S A) (t : ℕ) (site : Site S) (by : Caller) (action : Action A)
    → AreByMoves scripts
    → AreLegal site.host → Stay site.host (done_by scripts t site by action).host
done_still scripts t site by (Timer n) by_moves legal =
    at_still n (timed by t) (λ l one. timed_still by t l) site.host.flows legal
done_still scripts t site by (Frame x) by_moves legal =
    packet_still by scripts.starts t site.host x.frame x.packet legal
done_still scripts t site by (Ask a) by_moves legal = asked_still scripts t site a by_moves legal
done_still scripts t site by (Emission n) by_moves legal =
    at_still n (emits by t) (emits_still by t) site.host.flows legal

all_still : {S A : Type 0} (scripts : Scripts S A) (t : ℕ) (site : Site S) (order : List (Deed A))
    → AreByMoves scripts → AreLegal site.host
    → Stay site.host (fold (does scripts t) site order).host
all_still scripts t site [] by_moves legal = all_stay site.host.flows
all_still {S} scripts t site (m ∷ order) by_moves legal =
    let next : Site S = does scripts t site m in
    all_both site.host.flows next.host.flows (fold (does scripts t) next order).host.flows
    (done_still scripts t site m.by m.action by_moves legal)
    (all_still scripts t next order by_moves (done_kept scripts t site m.by m.action by_moves legal))

-- from where closed flows have left the index
pub round_still : {S A : Type 0} (scripts : Scripts S A) (t : ℕ) (due : Due A) (before after : Site S)
    → AreByMoves scripts → AreLegal before.host → Round scripts t due before after
    → AllStill (map swept before.host.flows) after.host.flows
round_still {S} scripts t due before after by_moves legal round =
    subst (λ (s : Site S). AllStill (map swept before.host.flows) s.host.flows) round.made
    (all_still scripts t (on_host all_swept before) round.order by_moves (all_swept_kept before.host legal))

-- ----- one place
swept_flow : (l : Live) → (swept l).flow ≡ l.flow
swept_flow l = on_cond (λ (m : Live). m.flow ≡ l.flow) (is_over l) _ l (λ t. refl) (λ f. refl)

-- a closed flow isn't in the index
swept_index : (l : Live) → is_over l ≡ true → (swept l).indexed ≡ false
swept_index l is =
    on_cond (λ (m : Live). m.indexed ≡ false) (is_over l) _ l (λ t. refl) (λ f. absurd (true≢false (sym is ∙ f)))

-- and where closed ones alone aren't, one that isn't is closed
index_over : (l : Live) → IsFindable l → (swept l).indexed ≡ false → is_over l ≡ true
index_over l findable = by_over (is_over l) refl
  where
    by_over : (b : Bool) → is_over l ≡ b → (swept l).indexed ≡ false → b ≡ true
    by_over true is i = refl
    by_over false is i =
        sym is ∙ findable (on_cond (λ (m : Live). m.indexed ≡ false → l.indexed ≡ false) (is_over l) _ l
        (λ t. absurd (true≢false (sym t ∙ is))) (λ f j. j) i)

swept_over : (l : Live) → is_over (swept l) ≡ is_over l
swept_over l = on_cond (λ (m : Live). is_over m ≡ is_over l) (is_over l) _ l (λ t. refl) (λ f. refl)

silent_at : (l m : Live) → is_over l ≡ true → Still (swept l) m → GrewSilently l.flow.entries m.flow.entries
silent_at l m is s =
    subst (λ f. GrewSilently f.entries m.flow.entries) (swept_flow l)
    (s.silent (swept_over l ∙ is) (swept_index l is))

later : (l m : Live) (ls ms : List Live) (n : ℕ) → SentNothing ls ms n → SentNothing (l ∷ ls) (m ∷ ms) (suc n)
later l m ls ms n s = record { was = s.was; now = s.now; there = s.there; still = s.still; silent = s.silent }

pub closed_silent_at : (ls ms : List Live) (n : ℕ) (l : Live) → AllStill (map swept ls) ms → slice_get ls n ≡ Some l
    → is_over l ≡ true → SentNothing ls ms n
closed_silent_at [] ms n l all there over = absurd (cc (there))
closed_silent_at (k ∷ ls) [] n l all there over = absurd all
closed_silent_at (k ∷ ls) (m ∷ ms) zero l all there over =
    let same : k ≡ l = cc (there) in
    record {
      was = k;
      now = m;
      there = refl;
      still = refl;
      silent = silent_at k m (subst (λ (x : Live). is_over x ≡ true) (sym same) over) all.0;
    }
closed_silent_at (k ∷ ls) (m ∷ ms) (suc n) l all there over =
    later k m ls ms n (closed_silent_at ls ms n l all.1 there over)

none_new : (ms : List Live) (n : ℕ) (m : Live) → Each (λ (x : Live). x.indexed ≡ true) ms → slice_get ms n ≡ Some m
    → m.indexed ≡ true
none_new [] n m each there = absurd (cc (there))
none_new (x ∷ ms) zero m each there =
    let same : x ≡ m = cc (there) in subst (λ (y : Live). y.indexed ≡ true) same each.0
none_new (x ∷ ms) (suc n) m each there = none_new ms n m each.1 there

pub unindexed_after : (ls ms : List Live) (n : ℕ) (m : Live) → Each IsFindable ls → AllStill (map swept ls) ms
    → slice_get ms n ≡ Some m → m.indexed ≡ false → SentNothing ls ms n
unindexed_after [] ms n m find all there out = absurd (true≢false (sym (none_new ms n m all there) ∙ out))
unindexed_after (k ∷ ls) [] n m find all there out = absurd all
unindexed_after (k ∷ ls) (p ∷ ms) zero m find all there out =
    let same : p ≡ m = cc (there) in
    record {
      was = k;
      now = p;
      there = refl;
      still = refl;
      silent = silent_at k p
          (index_over k find.0 (sym all.0.indexed ∙ (ap (λ (x : Live). x.indexed) same ∙ out))) all.0;
    }
unindexed_after (k ∷ ls) (p ∷ ms) (suc n) m find all there out =
    later k p ls ms n (unindexed_after ls ms n m find.1 all.1 there out)

-- once closed flows have left it, the index stays that of the slow path's phase
pub unindexed_early : (t : ℕ) (ls ms : List Live) (n : ℕ) (m : Live) → Each IsFindable ls
    → AllStill (map swept ls) ms
    → slice_get (map (timed Slow t) (map swept ls)) n ≡ Some m → m.indexed ≡ false → SentNothing ls ms n
unindexed_early t [] ms n m find all there out = absurd (cc (there))
unindexed_early t (k ∷ ls) [] n m find all there out = absurd all
unindexed_early t (k ∷ ls) (p ∷ ms) zero m find all there out =
    let same : timed Slow t (swept k) ≡ m = cc (there) in
    record {
      was = k;
      now = p;
      there = refl;
      still = refl;
      silent = silent_at k p (index_over k find.0 (sym (timed_still Slow t (swept k)).indexed
          ∙ (ap (λ (x : Live). x.indexed) same ∙ out))) all.0;
    }
unindexed_early t (k ∷ ls) (p ∷ ms) (suc n) m find all there out =
    later k p ls ms n (unindexed_early t ls ms n m find.1 all.1 there out)

-- ----- the index
find_swept : (l : Live) → IsFindable l → IsFindable (swept l)
find_swept l find out = swept_over l ∙ index_over l find out

new_findable : (ms : List Live) → Each (λ (x : Live). x.indexed ≡ true) ms → Each IsFindable ms
new_findable [] each = tt
new_findable (m ∷ ms) each = (λ out. absurd (true≢false (sym each.0 ∙ out)), new_findable ms each.1)

pub findable_after : (ls ms : List Live) → Each IsFindable ls → AllStill (map swept ls) ms → Each IsFindable ms
findable_after [] ms find all = new_findable ms all
findable_after (l ∷ ls) [] find all = absurd all
findable_after (l ∷ ls) (m ∷ ms) find all = (
  λ out. all.0.over (find_swept l find.0 (sym all.0.indexed ∙ out)),
  findable_after ls ms find.1 all.1,
)
