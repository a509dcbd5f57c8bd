-- Where lines lead, and what they show there: which line comes, and what is shown of its flow before it.
use Rattle.std.proofs.Common.{◌≡◌, ℕ, ◌+◌, ◌≤◌, ◌<◌, true, ◌&&◌, List, [], ◌∷◌, ◌++◌, length, fold}
use Rattle.std.proofs.Common.{inl, inr, ◌⊎◌, get_or, Option, Some, None, refl, sym, subst}
use Rattle.std.specs.Prelude.{slice_get, ◌==◌, IfSome, ⊤}
use Rattle.std.specs.Option.{option_map}
use Rattle.std.proofs.lemmas.Bool.{and_parts, eqb-true}
use Rattle.std.proofs.lemmas.Option.{cond_some, same_Some, slice_get_cases}
use Rattle.tas_model.specs.declared.entry.Entry.{Entry}
use Rattle.tas_model.specs.declared.entry.Phase.{Phase}
use Rattle.tas_model.specs.declared.entry.Reason.{Reason}
use Rattle.report_lines.specs.Lines.{Line, Title, Host, Logged, Begins, Made, State, Read, End}
use Rattle.report_form.specs.declared.place.Place.{Place}
use Rattle.report_form.specs.declared.place.Place.TheVariants as places
use Rattle.report_form.specs.Places.{is_addr, host_at, flow_at, next_place, led, IsAt}
use Rattle.report_form.proofs.Left.{is_own}
use Rattle.trace_audit.specs.Shown.{ShownFlow, Now, begun, with_entry, with_state, with_line, nothing_shown, shown}
use Rattle.trace_audit.specs.Watching.{IsOpen, HasEntries, Comes}

-- ----- what is shown at a place
-- the host is the one that is shown, of so many
pub record IsOn (hosts host : ℕ) (n : Now) : Type 0 where
  pub same : n.host ≡ host
  pub within : host < hosts

abbrev IsKnown : ShownFlow → Type 0
IsKnown f = HasEntries f × IsOpen f

abbrev IsStated : ShownFlow → Type 0
IsStated f = HasEntries f × (f.read ≡ None)

pub record FlowOn (hosts host : ℕ) (n : Now) (P : ShownFlow → Type 0) : Type 0 where
  pub on : IsOn hosts host n
  pub flow : IfSome n.flow P

abbrev pub Placed : (hosts : ℕ) → Place → Now → Type 0
Placed hosts places.Start n = ⊤
Placed hosts places.Hosts n = ⊤
Placed hosts (places.Log host) n = IsOn hosts host n
Placed hosts (places.Flow host number) n = FlowOn hosts host n IsOpen
Placed hosts (places.Entries host number) n = FlowOn hosts host n IsKnown
Placed hosts (places.Bytes host number) n = FlowOn hosts host n IsStated
Placed hosts (places.Flows host last) n = IsOn hosts host n
Placed hosts places.Ended n = ⊤

-- a line comes, and where it leads
pub record Goes (hosts : ℕ) (n : Now) (l : Line) (q : Place) : Type 0 where
  pub comes : Comes hosts n l
  pub placed : Placed hosts q (with_line n l)

goes_to : (hosts : ℕ) (n : Now) (l : Line) (p q : Place) → ◌≡◌ {A = Option Place} (Some p) (Some q) → Comes hosts n l
    → Placed hosts p (with_line n l) → Goes hosts n l q
goes_to hosts n l p q e comes placed =
    record { comes = comes; placed = subst (λ (r : Place). Placed hosts r (with_line n l)) (same_Some p q e) placed }

is_there : (addrs : List ℕ) (host addr : ℕ) → is_addr (slice_get addrs host) addr ≡ true → host < length addrs
is_there addrs host addr e = by_case (slice_get_cases addrs host).1 (is_own addrs host addr e) where
  by_case : ((x : ℕ) × (host < length addrs) × (slice_get addrs host ≡ Some x) × (get_or addrs host x ≡ x))
      ⊎ ((length addrs ≤ host) × (slice_get addrs host ≡ None)) → slice_get addrs host ≡ Some addr
      → host < length addrs
  by_case (inl there) e = there.1
  by_case (inr past) e = absurd (cc (past.1, e))

host_goes : (addrs : List ℕ) (host : ℕ) (l : Line) (q : Place) (n : Now) → host_at addrs host l ≡ Some q
    → Goes (length addrs) n l q
host_goes addrs host (Host i addr) q n e =
    let t = cond_some (i == host && is_addr (slice_get addrs host) addr) (places.Log host) q e in
    let tests = and_parts (i == host) (is_addr (slice_get addrs host) addr) t.0 in
    record {
      comes = tt;
      placed = subst (λ (r : Place). Placed (length addrs) r (record { host = i; flow = None })) t.1
          (record { same = eqb-true i host tests.0; within = is_there addrs host addr tests.1 });
    }
host_goes addrs host (End ticks) q n e =
    record {
      comes = tt;
      placed = subst (λ (r : Place). Placed (length addrs) r n)
          (cond_some (host == length addrs) places.Ended q e).1 tt;
    }
host_goes addrs host Title q n e = absurd (cc (e))
host_goes addrs host (Logged tick event) q n e = absurd (cc (e))
host_goes addrs host (Begins number id tuple) q n e = absurd (cc (e))
host_goes addrs host (Made x) q n e = absurd (cc (e))
host_goes addrs host (State phase reason) q n e = absurd (cc (e))
host_goes addrs host (Read count bytes) q n e = absurd (cc (e))

flow_goes : (addrs : List ℕ) (host number : ℕ) (l : Line) (q : Place) (n : Now) → IsOn (length addrs) host n
    → flow_at addrs host number l ≡ Some q → Goes (length addrs) n l q
flow_goes addrs host number (Begins m id tuple) q n on e =
    let t = cond_some (m == number && is_addr (slice_get addrs host) tuple.laddr) (places.Flow host number) q e in
    let same : n.host ≡ host = on.same in
    let within : host < length addrs = on.within in
    record {
      comes = subst (λ (k : ℕ). k < length addrs) (sym same) within;
      placed = subst (λ (r : Place). Placed (length addrs) r
          (record { host = n.host; flow = Some (begun tuple) })) t.1
          (record { on = record { same = same; within = within }; flow = (refl, refl) });
    }
flow_goes addrs host number Title q n on e = host_goes addrs (host + 1) Title q n e
flow_goes addrs host number (Host i addr) q n on e = host_goes addrs (host + 1) (Host i addr) q n e
flow_goes addrs host number (Logged tick event) q n on e = host_goes addrs (host + 1) (Logged tick event) q n e
flow_goes addrs host number (Made x) q n on e = host_goes addrs (host + 1) (Made x) q n e
flow_goes addrs host number (State phase reason) q n on e = host_goes addrs (host + 1) (State phase reason) q n e
flow_goes addrs host number (Read count bytes) q n on e = host_goes addrs (host + 1) (Read count bytes) q n e
flow_goes addrs host number (End ticks) q n on e = host_goes addrs (host + 1) (End ticks) q n e

-- ----- a flow with one line more
pub more_entries : (xs : List Entry) (x : Entry) → (y : Entry) × (ys : List Entry) × (xs ++ x ∷ [] ≡ y ∷ ys)
more_entries [] x = (x, [], refl)
more_entries (y ∷ ys) x = (y, ys ++ x ∷ [], refl)

with_one : (o : Option ShownFlow) (x : Entry) → IfSome o IsOpen → IfSome (option_map (with_entry x) o) IsKnown
with_one None x h = tt
with_one (Some f) x h = (more_entries f.entries x, h)

is_open : (o : Option ShownFlow) → IfSome o IsKnown → IfSome o IsOpen
is_open None h = tt
is_open (Some f) h = h.1

stated : (o : Option ShownFlow) (phase : Phase) (reason : Option Reason) → IfSome o IsKnown
    → IfSome (option_map (with_state phase reason) o) IsStated
stated None phase reason h = tt
stated (Some f) phase reason h = (h.0, read_of f h.1) where
  read_of : (f : ShownFlow) → IsOpen f → f.read ≡ None
  read_of f h = h.1

next_goes : (addrs : List ℕ) (p : Place) (l : Line) (q : Place) (n : Now) → next_place addrs p l ≡ Some q
    → Placed (length addrs) p n → Goes (length addrs) n l q
unfolding next_place
next_goes addrs places.Start Title q n e placed = goes_to (length addrs) n Title places.Hosts q e tt tt
next_goes addrs places.Hosts l q n e placed = host_goes addrs 0 l q n e
next_goes addrs (places.Log host) (Logged tick event) q n e placed =
    goes_to (length addrs) n (Logged tick event) (places.Log host) q e tt placed
next_goes addrs (places.Log host) l q n e placed = flow_goes addrs host 0 l q n placed e
next_goes addrs (places.Flow host number) (Made x) q n e placed =
    goes_to (length addrs) n (Made x) (places.Entries host number) q e placed.flow
    (record { on = on_still placed.on; flow = with_one n.flow x placed.flow }) where
      on_still : IsOn (length addrs) host n
          → IsOn (length addrs) host (record { host = n.host; flow = option_map (with_entry x) n.flow })
      on_still on = record { same = on.same; within = on.within }
next_goes addrs (places.Entries host number) (Made x) q n e placed =
    goes_to (length addrs) n (Made x) (places.Entries host number) q e (is_open n.flow placed.flow)
    (record { on = on_still placed.on; flow = with_one n.flow x (is_open n.flow placed.flow) }) where
      on_still : IsOn (length addrs) host n
          → IsOn (length addrs) host (record { host = n.host; flow = option_map (with_entry x) n.flow })
      on_still on = record { same = on.same; within = on.within }
next_goes addrs (places.Entries host number) (State phase reason) q n e placed =
    goes_to (length addrs) n (State phase reason) (places.Bytes host number) q e placed.flow
    (record { on = on_still placed.on; flow = stated n.flow phase reason placed.flow }) where
      on_still : IsOn (length addrs) host n
          → IsOn (length addrs) host (record { host = n.host; flow = option_map (with_state phase reason) n.flow })
      on_still on = record { same = on.same; within = on.within }
next_goes addrs (places.Bytes host number) (Read count bytes) q n e placed =
    goes_to (length addrs) n (Read count bytes) (places.Flows host number) q e placed.flow
    (record { same = placed.on.same; within = placed.on.within })
next_goes addrs (places.Flows host last) l q n e placed = flow_goes addrs host (last + 1) l q n placed e
next_goes addrs _ _ q n e placed = absurd (cc (e))

led_placed : (addrs : List ℕ) (p : Place) (lines : List Line) (q : Place) (n : Now) → led addrs p lines ≡ Some q
    → Placed (length addrs) p n → Placed (length addrs) q (fold with_line n lines)
led_placed addrs p [] q n e placed = subst (λ (r : Place). Placed (length addrs) r n) (same_Some p q e) placed
led_placed addrs p (l ∷ ls) q n e placed =
    by_next (next_place addrs p l) refl e
    (λ r behind there. led_placed addrs r ls q (with_line n l) behind there) where
      by_next : (o : Option Place) → next_place addrs p l ≡ o
          → ◌≡◌ {A = Option Place} (elim o [ None ↦ None | Some next ↦ led addrs next ls ]) (Some q)
          → ((r : Place) → led addrs r ls ≡ Some q → Placed (length addrs) r (with_line n l)
          → Placed (length addrs) q (fold with_line (with_line n l) ls))
          → Placed (length addrs) q (fold with_line (with_line n l) ls)
      by_next None there e behind = absurd (cc (e))
      by_next (Some r) there e behind = behind r e (next_goes addrs p l r n there placed).placed

-- The line that may come next, by what is shown.
pub comes_next : (addrs : List ℕ) (lines : List Line) (p : Place) (l : Line) (q : Place) → IsAt addrs lines p
    → next_place addrs p l ≡ Some q → Comes (length addrs) (shown lines) l
comes_next addrs lines p l q at next =
    (next_goes addrs p l q (shown lines) next
    (led_placed addrs places.Start lines p nothing_shown at tt)).comes
