-- In how many places a frame stands, after one call, one line and one opening.
use Rattle.std.proofs.Common.{◌≡◌, ℕ, zero, suc, ◌+◌, ◌||◌, Bool, true, false, List, [], ◌∷◌, ◌++◌, map, Option, Some}
use Rattle.std.proofs.Common.{None, refl, sym, true≢false, arith}
use Rattle.std.specs.List.{list_any}
use Rattle.tas_model.specs.declared.entry.FrameId.{FrameId}
use Rattle.tas_model.specs.declared.entry.Entry.{Entry}
use Rattle.tas_model.specs.declared.entry.Caller.{Caller}
use Rattle.tas_model.specs.declared.entry.Call.{Call}
use Rattle.tas_model.specs.declared.entry.Call.TheVariants as calls
use Rattle.tas_model.specs.Segments.{one_if}
use Rattle.tas_model.specs.NextSegment.{Going, going}
use Rattle.tas_model.proofs.Tests.{on_cond}
use Rattle.host_rounds.specs.declared.log.LogLine.{LogLine}
use Rattle.host_rounds.specs.declared.log.LogEvent.{LogEvent}
use Rattle.host_rounds.specs.Lists.{change_first, change_at}
use Rattle.host_rounds.specs.Hosts.{Live, Host, endpoint, is_over, with_call, logged}
use Rattle.host_rounds.specs.Upkeep.{swept, controlled, timed, timed_unless, emits_where, emits}
use Rattle.host_rounds.specs.Places.{is_call_with, is_line_with, uses_in, uses_live, lines_with, uses}
use Rattle.host_rounds.proofs.Flows.{on_control}

-- ----- lists
uses_push : (f : FrameId) (h : List Entry) (x : Entry)
    → uses_in f (h ++ x ∷ []) ≡ uses_in f h + one_if (is_call_with f x.call)
uses_push f [] x = omega arith
uses_push f (y ∷ h) x =
    let rest : uses_in f (h ++ x ∷ []) ≡ uses_in f h + one_if (is_call_with f x.call) = uses_push f h x in
    omega arith

lines_push : (f : FrameId) (h : List LogLine) (x : LogLine)
    → lines_with f (h ++ x ∷ []) ≡ lines_with f h + one_if (is_line_with f x.event)
lines_push f [] x = omega arith
lines_push f (y ∷ h) x =
    let rest : lines_with f (h ++ x ∷ []) ≡ lines_with f h + one_if (is_line_with f x.event) = lines_push f h x in
    omega arith

pub flows_push : (f : FrameId) (ls : List Live) (l : Live)
    → uses_live f (ls ++ l ∷ []) ≡ uses_live f ls + uses_in f l.flow.entries
flows_push f [] l = omega arith
flows_push f (m ∷ ls) l =
    let rest : uses_live f (ls ++ l ∷ []) ≡ uses_live f ls + uses_in f l.flow.entries = flows_push f ls l in
    omega arith

pub line_adds : (f : FrameId) (host : Host) (t : ℕ) (event : LogEvent)
    → uses f (logged host t event) ≡ uses f host + one_if (is_line_with f event)
line_adds f host t event =
    let one : lines_with f (logged host t event).log ≡ lines_with f host.log + one_if (is_line_with f event) =
    lines_push f host.log (record { tick = t; event = event }) in
    omega arith

-- the flow has so many places more
abbrev pub Adds : FrameId → ℕ → (Live → Live) → Type 0
Adds f k g = (l : Live) → uses_in f (g l).flow.entries ≡ uses_in f l.flow.entries + k

pub first_adds : (f : FrameId) (k : ℕ) (test : Live → Bool) (g : Live → Live) → Adds f k g → (ls : List Live)
    → list_any test ls ≡ true
    → uses_live f (change_first test g ls) ≡ uses_live f ls + k
first_adds f k test g adds [] known = absurd (true≢false (sym known))
first_adds f k test g adds (l ∷ ls) known = by_test (test l) known (first_adds f k test g adds ls) where
  by_test : (b : Bool) → (b || list_any test ls) ≡ true
      → (list_any test ls ≡ true → uses_live f (change_first test g ls) ≡ uses_live f ls + k)
      → uses_live f (elim b [ true ↦ g l ∷ ls | false ↦ l ∷ change_first test g ls ])
      ≡ uses_in f l.flow.entries + uses_live f ls + k
  by_test true h rest = let one : uses_in f (g l).flow.entries ≡ uses_in f l.flow.entries + k = adds l in omega arith
  by_test false h rest = let more : uses_live f (change_first test g ls) ≡ uses_live f ls + k = rest h in omega arith

at_same : (f : FrameId) (i : ℕ) (g : Live → Live) → Adds f 0 g → (ls : List Live)
    → uses_live f (change_at i g ls) ≡ uses_live f ls
at_same f i g adds [] = refl
at_same f zero g adds (l ∷ ls) = let one : uses_in f (g l).flow.entries ≡ uses_in f l.flow.entries + 0 = adds l in
    omega arith
at_same f (suc i) g adds (l ∷ ls) = let rest : uses_live f (change_at i g ls) ≡ uses_live f ls =
    at_same f i g adds ls in omega arith

pub map_same : (f : FrameId) (g : Live → Live) → Adds f 0 g → (ls : List Live) → uses_live f (map g ls) ≡ uses_live f ls
map_same f g adds [] = refl
map_same f g adds (l ∷ ls) =
    let one : uses_in f (g l).flow.entries ≡ uses_in f l.flow.entries + 0 = adds l in
    let rest : uses_live f (map g ls) ≡ uses_live f ls = map_same f g adds ls in
    omega arith

pub flow_adds : (f : FrameId) (i : ℕ) (host : Host) (g : Live → Live) → Adds f 0 g
    → uses_live f (change_at i g host.flows) + lines_with f host.log ≡ uses f host + 0
flow_adds f i host g same = let one : uses_live f (change_at i g host.flows) ≡ uses_live f host.flows =
    at_same f i g same host.flows in omega arith

-- ----- what calls add
pub call_adds : (f : FrameId) (by : Caller) (t : ℕ) (call : Call) (offer : List ℕ) (l : Live)
    → uses_in f (with_call l by t call offer).flow.entries ≡ uses_in f l.flow.entries + one_if (is_call_with f call)
call_adds f by t call offer l = uses_push f l.flow.entries _

pub same_plus : (a : ℕ) → a ≡ a + 0
same_plus a = omega arith

pub swept_adds : (f : FrameId) → Adds f 0 swept
swept_adds f l =
    on_cond (λ (m : Live). uses_in f m.flow.entries ≡ uses_in f l.flow.entries + 0) (is_over l) _ _ (λ t. same_plus _)
    (λ f. same_plus _)

controlled_adds : (f : FrameId) (by : Caller) (t : ℕ) → Adds f 0 (controlled by t)
controlled_adds f by t l =
    on_control (λ (m : Live). uses_in f m.flow.entries ≡ uses_in f l.flow.entries + 0) _ by t l
    (λ h. call_adds f by t calls.Control [] l) (λ h. same_plus _)

pub timed_adds : (f : FrameId) (by : Caller) (t : ℕ) → Adds f 0 (timed by t)
timed_adds f by t l = by_over (is_over l) where
  by_over : (b : Bool) → uses_in f (timed_unless b by t l).flow.entries ≡ uses_in f l.flow.entries + 0
  by_over true = same_plus _
  by_over false =
      let m : Live = with_call l by t calls.Tick [] in
      let one : uses_in f m.flow.entries ≡ uses_in f l.flow.entries + 0 = call_adds f by t calls.Tick [] l in
      let two : uses_in f (controlled by t m).flow.entries ≡ uses_in f m.flow.entries + 0 = controlled_adds f by t m in
      omega arith

pub emits_adds : (f : FrameId) (by : Caller) (t : ℕ) → Adds f 0 (emits by t)
emits_adds f by t l = by_going (going (endpoint l)) where
  by_going : (o : Option Going) → uses_in f (emits_where o by t l).flow.entries ≡ uses_in f l.flow.entries + 0
  by_going None = same_plus _
  by_going (Some g) = call_adds f by t calls.Emit [] l
