-- Who has which sockets on a host of shared flows, step by step: each application keeps those that it has.
use Rattle.std.proofs.Common.{◌≡◌, ℕ, zero, suc, ◌∷◌, [], List, map, fold, slice_get, refl, ap, ◌∙◌}
use Rattle.std.specs.Prelude.{Option, Some, None}
use Rattle.tas_model.specs.declared.entry.Caller.TheVariants.{Slow, Core}
use Rattle.tas_model.specs.declared.entry.Call.TheVariants as calls
use Rattle.tas_model.specs.declared.entry.HostParams.{HostParams}
use Rattle.tas_model.specs.NextSegment.{Going, going}
use Rattle.flow_lock.specs.declared.view.Held.{Held}
use Rattle.host_books.specs.Books.{Book, live_in}
use Rattle.host_rounds.specs.Deliveries.{Arrival, received, delivered}
use Rattle.host_rounds.specs.Hosts.{Live, Host, Holder, Application, endpoint, with_call}
use Rattle.host_rounds.specs.Lists.{Each}
use Rattle.host_rounds.specs.SerialOrder.{slow_phase, emit_phase}
use Rattle.host_rounds.specs.Upkeep.{swept, timed, quieted, quieted_within}
use Rattle.scenario_runs.specs.Applications.{Bound, AListener, ASocket, Script}
use Rattle.scenario_runs.specs.Worlds.{starts_of}
use Rattle.scenario_laws.specs.Names.{holder_by, holder_at, IsHeld}
use Rattle.scenario_laws.proofs.Deeds.{At, WorkKeeps, map_worked, swept_worked, timed_worked, packet_keeps}
use Rattle.scenario_laws.proofs.Sockets.{own_still, same_holders, push_held, not_waiting}
use Rattle.scenario_host.specs.Sound.{IsOneOf, AreNamesOf}
use Rattle.core_host.specs.Asking.{HasApp, HasSocket}
use Rattle.core_host.specs.Attempts.{HasSocketAt}
use Rattle.core_host.specs.Views.{Staffed, seen_by}
use Rattle.shared_scripts.specs.Playing.{Owns}
use Rattle.shared_scripts.proofs.Rising.{each_more}

-- each application has what it had
abbrev pub KeepsHolders : (ls ms : List Live) → Type 0
KeepsHolders ls ms = (n k : ℕ) → holder_at ls k ≡ Application n → holder_at ms k ≡ Application n

pub owns_still : (ls ms : List Live) → KeepsHolders ls ms → (x : Script) → Owns ls x → Owns ms x
owns_still ls ms keeps x own = own_still ls ms x.number x.names (keeps x.number) own

pub all_own_still : (ls ms : List Live) → KeepsHolders ls ms → (xs : List Script) → Each (Owns ls) xs
    → Each (Owns ms) xs
all_own_still ls ms keeps xs own = each_more (Owns ls) (Owns ms) (owns_still ls ms keeps) xs own

-- ----- time passes
pub slow_holders : (t : ℕ) (host : Host) → KeepsHolders host.flows (slow_phase t host).flows
slow_holders t host n k held =
    same_holders t (map swept host.flows) (map (timed Slow t) (map swept host.flows))
    (map_worked t (timed Slow t) (λ l. timed_worked Slow t l tt) (map swept host.flows)) k
    ∙ (same_holders t host.flows (map swept host.flows) (map_worked t swept (swept_worked t) host.flows) k ∙ held)

-- ----- frames come
abbrev Kept : List Live → At → Type 0
Kept base site = KeepsHolders base site.host.flows

work_keeps : (t : ℕ) (base : List Live) → WorkKeeps t (Kept base)
work_keeps t base = record {
  flows = λ site ms worked kept n k held. same_holders t site.host.flows ms worked k ∙ kept n k held;
  line = λ site event kind kept. kept;
  syn = λ site slot start frame tuple seg listening kept n k held.
      push_held site.host.flows _ n k (kept n k held);
}

pub came_holders : (p : HostParams) (t : ℕ) (frames : List Arrival) (base : List Live) (host : Host)
    → KeepsHolders base host.flows
    → KeepsHolders base (fold (delivered (received Slow) (starts_of p) t) host frames).flows
came_holders p t [] base host kept = kept
came_holders p t (x ∷ frames) base host kept =
    came_holders p t frames base (delivered (received Slow) (starts_of p) t host x)
    (packet_keeps p (Kept base) Slow t (record { host = host; scripts = [] }) x.frame x.packet (work_keeps t base) tt
    kept)

-- ----- segments go
abbrev HolderIs : Holder → Live → Type 0
HolderIs holder l = l.holder ≡ holder

by_going : (o : Option Going) (holder : Holder) (a b : Live) → HolderIs holder a → HolderIs holder b
    → HolderIs holder (elim o [ None ↦ a | Some g ↦ b ])
by_going None holder a b one other = one
by_going (Some g) holder a b one other = other

quiet_holder : (most t : ℕ) (l : Live) → HolderIs l.holder (quieted_within most t l)
quiet_holder zero t l = refl
quiet_holder (suc most) t l =
    by_going (going (endpoint l)) l.holder l _ refl (quiet_holder most t (with_call l (Core 0) t calls.Emit []))

quiet_holders : (t : ℕ) (ls : List Live) (k : ℕ) → holder_at (map (quieted t) ls) k ≡ holder_at ls k
quiet_holders t [] k = refl
quiet_holders t (l ∷ ls) zero = quiet_holder _ t l
quiet_holders t (l ∷ ls) (suc k) = quiet_holders t ls k

pub emit_holders : (t : ℕ) (host : Host) → KeepsHolders host.flows (emit_phase t host).flows
emit_holders t host n k held = quiet_holders t host.flows k ∙ held

-- ----- by the books
books_holder : (known other : List Held) (bs : List Book) (k : ℕ)
    → holder_at (map (live_in other) bs) k ≡ holder_at (map (live_in known) bs) k
books_holder known other [] k = refl
books_holder known other (b ∷ bs) zero = refl
books_holder known other (b ∷ bs) (suc k) = books_holder known other bs k

pub same_books : (known other : List Held) (bs cs : List Book) → cs ≡ bs
    → KeepsHolders (map (live_in known) bs) (map (live_in other) cs)
same_books known other bs cs same n k held =
    ap (λ (ds : List Book). holder_at (map (live_in other) ds) k) same ∙ (books_holder known other bs k ∙ held)

-- the book that stands there
pub record IsBookOf (n k : ℕ) (bs : List Book) : Type 0 where
  pub book : Book
  pub there : slice_get bs k ≡ Some book
  pub held : book.holder ≡ Application n

pub book_there : (known : List Held) (bs : List Book) (n k : ℕ) → holder_at (map (live_in known) bs) k ≡ Application n
    → IsBookOf n k bs
book_there known [] n k held = absurd (not_waiting n held)
book_there known (b ∷ bs) n zero held = record { book = b; there = refl; held = held }
book_there known (b ∷ bs) n (suc k) held =
    let rest = book_there known bs n k held in
    record { book = rest.book; there = rest.there; held = rest.held }

-- ----- sockets
pub socket_at : (h : Staffed) (n k : ℕ) → holder_at (seen_by h).flows k ≡ Application n → HasSocketAt n k h
socket_at h n k held =
    let there = book_there (h.host.slow.pass.view.base) h.host.books n k held in
    (there.book, there.there, there.held)

flow_there : (n : ℕ) (o : Option Live) → holder_by o ≡ Application n
    → (l : Live) × (o ≡ Some l) × (l.holder ≡ Application n)
flow_there n None held = absurd (not_waiting n held)
flow_there n (Some l) held = (l, refl, held)

pub names_of : (h : Staffed) (n : ℕ) (names : List (List ℕ × Bound)) → HasApp n h
    → Each (λ (b : List ℕ × Bound). IsHeld (seen_by h).flows n b.1) names
    → AreNamesOf (λ (k : ℕ). HasSocket n k h) names
names_of h n names runs each =
    each_more (λ (b : List ℕ × Bound). IsHeld (seen_by h).flows n b.1)
    (λ (b : List ℕ × Bound). IsOneOf (λ (k : ℕ). HasSocket n k h) b.1) (λ b held. one b.1 held) names each
  where
    one : (c : Bound) → IsHeld (seen_by h).flows n c → IsOneOf (λ (k : ℕ). HasSocket n k h) c
    one (AListener port) held = tt
    one (ASocket k) held = (runs, flow_there n (slice_get (seen_by h).flows k) held)
