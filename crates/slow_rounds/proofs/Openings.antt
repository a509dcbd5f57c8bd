-- Flows that applications open alone, and sockets that change hands: for the laws opened_flows_are_moves and
-- holders_are_moves.
use Rattle.std.proofs.Common.{◌≡◌, ℕ, zero, suc, ◌+◌, ◌<◌, cond, true, false, List, [], ◌∷◌, map, length, refl, sym, ap}
use Rattle.std.proofs.Common.{◌∙◌, arith, length-append, None}
use Rattle.std.proofs.lemmas.Bool.Decides.{nat_tests}
use Rattle.tas_num.specs.declared.seq.Seq.{Seq}
use Rattle.tas_model.specs.declared.entry.Call.TheVariants as calls
use Rattle.tas_model.specs.declared.entry.Caller.TheVariants.{App}
use Rattle.tas_model.specs.declared.entry.FlowId.{FlowId}
use Rattle.tas_model.specs.declared.entry.FourTuple.{FourTuple}
use Rattle.host_rounds.specs.declared.opening.Start.{Start}
use Rattle.host_rounds.specs.Hosts.{Live, Starts, Holder, Application, next_start, first_entry, opened_in}
use Rattle.host_rounds.specs.Lists.{Each, change_at}
use Rattle.host_rounds.specs.Moves.{Opens, Holds, MayMove, moved}
use Rattle.flow_lock.specs.Orders.{same_flow}
use Rattle.flow_lock.specs.Steps.{alone_or}
use Rattle.flow_lock.specs.declared.view.Held.{Held}
use Rattle.flow_lock.specs.declared.view.History.{History}
use Rattle.flow_lock.specs.declared.view.Turn.{Turn}
use Rattle.slow_handshake.specs.Openings.{Openings}
use Rattle.libtas_sockets.specs.Connecting.{Opener, first_history}
use Rattle.slow_worker.specs.Workers.{Worker}
use Rattle.host_books.specs.Books as host_books
use Rattle.host_books.specs.Books.{Book, Setting, live_in, IsAt}
use Rattle.host_books.proofs.Orders.{same_self}
use Rattle.sound_hosts.specs.Hosts.{CoreHost, host_of, known_in}
use Rattle.sound_hosts.specs.Leaving.{reheld}
use Rattle.sound_hosts.specs.Opening.{new_book, with_book}
use Rattle.sound_hosts.specs.Sound.{IsHostSound}
use Rattle.slow_rounds.specs.Opening.{IsOpening, reheld_as}
use Rattle.sound_hosts.specs.Counting.{IsCounted}
use Rattle.slow_rounds.proofs.Opens.{free, opened_made}

-- ----- a connect
module _ (starts : Starts) (h : CoreHost) (tick app : ℕ) (tuple : FourTuple) (iss : Seq) (id : FlowId) (w : Worker)
    (sound : IsHostSound h) (few : length h.books < 4294967295) (opening : IsOpening tuple iss tick app id h.slow w)
    (start : next_start starts (host_of h) tuple ≡ record { number = iss; scale = None }) where
  abbrev history : History
  history = first_history tuple h.slow.path.params (App app) tick iss

  base : w.pass.view.base ≡ record { flow = id; history = history } ∷ known_in h
  base = ap (λ (o : Opener). o.pass.view.base) opening.opened.1
      ∙ ap (λ (ts : List Turn). alone_or ts (record { flow = id; history = history } ∷ known_in h) (known_in h))
      sound.alone.1

  pub opening_moves : MayMove (host_of h) (Opens id.slot tuple app)
      × (host_of (with_book (new_book id (Application app)) w h)
      ≡ moved starts tick (host_of h) (Opens id.slot tuple app))
      × (IsCounted h → IsCounted (with_book (new_book id (Application app)) w h))
  opening_moves = (
    free h sound few id opening.opened.0,
    opened_made h sound few id opening.opened.0 (Application app) history
        (first_entry (App app) tick (calls.Connect iss)) w base refl refl
        (ap (λ (x : Worker). x.path.params) opening.rest ∙ ap (λ (o : Openings). o.params) opening.path)
        (ap (λ (x : Worker). x.path.listeners) opening.rest ∙ ap (λ (o : Openings). o.listeners) opening.path)
        (ap (λ (x : Worker). x.log) opening.rest)
        ∙ ap (λ (s : Start). opened_in (host_of h) id.slot tuple s.scale (Application app)
        (first_entry (App app) tick (calls.Connect s.number))) (sym start),
    λ counted. ap (λ (o : Opener). o.pass.view.opened) opening.opened.1
        ∙ (ap (λ n. n + 1) counted ∙ sym (length-append h.books (new_book id (Application app) ∷ []))),
  )

-- ----- holders
others_stay : (id : FlowId) (x : Holder) (bs : List Book) → Each (λ (c : Book). same_flow id c.id ≡ false) bs
    → map (reheld (reheld_as id x)) bs ≡ bs
others_stay id x [] each = refl
others_stay id x (b ∷ bs) each =
    λ i. record b { holder = cond (apart i) x b.holder } ∷ others_stay id x bs each.1 i
  where
    mirror : same_flow b.id id ≡ same_flow id b.id
    mirror = grind (arith, nat_tests)

    apart : same_flow b.id id ≡ false
    apart = mirror ∙ each.0

held_at : (n : ℕ) (id : FlowId) (x : Holder) (known : List Held) (bs : List Book) → IsAt n id bs
    → map (live_in known) (map (reheld (reheld_as id x)) bs)
    ≡ change_at n (λ (l : Live). record l { holder = x }) (map (live_in known) bs)
held_at n id x known [] at = absurd at
held_at zero id x known (b ∷ bs) at =
    λ i. live_in known (record b { holder = cond (own i) x b.holder })
    ∷ map (live_in known) (others_stay id x bs at.1 i)
  where
    own : same_flow b.id id ≡ true
    own = ap (same_flow b.id) (sym at.0) ∙ same_self b.id
held_at (suc n) id x known (b ∷ bs) at =
    λ i. live_in known (record b { holder = cond (apart i) x b.holder }) ∷ held_at n id x known bs at.1 i
  where
    mirror : same_flow b.id id ≡ same_flow id b.id
    mirror = grind (arith, nat_tests)

    apart : same_flow b.id id ≡ false
    apart = mirror ∙ at.0

pub holder_moves : (starts : Starts) (s : Setting) (known : List Held) (tick n : ℕ) (id : FlowId) (x : Holder)
    → IsAt n id s.books
    → host_books.host_of (record s { books = map (reheld (reheld_as id x)) s.books }) known
    ≡ moved starts tick (host_books.host_of s known) (Holds n x)
holder_moves starts s known tick n id x at =
    ap (λ (ls : List Live). record (host_books.host_of s known) { flows = ls }) (held_at n id x known s.books at)
