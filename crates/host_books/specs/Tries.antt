-- Deeds in the words of a run, wherever they stand in the order: what a turn alone can say of them. A core's needs the
-- history that it was done on, and an application's ask also how far its script was.
use Rattle.std.specs.Prelude.{◌≡◌, ℕ, suc, cond, false, List, [], ◌∷◌, ◌⊎◌, Some}
use Rattle.tas_model.specs.declared.entry.FlowId.{FlowId}
use Rattle.tas_model.specs.declared.entry.Seg.{Seg}
use Rattle.tas_model.specs.declared.entry.Caller.{Caller}
use Rattle.tas_model.specs.declared.entry.Caller.TheVariants.{Slow, Core, App}
use Rattle.tas_model.specs.declared.entry.Call.{Call}
use Rattle.tas_model.specs.declared.entry.Call.TheVariants as calls
use Rattle.tas_model.specs.declared.entry.Reply.{Reply}
use Rattle.tas_model.specs.declared.entry.Reply.TheVariants as replies
use Rattle.tas_model.specs.Endpoint.{is_closed}
use Rattle.tas_model.specs.LegalHistory.{Legal, extended_by, replay}
use Rattle.tas_model.specs.NextSegment.{Going, going}
use Rattle.host_rounds.specs.Lists.{Each}
use Rattle.host_rounds.specs.Hosts.{Holder, last_reply, at_flow}
use Rattle.host_rounds.specs.Deliveries.{Arrival, Segment}
use Rattle.host_rounds.specs.Scripts.{Scripts}
use Rattle.host_rounds.specs.Rounds as rounds
use Rattle.host_rounds.specs.Rounds.{IsWorker}
use Rattle.flow_lock.specs.Histories.{longer}
use Rattle.flow_lock.specs.Orders.{Order, known_of, played, same_flow}
use Rattle.flow_lock.specs.declared.view.Deed.{Deed}
use Rattle.flow_lock.specs.declared.view.Held.{Held}
use Rattle.flow_lock.specs.declared.view.History.{History}
use Rattle.host_books.specs.Books.{Book, Setting, host_of, site_of, IsAt}
use Rattle.host_books.specs.Deeds.{asked_as, with_holder, AreDoneAs}
use Rattle.host_books.specs.Indexes.{endpoint_of, AreIndexed}
use Rattle.host_books.specs.Words.{ArePairs}

-- the flow's place among the books: how many stand before its own
abbrev pub place_of : FlowId → List Book → ℕ
place_of id [] = 0
place_of id (b ∷ bs) = cond (same_flow id b.id) 0 (suc (place_of id bs))

-- the entry is the one that this call makes of the history before, which is legal
pub record Adds (by : Caller) (t : ℕ) (call : Call) (offer : List ℕ) (d : Deed) : Type 0 where
  pub legal : Legal d.before.params d.before.entries
  pub made : longer d.before (d.entry ∷ [])
      ≡ record (d.before) { entries = extended_by d.before.params d.before.entries by t call offer }

-- ----- tries
-- What an application asks beside the cores: one call on one flow. What it does with the socket, and how far its script
-- is then, is by the reply.
pub record Try (S A : Type 0) : Type 0 where
  pub ask : A
  pub flow : FlowId
  pub app : ℕ
  pub call : Call
  pub offer : List ℕ
  pub holds : Reply → Holder → Holder
  pub next : Reply → S → S

-- the reply to the call on this history
abbrev pub reply_on : {S A : Type 0} → (t : ℕ) → Try S A → History → Reply
reply_on t x h = last_reply replies.Nothing (extended_by h.params h.entries (App x.app) t x.call x.offer)

-- Where its turn comes, with the books and scripts as they are, the ask is that call, whatever is known of the flow.
abbrev pub IsTry : {S A : Type 0} → Scripts S A → (t : ℕ) → Setting → S → Try S A → Type 0
IsTry scripts t s state x =
    (known : List Held) (place : ℕ)
    → IsAt place x.flow s.books
    → scripts.asked t (site_of s known state) x.ask
    ≡ record {
      host = at_flow place (asked_as x.app t x.call x.offer (x.holds (reply_on t x (known_of x.flow known))))
          (host_of s known);
      scripts = x.next (reply_on t x (known_of x.flow known)) state;
    }

-- The first may come before the second, whatever it is answered: that leaves it as it is.
abbrev pub MayPrecede : {S A : Type 0} → Scripts S A → (t : ℕ) → Try S A → Try S A → Type 0
MayPrecede {S} scripts t x y =
    (s : Setting) (state : S) (place : ℕ) (reply : Reply)
    → IsAt place x.flow s.books
    → IsTry scripts t s state y
    → IsTry scripts t (record s { books = with_holder place (x.holds reply) s.books }) (x.next reply state) y

-- ----- words
-- A deed of the table, what it is in the words of a run, and the try that it is, as a list of one, or none.
pub record Word (S A : Type 0) : Type 0 where
  pub deed : Deed
  pub told : rounds.Deed A
  pub tries : List (Try S A)

-- a frame of the flow's own four-tuple, whose connection isn't closed, taken by a core
pub record IsFrameWord {S A : Type 0} (t : ℕ) (w : Word S A) : Type 0 where
  pub core : ℕ
  pub arrival : Arrival
  pub is : w.told ≡ record { by = Core core; action = rounds.Frame arrival }
  pub seg : Seg
  pub packet : arrival.packet ≡ Segment w.deed.before.tuple seg
  pub open_ : is_closed (endpoint_of w.deed.before) ≡ false
  pub adds : Adds (Core core) t (calls.Rx arrival.frame seg) [] w.deed
  pub tries_not : w.tries ≡ []

-- a segment that may go, sent by a core
pub record IsSendWord {S A : Type 0} (t : ℕ) (books : List Book) (w : Word S A) : Type 0 where
  pub core : ℕ
  pub is : w.told ≡ record { by = Core core; action = rounds.Emission (place_of w.deed.flow books) }
  pub next : Going
  pub goes : going (replay w.deed.before.params w.deed.before.entries) ≡ Some next
  pub adds : Adds (Core core) t calls.Emit [] w.deed
  pub tries_not : w.tries ≡ []

-- a call that was tried, and made
pub record IsTryWord {S A : Type 0} (t : ℕ) (w : Word S A) : Type 0 where
  pub try_ : Try S A
  pub tries : w.tries ≡ try_ ∷ []
  pub is : w.told ≡ record { by = Slow; action = rounds.Ask (try_.ask) }
  pub flow : w.deed.flow ≡ try_.flow
  pub adds : Adds (App try_.app) t try_.call try_.offer w.deed

abbrev pub IsWord : {S A : Type 0} → (t : ℕ) → List Book → Word S A → Type 0
IsWord t books w = IsFrameWord t w ⊎ (IsSendWord t books w ⊎ IsTryWord t w)

-- Each that was tried is an ask of its script as it stands now
abbrev pub AreTries : {S A : Type 0} → Scripts S A → (t : ℕ) → Setting → S → List (Word S A) → Type 0
AreTries {S} {A} scripts t s state words = Each (λ (w : Word S A). Each (IsTry scripts t s state) w.tries) words

-- The tries of the one word may come before those of the other.
abbrev pub LetsPass : {S A : Type 0} → Scripts S A → (t : ℕ) → Word S A → Word S A → Type 0
LetsPass {S} {A} scripts t w v = Each (λ (x : Try S A). Each (MayPrecede scripts t x) v.tries) w.tries

-- And each is so still when those before it were made.
abbrev pub AreApart : {S A : Type 0} → Scripts S A → (t : ℕ) → List (Word S A) → Type 0
AreApart scripts t words = ArePairs (LetsPass scripts t) words

-- ----- orders
abbrev pub deed_of : {S A : Type 0} → Word S A → Deed
deed_of w = w.deed

abbrev pub told_of : {S A : Type 0} → Word S A → rounds.Deed A
told_of w = w.told

-- The order is these deeds of a run, one after the other, each by a worker, and leaves the index right.
pub record ToldAs {S A : Type 0} (scripts : Scripts S A) (t : ℕ) (s : Setting) (state : S) (known : List Held)
    (order : Order) (deeds : List (rounds.Deed A)) : Type 0 where
  pub after : List Book
  pub next : S
  pub are : AreDoneAs scripts t s state known order deeds after next
  pub indexed : AreIndexed after (played known order)
  pub workers : Each (λ (m : rounds.Deed A). IsWorker m.by) deeds
