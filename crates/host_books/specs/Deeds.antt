-- Deeds of the table in the words of a run.
use Rattle.std.specs.Prelude.{◌≡◌, ℕ, List, [], ◌∷◌, map, ⊤, ◌⊎◌, Some}
use Rattle.tas_model.specs.declared.entry.FourTuple.{FourTuple}
use Rattle.tas_model.specs.declared.entry.Seg.{Seg}
use Rattle.tas_model.specs.declared.entry.Caller.{Caller}
use Rattle.tas_model.specs.declared.entry.Caller.TheVariants.{Core, App}
use Rattle.tas_model.specs.declared.entry.Call.{Call}
use Rattle.tas_model.specs.declared.entry.Call.TheVariants as calls
use Rattle.tas_model.specs.LegalHistory.{extended_by, replay}
use Rattle.tas_model.specs.NextSegment.{Going, going}
use Rattle.host_rounds.specs.Lists.{change_at}
use Rattle.host_rounds.specs.Hosts.{Live, Holder, is_indexed_as, at_flow, with_call}
use Rattle.host_rounds.specs.Deliveries.{Arrival, Segment}
use Rattle.host_rounds.specs.Scripts.{Scripts}
use Rattle.host_rounds.specs.Rounds as rounds
use Rattle.flow_lock.specs.Histories.{longer}
use Rattle.flow_lock.specs.Orders.{Order, known_of, put}
use Rattle.flow_lock.specs.declared.view.Deed.{Deed}
use Rattle.flow_lock.specs.declared.view.Held.{Held}
use Rattle.host_books.specs.Books.{Book, Setting, live_in, host_of, site_of, IsAt, IsFirstAt}

-- The deed was done on the history that is known, and its entry is the one that this call makes of it.
pub record Makes (by : Caller) (t : ℕ) (call : Call) (offer : List ℕ) (known : List Held) (d : Deed) : Type 0 where
  pub there : d.before ≡ known_of d.flow known
  pub made : longer d.before (d.entry ∷ [])
      ≡ record (d.before) { entries = extended_by d.before.params d.before.entries by t call offer }

-- ----- cores
-- The deed is that of a frame which a core took: the index leads to the flow, and the entry is the one that the segment
-- makes of the history that is there.
pub record IsFrameOf {A : Type 0} (t : ℕ) (books : List Book) (known : List Held) (d : Deed) (m : rounds.Deed A)
    : Type 0 where
  pub core : ℕ
  pub arrival : Arrival
  pub is : m ≡ record { by = Core core; action = rounds.Frame arrival }
  pub tuple : FourTuple
  pub seg : Seg
  pub packet : arrival.packet ≡ Segment tuple seg
  pub place : ℕ
  pub at : IsAt place d.flow books
  pub leads : IsFirstAt (is_indexed_as tuple) place (map (live_in known) books)
  pub makes : Makes (Core core) t (calls.Rx arrival.frame seg) [] known d

-- The deed is a segment that a core sends: one may go from the history that is there.
pub record IsSendOf {A : Type 0} (t : ℕ) (books : List Book) (known : List Held) (d : Deed) (m : rounds.Deed A)
    : Type 0 where
  pub core : ℕ
  pub place : ℕ
  pub is : m ≡ record { by = Core core; action = rounds.Emission place }
  pub at : IsAt place d.flow books
  pub next : Going
  pub goes : going (replay d.before.params d.before.entries) ≡ Some next
  pub makes : Makes (Core core) t calls.Emit [] known d

-- what a core did, in the words of a run
abbrev pub IsCoreDeed : {A : Type 0} → (t : ℕ) → List Book → List Held → Deed → rounds.Deed A → Type 0
IsCoreDeed t books known d m = IsFrameOf t books known d m ⊎ IsSendOf t books known d m

-- what cores did, one after the other
abbrev pub AreCoreDeeds : {A : Type 0} → (t : ℕ) → List Book → List Held → Order → List (rounds.Deed A) → Type 0
AreCoreDeeds t books known [] [] = ⊤
AreCoreDeeds t books known [] (m ∷ ms) = ⊥
AreCoreDeeds t books known (y ∷ ys) [] = ⊥
AreCoreDeeds t books known (y ∷ ys) (m ∷ ms) =
    IsCoreDeed t books known y.1 m × AreCoreDeeds t books (put known y.1) ys ms

-- ----- applications
-- the holder of a flow changes
abbrev pub held_as : (Holder → Holder) → Book → Book
held_as holds b = record b { holder = holds b.holder }

abbrev pub with_holder : (place : ℕ) → (Holder → Holder) → List Book → List Book
with_holder place holds books = change_at place (held_as holds) books

-- a flow with this call of an application made, and with another holder
abbrev pub asked_as : (app t : ℕ) → Call → (offer : List ℕ) → (Holder → Holder) → Live → Live
asked_as app t call offer holds l = record (with_call l (App app) t call offer) { holder = holds l.holder }

-- The deed is the one call that this ask makes, on the history that is there. The ask may give the socket up, too.
pub record IsAskOf {S A : Type 0} (scripts : Scripts S A) (t : ℕ) (s : Setting) (state : S) (known : List Held)
    (d : Deed) (m : rounds.Deed A) (after : List Book) (next : S) : Type 0 where
  pub by : Caller
  pub ask : A
  pub is : m ≡ record { by = by; action = rounds.Ask ask }
  pub place : ℕ
  pub at : IsAt place d.flow s.books
  pub app : ℕ
  pub call : Call
  pub offer : List ℕ
  pub makes : Makes (App app) t call offer known d
  pub holds : Holder → Holder
  pub kept : after ≡ with_holder place holds s.books
  pub asked : scripts.asked t (site_of s known state) ask
      ≡ record { host = at_flow place (asked_as app t call offer holds) (host_of s known); scripts = next }

-- What a core or an application did, in the words of a run, and the books and how far the scripts are after it.
abbrev pub IsDoneAs : {S A : Type 0} → Scripts S A → (t : ℕ) → Setting → S → List Held → Deed → rounds.Deed A
    → (after : List Book) → (next : S) → Type 0
IsDoneAs scripts t s state known d m after next =
    (IsCoreDeed t s.books known d m × (after ≡ s.books) × (next ≡ state))
    ⊎ IsAskOf scripts t s state known d m after next

-- what all did, one after the other
abbrev pub AreDoneAs : {S A : Type 0} → Scripts S A → (t : ℕ) → Setting → S → List Held → Order
    → List (rounds.Deed A) → (after : List Book) → (next : S) → Type 0
AreDoneAs scripts t s state known [] [] after next = (after ≡ s.books) × (next ≡ state)
AreDoneAs scripts t s state known [] (m ∷ ms) after next = ⊥
AreDoneAs scripts t s state known (y ∷ ys) [] after next = ⊥
AreDoneAs {S} scripts t s state known (y ∷ ys) (m ∷ ms) after next =
    (between : List Book)
    × (then : S)
    × IsDoneAs scripts t s state known y.1 m between then
    × AreDoneAs scripts t (record s { books = between }) then (put known y.1) ys ms after next
