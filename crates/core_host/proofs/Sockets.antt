-- The flow of which a run says that an application has it is that of one of its sockets: for the answers for what
-- applications ask alone.
use Rattle.std.proofs.Common.{◌≡◌, ℕ, zero, suc, ◌<◌, ◌==◌, ◌&&◌, Bool, true, false, List, [], ◌∷◌, ◌++◌, map, length}
use Rattle.std.proofs.Common.{refl, sym, ap, ◌∙◌, subst, arith}
use Rattle.std.proofs.lemmas.Bool.Decides.{nat_tests}
use Rattle.std.proofs.lemmas.List.Sorted.{list_any-IsPermutation}
use Rattle.std.specs.Prelude.{Option, Some, None, slice_get}
use Rattle.std.specs.List.{list_any, filter}
use Rattle.tas_model.specs.declared.entry.FlowId.{FlowId}
use Rattle.host_rounds.specs.Hosts.{Application as Held_by, is_waiting_by}
use Rattle.host_rounds.specs.Lists.{Each}
use Rattle.flow_lock.specs.Orders.{same_flow, pins_at}
use Rattle.app_reaper.specs.Lists.{is_on}
use Rattle.libtas_sockets.specs.Apps.{Application, IsSocket, flow_of, socket_on}
use Rattle.host_books.specs.Books.{Book, IsAt}
use Rattle.host_books.proofs.Indexing.{is_same_flow}
use Rattle.host_books.proofs.Orders.{same_self}
use Rattle.sound_hosts.specs.Hosts.{CoreHost, id_of, is_holder, is_held_of}
use Rattle.sound_hosts.specs.Leaving.{has_flow}
use Rattle.sound_hosts.specs.Sound.{IsHostSound, IsApp, HasHolder}
use Rattle.sound_hosts.proofs.Leaving.{AreApart, AreRight, IsNumberedBy, any_each, any_names, apart_of, flow_had}
use Rattle.sound_hosts.proofs.Leaving.{held_by, socket_had, socket_slot}
use Rattle.sound_hosts.proofs.Led.{both_each}
use Rattle.sound_hosts.proofs.Moved.{all_right, generation_in, not_had}
use Rattle.sound_hosts.proofs.OpenSockets.{each_at, and_both}
use Rattle.sound_hosts.proofs.Standing.{any_at}
use Rattle.slow_rounds.proofs.Found.{flipped}

-- ----- places
none_is : {X : Type 0} (x : X) → ◌≡◌ {A = Option X} None (Some x) → ⊥
none_is x e = absurd (cc (e))

some_same : {X : Type 0} (x y : X) → ◌≡◌ {A = Option X} (Some x) (Some y) → x ≡ y
some_same x y e = cc (e)

-- of what stands at a place of the flows there is a book
pub book_at : {X Y : Type 0} (f : X → Y) (xs : List X) (n : ℕ) (y : Y) → slice_get (map f xs) n ≡ Some y
    → (x : X) × (slice_get xs n ≡ Some x) × (f x ≡ y)
book_at f [] n y e = absurd (none_is y e)
book_at f (x ∷ xs) zero y e = (x, refl, some_same (f x) y e)
book_at f (x ∷ xs) (suc n) y e = book_at f xs n y e

pub is_at : (bs : List Book) (n : ℕ) (b : Book) → AreApart bs → slice_get bs n ≡ Some b → IsAt n b.id bs
is_at [] n b apart e = absurd (none_is b e)
is_at (c ∷ cs) zero b apart e =
    let same : c ≡ b = some_same c b e in (
      ap id_of same,
      subst (λ (f : FlowId). Each (λ (d : Book). same_flow f d.id ≡ false) cs) (ap id_of same) apart.0,
    )
is_at (c ∷ cs) (suc n) b apart e = (
  flipped c.id b.id (each_at (λ (d : Book). same_flow c.id d.id ≡ false) cs n b apart.0 e),
  is_at cs n b apart.1 e,
)

pub near_at : {X : Type 0} (xs : List X) (n : ℕ) (x : X) → slice_get xs n ≡ Some x → n < length xs
near_at [] n x e = absurd (none_is x e)
near_at (y ∷ ys) zero x e = omega arith
near_at (y ∷ ys) (suc n) x e = let r = near_at ys n x e in omega (arith, r)

-- ----- sockets
-- what is known of a flow that an application has
pub record IsSocketOf (h : CoreHost) (a : Application) (n : ℕ) (b : Book) : Type 0 where
  pub at : slice_get h.books n ≡ Some b
  pub place : IsAt n b.id h.books
  pub socket : IsSocket a (socket_on b.id)
  pub named : flow_of a (socket_on b.id) ≡ b.id
  pub had : list_any (has_flow a.number b.id) h.books ≡ true

same_name : (k : ℕ) → (k == k) ≡ true
same_name k = grind (arith, nat_tests)

module _ (h : CoreHost) (sound : IsHostSound h) (a : Application) (app : IsApp h.table h.books a) (n : ℕ) (b : Book)
    (at : slice_get h.books n ≡ Some b) where
  right : AreRight h.table (generation_in h.slow.pass.view) (pins_at h.slow.pass.view.words) h.books h.apps
  right = all_right h sound

  same_flows : (f g : FlowId) → f.slot ≡ g.slot → f.generation ≡ g.generation → f ≡ g
  same_flows f g s t = λ i. record { slot = s i; generation = t i }

  -- where its record stands, a socket on its slot is its own
  module _ (stands : b.filed ≡ false) (on_slot : list_any (is_on b.id.slot) a.sockets ≡ true) where
    pub found : list_any (has_flow a.number (flow_of a (socket_on b.id))) h.books ≡ true
    found = flow_had h.table h.books a (flow_of a (socket_on b.id)) app (socket_had b.id.slot a.sockets on_slot)

    pub named : flow_of a (socket_on b.id) ≡ b.id
    named = by (any_each (has_flow a.number (flow_of a (socket_on b.id)))
        (λ (c : Book). HasHolder h.apps c × IsNumberedBy (generation_in h.slow.pass.view) c) h.books found
        (both_each (HasHolder h.apps) (IsNumberedBy (generation_in h.slow.pass.view)) h.books sound.holders
        right.generations))
      where
        by : (c : Book) × (has_flow a.number (flow_of a (socket_on b.id)) c ≡ true)
            × (HasHolder h.apps c × IsNumberedBy (generation_in h.slow.pass.view) c)
            → flow_of a (socket_on b.id) ≡ b.id
        by (c, has, (holder, numbered)) =
            let both = and_both (is_held_of a.number c) (same_flow c.id (flow_of a (socket_on b.id))) has in
            let is : c.id ≡ flow_of a (socket_on b.id) = is_same_flow c.id (flow_of a (socket_on b.id)) both.1 in
            let slot : c.id.slot ≡ b.id.slot = ap (λ (f : FlowId). f.slot) is ∙ socket_slot b.id.slot a.sockets in
            sym is
            ∙ same_flows c.id b.id slot
            (numbered (holder (held_by a.number c.holder both.0)).1
            ∙ (ap (generation_in h.slow.pass.view) slot
            ∙ sym (each_at (IsNumberedBy (generation_in h.slow.pass.view)) h.books n b right.generations at stands)))

  -- a flow that waits is no socket's
  pub free_slot : b.filed ≡ false → is_waiting_by b.holder ≡ true → list_any (is_on b.id.slot) a.sockets ≡ false
  free_slot stands waits = by (list_any (is_on b.id.slot) a.sockets) refl
    where
      by : (t : Bool) → list_any (is_on b.id.slot) a.sockets ≡ t → t ≡ false
      by false e = refl
      by true e =
          absurd (not_had h.books (apart_of h.table.slots [] h.books sound.numbered) n b at waits a.number
          (subst (λ f. list_any (has_flow a.number f) h.books ≡ true) (named stands e) (found stands e)))

  module _ (held : b.holder ≡ Held_by a.number) where
    own : is_held_of a.number b ≡ true
    own = ap (is_holder a.number) held ∙ same_name a.number

    on_slot : list_any (is_on b.id.slot) a.sockets ≡ true
    on_slot =
        list_any-IsPermutation (is_on b.id.slot) a.sockets (map id_of (filter (is_held_of a.number) h.books))
        app.sockets
        ∙ (any_names (is_on b.id.slot) (is_held_of a.number) h.books
        ∙ any_at (λ (c : Book). is_held_of a.number c && is_on b.id.slot c.id) h.books n b at
        (λ i. own i && same_name b.id.slot i))

    pub socket_of : IsSocketOf h a n b
    socket_of = record {
      at = at;
      place = is_at h.books n b (apart_of h.table.slots [] h.books sound.numbered) at;
      socket = on_slot;
      named = named (each_at (HasHolder h.apps) h.books n b sound.holders at (held_by a.number b.holder own)).1 on_slot;
      had = any_at (has_flow a.number b.id) h.books n b at (λ i. own i && same_self b.id i);
    }
