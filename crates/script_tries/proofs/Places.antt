-- Places among the books of a host, and its flows there.
use Rattle.std.proofs.Common.{◌≡◌, ℕ, zero, suc, false, List, [], ◌∷◌, map, Some, slice_get, refl, sym}
use Rattle.std.proofs.Common.{ap, ◌∙◌, true≢false}
use Rattle.std.specs.Option.{option_map}
use Rattle.std.proofs.lemmas.Option.{slice_get-map}
use Rattle.tas_model.specs.declared.entry.FlowId.{FlowId}
use Rattle.host_rounds.specs.Lists.{Each}
use Rattle.host_rounds.specs.Hosts.{Holder}
use Rattle.flow_lock.specs.Orders.{same_flow}
use Rattle.flow_lock.specs.declared.view.Held.{Held}
use Rattle.host_books.specs.Books.{Book, live_in, IsAt}
use Rattle.host_books.specs.Deeds.{with_holder}
use Rattle.host_books.proofs.Orders.{same_self}

-- the book that stands at a flow's place is the flow's
pub book_at : (m : ℕ) (id : FlowId) (bs : List Book) → IsAt m id bs
    → (b : Book) × (slice_get bs m ≡ Some b) × (b.id ≡ id)
book_at m id [] at = absurd at
book_at zero id (b ∷ bs) at = (b, refl, at.0)
book_at (suc m) id (b ∷ bs) at = book_at m id bs at.1

other_book : (n : ℕ) (id : FlowId) (bs : List Book) (b : Book) → Each (λ (c : Book). same_flow id c.id ≡ false) bs
    → slice_get bs n ≡ Some b → b.id ≡ id → ⊥
other_book n id [] b each at is = absurd (cc (at))
other_book zero id (c ∷ bs) b each at is =
    let same : c ≡ b = cc (at) in
    true≢false (sym (same_self id) ∙ ap (same_flow id) (sym is ∙ ap (λ (x : Book). x.id) (sym same)) ∙ each.0)
other_book (suc n) id (c ∷ bs) b each at is = other_book n id bs b each.1 at is

-- and its flow stands nowhere else
pub place_is : (m n : ℕ) (id : FlowId) (bs : List Book) (b : Book) → IsAt m id bs → slice_get bs n ≡ Some b
    → b.id ≡ id → n ≡ m
place_is m n id [] b at there is = absurd at
place_is zero zero id (c ∷ bs) b at there is = refl
place_is zero (suc n) id (c ∷ bs) b at there is = absurd (other_book n id bs b at.1 there is)
place_is (suc m) zero id (c ∷ bs) b at there is =
    let same : c ≡ b = cc (there) in
    absurd (true≢false (sym (same_self id) ∙ ap (same_flow id) (sym is ∙ ap (λ (x : Book). x.id) (sym same)) ∙ at.0))
place_is (suc m) (suc n) id (c ∷ bs) b at there is = ap suc (place_is m n id bs b at.1 there is)

-- ----- another holder
others_back : (id : FlowId) (n : ℕ) (holds : Holder → Holder) (bs : List Book)
    → Each (λ (c : Book). same_flow id c.id ≡ false) (with_holder n holds bs)
    → Each (λ (c : Book). same_flow id c.id ≡ false) bs
others_back id n holds [] each = tt
others_back id zero holds (c ∷ bs) each = (each.0, each.1)
others_back id (suc n) holds (c ∷ bs) each = (each.0, others_back id n holds bs each.1)

-- the flow stood where it stands when another has some socket
pub held_back : (m : ℕ) (id : FlowId) (n : ℕ) (holds : Holder → Holder) (bs : List Book)
    → IsAt m id (with_holder n holds bs) → IsAt m id bs
held_back m id n holds [] at = absurd at
held_back zero id zero holds (c ∷ bs) at = (at.0, at.1)
held_back (suc m) id zero holds (c ∷ bs) at = (at.0, at.1)
held_back zero id (suc n) holds (c ∷ bs) at = (at.0, others_back id n holds bs at.1)
held_back (suc m) id (suc n) holds (c ∷ bs) at = (at.0, held_back m id n holds bs at.1)

-- two flows have two places
pub places_differ : (m n : ℕ) (id other : FlowId) (bs : List Book) → IsAt m id bs → IsAt n other bs
    → same_flow id other ≡ false → m ≡ n → ⊥
places_differ m n id other bs at there apart same =
    let one = book_at m id bs at in
    let two = book_at n other bs there in
    let both : Some one.0 ≡ Some two.0 = sym one.1 ∙ (ap (slice_get bs) same ∙ two.1) in
    let books : one.0 ≡ two.0 = cc (both) in
    let ids : id ≡ other = sym one.2 ∙ (ap (λ (x : Book). x.id) books ∙ two.2) in
    true≢false (sym (same_self id) ∙ (ap (same_flow id) ids ∙ apart))

-- ----- flows
pub live_got : (known : List Held) (n : ℕ) (bs : List Book) (b : Book) → slice_get bs n ≡ Some b
    → slice_get (map (live_in known) bs) n ≡ Some (live_in known b)
live_got known n bs b at = slice_get-map (live_in known) bs n ∙ ap (option_map (live_in known)) at
