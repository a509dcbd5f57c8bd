-- The slow path's list and the index lead to each flow that isn't closed: for the law open_flows_are_led.
use Rattle.std.proofs.Common.{◌≡◌, ℕ, zero, suc, ◌&&◌, Bool, true, false, cond, List, [], ◌∷◌, map, refl, sym, ap, ◌∙◌}
use Rattle.std.proofs.Common.{arith, true≢false}
use Rattle.std.specs.Prelude.{Some}
use Rattle.std.specs.List.{find}
use Rattle.std.specs.Option.{option_map}
use Rattle.std.proofs.lemmas.Bool.Decides.{nat_tests}
use Rattle.tas_model.specs.declared.entry.FlowId.{FlowId}
use Rattle.tas_model.specs.declared.entry.FourTuple.{FourTuple}
use Rattle.host_rounds.specs.Lists.{Each}
use Rattle.host_rounds.specs.Hosts.{is_indexed_as, same_tuple}
use Rattle.flow_index.specs.Changes.{is_same}
use Rattle.flow_lock.specs.declared.view.Held.{Held}
use Rattle.slow_worker.specs.Workers.{flow_with, has_tuple, id_of}
use Rattle.host_books.specs.Books.{Book, live_in, IsAt, IsFirstAt}
use Rattle.sound_hosts.specs.Hosts.{flows_in, known_flow, tuple_of}

and_both : (a b : Bool) → (a && b) ≡ true → (a ≡ true) × (b ≡ true)
and_both true b h = (refl, h)
and_both false b h = absurd (true≢false (sym h))

-- both tests of four-tuples are one
pub alike : (t u : FourTuple) → is_same u t ≡ same_tuple t u
alike t u = grind (arith, nat_tests)

-- what the list has of one more book
pub one_more : (known : List Held) (t : FourTuple) (b : Book) (bs : List Book)
    → is_indexed_as t (live_in known b) ≡ false
    → flow_with t (flows_in known (b ∷ bs)) ≡ flow_with t (flows_in known bs)
one_more known t b bs not_ = by_indexed b.indexed refl not_
  where
    by_indexed : (i : Bool) → b.indexed ≡ i → (i && same_tuple t (tuple_of known b)) ≡ false
        → flow_with t (flows_in known (b ∷ bs)) ≡ flow_with t (flows_in known bs)
    by_indexed false is h =
        ap (λ (x : Bool). flow_with t (cond x (known_flow known b ∷ flows_in known bs) (flows_in known bs))) is
    by_indexed true is h =
        ap (λ (x : Bool). flow_with t (cond x (known_flow known b ∷ flows_in known bs) (flows_in known bs))) is
        ∙ ap (λ (x : Bool). option_map id_of
        (cond x (Some (known_flow known b)) (find (has_tuple t) (flows_in known bs))))
        (alike t (tuple_of known b) ∙ h)

pub listed : (known : List Held) (t : FourTuple) (n : ℕ) (id : FlowId) (bs : List Book) → IsAt n id bs
    → IsFirstAt (is_indexed_as t) n (map (live_in known) bs) → flow_with t (flows_in known bs) ≡ Some id
listed known t n id [] at first = absurd at
listed known t zero id (b ∷ bs) at first =
    let both = and_both b.indexed (same_tuple t (tuple_of known b)) first in
    ap (λ (x : Bool). flow_with t (cond x (known_flow known b ∷ flows_in known bs) (flows_in known bs))) both.0
    ∙ (ap (λ (x : Bool). option_map id_of (cond x (Some (known_flow known b)) (find (has_tuple t) (flows_in known bs))))
    (alike t (tuple_of known b) ∙ both.1)
    ∙ ap (λ f. Some f) at.0)
listed known t (suc n) id (b ∷ bs) at first =
    one_more known t b bs first.0 ∙ listed known t n id bs at.1 first.1

-- what holds of each book holds of the one at this place
pub at_place : (P : Book → Type 0) (n : ℕ) (id : FlowId) (bs : List Book) → Each P bs → IsAt n id bs
    → (b : Book) × (b.id ≡ id) × P b
at_place P n id [] each at = absurd at
at_place P zero id (b ∷ bs) each at = (b, at.0, each.0)
at_place P (suc n) id (b ∷ bs) each at = at_place P n id bs each.1 at.1

pub is_indexed_open : (b : Bool) (over : Bool) → (b ≡ false → over ≡ true) → over ≡ false → b ≡ true
is_indexed_open true over kept open_ = refl
is_indexed_open false over kept open_ = absurd (true≢false (sym (kept refl) ∙ open_))

pub both_each : (P Q : Book → Type 0) (bs : List Book) → Each P bs → Each Q bs → Each (λ (c : Book). P c × Q c) bs
both_each P Q [] p q = tt
both_each P Q (c ∷ cs) p q = ((p.0, q.0), both_each P Q cs p.1 q.1)
