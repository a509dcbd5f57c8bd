-- What is the same where flows were led on: for the law phases_keep_the_lists.
use Rattle.std.proofs.Common.{◌≡◌, ◌&&◌, true, false, cond, List, [], ◌∷◌, map, refl, sym, ap, ◌∙◌, inl, inr}
use Rattle.std.specs.Prelude.{◌||◌, ◌⊎◌, ℕ}
use Rattle.std.specs.List.{list_any}
use Rattle.tas_model.specs.declared.entry.FlowId.{FlowId}
use Rattle.tas_model.specs.declared.entry.FourTuple.{FourTuple}
use Rattle.host_rounds.specs.Lists.{Each}
use Rattle.host_rounds.specs.Hosts.{is_indexed_as, same_tuple}
use Rattle.flow_index.specs.Changes.{found_after}
use Rattle.flow_index.specs.declared.change.Change.{Change}
use Rattle.flow_index.specs.declared.change.Found.TheVariants as found
use Rattle.flow_lock.specs.Orders.{known_of}
use Rattle.flow_lock.specs.declared.view.Held.{Held}
use Rattle.host_books.specs.Books.{Book, live_in, IsAt}
use Rattle.host_books.specs.Indexes.{AreIndexed, AreOnce, IsFindable}
use Rattle.sound_hosts.specs.Hosts.{flows_in, tuple_of}
use Rattle.sound_hosts.specs.Leading.{Leads}
use Rattle.sound_hosts.specs.Sound.{AreShown}

module _ (before after : List Held) (same : (f : FlowId) → (known_of f after).tuple ≡ (known_of f before).tuple) where
  pub flows_same : (bs : List Book) → flows_in after bs ≡ flows_in before bs
  flows_same [] = refl
  flows_same (b ∷ bs) =
      λ i. cond b.indexed (record { tuple = same b.id i; id = b.id } ∷ flows_same bs i) (flows_same bs i)

  any_same : (t : FourTuple) (bs : List Book)
      → list_any (is_indexed_as t) (map (live_in after) bs) ≡ list_any (is_indexed_as t) (map (live_in before) bs)
  any_same t [] = refl
  any_same t (b ∷ bs) = λ i. (b.indexed && same_tuple t (same b.id i)) || any_same t bs i

  led_same : (changes : List Change) (bs : List Book)
      → Each (λ (b : Book). b.indexed ≡ true → found_after (tuple_of before b) changes ≡ found.Flow b.id) bs
      → Each (λ (b : Book). b.indexed ≡ true → found_after (tuple_of after b) changes ≡ found.Flow b.id) bs
  led_same changes [] each = tt
  led_same changes (b ∷ bs) each =
      (λ is. ap (λ t. found_after t changes) (same b.id) ∙ each.0 is, led_same changes bs each.1)

  pub shown_same : (books : List Book) (changes : List Change) → AreShown books before changes
      → AreShown books after changes
  shown_same books changes shown = record {
    led = led_same changes books shown.led;
    none = λ t e. shown.none t (sym (any_same t books) ∙ e);
  }

  alike : (t : FourTuple) (b : Book) → is_indexed_as t (live_in after b) ≡ is_indexed_as t (live_in before b)
  alike t b = ap (λ u. b.indexed && same_tuple t u) (same b.id)

  still_not : (t u : FourTuple) → u ≡ t → (bs : List Book)
      → Each (λ (c : Book). is_indexed_as t (live_in before c) ≡ false) bs
      → Each (λ (c : Book). is_indexed_as u (live_in after c) ≡ false) bs
  still_not t u e [] each = tt
  still_not t u e (c ∷ cs) each =
      (alike u c ∙ (ap (λ x. is_indexed_as x (live_in before c)) e ∙ each.0), still_not t u e cs each.1)

  still_once : (bs : List Book) → AreOnce before bs → AreOnce after bs
  still_once [] once = tt
  still_once (b ∷ bs) once = (
    λ is. still_not (known_of b.id before).tuple (known_of b.id after).tuple (same b.id) bs (once.0 is),
    still_once bs once.1,
  )

module _ (before after : List Held) (leads : Leads before after) where
  still_findable : (bs : List Book) → Each (IsFindable before) bs → Each (IsFindable after) bs
  still_findable [] each = tt
  still_findable (b ∷ bs) each = (λ f. (leads b.id).over (each.0 f), still_findable bs each.1)

  still_all : (books : List Book) (f : FlowId) → ((known_of f before).entries ≡ []) ⊎ ((n : ℕ) × IsAt n f books)
      → ((known_of f after).entries ≡ []) ⊎ ((n : ℕ) × IsAt n f books)
  still_all books f (inl none) = inl ((leads f).none none)
  still_all books f (inr at) = inr at

  pub indexed_still : (books : List Book) → AreIndexed books before → AreIndexed books after
  indexed_still books are = record {
    running = still_findable books are.running;
    once = still_once before after (λ f. (leads f).tuple) books are.once;
    all = λ f. still_all books f (are.all f);
  }
