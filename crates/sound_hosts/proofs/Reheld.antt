-- Books with other holders: all that doesn't read who holds a flow is as it was. For the laws of sockets that are given
-- up, and of flows that are accepted.
use Rattle.std.proofs.Common.{◌≡◌, ℕ, zero, suc, ◌+◌, ◌&&◌, ◌||◌, not, cond, Bool, true, false, List, [], ◌∷◌, ◌++◌}
use Rattle.std.proofs.Common.{map, refl, sym, ap, ◌∙◌, subst, inl, inr, arith, count_by}
use Rattle.std.specs.Prelude.{◌⊎◌}
use Rattle.std.specs.List.{filter, list_any}
use Rattle.tas_model.specs.declared.entry.FlowId.{FlowId}
use Rattle.tas_model.specs.declared.entry.FourTuple.{FourTuple}
use Rattle.host_rounds.specs.Hosts.{Holder, is_indexed_as, is_waiting_by}
use Rattle.host_rounds.specs.Lists.{Each}
use Rattle.host_rounds.proofs.Lists.{map_append}
use Rattle.core_rounds.proofs.Filters.{tally, count_cons}
use Rattle.flow_index.specs.Changes.{found_after}
use Rattle.flow_index.specs.declared.change.Change.{Change}
use Rattle.flow_index.specs.declared.change.Found.TheVariants as found
use Rattle.flow_lock.specs.Orders.{known_of, same_flow}
use Rattle.flow_lock.specs.declared.view.Held.{Held}
use Rattle.flow_lock.specs.declared.view.Mark.{Mark}
use Rattle.flow_clock.specs.Histories.{is_over, is_running}
use Rattle.slow_handshake.specs.declared.openings.PassiveFlow.{PassiveFlow}
use Rattle.host_books.specs.Books.{Book, live_in, IsAt}
use Rattle.host_books.specs.Indexes.{AreIndexed, AreOnce, IsFindable}
use Rattle.sound_hosts.specs.Hosts.{flows_in, waiting_in, passive_flow, tuple_of, known_flow, id_of}
use Rattle.sound_hosts.specs.Hosts.{is_of_slot, stands_in, is_doomed_in, AreNumbered}
use Rattle.sound_hosts.specs.Leaving.{reheld}
use Rattle.sound_hosts.specs.Sound.{AreShown, IsMarked, IsPlain}

module _ (holder : Book → Holder) where
  abbrev r : Book → Book
  r = reheld holder

  abbrev all : List Book → List Book
  all bs = map r bs

  -- ----- tests
  pub count_reheld : (p : Book → Bool) → ((b : Book) → p (r b) ≡ p b) → (bs : List Book)
      → count_by p (all bs) ≡ count_by p bs
  count_reheld p same [] = refl
  count_reheld p same (b ∷ bs) =
      let a : count_by p (r b ∷ all bs) ≡ tally (p (r b)) + count_by p (all bs) = count_cons p (r b) (all bs) in
      let c : count_by p (b ∷ bs) ≡ tally (p b) + count_by p bs = count_cons p b bs in
      let d : tally (p (r b)) ≡ tally (p b) = ap tally (same b) in
      let e : count_by p (all bs) ≡ count_by p bs = count_reheld p same bs in
      omega (arith, a, c, d, e)

  pub any_reheld : (p : Book → Bool) → ((b : Book) → p (r b) ≡ p b) → (bs : List Book)
      → list_any p (all bs) ≡ list_any p bs
  any_reheld p same [] = refl
  any_reheld p same (b ∷ bs) = λ i. same b i || any_reheld p same bs i

  -- the names of those that pass a test
  pub names_reheld : (p q : Book → Bool) (bs : List Book) → Each (λ (b : Book). p (r b) ≡ q b) bs
      → map id_of (filter p (all bs)) ≡ map id_of (filter q bs)
  names_reheld p q [] each = refl
  names_reheld p q (b ∷ bs) each =
      ap (λ t. map id_of (cond t (r b ∷ filter p (all bs)) (filter p (all bs)))) each.0
      ∙ by (q b) (names_reheld p q bs each.1)
    where
      by : (t : Bool) → map id_of (filter p (all bs)) ≡ map id_of (filter q bs)
          → map id_of (cond t (r b ∷ filter p (all bs)) (filter p (all bs)))
          ≡ map id_of (cond t (b ∷ filter q bs) (filter q bs))
      by true rest = ap (λ l. b.id ∷ l) rest
      by false rest = rest

  pub each_reheld : (P Q : Book → Type 0) → ((b : Book) → P b → Q (r b)) → (bs : List Book) → Each P bs
      → Each Q (all bs)
  each_reheld P Q keeps [] each = tt
  each_reheld P Q keeps (b ∷ bs) each = (keeps b each.0, each_reheld P Q keeps bs each.1)

  -- ----- numbers
  pub numbered_reheld : (slots : ℕ) (before bs : List Book) → AreNumbered slots before bs
      → AreNumbered slots (all before) (all bs)
  numbered_reheld slots before [] numbered = tt
  numbered_reheld slots before (b ∷ bs) numbered = (
    numbered.0,
    numbered.1 ∙ ap (λ n. 1 + n) (sym (count_reheld (is_of_slot b.id.slot) (λ c. refl) before)),
    subst (λ (l : List Book). AreNumbered slots l (all bs)) (map_append r before (b ∷ []))
        (numbered_reheld slots (before ++ b ∷ []) bs numbered.2),
  )

  pub plain_reheld : (bs : List Book) → Each IsPlain bs → Each IsPlain (all bs)
  plain_reheld bs each = each_reheld IsPlain IsPlain (λ b p. p) bs each

  -- ----- slots
  pub marked_reheld : (bs : List Book) (i : ℕ) (m : Mark) → IsMarked bs i m → IsMarked (all bs) i m
  marked_reheld bs i m marked = record {
    generation = marked.generation ∙ sym (count_reheld (is_of_slot i) (λ c. refl) bs);
    live = marked.live ∙ sym (any_reheld (stands_in i) (λ c. refl) bs);
    doomed = marked.doomed ∙ sym (any_reheld (is_doomed_in i) (λ c. refl) bs);
  }

  module _ (known : List Held) where
    -- ----- lists of flows
    pub flows_reheld : (bs : List Book) → flows_in known (all bs) ≡ flows_in known bs
    flows_reheld [] = refl
    flows_reheld (b ∷ bs) = λ i. cond b.indexed (known_flow known b ∷ flows_reheld bs i) (flows_reheld bs i)

    -- ----- the index
    abbrev IsLed : List Change → Book → Type 0
    IsLed changes b = b.indexed ≡ true → found_after (tuple_of known b) changes ≡ found.Flow b.id

    any_led : (t : FourTuple) (bs : List Book)
        → list_any (is_indexed_as t) (map (live_in known) (all bs))
        ≡ list_any (is_indexed_as t) (map (live_in known) bs)
    any_led t [] = refl
    any_led t (b ∷ bs) = λ i. is_indexed_as t (live_in known b) || any_led t bs i

    pub shown_reheld : (bs : List Book) (changes : List Change) → AreShown bs known changes
        → AreShown (all bs) known changes
    shown_reheld bs changes shown = record {
      led = each_reheld (IsLed changes) (IsLed changes) (λ b l. l) bs shown.led;
      none = λ t e. shown.none t (sym (any_led t bs) ∙ e);
    }

    once_reheld : (bs : List Book) → AreOnce known bs → AreOnce known (all bs)
    once_reheld [] once = tt
    once_reheld (b ∷ bs) once = (
      λ is. each_reheld (λ (c : Book). is_indexed_as (live_in known b).flow.tuple (live_in known c) ≡ false)
          (λ (c : Book). is_indexed_as (live_in known b).flow.tuple (live_in known c) ≡ false)
          (λ c e. e) bs (once.0 is),
      once_reheld bs once.1,
    )

    at_reheld : (n : ℕ) (f : FlowId) (bs : List Book) → IsAt n f bs → IsAt n f (all bs)
    at_reheld n f [] at = absurd at
    at_reheld zero f (b ∷ bs) at = (
      at.0,
      each_reheld (λ (c : Book). same_flow f c.id ≡ false) (λ (c : Book). same_flow f c.id ≡ false) (λ c e. e) bs at.1,
    )
    at_reheld (suc n) f (b ∷ bs) at = (at.0, at_reheld n f bs at.1)

    pub indexed_reheld : (bs : List Book) → AreIndexed bs known → AreIndexed (all bs) known
    indexed_reheld bs are = record {
      running = each_reheld (IsFindable known) (IsFindable known) (λ b e. e) bs are.running;
      once = once_reheld bs are.once;
      all = λ f. by f (are.all f);
    }
      where
        by : (f : FlowId) → ((known_of f known).entries ≡ []) ⊎ ((n : ℕ) × IsAt n f bs)
            → ((known_of f known).entries ≡ []) ⊎ ((n : ℕ) × IsAt n f (all bs))
        by f (inl none) = inl none
        by f (inr (n, at)) = inr (n, at_reheld n f bs at)

-- ----- flows that wait
-- with other histories, of which those that wait are as far as before
abbrev pub StaysWaiting : (before after : List Held) → Book → Type 0
StaysWaiting before after b = is_waiting_by b.holder ≡ true
    → (is_over (known_of b.id after) ≡ is_over (known_of b.id before))
    × (is_running (known_of b.id after) ≡ is_running (known_of b.id before))
    × ((known_of b.id after).tuple ≡ (known_of b.id before).tuple)

pub waiting_same : (before after : List Held) (bs : List Book) → Each (StaysWaiting before after) bs
    → waiting_in after bs ≡ waiting_in before bs
waiting_same before after [] each = refl
waiting_same before after (b ∷ bs) each = by (is_waiting_by b.holder) refl (waiting_same before after bs each.1)
  where
    row : List Held → List Book → Bool → List PassiveFlow
    row known rest w = cond (w && not (is_over (known_of b.id known))) (passive_flow known b ∷ waiting_in known rest)
        (waiting_in known rest)

    by : (w : Bool) → is_waiting_by b.holder ≡ w → waiting_in after bs ≡ waiting_in before bs
        → waiting_in after (b ∷ bs) ≡ waiting_in before (b ∷ bs)
    by false e rest = ap (row after bs) e ∙ (rest ∙ sym (ap (row before bs) e))
    by true e rest =
        let s = each.0 e in
        λ i. cond (is_waiting_by b.holder && not (is_over_at s i))
        (record { id = b.id; port = (s.2 i).lport; ready = s.1 i } ∷ rest i) (rest i)
      where
        is_over_at : (is_over (known_of b.id after) ≡ is_over (known_of b.id before))
            × (is_running (known_of b.id after) ≡ is_running (known_of b.id before))
            × ((known_of b.id after).tuple ≡ (known_of b.id before).tuple)
            → is_over (known_of b.id after) ≡ is_over (known_of b.id before)
        is_over_at s = s.0

-- with other holders, of which those that wait are the same
pub waiting_reheld : (holder : Book → Holder) (known : List Held) (bs : List Book)
    → Each (λ (b : Book). is_waiting_by (holder b) ≡ is_waiting_by b.holder) bs
    → waiting_in known (map (reheld holder) bs) ≡ waiting_in known bs
waiting_reheld holder known [] each = refl
waiting_reheld holder known (b ∷ bs) each =
    λ i. cond (each.0 i && not (is_over (known_of b.id known)))
    (passive_flow known b ∷ waiting_reheld holder known bs each.1 i) (waiting_reheld holder known bs each.1 i)
