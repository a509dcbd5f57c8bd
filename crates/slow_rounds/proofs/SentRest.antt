-- What is sent alone of all flows is a run's emissions: for the law rests_sent_alone_are_emit_phases.
use Rattle.std.proofs.Common.{◌≡◌, ℕ, zero, suc, cond, Bool, true, false, true≢false, List, [], ◌∷◌, map, refl, sym}
use Rattle.std.proofs.Common.{ap, ◌∙◌, subst, is_some}
use Rattle.std.specs.Prelude.{Option, Some, None, IsSome}
use Rattle.std.specs.List.{filter}
use Rattle.tas_model.specs.declared.entry.Call.TheVariants as calls
use Rattle.tas_model.specs.declared.entry.Caller.TheVariants.{Core}
use Rattle.tas_model.specs.declared.entry.FlowId.{FlowId}
use Rattle.tas_model.specs.declared.entry.Reply.{Reply}
use Rattle.tas_model.specs.ApplicationCalls.{column}
use Rattle.tas_model.specs.Endpoint.{Endpoint}
use Rattle.tas_model.specs.LegalHistory.{Legal, step}
use Rattle.tas_model.specs.NextSegment.{Going, going, emitted}
use Rattle.tas_model.proofs.Grows.{legal_by}
use Rattle.flow_state.specs.Flow.{Flow, next_entry, reply_to}
use Rattle.host_rounds.specs.Hosts.{Live}
use Rattle.host_rounds.specs.Lists.{Each}
use Rattle.host_rounds.specs.SerialOrder.{emit_phase}
use Rattle.host_rounds.specs.Upkeep.{quieted}
use Rattle.host_rounds.proofs.Quiet.{quieted_next}
use Rattle.flow_lock.specs.Orders.{known_of, same_flow}
use Rattle.flow_lock.specs.declared.view.Deed.{Deed}
use Rattle.flow_lock.specs.declared.view.Held.{Held}
use Rattle.flow_lock.specs.declared.view.History.{History}
use Rattle.flow_lock.specs.declared.view.View.{View}
use Rattle.app_reaper.specs.OneCall.{history}
use Rattle.core_worker.specs.Sending.{AreSent, IsAllSent, may_go, with_emission}
use Rattle.core_phase.specs.Deeds.{IsSend, KeepsColumn}
use Rattle.flow_clock.specs.Histories.{endpoint_of, is_over}
use Rattle.slow_worker.specs.Alone.{IsUsed, AreUsed}
use Rattle.host_books.specs.Books.{Book, live_as, live_in}
use Rattle.host_books.proofs.Indexing.{is_same_flow}
use Rattle.host_books.proofs.Orders.{same_self}
use Rattle.sound_hosts.specs.Counting.{IsCounted}
use Rattle.sound_hosts.specs.Hosts.{CoreHost, host_of, id_of, is_indexed, known_in}
use Rattle.sound_hosts.specs.Leading.{LedOn}
use Rattle.sound_hosts.specs.Sound.{IsHostSound}
use Rattle.sound_hosts.proofs.Calls.{call_leads}
use Rattle.sound_hosts.proofs.OneFlow.{used_leads}
use Rattle.sound_turns.proofs.Steps.{same_led}
use Rattle.slow_rounds.specs.Sending.{IsSilent, with_view}
use Rattle.slow_rounds.proofs.Emissions.{none_left}
use Rattle.slow_rounds.proofs.Sent.{IsStill, begun, led_twice, one_still, still_sound}

emit_steps : (e : Endpoint) (t : ℕ) (reply : Reply) (g : Going) → going e ≡ Some g → IsSome (step e t calls.Emit reply)
unfolding step
emit_steps e t reply g is = subst (λ (o : Option Going). IsSome (emitted o)) (sym is) refl

module _ (sends_keep : (core t : ℕ) (d : Deed) → IsSend core t d → KeepsColumn d) (tick : ℕ) where
  -- ----- one flow's history
  -- with more sent, of which what is then still to be sent is the same
  record IsLater (h k : History) : Type 0 where
    pub legal : Legal k.params k.entries
    pub led : LedOn h k
    pub columns : column (endpoint_of k) ≡ column (endpoint_of h)
    pub quiet : (b : Book) → quieted tick (live_as b k) ≡ quieted tick (live_as b h)

  one_later : (h : History) → Legal h.params h.entries → may_go h ≡ true → IsLater h (with_emission 0 tick h)
  one_later h legal go = by_going (going (endpoint_of h)) refl
    where
      by_going : (o : Option Going) → going (endpoint_of h) ≡ o → IsLater h (with_emission 0 tick h)
      by_going None e = absurd (true≢false (sym go ∙ ap (λ (o : Option Going). is_some o) e))
      by_going (Some g) e = record {
        legal = legal_by h.params h.entries (Core 0) tick calls.Emit [] legal tt (emit_steps (endpoint_of h) _ _ g e);
        led = call_leads h (Core 0) tick calls.Emit [] legal;
        columns = sends_keep 0 tick (record {
          flow = record { slot = 0; generation = 0 };
          before = h;
          entry = next_entry h.entries (Core 0) tick calls.Emit (reply_to h.params h.entries tick calls.Emit []);
        }) (record { goes = go; adds = record { legal = legal; made = refl } });
        quiet = λ b. sym (quieted_next tick (live_as b h) g legal e);
      }

  all_later : (n : ℕ) (h k : History) → Legal h.params h.entries → AreSent 0 tick n h k → IsLater h k
  all_later zero h k legal same =
      subst (IsLater h) (sym same) (record { legal = legal; led = same_led h; columns = refl; quiet = λ b. refl })
  all_later (suc n) h k legal (go, more) =
      let a = one_later h legal go in
      let b = all_later n (with_emission 0 tick h) k a.legal more in
      record {
        legal = b.legal;
        led = led_twice h (with_emission 0 tick h) k a.led b.led;
        columns = b.columns ∙ a.columns;
        quiet = λ c. b.quiet c ∙ a.quiet c;
      }

  module _ (h : CoreHost) (sound : IsHostSound h) where
    abbrev Still : View → Type 0
    Still w = IsStill sends_keep h tick sound w

    abbrev IsHushed : FlowId → View → Type 0
    IsHushed f w = may_go (known_of f w.base) ≡ false

    -- ----- one flow
    module _ (id : FlowId) (v w : View) (still : Still v) (used : IsUsed (IsAllSent 0 tick) id v w) where
      abbrev r : Flow
      r = used.0

      abbrev k : History
      k = used.1

      is_known : history r ≡ known_of id v.base
      is_known = used.2.known still.on.alone

      later : IsLater (history r) k
      later = all_later used.3.0.0 (history r) k used.2.legal used.3.0.1

      flow_still : Still w
      flow_still = one_still sends_keep h tick sound id r k v w still used.2 used.4 later.led later.columns

      base : w.base ≡ record { flow = id; history = k } ∷ v.base
      base = (used_leads id r k v w still.on.alone used.4).base

      one_quiet : (b : Book) → quieted tick (live_in w.base b) ≡ quieted tick (live_in v.base b)
      one_quiet b = ap (λ (l : List Held). quieted tick (live_in l b)) base ∙ by (same_flow id b.id) refl
        where
          by : (s : Bool) → same_flow id b.id ≡ s
              → quieted tick (live_as b (cond (same_flow id b.id) k (known_of b.id v.base)))
              ≡ quieted tick (live_in v.base b)
          by true e =
              ap (λ s. quieted tick (live_as b (cond s k (known_of b.id v.base)))) e
              ∙ (later.quiet b
              ∙ ap (λ (x : History). quieted tick (live_as b x))
              (is_known ∙ ap (λ f. known_of f v.base) (is_same_flow id b.id e)))
          by false e = ap (λ s. quieted tick (live_as b (cond s k (known_of b.id v.base)))) e

      books_quiet : (bs : List Book)
          → map (quieted tick) (map (live_in w.base) bs) ≡ map (quieted tick) (map (live_in v.base) bs)
      books_quiet [] = refl
      books_quiet (b ∷ bs) = λ i. one_quiet b i ∷ books_quiet bs i

      hushed_kept : (f : FlowId) → IsHushed f v → IsHushed f w
      hushed_kept f had = ap (λ (l : List Held). may_go (known_of f l)) base ∙ by (same_flow id f) refl
        where
          by : (s : Bool) → same_flow id f ≡ s → may_go (cond (same_flow id f) k (known_of f v.base)) ≡ false
          by true e = ap (λ s. may_go (cond s k (known_of f v.base))) e ∙ used.3.1
          by false e = ap (λ s. may_go (cond s k (known_of f v.base))) e ∙ had

      hushed_made : IsHushed id w
      hushed_made =
          ap (λ (l : List Held). may_go (known_of id l)) base
          ∙ (ap (λ s. may_go (cond s k (known_of id v.base))) (same_self id) ∙ used.3.1)

    -- ----- all flows
    all_still : (ids : List FlowId) (v w : View) → Still v → AreUsed (IsAllSent 0 tick) ids v w → Still w
    all_still [] v w still same = subst Still (sym same) still
    all_still (id ∷ ids) v w still (u, used, rest) = all_still ids u w (flow_still id v u still used) rest

    all_quiet : (ids : List FlowId) (v w : View) → Still v → AreUsed (IsAllSent 0 tick) ids v w → (bs : List Book)
        → map (quieted tick) (map (live_in w.base) bs) ≡ map (quieted tick) (map (live_in v.base) bs)
    all_quiet [] v w still same bs = ap (λ (x : View). map (quieted tick) (map (live_in x.base) bs)) same
    all_quiet (id ∷ ids) v w still (u, used, rest) bs =
        all_quiet ids u w (flow_still id v u still used) rest bs ∙ books_quiet id v u still used bs

    all_kept : (ids : List FlowId) (v w : View) → Still v → AreUsed (IsAllSent 0 tick) ids v w → (f : FlowId)
        → IsHushed f v → IsHushed f w
    all_kept [] v w still same f had = ap (λ (x : View). may_go (known_of f x.base)) same ∙ had
    all_kept (id ∷ ids) v w still (u, used, rest) f had =
        all_kept ids u w (flow_still id v u still used) rest f (hushed_kept id v u still used f had)

    all_made : (ids : List FlowId) (v w : View) → Still v → AreUsed (IsAllSent 0 tick) ids v w
        → Each (λ (f : FlowId). IsHushed f w) ids
    all_made [] v w still same = tt
    all_made (id ∷ ids) v w still (u, used, rest) =
        let next = flow_still id v u still used in
        (all_kept ids u w next rest id (hushed_made id v u still used), all_made ids u w next rest)

    -- ----- the host
    module _ (w : View) (sent : AreUsed (IsAllSent 0 tick) h.slow.pins h.slow.pass.view w) where
      still : Still w
      still = all_still h.slow.pins h.slow.pass.view w (begun sends_keep h tick sound) sent

      of_pins : (bs : List Book) → Each (λ (f : FlowId). IsHushed f w) (map id_of (filter is_indexed bs))
          → Each (λ (b : Book). b.indexed ≡ true → IsHushed b.id w) bs
      of_pins [] each = tt
      of_pins (b ∷ bs) each = by b.indexed each (of_pins bs)
        where
          by : (x : Bool)
              → Each (λ (f : FlowId). IsHushed f w)
              (map id_of (cond x (b ∷ filter is_indexed bs) (filter is_indexed bs)))
              → (Each (λ (f : FlowId). IsHushed f w) (map id_of (filter is_indexed bs))
              → Each (λ (c : Book). c.indexed ≡ true → IsHushed c.id w) bs)
              → (x ≡ true → IsHushed b.id w) × Each (λ (c : Book). c.indexed ≡ true → IsHushed c.id w) bs
          by true all rest = (λ e. all.0, rest all.1)
          by false all rest = (λ e. absurd (true≢false (sym e)), rest all)

      hushed : Each (λ (b : Book). b.indexed ≡ true → IsHushed b.id w) h.books
      hushed = of_pins h.books (subst (Each (λ (f : FlowId). IsHushed f w)) sound.kept.pins
          (all_made h.slow.pins h.slow.pass.view w (begun sends_keep h tick sound) sent))

      none_goes : (o : Option Going) → is_some o ≡ false → o ≡ None
      none_goes None e = refl
      none_goes (Some g) e = absurd (true≢false e)

      silent : (bs : List Book) → Each (λ (b : Book). b.indexed ≡ true → IsHushed b.id w) bs
          → Each (λ (b : Book). b.indexed ≡ false → is_over (known_of b.id (known_in h)) ≡ true) bs
          → Each (IsSilent w.base) bs
      silent [] p q = tt
      silent (b ∷ bs) p q = (λ free. by free b.indexed refl, silent bs p.1 q.1)
        where
          by : is_over (known_of b.id w.base) ≡ false → (x : Bool) → b.indexed ≡ x
              → going (endpoint_of (known_of b.id w.base)) ≡ None
          by free true e = none_goes (going (endpoint_of (known_of b.id w.base))) (p.0 e)
          by free false e = absurd (true≢false (sym ((still.on.leads b.id).over (q.0 e)) ∙ free))

      pub rest_sent : IsHostSound (with_view w h) × (IsCounted h → IsCounted (with_view w h))
          × (host_of (with_view w h) ≡ emit_phase tick (host_of h))
      rest_sent = (
        still_sound sends_keep h tick sound w still,
        λ counted. still.opened ∙ counted,
        ap (λ (ls : List Live). record (host_of h) { flows = ls })
            (sym (none_left tick w.base h.books (silent h.books hushed sound.indexed.running))
            ∙ all_quiet h.slow.pins h.slow.pass.view w (begun sends_keep h tick sound) sent h.books),
      )
