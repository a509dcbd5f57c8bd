-- What is being opened where one history became another, and the lists of openings were told where the flow stands: for
-- the law calls_alone_keep_it.
use Rattle.std.proofs.Common.{◌≡◌, ℕ, ◌==◌, ◌&&◌, not, cond, Bool, true, false, List, [], ◌∷◌, map, refl, sym, ap, ◌∙◌}
use Rattle.std.proofs.Common.{inl, inr, arith, true≢false, if◌then◌else◌}
use Rattle.std.specs.Prelude.{◌⊎◌, Option, Some, None}
use Rattle.std.specs.List.{filter}
use Rattle.std.proofs.lemmas.Bool.Decides.{nat_tests}
use Rattle.tas_model.specs.declared.entry.FlowId.{FlowId}
use Rattle.tas_model.specs.declared.entry.Reason.{Reason}
use Rattle.tas_model.specs.declared.entry.Phase.TheVariants as phases
use Rattle.tas_model.specs.Endpoint.{Endpoint, synchronized, is_fin_acked}
use Rattle.host_rounds.specs.Hosts.{is_waiting_by}
use Rattle.flow_lock.specs.Orders.{known_of, same_flow}
use Rattle.flow_lock.specs.declared.view.Held.{Held}
use Rattle.flow_lock.specs.declared.view.History.{History}
use Rattle.flow_clock.specs.Histories.{endpoint_of, is_over, is_running}
use Rattle.slow_handshake.specs.Openings.{Openings, is_named, readied}
use Rattle.slow_handshake.specs.declared.openings.PassiveFlow.{PassiveFlow}
use Rattle.slow_worker.specs.Entering.{phase_of, told}
use Rattle.host_books.specs.Books.{Book}
use Rattle.sound_hosts.specs.Hosts.{waiting_in}
use Rattle.sound_hosts.specs.Leading.{LedOn}

-- ----- what the lists are told
-- past its opening the flow may be accepted, closed it leaves, and else it stays as it is
data TellsOf (k : History) (id : FlowId) (o : Openings) : Type 0 where
  Stays : is_over k ≡ false → is_running k ≡ false → told (phase_of k) id o ≡ o → TellsOf k id o
  Leaves : is_over k ≡ true
      → told (phase_of k) id o ≡ record o { flows = filter (λ f. not (is_named id f)) o.flows } → TellsOf k id o
  Readies : is_over k ≡ false → is_running k ≡ true
      → told (phase_of k) id o ≡ record o { flows = map (readied id) o.flows } → TellsOf k id o

past : (una : ℕ) (shut fin_acked ended ended_first : Bool) (id : FlowId) (o : Openings) → (una == 0) ≡ false
    → told (synchronized una shut fin_acked ended ended_first) id o ≡ record o { flows = map (readied id) o.flows }
past una shut fin_acked ended ended_first id o some = rw some (by shut fin_acked ended ended_first)
  where
    by : (s f d e : Bool)
        → told (if s then (
        if d then (if e then phases.LastAck else if f then phases.TimeWait else phases.Closing)
        else if f then phases.FinWait2 else phases.FinWait1)
        else if d then phases.CloseWait else phases.Established) id o
        ≡ record o { flows = map (readied id) o.flows }
    by true true true true = refl
    by true true true false = refl
    by true true false true = refl
    by true true false false = refl
    by true false true true = refl
    by true false true false = refl
    by true false false true = refl
    by true false false false = refl
    by false true true true = refl
    by false true true false = refl
    by false true false true = refl
    by false true false false = refl
    by false false true true = refl
    by false false true false = refl
    by false false false true = refl
    by false false false false = refl

tells : (k : History) (id : FlowId) (o : Openings) → TellsOf k id o
tells k id o = by_reason (endpoint_of k).reason (endpoint_of k).peer refl refl
  where
    e : Endpoint
    e = endpoint_of k

    by_una : (first : ℕ) (b : Bool) → e.reason ≡ None → e.peer ≡ Some first → (e.tx.una == 0) ≡ b → TellsOf k id o
    by_una first true r p z = Stays (rw r refl) (rw (r, p, z) refl) (rw (r, p, z) refl)
    by_una first false r p z =
        Readies (rw r refl) (rw (r, p, z) refl)
        (rw (r, p) (past e.tx.una e.tx.shut (is_fin_acked e.tx) e.rx.ended e.rx.ended_first id o z))

    by_reason : (r : Option Reason) (p : Option ℕ) → e.reason ≡ r → e.peer ≡ p → TellsOf k id o
    by_reason (Some why) p r q = Leaves (rw r refl) (rw r refl)
    by_reason None None r q = Stays (rw r refl) (rw (r, q) refl) (rw (r, q) refl)
    by_reason None (Some first) r q = by_una first (e.tx.una == 0) r q refl

-- ----- the flows that wait
pub named_is : (id f : FlowId) → (f.slot == id.slot && f.generation == id.generation) ≡ same_flow id f
named_is id f = grind (arith, nat_tests)

cond_false : {X : Type 0} (x : Bool) (a b : X) → cond (x && false) a b ≡ b
cond_false true a b = refl
cond_false false a b = refl

module _ (known : List Held) (id : FlowId) (k : History) where
  abbrev after : List Held
  after = record { flow = id; history = k } ∷ known

  -- what a book has of the flows that wait, where its history is the one or the other
  module _ (b : Book) where
    abbrev pick : Bool → History
    pick s = cond s k (known_of b.id known)

    abbrev test : Bool → Bool
    test s = is_waiting_by b.holder && not (is_over (pick s))

    abbrev flow : Bool → PassiveFlow
    flow s = record { id = b.id; port = (pick s).tuple.lport; ready = is_running (pick s) }

    abbrev head : Bool → List PassiveFlow → List PassiveFlow
    head s rest = cond (test s) (flow s ∷ rest) rest

  -- a closed flow left
  abbrev stays : PassiveFlow → Bool
  stays f = not (is_named id f)

  pub left_waiting : is_over k ≡ true → (bs : List Book) → waiting_in after bs ≡ filter stays (waiting_in known bs)
  left_waiting over [] = refl
  left_waiting over (b ∷ bs) = by_same (same_flow id b.id) refl (left_waiting over bs)
    where
      kept : same_flow id b.id ≡ false → waiting_in after bs ≡ filter stays (waiting_in known bs) → (w : Bool)
          → cond w (flow b false ∷ waiting_in after bs) (waiting_in after bs)
          ≡ filter stays (cond w (flow b false ∷ waiting_in known bs) (waiting_in known bs))
      kept e rest true =
          (λ i. flow b false ∷ rest i)
          ∙ ap (λ c. cond c (flow b false ∷ filter stays (waiting_in known bs)) (filter stays (waiting_in known bs)))
          (sym (ap not (named_is id b.id ∙ e)))
      kept e rest false = rest

      gone : same_flow id b.id ≡ true → (w : Bool)
          → filter stays (cond w (flow b false ∷ waiting_in known bs) (waiting_in known bs))
          ≡ filter stays (waiting_in known bs)
      gone e true =
          ap (λ c. cond c (flow b false ∷ filter stays (waiting_in known bs)) (filter stays (waiting_in known bs)))
          (ap not (named_is id b.id ∙ e))
      gone e false = refl

      by_same : (s : Bool) → same_flow id b.id ≡ s → waiting_in after bs ≡ filter stays (waiting_in known bs)
          → head b (same_flow id b.id) (waiting_in after bs) ≡ filter stays (head b false (waiting_in known bs))
      by_same true e rest =
          ap (λ s. head b s (waiting_in after bs)) e
          ∙ (ap (λ x. cond (is_waiting_by b.holder && not x) (flow b true ∷ waiting_in after bs) (waiting_in after bs))
          over
          ∙ (cond_false (is_waiting_by b.holder) (flow b true ∷ waiting_in after bs) (waiting_in after bs)
          ∙ (rest ∙ sym (gone e (test b false)))))
      by_same false e rest = ap (λ s. head b s (waiting_in after bs)) e ∙ kept e rest (test b false)

  module _ (led : LedOn (known_of id known) k) (open_ : is_over k ≡ false) where
    not_over : (x : Bool) → (x ≡ true → is_over k ≡ true) → x ≡ false
    not_over true h = absurd (true≢false (sym (h refl) ∙ open_))
    not_over false h = refl

    was_open : is_over (known_of id known) ≡ false
    was_open = not_over (is_over (known_of id known)) led.over

    is_it : (f : FlowId) → same_flow id f ≡ true → id ≡ f
    is_it f e =
        let both = and_both (id.slot == f.slot) (id.generation == f.generation) e in
        let slot : id.slot ≡ f.slot = same_number id.slot f.slot both.0 in
        let generation : id.generation ≡ f.generation = same_number id.generation f.generation both.1 in
        λ i. record { slot = slot i; generation = generation i }
      where
        and_both : (a c : Bool) → (a && c) ≡ true → (a ≡ true) × (c ≡ true)
        and_both true c h = (refl, h)
        and_both false c h = absurd (true≢false (sym h))

        same_number : (n m : ℕ) → (n == m) ≡ true → n ≡ m
        same_number n m h = grind (arith, nat_tests, h)

    -- whether it waits is as before
    test_same : (b : Book) → same_flow id b.id ≡ true → test b true ≡ test b false
    test_same b e =
        let before : is_over (known_of b.id known) ≡ false =
        ap (λ f. is_over (known_of f known)) (sym (is_it b.id e)) ∙ was_open in
        ap (λ x. is_waiting_by b.holder && not x) (open_ ∙ sym before)

    port_same : (b : Book) → same_flow id b.id ≡ true → k.tuple.lport ≡ (known_of b.id known).tuple.lport
    port_same b e =
        ap (λ t. t.lport) led.tuple ∙ ap (λ f. (known_of f known).tuple.lport) (is_it b.id e)

    -- one that was in its opening and still is
    still_waiting : is_running k ≡ false → (bs : List Book) → waiting_in after bs ≡ waiting_in known bs
    still_waiting early [] = refl
    still_waiting early (b ∷ bs) = by_same (same_flow id b.id) refl (still_waiting early bs)
      where
        was_early : (x : Bool) → (x ≡ true → (is_running k ≡ true) ⊎ (is_over k ≡ true)) → x ≡ false
        was_early true h = absurd (by (h refl))
          where
            by : (is_running k ≡ true) ⊎ (is_over k ≡ true) → ⊥
            by (inl r) = true≢false (sym r ∙ early)
            by (inr o) = true≢false (sym o ∙ open_)
        was_early false h = refl

        by_same : (s : Bool) → same_flow id b.id ≡ s → waiting_in after bs ≡ waiting_in known bs
            → head b (same_flow id b.id) (waiting_in after bs) ≡ head b false (waiting_in known bs)
        by_same false e rest = ap (λ s. head b s (waiting_in after bs)) e ∙ ap (head b false) rest
        by_same true e rest =
            let before : is_running (known_of b.id known) ≡ false =
            ap (λ f. is_running (known_of f known)) (sym (is_it b.id e))
            ∙ was_early (is_running (known_of id known)) led.running in
            let flow_same : flow b true ≡ flow b false =
            λ i. record { id = b.id; port = port_same b e i; ready = (early ∙ sym before) i } in
            ap (λ s. head b s (waiting_in after bs)) e
            ∙ (λ i. cond (test_same b e i) (flow_same i ∷ rest i) (rest i))

    -- one that is past its opening
    ready_waiting : is_running k ≡ true → (bs : List Book)
        → waiting_in after bs ≡ map (readied id) (waiting_in known bs)
    ready_waiting runs [] = refl
    ready_waiting runs (b ∷ bs) = by_same (same_flow id b.id) refl (ready_waiting runs bs)
      where
        W : List PassiveFlow
        W = map (readied id) (waiting_in known bs)

        readied_other : same_flow id b.id ≡ false → readied id (flow b false) ≡ flow b false
        readied_other e =
            ap (λ c. cond c (record (flow b false) { ready = true }) (flow b false)) (named_is id b.id ∙ e)

        readied_own : same_flow id b.id ≡ true → readied id (flow b false) ≡ record (flow b false) { ready = true }
        readied_own e =
            ap (λ c. cond c (record (flow b false) { ready = true }) (flow b false)) (named_is id b.id ∙ e)

        others : same_flow id b.id ≡ false → (w : Bool)
            → cond w (flow b false ∷ W) W
            ≡ map (readied id) (cond w (flow b false ∷ waiting_in known bs) (waiting_in known bs))
        others e true = λ i. sym (readied_other e) i ∷ W
        others e false = refl

        own : same_flow id b.id ≡ true → (w : Bool)
            → cond w (flow b true ∷ W) W
            ≡ map (readied id) (cond w (flow b false ∷ waiting_in known bs) (waiting_in known bs))
        own e true =
            let flow_same : flow b true ≡ record (flow b false) { ready = true } =
            λ i. record { id = b.id; port = port_same b e i; ready = runs i } in
            λ i. (flow_same ∙ sym (readied_own e)) i ∷ W
        own e false = refl

        by_same : (s : Bool) → same_flow id b.id ≡ s → waiting_in after bs ≡ W
            → head b (same_flow id b.id) (waiting_in after bs) ≡ map (readied id) (head b false (waiting_in known bs))
        by_same false e rest =
            ap (λ s. head b s (waiting_in after bs)) e ∙ (ap (head b false) rest ∙ others e (test b false))
        by_same true e rest =
            ap (λ s. head b s (waiting_in after bs)) e
            ∙ (ap (head b true) rest
            ∙ (ap (λ c. cond c (flow b true ∷ W) W) (test_same b e) ∙ own e (test b false)))

  -- ----- all that was told
  pub told_waiting : LedOn (known_of id known) k → (o : Openings) (bs : List Book) → o.flows ≡ waiting_in known bs
      → (told (phase_of k) id o).flows ≡ waiting_in after bs
  told_waiting led o bs are = by (tells k id o)
    where
      by : TellsOf k id o → (told (phase_of k) id o).flows ≡ waiting_in after bs
      by (Stays open_ early e) =
          ap (λ (p : Openings). p.flows) e ∙ (are ∙ sym (still_waiting led open_ early bs))
      by (Leaves over e) =
          ap (λ (p : Openings). p.flows) e ∙ (ap (filter stays) are ∙ sym (left_waiting over bs))
      by (Readies open_ runs e) =
          ap (λ (p : Openings). p.flows) e ∙ (ap (map (readied id)) are ∙ sym (ready_waiting led open_ runs bs))

  -- nothing else of the openings changes
  pub told_params : (o : Openings) → (told (phase_of k) id o).params ≡ o.params
  told_params o = by (tells k id o)
    where
      by : TellsOf k id o → (told (phase_of k) id o).params ≡ o.params
      by (Stays open_ early e) = ap (λ (p : Openings). p.params) e
      by (Leaves over e) = ap (λ (p : Openings). p.params) e
      by (Readies open_ runs e) = ap (λ (p : Openings). p.params) e

  pub told_ports : (o : Openings) → (told (phase_of k) id o).ports ≡ o.ports
  told_ports o = by (tells k id o)
    where
      by : TellsOf k id o → (told (phase_of k) id o).ports ≡ o.ports
      by (Stays open_ early e) = ap (λ (p : Openings). p.ports) e
      by (Leaves over e) = ap (λ (p : Openings). p.ports) e
      by (Readies open_ runs e) = ap (λ (p : Openings). p.ports) e

  pub told_listeners : (o : Openings) → (told (phase_of k) id o).listeners ≡ o.listeners
  told_listeners o = by (tells k id o)
    where
      by : TellsOf k id o → (told (phase_of k) id o).listeners ≡ o.listeners
      by (Stays open_ early e) = ap (λ (p : Openings). p.listeners) e
      by (Leaves over e) = ap (λ (p : Openings). p.listeners) e
      by (Readies open_ runs e) = ap (λ (p : Openings). p.listeners) e
