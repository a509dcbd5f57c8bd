-- A tick of a host whose flows are shared is a right one, for the law shared_ticks_are_right;
-- and one without cores is such a tick.
use Rattle.std.proofs.Common.{◌≡◌, ℕ, ◌+◌, ◌<◌, Bool, List, [], ◌∷◌, ◌++◌, map, fold, filter, refl, sym, subst, ap, ◌∙◌}
use Rattle.std.proofs.Common.{append_assoc, append-nil, false}
use Rattle.tas_model.specs.declared.entry.Caller.{Caller}
use Rattle.tas_model.specs.declared.entry.Caller.TheVariants.{Slow, Core}
use Rattle.host_rounds.specs.Lists.{Each}
use Rattle.host_rounds.specs.Hosts.{Live, Host}
use Rattle.host_rounds.specs.Upkeep.{swept, all_swept}
use Rattle.host_rounds.specs.Deliveries.{Arrival}
use Rattle.host_rounds.specs.Scripts.{Site, Scripts}
use Rattle.host_rounds.specs.Moves.{AreByMoves}
use Rattle.host_rounds.specs.Rounds.{Action, Timer, Frame, Ask, Emission, Deed, does, on_host, Due, timers_from}
use Rattle.host_rounds.specs.Rounds.{due_actions, Agent, OfFlow, OfFrame, OfScript, is_by, actions_of, IsWorker, Round}
use Rattle.host_rounds.specs.Cores.{IsWorkerOf, AllBelow}
use Rattle.host_rounds.specs.SerialOrder.{slow_phase}
use Rattle.host_rounds.proofs.Lists.{fold_append, map_append, filter_append, each_append}
use Rattle.host_rounds.proofs.AllLegal.{AreLegal, all_kept, all_swept_kept}
use Rattle.host_rounds.proofs.Quiet.{all_quiet}
use Rattle.host_rounds.proofs.AllBelow.{are_workers, made_low}
use Rattle.host_rounds.proofs.SerialFrames.{by_slow, slow_actions, slow_workers, timers_fold, asks_fold}
use Rattle.host_rounds.proofs.SerialEmissions.{emissions_from, emissions_fold, emissions_due, emissions_workers}
use Rattle.core_rounds.specs.CoreTicks.{rest_phase}
use Rattle.core_rounds.proofs.CoresFrames.{left_due, left_fold}
use Rattle.core_rounds.specs.SharedTicks.{asked_of_host, AreDone, IsSending, alone_phase, IsSharedTick}
use Rattle.core_rounds.specs.SharedTicks.{tick_without_cores}

abbrev timers_due : {S A : Type 0} → Site S → List (Deed A)
timers_due site = by_slow (timers_from 0 (map swept site.host.flows))

abbrev asks_due : {A : Type 0} → List A → List (Deed A)
asks_due asks = by_slow (map Ask asks)

abbrev last_due : {S A : Type 0} → ℕ → Site S → List (Deed A)
last_due t asked = emissions_from t 0 asked.host.flows

module _ {S A : Type 0} (scripts : Scripts S A) (t : ℕ) where
  abbrev after_slow : Site S → Site S
  after_slow site = on_host (slow_phase t) site

  abbrev after_rest : Site S → List Arrival → Site S
  after_rest middle rest = on_host (λ (host : Host). rest_phase scripts t host rest) middle

  abbrev after_asks : Site S → List Arrival → List A → Site S
  after_asks middle rest later = alone_phase scripts t middle rest later

  abbrev order_to : Site S → List (Deed A) → List Arrival → List A → List (Deed A) → List (Deed A)
  order_to site order rest later more = timers_due site ++ (order ++ (left_due rest ++ (asks_due later ++ more)))

  -- ----- what the order leaves
  to_asks : (site middle : Site S) (order : List (Deed A)) (rest : List Arrival) (later : List A)
      (more : List (Deed A)) → fold (does scripts t) (after_slow site) order ≡ middle
      → fold (does scripts t) (on_host all_swept site) (order_to site order rest later more)
      ≡ fold (does scripts t) (after_asks middle rest later) more
  to_asks site middle order rest later more beside =
      let left : List (Deed A) = left_due rest in
      let asks : List (Deed A) = asks_due later in
      fold_append (does scripts t) (on_host all_swept site) (timers_due site) (order ++ (left ++ (asks ++ more)))
      ∙ ap (λ (s : Site S). fold (does scripts t) s (order ++ (left ++ (asks ++ more))))
      (timers_fold scripts t 0 (on_host all_swept site) [] (map swept site.host.flows) refl)
      ∙ fold_append (does scripts t) (after_slow site) order (left ++ (asks ++ more))
      ∙ ap (λ (s : Site S). fold (does scripts t) s (left ++ (asks ++ more))) beside
      ∙ fold_append (does scripts t) middle left (asks ++ more)
      ∙ ap (λ (s : Site S). fold (does scripts t) s (asks ++ more)) (left_fold scripts t middle rest)
      ∙ fold_append (does scripts t) (after_rest middle rest) asks more
      ∙ ap (λ (s : Site S). fold (does scripts t) s more) (asks_fold scripts t (after_rest middle rest) later)

  -- ----- that it does what is due
  timers_map : (f : Live → Live) (n : ℕ) (ls : List Live) → timers_from {A = A} n (map f ls) ≡ timers_from n ls
  timers_map f n [] = refl
  timers_map f n (l ∷ ls) = ap (λ (zs : List (Action A)). Timer n ∷ zs) (timers_map f (n + 1) ls)

  slow_first : (xs : List (Action A)) (more : List (Deed A))
      → actions_of (by_slow xs ++ more) ≡ xs ++ actions_of more
  slow_first xs more =
      map_append (λ (m : Deed A). m.action) (by_slow xs) more
      ∙ ap (λ (zs : List (Action A)). zs ++ actions_of more) (slow_actions xs)

  actions_are : (site : Site S) (order : List (Deed A)) (rest : List Arrival) (later : List A) (more : List (Deed A))
      → actions_of (order_to site order rest later more)
      ≡ timers_from 0 site.host.flows
      ++ (actions_of order ++ (map Frame rest ++ (map Ask later ++ actions_of more)))
  actions_are site order rest later more =
      let to_left : List (Deed A) = left_due rest ++ (asks_due later ++ more) in
      slow_first (timers_from 0 (map swept site.host.flows)) (order ++ to_left)
      ∙ ap (λ (zs : List (Action A)). zs ++ actions_of (order ++ to_left)) (timers_map swept 0 site.host.flows)
      ∙ ap (λ (zs : List (Action A)). timers_from 0 site.host.flows ++ zs)
      (map_append (λ (m : Deed A). m.action) order to_left
      ∙ ap (λ (zs : List (Action A)). actions_of order ++ zs)
      (slow_first (map Frame rest) (asks_due later ++ more)
      ∙ ap (λ (zs : List (Action A)). map Frame rest ++ zs) (slow_first (map Ask later) more)))

  -- what stands behind comes to nothing
  filter_to : {X : Type 0} (test : X → Bool) (a b c d e f : List X)
      → filter test (b ++ (c ++ d)) ≡ filter test f → filter test e ≡ []
      → filter test (a ++ (b ++ (c ++ (d ++ e)))) ≡ filter test (a ++ f)
  filter_to {X} test a b c d e f same none =
      let turn : b ++ (c ++ (d ++ e)) ≡ (b ++ (c ++ d)) ++ e =
      ap (λ (zs : List X). b ++ zs) (sym (append_assoc c d e)) ∙ sym (append_assoc b (c ++ d) e) in
      filter_append test a (b ++ (c ++ (d ++ e)))
      ∙ ap (λ (zs : List X). filter test a ++ zs)
      (ap (filter test) turn
      ∙ filter_append test (b ++ (c ++ d)) e
      ∙ ap (λ (zs : List X). filter test (b ++ (c ++ d)) ++ zs) none
      ∙ append-nil (filter test (b ++ (c ++ d)))
      ∙ same)
      ∙ sym (filter_append test a f)

  -- who sends is no agent
  no_agent : (a : Agent) (n : ℕ) → is_by scripts a (Emission n) ≡ false
  no_agent (OfFlow m) n = refl
  no_agent (OfFrame frame) n = refl
  no_agent (OfScript m) n = refl

  sent_due : (cores : ℕ) (a : Agent) (sent : List (Deed A)) → Each (IsSending cores) sent
      → filter (is_by scripts a) (actions_of sent) ≡ []
  sent_due cores a [] each = refl
  sent_due cores a (x ∷ xs) each =
      let no : is_by scripts a x.action ≡ false =
      ap (is_by scripts a) each.0.sends ∙ no_agent a each.0.flow in
      rw no (sent_due cores a xs each.1)

  shared_due : (cores : ℕ) (site : Site S) (due : Due A) (order : List (Deed A)) (rest : List Arrival) (later : List A)
      (sent : List (Deed A)) (last : Site S) → AreDone scripts due order rest later → Each (IsSending cores) sent
      → (a : Agent)
      → filter (is_by scripts a) (actions_of (order_to site order rest later (sent ++ last_due t last)))
      ≡ filter (is_by scripts a) (due_actions site.host.flows due)
  shared_due cores site due order rest later sent last done sending a =
      let more : List (Deed A) = sent ++ last_due t last in
      let none : filter (is_by scripts a) (actions_of more) ≡ [] =
      ap (filter (is_by scripts a)) (map_append (λ (m : Deed A). m.action) sent (last_due t last))
      ∙ filter_append (is_by scripts a) (actions_of sent) (actions_of (last_due t last))
      ∙ ap (λ (zs : List (Action A)). zs ++ filter (is_by scripts a) (actions_of (last_due t last)))
      (sent_due cores a sent sending)
      ∙ emissions_due scripts a t 0 last.host.flows in
      ap (filter (is_by scripts a)) (actions_are site order rest later more)
      ∙ filter_to (is_by scripts a) (timers_from 0 site.host.flows) (actions_of order) (map Frame rest) (map Ask later)
      (actions_of more) (asked_of_host due.frames due.asks) (done a) none

  sent_workers : (cores : ℕ) (sent : List (Deed A)) → Each (IsSending cores) sent
      → Each (λ (m : Deed A). IsWorkerOf cores m.by) sent
  sent_workers cores [] each = tt
  sent_workers cores (x ∷ xs) each = (each.0.worker, sent_workers cores xs each.1)

  -- what is known of the slow path, of core 0 and of those who share is known of each who does something
  shared_workers : (W : Caller → Type 0) → W Slow → W (Core 0) → (site : Site S) (order : List (Deed A))
      (rest : List Arrival) (later : List A) (sent : List (Deed A)) (last : Site S)
      → Each (λ (m : Deed A). W m.by) order → Each (λ (m : Deed A). W m.by) sent
      → Each (λ (m : Deed A). W m.by) (order_to site order rest later (sent ++ last_due t last))
  shared_workers W slow core site order rest later sent last each sending =
      let By : Deed A → Type 0 = λ m. W m.by in
      let more : List (Deed A) = sent ++ last_due t last in
      each_append By (timers_due site) (order ++ (left_due rest ++ (asks_due later ++ more)))
      (slow_workers W slow (timers_from 0 (map swept site.host.flows)))
      (each_append By order (left_due rest ++ (asks_due later ++ more)) each
      (each_append By (left_due rest) (asks_due later ++ more) (slow_workers W slow (map Frame rest))
      (each_append By (asks_due later) more (slow_workers W slow (map Ask later))
      (each_append By sent (last_due t last) sending (emissions_workers W core A t 0 last.host.flows)))))

  -- ----- the tick
  to_sent : (site middle asked : Site S) (order : List (Deed A)) (rest : List Arrival) (later : List A)
      (sent more : List (Deed A)) → fold (does scripts t) (after_slow site) order ≡ middle
      → after_asks middle rest later ≡ asked
      → fold (does scripts t) (on_host all_swept site) (order_to site order rest later (sent ++ more))
      ≡ fold (does scripts t) (fold (does scripts t) asked sent) more
  to_sent site middle asked order rest later sent more beside alone =
      to_asks site middle order rest later (sent ++ more) beside
      ∙ ap (λ (s : Site S). fold (does scripts t) s (sent ++ more)) alone
      ∙ fold_append (does scripts t) asked sent more

  sent_legal : (site middle asked : Site S) (order : List (Deed A)) (rest : List Arrival) (later : List A)
      (sent : List (Deed A)) → fold (does scripts t) (after_slow site) order ≡ middle
      → after_asks middle rest later ≡ asked → AreByMoves scripts → AreLegal site.host
      → AreLegal (fold (does scripts t) asked sent).host
  sent_legal site middle asked order rest later sent beside alone by_moves each =
      subst (λ (s : Site S). AreLegal s.host) (to_sent site middle asked order rest later sent [] beside alone)
      (all_kept scripts t (on_host all_swept site) (order_to site order rest later (sent ++ [])) by_moves
      (all_swept_kept site.host each))

pub shared_round : {S A : Type 0} (scripts : Scripts S A) (cores t : ℕ) (due : Due A) (before after : Site S)
    → AreByMoves scripts → AreLegal before.host
    → IsSharedTick scripts cores t due before after → Round scripts t due before after
shared_round {S} {A} scripts cores t due before after by_moves each tick =
    let last : Site S = fold (does scripts t) tick.asked tick.sent in
    subst (λ (site : Site S). Round scripts t due before site) tick.made
    (record {
      order = order_to scripts t before tick.order tick.rest tick.later (tick.sent ++ last_due t last);
      due_each = shared_due scripts t cores before due tick.order tick.rest tick.later tick.sent last tick.done
          tick.sending;
      workers = shared_workers scripts t IsWorker tt tt before tick.order tick.rest tick.later tick.sent last
          (are_workers cores tick.order tick.workers)
          (are_workers cores tick.sent (sent_workers scripts t cores tick.sent tick.sending));
      made = to_sent scripts t before tick.middle tick.asked tick.order tick.rest tick.later tick.sent (last_due t last)
          tick.beside tick.alone
          ∙ emissions_fold scripts t 0 last [] last.host.flows refl;
      quiet = all_quiet t last.host.flows
          (sent_legal scripts t before tick.middle tick.asked tick.order tick.rest tick.later tick.sent tick.beside
          tick.alone by_moves each);
    })

-- and its entries are by its cores
pub shared_low : {S A : Type 0} (scripts : Scripts S A) (cores t : ℕ) (due : Due A) (before after : Site S)
    → AreByMoves scripts → AreLegal before.host → IsSharedTick scripts cores t due before after
    → AllBelow cores before.host → AllBelow cores after.host
shared_low {S} {A} scripts cores t due before after by_moves legal tick all =
    let last : Site S = fold (does scripts t) tick.asked tick.sent in
    made_low cores scripts t before after
    (order_to scripts t before tick.order tick.rest tick.later (tick.sent ++ last_due t last)) by_moves legal
    (shared_workers scripts t (IsWorkerOf cores) tt tick.some before tick.order tick.rest tick.later tick.sent last
    tick.workers (sent_workers scripts t cores tick.sent tick.sending))
    (to_sent scripts t before tick.middle tick.asked tick.order tick.rest tick.later tick.sent (last_due t last)
    tick.beside tick.alone ∙ emissions_fold scripts t 0 last [] last.host.flows refl ∙ tick.made) all

-- where the cores do nothing
pub without_cores : {S A : Type 0} (scripts : Scripts S A) (cores t : ℕ) (due : Due A) (before : Site S)
    → 0 < cores → IsSharedTick scripts cores t due before (tick_without_cores scripts t due before)
without_cores scripts cores t due before some = record {
  some = some;
  order = [];
  workers = tt;
  rest = due.frames;
  later = due.asks;
  done = λ a. refl;
  middle = on_host (slow_phase t) before;
  beside = refl;
  asked = alone_phase scripts t (on_host (slow_phase t) before) due.frames due.asks;
  alone = refl;
  sent = [];
  sending = tt;
  made = refl;
}
