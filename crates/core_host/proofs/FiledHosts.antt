-- Records of a sound host that were filed keep the histories that are known of their flows, in what is done alone and
-- in a phase: for the law filed_histories_are_kept.
use Rattle.std.proofs.Common.{◌≡◌, ◌&&◌, Bool, true, false, List, [], ◌∷◌, map, refl, sym, ap, ◌∙◌, subst}
use Rattle.std.proofs.Common.{arith, All, true≢false}
use Rattle.std.specs.List.{filter}
use Rattle.tas_model.specs.declared.entry.FlowId.{FlowId}
use Rattle.tas_model.specs.Endpoint.{is_closed}
use Rattle.host_rounds.specs.Hosts.{is_held_by}
use Rattle.host_rounds.specs.Lists.{Each}
use Rattle.flow_state.specs.Flow.{Flow}
use Rattle.flow_lock.specs.Orders.{known_of, played, same_flow}
use Rattle.flow_lock.specs.declared.view.Held.{Held}
use Rattle.flow_lock.specs.declared.view.View.{View}
use Rattle.libtas_sockets.specs.Apps as libtas
use Rattle.core_phase.specs.Lanes.{MayPlay}
use Rattle.core_phase.specs.Phases.{IsPhase}
use Rattle.core_phase.specs.declared.lane.Lane.{Lane}
use Rattle.host_books.specs.Books.{Book, live_in}
use Rattle.host_books.specs.Indexes.{endpoint_of, IsFindable}
use Rattle.host_books.proofs.Indexing.{is_same_flow}
use Rattle.sound_hosts.specs.Hosts.{CoreHost, host_of, known_in, id_of, is_filed, is_held_of}
use Rattle.sound_hosts.specs.Sound.{IsHostSound, IsApp, IsPlain, HasHolder}
use Rattle.sound_hosts.proofs.Leaving.{AreApart, any_each, apart_of, held_by, only}
use Rattle.sound_hosts.proofs.OpenSockets.{all_each}
use Rattle.sound_phases.specs.Phased.{apps_in, after_phase}
use Rattle.sound_phases.proofs.Apps.{lanes_had}
use Rattle.sound_phases.proofs.Orders.{IsHad, from_turns}
use Rattle.core_host.specs.Ending.{IsFiledAs, AreFiled, record_id}
use Rattle.core_host.proofs.Filed.{each_of, has_same, has_book}
use Rattle.core_host.proofs.FiledDeeds.{turns_fine}
use Rattle.core_host.proofs.FiledFlows.{IsAway, Kept}
use Rattle.core_host.proofs.FiledKnown.{is_filed_as, HasFiled, AreAway, IsOpenOr, known_kept, run_done}

and_both : (a b : Bool) → (a && b) ≡ true → (a ≡ true) × (b ≡ true)
and_both true b e = (refl, e)
and_both false b e = absurd (true≢false (sym e))

-- where what is known of each of these flows stays, their records have it still
each_filed : (known after : List Held) (bs : List Book) (rs : List Flow)
    → ((id : FlowId) → HasFiled bs id → known_of id after ≡ known_of id known)
    → Each (λ (r : Flow). HasFiled bs r.id) rs → Each (IsFiledAs known) rs → Each (IsFiledAs after) rs
each_filed known after bs [] stays has filed = tt
each_filed known after bs (r ∷ rs) stays has filed =
    (filed.0 ∙ sym (stays r.id has.0), each_filed known after bs rs stays has.1 filed.1)

-- who holds a flow, holds one that wasn't filed
unheld : (xs : List libtas.Application) (b : Book) → HasHolder xs b → b.filed ≡ true → is_held_by b.holder ≡ false
unheld xs b holder filed = by (is_held_by b.holder) refl
  where
    by : (t : Bool) → is_held_by b.holder ≡ t → t ≡ false
    by false e = refl
    by true e = absurd (true≢false (sym filed ∙ (holder e).1))

all_away : (xs : List libtas.Application) (known : List Held) (bs : List Book) → Each (IsFindable known) bs
    → Each IsPlain bs → Each (HasHolder xs) bs → AreAway known bs
all_away xs known [] running plain holders = tt
all_away xs known (b ∷ bs) running plain holders = (
  λ filed. record {
    filed = record { over = running.0 (plain.0 filed); indexed = plain.0 filed; filed = filed };
    held = unheld xs b holders.0 filed;
  },
  all_away xs known bs running.1 plain.1 holders.1,
)

module _ (h : CoreHost) (sound : IsHostSound h) where
  abbrev bs : List Book
  bs = h.books

  abbrev known : List Held
  known = known_in h

  away : AreAway known bs
  away = all_away h.apps known bs sound.indexed.running sound.plain sound.holders

  -- each record is of a flow whose book says so
  have_books : Each (λ (r : Flow). HasFiled bs r.id) h.slow.filed
  have_books =
      each_of record_id (λ (r : Flow). HasFiled bs r.id) h.slow.filed
      (λ r has. has_book is_filed bs r.id
      (has_same (map record_id h.slow.filed) (map id_of (filter is_filed bs)) r.id sound.kept.filed has))

  filed_on : (after : List Held)
      → ((id : FlowId) → HasFiled bs id → known_of id after ≡ known_of id known)
      → AreFiled h → Each (IsFiledAs after) h.slow.filed
  filed_on after stays filed = each_filed known after bs h.slow.filed stays have_books filed

  -- ----- what is done alone
  pub made_filed : (k : CoreHost) → k.slow.filed ≡ h.slow.filed → Kept (host_of h) (host_of k) → AreFiled h
      → AreFiled k
  made_filed k same kept filed =
      subst (Each (IsFiledAs (known_in k))) (sym same)
      (filed_on (known_in k) (λ id has. known_kept known (known_in k) id bs k.books away kept has) filed)

  -- ----- a phase
  apart : AreApart bs
  apart = apart_of h.table.slots [] bs sound.numbered

  -- no application has a flow whose record was filed
  not_had : (id : FlowId) → HasFiled bs id → IsHad bs id → ⊥
  not_had id has (n, any) =
      let P : Book → Type 0 = λ b. (b.filed ≡ true → IsAway (live_in known b))
      × (same_flow b.id id ≡ true → is_held_of n b ≡ true) in
      let it = any_each (is_filed_as id) P bs has (both bs away (only n id bs apart any)) in
      let here = and_both it.0.filed (same_flow it.0.id id) it.1 in
      true≢false (sym (held_by n it.0.holder (it.2.1 here.1)) ∙ (it.2.0 here.0).held)
    where
      both : (cs : List Book) → AreAway known cs
          → Each (λ (b : Book). same_flow b.id id ≡ true → is_held_of n b ≡ true) cs
          → Each (λ (b : Book). (b.filed ≡ true → IsAway (live_in known b))
          × (same_flow b.id id ≡ true → is_held_of n b ≡ true)) cs
      both [] x y = tt
      both (c ∷ cs) x y = ((x.0, y.0), both cs x.1 y.1)

  -- and it is closed
  is_over : (id : FlowId) → HasFiled bs id → is_closed (endpoint_of (known_of id known)) ≡ true
  is_over id has =
      let it = any_each (is_filed_as id) (λ (b : Book). b.filed ≡ true → IsAway (live_in known b)) bs has away in
      let here = and_both it.0.filed (same_flow it.0.id id) it.1 in
      subst (λ (f : FlowId). is_closed (endpoint_of (known_of f known)) ≡ true)
      (is_same_flow it.0.id id here.1) (it.2 here.0).filed.over

  module _ (vs ws : List Lane) (w : View) (same_apps : apps_in vs ≡ h.apps) (may : All MayPlay vs)
      (phase : IsPhase vs ws h.slow.pass.view w) where
    apps : Each (IsApp h.table bs) (apps_in vs)
    apps = subst (Each (IsApp h.table bs)) (sym same_apps) sound.apps

    fine : Each (λ x. IsOpenOr (IsHad bs) x.1) phase.order
    fine = from_turns (IsOpenOr (IsHad bs)) phase.order
        (λ p. turns_fine bs phase.order 0 vs ws phase.parts (lanes_had h.table bs vs apps (all_each MayPlay vs may))
        (λ q le. phase.others q (omega (arith, le))) p (omega arith))

    stays : (id : FlowId) → HasFiled bs id → known_of id (played known phase.order) ≡ known_of id known
    stays id has =
        run_done (IsHad bs) id (not_had id has) known phase.order phase.run fine (is_over id has)

    base : w.base ≡ played known phase.order
    base = ap (λ (x : View). x.base) phase.known

    pub phase_filed : AreFiled h → AreFiled (after_phase vs ws w h)
    phase_filed filed =
        subst (λ (l : List Held). Each (IsFiledAs l) h.slow.filed) (sym base)
        (filed_on (played known phase.order) stays filed)
