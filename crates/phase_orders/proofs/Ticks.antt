-- A tick of lanes is one of turns: for the law ticks_of_phases_are_shared.
use Rattle.std.proofs.Common.{◌≡◌, ℕ, zero, suc, Bool, List, [], ◌∷◌, ◌++◌, refl, sym, ap, ◌∙◌, subst}
use Rattle.std.specs.Prelude.{Option, IsPermutation}
use Rattle.host_rounds.specs.Deliveries.{Arrival}
use Rattle.host_rounds.specs.Lists.{Each}
use Rattle.host_rounds.specs.Scripts.{Site, Scripts}
use Rattle.host_rounds.specs.Rounds.{Due, on_host}
use Rattle.host_rounds.specs.SerialOrder.{emit_phase}
use Rattle.core_rounds.specs.SharedTicks.{IsSharedTick, alone_phase}
use Rattle.host_books.specs.Books.{site_of}
use Rattle.host_books.specs.Leavings.{Leaving, books_after, scripts_after}
use Rattle.host_books.specs.Ticks.{site_before, site_after}
use Rattle.host_books.specs.Tries.{Try}
use Rattle.core_phase.specs.declared.lane.Lane.{Lane}
use Rattle.core_phase.specs.declared.lane.Lane.TheVariants as lanes
use Rattle.lane_orders.specs.Turns.{Did, leavings_below}
use Rattle.lane_orders.specs.Ticks.{Phase, IsHandOut, AreTried, IsTickOfTurns}
use Rattle.lane_orders.proofs.Leaving.{one_site}
use Rattle.lane_orders.proofs.Ticks.{tick_of_turns}
use Rattle.phase_orders.specs.AppTurns.{asked_by, IsLeftBy}
use Rattle.phase_orders.specs.Lanes.{LanePhase, asked_in, all_asked, IsLeavingIn, AreLeavings, did_at, AreFramesOf}
use Rattle.phase_orders.specs.Lanes.{IsOfLanes}
use Rattle.phase_orders.specs.Ticks.{HasNoFrames, IsSilent, site_at, site_with, IsTickOfLanes}
use Rattle.phase_orders.proofs.Handing.{hand_out_of}
use Rattle.phase_orders.proofs.Phases.{phase_of_turns}

-- ----- where nothing was handed out and nothing was asked
module _ {S A : Type 0} where
  idle_at : (vs : List Lane) (ds : List (Did S A)) → Each HasNoFrames vs → AreFramesOf vs ds → (n : ℕ)
      → (did_at ds n).frames ≡ []
  idle_at [] [] idle are n = refl
  idle_at [] (d ∷ ds) idle are n = absurd are
  idle_at (v ∷ vs) [] idle are n = absurd are
  idle_at (v ∷ vs) (d ∷ ds) idle are zero = are.0 ∙ idle.0
  idle_at (v ∷ vs) (d ∷ ds) idle are (suc n) = idle_at vs ds idle.1 are.1 n

  none_asked : (o : Option (Try S A)) (w : Lane) → IsSilent o → asked_in o w ≡ []
  none_asked o (lanes.Core l) e = refl
  none_asked o (lanes.App l) e = ap (λ (q : Option (Try S A)). asked_by q l.answer) e

  silent_asked : (os : List (Option (Try S A))) (ws : List Lane) → Each IsSilent os → all_asked os ws ≡ []
  silent_asked [] ws each = refl
  silent_asked (o ∷ os) [] each = refl
  silent_asked (o ∷ os) (w ∷ ws) each =
      λ i. none_asked o w each.0 i ++ silent_asked os ws each.1 i

  none_left : (t : ℕ) (o : Option (Try S A)) (v w : Lane) (ls : List (Leaving S)) → IsSilent o
      → IsLeavingIn t o v w ls → ls ≡ []
  none_left t o (lanes.Core v) (lanes.Core w) ls silent it = it
  none_left t o (lanes.Core v) (lanes.App w) ls silent it = it
  none_left t o (lanes.App v) (lanes.Core w) ls silent it = it
  none_left t o (lanes.App v) (lanes.App w) ls silent it =
      subst (λ (q : Option (Try S A)). IsLeftBy t q v.attempt w.attempt w.answer ls) silent it

  silent_left : (t : ℕ) (os : List (Option (Try S A))) (vs ws : List Lane) (ls : List (Leaving S)) → Each IsSilent os
      → AreLeavings t os vs ws ls → ls ≡ []
  silent_left t [] vs ws ls each are = are
  silent_left t (o ∷ os) [] ws ls each are = absurd are
  silent_left t (o ∷ os) (v ∷ vs) [] ls each are = absurd are
  silent_left t (o ∷ os) (v ∷ vs) (w ∷ ws) ls each (a, b, is, one, more) =
      is ∙ (λ i. none_left t o v w a each.0 one i ++ silent_left t os vs ws b each.1 more i)

module _ {S A : Type 0} (scripts : Scripts S A) (check : Bool) (cores t : ℕ) where
  -- ----- hosts and scripts
  before_is : (l : LanePhase scripts check cores t) (p : Phase scripts t) → IsOfLanes l p
      → site_before p.beside ≡ site_at l
  before_is l p of =
      (λ i. site_of (p.of_turns.setting_is i) (p.of_turns.known_is i) (p.of_turns.state_is i))
      ∙ (λ i. site_of (of.setting i) (of.known i) (of.state i))

  after_is : (l : LanePhase scripts check cores t) (p : Phase scripts t) → IsOfLanes l p
      → site_after p.beside ≡ site_with l (leavings_below t p.turns p.did)
  after_is l p of =
      let ls : List (Leaving S) = leavings_below t p.turns p.did in
      one_site scripts t p of.alike
      ∙ (λ i. site_of (record (of.setting i) { books = books_after ls (of.setting i).books }) (of.learned i)
      (scripts_after ls (of.state i)))

  -- ----- a tick
  turns_of : (due : Due A) (before after : Site S) → IsTickOfLanes scripts check cores t due before after
      → IsTickOfTurns scripts cores t due before after
  turns_of due before after k =
      by (phase_of_turns scripts t check cores k.first) (phase_of_turns scripts t check cores k.second)
    where
      by : (p : Phase scripts t) × IsOfLanes k.first p → (q : Phase scripts t) × IsOfLanes k.second q
          → IsTickOfTurns scripts cores t due before after
      by (p, of) (q, own) =
          let ls : List (Leaving S) = leavings_below t q.turns q.did in
          let nothing : ls ≡ [] = silent_left t k.second.asks k.second.before k.second.after ls k.silent own.leave in
          record {
            some = k.some;
            first = p;
            workers = of.workers;
            slow = k.slow ∙ sym (before_is k.first p of);
            distinct = k.distinct;
            handed = subst (λ (fs : List Arrival). IsHandOut fs cores p.turns p.did) k.come
                (hand_out_of scripts check cores t k.first p k.tables k.moves k.frames k.now of k.handed);
            rest = k.rest;
            left = subst (λ (l : List Arrival). IsPermutation l k.rest) (sym of.left) k.left;
            later = k.later;
            tried = subst (λ (l : List A). AreTried scripts due.asks l k.later) (sym of.asked) k.tried;
            second = q;
            alone = ap (λ (s : Site S). alone_phase scripts t s k.rest k.later) (after_is k.first p of)
                ∙ (k.alone (leavings_below t p.turns p.did) of.leave ∙ sym (before_is k.second q own));
            senders = own.workers;
            none = λ n. ap (λ (did : ℕ → Did S A). (did n).frames) own.did
                ∙ idle_at k.second.before own.dids k.idle own.frames n;
            silent = own.asked ∙ silent_asked k.second.asks k.second.after k.silent;
            made = ap (λ (s : Site S). on_host (emit_phase t) s)
                (after_is k.second q own ∙ ap (site_with k.second) nothing)
                ∙ k.made;
          }

  pub shared_tick : (due : Due A) (before after : Site S) → IsTickOfLanes scripts check cores t due before after
      → IsSharedTick scripts cores t due before after
  shared_tick due before after k = tick_of_turns scripts t cores due before after (turns_of due before after k)
