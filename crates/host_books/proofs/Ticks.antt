-- A tick of two phases is one of a host whose flows are shared: for the law ticks_of_phases_are_shared.
use Rattle.std.proofs.Common.{◌≡◌, ℕ, List, [], ◌∷◌, map, fold, sym, ap, ◌∙◌, subst, inl, inr}
use Rattle.host_rounds.specs.Lists.{Each}
use Rattle.host_rounds.specs.Scripts.{Site, Scripts}
use Rattle.host_rounds.specs.Rounds as rounds
use Rattle.host_rounds.specs.Rounds.{Due, does, on_host}
use Rattle.host_rounds.specs.SerialOrder.{emit_phase}
use Rattle.core_rounds.specs.SharedTicks.{IsSending, IsSharedTick}
use Rattle.core_rounds.specs.Shares.{IsNoTimer}
use Rattle.core_rounds.proofs.Shares.{shares_done}
use Rattle.host_books.specs.Books.{Book}
use Rattle.host_books.specs.Tries.{Word, IsWord, IsSendWord, told_of}
use Rattle.host_books.specs.Ticks.{Beside, deeds_of, site_before, site_after, AreByWorkers, IsTickOfPhases}
use Rattle.host_books.proofs.Orders.{all_done}

module _ {S A : Type 0} (scripts : Scripts S A) (t : ℕ) where
  -- no word is that of a timer
  no_timer : (books : List Book) (w : Word S A) → IsWord t books w → IsNoTimer w.told.action
  no_timer books w (inl f) = subst (λ (m : rounds.Deed A). IsNoTimer m.action) (sym f.is) tt
  no_timer books w (inr (inl f)) = subst (λ (m : rounds.Deed A). IsNoTimer m.action) (sym f.is) tt
  no_timer books w (inr (inr f)) = subst (λ (m : rounds.Deed A). IsNoTimer m.action) (sym f.is) tt

  no_timers : (books : List Book) (ws : List (Word S A)) → Each (IsWord t books) ws
      → Each (λ (m : rounds.Deed A). IsNoTimer m.action) (map told_of ws)
  no_timers books [] each = tt
  no_timers books (w ∷ ws) each = (no_timer books w each.0, no_timers books ws each.1)

  all_send : (cores : ℕ) (books : List Book) (ws : List (Word S A)) → Each (IsSendWord t books) ws
      → AreByWorkers cores (map told_of ws) → Each (IsSending cores) (map told_of ws)
  all_send cores books [] each workers = tt
  all_send cores books (w ∷ ws) each workers =
      let s = each.0 in (
        record {
          worker = workers.0;
          flow = _;
          sends = ap (λ (m : rounds.Deed A). m.action) s.is;
        },
        all_send cores books ws each.1 workers.1,
      )

  left_by : (b : Beside scripts t) → fold (does scripts t) (site_before b) (deeds_of b) ≡ site_after b
  left_by b = all_done scripts t b.setting b.state b.known b.order (deeds_of b) b.told.after b.told.next b.told.are

  pub tick_of_phases : (cores : ℕ) (due : Due A) (before after : Site S)
      → IsTickOfPhases scripts cores t due before after → IsSharedTick scripts cores t due before after
  tick_of_phases cores due before after k = record {
    some = k.some;
    order = deeds_of k.first;
    workers = k.workers;
    rest = k.rest;
    later = k.later;
    done = shares_done scripts due (deeds_of k.first) k.rest k.later
        (record {
          distinct = k.distinct;
          plain = no_timers k.first.setting.books k.first.words k.first.each;
          frames = k.frames;
          asks = k.asks;
        });
    middle = site_after k.first;
    beside = ap (λ (s : Site S). fold (does scripts t) s (deeds_of k.first)) k.slow ∙ left_by k.first;
    asked = site_before k.second;
    alone = k.alone;
    sent = deeds_of k.second;
    sending = all_send cores k.second.setting.books k.second.words k.sends k.senders;
    made = ap (on_host (emit_phase t)) (left_by k.second) ∙ k.made;
  }
