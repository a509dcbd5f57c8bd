-- One call that is made alone, as a move of the host.
use Rattle.std.proofs.Common.{◌≡◌, ℕ, List, map, sym, ap, ◌∙◌}
use Rattle.tas_model.specs.declared.entry.Caller.{Caller}
use Rattle.tas_model.specs.declared.entry.FlowId.{FlowId}
use Rattle.tas_model.specs.LegalHistory.{extended_by}
use Rattle.flow_state.specs.Calls.{call_of, offer_of}
use Rattle.flow_state.specs.Flow.{Flow}
use Rattle.flow_state.specs.declared.call.CallIn.{CallIn}
use Rattle.host_rounds.specs.Hosts.{Live, with_call}
use Rattle.host_rounds.specs.Lists.{change_at}
use Rattle.flow_lock.specs.Orders.{known_of}
use Rattle.flow_lock.specs.Steps.{IsAlone}
use Rattle.flow_lock.specs.declared.view.Held.{Held}
use Rattle.flow_lock.specs.declared.view.History.{History}
use Rattle.flow_lock.specs.declared.view.View.{View}
use Rattle.app_reaper.specs.OneCall.{history_with, IsOwn, IsUse}
use Rattle.host_books.specs.Books.{Book, live_as, live_in, IsAt}
use Rattle.host_books.proofs.Orders.{history_at}
use Rattle.sound_hosts.proofs.OneFlow.{used_leads}

module _ (n : ℕ) (id : FlowId) (caller : Caller) (t : ℕ) (call : CallIn) (v w : View) (r : Flow) where
  abbrev grown : History → History
  grown h = record h { entries = extended_by h.params h.entries caller t (call_of call) (offer_of call) }

  pub flows_moved : (bs : List Book) → IsAlone v → IsAt n id bs → IsOwn id v r
      → IsUse id r (history_with r caller t call) v w
      → map (live_in w.base) bs
      ≡ change_at n (λ (l : Live). with_call l caller t (call_of call) (offer_of call)) (map (live_in v.base) bs)
  flows_moved bs alone at own used =
      ap (λ (known : List Held). map (live_in known) bs)
      (used_leads id r (history_with r caller t call) v w alone used).base
      ∙ history_at n v.base (record { flow = id; history = history_with r caller t call })
      (λ (l : Live). with_call l caller t (call_of call) (offer_of call)) bs at
      (λ b is. ap (λ h. live_as b (grown h)) (own.known alone ∙ ap (λ k. known_of k v.base) (sym is)))
