-- One take and one give, alone: for the law calls_alone_are_moves.
use Rattle.std.proofs.Common.{◌≡◌, ℕ, List, [], ◌∷◌, sym, ap, ◌∙◌}
use Rattle.tas_model.specs.declared.entry.FlowId.{FlowId}
use Rattle.tas_model.specs.declared.entry.Caller.{Caller}
use Rattle.tas_model.specs.LegalHistory.{extended_by}
use Rattle.flow_state.specs.declared.call.CallIn.{CallIn}
use Rattle.flow_state.specs.Calls.{call_of, offer_of}
use Rattle.flow_state.specs.Flow.{Flow}
use Rattle.host_rounds.specs.Hosts.{Live, at_flow, with_call}
use Rattle.flow_lock.specs.Orders.{known_of}
use Rattle.flow_lock.specs.Steps.{IsAlone, alone_or, noted, added}
use Rattle.flow_lock.specs.declared.view.View.{View}
use Rattle.flow_lock.specs.declared.view.Held.{Held}
use Rattle.flow_lock.specs.declared.view.History.{History}
use Rattle.app_reaper.specs.OneCall.{IsOwn, IsUse, history, history_with}
use Rattle.host_books.specs.Books.{Setting, live_as, host_of, IsAt}
use Rattle.host_books.proofs.Orders.{history_at}

-- ----- views
pub still_alone : (id : FlowId) (r : Flow) (after : History) (v w : View) → IsAlone v → IsUse id r after v w → IsAlone w
still_alone id r after v w alone used = (
  ap (λ (x : View). x.baton) used.3 ∙ alone.0,
  ap (λ (x : View). x.turns) used.3
      ∙ ap (λ ts. noted (added id (record { flow = id; history = history r } ∷ []) after) [] [] ts) alone.1,
  ap (λ (x : View). x.made) used.3 ∙ alone.2,
)

base_after : (id : FlowId) (r : Flow) (after : History) (v w : View) → IsAlone v → IsUse id r after v w
    → w.base ≡ record { flow = id; history = after } ∷ v.base
base_after id r after v w alone used =
    ap (λ (x : View). x.base) used.3
    ∙ ap (λ ts. alone_or ts (record { flow = id; history = after } ∷ v.base) v.base) alone.1

-- ----- the call
abbrev grown : Caller → ℕ → CallIn → History → History
grown caller t call h =
    record h { entries = extended_by h.params h.entries caller t (call_of call) (offer_of call) }

pub call_moved : (s : Setting) (n : ℕ) (id : FlowId) (caller : Caller) (t : ℕ) (call : CallIn) (v w : View) (r : Flow)
    → IsAlone v → IsAt n id s.books → IsOwn id v r → IsUse id r (history_with r caller t call) v w
    → host_of s w.base
    ≡ at_flow n (λ (l : Live). with_call l caller t (call_of call) (offer_of call)) (host_of s v.base)
call_moved s n id caller t call v w r alone at own used =
    let x : Held = record { flow = id; history = history_with r caller t call } in
    let f : Live → Live = λ l. with_call l caller t (call_of call) (offer_of call) in
    ap (host_of s) (base_after id r (history_with r caller t call) v w alone used)
    ∙ ap (λ (ls : List Live). record (host_of s v.base) { flows = ls })
    (history_at n v.base x f s.books at
    (λ b is. ap (λ h. live_as b (grown caller t call h))
    (own.known alone ∙ ap (λ k. known_of k v.base) (sym is))))
