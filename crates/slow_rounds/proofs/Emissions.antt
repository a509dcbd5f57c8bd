-- What is sent alone is a run's emissions: for the law emissions_alone_are_emit_phases.
use Rattle.std.proofs.Common.{◌≡◌, ℕ, zero, suc, Bool, true, false, List, [], ◌∷◌, map, refl, sym, ap, ◌∙◌, subst}
use Rattle.std.proofs.Common.{inl, inr}
use Rattle.std.specs.Prelude.{None, ◌⊎◌}
use Rattle.tas_model.specs.declared.entry.Caller.TheVariants.{Core}
use Rattle.tas_model.specs.declared.entry.Call.TheVariants as calls
use Rattle.tas_model.specs.declared.entry.FlowId.{FlowId}
use Rattle.tas_model.specs.LegalHistory.{Legal}
use Rattle.tas_model.specs.NextSegment.{going}
use Rattle.flow_state.specs.declared.call.CallIn.TheVariants.{Emit}
use Rattle.host_rounds.specs.Hosts.{Live, with_call, endpoint}
use Rattle.host_rounds.specs.Lists.{Each, change_at}
use Rattle.host_rounds.specs.SerialOrder.{emit_phase}
use Rattle.host_rounds.specs.Upkeep.{quieted}
use Rattle.host_rounds.proofs.Filed.{closed_sends_nothing}
use Rattle.host_rounds.proofs.Quiet.{quieted_done, quieted_next}
use Rattle.flow_lock.specs.Orders.{known_of}
use Rattle.flow_lock.specs.Steps.{IsAlone}
use Rattle.flow_lock.specs.declared.view.Held.{Held}
use Rattle.flow_lock.specs.declared.view.History.{History}
use Rattle.flow_lock.specs.declared.view.View.{View}
use Rattle.app_reaper.specs.OneCall.{history, history_with}
use Rattle.flow_clock.specs.Histories.{is_over}
use Rattle.host_books.specs.Books.{Book, Setting, live_as, live_in, host_of, IsAt}
use Rattle.host_books.specs.Indexes.{AreIndexed}
use Rattle.sound_hosts.specs.Leading.{LedOn}
use Rattle.sound_hosts.specs.Moving.{IsLed}
use Rattle.sound_hosts.proofs.Calls.{call_leads}
use Rattle.sound_hosts.proofs.Kept.{indexed_still}
use Rattle.sound_hosts.proofs.OneFlow.{used_leads}
use Rattle.sound_turns.proofs.Sweeps.{base_leads}
use Rattle.slow_rounds.proofs.Moves.{flows_moved}
use Rattle.slow_rounds.specs.Sending.{IsSent, AreSent, IsSilent}

abbrev emitted : (tick : ℕ) → Live → Live
emitted t l = with_call l (Core 0) t calls.Emit []

-- a flow at a place is changed, and what it comes to when all is sent stays
quieted_at : (t n : ℕ) (id : FlowId) (known : List Held) (bs : List Book) → IsAt n id bs
    → ((b : Book) → b.id ≡ id → quieted t (emitted t (live_in known b)) ≡ quieted t (live_in known b))
    → map (quieted t) (change_at n (emitted t) (map (live_in known) bs)) ≡ map (quieted t) (map (live_in known) bs)
quieted_at t n id known [] at same = absurd at
quieted_at t zero id known (b ∷ bs) at same =
    λ i. same b at.0 i ∷ map (quieted t) (map (live_in known) bs)
quieted_at t (suc n) id known (b ∷ bs) at same =
    λ i. quieted t (live_in known b) ∷ quieted_at t n id known bs at.1 same i

-- ----- one segment
module _ (s : Setting) (tick : ℕ) (id : FlowId) (v w : View) (alone : IsAlone v) (indexed : AreIndexed s.books v.base)
    (sent : IsSent tick id v w) where
  is_known : history sent.flow ≡ known_of id v.base
  is_known = sent.own.known alone

  place : (n : ℕ) × IsAt n id s.books
  place = by (indexed.all id)
    where
      by : ((known_of id v.base).entries ≡ []) ⊎ ((n : ℕ) × IsAt n id s.books) → (n : ℕ) × IsAt n id s.books
      by (inl none) =
          absurd (subst (Legal sent.flow.params) (ap (λ (h : History). h.entries) is_known ∙ none) sent.own.legal)
      by (inr at) = at

  still_to_send : (b : Book) → b.id ≡ id
      → quieted tick (emitted tick (live_in v.base b)) ≡ quieted tick (live_in v.base b)
  still_to_send b is =
      subst (λ (h : History). quieted tick (emitted tick (live_as b h)) ≡ quieted tick (live_as b h))
      (is_known ∙ ap (λ f. known_of f v.base) (sym is))
      (sym (quieted_next tick (live_as b (history sent.flow)) sent.next sent.own.legal sent.may_go))

  one_sent : emit_phase tick (host_of s w.base) ≡ emit_phase tick (host_of s v.base)
  one_sent =
      ap (λ (ls : List Live). record (host_of s v.base) { flows = map (quieted tick) ls })
      (flows_moved place.0 id (Core 0) tick Emit v w sent.flow s.books alone place.1 sent.own sent.given)
      ∙ ap (λ (ls : List Live). record (host_of s v.base) { flows = ls })
      (quieted_at tick place.0 id v.base s.books place.1 still_to_send)

  abbrev after : History
  after = history_with sent.flow (Core 0) tick Emit

  by_use : IsLed id after v w
  by_use = used_leads id sent.flow after v w alone sent.given

  led : LedOn (known_of id v.base) after
  led = subst (λ (h : History). LedOn h after) is_known
      (call_leads (history sent.flow) (Core 0) tick calls.Emit [] sent.own.legal)

  still_indexed : AreIndexed s.books w.base
  still_indexed = indexed_still v.base w.base (base_leads id after v w led by_use) s.books indexed

-- ----- all segments
all_sent : (s : Setting) (tick : ℕ) (ids : List FlowId) (v w : View) → IsAlone v → AreIndexed s.books v.base
    → AreSent tick ids v w
    → IsAlone w × AreIndexed s.books w.base × (emit_phase tick (host_of s w.base) ≡ emit_phase tick (host_of s v.base))
all_sent s tick [] v w alone indexed same = (
  subst IsAlone (sym same) alone,
  subst (λ (x : View). AreIndexed s.books x.base) (sym same) indexed,
  ap (λ (x : View). emit_phase tick (host_of s x.base)) same,
)
all_sent s tick (id ∷ ids) v w alone indexed (u, sent, rest) =
    let r = all_sent s tick ids u w (by_use s tick id v u alone indexed sent).alone
    (still_indexed s tick id v u alone indexed sent) rest in
    (r.0, r.1, r.2 ∙ one_sent s tick id v u alone indexed sent)

-- then nothing is left to send
pub none_left : (t : ℕ) (known : List Held) (bs : List Book) → Each (IsSilent known) bs
    → map (quieted t) (map (live_in known) bs) ≡ map (live_in known) bs
none_left t known [] each = refl
none_left t known (b ∷ bs) each =
    λ i. quieted_done t (live_in known b) (by (is_over (known_of b.id known)) refl) i ∷ none_left t known bs each.1 i
  where
    by : (c : Bool) → is_over (known_of b.id known) ≡ c → going (endpoint (live_in known b)) ≡ None
    by true e = closed_sends_nothing (endpoint (live_in known b)) e
    by false e = each.0 e

pub emissions_made : (s : Setting) (tick : ℕ) (ids : List FlowId) (v w : View) → IsAlone v
    → AreIndexed s.books v.base → AreSent tick ids v w → Each (IsSilent w.base) s.books
    → IsAlone w × AreIndexed s.books w.base × (host_of s w.base ≡ emit_phase tick (host_of s v.base))
emissions_made s tick ids v w alone indexed sent silent =
    let r = all_sent s tick ids v w alone indexed sent in (
      r.0,
      r.1,
      ap (λ (ls : List Live). record (host_of s w.base) { flows = ls }) (sym (none_left tick w.base s.books silent))
          ∙ r.2,
    )
