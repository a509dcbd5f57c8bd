-- Flows that the slow path aborts alone: for the law reaped_flows_are_aborted.
use Rattle.std.proofs.Common.{◌≡◌, ℕ, ◌||◌, cond, Bool, true, false, List, [], ◌∷◌, map, refl, sym, ap, ◌∙◌}
use Rattle.std.proofs.Common.{true≢false}
use Rattle.tas_model.specs.declared.entry.Call.TheVariants as calls
use Rattle.tas_model.specs.declared.entry.Caller.TheVariants.{Slow}
use Rattle.tas_model.specs.declared.entry.FlowId.{FlowId}
use Rattle.flow_state.specs.declared.call.CallIn.TheVariants.{Abort}
use Rattle.host_rounds.specs.Hosts.{Live, with_call}
use Rattle.flow_lock.specs.Orders.{known_of, same_flow}
use Rattle.flow_lock.specs.Steps.{IsAlone, unpinned, noted}
use Rattle.flow_lock.specs.declared.view.Held.{Held}
use Rattle.flow_lock.specs.declared.view.History.{History}
use Rattle.flow_lock.specs.declared.view.View.{View}
use Rattle.app_reaper.specs.OneCall.{history_with}
use Rattle.app_reaper.specs.Reaping.{IsAborted, AreReaped}
use Rattle.host_books.specs.Books.{Book, Setting, live_as, live_in, host_of}
use Rattle.host_books.proofs.Indexing.{is_same_flow}
use Rattle.sound_hosts.specs.Moving.{IsLed}
use Rattle.sound_hosts.proofs.OneFlow.{used_leads}
use Rattle.slow_rounds.specs.Aborting.{aborted_in}
use Rattle.slow_rounds.specs.SoFar.{is_in}
use Rattle.slow_rounds.proofs.Stepping.{Once, once_rest, apart_rest}

abbrev aborted : (tick : ℕ) → Live → Live
aborted t l = with_call l Slow t calls.Abort []

-- ----- one flow
module _ (tick : ℕ) (id : FlowId) (v u : View) (alone : IsAlone v) (was : IsAborted tick id v u) where
  abbrev after : History
  after = history_with was.0 Slow tick Abort

  led : IsLed id after v u
  led = used_leads id was.0 after v u alone was.2

  one_aborted : (b : Book)
      → live_in u.base b ≡ cond (same_flow id b.id) (aborted tick (live_in v.base b)) (live_in v.base b)
  one_aborted b =
      ap (λ (known : List Held). live_in known b) led.base ∙ by (same_flow id b.id) refl
    where
      by : (s : Bool) → same_flow id b.id ≡ s
          → live_as b (cond (same_flow id b.id) after (known_of b.id v.base))
          ≡ cond (same_flow id b.id) (aborted tick (live_in v.base b)) (live_in v.base b)
      by true e =
          ap (λ c. live_as b (cond c after (known_of b.id v.base))) e
          ∙ (ap (λ (h : History). aborted tick (live_as b h))
          (was.1.known alone ∙ ap (λ f. known_of f v.base) (is_same_flow id b.id e))
          ∙ ap (λ c. cond c (aborted tick (live_in v.base b)) (live_in v.base b)) (sym e))
      by false e =
          ap (λ c. live_as b (cond c after (known_of b.id v.base))) e
          ∙ ap (λ c. cond c (aborted tick (live_in v.base b)) (live_in v.base b)) (sym e)

  still_alone : IsAlone (unpinned id u)
  still_alone = (led.alone.0, ap (λ ts. noted [] [] (id ∷ []) ts) led.alone.1, led.alone.2)

-- ----- all flows
-- of a flow that was aborted, or wasn't
both : (tick : ℕ) (id : FlowId) (ids : List FlowId) (l : Live) → is_in ids id ≡ false
    → aborted_in ids tick (cond (same_flow id l.flow.id) (aborted tick l) l) ≡ aborted_in (id ∷ ids) tick l
both tick id ids l apart = by (same_flow id l.flow.id) refl (is_in ids l.flow.id) refl
  where
    by : (s : Bool) → same_flow id l.flow.id ≡ s → (r : Bool) → is_in ids l.flow.id ≡ r
        → aborted_in ids tick (cond (same_flow id l.flow.id) (aborted tick l) l)
        ≡ cond (same_flow id l.flow.id || is_in ids l.flow.id) (aborted tick l) l
    by true e true f =
        absurd (true≢false (sym f ∙ (ap (is_in ids) (sym (is_same_flow id l.flow.id e)) ∙ apart)))
    by true e false f =
        ap (λ c. aborted_in ids tick (cond c (aborted tick l) l)) e
        ∙ (ap (λ c. cond c (aborted tick (aborted tick l)) (aborted tick l)) f
        ∙ (λ i. cond (sym e i || is_in ids l.flow.id) (aborted tick l) l))
    by false e r f =
        ap (λ c. aborted_in ids tick (cond c (aborted tick l) l)) e
        ∙ (λ i. cond (sym e i || is_in ids l.flow.id) (aborted tick l) l)

pub one_reaped : (tick : ℕ) (ids : List FlowId) (v w : View) → IsAlone v → Once ids → AreReaped tick ids v w
    → (b : Book) → live_in w.base b ≡ aborted_in ids tick (live_in v.base b)
one_reaped tick [] v w alone once same b = ap (λ (x : View). live_in x.base b) same
one_reaped tick (id ∷ ids) v w alone once (u, was, rest) b =
    one_reaped tick ids (unpinned id u) w (still_alone tick id v u alone was) (once_rest id ids once) rest b
    ∙ (ap (aborted_in ids tick) (one_aborted tick id v u alone was b)
    ∙ both tick id ids (live_in v.base b) (apart_rest id ids once))

all_reaped : (tick : ℕ) (ids : List FlowId) (v w : View) → IsAlone v → Once ids → AreReaped tick ids v w
    → (bs : List Book) → map (live_in w.base) bs ≡ map (aborted_in ids tick) (map (live_in v.base) bs)
all_reaped tick ids v w alone once are [] = refl
all_reaped tick ids v w alone once are (b ∷ bs) =
    λ i. one_reaped tick ids v w alone once are b i ∷ all_reaped tick ids v w alone once are bs i

pub reaped_made : (s : Setting) (tick : ℕ) (ids : List FlowId) (v w : View) → IsAlone v → Once ids
    → AreReaped tick ids v w
    → host_of s w.base
    ≡ record (host_of s v.base) { flows = map (aborted_in ids tick) (host_of s v.base).flows }
reaped_made s tick ids v w alone once are =
    ap (λ (ls : List Live). record (host_of s v.base) { flows = ls }) (all_reaped tick ids v w alone once are s.books)
