-- A host is sound still after segments were sent alone: for the law emissions_alone_keep_it.
use Rattle.std.proofs.Common.{◌≡◌, ℕ, ◌==◌, cond, Bool, true, false, List, [], ◌∷◌, refl, sym, ap, ◌∙◌, subst, inl, inr}
use Rattle.std.proofs.Common.{if◌then◌else◌, is_some}
use Rattle.std.specs.Prelude.{Option, Some, None, ◌⊎◌}
use Rattle.tas_model.specs.declared.entry.Call.TheVariants as calls
use Rattle.tas_model.specs.declared.entry.Caller.TheVariants.{Core}
use Rattle.tas_model.specs.declared.entry.FlowId.{FlowId}
use Rattle.tas_model.specs.declared.entry.Reason.{Reason}
use Rattle.tas_model.specs.ApplicationCalls.{Column, Opening, Over, Running, column, column_by}
use Rattle.tas_model.specs.NextSegment.{Going}
use Rattle.flow_state.specs.declared.call.CallIn.TheVariants.{Emit}
use Rattle.flow_state.specs.Flow.{Flow, next_entry, reply_to}
use Rattle.host_rounds.specs.Lists.{Each}
use Rattle.flow_lock.specs.Orders.{known_of, same_flow}
use Rattle.flow_lock.specs.Words.{word_at}
use Rattle.flow_lock.specs.declared.view.Deed.{Deed}
use Rattle.flow_lock.specs.declared.view.Held.{Held}
use Rattle.flow_lock.specs.declared.view.History.{History}
use Rattle.flow_lock.specs.declared.view.View.{View}
use Rattle.app_reaper.specs.OneCall.{history, history_with, IsOwn, IsUse}
use Rattle.core_phase.specs.Deeds.{IsSend, KeepsColumn}
use Rattle.flow_clock.specs.Histories.{endpoint_of, is_over, is_running, is_running_in}
use Rattle.flow_clock.proofs.Keeping.{after_use}
use Rattle.host_books.specs.Books.{Book}
use Rattle.host_books.proofs.Indexing.{is_same_flow}
use Rattle.sound_hosts.specs.Hosts.{CoreHost, known_in}
use Rattle.sound_hosts.specs.Leading.{LedOn, Leads}
use Rattle.sound_hosts.specs.Moving.{IsLed}
use Rattle.sound_hosts.specs.Sound.{IsHostSound}
use Rattle.sound_hosts.proofs.Calls.{call_leads}
use Rattle.sound_hosts.proofs.Moved.{IsMovedOn, moved_sound, all_right}
use Rattle.sound_hosts.proofs.OneFlow.{used_leads, words_same}
use Rattle.sound_hosts.proofs.Reheld.{StaysWaiting, waiting_same}
use Rattle.sound_turns.proofs.Steps.{same_led}
use Rattle.sound_turns.proofs.Sweeps.{base_leads}
use Rattle.sound_hosts.specs.Counting.{IsCounted}
use Rattle.slow_rounds.specs.Sending.{IsSent, AreSent, with_view}

-- ----- histories
abbrev pub column_in : FlowId → List Held → Column
column_in f known = column (endpoint_of (known_of f known))

pub led_twice : (x y z : History) → LedOn x y → LedOn y z → LedOn x z
led_twice x y z a b = record {
  tuple = b.tuple ∙ a.tuple;
  over = λ o. b.over (a.over o);
  running = λ r. by (a.running r);
  none = λ n. b.none (a.none n);
}
  where
    by : (is_running y ≡ true) ⊎ (is_over y ≡ true) → (is_running z ≡ true) ⊎ (is_over z ≡ true)
    by (inl r) = b.running r
    by (inr o) = inr (b.over o)

abbrev over_in : Column → Bool
over_in (Over why) = true
over_in column = false

over_is : (r : Option Reason) (peer : Option ℕ) (una : ℕ) → is_some r ≡ over_in (column_by r peer una)
over_is (Some why) peer una = refl
over_is None None una = refl
over_is None (Some first) una = by (una == 0)
  where
    by : (c : Bool) → false ≡ over_in (if c then Opening else Running)
    by true = refl
    by false = refl

-- ----- a host
module _ (sends_keep : (core t : ℕ) (d : Deed) → IsSend core t d → KeepsColumn d) (h : CoreHost) (tick : ℕ)
    (sound : IsHostSound h) where
  -- what is as it was
  pub record IsStill (w : View) : Type 0 where
    pub on : IsMovedOn h w
    pub words : (slot : ℕ) → word_at w.words slot ≡ word_at h.slow.pass.view.words slot
    pub columns : (f : FlowId) → column_in f w.base ≡ column_in f (known_in h)
    pub opened : w.opened ≡ h.slow.pass.view.opened

  pub begun : IsStill h.slow.pass.view
  begun = record {
    on = record {
      alone = sound.alone;
      slow = sound.slow_pass;
      marks = refl;
      pins = refl;
      idle = sound.sound.0.ready.2;
      wide = refl;
      leads = λ f. same_led (known_of f (known_in h));
    };
    words = λ slot. refl;
    columns = λ f. refl;
    opened = refl;
  }

  -- ----- one record
  module _ (id : FlowId) (r : Flow) (k : History) (v w : View) (still : IsStill v) (own : IsOwn id v r)
      (given : IsUse id r k v w) (on : LedOn (history r) k)
      (same_column : column (endpoint_of k) ≡ column (endpoint_of (history r))) where
    is_known : history r ≡ known_of id v.base
    is_known = own.known still.on.alone

    led : IsLed id k v w
    led = used_leads id r k v w still.on.alone given

    leads : Leads v.base w.base
    leads = base_leads id k v w (subst (λ (x : History). LedOn x k) is_known on) led

    columns : (f : FlowId) → column_in f w.base ≡ column_in f v.base
    columns f = ap (column_in f) led.base ∙ by (same_flow id f) refl
      where
        by : (s : Bool) → same_flow id f ≡ s
            → column (endpoint_of (cond (same_flow id f) k (known_of f v.base))) ≡ column_in f v.base
        by true e =
            ap (λ s. column (endpoint_of (cond s k (known_of f v.base)))) e
            ∙ (same_column
            ∙ (ap (λ (x : History). column (endpoint_of x)) is_known
            ∙ ap (λ g. column_in g v.base) (is_same_flow id f e)))
        by false e = ap (λ s. column (endpoint_of (cond s k (known_of f v.base)))) e

    pub one_still : IsStill w
    one_still = record {
      on = record {
        alone = led.alone;
        slow = led.slow ∙ still.on.slow;
        marks = led.marks ∙ still.on.marks;
        pins = led.pins ∙ still.on.pins;
        idle = led.idle;
        wide = led.wide ∙ still.on.wide;
        leads = λ f. led_twice (known_of f (known_in h)) (known_of f v.base) (known_of f w.base) (still.on.leads f)
            (leads f);
      };
      words = λ slot. led.words slot ∙ still.words slot;
      columns = λ f. columns f ∙ still.columns f;
      opened = (after_use id r k v w given).opened ∙ still.opened;
    }

  -- ----- one segment
  module _ (id : FlowId) (v w : View) (still : IsStill v) (sent : IsSent tick id v w) where
    abbrev after : History
    after = history_with sent.flow (Core 0) tick Emit

    after_column : column (endpoint_of after) ≡ column (endpoint_of (history sent.flow))
    after_column = sends_keep 0 tick (record {
      flow = id;
      before = history sent.flow;
      entry = next_entry sent.flow.entries (Core 0) tick calls.Emit
          (reply_to sent.flow.params sent.flow.entries tick calls.Emit []);
    }) (record {
      goes = ap (λ (o : Option Going). is_some o) sent.may_go;
      adds = record { legal = sent.own.legal; made = refl };
    })

    one_sent : IsStill w
    one_sent =
        one_still id sent.flow after v w still sent.own sent.given
        (call_leads (history sent.flow) (Core 0) tick calls.Emit [] sent.own.legal) after_column

  -- ----- all of them
  all_still : (ids : List FlowId) (v w : View) → IsStill v → AreSent tick ids v w → IsStill w
  all_still [] v w still same = subst IsStill (sym same) still
  all_still (id ∷ ids) v w still (u, sent, rest) = all_still ids u w (one_sent id v u still sent) rest

  module _ (w : View) (still : IsStill w) where
    stay : (bs : List Book) → Each (StaysWaiting (known_in h) w.base) bs
    stay [] = tt
    stay (b ∷ bs) = (
      λ e. (
        over (known_of b.id w.base) ∙ (ap over_in (still.columns b.id) ∙ sym (over (known_of b.id (known_in h)))),
        ap is_running_in (still.columns b.id),
        (still.on.leads b.id).tuple,
      ),
      stay bs,
    )
      where
        over : (k : History) → is_over k ≡ over_in (column (endpoint_of k))
        over k = over_is (endpoint_of k).reason (endpoint_of k).peer (endpoint_of k).tx.una

    pub still_sound : IsHostSound (with_view w h)
    still_sound =
        moved_sound h sound w still.on h.slow.path h.apps h.books (λ P keeps p. p) refl
        (sound.opening.flows ∙ sym (waiting_same (known_in h) w.base h.books (stay h.books)))
        (words_same h.slow.pass.view w still.words h.books sound.table.words) (all_right h sound).taken

  pub sent_sound : (ids : List FlowId) (w : View) → AreSent tick ids h.slow.pass.view w
      → IsHostSound (with_view w h) × (IsCounted h → IsCounted (with_view w h))
  sent_sound ids w sent =
      let still : IsStill w = all_still ids h.slow.pass.view w begun sent in
      (still_sound w still, λ counted. still.opened ∙ counted)
