-- A flow whose record was filed: nothing changes it any more, so that a program may put it away.
use Rattle.std.proofs.Common.{◌≡◌, ℕ, ◌||◌, not, Bool, true, false, Option, Some, None, is_some, refl, sym, ap, ◌∙◌}
use Rattle.std.proofs.Common.{true≢false, if◌then◌else◌}
use Rattle.tas_model.specs.declared.entry.FourTuple.{FourTuple}
use Rattle.tas_model.specs.declared.entry.Reason.{Reason}
use Rattle.tas_model.specs.declared.entry.Caller.{Caller}
use Rattle.tas_model.specs.Endpoint.{Endpoint, is_closed}
use Rattle.tas_model.specs.ApplicationCalls.{Column, Over, column}
use Rattle.tas_model.specs.NextSegment.{going, going_in}
use Rattle.host_rounds.specs.Logs.{Flow}
use Rattle.host_rounds.specs.Hosts.{Live, Holder, endpoint, is_over, is_held_by, is_held, is_indexed_as, is_in_slot}
use Rattle.host_rounds.specs.Upkeep.{swept, timed, timed_unless, quieted}
use Rattle.host_rounds.proofs.Quiet.{quieted_done}

-- it is closed, out of the index and out of its slot
pub record IsFiled (l : Live) : Type 0 where
  pub over : is_over l ≡ true
  pub indexed : l.indexed ≡ false
  pub filed : l.filed ≡ true

same_live : (flow : Flow) (indexed : Bool) (holder : Holder) (filed : Bool) → indexed ≡ false → filed ≡ true
    → ◌≡◌ {A = Live} (record {
      flow = flow;
      indexed = false;
      holder = holder;
      filed = filed || not (is_held_by holder);
    })
    (record { flow = flow; indexed = indexed; holder = holder; filed = filed })
same_live flow false holder true i f = refl
same_live flow true holder filed i f = absurd (true≢false i)
same_live flow false holder false i f = absurd (true≢false (sym f))

pub filed_swept : (l : Live) → IsFiled l → swept l ≡ l
filed_swept l is = swept_by (is_over l) is.over where
  swept_by : (b : Bool) → b ≡ true
      → (if b then record l { indexed = false; filed = l.filed || not (is_held l) } else l) ≡ l
  swept_by true h = same_live l.flow l.indexed l.holder l.filed is.indexed is.filed
  swept_by false h = absurd (true≢false (sym h))

pub filed_timed : (by : Caller) (t : ℕ) (l : Live) → IsFiled l → timed by t l ≡ l
filed_timed by t l is = ap (λ (b : Bool). timed_unless b by t l) is.over

-- a closed endpoint sends nothing
pub closed_sends_nothing : (e : Endpoint) → is_closed e ≡ true → going e ≡ None
unfolding going
closed_sends_nothing e h = by_reason e.reason refl where
  by_reason : (o : Option Reason) → e.reason ≡ o → going_in (column e) e ≡ None
  by_reason None r = absurd (true≢false (sym h ∙ ap is_some r))
  by_reason (Some why) r = let over : column e ≡ Over why = rw r refl in ap (λ (c : Column). going_in c e) over

pub filed_quieted : (t : ℕ) (l : Live) → IsFiled l → quieted t l ≡ l
filed_quieted t l is = quieted_done t l (closed_sends_nothing (endpoint l) is.over)

pub filed_unknown : (tuple : FourTuple) (l : Live) → IsFiled l → is_indexed_as tuple l ≡ false
filed_unknown tuple l is = rw is.indexed refl

pub filed_slotless : (slot : ℕ) (l : Live) → IsFiled l → is_in_slot slot l ≡ false
filed_slotless slot l is = rw is.filed refl
