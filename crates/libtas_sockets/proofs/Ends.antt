-- What an application leaves when it ends.
use Rattle.std.proofs.Common.{◌≡◌, ℕ, zero, suc, ◌+◌, ap, sym, ◌∙◌, subst, arith, Bool, true, List, [], ◌∷◌}
use Rattle.std.proofs.Common.{length, append-nil, false}
use Rattle.std.specs.Prelude.{Option, Some, None, slice_get}
use Rattle.atomic_table.specs.Seated.{TableId}
use Rattle.tas_model.specs.declared.entry.FlowId.{FlowId}
use Rattle.flow_state.specs.Flow.{Flow}
use Rattle.flow_lock.specs.Answers.{IsTaken, IsBusy, Holds}
use Rattle.flow_lock.specs.Callers.{IsTurned}
use Rattle.flow_lock.specs.Histories.{IsLonger}
use Rattle.flow_lock.specs.Passes.{Seen}
use Rattle.flow_lock.specs.Steps.{IsAlone}
use Rattle.flow_lock.specs.declared.view.History.{History}
use Rattle.flow_lock.specs.declared.view.View.{View}
use Rattle.flow_lock.specs.declared.word.Word.{Word}
use Rattle.flow_lock.proofs.Calling.{turned}
use Rattle.app_reaper.specs.OneCall.{history}
use Rattle.app_reaper.specs.Holding.{IsEndedAlone}
use Rattle.app_reaper.specs.Reaping.{ArePins, IsHeld, IsEnded}
use Rattle.app_reaper.specs.declared.ended.Ended.{Ended}
use Rattle.app_reaper.proofs.Calls.{taken_holds}
use Rattle.app_reaper.proofs.Walking.{same_pins, none_some}
use Rattle.libtas_sockets.specs.Apps.{Application}
use Rattle.libtas_sockets.specs.Ending.{newest, IsLeftHolding, IsEnding}

-- the last pin is the newest socket's
pub newest_is : (l : List FlowId) (k : ℕ) (f : FlowId) → k + 1 ≡ length l → slice_get l k ≡ Some f → newest l ≡ Some f
newest_is [] k f e q = absurd (none_some f q)
newest_is (x ∷ []) zero f e q = q
newest_is (x ∷ []) (suc k) f e q = absurd (none_some f q)
newest_is (x ∷ y ∷ ys) zero f e q = absurd (omega (arith, e))
newest_is (x ∷ y ∷ ys) (suc k) f e q = newest_is (y ∷ ys) k f (omega (arith, e)) q

pub ending_held : (a : Application) (e : Ended) (holding : Bool) (id : FlowId) → holding ≡ true
    → newest a.sockets ≡ Some id
    → IsLeftHolding id a e → IsEnding holding (newest a.sockets) a e
ending_held a e holding id on last left =
    subst (λ (h : Bool). IsEnding h (newest a.sockets) a e) (sym on)
    (subst (λ (o : Option FlowId). IsEnding true o a e) (sym last) left)

as_it_was : (h : History) → IsLonger h h
as_it_was h = ([], ap (λ l. record h { entries = l }) (sym (append-nil h.entries)))

-- the pins that are left, and the record in hand
pins_left : (t : TableId) (s n : Seen) (l : List FlowId) (f : FlowId) (r : Flow) (e : Ended) → e.pass ≡ n
    → e.pins.list ≡ l → IsTaken f (history r) s.view n.view → ArePins t.slots s.view l
    → ArePins t.slots e.pass.view e.pins.list
pins_left t s n l f r e pass list taken pins =
    subst (λ (x : Seen). ArePins t.slots x.view e.pins.list) (sym pass)
    (subst (λ m. ArePins t.slots n.view m) (sym list)
    (same_pins t.slots s.view n.view l (ap (λ (x : View). x.pins) taken.3) pins))

held_left : (s n : Seen) (l : List FlowId) (at : ℕ) (f : FlowId) (r : Flow) (e : Ended) → e.pass ≡ n
    → e.pins.list ≡ l → e.held ≡ Some (at, r) → slice_get l at ≡ Some f → r.id ≡ f
    → IsTaken f (history r) s.view n.view → IsHeld e.pass.view e.pins.list e.held
held_left s n l at f r e pass list held place own taken =
    subst (λ (x : Seen). IsHeld x.view e.pins.list e.held) (sym pass)
    (subst (λ m. IsHeld n.view m e.held) (sym list)
    (subst (λ (o : Option (ℕ × Flow)). IsHeld n.view l o) (sym held)
    (subst (λ (g : FlowId). (slice_get l at ≡ Some g) × Holds n.view g (history r)) (sym own)
    (place, taken_holds f r (history r) s.view n.view taken (as_it_was (history r))))))

-- what is left with a record in hand can be reaped
pub ended_held : (t : TableId) (s n : Seen) (l : List FlowId) (at : ℕ) (f : FlowId) (r : Flow) (e : Ended) → e.pass ≡ n
    → e.pins.list ≡ l → e.held ≡ Some (at, r) → n.table ≡ s.table → slice_get l at ≡ Some f → r.id ≡ f
    → IsTaken f (history r) s.view n.view → ArePins t.slots s.view l → IsTurned t s → IsEnded t e
ended_held t s n l at f r e pass list held table place own taken pins is = record {
  turned = subst (λ (x : Seen). IsTurned t x) (sym pass) (turned t s n table (ap (λ (x : View). x.turns) taken.3)
      (ap (λ (x : View). x.slow) taken.3) (ap (λ (x : View). x.baton) taken.3) is);
  pins = pins_left t s n l f r e pass list taken pins;
  held = held_left s n l at f r e pass list held place own taken;
}

-- so it can where the pass has the baton alone
pub ended_alone : (t : TableId) (s n : Seen) (l : List FlowId) (at : ℕ) (f : FlowId) (r : Flow) (e : Ended)
    → e.pass ≡ n → e.pins.list ≡ l → e.held ≡ Some (at, r) → e.busy ≡ None → n.table ≡ s.table
    → slice_get l at ≡ Some f → r.id ≡ f → IsTaken f (history r) s.view n.view → ArePins t.slots s.view l
    → s.table ≡ t → s.view.slow ≡ false → IsAlone s.view → IsEndedAlone t e
ended_alone t s n l at f r e pass list held free table place own taken pins near plain alone = record {
  own = ap (λ (x : Seen). x.table) pass ∙ (table ∙ near);
  plain = ap (λ (x : Seen). x.view.slow) pass ∙ (ap (λ (x : View). x.slow) taken.3 ∙ plain);
  alone = subst (λ (x : Seen). IsAlone x.view) (sym pass) (
    ap (λ (x : View). x.baton) taken.3 ∙ alone.0,
    ap (λ (x : View). x.turns) taken.3 ∙ alone.1,
    ap (λ (x : View). x.made) taken.3 ∙ alone.2,
  );
  pins = pins_left t s n l f r e pass list taken pins;
  held = held_left s n l at f r e pass list held place own taken;
  found = free;
}

-- so can what is left where another pass had it
pub ended_busy : (t : TableId) (s n : Seen) (l : List FlowId) (f : FlowId) (x : Word) (e : Ended) → e.pass ≡ n
    → e.pins.list ≡ l → e.held ≡ None → n.table ≡ s.table → IsBusy f s.view n.view x → s.view.held ≡ []
    → ArePins t.slots s.view l → IsTurned t s → IsEnded t e
ended_busy t s n l f x e pass list held table busy idle pins is = record {
  turned = subst (λ (y : Seen). IsTurned t y) (sym pass) (turned t s n table (ap (λ (y : View). y.turns) busy.1)
      (ap (λ (y : View). y.slow) busy.1) (ap (λ (y : View). y.baton) busy.1) is);
  pins = subst (λ (y : Seen). ArePins t.slots y.view e.pins.list) (sym pass) (subst (λ m. ArePins t.slots n.view m)
      (sym list)
      (same_pins t.slots s.view n.view l (ap (λ (y : View). y.pins) busy.1) pins));
  held = subst (λ (y : Seen). IsHeld y.view e.pins.list e.held) (sym pass)
      (subst (λ (o : Option (ℕ × Flow)). IsHeld n.view e.pins.list o) (sym held)
      (ap (λ (y : View). y.held) busy.1 ∙ idle));
}
