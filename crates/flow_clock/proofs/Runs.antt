-- Time passes for a shared flow as for a flow of a host in a run.
use Rattle.std.proofs.Common.{◌≡◌, ℕ, Bool, true, false, [], refl, ap, ◌∙◌, ◌&&◌}
use Rattle.tas_model.specs.declared.entry.Caller.TheVariants.{Slow}
use Rattle.tas_model.specs.declared.entry.Call.TheVariants as calls
use Rattle.tas_model.specs.ApplicationCalls.{Column, Opening, Over, Running, column}
use Rattle.host_rounds.specs.Hosts.{Live, endpoint, is_over, is_running, with_call}
use Rattle.host_rounds.specs.Upkeep.{timed, timed_unless, controlled, controlled_where, is_control_tick}
use Rattle.flow_clock.specs.Histories as shared
use Rattle.flow_clock.specs.Histories.{history_in, timed_by}

controlled_alike : (due : Bool) (t : ℕ) (l : Live)
    → history_in (controlled_where due Slow t l) ≡ shared.controlled_where due t (history_in l)
controlled_alike true t l = refl
controlled_alike false t l = refl

running_alike : (l : Live) → is_running l ≡ shared.is_running (history_in l)
running_alike l = by_column (column (endpoint l)) where
  by_column : (c : Column) → ◌≡◌ {A = Bool} (elim c [ Running ↦ true | _ ↦ false ]) (shared.is_running_in c)
  by_column Opening = refl
  by_column (Over why) = refl
  by_column Running = refl

pub timed_alike : (t : ℕ) (l : Live) → is_over l ≡ false → history_in (timed Slow t l) ≡ timed_by t (history_in l)
timed_alike t l running =
    let m : Live = with_call l Slow t calls.Tick [] in
    let ticked : history_in (timed Slow t l) ≡ history_in (controlled Slow t m) =
    ap (λ b. history_in (timed_unless b Slow t l)) running in
    let due = ap (λ r. is_control_tick l.flow.params.fixed t && r) (running_alike m) in
    ticked
    ∙ (controlled_alike (is_control_tick l.flow.params.fixed t && is_running m) t m
    ∙ ap (λ d. shared.controlled_where d t (history_in m)) due)

pub untimed : (t : ℕ) (l : Live) → is_over l ≡ true → timed Slow t l ≡ l
untimed t l over = ap (λ b. timed_unless b Slow t l) over
