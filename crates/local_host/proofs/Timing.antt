-- One tick of a flow.
use Rattle.std.proofs.Common.{◌≡◌, ℕ, Bool, true, false, [], refl, ap, ◌∙◌, true≢false}
use Rattle.tas_model.specs.declared.entry.Caller.TheVariants.{Slow}
use Rattle.tas_model.specs.declared.entry.Call.TheVariants as calls
use Rattle.host_rounds.specs.Logs.{Flow}
use Rattle.host_rounds.specs.Hosts.{Live, is_over, with_call}
use Rattle.host_rounds.specs.Upkeep.{timed, timed_unless, controlled}
use Rattle.local_host.specs.Live.{called}

runs_on : (b : Bool) (t : ℕ) (l : Live) → b ≡ false
    → controlled Slow t (with_call l Slow t calls.Tick []) ≡ timed_unless b Slow t l
runs_on false t l h = refl
runs_on true t l h = absurd (true≢false h)

-- where it is not closed
pub ticked : (l : Live) (f : Flow) (t : ℕ) → f ≡ called l.flow Slow t calls.Tick [] → is_over l ≡ false
    → controlled Slow t (record l { flow = f }) ≡ timed Slow t l
ticked l f t made runs = ap (λ (g : Flow). controlled Slow t (record l { flow = g })) made
    ∙ runs_on (is_over l) t l runs
