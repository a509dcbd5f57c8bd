-- Only a Send reads the reply.
use Rattle.std.proofs.Common.{◌≡◌, ℕ, refl}
use Rattle.tas_model.specs.declared.entry.Call.{Call}
use Rattle.tas_model.specs.declared.entry.Call.TheVariants as calls
use Rattle.tas_model.specs.declared.entry.Reply.{Reply}
use Rattle.tas_model.specs.Endpoint.{Endpoint}
use Rattle.tas_model.specs.LegalHistory.{step}

-- not a Send, whose bytes the call alone does not tell
abbrev pub IsNoSend : Call → Type 0
IsNoSend (calls.Send offered) = ⊥
IsNoSend _ = Unit {0}

pub step_any : (e : Endpoint) (tick : ℕ) (call : Call) (r s : Reply) → IsNoSend call
    → step e tick call r ≡ step e tick call s
unfolding step
step_any e tick (calls.Send offered) r s plain = absurd plain
step_any e tick _ r s plain = refl
