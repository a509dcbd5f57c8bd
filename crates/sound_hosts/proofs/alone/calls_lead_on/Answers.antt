-- Answers of the proof of alone/calls_lead_on.
use Rattle.sound_hosts.proofs.Calls.{call_leads}
use Rattle.sound_hosts.proofs.alone.calls_lead_on.Goals as goal

pub returns : goal.returns
returns c = call_leads
