-- Answers of the proof of ending/time_leads_on.
use Rattle.sound_hosts.proofs.Calls.{timed_leads}
use Rattle.sound_hosts.proofs.ending.time_leads_on.Goals as goal

pub returns : goal.returns
returns c = timed_leads
