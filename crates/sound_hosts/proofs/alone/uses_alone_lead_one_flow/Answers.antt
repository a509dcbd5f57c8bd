-- Answers of the proof of alone/uses_alone_lead_one_flow.
use Rattle.sound_hosts.proofs.OneFlow.{used_leads}
use Rattle.sound_hosts.proofs.alone.uses_alone_lead_one_flow.Goals as goal

pub returns : goal.returns
returns c = used_leads
