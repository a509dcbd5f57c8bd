-- Sockets that change hands, and calls that leave a closed flow closed.
use Rattle.std.proofs.Common.{refl}
use Rattle.host_rounds.specs.Hosts.{Live}
use Rattle.local_host.specs.Live.{holder_in}
use Rattle.local_host.specs.declared.live.Holder as code
use Rattle.local_host.proofs.Indexing.{Keeps}
use Rattle.local_host.proofs.Standing.{Calms, Stays}

abbrev pub held : code.Holder → Live → Live
held holder l = record l { holder = holder_in holder }

pub held_keeps : (holder : code.Holder) → Keeps (held holder)
held_keeps holder = record { same = λ l. record { tuple = refl; id = refl; index = λ h. h } }

pub held_calms : (holder : code.Holder) → Calms (held holder)
held_calms holder l at = record { over = at.over; index = at.index }

pub held_stays : (holder : code.Holder) → Stays (held holder)
held_stays holder l = refl
