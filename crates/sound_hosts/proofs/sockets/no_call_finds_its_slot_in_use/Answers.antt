-- Answers of the proof of sockets/no_call_finds_its_slot_in_use.
use Rattle.std.proofs.Common.{◌≡◌, true, List, sym, subst, ap, ◌∙◌, All}
use Rattle.std.specs.List.{list_any}
use Rattle.tas_model.specs.declared.entry.FlowId.{FlowId}
use Rattle.flow_lock.specs.Answers.{is_open_in, next_in}
use Rattle.flow_lock.specs.Orders.{same_flow}
use Rattle.flow_lock.specs.declared.view.Mark.{Mark}
use Rattle.libtas_sockets.specs.Apps.{IsSocket}
use Rattle.libtas_sockets.specs.declared.socket.Socket.{Socket}
use Rattle.sound_hosts.proofs.OpenSockets.{sockets_open}
use Rattle.sound_hosts.proofs.Accepting.{free}
use Rattle.sound_hosts.proofs.sockets.no_call_finds_its_slot_in_use.Goals as goal

pub returns-clause-open : goal.returns-clause-open
returns-clause-open c h n a sound at = sockets_open h sound n a at

pub returns-clause-connect : goal.returns-clause-connect
returns-clause-connect c h n a b after raddr rport tick o s t socket sound at same marks (on_next, as_a, as_s) =
    let id = on_next.0 in
    c.no_socket_is_in_the_way.ensures.next h.slow.pass.view.marks b id
    (subst (λ (fs : List FlowId). All (λ (f : FlowId). is_open_in h.slow.pass.view.marks f ≡ true) fs) (sym same)
    (sockets_open h sound n a at))
    (ap (λ (ms : List Mark). next_in ms) (sym marks) ∙ on_next.1)
    (subst (λ (x : Socket). IsSocket b x) on_next.2 on_next.3)

pub returns-clause-accept : goal.returns-clause-accept
returns-clause-accept c h n port a b after id tick socket sound at same first (on, there, rest) =
    let f = free h sound n port a id at first in
    c.no_socket_is_in_the_way.ensures.other h.slow.pass.view.marks b id
    (subst (λ (fs : List FlowId). All (λ (g : FlowId). is_open_in h.slow.pass.view.marks g ≡ true) fs) (sym same)
    (sockets_open h sound n a at))
    f.open_
    (ap (λ (fs : List FlowId). list_any (same_flow id) fs) same ∙ f.apart)
    (subst (λ (x : Socket). IsSocket b x) on there)
