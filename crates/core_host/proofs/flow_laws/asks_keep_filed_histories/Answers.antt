use Rattle.host_rounds.specs.Hosts.{Host, logged}
use Rattle.asked_host.specs.Asking.{listened_by}
use Rattle.core_host.specs.Views.{seen_by}
use Rattle.core_host.proofs.FiledFlows.{all_stay}
use Rattle.core_host.proofs.FiledSteps.{step_filed, call_filed, end_filed, accept_filed, connect_filed, kill_filed}
use Rattle.core_host.proofs.flow_laws.asks_keep_filed_histories.Goals as goal

pub returns-clause-noted : goal.returns-clause-noted
returns-clause-noted c = λ t event before after sound.
    step_filed before after (λ (host : Host). logged host t event) sound (all_stay (seen_by before).flows)

pub returns-clause-listening : goal.returns-clause-listening
returns-clause-listening c = λ app port before after sound.
    step_filed before after (listened_by app port) sound (all_stay (seen_by before).flows)

pub returns-clause-called : goal.returns-clause-called
returns-clause-called c = λ app n t call offer before after sound.
    call_filed before after sound app t n call offer

pub returns-clause-left : goal.returns-clause-left
returns-clause-left c = λ app n t call before after sound. end_filed before after sound app t n call

pub returns-clause-accepted : goal.returns-clause-accepted
returns-clause-accepted c = λ app t port answer before after sound. accept_filed before after sound app t port answer

pub returns-clause-connected : goal.returns-clause-connected
returns-clause-connected c = λ starts t app raddr rport answer before after sound.
    connect_filed before after sound app t starts raddr rport answer

pub returns-clause-killed : goal.returns-clause-killed
returns-clause-killed c = λ app t before after sound. kill_filed before after app t sound
