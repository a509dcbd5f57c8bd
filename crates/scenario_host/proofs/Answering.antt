-- The answer of a call tells what its reply tells, and a script goes on by it as by the reply.
use Rattle.std.proofs.Common.{◌≡◌, ◌≤◌, ◌+◌, ℕ, List, [], length, take, drop, Option, Some, None}
use Rattle.std.proofs.Common.{refl, sym, ap, subst}
use Rattle.std.proofs.Common.{◌∙◌, arith, if◌then◌else◌}
use Rattle.tas_model.specs.declared.entry.Caller.TheVariants.{App}
use Rattle.tas_model.specs.declared.entry.Call.{Call}
use Rattle.tas_model.specs.declared.entry.Call.TheVariants as calls
use Rattle.tas_model.specs.declared.entry.Reply.{Reply}
use Rattle.tas_model.specs.declared.entry.Reply.TheVariants as replies
use Rattle.flow_state.specs.declared.call.Answer.{Answer}
use Rattle.flow_state.specs.declared.call.Answer.TheVariants as answers
use Rattle.flow_state.specs.Calls as in_calls
use Rattle.host_rounds.specs.Hosts.{Live, Host, at_flow, with_call, answer_of}
use Rattle.local_host.specs.Live.{took}
use Rattle.local_host.proofs.Taken.{took_tells}
use Rattle.asked_host.specs.Asking.{told}
use Rattle.scenario_runs.specs.Applications.{Script, stepped, is_not_yet, waits_for, sent_on, sends}
use Rattle.scenario_runs.specs.Applications.{received_on}
use Rattle.scenario_runs.specs.Applications.{receives, asks_for, most}
use Rattle.scenario_host.specs.Answers.{IsBelow, IsWithin, gave, waited_by, sent_by, received_by}
use Rattle.scenario_host.specs.Turns.{turn_of}
use Rattle.scenario_host.proofs.Replies.{given_bytes, sent_few, got_few}

-- ----- each reply
waited_same : (reply : Reply) (s : Script)
    → waited_by (in_calls.answer_of reply) s ≡ (if is_not_yet reply then s else stepped s)
waited_same replies.Ok s = refl
waited_same replies.Nothing s = refl
waited_same (replies.Sent seg) s = refl
waited_same (replies.Took bytes) s = refl
waited_same (replies.Got bytes update) s = refl
waited_same replies.End s = refl
waited_same replies.NotYet s = refl
waited_same replies.NotOpen s = refl
waited_same replies.Shut s = refl
waited_same (replies.Closed reason) s = refl
waited_same replies.Quiet s = refl
waited_same replies.Resend s = refl
waited_same replies.Probe s = refl
waited_same replies.Expired s = refl
waited_same replies.TimedOut s = refl
waited_same (replies.Window cwnd ssthresh) s = refl

pub sent_same : (reply : Reply) (all : ℕ) (s : Script) → sent_by (in_calls.answer_of reply) all s ≡ sent_on reply all s
sent_same replies.Ok all s = refl
sent_same replies.Nothing all s = refl
sent_same (replies.Sent seg) all s = refl
sent_same (replies.Took bytes) all s = refl
sent_same (replies.Got bytes update) all s = refl
sent_same replies.End all s = refl
sent_same replies.NotYet all s = refl
sent_same replies.NotOpen all s = refl
sent_same replies.Shut all s = refl
sent_same (replies.Closed reason) all s = refl
sent_same replies.Quiet all s = refl
sent_same replies.Resend all s = refl
sent_same replies.Probe all s = refl
sent_same replies.Expired all s = refl
sent_same replies.TimedOut all s = refl
sent_same (replies.Window cwnd ssthresh) all s = refl

pub received_same : (reply : Reply) (all : Option ℕ) (s : Script)
    → received_by (in_calls.answer_of reply) all s ≡ received_on reply all s
received_same replies.Ok all s = refl
received_same replies.Nothing all s = refl
received_same (replies.Sent seg) all s = refl
received_same (replies.Took bytes) all s = refl
received_same (replies.Got bytes update) None s = refl
received_same (replies.Got bytes update) (Some all) s = refl
received_same replies.End all s = refl
received_same replies.NotYet all s = refl
received_same replies.NotOpen all s = refl
received_same replies.Shut all s = refl
received_same (replies.Closed reason) all s = refl
received_same replies.Quiet all s = refl
received_same replies.Resend all s = refl
received_same replies.Probe all s = refl
received_same replies.Expired all s = refl
received_same replies.TimedOut all s = refl
received_same (replies.Window cwnd ssthresh) all s = refl

gave_tells : (reply : Reply) → gave (in_calls.answer_of reply) ≡ length (given_bytes reply)
gave_tells replies.Ok = refl
gave_tells replies.Nothing = refl
gave_tells (replies.Sent seg) = refl
gave_tells (replies.Took bytes) = refl
gave_tells (replies.Got bytes update) = refl
gave_tells replies.End = refl
gave_tells replies.NotYet = refl
gave_tells replies.NotOpen = refl
gave_tells replies.Shut = refl
gave_tells (replies.Closed reason) = refl
gave_tells replies.Quiet = refl
gave_tells replies.Resend = refl
gave_tells replies.Probe = refl
gave_tells replies.Expired = refl
gave_tells replies.TimedOut = refl
gave_tells (replies.Window cwnd ssthresh) = refl

-- ----- what is told of an answer
waited_told : (a : Answer) (s : Script) → waited_by a s ≡ waited_by (told a) s
waited_told answers.Ok s = refl
waited_told answers.Nothing s = refl
waited_told (answers.Sent head len) s = refl
waited_told (answers.Took len) s = refl
waited_told (answers.Got len update) s = refl
waited_told answers.End s = refl
waited_told answers.NotYet s = refl
waited_told answers.NotOpen s = refl
waited_told answers.Shut s = refl
waited_told (answers.Closed reason) s = refl
waited_told answers.Quiet s = refl
waited_told answers.Resend s = refl
waited_told answers.Probe s = refl
waited_told answers.Expired s = refl
waited_told answers.TimedOut s = refl
waited_told (answers.Window cwnd ssthresh) s = refl

sent_told : (a : Answer) (all : ℕ) (s : Script) → sent_by a all s ≡ sent_by (told a) all s
sent_told answers.Ok all s = refl
sent_told answers.Nothing all s = refl
sent_told (answers.Sent head len) all s = refl
sent_told (answers.Took len) all s = refl
sent_told (answers.Got len update) all s = refl
sent_told answers.End all s = refl
sent_told answers.NotYet all s = refl
sent_told answers.NotOpen all s = refl
sent_told answers.Shut all s = refl
sent_told (answers.Closed reason) all s = refl
sent_told answers.Quiet all s = refl
sent_told answers.Resend all s = refl
sent_told answers.Probe all s = refl
sent_told answers.Expired all s = refl
sent_told answers.TimedOut all s = refl
sent_told (answers.Window cwnd ssthresh) all s = refl

received_told : (a : Answer) (all : Option ℕ) (s : Script) → received_by a all s ≡ received_by (told a) all s
received_told answers.Ok all s = refl
received_told answers.Nothing all s = refl
received_told (answers.Sent head len) all s = refl
received_told (answers.Took len) all s = refl
received_told (answers.Got len update) None s = refl
received_told (answers.Got len update) (Some all) s = refl
received_told answers.End all s = refl
received_told answers.NotYet all s = refl
received_told answers.NotOpen all s = refl
received_told answers.Shut all s = refl
received_told (answers.Closed reason) all s = refl
received_told answers.Quiet all s = refl
received_told answers.Resend all s = refl
received_told answers.Probe all s = refl
received_told answers.Expired all s = refl
received_told answers.TimedOut all s = refl
received_told (answers.Window cwnd ssthresh) all s = refl

took_told : (a : Answer) → took a ≡ took (told a)
took_told answers.Ok = refl
took_told answers.Nothing = refl
took_told (answers.Sent head len) = refl
took_told (answers.Took len) = refl
took_told (answers.Got len update) = refl
took_told answers.End = refl
took_told answers.NotYet = refl
took_told answers.NotOpen = refl
took_told answers.Shut = refl
took_told (answers.Closed reason) = refl
took_told answers.Quiet = refl
took_told answers.Resend = refl
took_told answers.Probe = refl
took_told answers.Expired = refl
took_told answers.TimedOut = refl
took_told (answers.Window cwnd ssthresh) = refl

gave_told : (a : Answer) → gave a ≡ gave (told a)
gave_told answers.Ok = refl
gave_told answers.Nothing = refl
gave_told (answers.Sent head len) = refl
gave_told (answers.Took len) = refl
gave_told (answers.Got len update) = refl
gave_told answers.End = refl
gave_told answers.NotYet = refl
gave_told answers.NotOpen = refl
gave_told answers.Shut = refl
gave_told (answers.Closed reason) = refl
gave_told answers.Quiet = refl
gave_told answers.Resend = refl
gave_told answers.Probe = refl
gave_told answers.Expired = refl
gave_told answers.TimedOut = refl
gave_told (answers.Window cwnd ssthresh) = refl

-- ----- a call that was answered
-- The application of this number made the call, and so much is told of the answer.
pub record Asked (app place t : ℕ) (call : Call) (offer : List ℕ) (before after : Host) (answer : Answer) : Type 0 where
  pub made : after ≡ at_flow place (λ (l : Live). with_call l (App app) t call offer) before
  pub answered : told answer ≡ told (in_calls.answer_of (answer_of place after))

-- a script goes on by as much as is told
waited_alike : (a b : Answer) (s : Script) → told a ≡ told b → waited_by a s ≡ waited_by b s
waited_alike a b s same =
    waited_told a s ∙ (ap (λ (x : Answer). waited_by x s) same ∙ sym (waited_told b s))

pub sent_alike : (a b : Answer) (all : ℕ) (s : Script) → told a ≡ told b → sent_by a all s ≡ sent_by b all s
sent_alike a b all s same =
    sent_told a all s ∙ (ap (λ (x : Answer). sent_by x all s) same ∙ sym (sent_told b all s))

pub received_alike : (a b : Answer) (all : Option ℕ) (s : Script) → told a ≡ told b
    → received_by a all s ≡ received_by b all s
received_alike a b all s same =
    received_told a all s ∙ (ap (λ (x : Answer). received_by x all s) same ∙ sym (received_told b all s))

pub asked_as : (app number place t : ℕ) (call : Call) (offer : List ℕ) (before after : Host) (answer : Answer)
    → app ≡ number → Asked app place t call offer before after answer
    → Asked number place t call offer before after answer
asked_as app number place t call offer before after answer same asked =
    subst (λ (k : ℕ). Asked k place t call offer before after answer) same asked

pub same_turn : (host after : Host) (s y : Script) → host ≡ after → s ≡ y → turn_of host s ≡ turn_of after y
same_turn host after s y hosts scripts = ap (λ (h : Host). turn_of h s) hosts ∙ ap (turn_of after) scripts

pub took_few : (app place t : ℕ) (offer : List ℕ) (before after : Host) (answer : Answer)
    → Asked app place t (calls.Send (length offer)) offer before after answer → took answer ≤ length offer
took_few app place t offer before after answer asked =
    let reply : Reply =
    answer_of place (at_flow place (λ (l : Live). with_call l (App app) t (calls.Send (length offer)) offer) before) in
    let tells : took answer ≡ _ =
    took_told answer
    ∙ (ap took (asked.answered ∙ ap (λ (h : Host). told (in_calls.answer_of (answer_of place h))) asked.made)
    ∙ (sym (took_told (in_calls.answer_of reply)) ∙ took_tells reply)) in
    omega (arith, tells, (sent_few (App app) t (length offer) offer place before).few)

pub sends_by : (place t : ℕ) (offer whole : List ℕ) (before after : Host) (s y : Script) (all : ℕ) (answer : Answer)
    → Asked s.number place t (calls.Send (length offer)) offer before after answer
    → y ≡ sent_by answer all s → length whole ≡ all → offer ≡ take most (drop s.done whole)
    → turn_of after y ≡ sends place t whole (turn_of before s)
sends_by place t offer whole before after s y all answer asked goes count is =
    let act : List ℕ → Host = λ bytes. at_flow place
    (λ (l : Live). with_call l (App s.number) t (calls.Send (length bytes)) bytes) before in
    let hosts : after ≡ act (take most (drop s.done whole)) = asked.made ∙ ap act is in
    same_turn after (act (take most (drop s.done whole))) y _ hosts
    (goes
    ∙ (sent_alike answer (in_calls.answer_of (answer_of place after)) all s asked.answered
    ∙ (sent_same (answer_of place after) all s
    ∙ (ap (λ (h : Host). sent_on (answer_of place h) all s) hosts
    ∙ ap (λ (n : ℕ). sent_on (answer_of place (act (take most (drop s.done whole)))) n s) (sym count)))))

pub gave_few : (app place t asks : ℕ) (before after : Host) (answer : Answer)
    → Asked app place t (calls.Recv asks) [] before after answer → gave answer ≤ asks
gave_few app place t asks before after answer asked =
    let reply : Reply =
    answer_of place (at_flow place (λ (l : Live). with_call l (App app) t (calls.Recv asks) []) before) in
    let tells : gave answer ≡ _ =
    gave_told answer
    ∙ (ap gave (asked.answered ∙ ap (λ (h : Host). told (in_calls.answer_of (answer_of place h))) asked.made)
    ∙ (sym (gave_told (in_calls.answer_of reply)) ∙ gave_tells reply)) in
    omega (arith, tells, (got_few (App app) t asks place before).few)

pub asks_some : (all : Option ℕ) (done : ℕ) → IsBelow all done → (1 ≤ asks_for all done) × (asks_for all done ≤ 65536)
asks_some None done below = (omega arith, omega arith)
asks_some (Some all) done below = (omega (arith, below), omega arith)

pub gave_within : (all : Option ℕ) (done count : ℕ) → IsBelow all done → count ≤ asks_for all done
    → IsWithin all (done + count)
gave_within None done count below few = tt
gave_within (Some all) done count below few = omega (arith, below, few)

pub receives_by : (place t : ℕ) (all : Option ℕ) (before after : Host) (s y : Script) (asks : ℕ) (answer : Answer)
    → Asked s.number place t (calls.Recv asks) [] before after answer
    → y ≡ received_by answer all s → asks ≡ asks_for all s.done
    → turn_of after y ≡ receives place t all (turn_of before s)
receives_by place t all before after s y asks answer asked goes is =
    let act : ℕ → Host = λ n. at_flow place (λ (l : Live). with_call l (App s.number) t (calls.Recv n) []) before in
    let hosts : after ≡ act (asks_for all s.done) = asked.made ∙ ap act is in
    same_turn after (act (asks_for all s.done)) y _ hosts
    (goes
    ∙ (received_alike answer (in_calls.answer_of (answer_of place after)) all s asked.answered
    ∙ (received_same (answer_of place after) all s
    ∙ ap (λ (h : Host). received_on (answer_of place h) all s) hosts)))

pub waits_by : (place t : ℕ) (call : Call) (before after : Host) (s y : Script) (answer : Answer)
    → Asked s.number place t call [] before after answer → y ≡ waited_by answer s
    → turn_of after y ≡ waits_for place t call (turn_of before s)
waits_by place t call before after s y answer asked goes =
    let act : Host = at_flow place (λ (l : Live). with_call l (App s.number) t call []) before in
    same_turn after act y _ asked.made
    (goes
    ∙ (waited_alike answer (in_calls.answer_of (answer_of place after)) s asked.answered
    ∙ (waited_same (answer_of place after) s
    ∙ ap (λ (h : Host). if is_not_yet (answer_of place h) then s else stepped s) asked.made)))
