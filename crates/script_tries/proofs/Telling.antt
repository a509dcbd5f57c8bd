-- A script goes on by the number of a reply's bytes, and not by these: for the law answers_tell_replies.
use Rattle.std.proofs.Common.{◌≡◌, ℕ, ◌+◌, ◌≤◌, ◌==◌, List, length, Option, Some, None, refl, sym, ap, ◌∙◌}
use Rattle.std.proofs.lemmas.List.{length-take-le}
use Rattle.tas_model.specs.declared.entry.Reply.{Reply}
use Rattle.tas_model.specs.declared.entry.Reply.TheVariants as replies
use Rattle.flow_state.specs.Calls.{answer_of, reply_of, answer_len}
use Rattle.flow_state.specs.declared.call.Answer.{Answer}
use Rattle.flow_state.specs.declared.call.Answer.TheVariants as answers
use Rattle.scenario_text.specs.declared.scenario.Step.{Step}
use Rattle.scenario_text.specs.declared.scenario.Step.TheVariants as steps
use Rattle.scenario_runs.specs.Applications.{Script, stepped, done_or, sent_on, received_on}
use Rattle.script_tries.specs.Answers.{looked_at, Tells}
use Rattle.script_tries.specs.Steps.{by_reply}

-- ----- by what a script looks at
sent_by : Answer → (all : ℕ) → Script → Script
sent_by (answers.Took len) all s = done_or (s.done + len == all) (s.done + len) s
sent_by answers.NotYet all s = s
sent_by _ all s = stepped s

received_by : Answer → (all : Option ℕ) → Script → Script
received_by (answers.Got len update) None s = s
received_by (answers.Got len update) (Some all) s = done_or (s.done + len == all) (s.done + len) s
received_by answers.NotYet all s = s
received_by _ all s = stepped s

sent_as : (reply : Reply) (all : ℕ) (s : Script) → sent_on reply all s ≡ sent_by (looked_at (answer_of reply)) all s
unfolding sent_by
sent_as replies.Ok all s = refl
sent_as replies.Nothing all s = refl
sent_as (replies.Sent seg) all s = refl
sent_as (replies.Took bytes) all s = refl
sent_as (replies.Got bytes update) all s = refl
sent_as replies.End all s = refl
sent_as replies.NotYet all s = refl
sent_as replies.NotOpen all s = refl
sent_as replies.Shut all s = refl
sent_as (replies.Closed reason) all s = refl
sent_as replies.Quiet all s = refl
sent_as replies.Resend all s = refl
sent_as replies.Probe all s = refl
sent_as replies.Expired all s = refl
sent_as replies.TimedOut all s = refl
sent_as (replies.Window cwnd ssthresh) all s = refl

received_as : (reply : Reply) (all : Option ℕ) (s : Script)
    → received_on reply all s ≡ received_by (looked_at (answer_of reply)) all s
unfolding received_by
received_as replies.Ok all s = refl
received_as replies.Nothing all s = refl
received_as (replies.Sent seg) all s = refl
received_as (replies.Took bytes) all s = refl
received_as (replies.Got bytes update) None s = refl
received_as (replies.Got bytes update) (Some all) s = refl
received_as replies.End all s = refl
received_as replies.NotYet all s = refl
received_as replies.NotOpen all s = refl
received_as replies.Shut all s = refl
received_as (replies.Closed reason) all s = refl
received_as replies.Quiet all s = refl
received_as replies.Resend all s = refl
received_as replies.Probe all s = refl
received_as replies.Expired all s = refl
received_as replies.TimedOut all s = refl
received_as (replies.Window cwnd ssthresh) all s = refl

pub told_alike : (step : Step) (r q : Reply) (s : Script) → Tells (answer_of r) q
    → by_reply step r s ≡ by_reply step q s
told_alike step r q s tells = by_step step where
  sent : (all : ℕ) → sent_on r all s ≡ sent_on q all s
  sent all = sent_as r all s ∙ (ap (λ (a : Answer). sent_by a all s) tells ∙ sym (sent_as q all s))

  received : (all : Option ℕ) → received_on r all s ≡ received_on q all s
  received all = received_as r all s ∙ (ap (λ (a : Answer). received_by a all s) tells ∙ sym (received_as q all s))

  by_step : (x : Step) → by_reply x r s ≡ by_reply x q s
  by_step (steps.Send socket text) = sent (length text)
  by_step (steps.Fill socket count) = sent _
  by_step (steps.Recv socket count) = received (Some count)
  by_step (steps.Drain socket) = received None
  by_step (steps.Shut socket) = refl
  by_step (steps.Close socket) = refl
  by_step (steps.Abort socket) = refl
  by_step (steps.Listen name port) = refl
  by_step (steps.Accept socket listener) = refl
  by_step (steps.Connect socket host port) = refl
  by_step (steps.Wait ticks) = refl

-- ----- by an answer, whose bytes stand first in a buffer
read_back : (a : Answer) (out : List ℕ) → answer_len a ≤ length out → answer_of (reply_of a out) ≡ a
read_back answers.Ok out room = refl
read_back answers.Nothing out room = refl
read_back (answers.Sent head len) out room = ap (answers.Sent head) (length-take-le len out room)
read_back (answers.Took len) out room = ap answers.Took (length-take-le len out room)
read_back (answers.Got len update) out room = ap (λ k. answers.Got k update) (length-take-le len out room)
read_back answers.End out room = refl
read_back answers.NotYet out room = refl
read_back answers.NotOpen out room = refl
read_back answers.Shut out room = refl
read_back (answers.Closed reason) out room = refl
read_back answers.Quiet out room = refl
read_back answers.Resend out room = refl
read_back answers.Probe out room = refl
read_back answers.Expired out room = refl
read_back answers.TimedOut out room = refl
read_back (answers.Window cwnd ssthresh) out room = refl

pub told_by : (step : Step) (a : Answer) (out : List ℕ) (reply : Reply) (s : Script) → answer_len a ≤ length out
    → Tells a reply → by_reply step (reply_of a out) s ≡ by_reply step reply s
told_by step a out reply s room tells =
    told_alike step (reply_of a out) reply s (ap looked_at (read_back a out room) ∙ tells)
