-- A reply is its answer without the number of its bytes, and these.
use Rattle.std.proofs.Common.{◌≡◌, ◌↔◌, ℕ, Bool, List, refl, sym, ap, ◌∙◌}
use Rattle.std.specs.Prelude.{bytes_eq, IsTrue}
use Rattle.std.proofs.lemmas.Slice.Eq.{bytes_eq-Decides}
use Rattle.tas_model.specs.declared.entry.Reply.{Reply}
use Rattle.tas_model.specs.declared.entry.Reply.TheVariants as replies
use Rattle.flow_state.specs.Calls.{answer_of, reply_bytes}
use Rattle.flow_state.specs.declared.call.Answer.{Answer}
use Rattle.flow_state.specs.declared.call.Answer.TheVariants as answers
use Rattle.flow_judge.specs.Making.{bare_of}

-- the reply of an answer with these bytes
abbrev with_bytes : Answer → List ℕ → Reply
with_bytes answers.Ok bytes = replies.Ok
with_bytes answers.Nothing bytes = replies.Nothing
with_bytes (answers.Sent head len) bytes = replies.Sent (record { head = head; bytes = bytes })
with_bytes (answers.Took len) bytes = replies.Took bytes
with_bytes (answers.Got len update) bytes = replies.Got bytes update
with_bytes answers.End bytes = replies.End
with_bytes answers.NotYet bytes = replies.NotYet
with_bytes answers.NotOpen bytes = replies.NotOpen
with_bytes answers.Shut bytes = replies.Shut
with_bytes (answers.Closed reason) bytes = replies.Closed reason
with_bytes answers.Quiet bytes = replies.Quiet
with_bytes answers.Resend bytes = replies.Resend
with_bytes answers.Probe bytes = replies.Probe
with_bytes answers.Expired bytes = replies.Expired
with_bytes answers.TimedOut bytes = replies.TimedOut
with_bytes (answers.Window cwnd ssthresh) bytes = replies.Window cwnd ssthresh

is_whole : (m : Reply) → with_bytes (bare_of (answer_of m)) (reply_bytes m) ≡ m
is_whole replies.Ok = refl
is_whole replies.Nothing = refl
is_whole (replies.Sent seg) = refl
is_whole (replies.Took bytes) = refl
is_whole (replies.Got bytes update) = refl
is_whole replies.End = refl
is_whole replies.NotYet = refl
is_whole replies.NotOpen = refl
is_whole replies.Shut = refl
is_whole (replies.Closed reason) = refl
is_whole replies.Quiet = refl
is_whole replies.Resend = refl
is_whole replies.Probe = refl
is_whole replies.Expired = refl
is_whole replies.TimedOut = refl
is_whole (replies.Window cwnd ssthresh) = refl

-- two replies whose answers agree but for the number of bytes are the same where their bytes are
pub same_reply : (m shown : Reply) (bytes : List ℕ) (same : Bool) → bare_of (answer_of m) ≡ bare_of (answer_of shown)
    → bytes ≡ reply_bytes m → same ≡ bytes_eq bytes (reply_bytes shown) → (IsTrue same ↔ m ≡ shown)
same_reply m shown bytes same bare of_m is = (
  λ yes. sym (is_whole m)
      ∙ ((λ i. with_bytes (bare i) ((sym of_m ∙ (bytes_eq-Decides bytes (reply_bytes shown)).0 (sym is ∙ yes)) i))
      ∙ is_whole shown),
  λ e. is ∙ (bytes_eq-Decides bytes (reply_bytes shown)).1 (of_m ∙ ap reply_bytes e),
)
