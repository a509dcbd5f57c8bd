-- A frame, from its packet to its answer.
use Rattle.std.proofs.Common.{◌≡◌, ap, sym, ◌∙◌, subst, ℕ, List, [], ◌∷◌, ◌++◌}
use Rattle.std.specs.Prelude.{Option, Some, None, Result, Ok, Err, IfOk, OnErr}
use Rattle.segment_fields.specs.declared.segment.Segment.{Segment}
use Rattle.segment_fields.specs.declared.segment.Refused.{Refused}
use Rattle.segment_fields.specs.Refusals.{number_of}
use Rattle.segment_fields.specs.Text.{IsText, refusal}
use Rattle.tas_model.specs.declared.entry.FlowId.{FlowId}
use Rattle.tas_model.specs.declared.entry.FourTuple.{FourTuple}
use Rattle.tas_model.specs.declared.entry.FrameId.{FrameId}
use Rattle.host_rounds.specs.declared.log.LogLine.{LogLine}
use Rattle.flow_index.specs.Changes.{Begins, found_after}
use Rattle.flow_index.specs.declared.change.Change.{Change}
use Rattle.flow_lock.specs.Passes.{Seen}
use Rattle.core_worker.specs.Frames.{tuple_of, named_in}
use Rattle.core_worker.specs.Workers.{Sight, sight}
use Rattle.core_worker.specs.Handling.{Setting, refused_line, IsReceivedAt, IsUnreceivedAt, IsHandledBy, IsHandled}
use Rattle.core_worker.specs.Handling.{IsUnhandledBy, IsUnhandled}
use Rattle.core_worker.specs.declared.frames.Handled.{Handled}
use Rattle.core_worker.specs.declared.senders.AppSender.{AppSender}
use Rattle.core_worker.specs.declared.frames.Handled.TheVariants as handled

-- ----- a packet that breaks a rule of reading
pub refused_so : {E : Type 0} (at : Setting) (frame : FrameId) (packet : List ℕ) (r : Refused) (pass : Seen)
    (known : List Change) (log after : List LogLine) (senders : List AppSender) (x : Result Handled E)
    → refusal at.check_sums packet ≡ Some r
    → IfOk x (λ h. h ≡ handled.Refused (number_of r)) → IfOk x (λ _. after ≡ log ++ refused_line at.tick frame r ∷ [])
    → IfOk x (IsHandled at frame packet (sight pass known log senders) (sight pass known after senders))
refused_so at frame packet r pass known log after senders (Ok h) e answer line =
    subst (λ o. IsHandledBy o at frame packet (sight pass known log senders) (sight pass known after senders) h) (sym e)
    (answer, ap (λ l. sight pass known l senders) line)
refused_so at frame packet r pass known log after senders (Err x) e answer line = tt

pub refused_not : {E : Type 0} (at : Setting) (packet : List ℕ) (r : Refused) (pass : Seen) (known : List Change)
    (log after : List LogLine) (senders : List AppSender) (x : Result Handled E) → refusal at.check_sums packet ≡ Some r
    → OnErr x (after ≡ log)
    → OnErr x (IsUnhandled at packet (sight pass known log senders) (sight pass known after senders))
refused_not at packet r pass known log after senders (Ok h) e same = tt
refused_not at packet r pass known log after senders (Err x) e same =
    subst (λ o. IsUnhandledBy o at packet (sight pass known log senders) (sight pass known after senders)) (sym e)
    (ap (λ l. sight pass known l senders) same)

-- ----- a packet that spells a segment
-- the flow that was found is the one that the index names for the segment's four-tuple
pub named_so : (slots : ℕ) (known : List Change) (t u : FourTuple) (o r : Option FlowId) → r ≡ o
    → r ≡ named_in slots (found_after t known) → t ≡ u → o ≡ named_in slots (found_after u known)
named_so slots known t u o r is named same = sym is ∙ (named ∙ ap (λ x. named_in slots (found_after x known)) same)

-- what was read, asked and left
pub record Reads (at : Setting) (packet : List ℕ) (seg : Segment) (o : Option FlowId) (s n : Sight) : Type 0 where
  pub accepted : refusal at.check_sums packet ≡ None
  pub text : IsText packet seg
  pub later : Begins s.known n.known
  pub named : o ≡ named_in at.slots (found_after (tuple_of seg) n.known)
  pub table : n.pass.table ≡ s.pass.table
  pub log : n.log ≡ s.log

pub read_so : (at : Setting) (frame : FrameId) (packet : List ℕ) (seg : Segment) (o : Option FlowId) (s n : Sight)
    (h : Handled) → Reads at packet seg o s n → IsReceivedAt at frame seg o s n h
    → IsHandled at frame packet s n h
read_so at frame packet seg o s n h r is =
    subst (λ p. IsHandledBy p at frame packet s n h) (sym r.accepted) (record {
      seg = seg;
      text = r.text;
      later = r.later;
      received = subst (λ p. IsReceivedAt at frame seg p s n h) r.named is;
      table = r.table;
      log = r.log;
    })

pub read_all : {E : Type 0} (at : Setting) (frame : FrameId) (packet : List ℕ) (seg : Segment) (o : Option FlowId)
    (s n : Sight) (x : Result Handled E) → Reads at packet seg o s n
    → IfOk x (IsReceivedAt at frame seg o s n) → IfOk x (IsHandled at frame packet s n)
read_all at frame packet seg o s n (Ok h) r is = read_so at frame packet seg o s n h r is
read_all at frame packet seg o s n (Err x) r is = tt

pub read_not : {E : Type 0} (at : Setting) (packet : List ℕ) (seg : Segment) (o : Option FlowId) (s n : Sight)
    (x : Result Handled E) → Reads at packet seg o s n → OnErr x (IsUnreceivedAt o s n)
    → OnErr x (IsUnhandled at packet s n)
read_not at packet seg o s n (Ok h) r is = tt
read_not at packet seg o s n (Err x) r is =
    subst (λ p. IsUnhandledBy p at packet s n) (sym r.accepted) (record {
      seg = seg;
      text = r.text;
      later = r.later;
      received = subst (λ p. IsUnreceivedAt p s n) r.named is;
      table = r.table;
      log = r.log;
    })

pub both_err : {A E : Type 0} (P Q : Type 0) (x : Result A E) → OnErr x P → OnErr x Q → OnErr x (P × Q)
both_err P Q (Ok a) p q = tt
both_err P Q (Err e) p q = (p, q)
