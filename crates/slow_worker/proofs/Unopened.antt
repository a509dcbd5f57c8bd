-- What is left where memory was wanting before a flow could be opened.
use Rattle.std.proofs.Common.{◌≡◌, List, inr, subst, ap, sym, ◌∙◌}
use Rattle.segment_fields.specs.declared.segment.Segment.{Segment}
use Rattle.tas_model.specs.declared.entry.FlowId.{FlowId}
use Rattle.tas_model.specs.declared.entry.FourTuple.{FourTuple}
use Rattle.slow_handshake.specs.Openings.{Openings}
use Rattle.core_worker.specs.Frames.{tuple_of}
use Rattle.core_worker.specs.declared.kicks.Kick.{Kick}
use Rattle.slow_worker.specs.Workers.{Sight, Worker, sight_of}
use Rattle.slow_worker.specs.Opening.{IsTouched, IsUnopened, numbered}
use Rattle.slow_worker.specs.declared.known.KnownFlow.{KnownFlow}

-- A first number was given and the index touched; room was taken in the lists, and nothing else changed.
pub unopened_so : (seg : Segment) (id : FlowId) (t : FourTuple) (s : Sight) (path : Openings) (pins : List FlowId)
    (flows : List KnownFlow) (kicks : List Kick) (n : Sight) → path ≡ numbered s.path → pins ≡ s.pins → flows ≡ s.flows
    → kicks ≡ s.kicks → t ≡ tuple_of seg → IsTouched t id s.index n.index
    → n ≡ record s { path = path; pins = pins; flows = flows; kicks = kicks; index = n.index }
    → IsUnopened seg id s n
unopened_so seg id t s path pins flows kicks n given same_pins same_flows same_kicks is touched whole =
    let after : n ≡ record s { path = numbered s.path; index = n.index } =
    whole ∙ (λ i. record s {
      path = given i;
      pins = same_pins i;
      flows = same_flows i;
      kicks = same_kicks i;
      index = n.index;
    }) in
    let path_is : n.path ≡ numbered s.path = ap (λ (x : Sight). x.path) after in
    record {
      path = inr path_is;
      indexed = subst (λ t. IsTouched t id s.index n.index) is touched;
      after = after ∙ ap (λ p. record s { path = p; index = n.index }) (sym path_is);
    }

-- the same of a worker that is seen so
pub unopened_of : (seg : Segment) (id : FlowId) (t : FourTuple) (seen w : Worker) (path : Openings) (pins : List FlowId)
    (flows : List KnownFlow) (kicks : List Kick) (n : Sight) → seen ≡ w → path ≡ numbered seen.path
    → pins ≡ seen.pins → flows ≡ seen.flows → kicks ≡ seen.kicks → t ≡ tuple_of seg
    → IsTouched t id seen.index n.index
    → n ≡ record (sight_of seen) { path = path; pins = pins; flows = flows; kicks = kicks; index = n.index }
    → IsUnopened seg id (sight_of w) n
unopened_of seg id t seen w path pins flows kicks n view given same_pins same_flows same_kicks is touched whole =
    subst (λ (x : Worker). IsUnopened seg id (sight_of x) n) view
    (unopened_so seg id t (sight_of seen) path pins flows kicks n given same_pins same_flows same_kicks is touched
    whole)
