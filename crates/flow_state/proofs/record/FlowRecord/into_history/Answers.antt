use Rattle.std.proofs.Common.{◌≡◌, ◌∙◌, ap, sym, subst, length}
use Rattle.tas_model.specs.Endpoint.{phase}
use Rattle.tas_model.specs.LegalHistory.{Legal, replay}
use Rattle.tas_model.specs.Outputs.{bytes_read}
use Rattle.flow_state.specs.Arena.{Memory, memory_of}
use Rattle.flow_state.specs.Flow.{Flow, History, left_of}
use Rattle.flow_state.specs.Stretches.{AllStand, entries_of}
use Rattle.flow_state.proofs.Leaving.{read_counted, memory_kept}
use Rattle.flow_state.proofs.record.FlowRecord.into_history.Goals as goal

pub invariant_of-result : goal.invariant_of-result
invariant_of-result c =
    let r = c.self.inside in
    let known = c.self.invariant in
    let bytes = c.into_lists-bytes.result.0.items in
    let came = c.into_lists-bytes.result.1.items in
    let kept = sym (memory_kept r.arena.memory bytes came c.into_lists-bytes.ensures.bytes
    c.into_lists-bytes.ensures.came) in
    let p = r.parts.params in
    let xs = r.stretches.items in
    record {
      fits = known.fits;
      legal = subst (λ (m : Memory). Legal p (entries_of m xs)) kept known.legal;
      within = subst (λ (m : Memory). AllStand m xs) kept known.within;
      phase = subst (λ (m : Memory). r.parts.phase ≡ phase (replay p (entries_of m xs))) kept known.stands.phase;
      reason = subst (λ (m : Memory). r.parts.reason ≡ (replay p (entries_of m xs)).reason) kept known.stands.reason;
      made = subst (λ (m : Memory). r.made ≡ length (entries_of m xs)) kept known.made;
      read = subst (λ (m : Memory). c.base.result ≡ length (bytes_read (entries_of m xs))) kept
          (c.base.ensures.base ∙ known.stands.rx.base
          ∙ read_counted p (entries_of r.arena.memory xs) known.fits known.legal);
    }

pub returns : goal.returns
returns c =
    let r = c.self.inside in
    let bytes = c.into_lists-bytes.result.0.items in
    let came = c.into_lists-bytes.result.1.items in
    let same = memory_kept r.arena.memory bytes came c.into_lists-bytes.ensures.bytes c.into_lists-bytes.ensures.came in
    let history : Memory → History = λ m. record {
      id = r.id;
      tuple = r.parts.tuple;
      params = r.parts.params;
      entries = entries_of m r.stretches.items;
    } in
    subst (λ (f : Flow). history (memory_of bytes came) ≡ left_of f) c.self.view_is (ap history same)
