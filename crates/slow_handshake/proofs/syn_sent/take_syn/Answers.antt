use Rattle.std.proofs.Common.{◌≡◌, ℕ, ◌+◌, ◌%◌, ◌^◌, Option, refl, sym, ◌∙◌, ap, subst, arith, drop, Bool, cond}
use Rattle.std.proofs.Common.{unwrap_or}
use Rattle.tas_model.specs.declared.entry.Phase.TheVariants as phases
use Rattle.tas_num.specs.declared.seq.Seq.{Seq}
use Rattle.tas_model.specs.Endpoint.{Scaling, next_place, first_rate, agreed_scaling}
use Rattle.tas_model.specs.Valid.{IsUnopened}
use Rattle.tas_model.proofs.ValidCalls.{unopened_peer}
use Rattle.flow_state.specs.Stands.{Stands, IsPeer, acked_bytes}
use Rattle.slow_handshake.proofs.Connecting.{connected_phase}
use Rattle.slow_handshake.proofs.syn_sent.take_syn.Goals as goal

abbrev numbered : ℕ → Seq
numbered n = record { 0 = n }

pub returns-clause-stands : goal.returns-clause-stands
returns-clause-stands c e v s is =
    let none : e.peer ≡ Option.None =
    unopened_peer e.reason e.peer e.tx.una e.tx.shut _ e.rx.ended e.rx.ended_first is in
    let una : e.tx.una ≡ 0 = subst (λ (o : Option ℕ). IsUnopened o e.tx.una) none v.unopened in
    let agreed : Scaling = agreed_scaling e.params.scale c.args.seg.now.scale in
    let b : Stands c.begin_rate.new.self (record e {
      scaling = agreed;
      rate = first_rate e.params c.args.seg.now.mss;
    }) =
    c.begin_rate.ensures.stands (record e { scaling = agreed }) (c.agree_scaling.ensures.stands e s) in
    let kept : acked_bytes e.tx ≡ acked_bytes (record (e.tx) { una = 1 }) = omega (arith, una) in
    let zero : unwrap_or e.peer 0 ≡ 0 = ap (λ (o : Option ℕ). unwrap_or o 0) none in
    let before : c.begin_rate.new.self.rcv.0 ≡ (unwrap_or e.peer 0 + next_place e.rx) % 2 ^ 32 =
    ap (λ (x : Seq). x.0) b.rcv in
    let origin : c.begin_rate.new.self.irs.0 ≡ 0 = subst (IsPeer c.begin_rate.new.self.irs) none b.irs in
    let past : c.minus.result ≡ next_place e.rx % 2 ^ 32 =
    omega (arith, c.minus.ensures.difference, before, origin, zero) in
    record {
      params = b.params;
      phase = c.phase_after_syn-phase.ensures
          ∙ (ap (λ (x : Bool). cond x phases.CloseWait phases.Established) (c.is_ended.ensures e v s)
          ∙ sym (connected_phase e.reason e.peer e.tx.una c.args.seg.now.seq.0 e.tx.shut _ _ e.rx.ended e.rx.ended_first
          is (v.tx.opening una)));
      reason = b.reason;
      iss = b.iss;
      irs = refl;
      una = ap numbered (omega (arith, c.plus-parts-2.ensures, b.iss));
      nxt = ap numbered (omega (arith, c.plus-parts-3.ensures, b.iss, c.nxt_place.ensures e v s));
      max = b.max;
      rcv = ap numbered (omega (arith, c.plus-parts.ensures, past));
      tx = record {
        size = b.tx.size;
        base = b.tx.base ∙ kept;
        bytes = b.tx.bytes
            ∙ ap (λ (n : ℕ). drop n e.tx.out) kept;
      };
      rx = b.rx;
      rings = b.rings;
      island = b.island;
      window = c.offered_window-window.ensures e v s;
      scaling = b.scaling;
      wl1 = refl;
      wl2 = refl;
      dup = b.dup;
      acked = b.acked;
      fast = b.fast;
      timeouts = b.timeouts;
      flight = b.flight;
      cwnd = b.cwnd;
      ssthresh = b.ssthresh;
      tokens = b.tokens;
      depth = b.depth;
      fill = b.fill;
      smss = b.smss;
      age = refl;
      tries = refl;
      probe = b.probe;
      entered = b.entered;
      order = b.order;
    }
