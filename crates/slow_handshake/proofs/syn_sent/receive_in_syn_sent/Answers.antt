use Rattle.std.proofs.Common.{◌≡◌, ◌==◌, ◌&&◌, Bool, true, false, cond, nat_le, sym, true≢false, rules, tests}
use Rattle.tas_model.specs.declared.entry.Seg.{Seg}
use Rattle.tas_model.specs.declared.entry.Reply.TheVariants as replies
use Rattle.tas_model.specs.Segments.{Outcome, is_rst, is_ack, is_syn, acks, unchanged}
use Rattle.tas_model.specs.Receive.{place_of_ack, connected, rx_syn_sent}
use Rattle.flow_state.specs.Made.{IsOutcome}
use Rattle.flow_state.specs.Calls.{seg_of}
use Rattle.slow_handshake.proofs.syn_sent.receive_in_syn_sent.Goals as goal

pub returns-clause-made : goal.returns-clause-made
unfolding rx_syn_sent
returns-clause-made c out e v s here =
    let seg : Seg = seg_of c.args.seg.now in
    let ack : is_ack seg ≡ true = search (rules, tests) in
    let asked : (place_of_ack e seg == 1 && nat_le 1 e.tx.max) ≡ true = search (rules, tests) in
    let rst : is_rst seg ≡ false = search (rules, tests) in
    let syn : is_syn seg ≡ true = search (rules, tests) in
    rw (ack, asked, rst) (taken (λ (o : Outcome). IsOutcome c.connect.new.parts c.connect.result out o) (is_syn seg)
    (record { state = connected e seg; reply = acks (connected e seg) }) (unchanged e replies.Nothing) syn
    (c.connect.ensures.made out e v s here))
  where
    taken : (P : Outcome → Type 0) (t : Bool) (x y : Outcome) → t ≡ true → P x → P (cond (t && true) x y)
    taken P true x y is p = p
    taken P false x y is p = absurd (true≢false (sym is))
