use Rattle.std.proofs.Common.{◌≡◌, ℕ, ◌+◌, ◌-◌, ◌≤◌, Bool, true, false, leb, eqb, ◌&&◌, length, refl, sym, ◌∙◌, ap}
use Rattle.std.proofs.Common.{subst, arith, length-drop}
use Rattle.tas_model.specs.declared.entry.Seg.{Seg}
use Rattle.tas_model.specs.Endpoint.{Endpoint, Receiving}
use Rattle.tas_model.specs.Reassembly.{with_data}
use Rattle.tas_model.specs.Receive.{takes_fin}
use Rattle.tas_model.specs.Segments.{is_fin}
use Rattle.tas_model.proofs.ValidSteps.{data_keeps}
use Rattle.flow_state.specs.Stands.{Stands}
use Rattle.flow_state.specs.Calls.{seg_of}
use Rattle.fast_rx.proofs.Growing.{end_is}
use Rattle.fast_rx.proofs.Taking.{ended_same, test_is, with_fin_is, without_fin_is, data_same}
use Rattle.fast_rx.proofs.receiving.take_rest.Goals as goal

pub returns-then-ended-clause-stands : goal.returns-then-ended-clause-stands
returns-then-ended-clause-stands c e v is s =
    subst (λ (x : Endpoint). Stands c.args.parts.now x)
    (sym (ended_same e c.args.tick c.args.window c.args.q (seg_of c.args.seg.now) (sym is ∙ c.if-ended.true))) s

pub returns-then-follows-clause-stands : goal.returns-then-follows-clause-stands
returns-then-follows-clause-stands c e v is s =
    let seg : Seg = seg_of c.args.seg.now in
    let going : e.rx.ended ≡ false = sym is ∙ c.if-ended.false in
    let rx : Receiving = with_data e.rx c.args.window c.args.q seg.bytes in
    let one : Stands c.take_data.new.parts (record e { rx = rx }) = c.take_data.ensures.stands e v going s in
    let small : c.args.window ≤ e.params.ring - (length e.rx.got - e.rx.read) =
    omega (arith, c.requires.room, s.rx.size, ap (length {A = ℕ}) s.rx.bytes, length-drop e.rx.read e.rx.got) in
    let next : c.end-2.result ≡ length rx.got = c.end-2.ensures.end
    ∙ end_is c.take_data.new.parts (record e { rx = rx })
    (data_keeps e.params.ring e.rx c.args.window c.args.q seg.bytes small v).read one in
    let limit : c.end.result ≡ length e.rx.got = c.end.ensures.end ∙ end_is c.args.parts.now e v.read s in
    let test : c.follows.result ≡ takes_fin e.rx rx c.args.window c.args.q (length seg.bytes) (is_fin seg) =
    c.follows.ensures
    ∙ (ap (λ (b : Bool). b && leb (c.args.q + length seg.bytes) (c.end.result + 1 + c.from.result)
    && eqb (c.args.q + length seg.bytes) (c.end-2.result + 1)) c.is_fin.ensures
    ∙ test_is e c.args.window c.args.q seg (c.args.q + length seg.bytes) (c.end.result + 1 + c.from.result)
    (c.end-2.result + 1) going refl (omega (arith, limit, c.from.ensures)) (omega (arith, next))) in
    let taken : takes_fin e.rx rx c.args.window c.args.q (length seg.bytes) (is_fin seg) ≡ true = sym test
    ∙ c.if-follows.true in
    subst (λ (x : Endpoint). Stands c.take_fin.new.parts x)
    (sym (with_fin_is e c.args.tick c.args.window c.args.q seg taken))
    (c.take_fin.ensures.stands (record e { rx = rx }) ((data_same e.rx c.args.window c.args.q seg.bytes).0 ∙ going) one)

pub returns-else-follows-clause-stands : goal.returns-else-follows-clause-stands
returns-else-follows-clause-stands c e v is s =
    let seg : Seg = seg_of c.args.seg.now in
    let going : e.rx.ended ≡ false = sym is ∙ c.if-ended.false in
    let rx : Receiving = with_data e.rx c.args.window c.args.q seg.bytes in
    let one : Stands c.take_data.new.parts (record e { rx = rx }) = c.take_data.ensures.stands e v going s in
    let small : c.args.window ≤ e.params.ring - (length e.rx.got - e.rx.read) =
    omega (arith, c.requires.room, s.rx.size, ap (length {A = ℕ}) s.rx.bytes, length-drop e.rx.read e.rx.got) in
    let next : c.end-2.result ≡ length rx.got = c.end-2.ensures.end
    ∙ end_is c.take_data.new.parts (record e { rx = rx })
    (data_keeps e.params.ring e.rx c.args.window c.args.q seg.bytes small v).read one in
    let limit : c.end.result ≡ length e.rx.got = c.end.ensures.end ∙ end_is c.args.parts.now e v.read s in
    let test : c.follows.result ≡ takes_fin e.rx rx c.args.window c.args.q (length seg.bytes) (is_fin seg) =
    c.follows.ensures
    ∙ (ap (λ (b : Bool). b && leb (c.args.q + length seg.bytes) (c.end.result + 1 + c.from.result)
    && eqb (c.args.q + length seg.bytes) (c.end-2.result + 1)) c.is_fin.ensures
    ∙ test_is e c.args.window c.args.q seg (c.args.q + length seg.bytes) (c.end.result + 1 + c.from.result)
    (c.end-2.result + 1) going refl (omega (arith, limit, c.from.ensures)) (omega (arith, next))) in
    let left : takes_fin e.rx rx c.args.window c.args.q (length seg.bytes) (is_fin seg) ≡ false = sym test
    ∙ c.if-follows.false in
    subst (λ (x : Endpoint). Stands c.take_data.new.parts x)
    (sym (without_fin_is e c.args.tick c.args.window c.args.q seg left)) one
