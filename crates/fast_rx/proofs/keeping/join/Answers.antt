use Rattle.std.proofs.Common.{◌≡◌, ℕ, ◌+◌, ◌-◌, ◌≤◌, ◌<◌, ◌^◌, List, length, min, max, take, drop, Some, sym, ◌∙◌, ap}
use Rattle.std.proofs.Common.{subst, arith, length-drop}
use Rattle.std.proofs.lemmas.List.{take_all}
use Rattle.payload_ring.specs.Window.{Window, end_of, overlaid}
use Rattle.tas_model.specs.Endpoint.{Endpoint}
use Rattle.tas_model.specs.Valid.{IsPastGap, PastGap}
use Rattle.tas_model.specs.Reassembly.{kept_apart}
use Rattle.flow_state.specs.Stands.{Stands}
use Rattle.fast_rx.proofs.Growing.{end_is}
use Rattle.fast_rx.proofs.Islands.{joined_parts, joined_ahead}
use Rattle.fast_rx.proofs.keeping.join.Goals as goal

pub returns-clause-stands : goal.returns-clause-stands
returns-clause-stands c e i v is some first len s =
    let w : Window = c.args.parts.now.rx in
    let at : ℕ = c.args.at in
    let part : List ℕ = c.args.part.now in
    let end : end_of w ≡ length e.rx.got = end_is c.args.parts.now e v.read s in
    let gap : PastGap (length e.rx.got) (e.rx.read + e.params.ring) i =
    subst (IsPastGap (length e.rx.got) (e.rx.read + e.params.ring)) is v.island in
    let stop : i.at + length i.bytes - end_of w < 2 ^ 32 =
    omega (arith, gap.within, s.rx.size, s.rx.base, c.size-size.ensures.window.limit) in
    let last : c.saturating_add-last.result ≡ i.at + length i.bytes - end_of w =
    omega (arith, c.saturating_add-last.ensures, first, len, stop, gap.past, end) in
    let before : c.min-before.result ≡ min (i.at - at) (length part) =
    omega (
      arith,
      c.min-before.ensures,
      c.saturating_sub.ensures,
      c.end.ensures.end,
      first,
      gap.past,
      end,
      c.requires.past,
    ) in
    let behind : c.min-behind.result ≡ min (i.at + length i.bytes - at) (length part) =
    omega (arith, c.min-behind.ensures, c.end.ensures.end, last, gap.past, end, c.requires.past) in
    let one : c.put_at.new.self
    ≡ record w { ahead = overlaid (at - end_of w) (take c.min-before.result part) w.ahead } =
    c.put_at.ensures.ahead (omega (arith, c.requires.past)) in
    let same : end_of c.put_at.new.self ≡ end_of w = ap end_of one in
    let whole : take (length part - c.min-behind.result) (drop c.min-behind.result part)
    ≡ drop c.min-behind.result part =
    take_all (length part - c.min-behind.result) (drop c.min-behind.result part)
    (omega (arith, length-drop c.min-behind.result part)) in
    let two : c.put_at-2.new.self ≡ record
    (c.put_at.new.self) {
      ahead = overlaid (at + c.min-behind.result - end_of c.put_at.new.self)
          (drop c.min-behind.result part) c.put_at.new.self.ahead;
    } =
    c.put_at-2.ensures.ahead (omega (arith, c.requires.past, same))
    ∙ ap (λ (xs : List ℕ). with_ahead c.put_at.new.self
    (overlaid (at + c.min-behind.result - end_of c.put_at.new.self) xs c.put_at.new.self.ahead)) whole in
    let shape : ℕ → ℕ → ℕ → Window = λ b h n. record w { ahead = joined_ahead w.ahead at part n b h } in
    let three : c.put_at-2.new.self ≡ shape c.min-before.result c.min-behind.result (end_of w) =
    two ∙ ap (λ (x : Window).
    record x { ahead = overlaid (at + c.min-behind.result - end_of x) (drop c.min-behind.result part) x.ahead })
    one in
    let all : c.put_at-2.new.self ≡ shape (min (i.at - at) (length part))
    (min (i.at + length i.bytes - at) (length part)) (length e.rx.got) =
    three ∙ (ap (λ (b : ℕ). shape b c.min-behind.result (end_of w)) before
    ∙ (ap (λ (h : ℕ). shape (min (i.at - at) (length part)) h (end_of w)) behind
    ∙ ap (shape (min (i.at - at) (length part)) (min (i.at + length i.bytes - at) (length part))) end)) in
    let start : min (i.at - length e.rx.got) (at - length e.rx.got) ≡ c.min-start.result =
    omega (arith, c.min-start.ensures, c.end.ensures.end, first, end) in
    let most : max (i.at + length i.bytes - length e.rx.got) (at - length e.rx.got + length part) ≡ c.max.result =
    omega (arith, c.max.ensures, c.end.ensures.end, last, end) in
    let room : at + length part ≤ length e.rx.got + length w.ahead =
    omega (arith, c.requires.within, c.size-size.ensures.window.full, end) in
    let touches : at ≤ i.at + length i.bytes =
    omega (arith, c.if-from-last.false, c.end.ensures.end, last, end, gap.past, c.requires.past) in
    let touches' : i.at ≤ at + length part =
    omega (arith, c.if-first-to.false, c.end.ensures.end, first, end, gap.past, c.requires.past) in
    let to : Endpoint = record e { rx = record (e.rx) { island = kept_apart (Some i) at part } } in
    subst (λ (x : Window). Stands (record (c.args.parts.now) {
      rx = x;
      island = Some (c.min-start.result, c.max.result - c.min-start.result);
    }) to) (sym all)
    (subst (λ (n : ℕ).
    Stands (record (c.args.parts.now) {
      rx = shape (min (i.at - at) (length part))
          (min (i.at + length i.bytes - at) (length part)) (length e.rx.got);
      island =
          Some (c.min-start.result, n - c.min-start.result);
    }) to) most
    (subst (λ (n : ℕ).
    Stands (record (c.args.parts.now) {
      rx = shape (min (i.at - at) (length part))
          (min (i.at + length i.bytes - at) (length part)) (length e.rx.got);
      island =
          Some (n, max (i.at + length i.bytes - length e.rx.got) (at - length e.rx.got + length part) - n);
    }) to) start
    (joined_parts c.args.parts.now e i at part v is s (omega (arith, c.requires.past, end)) room touches touches')))
  where
    with_ahead : Window → List ℕ → Window
    with_ahead x ahead = record x { ahead = ahead }
