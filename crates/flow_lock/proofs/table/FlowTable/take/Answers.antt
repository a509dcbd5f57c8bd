use Rattle.std.proofs.Common.{◌≡◌, [], ◌∷◌, ◌<◌, ap, sym, ◌∙◌, subst, refl, false, arith}
use Rattle.std.specs.Prelude.{Option, Some, None}
use Rattle.atomic_table.specs.Table.{Me, rest}
use lib.ListN.{get_elem?}
use mathlib.Core.Option as O
use Rattle.tas_model.specs.declared.entry.FlowId.{FlowId}
use Rattle.flow_lock.specs.Words.{word_of, word_at}
use Rattle.flow_lock.specs.Histories.{history_of, Begins}
use Rattle.flow_lock.specs.Orders.{known_of}
use Rattle.flow_lock.specs.Claims.{HasPin}
use Rattle.flow_lock.specs.Steps.{MayAct, IsAlone, counted, taken}
use Rattle.atomic_table.specs.Seated.{TableId}
use Rattle.flow_lock.specs.Passes.{Seen, IsOne}
use Rattle.flow_lock.specs.declared.view.View.{View}
use Rattle.flow_lock.specs.declared.word.Word.{Word}
use Rattle.flow_lock.proofs.Taking.{takes_it, came_out, carries_none, carries_one}
use Rattle.flow_lock.proofs.table.FlowTable.take.Goals as goal

pub fetch_or-requires : goal.fetch_or-requires
fetch_or-requires g c =
    let slots = ap (λ (y : TableId). y.slots) c.self.view_is in
    let inv = c.self.invariant in
    let pin = c.pin.view_is in
    let at = ap (λ (f : FlowId). f.slot) pin in
    let id = c.pin.inside.flow in
    let near : id.slot < c.self.inside.table.shared.table_id.slots = let h = c.requires.slot in omega arith in
    let view = ap (λ (s : Seen). s.view) c.pass.view_is in (
      ap (λ (s : Seen). s.table) c.pass.view_is ∙ (c.requires.pass.0 ∙ sym c.self.view_is),
      omega arith,
      takes_it g.R.Recorded.id (history_of g.R.Recorded.tuple g.R.Recorded.params g.R.Recorded.entries) _ _ id _ near
          (subst (λ (v : View). HasPin v id) (sym view)
          (subst (HasPin c.args.pass.now.view) (sym pin) c.requires.pass.1)) (ap (λ (v : View). v.held) view
          ∙ c.requires.free) (subst MayAct (sym view) c.requires.pass.2),
    )

pub exchange-requires : goal.exchange-requires
exchange-requires g c =
    let id = c.pin.inside.flow in
    let e = c.fetch_or.ensures in
    let idle : (word_of c.fetch_or.result).busy ≡ false = ap (λ (w : Word). w.busy) (sym c.read_word-word.ensures)
    ∙ c.if-word.false in
    let came = e.2.2 idle in (
      e.0 ∙ (ap (λ (s : Seen). s.table) c.pass.view_is ∙ (c.requires.pass.0 ∙ sym c.self.view_is)),
      (Some came.item, came.carries ∙ ap (λ l. (id.slot, Some came.item) ∷ l) (sym (ap rest came.carries))),
    )

pub invariant_of-pass-2 : goal.invariant_of-pass-2
invariant_of-pass-2 g c =
    let pin = c.pin.view_is in
    let id = c.pin.inside.flow in
    let h = history_of g.R.Recorded.tuple g.R.Recorded.params g.R.Recorded.entries in
    let e = c.fetch_or.ensures in
    let idle : (word_of c.fetch_or.result).busy ≡ false = ap (λ (w : Word). w.busy) (sym c.read_word-word.ensures)
    ∙ c.if-word.false in
    let came = e.2.2 idle in
    let x = c.exchange.ensures in
    let view = ap (λ (s : Seen). s.view) c.pass.view_is in
    let inv = c.pass.invariant in
    let none : c.pass.inside.seat.me.1 ≡ [] =
    carries_none c.pass.inside.seat.me inv.0 (ap (λ (v : View). v.held) view ∙ c.requires.free) inv.1 in
    let named : g.R.Recorded.id came.item ≡ id =
    came.told.own id (subst (λ (v : View). HasPin v id) (sym view)
    (subst (HasPin c.args.pass.now.view) (sym pin) c.requires.pass.1)) refl in
    let seen : c.exchange.new.seat.me.0 ≡ taken (g.R.Recorded.id came.item) (h came.item)
    (counted id.slot (word_of c.fetch_or.result) c.pass.inside.seat.me.0) =
    ap (λ (m : Me (Option g.row.R.Denot) View). m.0) x.3 ∙ came.view in
    let parts = ap (λ (v : View). v.parts) seen in
    let out = ap (λ (v : View). v.out) seen ∙ inv.1 in (
      carries_one c.exchange.new.seat.me (record { flow = g.R.Recorded.id came.item; history = h came.item })
          (ap (λ (v : View). v.held) seen) out
          (ap (λ (m : Me (Option g.row.R.Denot) View). m.1) x.3
          ∙ ((λ q. (id.slot, None) ∷ (ap rest came.carries ∙ none) q)
          ∙ ap (λ (f : FlowId). (f.slot, None) ∷ []) (sym named))),
      out,
      (let p = inv.2 in omega arith),
      subst IsOne (sym seen) inv.3,
    )

pub returns-clause-own : goal.returns-clause-own
returns-clause-own g c =
    let pin = c.pin.view_is in
    let id = c.pin.inside.flow in
    let idle : (word_of c.fetch_or.result).busy ≡ false = ap (λ (w : Word). w.busy) (sym c.read_word-word.ensures)
    ∙ c.if-word.false in
    let came = c.fetch_or.ensures.2.2 idle in
    let x = c.exchange.ensures in
    let view = ap (λ (s : Seen). s.view) c.pass.view_is in
    let same : came.item ≡ c.in-Some.item =
    came_out _ _ _ _ _ came.item c.in-Some.item _ came.carries x.2 c.in-Some.is in
    let own : g.R.Recorded.id came.item ≡ id =
    came.told.own id (subst (λ (v : View). HasPin v id) (sym view)
    (subst (HasPin c.args.pass.now.view) (sym pin) c.requires.pass.1)) refl in
    ap g.R.Recorded.id (sym same) ∙ (own ∙ pin)

pub returns-clause-seen : goal.returns-clause-seen
returns-clause-seen g c =
    let pin = c.pin.view_is in
    let id = c.pin.inside.flow in
    let history = history_of g.R.Recorded.tuple g.R.Recorded.params g.R.Recorded.entries in
    let idle : (word_of c.fetch_or.result).busy ≡ false = ap (λ (w : Word). w.busy) (sym c.read_word-word.ensures)
    ∙ c.if-word.false in
    let came = c.fetch_or.ensures.2.2 idle in
    let x = c.exchange.ensures in
    let view = ap (λ (s : Seen). s.view) c.pass.view_is in
    let same : came.item ≡ c.in-Some.item =
    came_out _ _ _ _ _ came.item c.in-Some.item _ came.carries x.2 c.in-Some.is in
    let own : g.R.Recorded.id came.item ≡ id =
    came.told.own id (subst (λ (v : View). HasPin v id) (sym view)
    (subst (HasPin c.args.pass.now.view) (sym pin) c.requires.pass.1)) refl in
    λ k h at of. subst (λ r. Begins h.history (history r)) same
    (came.told.begun k h (subst (λ (v : View). get_elem? v.seen k ≡ O.some h) (sym view) at) (of ∙ sym (own ∙ pin)))

pub returns-clause-taken : goal.returns-clause-taken
returns-clause-taken g c =
    let pin = c.pin.view_is in
    let id = c.pin.inside.flow in
    let history = history_of g.R.Recorded.tuple g.R.Recorded.params g.R.Recorded.entries in
    let idle : (word_of c.fetch_or.result).busy ≡ false = ap (λ (w : Word). w.busy) (sym c.read_word-word.ensures)
    ∙ c.if-word.false in
    let reads = c.fetch_or.ensures.2.0 in
    let came = c.fetch_or.ensures.2.2 idle in
    let x = c.exchange.ensures in
    let view = ap (λ (s : Seen). s.view) c.pass.view_is in
    let same : came.item ≡ c.in-Some.item =
    came_out _ _ _ _ _ came.item c.in-Some.item _ came.carries x.2 c.in-Some.is in
    let own : g.R.Recorded.id came.item ≡ id =
    came.told.own id (subst (λ (v : View). HasPin v id) (sym view)
    (subst (HasPin c.args.pass.now.view) (sym pin) c.requires.pass.1)) refl in (
      word_of c.fetch_or.result,
      idle,
      (λ is. reads.1 (subst IsAlone (sym view) is) ∙ (λ q. word_at (view q).words (pin q).slot)),
      ap (λ (m : Me (Option g.row.R.Denot) View). m.0) x.3
          ∙ (came.view ∙ (λ i. taken ((own ∙ pin) i) (history (same i))
          (counted (pin i).slot (word_of c.fetch_or.result) (view i)))),
    )

pub returns-clause-known : goal.returns-clause-known
returns-clause-known g c =
    let pin = c.pin.view_is in
    let id = c.pin.inside.flow in
    let history = history_of g.R.Recorded.tuple g.R.Recorded.params g.R.Recorded.entries in
    let idle : (word_of c.fetch_or.result).busy ≡ false = ap (λ (w : Word). w.busy) (sym c.read_word-word.ensures)
    ∙ c.if-word.false in
    let came = c.fetch_or.ensures.2.2 idle in
    let x = c.exchange.ensures in
    let view = ap (λ (s : Seen). s.view) c.pass.view_is in
    let same : came.item ≡ c.in-Some.item =
    came_out _ _ _ _ _ came.item c.in-Some.item _ came.carries x.2 c.in-Some.is in
    let own : g.R.Recorded.id came.item ≡ id =
    came.told.own id (subst (λ (v : View). HasPin v id) (sym view)
    (subst (HasPin c.args.pass.now.view) (sym pin) c.requires.pass.1)) refl in
    λ is. ap history (sym same) ∙ (came.told.known (subst IsAlone (sym view) is)
    ∙ (λ q. known_of ((own ∙ pin) q) (view q).base))
