use Rattle.std.proofs.Common.{◌≡◌, ◌∷◌, set, ◌<◌, ap, sym, ◌∙◌, subst, refl, true, false, arith}
use Rattle.std.specs.Prelude.{Option, Some, None}
use Rattle.atomic_table.specs.Table.{Me, rest}
use Rattle.atomic_table.proofs.Lists.{set_here}
use lib.ListN.{get_elem?}
use mathlib.Core.Option as O
use Rattle.tas_model.specs.declared.entry.FlowId.{FlowId}
use Rattle.flow_lock.specs.Words.{code, word_of, word_at, sole_word}
use Rattle.flow_lock.specs.Histories.{history_of, Begins}
use Rattle.flow_lock.specs.Orders.{known_of}
use Rattle.flow_lock.specs.Claims.{HasPin, holds_on}
use Rattle.flow_lock.specs.Steps.{MayAct, IsAlone, mark, freed, restored, counted}
use Rattle.flow_lock.specs.Plays.{Left}
use Rattle.atomic_table.specs.Seated.{TableId}
use Rattle.flow_lock.specs.Passes.{Seen}
use Rattle.flow_lock.specs.declared.view.View.{View}
use Rattle.flow_lock.specs.declared.word.Word.{Word}
use Rattle.flow_lock.proofs.Sums.{at_below}
use Rattle.flow_lock.proofs.Words.{reads_back}
use Rattle.flow_lock.proofs.Freeing.{inspects_it, frees_it}
use Rattle.flow_lock.proofs.Opening.{restores_it}
use Rattle.flow_lock.proofs.Taking.{came_out}
use Rattle.flow_lock.proofs.table.FlowTable.free_word.Goals as goal

pub load-old-requires : goal.load-old-requires
load-old-requires g c =
    let slots = ap (λ (y : TableId). y.slots) c.self.view_is in
    let inv = c.self.invariant in
    let pin = c.pin.view_is in
    let at = ap (λ (f : FlowId). f.slot) pin in
    let id = c.pin.inside.flow in
    let near : id.slot < c.self.inside.table.shared.table_id.slots = let h = c.requires.slot in omega arith in
    let view = ap (λ (s : Seen). s.view) c.pass.view_is in (
      ap (λ (s : Seen). s.table) c.pass.view_is ∙ (c.requires.pass.0 ∙ sym c.self.view_is),
      omega arith,
      inspects_it g.R.Recorded.id _ _ _ id.slot _ near (ap (λ (v : View). v.slow) view ∙ c.requires.pass.3),
    )

pub compare_exchange-found-requires : goal.compare_exchange-found-requires
compare_exchange-found-requires g c =
    let slots = ap (λ (y : TableId). y.slots) c.self.view_is in
    let inv = c.self.invariant in
    let pin = c.pin.view_is in
    let at = ap (λ (f : FlowId). f.slot) pin in
    let id = c.pin.inside.flow in
    let near : id.slot < c.self.inside.table.shared.table_id.slots = let h = c.requires.slot in omega arith in
    let view = ap (λ (s : Seen). s.view) c.pass.view_is in
    let M : Type 0 = Me (Option g.row.R.Denot) View in
    let home = ap (λ (s : Seen). s.table) c.pass.view_is ∙ (c.requires.pass.0 ∙ sym c.self.view_is) in
    let has = subst (λ (v : View). HasPin v id) (sym view)
    (subst (HasPin c.args.pass.now.view) (sym pin) c.requires.pass.1) in
    let idle : holds_on id.slot c.pass.inside.seat.me.0 ≡ 0 = (λ q. holds_on (at q) (view q)) ∙ c.requires.idle in
    let doomed : get_elem? c.pass.inside.seat.me.0.marks id.slot ≡ O.some (mark id.generation true true) =
    (λ q. get_elem? (view q).marks (at q))
    ∙ (c.requires.doomed ∙ (λ q. O.some (mark (sym pin q).generation true true))) in
    let l = c.load-old.ensures in
    let seen = ap (λ (m : M). m.0) l.2.0.2 in
    let pins : (word_of c.load-old.result).pins ≡ 1 = ap (λ (w : Word). w.pins) (sym c.read_word-pins.ensures)
    ∙ c.if-pins-ne-SOLE.false in
    let old = l.2.1 id has refl doomed idle pins in (
      l.0 ∙ home,
      omega arith,
      frees_it g.R.Recorded.id (history_of g.R.Recorded.tuple g.R.Recorded.params g.R.Recorded.entries) _ _
          c.load-old.result _ id c.load-old.new.seat.me near (ap (λ (v : View). v.slow) seen
          ∙ (ap (λ (v : View). v.slow) view ∙ c.requires.pass.3)) (subst (λ (v : View). HasPin v id) (sym seen) has)
          (ap (λ (v : View). holds_on id.slot v) seen ∙ idle) (ap (λ (v : View). v.out) seen
          ∙ c.pass.invariant.1) (ap (λ (v : View). get_elem? v.marks id.slot) seen ∙ doomed)
          (subst MayAct (sym (seen ∙ ap (counted id.slot (word_of c.load-old.result)) view)) c.requires.pass.2) old
          c.write_word-dead.ensures,
    )

pub exchange-requires : goal.exchange-requires
exchange-requires g c =
    let slots = ap (λ (y : TableId). y.slots) c.self.view_is in
    let inv = c.self.invariant in
    let pin = c.pin.view_is in
    let at = ap (λ (f : FlowId). f.slot) pin in
    let id = c.pin.inside.flow in
    let history = history_of g.R.Recorded.tuple g.R.Recorded.params g.R.Recorded.entries in
    let near : id.slot < c.self.inside.table.shared.table_id.slots = let h = c.requires.slot in omega arith in
    let view = ap (λ (s : Seen). s.view) c.pass.view_is in
    let M : Type 0 = Me (Option g.row.R.Denot) View in
    let home = ap (λ (s : Seen). s.table) c.pass.view_is ∙ (c.requires.pass.0 ∙ sym c.self.view_is) in
    let has = subst (λ (v : View). HasPin v id) (sym view)
    (subst (HasPin c.args.pass.now.view) (sym pin) c.requires.pass.1) in
    let idle : holds_on id.slot c.pass.inside.seat.me.0 ≡ 0 = (λ q. holds_on (at q) (view q)) ∙ c.requires.idle in
    let doomed : get_elem? c.pass.inside.seat.me.0.marks id.slot ≡ O.some (mark id.generation true true) =
    (λ q. get_elem? (view q).marks (at q))
    ∙ (c.requires.doomed ∙ (λ q. O.some (mark (sym pin q).generation true true))) in
    let l = c.load-old.ensures in
    let seen = ap (λ (m : M). m.0) l.2.0.2 in
    let pins : (word_of c.load-old.result).pins ≡ 1 = ap (λ (w : Word). w.pins) (sym c.read_word-pins.ensures)
    ∙ c.if-pins-ne-SOLE.false in
    let old = l.2.1 id has refl doomed idle pins in
    let x = c.compare_exchange-found.ensures in
    let left : Left g.R.Recorded.id history _ c.load-old.new.seat.me c.compare_exchange-found.result
    c.compare_exchange-found.new.seat.me = x.2.1 c.if-found-old.false in
    let has1 = subst (λ (v : View). HasPin v id) (sym seen) has in
    let own : g.R.Recorded.id left.item ≡ id = left.told.own id has1 refl in (
      x.0 ∙ (l.0 ∙ home),
      (
        Some left.item,
        left.carries
            ∙ ap (λ r. (id.slot, Some left.item) ∷ r) (sym (ap rest left.carries)),
      ),
    )

pub load-requires : goal.load-requires
load-requires g c =
    let slots = ap (λ (y : TableId). y.slots) c.self.view_is in
    let inv = c.self.invariant in
    let pin = c.pin.view_is in
    let at = ap (λ (f : FlowId). f.slot) pin in
    let id = c.pin.inside.flow in
    let history = history_of g.R.Recorded.tuple g.R.Recorded.params g.R.Recorded.entries in
    let near : id.slot < c.self.inside.table.shared.table_id.slots = let h = c.requires.slot in omega arith in
    let view = ap (λ (s : Seen). s.view) c.pass.view_is in
    let M : Type 0 = Me (Option g.row.R.Denot) View in
    let home = ap (λ (s : Seen). s.table) c.pass.view_is ∙ (c.requires.pass.0 ∙ sym c.self.view_is) in
    let has = subst (λ (v : View). HasPin v id) (sym view)
    (subst (HasPin c.args.pass.now.view) (sym pin) c.requires.pass.1) in
    let idle : holds_on id.slot c.pass.inside.seat.me.0 ≡ 0 = (λ q. holds_on (at q) (view q)) ∙ c.requires.idle in
    let doomed : get_elem? c.pass.inside.seat.me.0.marks id.slot ≡ O.some (mark id.generation true true) =
    (λ q. get_elem? (view q).marks (at q))
    ∙ (c.requires.doomed ∙ (λ q. O.some (mark (sym pin q).generation true true))) in
    let l = c.load-old.ensures in
    let seen = ap (λ (m : M). m.0) l.2.0.2 in
    let pins : (word_of c.load-old.result).pins ≡ 1 = ap (λ (w : Word). w.pins) (sym c.read_word-pins.ensures)
    ∙ c.if-pins-ne-SOLE.false in
    let old = l.2.1 id has refl doomed idle pins in
    let x = c.compare_exchange-found.ensures in
    let left : Left g.R.Recorded.id history _ c.load-old.new.seat.me c.compare_exchange-found.result
    c.compare_exchange-found.new.seat.me = x.2.1 c.if-found-old.false in
    let has1 = subst (λ (v : View). HasPin v id) (sym seen) has in
    let own : g.R.Recorded.id left.item ≡ id = left.told.own id has1 refl in
    let e = c.exchange.ensures in
    let me : c.exchange.new.seat.me.0 ≡ freed id
    (counted id.slot (word_of c.compare_exchange-found.result) c.load-old.new.seat.me.0) =
    ap (λ (m : M). m.0) e.3
    ∙ (left.view ∙ (λ q. freed (own q)
    (counted id.slot (word_of c.compare_exchange-found.result) c.load-old.new.seat.me.0))) in
    let out : c.exchange.new.seat.me.1 ≡ (id.slot, None) ∷ rest c.compare_exchange-found.new.seat.me.1 =
    ap (λ (m : M). m.1) e.3 in
    let marks : c.exchange.new.seat.me.0.marks ≡ set c.pass.inside.seat.me.0.marks id.slot
    (mark id.generation false false) = ap (λ (v : View). v.marks) me
    ∙ ap (λ (v : View). set v.marks id.slot (mark id.generation false false)) seen in
    let near_mark = at_below c.pass.inside.seat.me.0.marks id.slot (mark id.generation true true) doomed in (
      e.0 ∙ (x.0 ∙ (l.0 ∙ home)),
      omega arith,
      restores_it g.R.Recorded.id history _ _ id.slot id.generation c.exchange.new.seat.me near
          (ap (λ (v : View). v.slow) me ∙ (ap (λ (v : View). v.slow) seen
          ∙ (ap (λ (v : View). v.slow) view ∙ c.requires.pass.3)))
          (ap (λ (v : View). v.out) me) (ap (λ l. get_elem? l id.slot) marks
          ∙ set_here c.pass.inside.seat.me.0.marks id.slot (mark id.generation false false) near_mark)
          (out ∙ ap (λ r. (id.slot, None) ∷ r) (sym (ap rest out))),
    )

pub returns-clause-own : goal.returns-clause-own
returns-clause-own g c =
    let slots = ap (λ (y : TableId). y.slots) c.self.view_is in
    let inv = c.self.invariant in
    let pin = c.pin.view_is in
    let at = ap (λ (f : FlowId). f.slot) pin in
    let id = c.pin.inside.flow in
    let history = history_of g.R.Recorded.tuple g.R.Recorded.params g.R.Recorded.entries in
    let near : id.slot < c.self.inside.table.shared.table_id.slots = let h = c.requires.slot in omega arith in
    let view = ap (λ (s : Seen). s.view) c.pass.view_is in
    let M : Type 0 = Me (Option g.row.R.Denot) View in
    let home = ap (λ (s : Seen). s.table) c.pass.view_is ∙ (c.requires.pass.0 ∙ sym c.self.view_is) in
    let has = subst (λ (v : View). HasPin v id) (sym view)
    (subst (HasPin c.args.pass.now.view) (sym pin) c.requires.pass.1) in
    let idle : holds_on id.slot c.pass.inside.seat.me.0 ≡ 0 = (λ q. holds_on (at q) (view q)) ∙ c.requires.idle in
    let doomed : get_elem? c.pass.inside.seat.me.0.marks id.slot ≡ O.some (mark id.generation true true) =
    (λ q. get_elem? (view q).marks (at q))
    ∙ (c.requires.doomed ∙ (λ q. O.some (mark (sym pin q).generation true true))) in
    let l = c.load-old.ensures in
    let seen = ap (λ (m : M). m.0) l.2.0.2 in
    let pins : (word_of c.load-old.result).pins ≡ 1 = ap (λ (w : Word). w.pins) (sym c.read_word-pins.ensures)
    ∙ c.if-pins-ne-SOLE.false in
    let old = l.2.1 id has refl doomed idle pins in
    let x = c.compare_exchange-found.ensures in
    let left : Left g.R.Recorded.id history _ c.load-old.new.seat.me c.compare_exchange-found.result
    c.compare_exchange-found.new.seat.me = x.2.1 c.if-found-old.false in
    let has1 = subst (λ (v : View). HasPin v id) (sym seen) has in
    let own : g.R.Recorded.id left.item ≡ id = left.told.own id has1 refl in
    let same : left.item ≡ c.in-Some.item =
    came_out _ _ _ _ _ left.item c.in-Some.item _ left.carries c.exchange.ensures.2 c.in-Some.is in (
      ap g.R.Recorded.id (sym same) ∙ (own ∙ pin),
      λ k h at' of. subst (λ r. Begins h.history (history r)) same
          (left.told.begun k h (subst (λ (v : View). get_elem? v.seen k ≡ O.some h)
          (sym (seen ∙ ap (λ (v : View). counted id.slot (word_of c.load-old.result) v) view)) at') (of
          ∙ sym (own ∙ pin))),
    )

pub returns-clause-known : goal.returns-clause-known
returns-clause-known g c =
    let slots = ap (λ (y : TableId). y.slots) c.self.view_is in
    let inv = c.self.invariant in
    let pin = c.pin.view_is in
    let at = ap (λ (f : FlowId). f.slot) pin in
    let id = c.pin.inside.flow in
    let history = history_of g.R.Recorded.tuple g.R.Recorded.params g.R.Recorded.entries in
    let near : id.slot < c.self.inside.table.shared.table_id.slots = let h = c.requires.slot in omega arith in
    let view = ap (λ (s : Seen). s.view) c.pass.view_is in
    let M : Type 0 = Me (Option g.row.R.Denot) View in
    let home = ap (λ (s : Seen). s.table) c.pass.view_is ∙ (c.requires.pass.0 ∙ sym c.self.view_is) in
    let has = subst (λ (v : View). HasPin v id) (sym view)
    (subst (HasPin c.args.pass.now.view) (sym pin) c.requires.pass.1) in
    let idle : holds_on id.slot c.pass.inside.seat.me.0 ≡ 0 = (λ q. holds_on (at q) (view q)) ∙ c.requires.idle in
    let doomed : get_elem? c.pass.inside.seat.me.0.marks id.slot ≡ O.some (mark id.generation true true) =
    (λ q. get_elem? (view q).marks (at q))
    ∙ (c.requires.doomed ∙ (λ q. O.some (mark (sym pin q).generation true true))) in
    let l = c.load-old.ensures in
    let seen = ap (λ (m : M). m.0) l.2.0.2 in
    let pins : (word_of c.load-old.result).pins ≡ 1 = ap (λ (w : Word). w.pins) (sym c.read_word-pins.ensures)
    ∙ c.if-pins-ne-SOLE.false in
    let old = l.2.1 id has refl doomed idle pins in
    let x = c.compare_exchange-found.ensures in
    let left : Left g.R.Recorded.id history _ c.load-old.new.seat.me c.compare_exchange-found.result
    c.compare_exchange-found.new.seat.me = x.2.1 c.if-found-old.false in
    let has1 = subst (λ (v : View). HasPin v id) (sym seen) has in
    let own : g.R.Recorded.id left.item ≡ id = left.told.own id has1 refl in
    let same : left.item ≡ c.in-Some.item =
    came_out _ _ _ _ _ left.item c.in-Some.item _ left.carries c.exchange.ensures.2 c.in-Some.is in
    λ is. ap history (sym same)
    ∙ (left.told.known (subst IsAlone (sym (seen ∙ ap (counted id.slot (word_of c.load-old.result)) view)) is)
    ∙ (λ q. known_of ((own ∙ pin) q) ((seen ∙ ap (counted id.slot (word_of c.load-old.result)) view) q).base))

pub returns-clause-freed : goal.returns-clause-freed
returns-clause-freed g c =
    let slots = ap (λ (y : TableId). y.slots) c.self.view_is in
    let inv = c.self.invariant in
    let pin = c.pin.view_is in
    let at = ap (λ (f : FlowId). f.slot) pin in
    let id = c.pin.inside.flow in
    let history = history_of g.R.Recorded.tuple g.R.Recorded.params g.R.Recorded.entries in
    let near : id.slot < c.self.inside.table.shared.table_id.slots = let h = c.requires.slot in omega arith in
    let view = ap (λ (s : Seen). s.view) c.pass.view_is in
    let M : Type 0 = Me (Option g.row.R.Denot) View in
    let home = ap (λ (s : Seen). s.table) c.pass.view_is ∙ (c.requires.pass.0 ∙ sym c.self.view_is) in
    let has = subst (λ (v : View). HasPin v id) (sym view)
    (subst (HasPin c.args.pass.now.view) (sym pin) c.requires.pass.1) in
    let idle : holds_on id.slot c.pass.inside.seat.me.0 ≡ 0 = (λ q. holds_on (at q) (view q)) ∙ c.requires.idle in
    let doomed : get_elem? c.pass.inside.seat.me.0.marks id.slot ≡ O.some (mark id.generation true true) =
    (λ q. get_elem? (view q).marks (at q))
    ∙ (c.requires.doomed ∙ (λ q. O.some (mark (sym pin q).generation true true))) in
    let l = c.load-old.ensures in
    let seen = ap (λ (m : M). m.0) l.2.0.2 in
    let pins : (word_of c.load-old.result).pins ≡ 1 = ap (λ (w : Word). w.pins) (sym c.read_word-pins.ensures)
    ∙ c.if-pins-ne-SOLE.false in
    let old = l.2.1 id has refl doomed idle pins in
    let x = c.compare_exchange-found.ensures in
    let left : Left g.R.Recorded.id history _ c.load-old.new.seat.me c.compare_exchange-found.result
    c.compare_exchange-found.new.seat.me = x.2.1 c.if-found-old.false in
    let has1 = subst (λ (v : View). HasPin v id) (sym seen) has in
    let own : g.R.Recorded.id left.item ≡ id = left.told.own id has1 refl in
    let gen : id.generation < 4294967296 = let q = c.load-old.type_inv in
    let z : code (sole_word id.generation) ≡ c.load-old.result = sym old in omega arith in
    let first : word_of c.load-old.result ≡ sole_word id.generation = ap word_of old
    ∙ reads_back (sole_word id.generation) (gen, omega arith) in
    let second : word_of c.compare_exchange-found.result ≡ sole_word id.generation = ap word_of c.if-found-old.false
    ∙ first in
    let e = c.exchange.ensures in
    let me : c.exchange.new.seat.me.0 ≡ freed c.args.pin.now
    (counted c.args.pin.now.slot (sole_word c.args.pin.now.generation)
    (counted c.args.pin.now.slot (sole_word c.args.pin.now.generation) c.args.pass.now.view)) =
    ap (λ (m : M). m.0) e.3
    ∙ (left.view ∙ ((λ q. freed (own q)
    (counted id.slot (second q) ((seen ∙ (λ p. counted id.slot (first p) (view p))) q)))
    ∙ (λ q. freed (pin q) (counted (pin q).slot (sole_word (pin q).generation)
    (counted (pin q).slot (sole_word (pin q).generation) c.args.pass.now.view))))) in (
      (λ is. (λ q. sole_word (sym pin q).generation)
          ∙ (sym first ∙ (l.2.0.0.1 (subst IsAlone (sym view) is) ∙ (λ q. word_at (view q).words (pin q).slot)))),
      ap (λ (m : M). m.0) c.load.ensures.2 ∙ ap restored me,
    )
