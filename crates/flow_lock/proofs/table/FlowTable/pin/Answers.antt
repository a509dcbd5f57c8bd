use Rattle.std.proofs.Common.{◌≡◌, ◌≢◌, ◌/◌, ◌<◌, ap, sym, ◌∙◌, subst, refl, true, inl, inr, arith}
use Rattle.std.specs.Prelude.{IfOk, IfErr, Option}
use Rattle.std.proofs.lemmas.Bool.{not-false, not-true}
use Rattle.atomic_table.specs.Table.{Me}
use Rattle.tas_model.specs.declared.entry.FlowId.{FlowId}
use Rattle.flow_lock.specs.Words.{code, word_of, word_at}
use Rattle.flow_lock.specs.Claims.{flow_at, pins_on}
use Rattle.flow_lock.specs.Steps.{MayAct, IsAlone, counted, pinned}
use Rattle.flow_lock.specs.Answers.{IsPinned, IsRefused}
use Rattle.atomic_table.specs.Seated.{TableId}
use Rattle.flow_lock.specs.Passes.{Seen}
use Rattle.flow_lock.specs.declared.pass.PinRefused.{PinRefused}
use Rattle.flow_lock.specs.declared.view.View.{View}
use Rattle.flow_lock.specs.declared.word.Word.{Word}
use Rattle.flow_lock.proofs.Pinning.{glances_at, tries_it}
use Rattle.flow_lock.proofs.table.FlowTable.pin.Goals as goal
use Rattle.flow_lock.proofs.table.FlowTable.pin.Goals.{then-found-old, else-found-old, then-not-word-via-then-not-word}
use Rattle.flow_lock.proofs.table.FlowTable.pin.Goals.{then-not-word-via-else-not-word+then-word}
use Rattle.flow_lock.proofs.table.FlowTable.pin.Goals.{then-not-word-via-else-not-word+else-word+then-word-id}

pub load-old-requires : goal.load-old-requires
load-old-requires g c =
    let slots = ap (λ (y : TableId). y.slots) c.self.view_is in
    let inv = c.self.invariant in
    let near : c.args.id.slot < c.self.inside.table.shared.table_id.slots = let h = c.requires.slot in omega arith in (
      ap (λ (s : Seen). s.table) c.pass.view_is ∙ (c.requires.pass.0 ∙ sym c.self.view_is),
      omega arith,
      glances_at g.R.Recorded.id _ _ _ _ _ near,
    )

pub compare_exchange-found-requires : goal.compare_exchange-found-requires
compare_exchange-found-requires g c =
    let slots = ap (λ (y : TableId). y.slots) c.self.view_is in
    let inv = c.self.invariant in
    let near : c.args.id.slot < c.self.inside.table.shared.table_id.slots = let h = c.requires.slot in omega arith in
    let e = c.load-old.ensures in
    let view = ap (λ (s : Seen). s.view) c.pass.view_is in
    let v = ap (λ (m : Me (Option g.row.R.Denot) View). m.0) e.2.2 in
    let live : (word_of c.load-old.result).live ≡ true = ap (λ (w : Word). w.live) (sym c.read_word-word.ensures)
    ∙ not-false _ c.if-not-word.false in
    let parts : c.load-old.new.seat.me.0.parts ≡ c.pass.inside.seat.me.0.parts = ap (λ (x : View). x.parts) v in (
      e.0 ∙ (ap (λ (s : Seen). s.table) c.pass.view_is ∙ (c.requires.pass.0 ∙ sym c.self.view_is)),
      omega arith,
      tries_it g.R.Recorded.id _ _ _ c.args.id.slot c.load-old.result c.load-old.new.seat.me near
          (let h = c.pass.invariant.2 in omega arith) (ap (λ (x : View). pins_on c.args.id.slot x) v
          ∙ (ap (λ (x : View). pins_on c.args.id.slot x) view ∙ c.requires.unpinned)) live
          (subst MayAct (sym (v ∙ ap (counted c.args.id.slot (word_of c.load-old.result)) view)) c.requires.pass.1),
    )

pub returns-clause-pinned : goal.returns-clause-pinned
returns-clause-pinned g c =
    let id = c.args.id in
    let M : Type 0 = Me (Option g.row.R.Denot) View in
    let view = ap (λ (s : Seen). s.view) c.pass.view_is in
    let e = c.load-old.ensures.2 in
    let word : c.read_word-word.result ≡ word_of c.load-old.result = c.read_word-word.ensures in
    let v : c.load-old.new.seat.me.0 ≡ counted id.slot (word_of c.load-old.result) c.args.pass.now.view =
    ap (λ (m : M). m.0) e.2 ∙ ap (counted id.slot (word_of c.load-old.result)) view in
    let P : FlowId → Type 0 = λ p. (p ≡ id) × IsPinned id c.args.pass.now.view c.compare_exchange-found.new.seat.me.0 in
    elim c.if-found-old.branch [
      | then-found-old w ↦ subst (λ r. IfOk r P) (sym w.result-is) (
        refl,
        (
          word_of c.load-old.result,
          (
            ap (λ (x : Word). x.live) (sym word) ∙ not-false _ c.if-not-word.false,
            ap (λ (x : Word). x.doomed) (sym word) ∙ c.if-word.false,
            ap (λ (x : Word). x.generation) (sym word) ∙ c.if-word-id.false,
          ),
          (λ is. e.0.1 (subst IsAlone (sym view) is) ∙ ap (λ (x : View). word_at x.words id.slot) view),
          (let x = c.compare_exchange-found.ensures.2 in
              let found : c.compare_exchange-found.result ≡ c.load-old.result = w.if-found-old.true in
              let gen : c.compare_exchange-found.result / 4294967296 ≡ id.generation = ap (λ n. n / 4294967296) found
              ∙ (ap (λ (y : Word). y.generation) (sym word) ∙ c.if-word-id.false) in
              ap (λ (m : M). m.0) (x.1 found)
              ∙ (λ q. pinned (flow_at id.slot (gen q)) (counted id.slot (word_of (found q)) (v q)))),
        ),
      )
      | else-found-old w ↦ subst (λ r. IfOk r P) (sym w.result-is) tt
    ]

pub returns-clause-refused : goal.returns-clause-refused
returns-clause-refused g c =
    let id = c.args.id in
    let M : Type 0 = Me (Option g.row.R.Denot) View in
    let view = ap (λ (s : Seen). s.view) c.pass.view_is in
    let e = c.load-old.ensures.2 in
    let word : c.read_word-word.result ≡ word_of c.load-old.result = c.read_word-word.ensures in
    let v : c.load-old.new.seat.me.0 ≡ counted id.slot (word_of c.load-old.result) c.args.pass.now.view =
    ap (λ (m : M). m.0) e.2 ∙ ap (counted id.slot (word_of c.load-old.result)) view in
    let P : PinRefused → Type 0 = IsRefused id c.args.pass.now.view c.compare_exchange-found.new.seat.me.0 in
    let x = c.compare_exchange-found.ensures.2 in
    elim c.if-found-old.branch [
      | then-found-old w ↦ subst (λ r. IfErr r P) (sym w.result-is) tt
      | else-found-old w ↦
          let miss : c.compare_exchange-found.result ≢ c.load-old.result = w.if-found-old.false in
          let other : c.read_word-word.result ≢ w.read_word.result =
          λ q. miss (sym x.0.0 ∙ (ap code (sym w.read_word.ensures ∙ (sym q ∙ word)) ∙ e.0.0)) in
          let first : IsAlone c.args.pass.now.view
          → word_of c.load-old.result ≡ word_at c.args.pass.now.view.words id.slot =
          λ is. e.0.1 (subst IsAlone (sym view) is) ∙ ap (λ (y : View). word_at y.words id.slot) view in
          let second : IsAlone c.args.pass.now.view
          → word_of c.compare_exchange-found.result ≡ word_at c.args.pass.now.view.words id.slot =
          λ is. x.0.1 (subst IsAlone (sym v) is) ∙ ap (λ (y : View). word_at y.words id.slot) v in
          subst (λ r. IfErr r P) (sym w.result-is) (
            other,
            (λ is. other (word ∙ (first is ∙ (sym (second is) ∙ sym w.read_word.ensures)))),
            ap (λ (m : M). m.0) (x.2 miss)
                ∙ ((λ q. counted id.slot (sym w.read_word.ensures q) (v q))
                ∙ ap (λ (y : Word). counted id.slot w.read_word.result (counted id.slot y c.args.pass.now.view))
                (sym word)),
          )
    ]

pub returns-then-not-word-clause-refused : goal.returns-then-not-word-clause-refused
returns-then-not-word-clause-refused g c =
    let id = c.args.id in
    let M : Type 0 = Me (Option g.row.R.Denot) View in
    let view = ap (λ (s : Seen). s.view) c.pass.view_is in
    let e = c.load-old.ensures.2 in
    let word : c.read_word-word.result ≡ word_of c.load-old.result = c.read_word-word.ensures in (
      elim c.then-not-word.branch [
        | then-not-word-via-then-not-word w ↦ inl (not-true _ w.if-not-word.true)
        | then-not-word-via-else-not-word+then-word w ↦ inr (inl w.if-word.true)
        | then-not-word-via-else-not-word+else-word+then-word-id w ↦ inr (inr w.if-word-id.true)
      ],
      (λ is. word ∙ (e.0.1 (subst IsAlone (sym view) is) ∙ ap (λ (x : View). word_at x.words id.slot) view)),
      ap (λ (m : M). m.0) e.2 ∙ (λ q. counted id.slot (sym word q) (view q)),
    )
