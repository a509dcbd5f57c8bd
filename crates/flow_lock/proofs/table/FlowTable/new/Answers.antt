use Rattle.std.proofs.Common.{◌≡◌, ◌∙◌, ℕ, List, sym, subst, rules}
use Rattle.std.specs.Prelude.{None, replicate}
use Rattle.atomic_table.specs.Table.{opening}
use Rattle.flow_lock.specs.Histories.{history_of}
use Rattle.flow_lock.specs.Claims.{Lawful}
use Rattle.flow_lock.specs.Passes.{first}
use Rattle.flow_lock.proofs.Opening.{begins}
use Rattle.flow_lock.proofs.table.FlowTable.new.Goals as goal

pub vacant-requires : goal.vacant-requires
vacant-requires g c =
    let e = c.in_ok-words.ensures in
    let is : c.as_slice.result.now ≡ replicate c.args.slots 0 = c.as_slice.ensures.value
    ∙ e.items_if_clones_equal (search rules) in
    let n : c.from-key.result ≡ c.args.slots = c.from-key.ensures in
    let history = history_of g.R.Recorded.tuple g.R.Recorded.params g.R.Recorded.entries in
    subst (λ (p : List ℕ × ℕ). Lawful g.R.Recorded.id history (opening p.0 (replicate c.args.slots None) (first p.1)))
    (λ i. (sym is i, sym n i)) (begins g.R.Recorded.id history c.args.slots)
