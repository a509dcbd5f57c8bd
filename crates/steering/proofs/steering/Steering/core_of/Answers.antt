use Rattle.std.proofs.Common.{map, rules, subst, ap, sym, ◌∙◌}
use Rattle.crossbeam_utils.specs.Seq.{cell_view}
use Rattle.steering.specs.Tables.{Place, Sight, Begins, core_in}
use Rattle.steering.specs.Words.{table_of}
use Rattle.steering.proofs.Steps.{loads, begins_mapped, ends_mapped}
use Rattle.steering.proofs.steering.Steering.core_of.Goals as goal

pub load_as-words-requires : goal.load_as-words-requires
load_as-words-requires g c =
    let own = ap (λ (s : Sight). s.place.cell) c.p.view_is
    ∙ (ap (λ (p : Place). p.cell) c.requires.own ∙ sym (ap (λ (p : Place). p.cell) c.self.view_is)) in
    (search rules, (search rules, (own, loads _ _)))

pub returns-clause-seen : goal.returns-clause-seen
returns-clause-seen g c =
    let now = map (table_of c.p.inside.cores) (cell_view c.load_as-words.new.pass).words in
    subst (λ (s : Sight). Begins s.tables now) c.p.view_is
    (begins_mapped (table_of c.p.inside.cores) _ _ c.load_as-words.ensures.rule.0)

pub returns-clause-core : goal.returns-clause-core
returns-clause-core g c =
    let cores = ap (λ (s : Sight). s.place.cores) c.p.view_is
    ∙ (ap (λ (p : Place). p.cores) c.requires.own ∙ sym (ap (λ (p : Place). p.cores) c.self.view_is)) in
    let table = table_of c.p.inside.cores c.load_as-words.result in (
      table,
      ends_mapped (table_of c.p.inside.cores) _ _ c.load_as-words.ensures.rule.1,
      c.core_at.ensures.core ∙ ap (λ n. core_in (table_of n c.load_as-words.result) c.args.group) (sym cores),
    )
