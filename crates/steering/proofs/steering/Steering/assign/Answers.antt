use Rattle.std.proofs.Common.{◌≡◌, ℕ, map, rules, subst, ap, sym, ◌∙◌}
use Rattle.crossbeam_utils.specs.Seq.{cell_view}
use Rattle.steering.specs.Tables.{Place, Sight, Begins, moved}
use Rattle.steering.specs.Words.{table_of}
use Rattle.steering.proofs.Steps.{loads, swaps, begins_mapped, ends_mapped, swap_mapped}
use Rattle.steering.proofs.steering.Steering.assign.Goals as goal

pub load_as-words-requires : goal.load_as-words-requires
load_as-words-requires g c =
    let own = ap (λ (s : Sight). s.place.cell) c.p.view_is
    ∙ (ap (λ (p : Place). p.cell) c.requires.own ∙ sym (ap (λ (p : Place). p.cell) c.self.view_is)) in
    (search rules, (search rules, (own, loads _ _)))

pub swap_as-requires : goal.swap_as-requires
swap_as-requires g c =
    let own = ap (λ (s : Sight). s.place.cell) c.p.view_is
    ∙ (ap (λ (p : Place). p.cell) c.requires.own ∙ sym (ap (λ (p : Place). p.cell) c.self.view_is)) in
    (search rules, (search rules, (c.load_as-words.ensures.cell.0 ∙ own, swaps _ _ _)))

pub returns-clause-assigned : goal.returns-clause-assigned
returns-clause-assigned g c =
    let cores = ap (λ (s : Sight). s.place.cores) c.p.view_is
    ∙ (ap (λ (p : Place). p.cores) c.requires.own ∙ sym (ap (λ (p : Place). p.cores) c.self.view_is)) in
    let f = table_of c.p.inside.cores in
    let loaded = c.load_as-words.ensures.rule in
    let swapped = c.swap_as.ensures.rule in
    let now = map f (cell_view c.load_as-words.new.pass).words in
    let old = c.load_as-words.result in
    let IsMoved : ℕ → Type 0 =
    λ n. table_of n c.move_group.new.words ≡ moved (table_of n old) c.args.group c.args.core in
    record {
      now = now;
      table = f c.load_as-words.result;
      between = map f swapped.0;
      seen = subst (λ (s : Sight). Begins s.tables now) c.p.view_is (begins_mapped f _ _ loaded.0);
      last = ends_mapped f _ _ loaded.1;
      assigned = swap_mapped f _ _ _ _ _ swapped.1 (subst IsMoved (sym cores) c.move_group.ensures);
    }
