use Rattle.std.proofs.Common.{leb, rules}
use Rattle.std.proofs.lemmas.List.Sorted.{IsPartitionPoint-from_clause, IsPartitionedBy-leb}
use Rattle.link_script.specs.declared.frames.Sent.{Sent}
use Rattle.link_script.proofs.frames.count_until.Goals as goal

pub returns-clause-parts : goal.returns-clause-parts
returns-clause-parts c =
    IsPartitionPoint-from_clause (λ (f : Sent). leb f.tick c.args.tick) _ _ c.partition_point.ensures.partitioned
    (IsPartitionedBy-leb (λ (f : Sent). f.tick) _ _ c.requires) (λ a r q k. search rules)
