use Rattle.std.proofs.Common.{ltb, rules}
use Rattle.std.proofs.lemmas.List.Sorted.{IsPartitionPoint-from_clause, IsPartitionedBy-ltb}
use Rattle.link_script.specs.declared.frames.Sent.{Sent}
use Rattle.link_script.proofs.frames.count_before.Goals as goal

pub returns-clause-parts : goal.returns-clause-parts
returns-clause-parts c =
    IsPartitionPoint-from_clause (λ (f : Sent). ltb f.tick c.args.tick) _ _ c.partition_point.ensures.partitioned
    (IsPartitionedBy-ltb (λ (f : Sent). f.tick) _ _ c.requires) (λ a r q k. search rules)
