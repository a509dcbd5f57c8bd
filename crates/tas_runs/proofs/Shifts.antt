-- A replay gives its flows shifts that windows may have.
use Rattle.std.proofs.Common.{ℕ, ◌*◌, ◌%◌, ◌^◌, ◌≤◌, List, slice_get, min, Option, Some, None, IfSome, arith}
use Rattle.std.specs.Prelude.{option_map}
use Rattle.host_rounds.specs.declared.opening.Start.{Start}
use Rattle.host_rounds.specs.Openings.{HaveShifts}
use Rattle.tas_runs.specs.Records.{Item}
use Rattle.tas_runs.specs.Starts.{local_syns, limited, first_start}

least_low : (shift : ℕ) → min 10 shift ≤ 14
least_low shift = omega arith

pub limited_low : (start : Start) → IfSome (limited start).scale (λ shift. shift ≤ 14)
limited_low start = by_scale start.scale where
  by_scale : (o : Option ℕ) → IfSome (option_map (min 10) o) (λ shift. shift ≤ 14)
  by_scale None = tt
  by_scale (Some shift) = least_low shift

pub starts_fit : (items : List Item) → HaveShifts (first_start items)
unfolding first_start
starts_fit items tuple k n = by_syn (slice_get (local_syns items tuple) k) where
  by_syn : (o : Option Start) → IfSome (elim o as (λ o. Start) [
    | Some syn ↦ limited syn
    | None ↦ record { number = record { 0 = 64000 * n % 2 ^ 32 }; scale = None }
  ]).scale (λ shift. shift ≤ 14)
  by_syn None = tt
  by_syn (Some syn) = limited_low syn
