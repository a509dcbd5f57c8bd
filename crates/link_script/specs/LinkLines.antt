-- The lines of a link: what they say, and how they are kept.
use Rattle.std.specs.Prelude.{◌≡◌, ◌<◌, ◌≤◌, ℕ, Bool, true, false, not, ◌&&◌, ◌||◌, ◌==◌, ◌%◌, ◌-◌, ◌+◌, nat_le, List}
use Rattle.std.specs.Prelude.{[], ◌∷◌, ◌++◌, Option, Some, None, if◌then◌else◌, Contains, All}
use Rattle.std.specs.declared.cmp.Ordering.{Ordering}
use Rattle.std.specs.Ordering.{ordering_then, nat_cmp, is_eq}
use Rattle.std.specs.Map.{lookup}
use Rattle.std.specs.Option.{option_map}
use Rattle.std.specs.List.{find}
use Rattle.std.specs.BTreeMap.{BTreeMap, get, insert_entry}
use Rattle.std.specs.BTreeSet.{BTreeSet, contains}
use Rattle.tas_model.specs.declared.entry.FrameId.{FrameId}
use Rattle.link_script.specs.declared.script.Target.{Target}
use Rattle.link_script.specs.declared.script.LinkAct.{LinkAct}
use Rattle.link_script.specs.declared.script.LinkAct.TheVariants as acts
use Rattle.link_script.specs.declared.script.DropEach.{DropEach}

-- The lines on single frames, by host, flow and number, and the lines of whole hosts in the order in which they came.
pub record LinkLines : Type 0 where
  pub acts : List (Target × LinkAct)
  pub drops : List DropEach

abbrev pub no_lines : LinkLines
no_lines = record { acts = []; drops = [] }

-- the order of the lines on single frames: by host, then by flow, then by number
abbrev pub target_cmp : Target → Target → Ordering
target_cmp a b = ordering_then (nat_cmp a.host b.host)
    (ordering_then (nat_cmp a.flow b.flow) (nat_cmp a.number b.number))

-- the line on this frame, where there is one
abbrev pub line_on : LinkLines → Target → Option LinkAct
line_on lines target = lookup (λ other. is_eq (target_cmp target other)) lines.acts

-- one more line on a frame, in its place
abbrev pub with_act : LinkLines → Target → LinkAct → LinkLines
with_act lines target act = record lines { acts = insert_entry target_cmp lines.acts target act }

-- one more line of a host
abbrev pub with_drop_each : LinkLines → (host k : ℕ) → LinkLines
with_drop_each lines host k = record lines { drops = lines.drops ++ (record { host = host; k = k }) ∷ [] }

-- the k of a host's line, where it has one
abbrev pub drop_each_of : List DropEach → (host : ℕ) → Option ℕ
drop_each_of drops host = option_map (λ (d : DropEach). d.k) (find (λ (d : DropEach). d.host == host) drops)

-- Every delay of a line is in the set, and so is 0, which is the delay of all other frames.
pub record HasDelays (lines : BTreeMap Target LinkAct) (delays : BTreeSet ℕ) : Type 0 where
  pub none : contains nat_cmp delays 0 ≡ true
  pub each : (target : Target) (ticks : ℕ) → get target_cmp lines target ≡ Some (acts.Delay ticks)
      → contains nat_cmp delays ticks ≡ true

-- The second set has all that the first one has, and the delay of this act.
pub record TakesDelay (before after : BTreeSet ℕ) (act : LinkAct) : Type 0 where
  pub kept : (ticks : ℕ) → contains nat_cmp before ticks ≡ true → contains nat_cmp after ticks ≡ true
  pub taken : (ticks : ℕ) → act ≡ acts.Delay ticks → contains nat_cmp after ticks ≡ true

-- the same of the lines as contracts see them
pub record AreDelays (lines : LinkLines) (delays : BTreeSet ℕ) : Type 0 where
  pub none : contains nat_cmp delays 0 ≡ true
  pub each : (target : Target) (ticks : ℕ) → line_on lines target ≡ Some (acts.Delay ticks)
      → contains nat_cmp delays ticks ≡ true
