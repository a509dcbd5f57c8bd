-- A phase by its steps.
use Rattle.std.specs.Prelude.{◌+◌, ◌++◌, List, length}
use Rattle.flow_lock.specs.declared.view.View.{View}
use Rattle.core_phase.specs.Phases.{turns_in}
use Rattle.core_phase.specs.declared.lane.Lane.{Lane}

-- The slow path's view, after each of the first lanes was given a turn, and the turns of the others, as they were
-- played, came back.
abbrev pub come_back : (lent played : List Lane) → View → View
come_back vs ms v = record v { made = v.made + length vs; turns = v.turns ++ turns_in ms }
