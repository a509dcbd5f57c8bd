-- Views that are cut in two and put together, and how a contract sees a pass.
use Rattle.std.specs.Prelude.{◌≡◌, ℕ, ◌+◌, ◌-◌, ◌≤◌, true, false, List, [], ◌∷◌, ◌++◌, map, length, replicate, All}
use Rattle.std.specs.Prelude.{Option, None}
use Rattle.atomic_table.specs.Table.{Me}
use Rattle.atomic_table.specs.Seated.{TableId}
use Rattle.flow_lock.specs.Words.{dead_word}
use Rattle.flow_lock.specs.Steps.{mark}
use Rattle.flow_lock.specs.declared.view.View.{View}
use Rattle.flow_lock.specs.declared.view.Held.{Held}
use Rattle.flow_lock.specs.declared.view.Mark.{Mark}
use Rattle.flow_lock.specs.declared.view.Turn.{Turn}

-- a view of nothing
abbrev pub spent : View
spent = record {
  parts = 0;
  slow = false;
  pins = [];
  held = [];
  seen = [];
  mine = [];
  marks = [];
  out = [];
  opened = 0;
  steps = 0;
  moves = 0;
  before = [];
  found = [];
  turns = [];
  baton = false;
  made = 0;
  base = [];
  words = [];
}

abbrev pub new_turn : ℕ → Turn
new_turn p = record { name = p; deeds = []; pinned = []; unpinned = [] }

-- the slow path's view of a new table with so many slots: it has the baton, and a turn
abbrev pub first : ℕ → View
first slots = record spent {
  parts = 4097;
  slow = true;
  marks = replicate slots (mark 0 false false);
  turns = new_turn 0 ∷ [];
  baton = true;
  made = 1;
  words = replicate slots (dead_word 0);
}

-- a pass is split off: it has seen as much, and has a turn
abbrev pub left : View → View
left v = record v { parts = v.parts - 1; made = v.made + 1 }

abbrev pub right : View → View
right v = record spent { parts = 1; seen = v.seen; turns = new_turn v.made ∷ [] }

-- the slow path takes in what a pass has seen and done
abbrev pub both : View → View → View
both v w = record v {
  parts = v.parts + w.parts;
  seen = v.seen ++ w.seen;
  mine = v.mine ++ w.mine;
  turns = v.turns
      ++ w.turns;
}

-- a turn is made, and goes to another view
abbrev pub lender : View → View
lender v = record v { made = v.made + 1 }

abbrev pub lent : View → View
lent v = record spent { turns = new_turn v.made ∷ [] }

-- all turns of a view go to another
abbrev pub peeled : View → View
peeled v = record v { turns = [] }

abbrev pub peel : View → View
peel v = record spent { turns = v.turns }

abbrev pub with_turns : View → View → View
with_turns v w = record v { turns = v.turns ++ w.turns }

-- The baton goes to another view, with all that is known.
abbrev pub without_baton : View → View
without_baton v = record v { baton = false; made = 0; base = []; words = [] }

abbrev pub baton_of : View → View
baton_of v = record spent { baton = true; made = v.made; base = v.base; words = v.words }

abbrev pub with_baton : View → View → View
with_baton v w = record v { baton = true; made = w.made; base = w.base; words = w.words }

-- the table of a pass, and its view
pub record Seen : Type 0 where
  pub table : TableId
  pub view : View

-- the values that are out with a seat are those that its view names, and they are empty
abbrev pub Carries : {R : Type 0} → Me (Option R) View → Type 0
Carries m = m.1 ≡ map (λ (h : Held). (h.flow.slot, None)) m.0.held ++ map (λ i. (i, None)) m.0.out

-- any pass but the slow path's stands for itself alone
abbrev pub IsOne : View → Type 0
IsOne v = v.slow ≡ false → v.parts ≡ 1

-- what holds of the slow path's pass: its marks are its view's, one for each slot, and it counts the passes that are
-- out and the flows that were opened
pub record IsSlow (s : Seen) (ms : List Mark) (out all : ℕ) : Type 0 where
  pub slow : s.view.slow ≡ true
  pub marks : s.view.marks ≡ ms
  pub long : length ms ≡ s.table.slots
  pub near : length ms ≤ 1024
  pub passes : out + s.view.parts ≡ 4097
  pub few : All (λ m. m.generation ≤ s.view.opened) ms
  pub count : s.view.opened ≡ all
