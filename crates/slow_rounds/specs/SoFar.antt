-- The slow path's phase of a tick, while some flows have had their time and others not.
use Rattle.std.specs.Prelude.{◌≡◌, ℕ, Bool, true, false, List, [], ◌∷◌}
use Rattle.std.specs.List.{list_any}
use Rattle.tas_model.specs.declared.entry.Caller.TheVariants.{Slow}
use Rattle.tas_model.specs.declared.entry.FlowId.{FlowId}
use Rattle.host_rounds.specs.Hosts.{Live}
use Rattle.host_rounds.specs.Upkeep.{swept, timed}
use Rattle.flow_lock.specs.Orders.{known_of, same_flow}
use Rattle.flow_lock.specs.declared.view.Held.{Held}
use Rattle.host_books.specs.Books.{Book, live_in}

-- what the phase makes of a flow: where it is closed, it is given up, and else it has its time
abbrev pub phased : (tick : ℕ) → Live → Live
phased t l = timed Slow t (swept l)

-- the flow is one of these
abbrev pub is_in : List FlowId → FlowId → Bool
is_in fs id = list_any (λ (f : FlowId). same_flow f id) fs

-- A flow that is still to be served is as it was, and another is as the phase leaves it. `b` and `c` are its books
-- before and now, `known` and `now` the histories.
abbrev pub IsSoFar : (to_do : Bool) → (tick : ℕ) → (known now : List Held) → (b c : Book) → Type 0
IsSoFar true tick known now b c = (c ≡ b) × (known_of b.id now ≡ known_of b.id known)
IsSoFar false tick known now b c = live_in now c ≡ phased tick (live_in known b)

-- so it is with each flow, where these are to be served
abbrev pub AreSoFar : (to_do : List FlowId) → (tick : ℕ) → (known now : List Held) → (before after : List Book) → Type 0
AreSoFar fs tick known now [] cs = cs ≡ []
AreSoFar fs tick known now (b ∷ bs) [] = ⊥
AreSoFar fs tick known now (b ∷ bs) (c ∷ cs) =
    (c.id ≡ b.id) × IsSoFar (is_in fs b.id) tick known now b c × AreSoFar fs tick known now bs cs

-- One flow is served: the phase was made of it, and all else is as it was.
abbrev pub IsStepped : (own : Bool) → (tick : ℕ) → (now next : List Held) → (c d : Book) → Type 0
IsStepped true tick now next c d = live_in next d ≡ phased tick (live_in now c)
IsStepped false tick now next c d = (d ≡ c) × (known_of c.id next ≡ known_of c.id now)

abbrev pub AreStepped : FlowId → (tick : ℕ) → (now next : List Held) → (before after : List Book) → Type 0
AreStepped f tick now next [] ds = ds ≡ []
AreStepped f tick now next (c ∷ cs) [] = ⊥
AreStepped f tick now next (c ∷ cs) (d ∷ ds) =
    (d.id ≡ c.id) × IsStepped (same_flow f c.id) tick now next c d × AreStepped f tick now next cs ds
