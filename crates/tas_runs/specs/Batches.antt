-- The batches that a capture's records come in. A tick of a replay is a batch.
use Rattle.std.specs.Prelude.{◌≡◌, ◌<◌, ◌≤◌, ⊤, ◌&&◌, not, Bool, false, List, [], ◌∷◌, ◌++◌, length, nat_lt, fold}
use Rattle.std.specs.Prelude.{Option, Some, None, if◌then◌else◌}
use Rattle.std.specs.List.{list_any}
use Rattle.tas_model.specs.declared.entry.FourTuple.{FourTuple}
use Rattle.host_rounds.specs.Hosts.{same_tuple}
use Rattle.tas_runs.specs.Records.{Content, Damaged, Remote, Local, Item}

-- ----- flows of segments
-- Before the run a flow is one four-tuple, whether a connection stands or not. A packet that breaks a rule of reading
-- is of no flow.
abbrev pub tuple_of : Content → Option FourTuple
tuple_of (Damaged rule) = None
tuple_of (Remote tuple seg) = Some tuple
tuple_of (Local tuple seg) = Some tuple

abbrev pub is_of : FourTuple → Item → Bool
is_of tuple x = elim (tuple_of x.content) [ None ↦ false | Some other ↦ same_tuple tuple other ]

-- ----- batches
-- the batch has a segment of the record's flow already
abbrev pub clashes : List Item → Item → Bool
clashes batch x = elim (tuple_of x.content) [ None ↦ false | Some tuple ↦ list_any (is_of tuple) batch ]

-- A batch has at most 64 records, refused ones among them, and no two segments of one flow.
abbrev pub joins : List Item → Item → Bool
joins batch x = nat_lt (length batch) 64 && not (clashes batch x)

-- the batches that are full, and the one that still grows
pub record Cut : Type 0 where
  pub done : List (List Item)
  pub current : List Item

-- a record joins the batch that still grows, or begins the next one
abbrev pub cut_at : Cut → Item → Cut
cut_at c x = if joins c.current x then record c { current = c.current ++ x ∷ [] }
    else record { done = c.done ++ c.current ∷ []; current = x ∷ [] }

-- all batches, the last one among them where it has a record
abbrev pub closed_cut : Cut → List (List Item)
closed_cut c = elim c.current [ [] ↦ c.done | x ∷ xs ↦ c.done ++ c.current ∷ [] ]

-- Each batch is the longest front of the records left.
unfoldable pub batches_of : List Item → List (List Item)
batches_of items = closed_cut (fold cut_at (record { done = []; current = [] }) items)

-- all records of the batches, one batch after the other
abbrev pub flat : List (List Item) → List Item
flat [] = []
flat (batch ∷ batches) = batch ++ flat batches

-- ----- what a batch is
-- no two of these are segments of one flow, nor is one of them of a flow of `earlier`
abbrev pub NoneClash : (earlier items : List Item) → Type 0
NoneClash earlier [] = ⊤
NoneClash earlier (x ∷ xs) = (clashes earlier x ≡ false) × NoneClash (earlier ++ x ∷ []) xs

pub record IsBatch (batch : List Item) : Type 0 where
  pub some : 0 < length batch
  pub most : length batch ≤ 64
  pub flows : NoneClash [] batch

-- the first record of the next batch would not have joined
abbrev pub EndsBefore : (batch next : List Item) → Type 0
EndsBefore batch [] = ⊤
EndsBefore batch (x ∷ xs) = joins batch x ≡ false

-- Each is a batch, and none could have been longer.
abbrev pub AreBatches : List (List Item) → Type 0
AreBatches [] = ⊤
AreBatches (batch ∷ []) = IsBatch batch
AreBatches (batch ∷ next ∷ batches) = IsBatch batch × EndsBefore batch next × AreBatches (next ∷ batches)
