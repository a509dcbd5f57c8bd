-- Batches lose nothing, and each frame of a capture comes once.
use Rattle.std.proofs.Common.{◌≡◌, ℕ, zero, suc, ◌+◌, ◌≤◌, ◌<◌, ◌==◌, ◌&&◌, Bool, true, false, List, [], ◌∷◌, ◌++◌}
use Rattle.std.proofs.Common.{length, nat_lt, fold, map, filter_map, Option, Some, None, Result, Ok, Err, refl, sym, ap}
use Rattle.std.proofs.Common.{◌∙◌, arith, tests, append_assoc, append-nil, if◌then◌else◌}
use Rattle.std.specs.List.{cons_option}
use Rattle.tas_model.specs.declared.entry.FrameId.{FrameId}
use Rattle.tas_model.specs.Segments.{one_if}
use Rattle.tas_num.specs.Captures.{Fault, CutShort, TooLong, Form, Record, Next, most_captured, captured_len, next_at}
use Rattle.tas_num.specs.Captures.{first_record, joined, records_within, records_from, packet_of}
use Rattle.host_rounds.specs.Deliveries.{Arrival, same_frame}
use Rattle.host_rounds.specs.Places.{coming}
use Rattle.host_rounds.proofs.Runs.{coming_in}
use Rattle.tas_runs.specs.Records.{Content, Damaged, Remote, Local, Item, item_of, content_of_packet}
use Rattle.tas_runs.specs.Batches.{Cut, joins, cut_at, closed_cut, batches_of, flat}
use Rattle.tas_runs.specs.LocalScript.{record_frame, arrival_by, arrival_of, arrivals_in, due_in}

-- ----- batches lose nothing
flat_push : (bs : List (List Item)) (b : List Item) → flat (bs ++ b ∷ []) ≡ flat bs ++ b
flat_push [] b = append-nil b
flat_push (c ∷ bs) b = ap (λ (zs : List Item). c ++ zs) (flat_push bs b) ∙ sym (append_assoc c (flat bs) b)

abbrev whole : Cut → List Item
whole c = flat c.done ++ c.current

cut_whole : (c : Cut) (x : Item) → whole (cut_at c x) ≡ whole c ++ x ∷ []
cut_whole c x = by_test (joins c.current x) where
  by_test : (b : Bool) → whole (if b then record c { current = c.current ++ x ∷ [] }
      else record { done = c.done ++ c.current ∷ []; current = x ∷ [] }) ≡ whole c ++ x ∷ []
  by_test true = sym (append_assoc (flat c.done) c.current (x ∷ []))
  by_test false = ap (λ (zs : List Item). zs ++ x ∷ []) (flat_push c.done c.current)

closed_whole : (done : List (List Item)) (current : List Item)
    → flat (closed_cut (record { done = done; current = current })) ≡ flat done ++ current
closed_whole done [] = sym (append-nil (flat done))
closed_whole done (x ∷ xs) = flat_push done (x ∷ xs)

cuts_whole : (c : Cut) (items : List Item) → whole (fold cut_at c items) ≡ whole c ++ items
cuts_whole c [] = sym (append-nil (whole c))
cuts_whole c (x ∷ xs) = cuts_whole (cut_at c x) xs ∙ ap (λ (zs : List Item). zs ++ xs) (cut_whole c x)
    ∙ append_assoc (whole c) (x ∷ []) xs

-- The batches one after the other are the items.
pub batches_whole : (items : List Item) → flat (batches_of items) ≡ items
unfolding batches_of
batches_whole items =
    let c : Cut = fold cut_at (record { done = []; current = [] }) items in
    closed_whole c.done c.current ∙ cuts_whole (record { done = []; current = [] }) items

-- ----- the frames of batches
arrivals_append : (xs ys : List Item) → arrivals_in (xs ++ ys) ≡ arrivals_in xs ++ arrivals_in ys
arrivals_append [] ys = refl
arrivals_append (x ∷ xs) ys = by_arrival (arrival_of x) (arrivals_append xs ys) where
  by_arrival : (o : Option Arrival) → arrivals_in (xs ++ ys) ≡ arrivals_in xs ++ arrivals_in ys
      → cons_option o (arrivals_in (xs ++ ys)) ≡ cons_option o (arrivals_in xs) ++ arrivals_in ys
  by_arrival None rest = rest
  by_arrival (Some y) rest = ap (λ (zs : List Arrival). y ∷ zs) rest

coming_append : (f : FrameId) (xs ys : List Arrival) → coming f (xs ++ ys) ≡ coming f xs + coming f ys
coming_append f [] ys = omega arith
coming_append f (x ∷ xs) ys = let rest : coming f (xs ++ ys) ≡ coming f xs + coming f ys = coming_append f xs ys in
    omega arith

pub coming_flat : (f : FrameId) (batches : List (List Item))
    → coming_in f (map due_in batches) ≡ coming f (arrivals_in (flat batches))
coming_flat f [] = refl
coming_flat f (batch ∷ batches) =
    let rest : coming_in f (map due_in batches) ≡ coming f (arrivals_in (flat batches)) = coming_flat f batches in
    let both : coming f (arrivals_in (batch ++ flat batches))
    ≡ coming f (arrivals_in batch) + coming f (arrivals_in (flat batches)) =
    ap (coming f) (arrivals_append batch (flat batches))
    ∙ coming_append f (arrivals_in batch) (arrivals_in (flat batches)) in
    omega arith

-- ----- numbers
-- records numbered one after the other, the first of them k
abbrev pub AreNumbered : ℕ → List Record → Type 0
AreNumbered k [] = Unit {0}
AreNumbered k (r ∷ rs) = (r.number ≡ k) × AreNumbered (k + 1) rs

abbrev IsNext : ℕ → Result (Option Next) Fault → Type 0
IsNext k (Err fault) = Unit {0}
IsNext k (Ok None) = Unit {0}
IsNext k (Ok (Some next)) = next.item.number ≡ k

next_by : (a b c d : Bool) (k : ℕ) (next : Next) → next.item.number ≡ k
    → IsNext k (if a then Ok None else if b then Err (CutShort k) else if c then Err (TooLong k) else if d
    then Err (CutShort k) else Ok (Some next))
next_by true b c d k next h = tt
next_by false true c d k next h = tt
next_by false false true d k next h = tt
next_by false false false true k next h = tt
next_by false false false false k next h = h

next_numbered : (form : Form) (k : ℕ) (b : List ℕ) → IsNext k (first_record form k b)
unfolding first_record
next_numbered form k b =
    next_by (length b == 0) (nat_lt (length b) 16) (nat_lt most_captured (captured_len form b))
    (nat_lt (length b) (16 + captured_len form b)) k (next_at form k b) refl

abbrev pub AllNumbered : ℕ → Result (List Record) Fault → Type 0
AllNumbered k (Err fault) = Unit {0}
AllNumbered k (Ok rs) = AreNumbered k rs

within_numbered : (most : ℕ) (form : Form) (k : ℕ) (b : List ℕ) → AllNumbered k (records_within most form k b)
within_numbered zero form k b = tt
within_numbered (suc most) form k b =
    by_next (first_record form k b) (next_numbered form k b) (λ rest. within_numbered most form (k + 1) rest) where
      by_rest : (item : Record) → item.number ≡ k → (r : Result (List Record) Fault) → AllNumbered (k + 1) r
          → AllNumbered k (joined (item ∷ []) r)
      by_rest item h (Err fault) g = tt
      by_rest item h (Ok rs) g = (h, g)

      by_next : (r : Result (Option Next) Fault) → IsNext k r
          → ((rest : List ℕ) → AllNumbered (k + 1) (records_within most form (k + 1) rest))
          → AllNumbered k
          (elim r [
            | Err fault ↦ Err fault
            | Ok found ↦ elim found [
              | None ↦ Ok []
              | Some next ↦ joined (next.item ∷ [])
                  (records_within most form (k + 1) next.rest)
            ]
          ])
      by_next (Err fault) h all = tt
      by_next (Ok None) h all = tt
      by_next (Ok (Some next)) h all = by_rest next.item h (records_within most form (k + 1) next.rest) (all next.rest)

-- the records of a capture are numbered from the first on
pub records_numbered : (form : Form) (k : ℕ) (b : List ℕ) → AllNumbered k (records_from form k b)
records_numbered form k b = within_numbered (length b) form k b

abbrev pub Says : (Item → Type 0) → Option Item → Type 0
Says P None = Unit {0}
Says P (Some x) = P x

pub item_numbered : (form : Form) (local : ℕ) (loose : Bool) (r : Record)
    → Says (λ (x : Item). x.number ≡ r.number) (item_of form local loose r)
item_numbered form local loose r = by_packet (packet_of form r) where
  by_content : (o : Option Content)
      → Says (λ (x : Item). x.number ≡ r.number)
      (elim o [ None ↦ None | Some content ↦ Some (record { number = r.number; content = content }) ])
  by_content None = tt
  by_content (Some content) = refl

  by_packet : (o : Option (List ℕ)) → Says (λ (x : Item). x.number ≡ r.number)
      (elim o [
        | None ↦ None
        | Some b ↦ elim
            (content_of_packet local loose b) [
              | None ↦ None
              | Some content ↦ Some
                  (record { number = r.number; content = content })
            ]
      ])
  by_packet None = tt
  by_packet (Some b) = by_content (content_of_packet local loose b)

abbrev pub items : Form → (local : ℕ) → (loose : Bool) → List Record → List Item
items form local loose rs = filter_map (item_of form local loose) rs

-- ----- each frame once
other_frame : (f : FrameId) (m : ℕ) → f.number < m → same_frame f (record_frame m) ≡ false
other_frame f m h = by_host (f.host == (record_frame m).host && f.flow == (record_frame m).flow) (f.copy == 0)
    (f.number == m) (grind (arith, tests, h)) where
      by_host : (a c n : Bool) → n ≡ false → (a && n && c) ≡ false
      by_host true c n h = rw h refl
      by_host false c n h = refl

none_plus : (b : Bool) (n : ℕ) → b ≡ false → n ≡ 0 → one_if b + n ≡ 0
none_plus true n h rest = absurd (cc (h))
none_plus false n h rest = omega arith

none_below : (form : Form) (local : ℕ) (loose : Bool) (f : FrameId) (k : ℕ) (rs : List Record) → AreNumbered k rs
    → f.number < k → coming f (arrivals_in (items form local loose rs)) ≡ 0
none_below form local loose f k [] all h = refl
none_below form local loose f k (r ∷ rs) all h =
    by_item (item_of form local loose r) (item_numbered form local loose r)
    (none_below form local loose f (k + 1) rs all.1 (omega arith)) where
      one : (number : ℕ) (content : Content) → number ≡ k → coming f (arrivals_in (items form local loose rs)) ≡ 0
          → coming f (cons_option (arrival_by number content) (arrivals_in (items form local loose rs))) ≡ 0
      one number (Damaged rule) e rest =
          none_plus (same_frame f (record_frame number)) (coming f (arrivals_in (items form local loose rs)))
          (other_frame f number (omega arith)) rest
      one number (Remote tuple seg) e rest =
          none_plus (same_frame f (record_frame number)) (coming f (arrivals_in (items form local loose rs)))
          (other_frame f number (omega arith)) rest
      one number (Local tuple seg) e rest = rest

      by_item : (o : Option Item) → Says (λ (x : Item). x.number ≡ r.number) o
          → coming f (arrivals_in (items form local loose rs)) ≡ 0
          → coming f (arrivals_in (cons_option o (items form local loose rs))) ≡ 0
      by_item None s rest = rest
      by_item (Some x) s rest = one x.number x.content (s ∙ all.0) rest

one_if_le : (b : Bool) → one_if b ≤ 1
one_if_le true = omega arith
one_if_le false = omega arith

same_number : (f : FrameId) (m : ℕ) → same_frame f (record_frame m) ≡ true → f.number ≡ m
same_number f m h = by_number (f.number == m) refl where
  by_number : (b : Bool) → (f.number == m) ≡ b → f.number ≡ m
  by_number true e = grind (arith, tests, e)
  by_number false e =
      absurd (by_host (f.host == (record_frame m).host && f.flow == (record_frame m).flow) (f.copy == 0)
      (f.number == m) e h) where
        by_host : (a c n : Bool) → n ≡ false → (a && n && c) ≡ true → ⊥
        by_host true c n e h = absurd (cc (rw_of c n e h)) where
          rw_of : (c n : Bool) → n ≡ false → (n && c) ≡ true → false ≡ true
          rw_of c true e h = sym e
          rw_of c false e h = h
        by_host false c n e h = absurd (cc (h))

pub at_most_once : (form : Form) (local : ℕ) (loose : Bool) (f : FrameId) (k : ℕ) (rs : List Record) → AreNumbered k rs
    → coming f (arrivals_in (items form local loose rs)) ≤ 1
at_most_once form local loose f k [] all = omega arith
at_most_once form local loose f k (r ∷ rs) all =
    by_item (item_of form local loose r) (item_numbered form local loose r)
    (at_most_once form local loose f (k + 1) rs all.1) (none_below form local loose f (k + 1) rs all.1) where
      rest : List Arrival
      rest = arrivals_in (items form local loose rs)

      counted : (number : ℕ) → number ≡ k → (b : Bool) → same_frame f (record_frame number) ≡ b → coming f rest ≤ 1
          → (f.number < k + 1 → coming f rest ≡ 0) → one_if b + coming f rest ≤ 1
      counted number e true h small none = let same : f.number ≡ number = same_number f number h in
          let zero : coming f rest ≡ 0 = none (omega arith) in omega arith
      counted number e false h small none = omega arith

      one : (number : ℕ) (content : Content) → number ≡ k → coming f rest ≤ 1 → (f.number < k + 1 → coming f rest ≡ 0)
          → coming f (cons_option (arrival_by number content) rest) ≤ 1
      one number (Damaged rule) e small none = counted number e (same_frame f (record_frame number)) refl small none
      one number (Remote tuple seg) e small none = counted number e (same_frame f (record_frame number)) refl small none
      one number (Local tuple seg) e small none = small

      by_item : (o : Option Item) → Says (λ (x : Item). x.number ≡ r.number) o → coming f rest ≤ 1
          → (f.number < k + 1 → coming f rest ≡ 0)
          → coming f (arrivals_in (cons_option o (items form local loose rs))) ≤ 1
      by_item None s small none = small
      by_item (Some x) s small none = one x.number x.content (s ∙ all.0) small none
