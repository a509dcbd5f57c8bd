-- What was met in the records of a capture up to a place.
use Rattle.std.proofs.Common.{◌≡◌, ℕ, ◌+◌, ◌≤◌, Bool, true, false, List, [], ◌∷◌, ◌++◌, length, drop, fold, filter_map}
use Rattle.std.proofs.Common.{Option, Some, None, Result, Ok, Err, OnOk, refl, sym, ap, ◌∙◌, subst, arith}
use Rattle.std.proofs.Common.{append-nil, length-append, if◌then◌else◌}
use Rattle.std.specs.List.{cons_option, slice_get}
use Rattle.std.specs.Result.{is_err}
use Rattle.tas_num.specs.Captures.{Fault, Form, Record, Next, first_record, records_from, joined, form_of}
use Rattle.tas_num.specs.Captures.{capture_of, capture_with, packet_of}
use Rattle.pcap_frames.proofs.Following.{joined_next, joined_ends, joined_refused, joined_nothing, capture_of_form}
use Rattle.tas_model.specs.declared.entry.FourTuple.{FourTuple}
use Rattle.tas_runs.specs.Records.{Content, Item, content_of_packet, item_of, items_of}
use Rattle.host_rounds.specs.declared.opening.Start.{Start}
use Rattle.tas_runs.specs.Starts.{with_new, local_syn, local_syns}
use Rattle.capture_items.specs.Starts.{AreOf, count_in, syn_at, syn_in, syn_of, with_one}
use Rattle.capture_items.specs.Items.{items_among, items_from}
use Rattle.capture_items.specs.Found.{IsFound}
use Rattle.capture_items.specs.declared.found.Found.{Found}
use Rattle.capture_items.specs.declared.starts.Numbering.{Numbering}
use Rattle.capture_items.specs.declared.starts.Turn.{Turn}
use Rattle.capture_items.proofs.Counted.{filtered_few, items_of-few}
use Rattle.capture_items.proofs.Following.{items_of-push}
use Rattle.capture_items.proofs.Listed.{syns_push, with_one_few, with_one_if}

-- So many records stand before the place, and the local SYN segments among them were noted.
pub record Scanned (form : Form) (local : ℕ) (bytes : List ℕ) (at records : ℕ) (s : Numbering) : Type 0 where
  pub before : List Record
  pub joined : joined before (records_from form (records + 1) (drop at bytes)) ≡ records_from form 1 (drop 24 bytes)
  pub counted : length before ≡ records
  pub listed : (loose : Bool) (t : FourTuple) → AreOf s t (local_syns (items_of form local loose before) t)

-- ----- one record
syn_of_content : (number : ℕ) (o : Option Content) (t : FourTuple)
    → syn_of t (elim o as (λ o. Option Item) [
      | None ↦ None
      | Some content ↦ Some (record { number = number; content = content })
    ]) ≡ syn_in t o
syn_of_content number None t = refl
syn_of_content number (Some content) t = refl

pub syn_of_packet : (form : Form) (local : ℕ) (loose : Bool) (r : Record) (b : List ℕ) (t : FourTuple)
    → packet_of form r ≡ Some b → syn_of t (item_of form local loose r) ≡ syn_in t (content_of_packet local loose b)
syn_of_packet form local loose r b t is =
    ap (λ (o : Option (List ℕ)). syn_of t (elim o as (λ o. Option Item) [
      | None ↦ None
      | Some b ↦ elim (content_of_packet local loose b) as (λ o. Option Item) [
        | None ↦ None
        | Some content ↦ Some (record { number = r.number; content = content })
      ]
    ])) is ∙ syn_of_content r.number (content_of_packet local loose b) t

-- what holds where a call went well
pub ok_then : {T E P Q : Type 0} (r : Result T E) → (P → Q) → OnOk r P → OnOk r Q
ok_then (Ok x) f p = f p
ok_then (Err fault) f p = p

pub went_well : {T E P : Type 0} (r : Result T E) → is_err r ≡ false → OnOk r P → P
went_well (Ok x) well p = p
went_well (Err fault) well p = absurd (cc (well))

pub with_syn : (b : Bool) (list : List Start) (syn : Start) (o : Option Start) → (if b then Some syn else None) ≡ o
    → with_one list o ≡ (if b then with_new list syn else list)
with_syn b list syn o is = ap (with_one list) (sym is) ∙ with_one_if b list syn

-- ----- local SYN segments
syns_with : (items : List Item) (o : Option Item) (t : FourTuple)
    → local_syns (items ++ cons_option o []) t ≡ with_one (local_syns items t) (syn_of t o)
syns_with items None t = ap (λ (xs : List Item). local_syns xs t) (append-nil items)
syns_with items (Some x) t = syns_push items x t

with_new_few : (ys xs : List Start) → length (fold with_new xs ys) ≤ length xs + length ys
with_new_few [] xs = omega arith
with_new_few (y ∷ ys) xs =
    let one : length (with_new xs y) ≤ length xs + 1 = with_one_few (Some y) xs in
    omega (arith, one, with_new_few ys (with_new xs y))

syns_few : (items : List Item) (t : FourTuple) → length (local_syns items t) ≤ length items
syns_few items t =
    let f : Item → Option Start = λ (x : Item). local_syn t x.content in
    omega (arith, with_new_few (filter_map f items) [], filtered_few f items)

-- there are no more of them than records
pub scanned_few : (form : Form) (local : ℕ) (bytes : List ℕ) (at records : ℕ) (s : Numbering) (t : FourTuple)
    → Scanned form local bytes at records s → count_in s t ≤ records
scanned_few form local bytes at records s t is =
    let items = items_of form local true is.before in
    omega (
      arith,
      is.counted,
      (is.listed true t).counted,
      syns_few items t,
      items_of-few form local true is.before,
    )

-- ----- the loop
pub scan_begins : (form : Form) (local : ℕ) (bytes : List ℕ) (s : Numbering) → ((t : FourTuple) → AreOf s t [])
    → Scanned form local bytes 24 0 s
unfolding items_of
scan_begins form local bytes s none = record {
  before = [];
  joined = joined_nothing (records_from form 1 (drop 24 bytes));
  counted = refl;
  listed = λ loose t. none t;
}

pub scan_more : (form : Form) (local : ℕ) (bytes : List ℕ) (at behind records : ℕ) (s r : Numbering) (x : Record)
    → first_record form (records + 1) (drop at bytes) ≡ Ok (Some (record { item = x; rest = drop behind bytes }))
    → ((t : FourTuple) (list : List Start) (loose : Bool) → AreOf s t list
    → AreOf r t (with_one list (syn_of t (item_of form local loose x))))
    → Scanned form local bytes at records s → Scanned form local bytes behind (records + 1) r
scan_more form local bytes at behind records s r x found noted is =
    let next : Next = record { item = x; rest = drop behind bytes } in
    record {
      before = is.before ++ x ∷ [];
      joined = joined_next form (records + 1) (drop at bytes) next is.before _ found is.joined;
      counted = omega (arith, is.counted, length-append is.before (x ∷ []));
      listed = λ loose t.
          let items = items_of form local loose is.before in
          let more : local_syns (items_of form local loose (is.before ++ x ∷ [])) t
          ≡ with_one (local_syns items t) (syn_of t (item_of form local loose x)) =
          ap (λ (xs : List Item). local_syns xs t) (items_of-push form local loose is.before x)
          ∙ syns_with items (item_of form local loose x) t in
          subst (AreOf r t) (sym more) (noted t (local_syns items t) loose (is.listed loose t));
    }

-- the records of the whole capture
pub scan_ends : (form : Form) (local : ℕ) (bytes : List ℕ) (at records : ℕ) (s : Numbering)
    → first_record form (records + 1) (drop at bytes) ≡ Ok None
    → (is : Scanned form local bytes at records s) → records_from form 1 (drop 24 bytes) ≡ Ok is.before
scan_ends form local bytes at records s none is =
    joined_ends form (records + 1) (drop at bytes) is.before _ none is.joined

pub scan_refused : (form : Form) (local : ℕ) (bytes : List ℕ) (at records : ℕ) (s : Numbering) (fault : Fault)
    → form_of bytes ≡ Ok form → first_record form (records + 1) (drop at bytes) ≡ Err fault
    → Scanned form local bytes at records s → capture_of bytes ≡ Err fault
scan_refused form local bytes at records s fault header refused is =
    capture_of_form bytes form header
    ∙ ap (capture_with form) (joined_refused form (records + 1) (drop at bytes) fault is.before _ refused is.joined)

-- what was found
pub scan_found : (bytes : List ℕ) (local : ℕ) (loose : Bool) (form : Form) (records : ℕ) (s : Numbering)
    (found : Found) → form_of bytes ≡ Ok form
    → (before : List Record) → records_from form 1 (drop 24 bytes) ≡ Ok before → length before ≡ records
    → ((t : FourTuple) → AreOf s t (local_syns (items_of form local loose before) t))
    → found.items ≡ items_from form local loose 1 (drop 24 bytes) → found.starts ≡ s.syns.entries
    → found.records ≡ records → IsFound bytes local loose found
scan_found bytes local loose form records s found header before all counted listed left kept count =
    let items : found.items ≡ items_of form local loose before = left ∙ ap (items_among form local loose) all in
    record {
      capture = record { form = form; records = before };
      stands = capture_of_form bytes form header ∙ ap (capture_with form) all;
      items = items;
      starts = λ tuple place. ap (λ (n : List (Turn × Start)). syn_at n tuple place) kept
          ∙ ((listed tuple).syns place
          ∙ ap (λ (xs : List Item). slice_get (local_syns xs tuple) place) (sym items));
      records = count ∙ sym counted;
    }
