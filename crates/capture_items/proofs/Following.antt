-- The items of the records of a capture, one record after the other.
use Rattle.std.proofs.Common.{◌≡◌, ℕ, ◌+◌, Bool, List, [], ◌∷◌, ◌++◌, Option, Some, None, Result, Ok, Err, IsOk, refl}
use Rattle.std.proofs.Common.{rules, ◌≤◌, ap, ◌∙◌, subst, length, drop, arith}
use Rattle.std.specs.List.{cons_option}
use Rattle.std.proofs.lemmas.List.Elements.{filter_map-append}
use Rattle.tas_num.specs.Captures.{Fault, Form, Record, Next, first_record, records_from, joined}
use Rattle.pcap_frames.proofs.Following.{records_from_next, records_from_ends, records_from_refused}
use Rattle.tas_runs.specs.Records.{Item, item_of, items_of}
use Rattle.pcap_frames.specs.Views.{form_in, next_in, record_in}
use Rattle.pcap_frames.specs.declared.capture.RecordView.{RecordView}
use Rattle.capture_items.specs.Items.{items_among, items_from}
use Rattle.capture_items.specs.Reading.{IsReadable}
use Rattle.capture_items.specs.declared.reader.ItemReader.TheInside.{Inside}

pub items_of-push : (form : Form) (local : ℕ) (loose : Bool) (xs : List Record) (x : Record)
    → items_of form local loose (xs ++ x ∷ [])
    ≡ items_of form local loose xs ++ cons_option (item_of form local loose x) []
unfolding items_of
items_of-push form local loose xs x = filter_map-append (item_of form local loose) xs (x ∷ [])

-- ----- the items that are left
among_joined : (form : Form) (local : ℕ) (loose : Bool) (x : Record) (r : Result (List Record) Fault)
    → IsOk (joined (x ∷ []) r)
    → IsOk r × (items_among form local loose (joined (x ∷ []) r)
    ≡ cons_option (item_of form local loose x) (items_among form local loose r))
unfolding items_of
among_joined form local loose x (Ok more) ok = (search rules, refl)
among_joined form local loose x (Err fault) ok = absurd (search rules)

-- those of the first record, and of the records after it
pub left_next : (form : Form) (local : ℕ) (loose : Bool) (number : ℕ) (b : List ℕ) (next : Next)
    → first_record form number b ≡ Ok (Some next) → IsOk (records_from form number b)
    → IsOk (records_from form (number + 1) next.rest)
    × (items_from form local loose number b
    ≡ cons_option (item_of form local loose next.item) (items_from form local loose (number + 1) next.rest))
left_next form local loose number b next found whole =
    let follow = records_from_next form number b next found in
    let rest = among_joined form local loose next.item (records_from form (number + 1) next.rest)
    (subst (λ (r : Result (List Record) Fault). IsOk r) follow whole) in
    (rest.0, ap (items_among form local loose) follow ∙ rest.1)

-- none where no byte is left
pub left_ends : (form : Form) (local : ℕ) (loose : Bool) (number : ℕ) (b : List ℕ)
    → first_record form number b ≡ Ok None → items_from form local loose number b ≡ []
unfolding items_of
left_ends form local loose number b none = ap (items_among form local loose) (records_from_ends form number b none)

-- no record is refused where all can be read
never_both : (r : Result (List Record) Fault) (fault : Fault) → r ≡ Err fault → IsOk r → ⊥
never_both (Ok records) fault refused whole = absurd (cc (refused))
never_both (Err other) fault refused whole = absurd (search rules)

pub left_whole : (form : Form) (number : ℕ) (b : List ℕ) (fault : Fault)
    → first_record form number b ≡ Err fault → IsOk (records_from form number b) → ⊥
left_whole form number b fault refused whole =
    never_both (records_from form number b) fault (records_from_refused form number b fault refused) whole

-- ----- places in a capture
-- the place behind the record that stands here
abbrev pub behind : Inside → RecordView → Inside
behind r view = record {
  header = r.header;
  bytes = r.bytes;
  at = view.next;
  records = r.records + 1;
  local = r.local;
  loose = r.loose;
}

-- the items from a place on
abbrev pub items_at : Inside → List Item
items_at r = items_from (form_in r.header) r.local r.loose (r.records + 1) (drop r.at r.bytes.now)

pub behind_readable : (r : Inside) (view : RecordView) → IsReadable r
    → first_record (form_in r.header) (r.records + 1) (drop r.at r.bytes.now) ≡ Ok (Some (next_in r.bytes.now view))
    → (r.at + 16 ≤ view.next) × (view.next ≤ length r.bytes.now) → IsReadable (behind r view)
behind_readable r view is found next =
    record {
      place = next.1;
      small = is.small;
      few = omega (arith, is.few, next.0);
      whole = (left_next (form_in r.header) r.local r.loose (r.records + 1) _ (next_in r.bytes.now view) found
          is.whole).0;
    }

pub items_behind : (r : Inside) (view : RecordView) → IsReadable r
    → first_record (form_in r.header) (r.records + 1) (drop r.at r.bytes.now) ≡ Ok (Some (next_in r.bytes.now view))
    → (o : Option Item) → item_of (form_in r.header) r.local r.loose (record_in view) ≡ o
    → items_at r ≡ cons_option o (items_at (behind r view))
items_behind r view is found o made =
    (left_next (form_in r.header) r.local r.loose (r.records + 1) _ (next_in r.bytes.now view) found is.whole).1
    ∙ ap (λ (p : Option Item). cons_option p (items_at (behind r view))) made
