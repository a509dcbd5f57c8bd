-- The piece that the parts tell is the segment of the model.
use Rattle.std.proofs.Common.{◌≡◌, ℕ, ◌+◌, ◌-◌, ◌%◌, ◌^◌, ◌≤◌, ◌<◌, ◌==◌, ◌&&◌, Bool, true, false, cond, eqb, nat_lt}
use Rattle.std.proofs.Common.{length, min, Option, Some, None, refl, sym, ◌∙◌, ap, arith, length-drop}
use Rattle.std.proofs.lemmas.Bool.Decides.{nat_tests}
use Rattle.payload_ring.specs.Window.{end_of}
use Rattle.tas_num.specs.declared.seq.Seq.{Seq}
use Rattle.tas_model.specs.declared.entry.Reason.{Reason}
use Rattle.tas_model.specs.Endpoint.{Endpoint, Rate}
use Rattle.tas_model.specs.ApplicationCalls.{Column, Opening, Over, Running, column, column_by}
use Rattle.tas_model.specs.NextSegment.{Going, going, going_in, going_running, going_data, going_probe, going_fin}
use Rattle.tas_model.specs.NextSegment.{waiting, data_len}
use Rattle.tas_model.specs.Valid.{Valid, IsPaced}
use Rattle.flow_state.specs.declared.stage.Stage.{Stage}
use Rattle.flow_state.specs.declared.parts.Parts.{Parts}
use Rattle.flow_state.specs.Stands.{Stands, acked_bytes}
use Rattle.fast_tx.specs.declared.piece.Piece.{Piece}
use Rattle.fast_tx.specs.declared.piece.Piece.TheVariants as pieces
use Rattle.fast_tx.specs.Piece.{in_flight, is_next, bytes_waiting, bytes_due, is_probe_due, is_fin_due, piece_at}
use Rattle.fast_tx.specs.Piece.{next_piece, running_piece}
use Rattle.fast_tx.specs.Going.{going_as, going_by}
use Rattle.fast_tx.proofs.Columns.{stage_of, parts_stage, shut_told, past_syn, before_syn}

-- ----- how far places go
fin_at_most : (b : Bool) (m n : ℕ) → m ≤ n + 1 + cond b 1 0 → m ≤ n + 2
fin_at_most true m n h = omega arith
fin_at_most false m n h = omega arith

-- nothing is sent past the FIN
pub max_within : (e : Endpoint) → Valid e → e.tx.max ≤ length e.tx.out + 2
max_within e v = fin_at_most e.tx.shut e.tx.max (length e.tx.out) v.tx.max

-- the next place is near the highest
pub nxt_near : (e : Endpoint) → Valid e → e.tx.max < e.tx.nxt + 2 ^ 32
nxt_near e v = omega (arith, max_within e v, v.tx.una, v.tx.nxt, v.tx.room, v.fits.ring.1)

pub flight_is : (p : Parts) (e : Endpoint) → Valid e → Stands p e → in_flight p ≡ e.tx.nxt - e.tx.una
flight_is p e v s =
    let una : p.una.0 ≡ (e.iss + e.tx.una) % 2 ^ 32 = ap (λ (q : Seq). q.0) s.una in
    let nxt : p.nxt.0 ≡ (e.iss + e.tx.nxt) % 2 ^ 32 = ap (λ (q : Seq). q.0) s.nxt in
    omega (arith, una, nxt, max_within e v, v.tx.una, v.tx.nxt, v.tx.room, v.fits.ring.1)

-- how many bytes the ring keeps, and the place past them
pub kept_is : (p : Parts) (e : Endpoint) → Stands p e → length p.tx.bytes ≡ length e.tx.out - acked_bytes e.tx
kept_is p e s = omega (arith, ap (length {A = ℕ}) s.tx.bytes, length-drop (acked_bytes e.tx) e.tx.out)

pub end_is : (p : Parts) (e : Endpoint) → Stands p e → end_of p.tx ≡ length e.tx.out
end_is p e s = omega (arith, kept_is p e s, s.tx.base)

pub waiting_is : (p : Parts) (e : Endpoint) → Valid e → Stands p e → 1 ≤ e.tx.una → bytes_waiting p ≡ waiting e.tx
waiting_is p e v s some = omega (arith, flight_is p e v s, kept_is p e s, max_within e v, v.tx.una, v.tx.nxt)

left_by : (w v flight una nxt : ℕ) → w ≡ v → flight ≡ nxt - una → una ≤ nxt → w - flight ≡ una + v - nxt
left_by w v flight una nxt same f u = omega arith

least : (a a2 b b2 c c2 d d2 f f2 : ℕ) → a ≡ a2 → b ≡ b2 → c ≡ c2 → d ≡ d2 → f ≡ f2
    → min a (min b (min c (min d f))) ≡ min a2 (min b2 (min c2 (min d2 f2)))
least a a2 b b2 c c2 d d2 f f2 ea eb ec ed ef = rw (ea, eb, ec, ed, ef) refl

due_is : (p : Parts) (e : Endpoint) → Valid e → Stands p e → 1 ≤ e.tx.una → bytes_due p ≡ data_len e
due_is p e v s some =
    least p.smss e.rate.mss (bytes_waiting p) (waiting e.tx) (p.window - in_flight p)
    (e.tx.una + e.tx.window - e.tx.nxt) (p.cwnd - in_flight p)
    (e.tx.una + e.rate.cwnd - e.tx.nxt) p.bucket.tokens e.rate.tokens
    s.smss (waiting_is p e v s some) (left_by p.window e.tx.window (in_flight p) e.tx.una e.tx.nxt s.window
    (flight_is p e v s) v.tx.una) (left_by p.cwnd e.rate.cwnd (in_flight p) e.tx.una e.tx.nxt s.cwnd
    (flight_is p e v s) v.tx.una) s.tokens

-- all bytes are near the next place
pub end_near : (e : Endpoint) → Valid e → 1 + length e.tx.out < e.tx.nxt + 2 ^ 32
end_near e v = omega (arith, v.tx.una, v.tx.room, v.fits.ring.1)

mss_by : (r : Option Reason) (peer : Option ℕ) (una : ℕ) (rate : Rate) → column_by r peer una ≡ Running
    → IsPaced peer rate → 64 ≤ rate.mss
mss_by (Some why) peer una rate c v = absurd (cc (c))
mss_by None None una rate c v = absurd (cc (c))
mss_by None (Some first) una rate c v = v.mss.0

paced_mss : (e : Endpoint) → Valid e → column e ≡ Running → 64 ≤ e.rate.mss
paced_mss e v c = mss_by e.reason e.peer e.tx.una e.rate c v.paced

-- ----- the tests
next_by : (iss nxt place : ℕ) → nxt < place + 2 ^ 32 → place < nxt + 2 ^ 32
    → eqb ((iss + nxt) % 2 ^ 32) ((iss + place) % 2 ^ 32) ≡ eqb nxt place
next_by iss nxt place near far = grind (arith, nat_tests)

pub next_is : (p : Parts) (e : Endpoint) (place : ℕ) → Stands p e → e.tx.nxt < place + 2 ^ 32
    → place < e.tx.nxt + 2 ^ 32 → is_next p place ≡ eqb e.tx.nxt place
next_is p e place s near far =
    let nxt : p.nxt.0 ≡ (e.iss + e.tx.nxt) % 2 ^ 32 = ap (λ (q : Seq). q.0) s.nxt in
    ap (λ (n : ℕ). eqb n ((p.iss.0 + place) % 2 ^ 32)) nxt
    ∙ (ap (λ (i : ℕ). eqb ((e.iss + e.tx.nxt) % 2 ^ 32) ((i + place) % 2 ^ 32)) s.iss
    ∙ next_by e.iss e.tx.nxt place near far)

probe_by : (a b : Bool) (flight nxt una n m mss : ℕ) → flight ≡ nxt - una → una ≤ nxt → n ≡ m → 64 ≤ mss
    → (a && b && eqb flight 0 && nat_lt 0 n && nat_lt 0 mss) ≡ (a && b && eqb nxt una && nat_lt 0 m)
probe_by false b flight nxt una n m mss f u w some = refl
probe_by true false flight nxt una n m mss f u w some = refl
probe_by true true flight nxt una n m mss f u w some = grind (arith, nat_tests)

-- ----- the choice
abbrev chosen : (n : ℕ) (t u : Bool) → Option Piece
chosen n t u = cond (nat_lt 0 n) (Some (pieces.Data n)) (cond t (Some pieces.Probe) (cond u (Some pieces.Fin) None))

choice : (e : Endpoint) (n : ℕ) (z t u : Bool)
    → ◌≡◌ {A = Option Going} (cond z (Some (going_data e n))
    (cond t (Some (going_probe e)) (cond u (Some (going_fin e)) None)))
    (going_by (cond z (Some (pieces.Data n)) (cond t (Some pieces.Probe) (cond u (Some pieces.Fin) None))) e)
choice e n true t u = refl
choice e n false true u = refl
choice e n false false true = refl
choice e n false false false = refl

-- the tests of the model, in place of those of the parts
told : (p : Parts) (e : Endpoint) → Valid e → Stands p e → column e ≡ Running
    → running_piece p ≡ chosen (data_len e) (e.tx.probe && e.tx.window == 0 && e.tx.nxt == e.tx.una
    && nat_lt 0 (waiting e.tx)) (e.tx.shut && e.tx.nxt == 1 + length e.tx.out)
told p e v s c =
    let some : 1 ≤ e.tx.una = past_syn e c in
    let mss : 64 ≤ e.rate.mss = paced_mss e v c in
    let due : bytes_due p ≡ data_len e = due_is p e v s some in
    let probe : is_probe_due p ≡ (e.tx.probe && e.tx.window == 0 && e.tx.nxt == e.tx.una && nat_lt 0 (waiting e.tx)) =
    ap (λ (b : Bool). b && p.window == 0 && in_flight p == 0 && nat_lt 0 (bytes_waiting p) && nat_lt 0 p.smss) s.probe
    ∙ (
    ap (λ (w : ℕ). e.tx.probe && w == 0 && in_flight p == 0 && nat_lt 0 (bytes_waiting p) && nat_lt 0 p.smss) s.window ∙
    probe_by e.tx.probe (e.tx.window == 0) (in_flight p) e.tx.nxt e.tx.una (bytes_waiting p) (waiting e.tx) p.smss
    (flight_is p e v s) v.tx.una (waiting_is p e v s some) (omega (arith, mss, s.smss))) in
    let fin : is_fin_due p ≡ (e.tx.shut && e.tx.nxt == 1 + length e.tx.out) =
    ap (λ (b : Bool). b && is_next p (1 + end_of p.tx)) (shut_told p e s c) ∙ (
    ap (λ (n : ℕ). e.tx.shut && is_next p (1 + n)) (end_is p e s) ∙
    ap (λ (b : Bool). e.tx.shut && b) (next_is p e (1 + length e.tx.out) s (omega (arith, max_within e v, v.tx.nxt))
    (end_near e v))) in
    ap (λ (n : ℕ). chosen n (is_probe_due p) (is_fin_due p)) due
    ∙ (ap (λ (t : Bool). chosen (data_len e) t (is_fin_due p)) probe
    ∙ ap (chosen (data_len e) (e.tx.probe && e.tx.window == 0 && e.tx.nxt == e.tx.una && nat_lt 0 (waiting e.tx)))
    fin)

running : (p : Parts) (e : Endpoint) → Valid e → Stands p e → column e ≡ Running
    → going_running e ≡ going_by (running_piece p) e
running p e v s c = choice e (data_len e) (nat_lt 0 (data_len e)) _ _
    ∙ ap (λ (o : Option Piece). going_by o e) (sym (told p e v s c))

open_choice : (e : Endpoint) (b : Bool)
    → ◌≡◌ {A = Option Going} (cond b (Some (going_as pieces.Syn e)) None) (going_by (cond b (Some pieces.Syn) None) e)
open_choice e true = refl
open_choice e false = refl

by_column : (c : Column) (p : Parts) (e : Endpoint) → Valid e → Stands p e → column e ≡ c
    → going_in c e ≡ going_by (piece_at (stage_of c) p) e
by_column Opening p e v s c =
    let first : e.tx.una ≡ 0 = before_syn e v c in
    let same : is_next p 0 ≡ eqb e.tx.nxt 0 =
    next_is p e 0 s (omega (arith, first, max_within e v, v.tx.nxt, v.tx.room, v.fits.ring.1)) (omega arith) in
    open_choice e (eqb e.tx.nxt 0) ∙ ap (λ (b : Bool). going_by (cond b (Some pieces.Syn) None) e) (sym same)
by_column (Over why) p e v s c = refl
by_column Running p e v s c = running p e v s c

pub piece_is_next : (p : Parts) (e : Endpoint) → Valid e → Stands p e → going e ≡ going_by (next_piece p) e
unfolding going
piece_is_next p e v s = by_column (column e) p e v s refl
    ∙ ap (λ (g : Stage). going_by (piece_at g p) e) (sym (parts_stage p e s))
