-- What the next piece tells of the endpoint, and the bytes that go with it.
use Rattle.std.proofs.Common.{◌≡◌, ℕ, ◌+◌, ◌-◌, ◌≤◌, ◌<◌, ◌==◌, ◌&&◌, Bool, true, false, cond, eqb, nat_lt, min}
use Rattle.std.proofs.Common.{List}
use Rattle.std.proofs.Common.{length, take, drop, Option, Some, None, is_some, IsSome, ◌↔◌, refl, sym, ◌∙◌, ap, subst}
use Rattle.std.proofs.Common.{arith, tests, length-take, length-drop, true≢false}
use Rattle.std.proofs.lemmas.List.{drop-drop}
use Rattle.tas_model.specs.Endpoint.{Endpoint}
use Rattle.tas_model.specs.ApplicationCalls.{Column, Opening, Over, Running, column}
use Rattle.tas_model.specs.NextSegment.{Going, going, emitted}
use Rattle.flow_state.specs.declared.call.CallIn.TheVariants as ins
use Rattle.tas_model.specs.declared.entry.Reply.TheVariants as replies
use Rattle.flow_state.specs.declared.call.Answer.TheVariants as answers
use Rattle.flow_state.specs.Made.{IsStep}
use Rattle.tas_model.specs.Valid.{Valid}
use Rattle.flow_state.specs.declared.stage.Stage.{Stage}
use Rattle.flow_state.specs.declared.stage.Stage.TheVariants as stages
use Rattle.flow_state.specs.App.{stage_by}
use Rattle.flow_state.specs.declared.parts.Parts.{Parts}
use Rattle.flow_state.specs.Stands.{Stands, acked_bytes}
use Rattle.fast_tx.specs.declared.piece.Piece.{Piece}
use Rattle.fast_tx.specs.declared.piece.Piece.TheVariants as pieces
use Rattle.fast_tx.specs.Piece.{IsEmission, in_flight, is_next, bytes_waiting, bytes_due, is_probe_due, is_fin_due}
use Rattle.fast_tx.specs.Piece.{piece_at, piece_len, next_piece}
use Rattle.tas_model.specs.declared.entry.Head.{Head}
use Rattle.fast_tx.specs.declared.emission.Out.{Out}
use Rattle.fast_tx.specs.Going.{going_as, going_by, out_of, HasGone, WasNext}
use Rattle.fast_tx.proofs.Columns.{stage_of, parts_stage, past_syn, before_syn}
use Rattle.fast_tx.proofs.Alike.{next_is, flight_is, kept_is, waiting_is, max_within, piece_is_next}

-- bytes go from a running endpoint, where some wait
pub record SendsBytes (p : Parts) (e : Endpoint) (n : ℕ) : Type 0 where
  pub running : column e ≡ Running
  pub fits : n ≤ bytes_waiting p
  pub some : 0 < bytes_waiting p

abbrev pub Tells : Piece → Parts → Endpoint → Type 0
Tells pieces.Syn p e = (column e ≡ Opening) × (e.tx.nxt ≡ 0)
Tells (pieces.Data n) p e = SendsBytes p e n
Tells pieces.Probe p e = SendsBytes p e 1
Tells pieces.Fin p e = column e ≡ Running

some_is : (x y : Piece) → ◌≡◌ {A = Option Piece} (Some x) (Some y) → x ≡ y
some_is x y h = cc (h)

is_zero : (n : ℕ) (b : Bool) → b ≡ eqb n 0 → ◌≡◌ {A = Option Piece} (cond b (Some pieces.Syn) None) (Some pieces.Syn)
    → n ≡ 0
is_zero n true t is = grind (arith, tests, sym t)
is_zero n false t is = absurd (cc (is))

only_syn : (b : Bool) (piece : Piece) → ◌≡◌ {A = Option Piece} (cond b (Some pieces.Syn) None) (Some piece)
    → piece ≡ pieces.Syn
only_syn true piece is = sym (some_is pieces.Syn piece is)
only_syn false piece is = absurd (cc (is))

opening_tells : (p : Parts) (e : Endpoint) (piece : Piece) → Valid e → Stands p e → column e ≡ Opening
    → cond (is_next p 0) (Some pieces.Syn) None ≡ Some piece → Tells piece p e
opening_tells p e pieces.Syn v s c is = (
  c,
  is_zero e.tx.nxt (is_next p 0) (next_is p e 0 s
      (omega (arith, before_syn e v c, max_within e v, v.tx.nxt, v.tx.room, v.fits.ring.1)) (omega arith)) is,
)
opening_tells p e (pieces.Data n) v s c is = absurd (cc (only_syn (is_next p 0) (pieces.Data n) is))
opening_tells p e pieces.Probe v s c is = absurd (cc (only_syn (is_next p 0) pieces.Probe is))
opening_tells p e pieces.Fin v s c is = absurd (cc (only_syn (is_next p 0) pieces.Fin is))

due_fits : (p : Parts) → nat_lt 0 (bytes_due p) ≡ true → (bytes_due p ≤ bytes_waiting p) × (0 < bytes_waiting p)
due_fits p t = grind (arith, tests, t)

probe_tests : (a b c d f : Bool) → (a && b && c && d && f) ≡ true → (d ≡ true) × (f ≡ true)
probe_tests true true true true f t = (refl, t)
probe_tests true true true false f t = absurd (true≢false (sym t))
probe_tests true true false d f t = absurd (true≢false (sym t))
probe_tests true false c d f t = absurd (true≢false (sym t))
probe_tests false b c d f t = absurd (true≢false (sym t))

-- a probe is due where a byte waits and a segment may have one
probe_is : (p : Parts) → is_probe_due p ≡ true → (nat_lt 0 (bytes_waiting p) ≡ true) × (nat_lt 0 p.smss ≡ true)
probe_is p due =
    probe_tests p.probe (p.window == 0) (in_flight p == 0) (nat_lt 0 (bytes_waiting p)) (nat_lt 0 p.smss) due

one_waits : (n : ℕ) → nat_lt 0 n ≡ true → (1 ≤ n) × (0 < n)
one_waits n t = grind (arith, tests, t)

running_tells : (p : Parts) (e : Endpoint) (piece : Piece) (z t u : Bool) → column e ≡ Running
    → nat_lt 0 (bytes_due p) ≡ z → is_probe_due p ≡ t
    → ◌≡◌ {A = Option Piece} (cond z (Some (pieces.Data (bytes_due p)))
    (cond t (Some pieces.Probe) (cond u (Some pieces.Fin) None))) (Some piece) → Tells piece p e
running_tells p e piece true t u c due probe is =
    subst (λ (x : Piece). Tells x p e) (some_is (pieces.Data (bytes_due p)) piece is)
    (record { running = c; fits = (due_fits p due).0; some = (due_fits p due).1 })
running_tells p e piece false true u c due probe is =
    let waits = (probe_is p probe).0 in
    subst (λ (x : Piece). Tells x p e) (some_is pieces.Probe piece is)
    (record {
      running = c;
      fits = (one_waits (bytes_waiting p) waits).0;
      some = (one_waits (bytes_waiting p) waits).1;
    })
running_tells p e piece false false true c due probe is =
    subst (λ (x : Piece). Tells x p e) (some_is pieces.Fin piece is) c
running_tells p e piece false false false c due probe is = absurd (cc (is))

tells_in : (c : Column) (p : Parts) (e : Endpoint) (piece : Piece) → Valid e → Stands p e → column e ≡ c
    → piece_at (stage_of c) p ≡ Some piece → Tells piece p e
tells_in Opening p e piece v s c is = opening_tells p e piece v s c is
tells_in (Over why) p e piece v s c is = absurd (cc (is))
tells_in Running p e piece v s c is =
    running_tells p e piece (nat_lt 0 (bytes_due p)) (is_probe_due p) (is_fin_due p) c refl refl is

pub tells : (p : Parts) (e : Endpoint) (piece : Piece) → Valid e → Stands p e → next_piece p ≡ Some piece
    → Tells piece p e
tells p e piece v s is = tells_in (column e) p e piece v s refl
    (ap (λ (g : Stage). piece_at g p) (sym (parts_stage p e s)) ∙ is)

-- ----- how many bytes go
-- no more than a segment's, nor than the ring holds
abbrev Fits : Parts → Piece → Type 0
Fits p piece = piece_len piece ≤ min p.smss (length p.tx.bytes)

running_fits : (p : Parts) (piece : Piece) (z t u : Bool) → is_probe_due p ≡ t
    → ◌≡◌ {A = Option Piece} (cond z (Some (pieces.Data (bytes_due p)))
    (cond t (Some pieces.Probe) (cond u (Some pieces.Fin) None))) (Some piece) → Fits p piece
running_fits p piece true t u probe is =
    subst (Fits p) (some_is (pieces.Data (bytes_due p)) piece is) (omega arith)
running_fits p piece false true u probe is =
    let due = probe_is p probe in
    subst (Fits p) (some_is pieces.Probe piece is)
    (omega (arith, (one_waits (bytes_waiting p) due.0).0, (one_waits p.smss due.1).0))
running_fits p piece false false true probe is = subst (Fits p) (some_is pieces.Fin piece is) (omega arith)
running_fits p piece false false false probe is = absurd (cc (is))

fits_at : (g : Stage) (p : Parts) (piece : Piece) → piece_at g p ≡ Some piece → Fits p piece
fits_at stages.Opening p piece is = subst (Fits p) (sym (only_syn (is_next p 0) piece is)) (omega arith)
fits_at (stages.Over reason) p piece is = absurd (cc (is))
fits_at stages.Running p piece is =
    running_fits p piece (nat_lt 0 (bytes_due p)) (is_probe_due p) (is_fin_due p) refl is

pub piece_fits : (p : Parts) (piece : Piece) → next_piece p ≡ Some piece → Fits p piece
piece_fits p piece is = fits_at (stage_by p.reason p.phase) p piece is

-- ----- the bytes
place_is : (p : Parts) (e : Endpoint) (n : ℕ) → Valid e → Stands p e → SendsBytes p e n
    → acked_bytes e.tx + in_flight p ≡ e.tx.nxt - 1
place_is p e n v s b = omega (arith, past_syn e b.running, flight_is p e v s, kept_is p e s, v.tx.una, b.some)

stretch_is : (p : Parts) (e : Endpoint) (n m : ℕ) → Valid e → Stands p e → SendsBytes p e n
    → take m (drop (in_flight p) p.tx.bytes) ≡ take m (drop (e.tx.nxt - 1) e.tx.out)
stretch_is p e n m v s b =
    ap (λ (xs : List ℕ). take m (drop (in_flight p) xs)) s.tx.bytes
    ∙ (ap (take m) (drop-drop (in_flight p) (acked_bytes e.tx) e.tx.out)
    ∙ ap (λ (k : ℕ). take m (drop k e.tx.out)) (place_is p e n v s b))

pub bytes_are : (p : Parts) (e : Endpoint) (piece : Piece) → Valid e → Stands p e → Tells piece p e
    → take (piece_len piece) (drop (in_flight p) p.tx.bytes) ≡ (going_as piece e).seg.bytes
bytes_are p e pieces.Syn v s b = refl
bytes_are p e (pieces.Data n) v s b = stretch_is p e n n v s b
bytes_are p e pieces.Probe v s b = stretch_is p e 1 1 v s b
bytes_are p e pieces.Fin v s b = refl

count_is : (n k : ℕ) (out : List ℕ) → n ≤ length out - k → length (take n (drop k out)) ≡ n
count_is n k out fits = omega (arith, length-take n (drop k out), length-drop k out)

pub len_is : (p : Parts) (e : Endpoint) (piece : Piece) → Valid e → Stands p e → Tells piece p e
    → piece_len piece ≡ length (going_as piece e).seg.bytes
len_is p e pieces.Syn v s b = refl
len_is p e (pieces.Data n) v s b =
    sym (count_is n (e.tx.nxt - 1) e.tx.out (omega (arith, b.fits, waiting_is p e v s (past_syn e b.running))))
len_is p e pieces.Probe v s b =
    sym (count_is 1 (e.tx.nxt - 1) e.tx.out (omega (arith, b.fits, waiting_is p e v s (past_syn e b.running))))
len_is p e pieces.Fin v s b = refl

-- the next segment, where the piece is known
pub going_is : (p : Parts) (e : Endpoint) (piece : Piece) → Valid e → Stands p e → next_piece p ≡ Some piece
    → going e ≡ Some (going_as piece e)
going_is p e piece v s is = piece_is_next p e v s ∙ ap (λ (o : Option Piece). going_by o e) is

pub going_none : (p : Parts) (e : Endpoint) → Valid e → Stands p e → next_piece p ≡ None → going e ≡ None
going_none p e v s is = piece_is_next p e v s ∙ ap (λ (o : Option Piece). going_by o e) is

pub same_out : (head : Head) (len : ℕ) (g : Going) → head ≡ g.seg.head → len ≡ length g.seg.bytes
    → ◌≡◌ {A = Out} (record { head = head; len = len }) (out_of g)
same_out head len g a b = rw (a, b) refl

-- the segment went
pub has_gone : (p : Parts) (e : Endpoint) (piece : Piece) (after : Parts) (sent : Out) (out : List ℕ) → Valid e
    → Stands p e → next_piece p ≡ Some piece
    → sent ≡ out_of (going_as piece e) → sent.len ≡ piece_len piece
    → take sent.len out ≡ take sent.len (drop (in_flight p) p.tx.bytes) → Stands after (going_as piece e).after
    → HasGone after sent out (going_as piece e)
has_gone p e piece after sent out v s is told count copied stands = record {
  out_is = told;
  bytes = copied ∙ (ap (λ (n : ℕ). take n (drop (in_flight p) p.tx.bytes)) count
      ∙ bytes_are p e piece v s (tells p e piece v s is));
  after = stands;
}

-- the endpoint once the bucket paid for n bytes
abbrev pub paid : Endpoint → (n : ℕ) → Endpoint
paid e n = record e { rate = record (e.rate) { tokens = e.rate.tokens - n } }

sent_is : (sent : Out) (bytes : List ℕ) (g : Going) → sent ≡ out_of g → bytes ≡ g.seg.bytes
    → replies.Sent g.seg ≡ replies.Sent (record { head = sent.head; bytes = bytes })
sent_is sent bytes g a b = rw (a, b) refl

-- what went is the step of Emit
pub emission_is : (e : Endpoint) (piece : Piece) (after : Parts) (sent : Out) (out : List ℕ)
    → going e ≡ Some (going_as piece e) → HasGone after sent out (going_as piece e)
    → IsStep after (answers.Sent sent.head sent.len) out (emitted (going e))
emission_is e piece after sent out is went =
    subst (λ (o : Option Going). IsStep after (answers.Sent sent.head sent.len) out (emitted o)) (sym is) (record {
      reply = sent_is sent (take sent.len out) (going_as piece e) went.out_is went.bytes;
      state = went.after;
    })

-- and is the next segment
pub next_gone : (e : Endpoint) (piece : Piece) (after : Parts) (sent : Out) (out : List ℕ)
    → going e ≡ Some (going_as piece e) → HasGone after sent out (going_as piece e) → WasNext after sent out (going e)
next_gone e piece after sent out is went = subst (WasNext after sent out) (sym is) went

is_as : (o : Option Piece) (e : Endpoint) → is_some (going_by o e) ≡ is_some o
is_as None e = refl
is_as (Some piece) e = refl

-- the engine serves an Emit exactly where the model has a next segment
pub serves_is : (p : Parts) (e : Endpoint) → Valid e → Stands p e → IsEmission p ins.Emit ↔ IsSome (going e)
serves_is p e v s =
    let same : is_some (going e) ≡ is_some (next_piece p) = ap (λ (o : Option Going). is_some o) (piece_is_next p e v s)
    ∙ is_as (next_piece p) e in
    (λ h. same ∙ h, λ h. sym same ∙ h)
