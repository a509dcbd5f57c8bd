-- A step that is made again with its own reply gives the same: a Send reads from it the bytes that it took.
use Rattle.std.proofs.Common.{◌≡◌, ℕ, ◌≤◌, Bool, true, false, cond, eqb, not, ◌&&◌, List, ◌++◌, length, take, min}
use Rattle.std.proofs.Common.{Option, Some, None, refl, sym, ◌∙◌, ap, subst, arith, length-take}
use Rattle.tas_model.specs.declared.entry.Reply.TheVariants as replies
use Rattle.tas_model.specs.Endpoint.{Endpoint, send_room}
use Rattle.tas_model.specs.Segments.{Outcome, unchanged}
use Rattle.tas_model.specs.ApplicationCalls.{Column, Opening, Over, Running, column, send_in}
use Rattle.tas_model.specs.LegalHistory.{step, shown, taken_bytes}
use Rattle.flow_state.specs.declared.call.CallIn.{CallIn}
use Rattle.flow_state.specs.declared.call.CallIn.TheVariants as ins
use Rattle.flow_state.specs.declared.call.Answer.{Answer}
use Rattle.flow_state.specs.declared.call.Answer.TheVariants as answers
use Rattle.flow_state.specs.Calls.{call_of, offer_of, reply_of, answer_of, answer_len, reply_room, need_of, cost_of}
use Rattle.flow_state.specs.declared.parts.Parts.{Parts}
use Rattle.flow_state.specs.Slots.{IsBare}

some_is : {A : Type 0} (x y : A) → ◌≡◌ {A = Option A} (Some x) (Some y) → x ≡ y
some_is x y h = cc (h)

takes_these : (t : Bool) (f : List ℕ → Outcome) (bytes : List ℕ) (o : Outcome)
    → ((xs : List ℕ) → taken_bytes (f xs).reply ≡ xs) → cond t (Some (f bytes)) None ≡ Some o
    → taken_bytes o.reply ≡ bytes
takes_these true f bytes o tells is = ap (λ (x : Outcome). taken_bytes x.reply) (sym (some_is (f bytes) o is))
    ∙ tells bytes
takes_these false f bytes o tells is = absurd (cc (is))

again : (t u : Bool) (a b : Option Outcome) (n : ℕ) (f : List ℕ → Outcome) (bytes : List ℕ) (o : Outcome)
    → ((xs : List ℕ) → taken_bytes (f xs).reply ≡ xs)
    → cond t a (cond u b (cond (eqb (length bytes) n) (Some (f bytes)) None)) ≡ Some o
    → cond t a (cond u b (cond (eqb (length (taken_bytes o.reply)) n) (Some (f (taken_bytes o.reply))) None)) ≡ Some o
again true u a b n f bytes o tells is = is
again false true a b n f bytes o tells is = is
again false false a b n f bytes o tells is =
    subst (λ (xs : List ℕ). cond (eqb (length xs) n) (Some (f xs)) None ≡ Some o)
    (sym (takes_these (eqb (length bytes) n) f bytes o tells is)) is

send_again : (c : Column) (e : Endpoint) (offered : ℕ) (bytes : List ℕ) (o : Outcome)
    → send_in c e offered bytes ≡ Some o → send_in c e offered (taken_bytes o.reply) ≡ Some o
send_again Opening e offered bytes o is = is
send_again (Over why) e offered bytes o is = is
send_again Running e offered bytes o is =
    again e.tx.shut (eqb (min offered (send_room e)) 0 && not (eqb offered 0)) (Some (unchanged e replies.Shut))
    (Some (unchanged e replies.NotYet)) (min offered (send_room e))
    (λ (xs : List ℕ). record {
      state = record e { tx = record (e.tx) { out = e.tx.out ++ xs } };
      reply = replies.Took xs;
    }) bytes o (λ xs. refl) is

pub step_again : (e : Endpoint) (tick : ℕ) (call : CallIn) (o : Outcome)
    → step e tick (call_of call) (shown e (offer_of call)) ≡ Some o → step e tick (call_of call) o.reply ≡ Some o
unfolding step
step_again e tick (ins.Send bytes) o is = send_again (column e) e (length bytes.now) (take (send_room e) bytes.now) o is
step_again e tick _ o is = is

-- the answer is the reply with the number of its bytes
pub answer_is : (a : Answer) (out : List ℕ) → answer_len a ≤ length out → answer_of (reply_of a out) ≡ a
answer_is answers.Ok out fits = refl
answer_is answers.Nothing out fits = refl
answer_is (answers.Sent head len) out fits = ap (λ (n : ℕ). answers.Sent head n) (omega (arith, length-take len out))
answer_is (answers.Took len) out fits = ap (λ (n : ℕ). answers.Took n) (omega (arith, length-take len out))
answer_is (answers.Got len update) out fits = ap (λ (n : ℕ). answers.Got n update) (omega (arith, length-take len out))
answer_is answers.End out fits = refl
answer_is answers.NotYet out fits = refl
answer_is answers.NotOpen out fits = refl
answer_is answers.Shut out fits = refl
answer_is (answers.Closed reason) out fits = refl
answer_is answers.Quiet out fits = refl
answer_is answers.Resend out fits = refl
answer_is answers.Probe out fits = refl
answer_is answers.Expired out fits = refl
answer_is answers.TimedOut out fits = refl
answer_is (answers.Window cwnd ssthresh) out fits = refl

-- of memory a reply reads its own bytes alone
pub same_reply : (a : Answer) (xs ys : List ℕ) → take (answer_len a) xs ≡ take (answer_len a) ys
    → reply_of a xs ≡ reply_of a ys
same_reply (answers.Sent head len) xs ys same = ap (λ bs. replies.Sent (record { head = head; bytes = bs })) same
same_reply (answers.Took len) xs ys same = ap (λ bs. replies.Took bs) same
same_reply (answers.Got len update) xs ys same = ap (λ bs. replies.Got bs update) same
same_reply _ xs ys same = refl

pub need_within_cost : (p : Parts) (call : CallIn) → need_of p call ≤ cost_of p.smss call
need_within_cost p (ins.Send bytes) = omega arith
need_within_cost p (ins.Recv most) = omega arith
need_within_cost p ins.Emit = omega arith
need_within_cost p (ins.Passive frame iss seg) = omega arith
need_within_cost p (ins.Rx frame seg) = omega arith
need_within_cost p _ = omega arith

-- a reply to a received segment has no bytes, as there is no room for any
pub bare_reply : (p : Parts) (call : CallIn) (n : ℕ) → n ≤ reply_room p call → IsBare call n
bare_reply p (ins.Passive frame iss seg) n h = omega arith
bare_reply p (ins.Rx frame seg) n h = omega arith
bare_reply p _ n h = tt
