-- The call by which an entry is tried does what the entry's own call does.
use Rattle.std.proofs.Common.{◌≡◌, ℕ, ◌+◌, ◌≤◌, ◌<◌, Bool, true, false, not, ◌&&◌, cond, List, [], ◌∷◌}
use Rattle.std.proofs.Common.{◌++◌, length, take, min, Option, Some, None, refl, ap, ◌∙◌, arith}
use Rattle.std.proofs.Common.{length-append}
use Rattle.std.proofs.Common.{length-take}
use Rattle.std.specs.Prelude.{◌==◌, nat_lt}
use Rattle.std.proofs.lemmas.Bool.Decides.{nat_tests}
use Rattle.std.proofs.lemmas.List.{append-nil, take_all, take-append-le}
use Rattle.tas_model.specs.declared.entry.Call.{Call}
use Rattle.tas_model.specs.declared.entry.Call.TheVariants as calls
use Rattle.tas_model.specs.declared.entry.Reply.{Reply}
use Rattle.tas_model.specs.declared.entry.Reply.TheVariants as replies
use Rattle.tas_model.specs.Endpoint.{Endpoint, send_room}
use Rattle.tas_model.specs.Segments.{Outcome, unchanged}
use Rattle.tas_model.specs.ApplicationCalls.{Column, Opening, Over, Running, column, send_in}
use Rattle.tas_model.specs.LegalHistory.{step, taken_bytes, Gives, reply_or, shown}
use Rattle.flow_judge.specs.Trials.{offer_by, trial_by, IsWithin}

-- ----- tests on numbers
-- so many fit exactly where one more does not
same_fit : (n k room : ℕ) → k < n → (k == min (k + 1) room) ≡ (k == min n room)
same_fit n k room h = grind (arith, nat_tests, h)

same_none : (n k room : ℕ) → k < n
    → (min (k + 1) room == 0 && not (k + 1 == 0)) ≡ (min n room == 0 && not (n == 0))
same_none n k room h = grind (arith, nat_tests, h)

same_ways : {A : Type 0} (s z y q p : Bool) (a b c d : A) → z ≡ y → q ≡ p
    → cond s a (cond z b (cond q c d)) ≡ cond s a (cond y b (cond p c d))
same_ways s z y q p a b c d ez eq = rw (ez, eq) refl

-- ----- one byte more
abbrev more : Bool → List ℕ
more t = cond t (0 ∷ []) []

-- what is offered
abbrev offered_by : (bytes : List ℕ) → (offered : ℕ) → List ℕ
offered_by bytes offered = bytes ++ more (nat_lt (length bytes) offered)

send_same : (c : Column) (e : Endpoint) (n : ℕ) (bytes : List ℕ) → length bytes ≤ n
    → send_in c e (length (offered_by bytes n)) bytes ≡ send_in c e n bytes
send_same Opening e n bytes within = refl
send_same (Over why) e n bytes within = refl
send_same Running e n bytes within = by_more (nat_lt (length bytes) n) refl where
  by_more : (t : Bool) → nat_lt (length bytes) n ≡ t
      → send_in Running e (length (bytes ++ more t)) bytes ≡ send_in Running e n bytes
  by_more true is =
      let less : length bytes < n = grind (arith, nat_tests, is) in
      let one : length (bytes ++ 0 ∷ []) ≡ length bytes + 1 = length-append bytes (0 ∷ []) in
      ap (λ (k : ℕ). send_in Running e k bytes) one
      ∙ same_ways e.tx.shut _ _ _ _ _ _ _ _ (same_none n (length bytes) (send_room e) less)
      (same_fit n (length bytes) (send_room e) less)
  by_more false is =
      let all : length (bytes ++ []) ≡ n =
      ap (λ (l : List ℕ). length l) (append-nil bytes) ∙ grind (arith, nat_tests, is, within) in
      ap (λ (k : ℕ). send_in Running e k bytes) all

-- The tried call is the same step.
pub same_step : (e : Endpoint) (t : ℕ) (call : Call) (reply : Reply) → IsWithin call reply
    → step e t (trial_by call reply) reply ≡ step e t call reply
unfolding step
same_step e t (calls.Send n) reply within = send_same (column e) e n (taken_bytes reply) within
same_step e t _ reply within = refl

-- ----- what is told
gives_told : (o : Option Outcome) (reply : Reply) → Gives o reply → reply_or o replies.Nothing ≡ reply
gives_told None reply h = absurd h
gives_told (Some o) reply h = h

-- of what is offered, as much is taken
take_shown : (bytes : List ℕ) (t : Bool) (room : ℕ) → length bytes ≡ min (length (bytes ++ more t)) room
    → take room (bytes ++ more t) ≡ bytes
take_shown bytes true room fits =
    let one : length (bytes ++ 0 ∷ []) ≡ length bytes + 1 = length-append bytes (0 ∷ []) in
    let all : room ≡ length bytes = omega (arith, fits, one) in
    ap (λ (k : ℕ). take k (bytes ++ 0 ∷ [])) all
    ∙ (take-append-le (length bytes) bytes (0 ∷ []) (omega arith) ∙ take_all (length bytes) bytes (omega arith))
take_shown bytes false room fits =
    let same : bytes ++ [] ≡ bytes = append-nil bytes in
    let count : length (bytes ++ []) ≡ length bytes = ap (λ (l : List ℕ). length l) same in
    ap (take room) same ∙ take_all room bytes (omega (arith, fits, count))

abbrev took : Endpoint → List ℕ → Outcome
took e bytes = record {
  state = record e { tx = record (e.tx) { out = e.tx.out ++ bytes } };
  reply = replies.Took bytes;
}

-- of a Send that is running
running_told : (e : Endpoint) (o : ℕ) (bytes offer : List ℕ) (reply : Reply) → bytes ≡ taken_bytes reply
    → o ≡ length offer → (length bytes ≡ min o (send_room e) → take (send_room e) offer ≡ bytes)
    → Gives (send_in Running e o bytes) reply
    → reply_or (send_in Running e o (take (send_room e) offer)) replies.Nothing ≡ reply
running_told e o bytes offer reply same count fits h =
    by_tests e.tx.shut (min o (send_room e) == 0 && not (o == 0)) (length bytes == min o (send_room e)) refl h where
      shown_fits : length (take (send_room e) offer) == min o (send_room e) ≡ true
      shown_fits =
          let n : length (take (send_room e) offer) ≡ min (send_room e) (length offer) =
          length-take (send_room e) offer in
          grind (arith, nat_tests, n, count)

      by_tests : (s z q : Bool) → (length bytes == min o (send_room e)) ≡ q
          → Gives (cond s (Some (unchanged e replies.Shut)) (cond z (Some (unchanged e replies.NotYet))
          (cond q (Some (took e bytes)) None))) reply
          → reply_or (cond s (Some (unchanged e replies.Shut)) (cond z (Some (unchanged e replies.NotYet))
          (cond (length (take (send_room e) offer) == min o (send_room e))
          (Some (took e (take (send_room e) offer))) None))) replies.Nothing ≡ reply
      by_tests true z q is h = h
      by_tests false true q is h = h
      by_tests false false false is h = absurd h
      by_tests false false true is h =
          let all : take (send_room e) offer ≡ bytes = fits (grind (arith, nat_tests, is)) in
          rw shown_fits (ap (λ (bs : List ℕ). replies.Took bs) all ∙ h)

send_told : (c : Column) (e : Endpoint) (t : Bool) (reply : Reply)
    → Gives (send_in c e (length (taken_bytes reply ++ more t)) (taken_bytes reply)) reply
    → reply_or (send_in c e (length (taken_bytes reply ++ more t)) (take (send_room e) (taken_bytes reply ++ more t)))
    replies.Nothing ≡ reply
send_told Opening e t reply h = h
send_told (Over why) e t reply h = h
send_told Running e t reply h =
    running_told e (length (taken_bytes reply ++ more t)) (taken_bytes reply) (taken_bytes reply ++ more t) reply refl
    refl (take_shown (taken_bytes reply) t (send_room e)) h

-- Where the endpoint answers so, the tried call gets that reply.
pub told : (e : Endpoint) (t : ℕ) (call : Call) (reply : Reply)
    → Gives (step e t (trial_by call reply) reply) reply
    → reply_or (step e t (trial_by call reply) (shown e (offer_by call reply))) replies.Nothing ≡ reply
unfolding step
told e t (calls.Send n) reply h = send_told (column e) e (nat_lt (length (taken_bytes reply)) n) reply h
told e t call reply h = gives_told (step e t call reply) reply h

-- ----- more taken than offered
took_over : (c : Column) (e : Endpoint) (n : ℕ) (bytes : List ℕ) → n < length bytes
    → Gives (send_in c e n bytes) (replies.Took bytes) → ⊥
took_over Opening e n bytes over h = absurd (cc (h))
took_over (Over why) e n bytes over h = absurd (cc (h))
took_over Running e n bytes over h =
    by_tests e.tx.shut (min n (send_room e) == 0 && not (n == 0)) (length bytes == min n (send_room e)) refl h where
      by_tests : (s z q : Bool) → (length bytes == min n (send_room e)) ≡ q
          → Gives (cond s (Some (unchanged e replies.Shut)) (cond z (Some (unchanged e replies.NotYet))
          (cond q (Some (took e bytes)) None))) (replies.Took bytes) → ⊥
      by_tests true z q is h = absurd (cc (h))
      by_tests false true q is h = absurd (cc (h))
      by_tests false false false is h = absurd h
      by_tests false false true is h = grind (arith, nat_tests, is, over)

-- No endpoint takes more than was offered.
pub send_over : (e : Endpoint) (t n : ℕ) (reply : Reply) → n < length (taken_bytes reply)
    → Gives (step e t (calls.Send n) reply) reply → ⊥
unfolding step
send_over e t n (replies.Took bytes) over h = took_over (column e) e n bytes over h
send_over e t n _ over h = omega (arith, over)
