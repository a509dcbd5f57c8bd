-- The stages of a script, one after the other, of one flow; and what a Send took.
use Rattle.std.proofs.Common.{◌≡◌, ℕ, ◌+◌, ◌-◌, ◌≤◌, ◌++◌, List, length}
use Rattle.std.proofs.Common.{take, min, refl, ap, ◌∙◌, arith, length-append, length-take}
use Rattle.host_rounds.specs.Hosts.{Live}
use Rattle.tas_runs.specs.Records.{Content}
use Rattle.tas_runs.specs.LocalScript.{Accepting, Sending, Shutting, Aborting, Receiving, Leaving, Shown}
use Rattle.tas_runs.specs.LocalScript.{at_stage, shown_after}
use Rattle.local_host.specs.Script.{Served, staged, asked_all}

pair : (l m : Live) (r s : Shown) → l ≡ m → r ≡ s
    → ◌≡◌ {A = Served} (record { live = l; shown = r }) (record { live = m; shown = s })
pair l m r s same shown =
    ap (λ (k : Live). record { live = k; shown = r }) same ∙ ap (λ (q : Shown). record { live = m; shown = q }) shown

pub six_stages : (t : ℕ) (content : Content) (l a b c d e f : Live) (s sent ended : Shown)
    → a ≡ at_stage Accepting t content s l → b ≡ at_stage Sending t content s a
    → sent ≡ shown_after Sending t content a s
    → c ≡ at_stage Shutting t content sent b → ended ≡ shown_after Shutting t content b sent
    → d ≡ at_stage Aborting t content ended c → e ≡ at_stage Receiving t content ended d
    → f ≡ at_stage Leaving t content ended e
    → ◌≡◌ {A = Served} (record { live = f; shown = ended }) (asked_all t content (record { live = l; shown = s }))
unfolding asked_all
six_stages t content l a b c d e f s sent ended first second took third shut fourth fifth sixth =
    pair f (at_stage Leaving t content ended e) ended ended sixth refl
    ∙ ap (λ (p : Served). staged t content p Leaving)
    (pair e (at_stage Receiving t content ended d) ended ended fifth refl
    ∙ ap (λ (p : Served). staged t content p Receiving)
    (pair d (at_stage Aborting t content ended c) ended ended fourth refl
    ∙ ap (λ (p : Served). staged t content p Aborting)
    (pair c (at_stage Shutting t content sent b) ended (shown_after Shutting t content b sent) third shut
    ∙ ap (λ (p : Served). staged t content p Shutting)
    (pair b (at_stage Sending t content s a) sent (shown_after Sending t content a s) second took
    ∙ ap (λ (p : Served). staged t content p Sending) (pair a (at_stage Accepting t content s l) s s first refl)))))

-- ----- Send
-- so many bytes were added
pub added_few : (before after bytes : List ℕ) (n : ℕ) → n ≤ length bytes → after ≡ before ++ take n bytes
    → length after - length before ≡ n
added_few before after bytes n few grown =
    let long : length after ≡ length before + length (take n bytes) = ap length grown
    ∙ length-append before (take n bytes) in
    let short : length (take n bytes) ≡ min n (length bytes) = length-take n bytes in
    omega (arith, few, long, short)

pub none_added : (n : ℕ) → n - n ≡ 0
none_added n = omega arith
