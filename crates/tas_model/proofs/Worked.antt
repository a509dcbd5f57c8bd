-- The worked histories are legal, by computation.
use Rattle.std.proofs.Common.{◌≡◌, ℕ, Bool, true, false, ◌&&◌, leb, List, [], ◌∷◌, ◌++◌, map, Option, Some, None}
use Rattle.std.proofs.Common.{option_map, refl, sym, ap, ◌∙◌, arith, true≢false}
use Rattle.std.proofs.lemmas.Bool.Decides.{nat_tests}
use Rattle.tas_num.specs.Places.{nearest}
use Rattle.tas_model.specs.declared.entry.HostParams.{HostParams}
use Rattle.tas_model.specs.declared.entry.Entry.{Entry}
use Rattle.tas_model.specs.declared.entry.Reply.{Reply}
use Rattle.tas_model.specs.Endpoint.{Endpoint}
use Rattle.tas_model.specs.Segments.{Outcome}
use Rattle.tas_model.specs.Receive.{rx, rx_later, rx_syn_sent}
use Rattle.tas_model.specs.NextSegment.{going}
use Rattle.tas_model.specs.Timers.{ticks, control}
use Rattle.tas_model.specs.LegalHistory.{step, moved, replay, opened, next_number, last_tick, Gives, IsFirst, Legal}
use Rattle.tas_model.specs.LegalHistory.{LegalAfter}
use Rattle.tas_model.specs.WorkedHistories.{replay_params, host_params, three_packets, data_out_of_order}
use Rattle.tas_model.specs.WorkedHistories.{three_duplicates, client_of_hello, server_of_hello}
use Rattle.tas_model.proofs.Histories.{replay_on_push}

-- ----- what a legal history shows, computed in one pass
-- the replies that the steps give
abbrev replies_from : Endpoint → List Entry → List (Option Reply)
replies_from e [] = []
replies_from e (x ∷ xs) = option_map (λ (o : Outcome). o.reply) (step e x.tick x.call x.reply)
    ∷ replies_from (moved e x) xs

-- the numbers that the callers' entries have next
abbrev numbers_from : (earlier xs : List Entry) → List ℕ
numbers_from earlier [] = []
numbers_from earlier (x ∷ xs) = next_number x.caller earlier ∷ numbers_from (earlier ++ x ∷ []) xs

abbrev ticks_rise : ℕ → List Entry → Bool
ticks_rise t [] = true
ticks_rise t (x ∷ xs) = leb t x.tick && ticks_rise x.tick xs

-- ----- and that is enough
head_or : {X : Type 0} → X → List X → X
head_or d [] = d
head_or d (x ∷ xs) = x

tail_of : {X : Type 0} → List X → List X
tail_of [] = []
tail_of (x ∷ xs) = xs

same_head : {X : Type 0} (x y : X) (xs ys : List X) → x ∷ xs ≡ y ∷ ys → x ≡ y
unfolding head_or
same_head x y xs ys e = ap (head_or x) e

same_tail : {X : Type 0} (x y : X) (xs ys : List X) → x ∷ xs ≡ y ∷ ys → xs ≡ ys
unfolding tail_of
same_tail x y xs ys e = ap tail_of e

gives_reply : (o : Option Outcome) (r : Reply) → option_map (λ (u : Outcome). u.reply) o ≡ Some r → Gives o r
gives_reply None r e = absurd (cc (e))
gives_reply (Some u) r e = cc (e)

both_tests : (a b : Bool) → (a && b) ≡ true → (a ≡ true) × (b ≡ true)
both_tests true true e = (refl, refl)
both_tests true false e = absurd (true≢false (sym e))
both_tests false b e = absurd (true≢false (sym e))

last_push : (t : ℕ) (xs : List Entry) (x : Entry) → last_tick t (xs ++ x ∷ []) ≡ x.tick
last_push t [] x = refl
last_push t (y ∷ xs) x = last_push y.tick xs x

legal_after : (params : HostParams) (y : Entry) (ys xs : List Entry)
    → replies_from (replay params (y ∷ ys)) xs ≡ map (λ (x : Entry). Some x.reply) xs
    → numbers_from (y ∷ ys) xs ≡ map (λ (x : Entry). x.number) xs
    → ticks_rise (last_tick 0 (y ∷ ys)) xs ≡ true
    → LegalAfter params (y ∷ ys) xs
unfolding replay
legal_after params y ys [] given numbers rise = tt
legal_after params y ys (x ∷ xs) given numbers rise =
    let e : Endpoint = replay params (y ∷ ys) in
    let tests = both_tests (leb (last_tick 0 (y ∷ ys)) x.tick) (ticks_rise x.tick xs) rise in
    let more : replay params (y ∷ ys ++ x ∷ []) ≡ moved e x = replay_on_push (opened params y.call) ys x in (
      record {
        step = gives_reply (step e x.tick x.call x.reply) x.reply (same_head _ _ _ _ given);
        number = sym (same_head _ _ _ _ numbers);
        tick = grind (arith, nat_tests, tests.0);
      },
      legal_after params y (ys ++ x ∷ []) xs
          (ap (λ (f : Endpoint). replies_from f xs) more ∙ same_tail _ _ _ _ given)
          (same_tail _ _ _ _ numbers)
          (ap (λ (t : ℕ). ticks_rise t xs) (last_push y.tick ys x) ∙ tests.1),
    )

-- the history opens, and its replies, numbers and ticks are those that its calls give
abbrev pub Shows : HostParams → List Entry → Type 0
Shows params [] = ⊥
Shows params (x ∷ xs) =
    IsFirst x × (replies_from (opened params x.call) xs ≡ map (λ (z : Entry). Some z.reply) xs)
    × (numbers_from (x ∷ []) xs ≡ map (λ (z : Entry). z.number) xs) × (ticks_rise x.tick xs ≡ true)

pub legal_by : (params : HostParams) (h : List Entry) → Shows params h → Legal params h
unfolding replay
legal_by params [] shows = absurd shows
legal_by params (x ∷ xs) shows = (shows.0, legal_after params x [] xs shows.1 shows.2 shows.3)

-- ----- the histories
pub three_packets_legal : Legal replay_params three_packets
unfolding nearest rx rx_later rx_syn_sent going ticks control step
three_packets_legal = legal_by replay_params three_packets (
  record { opens = tt; reply = refl; number = refl },
  refl,
  refl,
  refl,
)

pub data_out_of_order_legal : Legal replay_params data_out_of_order
unfolding nearest rx rx_later rx_syn_sent going ticks control step
data_out_of_order_legal = legal_by replay_params data_out_of_order (
  record { opens = tt; reply = refl; number = refl },
  refl,
  refl,
  refl,
)

pub three_duplicates_legal : Legal replay_params three_duplicates
unfolding nearest rx rx_later rx_syn_sent going ticks control step
three_duplicates_legal = legal_by replay_params three_duplicates (
  record { opens = tt; reply = refl; number = refl },
  refl,
  refl,
  refl,
)

pub client_of_hello_legal : Legal (host_params 167772161 1000) client_of_hello
unfolding nearest rx rx_later rx_syn_sent going ticks control step
client_of_hello_legal = legal_by (host_params 167772161 1000) client_of_hello
    (record { opens = tt; reply = refl; number = refl }, refl, refl, refl)

pub server_of_hello_legal : Legal (host_params 167772162 5000) server_of_hello
unfolding nearest rx rx_later rx_syn_sent going ticks control step
server_of_hello_legal = legal_by (host_params 167772162 5000) server_of_hello
    (record { opens = tt; reply = refl; number = refl }, refl, refl, refl)
