-- Ports that were given to connects: no flow has the next one.
use Rattle.std.proofs.Common.{◌≡◌, ℕ, ◌+◌, ◌<◌, ◌≤◌, Bool, true, false, cond, List, [], ◌∷◌, map, refl, ap, ◌∙◌, arith}
use Rattle.std.specs.Prelude.{Some, None}
use Rattle.std.specs.List.{find}
use Rattle.std.specs.Option.{option_map}
use Rattle.std.proofs.lemmas.Bool.Decides.{nat_tests}
use Rattle.tas_model.specs.declared.entry.FlowId.{FlowId}
use Rattle.tas_model.specs.declared.entry.FourTuple.{FourTuple}
use Rattle.flow_index.specs.Changes.{is_same}
use Rattle.flow_lock.specs.Orders.{known_of, same_flow}
use Rattle.flow_lock.specs.declared.view.Held.{Held}
use Rattle.flow_lock.specs.declared.view.History.{History}
use Rattle.host_rounds.specs.Hosts.{Holder}
use Rattle.host_rounds.specs.Lists.{Each}
use Rattle.slow_handshake.specs.Openings.{first_port}
use Rattle.slow_worker.specs.Workers.{has_tuple, flow_with, id_of}
use Rattle.host_books.specs.Books.{Book}
use Rattle.sound_hosts.specs.Hosts.{tuple_of, known_flow, flows_in}
use Rattle.sound_hosts.specs.Leaving.{reheld}
use Rattle.sound_hosts.specs.Sound.{IsBelowNext}
use Rattle.sound_hosts.proofs.Fresh.{other}

-- ----- it stays so
-- where histories went on, and as many ports were given
pub below_moved : (before after : List Held) → ((f : FlowId) → (known_of f after).tuple ≡ (known_of f before).tuple)
    → (m n : ℕ) → n ≡ m → (bs : List Book) → Each (IsBelowNext before m) bs → Each (IsBelowNext after n) bs
below_moved before after same m n e [] each = tt
below_moved before after same m n e (b ∷ bs) each =
    let low : (tuple_of before b).lport < first_port + m = each.0 in
    let is : (tuple_of after b).lport ≡ (tuple_of before b).lport = ap (λ (t : FourTuple). t.lport) (same b.id) in
    (omega (arith, low, is, e), below_moved before after same m n e bs each.1)

-- where other holders have the sockets
pub below_reheld : (holder : Book → Holder) (known : List Held) (n : ℕ) (bs : List Book) → Each (IsBelowNext known n) bs
    → Each (IsBelowNext known n) (map (reheld holder) bs)
below_reheld holder known n [] each = tt
below_reheld holder known n (b ∷ bs) each = (each.0, below_reheld holder known n bs each.1)

-- where another flow was opened, and as many ports or more were given
pub below_fresh : (known : List Held) (id : FlowId) (k : History) (m n : ℕ) → m ≤ n → (bs : List Book)
    → Each (λ (c : Book). same_flow id c.id ≡ false) bs → Each (IsBelowNext known m) bs
    → Each (IsBelowNext (record { flow = id; history = k } ∷ known) n) bs
below_fresh known id k m n more [] others each = tt
below_fresh known id k m n more (b ∷ bs) others each =
    let low : (tuple_of known b).lport < first_port + m = each.0 in
    let is : (tuple_of (record { flow = id; history = k } ∷ known) b).lport ≡ (tuple_of known b).lport =
    ap (λ (h : History). h.tuple.lport) (other known id k b.id others.0) in
    (omega (arith, low, is, more), below_fresh known id k m n more bs others.1 each.1)

-- ----- the next port
unlike : (t u : FourTuple) → t.lport < u.lport → is_same t u ≡ false
unlike t u low = grind (arith, nat_tests, low)

pub next_apart : (known : List Held) (t : FourTuple) (n : ℕ) → t.lport ≡ first_port + n → (bs : List Book)
    → Each (IsBelowNext known n) bs → flow_with t (flows_in known bs) ≡ None
next_apart known t n is [] each = refl
next_apart known t n is (b ∷ bs) each = by b.indexed (next_apart known t n is bs each.1)
  where
    apart : is_same (tuple_of known b) t ≡ false
    apart = unlike (tuple_of known b) t (let low : (tuple_of known b).lport < first_port + n = each.0 in
        omega (arith, low, is))

    by : (x : Bool) → flow_with t (flows_in known bs) ≡ None
        → flow_with t (cond x (known_flow known b ∷ flows_in known bs) (flows_in known bs)) ≡ None
    by true rest =
        ap (λ s. option_map id_of (cond s (Some (known_flow known b)) (find (has_tuple t) (flows_in known bs)))) apart
        ∙ rest
    by false rest = rest
