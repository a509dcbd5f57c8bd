use Rattle.std.proofs.Common.{◌≡◌, ◌<◌, ◌++◌, ◌∷◌, List, [], true, Option, Some, length, set, sym, ap, subst, ◌∙◌}
use Rattle.std.proofs.Common.{arith, rules}
use Rattle.host_rounds.specs.Hosts.{Live}
use Rattle.local_host.specs.declared.attempts.Attempt.{Attempt}
use Rattle.local_host.specs.Index.{passes_at}
use Rattle.local_host.specs.Handing.{is_in_index}
use Rattle.local_host.specs.Trying.{AreLent}
use Rattle.local_host.proofs.HandingOut.{passes_there}
use Rattle.local_host.proofs.Trying.{nothing_lent, one_lent}
use Rattle.local_host.proofs.attempts.lend.Goals as goal

pub returns-in_default : goal.returns-in_default
returns-in_default c = λ first given trials is. nothing_lent c.args.attempt is

pub returns-then-not-is_indexed : goal.returns-then-not-is_indexed
returns-then-not-is_indexed c = λ first given trials is. nothing_lent c.args.attempt is

pub index_mut-requires : goal.index_mut-requires
index_mut-requires c =
    let yes : c.is_indexed.result ≡ true = search rules in
    let passes : passes_at is_in_index c.args.flows.now.items c.in-Some.tried.place ≡ true =
    sym (c.is_indexed.ensures
    ∙ ap (λ (ls : List Live). passes_at is_in_index ls c.in-Some.tried.place) c.deref.ensures.value) ∙ yes in
    let low : c.in-Some.tried.place < length c.args.flows.now.items =
    (passes_there c.args.flows.now.items c.in-Some.tried.place c.in_ok-stand_in.stand_in passes).0 in
    omega (arith, low, c.args.flows.now.ok)

pub returns : goal.returns
returns c = λ first given trials is.
    let yes : c.is_indexed.result ≡ true = search rules in
    let passes : passes_at is_in_index c.args.flows.now.items c.in-Some.tried.place ≡ true =
    sym (c.is_indexed.ensures
    ∙ ap (λ (ls : List Live). passes_at is_in_index ls c.in-Some.tried.place) c.deref.ensures.value) ∙ yes in
    let after : List Live = set c.args.flows.now.items c.in-Some.tried.place c.replace-flow.new.dest in
    subst
    (λ (a : Option Attempt).
    AreLent first after (given ++ a ∷ []) (trials ++ (record { attempt = a; flow = Some c.replace-flow.result }) ∷ []))
    (sym c.in-Some.is)
    (subst
    (λ (l : Live).
    AreLent first after (given ++ Some c.in-Some.tried ∷ [])
    (trials ++ (record { attempt = Some c.in-Some.tried; flow = Some l }) ∷ []))
    (sym c.replace-flow.ensures.value)
    (one_lent c.in-Some.tried c.index_mut.result.now c.replace-flow.new.dest passes c.index_mut.ensures.value
    (ap is_in_index c.replace-flow.ensures.after ∙ c.in_ok-stand_in.ensures) is))
