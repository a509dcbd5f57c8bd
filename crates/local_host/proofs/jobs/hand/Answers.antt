use Rattle.std.proofs.Common.{◌≡◌, ℕ, ◌<◌, ◌++◌, List, ◌∷◌, [], length, set, true, Some, refl, sym, ap, subst, ◌∙◌}
use Rattle.std.proofs.Common.{arith, rules}
use Rattle.host_rounds.specs.Hosts.{Live}
use Rattle.local_host.specs.Arriving.{arrival_in}
use Rattle.local_host.specs.declared.lanes.Handed.{Handed}
use Rattle.local_host.specs.declared.lanes.Job.{Job}
use Rattle.local_host.specs.Index.{passes_at}
use Rattle.local_host.specs.Handing.{is_in_index, AreHanded}
use Rattle.local_host.proofs.Places.{ok_by}
use Rattle.local_host.proofs.HandingOut.{left_one, added_one, opened_one, passes_there}
use Rattle.local_host.proofs.jobs.hand.Goals as goal

pub returns-in_default : goal.returns-in_default
returns-in_default c = λ old cores frames is led.
    left_one c.args.core c.push.new.self.items c.args.handed c.in_ok-push.ensures.items is

pub returns-in-Some-job_of : goal.returns-in-Some-job_of
returns-in-Some-job_of c = λ old cores frames is led.
    ok_by c.add.result
    (λ more.
    added_one c.args.core c.args.handed c.in-Some-job_of.k c.index_mut.result.now c.add.new.job
    c.in-Some-job_of.ensures.low c.index_mut.ensures.value more
    (ap (λ (j : Job). j.core) c.index_mut.ensures.value ∙ c.in-Some-job_of.ensures.core c.index_mut.result.now)
    (led ∙ (c.in-Some.is ∙ ap (λ (n : ℕ). Some n) (sym (ap (λ (j : Job). j.place) c.index_mut.ensures.value
    ∙ c.in-Some-job_of.ensures.place c.index_mut.result.now)))) is)
    c.add.ensures

pub returns-then-not-is_indexed : goal.returns-then-not-is_indexed
returns-then-not-is_indexed c = λ old cores frames is led.
    left_one c.args.core c.push-then-not-is_indexed.new.self.items c.args.handed c.in_ok-push-2.ensures.items is

pub index_mut-requires-2 : goal.index_mut-requires-2
index_mut-requires-2 c =
    let yes : c.is_indexed.result ≡ true = search rules in
    let passes : passes_at is_in_index c.args.flows.now.items c.in-Some.place ≡ true =
    sym (c.is_indexed.ensures
    ∙ ap (λ (ls : List Live). passes_at is_in_index ls c.in-Some.place) c.deref.ensures.value) ∙ yes in
    let low : c.in-Some.place < length c.args.flows.now.items =
    (passes_there c.args.flows.now.items c.in-Some.place c.in_ok-stand_in.stand_in passes).0 in
    omega (arith, low, c.args.flows.now.ok)

pub returns : goal.returns
returns c = λ old cores frames is led.
    let yes : c.is_indexed.result ≡ true = search rules in
    let passes : passes_at is_in_index c.args.flows.now.items c.in-Some.place ≡ true =
    sym (c.is_indexed.ensures
    ∙ ap (λ (ls : List Live). passes_at is_in_index ls c.in-Some.place) c.deref.ensures.value) ∙ yes in
    let job : Job = record {
      core = c.args.core;
      place = c.in-Some.place;
      flow = c.replace-flow.result;
      frames = c.push-2.new.self;
    } in
    subst
    (λ (js : List Job).
    AreHanded old (set c.args.flows.now.items c.in-Some.place c.replace-flow.new.dest) js
    c.args.handing.now.left.items (cores ++ c.args.core ∷ []) (frames ++ arrival_in c.args.handed.arrival ∷ []))
    (sym c.in_ok-push-4.ensures.items)
    (opened_one c.args.handed c.in-Some.place c.index_mut-2.result.now c.replace-flow.new.dest job passes
    c.index_mut-2.ensures.value (ap is_in_index c.replace-flow.ensures.after ∙ c.in_ok-stand_in.ensures) c.requires refl
    c.replace-flow.ensures.value
    (c.in_ok-push-3.ensures.items ∙ ap (λ (hs : List Handed). hs ++ c.args.handed ∷ []) c.new-frames.ensures.items)
    (led ∙ c.in-Some.is) is)
