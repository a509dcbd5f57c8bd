-- Answers of the proof of scripts/HostScripts/begin_tick.
use Rattle.std.proofs.Common.{◌≡◌, List, OnOk, sym, subst}
use Rattle.core_host.specs.Ticks.{AreSetTo}
use Rattle.core_host.specs.Views.{seen_by}
use Rattle.host_rounds.specs.Lists.{Each}
use Rattle.scenario_runs.specs.Applications.{Script}
use Rattle.shared_scripts.specs.Begun.{moves_of, tries_of}
use Rattle.shared_scripts.specs.Playing.{Owns}
use Rattle.shared_scripts.proofs.Begins.{handed_none, handed_own, has_begun, ok_three}
use Rattle.shared_scripts.proofs.scripts.HostScripts.begin_tick.Goals as goal

pub try_all-requires-clause-none : goal.try_all-requires-clause-none
try_all-requires-clause-none g c =
    handed_none c.args.tick _ _ c.args.host.now c.pass_time.new.self c.hand_out.new.self c.in_ok-pass_time.ensures
    c.in_ok-hand_out.ensures c.requires.between.unasked

pub try_all-requires-clause-own : goal.try_all-requires-clause-own
try_all-requires-clause-own g c =
    let same : c.as_slice-3.result.now ≡ c.args.self.now = cc (c.as_slice-3.ensures.value, c.self.view_is) in
    subst (λ (xs : List Script). Each (Owns (seen_by c.hand_out.new.self).flows) xs) (sym same)
    (handed_own c.args.tick _ _ c.args.host.now c.pass_time.new.self c.hand_out.new.self c.in_ok-pass_time.ensures
    c.in_ok-hand_out.ensures c.args.self.now c.requires.own)

pub returns : goal.returns
returns g c =
    let same : c.as_slice-3.result.now ≡ c.args.self.now = cc (c.as_slice-3.ensures.value, c.self.view_is) in
    let are : c.as_slice-2.result.now ≡ moves_of c.args.s.now c.args.name.now c.args.tick =
    cc (c.as_slice-2.ensures.value, c.in_ok-moves.ensures.moves, c.as_slice.ensures) in
    ok_three c.try_all.result
    (λ tries set may.
    has_begun c.args.s.now c.args.tick c.args.name.now _ c.args.self.now c.args.host.now c.pass_time.new.self
    c.hand_out.new.self c.try_all.new.host c.as_slice-2.result.now c.in_ok-pass_time.ensures are
    c.in_ok-hand_out.ensures tries set may) c.try_all.ensures.tries
    (subst (λ (xs : List Script). OnOk c.try_all.result (AreSetTo (tries_of c.args.tick xs c.try_all.new.host)
    c.try_all.new.host.lanes)) same c.try_all.ensures.set) c.try_all.ensures.may
