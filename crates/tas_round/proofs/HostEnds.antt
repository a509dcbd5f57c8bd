-- What the hosts of a scenario leave, host by host.
use Rattle.std.proofs.Common.{◌≡◌, ◌<◌, ℕ, zero, suc, List, [], ◌∷◌, ◌++◌, length, map, slice_get, Some, refl, ap, sym}
use Rattle.std.proofs.Common.{subst, ◌∙◌, arith}
use Rattle.std.proofs.lemmas.List.{map-append}
use Rattle.host_rounds.specs.Lists.{Each}
use Rattle.host_rounds.specs.Logs.{HostRun}
use Rattle.scenario_text.specs.declared.scenario.HostLine.{HostLine}
use Rattle.local_host.specs.declared.host.HostEnd.{HostEnd}
use Rattle.scenario_world.specs.Ends.{host_run, host_runs}
use Rattle.tas_round.specs.declared.logs.HostRun as code
use Rattle.tas_round.specs.Runs.{host_in}

-- a place in one list is one in another that is as long
pub inside : (ends lines yielded place : ℕ) → yielded < ends → ends ≡ lines → place ≡ yielded → place < lines
inside ends lines yielded place h same is = omega (arith, h, same, is)

-- what holds of each holds of the one at a place
pub each_there : {X : Type 0} (P : X → Type 0) (xs : List X) (i : ℕ) (x : X) → Each P xs → slice_get xs i ≡ Some x
    → P x
each_there P [] i x all here = absurd (cc (here))
each_there P (y ∷ ys) zero x all here = let same : y ≡ x = cc (here) in subst P same all.0
each_there P (y ∷ ys) (suc i) x all here = each_there P ys i x all.1 here

pub no_ends : (lines : List HostLine) → host_runs lines [] ≡ []
no_ends [] = refl
no_ends (h ∷ hs) = refl

-- a host more
one_more : (lines : List HostLine) (done : List HostEnd) (line : HostLine) (end : HostEnd)
    → slice_get lines (length done) ≡ Some line
    → host_runs lines (done ++ end ∷ []) ≡ host_runs lines done ++ host_run line end ∷ []
one_more [] done line end here = absurd (cc (here))
one_more (h ∷ hs) [] line end here =
    let same : h ≡ line = cc (here) in
    ap (λ (rest : List HostRun). host_run h end ∷ rest) (no_ends hs)
    ∙ ap (λ (l : HostLine). host_run l end ∷ []) same
one_more (h ∷ hs) (d ∷ ds) line end here =
    ap (λ (rest : List HostRun). host_run h d ∷ rest) (one_more hs ds line end here)

pub run_more : (lines : List HostLine) (done : List HostEnd) (before after : List code.HostRun) (line : HostLine)
    (end : HostEnd) (run : code.HostRun) → slice_get lines (length done) ≡ Some line
    → host_in run ≡ host_run line end → after ≡ before ++ run ∷ [] → map host_in before ≡ host_runs lines done
    → map host_in after ≡ host_runs lines (done ++ end ∷ [])
run_more lines done before after line end run here is more so_far =
    ap (map host_in) more
    ∙ (map-append host_in before (run ∷ [])
    ∙ (ap (λ (l : List HostRun). l ++ host_in run ∷ []) so_far
    ∙ (ap (λ (r : HostRun). host_runs lines done ++ r ∷ []) is ∙ sym (one_more lines done line end here))))
