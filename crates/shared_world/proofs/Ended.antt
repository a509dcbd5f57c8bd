-- What hosts of shared flows leave, as the definitions of runs have it.
use Rattle.std.proofs.Common.{◌≡◌, ℕ, List, [], ◌∷◌, ◌++◌, Result, Ok, length}
use Rattle.std.proofs.Common.{refl, sym, ap, ◌∙◌, subst, append_assoc, append-nil, arith}
use Rattle.host_rounds.specs.Lists.{Each}
use Rattle.local_host.specs.Live.{IsLegal}
use Rattle.local_host.specs.declared.host.HostEnd.{HostEnd}
use Rattle.core_host.specs.Ending.{AreFiled}
use Rattle.core_host.specs.Views.{Staffed, seen_by}
use Rattle.scenario_runs.specs.Applications.{Script}
use Rattle.scenario_text.specs.declared.scenario.Scenario.{Scenario}
use Rattle.scenario_world.specs.Ends.{AreEnds, IsEnd}
use Rattle.scenario_world.specs.declared.world.WorldEnd.{WorldEnd}
use Rattle.scenario_world.proofs.Ended.{ends_len, ends_low}
use Rattle.scenario_world.proofs.Finishing.{run_shown}
use Rattle.shared_world.specs.Sites.{AreLeft, AreOf, ArePlayable, sites_in, world_of}
use Rattle.shared_world.specs.Wholes.{IsOver, IsRun}
use Rattle.shared_world.specs.declared.run.Rest.{Rest}
use Rattle.shared_world.specs.declared.world.SharedWorld.{SharedWorld}

-- ----- hosts that may have a tick
pub all_filed : (cores : ℕ) (hs : List Staffed) → AreOf cores hs → Each (λ (h : Staffed). AreFiled h.host) hs
all_filed cores [] all = tt
all_filed cores (h ∷ hs) all = ((all.0).filed, all_filed cores hs all.1)

-- ----- what they leave
-- what hosts leave is what their world leaves
pub ends_left : (t : ℕ) (hs : List Staffed) (xs : List (List Script)) (ends : List HostEnd) → ArePlayable t hs xs
    → AreLeft hs ends → AreEnds (sites_in hs xs) ends
ends_left t [] [] [] playable left = tt
ends_left t [] [] (end ∷ ends) playable left = absurd left
ends_left t [] (x ∷ xs) ends playable left = absurd playable
ends_left t (h ∷ hs) [] ends playable left = absurd playable
ends_left t (h ∷ hs) (x ∷ xs) [] playable left = absurd left
ends_left t (h ∷ hs) (x ∷ xs) (end ∷ ends) playable left = (left.0, ends_left t hs xs ends playable.1 left.1)

-- and where the run is over, it is what a run of the scenario leaves
pub run_left : (s : Scenario) (cores : ℕ) (rest : Rest) (w : SharedWorld) (end : WorldEnd) → IsOver s cores rest w
    → AreLeft w.hosts.items end.hosts.items → Each (λ (e : HostEnd). Each IsLegal e.flows.items) end.hosts.items
    → end.ticks ≡ rest.ticks → end.stalled ≡ rest.stalled → IsRun s cores end
run_left s cores rest w end over left legal ticks stalled =
    let params = over.ready.world.params in
    let ends : AreEnds (world_of w) end.hosts.items =
    ends_left over.tick w.hosts.items w.scripts.items end.hosts.items over.ready.playable left in
    let r : Result WorldEnd (Unit {0}) = Ok end in
    record {
      run = run_shown s (world_of w) rest.ticks rest.stalled r over.run params ends ticks stalled;
      below = ends_low cores s.hosts (world_of w) r params over.below ends;
      hosts = ends_len s.hosts (world_of w) end.hosts.items params ends;
      legal = legal;
    }

-- ----- one after the other
-- Of these hosts those in front of the ones that are left have left their ends, behind the ends of others.
pub record HaveLeft (all rest : List Staffed) (others now : List HostEnd) : Type 0 where
  pub gone : List Staffed
  pub more : List HostEnd
  pub hosts : all ≡ gone ++ rest
  pub ends : now ≡ others ++ more
  pub left : AreLeft gone more

pub none_left : (all : List Staffed) (others : List HostEnd) → HaveLeft all all others others
none_left all others = record {
  gone = [];
  more = [];
  hosts = refl;
  ends = sym (append-nil others);
  left = tt;
}

left_push : (hs : List Staffed) (es : List HostEnd) (h : Staffed) (end : HostEnd) → AreLeft hs es
    → IsEnd (seen_by h) end → AreLeft (hs ++ h ∷ []) (es ++ end ∷ [])
left_push [] [] h end left one = (one, tt)
left_push [] (e ∷ es) h end left one = absurd left
left_push (k ∷ ks) [] h end left one = absurd left
left_push (k ∷ ks) (e ∷ es) h end left one = (left.0, left_push ks es h end left.1 one)

pub left_more : (all now rest : List Staffed) (others ends after : List HostEnd) (h : Staffed) (end : HostEnd)
    → HaveLeft all now others ends → now ≡ h ∷ rest → IsEnd (seen_by h) end → after ≡ ends ++ end ∷ []
    → HaveLeft all rest others after
left_more all now rest others ends after h end was first one is = record {
  gone = was.gone ++ h ∷ [];
  more = was.more ++ end ∷ [];
  hosts = was.hosts ∙ (ap (λ (hs : List Staffed). was.gone ++ hs) first ∙ sym (append_assoc was.gone (h ∷ []) rest));
  ends = is
      ∙ (ap (λ (es : List HostEnd). es ++ end ∷ []) was.ends ∙ append_assoc others was.more (end ∷ []));
  left = left_push was.gone was.more h end was.left one;
}

no_hosts : (hs : List Staffed) → length hs ≡ 0 → hs ≡ []
no_hosts [] none = refl
no_hosts (h ∷ hs) none = absurd (omega (arith, none))

pub all_left : (all rest : List Staffed) (others ends : List HostEnd) → HaveLeft all rest others ends
    → length rest ≡ 0 → (more : List HostEnd) × (ends ≡ others ++ more) × AreLeft all more
all_left all rest others ends was none =
    let is : all ≡ was.gone =
    was.hosts ∙ (ap (λ (hs : List Staffed). was.gone ++ hs) (no_hosts rest none) ∙ append-nil was.gone) in
    (was.more, was.ends, subst (λ (hs : List Staffed). AreLeft hs was.more) (sym is) was.left)
