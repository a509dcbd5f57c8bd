-- Hosts whose records were looked at, of one and of all of a world: what is as it was.
use Rattle.std.proofs.Common.{◌≡◌, ℕ, ◌<◌, suc, List, [], ◌∷◌, length, refl, sym, ap, ◌∙◌, subst}
use Rattle.std.specs.Prelude.{IfSome}
use Rattle.host_rounds.specs.Hosts.{Host}
use Rattle.host_rounds.specs.Lists.{Each}
use Rattle.slow_worker.specs.Clocks.{last_tick}
use Rattle.slow_worker.specs.declared.clock.Clock.{Clock}
use Rattle.scenario_runs.specs.Applications.{Script}
use Rattle.core_host.specs.Sound.{IsStaffSound, IsClear, IsUnasked}
use Rattle.core_host.specs.Ticks.{site_in}
use Rattle.core_host.specs.Views.{Staffed, seen_by}
use Rattle.shared_scripts.specs.Playing.{IsPlayable, Owns, RunsOn}
use Rattle.shared_world.specs.Looking.{IsLookedAt, AreLookedAt, AreSilentBut, IsSilentBut}
use Rattle.shared_world.specs.Sites.{sites_in, ArePlayable, AreOf, IsOneOf}

-- ----- a host
-- which nobody looked at
pub looked_self : (h : Staffed) → IsStaffSound h → IsLookedAt h h
looked_self h sound = record {
  step = record { made = refl; sound = sound; same = refl; time = refl; filed = refl };
  still = record { time = refl; filed = refl; checks = refl };
  filed = λ filed. filed;
}

-- one look after the other
pub looked_on : (a b c : Staffed) → IsLookedAt a b → IsLookedAt b c → IsLookedAt a c
looked_on a b c first next = record {
  step = record {
    made = next.step.made ∙ first.step.made;
    sound = next.step.sound;
    same = next.step.same ∙ ap (λ (h : Staffed). record h { host = c.host }) first.step.same;
    time = next.step.time ∙ first.step.time;
    filed = next.step.filed ∙ first.step.filed;
  };
  still = record {
    time = next.still.time ∙ first.still.time;
    filed = next.still.filed ∙ first.still.filed;
    checks = next.still.checks ∙ first.still.checks;
  };
  filed = λ filed. next.filed (first.filed filed);
}

pub seen_looked : (before after : Staffed) → IsLookedAt before after → seen_by after ≡ seen_by before
seen_looked before after looked = looked.step.made

pub sound_looked : (before after : Staffed) → IsLookedAt before after → IsStaffSound after
sound_looked before after looked = looked.step.sound

-- It may have the tick that it might have.
pub playable_looked : (t : ℕ) (before after : Staffed) (scripts : List Script) → IsLookedAt before after
    → IsPlayable t before scripts → IsPlayable t after scripts
playable_looked t before after scripts looked can = record {
  between = record {
    sound = looked.step.sound;
    clear = subst (λ (h : Staffed). Each IsClear h.lanes) (sym looked.step.same) can.between.clear;
    unasked = subst (λ (h : Staffed). Each IsUnasked h.lanes) (sym looked.step.same) can.between.unasked;
  };
  risen = subst (λ (k : Clock). IfSome (last_tick k) (λ last. last < t)) (sym looked.step.time) can.risen;
  checks = looked.still.checks ∙ can.checks;
  listens = ap (λ (h : Host). h.params.fixed) looked.step.made ∙ can.listens;
  numbers = can.numbers;
  steps = can.steps;
  own = subst (λ (h : Host). Each (Owns h.flows) scripts) (sym looked.step.made) can.own;
  runs = subst (λ (h : Staffed). Each (RunsOn t h) scripts) (sym looked.step.same) can.runs;
}

pub one_looked : (cores : ℕ) (before after : Staffed) → IsLookedAt before after → IsOneOf cores before
    → IsOneOf cores after
one_looked cores before after looked one = record {
  cores = ap (λ (h : Staffed). h.cores) looked.step.same ∙ one.cores;
  filed = looked.filed one.filed;
}

-- ----- all hosts
pub len_looked : (before after : List Staffed) → AreLookedAt before after → length after ≡ length before
len_looked [] [] looked = refl
len_looked [] (a ∷ az) looked = absurd looked
len_looked (b ∷ bs) [] looked = absurd looked
len_looked (b ∷ bs) (a ∷ az) looked = ap suc (len_looked bs az looked.1)

-- with their scripts they are the same world
pub sites_looked : (before after : List Staffed) (scripts : List (List Script)) → AreLookedAt before after
    → sites_in after scripts ≡ sites_in before scripts
sites_looked [] [] xs looked = refl
sites_looked [] (a ∷ az) xs looked = absurd looked
sites_looked (b ∷ bs) [] xs looked = absurd looked
sites_looked (b ∷ bs) (a ∷ az) [] looked = refl
sites_looked (b ∷ bs) (a ∷ az) (x ∷ xs) looked =
    ap (λ (h : Host). record { host = h; scripts = x } ∷ sites_in az xs) (looked.0).step.made
    ∙ ap (λ w. site_in b x ∷ w) (sites_looked bs az xs looked.1)

pub all_playable_looked : (t : ℕ) (before after : List Staffed) (scripts : List (List Script))
    → AreLookedAt before after → ArePlayable t before scripts → ArePlayable t after scripts
all_playable_looked t [] [] xs looked can = can
all_playable_looked t [] (a ∷ az) xs looked can = absurd looked
all_playable_looked t (b ∷ bs) [] xs looked can = absurd looked
all_playable_looked t (b ∷ bs) (a ∷ az) [] looked can = absurd can
all_playable_looked t (b ∷ bs) (a ∷ az) (x ∷ xs) looked can =
    (playable_looked t b a x looked.0 can.0, all_playable_looked t bs az xs looked.1 can.1)

pub all_of_looked : (cores : ℕ) (before after : List Staffed) → AreLookedAt before after → AreOf cores before
    → AreOf cores after
all_of_looked cores [] [] looked all = tt
all_of_looked cores [] (a ∷ az) looked all = absurd looked
all_of_looked cores (b ∷ bs) [] looked all = absurd looked
all_of_looked cores (b ∷ bs) (a ∷ az) looked all =
    (one_looked cores b a looked.0 all.0, all_of_looked cores bs az looked.1 all.1)

pub all_sound_looked : (before after : List Staffed) → AreLookedAt before after → Each IsStaffSound after
all_sound_looked [] [] looked = tt
all_sound_looked [] (a ∷ az) looked = absurd looked
all_sound_looked (b ∷ bs) [] looked = absurd looked
all_sound_looked (b ∷ bs) (a ∷ az) looked = (sound_looked b a looked.0, all_sound_looked bs az looked.1)

pub all_silent_looked : (t : ℕ) (before after : List Staffed) → AreLookedAt before after → AreSilentBut t before
    → AreSilentBut t after
all_silent_looked t [] [] looked silent = tt
all_silent_looked t [] (a ∷ az) looked silent = absurd looked
all_silent_looked t (b ∷ bs) [] looked silent = absurd looked
all_silent_looked t (b ∷ bs) (a ∷ az) looked silent = (
  subst (λ (h : Host). IsSilentBut t h.flows) (sym (looked.0).step.made) silent.0,
  all_silent_looked t bs az looked.1 silent.1,
)

-- ----- hosts that may have a tick
pub playable_len : (t : ℕ) (hosts : List Staffed) (scripts : List (List Script)) → ArePlayable t hosts scripts
    → length scripts ≡ length hosts
playable_len t [] [] can = refl
playable_len t [] (x ∷ xs) can = absurd can
playable_len t (h ∷ hs) [] can = absurd can
playable_len t (h ∷ hs) (x ∷ xs) can = ap suc (playable_len t hs xs can.1)

pub playable_sound : (t : ℕ) (hosts : List Staffed) (scripts : List (List Script)) → ArePlayable t hosts scripts
    → Each IsStaffSound hosts
playable_sound t [] [] can = tt
playable_sound t [] (x ∷ xs) can = absurd can
playable_sound t (h ∷ hs) [] can = absurd can
playable_sound t (h ∷ hs) (x ∷ xs) can = ((can.0).between.sound, playable_sound t hs xs can.1)
