-- A tick that hosts made step by step is a right tick of their world: for the answers for `made_ticks_are_right`.
use Rattle.std.proofs.Common.{◌≡◌, ℕ, suc, ◌+◌, true, List, [], ◌∷◌, length, refl, sym, ap, ◌∙◌, subst, arith}
use Rattle.std.specs.Vec.{with_items}
use Rattle.std.proofs.lemmas.List.{with_items_is}
use Rattle.closed_flows.specs.Silence.{IsFindable}
use Rattle.core_rounds.specs.Shares.{AreDistinct}
use Rattle.core_rounds.specs.SharedTicks.{IsSharedTick}
use Rattle.core_rounds.proofs.SharedRounds.{shared_round, shared_low}
use Rattle.core_worker.specs.declared.frames.Frame.{Frame}
use Rattle.due_frames.specs.Few.{AreFew, HaveHistories}
use Rattle.due_frames.proofs.Distinct.{due_distinct}
use Rattle.due_frames.proofs.Worlds.{rounds_few}
use Rattle.host_rounds.specs.Cores.{AllBelow}
use Rattle.host_rounds.specs.Deliveries.{Arrival}
use Rattle.host_rounds.specs.Lists.{Each}
use Rattle.host_rounds.specs.Rounds.{Due, Round}
use Rattle.host_rounds.specs.Scripts.{Scripts}
use Rattle.link_script.specs.DueFrames.{due}
use Rattle.link_script.specs.declared.frames.Sent.{Sent}
use Rattle.phase_orders.specs.CoreTurns.{arrivals_of}
use Rattle.scenario_runs.specs.Applications.{Script}
use Rattle.scenario_runs.specs.Histories.{AreBelow}
use Rattle.scenario_runs.specs.Runs.{AreRounds, IsTick as IsWorldTick}
use Rattle.scenario_runs.specs.Worlds.{World, scripts_of, due_at, sent_in, arrivals_at}
use Rattle.scenario_runs.proofs.ByMoves.{scenarios_by_moves}
use Rattle.scenario_text.specs.declared.scenario.Scenario.{Scenario}
use Rattle.scenario_world.specs.Playing.{AreEarly, IsEarly, IsWorldOf}
use Rattle.scenario_world.proofs.NextTick.{hosts_len, due_as_kept}
use Rattle.core_host.specs.Ending.{AreFiled}
use Rattle.core_host.specs.Sharing.{IsPlayed}
use Rattle.core_host.specs.Sound.{IsStaffSound}
use Rattle.core_host.specs.Ticks.{IsBetweenTicks, IsTick, site_in}
use Rattle.core_host.specs.Views.{Staffed, seen_by}
use Rattle.shared_scripts.specs.Begun.{IsBegun}
use Rattle.shared_scripts.specs.Ended.{IsEnded}
use Rattle.shared_scripts.specs.Going.{IsGoneOn}
use Rattle.shared_scripts.specs.Playing.{IsPlayable}
use Rattle.shared_scripts.specs.Turns.{numbers_in}
use Rattle.shared_world.specs.Looking.{AreSilentBut, IsSilentBut}
use Rattle.shared_world.specs.Sites.{sites_in, ArePlayable, IsOneOf, AreOf, IsReady, HasPlayed, world_of}
use Rattle.shared_world.specs.Stepping.{frames_to, IsMade, AreMade}
use Rattle.shared_world.specs.declared.world.SharedWorld.{SharedWorld}
use Rattle.shared_world.proofs.Arrivals.{arrived}
use Rattle.shared_world.proofs.Silent.{silent_after}

-- ----- the laws of ticks that are made
-- Such a tick is one of its host and its scripts,
abbrev pub TickLaw : Type 0
TickLaw = (s : Scenario) (t : ℕ) (name : List ℕ) (frames : List Frame) (scripts next : List Script)
    (before trying played kicked sent after : Staffed)
    → IsPlayable t before scripts → AreDistinct (arrivals_of true frames)
    → IsBegun s t name frames scripts before trying → IsPlayed t trying played
    → IsGoneOn s t scripts next played kicked → IsPlayed t kicked sent → IsEnded t sent after
    → IsTick (scripts_of s (seen_by before).params) t
    (record { frames = arrivals_of true frames; asks = numbers_in scripts }) before after scripts next

-- and they may have the next one.
abbrev pub NextLaw : Type 0
NextLaw = (s : Scenario) (t : ℕ) (name : List ℕ) (frames : List Frame) (scripts next : List Script)
    (before trying played kicked sent after : Staffed)
    → IsPlayable t before scripts
    → IsBegun s t name frames scripts before trying → IsPlayed t trying played
    → IsGoneOn s t scripts next played kicked → IsPlayed t kicked sent → IsEnded t sent after
    → IsPlayable (suc t) after next

-- What holds of the host then, by what it was before.
abbrev pub LawOfTicks : ((scripts : Scripts (List Script) ℕ) (t : ℕ) (due : Due ℕ) (before after : Staffed)
    (state next : List Script) → Type 0) → Type 0
LawOfTicks law = (scripts : Scripts (List Script) ℕ) (t : ℕ) (due : Due ℕ) (before after : Staffed)
    (state next : List Script) → IsBetweenTicks before → IsTick scripts t due before after state next
    → law scripts t due before after state next

pub record MadeLaws : Type 0 where
  pub tick : TickLaw
  pub next : NextLaw
  pub shared : LawOfTicks (λ scripts t due before after state next. IsSharedTick scripts before.cores t due
      (site_in before state) (site_in after next))
  pub cores : LawOfTicks (λ scripts t due before after state next. after.cores ≡ before.cores)
  pub filed : LawOfTicks (λ scripts t due before after state next. AreFiled before.host → AreFiled after.host)
  pub findable : (h : Staffed) → IsStaffSound h → Each IsFindable (seen_by h).flows

-- ----- how many hosts there are
pub sites_len : (t : ℕ) (bs : List Staffed) (xs : List (List Script)) → ArePlayable t bs xs
    → length bs ≡ length (sites_in bs xs)
sites_len t [] [] playable = refl
sites_len t [] (x ∷ xs) playable = absurd playable
sites_len t (b ∷ bs) [] playable = absurd playable
sites_len t (b ∷ bs) (x ∷ xs) playable = ap suc (sites_len t bs xs playable.1)

pub ready_len : (s : Scenario) (t cores : ℕ) (w : SharedWorld) → IsReady s t cores w
    → length w.hosts.items ≡ length s.hosts
ready_len s t cores w ready =
    sites_len t w.hosts.items w.scripts.items ready.playable
    ∙ hosts_len s t (world_of w) w.traffic ready.world

-- As many hosts made the tick as began it,
pub made_hosts : (s : Scenario) (t : ℕ) (came : List Sent) (n : ℕ) (xs ys : List (List Script)) (bs hs : List Staffed)
    → AreMade s t came n xs ys bs hs → length hs ≡ length bs
made_hosts s t came n [] [] [] [] made = refl
made_hosts s t came n [] [] [] (h ∷ hs) made = absurd made
made_hosts s t came n [] [] (b ∷ bs) hs made = absurd made
made_hosts s t came n [] (y ∷ ys) bs hs made = absurd made
made_hosts s t came n (x ∷ xs) [] bs hs made = absurd made
made_hosts s t came n (x ∷ xs) (y ∷ ys) [] hs made = absurd made
made_hosts s t came n (x ∷ xs) (y ∷ ys) (b ∷ bs) [] made = absurd made
made_hosts s t came n (x ∷ xs) (y ∷ ys) (b ∷ bs) (h ∷ hs) made =
    ap suc (made_hosts s t came (suc n) xs ys bs hs made.1)

-- with as many scripts.
pub made_scripts : (s : Scenario) (t : ℕ) (came : List Sent) (n : ℕ) (xs ys : List (List Script))
    (bs hs : List Staffed) → AreMade s t came n xs ys bs hs → length ys ≡ length xs
made_scripts s t came n [] [] [] [] made = refl
made_scripts s t came n [] [] [] (h ∷ hs) made = absurd made
made_scripts s t came n [] [] (b ∷ bs) hs made = absurd made
made_scripts s t came n [] (y ∷ ys) bs hs made = absurd made
made_scripts s t came n (x ∷ xs) [] bs hs made = absurd made
made_scripts s t came n (x ∷ xs) (y ∷ ys) [] hs made = absurd made
made_scripts s t came n (x ∷ xs) (y ∷ ys) (b ∷ bs) [] made = absurd made
made_scripts s t came n (x ∷ xs) (y ∷ ys) (b ∷ bs) (h ∷ hs) made =
    ap suc (made_scripts s t came (suc n) xs ys bs hs made.1)

made_as : (s : Scenario) (t : ℕ) (came : List Sent) (n : ℕ) (xs xz ys yz : List (List Script))
    (bs bz hs hz : List Staffed) → bs ≡ bz → xs ≡ xz → hz ≡ hs → yz ≡ ys → AreMade s t came n xs ys bs hs
    → AreMade s t came n xz yz bz hz
made_as s t came n xs xz ys yz bs bz hs hz same_before same_scripts same_after same_next made =
    subst (λ (ps : List Staffed). AreMade s t came n xz yz ps hz) same_before
    (subst (λ (ps : List Staffed). AreMade s t came n xz yz bs ps) (sym same_after)
    (subst (λ (zs : List (List Script)). AreMade s t came n zs yz bs hs) same_scripts
    (subst (λ (zs : List (List Script)). AreMade s t came n xs zs bs hs) (sym same_next) made)))

-- The world with what its hosts and their scripts are after the steps of a tick.
abbrev pub stepped : SharedWorld → List Staffed → List (List Script) → SharedWorld
stepped w hs ys = record w { hosts = with_items w.hosts hs; scripts = with_items w.scripts ys }

pub steps_made : (s : Scenario) (t : ℕ) (came : List Sent) (w : SharedWorld) (bs hs : List Staffed)
    (xs ys : List (List Script)) → bs ≡ w.hosts.items → xs ≡ w.scripts.items → length hs ≡ w.hosts.len
    → length ys ≡ w.scripts.len → AreMade s t came 0 xs ys bs hs
    → AreMade s t came 0 w.scripts.items (stepped w hs ys).scripts.items w.hosts.items (stepped w hs ys).hosts.items
steps_made s t came w bs hs xs ys before scripts hosts_len next_len made =
    made_as s t came 0 xs w.scripts.items ys (stepped w hs ys).scripts.items bs w.hosts.items hs
    (stepped w hs ys).hosts.items before scripts (with_items_is w.hosts hs hosts_len)
    (with_items_is w.scripts ys next_len) made

-- ----- host by host
module _ (laws : MadeLaws) (s : Scenario) (whole : World) (t cores : ℕ) (came : List Sent) (few : AreFew whole)
    (is : came ≡ due s.link (sent_in whole) t) where
  -- One host's tick is one of its cores and its scripts.
  one_tick : (n : ℕ) (x y : List Script) (b h : Staffed) → IsPlayable t b x → IsMade s t (frames_to n came) x y b h
      → IsTick (scripts_of s (seen_by b).params) t (due_at s whole t n x) b h x y
  one_tick n x y b h playable made =
      let e : arrivals_of true (frames_to n came) ≡ arrivals_at s.link (sent_in whole) t n =
      arrived s.link (sent_in whole) t n came is in
      subst (λ (fs : List Arrival). IsTick (scripts_of s (seen_by b).params) t
      (record { frames = fs; asks = numbers_in x }) b h x y) e
      (laws.tick s t made.name (frames_to n came) x y b made.trying made.played made.kicked made.sent h playable
      (subst AreDistinct (sym e) (due_distinct s.link whole t n few)) made.begun made.first made.gone made.second
      made.ended)

  -- What it leaves.
  record OneTicked (n : ℕ) (x y : List Script) (b h : Staffed) : Type 0 where
    pub round : Round (scripts_of s (seen_by b).params) t (due_at s whole t n x) (site_in b x) (site_in h y)
    pub playable : IsPlayable (suc t) h y
    pub one : IsOneOf cores h
    pub below : AllBelow cores (seen_by b) → AllBelow cores (seen_by h)
    pub silent : IsSilentBut t (seen_by h).flows

  module _ (n : ℕ) (x y : List Script) (b h : Staffed) (playable : IsPlayable t b x) (one : IsOneOf cores b)
      (early : IsEarly t (seen_by b)) (made : IsMade s t (frames_to n came) x y b h) where
    abbrev scripts : Scripts (List Script) ℕ
    scripts = scripts_of s (seen_by b).params

    abbrev frames : Due ℕ
    frames = due_at s whole t n x

    tick : IsTick scripts t frames b h x y
    tick = one_tick n x y b h playable made

    shared : IsSharedTick scripts b.cores t frames (site_in b x) (site_in h y)
    shared = laws.shared scripts t frames b h x y playable.between tick

    round : Round scripts t frames (site_in b x) (site_in h y)
    round =
        shared_round scripts b.cores t frames (site_in b x) (site_in h y) (scenarios_by_moves s (seen_by b).params)
        early.histories shared

    one_ticked : OneTicked n x y b h
    one_ticked = record {
      round = round;
      playable = laws.next s t made.name (frames_to n came) x y b made.trying made.played made.kicked made.sent h
          playable made.begun made.first made.gone made.second made.ended;
      one = record {
        cores = laws.cores scripts t frames b h x y playable.between tick ∙ one.cores;
        filed = laws.filed scripts t frames b h x y playable.between tick one.filed;
      };
      below = λ low.
          subst (λ (c : ℕ). AllBelow c (seen_by h)) one.cores
          (shared_low scripts b.cores t frames (site_in b x) (site_in h y) (scenarios_by_moves s (seen_by b).params)
          early.histories shared (subst (λ (c : ℕ). AllBelow c (seen_by b)) (sym one.cores) low));
      silent = silent_after s (seen_by b).params t frames (site_in b x) (site_in h y) early
          (laws.findable b playable.between.sound) round;
    }

  -- What these hosts leave, the first of which has this number.
  pub record AllTicked (n : ℕ) (xs ys : List (List Script)) (bs hs : List Staffed) : Type 0 where
    pub rounds : AreRounds s whole t n (sites_in bs xs) (sites_in hs ys)
    pub playable : ArePlayable (suc t) hs ys
    pub hosts : AreOf cores hs
    pub below : AreBelow cores (sites_in bs xs) → AreBelow cores (sites_in hs ys)
    pub silent : AreSilentBut t hs

  pub all_ticked : (n : ℕ) (xs ys : List (List Script)) (bs hs : List Staffed) → ArePlayable t bs xs → AreOf cores bs
      → AreEarly t (sites_in bs xs) → AreMade s t came n xs ys bs hs → AllTicked n xs ys bs hs
  all_ticked n [] [] [] [] playable of early made =
      record { rounds = tt; playable = tt; hosts = tt; below = λ low. tt; silent = tt }
  all_ticked n [] [] [] (h ∷ hs) playable of early made = absurd made
  all_ticked n [] [] (b ∷ bs) hs playable of early made = absurd made
  all_ticked n [] (y ∷ ys) bs hs playable of early made = absurd made
  all_ticked n (x ∷ xs) [] bs hs playable of early made = absurd made
  all_ticked n (x ∷ xs) (y ∷ ys) [] hs playable of early made = absurd made
  all_ticked n (x ∷ xs) (y ∷ ys) (b ∷ bs) [] playable of early made = absurd made
  all_ticked n (x ∷ xs) (y ∷ ys) (b ∷ bs) (h ∷ hs) playable of early made =
      let here : OneTicked n x y b h = one_ticked n x y b h playable.0 of.0 early.0 made.0 in
      let rest : AllTicked (suc n) xs ys bs hs =
      all_ticked (suc n) xs ys bs hs playable.1 of.1 early.1 made.1 in
      let next : suc n ≡ n + 1 = omega arith in
      record {
        rounds = (
          here.round,
          subst (λ (k : ℕ). AreRounds s whole t k (sites_in bs xs) (sites_in hs ys)) next rest.rounds,
        );
        playable = (here.playable, rest.playable);
        hosts = (here.one, rest.hosts);
        below = λ low. (here.below low.0, rest.below low.1);
        silent = (here.silent, rest.silent);
      }

-- ----- a world
histories_of : (t : ℕ) (world : World) → AreEarly t world → HaveHistories world
histories_of t [] early = tt
histories_of t (site ∷ world) early = (early.0.histories, histories_of t world early.1)

module _ (laws : MadeLaws) (s : Scenario) (t cores : ℕ) (w n : SharedWorld) (came : List Sent)
    (ready : IsReady s t cores w) (is : came ≡ due s.link w.traffic.sent t)
    (made : AreMade s t came 0 w.scripts.items n.scripts.items w.hosts.items n.hosts.items) where
  world_ticked : AllTicked laws s (world_of w) t cores came ready.few
      (is ∙ due_as_kept s t (world_of w) w.traffic.sent w.traffic.last ready.world.kept) 0 w.scripts.items
      n.scripts.items w.hosts.items n.hosts.items
  world_ticked =
      all_ticked laws s (world_of w) t cores came ready.few
      (is ∙ due_as_kept s t (world_of w) w.traffic.sent w.traffic.last ready.world.kept) 0 w.scripts.items
      n.scripts.items w.hosts.items n.hosts.items ready.playable ready.hosts ready.world.early made

  pub made_tick : IsWorldTick s t (world_of w) (world_of n)
  made_tick = world_ticked.rounds

  pub made_below : AreBelow cores (world_of w) → AreBelow cores (world_of n)
  made_below = world_ticked.below

  pub made_played : n.traffic ≡ w.traffic → HasPlayed s t cores n
  made_played same = record {
    playable = subst (λ (k : ℕ). ArePlayable k n.hosts.items n.scripts.items) next world_ticked.playable;
    hosts = world_ticked.hosts;
    played = record {
      before = world_of w;
      world = subst (IsWorldOf s t (world_of w)) (sym same) ready.world;
      tick = made_tick;
    };
    few = rounds_few s (world_of w) t 0 (world_of w) (world_of n) made_tick
        (histories_of t (world_of w) ready.world.early) ready.few;
    silent = world_ticked.silent;
  }
    where
      next : suc t ≡ t + 1
      next = omega arith
