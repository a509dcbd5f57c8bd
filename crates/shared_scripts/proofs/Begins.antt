-- How a tick begins, from what its steps leave: for the answers for `begin_tick`, `try_one` and `try_all`.
use Rattle.std.proofs.Common.{◌≡◌, ◌<◌, ℕ, zero, suc, List, [], ◌∷◌, All, map}
use Rattle.std.proofs.Common.{refl, sym}
use Rattle.std.proofs.Common.{ap, subst, ◌∙◌, arith, slice_get}
use Rattle.std.specs.Prelude.{Option, Some, None, Result, Ok, Err, OnOk}
use Rattle.core_worker.specs.declared.frames.Frame.{Frame}
use Rattle.core_phase.specs.declared.lane.Lane.{Lane}
use Rattle.core_phase.specs.declared.lane.Lane.TheVariants as lanes
use Rattle.frame_steering.specs.declared.handing.GroupMove.{GroupMove}
use Rattle.host_books.specs.Books.{Book}
use Rattle.host_rounds.specs.Hosts.{Host}
use Rattle.host_rounds.specs.Lists.{Each}
use Rattle.local_host.specs.declared.attempts.Attempt as local
use Rattle.local_host.specs.declared.steer.GroupMove as steer
use Rattle.scenario_host.specs.GroupMoves as moves
use Rattle.scenario_host.specs.Tries.{IsAtStep, IsTrialIn}
use Rattle.scenario_runs.specs.Applications.{Script}
use Rattle.scenario_text.specs.declared.scenario.MoveLine.{MoveLine}
use Rattle.scenario_text.specs.declared.scenario.Scenario.{Scenario}
use Rattle.script_tries.specs.Names.{AreOwnIn}
use Rattle.script_tries.specs.Tries.{ScriptTry, try_of}
use Rattle.core_host.specs.Attempts.{HasSocketAt, IsTryCall, IsTrying}
use Rattle.core_host.specs.Emission.{AreTriesSet}
use Rattle.core_host.specs.Handing.{IsHandedOut, dealt_from}
use Rattle.core_host.specs.Sharing.{MayAllPlay}
use Rattle.core_host.specs.Sound.{IsClear, IsUnasked}
use Rattle.core_host.specs.Steps.{IsTimePassed}
use Rattle.core_host.specs.Ticks.{AreSetTo}
use Rattle.core_host.specs.Views.{Staffed, seen_by}
use Rattle.sound_hosts.specs.Hosts.{host_of}
use Rattle.shared_scripts.specs.Begun.{IsBegun, HasTried, group_move, handed_move, moves_of, tries_of}
use Rattle.shared_scripts.specs.Playing.{Owns}
use Rattle.shared_scripts.proofs.Holders.{all_own_still, slow_holders}
use Rattle.shared_scripts.proofs.Ticks.{own_in}
use Rattle.shared_scripts.proofs.Trying.{trial_of, no_trial, HasBook, trial_book, trial_kind}

-- ----- answers
pub ok_made : {T E : Type 0} {P Q : Type 0} (r : Result T E) → (P → Q) → OnOk r P → OnOk r Q
ok_made (Ok x) f p = f p
ok_made (Err e) f p = tt

pub ok_three : {T E : Type 0} {P Q R U : Type 0} (r : Result T E) → (P → Q → R → U) → OnOk r P → OnOk r Q → OnOk r R
    → OnOk r U
ok_three (Ok x) f p q u = f p q u
ok_three (Err e) f p q u = tt

pub ok_later : {T E : Type 0} (A P : Type 0) (r : Result T E) → (A → OnOk r P) → OnOk r (A → P)
ok_later A P (Ok x) f = f
ok_later A P (Err e) f = tt

-- ----- moves
pub moves_handed : (ms : List MoveLine) → map handed_move (map moves.group_move ms) ≡ map group_move ms
moves_handed [] = refl
moves_handed (m ∷ ms) = ap (λ l. group_move m ∷ l) (moves_handed ms)

pub moves_below : (ms : List steer.GroupMove) → All (λ (m : steer.GroupMove). m.group < 64) ms
    → All (λ (m : GroupMove). m.group < 64) (map handed_move ms)
moves_below [] below k d near = absurd (omega (arith, near))
moves_below (m ∷ ms) below zero d near = below 0 m (omega arith)
moves_below (m ∷ ms) below (suc k) d near =
    moves_below ms (λ j e close. below (suc j) e (omega (arith, close))) k d (omega (arith, near))

-- ----- the host when time has passed, and frames are handed out
pub passed_clear : (t : ℕ) (before passed : Staffed) → IsTimePassed t before passed → Each IsClear before.lanes
    → Each IsClear passed.lanes
passed_clear t before passed time clear =
    subst (Each IsClear) (sym (ap (λ (x : Staffed). x.lanes) time.same)) clear

dealt_none : (k : ℕ) (handed : List ℕ) (fs : List Frame) (ls : List Lane) → Each IsUnasked ls
    → Each IsUnasked (dealt_from k handed fs ls)
dealt_none k handed fs [] none = tt
dealt_none k handed fs (lanes.Core l ∷ ls) none = (tt, dealt_none (suc k) handed fs ls none.1)
dealt_none k handed fs (lanes.App l ∷ ls) none = (none.0, dealt_none (suc k) handed fs ls none.1)

module _ (t : ℕ) (moves : List GroupMove) (frames : List Frame) (before passed handed : Staffed)
    (time : IsTimePassed t before passed) (dealt : IsHandedOut moves frames passed handed) where
  pub handed_none : Each IsUnasked before.lanes → Each IsUnasked handed.lanes
  handed_none none =
      subst (Each IsUnasked) (sym dealt.lanes.1)
      (dealt_none 0 dealt.lanes.0 frames passed.lanes
      (subst (Each IsUnasked) (sym (ap (λ (x : Staffed). x.lanes) time.same)) none))

  pub handed_own : (xs : List Script) → Each (Owns (seen_by before).flows) xs → Each (Owns (seen_by handed).flows) xs
  handed_own xs own =
      subst (λ (g : Host). Each (Owns g.flows) xs)
      (sym (ap host_of (ap (λ (x : Staffed). x.host) dealt.same) ∙ time.made))
      (all_own_still (seen_by before).flows _ (slow_holders t (seen_by before)) xs own)

pub has_begun : (s : Scenario) (t : ℕ) (name : List ℕ) (frames : List Frame) (scripts : List Script)
    (before passed handed trying : Staffed) (moves : List GroupMove) → IsTimePassed t before passed
    → moves ≡ moves_of s name t → IsHandedOut moves frames passed handed → AreTriesSet handed trying
    → AreSetTo (tries_of t scripts trying) trying.lanes → MayAllPlay trying
    → IsBegun s t name frames scripts before trying
has_begun s t name frames scripts before passed handed trying moves time are dealt tries set may = record {
  passed = passed;
  time = time;
  handed = handed;
  dealt = subst (λ ms. IsHandedOut ms frames passed handed) are dealt;
  tries = tries;
  set = set;
  may = may;
}

-- ----- one try
module _ (t : ℕ) (h : Staffed) (x : Script) (own : Owns (seen_by h).flows x) where
  own_names : AreOwnIn h.host.books x.number x.names
  own_names = own_in h.host.slow.pass.view.base h.host.books x own

  book_of_try : (a : local.Attempt) → IsTrialIn t x (Some a) → HasBook t h.host.books x a
  book_of_try a is = trial_book t h.host.books x a (trial_of t x a is) own_names

  pub try_socket : (a : local.Attempt) → IsTrialIn t x (Some a) → HasSocketAt x.number a.place h
  try_socket a is = let b = book_of_try a is in (b.book, b.there, b.held)

  pub try_kind : (a : local.Attempt) → IsAtStep x → IsTrialIn t x (Some a) → IsTryCall a.call
  try_kind a at is = trial_kind t x a (trial_of t x a is) at

  pub none_tried : IsTrialIn t x None → HasTried x.number (try_of t h.host.books x) h h
  none_tried is =
      subst (λ (o : Option ScriptTry). HasTried x.number o h h) (sym (no_trial t h.host.books x is)) refl

  pub one_tried : (a : local.Attempt) (k : Staffed) {T E : Type 0} (r : Result T E) → IsTrialIn t x (Some a)
      → ((b : Book) → slice_get h.host.books a.place ≡ Some b → OnOk r (IsTrying x.number b.id a.call h k))
      → OnOk r (HasTried x.number (try_of t h.host.books x) h k)
  one_tried a k r is tried =
      let b = book_of_try a is in
      ok_made r
      (λ trying.
      subst (λ (o : Option ScriptTry). HasTried x.number o h k) (sym b.tries) (
        a.call,
        subst (λ id. IsTrying x.number id a.call h k) (sym b.flow) trying,
        b.call,
        b.offer,
      )) (tried b.book b.there)
