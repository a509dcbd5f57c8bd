-- What the lanes' tries were answered in a phase, by which their scripts go on.
use Rattle.std.proofs.Common.{◌≡◌, ℕ, zero, suc, ◌==◌, not, Bool, true, false, List, [], ◌∷◌, ◌++◌, map}
use Rattle.std.proofs.Common.{refl, sym, ap, subst, ◌∙◌, cond}
use Rattle.std.specs.Prelude.{Option, Some, None, IfSome, is_some, ⊤}
use Rattle.std.specs.List.{find}
use Rattle.tas_model.specs.declared.entry.Call.{Call}
use Rattle.tas_model.specs.declared.entry.Caller.TheVariants.{App}
use Rattle.tas_model.specs.declared.entry.FlowId.{FlowId}
use Rattle.tas_model.specs.declared.entry.Reply.{Reply}
use Rattle.tas_model.specs.LegalHistory.{Offers}
use Rattle.flow_state.specs.declared.call.Answer.{Answer}
use Rattle.flow_lock.specs.Orders.{Order, of}
use Rattle.flow_lock.specs.Passes.{new_turn}
use Rattle.flow_lock.specs.declared.view.Deed.{Deed}
use Rattle.host_rounds.specs.Lists.{Each}
use Rattle.libtas_sockets.specs.Apps.{Application, flow_of, with_view}
use Rattle.libtas_sockets.specs.declared.socket.Socket.{Socket}
use Rattle.core_phase.specs.Attempts.{HasTried}
use Rattle.core_phase.specs.Lanes.{HasPlayed, with_turns_of, IsOf}
use Rattle.core_phase.specs.Phases as phases
use Rattle.core_phase.specs.Phases.{AreParts}
use Rattle.core_phase.specs.Words.{IsTryOf}
use Rattle.core_phase.specs.declared.attempt.Answered.{Answered}
use Rattle.core_phase.specs.declared.attempt.Answered.TheVariants as answers
use Rattle.core_phase.specs.declared.attempt.Attempt.{Attempt}
use Rattle.core_phase.specs.declared.attempt.Attempt.TheVariants as attempts
use Rattle.core_phase.specs.declared.lane.AppLane.{AppLane}
use Rattle.core_phase.specs.declared.lane.Lane.{Lane}
use Rattle.core_phase.specs.declared.lane.Lane.TheVariants as lanes
use Rattle.host_books.specs.Books.{Book}
use Rattle.host_books.specs.Leavings.{Leaving, leaving_on}
use Rattle.host_books.specs.Tries.{reply_on}
use Rattle.phase_orders.specs.AppTurns.{is_made, asked_by, IsTold, IsLeftIf}
use Rattle.phase_orders.specs.Lanes.{IsTryBy, IsLeavingIn, all_asked, AreLeavings}
use Rattle.phase_orders.proofs.AppTurns.{made_as, IsMadeAs}
use Rattle.scenario_text.specs.declared.scenario.Step.{Step}
use Rattle.scenario_runs.specs.Applications.{Script, has_ended}
use Rattle.scenario_ranges.specs.Ranges.{IsStepInRange}
use Rattle.scenario_host.specs.Sound.{AreRising, IsPart, IsPartOfFirst, IsFit}
use Rattle.scenario_host.specs.Tries.{answered_first, IsAtStep, IsAnswerFirst, IsAnswerWithin}
use Rattle.scenario_host.proofs.Fit.{StaysFit, stays_same}
use Rattle.script_tries.specs.Replies.{leaving_in, leavings_of, answered_in, answered_of, is_of, reply_to, gone_on}
use Rattle.script_tries.specs.Replies.{later_of}
use Rattle.script_tries.specs.Steps.{call_at, offer_at, by_reply, first_by_reply}
use Rattle.script_tries.specs.Steps as script_steps
use Rattle.script_tries.specs.Tries.{ScriptTry, try_of}
use Rattle.core_host.specs.Attempts.{answer_told}
use Rattle.core_host.specs.Sharing.{in_tick, all_in_tick}
use Rattle.core_host.specs.Sound.{AreApps, AreStaff}
use Rattle.core_host.specs.Ticks.{AreSetTo}
use Rattle.shared_scripts.specs.Answers.{goes_by, answer_for, answer_unless, answer_to, answers_in, heard_by, later_by}
use Rattle.shared_scripts.specs.Answers.{AreWithin}
use Rattle.shared_scripts.specs.Begun.{has_number, try_in, lane_try}
use Rattle.shared_scripts.specs.Turns.{numbers_in}
use Rattle.script_tries.proofs.Together.{tries_as, under_way_as}
use Rattle.shared_scripts.proofs.Heard.{IsHeard, IsHeardAs, heard, unmade, alike, reply_may, offers_at}
use Rattle.shared_scripts.proofs.Heard.{within_at, fit_then}
use Rattle.shared_scripts.proofs.LaneTries.{lane_inverse}
use Rattle.shared_scripts.proofs.LaneTries.{IsOther, AreOnce, once_later, once_first}
use Rattle.shared_scripts.proofs.Rising.{same_number, is_number, find_middle, append_one}

-- ----- lanes of the same staff
-- both are cores, or the same application
abbrev pub IsKin : Lane → Lane → Type 0
IsKin (lanes.Core v) (lanes.Core w) = ⊤
IsKin (lanes.App v) (lanes.App w) = w.app.number ≡ v.app.number
IsKin v w = ⊥

abbrev pub AreKin : List Lane → List Lane → Type 0
AreKin [] ws = ws ≡ []
AreKin (v ∷ vs) [] = ⊥
AreKin (v ∷ vs) (w ∷ ws) = IsKin v w × AreKin vs ws

kin_names : (names : List ℕ) (vs ws : List Lane) → AreApps names vs → AreApps names ws → AreKin vs ws
kin_names [] [] ws one other = other
kin_names [] (v ∷ vs) ws one other = absurd (cc (one))
kin_names (n ∷ ns) [] ws one other = absurd one
kin_names (n ∷ ns) (lanes.Core v ∷ vs) ws one other = absurd one
kin_names (n ∷ ns) (lanes.App v ∷ vs) [] one other = absurd other
kin_names (n ∷ ns) (lanes.App v ∷ vs) (lanes.Core w ∷ ws) one other = absurd other
kin_names (n ∷ ns) (lanes.App v ∷ vs) (lanes.App w ∷ ws) one other =
    (other.0 ∙ sym one.0, kin_names ns vs ws one.1 other.1)

pub kin_staff : (n first : ℕ) (names : List ℕ) (vs ws : List Lane) → AreStaff n first names vs
    → AreStaff n first names ws → AreKin vs ws
kin_staff zero first names vs ws one other = kin_names names vs ws one other
kin_staff (suc n) first names [] ws one other = absurd one
kin_staff (suc n) first names (lanes.App v ∷ vs) ws one other = absurd one
kin_staff (suc n) first names (lanes.Core v ∷ vs) [] one other = absurd other
kin_staff (suc n) first names (lanes.Core v ∷ vs) (lanes.App w ∷ ws) one other = absurd other
kin_staff (suc n) first names (lanes.Core v ∷ vs) (lanes.Core w ∷ ws) one other =
    (tt, kin_staff n (suc first) names vs ws one.1 other.1)

-- ----- one lane's reply
-- the application was told of the reply, where its call was made, and else nothing
abbrev pub IsReplied : Option ScriptTry → Lane → Option Reply → Type 0
IsReplied o (lanes.Core w) r = o ≡ None
IsReplied None (lanes.App w) r = answer_told w.answer ≡ None
IsReplied (Some x) (lanes.App w) None = answer_told w.answer ≡ None
IsReplied (Some x) (lanes.App w) (Some reply) = IsHeard x.call w.answer reply

abbrev pub AreReplied : List (Option ScriptTry) → List Lane → List (Option Reply) → Type 0
AreReplied [] ws rs = (ws ≡ []) × (rs ≡ [])
AreReplied (o ∷ os) [] rs = ⊥
AreReplied (o ∷ os) (w ∷ ws) [] = ⊥
AreReplied (o ∷ os) (w ∷ ws) (r ∷ rs) = IsReplied o w r × AreReplied os ws rs

-- The replies of all lanes, what they leave, and who was answered.
pub record HasReplies (os : List (Option ScriptTry)) (ws : List Lane) (ls : List (Leaving (List Script))) : Type 0
  where
    pub replies : List (Option Reply)
    pub are : AreReplied os ws replies
    pub leave : ls ≡ leavings_of os replies
    pub asked : all_asked os ws ≡ answered_of os replies

app_is : (x y : AppLane) → lanes.App x ≡ lanes.App y → x ≡ y
app_is x y e = cc (e)

-- who tried nothing was answered nothing
untried : (s : Socket) (t : ℕ) (a b : Application) (x y : Attempt) (answer : Answered) → x ≡ attempts.Nothing
    → HasTried s t a b x y answer → answer ≡ answers.Nothing
untried s t a b x y answer e tried = by (subst (λ (z : Attempt). HasTried s t a b z y answer) e tried) where
  by : HasTried s t a b attempts.Nothing y answer → answer ≡ answers.Nothing
  by (same, is) = is

quiet_lane : (order : Order) (p : ℕ) (v w : AppLane) → v.attempt ≡ attempts.Nothing
    → phases.IsPart order p (lanes.App v) (lanes.App w) → w.answer ≡ answers.Nothing
quiet_lane order p v w none part = by part.after part.did part.back where
  by : (after : Lane) → HasPlayed (with_turns_of (new_turn p ∷ []) (lanes.App v)) after
      → lanes.App w ≡ with_turns_of [] after → w.answer ≡ answers.Nothing
  by (lanes.Core m) did back = absurd did
  by (lanes.App m) did back =
      ap (λ (x : AppLane). x.answer) (app_is w _ back)
      ∙ untried v.socket v.tick (with_view (record (v.app.pass.view) { turns = new_turn p ∷ [] }) v.app) m.app
      v.attempt m.attempt m.answer none did.tried

-- what one lane's call left is by its reply
record OneReply (o : Option ScriptTry) (w : AppLane) (gs : List (Leaving (List Script))) : Type 0 where
  reply : Option Reply
  is : IsReplied o (lanes.App w) reply
  leaves : gs ≡ leaving_in o reply
  asks : asked_by o w.answer ≡ answered_in o reply

made_reply : (t : ℕ) (x : ScriptTry) (step : Step) (s : Script) (app : ℕ) (id : FlowId) (before : Attempt)
    (w : AppLane) (gs : List (Leaving (List Script))) (b : Bool) → is_made w.answer ≡ b → x.call ≡ call_at step s
    → x.offer ≡ offer_at step s → IsTryOf app id before x → IsLeftIf b t x before w.attempt w.answer gs
    → OneReply (Some x) w gs
made_reply t x step s app id before w gs false made call offer of_try left = record {
  reply = None;
  is = unmade w.answer made;
  leaves = left;
  asks = ap (λ (b : Bool). cond b (x.ask ∷ []) []) made;
}
made_reply t x step s app id before w gs true made call offer of_try (h, legal, told, left) =
    let offers : Offers x.call x.offer =
    (subst (λ (c : Call). Offers c x.offer) (sym call) (subst (Offers (call_at step s)) (sym offer)
    (offers_at step s))) in
    record {
      reply = Some (reply_on t x h);
      is = heard x.call before w.attempt w.answer (reply_on t x h) of_try.call_is
          (reply_may h.params h.entries (App x.app) t x.call x.offer offers) told;
      leaves = left;
      asks = ap (λ (b : Bool). cond b (x.ask ∷ []) []) made;
    }

-- ----- scripts that go on
-- each is of the same application, and fit for so many flows
abbrev pub AllStayFit : (flows : ℕ) → (before after : List Script) → Type 0
AllStayFit n [] ys = ys ≡ []
AllStayFit n (x ∷ xs) [] = ⊥
AllStayFit n (x ∷ xs) (y ∷ ys) = StaysFit n x y × AllStayFit n xs ys

-- ----- each script is found by its number
found_from : (front xs : List Script) → AreRising (front ++ xs)
    → Each (λ (x : Script). find (has_number x.number) (front ++ xs) ≡ Some x) xs
found_from front [] rising = tt
found_from front (x ∷ xs) rising = (
  find_middle front x xs rising,
  subst (λ (zs : List Script). Each (λ (y : Script). find (has_number y.number) zs ≡ Some y) xs) (append_one front x xs)
      (found_from (front ++ x ∷ []) xs (subst AreRising (sym (append_one front x xs)) rising)),
)

pub all_found : (xs : List Script) → AreRising xs → Each (λ (x : Script). find (has_number x.number) xs ≡ Some x) xs
all_found xs rising = found_from [] xs rising

-- ----- all lanes' replies
module _ (t : ℕ) (books : List Book) (scripts : List Script) where
  abbrev pub tries : List Lane → List (Option ScriptTry)
  tries ls = map (lane_try t books scripts) ls

  lane_reply : (order : Order) (p : ℕ) (l w : AppLane) (gs : List (Leaving (List Script))) (o : Option ScriptTry)
      → try_in t books (find (has_number l.app.number) scripts) ≡ o
      → phases.IsPart order p (in_tick t (lanes.App l)) (lanes.App w) → IsTryBy o l
      → IsLeavingIn t o (in_tick t (lanes.App l)) (lanes.App w) gs → OneReply o w gs
  lane_reply order p l w gs None e part set left = record {
    reply = None;
    is = ap answer_told (quiet_lane order p (record l { tick = t }) w set part);
    leaves = left;
    asks = refl;
  }
  lane_reply order p l w gs (Some x) e part set left =
      let lane = lane_inverse t books scripts l.app.number x e in
      let at = tries_as t books lane.script x lane.tries in
      made_reply t x at.step lane.script l.app.number (flow_of l.app l.socket) l.attempt w gs (is_made w.answer) refl
      (ap (λ (y : ScriptTry). y.call) at.is) (ap (λ (y : ScriptTry). y.offer) at.is) set left

  pub replied : (order : Order) (p : ℕ) (ls ws : List Lane) (gs : List (Leaving (List Script)))
      → AreParts order p (all_in_tick t ls) ws → AreSetTo (tries ls) ls
      → AreLeavings t (tries ls) (all_in_tick t ls) ws gs → HasReplies (tries ls) ws gs
  replied order p [] ws gs parts set left =
      record { replies = []; are = (parts, refl); leave = left; asked = refl }
  replied order p (l ∷ ls) [] gs parts set left = absurd parts
  replied order p (lanes.Core l ∷ ls) (lanes.App w ∷ ws) gs parts set left = absurd parts.0.deeds
  replied order p (lanes.App l ∷ ls) (lanes.Core w ∷ ws) gs parts set left = absurd parts.0.deeds
  replied order p (lanes.Core l ∷ ls) (lanes.Core w ∷ ws) gs parts set (a, b, both, none, left) =
      let rest = replied order (suc p) ls ws b parts.1 set.1 left in
      record {
        replies = None ∷ rest.replies;
        are = (refl, rest.are);
        leave = both ∙ (λ i. none i ++ rest.leave i);
        asked = rest.asked;
      }
  replied order p (lanes.App l ∷ ls) (lanes.App w ∷ ws) gs parts set (a, b, both, one, left) =
      let rest = replied order (suc p) ls ws b parts.1 set.1 left in
      let here = lane_reply order p l w a (try_in t books (find (has_number l.app.number) scripts)) refl parts.0 set.0
      one in
      record {
        replies = here.reply ∷ rest.replies;
        are = (here.is, rest.are);
        leave = both ∙ (λ i. here.leaves i ++ rest.leave i);
        asked = λ i. here.asks i ++ rest.asked i;
      }

  -- there is what they left
  left_as : (x : ScriptTry) (before after : Attempt) (answer : Answered) (ds : List Deed) (b : Bool)
      → IsMadeAs b t x (IsTold before after answer) ds
      → (gs : List (Leaving (List Script))) × IsLeftIf b t x before after answer gs
  left_as x before after answer ds false none = ([], refl)
  left_as x before after answer ds true (d, is, word, told) =
      (leaving_on t d.before x ∷ [], (d.before, word.adds.legal, told, refl))

  lane_left : (o : Option ScriptTry) (l w : AppLane) (ds : List Deed) → IsTryBy o l
      → IsOf (in_tick t (lanes.App l)) (lanes.App w) ds
      → (gs : List (Leaving (List Script))) × IsLeavingIn t o (in_tick t (lanes.App l)) (lanes.App w) gs
  lane_left None l w ds set deeds = ([], refl)
  lane_left (Some x) l w ds set deeds =
      left_as x l.attempt w.attempt w.answer ds (is_made w.answer)
      (made_as t x l.app.number (flow_of l.app l.socket) l.attempt w.attempt w.answer ds set deeds)

  pub leavings_there : (order : Order) (p : ℕ) (ls ws : List Lane) → AreParts order p (all_in_tick t ls) ws
      → AreSetTo (tries ls) ls
      → (gs : List (Leaving (List Script))) × AreLeavings t (tries ls) (all_in_tick t ls) ws gs
  leavings_there order p [] ws parts set = ([], refl)
  leavings_there order p (l ∷ ls) [] parts set = absurd parts
  leavings_there order p (lanes.Core l ∷ ls) (lanes.App w ∷ ws) parts set = absurd parts.0.deeds
  leavings_there order p (lanes.App l ∷ ls) (lanes.Core w ∷ ws) parts set = absurd parts.0.deeds
  leavings_there order p (lanes.Core l ∷ ls) (lanes.Core w ∷ ws) parts set =
      let rest = leavings_there order (suc p) ls ws parts.1 set.1 in
      (rest.0, ([], rest.0, refl, refl, rest.1))
  leavings_there order p (lanes.App l ∷ ls) (lanes.App w ∷ ws) parts set =
      let rest = leavings_there order (suc p) ls ws parts.1 set.1 in
      let here = lane_left (lane_try t books scripts (lanes.App l)) l w (of p order) set.0 parts.0.deeds in
      (here.0 ++ rest.0, (here.0, rest.0, refl, here.1, rest.1))

  -- ----- by the number of a script
  -- the script goes on by the answer as by the reply, where it has one
  record IsAlike (x : Script) (r : Option Reply) (a : Option Answer) : Type 0 where
    goes : script_steps.goes_by r x ≡ goes_by a x
    some : is_some r ≡ is_some a
    within : IfSome a (λ (b : Answer). IsAnswerWithin b x)
    fits : (flows : ℕ) → IsFit flows x → StaysFit flows x (goes_by a x)

  both_none : (x : Script) (r : Option Reply) (a : Option Answer) → r ≡ None → a ≡ None → IsAlike x r a
  both_none x r a e f =
      subst (λ (q : Option Reply). IsAlike x q a) (sym e)
      (subst (IsAlike x None) (sym f)
      (record { goes = refl; some = refl; within = tt; fits = λ n fit. stays_same n x fit }))

  -- the step under way, of which not all is done
  first_range : (x : Script) (step : Step) (rest : List Step) → x.left ≡ step ∷ rest → IsAtStep x
      → IsStepInRange step × IsPart step x.done
  first_range x step rest left at = (
    (subst (Each IsStepInRange) left at.steps).0,
    subst (λ (l : List Step). IsPartOfFirst l x.done) left at.part,
  )

  unless_none : (ended : Bool) → answer_unless ended None ≡ None
  unless_none true = refl
  unless_none false = refl

  -- none of these lanes is of the script
  none_replied : (n : ℕ) (ls : List Lane) (rs : List (Option Reply)) → Each (IsOther n) ls
      → reply_to n (tries ls) rs ≡ None
  none_replied n [] rs others = refl
  none_replied n (l ∷ ls) [] others = refl
  none_replied n (lanes.Core l ∷ ls) (r ∷ rs) others = none_replied n ls rs others.1
  none_replied n (lanes.App l ∷ ls) (r ∷ rs) others =
      ap (λ (b : Bool). elim b [ true ↦ r | false ↦ reply_to n (tries ls) rs ])
      (not_of (try_in t books (find (has_number l.app.number) scripts)) refl)
      ∙ none_replied n ls rs others.1
    where
      not_of : (o : Option ScriptTry) → try_in t books (find (has_number l.app.number) scripts) ≡ o
          → is_of n o ≡ false
      not_of None e = refl
      not_of (Some y) e =
          ap (λ (k : ℕ). k == n) (lane_inverse t books scripts l.app.number y e).ask ∙ others.0

  -- a script that was answered
  heard_alike : (x : Script) (step : Step) (rest : List Step) (a : Answer) (reply : Reply) → x.left ≡ step ∷ rest
      → IsAtStep x → IsHeardAs (call_at step x) a reply → IsAlike x (Some reply) (Some a)
  heard_alike x step rest a reply left at so =
      let first = first_range x step rest left at in
      let goes : answered_first x.left a x ≡ by_reply step reply x =
      ap (λ (l : List Step). answered_first l a x) left ∙ alike step x a reply so in
      record {
        goes = ap (λ (l : List Step). first_by_reply l reply x) left ∙ sym goes;
        some = refl;
        within = subst (λ (l : List Step). IsAnswerFirst l a x) (sym left)
            (within_at step x a reply first.0 first.1 so);
        fits = λ n fit. subst (StaysFit n x) (sym goes) (fit_then n step rest x a reply left first.1 so fit);
      }

  -- the lane of a script
  own_alike : (x : Script) (n : ℕ) (o : Option ScriptTry) (w : AppLane) (r later : Option Reply) → IsAtStep x
      → x.number ≡ n → try_of t books x ≡ o → IsReplied o (lanes.App w) r → later ≡ None
      → IsAlike x (elim (is_of n o) [ true ↦ r | false ↦ later ]) (answer_unless (has_ended x) (answer_told w.answer))
  own_alike x n None w r later at_step number e is none =
      both_none x later (answer_unless (has_ended x) (answer_told w.answer)) none
      (ap (answer_unless (has_ended x)) is ∙ unless_none (has_ended x))
  own_alike x n (Some y) w None later at_step number e is none =
      let at = tries_as t books x y e in
      let own : is_of n (Some y) ≡ true =
      same_number y.ask n (ap (λ (z : ScriptTry). z.ask) at.is ∙ number) in
      both_none x (elim (is_of n (Some y)) [ true ↦ None | false ↦ later ])
      (answer_unless (has_ended x) (answer_told w.answer))
      (ap (λ (b : Bool). elim b [ true ↦ None | false ↦ later ]) own)
      (ap (answer_unless (has_ended x)) is ∙ unless_none (has_ended x))
  own_alike x n (Some y) w (Some reply) later at_step number e is none =
      let at = tries_as t books x y e in
      let way = under_way_as t x at.step at.under_way in
      let own : is_of n (Some y) ≡ true =
      same_number y.ask n (ap (λ (z : ScriptTry). z.ask) at.is ∙ number) in
      let told : answer_unless (has_ended x) (answer_told w.answer) ≡ Some is.told_is =
      ap (λ (left : List Step). answer_unless (elim left [ [] ↦ true | z ∷ zs ↦ false ]) (answer_told w.answer))
      way.left
      ∙ is.is in
      let so : IsHeardAs (call_at at.step x) is.told_is reply =
      subst (λ (c : Call). IsHeardAs c is.told_is reply) (ap (λ (z : ScriptTry). z.call) at.is) is.so in
      subst (λ (q : Option Reply). IsAlike x q (answer_unless (has_ended x) (answer_told w.answer)))
      (sym (ap (λ (b : Bool). elim b [ true ↦ Some reply | false ↦ later ]) own))
      (subst (IsAlike x (Some reply)) (sym told)
      (heard_alike x at.step way.rest is.told_is reply way.left at_step so))

  lanes_alike : (x : Script) (ls ws : List Lane) (rs : List (Option Reply)) → IsAtStep x
      → find (has_number x.number) scripts ≡ Some x → AreOnce ls → AreKin ls ws → AreReplied (tries ls) ws rs
      → IsAlike x (reply_to x.number (tries ls) rs) (answer_to ws x)
  lanes_alike x [] ws rs at found once kin are =
      both_none x None (answer_to ws x) refl
      (ap (λ (zs : List Lane). answer_to zs x) kin ∙ unless_none (has_ended x))
  lanes_alike x (l ∷ ls) [] rs at found once kin are = absurd kin
  lanes_alike x (l ∷ ls) (w ∷ ws) [] at found once kin are = absurd are
  lanes_alike x (lanes.Core l ∷ ls) (lanes.App w ∷ ws) (r ∷ rs) at found once kin are = absurd kin.0
  lanes_alike x (lanes.App l ∷ ls) (lanes.Core w ∷ ws) (r ∷ rs) at found once kin are = absurd kin.0
  lanes_alike x (lanes.Core l ∷ ls) (lanes.Core w ∷ ws) (r ∷ rs) at found once kin are =
      lanes_alike x ls ws rs at found (once_later (lanes.Core l) ls once) kin.1 are.1
  lanes_alike x (lanes.App l ∷ ls) (lanes.App w ∷ ws) (r ∷ rs) at found once kin are =
      subst (λ (b : Bool). IsAlike x (reply_to n (tries (lanes.App l ∷ ls)) (r ∷ rs))
      (answer_unless (has_ended x) (elim b [ true ↦ answer_told w.answer | false ↦ answer_for n ws ])))
      (ap (λ (k : ℕ). k == n) (sym kin.0))
      (by (l.app.number == n) refl (lanes_alike x ls ws rs at found (once_later (lanes.App l) ls once) kin.1 are.1))
    where
      n : ℕ
      n = x.number

      o : Option ScriptTry
      o = try_in t books (find (has_number l.app.number) scripts)

      not_own : (q : Option ScriptTry) → o ≡ q → (l.app.number == n) ≡ false → is_of n q ≡ false
      not_own None e apart = refl
      not_own (Some y) e apart =
          ap (λ (k : ℕ). k == n) (lane_inverse t books scripts l.app.number y e).ask ∙ apart

      by : (b : Bool) → (l.app.number == n) ≡ b
          → IsAlike x (reply_to n (tries ls) rs) (answer_to ws x)
          → IsAlike x (elim (is_of n o) [ true ↦ r | false ↦ reply_to n (tries ls) rs ])
          (answer_unless (has_ended x) (elim b [ true ↦ answer_told w.answer | false ↦ answer_for n ws ]))
      by true own rest =
          let same : l.app.number ≡ n = is_number l.app.number n own in
          let its : try_of t books x ≡ o =
          ap (try_in t books) (sym found) ∙ ap (λ (k : ℕ). try_in t books (find (has_number k) scripts)) (sym same) in
          own_alike x n o w r (reply_to n (tries ls) rs) at refl its are.0
          (none_replied n ls rs (subst (λ (k : ℕ). Each (IsOther k) ls) same (once_first l ls once)))
      by false apart rest =
          subst (λ (c : Bool). IsAlike x (elim c [ true ↦ r | false ↦ reply_to n (tries ls) rs ])
          (answer_unless (has_ended x) (answer_for n ws))) (sym (not_own o refl apart)) rest

  -- ----- all scripts
  module _ (ls ws : List Lane) (rs : List (Option Reply)) (once : AreOnce ls) (kin : AreKin ls ws)
      (are : AreReplied (tries ls) ws rs) where
    abbrev IsFound : Script → Type 0
    IsFound x = find (has_number x.number) scripts ≡ Some x

    heard_each : (xs : List Script) → Each IsAtStep xs → Each IsFound xs
        → gone_on (tries ls) rs xs ≡ heard_by (answers_in ws xs) xs
    heard_each [] at found = refl
    heard_each (x ∷ xs) at found =
        let one = (lanes_alike x ls ws rs at.0 found.0 once kin are).goes in
        let more = heard_each xs at.1 found.1 in
        λ i. one i ∷ more i

    later_each : (xs : List Script) → Each IsAtStep xs → Each IsFound xs
        → later_of (tries ls) rs (numbers_in xs) ≡ later_by (answers_in ws xs) (numbers_in xs)
    later_each [] at found = refl
    later_each (x ∷ xs) at found =
        one (reply_to x.number (tries ls) rs) (answer_to ws x)
        (lanes_alike x ls ws rs at.0 found.0 once kin are).some (later_each xs at.1 found.1)
      where
        later : List ℕ
        later = later_of (tries ls) rs (numbers_in xs)

        one : (r : Option Reply) (a : Option Answer) → is_some r ≡ is_some a
            → later ≡ later_by (answers_in ws xs) (numbers_in xs)
            → cond (not (is_some r)) (x.number ∷ later) later
            ≡ elim a [
              | None ↦ x.number ∷ later_by (answers_in ws xs) (numbers_in xs)
              | Some b ↦ later_by (answers_in ws xs) (numbers_in xs)
            ]
        one None None same rest = ap (λ (ns : List ℕ). x.number ∷ ns) rest
        one None (Some b) same rest = absurd (cc (same))
        one (Some r) None same rest = absurd (cc (same))
        one (Some r) (Some b) same rest = rest

    within_each : (xs : List Script) → Each IsAtStep xs → Each IsFound xs → AreWithin (answers_in ws xs) xs
    within_each [] at found = tt
    within_each (x ∷ xs) at found =
        ((lanes_alike x ls ws rs at.0 found.0 once kin are).within, within_each xs at.1 found.1)

    fits_each : (flows : ℕ) (xs : List Script) → Each IsAtStep xs → Each IsFound xs → Each (IsFit flows) xs
        → AllStayFit flows xs (heard_by (answers_in ws xs) xs)
    fits_each flows [] at found fit = refl
    fits_each flows (x ∷ xs) at found fit = (
      (lanes_alike x ls ws rs at.0 found.0 once kin are).fits flows fit.0,
      fits_each flows xs at.1 found.1 fit.1,
    )

    module _ (rising : AreRising scripts) (at : Each IsAtStep scripts) where
      pub all_heard : gone_on (tries ls) rs scripts ≡ heard_by (answers_in ws scripts) scripts
      all_heard = heard_each scripts at (all_found scripts rising)

      pub all_later :
          later_of (tries ls) rs (numbers_in scripts) ≡ later_by (answers_in ws scripts) (numbers_in scripts)
      all_later = later_each scripts at (all_found scripts rising)

      pub all_within : AreWithin (answers_in ws scripts) scripts
      all_within = within_each scripts at (all_found scripts rising)

      pub all_fit : (flows : ℕ) → Each (IsFit flows) scripts
          → AllStayFit flows scripts (heard_by (answers_in ws scripts) scripts)
      all_fit flows fit = fits_each flows scripts at (all_found scripts rising) fit
