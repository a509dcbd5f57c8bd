-- How a session goes on, in whatever pieces its stream comes.
use Rattle.std.proofs.Common.{◌≡◌, ℕ, ◌+◌, ◌-◌, ◌<◌, ◌≤◌, Bool, true, false, cond, List, [], ◌∷◌, ◌++◌, length, take}
use Rattle.std.proofs.Common.{drop}
use Rattle.std.proofs.Common.{refl, sym, ap, ◌∙◌, subst, arith, nat_lt, nat_le, ◌==◌, append_assoc, length-append}
use Rattle.std.proofs.Common.{get_or, add-one}
use Rattle.std.proofs.lemmas.Bool.Decides.{nat_tests}
use Rattle.std.proofs.lemmas.List.{append-nil, take_all, take-append-drop}
use Rattle.std.proofs.Math.ListN.{drop_of_length-le}
use Rattle.std.proofs.Math.Seq.{take-append_seam, take-suc}
use Rattle.std.proofs.lemmas.Grind.{flat_map-append}
use Rattle.std.specs.Prelude.{flat_map}
use Rattle.std.specs.Borrow.{Bor}
use Rattle.kv_sessions.specs.Stored.{Map}
use Rattle.kv_sessions.specs.Lines.{FirstLine, Unended, TooLong, Line, first_line, words_of}
use Rattle.kv_sessions.specs.Commands.{Command, Set, Get, Delete, Quit, Unknown, command_of, block_len}
use Rattle.kv_sessions.specs.Outcomes.{Outcome, outcome}
use Rattle.kv_sessions.specs.Answers.{Waits, Whole, with_block, next_by, next_command}
use Rattle.kv_sessions.specs.Answers.{Answers, then_later, by_next, answers, answers_of, more_by}
use Rattle.kv_sessions.specs.Answers.{and_more}
use Rattle.kv_sessions.specs.Sessions.{Standing, InLine, InBlock, InDropped, Over, is_over, in_block, in_line, at_left}
use Rattle.kv_sessions.specs.Sessions.{at_end, standing, IsAfter, Answered, HasWhole}
use Rattle.kv_sessions.specs.Steps.{Step, stays, done, command_step, line_step, block_step, dropped_step, IsLast, Leads}
use Rattle.kv_sessions.proofs.Lined.{line_stays}
use Rattle.kv_sessions.proofs.Streams.{later_answers, one_command, goes_on, leaves_none}

-- ----- a session is over where its stream ended it
block_goes_on : (b : Bool) (key : List ℕ) (flags len : ℕ) (got : List ℕ) (missing : ℕ)
    → is_over (cond b (InBlock key flags len got) (InDropped missing)) ≡ false
block_goes_on true key flags len got missing = refl
block_goes_on false key flags len got missing = refl

in_block_goes_on : (command : Command) (got : List ℕ) → is_over (in_block command got) ≡ false
in_block_goes_on (Set key flags len) got = block_goes_on _ key flags len got _
in_block_goes_on (Get keys) got = refl
in_block_goes_on (Delete key) got = refl
in_block_goes_on Quit got = refl
in_block_goes_on Unknown got = refl

in_line_goes_on : (left : List ℕ) (f : FirstLine) → next_by f ≡ Waits → is_over (in_line left f) ≡ false
in_line_goes_on left Unended e = refl
in_line_goes_on left TooLong e = absurd (cc (e))
in_line_goes_on left (Line text rest) e = in_block_goes_on (command_of (words_of text)) rest

over_by : (ended : Bool) (left : List ℕ) → (ended ≡ false → next_command left ≡ Waits)
    → ended ≡ is_over (at_end ended left)
over_by true left h = refl
over_by false left h = sym (in_line_goes_on left (first_line left) (h refl))

pub ended_is_over : (m : Map) (stream : List ℕ) → (answers m stream).ended ≡ is_over (standing (answers m stream))
ended_is_over m stream = over_by (answers m stream).ended (answers m stream).left (leaves_none m stream)

-- ----- what a step makes of bytes is what they are answered
pub record Took (left taken : List ℕ) (store : Map) (replies : List ℕ) (later : Standing) (later_store : Map)
    (later_replies : List ℕ) : Type 0 where
  pub says : later_replies ≡ replies ++ (answers store (left ++ taken)).replies
  pub holds : later_store ≡ (answers store (left ++ taken)).map
  pub stands : later ≡ standing (answers store (left ++ taken))

leads_by : (ended : Bool) (left : List ℕ) (map : Map) (front : List ℕ)
    (taken : List ℕ) (session : Standing) (store : Map) (replies : List ℕ) (later : Standing) (later_store : Map)
    (later_replies said : List ℕ)
    → is_over session ≡ false
    → said ++ replies ≡ front → store ≡ map → session ≡ at_end ended left
    → (ended ≡ false → next_command left ≡ Waits)
    → ((rest : List ℕ) → next_command rest ≡ Waits → at_left rest ≡ session
    → Took rest taken store replies later later_store later_replies)
    → let a : Answers = more_by ended (record { replies = front; map = map; ended = ended; left = left }) taken in
    (said ++ later_replies ≡ a.replies) × (later_store ≡ a.map) × (later ≡ standing a)
leads_by true left map front taken session store replies later later_store later_replies said goes f s t w h =
    absurd (cc (goes, ap is_over t))
leads_by false left map front taken session store replies later later_store later_replies said goes f s t w h =
    let took = h left (w refl) (sym t) in
    let here : answers store (left ++ taken)
    ≡ answers map (left ++ taken) = ap (λ (m : Map). answers m (left ++ taken)) s in (
      ap (λ (rs : List ℕ). said ++ rs) took.says
          ∙ sym (append_assoc said replies (answers store (left ++ taken)).replies)
          ∙ ap (λ (rs : List ℕ). rs ++ (answers store (left ++ taken)).replies) f
          ∙ ap (λ (a : Answers). front ++ a.replies) here,
      took.holds ∙ ap (λ (a : Answers). a.map) here,
      took.stands ∙ ap standing here,
    )

pub leads : (session : Standing) (store : Map) (replies taken : List ℕ) (later : Standing) (later_store : Map)
    (later_replies : List ℕ)
    → is_over session ≡ false
    → ((rest : List ℕ) → next_command rest ≡ Waits → at_left rest ≡ session
    → Took rest taken store replies later later_store later_replies)
    → Leads session store replies taken later later_store later_replies
leads session store replies taken later later_store later_replies goes h = λ m stream said after.
    let a : Answers = answers m stream in
    let facts = leads_by a.ended a.left a.map a.replies taken session store replies later later_store later_replies said
    goes after.replies after.map after.stands (leaves_none m stream) h in
    let all : answers m (stream ++ taken) ≡ and_more a taken = goes_on m stream taken in
    record {
      replies = facts.0 ∙ sym (ap (λ (b : Answers). b.replies) all);
      map = facts.1 ∙ sym (ap (λ (b : Answers). b.map) all);
      stands = facts.2 ∙ sym (ap standing all);
    }

-- a session that is over takes bytes, and nothing changes
over_stays : (ended : Bool) (a : Answers) (taken : List ℕ) → ended ≡ true → more_by ended a taken ≡ a
over_stays true a taken e = refl
over_stays false a taken e = absurd (cc (e))

pub over_leads : (store : Map) (replies taken : List ℕ) → Leads Over store replies taken Over store replies
over_leads store replies taken = λ m stream said after.
    let a : Answers = answers m stream in
    let ended : a.ended ≡ true = ended_is_over m stream ∙ sym (ap is_over after.stands) in
    let all : answers m (stream ++ taken) ≡ a = goes_on m stream taken ∙ over_stays a.ended a taken ended in
    record {
      replies = after.replies ∙ sym (ap (λ (b : Answers). b.replies) all);
      map = after.map ∙ sym (ap (λ (b : Answers). b.map) all);
      stands = after.stands ∙ sym (ap standing all);
    }

-- nothing taken
pub none_leads : (session : Standing) (store : Map) (replies : List ℕ)
    → Leads session store replies [] session store replies
none_leads session store replies = λ m stream said after.
    subst (λ (s : List ℕ). IsAfter m s (said ++ replies) session store) (sym (append-nil stream)) after

-- one piece after another
pub then_leads : (s0 : Standing) (m0 : Map) (r0 t0 : List ℕ) (s1 : Standing) (m1 : Map) (r1 t1 : List ℕ) (s2 : Standing)
    (m2 : Map) (r2 : List ℕ)
    → Leads s0 m0 r0 t0 s1 m1 r1 → Leads s1 m1 r1 t1 s2 m2 r2 → Leads s0 m0 r0 (t0 ++ t1) s2 m2 r2
then_leads s0 m0 r0 t0 s1 m1 r1 t1 s2 m2 r2 f g = λ m stream said after.
    subst (λ (s : List ℕ). IsAfter m s (said ++ r2) s2 m2) (append_assoc stream t0 t1)
    (g m (stream ++ t0) said (f m stream said after))

-- ----- the answers to bytes of one command at most
pub record Is (a : Answers) (s : Step) : Type 0 where
  pub replies : a.replies ≡ s.reply
  pub map : a.map ≡ s.map
  pub stands : standing a ≡ s.standing

-- a command with nothing behind it
done_by : (ends : Bool) (reply : List ℕ) (map : Map)
    → Is (then_later ends (record { reply = reply; map = map; ends = ends }) (later_answers []))
    (done (record { reply = reply; map = map; ends = ends }))
unfolding answers_of
done_by true reply map = record { replies = refl; map = refl; stands = refl }
done_by false reply map = record { replies = append-nil reply; map = refl; stands = refl }

done_is : (o : Outcome) → Is (then_later o.ends o (later_answers [])) (done o)
done_is o = done_by o.ends o.reply o.map

-- the end of a line
command_is : (m : Map) (bytes : List ℕ) (command : Command) → at_left bytes ≡ in_block command []
    → Is (by_next later_answers m bytes (with_block command [])) (command_step m command)
command_is m bytes (Set key flags len) e =
    let few : nat_lt 0 (len + 2) ≡ true = grind (arith, nat_tests) in
    rw few (record { replies = refl; map = refl; stands = e })
command_is m bytes (Get keys) e = done_is (outcome m (Get keys) [])
command_is m bytes (Delete key) e = done_is (outcome m (Delete key) [])
command_is m bytes Quit e = done_is (outcome m Quit [])
command_is m bytes Unknown e = done_is (outcome m Unknown [])

line_is : (m : Map) (got : List ℕ) (f : FirstLine) → first_line got ≡ f → IsLast f
    → Is (by_next later_answers m got (next_by f)) (line_step m got f)
line_is m got Unended e last = record { replies = refl; map = refl; stands = ap (in_line got) e }
line_is m got TooLong e last = record { replies = refl; map = refl; stands = refl }
line_is m got (Line text rest) e last =
    let command : Command = command_of (words_of text) in
    subst (λ (r : List ℕ). Is (by_next later_answers m got (with_block command r)) (command_step m command)) (sym last)
    (command_is m got command (ap (in_line got) e ∙ ap (in_block command) last))

pub line_answers : (m : Map) (got : List ℕ) → IsLast (first_line got)
    → Is (answers m got) (line_step m got (first_line got))
line_answers m got last =
    subst (λ (a : Answers). Is a (line_step m got (first_line got))) (sym (one_command m got))
    (line_is m got (first_line got) refl last)

-- ----- in a line
waits_in_block : (b : Bool) (key got : List ℕ) (flags len missing : ℕ) (line : List ℕ)
    → cond b (InBlock key flags len got) (InDropped missing) ≡ InLine line → ⊥
waits_in_block true key got flags len missing line e = cc (e)
waits_in_block false key got flags len missing line e = cc (e)

whole_at_once : (command : Command) (got : List ℕ) → block_len command ≡ 0 → with_block command got ≡ Waits → ⊥
whole_at_once command got none e =
    let t : nat_lt (length got) (block_len command) ≡ false = grind (arith, nat_tests, none) in
    let here : Whole command (take (block_len command) got) (drop (block_len command) got) ≡ Waits = rw t at e in
    cc (here)

no_line : (command : Command) (got line : List ℕ) → with_block command got ≡ Waits
    → in_block command got ≡ InLine line → ⊥
no_line (Set key flags len) got line w e = waits_in_block _ key got flags len _ line e
no_line (Get keys) got line w e = whole_at_once (Get keys) got refl w
no_line (Delete key) got line w e = whole_at_once (Delete key) got refl w
no_line Quit got line w e = whole_at_once Quit got refl w
no_line Unknown got line w e = whole_at_once Unknown got refl w

left_in_line : (left line : List ℕ) (f : FirstLine) → next_by f ≡ Waits → in_line left f ≡ InLine line → left ≡ line
left_in_line left line Unended w e = cc (e)
left_in_line left line TooLong w e = absurd (cc (e))
left_in_line left line (Line text rest) w e = absurd (no_line (command_of (words_of text)) rest line w e)

pub line_leads : (line taken : List ℕ) (store : Map) (replies : List ℕ) (later : Standing) (later_store : Map)
    (later_replies : List ℕ)
    → IsLast (first_line (line ++ taken))
    → later_replies ≡ replies ++ (line_step store (line ++ taken) (first_line (line ++ taken))).reply
    → later_store ≡ (line_step store (line ++ taken) (first_line (line ++ taken))).map
    → later ≡ (line_step store (line ++ taken) (first_line (line ++ taken))).standing
    → Leads (InLine line) store replies taken later later_store later_replies
line_leads line taken store replies later later_store later_replies last r m s =
    leads (InLine line) store replies taken later later_store later_replies refl (λ rest w e.
    let same : rest ≡ line = left_in_line rest line (first_line rest) w e in
    let is = line_answers store (line ++ taken) last in
    subst (λ (l : List ℕ). Took l taken store replies later later_store later_replies) (sym same) (record {
      says = r ∙ ap (λ (rs : List ℕ). replies ++ rs) (sym is.replies);
      holds = m ∙ sym is.map;
      stands = s ∙ sym is.stands;
    }))

-- ----- in a block
-- the line of a set has come, and these bytes behind it
pub record SetLine (left : List ℕ) (key : List ℕ) (flags len : ℕ) (got : List ℕ) : Type 0 where
  pub text : List ℕ
  pub line : first_line left ≡ Line text got
  pub command : command_of (words_of text) ≡ Set key flags len

pub record BlockBegun (left : List ℕ) (key : List ℕ) (flags len : ℕ) (got : List ℕ) : Type 0 where
  pub begun : SetLine left key flags len got
  pub small : nat_le len 65536 ≡ true

block_in : (b : Bool) (key0 got0 key got : List ℕ) (flags0 len0 flags len missing : ℕ)
    → cond b (InBlock key0 flags0 len0 got0) (InDropped missing) ≡ InBlock key flags len got
    → (b ≡ true) × (key0 ≡ key) × (flags0 ≡ flags) × (len0 ≡ len) × (got0 ≡ got)
block_in true key0 got0 key got flags0 len0 flags len missing e = (refl, cc (e), cc (e), cc (e), cc (e))
block_in false key0 got0 key got flags0 len0 flags len missing e = absurd (cc (e))

begun_by : (left text got0 key got : List ℕ) (flags len : ℕ) (command : Command) → first_line left ≡ Line text got0
    → command_of (words_of text) ≡ command → in_block command got0 ≡ InBlock key flags len got
    → BlockBegun left key flags len got
begun_by left text got0 key got flags len (Set key0 flags0 len0) e c h =
    let parts = block_in (nat_le len0 65536) key0 got0 key got flags0 len0 flags len _ h in
    record {
      begun = record {
        text = text;
        line = e ∙ ap (λ (g : List ℕ). Line text g) parts.4;
        command = c ∙ cc (parts.1, parts.2, parts.3);
      };
      small = ap (λ (n : ℕ). nat_le n 65536) (sym parts.3) ∙ parts.0;
    }
begun_by left text got0 key got flags len (Get keys) e c h = absurd (cc (h))
begun_by left text got0 key got flags len (Delete key0) e c h = absurd (cc (h))
begun_by left text got0 key got flags len Quit e c h = absurd (cc (h))
begun_by left text got0 key got flags len Unknown e c h = absurd (cc (h))

block_begun : (left key got : List ℕ) (flags len : ℕ) (f : FirstLine) → first_line left ≡ f
    → in_line left f ≡ InBlock key flags len got → BlockBegun left key flags len got
block_begun left key got flags len Unended e h = absurd (cc (h))
block_begun left key got flags len TooLong e h = absurd (cc (h))
block_begun left key got flags len (Line text rest) e h =
    begun_by left text rest key got flags len (command_of (words_of text)) e refl h

-- what comes next behind the line of a set
set_next : (left key got taken : List ℕ) (flags len : ℕ) → SetLine left key flags len got
    → next_command (left ++ taken) ≡ with_block (Set key flags len) (got ++ taken)
set_next left key got taken flags len begun =
    ap next_by (line_stays left taken begun.text got begun.line)
    ∙ ap (λ (c : Command). with_block c (got ++ taken)) begun.command

set_at : (left key got taken : List ℕ) (flags len : ℕ) → SetLine left key flags len got
    → at_left (left ++ taken) ≡ in_block (Set key flags len) (got ++ taken)
set_at left key got taken flags len begun =
    ap (in_line (left ++ taken)) (line_stays left taken begun.text got begun.line)
    ∙ ap (λ (c : Command). in_block c (got ++ taken)) begun.command

-- bytes of a set's block, to its end at most
set_by : (m : Map) (bytes key got : List ℕ) (flags len : ℕ) (b : Bool) → nat_lt (length got) (len + 2) ≡ b
    → length got ≤ len + 2
    → Is (by_next later_answers m bytes (cond b Waits (Whole (Set key flags len) (take (len + 2) got) (drop
    (len + 2) got))))
    (cond b (stays m (at_left bytes)) (done (outcome m (Set key flags len) got)))
set_by m bytes key got flags len true t h = record { replies = refl; map = refl; stands = refl }
set_by m bytes key got flags len false t h =
    let all : length got ≡ len + 2 = grind (arith, nat_tests, t, h) in
    let most : length got ≤ len + 2 = omega arith in
    rw (take_all (len + 2) got most, drop_of_length-le got most) (done_is (outcome m (Set key flags len) got))

block_answers : (m : Map) (left key got taken : List ℕ) (flags len : ℕ) → SetLine left key flags len got
    → length (got ++ taken) ≤ len + 2
    → Is (answers m (left ++ taken)) (cond (nat_lt (length (got ++ taken)) (len + 2)) (stays m (at_left (left
    ++ taken)))
    (done (outcome m (Set key flags len) (got ++ taken))))
block_answers m left key got taken flags len begun h =
    let all : answers m (left ++ taken)
    ≡ by_next later_answers m (left ++ taken) (with_block (Set key flags len) (got ++ taken)) =
    one_command m (left ++ taken)
    ∙ ap (by_next later_answers m (left ++ taken)) (set_next left key got taken flags len begun) in
    subst (λ (a : Answers). Is a (cond (nat_lt (length (got ++ taken)) (len + 2)) (stays m (at_left (left ++ taken)))
    (done (outcome m (Set key flags len) (got ++ taken)))))
    (sym all)
    (set_by m (left ++ taken) key (got ++ taken) flags len (nat_lt (length (got ++ taken)) (len + 2)) refl h)

block_step_is : (m : Map) (left key got taken : List ℕ) (flags len : ℕ) → BlockBegun left key flags len got
    → cond (nat_lt (length (got ++ taken)) (len + 2)) (stays m (at_left (left ++ taken)))
    (done (outcome m (Set key flags len) (got ++ taken)))
    ≡ block_step m key flags len (got ++ taken)
block_step_is m left key got taken flags len begun =
    let here : at_left (left ++ taken) ≡ InBlock key flags len (got ++ taken) =
    set_at left key got taken flags len begun.begun
    ∙ ap (λ (b : Bool). cond b (InBlock key flags len (got ++ taken)) (InDropped (len + 2 - length (got
    ++ taken)))) begun.small in
    ap (λ (s : Standing). cond (nat_lt (length (got ++ taken)) (len + 2)) (stays m s)
    (done (outcome m (Set key flags len) (got ++ taken)))) here

pub block_leads : (key got taken : List ℕ) (flags len : ℕ) (store : Map) (replies : List ℕ) (later : Standing)
    (later_store : Map) (later_replies : List ℕ)
    → length (got ++ taken) ≤ len + 2
    → later_replies ≡ replies ++ (block_step store key flags len (got ++ taken)).reply
    → later_store ≡ (block_step store key flags len (got ++ taken)).map
    → later ≡ (block_step store key flags len (got ++ taken)).standing
    → Leads (InBlock key flags len got) store replies taken later later_store later_replies
block_leads key got taken flags len store replies later later_store later_replies h r m s =
    leads (InBlock key flags len got) store replies taken later later_store later_replies refl (λ rest w e.
    let begun = block_begun rest key got flags len (first_line rest) refl e in
    let is : Is (answers store (rest ++ taken)) (block_step store key flags len (got ++ taken)) =
    subst (Is (answers store (rest ++ taken))) (block_step_is store rest key got taken flags len begun)
    (block_answers store rest key got taken flags len begun.begun h) in
    record {
      says = r ∙ ap (λ (rs : List ℕ). replies ++ rs) (sym is.replies);
      holds = m ∙ sym is.map;
      stands = s ∙ sym is.stands;
    })

-- ----- in a block that is dropped
pub record DropBegun (left : List ℕ) (missing : ℕ) : Type 0 where
  pub key : List ℕ
  pub flags : ℕ
  pub len : ℕ
  pub got : List ℕ
  pub begun : SetLine left key flags len got
  pub large : nat_le len 65536 ≡ false
  pub short : length got < len + 2
  pub left_over : missing ≡ len + 2 - length got

drop_in : (b : Bool) (key0 got0 : List ℕ) (flags0 len0 n missing : ℕ)
    → cond b (InBlock key0 flags0 len0 got0) (InDropped n) ≡ InDropped missing → (b ≡ false) × (n ≡ missing)
drop_in true key0 got0 flags0 len0 n missing e = absurd (cc (e))
drop_in false key0 got0 flags0 len0 n missing e = (refl, cc (e))

waits_short : (b : Bool) (command : Command) (now later : List ℕ) (n most : ℕ) → nat_lt n most ≡ b
    → cond b Waits (Whole command now later) ≡ Waits → n < most
waits_short true command now later n most t e = grind (arith, nat_tests, t)
waits_short false command now later n most t e = absurd (cc (e))

drop_by : (left text got : List ℕ) (missing : ℕ) (command : Command) → first_line left ≡ Line text got
    → command_of (words_of text) ≡ command → with_block command got ≡ Waits → in_block command got ≡ InDropped missing
    → DropBegun left missing
drop_by left text got missing (Set key flags len) e c w h =
    let parts = drop_in (nat_le len 65536) key got flags len _ missing h in
    record {
      key = key;
      flags = flags;
      len = len;
      got = got;
      begun = record { text = text; line = e; command = c };
      large = parts.0;
      short = waits_short (nat_lt (length got) (len + 2)) (Set key flags len) _ _ (length got) (len + 2) refl w;
      left_over = sym parts.1;
    }
drop_by left text got missing (Get keys) e c w h = absurd (cc (h))
drop_by left text got missing (Delete key) e c w h = absurd (cc (h))
drop_by left text got missing Quit e c w h = absurd (cc (h))
drop_by left text got missing Unknown e c w h = absurd (cc (h))

drop_begun : (left : List ℕ) (missing : ℕ) (f : FirstLine) → first_line left ≡ f → next_by f ≡ Waits
    → in_line left f ≡ InDropped missing → DropBegun left missing
drop_begun left missing Unended e w h = absurd (cc (h))
drop_begun left missing TooLong e w h = absurd (cc (w))
drop_begun left missing (Line text rest) e w h =
    drop_by left text rest missing (command_of (words_of text)) e refl w h

-- the step, by whether bytes are missing still
drop_step_by : (m : Map) (key got : List ℕ) (flags len missing : ℕ) (bytes : List ℕ) (b : Bool)
    → nat_le len 65536 ≡ false → nat_lt (length got) (len + 2) ≡ b → length got ≤ len + 2
    → missing ≡ len + 2 - length got → at_left bytes ≡ InDropped missing
    → cond b (stays m (at_left bytes)) (done (outcome m (Set key flags len) got)) ≡ dropped_step m missing
drop_step_by m key got flags len missing bytes true large t h is at =
    let short : length got < len + 2 = grind (arith, nat_tests, t) in
    let some : (missing == 0) ≡ false = grind (arith, nat_tests, is, short) in
    rw (some, at) refl
drop_step_by m key got flags len missing bytes false large t h is at =
    let all : len + 2 ≤ length got = grind (arith, nat_tests, t) in
    let none : (missing == 0) ≡ true = grind (arith, nat_tests, is, all) in
    let past : nat_lt 65536 len ≡ true = grind (arith, nat_tests, large) in
    rw (none, past) refl

pub drop_leads : (taken : List ℕ) (missing_before missing : ℕ) (store : Map) (replies : List ℕ) (later : Standing)
    (later_store : Map) (later_replies : List ℕ)
    → missing + length taken ≡ missing_before
    → later_replies ≡ replies ++ (dropped_step store missing).reply
    → later_store ≡ (dropped_step store missing).map
    → later ≡ (dropped_step store missing).standing
    → Leads (InDropped missing_before) store replies taken later later_store later_replies
drop_leads taken missing_before missing store replies later later_store later_replies h r m s =
    leads (InDropped missing_before) store replies taken later later_store later_replies refl (λ rest w e.
    let d = drop_begun rest missing_before (first_line rest) refl w e in
    let joined : length (d.got ++ taken) ≡ length d.got + length taken = length-append d.got taken in
    let fits : length (d.got ++ taken) ≤ d.len + 2 = omega (arith, d.left_over, d.short, h, joined) in
    let is_missing : missing ≡ d.len + 2 - length (d.got ++ taken) = omega (arith, d.left_over, d.short, h, joined) in
    let here : at_left (rest ++ taken) ≡ InDropped missing =
    set_at rest d.key d.got taken d.flags d.len d.begun
    ∙ ap (λ (b : Bool). cond b (InBlock d.key d.flags d.len (d.got
    ++ taken)) (InDropped (d.len + 2 - length (d.got ++ taken)))) d.large
    ∙ ap (λ (n : ℕ). InDropped n) (sym is_missing) in
    let is : Is (answers store (rest ++ taken)) (dropped_step store missing) =
    subst (Is (answers store (rest ++ taken)))
    (drop_step_by store d.key (d.got ++ taken) d.flags d.len missing (rest ++ taken)
    (nat_lt (length (d.got ++ taken)) (d.len + 2)) d.large refl fits is_missing here)
    (block_answers store rest d.key d.got taken d.flags d.len d.begun fits) in
    record {
      says = r ∙ ap (λ (rs : List ℕ). replies ++ rs) (sym is.replies);
      holds = m ∙ sym is.map;
      stands = s ∙ sym is.stands;
    })

-- ----- a piece, command by command
-- some of the bytes were taken, and these are the rest
pub record Reached (session : Standing) (store : Map) (bytes rest replies : List ℕ) (later : Standing)
    (later_store : Map) :
    Type 0 where
  pub taken : List ℕ
  pub parts : bytes ≡ taken ++ rest
  pub answered : Answered session store taken replies later later_store

pub reached_first : (session : Standing) (store : Map) (bytes : List ℕ)
    → Reached session store bytes bytes [] session store
reached_first session store bytes = record {
  taken = [];
  parts = refl;
  answered = λ m stream said after.
      subst (λ (s : List ℕ). IsAfter m s (said ++ []) session store) (sym (append-nil stream))
      (subst (λ (r : List ℕ). IsAfter m stream r session store) (sym (append-nil said)) after);
}

pub reached_next : (s0 : Standing) (m0 : Map) (bytes rest r1 : List ℕ) (s1 : Standing) (m1 : Map) (n : ℕ)
    (s2 : Standing)
    (m2 : Map) (r2 : List ℕ)
    → Reached s0 m0 bytes rest r1 s1 m1 → Leads s1 m1 r1 (take n rest) s2 m2 r2
    → Reached s0 m0 bytes (drop n rest) r2 s2 m2
reached_next s0 m0 bytes rest r1 s1 m1 n s2 m2 r2 here more = record {
  taken = here.taken ++ take n rest;
  parts = here.parts ∙ ap (λ (xs : List ℕ). here.taken ++ xs) (sym (take-append-drop n rest))
      ∙ sym (append_assoc here.taken (take n rest) (drop n rest));
  answered = λ m stream said after.
      subst (λ (s : List ℕ). IsAfter m s (said ++ r2) s2 m2) (append_assoc stream here.taken (take n rest))
      (more m (stream ++ here.taken) said (here.answered m stream said after));
}

no_rest : (bytes taken rest : List ℕ) → length rest ≡ 0 → bytes ≡ taken ++ rest → taken ≡ bytes
no_rest bytes taken [] h e = sym (e ∙ append-nil taken)
no_rest bytes taken (c ∷ cs) h e = absurd (omega (arith, h))

pub reached_all : (s0 : Standing) (m0 : Map) (bytes rest replies : List ℕ) (s1 : Standing) (m1 : Map)
    → length rest ≡ 0 → Reached s0 m0 bytes rest replies s1 m1 → Answered s0 m0 bytes replies s1 m1
reached_all s0 m0 bytes rest replies s1 m1 none here = λ m stream said after.
    subst (λ (b : List ℕ). IsAfter m (stream ++ b) (said
    ++ replies) s1 m1) (no_rest bytes here.taken rest none here.parts)
    (here.answered m stream said after)

pub reached_whole : (s0 : Standing) (m0 : Map) (bytes rest replies : List ℕ) (s1 : Standing) (m1 : Map)
    → Reached s0 m0 bytes rest replies s1 m1 → HasWhole s0 m0 bytes m1
reached_whole s0 m0 bytes rest replies s1 m1 here = λ m stream said after.
    let front : take (length here.taken) bytes ≡ here.taken =
    ap (λ (b : List ℕ). take (length here.taken) b) here.parts ∙ take-append_seam here.taken rest in (
      length here.taken,
      omega (arith, length-append here.taken rest, ap length here.parts),
      (here.answered m stream said after).map ∙ ap (λ (b : List ℕ). (answers m (stream ++ b)).map) (sym front),
    )

-- a session that was fed nothing
pub begun : (m : Map) → IsAfter m [] [] (InLine []) m
unfolding answers_of
begun m = record { replies = refl; map = refl; stands = refl }

pub whole_at : (session : Standing) (store : Map) (bytes : List ℕ) (later same : Map) → later ≡ same
    → HasWhole session store bytes same → HasWhole session store bytes later
whole_at session store bytes later same e h = subst (HasWhole session store bytes) (sym e) h

pub begun_at : (session : Standing) → session ≡ InLine [] → (m : Map) → IsAfter m [] [] session m
begun_at session e m = subst (λ (s : Standing). IsAfter m [] [] s m) (sym e) (begun m)

-- ----- what a call of a session says
over_fed_by : (store : Map) (bytes : List ℕ) → Answered Over store bytes [] Over store
over_fed_by store bytes = λ m stream said after.
    over_leads store [] bytes m stream said
    (subst (λ (r : List ℕ). IsAfter m stream r Over store) (sym (append-nil said)) after)

pub over_fed : (session : Standing) (store : Map) (bytes reply : List ℕ) → is_over session ≡ true → reply ≡ []
    → Answered session store bytes reply session store
over_fed Over store bytes reply e none =
    subst (λ (r : List ℕ). Answered Over store bytes r Over store) (sym none) (over_fed_by store bytes)
over_fed (InLine line) store bytes reply e none = absurd (cc (e))
over_fed (InBlock key flags len got) store bytes reply e none = absurd (cc (e))
over_fed (InDropped missing) store bytes reply e none = absurd (cc (e))

pub answered_from : (session same : Standing) (store : Map) (bytes reply : List ℕ) (later : Standing)
    (later_store : Map)
    → same ≡ session → Answered same store bytes reply later later_store
    → Answered session store bytes reply later later_store
answered_from session same store bytes reply later later_store e h =
    subst (λ (s : Standing). Answered s store bytes reply later later_store) e h

pub whole_from : (session same : Standing) (store : Map) (bytes : List ℕ) (later : Map)
    → same ≡ session → HasWhole same store bytes later → HasWhole session store bytes later
whole_from session same store bytes later e h = subst (λ (s : Standing). HasWhole s store bytes later) e h

-- ----- whole streams
abbrev pub Piece : Type 0
Piece = Bor (List ℕ)

abbrev pub joined : List Piece → List ℕ
joined pieces = flat_map (λ (p : Piece). p.now) pieces

joined_next : (pieces : List Piece) (i : ℕ) (d : Piece) → i < length pieces
    → joined (take (i + 1) pieces) ≡ joined (take i pieces) ++ (get_or pieces i d).now
joined_next pieces i d h =
    ap (λ (n : ℕ). joined (take n pieces)) (add-one i) ∙ ap joined (take-suc pieces i d h)
    ∙ flat_map-append (λ (p : Piece). p.now) (take i pieces) (get_or pieces i d ∷ [])
    ∙ ap (λ (xs : List ℕ). joined (take i pieces) ++ xs) (append-nil (get_or pieces i d).now)

-- a piece behind others
pub piece_next : (m : Map) (pieces : List Piece) (i : ℕ) (d : Piece) (said reply longer : List ℕ)
    (session later : Standing)
    (store later_store : Map)
    → i < length pieces → longer ≡ said ++ reply
    → IsAfter m (joined (take i pieces)) said session store
    → Answered session store (get_or pieces i d).now reply later later_store
    → IsAfter m (joined (take (i + 1) pieces)) longer later later_store
piece_next m pieces i d said reply longer session later store later_store h same after answered =
    subst (λ (s : List ℕ). IsAfter m s longer later later_store) (sym (joined_next pieces i d h))
    (subst (λ (r : List ℕ). IsAfter m (joined (take i pieces)
    ++ (get_or pieces i d).now) r later later_store) (sym same)
    (answered m (joined (take i pieces)) said after))
