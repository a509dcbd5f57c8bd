-- Whole lines: what is read is what is written.
use Rattle.std.proofs.Common.{◌≡◌, ℕ, ◌^◌, ◌≤◌, ◌<◌, Bool, true, false, ◌&&◌, ◌||◌, cond, List, [], ◌∷◌, ◌++◌}
use Rattle.std.proofs.Common.{length, get_or, Option, Some, None, refl, sym, ap, subst, ◌∙◌, arith, append_assoc}
use Rattle.std.specs.Prelude.{codes, decimal, slice_get, position, bytes_eq, ⊤}
use Rattle.std.specs.List.{list_all, take_while}
use Rattle.std.proofs.lemmas.Bool.Decides.{nat_tests}
use Rattle.std.proofs.lemmas.List.{append-nil}
use Rattle.std.proofs.lemmas.List.Quantifiers.{position-Some}
use Rattle.std.proofs.lemmas.Option.{some_pair_parts, slice_get-get_or, same_Some}
use Rattle.std.proofs.lemmas.Slice.Eq.{bytes_eq-Decides}
use Rattle.scenario_text.specs.Words.{is_digit, is_letter}
use Rattle.tas_model.specs.declared.entry.Entry.{Entry}
use Rattle.tas_model.specs.declared.entry.Caller.TheVariants.{App}
use Rattle.tas_model.specs.declared.entry.Call.{Call}
use Rattle.tas_model.specs.declared.entry.Reply.{Reply}
use Rattle.tas_model.specs.declared.entry.Phase.{Phase}
use Rattle.tas_model.specs.declared.entry.Phase.TheVariants as phases
use Rattle.tas_model.specs.declared.entry.Reason.{Reason}
use Rattle.tas_runs.specs.Report as report
use Rattle.report_lines.specs.Fronts.{Reader, with, or, behind, word, made, after, before, both, one_of, past}
use Rattle.report_lines.specs.Fronts.{number}
use Rattle.report_lines.specs.Fronts.{u32, u64, hex_bytes}
use Rattle.report_lines.specs.Origins.{caller, reason, addr, socket}
use Rattle.report_lines.specs.Entries.{call, reply, entry_of, entry}
use Rattle.report_lines.specs.Events.{Event, Listened, NotAccepted, NotConnected, Strayed, Dropped, Refused, event}
use Rattle.report_lines.specs.Lines.{Line, Title, Host, Logged, Begins, Made, State, Read, End, is_of_word, named}
use Rattle.report_lines.specs.Lines.{host_of}
use Rattle.report_lines.specs.Lines.{host_line, begins_of, begins, closed_state, late_phases, late_phase, phases_of}
use Rattle.report_lines.specs.Lines.{open_phase, state, read_of, read}
use Rattle.report_lines.specs.Lines.{ticked, tick_line, end, lines_of, line, alone, line_in}
use Rattle.report_lines.specs.Shown.{AreNames, AreBytes, IsEntry, IsEvent, told_text, state_text, line_text}
use Rattle.report_lines.specs.Shown.{HasReason}
use Rattle.report_lines.specs.Shown.{IsLine}
use Rattle.report_lines.proofs.Texts.{with_some, with_again, stops, run_again, past_again, run_whole}
use Rattle.report_lines.proofs.Exactness.{Spells, Exact, word_spells, word_again, made_spells, made_again}
use Rattle.report_lines.proofs.Exactness.{after_spells, after_again, after_exact, before_exact, both_exact, fails}
use Rattle.report_lines.proofs.Exactness.{one_of_spells, one_of_again}
use Rattle.report_lines.proofs.SegTexts.{u32_exact}
use Rattle.report_lines.proofs.HexDigits.{hex_exact}
use Rattle.report_lines.proofs.OriginTexts.{caller_exact, reason_exact, addr_exact, socket_text, socket_same}
use Rattle.report_lines.proofs.OriginTexts.{socket_exact}
use Rattle.report_lines.proofs.FrameTexts.{name_passes, made_none, first_none, second_none, after_none, u64_exact}
use Rattle.report_lines.proofs.EntryTexts.{entry_body, IsEntryAt, entry_exact}
use Rattle.report_lines.proofs.EventTexts.{event_exact}

-- the line ends
abbrev is_over : List ℕ → Bool
is_over [] = true
is_over (c ∷ cs) = false

over_is : (rest : List ℕ) → is_over rest ≡ true → rest ≡ []
over_is [] e = refl
over_is (c ∷ cs) e = absurd (cc (e))

-- ----- hosts
no_space : (c : ℕ) → (is_letter c || is_digit c) ≡ true → is_of_word c ≡ true
no_space c e = grind (arith, nat_tests, e)

abbrev shown_name : Option (List ℕ) → List ℕ
shown_name o = elim o [ None ↦ codes "-" | Some name ↦ name ]

named_found : (names : List (List ℕ)) (t : List ℕ) (h : ℕ) (rest : List ℕ) → named names t ≡ Some (h, rest)
    → (t ≡ report.name_at names h ++ rest) × (h < length names)
unfolding named
named_found names t h rest e =
    let name : List ℕ = take_while is_of_word t in
    let got = with_some (λ (k : ℕ). Some (k, past is_of_word t))
    (position (λ (n : List ℕ). bytes_eq n (take_while is_of_word t)) names) (h, rest) e in
    let parts : (got.0 ≡ h) × (past is_of_word t ≡ rest) = some_pair_parts got.0 h (past is_of_word t) rest got.2 in
    let at = position-Some (λ (n : List ℕ). bytes_eq n (take_while is_of_word t)) names got.0 [] got.1 in
    let is : get_or names got.0 [] ≡ take_while is_of_word t =
    (bytes_eq-Decides (get_or names got.0 []) (take_while is_of_word t)).0 at.1 in
    let there : slice_get names got.0 ≡ Some (get_or names got.0 []) = slice_get-get_or names got.0 [] at.0 in
    let shown : take_while is_of_word t ≡ report.name_at names got.0 = sym is ∙ ap shown_name (sym there) in (
      run_whole is_of_word t ∙ (ap (λ (w : List ℕ). w ++ past is_of_word t) shown
          ∙ (ap (λ (k : ℕ). report.name_at names k ++ past is_of_word t) parts.0
          ∙ ap (λ (r : List ℕ). report.name_at names h ++ r) parts.1)),
      subst (λ (k : ℕ). k < length names) parts.0 at.0,
    )

named_again : (names : List (List ℕ)) → AreNames names → (h : ℕ) (rest : List ℕ) → h < length names
    → stops is_of_word rest ≡ true → named names (report.name_at names h ++ rest) ≡ Some (h, rest)
unfolding named
named_again names ok h rest fits s =
    let name : List ℕ = get_or names h [] in
    let there : slice_get names h ≡ Some (get_or names h []) = slice_get-get_or names h [] fits in
    let all : list_all is_of_word (get_or names h []) ≡ true =
    name_passes is_of_word no_space (get_or names h []) (ok.plain h (get_or names h []) there) in
    let run : take_while is_of_word (get_or names h [] ++ rest) ≡ get_or names h [] =
    run_again is_of_word (get_or names h []) rest all s in
    let behind_it : past is_of_word (get_or names h [] ++ rest) ≡ rest =
    past_again is_of_word (get_or names h []) rest all s in
    ap (λ (o : Option (List ℕ)). named names (shown_name o ++ rest)) there
    ∙ with_again (λ (k : ℕ). Some (k, past is_of_word (get_or names h [] ++ rest)))
    (position (λ (n : List ℕ). bytes_eq n (take_while is_of_word (get_or names h [] ++ rest))) names) h
    (Some (h, rest))
    (ap (λ (w : List ℕ). position (λ (n : List ℕ). bytes_eq n w) names) run ∙ ok.own h (get_or names h []) there)
    (ap (λ (r : List ℕ). Some (h, r)) behind_it)

named_exact : (names : List (List ℕ)) → AreNames names
    → Exact (report.name_at names) (λ (h : ℕ). h < length names) (stops is_of_word) (named names)
named_exact names ok = record { spells = record { found = named_found names }; again = named_again names ok }

abbrev host_text : (names : List (List ℕ)) → ℕ × ℕ → List ℕ
host_text names p = codes "host " ++ (report.name_at names p.0 ++ (codes " " ++ report.addr_text p.1))

over_stops : (rest : List ℕ) → is_over rest ≡ true → stops is_digit rest ≡ true
over_stops [] e = refl
over_stops (c ∷ cs) e = absurd (cc (e))

over_exact : {A : Type 0} {text : A → List ℕ} {Fits : A → Type 0} {ends : List ℕ → Bool} {reader : Reader A}
    → ends [] ≡ true → Exact text Fits ends reader → Exact text Fits is_over reader
over_exact {A} {text} {Fits} {ends} {reader} empty x = record { spells = x.spells; again = again } where
  again : (a : A) (rest : List ℕ) → Fits a → is_over rest ≡ true → reader (text a ++ rest) ≡ Some (a, rest)
  again a [] fits e = x.again a [] fits empty
  again a (c ∷ cs) fits e = absurd (cc (e))

host_same : (names : List (List ℕ)) (p : ℕ × ℕ) → host_text names p ≡ line_text names (host_of p)
host_same names p = grouped (report.name_at names p.0) (report.addr_text p.1) where
  grouped : (n a : List ℕ) → codes "host " ++ (n ++ (codes " " ++ a)) ≡ codes "host " ++ n ++ codes " " ++ a
  grouped n a = simp append_assoc refl

host_parts : (names : List (List ℕ)) → AreNames names
    → Exact (host_text names) (λ (p : ℕ × ℕ). (p.0 < length names) × (p.1 < 2 ^ 32)) is_over
    (after (codes "host ") (both (named names) (after (codes " ") addr)))
host_parts names ok =
    over_exact refl (after_exact (codes "host ") (both_exact (λ b rest fits e. refl) (named_exact names ok)
    (after_exact (codes " ") addr_exact)))

-- ----- flows
abbrev Parts : Type 0
Parts = ℕ × (ℕ × (ℕ × ((ℕ × ℕ) × (ℕ × ℕ))))

abbrev begins_text : Parts → List ℕ
begins_text p = (codes "flow " ++ decimal p.0) ++ ((codes " slot " ++ decimal p.1.0)
    ++ ((codes "." ++ decimal p.1.1.0) ++ ((codes " " ++ socket_text p.1.1.1.0) ++
    (codes " " ++ socket_text p.1.1.1.1))))

begins_same : (names : List (List ℕ)) (p : Parts) → begins_text p ≡ line_text names (begins_of p)
begins_same names p =
    ap (λ (w : List ℕ). (codes "flow " ++ decimal p.0) ++ ((codes " slot " ++ decimal p.1.0) ++ ((codes "."
    ++ decimal p.1.1.0) ++ ((codes " " ++ w) ++ (codes " " ++ socket_text p.1.1.1.1))))) (socket_same p.1.1.1.0)
    ∙ (ap (λ (w : List ℕ). (codes "flow " ++ decimal p.0) ++ ((codes " slot " ++ decimal p.1.0) ++ ((codes "."
    ++ decimal p.1.1.0) ++ ((codes " " ++ report.port_text p.1.1.1.0.0 p.1.1.1.0.1) ++ (codes " " ++ w)))))
    (socket_same p.1.1.1.1)
    ∙ grouped (codes "flow ") (decimal p.0) (codes " slot ") (decimal p.1.0) (codes ".") (decimal p.1.1.0)
    (codes " ")
    (report.port_text p.1.1.1.0.0 p.1.1.1.0.1) (codes " ") (report.port_text p.1.1.1.1.0 p.1.1.1.1.1)) where
      grouped : (a n b s c g d h e t : List ℕ)
          → (a ++ n) ++ ((b ++ s) ++ ((c ++ g) ++ ((d ++ h) ++ (e ++ t))))
          ≡ a ++ n ++ b ++ s ++ c ++ g ++ d ++ (h ++ e ++ t)
      grouped a n b s c g d h e t = simp append_assoc refl

abbrev SocketFits : ℕ × ℕ → Type 0
SocketFits s = (s.0 < 2 ^ 32) × (s.1 ≤ 65535)

abbrev BeginsFits : Parts → Type 0
BeginsFits p = (p.0 ≤ 4294967295) × ((p.1.0 ≤ 4294967295) × ((p.1.1.0 ≤ 4294967295)
    × (SocketFits p.1.1.1.0 × SocketFits p.1.1.1.1)))

begins_parts : Exact begins_text BeginsFits is_over
    (both (after (codes "flow ") u32) (both (after (codes " slot ") u32) (both (after (codes ".") u32)
    (both (after (codes " ") socket) (after (codes " ") socket)))))
begins_parts =
    over_exact refl (both_exact (λ b rest fits e. refl) (after_exact (codes "flow ") u32_exact)
    (both_exact (λ b rest fits e. refl) (after_exact (codes " slot ") u32_exact)
    (both_exact (λ b rest fits e. refl) (after_exact (codes ".") u32_exact)
    (both_exact (λ b rest fits e. refl) (after_exact (codes " ") socket_exact)
    (after_exact (codes " ") socket_exact)))))

-- ----- states
abbrev IsOpen : Phase → Type 0
IsOpen phases.Closed = ⊥
IsOpen phase = ⊤

open_spells : Spells report.phase_text IsOpen open_phase
unfolding open_phase late_phase
open_spells = one_of_spells report.phase_text IsOpen phases_of (
  word_spells report.phase_text IsOpen (codes "ESTABLISHED") phases.Established refl tt,
  (
    word_spells report.phase_text IsOpen (codes "SYN-SENT") phases.SynSent refl tt,
    (
      word_spells report.phase_text IsOpen (codes "SYN-RECEIVED") phases.SynReceived refl tt,
      (
        one_of_spells report.phase_text IsOpen late_phases (
          word_spells report.phase_text IsOpen (codes "FIN-WAIT-1") phases.FinWait1 refl tt,
          (
            word_spells report.phase_text IsOpen (codes "FIN-WAIT-2") phases.FinWait2 refl tt,
            (
              word_spells report.phase_text IsOpen (codes "CLOSE-WAIT") phases.CloseWait refl tt,
              (
                word_spells report.phase_text IsOpen (codes "CLOSING") phases.Closing refl tt,
                (
                  word_spells report.phase_text IsOpen (codes "LAST-ACK") phases.LastAck refl tt,
                  (word_spells report.phase_text IsOpen (codes "TIME-WAIT") phases.TimeWait refl tt, tt),
                ),
              ),
            ),
          ),
        ),
        tt,
      ),
    ),
  ),
)

-- a state's line behind its first word
abbrev state_body : Line → List ℕ
state_body (State phase reason) = state_text phase reason
state_body _ = []

abbrev IsState : Line → Type 0
IsState (State phase reason) = HasReason phase reason
IsState _ = ⊥

open_reason : (p : Phase) → IsOpen p → HasReason p None
open_reason phases.Closed h = absurd h
open_reason phases.SynSent h = tt
open_reason phases.SynReceived h = tt
open_reason phases.Established h = tt
open_reason phases.FinWait1 h = tt
open_reason phases.FinWait2 h = tt
open_reason phases.CloseWait h = tt
open_reason phases.Closing h = tt
open_reason phases.LastAck h = tt
open_reason phases.TimeWait h = tt

state_found : Spells (λ (x : Line). codes "state " ++ state_body x) IsState state
unfolding state closed_state
state_found = after_spells (codes "state ") (one_of_spells state_body IsState
    (closed_state ∷ made (λ (phase : Phase). State phase None) open_phase ∷ []) (
      made_spells (λ (why : Reason). State phases.Closed (Some why)) state_body IsState
          (after_spells (codes "CLOSED ") reason_exact.spells) (λ why fits. (refl, tt)),
      (
        made_spells (λ (phase : Phase). State phase None) state_body IsState open_spells
            (λ p fits. (refl, open_reason p fits)),
        tt,
      ),
    ))

closed_again : (why : Reason) (rest : List ℕ) → closed_state (state_text phases.Closed (Some why) ++ rest)
    ≡ Some (State phases.Closed (Some why), rest)
unfolding closed_state
closed_again why rest =
    made_again (λ (r : Reason). State phases.Closed (Some r)) (after (codes "CLOSED ") reason)
    (state_text phases.Closed (Some why) ++ rest) why rest
    (after_again (codes "CLOSED ") reason (report.reason_text why) rest why (reason_exact.again why rest tt refl))

state_again : (p : Phase) (why : Option Reason) (rest : List ℕ) → HasReason p why
    → state ((codes "state " ++ state_text p why) ++ rest) ≡ Some (State p why, rest)
unfolding state open_phase late_phase closed_state or with behind
state_again phases.Closed (Some why) rest h =
    after_again (codes "state ") (one_of (closed_state ∷ made (λ (phase : Phase). State phase None) open_phase ∷
    []))
    (state_text phases.Closed (Some why)) rest (State phases.Closed (Some why))
    (one_of_again 0 (closed_state ∷ made (λ (phase : Phase). State phase None) open_phase ∷ [])
    (state_text phases.Closed (Some why) ++ rest) (State phases.Closed (Some why), rest) refl
    (closed_again why rest))
state_again phases.Closed None rest h = absurd h
state_again phases.SynSent None rest h = refl
state_again phases.SynReceived None rest h = refl
state_again phases.Established None rest h = refl
state_again phases.FinWait1 None rest h = refl
state_again phases.FinWait2 None rest h = refl
state_again phases.CloseWait None rest h = refl
state_again phases.Closing None rest h = refl
state_again phases.LastAck None rest h = refl
state_again phases.TimeWait None rest h = refl
state_again phases.SynSent (Some why) rest h = absurd h
state_again phases.SynReceived (Some why) rest h = absurd h
state_again phases.Established (Some why) rest h = absurd h
state_again phases.FinWait1 (Some why) rest h = absurd h
state_again phases.FinWait2 (Some why) rest h = absurd h
state_again phases.CloseWait (Some why) rest h = absurd h
state_again phases.Closing (Some why) rest h = absurd h
state_again phases.LastAck (Some why) rest h = absurd h
state_again phases.TimeWait (Some why) rest h = absurd h

-- ----- what was read
abbrev read_text : ℕ × List ℕ → List ℕ
read_text p = (codes "read " ++ decimal p.0) ++ (codes " " ++ report.hex p.1)

read_same : (names : List (List ℕ)) (p : ℕ × List ℕ) → read_text p ≡ line_text names (read_of p)
read_same names p = grouped (decimal p.0) (report.hex p.1) where
  grouped : (n b : List ℕ) → (codes "read " ++ n) ++ (codes " " ++ b) ≡ codes "read " ++ n ++ codes " " ++ b
  grouped n b = simp append_assoc refl

read_parts : Exact read_text (λ (p : ℕ × List ℕ). (p.0 ≤ 18446744073709551615) × AreBytes p.1) is_over
    (both (after (codes "read ") u64) (after (codes " ") hex_bytes))
read_parts =
    over_exact refl (both_exact (λ b rest fits e. refl) (after_exact (codes "read ") u64_exact)
    (after_exact (codes " ") hex_exact))

-- ----- the end
abbrev end_text : ℕ → List ℕ
end_text n = (codes "end " ++ decimal n) ++ codes " ticks"

end_parts : Exact end_text (λ (n : ℕ). n ≤ 4294967295) is_over (before (after (codes "end ") u32) (codes " ticks"))
end_parts =
    over_exact refl (before_exact (codes " ticks") (λ rest. refl) (after_exact (codes "end ") u32_exact))

-- ----- lines that begin with a tick
-- such a line behind its tick
abbrev body : (names : List (List ℕ)) → Line → List ℕ
body names (Made x) = entry_body names x
body names (Logged tick e) = told_text names e
body names _ = []

abbrev IsBody : (names : List (List ℕ)) → (tick : ℕ) → Line → Type 0
IsBody names tick (Made x) = IsEntryAt names tick x
IsBody names tick (Logged t e) = (t ≡ tick) × IsEvent names e
IsBody names tick _ = ⊥

ticked_spells : (names : List (List ℕ)) → AreNames names → (tick : ℕ) → tick < 2 ^ 32
    → Spells (body names) (IsBody names tick) (ticked names tick)
unfolding ticked
ticked_spells names ok tick small =
    one_of_spells (body names) (IsBody names tick)
    (made (λ (x : Entry). Made x) (entry names tick) ∷ made (λ (e : Event). Logged tick e) (event names) ∷ []) (
      made_spells (λ (x : Entry). Made x) (body names) (IsBody names tick) (entry_exact names ok tick small).spells
          (λ x fits. (refl, fits)),
      (
        made_spells (λ (e : Event). Logged tick e) (body names) (IsBody names tick) (event_exact names ok).spells
            (λ e fits. (refl, (refl, fits))),
        tt,
      ),
    )

entry_same : (names : List (List ℕ)) (x : Entry) → decimal x.tick ++ (codes " " ++ entry_body names x)
    ≡ line_text names (Made x)
entry_same names x =
    grouped (decimal x.tick) (report.caller_text x.caller) (decimal x.number) (report.call_text names x.call)
    (report.reply_text x.reply) where
      grouped : (t c n k r : List ℕ)
          → t ++ (codes " " ++ (c ++ ((codes "." ++ n) ++ ((codes " " ++ k) ++ (codes " = " ++ r)))))
          ≡ t ++ codes " " ++ c ++ codes "." ++ n ++ codes " " ++ k ++ codes " = " ++ r
      grouped t c n k r = simp append_assoc refl

logged_same : (names : List (List ℕ)) (tick : ℕ) (e : Event) → decimal tick ++ (codes " " ++ told_text names e)
    ≡ line_text names (Logged tick e)
logged_same names tick e = sym (append_assoc (decimal tick) (codes " ") (told_text names e))

-- the tick and what stands behind it are the line
line_of_body : (names : List (List ℕ)) (tick : ℕ) (x : Line) → tick < 2 ^ 32 → IsBody names tick x
    → (decimal tick ++ (codes " " ++ body names x) ≡ line_text names x) × IsLine names x
line_of_body names tick (Made x) small h =
    (ap (λ (t : ℕ). decimal t ++ (codes " " ++ entry_body names x)) (sym h.at) ∙ entry_same names x, h.entry)
line_of_body names tick (Logged t e) small h = (
  ap (λ (n : ℕ). decimal n ++ (codes " " ++ told_text names e)) (sym h.0) ∙ logged_same names t e,
  (omega (arith, h.0, small), h.1),
)
line_of_body names tick Title small h = absurd h
line_of_body names tick (Host at number) small h = absurd h
line_of_body names tick (Begins number id tuple) small h = absurd h
line_of_body names tick (State phase why) small h = absurd h
line_of_body names tick (Read count bytes) small h = absurd h
line_of_body names tick (End ticks) small h = absurd h

tick_spells : (names : List (List ℕ)) → AreNames names → Spells (line_text names) (IsLine names) (tick_line names)
unfolding tick_line
tick_spells names ok = record { found = found } where
  found : (t : List ℕ) (x : Line) (rest : List ℕ) → tick_line names t ≡ Some (x, rest)
      → (t ≡ line_text names x ++ rest) × IsLine names x
  found t x rest e =
      let got = with_some (λ (n : ℕ × List ℕ). after (codes " ") (ticked names n.0) n.1) (u32 t) (x, rest) e in
      let tick = u32_exact.spells.found t got.0.0 got.0.1 got.1 in
      let small : got.0.0 < 2 ^ 32 = omega (arith, tick.1) in
      let more = (after_spells (codes " ") (ticked_spells names ok got.0.0 small)).found got.0.1 x rest got.2 in
      let is = line_of_body names got.0.0 x small more.1 in (
        tick.0 ∙ (ap (λ (r : List ℕ). decimal got.0.0 ++ r) more.0
            ∙ (sym (append_assoc (decimal got.0.0) (codes " " ++ body names x) rest)
            ∙ ap (λ (w : List ℕ). w ++ rest) is.0)),
        is.1,
      )

-- what stands behind a tick is read so
tick_again : (names : List (List ℕ)) (tick : ℕ) (w rest : List ℕ) (x : Line) → tick < 2 ^ 32
    → ticked names tick (w ++ rest) ≡ Some (x, rest)
    → tick_line names ((decimal tick ++ (codes " " ++ w)) ++ rest) ≡ Some (x, rest)
unfolding tick_line
tick_again names tick w rest x small e =
    with_again (λ (n : ℕ × List ℕ). after (codes " ") (ticked names n.0) n.1)
    (u32 ((decimal tick ++ (codes " " ++ w)) ++ rest)) (tick, (codes " " ++ w) ++ rest) (Some (x, rest))
    (ap u32 (append_assoc (decimal tick) (codes " " ++ w) rest)
    ∙ u32_exact.again tick ((codes " " ++ w) ++ rest) (omega (arith, small)) refl)
    (after_again (codes " ") (ticked names tick) w rest x e)

abbrev ticked_of : (names : List (List ℕ)) → (tick : ℕ) → List (Reader Line)
ticked_of names tick =
    made (λ (x : Entry). Made x) (entry names tick) ∷ made (λ (e : Event). Logged tick e) (event names) ∷ []

made_line : (names : List (List ℕ)) → AreNames names → (x : Entry) (rest : List ℕ) → IsEntry names x
    → is_over rest ≡ true → ticked names x.tick (entry_body names x ++ rest) ≡ Some (Made x, rest)
unfolding ticked
made_line names ok x rest fits e =
    one_of_again 0 (ticked_of names x.tick) (entry_body names x ++ rest) (Made x, rest) refl
    (made_again (λ (y : Entry). Made y) (entry names x.tick) (entry_body names x ++ rest) x rest
    ((over_exact refl (entry_exact names ok x.tick fits.tick)).again x rest (record { entry = fits; at = refl }) e))

-- an event is no entry
behind_caller : (names : List (List ℕ)) → Reader (ℕ × (Call × Reply))
behind_caller names = both (after (codes ".") u64) (both (after (codes " ") (call names))
    (after (codes " = ") reply))

asked_no_entry : (names : List (List ℕ)) (tick app : ℕ) (w : List ℕ) → app < 2 ^ 32 → stops is_digit w ≡ true
    → behind (codes ".") w ≡ None → entry names tick ((codes "p" ++ decimal app) ++ w) ≡ None
unfolding entry behind_caller
asked_no_entry names tick app w small s e =
    made_none (entry_of tick) (both caller (behind_caller names)) ((codes "p" ++ decimal app) ++ w)
    (second_none caller (behind_caller names) ((codes "p" ++ decimal app) ++ w) (App app) w
    (caller_exact.again (App app) w small s)
    (first_none (after (codes ".") u64) (both (after (codes " ") (call names)) (after (codes " = ") reply)) w
    (after_none (codes ".") u64 w e)))

no_entry : (names : List (List ℕ)) (tick : ℕ) (x : Event) (rest : List ℕ) → IsEvent names x
    → entry names tick (told_text names x ++ rest) ≡ None
unfolding entry caller or with behind
no_entry names tick (Listened app port t) rest fits =
    ap (entry names tick) (grouped (decimal app) (decimal port) (cond t (codes "ok") (codes "portinuse")) rest)
    ∙ asked_no_entry names tick app (codes " listen " ++ (decimal port ++ (codes " = "
    ++ (cond t (codes "ok") (codes "portinuse") ++ rest)))) fits.0 refl refl where
      grouped : (a q t r : List ℕ) → (codes "p" ++ a ++ codes " listen " ++ q ++ codes " = " ++ t) ++ r
          ≡ (codes "p" ++ a) ++ (codes " listen " ++ (q ++ (codes " = " ++ (t ++ r))))
      grouped a q t r = simp append_assoc refl
no_entry names tick (NotAccepted app port) rest fits =
    ap (entry names tick) (grouped (decimal app) (decimal port) rest)
    ∙ asked_no_entry names tick app (codes " accept " ++ (decimal port ++ (codes " = notyet" ++ rest))) fits.0 refl
    refl where
      grouped : (a q r : List ℕ) → (codes "p" ++ a ++ codes " accept " ++ q ++ codes " = notyet") ++ r
          ≡ (codes "p" ++ a) ++ (codes " accept " ++ (q ++ (codes " = notyet" ++ r)))
      grouped a q r = simp append_assoc refl
no_entry names tick (NotConnected app addr port t) rest fits =
    ap (entry names tick) (grouped (decimal app) (report.port_text addr port)
    (cond t (codes "noport") (codes "noflowslot"))
    rest)
    ∙ asked_no_entry names tick app (codes " connect " ++ (report.port_text addr port ++ (codes " = "
    ++ (cond t (codes "noport") (codes "noflowslot") ++ rest)))) fits.0 refl refl where
      grouped : (a q t r : List ℕ) → (codes "p" ++ a ++ codes " connect " ++ q ++ codes " = " ++ t) ++ r
          ≡ (codes "p" ++ a) ++ (codes " connect " ++ (q ++ (codes " = " ++ (t ++ r))))
      grouped a q t r = simp append_assoc refl
no_entry names tick (Strayed f s a) rest fits = refl
no_entry names tick (Dropped f t) rest fits = refl
no_entry names tick (Refused f n) rest fits = refl

logged_line : (names : List (List ℕ)) → AreNames names → (tick : ℕ) (x : Event) (rest : List ℕ) → IsEvent names x
    → is_over rest ≡ true → ticked names tick (told_text names x ++ rest) ≡ Some (Logged tick x, rest)
unfolding ticked
logged_line names ok tick x rest fits e =
    one_of_again 1 (ticked_of names tick) (told_text names x ++ rest) (Logged tick x, rest)
    (ap (λ (o : Option (Line × List ℕ)). fails o && true)
    (made_none (λ (y : Entry). Made y) (entry names tick) (told_text names x ++ rest)
    (no_entry names tick x rest fits)))
    (made_again (λ (y : Event). Logged tick y) (event names) (told_text names x ++ rest) x rest
    ((over_exact refl (event_exact names ok)).again x rest fits e))

-- ----- all lines
line_spells : (names : List (List ℕ)) → AreNames names → Spells (line_text names) (IsLine names) (line names)
unfolding line begins read host_line end
line_spells names ok = one_of_spells (line_text names) (IsLine names) (lines_of names) (
  tick_spells names ok,
  (
    made_spells begins_of (line_text names) (IsLine names) begins_parts.spells (λ p fits. (
      begins_same names p,
      record {
        number = omega (arith, fits.0);
        slot = omega (arith, fits.1.0);
        generation = omega (arith, fits.1.1.0);
        laddr = fits.1.1.1.0.0;
        lport = omega (arith, fits.1.1.1.0.1);
        raddr = fits.1.1.1.1.0;
        rport = omega (arith, fits.1.1.1.1.1);
      },
    )),
    (
      record { found = states },
      (
        made_spells read_of (line_text names) (IsLine names) read_parts.spells
            (λ p fits. (read_same names p, (omega (arith, fits.0), fits.1))),
        (
          made_spells host_of (line_text names) (IsLine names) (host_parts names ok).spells
              (λ p fits. (host_same names p, fits)),
          (
            word_spells (line_text names) (IsLine names) (codes "tas run") Title refl tt,
            (
              made_spells (λ (n : ℕ). End n) (line_text names) (IsLine names) end_parts.spells
                  (λ n fits. (refl, omega (arith, fits))),
              tt,
            ),
          ),
        ),
      ),
    ),
  ),
) where
  by_state : (t : List ℕ) (x : Line) (rest : List ℕ) → IsState x → t ≡ (codes "state " ++ state_body x) ++ rest
      → (t ≡ line_text names x ++ rest) × IsLine names x
  by_state t (State p why) rest h e = (e, h)
  by_state t Title rest h e = absurd h
  by_state t (Host at number) rest h e = absurd h
  by_state t (Logged tick x) rest h e = absurd h
  by_state t (Begins number id tuple) rest h e = absurd h
  by_state t (Made x) rest h e = absurd h
  by_state t (Read count bytes) rest h e = absurd h
  by_state t (End ticks) rest h e = absurd h

  states : (t : List ℕ) (x : Line) (rest : List ℕ) → state t ≡ Some (x, rest)
      → (t ≡ line_text names x ++ rest) × IsLine names x
  states t x rest e = let is = state_found.found t x rest e in by_state t x rest is.1 is.0

line_again : (names : List (List ℕ)) → AreNames names → (x : Line) (rest : List ℕ) → IsLine names x
    → is_over rest ≡ true → line names (line_text names x ++ rest) ≡ Some (x, rest)
unfolding line tick_line begins state read host_line end number with behind
line_again names ok (Made x) rest fits e =
    ap (λ (w : List ℕ). one_of (lines_of names) (w ++ rest)) (sym (entry_same names x))
    ∙ one_of_again 0 (lines_of names) ((decimal x.tick ++ (codes " " ++ entry_body names x)) ++ rest)
    (Made x, rest) refl
    (tick_again names x.tick (entry_body names x) rest (Made x) fits.tick (made_line names ok x rest fits e))
line_again names ok (Logged tick x) rest fits e =
    ap (λ (w : List ℕ). one_of (lines_of names) (w ++ rest)) (sym (logged_same names tick x))
    ∙ one_of_again 0 (lines_of names) ((decimal tick ++ (codes " " ++ told_text names x)) ++ rest)
    (Logged tick x, rest) refl
    (tick_again names tick (told_text names x) rest (Logged tick x) fits.0
    (logged_line names ok tick x rest fits.1 e))
line_again names ok (Begins n id tuple) rest fits e =
    ap (λ (w : List ℕ). one_of (lines_of names) (w ++ rest)) (sym
    (begins_same names (
      n,
      (
        id.slot,
        (
          id.generation,
          (
            (tuple.laddr, tuple.lport),
            (tuple.raddr, tuple.rport),
          ),
        ),
      ),
    )))
    ∙ one_of_again 1 (lines_of names) (begins_text (
      n,
      (
        id.slot,
        (id.generation, ((tuple.laddr, tuple.lport), (tuple.raddr, tuple.rport))),
      ),
    ) ++ rest)
    (Begins n id tuple, rest) refl
    (made_again begins_of (both (after (codes "flow ") u32) (both (after (codes " slot ") u32)
    (both (after (codes ".") u32) (both (after (codes " ") socket) (after (codes " ") socket)))))
    (begins_text (n, (id.slot, (id.generation, ((tuple.laddr, tuple.lport), (tuple.raddr, tuple.rport))))) ++ rest)
    (n, (id.slot, (id.generation, ((tuple.laddr, tuple.lport), (tuple.raddr, tuple.rport))))) rest
    (begins_parts.again (n, (id.slot, (id.generation, ((tuple.laddr, tuple.lport), (tuple.raddr, tuple.rport)))))
    rest (
      omega (arith, fits.number),
      (
        omega (arith, fits.slot),
        (
          omega (arith, fits.generation),
          ((fits.laddr, omega (arith, fits.lport)), (fits.raddr, omega (arith, fits.rport))),
        ),
      ),
    ) e))
line_again names ok (State p why) rest fits e =
    one_of_again 2 (lines_of names) (line_text names (State p why) ++ rest) (State p why, rest) refl
    (state_again p why rest fits)
line_again names ok (Read count bytes) rest fits e =
    ap (λ (w : List ℕ). one_of (lines_of names) (w ++ rest)) (sym (read_same names (count, bytes)))
    ∙ one_of_again 3 (lines_of names) (read_text (count, bytes) ++ rest) (Read count bytes, rest) refl
    (made_again read_of (both (after (codes "read ") u64) (after (codes " ") hex_bytes))
    (read_text (count, bytes) ++ rest) (count, bytes) rest
    (read_parts.again (count, bytes) rest (omega (arith, fits.0), fits.1) e))
line_again names ok (Host host addr_here) rest fits e =
    ap (λ (w : List ℕ). one_of (lines_of names) (w ++ rest)) (sym (host_same names (host, addr_here)))
    ∙ one_of_again 4 (lines_of names) (host_text names (host, addr_here) ++ rest) (Host host addr_here, rest) refl
    (made_again host_of (after (codes "host ") (both (named names) (after (codes " ") addr)))
    (host_text names (host, addr_here) ++ rest) (host, addr_here) rest
    ((host_parts names ok).again (host, addr_here) rest fits e))
line_again names ok Title rest fits e =
    one_of_again 5 (lines_of names) (codes "tas run" ++ rest) (Title, rest) refl
    (word_again (codes "tas run") Title rest)
line_again names ok (End ticks) rest fits e =
    one_of_again 6 (lines_of names) (line_text names (End ticks) ++ rest) (End ticks, rest) refl
    (made_again (λ (n : ℕ). End n) (before (after (codes "end ") u32) (codes " ticks"))
    (line_text names (End ticks) ++ rest) ticks rest (end_parts.again ticks rest (omega (arith, fits)) e))

-- ----- and nothing behind it
pub line_found : (names : List (List ℕ)) → AreNames names → (text : List ℕ) (x : Line) → line_in names text ≡ Some x
    → (line_text names x ≡ text) × IsLine names x
unfolding line_in
line_found names ok text x e =
    let got = with_some alone (line names text) x e in
    by_rest got.0.0 got.0.1 got.1 got.2 where
      by_rest : (y : Line) (rest : List ℕ) → line names text ≡ Some (y, rest) → alone (y, rest) ≡ Some x
          → (line_text names x ≡ text) × IsLine names x
      by_rest y [] there same =
          let is = (line_spells names ok).found text y [] there in
          let one : y ≡ x = same_Some y x same in (
            sym (is.0 ∙ (append-nil (line_text names y) ∙ ap (line_text names) one)),
            subst (IsLine names) one is.1,
          )
      by_rest y (c ∷ cs) there same = absurd (cc (same))

pub line_back : (names : List (List ℕ)) → AreNames names → (x : Line) → IsLine names x
    → line_in names (line_text names x) ≡ Some x
unfolding line_in
line_back names ok x fits =
    with_again alone (line names (line_text names x)) (x, []) (Some x)
    (ap (line names) (sym (append-nil (line_text names x))) ∙ line_again names ok x [] fits refl) refl
