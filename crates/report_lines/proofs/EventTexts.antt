-- What logs tell: what is read is what is written.
use Rattle.std.proofs.Common.{◌≡◌, ℕ, ◌^◌, ◌≤◌, ◌<◌, Bool, true, false, ◌&&◌, cond, List, [], ◌∷◌, ◌++◌}
use Rattle.std.proofs.Common.{Option, Some, None, refl, sym, ap, ◌∙◌, arith, append_assoc}
use Rattle.std.specs.Prelude.{codes, decimal, IfSome}
use Rattle.scenario_text.specs.Words.{is_digit}
use Rattle.tas_model.specs.declared.entry.FrameId.{FrameId}
use Rattle.tas_model.specs.declared.entry.Head.{Head}
use Rattle.tas_model.specs.declared.entry.Seg.{Seg}
use Rattle.tas_runs.specs.Report as report
use Rattle.report_lines.specs.Fronts.{Reader, with, behind, word, made, after, before, both, one_of, u8, u16, u32}
use Rattle.report_lines.specs.Segments.{letter_at, letters_at, flags, head, seg}
use Rattle.report_lines.specs.Origins.{frame, socket}
use Rattle.report_lines.specs.Events.{Event, Listened, NotAccepted, NotConnected, Strayed, Dropped, Refused, told}
use Rattle.report_lines.specs.Events.{listened_of, not_accepted_of, not_connected_of, listened, not_accepted}
use Rattle.report_lines.specs.Events.{not_connected}
use Rattle.report_lines.specs.Events.{strayed_of, dropped_of, refused_of, answer, strayed, dropped, refused, event}
use Rattle.report_lines.specs.Shown.{AreNames, IsHead, IsSeg, IsFrame, IsEvent, told_text}
use Rattle.report_lines.proofs.Texts.{stops, with_none}
use Rattle.report_lines.proofs.Exactness.{Spells, Exact, word_spells, word_again, made_spells, made_again}
use Rattle.report_lines.proofs.Exactness.{after_again, after_exact, before_exact, both_exact, fails}
use Rattle.report_lines.proofs.Exactness.{one_of_spells, one_of_again}
use Rattle.report_lines.proofs.Numbers.{number_exact}
use Rattle.report_lines.proofs.SegTexts.{at_end, end_stops, u32_exact, u16_exact, seg_exact, head_at_end}
use Rattle.report_lines.proofs.SegTexts.{at_end_exact}
use Rattle.report_lines.proofs.OriginTexts.{Any, anything, socket_text, socket_same, socket_exact}
use Rattle.report_lines.proofs.FrameTexts.{frame_exact, made_none, first_none, second_none, after_none}

-- ----- one of two words
pub told_exact : (a b : List ℕ) → ((rest : List ℕ) → fails (behind a (b ++ rest)) ≡ true)
    → Exact (λ (t : Bool). cond t a b) Any anything (told a b)
unfolding with
told_exact a b apart = record {
  spells = one_of_spells (λ (t : Bool). cond t a b) Any (word a true ∷ word b false ∷ []) (
    word_spells (λ (t : Bool). cond t a b) Any a true refl tt,
    (word_spells (λ (t : Bool). cond t a b) Any b false refl tt, tt),
  );
  again = again;
} where
  first_fails : (rest : List ℕ) (o : Option (List ℕ)) → fails o ≡ true
      → fails {A = Bool × List ℕ} (with (λ (r : List ℕ). Some (true, r)) o) ≡ true
  first_fails rest None e = refl
  first_fails rest (Some r) e = absurd (cc (e))

  word_fails : (rest : List ℕ) → (fails (word a true (b ++ rest)) && true) ≡ true
  word_fails rest = ap (λ (t : Bool). t && true) (first_fails rest (behind a (b ++ rest)) (apart rest))

  again : (t : Bool) (rest : List ℕ) → Any t → anything rest ≡ true → told a b (cond t a b ++ rest) ≡ Some (t, rest)
  again true rest fits e =
      one_of_again 0 (word a true ∷ word b false ∷ []) (a ++ rest) (true, rest) refl (word_again a true rest)
  again false rest fits e =
      one_of_again 1 (word a true ∷ word b false ∷ []) (b ++ rest) (false, rest) (word_fails rest)
      (word_again b false rest)

listen_told : Exact (λ (t : Bool). cond t (codes "ok") (codes "portinuse")) Any anything
    (told (codes "ok") (codes "portinuse"))
unfolding behind
listen_told = told_exact (codes "ok") (codes "portinuse") (λ rest. refl)

connect_told : Exact (λ (t : Bool). cond t (codes "noport") (codes "noflowslot")) Any anything
    (told (codes "noport") (codes "noflowslot"))
unfolding behind
connect_told = told_exact (codes "noport") (codes "noflowslot") (λ rest. refl)

drop_told : Exact (λ (t : Bool). cond t (codes "backlogfull") (codes "noflowslot")) Any anything
    (told (codes "backlogfull") (codes "noflowslot"))
unfolding behind
drop_told = told_exact (codes "backlogfull") (codes "noflowslot") (λ rest. refl)

-- ----- what applications asked
abbrev listened_text : ℕ × (ℕ × Bool) → List ℕ
listened_text p = (codes "p" ++ decimal p.0) ++ ((codes " listen " ++ decimal p.1.0)
    ++ (codes " = " ++ cond p.1.1 (codes "ok") (codes "portinuse")))

listened_same : (names : List (List ℕ)) (p : ℕ × (ℕ × Bool)) → listened_text p ≡ told_text names (listened_of p)
listened_same names p = grouped (decimal p.0) (decimal p.1.0) (cond p.1.1 (codes "ok") (codes "portinuse")) where
  grouped : (a q t : List ℕ) → (codes "p" ++ a) ++ ((codes " listen " ++ q) ++ (codes " = " ++ t))
      ≡ codes "p" ++ a ++ codes " listen " ++ q ++ codes " = " ++ t
  grouped a q t = simp append_assoc refl

listened_parts : Exact listened_text (λ (p : ℕ × (ℕ × Bool)). (p.0 ≤ 4294967295) × ((p.1.0 ≤ 65535) × Any p.1.1))
    anything
    (both (after (codes "p") u32) (both (after (codes " listen ") u16)
    (after (codes " = ") (told (codes "ok") (codes "portinuse")))))
listened_parts =
    both_exact (λ b rest fits e. refl) (after_exact (codes "p") u32_exact)
    (both_exact (λ b rest fits e. refl) (after_exact (codes " listen ") u16_exact)
    (after_exact (codes " = ") listen_told))

abbrev not_accepted_text : ℕ × ℕ → List ℕ
not_accepted_text p = (codes "p" ++ decimal p.0) ++ ((codes " accept " ++ decimal p.1) ++ codes " = notyet")

not_accepted_same : (names : List (List ℕ)) (p : ℕ × ℕ) → not_accepted_text p ≡ told_text names (not_accepted_of p)
not_accepted_same names p = grouped (decimal p.0) (decimal p.1) where
  grouped : (a q : List ℕ) → (codes "p" ++ a) ++ ((codes " accept " ++ q) ++ codes " = notyet")
      ≡ codes "p" ++ a ++ codes " accept " ++ q ++ codes " = notyet"
  grouped a q = simp append_assoc refl

not_accepted_parts : Exact not_accepted_text (λ (p : ℕ × ℕ). (p.0 ≤ 4294967295) × (p.1 ≤ 65535)) anything
    (both (after (codes "p") u32) (before (after (codes " accept ") u16) (codes " = notyet")))
not_accepted_parts =
    both_exact (λ b rest fits e. refl) (after_exact (codes "p") u32_exact)
    (before_exact (codes " = notyet") (λ rest. refl) (after_exact (codes " accept ") u16_exact))

abbrev not_connected_text : ℕ × ((ℕ × ℕ) × Bool) → List ℕ
not_connected_text p = (codes "p" ++ decimal p.0) ++ ((codes " connect " ++ socket_text p.1.0)
    ++ (codes " = " ++ cond p.1.1 (codes "noport") (codes "noflowslot")))

not_connected_same : (names : List (List ℕ)) (p : ℕ × ((ℕ × ℕ) × Bool)) → not_connected_text p
    ≡ told_text names (not_connected_of p)
not_connected_same names p =
    ap (λ (w : List ℕ). (codes "p" ++ decimal p.0) ++ ((codes " connect " ++ w)
    ++ (codes " = " ++ cond p.1.1 (codes "noport") (codes "noflowslot")))) (socket_same p.1.0)
    ∙ grouped (decimal p.0) (report.port_text p.1.0.0 p.1.0.1) (cond p.1.1 (codes "noport") (codes "noflowslot"))
  where
    grouped : (a q t : List ℕ) → (codes "p" ++ a) ++ ((codes " connect " ++ q) ++ (codes " = " ++ t))
        ≡ codes "p" ++ a ++ codes " connect " ++ q ++ codes " = " ++ t
    grouped a q t = simp append_assoc refl

not_connected_parts : Exact not_connected_text (λ (p : ℕ × ((ℕ × ℕ) × Bool)).
    (p.0 ≤ 4294967295) × (((p.1.0.0 < 2 ^ 32) × (p.1.0.1 ≤ 65535)) × Any p.1.1)) anything
    (both (after (codes "p") u32) (both (after (codes " connect ") socket)
    (after (codes " = ") (told (codes "noport") (codes "noflowslot")))))
not_connected_parts =
    both_exact (λ b rest fits e. refl) (after_exact (codes "p") u32_exact)
    (both_exact (λ b rest fits e. refl) (after_exact (codes " connect ") socket_exact)
    (after_exact (codes " = ") connect_told))

-- ----- frames that concern no flow
abbrev AnswerFits : Option Head → Type 0
AnswerFits o = IfSome o IsHead

no_head : (rest : List ℕ) → head (codes "none" ++ rest) ≡ None
unfolding head flags letters_at letter_at with behind
no_head rest = refl

answer_exact : Exact report.answer_text AnswerFits at_end answer
unfolding answer
answer_exact = record {
  spells = one_of_spells report.answer_text AnswerFits readers (
    made_spells (λ (h : Head). Some h) report.answer_text AnswerFits head_at_end.spells (λ h fits. (refl, fits)),
    (word_spells report.answer_text AnswerFits (codes "none") None refl tt, tt),
  );
  again = again;
} where
  readers : List (Reader (Option Head))
  readers = made (λ (h : Head). Some h) head ∷ word (codes "none") None ∷ []

  again : (o : Option Head) (rest : List ℕ) → AnswerFits o → at_end rest ≡ true
      → one_of readers (report.answer_text o ++ rest) ≡ Some (o, rest)
  again (Some h) rest fits e =
      one_of_again 0 readers (report.head_text h ++ rest) (Some h, rest) refl
      (made_again (λ (x : Head). Some x) head (report.head_text h ++ rest) h rest (head_at_end.again h rest fits e))
  again None rest fits e =
      one_of_again 1 readers (codes "none" ++ rest) (None, rest)
      (ap (λ (r : Option (Option Head × List ℕ)). fails r && true)
      (made_none (λ (h : Head). Some h) head (codes "none" ++ rest) (no_head rest)))
      (word_again (codes "none") None rest)

abbrev strayed_text : (names : List (List ℕ)) → FrameId × (Seg × Option Head) → List ℕ
strayed_text names p = codes "stray " ++ (report.frame_text names p.0
    ++ ((codes " " ++ report.seg_text p.1.0) ++ (codes " = " ++ report.answer_text p.1.1)))

strayed_same : (names : List (List ℕ)) (p : FrameId × (Seg × Option Head)) → strayed_text names p
    ≡ told_text names (strayed_of p)
strayed_same names p =
    grouped (report.frame_text names p.0) (report.seg_text p.1.0) (report.answer_text p.1.1) where
      grouped : (f s a : List ℕ) → codes "stray " ++ (f ++ ((codes " " ++ s) ++ (codes " = " ++ a)))
          ≡ codes "stray " ++ f ++ codes " " ++ s ++ codes " = " ++ a
      grouped f s a = simp append_assoc refl

strayed_parts : (names : List (List ℕ)) → AreNames names
    → Exact (strayed_text names)
    (λ (p : FrameId × (Seg × Option Head)). IsFrame names p.0 × (IsSeg p.1.0 × AnswerFits p.1.1)) at_end
    (after (codes "stray ") (both (frame names) (both (after (codes " ") seg) (after (codes " = ") answer))))
strayed_parts names ok =
    after_exact (codes "stray ") (both_exact (λ b rest fits e. refl) (frame_exact names ok)
    (both_exact (λ b rest fits e. refl) (after_exact (codes " ") seg_exact)
    (after_exact (codes " = ") answer_exact)))

abbrev dropped_text : (names : List (List ℕ)) → FrameId × Bool → List ℕ
dropped_text names p = codes "dropped " ++ (report.frame_text names p.0
    ++ (codes " = " ++ cond p.1 (codes "backlogfull") (codes "noflowslot")))

dropped_same : (names : List (List ℕ)) (p : FrameId × Bool) → dropped_text names p ≡ told_text names (dropped_of p)
dropped_same names p = grouped (report.frame_text names p.0) (cond p.1 (codes "backlogfull") (codes "noflowslot"))
  where
    grouped : (f t : List ℕ) → codes "dropped " ++ (f ++ (codes " = " ++ t)) ≡ codes "dropped " ++ f ++ codes " = "
        ++ t
    grouped f t = simp append_assoc refl

dropped_parts : (names : List (List ℕ)) → AreNames names
    → Exact (dropped_text names) (λ (p : FrameId × Bool). IsFrame names p.0 × Any p.1) anything
    (after (codes "dropped ") (both (frame names) (after (codes " = ")
    (told (codes "backlogfull") (codes "noflowslot")))))
dropped_parts names ok =
    after_exact (codes "dropped ") (both_exact (λ b rest fits e. refl) (frame_exact names ok)
    (after_exact (codes " = ") drop_told))

abbrev refused_text : (names : List (List ℕ)) → FrameId × ℕ → List ℕ
refused_text names p = codes "refused " ++ (report.frame_text names p.0 ++ (codes " = " ++ decimal p.1))

refused_same : (names : List (List ℕ)) (p : FrameId × ℕ) → refused_text names p ≡ told_text names (refused_of p)
refused_same names p = grouped (report.frame_text names p.0) (decimal p.1) where
  grouped : (f t : List ℕ) → codes "refused " ++ (f ++ (codes " = " ++ t)) ≡ codes "refused " ++ f ++ codes " = "
      ++ t
  grouped f t = simp append_assoc refl

refused_parts : (names : List (List ℕ)) → AreNames names
    → Exact (refused_text names) (λ (p : FrameId × ℕ). IsFrame names p.0 × (p.1 ≤ 255)) at_end
    (after (codes "refused ") (both (frame names) (after (codes " = ") u8)))
refused_parts names ok =
    after_exact (codes "refused ") (both_exact (λ b rest fits e. refl) (frame_exact names ok)
    (after_exact (codes " = ") (at_end_exact end_stops (number_exact 255 (omega arith)))))

-- ----- all of them
abbrev events_of : (names : List (List ℕ)) → List (Reader Event)
events_of names = listened ∷ not_accepted ∷ not_connected ∷ strayed names ∷ dropped names ∷ refused names ∷ []

event_spells : (names : List (List ℕ)) → AreNames names → Spells (told_text names) (IsEvent names) (event names)
unfolding event listened not_accepted not_connected strayed dropped refused
event_spells names ok = one_of_spells (told_text names) (IsEvent names) (events_of names) (
  made_spells listened_of (told_text names) (IsEvent names) listened_parts.spells
      (λ p fits. (listened_same names p, (omega (arith, fits.0), omega (arith, fits.1.0)))),
  (
    made_spells not_accepted_of (told_text names) (IsEvent names) not_accepted_parts.spells
        (λ p fits. (not_accepted_same names p, (omega (arith, fits.0), omega (arith, fits.1)))),
    (
      made_spells not_connected_of (told_text names) (IsEvent names) not_connected_parts.spells
          (λ p fits. (not_connected_same names p, (omega (arith, fits.0), fits.1.0.0, omega (arith, fits.1.0.1)))),
      (
        made_spells strayed_of (told_text names) (IsEvent names) (strayed_parts names ok).spells
            (λ p fits. (strayed_same names p, (fits.0, fits.1.0, fits.1.1))),
        (
          made_spells dropped_of (told_text names) (IsEvent names) (dropped_parts names ok).spells
              (λ p fits. (dropped_same names p, fits.0)),
          (
            made_spells refused_of (told_text names) (IsEvent names) (refused_parts names ok).spells
                (λ p fits. (refused_same names p, (fits.0, omega (arith, fits.1)))),
            tt,
          ),
        ),
      ),
    ),
  ),
)

-- what an application asked for is no other such call
other_call : {B : Type 0} (f : ℕ × B → Event) (second : Reader B) (app : ℕ) (w : List ℕ) → app < 2 ^ 32
    → stops is_digit w ≡ true → second w ≡ None
    → made f (both (after (codes "p") u32) second) ((codes "p" ++ decimal app) ++ w) ≡ None
other_call f second app w fits s e =
    made_none f (both (after (codes "p") u32) second) ((codes "p" ++ decimal app) ++ w)
    (second_none (after (codes "p") u32) second ((codes "p" ++ decimal app) ++ w) app w
    (after_again (codes "p") u32 (decimal app) w app (u32_exact.again app w (omega (arith, fits)) s)) e)

no_listen : (app : ℕ) (w : List ℕ) → app < 2 ^ 32 → stops is_digit w ≡ true → behind (codes " listen ") w ≡ None
    → listened ((codes "p" ++ decimal app) ++ w) ≡ None
unfolding listened
no_listen app w fits s e =
    other_call listened_of (both (after (codes " listen ") u16)
    (after (codes " = ") (told (codes "ok") (codes "portinuse"))))
    app w fits s
    (first_none (after (codes " listen ") u16) (after (codes " = ") (told (codes "ok") (codes "portinuse"))) w
    (after_none (codes " listen ") u16 w e))

before_none : {A : Type 0} (reader : Reader A) (back t : List ℕ) → reader t ≡ None → before reader back t ≡ None
before_none {A} reader back t e =
    with_none (λ (a : A × List ℕ). with (λ (r : List ℕ). Some (a.0, r)) (behind back a.1)) (reader t) e

no_accept : (app : ℕ) (w : List ℕ) → app < 2 ^ 32 → stops is_digit w ≡ true → behind (codes " accept ") w ≡ None
    → not_accepted ((codes "p" ++ decimal app) ++ w) ≡ None
unfolding not_accepted
no_accept app w fits s e =
    other_call not_accepted_of (before (after (codes " accept ") u16) (codes " = notyet")) app w fits s
    (before_none (after (codes " accept ") u16) (codes " = notyet") w (after_none (codes " accept ") u16 w e))

-- what stands behind an application's number where a connect was refused
abbrev asked_text : (addr port : ℕ) (no_port : Bool) → List ℕ
asked_text addr port t = (codes " connect " ++ socket_text (addr, port))
    ++ (codes " = " ++ cond t (codes "noport") (codes "noflowslot"))

behind_app : (app : ℕ) (w rest : List ℕ) → ((codes "p" ++ decimal app) ++ w) ++ rest
    ≡ (codes "p" ++ decimal app) ++ (w ++ rest)
behind_app app w rest = append_assoc (codes "p" ++ decimal app) w rest

two_fail : {A : Type 0} (a b : Option A) → a ≡ None → b ≡ None → (fails a && (fails b && true)) ≡ true
two_fail a b ea eb = rw (ea, eb) refl

one_fails : {A : Type 0} (a : Option A) → a ≡ None → (fails a && true) ≡ true
one_fails a e = rw e refl

event_again : (names : List (List ℕ)) → AreNames names → (x : Event) (rest : List ℕ) → IsEvent names x
    → at_end rest ≡ true → event names (told_text names x ++ rest) ≡ Some (x, rest)
unfolding event strayed dropped refused listened not_accepted not_connected with behind
event_again names ok (Listened app port t) rest fits e =
    ap (λ (w : List ℕ). one_of (events_of names) (w ++ rest)) (sym (listened_same names (app, (port, t))))
    ∙ one_of_again 0 (events_of names) (listened_text (app, (port, t)) ++ rest) (Listened app port t, rest) refl
    (made_again listened_of (both (after (codes "p") u32) (both (after (codes " listen ") u16)
    (after (codes " = ") (told (codes "ok") (codes "portinuse"))))) (listened_text (app, (port, t)) ++ rest)
    (app, (port, t)) rest
    (listened_parts.again (app, (port, t)) rest (omega (arith, fits.0), (omega (arith, fits.1), tt)) refl))
event_again names ok (NotAccepted app port) rest fits e =
    ap (λ (w : List ℕ). one_of (events_of names) (w ++ rest)) (sym (not_accepted_same names (app, port)))
    ∙ one_of_again 1 (events_of names) (not_accepted_text (app, port) ++ rest) (NotAccepted app port, rest)
    (one_fails (listened (not_accepted_text (app, port) ++ rest))
    (ap listened (append_assoc (codes "p" ++ decimal app) ((codes " accept " ++ decimal port) ++ codes
    " = notyet") rest)
    ∙ no_listen app (((codes " accept " ++ decimal port) ++ codes " = notyet") ++ rest) fits.0 refl refl))
    (made_again not_accepted_of (both (after (codes "p") u32)
    (before (after (codes " accept ") u16) (codes " = notyet")))
    (not_accepted_text (app, port) ++ rest) (app, port) rest
    (not_accepted_parts.again (app, port) rest (omega (arith, fits.0), omega (arith, fits.1)) refl))
event_again names ok (NotConnected app addr port t) rest fits e =
    ap (λ (w : List ℕ). one_of (events_of names) (w ++ rest))
    (sym (not_connected_same names (app, ((addr, port), t))))
    ∙ one_of_again 2 (events_of names) (not_connected_text (app, ((addr, port), t)) ++ rest)
    (NotConnected app addr port t, rest)
    (two_fail (listened (not_connected_text (app, ((addr, port), t)) ++ rest))
    (not_accepted (not_connected_text (app, ((addr, port), t)) ++ rest))
    (ap listened (behind_app app (asked_text addr port t) rest)
    ∙ no_listen app (asked_text addr port t ++ rest) fits.0 refl refl)
    (ap not_accepted (behind_app app (asked_text addr port t) rest)
    ∙ no_accept app (asked_text addr port t ++ rest) fits.0 refl refl))
    (made_again not_connected_of (both (after (codes "p") u32) (both (after (codes " connect ") socket)
    (after (codes " = ") (told (codes "noport") (codes "noflowslot")))))
    (not_connected_text (app, ((addr, port), t)) ++ rest) (app, ((addr, port), t)) rest
    (not_connected_parts.again (app, ((addr, port), t)) rest
    (omega (arith, fits.0), ((fits.1, omega (arith, fits.2)), tt)) refl))
event_again names ok (Strayed f s a) rest fits e =
    ap (λ (w : List ℕ). one_of (events_of names) (w ++ rest)) (sym (strayed_same names (f, (s, a))))
    ∙ one_of_again 3 (events_of names) (strayed_text names (f, (s, a)) ++ rest) (Strayed f s a, rest) refl
    (made_again strayed_of (after (codes "stray ") (both (frame names) (both (after (codes " ") seg)
    (after (codes " = ") answer)))) (strayed_text names (f, (s, a)) ++ rest) (f, (s, a)) rest
    ((strayed_parts names ok).again (f, (s, a)) rest (fits.0, (fits.1, fits.2)) e))
event_again names ok (Dropped f t) rest fits e =
    ap (λ (w : List ℕ). one_of (events_of names) (w ++ rest)) (sym (dropped_same names (f, t)))
    ∙ one_of_again 4 (events_of names) (dropped_text names (f, t) ++ rest) (Dropped f t, rest) refl
    (made_again dropped_of (after (codes "dropped ") (both (frame names)
    (after (codes " = ") (told (codes "backlogfull") (codes "noflowslot"))))) (dropped_text names (f, t) ++ rest)
    (f, t)
    rest ((dropped_parts names ok).again (f, t) rest (fits, tt) refl))
event_again names ok (Refused f n) rest fits e =
    ap (λ (w : List ℕ). one_of (events_of names) (w ++ rest)) (sym (refused_same names (f, n)))
    ∙ one_of_again 5 (events_of names) (refused_text names (f, n) ++ rest) (Refused f n, rest) refl
    (made_again refused_of (after (codes "refused ") (both (frame names) (after (codes " = ") u8)))
    (refused_text names (f, n) ++ rest) (f, n) rest
    ((refused_parts names ok).again (f, n) rest (fits.0, omega (arith, fits.1)) e))

pub event_exact : (names : List (List ℕ)) → AreNames names
    → Exact (told_text names) (IsEvent names) at_end (event names)
event_exact names ok = record { spells = event_spells names ok; again = event_again names ok }
