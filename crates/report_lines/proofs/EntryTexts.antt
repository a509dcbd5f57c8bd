-- Calls, replies and entries: what is read is what is written.
use Rattle.std.proofs.Common.{◌≡◌, ℕ, ◌^◌, ◌≤◌, ◌<◌, true, ◌&&◌, List, ◌++◌}
use Rattle.std.proofs.Common.{Option, Some, None, refl, sym, ap, ◌∙◌, arith, append_assoc}
use Rattle.std.specs.Prelude.{codes, decimal, IfSome}
use Rattle.tas_model.specs.declared.entry.FrameId.{FrameId}
use Rattle.tas_model.specs.declared.entry.Head.{Head}
use Rattle.tas_model.specs.declared.entry.Seg.{Seg}
use Rattle.tas_model.specs.declared.entry.Reason.{Reason}
use Rattle.tas_model.specs.declared.entry.Call.{Call}
use Rattle.tas_model.specs.declared.entry.Call.TheVariants as calls
use Rattle.tas_model.specs.declared.entry.Reply.{Reply}
use Rattle.tas_model.specs.declared.entry.Reply.TheVariants as replies
use Rattle.tas_model.specs.declared.entry.Entry.{Entry}
use Rattle.tas_runs.specs.Report as report
use Rattle.report_lines.specs.Fronts.{with, behind, word, made, after, both, maybe, one_of, u32, is_hex}
use Rattle.report_lines.specs.Fronts.{hex_bytes}
use Rattle.report_lines.specs.Segments.{letter_at, letters_at, flags, head, seg}
use Rattle.report_lines.specs.Origins.{reason, frame}
use Rattle.report_lines.specs.Entries.{connect_of, passive_of, rx_of, connect, passive, rx, send, recv, calls_of}
use Rattle.report_lines.specs.Entries.{call, sent_reply, took, got_of, got, closed, window_of, window}
use Rattle.report_lines.specs.Entries.{replies_of, reply, entry_of, entry}
use Rattle.report_lines.specs.Shown.{AreBytes, IsHead, IsSeg, AreNames, IsFrame, IsCall, IsReply, IsEntry}
use Rattle.report_lines.proofs.Texts.{stops}
use Rattle.report_lines.proofs.Exactness.{Spells, Exact, word_spells, word_again, made_spells, made_again}
use Rattle.report_lines.proofs.Exactness.{made_exact}
use Rattle.report_lines.proofs.Exactness.{after_spells, after_again, after_exact, both_exact, maybe_exact}
use Rattle.report_lines.proofs.Exactness.{maybe_text, MaybeFits, fails, one_of_spells, one_of_again}
use Rattle.report_lines.proofs.SegTexts.{at_end, by_end, end_stops, end_stops_hex, u32_exact, seg_exact}
use Rattle.report_lines.proofs.SegTexts.{head_at_end}
use Rattle.report_lines.proofs.SegTexts.{at_end_exact}
use Rattle.report_lines.proofs.HexDigits.{hex_exact}
use Rattle.report_lines.proofs.OriginTexts.{caller_exact, reason_exact}
use Rattle.report_lines.proofs.FrameTexts.{frame_exact, u64_exact}

-- ----- calls, part by part
number_end : Exact decimal (λ (n : ℕ). n ≤ 4294967295) at_end u32
number_end = at_end_exact end_stops u32_exact

abbrev passive_text : (names : List (List ℕ)) → FrameId × (ℕ × Seg) → List ℕ
passive_text names p = codes "passive " ++ (report.frame_text names p.0
    ++ ((codes " iss " ++ decimal p.1.0) ++ (codes " " ++ report.seg_text p.1.1)))

passive_same : (names : List (List ℕ)) (p : FrameId × (ℕ × Seg)) → passive_text names p
    ≡ report.call_text names (passive_of p)
passive_same names p = grouped (report.frame_text names p.0) (decimal p.1.0) (report.seg_text p.1.1) where
  grouped : (f n s : List ℕ) → codes "passive " ++ (f ++ ((codes " iss " ++ n) ++ (codes " " ++ s)))
      ≡ codes "passive " ++ f ++ codes " iss " ++ n ++ codes " " ++ s
  grouped f n s = simp append_assoc refl

abbrev PassiveFits : (names : List (List ℕ)) → FrameId × (ℕ × Seg) → Type 0
PassiveFits names p = IsFrame names p.0 × ((p.1.0 ≤ 4294967295) × IsSeg p.1.1)

passive_parts : (names : List (List ℕ)) → AreNames names
    → Exact (passive_text names) (PassiveFits names) at_end (after (codes "passive ") (both (frame names)
    (both (after (codes " iss ") u32) (after (codes " ") seg))))
passive_parts names ok =
    after_exact (codes "passive ") (both_exact (λ b rest fits e. refl) (frame_exact names ok)
    (both_exact (λ b rest fits e. refl) (after_exact (codes " iss ") u32_exact)
    (after_exact (codes " ") seg_exact)))

abbrev rx_text : (names : List (List ℕ)) → FrameId × Seg → List ℕ
rx_text names p = codes "rx " ++ (report.frame_text names p.0 ++ (codes " " ++ report.seg_text p.1))

rx_same : (names : List (List ℕ)) (p : FrameId × Seg) → rx_text names p ≡ report.call_text names (rx_of p)
rx_same names p = grouped (report.frame_text names p.0) (report.seg_text p.1) where
  grouped : (f s : List ℕ) → codes "rx " ++ (f ++ (codes " " ++ s)) ≡ codes "rx " ++ f ++ codes " " ++ s
  grouped f s = simp append_assoc refl

rx_parts : (names : List (List ℕ)) → AreNames names
    → Exact (rx_text names) (λ (p : FrameId × Seg). IsFrame names p.0 × IsSeg p.1) at_end
    (after (codes "rx ") (both (frame names) (after (codes " ") seg)))
rx_parts names ok =
    after_exact (codes "rx ") (both_exact (λ b rest fits e. refl) (frame_exact names ok)
    (after_exact (codes " ") seg_exact))

call_spells : (names : List (List ℕ)) → AreNames names → Spells (report.call_text names) (IsCall names) (call names)
unfolding call rx recv send connect passive
call_spells names ok =
    one_of_spells (report.call_text names) (IsCall names) (calls_of names) (
      word_spells (report.call_text names) (IsCall names) (codes "tick") calls.Tick refl tt,
      (
        made_spells rx_of (report.call_text names) (IsCall names) (rx_parts names ok).spells
            (λ p fits. (rx_same names p, fits)),
        (
          word_spells (report.call_text names) (IsCall names) (codes "emit") calls.Emit refl tt,
          (
            made_spells (λ (n : ℕ). calls.Recv n) (report.call_text names) (IsCall names)
                (after_spells (codes "recv ") u32_exact.spells) (λ n fits. (refl, omega (arith, fits))),
            (
              made_spells (λ (n : ℕ). calls.Send n) (report.call_text names) (IsCall names)
                  (after_spells (codes "send ") u32_exact.spells) (λ n fits. (refl, omega (arith, fits))),
              (
                word_spells (report.call_text names) (IsCall names) (codes "control") calls.Control refl tt,
                (
                  made_spells connect_of (report.call_text names) (IsCall names)
                      (after_spells (codes "connect iss ") u32_exact.spells)
                      (λ n fits. (refl, omega (arith, fits))),
                  (
                    made_spells passive_of (report.call_text names) (IsCall names) (passive_parts names ok).spells
                        (λ p fits. (passive_same names p, (fits.0, omega (arith, fits.1.0), fits.1.1))),
                    (
                      word_spells (report.call_text names) (IsCall names) (codes "accept") calls.Accept refl tt,
                      (
                        word_spells (report.call_text names) (IsCall names) (codes "ready") calls.Ready refl tt,
                        (
                          word_spells (report.call_text names) (IsCall names) (codes "shut") calls.Shut refl tt,
                          (
                            word_spells (report.call_text names) (IsCall names) (codes "close") calls.Close refl tt,
                            (
                              word_spells (report.call_text names) (IsCall names) (codes "abort") calls.Abort refl
                                  tt,
                              tt,
                            ),
                          ),
                        ),
                      ),
                    ),
                  ),
                ),
              ),
            ),
          ),
        ),
      ),
    )

-- a call behind a word and with a number
numbered_again : (front : List ℕ) (make : ℕ → Call) (n : ℕ) (rest : List ℕ) → n < 2 ^ 32 → at_end rest ≡ true
    → made make (after front u32) ((front ++ decimal n) ++ rest) ≡ Some (make n, rest)
numbered_again front make n rest fits e =
    made_again make (after front u32) ((front ++ decimal n) ++ rest) n rest
    (after_again front u32 (decimal n) rest n (number_end.again n rest (omega (arith, fits)) e))

call_again : (names : List (List ℕ)) → AreNames names → (x : Call) (rest : List ℕ) → IsCall names x
    → at_end rest ≡ true → call names (report.call_text names x ++ rest) ≡ Some (x, rest)
unfolding call rx recv send connect passive with behind
call_again names ok calls.Tick rest fits e =
    one_of_again 0 (calls_of names) (codes "tick" ++ rest) (calls.Tick, rest) refl
    (word_again (codes "tick") calls.Tick rest)
call_again names ok (calls.Rx f s) rest fits e =
    ap (λ (w : List ℕ). one_of (calls_of names) (w ++ rest)) (sym (rx_same names (f, s)))
    ∙ one_of_again 1 (calls_of names) (rx_text names (f, s) ++ rest) (calls.Rx f s, rest) refl
    (made_again rx_of (after (codes "rx ") (both (frame names) (after (codes " ") seg)))
    (rx_text names (f, s) ++ rest)
    (f, s) rest ((rx_parts names ok).again (f, s) rest fits e))
call_again names ok calls.Emit rest fits e =
    one_of_again 2 (calls_of names) (codes "emit" ++ rest) (calls.Emit, rest) refl
    (word_again (codes "emit") calls.Emit rest)
call_again names ok (calls.Recv n) rest fits e =
    one_of_again 3 (calls_of names) ((codes "recv " ++ decimal n) ++ rest) (calls.Recv n, rest) refl
    (numbered_again (codes "recv ") (λ (k : ℕ). calls.Recv k) n rest fits e)
call_again names ok (calls.Send n) rest fits e =
    one_of_again 4 (calls_of names) ((codes "send " ++ decimal n) ++ rest) (calls.Send n, rest) refl
    (numbered_again (codes "send ") (λ (k : ℕ). calls.Send k) n rest fits e)
call_again names ok calls.Control rest fits e =
    one_of_again 5 (calls_of names) (codes "control" ++ rest) (calls.Control, rest) refl
    (word_again (codes "control") calls.Control rest)
call_again names ok (calls.Connect iss) rest fits e =
    one_of_again 6 (calls_of names) ((codes "connect iss " ++ decimal iss.0) ++ rest) (calls.Connect iss, rest) refl
    (numbered_again (codes "connect iss ") connect_of iss.0 rest fits e)
call_again names ok (calls.Passive f iss s) rest fits e =
    ap (λ (w : List ℕ). one_of (calls_of names) (w ++ rest)) (sym (passive_same names (f, (iss.0, s))))
    ∙ one_of_again 7 (calls_of names) (passive_text names (f, (iss.0, s)) ++ rest) (calls.Passive f iss s, rest)
    refl
    (made_again passive_of (after (codes "passive ") (both (frame names)
    (both (after (codes " iss ") u32) (after (codes " ") seg)))) (passive_text names (f, (iss.0, s)) ++ rest)
    (f, (iss.0, s)) rest
    ((passive_parts names ok).again (f, (iss.0, s)) rest (fits.0, (omega (arith, fits.1), fits.2)) e))
call_again names ok calls.Accept rest fits e =
    one_of_again 8 (calls_of names) (codes "accept" ++ rest) (calls.Accept, rest) refl
    (word_again (codes "accept") calls.Accept rest)
call_again names ok calls.Ready rest fits e =
    one_of_again 9 (calls_of names) (codes "ready" ++ rest) (calls.Ready, rest) refl
    (word_again (codes "ready") calls.Ready rest)
call_again names ok calls.Shut rest fits e =
    one_of_again 10 (calls_of names) (codes "shut" ++ rest) (calls.Shut, rest) refl
    (word_again (codes "shut") calls.Shut rest)
call_again names ok calls.Close rest fits e =
    one_of_again 11 (calls_of names) (codes "close" ++ rest) (calls.Close, rest) refl
    (word_again (codes "close") calls.Close rest)
call_again names ok calls.Abort rest fits e =
    one_of_again 12 (calls_of names) (codes "abort" ++ rest) (calls.Abort, rest) refl
    (word_again (codes "abort") calls.Abort rest)

pub call_exact : (names : List (List ℕ)) → AreNames names
    → Exact (report.call_text names) (IsCall names) at_end (call names)
call_exact names ok = record { spells = call_spells names ok; again = call_again names ok }

-- ----- replies, part by part
update_same : (o : Option Head) → maybe_text (codes " then ") report.head_text o ≡ report.update_text o
update_same None = refl
update_same (Some h) = refl

update_fits : (o : Option Head) → MaybeFits IsHead o → IfSome o IsHead
update_fits None h = tt
update_fits (Some x) h = h

fits_update : (o : Option Head) → IfSome o IsHead → MaybeFits IsHead o
fits_update None h = tt
fits_update (Some x) h = h

no_then : (rest : List ℕ) → at_end rest ≡ true → (at_end rest && fails (behind (codes " then ") rest)) ≡ true
unfolding behind
no_then rest e =
    by_end (λ (r : List ℕ). (at_end r && fails (behind (codes " then ") r)) ≡ true) rest e refl (λ cs. refl)

hex_goes : (o : Option Head) (rest : List ℕ) → at_end rest ≡ true
    → stops is_hex (maybe_text (codes " then ") report.head_text o ++ rest) ≡ true
hex_goes None rest e = end_stops_hex rest e
hex_goes (Some h) rest e = refl

abbrev got_text : List ℕ × Option Head → List ℕ
got_text p = codes "got " ++ (report.hex p.0 ++ maybe_text (codes " then ") report.head_text p.1)

got_same : (p : List ℕ × Option Head) → got_text p ≡ report.reply_text (got_of p)
got_same p = ap (λ (w : List ℕ). codes "got " ++ (report.hex p.0 ++ w)) (update_same p.1)
    ∙ grouped (report.hex p.0) (report.update_text p.1) where
      grouped : (b u : List ℕ) → codes "got " ++ (b ++ u) ≡ codes "got " ++ b ++ u
      grouped b u = simp append_assoc refl

got_parts : Exact got_text (λ (p : List ℕ × Option Head). AreBytes p.0 × MaybeFits IsHead p.1) at_end
    (after (codes "got ") (both hex_bytes (maybe (codes " then ") head)))
got_parts =
    after_exact (codes "got ") (both_exact (λ o rest fits e. hex_goes o rest e) hex_exact
    (at_end_exact no_then (maybe_exact (codes " then ") head_at_end)))

abbrev window_text : ℕ × ℕ → List ℕ
window_text p = (codes "cwnd " ++ decimal p.0) ++ (codes " ssthresh " ++ decimal p.1)

window_same : (p : ℕ × ℕ) → window_text p ≡ report.reply_text (window_of p)
window_same p = grouped (decimal p.0) (decimal p.1) where
  grouped : (c t : List ℕ) → (codes "cwnd " ++ c) ++ (codes " ssthresh " ++ t) ≡ codes "cwnd " ++ c ++ codes
      " ssthresh " ++ t
  grouped c t = simp append_assoc refl

window_parts : Exact window_text (λ (p : ℕ × ℕ). (p.0 ≤ 4294967295) × (p.1 ≤ 4294967295)) at_end
    (both (after (codes "cwnd ") u32) (after (codes " ssthresh ") u32))
window_parts =
    both_exact (λ b rest fits e. refl) (after_exact (codes "cwnd ") u32_exact)
    (after_exact (codes " ssthresh ") number_end)

hex_end : Exact report.hex AreBytes at_end hex_bytes
hex_end = at_end_exact end_stops_hex hex_exact

reply_spells : Spells report.reply_text IsReply reply
unfolding reply sent_reply took got closed window
reply_spells = one_of_spells report.reply_text IsReply replies_of (
  made_spells (λ (s : Seg). replies.Sent s) report.reply_text IsReply seg_exact.spells (λ s fits. (refl, fits)),
  (
    word_spells report.reply_text IsReply (codes "quiet") replies.Quiet refl tt,
    (
      word_spells report.reply_text IsReply (codes "none") replies.Nothing refl tt,
      (
        word_spells report.reply_text IsReply (codes "notyet") replies.NotYet refl tt,
        (
          word_spells report.reply_text IsReply (codes "ok") replies.Ok refl tt,
          (
            made_spells (λ (bytes : List ℕ). replies.Took bytes) report.reply_text IsReply
                (after_spells (codes "took ") hex_exact.spells) (λ bytes fits. (refl, fits)),
            (
              made_spells got_of report.reply_text IsReply got_parts.spells
                  (λ p fits. (got_same p, (fits.0, update_fits p.1 fits.1))),
              (
                made_spells window_of report.reply_text IsReply window_parts.spells
                    (λ p fits. (window_same p, (omega (arith, fits.0), omega (arith, fits.1)))),
                (
                  made_spells (λ (why : Reason). replies.Closed why) report.reply_text IsReply
                      (after_spells (codes "closed ") reason_exact.spells) (λ why fits. (refl, tt)),
                  (
                    word_spells report.reply_text IsReply (codes "notopen") replies.NotOpen refl tt,
                    (
                      word_spells report.reply_text IsReply (codes "end") replies.End refl tt,
                      (
                        word_spells report.reply_text IsReply (codes "shut") replies.Shut refl tt,
                        (
                          word_spells report.reply_text IsReply (codes "resend") replies.Resend refl tt,
                          (
                            word_spells report.reply_text IsReply (codes "probe") replies.Probe refl tt,
                            (
                              word_spells report.reply_text IsReply (codes "done") replies.Expired refl tt,
                              (
                                word_spells report.reply_text IsReply (codes "timedout") replies.TimedOut refl tt,
                                tt,
                              ),
                            ),
                          ),
                        ),
                      ),
                    ),
                  ),
                ),
              ),
            ),
          ),
        ),
      ),
    ),
  ),
)

reply_again : (x : Reply) (rest : List ℕ) → IsReply x → at_end rest ≡ true
    → reply (report.reply_text x ++ rest) ≡ Some (x, rest)
unfolding reply sent_reply took got closed window seg head flags letters_at letter_at with behind
reply_again (replies.Sent s) rest fits e =
    one_of_again 0 replies_of (report.seg_text s ++ rest) (replies.Sent s, rest) refl
    (made_again (λ (x : Seg). replies.Sent x) seg (report.seg_text s ++ rest) s rest
    (seg_exact.again s rest fits e))
reply_again (replies.Took bytes) rest fits e =
    one_of_again 5 replies_of ((codes "took " ++ report.hex bytes) ++ rest) (replies.Took bytes, rest) refl
    (made_again (λ (b : List ℕ). replies.Took b) (after (codes "took ") hex_bytes)
    ((codes "took " ++ report.hex bytes) ++ rest) bytes rest
    (after_again (codes "took ") hex_bytes (report.hex bytes) rest bytes (hex_end.again bytes rest fits e)))
reply_again (replies.Got bytes update) rest fits e =
    ap (λ (w : List ℕ). one_of replies_of (w ++ rest)) (sym (got_same (bytes, update)))
    ∙ one_of_again 6 replies_of (got_text (bytes, update) ++ rest) (replies.Got bytes update, rest) refl
    (made_again got_of (after (codes "got ") (both hex_bytes (maybe (codes " then ") head)))
    (got_text (bytes, update) ++ rest) (bytes, update) rest
    (got_parts.again (bytes, update) rest (fits.0, fits_update update fits.1) e))
reply_again (replies.Window cwnd ssthresh) rest fits e =
    ap (λ (w : List ℕ). one_of replies_of (w ++ rest)) (sym (window_same (cwnd, ssthresh)))
    ∙ one_of_again 7 replies_of (window_text (cwnd, ssthresh) ++ rest) (replies.Window cwnd ssthresh, rest) refl
    (made_again window_of (both (after (codes "cwnd ") u32) (after (codes " ssthresh ") u32))
    (window_text (cwnd, ssthresh) ++ rest) (cwnd, ssthresh) rest
    (window_parts.again (cwnd, ssthresh) rest (omega (arith, fits.0), omega (arith, fits.1)) e))
reply_again (replies.Closed why) rest fits e =
    one_of_again 8 replies_of ((codes "closed " ++ report.reason_text why) ++ rest) (replies.Closed why, rest) refl
    (made_again (λ (r : Reason). replies.Closed r) (after (codes "closed ") reason)
    ((codes "closed " ++ report.reason_text why) ++ rest) why rest
    (after_again (codes "closed ") reason (report.reason_text why) rest why (reason_exact.again why rest tt refl)))
reply_again replies.Quiet rest fits e =
    one_of_again 1 replies_of (codes "quiet" ++ rest) (replies.Quiet, rest) refl
    (word_again (codes "quiet") replies.Quiet rest)
reply_again replies.Nothing rest fits e =
    one_of_again 2 replies_of (codes "none" ++ rest) (replies.Nothing, rest) refl
    (word_again (codes "none") replies.Nothing rest)
reply_again replies.NotYet rest fits e =
    one_of_again 3 replies_of (codes "notyet" ++ rest) (replies.NotYet, rest) refl
    (word_again (codes "notyet") replies.NotYet rest)
reply_again replies.Ok rest fits e =
    one_of_again 4 replies_of (codes "ok" ++ rest) (replies.Ok, rest) refl
    (word_again (codes "ok") replies.Ok rest)
reply_again replies.NotOpen rest fits e =
    one_of_again 9 replies_of (codes "notopen" ++ rest) (replies.NotOpen, rest) refl
    (word_again (codes "notopen") replies.NotOpen rest)
reply_again replies.End rest fits e =
    one_of_again 10 replies_of (codes "end" ++ rest) (replies.End, rest) refl
    (word_again (codes "end") replies.End rest)
reply_again replies.Shut rest fits e =
    one_of_again 11 replies_of (codes "shut" ++ rest) (replies.Shut, rest) refl
    (word_again (codes "shut") replies.Shut rest)
reply_again replies.Resend rest fits e =
    one_of_again 12 replies_of (codes "resend" ++ rest) (replies.Resend, rest) refl
    (word_again (codes "resend") replies.Resend rest)
reply_again replies.Probe rest fits e =
    one_of_again 13 replies_of (codes "probe" ++ rest) (replies.Probe, rest) refl
    (word_again (codes "probe") replies.Probe rest)
reply_again replies.Expired rest fits e =
    one_of_again 14 replies_of (codes "done" ++ rest) (replies.Expired, rest) refl
    (word_again (codes "done") replies.Expired rest)
reply_again replies.TimedOut rest fits e =
    one_of_again 15 replies_of (codes "timedout" ++ rest) (replies.TimedOut, rest) refl
    (word_again (codes "timedout") replies.TimedOut rest)

pub reply_exact : Exact report.reply_text IsReply at_end reply
reply_exact = record { spells = reply_spells; again = reply_again }

-- ----- entries
-- the line of an entry behind its tick
abbrev pub entry_body : (names : List (List ℕ)) → Entry → List ℕ
entry_body names x = report.caller_text x.caller ++ ((codes "." ++ decimal x.number)
    ++ ((codes " " ++ report.call_text names x.call) ++ (codes " = " ++ report.reply_text x.reply)))

-- an entry of this tick
pub record IsEntryAt (names : List (List ℕ)) (tick : ℕ) (x : Entry) : Type 0 where
  pub entry : IsEntry names x
  pub at : x.tick ≡ tick

pub entry_exact : (names : List (List ℕ)) → AreNames names → (tick : ℕ) → tick < 2 ^ 32
    → Exact (entry_body names) (IsEntryAt names tick) at_end (entry names tick)
unfolding entry
entry_exact names ok tick small =
    made_exact (entry_of tick) (λ (x : Entry). (x.caller, (x.number, (x.call, x.reply)))) (entry_body names)
    (IsEntryAt names tick)
    (both_exact (λ b rest fits e. refl) caller_exact
    (both_exact (λ b rest fits e. refl) (after_exact (codes ".") u64_exact)
    (both_exact (λ b rest fits e. refl) (after_exact (codes " ") (call_exact names ok))
    (after_exact (codes " = ") reply_exact))))
    (λ a fits. (
      refl,
      record {
        entry = record {
          tick = small;
          caller = fits.0;
          number = omega (arith, fits.1.0);
          call = fits.1.1.0;
          reply = fits.1.1.1;
        };
        at = refl;
      },
    ))
    (λ x fits. (
      ap (λ (t : ℕ). entry_of t (x.caller, (x.number, (x.call, x.reply)))) (sym fits.at),
      refl,
      (fits.entry.caller, (omega (arith, fits.entry.number), (fits.entry.call, fits.entry.reply))),
    ))
