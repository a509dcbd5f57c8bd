-- What the standards ask of a segment that counts as a duplicate, of one that no reset answers, and of the peer's
-- window.
use Rattle.std.specs.Prelude.{ℕ, ◌≡◌, ◌<◌, ◌≤◌, false, ⊤}
use Rattle.tas_model.specs.declared.entry.Seg.{Seg}
use Rattle.tas_model.specs.declared.entry.Reply.{Reply}
use Rattle.tas_model.specs.declared.entry.Reply.TheVariants as replies
use Rattle.tas_model.specs.Endpoint.{Endpoint, Sending, phase}
use Rattle.tas_model.specs.Segments.{is_rst, seg_len, offered_window}
use Rattle.tas_model.specs.Receive.{place_of_ack, verdict, ack_verdict, Taken, Good}
use Rattle.tas_model.specs.OneStream.{IsSynchronized}

-- A duplicate acknowledgement (RFC 5681, section 2): data is in flight, and the segment has no payload, no SYN and no
-- FIN, acknowledges the first place that is not acknowledged, and offers the window that stands.
pub record RepeatsAcknowledgement (e : Endpoint) (seg : Seg) : Type 0 where
  pub outstanding : e.tx.una < e.tx.max
  pub empty : seg_len seg ≡ 0
  pub place : place_of_ack e seg ≡ e.tx.una
  pub window : offered_window e.scaling seg ≡ e.tx.window

-- The reply is no reset.
abbrev pub IsNoReset : Reply → Type 0
IsNoReset (replies.Sent seg) = is_rst seg ≡ false
IsNoReset _ = ⊤

-- The segment, whose first number has place q, is heard past the opening, and acknowledges nothing below SND.UNA
-- (RFC 9293, section 3.10.7.4, fifth).
pub record IsCurrent (e : Endpoint) (seg : Seg) (q : ℕ) : Type 0 where
  pub synchronized : IsSynchronized (phase e)
  pub verdict : verdict e seg ≡ Taken q
  pub good : ack_verdict e.tx (place_of_ack e seg) ≡ Good
  pub past_opening : 0 < e.tx.una
  pub not_old : e.tx.una ≤ place_of_ack e seg

-- The window and both numbers are the segment's: SND.WND, SND.WL1 and SND.WL2.
pub record WindowOf (q a offered : ℕ) (tx : Sending) : Type 0 where
  pub window : tx.window ≡ offered
  pub wl1 : tx.wl1 ≡ q
  pub wl2 : tx.wl2 ≡ a
