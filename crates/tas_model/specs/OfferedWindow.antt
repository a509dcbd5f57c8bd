-- The window that an endpoint offers its peer: where it ends, and where a segment says that it ends (RFC 9293, sections
-- 3.3.1 and 3.8.6; RFC 7323, section 2.4).
use Rattle.std.specs.Prelude.{ℕ, ◌≡◌, ◌+◌, ◌*◌, ◌^◌, ◌<◌, ◌≤◌, false, List, [], ◌∷◌, ◌++◌, ⊤, if◌then◌else◌}
use Rattle.tas_model.specs.declared.entry.HostParams.{HostParams}
use Rattle.tas_model.specs.declared.entry.Entry.{Entry}
use Rattle.tas_model.specs.declared.entry.Seg.{Seg}
use Rattle.tas_model.specs.Endpoint.{Endpoint, wnd, next_place}
use Rattle.tas_model.specs.Segments.{is_rst, is_syn}
use Rattle.tas_model.specs.LegalHistory.{Along, replay}
use Rattle.tas_model.specs.Outputs.{segments_in}

-- RCV.NXT + RCV.WND: bytes at places below it are taken.
abbrev pub right_edge : Endpoint → ℕ
right_edge e = next_place e.rx + wnd e

-- the bytes that a segment of this endpoint offers, as its peer reads them: by the own shift, but in a SYN
abbrev pub offers : Endpoint → Seg → ℕ
offers e seg = if is_syn seg then seg.head.window else seg.head.window * 2 ^ e.scaling.rs

-- where the segment says that the window ends
abbrev pub shown_edge : Endpoint → Seg → ℕ
shown_edge e seg = next_place e.rx + offers e seg

-- The segment offers no byte for which there is no room; and but for what the shift rounds off, all room there is,
-- where it is no SYN.
pub record OffersRoom (e : Endpoint) (seg : Seg) : Type 0 where
  pub within : shown_edge e seg ≤ right_edge e
  pub whole : is_syn seg ≡ false → right_edge e < shown_edge e seg + 2 ^ e.scaling.rs

-- so does each of them that is no reset
abbrev pub AllOfferRoom : Endpoint → List Seg → Type 0
AllOfferRoom e [] = ⊤
AllOfferRoom e (seg ∷ segs) = (is_rst seg ≡ false → OffersRoom e seg) × AllOfferRoom e segs

-- Each segment that the history sent offers the room of its entry.
abbrev pub OffersInOrder : HostParams → List Entry → Type 0
OffersInOrder params h =
    Along (λ earlier x. AllOfferRoom (replay params (earlier ++ x ∷ [])) (segments_in x.reply)) [] h
