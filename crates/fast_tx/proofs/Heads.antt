-- The header of the SYN.
use Rattle.std.proofs.Common.{◌≡◌, ℕ, Bool, Option, Some, None, cond, refl, sym, ◌∙◌, ap, subst}
use Rattle.tas_num.specs.declared.seq.Seq.{Seq}
use Rattle.tas_model.specs.declared.entry.HostParams.{HostParams}
use Rattle.tas_model.specs.declared.entry.Head.{Head}
use Rattle.tas_model.specs.declared.entry.Phase.TheVariants as phases
use Rattle.tas_model.specs.Endpoint.{Endpoint, syn_window_field}
use Rattle.tas_model.specs.Segments.{seq_of, ack_of}
use Rattle.tas_model.specs.ApplicationCalls.{Opening, column}
use Rattle.tas_model.specs.NextSegment.{syn_head}
use Rattle.flow_state.specs.declared.parts.Parts.{Parts}
use Rattle.flow_state.specs.Stands.{Stands}
use Rattle.fast_tx.proofs.Columns.{no_peer, some_peer}

-- the header of a SYN with these fields
abbrev syn_with : (flags : ℕ) (seq ack : Seq) (w m : ℕ) (scale : Option ℕ) → Head
syn_with flags seq ack w m scale =
    record { flags = flags; seq = seq; ack = ack; window = w; mss = Some m; scale = scale }

same_head : (flags : ℕ) (seq seq2 ack ack2 : Seq) (w w2 m m2 : ℕ) (scale scale2 : Option ℕ) → seq ≡ seq2 → ack ≡ ack2
    → w ≡ w2 → m ≡ m2 → scale ≡ scale2 → syn_with flags seq ack w m scale ≡ syn_with flags seq2 ack2 w2 m2 scale2
same_head flags seq seq2 ack ack2 w w2 m m2 scale scale2 a b c d e = rw (a, b, c, d, e) refl

mss_is : (p : Parts) (e : Endpoint) → Stands p e → p.params.mss ≡ e.params.mss
mss_is p e s = ap (λ (h : HostParams). h.mss) s.params

scale_is : (p : Parts) (e : Endpoint) → Stands p e → p.params.scale ≡ e.params.scale
scale_is p e s = ap (λ (h : HostParams). h.scale) s.params

-- in SYN-SENT
pub syn_is : (p : Parts) (e : Endpoint) (w : ℕ) → Stands p e → column e ≡ Opening → e.tx.nxt ≡ 0
    → p.phase ≡ phases.SynSent → w ≡ syn_window_field e
    → syn_with 2 p.nxt (record { 0 = 0 }) w p.params.mss p.params.scale ≡ syn_head e e.peer
syn_is p e w s o first is room =
    subst (λ (peer : Option ℕ). syn_with 2 p.nxt (record { 0 = 0 }) w p.params.mss p.params.scale ≡ syn_head e peer)
    (sym (no_peer e o (sym s.phase ∙ is)))
    (same_head 2 p.nxt (seq_of e 0) (record { 0 = 0 }) (record { 0 = 0 }) w (syn_window_field e) p.params.mss
    e.params.mss p.params.scale e.params.scale (s.nxt ∙ ap (seq_of e) first) refl room (mss_is p e s) (scale_is p e s))

-- once the peer's SYN was taken
pub syn_ack_is : (p : Parts) (e : Endpoint) (w : ℕ) (scale : Option ℕ) → Stands p e → column e ≡ Opening → e.tx.nxt ≡ 0
    → (p.phase ≡ phases.SynSent → ⊥) → w ≡ syn_window_field e → scale ≡ cond e.scaling.agreed e.params.scale None
    → syn_with 18 p.nxt p.rcv w p.params.mss scale ≡ syn_head e e.peer
syn_ack_is p e w scale s o first is room borne =
    let peer : (x : ℕ) × (e.peer ≡ Some x) = some_peer e o (λ h. is (s.phase ∙ h)) in
    subst (λ (q : Option ℕ). syn_with 18 p.nxt p.rcv w p.params.mss scale ≡ syn_head e q) (sym peer.1)
    (same_head 18 p.nxt (seq_of e 0) p.rcv (ack_of e) w (syn_window_field e) p.params.mss e.params.mss scale
    (cond e.scaling.agreed e.params.scale None) (s.nxt ∙ ap (seq_of e) first) s.rcv room (mss_is p e s) borne)
