-- Which segments bear a shift, and what it is to scale no windows (RFC 7323, section 2.2).
use Rattle.std.specs.Prelude.{ℕ, ◌≡◌, false, List, [], ◌∷◌, Option, None, ⊤}
use Rattle.tas_model.specs.declared.entry.Seg.{Seg}
use Rattle.tas_model.specs.Segments.{is_syn}

-- the segment with this shift in place of its own
abbrev pub with_scale : Seg → Option ℕ → Seg
with_scale seg scale = record seg { head = record (seg.head) { scale = scale } }

-- a shift stands in a SYN alone
abbrev pub AllBearInSyn : List Seg → Type 0
AllBearInSyn [] = ⊤
AllBearInSyn (seg ∷ segs) = (is_syn seg ≡ false → seg.head.scale ≡ None) × AllBearInSyn segs

-- none of them bears a shift
abbrev pub AllBearNone : List Seg → Type 0
AllBearNone [] = ⊤
AllBearNone (seg ∷ segs) = (seg.head.scale ≡ None) × AllBearNone segs
