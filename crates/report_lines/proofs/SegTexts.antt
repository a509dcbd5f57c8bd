-- Segments: what is read is what is written.
use Rattle.std.proofs.Common.{◌≡◌, ℕ, ◌^◌, ◌≤◌, ◌<◌, Bool, true, false, ◌&&◌, eqb, List, [], ◌∷◌, ◌++◌}
use Rattle.std.proofs.Common.{Option, Some, None, refl, sym, ap, subst, ◌∙◌, arith, append_assoc}
use Rattle.std.specs.Prelude.{codes, decimal, IfSome}
use Rattle.std.proofs.lemmas.Bool.{eqb-true, and_parts}
use Rattle.scenario_text.specs.Words.{is_digit}
use Rattle.tas_model.specs.declared.entry.Head.{Head}
use Rattle.tas_model.specs.declared.entry.Seg.{Seg}
use Rattle.tas_runs.specs.Report as report
use Rattle.report_lines.specs.Fronts.{Reader, behind, u8, u16, u32, is_hex}
use Rattle.report_lines.specs.Segments.{HeadParts, head_of, head, payload_of, payload, seg_of, seg}
use Rattle.report_lines.specs.Shown.{AreBytes, IsHead, IsSeg}
use Rattle.report_lines.proofs.Texts.{stops}
use Rattle.report_lines.proofs.Exactness.{Exact, made_exact, after_exact, both_exact, maybe_exact, maybe_text}
use Rattle.report_lines.proofs.Exactness.{MaybeFits, fails}
use Rattle.report_lines.proofs.Numbers.{number_exact}
use Rattle.report_lines.proofs.HexDigits.{SomeBytes, some_hex_exact}
use Rattle.report_lines.proofs.FlagLetters.{flags_exact}

-- ----- where a part of a line ends
-- The line ends, or goes on with ` =`.
abbrev pub at_end : List ℕ → Bool
at_end [] = true
at_end (c ∷ []) = false
at_end (c ∷ d ∷ cs) = eqb c 32 && eqb d 61

-- What holds of both ends holds of the text.
pub by_end : (P : List ℕ → Type 0) (rest : List ℕ) → at_end rest ≡ true → P [] → ((cs : List ℕ) → P (32 ∷ 61 ∷ cs))
    → P rest
by_end P [] e h g = h
by_end P (c ∷ []) e h g = absurd (cc (e))
by_end P (c ∷ d ∷ cs) e h g =
    let parts : (eqb c 32 ≡ true) × (eqb d 61 ≡ true) = and_parts (eqb c 32) (eqb d 61) e in
    subst (λ (x : ℕ). P (x ∷ d ∷ cs)) (sym (eqb-true c 32 parts.0))
    (subst (λ (y : ℕ). P (32 ∷ y ∷ cs)) (sym (eqb-true d 61 parts.1)) (g cs))

pub end_stops : (rest : List ℕ) → at_end rest ≡ true → stops is_digit rest ≡ true
end_stops rest e = by_end (λ (r : List ℕ). stops is_digit r ≡ true) rest e refl (λ cs. refl)

pub end_stops_hex : (rest : List ℕ) → at_end rest ≡ true → stops is_hex rest ≡ true
end_stops_hex rest e = by_end (λ (r : List ℕ). stops is_hex r ≡ true) rest e refl (λ cs. refl)

-- ----- numbers
pub u32_exact : Exact decimal (λ (n : ℕ). n ≤ 4294967295) (stops is_digit) u32
u32_exact = number_exact 4294967295 (omega arith)

pub u16_exact : Exact decimal (λ (n : ℕ). n ≤ 65535) (stops is_digit) u16
u16_exact = number_exact 65535 (omega arith)

pub u8_exact : Exact decimal (λ (n : ℕ). n ≤ 255) (stops is_digit) u8
u8_exact = number_exact 255 (omega arith)

-- ----- a segment without its payload
-- no option comes
abbrev pub no_scale : List ℕ → Bool
no_scale rest = stops is_digit rest && fails (behind (codes " ws ") rest)

abbrev pub no_mss : List ℕ → Bool
no_mss rest = stops is_digit rest && fails (behind (codes " mss ") rest)

abbrev pub no_options : List ℕ → Bool
no_options rest = no_mss rest && no_scale rest

abbrev FitsMss : Option ℕ → Type 0
FitsMss mss = MaybeFits (λ (n : ℕ). n ≤ 65535) mss

abbrev FitsScale : Option ℕ → Type 0
FitsScale scale = MaybeFits (λ (n : ℕ). n ≤ 255) scale

abbrev mss_words : Option ℕ → List ℕ
mss_words mss = maybe_text (codes " mss ") decimal mss

abbrev scale_words : Option ℕ → List ℕ
scale_words scale = maybe_text (codes " ws ") decimal scale

-- no MSS comes behind a scale, or where no option does
scale_goes : (scale : Option ℕ) (rest : List ℕ) → no_options rest ≡ true → no_mss (scale_words scale ++ rest) ≡ true
unfolding behind
scale_goes None rest e = (and_parts (no_mss rest) (no_scale rest) e).0
scale_goes (Some n) rest e = refl

options_go : (o : Option ℕ × Option ℕ) (rest : List ℕ) → no_options rest ≡ true
    → stops is_digit ((mss_words o.0 ++ scale_words o.1) ++ rest) ≡ true
options_go (None, None) rest e =
    (and_parts (stops is_digit rest) (fails (behind (codes " mss ") rest))
    (and_parts (no_mss rest) (no_scale rest) e).0).0
options_go (None, Some n) rest e = refl
options_go (Some n, scale) rest e = refl

mss_same : (mss : Option ℕ) → mss_words mss ≡ report.mss_text mss
mss_same None = refl
mss_same (Some n) = refl

scale_same : (scale : Option ℕ) → scale_words scale ≡ report.scale_text scale
scale_same None = refl
scale_same (Some n) = refl

mss_in : (mss : Option ℕ) → FitsMss mss → IfSome mss (λ m. m < 2 ^ 16)
mss_in None h = tt
mss_in (Some n) h = omega (arith, h)

mss_out : (mss : Option ℕ) → IfSome mss (λ m. m < 2 ^ 16) → FitsMss mss
mss_out None h = tt
mss_out (Some n) h = omega (arith, h)

scale_in : (scale : Option ℕ) → FitsScale scale → IfSome scale (λ s. s < 2 ^ 8)
scale_in None h = tt
scale_in (Some n) h = omega (arith, h)

scale_out : (scale : Option ℕ) → IfSome scale (λ s. s < 2 ^ 8) → FitsScale scale
scale_out None h = tt
scale_out (Some n) h = omega (arith, h)

abbrev head_back : Head → HeadParts
head_back h = (h.flags, (h.seq.0, (h.ack.0, (h.window, (h.mss, h.scale)))))

abbrev parts_text : HeadParts → List ℕ
parts_text a = report.flags_text a.0 ++ ((codes " seq " ++ decimal a.1.0) ++ ((codes " ack " ++ decimal a.1.1.0)
    ++ ((codes " win " ++ decimal a.1.1.1.0) ++ (mss_words a.1.1.1.1.0 ++ scale_words a.1.1.1.1.1))))

head_grouped : (f s a w m c : List ℕ)
    → f ++ ((codes " seq " ++ s) ++ ((codes " ack " ++ a) ++ ((codes " win " ++ w) ++ (m ++ c))))
    ≡ f ++ codes " seq " ++ s ++ codes " ack " ++ a ++ codes " win " ++ w ++ m ++ c
head_grouped f s a w m c = simp append_assoc refl

head_same : (a : HeadParts) → parts_text a ≡ report.head_text (head_of a)
head_same a =
    ap (λ (m : List ℕ). report.flags_text a.0 ++ ((codes " seq " ++ decimal a.1.0) ++
    ((codes " ack " ++ decimal a.1.1.0)
    ++ ((codes " win " ++ decimal a.1.1.1.0) ++ (m ++ scale_words a.1.1.1.1.1))))) (mss_same a.1.1.1.1.0)
    ∙ (ap (λ (c : List ℕ). report.flags_text a.0 ++ ((codes " seq " ++ decimal a.1.0) ++
    ((codes " ack " ++ decimal a.1.1.0)
    ++ ((codes " win " ++ decimal a.1.1.1.0) ++ (report.mss_text a.1.1.1.1.0 ++ c))))) (scale_same a.1.1.1.1.1)
    ∙ head_grouped (report.flags_text a.0) (decimal a.1.0) (decimal a.1.1.0) (decimal a.1.1.1.0)
    (report.mss_text a.1.1.1.1.0) (report.scale_text a.1.1.1.1.1))

-- what is read where a text goes on in one way is read where it goes on in a narrower way
weaker_exact : {A : Type 0} {text : A → List ℕ} {Fits : A → Type 0} {ends narrow : List ℕ → Bool} {reader : Reader A}
    → ((rest : List ℕ) → narrow rest ≡ true → ends rest ≡ true) → Exact text Fits ends reader
    → Exact text Fits narrow reader
weaker_exact weaker x = record {
  spells = x.spells;
  again = λ a rest fits e. x.again a rest fits (weaker rest e);
}

scale_ends : (rest : List ℕ) → no_options rest ≡ true → no_scale rest ≡ true
scale_ends rest e = (and_parts (no_mss rest) (no_scale rest) e).1

pub head_exact : Exact report.head_text IsHead no_options head
unfolding head
head_exact =
    made_exact head_of head_back report.head_text IsHead
    (both_exact (λ b rest fits e. refl) flags_exact
    (both_exact (λ b rest fits e. refl) (after_exact (codes " seq ") u32_exact)
    (both_exact (λ b rest fits e. refl) (after_exact (codes " ack ") u32_exact)
    (both_exact (λ b rest fits e. options_go b rest e) (after_exact (codes " win ") u16_exact)
    (both_exact (λ b rest fits e. scale_goes b rest e) (maybe_exact (codes " mss ") u16_exact)
    (weaker_exact scale_ends (maybe_exact (codes " ws ") u8_exact)))))))
    (λ a fits. (
      head_same a,
      record {
        flags = fits.0;
        seq = omega (arith, fits.1.0);
        ack = omega (arith, fits.1.1.0);
        window = omega (arith, fits.1.1.1.0);
        mss = mss_in a.1.1.1.1.0 fits.1.1.1.1.0;
        scale = scale_in a.1.1.1.1.1 fits.1.1.1.1.1;
      },
    ))
    (λ h fits. (
      refl,
      sym (head_same (head_back h)),
      (
        fits.flags,
        (
          omega (arith, fits.seq),
          (
            omega (arith, fits.ack),
            (
              omega (arith, fits.window),
              (mss_out h.mss fits.mss, scale_out h.scale fits.scale),
            ),
          ),
        ),
      ),
    ))

-- ----- a payload
abbrev no_data : List ℕ → Bool
no_data rest = stops is_hex rest && fails (behind (codes " data ") rest)

abbrev payload_back : List ℕ → Option (List ℕ)
payload_back [] = None
payload_back (b ∷ bs) = Some (b ∷ bs)

payload_keeps : (o : Option (List ℕ)) → MaybeFits SomeBytes o
    → (maybe_text (codes " data ") report.hex_bytes o ≡ report.data_text (payload_of o)) × AreBytes (payload_of o)
payload_keeps None h = (refl, tt)
payload_keeps (Some []) h = absurd (cc (h.some))
payload_keeps (Some (b ∷ bs)) h = (refl, h.small)

payload_turns : (bytes : List ℕ) → AreBytes bytes → (payload_of (payload_back bytes) ≡ bytes)
    × (report.data_text bytes ≡ maybe_text (codes " data ") report.hex_bytes (payload_back bytes))
    × MaybeFits SomeBytes (payload_back bytes)
payload_turns [] h = (refl, refl, tt)
payload_turns (b ∷ bs) h = (refl, refl, record { some = refl; small = h })

payload_exact : Exact report.data_text AreBytes no_data payload
unfolding payload
payload_exact =
    made_exact payload_of payload_back report.data_text AreBytes (maybe_exact (codes " data ") some_hex_exact)
    payload_keeps payload_turns

-- ----- a segment
no_options_before : (bytes rest : List ℕ) → at_end rest ≡ true → no_options (report.data_text bytes ++ rest) ≡ true
unfolding behind
no_options_before [] rest e = by_end (λ (r : List ℕ). no_options r ≡ true) rest e refl (λ cs. refl)
no_options_before (b ∷ bs) rest e = refl

pub at_end_exact : {A : Type 0} {text : A → List ℕ} {Fits : A → Type 0} {ends : List ℕ → Bool} {reader : Reader A}
    → ((rest : List ℕ) → at_end rest ≡ true → ends rest ≡ true) → Exact text Fits ends reader
    → Exact text Fits at_end reader
at_end_exact weaker x = weaker_exact weaker x

no_data_there : (rest : List ℕ) → at_end rest ≡ true → no_data rest ≡ true
unfolding behind
no_data_there rest e = by_end (λ (r : List ℕ). no_data r ≡ true) rest e refl (λ cs. refl)

pub seg_exact : Exact report.seg_text IsSeg at_end seg
unfolding seg
seg_exact =
    made_exact seg_of (λ (s : Seg). (s.head, s.bytes)) report.seg_text IsSeg
    (both_exact (λ bytes rest fits e. no_options_before bytes rest e) head_exact
    (at_end_exact no_data_there payload_exact))
    (λ a fits. (refl, record { head = fits.0; bytes = fits.1 }))
    (λ s fits. (refl, refl, (fits.head, fits.bytes)))

-- a segment without its payload, at an end
no_options_there : (rest : List ℕ) → at_end rest ≡ true → no_options rest ≡ true
unfolding behind
no_options_there rest e = by_end (λ (r : List ℕ). no_options r ≡ true) rest e refl (λ cs. refl)

pub head_at_end : Exact report.head_text IsHead at_end head
head_at_end = at_end_exact no_options_there head_exact
