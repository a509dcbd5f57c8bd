-- Frames: what is read is what is written.
use Rattle.std.proofs.Common.{◌≡◌, ◌≢◌, ℕ, zero, suc, ◌-◌, ◌^◌, ◌≤◌, ◌<◌, Bool, true, false, not, ◌&&◌, ◌||◌, cond}
use Rattle.std.proofs.Common.{eqb}
use Rattle.std.proofs.Common.{List, [], ◌∷◌, ◌++◌, length, get_or, Option, Some, None, refl, sym, ap, subst, ◌∙◌}
use Rattle.std.proofs.Common.{arith}
use Rattle.std.proofs.Common.{inl, inr, ◌⊎◌, append_assoc}
use Rattle.std.specs.Prelude.{codes, decimal, slice_get, position, bytes_eq}
use Rattle.std.specs.List.{list_all, take_while}
use Rattle.std.proofs.lemmas.Bool.{eqb-true, eqb-false, and_parts, cases_lt}
use Rattle.std.proofs.lemmas.Bool.Decides.{nat_tests}
use Rattle.std.proofs.lemmas.Fmt.{decimal_nonempty}
use Rattle.std.proofs.lemmas.List.Quantifiers.{position-Some}
use Rattle.std.proofs.lemmas.Option.{cond_some, some_pair_parts, slice_get-get_or, slice_get_past, same_Some}
use Rattle.std.proofs.lemmas.Slice.Eq.{bytes_eq-Decides}
use Rattle.scenario_text.specs.Words.{is_digit, is_letter, number_in}
use Rattle.tas_model.specs.declared.entry.FrameId.{FrameId}
use Rattle.tas_runs.specs.Report as report
use Rattle.report_lines.specs.Fronts.{Reader, with, or, behind, word, made, after, both, one_of, past, number, u64}
use Rattle.report_lines.specs.Origins.{is_named, host_of, host, flow, nothing, copy, sent_of, sent_frame, record_of}
use Rattle.report_lines.specs.Origins.{record_frame, frame}
use Rattle.report_lines.specs.Shown.{AreNames, IsSent, IsFrame}
use Rattle.report_lines.proofs.Texts.{with_some, with_again, with_none, stops, run_again, past_again, run_whole}
use Rattle.report_lines.proofs.Texts.{behind_front, behind_again}
use Rattle.report_lines.proofs.Exactness.{Spells, Exact, word_spells, word_again, made_spells, made_again}
use Rattle.report_lines.proofs.Exactness.{made_exact}
use Rattle.report_lines.proofs.Exactness.{after_spells, after_again, after_exact, both_exact, one_of_spells}
use Rattle.report_lines.proofs.Exactness.{one_of_again}
use Rattle.report_lines.proofs.Exactness.{fails}
use Rattle.report_lines.proofs.Numbers.{number_exact, all_digits}
use Rattle.report_lines.proofs.FlagLetters.{is_spaced}

-- ----- hosts
-- a letter or a digit passes: so does a whole name
pub name_passes : (test : ℕ → Bool) → ((c : ℕ) → (is_letter c || is_digit c) ≡ true → test c ≡ true)
    → (name : List ℕ) → list_all (λ (c : ℕ). is_letter c || is_digit c) name ≡ true → list_all test name ≡ true
name_passes test each [] e = refl
name_passes test each (c ∷ cs) e =
    let parts = and_parts (is_letter c || is_digit c) (list_all (λ (x : ℕ). is_letter x || is_digit x) cs) e in
    rw (each c parts.0, name_passes test each cs parts.1) refl

no_colon : (c : ℕ) → (is_letter c || is_digit c) ≡ true → is_named c ≡ true
no_colon c e = grind (arith, nat_tests, e)

abbrev shown_name : Option (List ℕ) → List ℕ
shown_name o = elim o [ None ↦ codes "-" | Some name ↦ name ]

host_is : (names : List (List ℕ)) (name : List ℕ) (h : ℕ) → host_of names name ≡ Some h
    → (name ≡ report.name_at names h) × (h ≤ length names)
unfolding or
host_is names name h e = by_place (position (λ (n : List ℕ). bytes_eq n name) names) refl e where
  by_place : (o : Option ℕ) → position (λ (n : List ℕ). bytes_eq n name) names ≡ o
      → or o (cond (bytes_eq name (codes "-")) (Some (length names)) None) ≡ Some h
      → (name ≡ report.name_at names h) × (h ≤ length names)
  by_place (Some i) there e =
      let at = position-Some (λ (n : List ℕ). bytes_eq n name) names i [] there in
      let is : get_or names i [] ≡ name = (bytes_eq-Decides (get_or names i []) name).0 at.1 in
      let same : i ≡ h = same_Some i h e in
      let got : slice_get names i ≡ Some (get_or names i []) = slice_get-get_or names i [] at.0 in (
        sym is ∙ (ap shown_name (sym got) ∙ ap (λ (k : ℕ). report.name_at names k) same),
        omega (arith, at.0, same),
      )
  by_place None there e =
      let got = cond_some (bytes_eq name (codes "-")) (length names) h e in
      let is : name ≡ codes "-" = (bytes_eq-Decides name (codes "-")).0 got.0 in
      let past_it : slice_get names (length names) ≡ None = slice_get_past names (length names) (omega arith) in (
        is ∙ (ap shown_name (sym past_it) ∙ ap (λ (k : ℕ). report.name_at names k) got.1),
        omega (arith, got.1),
      )

host_found : (names : List (List ℕ)) (t : List ℕ) (h : ℕ) (rest : List ℕ) → host names t ≡ Some (h, rest)
    → (t ≡ report.name_at names h ++ rest) × (h ≤ length names)
unfolding host
host_found names t h rest e =
    let got = with_some (λ (k : ℕ). Some (k, past is_named t)) (host_of names (take_while is_named t)) (h, rest) e
    in
    let parts : (got.0 ≡ h) × (past is_named t ≡ rest) = some_pair_parts got.0 h (past is_named t) rest got.2 in
    let is = host_is names (take_while is_named t) got.0 got.1 in (
      run_whole is_named t ∙ (ap (λ (w : List ℕ). w ++ past is_named t) is.0
          ∙ (ap (λ (k : ℕ). report.name_at names k ++ past is_named t) parts.0
          ∙ ap (λ (r : List ℕ). report.name_at names h ++ r) parts.1)),
      omega (arith, is.1, parts.0),
    )

no_dash : (names : List (List ℕ)) → AreNames names
    → position (λ (n : List ℕ). bytes_eq n (codes "-")) names ≡ None
no_dash names ok = by_place (position (λ (n : List ℕ). bytes_eq n (codes "-")) names) refl where
  by_place : (o : Option ℕ) → position (λ (n : List ℕ). bytes_eq n (codes "-")) names ≡ o → o ≡ None
  by_place None there = refl
  by_place (Some i) there =
      let at = position-Some (λ (n : List ℕ). bytes_eq n (codes "-")) names i [] there in
      let is : get_or names i [] ≡ codes "-" = (bytes_eq-Decides (get_or names i []) (codes "-")).0 at.1 in
      let plain = ok.plain i (get_or names i []) (slice_get-get_or names i [] at.0) in
      let wrong : list_all (λ (c : ℕ). is_letter c || is_digit c) (codes "-") ≡ true =
      ap (list_all (λ (c : ℕ). is_letter c || is_digit c)) (sym is) ∙ plain in
      absurd (cc (wrong))

-- a name at the front, by the number that it leads to
host_by : (names : List (List ℕ)) (name rest : List ℕ) (h : ℕ) → list_all is_named name ≡ true
    → stops is_named rest ≡ true → host_of names name ≡ Some h → host names (name ++ rest) ≡ Some (h, rest)
unfolding host
host_by names name rest h all s e =
    let run : take_while is_named (name ++ rest) ≡ name = run_again is_named name rest all s in
    let behind_it : past is_named (name ++ rest) ≡ rest = past_again is_named name rest all s in
    with_again (λ (k : ℕ). Some (k, past is_named (name ++ rest)))
    (host_of names (take_while is_named (name ++ rest))) h
    (Some (h, rest)) (ap (host_of names) run ∙ e) (ap (λ (r : List ℕ). Some (h, r)) behind_it)

host_again : (names : List (List ℕ)) → AreNames names → (h : ℕ) (rest : List ℕ) → h ≤ length names
    → stops is_named rest ≡ true → host names (report.name_at names h ++ rest) ≡ Some (h, rest)
unfolding or
host_again names ok h rest fits s = by_name (slice_get names h) refl where
  own_place : (name : List ℕ) → position (λ (n : List ℕ). bytes_eq n name) names ≡ Some h
      → host_of names name ≡ Some h
  own_place name there = ap (λ (o : Option ℕ). or o (cond (bytes_eq name (codes "-")) (Some (length names)) None))
      there

  past_place : length names ≤ h → host_of names (codes "-") ≡ Some h
  past_place le =
      let same : length names ≡ h = omega (arith, le, fits) in
      ap (λ (o : Option ℕ). or o (Some (length names))) (no_dash names ok) ∙ ap (λ (k : ℕ). Some k) same

  by_name : (o : Option (List ℕ)) → slice_get names h ≡ o → host names (report.name_at names h ++ rest) ≡ Some
      (h, rest)
  by_name (Some name) there =
      ap (λ (o : Option (List ℕ)). host names (shown_name o ++ rest)) there
      ∙ host_by names name rest h (name_passes is_named no_colon name (ok.plain h name there)) s
      (own_place name (ok.own h name there))
  by_name None there =
      ap (λ (o : Option (List ℕ)). host names (shown_name o ++ rest)) there
      ∙ host_by names (codes "-") rest h refl s (past_place (by_bound (cases_lt h (length names)))) where
        by_bound : (h < length names) ⊎ (length names ≤ h) → length names ≤ h
        by_bound (inr le) = le
        by_bound (inl lt) = absurd (cc (there, slice_get-get_or names h [] lt))

host_exact : (names : List (List ℕ)) → AreNames names
    → Exact (report.name_at names) (λ (h : ℕ). h ≤ length names) (stops is_named) (host names)
host_exact names ok = record {
  spells = record { found = host_found names };
  again = host_again names ok;
}

-- ----- flows
flow_numbers : Exact decimal (λ (n : ℕ). n ≤ 4294967294) (stops is_digit) (number 4294967294)
flow_numbers = number_exact 4294967294 (omega arith)

abbrev AreFlows : ℕ → Type 0
AreFlows n = n < 2 ^ 32

numbered : (n : ℕ) → n ≤ 4294967294 → decimal n ≡ report.flow_text n
numbered n h =
    let other : eqb n (2 ^ 32 - 1) ≡ false = grind (arith, nat_tests, h) in
    ap (λ (b : Bool). cond b (codes "x") (decimal n)) (sym other)

flow_spells : Spells report.flow_text AreFlows flow
unfolding flow
flow_spells = one_of_spells report.flow_text AreFlows (number 4294967294 ∷ word (codes "x") (2 ^ 32 - 1) ∷ []) (
  record { found = found },
  (word_spells report.flow_text AreFlows (codes "x") (2 ^ 32 - 1) refl (omega arith), tt),
) where
  found : (t : List ℕ) (n : ℕ) (rest : List ℕ) → number 4294967294 t ≡ Some (n, rest)
      → (t ≡ report.flow_text n ++ rest) × AreFlows n
  found t n rest e =
      let is = flow_numbers.spells.found t n rest e in
      (is.0 ∙ ap (λ (w : List ℕ). w ++ rest) (numbered n is.1), omega (arith, is.1))

no_number : (rest : List ℕ) → number 4294967294 (codes "x" ++ rest) ≡ None
unfolding number with
no_number rest = refl

flow_again : (n : ℕ) (rest : List ℕ) → AreFlows n → stops is_digit rest ≡ true
    → flow (report.flow_text n ++ rest) ≡ Some (n, rest)
unfolding flow
flow_again n rest fits s = by_none (eqb n (2 ^ 32 - 1)) refl where
  flows : List (Reader ℕ)
  flows = number 4294967294 ∷ word (codes "x") (2 ^ 32 - 1) ∷ []

  by_none : (b : Bool) → eqb n (2 ^ 32 - 1) ≡ b → one_of flows (report.flow_text n ++ rest) ≡ Some (n, rest)
  by_none true e =
      let same : n ≡ 2 ^ 32 - 1 = eqb-true n (2 ^ 32 - 1) e in
      subst (λ (m : ℕ). one_of flows (report.flow_text m ++ rest) ≡ Some (m, rest)) (sym same)
      (one_of_again 1 flows (codes "x" ++ rest) (2 ^ 32 - 1, rest)
      (ap (λ (o : Option (ℕ × List ℕ)). fails o && true) (no_number rest))
      (word_again (codes "x") (2 ^ 32 - 1) rest))
  by_none false e =
      let other : n ≢ 2 ^ 32 - 1 = eqb-false n (2 ^ 32 - 1) e in
      let below : n ≤ 4294967294 = omega (arith, fits, other) in
      ap (λ (w : List ℕ). one_of flows (w ++ rest)) (sym (numbered n below))
      ∙ one_of_again 0 flows (decimal n ++ rest) (n, rest) refl (flow_numbers.again n rest below s)

flow_exact : Exact report.flow_text AreFlows (stops is_digit) flow
flow_exact = record { spells = flow_spells; again = flow_again }

-- ----- copies
abbrev IsCopy : ℕ → Type 0
IsCopy n = n ≤ 1

copy_spells : Spells report.copy_text IsCopy copy
unfolding copy
copy_spells = one_of_spells report.copy_text IsCopy (word (codes "+") 1 ∷ nothing ∷ []) (
  word_spells report.copy_text IsCopy (codes "+") 1 refl (omega arith),
  (record { found = found }, tt),
) where
  found : (t : List ℕ) (n : ℕ) (rest : List ℕ) → nothing t ≡ Some (n, rest)
      → (t ≡ report.copy_text n ++ rest) × IsCopy n
  found t n rest e =
      let parts : (0 ≡ n) × (t ≡ rest) = some_pair_parts 0 n t rest e in
      subst (λ (m : ℕ). (t ≡ report.copy_text m ++ rest) × IsCopy m) parts.0 (parts.1, omega arith)

copy_again : (n : ℕ) (rest : List ℕ) → IsCopy n → is_spaced rest ≡ true
    → copy (report.copy_text n ++ rest) ≡ Some (n, rest)
unfolding copy or with behind
copy_again zero [] fits s = absurd (cc (s))
copy_again zero (c ∷ cs) fits s =
    let other : eqb c 43 ≡ false = grind (arith, nat_tests, eqb-true c 32 s) in
    rw (behind, other) refl
copy_again (suc zero) rest fits s = refl
copy_again (suc (suc n)) rest fits s = absurd (omega (arith, fits))

copy_exact : Exact report.copy_text IsCopy is_spaced copy
copy_exact = record { spells = copy_spells; again = copy_again }

-- ----- frames that hosts sent
abbrev sent_text : (names : List (List ℕ)) → FrameId → List ℕ
sent_text names f = report.name_at names f.host ++ ((codes ":" ++ report.flow_text f.flow)
    ++ ((codes "." ++ decimal f.number) ++ report.copy_text f.copy))

pub u64_exact : Exact decimal (λ (n : ℕ). n ≤ 18446744073709551615) (stops is_digit) u64
u64_exact = number_exact 18446744073709551615 (omega arith)

copy_stops : (n : ℕ) (rest : List ℕ) → IsCopy n → is_spaced rest ≡ true
    → stops is_digit (report.copy_text n ++ rest) ≡ true
copy_stops zero [] fits s = refl
copy_stops zero (c ∷ cs) fits s = ap (λ (x : ℕ). not (is_digit x)) (eqb-true c 32 s)
copy_stops (suc zero) rest fits s = refl
copy_stops (suc (suc n)) rest fits s = absurd (omega (arith, fits))

sent_exact : (names : List (List ℕ)) → AreNames names
    → Exact (sent_text names) (IsSent names) is_spaced (sent_frame names)
unfolding sent_frame
sent_exact names ok =
    made_exact sent_of (λ (f : FrameId). (f.host, (f.flow, (f.number, f.copy)))) (sent_text names) (IsSent names)
    (both_exact (λ b rest fits e. refl) (host_exact names ok)
    (both_exact (λ b rest fits e. refl) (after_exact (codes ":") flow_exact)
    (both_exact (λ n rest fits e. copy_stops n rest fits e) (after_exact (codes ".") u64_exact) copy_exact)))
    (λ a fits. (
      refl,
      record {
        host = fits.0;
        flow = fits.1.0;
        number = omega (arith, fits.1.1.0);
        copy = fits.1.1.1;
      },
    ))
    (λ f fits. (refl, refl, (fits.host, (fits.flow, (omega (arith, fits.number), fits.copy)))))

-- ----- records of captures
abbrev record_text : ℕ → List ℕ
record_text n = codes "r:" ++ decimal n

digit_first : (ds rest r : List ℕ) → 0 < length ds → list_all is_digit ds ≡ true → ds ++ rest ≡ codes "x" ++ r → ⊥
digit_first [] rest r some all e = omega (arith, some)
digit_first (c ∷ cs) rest r some all e =
    let parts = and_parts (is_digit c) (list_all is_digit cs) all in
    let head : c ≡ 120 = cc (e) in
    let wrong : is_digit 120 ≡ true = ap is_digit (sym head) ∙ parts.0 in
    absurd (cc (wrong))

-- behind a number that is read as a flow stands what stands behind the number
flow_rest : (n m : ℕ) (rest r : List ℕ) → n < 2 ^ 64 → stops is_digit rest ≡ true
    → flow (decimal n ++ rest) ≡ Some (m, r) → r ≡ rest
unfolding flow number or
flow_rest n m rest r small s e = by_number (number 4294967294 (decimal n ++ rest)) refl e where
  from_number : (k : ℕ) (q : List ℕ) → number 4294967294 (decimal n ++ rest) ≡ Some (k, q) → q ≡ rest
  from_number k q e =
      let got = with_some (λ (j : ℕ). Some (j, past is_digit (decimal n ++ rest)))
      (number_in 0 4294967294 (take_while is_digit (decimal n ++ rest))) (k, q) e in
      let parts = some_pair_parts got.0 k (past is_digit (decimal n ++ rest)) q got.2 in
      sym parts.1 ∙ past_again is_digit (decimal n) rest (all_digits n small) s

  from_word : word (codes "x") (2 ^ 32 - 1) (decimal n ++ rest) ≡ Some (m, r) → ⊥
  from_word e =
      let got = with_some (λ (q : List ℕ). Some (2 ^ 32 - 1, q)) (behind (codes "x") (decimal n ++ rest)) (m, r) e
      in
      digit_first (decimal n) rest got.0 (decimal_nonempty n small) (all_digits n small)
      (behind_front (codes "x") (decimal n ++ rest) got.0 got.1)

  by_number : (o : Option (ℕ × List ℕ)) → number 4294967294 (decimal n ++ rest) ≡ o
      → or o (one_of (word (codes "x") (2 ^ 32 - 1) ∷ []) (decimal n ++ rest)) ≡ Some (m, r) → r ≡ rest
  by_number (Some x) there e = from_number m r (there ∙ e)
  by_number None there e = absurd (from_word e)

no_dot : (rest : List ℕ) → is_spaced rest ≡ true → behind (codes ".") rest ≡ None
unfolding behind
no_dot [] s = refl
no_dot (c ∷ cs) s =
    let other : eqb c 46 ≡ false = grind (arith, nat_tests, eqb-true c 32 s) in
    rw (behind, other) refl

spaced_stops : (rest : List ℕ) → is_spaced rest ≡ true → stops is_digit rest ≡ true
spaced_stops [] s = refl
spaced_stops (c ∷ cs) s = ap (λ (x : ℕ). not (is_digit x)) (eqb-true c 32 s)

-- what comes of nothing
pub made_none : {A B : Type 0} (f : A → B) (reader : Reader A) (t : List ℕ) → reader t ≡ None
    → made f reader t ≡ None
made_none {A} f reader t e = with_none (λ (a : A × List ℕ). Some (f a.0, a.1)) (reader t) e

pub first_none : {A B : Type 0} (first : Reader A) (second : Reader B) (t : List ℕ) → first t ≡ None
    → both first second t ≡ None
first_none {A} {B} first second t e =
    with_none (λ (a : A × List ℕ). with (λ (b : B × List ℕ). Some ((a.0, b.0), b.1)) (second a.1)) (first t) e

pub second_none : {A B : Type 0} (first : Reader A) (second : Reader B) (t : List ℕ) (a : A) (r : List ℕ)
    → first t ≡ Some (a, r) → second r ≡ None → both first second t ≡ None
second_none {A} {B} first second t a r e h =
    with_again (λ (x : A × List ℕ). with (λ (b : B × List ℕ). Some ((x.0, b.0), b.1)) (second x.1)) (first t) (a, r)
    None e (with_none (λ (b : B × List ℕ). Some ((a, b.0), b.1)) (second r) h)

after_behind : {A : Type 0} (front : List ℕ) (reader : Reader A) (t : List ℕ)
    → after front reader (front ++ t) ≡ reader t
after_behind front reader t = with_again reader (behind front (front ++ t)) t (reader t) (behind_again front t) refl

pub after_none : {A : Type 0} (front : List ℕ) (reader : Reader A) (t : List ℕ) → behind front t ≡ None
    → after front reader t ≡ None
after_none front reader t e = with_none reader (behind front t) e

-- what stands behind the name of a record's frame
record_behind : (names : List (List ℕ)) (n h : ℕ) (rest r : List ℕ)
    → host names (record_text n ++ rest) ≡ Some (h, r)
    → codes ":" ++ (decimal n ++ rest) ≡ r
unfolding host
record_behind names n h rest r e =
    let t : List ℕ = record_text n ++ rest in
    let got = with_some (λ (k : ℕ). Some (k, past is_named (record_text n ++ rest)))
    (host_of names (take_while is_named (record_text n ++ rest))) (h, r) e in
    (some_pair_parts got.0 h (past is_named (record_text n ++ rest)) r got.2).1

place : Reader (ℕ × (ℕ × ℕ))
place = both (after (codes ":") flow) (both (after (codes ".") u64) copy)

no_place : (n : ℕ) (rest : List ℕ) → n < 2 ^ 64 → is_spaced rest ≡ true
    → place (codes ":" ++ (decimal n ++ rest)) ≡ None
unfolding place
no_place n rest small s = by_flow (flow (decimal n ++ rest)) refl where
  by_flow : (o : Option (ℕ × List ℕ)) → flow (decimal n ++ rest) ≡ o
      → both (after (codes ":") flow) (both (after (codes ".") u64) copy) (codes ":" ++ (decimal n ++ rest)) ≡ None
  by_flow None there = first_none (after (codes ":") flow) (both (after (codes ".") u64) copy)
      (codes ":" ++ (decimal n ++ rest)) (after_behind (codes ":") flow (decimal n ++ rest) ∙ there)
  by_flow (Some x) there =
      let same : x.1 ≡ rest = flow_rest n x.0 rest x.1 small (spaced_stops rest s) there in
      second_none (after (codes ":") flow) (both (after (codes ".") u64) copy) (codes ":" ++ (decimal n ++ rest))
      x.0 x.1 (after_behind (codes ":") flow (decimal n ++ rest) ∙ there)
      (first_none (after (codes ".") u64) copy x.1
      (after_none (codes ".") u64 x.1 (ap (behind (codes ".")) same ∙ no_dot rest s)))

-- A record is no frame that a host sent, also where a host's name is `r`.
record_not_sent : (names : List (List ℕ)) (n : ℕ) (rest : List ℕ) → n < 2 ^ 64 → is_spaced rest ≡ true
    → sent_frame names (record_text n ++ rest) ≡ None
unfolding sent_frame place
record_not_sent names n rest small s = by_host (host names (record_text n ++ rest)) refl where
  by_host : (o : Option (ℕ × List ℕ)) → host names (record_text n ++ rest) ≡ o
      → made sent_of (both (host names) place) (record_text n ++ rest) ≡ None
  by_host None there = made_none sent_of (both (host names) place) (record_text n ++ rest)
      (first_none (host names) place (record_text n ++ rest) there)
  by_host (Some x) there = made_none sent_of (both (host names) place) (record_text n ++ rest)
      (second_none (host names) place (record_text n ++ rest) x.0 x.1 there
      (ap place (sym (record_behind names n x.0 rest x.1 there)) ∙ no_place n rest small s))

-- ----- frames
of_host : (names : List (List ℕ)) (f : FrameId) → AreNames names → IsSent names f
    → sent_text names f ≡ report.frame_text names f
of_host names f ok h =
    let few : length names ≤ 8 = ok.few in
    let other : eqb f.host (2 ^ 32 - 1) ≡ false = apart f.host (length names) h.host few in
    grouped (report.name_at names f.host) (report.flow_text f.flow) (decimal f.number) (report.copy_text f.copy)
    ∙ ap (λ (b : Bool). cond b (codes "r:" ++ decimal f.number) (report.name_at names f.host ++ codes ":"
    ++ report.flow_text f.flow ++ codes "." ++ decimal f.number ++ report.copy_text f.copy)) (sym other) where
      grouped : (h f n c : List ℕ) → h ++ ((codes ":" ++ f) ++ ((codes "." ++ n) ++ c))
          ≡ h ++ codes ":" ++ f ++ codes "." ++ n ++ c
      grouped h f n c = simp append_assoc refl

      apart : (h n : ℕ) → h ≤ n → n ≤ 8 → eqb h (2 ^ 32 - 1) ≡ false
      apart h n a b = grind (arith, nat_tests, a, b)

frame_spells : (names : List (List ℕ)) → AreNames names
    → Spells (report.frame_text names) (IsFrame names) (frame names)
unfolding frame record_frame
frame_spells names ok =
    one_of_spells (report.frame_text names) (IsFrame names) (sent_frame names ∷ record_frame ∷ []) (
      record { found = found },
      (
        made_spells record_of (report.frame_text names) (IsFrame names)
            (after_spells (codes "r:") u64_exact.spells)
            (λ n fits. (refl, inr (record { is = refl; number = omega (arith, fits) }))),
        tt,
      ),
    ) where
      found : (t : List ℕ) (f : FrameId) (rest : List ℕ) → sent_frame names t ≡ Some (f, rest)
          → (t ≡ report.frame_text names f ++ rest) × IsFrame names f
      found t f rest e =
          let is = (sent_exact names ok).spells.found t f rest e in
          (is.0 ∙ ap (λ (w : List ℕ). w ++ rest) (of_host names f ok is.1), inl is.1)

frame_again : (names : List (List ℕ)) → AreNames names → (f : FrameId) (rest : List ℕ) → IsFrame names f
    → is_spaced rest ≡ true → frame names (report.frame_text names f ++ rest) ≡ Some (f, rest)
unfolding frame record_frame
frame_again names ok f rest (inl h) s =
    ap (λ (w : List ℕ). frame names (w ++ rest)) (sym (of_host names f ok h))
    ∙ one_of_again 0 (sent_frame names ∷ record_frame ∷ []) (sent_text names f ++ rest) (f, rest) refl
    ((sent_exact names ok).again f rest h s)
frame_again names ok f rest (inr h) s =
    subst (λ (g : FrameId). frame names (report.frame_text names g ++ rest) ≡ Some (g, rest)) (sym h.is)
    (one_of_again 1 (sent_frame names ∷ record_frame ∷ []) (record_text f.number ++ rest) (record_of f.number, rest)
    (ap (λ (o : Option (FrameId × List ℕ)). fails o && true) (record_not_sent names f.number rest h.number s))
    (made_again record_of (after (codes "r:") u64) (record_text f.number ++ rest) f.number rest
    (after_again (codes "r:") u64 (decimal f.number) rest f.number
    (u64_exact.again f.number rest (omega (arith, h.number)) (spaced_stops rest s)))))

pub frame_exact : (names : List (List ℕ)) → AreNames names
    → Exact (report.frame_text names) (IsFrame names) is_spaced (frame names)
frame_exact names ok = record { spells = frame_spells names ok; again = frame_again names ok }
