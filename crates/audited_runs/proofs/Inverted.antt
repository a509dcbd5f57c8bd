-- A packet with a byte inverted: it is refused, or says the addresses that it said.
use Rattle.std.proofs.Common.{◌≡◌, ℕ, ◌+◌, ◌-◌, ◌*◌, ◌/◌, ◌%◌, ◌<◌, ◌^◌, ◌==◌, ◌||◌, not, Bool}
use Rattle.std.proofs.Common.{true, false}
use Rattle.std.proofs.Common.{cond, eqb, List, ◌++◌, length, Option, Some, None, refl, sym, subst, ap, ◌∙◌}
use Rattle.std.proofs.Common.{arith}
use Rattle.std.proofs.Common.{slice_set, slice_index, nat_lt}
use Rattle.std.proofs.lemmas.Bool.Decides.{nat_tests}
use Rattle.segment_fields.specs.Bytes.{byte, half, word}
use Rattle.segment_fields.specs.Canon.{ip_header, canon, tcp_len, option_bytes}
use Rattle.segment_fields.specs.Fields.{Fields}
use Rattle.segment_fields.proofs.RoundTrip.{refusal-canon, fields_in-canon}
use Rattle.tas_model.proofs.Tests.{on_cond}
use Rattle.link_script.specs.DueFrames.{inverted}
use Rattle.std.proofs.Common.{eq-eqb, true≢false}
use Rattle.std.proofs.lemmas.Bool.{eqb-true}
use Rattle.std.proofs.lemmas.List.{get_or-set_other}
use Rattle.segment_fields.specs.Text.{refusal, is_wrong, ip_sum, ip_len, total_len}
use Rattle.segment_fields.specs.declared.segment.Refused.{Refused}

past : (b : Bool) (r : Refused) (o : Option Refused) → cond b (Some r) o ≡ None → (b ≡ false) × (o ≡ None)
past true r o e = absurd (cc (e))
past false r o e = (refl, e)

-- what is not refused has a right header
right_sum : (b : List ℕ) → refusal true b ≡ None → is_wrong (ip_sum b) ≡ false
unfolding refusal
right_sum b e =
    let a1 = past (nat_lt (length b) 20) _ _ e in
    let a2 = past (not (byte b 0 / 16 == 4)) _ _ a1.1 in
    let a3 = past (nat_lt (ip_len b) 20 || nat_lt (length b) (ip_len b)) _ _ a2.1 in
    let a4 = past (nat_lt (total_len b) (ip_len b) || nat_lt (length b) (total_len b)) _ _ a3.1 in
    let a5 = past (not (half b 6 % 16384 == 0)) _ _ a4.1 in
    let a6 = past (not (byte b 9 == 6)) _ _ a5.1 in
    let a7 = past (is_wrong (ip_sum b)) _ _ a6.1 in a7.0

right_version : (b : List ℕ) → refusal true b ≡ None → (byte b 0 / 16 == 4) ≡ true
unfolding refusal
right_version b e =
    let a1 = past (nat_lt (length b) 20) _ _ e in
    let a2 = past (not (byte b 0 / 16 == 4)) _ _ a1.1 in
    not_false (byte b 0 / 16 == 4) a2.0
  where
    not_false : (t : Bool) → not t ≡ false → t ≡ true
    not_false true h = refl
    not_false false h = absurd (cc (h))

abbrev invert : List ℕ → (place : ℕ) → List ℕ
invert b p = slice_set b p (255 - slice_index b p)

-- a byte of an address
wrong_12 : (total c src dst : ℕ) (rest : List ℕ) → src < 2 ^ 32
    → is_wrong (ip_sum (ip_header total c src dst ++ rest)) ≡ false
    → is_wrong (ip_sum (invert (ip_header total c src dst ++ rest) 12)) ≡ true
unfolding ip_header
wrong_12 total c src dst rest low right = grind (arith, nat_tests, right, low)

wrong_13 : (total c src dst : ℕ) (rest : List ℕ)
    → is_wrong (ip_sum (ip_header total c src dst ++ rest)) ≡ false
    → is_wrong (ip_sum (invert (ip_header total c src dst ++ rest) 13)) ≡ true
unfolding ip_header
wrong_13 total c src dst rest right = grind (arith, nat_tests, right)

wrong_14 : (total c src dst : ℕ) (rest : List ℕ)
    → is_wrong (ip_sum (ip_header total c src dst ++ rest)) ≡ false
    → is_wrong (ip_sum (invert (ip_header total c src dst ++ rest) 14)) ≡ true
unfolding ip_header
wrong_14 total c src dst rest right = grind (arith, nat_tests, right)

wrong_15 : (total c src dst : ℕ) (rest : List ℕ)
    → is_wrong (ip_sum (ip_header total c src dst ++ rest)) ≡ false
    → is_wrong (ip_sum (invert (ip_header total c src dst ++ rest) 15)) ≡ true
unfolding ip_header
wrong_15 total c src dst rest right = grind (arith, nat_tests, right)

wrong_16 : (total c src dst : ℕ) (rest : List ℕ) → dst < 2 ^ 32
    → is_wrong (ip_sum (ip_header total c src dst ++ rest)) ≡ false
    → is_wrong (ip_sum (invert (ip_header total c src dst ++ rest) 16)) ≡ true
unfolding ip_header
wrong_16 total c src dst rest low right = grind (arith, nat_tests, right, low)

wrong_17 : (total c src dst : ℕ) (rest : List ℕ)
    → is_wrong (ip_sum (ip_header total c src dst ++ rest)) ≡ false
    → is_wrong (ip_sum (invert (ip_header total c src dst ++ rest) 17)) ≡ true
unfolding ip_header
wrong_17 total c src dst rest right = grind (arith, nat_tests, right)

wrong_18 : (total c src dst : ℕ) (rest : List ℕ)
    → is_wrong (ip_sum (ip_header total c src dst ++ rest)) ≡ false
    → is_wrong (ip_sum (invert (ip_header total c src dst ++ rest) 18)) ≡ true
unfolding ip_header
wrong_18 total c src dst rest right = grind (arith, nat_tests, right)

wrong_19 : (total c src dst : ℕ) (rest : List ℕ)
    → is_wrong (ip_sum (ip_header total c src dst ++ rest)) ≡ false
    → is_wrong (ip_sum (invert (ip_header total c src dst ++ rest) 19)) ≡ true
unfolding ip_header
wrong_19 total c src dst rest right = grind (arith, nat_tests, right)

-- ----- all other bytes
same_byte : (b : List ℕ) (p i : ℕ) → (i ≡ p → ⊥) → byte (invert b p) i ≡ byte b i
same_byte b p i other = get_or-set_other b p i (255 - slice_index b p) 0 other

same_word : (b : List ℕ) (p i : ℕ) → (i ≡ p → ⊥) → (i + 1 ≡ p → ⊥) → (i + 2 ≡ p → ⊥) → (i + 2 + 1 ≡ p → ⊥)
    → word (invert b p) i ≡ word b i
same_word b p i o0 o1 o2 o3 =
    let e0 : byte (invert b p) i ≡ byte b i = same_byte b p i o0 in
    let e1 : byte (invert b p) (i + 1) ≡ byte b (i + 1) = same_byte b p (i + 1) o1 in
    let e2 : byte (invert b p) (i + 2) ≡ byte b (i + 2) = same_byte b p (i + 2) o2 in
    let e3 : byte (invert b p) (i + 2 + 1) ≡ byte b (i + 2 + 1) = same_byte b p (i + 2 + 1) o3 in
    words_by _ _ _ _ _ _ _ _ e0 e1 e2 e3
  where
    words_by : (a b c d e f g h : ℕ) → a ≡ e → b ≡ f → c ≡ g → d ≡ h
        → 65536 * (256 * a + b) + (256 * c + d) ≡ 65536 * (256 * e + f) + (256 * g + h)
    words_by a b c d e f g h x y z w = omega (arith, x, y, z, w)

where_is : (P : Type 0) (p k : ℕ) → (p ≡ k → P) → ((k ≡ p → ⊥) → P) → P
where_is P p k same other = by_test (eqb p k) refl where
  by_test : (b : Bool) → eqb p k ≡ b → P
  by_test true e = same (eqb-true p k e)
  by_test false e = other (λ h. true≢false (sym (eq-eqb p k (sym h)) ∙ e))

-- ----- what such a packet says
-- It is refused, or says these addresses.
abbrev pub Says : (src dst : ℕ) → (packet : List ℕ) → Type 0
Says src dst b = refusal true b ≡ None → (word b 12 ≡ src) × (word b 16 ≡ dst)

not_so : (P : Type 0) (b c : List ℕ) (k p : ℕ) → p ≡ k → is_wrong (ip_sum (invert b k)) ≡ true
    → refusal true (invert b p) ≡ None → P
not_so P b c k p same wrong right =
    let here : is_wrong (ip_sum (invert b k)) ≡ false =
    subst (λ (q : ℕ). is_wrong (ip_sum (invert b q)) ≡ false) same (right_sum (invert b p) right) in
    absurd (true≢false (sym wrong ∙ here))

inverted_says : (total c src dst p : ℕ) (rest : List ℕ) → src < 2 ^ 32 → dst < 2 ^ 32
    → is_wrong (ip_sum (ip_header total c src dst ++ rest)) ≡ false
    → word (ip_header total c src dst ++ rest) 12 ≡ src → word (ip_header total c src dst ++ rest) 16 ≡ dst
    → Says src dst (invert (ip_header total c src dst ++ rest) p)
inverted_says total c src dst p rest low near right is_src is_dst fine =
    where_is _ p 12 (λ e. not_so _ b b 12 p e (wrong_12 total c src dst rest low right) fine) (λ o12.
    where_is _ p 13 (λ e. not_so _ b b 13 p e (wrong_13 total c src dst rest right) fine) (λ o13.
    where_is _ p 14 (λ e. not_so _ b b 14 p e (wrong_14 total c src dst rest right) fine) (λ o14.
    where_is _ p 15 (λ e. not_so _ b b 15 p e (wrong_15 total c src dst rest right) fine) (λ o15.
    where_is _ p 16 (λ e. not_so _ b b 16 p e (wrong_16 total c src dst rest near right) fine) (λ o16.
    where_is _ p 17 (λ e. not_so _ b b 17 p e (wrong_17 total c src dst rest right) fine) (λ o17.
    where_is _ p 18 (λ e. not_so _ b b 18 p e (wrong_18 total c src dst rest right) fine) (λ o18.
    where_is _ p 19 (λ e. not_so _ b b 19 p e (wrong_19 total c src dst rest right) fine) (λ o19.
    (same_word b p 12 o12 o13 o14 o15 ∙ is_src, same_word b p 16 o16 o17 o18 o19 ∙ is_dst)))))))))
  where
    b : List ℕ
    b = ip_header total c src dst ++ rest

-- ----- a packet that was sent
pub canon_says : (f : Fields) → (word (canon f) 12 ≡ f.src) × (word (canon f) 16 ≡ f.dst)
canon_says f = (ap (λ (g : Fields). g.src) (fields_in-canon f), ap (λ (g : Fields). g.dst) (fields_in-canon f))

pub inverted_carried : (f : Fields) (place : ℕ) → f.src < 2 ^ 32 → f.dst < 2 ^ 32
    → Says f.src f.dst (inverted (canon f) place)
inverted_carried f place low near =
    on_cond (Says f.src f.dst) (nat_lt place (length (canon f))) (invert (canon f) place) (canon f)
    (λ t. inverted_says (20 + tcp_len f (option_bytes f)) _ f.src f.dst place _ low near
    (right_sum (canon f) (refusal-canon true f)) (canon_says f).0 (canon_says f).1) (λ t right. canon_says f)
