-- What the one packet of a segment's fields says.
use Rattle.std.proofs.Common.{◌≡◌, ℕ, ◌+◌, ◌-◌, ◌/◌, ◌%◌, ◌≤◌, ◌==◌, ◌&&◌, ◌||◌, not, Bool, true, false, List, [], ◌∷◌}
use Rattle.std.proofs.Common.{◌++◌, Option, Some, None, IsSome, IfSome, IsTrue, length, sum, take, drop, slice_range}
use Rattle.std.proofs.Common.{nat_lt, refl, sym, ap, ◌∙◌, arith, length-append, if◌then◌else◌}
use Rattle.std.proofs.lemmas.Bool.Decides.{nat_tests}
use Rattle.std.proofs.lemmas.List.{take_at, drop_at, drop-drop, take_all}
use Rattle.tas_num.specs.Sums.{words, checksum}
use Rattle.segment_fields.specs.Bytes.{byte, half, word, two}
use Rattle.segment_fields.specs.ControlBits.{has, syn}
use Rattle.segment_fields.specs.Fields.{Fields, fields_of}
use Rattle.std.specs.Option.{option_map}
use Rattle.segment_fields.specs.Options.{options_past, first_mss, first_scale, read_shift}
use Rattle.segment_fields.specs.Canon.{canon, packet, ip_header, tcp_fixed, tcp_checksum, offset_byte, tcp_len, halves}
use Rattle.segment_fields.specs.Canon.{option_bytes, mss_bytes, scale_bytes, borne_mss, borne_scale, canon_len}
use Rattle.segment_fields.specs.Canon.{HasOptionsInSynAlone}
use Rattle.segment_fields.specs.Text.{IsText, refusal, fields_in, mss_of, scale_of, options_of}
use Rattle.segment_fields.specs.Text.{tcp, ip_len, total_len, data_offset, ip_sum}
use Rattle.segment_fields.specs.Text.{tcp_sum, pseudo_sum, is_wrong}
use Rattle.segment_fields.specs.declared.segment.Segment.{Segment}
use Rattle.segment_fields.specs.declared.segment.FirstOption.{FirstOption}
use Rattle.segment_fields.specs.declared.segment.Refused.{Refused}
use Rattle.segment_fields.specs.declared.segment.Refused.TheVariants.{Short, NotIpv4, HeaderLength, TotalLength}
use Rattle.segment_fields.specs.declared.segment.Refused.TheVariants.{Fragment, NotTcp, IpSum, DataOffset, TcpSum}
use Rattle.segment_fields.proofs.RightSums.{is_wrong_checksum, sum_words-append}

-- TCP's bytes in the packet with these options
abbrev tcp_bytes : Fields → List ℕ → List ℕ
tcp_bytes f o = tcp_fixed f (offset_byte o) (tcp_checksum f o) ++ (o ++ f.payload)

length-tcp_bytes : (f : Fields) (o : List ℕ) → length (tcp_bytes f o) ≡ tcp_len f o
unfolding tcp_fixed
length-tcp_bytes f o = omega (arith, length-append o f.payload)

length-packet : (f : Fields) (o : List ℕ) → length (packet f o) ≡ 20 + tcp_len f o
unfolding ip_header
length-packet f o = omega (arith, length-tcp_bytes f o)

total_len-packet : (f : Fields) (o : List ℕ) → total_len (packet f o) ≡ 20 + tcp_len f o
unfolding ip_header
total_len-packet f o = omega arith

tcp-packet : (f : Fields) (o : List ℕ) → tcp (packet f o) ≡ tcp_bytes f o
unfolding ip_header
tcp-packet f o =
    let rest : total_len (packet f o) - 20 ≡ length (tcp_bytes f o) =
    omega (arith, total_len-packet f o, length-tcp_bytes f o) in
    ap (λ (n : ℕ). take n (tcp_bytes f o)) rest ∙ take_all (length (tcp_bytes f o)) (tcp_bytes f o) (omega arith)

data_offset-tcp_bytes : (f : Fields) (o : List ℕ) → length o % 4 ≡ 0 → data_offset (tcp_bytes f o) ≡ 20 + length o
unfolding tcp_fixed
data_offset-tcp_bytes f o aligned = omega (arith, aligned)

-- ----- the fields
mss_bytes_aligned : (mss : Option ℕ) → length (mss_bytes mss) % 4 ≡ 0
mss_bytes_aligned None = refl
mss_bytes_aligned (Some m) = refl

options_aligned : (mss scale : Option ℕ) → length (mss_bytes mss ++ scale_bytes scale) % 4 ≡ 0
options_aligned None None = refl
options_aligned None (Some s) = refl
options_aligned (Some m) None = refl
options_aligned (Some m) (Some s) = refl

option_aligned : (f : Fields) → length (option_bytes f) % 4 ≡ 0
option_aligned f = options_aligned (borne_mss f) (borne_scale f)

two_bytes : (m : ℕ) → half (2 ∷ 4 ∷ two m) 2 ≡ m
two_bytes m = omega arith

first_mss-written : (mss scale : Option ℕ) → first_mss (options_past 0 (mss_bytes mss ++ scale_bytes scale)) ≡ mss
first_mss-written None None = refl
first_mss-written None (Some s) = refl
first_mss-written (Some m) None = ap (λ (n : ℕ). Some n) (two_bytes m)
first_mss-written (Some m) (Some s) = ap (λ (n : ℕ). Some n) (two_bytes m)

first_scale-written : (mss scale : Option ℕ)
    → first_scale (options_past 0 (mss_bytes mss ++ scale_bytes scale)) ≡ option_map read_shift scale
first_scale-written None None = refl
first_scale-written None (Some s) = refl
first_scale-written (Some m) None = refl
first_scale-written (Some m) (Some s) = refl

options_of-tcp_bytes : (f : Fields) → options_of (tcp_bytes f (option_bytes f)) ≡ options_past 0 (option_bytes f)
unfolding tcp_fixed
options_of-tcp_bytes f =
    let o : List ℕ = option_bytes f in
    let len : data_offset (tcp_bytes f o) - 20 ≡ length o =
    omega (arith, data_offset-tcp_bytes f o (option_aligned f)) in
    ap (options_past 0) (ap (λ (n : ℕ). take n (o ++ f.payload)) len ∙ take_at o f.payload (length o) refl)

mss_of-tcp_bytes : (f : Fields) → mss_of (tcp_bytes f (option_bytes f)) ≡ borne_mss f
unfolding mss_of tcp_fixed
mss_of-tcp_bytes f = by_syn (has f.flags syn) f.mss f.scale _ (options_of-tcp_bytes f)
  where
    by_syn : (t : Bool) (mss scale : Option ℕ) (os : List FirstOption)
        → os ≡ options_past 0 (mss_bytes (if t then mss else None) ++ scale_bytes (if t then scale else None))
        → (if t then first_mss os else None) ≡ (if t then mss else None)
    by_syn true mss scale os e = ap first_mss e ∙ first_mss-written mss scale
    by_syn false mss scale os e = refl

scale_of-tcp_bytes : (f : Fields) → scale_of (tcp_bytes f (option_bytes f)) ≡ option_map read_shift (borne_scale f)
unfolding scale_of tcp_fixed
scale_of-tcp_bytes f = by_syn (has f.flags syn) f.mss f.scale _ (options_of-tcp_bytes f)
  where
    by_syn : (t : Bool) (mss scale : Option ℕ) (os : List FirstOption)
        → os ≡ options_past 0 (mss_bytes (if t then mss else None) ++ scale_bytes (if t then scale else None))
        → (if t then first_scale os else None) ≡ option_map read_shift (if t then scale else None)
    by_syn true mss scale os e = ap first_scale e ∙ first_scale-written mss scale
    by_syn false mss scale os e = refl

payload-tcp_bytes : (f : Fields) (o : List ℕ) → length o % 4 ≡ 0
    → drop (data_offset (tcp_bytes f o)) (tcp_bytes f o) ≡ f.payload
unfolding tcp_fixed
payload-tcp_bytes f o aligned =
    ap (λ (n : ℕ). drop n (tcp_bytes f o)) (data_offset-tcp_bytes f o aligned)
    ∙ (sym (drop-drop (length o) 20 (tcp_bytes f o)) ∙ drop_at o f.payload (length o) refl)

pub fields_in-canon : (f : Fields)
    → fields_in (canon f) ≡ record f { mss = borne_mss f; scale = option_map read_shift (borne_scale f) }
unfolding ip_header tcp_fixed
fields_in-canon f =
    let o : List ℕ = option_bytes f in
    let t : tcp (canon f) ≡ tcp_bytes f o = tcp-packet f o in
    let src : word (canon f) 12 ≡ f.src = omega arith in
    let dst : word (canon f) 16 ≡ f.dst = omega arith in
    let sport : half (tcp (canon f)) 0 ≡ f.sport = ap (λ (b : List ℕ). half b 0) t ∙ omega arith in
    let dport : half (tcp (canon f)) 2 ≡ f.dport = ap (λ (b : List ℕ). half b 2) t ∙ omega arith in
    let seq : word (tcp (canon f)) 4 ≡ f.seq = ap (λ (b : List ℕ). word b 4) t ∙ omega arith in
    let ack : word (tcp (canon f)) 8 ≡ f.ack = ap (λ (b : List ℕ). word b 8) t ∙ omega arith in
    let flags : byte (tcp (canon f)) 13 ≡ f.flags = ap (λ (b : List ℕ). byte b 13) t in
    let window : half (tcp (canon f)) 14 ≡ f.window = ap (λ (b : List ℕ). half b 14) t ∙ omega arith in
    let mss : mss_of (tcp (canon f)) ≡ borne_mss f = ap mss_of t ∙ mss_of-tcp_bytes f in
    let scale : scale_of (tcp (canon f)) ≡ option_map read_shift (borne_scale f) =
    ap scale_of t ∙ scale_of-tcp_bytes f in
    let payload : drop (data_offset (tcp (canon f))) (tcp (canon f)) ≡ f.payload =
    ap (λ (b : List ℕ). drop (data_offset b) b) t ∙ payload-tcp_bytes f o (option_aligned f) in
    cc (src, dst, sport, dport, seq, ack, flags, window, mss, scale, payload)

-- ----- the sums
ip_sum-packet : (f : Fields) (o : List ℕ) → is_wrong (ip_sum (packet f o)) ≡ false
unfolding ip_header
ip_sum-packet f o =
    let total : ℕ = 20 + tcp_len f o in
    let plain : ℕ = sum (words (ip_header total 0 f.src f.dst)) in
    let whole : ip_sum (packet f o) ≡ plain + checksum plain = omega arith in
    ap is_wrong whole ∙ is_wrong_checksum plain

sum-tcp_fixed : (f : Fields) (offset n : ℕ)
    → sum (words (tcp_fixed f offset n)) ≡ sum (words (tcp_fixed f offset 0)) + n
unfolding tcp_fixed
sum-tcp_fixed f offset n = omega arith

sum-tcp_bytes : (f : Fields) (o : List ℕ) → length o % 4 ≡ 0
    → sum (words (tcp_bytes f o)) ≡ sum (words (tcp_fixed f (offset_byte o) 0)) + tcp_checksum f o
    + (sum (words o) + sum (words f.payload))
unfolding tcp_fixed
sum-tcp_bytes f o aligned =
    let fixed : List ℕ = tcp_fixed f (offset_byte o) (tcp_checksum f o) in
    let split : sum (words (tcp_bytes f o)) ≡ sum (words fixed) + sum (words (o ++ f.payload)) =
    sum_words-append fixed (o ++ f.payload) refl in
    let rest : sum (words (o ++ f.payload)) ≡ sum (words o) + sum (words f.payload) =
    sum_words-append o f.payload (omega (arith, aligned)) in
    let head = sum-tcp_fixed f (offset_byte o) (tcp_checksum f o) in
    omega (arith, split, rest, head)

pseudo_sum-packet : (f : Fields) (o : List ℕ) → pseudo_sum (packet f o) ≡ halves f.src + halves f.dst + 6 + tcp_len f o
unfolding ip_header
pseudo_sum-packet f o =
    let len : length (tcp (packet f o)) ≡ tcp_len f o = ap length (tcp-packet f o) ∙ length-tcp_bytes f o in
    omega (arith, len)

tcp_sum-packet : (f : Fields) (o : List ℕ) → length o % 4 ≡ 0 → is_wrong (tcp_sum (packet f o)) ≡ false
tcp_sum-packet f o aligned =
    let plain : ℕ = halves f.src + halves f.dst + 6 + tcp_len f o + sum (words (tcp_fixed f (offset_byte o) 0)) + sum
    (words o) + sum (words f.payload) in
    let bytes : sum (words (tcp (packet f o))) ≡ sum (words (tcp_bytes f o)) =
    ap (λ (b : List ℕ). sum (words b)) (tcp-packet f o) in
    let whole : tcp_sum (packet f o) ≡ plain + checksum plain =
    omega (arith, bytes, sum-tcp_bytes f o aligned, pseudo_sum-packet f o) in
    ap is_wrong whole ∙ is_wrong_checksum plain

-- ----- the rules
ip_len-packet : (f : Fields) (o : List ℕ) → ip_len (packet f o) ≡ 20
unfolding ip_header
ip_len-packet f o = refl

first_byte : (f : Fields) (o : List ℕ) → not (byte (packet f o) 0 / 16 == 4) ≡ false
unfolding ip_header
first_byte f o = refl

no_fragment : (f : Fields) (o : List ℕ) → not (half (packet f o) 6 % 16384 == 0) ≡ false
unfolding ip_header
no_fragment f o = refl

protocol : (f : Fields) (o : List ℕ) → not (byte (packet f o) 9 == 6) ≡ false
unfolding ip_header
protocol f o = refl

none_broken : (t1 t2 t3 t4 t5 t6 t7 t8 t9 : Bool) (r1 r2 r3 r4 r5 r6 r7 r8 r9 : Refused)
    → t1 ≡ false → t2 ≡ false → t3 ≡ false → t4 ≡ false → t5 ≡ false → t6 ≡ false → t7 ≡ false → t8 ≡ false → t9 ≡ false
    → ◌≡◌ {A = Option Refused} (if t1 then Some r1 else if t2 then Some r2 else if t3 then Some r3 else if t4
    then Some r4 else if t5 then Some r5 else if t6 then Some r6 else if t7 then Some r7 else if t8 then Some r8
    else if t9 then Some r9 else None) None
none_broken t1 t2 t3 t4 t5 t6 t7 t8 t9 r1 r2 r3 r4 r5 r6 r7 r8 r9 e1 e2 e3 e4 e5 e6 e7 e8 e9 =
    rw (e1, e2, e3, e4, e5, e6, e7, e8, e9) refl

either : (a b : Bool) → a ≡ false → b ≡ false → (a || b) ≡ false
either a b e1 e2 = rw (e1, e2) refl

checked : (check wrong : Bool) → wrong ≡ false → (check && wrong) ≡ false
checked false wrong e = refl
checked true wrong e = e

not_below : (a b : ℕ) → b ≤ a → nat_lt a b ≡ false
not_below a b e = grind (arith, nat_tests, e)

refusal-packet : (check : Bool) (f : Fields) (o : List ℕ) → length o % 4 ≡ 0 → refusal check (packet f o) ≡ None
unfolding refusal
refusal-packet check f o aligned =
    let b : List ℕ = packet f o in
    let len : length b ≡ 20 + tcp_len f o = length-packet f o in
    let total : total_len b ≡ 20 + tcp_len f o = total_len-packet f o in
    let tcp_length : length (tcp b) ≡ tcp_len f o = ap length (tcp-packet f o) ∙ length-tcp_bytes f o in
    let offset : data_offset (tcp b) ≡ 20 + length o = ap data_offset (tcp-packet f o)
    ∙ data_offset-tcp_bytes f o aligned in
    let low : 20 + length o ≤ tcp_len f o = omega arith in
    none_broken (nat_lt (length b) 20) (not (byte b 0 / 16 == 4)) (nat_lt (ip_len b) 20 || nat_lt (length b) (ip_len b))
    (nat_lt (total_len b) (ip_len b) || nat_lt (length b) (total_len b)) (not (half b 6 % 16384 == 0))
    (not (byte b 9 == 6)) (check && is_wrong (ip_sum b))
    (nat_lt (length (tcp b)) 20 || nat_lt (data_offset (tcp b)) 20 || nat_lt (length (tcp b)) (data_offset (tcp b)))
    (check && is_wrong (tcp_sum b))
    Short NotIpv4 HeaderLength TotalLength Fragment NotTcp IpSum DataOffset TcpSum
    (not_below (length b) 20 (omega (arith, len)))
    (first_byte f o)
    (either (nat_lt (ip_len b) 20) (nat_lt (length b) (ip_len b))
    (not_below (ip_len b) 20 (omega (arith, ip_len-packet f o)))
    (not_below (length b) (ip_len b) (omega (arith, ip_len-packet f o, len))))
    (either (nat_lt (total_len b) (ip_len b)) (nat_lt (length b) (total_len b))
    (not_below (total_len b) (ip_len b) (omega (arith, ip_len-packet f o, total)))
    (not_below (length b) (total_len b) (omega (arith, len, total))))
    (no_fragment f o)
    (protocol f o)
    (checked check (is_wrong (ip_sum b)) (ip_sum-packet f o))
    (either (nat_lt (length (tcp b)) 20 || nat_lt (data_offset (tcp b)) 20)
    (nat_lt (length (tcp b)) (data_offset (tcp b)))
    (either (nat_lt (length (tcp b)) 20) (nat_lt (data_offset (tcp b)) 20)
    (not_below (length (tcp b)) 20 (omega (arith, tcp_length)))
    (not_below (data_offset (tcp b)) 20 (omega (arith, offset))))
    (not_below (length (tcp b)) (data_offset (tcp b)) (omega (arith, tcp_length, offset, low))))
    (checked check (is_wrong (tcp_sum b)) (tcp_sum-packet f o aligned))

pub refusal-canon : (check : Bool) (f : Fields) → refusal check (canon f) ≡ None
refusal-canon check f = refusal-packet check f (option_bytes f) (option_aligned f)

borne : (o : Option ℕ) (t : Bool) → (IsSome o → IsTrue t) → (if t then o else None) ≡ o
borne o true e = refl
borne None false e = refl
borne (Some x) false e = absurd (cc (e refl))

as_read : (o : Option ℕ) → IfSome o (λ shift. shift ≤ 14) → option_map read_shift o ≡ o
as_read None small = refl
as_read (Some s) small =
    let same : read_shift s ≡ s = omega (arith, small) in
    ap (λ (n : ℕ). Some n) same

pub fields_in-canon_same : (f : Fields) → HasOptionsInSynAlone f → fields_in (canon f) ≡ f
fields_in-canon_same f alone =
    let mss : borne_mss f ≡ f.mss = borne f.mss (has f.flags syn) alone.mss in
    let scale : option_map read_shift (borne_scale f) ≡ f.scale =
    ap (option_map read_shift) (borne f.scale (has f.flags syn) alone.scale) ∙ as_read f.scale alone.shift in
    fields_in-canon f
    ∙ (ap (λ (m : Option ℕ). record f { mss = m; scale = option_map read_shift (borne_scale f) }) mss
    ∙ ap (λ (s : Option ℕ). record f { scale = s }) scale)

pub fields_of-text : (b : List ℕ) (s : Segment) → IsText b s → fields_of s ≡ fields_in b
fields_of-text b s t = cc (t.src, t.dst, t.sport, t.dport, t.seq, t.ack, t.flags, t.window, t.mss, t.scale, t.payload)

pub length-canon : (f : Fields) → length (canon f) ≡ canon_len f
length-canon f = omega (arith, length-packet f (option_bytes f))
