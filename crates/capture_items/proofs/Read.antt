-- What was read from a packet is what the packet's fields make.
use Rattle.std.proofs.Common.{◌≡◌, ℕ, ◌/◌, ◌%◌, ◌==◌, ◌&&◌, ◌||◌, not, nat_lt, Bool, true, false, List, length, ap}
use Rattle.std.proofs.Common.{Option, Some, None, if◌then◌else◌}
use Rattle.segment_fields.specs.Bytes.{byte, half}
use Rattle.segment_fields.specs.Text.{IsText, fields_in, refusal, ip_len, total_len, tcp, data_offset, ip_sum, tcp_sum}
use Rattle.segment_fields.specs.Text.{is_wrong}
use Rattle.segment_fields.specs.declared.segment.Refused.{Refused}
use Rattle.segment_fields.specs.declared.segment.Refused.TheVariants.{Short, NotIpv4, HeaderLength, TotalLength}
use Rattle.segment_fields.specs.declared.segment.Refused.TheVariants.{Fragment, NotTcp, IpSum, DataOffset, TcpSum}
use Rattle.segment_fields.specs.declared.segment.Segment.{Segment}
use Rattle.segment_fields.proofs.RoundTrip.{fields_of-text}
use Rattle.flow_state.specs.Calls.{seg_of}
use Rattle.tas_runs.specs.Records.{segment_of, sender_tuple, receiver_tuple}
use Rattle.capture_items.specs.Items.{sends, receives, is_before_sums}

pub segment_read : (b : List ℕ) (s : Segment) → IsText b s → seg_of s ≡ segment_of (fields_in b)
segment_read b s text = ap segment_of (fields_of-text b s text)

pub sender_read : (b : List ℕ) (s : Segment) → IsText b s → sends s ≡ sender_tuple (fields_in b)
sender_read b s text = ap sender_tuple (fields_of-text b s text)

pub receiver_read : (b : List ℕ) (s : Segment) → IsText b s → receives s ≡ receiver_tuple (fields_in b)
receiver_read b s text = ap receiver_tuple (fields_of-text b s text)

-- ----- rules that are tried before the checksums
-- the first rule that is broken, by what the tests of all rules say
abbrev first_of : (check : Bool) (short other long total fragment kind ip offset sum : Bool) → Option Refused
first_of check short other long total fragment kind ip offset sum =
    if short then Some Short
    else if other then Some NotIpv4
    else if long then Some HeaderLength
    else if total then Some TotalLength
    else if fragment then Some Fragment
    else if kind then Some NotTcp
    else if check && ip then Some IpSum
    else if offset then Some DataOffset
    else if check && sum then Some TcpSum
    else None

first_stays : (check short other long total fragment kind ip offset sum : Bool) (rule : Refused)
    → first_of false short other long total fragment kind ip offset sum ≡ Some rule → is_before_sums rule ≡ true
    → first_of check short other long total fragment kind ip offset sum ≡ Some rule
first_stays check true other long total fragment kind ip offset sum rule is before = is
first_stays check false true long total fragment kind ip offset sum rule is before = is
first_stays check false false true total fragment kind ip offset sum rule is before = is
first_stays check false false false true fragment kind ip offset sum rule is before = is
first_stays check false false false false true kind ip offset sum rule is before = is
first_stays check false false false false false true ip offset sum rule is before = is
first_stays check false false false false false false ip true sum rule is before = absurd (cc (is, before))
first_stays check false false false false false false ip false sum rule is before = absurd (cc (is))

-- A packet that breaks such a rule breaks it as the first one, also where its checksums are looked at.
pub refused_before_sums : (check : Bool) (b : List ℕ) (rule : Refused) → refusal false b ≡ Some rule
    → is_before_sums rule ≡ true → refusal check b ≡ Some rule
unfolding refusal
refused_before_sums check b rule is before =
    first_stays check (nat_lt (length b) 20) (not (byte b 0 / 16 == 4))
    (nat_lt (ip_len b) 20 || nat_lt (length b) (ip_len b))
    (nat_lt (total_len b) (ip_len b) || nat_lt (length b) (total_len b)) (not (half b 6 % 16384 == 0))
    (not (byte b 9 == 6)) (is_wrong (ip_sum b))
    (nat_lt (length (tcp b)) 20 || nat_lt (data_offset (tcp b)) 20 || nat_lt (length (tcp b)) (data_offset (tcp b)))
    (is_wrong (tcp_sum b)) rule is before
