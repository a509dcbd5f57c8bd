-- The control of the rate (RFC 5681, sections 3.1 and 3.2): what one interval's counters do to cwnd and ssthresh. All
-- numbers are bytes, but for the counts `fast` and `timeouts`.
use Rattle.std.specs.Prelude.{ℕ, ◌+◌, ◌*◌, ◌/◌, nat_lt, min, max, if◌then◌else◌}

-- half of what is in flight, but two segments at least
abbrev pub halved : (flight mss : ℕ) → ℕ
halved flight mss = max (flight / 2) (2 * mss)

-- the threshold falls on every kind of loss, and on nothing else
abbrev pub ssthresh_after : (fast timeouts flight mss ssthresh : ℕ) → ℕ
ssthresh_after fast timeouts flight mss ssthresh =
    if nat_lt 0 timeouts then min 65535 (halved flight mss)
    else if nat_lt 0 fast then min 65535 (halved flight mss)
    else ssthresh

-- one segment after a timeout, the threshold after a fast retransmission; else slow start below the threshold, and
-- congestion avoidance from it on
abbrev pub cwnd_after : (acked fast timeouts flight mss cwnd ssthresh : ℕ) → ℕ
cwnd_after acked fast timeouts flight mss cwnd ssthresh =
    min 65535 (
    if nat_lt 0 timeouts then mss
    else if nat_lt 0 fast then halved flight mss
    else if nat_lt cwnd ssthresh then cwnd + min acked cwnd
    else cwnd + min mss (mss * acked / cwnd))

-- the bytes that one tick adds to the bucket
abbrev pub refill : (mss cwnd : ℕ) → ℕ
refill mss cwnd = max mss (cwnd / 4)
