-- A rate with its windows set.
use Rattle.std.specs.Prelude.{ℕ, min}
use Rattle.tas_num.specs.Control.{refill}
use Rattle.tas_model.specs.Endpoint.{Rate}

-- both windows are set, the bucket is as deep as the congestion window, and nothing is counted yet
abbrev pub rate_with : Rate → (cwnd ssthresh : ℕ) → Rate
rate_with r cwnd ssthresh = record {
  mss = r.mss;
  cwnd = cwnd;
  ssthresh = ssthresh;
  tokens = min r.tokens cwnd;
  depth = cwnd;
  fill = refill r.mss cwnd;
  acked = 0;
  fast = 0;
  timeouts = 0;
}
