use Rattle.std.proofs.Common.{◌≡◌, ◌+◌, ◌++◌, List, ℕ, length, drop, refl, ap, ◌∙◌, arith}
use Rattle.segment_fields.specs.Fields.{fields_of}
use Rattle.segment_fields.specs.Canon.{ip_header, tcp_fixed, ip_checksum, tcp_checksum, offset_byte, tcp_len}
use Rattle.segment_fields.proofs.Pieces.{four_pieces}
use Rattle.segment_fields.proofs.Headers.{length-ip_header, length-tcp_fixed}
use Rattle.segment_fields.proofs.writing.write_with.Goals as goal

pub returns-clause-text : goal.returns-clause-text
returns-clause-text c =
    let o = c.args.option.now in
    let f = fields_of c.args.seg.now in
    let total : ℕ = 40 + length o + length f.payload in
    let same : total ≡ 20 + tcp_len f o = omega arith in
    let first : c.ip_bytes.result ≡ ip_header (20 + tcp_len f o)
    (ip_checksum (20 + tcp_len f o) f.src f.dst) f.src f.dst =
    c.ip_bytes.ensures ∙ (ap (λ (k : ℕ). ip_header total k f.src f.dst) c.ip_sum-sum.ensures
    ∙ ap (λ (n : ℕ). ip_header n (ip_checksum n f.src f.dst) f.src f.dst) same) in
    let second : c.tcp_bytes.result ≡ tcp_fixed f (offset_byte o) (tcp_checksum f o) = c.tcp_bytes.ensures
    ∙ ap (λ (k : ℕ). tcp_fixed f (offset_byte o) k) c.tcp_sum-sum.ensures in
    let all = four_pieces c.args.buf.now c.put.new.buf c.put-2.new.buf c.put-3.new.buf c.put-4.new.buf c.ip_bytes.result
    c.tcp_bytes.result o f.payload (40 + length o) total
    (ap length c.ip_bytes.ensures ∙ length-ip_header _ _ _ _) (ap length c.tcp_bytes.ensures
    ∙ length-tcp_fixed _ _ _) refl refl c.put.ensures c.put-2.ensures c.put-3.ensures c.put-4.ensures in
    all ∙ (ap (λ (h : List ℕ). (h ++ (c.tcp_bytes.result ++ (o ++ f.payload))) ++ drop total c.args.buf.now) first
    ∙ ap (λ (h : List ℕ). (ip_header (20 + tcp_len f o) (ip_checksum (20 + tcp_len f o) f.src f.dst) f.src f.dst
    ++ (h ++ (o ++ f.payload))) ++ drop total c.args.buf.now) second)
