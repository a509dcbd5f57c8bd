use Rattle.std.proofs.Common.{rules, ◌≡◌, ◌∙◌, ap, sym, map, string_bytes, codes, ℕ, Some, ◌<◌, ◌^◌}
use Rattle.std.specs.Str.Parse.{ParsesUnsigned, ExplainsUnsignedError, HasUnsignedDigitsIfOk}
use Rattle.clap.specs.Words.{found_of, one_text}
use Rattle.program_words.specs.Canonical.{replay_words}
use Rattle.program_words.specs.Found.{name_in, text_in, spelled_number}
use Rattle.program_words.proofs.Takes.{replay_taken, replay_found}
use Rattle.program_words.proofs.Found.{flag_is, cores_are, address_is, capture_is}
use Rattle.program_words.proofs.reading.replay_request.Goals as goal

pub matches_of-requires : goal.matches_of-requires
matches_of-requires c =
    let words_are : map string_bytes c.deref.result.now
    ≡ replay_words c.args.local.now c.args.cores c.args.pcap c.args.loose = search rules in
    replay_taken c.args.local.now c.args.cores c.args.pcap c.args.loose (map string_bytes c.deref.result.now) words_are

pub found_for-found-requires : goal.found_for-found-requires
found_for-found-requires c =
    let words_are : map string_bytes c.deref.result.now
    ≡ replay_words c.args.local.now c.args.cores c.args.pcap c.args.loose = search rules in
    ap name_in c.in_ok-matches.ensures
    ∙ (replay_found c.args.local.now c.args.cores c.args.pcap c.args.loose (map string_bytes c.deref.result.now)
    words_are).name

pub unreachable-requires : goal.unreachable-requires
unreachable-requires c =
    let words_are : map string_bytes c.deref.result.now
    ≡ replay_words c.args.local.now c.args.cores c.args.pcap c.args.loose = search rules in
    let found = replay_found c.args.local.now c.args.cores c.args.pcap c.args.loose
    (map string_bytes c.deref.result.now) words_are in
    let text : Some (one_text (found_of c.found_for-found.result.now) (codes "local")) ≡ Some (Some c.args.local.now) =
    sym (c.found_for-found.ensures (codes "local")) ∙ ap (text_in (codes "local")) c.in_ok-matches.ensures
    ∙ found.local in
    let is = address_is _ c.args.local.now _ c.get_one.result text c.get_one.ensures.value
    c.requires in
    c.in_default.not-Some is.0 is.1

pub returns : goal.returns
returns c =
    let words_are : map string_bytes c.deref.result.now
    ≡ replay_words c.args.local.now c.args.cores c.args.pcap c.args.loose = search rules in
    let found = replay_found c.args.local.now c.args.cores c.args.pcap c.args.loose
    (map string_bytes c.deref.result.now) words_are in
    let text : Some (one_text (found_of c.found_for-found.result.now) (codes "local")) ≡ Some (Some c.args.local.now) =
    sym (c.found_for-found.ensures (codes "local")) ∙ ap (text_in (codes "local")) c.in_ok-matches.ensures
    ∙ found.local in
    let is = address_is _ c.args.local.now _ c.get_one.result text c.get_one.ensures.value
    c.requires in
    let loose : c.get_flag.result ≡ c.args.loose = flag_is c.args.loose c.get_flag.result _
    (sym (c.found_for-found.ensures (codes "loose-sums")) ∙ ap (text_in (codes "loose-sums")) c.in_ok-matches.ensures
    ∙ found.loose) c.get_flag.ensures.value c.get_flag.ensures.other in
    let few : (n : ℕ) → c.args.cores ≡ Some n → n < 2 ^ 32 = search rules in
    let asked : Some (one_text (found_of c.found_for-found.result.now) (codes "cores"))
    ≡ Some (spelled_number c.args.cores) = sym (c.found_for-found.ensures (codes "cores"))
    ∙ ap (text_in (codes "cores")) c.in_ok-matches.ensures ∙ found.cores in
    let cores : c.get_one-2.result ≡ c.args.cores = cores_are (λ bs r. ParsesUnsigned 32 10 bs r
    × ExplainsUnsignedError 10 bs r × HasUnsignedDigitsIfOk bs r) c.args.cores _ c.get_one-2.result (λ t r g. g.0)
    few asked c.get_one-2.ensures.none c.get_one-2.ensures.value in
    let pcap : c.get_flag-2.result ≡ c.args.pcap = flag_is c.args.pcap c.get_flag-2.result _
    (sym (c.found_for-found.ensures (codes "pcap")) ∙ ap (text_in (codes "pcap")) c.in_ok-matches.ensures
    ∙ found.pcap) c.get_flag-2.ensures.value c.get_flag-2.ensures.other in
    let same : c.in-Some.address ≡ is.0 = cc (c.in-Some.is, is.1) in (
      is.0,
      is.2,
      capture_is c.in-Some.address is.0 c.get_flag.result c.args.loose c.get_one-2.result c.args.cores
          c.get_flag-2.result c.args.pcap same loose cores pcap,
    )
