use Rattle.std.proofs.Common.{rules, ◌≡◌, ◌∙◌, ap, sym, map, string_bytes, codes, ℕ, Some, ◌<◌, ◌^◌}
use Rattle.std.specs.Str.Parse.{ParsesUnsigned, ExplainsUnsignedError, HasUnsignedDigitsIfOk}
use Rattle.clap.specs.Words.{found_of, one_text}
use Rattle.program_words.specs.Canonical.{run_words}
use Rattle.program_words.specs.Found.{name_in, text_in, spelled_number}
use Rattle.program_words.proofs.Takes.{run_taken, run_found}
use Rattle.program_words.proofs.Found.{flag_is, cores_are, scenario_is}
use Rattle.program_words.proofs.reading.run_request.Goals as goal

pub matches_of-requires : goal.matches_of-requires
matches_of-requires c =
    let words_are : map string_bytes c.deref.result.now
    ≡ run_words c.args.cores c.args.pcap = search rules in
    run_taken c.args.cores c.args.pcap (map string_bytes c.deref.result.now) words_are

pub found_for-found-requires : goal.found_for-found-requires
found_for-found-requires c =
    let words_are : map string_bytes c.deref.result.now
    ≡ run_words c.args.cores c.args.pcap = search rules in
    ap name_in c.in_ok-matches.ensures
    ∙ (run_found c.args.cores c.args.pcap (map string_bytes c.deref.result.now) words_are).name

pub returns : goal.returns
returns c =
    let words_are : map string_bytes c.deref.result.now
    ≡ run_words c.args.cores c.args.pcap = search rules in
    let found = run_found c.args.cores c.args.pcap (map string_bytes c.deref.result.now) words_are in
    let few : (n : ℕ) → c.args.cores ≡ Some n → n < 2 ^ 32 = search rules in
    let asked : Some (one_text (found_of c.found_for-found.result.now) (codes "cores"))
    ≡ Some (spelled_number c.args.cores) = sym (c.found_for-found.ensures (codes "cores"))
    ∙ ap (text_in (codes "cores")) c.in_ok-matches.ensures ∙ found.cores in
    let cores : c.get_one.result ≡ c.args.cores = cores_are (λ bs r. ParsesUnsigned 32 10 bs r
    × ExplainsUnsignedError 10 bs r × HasUnsignedDigitsIfOk bs r) c.args.cores _ c.get_one.result (λ t r g. g.0)
    few asked c.get_one.ensures.none c.get_one.ensures.value in
    let shown : c.get_flag.result ≡ c.args.pcap = flag_is c.args.pcap c.get_flag.result _
    (sym (c.found_for-found.ensures (codes "pcap")) ∙ ap (text_in (codes "pcap")) c.in_ok-matches.ensures
    ∙ found.pcap) c.get_flag.ensures.value c.get_flag.ensures.other in
    scenario_is c.get_one.result c.args.cores c.get_flag.result c.args.pcap cores shown
