use Rattle.std.proofs.Common.{rules, ◌≡◌, ◌∙◌, ap, sym, map, string_bytes, codes, ℕ, Some, ◌<◌, ◌^◌}
use Rattle.std.proofs.Common.{decimal}
use Rattle.std.specs.Str.Parse.{ParsesUnsigned, ExplainsUnsignedError, HasUnsignedDigitsIfOk}
use Rattle.clap.specs.Words.{found_of, one_text}
use Rattle.program_words.specs.Canonical.{bulk_words}
use Rattle.program_words.specs.Found.{name_in, text_in, spelled_number}
use Rattle.program_words.proofs.Takes.{bulk_taken, bulk_found}
use Rattle.program_words.proofs.Found.{number_is, cores_are, made_is}
use Rattle.program_words.proofs.reading.bulk_request.Goals as goal

pub matches_of-requires : goal.matches_of-requires
matches_of-requires c =
    let words_are : map string_bytes c.deref.result.now
    ≡ bulk_words c.args.clients c.args.cores = search rules in
    bulk_taken c.args.clients c.args.cores (map string_bytes c.deref.result.now) words_are

pub found_for-found-requires : goal.found_for-found-requires
found_for-found-requires c =
    let words_are : map string_bytes c.deref.result.now
    ≡ bulk_words c.args.clients c.args.cores = search rules in
    ap name_in c.in_ok-matches.ensures
    ∙ (bulk_found c.args.clients c.args.cores (map string_bytes c.deref.result.now) words_are).name

pub unreachable-requires : goal.unreachable-requires
unreachable-requires c =
    let words_are : map string_bytes c.deref.result.now
    ≡ bulk_words c.args.clients c.args.cores = search rules in
    let found = bulk_found c.args.clients c.args.cores (map string_bytes c.deref.result.now) words_are in
    let small : c.args.clients < 2 ^ 32 = search rules in
    let text : Some (one_text (found_of c.found_for-found.result.now) (codes "clients"))
    ≡ Some (Some (decimal c.args.clients)) = sym (c.found_for-found.ensures (codes "clients"))
    ∙ ap (text_in (codes "clients")) c.in_ok-matches.ensures ∙ found.clients in
    let number : c.get_one.result ≡ Some c.args.clients = number_is (λ bs r. ParsesUnsigned 32 10 bs r
    × ExplainsUnsignedError 10 bs r × HasUnsignedDigitsIfOk bs r) c.args.clients _ c.get_one.result (λ t r g. g.0)
    small text c.get_one.ensures.value in
    c.in_default.not-Some c.args.clients number

pub returns : goal.returns
returns c =
    let words_are : map string_bytes c.deref.result.now
    ≡ bulk_words c.args.clients c.args.cores = search rules in
    let found = bulk_found c.args.clients c.args.cores (map string_bytes c.deref.result.now) words_are in
    let small : c.args.clients < 2 ^ 32 = search rules in
    let text : Some (one_text (found_of c.found_for-found.result.now) (codes "clients"))
    ≡ Some (Some (decimal c.args.clients)) = sym (c.found_for-found.ensures (codes "clients"))
    ∙ ap (text_in (codes "clients")) c.in_ok-matches.ensures ∙ found.clients in
    let number : c.get_one.result ≡ Some c.args.clients = number_is (λ bs r. ParsesUnsigned 32 10 bs r
    × ExplainsUnsignedError 10 bs r × HasUnsignedDigitsIfOk bs r) c.args.clients _ c.get_one.result (λ t r g. g.0)
    small text c.get_one.ensures.value in
    let same : c.in-Some.number ≡ c.args.clients = cc (c.in-Some.is, number) in
    let few : (n : ℕ) → c.args.cores ≡ Some n → n < 2 ^ 32 = search rules in
    let asked : Some (one_text (found_of c.found_for-found.result.now) (codes "cores"))
    ≡ Some (spelled_number c.args.cores) = sym (c.found_for-found.ensures (codes "cores"))
    ∙ ap (text_in (codes "cores")) c.in_ok-matches.ensures ∙ found.cores in
    let cores : c.get_one-2.result ≡ c.args.cores = cores_are (λ bs r. ParsesUnsigned 32 10 bs r
    × ExplainsUnsignedError 10 bs r × HasUnsignedDigitsIfOk bs r) c.args.cores _ c.get_one-2.result (λ t r g. g.0)
    few asked c.get_one-2.ensures.none c.get_one-2.ensures.value in
    made_is c.in-Some.number c.args.clients c.get_one-2.result c.args.cores same cores
