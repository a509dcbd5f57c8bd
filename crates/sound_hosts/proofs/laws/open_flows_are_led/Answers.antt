use Rattle.std.proofs.Common.{◌≡◌, true, false, ap, ◌∙◌, subst}
use Rattle.tas_model.specs.Endpoint.{is_closed}
use Rattle.host_rounds.specs.Hosts.{is_over}
use Rattle.flow_index.specs.Changes.{found_after}
use Rattle.flow_index.specs.declared.change.Found.TheVariants as found
use Rattle.flow_lock.specs.Orders.{known_of}
use Rattle.slow_worker.specs.Workers.{flow_with}
use Rattle.host_books.specs.Books.{Book, live_in}
use Rattle.host_books.specs.Indexes.{endpoint_of}
use Rattle.host_books.proofs.Indexing as books
use Rattle.sound_hosts.specs.Hosts.{known_in, tuple_of}
use Rattle.sound_hosts.proofs.Led.{listed, at_place, is_indexed_open, both_each}
use Rattle.sound_hosts.proofs.laws.open_flows_are_led.Goals as goal

pub returns-clause-listed : goal.returns-clause-listed
returns-clause-listed c h place id sound at open_ =
    let known = known_in h in
    let t = (known_of id known).tuple in
    ap (λ fs. flow_with t fs) sound.kept.flows
    ∙ listed known t place id h.books at
    (books.found known place id h.books sound.indexed.running sound.indexed.once at open_)

pub returns-clause-shown : goal.returns-clause-shown
returns-clause-shown c h place id sound at open_ =
    let known = known_in h in
    let P = λ (b : Book). b.indexed ≡ true → found_after (tuple_of known b) h.slow.index.published ≡ found.Flow b.id in
    let Q = λ (b : Book). b.indexed ≡ false → is_over (live_in known b) ≡ true in
    let b = at_place (λ (x : Book). P x × Q x) place id h.books
    (both_each P Q h.books sound.shown.shown.led sound.indexed.running) at in
    let over : is_over (live_in known b.0) ≡ false =
    ap (λ f. is_closed (endpoint_of (known_of f known))) b.1 ∙ open_ in
    let is : b.0.indexed ≡ true = is_indexed_open b.0.indexed (is_over (live_in known b.0)) b.2.1 over in
    subst (λ f. found_after (known_of f known).tuple h.slow.index.published ≡ found.Flow f) b.1 (b.2.0 is)
