use Rattle.std.proofs.Common.{rules, ◌≡◌, ◌+◌, ◌<◌, ◌^◌, true, refl, arith}
use Rattle.std.specs.HashSet.{contains}
use Rattle.capture_items.specs.Starts.{same_known, count_in}
use Rattle.capture_items.proofs.Listed.{IsMore, listed_more, listed_again, was_new, was_known}
use Rattle.capture_items.proofs.starts.Numbering.note.Goals as goal

pub overflow_add-count : goal.overflow_add-count
overflow_add-count c =
    let count : c.unwrap_or-count.result ≡ count_in c.args.self.now c.args.tuple = search rules in
    let small : count_in c.args.self.now c.args.tuple + 1 < 2 ^ 64 = c.requires.small in
    grind (arith, count, small)

pub returns : goal.returns
returns c =
    let count : c.unwrap_or-count.result ≡ count_in c.args.self.now c.args.tuple = search rules in
    let more : IsMore c.args.self.now (record {
      syns = c.insert-2.new.self;
      known = c.insert.new.self;
      counts =
          c.insert-3.new.self;
    }) c.args.tuple c.args.syn =
    record {
      fresh = was_new _ _ c.if-not-is_new.false c.in_ok-is_new.ensures.added;
      counts = λ q. rw (← count) (c.in_ok-insert-2.ensures.updates.0 q);
      known = λ q. c.in_ok-is_new.ensures.updates.0 q;
      syns = λ q. rw (← count) (c.in_ok-insert.ensures.updates.0 q);
    }
    in
    record { ok = λ t list are. listed_more c.args.self.now _ c.args.tuple t c.args.syn list more are }

-- the number was known before
pub returns-then-not-is_new : goal.returns-then-not-is_new
returns-then-not-is_new c =
    let same : c.insert.new.self.keys ≡ c.args.self.now.known.keys = search rules in
    let known : contains same_known c.args.self.now.known (record {
      tuple = c.args.tuple;
      number = c.args.syn.number.0;
    }) ≡ true = was_known _ _ c.if-not-is_new.true c.in_ok-is_new.ensures.added in
    record {
      ok = λ t list are. listed_again c.args.self.now _ c.args.tuple t c.args.syn list
          (record { counts = λ q. refl; known = λ q. rw same refl; syns = λ q. refl }) known are;
    }
