-- What a judge knows after one entry more.
use Rattle.std.proofs.Common.{◌≡◌, ℕ, ◌+◌, ◌≤◌, cond, List, [], ◌∷◌, ◌++◌, length}
use Rattle.std.proofs.Common.{refl, sym, ap, subst, ◌∙◌, length-append}
use Rattle.std.proofs.lemmas.Grind.{flat_map-append}
use Rattle.std.proofs.lemmas.List.{append-nil}
use Rattle.tas_model.specs.declared.entry.Caller.{Caller}
use Rattle.tas_model.specs.declared.entry.Entry.{Entry}
use Rattle.tas_model.specs.declared.entry.HostParams.{HostParams}
use Rattle.tas_model.specs.declared.entry.Reply.{Reply}
use Rattle.tas_model.specs.declared.entry.Reply.TheVariants as replies
use Rattle.tas_model.specs.LegalHistory.{Legal, MayFollow, replay, opened, last_tick, same_caller}
use Rattle.tas_model.specs.Outputs.{bytes_read, given_bytes}
use Rattle.tas_model.proofs.Histories.{legal_push, replay_first}
use Rattle.flow_state.specs.Flow.{Flow}
use Rattle.flow_state.proofs.Counting.{counts_first, counts_push}
use Rattle.flow_state.proofs.Runs.{last_push}
use Rattle.flow_state.specs.declared.counts.CallerCount.{CallerCount}
use Rattle.flow_state.specs.Counts.{counted_for}
use Rattle.flow_judge.specs.Trials.{tried_entry}
use Rattle.flow_judge.specs.Making.{Confirms}
use Rattle.flow_judge.specs.Judging.{Judge, HasJudged, Begins}
use Rattle.flow_judge.proofs.Entries.{follows}

-- ----- the first entry
-- A judge that begins with an entry.
pub first_judged : (f : Flow) (params : HostParams) (x : Entry) (counts : List CallerCount) (read : List ℕ)
    → Begins f params x → x.reply ≡ replies.Ok → x.number ≡ 0
    → ((other : Caller) → counted_for other counts ≡ cond (same_caller x.caller other) 1 0) → read ≡ []
    → HasJudged (record {
      params = f.params;
      kept = f.entries;
      last = x.tick;
      counts = counts;
      read = read;
    }) (x ∷ [])
first_judged f params x counts read begins ok number one none = record {
  legal = (record { opens = begins.opens; reply = ok; number = number }, tt);
  state = ap (replay f.params) begins.entries
      ∙ (replay_first f.params begins.first ∙ (ap (opened f.params) begins.call ∙ sym (replay_first f.params x)));
  kept = ap (last_tick 0) begins.entries ∙ begins.tick;
  count = ap (λ (l : List Entry). length l) begins.entries;
  last = refl;
  counts = counts_first counts x one;
  read = none ∙ ap (λ (r : Reply). given_bytes r ++ []) (sym ok);
}

-- ----- one entry more
-- What was read with it.
read_push : (h : List Entry) (x : Entry) → bytes_read (h ++ x ∷ []) ≡ bytes_read h ++ given_bytes x.reply
read_push h x =
    flat_map-append (λ (y : Entry). given_bytes y.reply) h (x ∷ [])
    ∙ ap (λ (bytes : List ℕ). bytes_read h ++ bytes) (append-nil (given_bytes x.reply))

-- The entry may follow, and the judge knows where that leads.
pub next_judged : (j : Judge) (before after : Flow) (counts : List CallerCount) (x : Entry) (h : List Entry)
    → before.params ≡ j.params → before.entries ≡ j.kept → Confirms before after x → j.last ≤ x.tick
    → x.number ≡ counted_for x.caller j.counts
    → ((other : Caller) → counted_for other counts ≡ counted_for other j.counts + cond (same_caller x.caller other) 1 0)
    → HasJudged j h
    → MayFollow j.params h x × HasJudged (record {
      params = j.params;
      kept = after.entries;
      last = x.tick;
      counts = counts;
      read = j.read ++ given_bytes x.reply;
    }) (h ++ x ∷ [])
next_judged j before after counts x h params kept sure low number more judged =
    let k : List Entry = j.kept in
    let entries : after.entries ≡ j.kept ++ tried_entry j.params j.kept x ∷ [] =
    subst (λ (p : HostParams). after.entries ≡ j.kept ++ tried_entry p j.kept x ∷ []) params
    (subst (λ (l : List Entry). after.entries ≡ l ++ tried_entry before.params l x ∷ []) kept sure.entries) in
    let legal_k : Legal j.params j.kept =
    subst (λ (p : HostParams). Legal p j.kept) params (subst (Legal before.params) kept sure.legal) in
    let legal_more : Legal j.params (j.kept ++ tried_entry j.params j.kept x ∷ []) =
    subst (Legal j.params) entries (subst (λ (p : HostParams). Legal p after.entries) params sure.more) in
    let reply : (tried_entry j.params j.kept x).reply ≡ x.reply =
    subst (λ (p : HostParams). (tried_entry p j.kept x).reply ≡ x.reply) params
    (subst (λ (l : List Entry). (tried_entry before.params l x).reply ≡ x.reply) kept sure.reply) in
    let is = follows j.params j.kept h x sure.within legal_k legal_more judged.legal judged.state
    (judged.kept ∙ judged.last) (subst (λ (t : ℕ). t ≤ x.tick) judged.last low)
    (number ∙ judged.counts x.caller) reply in (
      is.may,
      record {
        legal = legal_push j.params h x judged.legal is.may;
        state = ap (replay j.params) entries ∙ is.state;
        kept = ap (last_tick 0) entries ∙ (last_push 0 j.kept (tried_entry j.params j.kept x) ∙ is.tick);
        count = ap (λ (l : List Entry). length l) entries
            ∙ (length-append j.kept (tried_entry j.params j.kept x ∷ [])
            ∙ (ap (λ (n : ℕ). n + 1) judged.count ∙ sym (length-append h (x ∷ []))));
        last = sym (last_push 0 h x);
        counts = counts_push j.counts counts h x judged.counts more;
        read = ap (λ (bytes : List ℕ). bytes ++ given_bytes x.reply) judged.read ∙ sym (read_push h x);
      },
    )

-- the same of a judge that is seen so
abbrev pub judge_of : Flow → (last : ℕ) → List CallerCount → (read : List ℕ) → Judge
judge_of f last counts read = record {
  params = f.params;
  kept = f.entries;
  last = last;
  counts = counts;
  read = read;
}

pub taken_next : (j : Judge) (before after : Flow) (last : ℕ) (counts more_counts : List CallerCount)
    (read more_read : List ℕ) (x : Entry) (h : List Entry) → judge_of before last counts read ≡ j
    → Confirms before after x → after.params ≡ before.params → last ≤ x.tick → x.number ≡ counted_for x.caller counts
    → ((other : Caller) → counted_for other more_counts
    ≡ counted_for other counts + cond (same_caller x.caller other) 1 0)
    → more_read ≡ read ++ given_bytes x.reply → HasJudged j h
    → MayFollow j.params h x × HasJudged (judge_of after x.tick more_counts more_read) (h ++ x ∷ [])
taken_next j before after last counts more_counts read more_read x h view sure same low number more all judged =
    let next = next_judged (judge_of before last counts read) before after more_counts x h refl refl sure low number
    more (subst (λ (k : Judge). HasJudged k h) (sym view) judged) in (
      subst (λ (k : Judge). MayFollow k.params h x) view next.0,
      subst (λ (bs : List ℕ). HasJudged (judge_of after x.tick more_counts bs) (h ++ x ∷ [])) (sym all)
          (subst (λ (p : HostParams). HasJudged (record {
            params = p;
            kept = after.entries;
            last = x.tick;
            counts = more_counts;
            read = read ++ given_bytes x.reply;
          }) (h ++ x ∷ [])) (sym same) next.1),
    )
