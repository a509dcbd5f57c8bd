-- Frames of entries and of lines are numbered on.
use Rattle.std.proofs.Common.{◌≡◌, ℕ, ◌+◌, ◌≤◌, Bool, true, false, cond, List, [], ◌∷◌, ◌++◌, length}
use Rattle.std.proofs.Common.{filter}
use Rattle.std.proofs.Common.{Option, Some, None, refl, sym, ap, ◌∙◌, append_assoc, length-append, arith}
use Rattle.std.proofs.Common.{is_some}
use Rattle.std.proofs.lemmas.List.Concat.{flat_map-append}
use Rattle.std.proofs.lemmas.List.Elements.{filter-append}
use Rattle.tas_model.specs.declared.entry.FourTuple.{FourTuple}
use Rattle.tas_model.specs.declared.entry.Head.{Head}
use Rattle.tas_model.specs.declared.entry.Entry.{Entry}
use Rattle.tas_model.specs.declared.entry.Reply.{Reply}
use Rattle.tas_model.specs.declared.entry.Reply.TheVariants as replies
use Rattle.tas_model.specs.Outputs.{segments_in, sent}
use Rattle.host_rounds.specs.declared.log.LogLine.{LogLine}
use Rattle.link_script.specs.declared.frames.Sent.{Sent}
use Rattle.scenario_runs.specs.Worlds.{World, answer_on, frames_of_answer, frames_of_log}
use Rattle.sent_frames.specs.declared.frames.Origin.{Origin}
use Rattle.sent_frames.specs.Sending.{segment_frames, entry_frames, sent_by, is_answered, answers_in}

-- ----- entries
pub sent_by-append : (xs ys : List Entry) → sent_by (xs ++ ys) ≡ sent_by xs + sent_by ys
sent_by-append xs ys =
    ap length (flat_map-append (λ (x : Entry). segments_in x.reply) xs ys) ∙ length-append (sent xs) (sent ys)

sent_by_first : (x : Entry) (xs : List Entry) → sent_by (x ∷ xs) ≡ length (segments_in x.reply) + sent_by xs
sent_by_first x xs = length-append (segments_in x.reply) (sent xs)

pub entry_frames-append : (o : Origin) (n : ℕ) (xs ys : List Entry)
    → entry_frames o n (xs ++ ys) ≡ entry_frames o n xs ++ entry_frames o (n + sent_by xs) ys
entry_frames-append o n [] ys = let e : n ≡ n + 0 = omega arith in ap (λ k. entry_frames o k ys) e
entry_frames-append o n (x ∷ xs) ys =
    let k : ℕ = length (segments_in x.reply) in
    let front : List Sent = segment_frames o n x.tick (segments_in x.reply) in
    let e : n + k + sent_by xs ≡ n + sent_by (x ∷ xs) = omega (arith, sent_by_first x xs) in
    ap (λ fs. front ++ fs)
    (entry_frames-append o (n + k) xs ys ∙ ap (λ m. entry_frames o (n + k) xs ++ entry_frames o m ys) e)
    ∙ sym (append_assoc front (entry_frames o (n + k) xs) (entry_frames o (n + sent_by (x ∷ xs)) ys))

-- an entry has one segment at most
one_at_most : (r : Reply) → length (segments_in r) ≤ 1
one_at_most replies.Ok = omega arith
one_at_most replies.Nothing = omega arith
one_at_most (replies.Sent seg) = omega arith
one_at_most (replies.Took bytes) = omega arith
one_at_most (replies.Got bytes None) = omega arith
one_at_most (replies.Got bytes (Some head)) = omega arith
one_at_most replies.End = omega arith
one_at_most replies.NotYet = omega arith
one_at_most replies.NotOpen = omega arith
one_at_most replies.Shut = omega arith
one_at_most (replies.Closed reason) = omega arith
one_at_most replies.Quiet = omega arith
one_at_most replies.Resend = omega arith
one_at_most replies.Probe = omega arith
one_at_most replies.Expired = omega arith
one_at_most replies.TimedOut = omega arith
one_at_most (replies.Window cwnd ssthresh) = omega arith

pub sent_by-le : (xs : List Entry) → sent_by xs ≤ length xs
sent_by-le [] = omega arith
sent_by-le (x ∷ xs) = omega (arith, sent_by_first x xs, one_at_most x.reply, sent_by-le xs)

-- ----- lines
pub answers_in-append : (xs ys : List LogLine) → answers_in (xs ++ ys) ≡ answers_in xs + answers_in ys
answers_in-append xs ys =
    ap length (filter-append is_answered xs ys) ∙ length-append (filter is_answered xs) (filter is_answered ys)

-- a line has one answer at most
answers_of : (world : World) (host n t : ℕ) (a : Option (FourTuple × Head))
    → length (frames_of_answer world host n t a) ≡ cond (is_some a) 1 0
answers_of world host n t None = refl
answers_of world host n t (Some a) = refl

answers_first : (l : LogLine) (ls : List LogLine) → answers_in (l ∷ ls) ≡ cond (is_answered l) 1 0 + answers_in ls
answers_first l ls = by_test (is_answered l)
  where
    by_test : (b : Bool) → length (cond b (l ∷ filter is_answered ls) (filter is_answered ls))
        ≡ cond b 1 0 + answers_in ls
    by_test true = omega arith
    by_test false = omega arith

pub frames_of_log-append : (world : World) (host n : ℕ) (xs ys : List LogLine)
    → frames_of_log world host n (xs ++ ys) ≡ frames_of_log world host n xs
    ++ frames_of_log world host (n + answers_in xs) ys
frames_of_log-append world host n [] ys =
    let e : n ≡ n + 0 = omega arith in ap (λ k. frames_of_log world host k ys) e
frames_of_log-append world host n (l ∷ ls) ys =
    let front : List Sent = frames_of_answer world host n l.tick (answer_on l.event) in
    let k : ℕ = length front in
    let e : n + k + answers_in ls ≡ n + answers_in (l ∷ ls)
    = omega (arith, answers_first l ls, answers_of world host n l.tick (answer_on l.event)) in
    ap (λ fs. front ++ fs)
    (frames_of_log-append world host (n + k) ls ys
    ∙ ap (λ m. frames_of_log world host (n + k) ls ++ frames_of_log world host m ys) e)
    ∙ sym (append_assoc front (frames_of_log world host (n + k) ls)
    (frames_of_log world host (n + answers_in (l ∷ ls)) ys))

pub answers_in-le : (xs : List LogLine) → answers_in xs ≤ length xs
answers_in-le [] = omega arith
answers_in-le (l ∷ ls) = omega (arith, answers_first l ls, least (is_answered l), answers_in-le ls)
  where
    least : (b : Bool) → cond b 1 0 ≤ 1
    least true = omega arith
    least false = omega arith
