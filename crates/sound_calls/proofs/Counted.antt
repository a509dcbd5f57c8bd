-- How many flows are opened alone: for the law calls_keep_the_count.
use Rattle.std.proofs.Common.{◌≡◌, ℕ, ◌+◌, List, [], ◌∷◌, ◌++◌, length, arith, sym, ap, ◌∙◌}
use Rattle.std.specs.Prelude.{Result, Ok, Err}
use Rattle.std.proofs.lemmas.List.{length-append, length-map}
use Rattle.tas_num.specs.declared.seq.Seq.{Seq}
use Rattle.tas_model.specs.declared.entry.FlowId.{FlowId}
use Rattle.host_rounds.specs.Hosts as hosts
use Rattle.flow_lock.specs.Passes.{Seen}
use Rattle.app_reaper.specs.Reaping.{IsReapedAlone}
use Rattle.app_reaper.specs.declared.ended.Ended.{Ended}
use Rattle.slow_worker.specs.Workers.{Worker}
use Rattle.libtas_sockets.specs.Apps.{Application}
use Rattle.libtas_sockets.specs.Connecting.{Opener}
use Rattle.libtas_sockets.specs.declared.socket.Socket.{Socket}
use Rattle.libtas_sockets.specs.declared.socket_error.SocketError.{SocketError}
use Rattle.sound_hosts.specs.Counting.{IsCounted}
use Rattle.sound_hosts.specs.Hosts.{CoreHost}
use Rattle.sound_hosts.specs.Leaving.{books_left, reheld}
use Rattle.sound_hosts.specs.Moving.{with_slow}
use Rattle.sound_hosts.specs.Opening.{new_book}
use Rattle.sound_hosts.proofs.Lengths.{left_length}
use Rattle.sound_calls.specs.Connecting.{HasConnectedAlone, after_connecting}
use Rattle.sound_calls.specs.Handing.{accepted_by, after_accepting, after_kill, given_back, handed, handing, listening}
use Rattle.sound_calls.specs.Handing.{with_books}

pub handed_counted : (h : CoreHost) (front back : List Application) (a : Application) → IsCounted h
    → IsCounted (given_back front (handed h.slow a) back (with_slow (handing h.slow) h))
handed_counted h front back a counted = counted

pub called_counted : (h : CoreHost) (front back : List Application) (a b : Application)
    → IsCounted (given_back front a back h) → IsCounted (given_back front b back h)
called_counted h front back a b counted = counted

pub left_counted : (h : CoreHost) (app : ℕ) (ids : List FlowId) → IsCounted h
    → IsCounted (with_books (books_left app ids h.books) h)
left_counted h app ids counted = counted ∙ sym (left_length app ids h.books)

pub accepted_counted : (h : CoreHost) (app : ℕ) (id : FlowId) (result : Result Socket SocketError) → IsCounted h
    → IsCounted (after_accepting app id result h)
accepted_counted h app id (Ok s) counted = counted ∙ sym (length-map h.books (reheld (accepted_by app id)))
accepted_counted h app id (Err e) counted = counted

pub listens_counted : (h : CoreHost) (app port : ℕ) → IsCounted h → IsCounted (listening app port h)
listens_counted h app port counted = counted

pub killed_counted : (h : CoreHost) (front back : List Application) (a : Application) (ended : Ended) (tick : ℕ)
    (n : Seen) → IsCounted h → IsReapedAlone tick ended h.slow.pass n → IsCounted (after_kill front a back n h)
killed_counted h front back a ended tick n counted (w, reaped, is) =
    ap (λ (s : Seen). s.view.opened) is ∙ (counted ∙ sym (left_length a.number a.sockets h.books))

pub connected_counted : (h : CoreHost) (front back : List Application) (a b : Application) (w : Worker) (iss : Seq)
    (raddr rport tick : ℕ) (id : FlowId) → IsCounted h → HasConnectedAlone id raddr rport iss tick a b h.slow w
    → IsCounted (after_connecting id front b back w h)
connected_counted h front back a b w iss raddr rport tick id counted joined =
    let opened : w.pass.view.opened ≡ h.slow.pass.view.opened + 1 =
    ap (λ (o : Opener). o.pass.view.opened) joined.opened.kept in
    let all : length (h.books ++ new_book id (hosts.Application b.number) ∷ []) ≡ length h.books + 1 =
    length-append h.books (new_book id (hosts.Application b.number) ∷ []) in
    let is : h.slow.pass.view.opened ≡ length h.books = counted in
    omega (arith, opened, all, is)
