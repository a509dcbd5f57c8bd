-- A host that is finished: what its parts say of it. For the answers for `CoreHost::finish`.
use Rattle.std.proofs.Common.{◌≡◌, List, [], ◌++◌, map, sym, ap, ◌∙◌, subst}
use Rattle.atomic_table.specs.Seated.{TableId}
use Rattle.tas_model.specs.declared.entry.FlowId.{FlowId}
use Rattle.host_rounds.specs.Lists.{Each}
use Rattle.flow_state.specs.Flow.{Flow}
use Rattle.flow_lock.specs.Passes.{Seen}
use Rattle.flow_lock.specs.declared.view.Held.{Held}
use Rattle.libtas_sockets.specs.Apps.{Application}
use Rattle.sound_hosts.specs.Hosts.{id_of}
use Rattle.sound_hosts.proofs.Leaving.{apart_of}
use Rattle.sound_phases.specs.Phased.{apps_in}
use Rattle.core_host.specs.Ending.{IsQuiet, HasLeft, sockets_on, IsAtEase, MayFree, AreFreed, AreFound, AreApart}
use Rattle.core_host.specs.Ending.{AreFiled, IsFiledAs, record_id}
use Rattle.core_host.specs.Sound.{IsStaffSound}
use Rattle.core_host.specs.Views.{Staffed}
use Rattle.core_host.proofs.Found.{Entries, found_nothing}
use Rattle.core_host.proofs.Remaining.{at_ease, may_free, may_free_first, all_found}

-- ----- a host that is finished
module _ (h : Staffed) (sound : IsStaffSound h) where
  abbrev base : List Held
  base = h.host.slow.pass.view.base

  pub starts_quiet : IsQuiet h.shared.table h.host.slow.pass
  starts_quiet = record {
    table = sound.host.sound.0.ready.0 ∙ sound.table;
    alone = sound.host.alone;
    held = sound.host.sound.0.ready.2;
    wide = sound.host.wide.1 ∙ ap (λ (t : TableId). t.slots) sound.table;
  }

  pub starts_at_ease : Each (IsAtEase h.shared.table) (apps_in h.lanes)
  starts_at_ease = at_ease h.shared h.lanes sound.idle

  module _ (n : Seen) (left : HasLeft (sockets_on (apps_in h.lanes)) h.host.slow.pass n) where
    both_free : MayFree h.shared.table n (h.host.slow.pins ++ h.host.slow.doomed)
    both_free = subst (λ t. MayFree t n (h.host.slow.pins ++ h.host.slow.doomed)) sound.table
        (may_free h.host sound.host n
        (subst (λ (xs : List Application). HasLeft (sockets_on xs) h.host.slow.pass n) (sym sound.apps) left))

    pub first_free : MayFree h.shared.table n h.host.slow.pins
    first_free = may_free_first h.shared.table n h.host.slow.pins h.host.slow.doomed both_free

    module _ (m : Seen) (freed : AreFreed h.shared.table h.host.slow.pins n m) where
      pub second_free : MayFree h.shared.table m h.host.slow.doomed
      second_free = freed.others h.host.slow.doomed both_free

      pub books_found : (e1 e2 e3 : Entries)
          → ((known : List Held) (ids : List FlowId) → AreFound known [] ids
          → Each (IsFiledAs known) h.host.slow.filed → AreFound known e1 (ids ++ map record_id h.host.slow.filed))
          → ((ids : List FlowId) → AreFound n.view.base e1 ids → AreFound n.view.base e2 (ids ++ h.host.slow.pins))
          → ((ids : List FlowId) → AreFound m.view.base e2 ids → AreFound m.view.base e3 (ids ++ h.host.slow.doomed))
          → AreFiled h.host → AreFound base e3 (map id_of h.host.books)
      books_found e1 e2 e3 one two three filed =
          all_found h.host base e3 sound.host
          (subst (λ k. AreFound k e3 ((map record_id h.host.slow.filed ++ h.host.slow.pins) ++ h.host.slow.doomed)) last
          (three (map record_id h.host.slow.filed ++ h.host.slow.pins)
          (subst (λ k. AreFound k e2 (map record_id h.host.slow.filed ++ h.host.slow.pins)) (sym freed.base)
          (two (map record_id h.host.slow.filed)
          (subst (λ k. AreFound k e1 (map record_id h.host.slow.filed)) (sym left.view.base)
          (one base [] (found_nothing base) filed))))))
        where
          last : m.view.base ≡ base
          last = freed.base ∙ left.view.base

  pub books_apart : AreApart h.host.books
  books_apart = apart_of h.host.table.slots [] h.host.books sound.host.numbered

-- so it is of a host that is another name of one that is sound, and of the parts that were taken from it
module _ (h k : Staffed) (e : h ≡ k) (sound : IsStaffSound k) where
  own_sound : IsStaffSound h
  own_sound = subst IsStaffSound (sym e) sound

  pub ease_as : (t : TableId) → t ≡ h.shared.table → Each (IsAtEase t) (apps_in h.lanes)
  ease_as t et = subst (λ (x : TableId). Each (IsAtEase x) (apps_in h.lanes)) (sym et) (starts_at_ease h own_sound)

  module _ (s n : Seen) (es : s ≡ h.host.slow.pass) (left : HasLeft (sockets_on (apps_in h.lanes)) s n) where
    own_left : HasLeft (sockets_on (apps_in h.lanes)) h.host.slow.pass n
    own_left = subst (λ (x : Seen). HasLeft (sockets_on (apps_in h.lanes)) x n) es left

    pub first_as : (t : TableId) (pins : List FlowId) → t ≡ h.shared.table → pins ≡ h.host.slow.pins → MayFree t n pins
    first_as t pins et ep =
        subst (λ (x : TableId). MayFree x n pins) (sym et)
        (subst (λ (ps : List FlowId). MayFree h.shared.table n ps) (sym ep) (first_free h own_sound n own_left))

    module _ (t : TableId) (pins doomed : List FlowId) (m : Seen) (et : t ≡ h.shared.table)
        (ep : pins ≡ h.host.slow.pins) (ed : doomed ≡ h.host.slow.doomed) (freed : AreFreed t pins n m) where
      own_freed : AreFreed h.shared.table h.host.slow.pins n m
      own_freed = subst (λ (x : TableId). AreFreed x h.host.slow.pins n m) et
          (subst (λ (ps : List FlowId). AreFreed t ps n m) ep freed)

      pub second_as : (u : TableId) → u ≡ h.shared.table → MayFree u m doomed
      second_as u eu =
          subst (λ (x : TableId). MayFree x m doomed) (sym eu)
          (subst (λ (ps : List FlowId). MayFree h.shared.table m ps) (sym ed)
          (second_free h own_sound n own_left m own_freed))

      pub books_as : (e0 e1 e2 e3 : Entries) (filed : List Flow) → e0 ≡ [] → filed ≡ h.host.slow.filed
          → ((known : List Held) (ids : List FlowId) → AreFound known e0 ids
          → Each (IsFiledAs known) filed → AreFound known e1 (ids ++ map record_id filed))
          → ((ids : List FlowId) → AreFound n.view.base e1 ids → AreFound n.view.base e2 (ids ++ pins))
          → ((ids : List FlowId) → AreFound m.view.base e2 ids → AreFound m.view.base e3 (ids ++ doomed))
          → AreFiled k.host → AreFound h.host.slow.pass.view.base e3 (map id_of h.host.books)
      books_as e0 e1 e2 e3 filed none ef one two three are =
          books_found h own_sound n own_left m own_freed e1 e2 e3
          (λ known ids found each.
          subst (λ (rs : List Flow). AreFound known e1 (ids ++ map record_id rs)) ef
          (one known ids (subst (λ (x : Entries). AreFound known x ids) (sym none) found)
          (subst (λ (rs : List Flow). Each (IsFiledAs known) rs) (sym ef) each)))
          (λ ids found. subst (λ (ps : List FlowId). AreFound n.view.base e2 (ids ++ ps)) ep (two ids found))
          (λ ids found. subst (λ (ps : List FlowId). AreFound m.view.base e3 (ids ++ ps)) ed (three ids found))
          (subst (λ (x : Staffed). AreFiled x.host) (sym e) are)

  pub apart_as : AreApart h.host.books
  apart_as = books_apart h own_sound
