-- Entries that send nothing add no frames: for the law silent_flows_add_no_frames.
use Rattle.std.proofs.Common.{◌≡◌, ℕ, ◌+◌, List, [], ◌∷◌, ◌++◌, length, refl, ap, ◌∙◌}
use Rattle.tas_model.specs.declared.entry.Entry.{Entry}
use Rattle.tas_model.specs.declared.entry.FourTuple.{FourTuple}
use Rattle.tas_model.specs.declared.entry.Seg.{Seg}
use Rattle.tas_model.specs.Outputs.{segments_in}
use Rattle.host_rounds.specs.Lists.{Each}
use Rattle.link_script.specs.declared.frames.Sent.{Sent}
use Rattle.scenario_runs.specs.Worlds.{frames_of_segments, frames_of_entries}
use Rattle.closed_flows.specs.Silence.{SendsNone, GrewSilently}

module _ (host flow to : ℕ) (tuple : FourTuple) where
  none_added : (n : ℕ) (xs : List Entry) → Each SendsNone xs → frames_of_entries host flow n to tuple xs ≡ []
  none_added n [] each = refl
  none_added n (x ∷ xs) each =
      ap (λ (segs : List Seg). frames_of_segments host flow n x.tick to tuple segs
      ++ frames_of_entries host flow (n + length segs) to tuple xs) each.0
      ∙ none_added (n + 0) xs each.1

  same_frames : (n : ℕ) (h more : List Entry) → Each SendsNone more
      → frames_of_entries host flow n to tuple (h ++ more) ≡ frames_of_entries host flow n to tuple h
  same_frames n [] more each = none_added n more each
  same_frames n (x ∷ h) more each =
      ap (λ (fs : List Sent). frames_of_segments host flow n x.tick to tuple (segments_in x.reply) ++ fs)
      (same_frames (n + length (segments_in x.reply)) h more each)

  pub silent_frames : (n : ℕ) (h g : List Entry) → GrewSilently h g
      → frames_of_entries host flow n to tuple g ≡ frames_of_entries host flow n to tuple h
  silent_frames n h g a =
      ap (frames_of_entries host flow n to tuple) a.grew ∙ same_frames n h a.more a.silent
