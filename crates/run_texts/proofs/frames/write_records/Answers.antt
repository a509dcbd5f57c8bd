use Rattle.std.proofs.Common.{rules, [], None, get_or, refl}
use Rattle.std.proofs.lemmas.Option.{slice_get-get_or}
use Rattle.run_texts.specs.declared.frames.Frame.{Frame}
use Rattle.run_texts.specs.Frames.{frame_before}
use Rattle.run_texts.proofs.Lists.{wrote_more, stopped_among}
use Rattle.run_texts.proofs.frames.write_records.Goals as goal

abbrev no_frame : Frame
no_frame = record {
  tick = 0;
  tuple = record { laddr = 0; lport = 0; raddr = 0; rport = 0 };
  seg = record {
    head = record { flags = 0; seq = record { 0 = 0 }; ack = record { 0 = 0 }; window = 0; mss = None; scale = None };
    bytes = record { ref_ptr = (0, 0); now = [] };
  };
}

pub returns-in_err-write_record : goal.returns-in_err-write_record
returns-in_err-write_record g c =
    let frames = c.args.frames.now in
    let i = c.loop-frame.frame-index in
    stopped_among (frame_before c.args.ticks) frames i (get_or frames i no_frame) _ _ _ _ _ _ refl
    (slice_get-get_or frames i no_frame (search rules)) (search rules) (search rules) c.loop-frame.invariant.writes
    c.write_record.ensures

pub loop-frame-preserved : goal.loop-frame-preserved
loop-frame-preserved g c =
    let frames = c.args.frames.now in
    let i = c.loop-frame.frame-index in
    record {
      writes = wrote_more (frame_before c.args.ticks) frames i (get_or frames i no_frame) _ _ _ _
          (slice_get-get_or frames i no_frame (search rules)) c.loop-frame.invariant.writes
          c.in_ok-write_record.ensures;
      room = search rules;
    }
