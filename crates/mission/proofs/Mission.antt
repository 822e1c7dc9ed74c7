-- The mission's three demands, filled: each field is a theorem of a crate below, or of this folder.
-- Assumes nothing.
use mathlib.Core.Path.{sym}
use Rattle.answer.specs.Determined.{equations}
use Rattle.label.proofs.Label.{reading_some, reading_determined, result_determined, writing_determined, written_determined, label_reads, reads_label, refused_place}
use Rattle.label.proofs.Writing.{enough}
use Rattle.maker.proofs.Determined.{make_determined}
use Rattle.tabler.proofs.Determined.{table_determined}
use Rattle.uisnabar.proofs.Determined.{call_determined}
use Rattle.program_build.proofs.Output.{output_determined}
use Rattle.judge_spec.proofs.Exactly.{says_exactly, accepted_satisfies, satisfies_accepted, answer_determined}
use Rattle.judge_spec.proofs.AsBefore.{as_before}
use Rattle.judge_spec.proofs.Showing.{exec_shown, ext_shown, exec_lookups_lem, ext_lookups_lem, exec_told, ext_told}
use Rattle.run.proofs.Sound.{sound}
use Rattle.run.proofs.Agree.{one_run, agree}
use Rattle.run.proofs.Converse.{converse}
use Rattle.run.proofs.Together.{written_agrees}
use Rattle.run.proofs.Telling.{tells_exactly, tells_one}
use Rattle.run.proofs.Reasons.{stuck_exactly, legal_exactly}
use Rattle.run.proofs.Tabler.{run_accepted, run_left, own_bytes, refusal_keeps, refusal_zeroes}
use Rattle.mission.specs.One.{DemandOne}
use Rattle.mission.specs.Two.{DemandTwo}
use Rattle.mission.specs.Three.{DemandThree}
use Rattle.answer.proofs.Named.{one_number, no_twelve}
use Rattle.mission.proofs.Effects.{maker_keeps, writer_keeps, reader_zeroes, judge_call_answer, reader_call_answer, reader_call_keeps}
use Rattle.mission.proofs.Driver.{driver_reads}
use Rattle.mission.proofs.LabelDriver.{driver_reads_label}

pub demand_one : DemandOne
demand_one =
    record {
      judge_one = answer_determined;
      tabler_one = λ i. table_determined i.program i.memory i.pc i.fp;
      maker_one = make_determined;
      reader_one = reading_determined;
      writer_one = writing_determined;
      read_label_one = result_determined;
      write_label_one = written_determined;
      judge_call_one = λ q buffer. equations _ _;
      reader_call_one =
          λ text answer recipe r s a b.
          let e = call_determined a b in
          λ i. (e.0 i, e.1 i, e.2 i);
      program_one = output_determined;
      reader_some = reading_some;
      one_number = one_number;
      no_twelve = no_twelve;
      tabler_keeps = refusal_keeps;
      tabler_zeroes = refusal_zeroes;
      maker_keeps = maker_keeps;
      writer_keeps = writer_keeps;
      reader_zeroes = reader_zeroes;
      judge_call_answer = judge_call_answer;
      reader_call_answer = reader_call_answer;
      reader_call_keeps = reader_call_keeps;
    }

pub demand_two : DemandTwo
demand_two =
    record {
      accepted_exactly = λ q. (accepted_satisfies q, satisfies_accepted q);
      answers_exactly = says_exactly;
      four_as_before = as_before;
      exec_shown = exec_shown;
      extension_shown = ext_shown;
      execution_lookups = exec_lookups_lem;
      extension_lookups = ext_lookups_lem;
      exec_told = exec_told;
      extension_told = ext_told;
      driver_reads = driver_reads;
      driver_reads_label = driver_reads_label;
      label_written =
          λ r buffer inside room.
          let e = enough r buffer inside.ranges room in
          (sym e.0, sym e.1);
      label_reads_back = label_reads;
      no_other_text = reads_label;
      label_place = refused_place;
    }

pub demand_three : DemandThree
demand_three =
    record {
      accepted_is_run = sound;
      accepted_is_one_run = one_run;
      two_agree = λ i exec ext other otherExt a b. agree i exec ext a other otherExt b;
      each_run_written = converse;
      accepted_written = written_agrees;
      tabler_writes =
          λ i permitted height ext_height state legal spare exec ext rows ext_rows. (
            run_accepted i permitted height ext_height state legal spare exec ext rows ext_rows,
            run_left i permitted height ext_height state legal spare exec ext rows ext_rows,
          );
      tabler_accepted = own_bytes;
      tabler_answers_exactly = tells_exactly;
      tabler_answers_once = tells_one;
      stuck_first = stuck_exactly;
      legal_step = legal_exactly;
    }
