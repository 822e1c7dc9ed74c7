-- The promises of specs/Promises are those of the sources: what a caller learns from each entry's proved contract, over
-- its arguments in order and, after `e`, its lent buffers at return. So the page cannot drift from the code.
-- Assumes nothing.
use mathlib.Core.Path.{◌≡◌}
use lib.ListN.{length}
use contract.Lifetimes.{Lfts}
use borrow.Fn.Kinds.{Dens, res_t, ended_of}
use denote.Triple.Clauses.{AtExit}
use Rattle.reply.specs.Reply.{answer_bytes}
use Rattle.label.specs.Reading.{reading_of, Reads}
use Rattle.label.specs.Writing.{written_by}
use Rattle.rules.specs.Sizes.{Parts}
use Rattle.judge.proofs.judge.Kinds as judge
use Rattle.judge.proofs.judge.Reads as judge-reads
use Rattle.tabler.proofs.table.Kinds as table
use Rattle.tabler.proofs.table.Reads as table-reads
use Rattle.maker.proofs.make.Kinds as make
use Rattle.maker.proofs.make.Reads as make-reads
use Rattle.label.proofs.read_label.Kinds as reader
use Rattle.label.proofs.read_label.Reads as reader-reads
use Rattle.label.proofs.write_label.Kinds as writer
use Rattle.label.proofs.write_label.Reads as writer-reads
use Rattle.uisnabar.proofs.uisnabar_judge.Kinds as judge-call
use Rattle.uisnabar.proofs.uisnabar_judge.Reads as judge-call-reads
use Rattle.uisnabar.proofs.uisnabar_label.Kinds as label-call
use Rattle.uisnabar.proofs.uisnabar_label.Reads as label-call-reads
use Rattle.mission.specs.Driver.{DriverReads}
use Rattle.mission.proofs.Driver.{driver_reads}
use Rattle.mission.specs.Promises.{JudgePromise, TablerPromise, MakerPromise, WriterPromise, JudgeCall, ReaderCall}

-- judge::judge(program, memory, pc, fp, exec, ext)
pub judge_promises : (κs : Lfts 4) (a : Dens κs judge.ps) (z : (res_t judge.r κs).Denot) (e : AtExit (ended_of 4 judge.ps judge.r) κs)
    → judge-reads.Learnt κs a z e
    → JudgePromise
    (record {
      program = a.0.now;
      memory = a.1.0.now;
      pc = a.1.1.0;
      fp = a.1.1.1.0;
      exec = a.1.1.1.1.0.now;
      ext = a.1.1.1.1.1.0.now;
    })
    z
judge_promises κs a z e learnt = learnt

-- tabler::table(program, memory, pc, fp, exec, ext)
pub tabler_promises : (κs : Lfts 4) (a : Dens κs table.ps) (z : (res_t table.r κs).Denot) (e : AtExit (ended_of 4 table.ps table.r) κs)
    → table-reads.Learnt κs a z e
    → TablerPromise (record { program = a.0.now; memory = a.1.0.now; pc = a.1.1.0; fp = a.1.1.1.0 })
    a.1.1.1.1.0.now a.1.1.1.1.1.0.now (z, e.1.1.1.1.0.now, e.1.1.1.1.1.0.now)
tabler_promises κs a z e learnt = (learnt.0, learnt.1.0, learnt.1.1)

-- maker::make(recipe, program, memory)
pub maker_promises : (κs : Lfts 2) (a : Dens κs make.ps) (z : (res_t make.r κs).Denot) (e : AtExit (ended_of 2 make.ps make.r) κs)
    → make-reads.Learnt κs a z e
    → MakerPromise a.0 a.1.0.now a.1.1.0.now (z, e.1.0.now, e.1.1.0.now)
maker_promises κs a z e learnt = learnt

-- label::read_label(text)
pub reader_promises : (κs : Lfts 1) (a : Dens κs reader.ps) (z : (res_t reader.r κs).Denot) (e : AtExit (ended_of 1 reader.ps reader.r) κs)
    → reader-reads.Learnt κs a z e
    → Reads a.0.now (reading_of z)
reader_promises κs a z e learnt = learnt

-- label::write_label(recipe, buffer)
pub writer_promises : (κs : Lfts 1) (a : Dens κs writer.ps) (z : (res_t writer.r κs).Denot) (e : AtExit (ended_of 1 writer.ps writer.r) κs)
    → writer-reads.Learnt κs a z e
    → WriterPromise a.0 a.1.0.now (written_by z, e.1.0.now)
writer_promises κs a z e learnt = ((λ i. record { answer = learnt.0 i; length = learnt.1.0 i }), learnt.1.1)

-- uisnabar_judge(program, memory, pc, fp, exec, ext, answer)
abbrev call_parts : (κs : Lfts 5) → Dens κs judge-call.ps → Parts
call_parts κs a =
    record {
      program = a.0.now;
      memory = a.1.0.now;
      pc = a.1.1.0;
      fp = a.1.1.1.0;
      exec = a.1.1.1.1.0.now;
      ext = a.1.1.1.1.1.0.now;
    }

pub judge_call_promises : (κs : Lfts 5) (a : Dens κs judge-call.ps) (z : (res_t judge-call.r κs).Denot)
    (e : AtExit (ended_of 5 judge-call.ps judge-call.r) κs)
    → judge-call-reads.Learnt κs a z e
    → JudgeCall (call_parts κs a) a.1.1.1.1.1.1.0.now (z, e.1.1.1.1.1.1.0.now)
judge_call_promises κs a z e learnt = learnt

-- uisnabar_label(text, answer, recipe)
pub reader_call_promises : (κs : Lfts 3) (a : Dens κs label-call.ps) (z : (res_t label-call.r κs).Denot)
    (e : AtExit (ended_of 3 label-call.ps label-call.r) κs)
    → label-call-reads.Learnt κs a z e
    → ReaderCall a.0.now a.1.0.now a.1.1.0.now (z, e.1.0.now, e.1.1.0.now)
reader_call_promises κs a z e learnt = learnt

-- so what a driver reads follows from the function's own contract, which is its export's (uisnabar_c, proofs/Exports)
pub exported_judge_tells : (κs : Lfts 5) (a : Dens κs judge-call.ps) (z : (res_t judge-call.r κs).Denot)
    (e : AtExit (ended_of 5 judge-call.ps judge-call.r) κs)
    → judge-call-reads.Learnt κs a z e
    → length a.1.1.1.1.1.1.0.now ≡ answer_bytes
    → DriverReads (call_parts κs a) z e.1.1.1.1.1.1.0.now
exported_judge_tells κs a z e learnt sized = driver_reads _ _ (z, e.1.1.1.1.1.1.0.now) sized (judge_call_promises κs a z e learnt)
