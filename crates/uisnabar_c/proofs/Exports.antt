-- What a caller learns of an export is what it learns of the function of `uisnabar` that it hands on to, so that every
-- theorem on that function's contract is one on the export's. Assumes nothing.
use contract.Lifetimes.{Lfts}
use borrow.Fn.Kinds.{Dens, res_t, ended_of}
use denote.Triple.Clauses.{AtExit}
use Rattle.uisnabar_c.proofs.uisnabar_judge.Kinds as judge
use Rattle.uisnabar_c.proofs.uisnabar_judge.Reads as judge-export
use Rattle.uisnabar.proofs.uisnabar_judge.Reads as judge-reads
use Rattle.uisnabar_c.proofs.uisnabar_label.Kinds as label
use Rattle.uisnabar_c.proofs.uisnabar_label.Reads as label-export
use Rattle.uisnabar.proofs.uisnabar_label.Reads as label-reads
use Rattle.uisnabar_c.proofs.uisnabar_translate.Kinds as translate
use Rattle.uisnabar_c.proofs.uisnabar_translate.Reads as translate-export
use Rattle.uisnabar.proofs.uisnabar_translate.Reads as translate-reads
use Rattle.uisnabar_c.proofs.uisnabar_count.Kinds as count
use Rattle.uisnabar_c.proofs.uisnabar_count.Reads as count-export
use Rattle.uisnabar.proofs.uisnabar_count.Reads as count-reads
use Rattle.uisnabar_c.proofs.uisnabar_report.Kinds as report
use Rattle.uisnabar_c.proofs.uisnabar_report.Reads as report-export
use Rattle.uisnabar.proofs.uisnabar_report.Reads as report-reads
use Rattle.uisnabar_c.proofs.uisnabar_list.Kinds as list
use Rattle.uisnabar_c.proofs.uisnabar_list.Reads as list-export
use Rattle.uisnabar.proofs.uisnabar_list.Reads as list-reads
use Rattle.uisnabar_c.proofs.uisnabar_read_listing.Kinds as read-listing
use Rattle.uisnabar_c.proofs.uisnabar_read_listing.Reads as read-listing-export
use Rattle.uisnabar.proofs.uisnabar_read_listing.Reads as read-listing-reads
use Rattle.uisnabar_c.proofs.uisnabar_ranges.Kinds as ranges
use Rattle.uisnabar_c.proofs.uisnabar_ranges.Reads as ranges-export
use Rattle.uisnabar.proofs.uisnabar_ranges.Reads as ranges-reads
use Rattle.uisnabar_c.proofs.uisnabar_jump.Kinds as jump
use Rattle.uisnabar_c.proofs.uisnabar_jump.Reads as jump-export
use Rattle.uisnabar.proofs.uisnabar_jump.Reads as jump-reads
use Rattle.uisnabar_c.proofs.uisnabar_host.Kinds as host
use Rattle.uisnabar_c.proofs.uisnabar_host.Reads as host-export
use Rattle.uisnabar.proofs.uisnabar_host.Reads as host-reads
use Rattle.uisnabar_c.proofs.uisnabar_judge_split.Kinds as judge-split
use Rattle.uisnabar_c.proofs.uisnabar_judge_split.Reads as judge-split-export
use Rattle.uisnabar.proofs.uisnabar_judge_split.Reads as judge-split-reads

-- uisnabar_judge(program, memory, pc, fp, exec, ext, answer)
pub judge_same : (κs : Lfts 5) (a : Dens κs judge.ps) (z : (res_t judge.r κs).Denot) (e : AtExit (ended_of 5 judge.ps judge.r) κs)
    → judge-export.Learnt κs a z e
    → judge-reads.Learnt κs a z e
judge_same κs a z e learnt = learnt

-- uisnabar_label(text, answer, recipe)
pub label_same : (κs : Lfts 3) (a : Dens κs label.ps) (z : (res_t label.r κs).Denot) (e : AtExit (ended_of 3 label.ps label.r) κs)
    → label-export.Learnt κs a z e
    → label-reads.Learnt κs a z e
label_same κs a z e learnt = learnt

-- uisnabar_translate(old, program, answer)
pub translate_same : (κs : Lfts 3) (a : Dens κs translate.ps) (z : (res_t translate.r κs).Denot) (e : AtExit (ended_of 3 translate.ps translate.r) κs)
    → translate-export.Learnt κs a z e
    → translate-reads.Learnt κs a z e
translate_same κs a z e learnt = learnt

-- uisnabar_count(program, memory, pc, fp, exec, ext, grid, answer)
pub count_same : (κs : Lfts 6) (a : Dens κs count.ps) (z : (res_t count.r κs).Denot) (e : AtExit (ended_of 6 count.ps count.r) κs)
    → count-export.Learnt κs a z e
    → count-reads.Learnt κs a z e
count_same κs a z e learnt = learnt

-- uisnabar_report(grid, text, written, answer)
pub report_same : (κs : Lfts 4) (a : Dens κs report.ps) (z : (res_t report.r κs).Denot) (e : AtExit (ended_of 4 report.ps report.r) κs)
    → report-export.Learnt κs a z e
    → report-reads.Learnt κs a z e
report_same κs a z e learnt = learnt

-- uisnabar_list(program, text, written, answer)
pub list_same : (κs : Lfts 4) (a : Dens κs list.ps) (z : (res_t list.r κs).Denot) (e : AtExit (ended_of 4 list.ps list.r) κs)
    → list-export.Learnt κs a z e
    → list-reads.Learnt κs a z e
list_same κs a z e learnt = learnt

-- uisnabar_read_listing(text, program, written, answer)
pub read_listing_same : (κs : Lfts 4) (a : Dens κs read-listing.ps) (z : (res_t read-listing.r κs).Denot) (e : AtExit (ended_of 4 read-listing.ps read-listing.r) κs)
    → read-listing-export.Learnt κs a z e
    → read-listing-reads.Learnt κs a z e
read_listing_same κs a z e learnt = learnt

-- uisnabar_ranges(program, memory, pc, fp, exec, ext, finds, found, answer)
pub ranges_same : (κs : Lfts 7) (a : Dens κs ranges.ps) (z : (res_t ranges.r κs).Denot) (e : AtExit (ended_of 7 ranges.ps ranges.r) κs)
    → ranges-export.Learnt κs a z e
    → ranges-reads.Learnt κs a z e
ranges_same κs a z e learnt = learnt

-- uisnabar_jump(state, draws, next, answer)
pub jump_same : (κs : Lfts 2) (a : Dens κs jump.ps) (z : (res_t jump.r κs).Denot) (e : AtExit (ended_of 2 jump.ps jump.r) κs)
    → jump-export.Learnt κs a z e
    → jump-reads.Learnt κs a z e
jump_same κs a z e learnt = learnt

-- uisnabar_host(seed, host, next, answer)
pub host_same : (κs : Lfts 2) (a : Dens κs host.ps) (z : (res_t host.r κs).Denot) (e : AtExit (ended_of 2 host.ps host.r) κs)
    → host-export.Learnt κs a z e
    → host-reads.Learnt κs a z e
host_same κs a z e learnt = learnt

-- uisnabar_judge_split(program, public, rest, pc, fp, exec, ext, answer)
pub judge_split_same : (κs : Lfts 5) (a : Dens κs judge-split.ps) (z : (res_t judge-split.r κs).Denot) (e : AtExit (ended_of 5 judge-split.ps judge-split.r) κs)
    → judge-split-export.Learnt κs a z e
    → judge-split-reads.Learnt κs a z e
judge_split_same κs a z e learnt = learnt
