-- What the tabler gives is replied.
use Rattle.test_probe.proofs.probe_table.Goals as goal

pub returns : goal.returns
returns c =
    let tabled = c.table-a.ensures in
    let told = c.reply.ensures in record {
      value = rw tabled.value at told.0;
      answer_after = rw tabled.value at told.1;
      exec_after = tabled.exec_after;
      ext_after = tabled.ext_after;
    }
