-- Each call gives the definition's part.
use Rattle.judge_exec.proofs.execution.exec_computed.Goals as goal

pub returns : goal.returns
returns c =
    let selected = c.selected-a in
    let selected2 = c.selected-b in
    let selected3 = c.selected-c in
    let mul = c.mul in
    let jumps = c.jumps-last in
    let operations = c.operations in
    let addresses = c.addresses in
    rw (
      c.lookups.ensures,
      addresses.ensures,
      operations.ensures,
      jumps.ensures,
      mul.ensures,
      selected3.ensures,
      selected2.ensures,
      selected.ensures,
    )
