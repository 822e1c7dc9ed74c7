-- Each field's promise, one behind the other.
use Rattle.std.proofs.lemmas.Result.{err_from_is_err_and}
use Rattle.label.proofs.ByFields.{stop_v, stop_version, stop_seed_text, stop_seed, stop_m_text, stop_tens, stop_units, stop_n_text, stop_n, all_fields}
use Rattle.label.proofs.reader.read_fields.Goals as goal

pub returns-in_err-at_version : goal.returns-in_err-at_version
returns-in_err-at_version c =
    let r = c.in_err-at_version.ensures.read in
    let p = err_from_is_err_and c.from_residual.result c.from_residual.ensures.1 in
    rw (p.1, p.2) (record { inside = r.inside; read = stop_v c.args.text.now r })

pub returns-in_err-version : goal.returns-in_err-version
returns-in_err-version c =
    let r = c.in_err-version.ensures.read in
    let p = err_from_is_err_and c.from_residual-in_err-version.result c.from_residual-in_err-version.ensures.1 in
    rw (p.1, p.2) (record { inside = r.inside; read = stop_version c.args.text.now c.in_ok-at_version.ensures.read r })

pub returns-in_err-at_seed : goal.returns-in_err-at_seed
returns-in_err-at_seed c =
    let r = c.in_err-at_seed.ensures.read in
    let p = err_from_is_err_and c.from_residual-in_err-at_seed.result c.from_residual-in_err-at_seed.ensures.1 in
    rw (p.1, p.2) (record { inside = r.inside; read = stop_seed_text c.args.text.now c.in_ok-at_version.ensures.read c.in_ok-version.ensures.read r })

pub returns-in_err-seed : goal.returns-in_err-seed
returns-in_err-seed c =
    let r = c.in_err-seed.ensures.read in
    let p = err_from_is_err_and c.from_residual-in_err-seed.result c.from_residual-in_err-seed.ensures.1 in
    rw (p.1, p.2) (record { inside = r.inside; read = stop_seed c.args.text.now c.in_ok-at_version.ensures.read c.in_ok-version.ensures.read c.in_ok-at_seed.ensures.read r })

pub returns-in_err-at_m : goal.returns-in_err-at_m
returns-in_err-at_m c =
    let r = c.in_err-at_m.ensures.read in
    let p = err_from_is_err_and c.from_residual-in_err-at_m.result c.from_residual-in_err-at_m.ensures.1 in
    rw (p.1, p.2) (record { inside = r.inside; read = stop_m_text c.args.text.now c.in_ok-at_version.ensures.read c.in_ok-version.ensures.read c.in_ok-at_seed.ensures.read c.in_ok-seed.ensures.read r })

pub returns-in_err-tens : goal.returns-in_err-tens
returns-in_err-tens c =
    let r = c.in_err-tens.ensures.read in
    let p = err_from_is_err_and c.from_residual-in_err-tens.result c.from_residual-in_err-tens.ensures.1 in
    rw (p.1, p.2) (record { inside = r.inside; read = stop_tens c.args.text.now c.in_ok-at_version.ensures.read c.in_ok-version.ensures.read c.in_ok-at_seed.ensures.read c.in_ok-seed.ensures.read c.in_ok-at_m.ensures.read r })

pub returns-in_err-units : goal.returns-in_err-units
returns-in_err-units c =
    let r = c.in_err-units.ensures.read in
    let p = err_from_is_err_and c.from_residual-in_err-units.result c.from_residual-in_err-units.ensures.1 in
    rw (p.1, p.2) (record { inside = r.inside; read = stop_units c.args.text.now c.in_ok-at_version.ensures.read c.in_ok-version.ensures.read c.in_ok-at_seed.ensures.read c.in_ok-seed.ensures.read c.in_ok-at_m.ensures.read c.in_ok-tens.ensures.read r })

pub returns-in_err-at_n : goal.returns-in_err-at_n
returns-in_err-at_n c =
    let r = c.in_err-at_n.ensures.read in
    let p = err_from_is_err_and c.from_residual-in_err-at_n.result c.from_residual-in_err-at_n.ensures.1 in
    rw (p.1, p.2) (record { inside = r.inside; read = stop_n_text c.args.text.now c.in_ok-at_version.ensures.read c.in_ok-version.ensures.read c.in_ok-at_seed.ensures.read c.in_ok-seed.ensures.read c.in_ok-at_m.ensures.read c.in_ok-tens.ensures.read c.in_ok-units.ensures.read r })

pub returns-in_err-n : goal.returns-in_err-n
returns-in_err-n c =
    let r = c.in_err-n.ensures.read in
    let p = err_from_is_err_and c.from_residual-in_err-n.result c.from_residual-in_err-n.ensures.1 in
    rw (p.1, p.2) (record { inside = r.inside; read = stop_n c.args.text.now c.in_ok-at_version.ensures.read c.in_ok-version.ensures.read c.in_ok-at_seed.ensures.read c.in_ok-seed.ensures.read c.in_ok-at_m.ensures.read c.in_ok-tens.ensures.read c.in_ok-units.ensures.read c.in_ok-at_n.ensures.read r })

pub returns : goal.returns
returns c = record { inside = c.in_ok-n.ensures.read.inside; read = all_fields c.args.text.now c.in_ok-at_version.ensures.read c.in_ok-version.ensures.read c.in_ok-at_seed.ensures.read c.in_ok-seed.ensures.read c.in_ok-at_m.ensures.read c.in_ok-tens.ensures.read c.in_ok-units.ensures.read c.in_ok-at_n.ensures.read c.in_ok-n.ensures.read }
