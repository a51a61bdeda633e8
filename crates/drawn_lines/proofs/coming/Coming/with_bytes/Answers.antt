-- The bytes came, and then nothing is written, or what is known of them.
use Rattle.std.proofs.Common.{◌++◌}
use Rattle.drawn_lines.proofs.ComingLemmas.{bytes_came, come_of}
use Rattle.drawn_lines.proofs.coming.Coming.with_bytes.Goals as goal

pub returns-then-len-wait : goal.returns-then-len-wait
returns-then-len-wait g c = λ taken text aside coming.
    let held = c.in_ok-held.ensures in
    c.unchanged.ensures (g.S.Store.told c.args.store.now) c.args.asked.now (taken ++ c.args.bytes.now) text aside
    (bytes_came (g.S.Store.told c.args.store.now) c.args.asked.now taken c.args.bytes.now text aside c.args.self.held c.in_ok-held.held c.args.self.tally held.came held.read coming)

pub returns : goal.returns
returns g c =
    let held = c.in_ok-held.ensures in
    come_of c.cut.result (g.S.Store.told c.args.store.now) c.args.asked.now c.args.bytes.now c.args.self.held c.in_ok-held.held c.args.self.tally held.came held.read c.cut.ensures
