use Rattle.report_arrays.proofs.Ascii.{more_ascii}
use Rattle.report_arrays.proofs.bytes.bits_of.Goals as goal

pub returns : goal.returns
returns c said =
    let halves = c.either.ensures said in
    let first = c.either-first.ensures halves.0 in
    let second = c.either-second.ensures halves.1 in
    let bytes = c.args.bytes.now in
    more_ascii 192 64 bytes (more_ascii 128 64 bytes (more_ascii 64 64 bytes first.0 first.1) second.0) second.1
