use Rattle.std.proofs.Common.{◌≤◌, arith, refl}
use Rattle.utf16_places.proofs.MarkLemmas.{next_read, marked_read}
use Rattle.utf16_places.proofs.build.mark_line.Goals as goal

pub overflow_add-unit-in-Some : goal.overflow_add-unit-in-Some
overflow_add-unit-in-Some c =
    let kept = c.loop-skipped.invariant in
    let next =
    next_read c.args.text.now c.as_bytes-bytes.result.now c.args.start c.loop-skipped.at c.args.end c.loop-skipped.unit c.in-Some.skipped _ c.units_begun.result c.loop-skipped.wide.items
    c.as_bytes-bytes.ensures.value
    (record {
      utf8 = c.utf8.text;
      begin = c.requires.start;
      limit = c.requires.end;
      line = c.requires.line;
      from = kept.from;
      up_to = kept.up_to;
      boundary = kept.boundary;
      units = kept.units;
      marked = kept.marked;
    })
    c.in-Some.ensures refl c.units_begun.ensures in
    omega (arith, next.few, next.boundary.0, c.requires.fits)

pub overflow_cast-behind : goal.overflow_cast-behind
overflow_cast-behind c =
    let kept = c.loop-skipped.invariant in
    let next =
    next_read c.args.text.now c.as_bytes-bytes.result.now c.args.start c.loop-skipped.at c.args.end c.loop-skipped.unit c.in-Some.skipped c.bytes_begun.result c.units_begun.result c.loop-skipped.wide.items
    c.as_bytes-bytes.ensures.value
    (record {
      utf8 = c.utf8.text;
      begin = c.requires.start;
      limit = c.requires.end;
      line = c.requires.line;
      from = kept.from;
      up_to = kept.up_to;
      boundary = kept.boundary;
      units = kept.units;
      marked = kept.marked;
    })
    c.in-Some.ensures c.bytes_begun.ensures c.units_begun.ensures in
    omega (arith, next.boundary.0, c.requires.fits)

pub loop-skipped-preserved : goal.loop-skipped-preserved
loop-skipped-preserved c =
    let kept = c.loop-skipped.invariant in
    let next =
    next_read c.args.text.now c.as_bytes-bytes.result.now c.args.start c.loop-skipped.at c.args.end c.loop-skipped.unit c.in-Some.skipped c.bytes_begun.result c.units_begun.result c.loop-skipped.wide.items
    c.as_bytes-bytes.ensures.value
    (record {
      utf8 = c.utf8.text;
      begin = c.requires.start;
      limit = c.requires.end;
      line = c.requires.line;
      from = kept.from;
      up_to = kept.up_to;
      boundary = kept.boundary;
      units = kept.units;
      marked = kept.marked;
    })
    c.in-Some.ensures c.bytes_begun.ensures c.units_begun.ensures in
    record {
      from = omega (arith, kept.from);
      up_to = next.up_to;
      boundary = next.boundary;
      units = next.units;
      marked = rw c.in_ok-push.ensures.items (rw (c.new.ensures, c.new-in-Some.ensures) next.marked);
    }

pub returns : goal.returns
returns c =
    let kept = c.loop-skipped.invariant in
    marked_read c.args.text.now c.as_bytes-bytes.result.now c.args.start c.loop-skipped.at c.args.end c.loop-skipped.unit c.loop-skipped.wide.items c.as_bytes-bytes.ensures.value
    (record {
      utf8 = c.utf8.text;
      begin = c.requires.start;
      limit = c.requires.end;
      line = c.requires.line;
      from = kept.from;
      up_to = kept.up_to;
      boundary = kept.boundary;
      units = kept.units;
      marked = kept.marked;
    })
    c.in_default.ensures

pub returns-then-is_ascii : goal.returns-then-is_ascii
returns-then-is_ascii c =
    let same : c.args.start ≤ c.args.start = omega arith in
    marked_read c.args.text.now c.as_bytes-bytes.result.now c.args.start c.args.start c.args.end 0 c.args.wide.now.items c.as_bytes-bytes.ensures.value
    (record {
      utf8 = c.utf8.text;
      begin = c.requires.start;
      limit = c.requires.end;
      line = c.requires.line;
      from = same;
      up_to = c.requires.ordered;
      boundary = c.requires.start;
      units = omega arith;
      marked = c.requires.marked;
    })
    (λ k h. c.if-is_ascii.ensures.cases k)
