-- In each part of the order.
use Rattle.std.proofs.Common.{◌-◌, ◌∙◌, ap, arith}
use Rattle.std.specs.String.{string_bytes}
use Rattle.build_dirs.proofs.DirLemmas.{order_end, order_ever, order_open, order_start, text_at}
use Rattle.build_dirs.proofs.dirs.BuildDirs.dir.Goals as goal

pub returns-then-k-open : goal.returns-then-k-open
returns-then-k-open c =
    let dirs = c.args.self.now in
    let size = c.len-open.ensures ∙ dirs.open.ok.0 in
    order_open dirs c.args.k (c.len-open.result - 1 - c.args.k) c.index.result.now c.as_str.result.now (omega (arith, size)) (ap (λ n. n - 1 - c.args.k) size) c.index.ensures c.as_str.ensures.value

pub returns-then-k-open-2 : goal.returns-then-k-open-2
returns-then-k-open-2 c = order_start c.args.self.now c.args.k (omega (arith, c.len-open.ensures ∙ c.args.self.now.open.ok.0))

pub returns-then-k-open-3 : goal.returns-then-k-open-3
returns-then-k-open-3 c =
    let dirs = c.args.self.now in
    let size = c.len-open.ensures ∙ dirs.open.ok.0 in
    let all = c.len-ever.ensures ∙ dirs.ever.ok.0 in
    let m = c.len-ever.result - (c.args.k - c.len-open.result) in
    order_ever dirs c.args.k m c.as_str-then-k-open-3.result.now (omega (arith, size)) (omega (arith, size, all)) (omega (arith, size, all))
    (text_at string_bytes dirs.ever.items m c.index-then-k-open-3.result.now c.as_str-then-k-open-3.result.now (omega (arith, size, all)) c.index-then-k-open-3.ensures c.as_str-then-k-open-3.ensures.value)

pub returns : goal.returns
returns c =
    let size = c.len-open.ensures ∙ c.args.self.now.open.ok.0 in
    let all = c.len-ever.ensures ∙ c.args.self.now.ever.ok.0 in
    order_end c.args.self.now c.args.k (omega (arith, size)) (omega (arith, size, all))
